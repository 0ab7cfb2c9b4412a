mod Named
mod Numbers
mod OnWords
