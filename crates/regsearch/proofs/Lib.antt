mod Numbers
mod OnWords
