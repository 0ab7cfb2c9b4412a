pub mod ReglevelLemmas
