-- What listing a lent tree answers, what the program `list` prints, and how the calls of this crate go.
pub mod Lists
pub mod Print
pub mod Steps
