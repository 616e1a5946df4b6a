-- What reading text hands back, and what a call that writes a text comes to.
pub mod Lays
pub mod Read
pub mod Unwritten
