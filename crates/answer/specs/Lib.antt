-- What the serving calls promise, over the definitions of `protocol` and the lent forms of `tree`.
pub mod Serve
pub mod Reply
pub mod Steps
pub mod Exchange
