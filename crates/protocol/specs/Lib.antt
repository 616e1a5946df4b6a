-- Documents 01 (the rules of the build), 02 (the requests made after it) and 003 (PENKO's PDI) as definitions on plain values:
-- lists of bytes, records, options. Read them in this order. Each comment names the section that the definition states. What is
-- proved of them stands in proofs/.
pub mod Numbers
pub mod Refusal
pub mod Bytes
pub mod Frame
pub mod Buffer
pub mod Stream
pub mod Request
pub mod Tree
pub mod Path
pub mod KeptPath
pub mod Text
pub mod Listing
pub mod Listed
pub mod Signed
pub mod Step
pub mod Answer
pub mod Sheet
pub mod Bench
pub mod Marked
