-- 02, section 5: Buslink beside PDI. What a frame's identifier is, what an indicator is, what is sent and what a receipt stores.
pub mod Identifier
pub mod Indicator
pub mod Send
pub mod Receive
pub mod Examples
pub mod Steps
