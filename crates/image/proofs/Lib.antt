-- Laws of the image as it is sealed and read; the theorems are in Back, Places and Written.
pub mod OneBlock
pub mod Rows
pub mod Blocks
pub mod Back
pub mod Places
pub mod Written
