-- The laws of windows: places that pass a test, one turn of each loop, blocks, and the stretch as the text has it.
pub mod Places
pub mod Turns
pub mod Blocks
pub mod Whole
