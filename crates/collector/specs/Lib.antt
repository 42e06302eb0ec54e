-- Bytes    states and elements as bytes
-- Exports  what each exported call answers, and every byte of what it is lent
pub mod Bytes
pub mod Exports
