pub mod CountKeys
pub mod Kinds
pub mod Lines
pub mod Numbers
