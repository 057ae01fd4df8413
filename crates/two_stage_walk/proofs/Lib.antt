pub mod Frames
mod LeafAddresses
pub mod SecondAnswers
