pub mod Places
pub mod Answers
pub mod Reads
pub mod SecondAnswers
