pub mod Windows
pub mod Answers
pub mod Laws
pub mod Rows
pub mod Finished
pub mod Motifs
pub mod Marks
