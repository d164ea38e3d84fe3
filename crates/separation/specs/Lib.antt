pub mod Numbers
pub mod Weights
pub mod Laws
pub mod Marks
