pub mod Charges
pub mod Laws
pub mod Marks
