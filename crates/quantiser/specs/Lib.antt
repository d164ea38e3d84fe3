pub mod Running
pub mod Subscreens
pub mod Leaves
pub mod Laws
pub mod Marks
