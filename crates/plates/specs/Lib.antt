pub mod Masks
pub mod Planes
pub mod Places
pub mod Refusals
pub mod Laws
pub mod Marks
