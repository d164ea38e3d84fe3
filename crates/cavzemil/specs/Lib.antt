pub mod Separations
pub mod Screens
pub mod Windows
pub mod Colours
pub mod Cellular
pub mod Bills
pub mod Marks
