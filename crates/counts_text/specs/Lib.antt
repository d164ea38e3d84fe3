pub mod Text
pub mod Numbers
pub mod Lines
pub mod Program
pub mod Parsers
pub mod Output
pub mod Laws
pub mod Marks
