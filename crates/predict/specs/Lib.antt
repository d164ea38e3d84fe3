pub mod Prediction
pub mod CellularPrediction
pub mod Predicted
pub mod Numbered
pub mod Cellular
pub mod Laws
pub mod Marks
