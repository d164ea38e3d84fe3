-- What the proofs of several functions use, and the marks.
pub mod SeparationLaws
pub mod AnswerLaws
pub mod PredictionLaws
pub mod CellularLaws
pub mod AllMarks
