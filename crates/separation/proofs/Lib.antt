mod DemichelLaws
mod KueppersLaws
pub mod Published
pub mod AllMarks
