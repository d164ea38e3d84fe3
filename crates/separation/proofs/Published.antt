-- The laws that `separation` publishes (specs/Laws.antt), from those of the two separations.
-- Assumes nothing.
use native.Mathlib.Omega.{arith}
use Rattle.separation.specs.declared.Separation.TheVariants.{Demichel, Kueppers}
use Rattle.separation.specs.Weights.{scale_of}
use Rattle.separation.specs.Laws.{WeightsAddUp, ScaleOdd}
use Rattle.separation.proofs.DemichelLaws.{demichel_adds_up}
use Rattle.separation.proofs.KueppersLaws.{kueppers_adds_up}
pub use Rattle.separation.proofs.KueppersLaws.{kueppers_words, kueppers_four}

-- THE EIGHT WEIGHTS ADD UP to D
pub weights_add_up : WeightsAddUp
weights_add_up Demichel = demichel_adds_up
weights_add_up Kueppers = kueppers_adds_up

-- D IS ODD
pub scale_odd : ScaleOdd
unfolding scale_of
scale_odd Demichel = omega arith
scale_odd Kueppers = omega arith
