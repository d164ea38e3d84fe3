-- `quantiser::counting::counted` meets its contract. Assumes nothing.
use mathlib.Core.Path.{◌∙◌}
use native.Mathlib.Omega.{arith}
use Rattle.separation.specs.Laws.{InkValues}
use Rattle.separation.proofs.Published.{weights_add_up}
use Rattle.quantiser.proofs.RunningLaws.{running_ends}
use Rattle.quantiser.proofs.LevelLaws.{quotient_within, quotient_rises, counts_are}
use Rattle.quantiser.proofs.counting.counted.Goals as goal

pub differences-requires : goal.differences-requires
differences-requires c =
    let s = c.args.s in
    let sep = c.args.sep in
    let inks = c.args.inks in
    let bytes : InkValues inks = record { c_value = omega arith; m_value = omega arith; y_value = omega arith } in
    let ends = running_ends s sep inks (weights_add_up sep inks bytes) in
    rw c.levels.ensures (
      λ j l. omega (arith, quotient_within s sep inks ends j l, c.well_formed),
      quotient_rises s sep inks,
    )

pub returns : goal.returns
returns c = c.differences.ensures ∙ rw c.levels.ensures (counts_are _ _ _)
