-- `quantiser::cells::levels` meets its contract: the weights add up to D, so that nothing overflows, and the sums are the levels.
-- Assumes nothing.
use mathlib.Core.Path.{◌∙◌}
use native.Mathlib.Omega.{arith}
use Rattle.separation.specs.Laws.{InkValues}
use Rattle.separation.proofs.Published.{weights_add_up}
use Rattle.quantiser.proofs.LevelLaws.{scale_limit, weights_within, levels_are}
use Rattle.quantiser.proofs.cells.levels.Goals as goal

pub raised-requires : goal.raised-requires
raised-requires c =
    let bytes : InkValues c.args.inks = record { c_value = omega arith; m_value = omega arith; y_value = omega arith } in
    let all = weights_add_up c.args.sep c.args.inks bytes in
    rw (c.weights-weights.ensures, c.scale-scale.ensures) (weights_within c.args.sep c.args.inks all, omega arith, scale_limit c.args.sep)

pub returns : goal.returns
returns c =
    let start = c.args in
    c.raised.ensures ∙ rw (c.from.ensures, c.weights-weights.ensures, c.scale-scale.ensures) (levels_are start.sep start.inks start.n)
