-- `render::windows::cell_at` meets its contract: the rank of the phase's threshold is its colorant (AnswerLaws). Assumes nothing.
use mathlib.Core.Path.{◌∙◌}
use native.Mathlib.Omega.{arith}
use Rattle.separation.specs.Laws.{InkValues}
use Rattle.render.proofs.AnswerLaws.{lone_coloured}
use Rattle.render.proofs.windows.cell_at.Goals as goal

pub returns-clause-colorant : goal.returns-clause-colorant
returns-clause-colorant c =
    let inks = c.args.inks in
    let bytes : InkValues inks = record { c_value = omega (arith, c.well_formed); m_value = omega (arith, c.well_formed); y_value = omega (arith, c.well_formed) } in
    lone_coloured _ _ _ c.in_ok-phase.ensures.refused c.in_ok-phase.ensures.phase c.threshold-threshold.ensures c.args.sep inks bytes
    (c.colorant_of.ensures ∙ rw (c.levels.ensures, c.scale.ensures, c.from.ensures))
