-- `screen::making::shift_of` meets its contract, by the laws of its loop (ShiftLoop). The measure is how far a * S is.
-- Assumes nothing.
use Prim.Native.Nat.{◌*◌}
use native.Mathlib.Nat.{le_of_lt, mod-lt, mul-le-mul}
use native.Mathlib.Omega.{arith}
use Rattle.screen.specs.Sizes.{shift_of}
use Rattle.screen.proofs.BrickLaws.{rows_le, shift_limit}
use Rattle.screen.proofs.ShiftLoop.{shift_start, shift_ahead, shift_step, shift_end}
use Rattle.screen.proofs.making.shift_of.Goals as goal

pub overflow_mul-along : goal.overflow_mul-along
overflow_mul-along c =
    omega (arith, mul-le-mul {n₁ = c.args.b} {m₁ = c.args.rows} {n₂ = 64} {m₂ = 4096} c.requires.2 (omega (arith, c.requires.4, c.requires.5, rows_le c.args.a c.args.n c.requires.3)))

pub overflow_sub-along : goal.overflow_sub-along
overflow_sub-along c = le_of_lt (mod-lt _ c.requires.3)

pub loop-along-init : goal.loop-along-init
loop-along-init c =
    shift_start _ _ _ _ _ c.requires.3 c.requires.5 (omega (arith, mod-lt (c.args.b * c.args.rows) c.requires.3))

pub nonzero_rem-along-in-loop-along : goal.nonzero_rem-along-in-loop-along
nonzero_rem-along-in-loop-along c = c.requires.0

pub overflow_add-along : goal.overflow_add-along
overflow_add-along c =
    let s = shift_of c.args.a c.args.b c.args.n in
    let few = shift_limit c.args.a c.args.b c.args.n c.requires.3 in
    omega (arith, shift_ahead c.loop-along.invariant c.requires.3 c.loop-along-test.true, mul-le-mul {n₁ = c.args.a} {m₁ = s} {n₂ = 64} {m₂ = 4096} (omega (arith, c.requires.1, c.requires.2)) (omega (arith, few, c.requires.4)))

pub loop-along-smaller : goal.loop-along-smaller
loop-along-smaller c = omega (arith, shift_ahead c.loop-along.invariant c.requires.3 c.loop-along-test.true, c.requires.3)

pub loop-along-preserved : goal.loop-along-preserved
loop-along-preserved c = shift_step c.loop-along.invariant (shift_ahead c.loop-along.invariant c.requires.3 c.loop-along-test.true)

pub nonzero_div-result : goal.nonzero_div-result
nonzero_div-result c = c.requires.0

pub returns : goal.returns
returns c = shift_end c.loop-along.invariant c.requires.0 c.requires.3 c.loop-along-test.false
