-- `quantiser::cells::threshold_of` meets its contract, by the laws of its loop (ThresholdLoop).
-- Assumes nothing.
use Prim.Native.Nat.{◌+◌, ◌-◌, ◌≤◌}
use native.Mathlib.Nat.{mul-le-mul}
use native.Mathlib.Omega.{arith}
use Rattle.screen.proofs.Published.{admitted_words}
use Rattle.quantiser.proofs.ThresholdLoop.{passed_start, ends_within, passed_next, passed_end, passed_all}
use Rattle.quantiser.proofs.cells.threshold_of.Goals as goal

pub loop-subscreen-init : goal.loop-subscreen-init
loop-subscreen-init c = passed_start

pub overflow_add-next : goal.overflow_add-next
overflow_add-next c =
    let limits = (admitted_words _).0 c.requires.0 in
    omega (arith, limits.subscreens_limit, limits.cells_limit)

pub overflow_add-next-in-loop-subscreen : goal.overflow_add-next-in-loop-subscreen
overflow_add-next-in-loop-subscreen c =
    let ok = c.requires.0 in
    omega (arith, ends_within ok c.loop-subscreen.invariant c.loop-subscreen-test.true, ((admitted_words _).0 ok).cells_limit)

pub overflow_mul-result : goal.overflow_mul-result
overflow_mul-result c =
    let limits = (admitted_words _).0 c.requires.0 in
    let few : c.args.phase - c.loop-subscreen.passed + 1 ≤ 4096 = omega (arith, c.requires.1, limits.cells_limit) in
    omega (arith, mul-le-mul {m₂ = 16} few limits.subscreens_limit)

pub returns-then-phase-next : goal.returns-then-phase-next
returns-then-phase-next c = passed_end c.requires.0 c.loop-subscreen.invariant c.loop-subscreen-test.true c.if-phase-next.true

pub loop-subscreen-preserved : goal.loop-subscreen-preserved
loop-subscreen-preserved c = passed_next c.requires.0 c.loop-subscreen.invariant c.loop-subscreen-test.true c.if-phase-next.false

pub unreachable-requires : goal.unreachable-requires
unreachable-requires c = passed_all c.requires.0 c.loop-subscreen.invariant c.requires.1 c.loop-subscreen-test.false
