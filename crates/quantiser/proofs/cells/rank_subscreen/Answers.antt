-- `quantiser::cells::rank_subscreen` meets its contract: the threshold is carried. Assumes nothing.
use mathlib.Core.Path.{refl}
use native.Mathlib.Nat.{mul-le-mul_right}
use native.Mathlib.Omega.{arith}
use Rattle.arith.proofs.RunLaws.{filling_start, filling_store, filling_whole}
use Rattle.quantiser.proofs.cells.rank_subscreen.Goals as goal

pub loop-place-init : goal.loop-place-init
loop-place-init c = (filling_start _ _, omega arith)

pub overflow_cast-place : goal.overflow_cast-place
overflow_cast-place c = omega (arith, c.loop-place.invariant.1, mul-le-mul_right c.args.k c.loop-place-test.true, c.requires.1)

pub overflow_add-threshold : goal.overflow_add-threshold
overflow_add-threshold c = omega (arith, c.loop-place.invariant.1, mul-le-mul_right c.args.k c.loop-place-test.true, c.requires.1)

pub loop-place-preserved : goal.loop-place-preserved
loop-place-preserved c =
    let inv = c.loop-place.invariant in
    (filling_store inv.0 _ c.loop-place-test.true inv.1, omega (arith, inv.1, c.requires.0))

pub returns : goal.returns
returns c = filling_whole c.loop-place.invariant.0 _ refl c.loop-place-test.false
