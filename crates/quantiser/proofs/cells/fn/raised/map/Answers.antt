-- The closure of `quantiser::cells::raised`: the product stays within 64 bits. Assumes nothing.
use Prim.Native.Nat.{ℕ, ◌*◌, ◌≤◌}
use native.Mathlib.Nat.{le_trans, mul-le-mul}
use native.Mathlib.Omega.{arith}
use Rattle.quantiser.proofs.cells.fn.raised.map.Goals as goal

product : {factor sum scale : ℕ} → sum ≤ scale → factor ≤ 8589934590 → scale ≤ 16581375 → factor * sum ≤ 8589934590 * 16581375
product few small low = mul-le-mul small (le_trans few low)

pub overflow_mul-result : goal.overflow_mul-result
overflow_mul-result c = omega (arith, product c.requires.0 c.requires.1 c.requires.2)

pub overflow_add-result : goal.overflow_add-result
overflow_add-result c = omega (arith, product c.requires.0 c.requires.1 c.requires.2)
