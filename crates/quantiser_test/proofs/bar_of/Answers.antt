-- `quantiser_test::bar_of`: a threshold of 16 bits times 2 × D fits. Assumes nothing.
use Prim.Native.Nat.{◌*◌, ◌≤◌}
use native.Mathlib.Nat.{mul-le-mul}
use native.Mathlib.Omega.{arith}
use Rattle.quantiser.proofs.Published.{scale_limit}
use Rattle.quantiser_test.proofs.bar_of.Goals as goal

pub overflow_mul-unit : goal.overflow_mul-unit
overflow_mul-unit c = omega (arith, c.scale-unit.ensures, scale_limit c.args.sep)

pub overflow_mul-result : goal.overflow_mul-result
overflow_mul-result c =
    let unit : 2 * c.scale-unit.result ≤ 33162750 = omega (arith, c.scale-unit.ensures, scale_limit c.args.sep) in
    let value : c.from.result ≤ 65535 = omega arith in
    omega (arith, mul-le-mul unit value)
