-- `screen::stored::stored_true` meets its contract: stored numbers that are true pass each test, and after the tests the equation of the
-- shift tells (`stored_told`).
-- Assumes nothing.
use Prim.Native.Nat.{ℕ, ◌*◌, ◌%◌, ◌≤◌, ◌<◌}
use mathlib.Core.Path.{◌≡◌, ap, ap₂, ◌∙◌}
use native.Mathlib.Nat.{le_of_dvd, le-mul_of_pos_right, zero-mul, mul_comm, mul-le-mul, pos_of_ne-zero, dvd_of_mod-eq-zero, mod-eq-zero_of_dvd}
use native.Mathlib.Omega.{arith}
use Rattle.arith.proofs.GcdLaws.{gcd_divides}
use Rattle.screen.specs.declared.Screen.{Screen}
use Rattle.screen.specs.Screens.{Limits, Stored}
use Rattle.screen.proofs.BrickLaws.{brick_size, shift_below}
use Rattle.screen.proofs.Refusals.{stored_failed, stored_told}
use Rattle.screen.proofs.stored.stored_true.Goals as goal

-- ---- true numbers pass

module _ {s : Screen} (l : Limits s) (t : Stored s) where
  divides : s.a % s.rows ≡ 0
  divides = rw t.rows_true (mod-eq-zero_of_dvd _ (gcd_divides s.a s.n).0)

  whole : s.rows * s.columns ≡ s.n
  whole = ap₂ (λ (h w : ℕ). h * w) t.rows_true t.columns_true ∙ brick_size s.a s.n l.cells_above

  below : s.shift < s.columns
  below = omega (arith, t.shift_true, t.columns_true, shift_below s.a s.b s.n l.cells_above)

-- ---- what has passed is small enough

module _ {s : Screen} (l : Limits s) (passed : s.a % s.rows ≡ 0) where
  down_few : s.b * s.rows ≤ 64 * 64
  down_few =
      let few : s.rows ≤ s.a = le_of_dvd l.slope_above (dvd_of_mod-eq-zero s.rows passed) in
      mul-le-mul {n₁ = s.b} {m₁ = s.rows} {n₂ = 64} {m₂ = 64} l.slope_limit (omega (arith, few, l.slope_below, l.slope_limit))

module _ {s : Screen} (l : Limits s) (size : s.rows * s.columns ≡ s.n) where
  rows_some : 0 < s.rows
  rows_some = pos_of_ne-zero (λ z. omega (arith, l.cells_above, size, ap (λ (h : ℕ). h * s.columns) z, zero-mul s.columns))

  ahead_few : s.shift < s.columns → s.a * s.shift ≤ 64 * 4096
  ahead_few within =
      let wide : s.columns ≤ s.n = rw (← size, mul_comm s.rows s.columns) (le-mul_of_pos_right s.columns rows_some) in
      mul-le-mul {n₁ = s.a} {m₁ = s.shift} {n₂ = 64} {m₂ = 4096} (omega (arith, l.slope_below, l.slope_limit)) (omega (arith, wide, l.cells_limit))

pub overflow_mul-s : goal.overflow_mul-s
overflow_mul-s c =
    omega (arith, mul-le-mul {n₁ = c.args.s.rows} {m₁ = c.args.s.columns} {n₂ = 4294967295} {m₂ = 4294967295} (omega arith) (omega arith))

pub returns-then-s : goal.returns-then-s
returns-then-s c = stored_failed _ (λ t. c.if-s.true (whole c.requires t))

pub nonzero_rem-s : goal.nonzero_rem-s
nonzero_rem-s c = rows_some c.requires c.if-s.false

pub returns-then-s-ne0 : goal.returns-then-s-ne0
returns-then-s-ne0 c = stored_failed _ (λ t. c.if-s-ne0.true (divides c.requires t))

pub returns-then-s-2 : goal.returns-then-s-2
returns-then-s-2 c = stored_failed _ (λ t. omega (arith, c.if-s-2.true, below c.requires t))

pub overflow_mul-result : goal.overflow_mul-result
overflow_mul-result c = omega (arith, ahead_few c.requires c.if-s.false c.if-s-2.false)

pub overflow_mul-result-2 : goal.overflow_mul-result-2
overflow_mul-result-2 c = omega (arith, down_few c.requires c.if-s-ne0.false)

pub overflow_add-result : goal.overflow_add-result
overflow_add-result c =
    omega (arith, ahead_few c.requires c.if-s.false c.if-s-2.false, down_few c.requires c.if-s-ne0.false)

pub nonzero_rem-result : goal.nonzero_rem-result
nonzero_rem-result c = c.requires.cells_above

pub returns : goal.returns
returns c = stored_told _ c.requires (dvd_of_mod-eq-zero _ c.if-s-ne0.false) c.if-s.false c.if-s-2.false
