-- The brick, over plain numbers: its size, its period and shift, and that each phase occurs in it exactly once, wherever it lies.
-- Assumes nothing.
use Prim.Native.Nat.{ℕ, zero, suc, ◌+◌, ◌-◌, ◌*◌, ◌/◌, ◌%◌, ◌≤◌, ◌<◌, ◌∣◌}
use mathlib.Core.Path.{◌≡◌, sym, ap, ap₂, ◌∙◌}
use mathlib.Core.Bool.{Bool}
use native.Mathlib.Nat.{dvd_antisymm, dvd_of_mod-eq-zero, pos_of_ne-zero, le_of_dvd, lt_of_lt_of_le, div-le_self, mul-zero, mul-suc, mul-sub, add-zero, add_assoc, one-mul, zero-mod, mod-eq_of_lt, add-mod-mod, mod-mod_of_dvd, mod-add-div, mul-div_cancel', dvd-mul_right, dvd-mul_right_of_dvd, add-mul-mod_self_left}
use native.Mathlib.Omega.{arith}
use lib.Dec.{eqb}
use borrow.Author.Tests.{eq-eqb, eqb-true}
use Rattle.arith.specs.Gcd.{gcd_of}
use Rattle.arith.specs.Remainder.{remainder_of}
use Rattle.arith.specs.First.{first_below}
use Rattle.arith.specs.Sum.{sum_below, indicator}
use Rattle.arith.proofs.GcdLaws.{gcd_divides, gcd_scaled, gcd_greatest, gcd_pos, gcd_reduced}
use Rattle.arith.proofs.RemainderLaws.{same_remainder, below_divisor, remainder_multiple, remainder_scaled, remainder_words}
use Rattle.arith.proofs.SumLaws.{sum_same, sum_window, each_placed_once}
use Rattle.arith.proofs.Residues.{multiple_apart, residue_once}
use Rattle.arith.proofs.FirstLaws.{first_found, first_counted, first_passes}
use Rattle.screen.specs.Phase.{phase_of}
use Rattle.screen.specs.Sizes.{rows_of, columns_of, shift_of}
use Rattle.screen.proofs.PhaseLaws.{phase_below, phase_same, steps, steps_right}

-- ---- size

module _ (a n : ℕ) (pos : 0 < n) where
  pub rows_pos : 0 < rows_of a n
  rows_pos = gcd_pos a n pos

  pub rows_le : rows_of a n ≤ n
  rows_le = le_of_dvd pos (gcd_divides a n).1

  pub brick_size : rows_of a n * columns_of a n ≡ n
  brick_size = mul-div_cancel' (gcd_of a n) (gcd_divides a n).1

  pub columns_pos : 0 < columns_of a n
  columns_pos = pos_of_ne-zero (λ e. none e)
    where
      none : columns_of a n ≡ 0 → ⊥
      none e =
          let q : n ≡ 0 = sym brick_size ∙ ap (λ (l : ℕ). rows_of a n * l) e ∙ mul-zero (rows_of a n) in
          omega arith

  -- a brick's width of steps is a multiple of n
  whole_row : a * columns_of a n ≡ n * (a / rows_of a n)
  whole_row =
      let h : ℕ = rows_of a n in
      let reduced : h * (a / h) ≡ a = mul-div_cancel' h (gcd_divides a n).0 in
      ap (λ (z : ℕ). z * columns_of a n) (sym reduced) ∙ omega (arith, ap (λ (z : ℕ). a / h * z) brick_size)

-- ---- shift

-- the test that S passes
abbrev matches : ℕ → ℕ → ℕ → ℕ → Bool
matches a b n t = eqb ((a * t + b * rows_of a n) % n) 0

module _ (a b n : ℕ) (pos : 0 < n) where
  -- some column passes: by L, the multiples of a / H with b added meet each remainder, 0 among them
  pub shift_below : shift_of a b n < columns_of a n
  unfolding shift_of
  shift_below =
      let h : ℕ = rows_of a n in
      let l : ℕ = columns_of a n in
      let once = residue_once (a / h) l b (gcd_reduced a n pos) (columns_pos a n pos) 0 (columns_pos a n pos) in
      let small : ℕ = first_below l (λ i. eqb ((a / h * i + b) % l) 0) in
      let found : small < l = first_counted l _ (omega (arith, once)) in
      first_found l (matches a b n) small found (eq-eqb _ _ (lifted small (eqb-true _ _ (first_passes l _ found))))
    where
      lifted : (t : ℕ) → (a / rows_of a n * t + b) % columns_of a n ≡ 0 → (a * t + b * rows_of a n) % n ≡ 0
      lifted t e =
          let h : ℕ = rows_of a n in
          let l : ℕ = columns_of a n in
          let reduced : h * (a / h) ≡ a = mul-div_cancel' h (gcd_divides a n).0 in
          let q : h * (a / h * t + b) ≡ a * t + b * h = omega (arith, ap (λ (z : ℕ). z * t) reduced) in
          rw (q, brick_size a n pos, mul-zero, zero-mod) at (remainder_scaled h l (a / h * t + b) 0 (e ∙ sym (zero-mod l)))

  pub shift_limit : shift_of a b n < n
  shift_limit = lt_of_lt_of_le shift_below (div-le_self n (rows_of a n))

  pub shift_words : (a * shift_of a b n + b * rows_of a n) % n ≡ 0
  unfolding shift_of
  shift_words = eqb-true _ _ (first_passes (columns_of a n) (matches a b n) shift_below)

  pub shift_only : (t : ℕ) → t < columns_of a n → (a * t + b * rows_of a n) % n ≡ 0 → t ≡ shift_of a b n
  shift_only t l e = multiple_apart a n (b * rows_of a n) pos t (shift_of a b n) l shift_below (e ∙ sym shift_words)

-- ---- size and shift, told without working them out

-- Rows that divide a and n, with a shift that fits their equation, are H: what divides a and n divides b times the rows by that
-- equation, and has no divisor above 1 in common with b.
pub rows_only : (a b n h l t : ℕ) → gcd_of a b ≡ 1 → h ∣ a → h * l ≡ n → (a * t + b * h) % n ≡ 0 → h ≡ rows_of a n
rows_only a b n h l t unit h∣a whole e =
    let d : ℕ = rows_of a n in
    let d∣a : d ∣ a = (gcd_divides a n).0 in
    let d∣n : d ∣ n = (gcd_divides a n).1 in
    let h∣n : h ∣ n = rw whole at (dvd-mul_right h l) in
    let down : b * h % d ≡ 0 = sym (remainder_multiple d (a * t) (b * h) (dvd-mul_right_of_dvd d d∣a t)) ∙ sym (mod-mod_of_dvd d (a * t + b * h) d∣n) ∙ ap (λ (z : ℕ). z % d) e ∙ zero-mod d in
    let d∣h : d ∣ h = rw (unit, one-mul) at (gcd_scaled d h a b (dvd-mul_right_of_dvd d d∣a h) (dvd_of_mod-eq-zero d down)) in
    dvd_antisymm (gcd_greatest h a n h∣a h∣n) d∣h

-- ---- places with the same phase

module _ (a b n g : ℕ) (pos : 0 < n) where
  -- m bricks to the right
  pub period_times : (x y m : ℕ) → phase_of a b n g (x + columns_of a n * m) y ≡ phase_of a b n g x y
  period_times x y m =
      let p : ℕ = phase_of a b n g x y in
      let q : a * (columns_of a n * m) ≡ n * (a / rows_of a n * m) = omega (arith, ap (λ (z : ℕ). z * m) (whole_row a n pos)) in
      steps_right a b n g pos x y (columns_of a n * m)
      ∙ rw q (add-mul-mod_self_left p n (a / rows_of a n * m))
      ∙ mod-eq_of_lt (phase_below a b n g pos x y)

  pub period_same : (x x' y : ℕ) → x % columns_of a n ≡ x' % columns_of a n → phase_of a b n g x y ≡ phase_of a b n g x' y
  period_same x x' y e = first x ∙ ap (λ (z : ℕ). phase_of a b n g z y) e ∙ sym (first x')
    where
      first : (x : ℕ) → phase_of a b n g x y ≡ phase_of a b n g (x % columns_of a n) y
      first x = ap (λ (z : ℕ). phase_of a b n g z y) (sym (mod-add-div x (columns_of a n))) ∙ period_times (x % columns_of a n) y (x / columns_of a n)

  -- a brick's height down and S to the right
  pub shifted : (x y : ℕ) → phase_of a b n g (x + shift_of a b n) (y + rows_of a n) ≡ phase_of a b n g x y
  shifted x y =
      let p : ℕ = phase_of a b n g x y in
      steps a b n g pos x y (shift_of a b n) (rows_of a n)
      ∙ sym (add-mod-mod p (a * shift_of a b n + b * rows_of a n) n)
      ∙ rw (shift_words a b n pos, add-zero) (mod-eq_of_lt (phase_below a b n g pos x y))

  shifted_times : (x y q : ℕ) → phase_of a b n g (x + shift_of a b n * q) (y + rows_of a n * q) ≡ phase_of a b n g x y
  shifted_times x y zero = rw (mul-zero, mul-zero, add-zero, add-zero)
  shifted_times x y (suc q) =
      rw (mul-suc (shift_of a b n) q, mul-suc (rows_of a n) q, ← add_assoc, ← add_assoc)
      (shifted (x + shift_of a b n * q) (y + rows_of a n * q) ∙ shifted_times x y q)

  -- the place of the first brick that has the phase of (x, y)
  pub in_first_brick : (x y : ℕ) → phase_of a b n g (remainder_of x (shift_of a b n * (y / rows_of a n)) (columns_of a n)) (y % rows_of a n) ≡ phase_of a b n g x y
  in_first_brick x y =
      let q : ℕ = y / rows_of a n in
      let u : ℕ = remainder_of x (shift_of a b n * q) (columns_of a n) in
      sym (shifted_times u (y % rows_of a n) q)
      ∙ ap (λ (z : ℕ). phase_of a b n g (u + shift_of a b n * q) z) (mod-add-div y (rows_of a n))
      ∙ period_same (u + shift_of a b n * q) x y (remainder_words x (shift_of a b n * q) (columns_of a n) (columns_pos a n pos))

-- ---- each phase once

module _ (a b n g : ℕ) (unit : gcd_of a b ≡ 1) (pos : 0 < n) where
  -- rows of two places with one phase differ by a multiple of H, since H divides a and n and has no divisor above 1 in common with b
  rows_apart : (x y x' y' : ℕ) → phase_of a b n g x y ≡ phase_of a b n g x' y' → rows_of a n ∣ y - y'
  rows_apart x y x' y' e =
      let h : ℕ = rows_of a n in
      let h∣a : h ∣ a = (gcd_divides a n).0 in
      let h∣n : h ∣ n = (gcd_divides a n).1 in
      let by-h : (a * x' + b * y') % h ≡ (a * x + b * y) % h = sym (mod-mod_of_dvd h (a * x' + b * y') h∣n) ∙ ap (λ (z : ℕ). z % h) (sym (phase_same a b n g pos x y x' y' e)) ∙ mod-mod_of_dvd h (a * x + b * y) h∣n in
      let bare : b * y' % h ≡ b * y % h = sym (remainder_multiple h (a * x') (b * y') (dvd-mul_right_of_dvd h h∣a x')) ∙ by-h ∙ remainder_multiple h (a * x) (b * y) (dvd-mul_right_of_dvd h h∣a x) in
      rw (unit, one-mul) at (gcd_scaled h (y - y') a b (dvd-mul_right_of_dvd h h∣a (y - y')) (rw mul-sub (same_remainder h (b * y') (b * y) bare)))

  module _ (x y : ℕ) where
    -- two places of the brick with one phase are in the same row
    row_same : (i j i' j' : ℕ) → j < rows_of a n → j' < rows_of a n → phase_of a b n g (x + i) (y + j) ≡ phase_of a b n g (x + i') (y + j') → j ≡ j'
    row_same i j i' j' k l e = omega (arith, ahead i j i' j' k e, ahead i' j' i j l (sym e))
      where
        ahead : (i j i' j' : ℕ) → j < rows_of a n → phase_of a b n g (x + i) (y + j) ≡ phase_of a b n g (x + i') (y + j') → j - j' ≡ 0
        ahead i j i' j' k e =
            let d : y + j - (y + j') ≡ j - j' = omega arith in
            below_divisor (rw d at (rows_apart _ _ _ _ e)) (omega arith)

    -- and two of one row in the same column
    column_same : (i i' v : ℕ) → i < columns_of a n → i' < columns_of a n → phase_of a b n g (x + i) v ≡ phase_of a b n g (x + i') v → i ≡ i'
    column_same i i' v k l e =
        multiple_apart a n (a * x + b * v) pos i i' k l
        (ap (λ (z : ℕ). z % n) (omega arith) ∙ phase_same a b n g pos (x + i) v (x + i') v e ∙ ap (λ (z : ℕ). z % n) (omega arith))

    -- IN ANY L COLUMNS BY H ROWS each phase occurs exactly once
    pub phase_once : (p : ℕ) → p < n → sum_below (rows_of a n) (λ j. sum_below (columns_of a n) (λ i. indicator (eqb (phase_of a b n g (x + i) (y + j)) p))) ≡ 1
    phase_once =
        each_placed_once (rows_of a n) (columns_of a n) n (λ j i. phase_of a b n g (x + i) (y + j)) (brick_size a n pos) (columns_pos a n pos) (λ j i. phase_below a b n g pos _ _)
        (λ j i j' i' down across down' across' e.
        let row : j ≡ j' = row_same i j i' j' down down' e in
        (row, column_same i i' (y + j) across across' (e ∙ ap (λ (z : ℕ). phase_of a b n g (x + i') (y + z)) (sym row))))

  -- IN u * L COLUMNS BY v * H ROWS exactly u * v times
  pub phase_times : (x y u v p : ℕ) → p < n
      → sum_below (v * rows_of a n) (λ j. sum_below (u * columns_of a n) (λ i. indicator (eqb (phase_of a b n g (x + i) (y + j)) p))) ≡ u * v
  phase_times x y u v p l =
      sum_window u v (columns_of a n) (rows_of a n) 1 (λ i j. indicator (eqb (phase_of a b n g (x + i) (y + j)) p)) block ∙ omega arith
    where
      block : (k m : ℕ)
          → sum_below (rows_of a n) (λ j. sum_below (columns_of a n) (λ i. indicator (eqb (phase_of a b n g (x + (k * columns_of a n + i)) (y + (m * rows_of a n + j))) p))) ≡ 1
      block k m =
          sum_same (rows_of a n) _ _ (λ j _. sum_same (columns_of a n) _ _ (λ i _. ap₂ (λ (c r : ℕ). indicator (eqb (phase_of a b n g c r) p)) (sym (add_assoc x (k * columns_of a n) i)) (sym (add_assoc y (m * rows_of a n) j))))
          ∙ phase_once (x + k * columns_of a n) (y + m * rows_of a n) p l
