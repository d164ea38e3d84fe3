-- A motif, over plain numbers: each phase occurs in it exactly once, whichever rows its columns begin at. Since b divides n, two of its
-- cells with one phase have columns of one remainder, and so one column; and n / b neighbouring cells of a column have different phases.
-- Assumes nothing.
use Prim.Native.Nat.{ℕ, ◌+◌, ◌*◌, ◌/◌, ◌%◌, ◌<◌, ◌∣◌}
use mathlib.Core.Path.{◌≡◌, sym, ap, ◌∙◌}
use native.Mathlib.Nat.{pos_of_dvd_of_pos, dvd_refl, dvd_antisymm, dvd-mul_left, mul-div_cancel', mod-mod_of_dvd, add-mul-mod_self_left}
use native.Mathlib.Omega.{arith}
use lib.Dec.{eqb}
use Rattle.arith.specs.Gcd.{gcd_of}
use Rattle.arith.specs.Sum.{sum_below, indicator}
use Rattle.arith.proofs.GcdLaws.{gcd_divides, gcd_greatest}
use Rattle.arith.proofs.SumLaws.{each_placed_once}
use Rattle.arith.proofs.Residues.{multiple_apart, residue_apart}
use Rattle.screen.specs.Phase.{phase_of}
use Rattle.screen.proofs.PhaseLaws.{phase_below, phase_same}

module _ (a b n g : ℕ) (unit : gcd_of a b ≡ 1) (pos : 0 < n) (divides : b ∣ n) where
  -- b columns of n / b cells are n cells
  size : b * (n / b) ≡ n
  size = mul-div_cancel' b divides

  rows_pos : 0 < n / b
  rows_pos = pos_of_dvd_of_pos (rw size at (dvd-mul_left (n / b) b)) pos

  -- by b, a phase leaves the remainder that its column alone gives
  column_remainder : (c r : ℕ) → (a * c + b * r) % n % b ≡ a * c % b
  column_remainder c r = mod-mod_of_dvd b (a * c + b * r) divides ∙ add-mul-mod_self_left (a * c) b r

  -- b neighbouring columns have different remainders, so that two of their cells with one phase are in one column
  column_same : (x i j r r' : ℕ) → i < b → j < b → phase_of a b n g (x + i) r ≡ phase_of a b n g (x + j) r' → i ≡ j
  column_same x i j r r' k l e =
      residue_apart a b (a * x) unit i j k l
      (ap (λ (z : ℕ). z % b) (omega arith)
      ∙ sym (column_remainder (x + i) r)
      ∙ ap (λ (z : ℕ). z % b) (phase_same a b n g pos (x + i) r (x + j) r' e)
      ∙ column_remainder (x + j) r'
      ∙ ap (λ (z : ℕ). z % b) (omega arith))

  -- and n / b neighbouring multiples of b have different remainders by n, so that two of them in a column are one cell
  row_same : (c y i j : ℕ) → i < n / b → j < n / b → phase_of a b n g c (y + i) ≡ phase_of a b n g c (y + j) → i ≡ j
  row_same c y i j k l e =
      let common : gcd_of b n ≡ b = dvd_antisymm (gcd_divides b n).0 (gcd_greatest b b n (dvd_refl b) divides) in
      multiple_apart b n (a * c + b * y) pos i j (rw common k) (rw common l)
      (ap (λ (z : ℕ). z % n) (omega arith) ∙ phase_same a b n g pos c (y + i) c (y + j) e ∙ ap (λ (z : ℕ). z % n) (omega arith))

  -- IN ANY MOTIF each phase occurs exactly once
  pub motif_once : (x : ℕ) (start : ℕ → ℕ) (p : ℕ) → p < n
      → sum_below b (λ i. sum_below (n / b) (λ j. indicator (eqb (phase_of a b n g (x + i) (start i + j)) p))) ≡ 1
  motif_once x start =
      each_placed_once b (n / b) n (λ i j. phase_of a b n g (x + i) (start i + j)) size rows_pos (λ i j. phase_below a b n g pos _ _)
      (λ i j i' j' across down across' down' e.
      let column : i ≡ i' = column_same x i i' _ _ across across' e in
      (column, row_same (x + i) (start i) j j' down down' (e ∙ ap (λ (z : ℕ). phase_of a b n g (x + z) (start z + j')) (sym column))))
