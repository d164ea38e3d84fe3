-- The loop of `fill` over plain numbers and lists: the first i places are written, and the phase and the column of place i are known.
-- Assumes nothing.
use Prim.Native.Nat.{ℕ, ◌+◌, ◌-◌, ◌*◌, ◌/◌, ◌%◌, ◌≤◌, ◌<◌}
use mathlib.Core.Path.{◌≡◌, refl, sym, ap, ap₂, ◌∙◌}
use mathlib.Core.List.{List, ◌++◌}
use native.Mathlib.Nat.{le_antisymm, mul-zero, zero-add, zero-mod, zero-div, mod-lt, div-add-mod'}
use native.Mathlib.Omega.{arith}
use lib.ListN.{length, set, drop}
use lib.Arith.{digits_div, digits_mod}
use Rattle.arith.specs.Run.{upto}
use Rattle.arith.proofs.RunLaws.{upto_store, upto_over}
use Rattle.screen.specs.Phase.{phase_of}
use Rattle.screen.specs.Sizes.{columns_of}
use Rattle.screen.specs.Brick.{phase_at_place}
use Rattle.screen.proofs.PhaseLaws.{phase_below, phase_lacking, step_right, step_down}
use Rattle.screen.proofs.BrickLaws.{columns_pos, period_times}

pub record FillAt (a b n g : ℕ) (buffer₀ buffer : List ℕ) (phase column i : ℕ) : Type 0 where
  pub within : i ≤ n
  pub cells : buffer ≡ upto (λ k. phase_at_place a b n g k) i ++ drop i buffer₀
  pub column_is : column ≡ i % columns_of a n
  pub phase_is : phase ≡ phase_at_place a b n g i

module _ (a b n g : ℕ) (pos : 0 < n) where
  -- the phase of the sheet's corner is what g leaves to n
  corner : g < n → (n - g) % n ≡ phase_of a b n g 0 0
  corner l = rw (mul-zero, mul-zero, zero-add, zero-add) at (phase_lacking a b n g pos 0 0 (n - g) (omega arith))

  pub fill_start : (buffer : List ℕ) (phase : ℕ) → g < n → phase ≡ (0 + (n - g)) % n → FillAt a b n g buffer buffer phase 0 0
  unfolding upto
  fill_start buffer phase l e =
      let origin : phase_at_place a b n g 0 ≡ phase_of a b n g 0 0 = ap₂ (λ (c r : ℕ). phase_of a b n g c r) (zero-mod (columns_of a n)) (zero-div (columns_of a n)) in
      record {
        within = omega arith;
        cells = refl;
        column_is = sym (zero-mod (columns_of a n));
        phase_is = e ∙ ap (λ (z : ℕ). z % n) (zero-add (n - g)) ∙ corner l ∙ sym origin;
      }

module _ {a b n g : ℕ} {buffer₀ buffer : List ℕ} {phase column i : ℕ} (pos : 0 < n) (f : FillAt a b n g buffer₀ buffer phase column i) where
  pub fill_phase : phase < n
  fill_phase = rw f.phase_is (phase_below a b n g pos _ _)

  pub fill_column : column < columns_of a n
  fill_column = rw f.column_is (mod-lt i (columns_pos a n pos))

  pub fill_length : n ≤ length buffer₀ → length buffer ≡ length buffer₀
  fill_length room = rw f.cells (upto_over _ buffer₀ i (omega (arith, f.within)))

  -- place i is written
  stored : n ≤ length buffer₀ → i < n → set buffer i phase ≡ upto (λ k. phase_at_place a b n g k) (i + 1) ++ drop (i + 1) buffer₀
  stored room l = rw (f.cells, f.phase_is) (upto_store (λ k. phase_at_place a b n g k) buffer₀ i (omega arith))

  -- where the next place is: its number by the columns and rows of this one
  next_place : i + 1 ≡ i / columns_of a n * columns_of a n + (column + 1)
  next_place = omega (arith, div-add-mod' i (columns_of a n), f.column_is)

  right_of : (next : ℕ) → next ≡ (phase + a % n) % n → next ≡ phase_of a b n g (column + 1) (i / columns_of a n)
  right_of next e =
      e
      ∙ ap (λ (p : ℕ). (p + a % n) % n) (f.phase_is ∙ ap (λ (c : ℕ). phase_of a b n g c (i / columns_of a n)) (sym f.column_is))
      ∙ sym (step_right a b n g pos column (i / columns_of a n))

  -- within a row
  pub fill_right : (next : ℕ) → n ≤ length buffer₀ → i < n → next ≡ (phase + a % n) % n → (column + 1 ≡ columns_of a n → ⊥)
      → FillAt a b n g buffer₀ (set buffer i phase) next (column + 1) (i + 1)
  fill_right next room l e h =
      let c : column + 1 < columns_of a n = omega (arith, fill_column) in
      let v : ℕ = i / columns_of a n in
      let across : (i + 1) % columns_of a n ≡ column + 1 = rw next_place (digits_mod v c) in
      let down : (i + 1) / columns_of a n ≡ v = rw next_place (digits_div v c) in
      record {
        within = omega arith;
        cells = stored room l;
        column_is = sym across;
        phase_is = right_of next e ∙ sym (ap₂ (λ (c r : ℕ). phase_of a b n g c r) across down);
      }

  -- at a row's end
  pub fill_down : (next last : ℕ) → n ≤ length buffer₀ → i < n → next ≡ (phase + a % n) % n → column + 1 ≡ columns_of a n → last ≡ (next + b % n) % n
      → FillAt a b n g buffer₀ (set buffer i phase) last 0 (i + 1)
  fill_down next last room l e h q =
      let v : ℕ = i / columns_of a n in
      let whole : i + 1 ≡ (v + 1) * columns_of a n + 0 = next_place ∙ omega (arith, h) in
      let across : (i + 1) % columns_of a n ≡ 0 = rw whole (digits_mod (v + 1) (columns_pos a n pos)) in
      let down : (i + 1) / columns_of a n ≡ v + 1 = rw whole (digits_div (v + 1) (columns_pos a n pos)) in
      let round : next ≡ phase_of a b n g 0 v = right_of next e ∙ ap (λ (c : ℕ). phase_of a b n g c v) (h ∙ omega arith) ∙ period_times a b n g pos 0 v 1 in
      record {
        within = omega arith;
        cells = stored room l;
        column_is = sym across;
        phase_is = q ∙ ap (λ (p : ℕ). (p + b % n) % n) round ∙ sym (step_down a b n g pos 0 v) ∙ sym (ap₂ (λ (c r : ℕ). phase_of a b n g c r) across down);
      }

  pub fill_end : n ≤ i → buffer ≡ upto (λ k. phase_at_place a b n g k) n ++ drop n buffer₀
  fill_end h =
      let e : i ≡ n = le_antisymm f.within h in
      f.cells ∙ ap (λ (k : ℕ). upto (λ k. phase_at_place a b n g k) k ++ drop k buffer₀) e
