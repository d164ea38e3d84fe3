-- The eight bytes of a place in one number: byte p of the word of some cells is the sum of the masks of those that are p, and a word that is stored leaves
-- byte p in plane p and all else as it was.
-- Assumes nothing.
use Prim.Native.Nat.{ℕ, zero, suc, ◌+◌, ◌*◌, ◌%◌, ◌^◌, ◌≤◌, ◌<◌}
use mathlib.Core.Path.{◌≡◌, refl, sym, ap, ◌∙◌}
use mathlib.Core.List.{List}
use mathlib.Core.Logic.{◌⊎◌, inl, inr, ◌≢◌}
use native.Mathlib.Nat.{le_of_suc-le-suc, eq-or-lt_of_le}
use native.Mathlib.Omega.{arith}
use lib.Arith.{digits_mod}
use lib.Dec.{eqb}
use lib.ListN.{length, get_or, set, length-set}
use lib.Seq.{get_or-set_same, get_or-set_other}
use Rattle.arith.specs.Sum.{sum_below, indicator}
use Rattle.arith.proofs.DigitLaws.{digits_below, digit_of_lem}
use Rattle.arith.proofs.SumLaws.{indicator_one, indicator_none, sum_same, sum_single, sum_exchange, sum_scaled}
use Rattle.arith.proofs.TallyLaws.{indicator_le}
use Rattle.plates.specs.Masks.{mask}
use Rattle.plates.specs.Places.{word_of, byte_of, stored}
use Rattle.plates.proofs.MaskLaws.{masks_below}
use Rattle.plates.proofs.PlaceLaws.{row_ends}

-- ---- a word's bytes

-- the masks of those of the first pixels that have the colorant p
abbrev masks_of : (ℕ → ℕ) → ℕ → ℕ → ℕ
masks_of cell pixels p = sum_below pixels (λ t. indicator (eqb (cell t) p) * mask t)

module _ (cell : ℕ → ℕ) (pixels : ℕ) (low : (t : ℕ) → t < pixels → cell t < 8) where
  -- a word is these masks of each colorant, times 256 to its power
  by_colorant : word_of cell pixels ≡ sum_below 8 (λ p. masks_of cell pixels p * 256 ^ p)
  unfolding word_of
  by_colorant =
      sum_same pixels _ (λ t. sum_below 8 (λ p. 256 ^ p * (indicator (eqb (cell t) p) * mask t)))
      (λ t l.
      sym
      (sum_single 8 (cell t) (λ p. 256 ^ p * (indicator (eqb (cell t) p) * mask t)) (low t l)
      (λ p k h. rw (indicator_none {a = cell t} {b = p} (λ e. h (sym e))) (omega arith))
      ∙ rw (indicator_one {a = cell t} {b = cell t} refl) (omega arith)))
      ∙ sum_exchange pixels 8 (λ t p. 256 ^ p * (indicator (eqb (cell t) p) * mask t))
      ∙ sum_same 8 _ _ (λ p l. sum_scaled pixels (256 ^ p) (λ t. indicator (eqb (cell t) p) * mask t) ∙ omega arith)

  module _ (few : pixels ≤ 8) where
    masks_fit : (p : ℕ) → masks_of cell pixels p < 256
    masks_fit p = masks_below (λ t. indicator (eqb (cell t) p)) (λ t. indicator_le (eqb (cell t) p)) pixels few

    pub word_below : word_of cell pixels < 256 ^ 8
    word_below = rw by_colorant (digits_below 256 (masks_of cell pixels) masks_fit 8)

    -- BYTE p OF A WORD is the masks of those cells whose colorant is p
    pub byte_of_word : (p : ℕ) → p < 8 → byte_of (word_of cell pixels) p ≡ masks_of cell pixels p
    byte_of_word p l = rw by_colorant (digit_of_lem 256 (masks_of cell pixels) masks_fit 8 p l)

-- ---- a word that is stored

module _ (word plane place : ℕ) (planes : List ℕ) where
  pub stored_length : (n : ℕ) → length (stored word plane place planes n) ≡ length planes
  unfolding stored
  stored_length zero = refl
  stored_length (suc n) = length-set (stored word plane place planes n) (n * plane + place) (byte_of word n) ∙ stored_length n

  -- byte p stands in plane p
  pub stored_there : (n p : ℕ) → n * plane ≤ length planes → place < plane → p < n → get_or (stored word plane place planes n) (p * plane + place) 0 ≡ byte_of word p
  unfolding stored
  stored_there zero p fits l k = absurd (omega arith)
  stored_there (suc n) p fits l k = go (eq-or-lt_of_le (le_of_suc-le-suc k)) (stored_there n p (omega arith) l)
    where
      go : (p ≡ n) ⊎ (p < n) → (p < n → get_or (stored word plane place planes n) (p * plane + place) 0 ≡ byte_of word p)
          → get_or (set (stored word plane place planes n) (n * plane + place) (byte_of word n)) (p * plane + place) 0 ≡ byte_of word p
      go (inl e) ih = rw e (get_or-set_same (stored word plane place planes n) (n * plane + place) (byte_of word n) 0 (omega (arith, stored_length n)))
      go (inr m) ih = get_or-set_other (stored word plane place planes n) (n * plane + place) (p * plane + place) (byte_of word n) 0 (λ e. omega (arith, row_ends n plane p m)) ∙ ih m

  -- and any other place is as it was
  pub stored_else : (n p i : ℕ) → place < plane → i < plane → i ≢ place → get_or (stored word plane place planes n) (p * plane + i) 0 ≡ get_or planes (p * plane + i) 0
  unfolding stored
  stored_else zero p i l k h = refl
  stored_else (suc n) p i l k h =
      get_or-set_other (stored word plane place planes n) (n * plane + place) (p * plane + i) (byte_of word n) 0 (λ e. h (sym (digits_mod p k) ∙ ap (λ (m : ℕ). m % plane) e ∙ digits_mod n l))
      ∙ stored_else n p i l k h
