-- The highest of cells that are looked at one after the other: it is a colorant exactly where each of them is.
-- Assumes nothing.
use Prim.Native.Nat.{ℕ, ◌+◌, ◌≤◌, ◌<◌, max}
use mathlib.Core.Path.{◌≡◌, refl, sym, ap, ◌∙◌}
use mathlib.Core.Bool.{◌&&◌, and-false}
use mathlib.Core.List.{List}
use native.Mathlib.Numerals.{add-one}
use native.Mathlib.Decide.{dec_le}
use native.Mathlib.Omega.{arith}
use lib.Dec.{leb}
use lib.ListN.{length, get_or}
use borrow.Author.Tests.{le-leb, lt-leb}
use Rattle.arith.specs.Every.{every}
use Rattle.plates.specs.Planes.{colorants_only}

-- the highest of the first i cells is a colorant exactly where each of them is
pub record HighestAt (cells : List ℕ) (highest i : ℕ) : Type 0 where
  pub within : i ≤ length cells
  pub tells : leb highest 7 ≡ every i (λ k. leb (get_or cells k 0) 7)

pub highest_start : (cells : List ℕ) → HighestAt cells 0 0
unfolding every
highest_start cells = record { within = omega arith; tells = refl }

module _ {cells : List ℕ} {highest i : ℕ} (s : HighestAt cells highest i) where
  highest_next : (h : ℕ) → i < length cells → leb h 7 ≡ leb highest 7 && leb (get_or cells i 0) 7 → HighestAt cells h (i + 1)
  unfolding every
  highest_next h l e = record { within = omega arith; tells = rw (add-one i, ← s.tells) e }

  -- the next cell is higher, or it is not
  highest_raised : i < length cells → highest < get_or cells i 0 → HighestAt cells (get_or cells i 0) (i + 1)
  highest_raised l h = highest_next _ l (go (dec_le (get_or cells i 0) 7))
    where
      go : Dec (get_or cells i 0 ≤ 7) → leb (get_or cells i 0) 7 ≡ leb highest 7 && leb (get_or cells i 0) 7
      go (yes k) = rw (le-leb highest 7 (omega arith)) refl
      go (no k) = rw (lt-leb (get_or cells i 0) 7 (omega arith)) (sym (and-false (leb highest 7)))

  highest_kept : i < length cells → get_or cells i 0 ≤ highest → HighestAt cells highest (i + 1)
  highest_kept l h = highest_next _ l (go (dec_le highest 7))
    where
      go : Dec (highest ≤ 7) → leb highest 7 ≡ leb highest 7 && leb (get_or cells i 0) 7
      go (yes k) = rw (le-leb highest 7 k, le-leb (get_or cells i 0) 7 (omega arith)) refl
      go (no k) = rw (lt-leb highest 7 (omega arith)) refl

  -- either way it is the greater of the two
  pub highest_step : (h : ℕ) → i < length cells → h ≡ max highest (get_or cells i 0) → HighestAt cells h (i + 1)
  highest_step h l e = go (dec_le (get_or cells i 0) highest)
    where
      go : Dec (get_or cells i 0 ≤ highest) → HighestAt cells h (i + 1)
      go (yes k) =
          let same : h ≡ highest = omega arith in
          rw same (highest_kept l k)
      go (no k) =
          let same : h ≡ get_or cells i 0 = omega arith in
          rw same (highest_raised l (omega arith))

  pub highest_end : length cells ≤ i → leb highest 7 ≡ colorants_only cells
  unfolding colorants_only
  highest_end h =
      let q : i ≡ length cells = omega (arith, s.within) in
      s.tells ∙ ap (λ (k : ℕ). every k (λ j. leb (get_or cells j 0) 7)) q
