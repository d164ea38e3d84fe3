-- Rules 1.1 to 1.6 and 17.1: which screens are admitted, and refusals 1 to 4 and 15.
-- Assumes nothing: these are definitions.
use Rattle.std.specs.Prelude.{ℕ, ◌≤◌, ◌<◌, ◌≡◌, Bool, ◌&&◌, leb, ltb, eqb}
use Rattle.arith.specs.Gcd.{gcd_of}
use Rattle.arith.specs.Refusal.{unless, or_else}
use Rattle.screen.specs.declared.Screen.{Screen}
use Rattle.screen.specs.Sizes.{rows_of, columns_of, shift_of}

-- rule 1.1: a screen by its five numbers, with the three that follow from them
abbrev pub screen_of : ℕ → ℕ → ℕ → ℕ → ℕ → Screen
screen_of a b n k g =
    record { a = a; b = b; n = n; k = k; g = g; columns = columns_of a n; rows = rows_of a n; shift = shift_of a b n }

-- rule 1.2: the limits of a and b, which have no common divisor but 1
unfoldable pub slope_admitted : ℕ → ℕ → Bool
slope_admitted a b = leb 1 a && ltb a b && leb b 64 && eqb (gcd_of a b) 1

-- rule 1.3: the cell count
unfoldable pub cells_admitted : ℕ → Bool
cells_admitted n = leb 1 n && leb n 4096

-- rule 1.4: the number of subscreens
unfoldable pub subscreens_admitted : ℕ → ℕ → Bool
subscreens_admitted n k = leb 1 k && leb k 16 && leb k n

-- rule 1.5: the offset
unfoldable pub offset_admitted : ℕ → ℕ → Bool
offset_admitted n g = ltb g n

-- rules 11.5 to 11.8: the lowest of the refusals 1 to 4 that applies to five numbers; 0 where none does
unfoldable pub numbers_refusal : ℕ → ℕ → ℕ → ℕ → ℕ → ℕ
numbers_refusal a b n k g =
    unless (slope_admitted a b) 1
    (unless (cells_admitted n) 2 (unless (subscreens_admitted n k) 3 (unless (offset_admitted n g) 4 0)))

-- rule 17.1: what is stored are the L, H and S of rules 3.1 to 3.3
unfoldable pub stored_true : Screen → Bool
stored_true s =
    eqb s.columns (columns_of s.a s.n) && eqb s.rows (rows_of s.a s.n)
    && eqb s.shift (shift_of s.a s.b s.n)

-- rules 11.5 to 11.8 and 11.19: 1 to 4, then 15
unfoldable pub refusal_of : Screen → ℕ
refusal_of s = or_else (numbers_refusal s.a s.b s.n s.k s.g) (unless (stored_true s) 15 0)

-- rule 1.6: an admitted screen
abbrev pub Admitted : Screen → Type 0
Admitted s = refusal_of s ≡ 0

-- The limits of rules 1.2 to 1.5, and rule 17.1, as facts. That they hold exactly for the admitted screens is `AdmittedWords`
-- (Laws.antt).
pub record Limits (s : Screen) : Type 0 where
  pub slope_above : 1 ≤ s.a
  pub slope_below : s.a < s.b
  pub slope_limit : s.b ≤ 64
  pub slope_lowest : gcd_of s.a s.b ≡ 1
  pub cells_above : 1 ≤ s.n
  pub cells_limit : s.n ≤ 4096
  pub subscreens_above : 1 ≤ s.k
  pub subscreens_limit : s.k ≤ 16
  pub subscreens_cells : s.k ≤ s.n
  pub offset_below : s.g < s.n

pub record Stored (s : Screen) : Type 0 where
  pub columns_true : s.columns ≡ columns_of s.a s.n
  pub rows_true : s.rows ≡ rows_of s.a s.n
  pub shift_true : s.shift ≡ shift_of s.a s.b s.n
