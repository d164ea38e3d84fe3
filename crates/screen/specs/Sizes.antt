-- Rules 3.1 to 3.3: the size and the shift of a brick, by the numbers a, b and N of its screen. They come first because a screen
-- stores them (rule 17.1).
-- Assumes nothing: these are definitions.
use Rattle.std.specs.Prelude.{ℕ, ◌+◌, ◌*◌, ◌/◌, ◌%◌, eqb}
use Rattle.arith.specs.Gcd.{gcd_of}
use Rattle.arith.specs.First.{first_below}

-- rule 3.1: the rows H
abbrev pub rows_of : ℕ → ℕ → ℕ
rows_of a n = gcd_of a n

-- rule 3.2: the columns L
abbrev pub columns_of : ℕ → ℕ → ℕ
columns_of a n = n / rows_of a n

-- rule 3.3: the shift S, the first number below L with (a × S + b × H) mod N = 0; that there is one alone is `ShiftOnly` (Laws.antt)
unfoldable pub shift_of : ℕ → ℕ → ℕ → ℕ
shift_of a b n = first_below (columns_of a n) (λ t. eqb ((a * t + b * rows_of a n) % n) 0)
