-- Rules 9.1 to 9.5: the predicted colour. Numbers and operations are those of IEEE 754's binary64, as the library lib.Ieee defines them:
-- `add`, `mul`, `div` and `of_int` round once, to nearest, ties to even. Cellular.antt takes the limits of a value and the mean from here.
-- Assumes nothing: these are definitions.
use Rattle.std.specs.Prelude.{ℕ, zero, suc, ◌+◌, ◌*◌, Bool, false, cond, not, ◌&&◌, List, eqb, ltb, pos, get_or, Float, Option, Some, None}
use Rattle.std.specs.Float.{nan, fin, binary64}
use Rattle.std.specs.Float.Ieee.{add, mul, div, le, of_int}
use Rattle.arith.specs.First.{first_below}
use Rattle.screen.specs.declared.Screen.{Screen}
use Rattle.screen.specs.Screens.{refusal_of}
use Rattle.separation.specs.declared.Separation.{Separation}
use Rattle.separation.specs.declared.Inks.{Inks}
use Rattle.quantiser.specs.Running.{count}
use Rattle.predict.specs.declared.Xyz.{Xyz}
use Rattle.predict.specs.Prediction.{Prediction, Colour, BadPrimary, BadScreen}

-- +0, and 200 as 25 × 2 ^ 3
abbrev pub plus_zero : Float
plus_zero = fin false 0 (pos 0)

abbrev pub limit : Float
limit = fin false 25 (pos 3)

-- rule 9.2: the primary of colorant j. The NaNs stand for a ninth, which no call has.
abbrev pub primary : List Xyz → ℕ → Xyz
primary ps j = get_or ps j (record { x = nan; y = nan; z = nan })

-- rule 9.2, the limits of a value: IEEE's comparison, by which -0 is 0 and a NaN is neither
abbrev pub within : Float → Bool
within v = le plus_zero v && le v limit

abbrev pub admitted : Xyz → Bool
admitted p = within p.x && within p.y && within p.z

-- rule 9.5: the first colorant that has a value which is not admitted, and 8 where there is none
unfoldable pub first_bad : List Xyz → ℕ
first_bad ps = first_below 8 (λ j. not (admitted (primary ps j)))

-- a number below n that is looked for, and nothing where it is none of those
abbrev pub found_below : ℕ → ℕ → Option ℕ
found_below n i = cond (ltb i n) (Some i) None

-- rule 9.3: a sum with one more product added
abbrev pub more : Float → ℕ → Float → Float
more sum c v = add binary64 sum (mul binary64 (of_int binary64 (pos c)) v)

-- the sum of the first k products, of counts and values
unfoldable pub total : ℕ → (ℕ → ℕ) → (ℕ → Float) → Float
total zero c v = plus_zero
total (suc k) c v = more (total k c v) (c k) (v k)

-- and that of all eight, divided
unfoldable pub channel : (ℕ → ℕ) → ℕ → (ℕ → Float) → Float
channel c n v = div binary64 (total 8 c v) (of_int binary64 (pos n))

-- the same of X, Y and Z, of a record for each count
abbrev pub totals : ℕ → (ℕ → ℕ) → (ℕ → Xyz) → Xyz
totals k c p = record { x = total k c (λ j. (p j).x); y = total k c (λ j. (p j).y); z = total k c (λ j. (p j).z) }

abbrev pub mean_of : (ℕ → ℕ) → ℕ → (ℕ → Xyz) → Xyz
mean_of c n p = record { x = channel c n (λ j. (p j).x); y = channel c n (λ j. (p j).y); z = channel c n (λ j. (p j).z) }

-- rule 9.5: what `predict` answers
abbrev pub colour_of : Xyz → Prediction
colour_of p = Colour p.x p.y p.z

unfoldable pub predicted : Screen → Separation → Inks → List Xyz → Prediction
predicted s sep inks ps =
    cond (eqb (refusal_of s) 0)
    (cond (ltb (first_bad ps) 8) (BadPrimary (first_bad ps)) (colour_of (mean_of (count s sep inks) s.n (primary ps))))
    (BadScreen (refusal_of s))

-- ---- runs of values

-- rules 14.4 and 16.2: record number i, from 0, of a run of values, three a record. The NaNs stand for values that no call has.
abbrev pub triple_at : List Float → ℕ → Xyz
triple_at values i = record { x = get_or values (3 * i) nan; y = get_or values (3 * i + 1) nan; z = get_or values (3 * i + 2) nan }
