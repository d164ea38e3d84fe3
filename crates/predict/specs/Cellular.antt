-- Rules 16.1 to 16.5 and 16.8: cellular prediction. The limits of a value and the mean are those of Predicted.antt. Places of the order
-- are counted from 0 here: the k-th weight and the k-th set of rule 16.4 are those at place k - 1.
-- Assumes nothing: these are definitions.
use Rattle.std.specs.Prelude.{ℕ, suc, ◌-◌, ◌*◌, ◌/◌, ◌%◌, ◌^◌, ◌≤◌, ◌<◌, Bool, cond, not, List, eqb, ltb, length, Float}
use Rattle.arith.specs.First.{first_below}
use Rattle.arith.specs.Order.{ordered}
use Rattle.arith.specs.Refusal.{unless, or_else, answered}
use Rattle.arith.specs.Sum.{sum_below}
use Rattle.screen.specs.declared.Screen.{Screen}
use Rattle.screen.specs.Screens.{refusal_of}
use Rattle.separation.specs.declared.Separation.{Separation}
use Rattle.separation.specs.declared.Inks.{Inks}
use Rattle.quantiser.specs.Running.{count}
use Rattle.predict.specs.declared.Xyz.{Xyz}
use Rattle.predict.specs.CellularPrediction.{Cellular, Colour, BadSet, Refused}
use Rattle.predict.specs.Predicted.{triple_at, admitted, mean_of}
use Rattle.predict.specs.Numbered.{Numbered, coloured, refused_as, told}

-- ---- rule 16.2: sets of colorants, and the primaries of each

-- whether set t, which is the sum of 2 to each of its colorants, holds colorant j
abbrev pub holds : ℕ → ℕ → Bool
holds t j = eqb (t / 2 ^ j % 2) 1

-- the sets are 1 to 255, so many values in all
abbrev pub values_due : ℕ
values_due = 765

-- the record of set t
abbrev pub record_of : List Float → ℕ → Xyz
record_of values t = triple_at values (t - 1)

-- ---- rule 16.3: the colorants by falling counts, equal counts by lower colorant

abbrev pub order_of : (ℕ → ℕ) → ℕ → ℕ
order_of c = ordered 8 c

-- ---- rule 16.4: weights and sets

-- the counts in that order, and 0 for the ninth
unfoldable pub falling_count : (ℕ → ℕ) → ℕ → ℕ
falling_count c k = cond (ltb k 8) (c (order_of c k)) 0

unfoldable pub weight_at : (ℕ → ℕ) → ℕ → ℕ
weight_at c k = suc k * (falling_count c k - falling_count c (suc k))

-- the set of an order's colorants up to a place, and that of the order by counts
unfoldable pub set_along : (ℕ → ℕ) → ℕ → ℕ
set_along order k = sum_below (suc k) (λ i. 2 ^ order i)

abbrev pub set_at : (ℕ → ℕ) → ℕ → ℕ
set_at c = set_along (order_of c)

-- ---- rule 16.5: the mean, by weights and the records of their sets

abbrev pub cellular_mean : (ℕ → ℕ) → ℕ → List Float → Xyz
cellular_mean c n values = mean_of (weight_at c) n (λ k. record_of values (set_at c k))

-- ---- rule 16.8: what `predict_cellular` answers

-- the lowest set that has a value which is not admitted, with weight or without, and 256 where there is none
unfoldable pub first_bad_set : List Float → ℕ
first_bad_set values = suc (first_below 255 (λ i. not (admitted (record_of values (suc i)))))

abbrev pub colour_of : Xyz → Cellular
colour_of p = Colour p.x p.y p.z

unfoldable pub cellular : Screen → Separation → Inks → List Float → Cellular
cellular s sep inks values =
    cond (eqb (refusal_of s) 0)
    (cond (eqb (length values) values_due)
    (cond (ltb (first_bad_set values) 256) (BadSet (first_bad_set values)) (colour_of (cellular_mean (count s sep inks) s.n values)))
    (Refused 14))
    (Refused (refusal_of s))

-- each case of the answer in numbers
abbrev pub numbered_of : Cellular → Numbered
numbered_of (Colour x y z) = coloured x y z
numbered_of (BadSet t) = refused_as 11 t
numbered_of (Refused number) = refused_as number 0

-- rules 11.4, 11.15 and 11.18: 14, after the screen's, and then 11
unfoldable pub run_refusal : Screen → List Float → ℕ
run_refusal s values = or_else (refusal_of s) (unless (eqb (length values) values_due) 14 0)

unfoldable pub cellular_refusal : Screen → List Float → ℕ
cellular_refusal s values = or_else (run_refusal s values) (cond (ltb (first_bad_set values) 256) 11 0)

-- what the rules say of a call
unfoldable pub ruled : Screen → Separation → Inks → List Float → Numbered
ruled s sep inks values =
    told (cellular_refusal s values) (answered (run_refusal s values) (cond (ltb (first_bad_set values) 256) (first_bad_set values) 0))
    (cellular_mean (count s sep inks) s.n values)

-- ---- between the order and its sets

-- what is known of an order while its sets are formed: it has colorants, and no set is above 255
pub record Ordering (order : ℕ → ℕ) : Type 0 where
  pub colorants : (k : ℕ) → k < 8 → order k < 8
  pub sets : (k : ℕ) → k < 8 → set_along order k ≤ 255
