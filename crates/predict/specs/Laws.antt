-- What `predict` promises of its definitions. Each is a statement; proofs/Published.antt proves it.
-- Assumes nothing.
use Rattle.std.specs.Prelude.{ℕ, suc, ◌/◌, ◌^◌, ◌≤◌, ◌<◌, ◌≡◌, true, cond, ◌⊎◌, List, T, leb, pos, Float, length}
use Rattle.std.specs.Int.{◌∣◌}
use Rattle.std.specs.Float.{fin, binary64}
use Rattle.std.specs.Float.Ieee.{eq, of_int, fits}
use Rattle.arith.specs.Sum.{sum_below}
use Rattle.screen.specs.declared.Screen.{Screen}
use Rattle.screen.specs.Screens.{refusal_of}
use Rattle.separation.specs.declared.Separation.{Separation}
use Rattle.separation.specs.declared.Inks.{Inks}
use Rattle.quantiser.specs.Running.{count}
use Rattle.quantiser.specs.Laws.{Always}
use Rattle.predict.specs.declared.Xyz.{Xyz}
use Rattle.predict.specs.Prediction.{Colour}
use Rattle.predict.specs.CellularPrediction as Cellular
use Rattle.predict.specs.Predicted.{primary, admitted, predicted}
use Rattle.predict.specs.Numbered.{refused_as, ruled}
use Rattle.predict.specs.Cellular.{holds, values_due, record_of, order_of, weight_at, set_at, cellular}

-- rule 9.5: a screen that is refused is answered by its refusal alone, whatever the primaries are
abbrev pub RuledRefused : Type 0
RuledRefused =
    (s : Screen) (sep : Separation) (inks : Inks) (ps : List Xyz) → (refusal_of s ≡ 0 → ⊥) → ruled s sep inks ps ≡ refused_as (refusal_of s) 0

-- ---- the mean of the primaries

-- every value of the eight primaries is within its limits
abbrev pub AllAdmitted : List Xyz → Type 0
AllAdmitted ps = (j : ℕ) → j < 8 → admitted (primary ps j) ≡ true

-- the f64 of a whole number; that of 0 is plus zero
abbrev pub value_of : ℕ → Float
value_of v = of_int binary64 (pos v)

-- a value is the whole number v, 0 to 200, where IEEE's comparison says so: negative zero is 0 too
abbrev pub IsWhole : Float → ℕ → Type 0
IsWhole x v = (v ≤ 200) × T (eq x (value_of v))

-- rule 9.4, full tones are exact: on every admitted screen, whatever the other primaries hold within their limits
abbrev pub FullTone : Type 0
FullTone =
    Always
    (λ s sep inks. (ps : List Xyz) → AllAdmitted ps → (h : ℕ) → h < 8 → count s sep inks h ≡ s.n → (x y z : ℕ)
    → IsWhole (primary ps h).x x → IsWhole (primary ps h).y y → IsWhole (primary ps h).z z
    → predicted s sep inks ps ≡ Colour (value_of x) (value_of y) (value_of z))

abbrev pub minus_zero : Float
minus_zero = fin true 0 (pos 0)

-- and so it is the value itself: the f64 of a whole number is the very value that was it, unless that was negative zero
abbrev pub WholeItself : Type 0
WholeItself = (x : Float) (v : ℕ) → T (fits binary64 x) → IsWhole x v → (x ≡ value_of v) ⊎ (x ≡ minus_zero)

-- ---- cellular prediction (that the colorants' order is the only one by falling counts: `OrderFalls` and `OrderOnly` of `arith`)

-- rules 16.2 and 16.4: a set's number is one of 1 to 255, and the set at place k holds the colorants at the places up to k, and no other
abbrev pub SetsNumbered : Type 0
SetsNumbered = (c : ℕ → ℕ) (k : ℕ) → k < 8 → (1 ≤ set_at c k) × (set_at c k ≤ 255)

abbrev pub SetsHold : Type 0
SetsHold = (c : ℕ → ℕ) (k i : ℕ) → k < 8 → i < 8 → holds (set_at c k) (order_of c i) ≡ leb i k

-- rule 16.6: the sum of the weights is N,
abbrev pub WeightsAddUp : Type 0
WeightsAddUp = Always (λ s sep inks. sum_below 8 (weight_at (count s sep inks)) ≡ s.n)

-- the k-th is a multiple of k,
abbrev pub WeightsDivide : Type 0
WeightsDivide = (c : ℕ → ℕ) (k : ℕ) → suc k ∣ weight_at c k

-- and the quotients, over the sets that hold a colorant, add up to its count
abbrev pub held_by : (ℕ → ℕ) → ℕ → ℕ
held_by c j = sum_below 8 (λ k. cond (holds (set_at c k) j) (weight_at c k / suc k) 0)

abbrev pub HeldAddUp : Type 0
HeldAddUp = (c : ℕ → ℕ) (j : ℕ) → j < 8 → held_by c j ≡ c j

-- rule 16.7, full tones are exact: of the record of the colorant's own set, whatever the others hold within their limits
abbrev pub AllSetsAdmitted : List Float → Type 0
AllSetsAdmitted values = (t : ℕ) → 1 ≤ t → t ≤ 255 → admitted (record_of values t) ≡ true

abbrev pub CellularFullTone : Type 0
CellularFullTone =
    Always
    (λ s sep inks. (values : List Float) → length values ≡ values_due → AllSetsAdmitted values → (h : ℕ) → h < 8 → count s sep inks h ≡ s.n → (x y z : ℕ)
    → IsWhole (record_of values (2 ^ h)).x x → IsWhole (record_of values (2 ^ h)).y y → IsWhole (record_of values (2 ^ h)).z z
    → cellular s sep inks values ≡ Cellular.Colour (value_of x) (value_of y) (value_of z))
