-- Values beside the limits, and small predictions. proofs/AllMarks.antt shows them by computing the definitions.
-- Assumes nothing: these are statements.
use Rattle.std.specs.Prelude.{ℕ, zero, suc, ◌≤◌, ◌≡◌, true, false, List, [], ◌∷◌, get_or, Float}
use Rattle.std.specs.Int.{◌∣◌}
use Rattle.std.specs.Float.{nan, inf, binary64}
use Rattle.std.specs.Float.Ieee.{of_bits}
use Rattle.arith.specs.Run.{upto}
use Rattle.arith.specs.Sum.{sum_below}
use Rattle.arith.specs.Marks.{counted}
use Rattle.screen.specs.Marks.{listed, sloped}
use Rattle.separation.specs.declared.Separation.TheVariants.{Demichel, Kueppers}
use Rattle.separation.specs.declared.Inks.{Inks}
use Rattle.separation.specs.Weights.{inks_of}
use Rattle.separation.specs.Marks.{half}
use Rattle.quantiser.specs.Running.{count}
use Rattle.predict.specs.declared.Xyz.{Xyz}
use Rattle.predict.specs.Prediction.{Colour, BadPrimary, BadScreen}
use Rattle.predict.specs.CellularPrediction as Cellular
use Rattle.predict.specs.Predicted.{plus_zero, limit, primary, within, total, channel, predicted}
use Rattle.predict.specs.Numbered.{numbered_of, ruled}
use Rattle.predict.specs.Cellular.{holds, order_of, weight_at, set_at, cellular}
use Rattle.predict.specs.Cellular as Cells
use Rattle.predict.specs.Laws.{AllAdmitted, FullTone, minus_zero, SetsNumbered, SetsHold, WeightsAddUp, WeightsDivide, held_by, HeldAddUp, AllSetsAdmitted, CellularFullTone}

-- 0.1, and a primary of it, -0 and 200
abbrev pub tenth : Float
tenth = of_bits binary64 0x3fb999999999999a

abbrev pub ink : Xyz
ink = record { x = tenth; y = minus_zero; z = limit }

-- the same with 0.2, and with a NaN
abbrev pub white : Xyz
white = record { x = of_bits binary64 0x3fc999999999999a; y = minus_zero; z = limit }

abbrev pub unset : Xyz
unset = record { x = tenth; y = nan; z = limit }

abbrev pub primaries : List Xyz
primaries = ink ∷ ink ∷ ink ∷ ink ∷ ink ∷ ink ∷ ink ∷ white ∷ []

abbrev pub magenta_unset : List Xyz
magenta_unset = ink ∷ unset ∷ ink ∷ ink ∷ ink ∷ ink ∷ ink ∷ unset ∷ []

-- every primary 200, -0 and +0
abbrev pub whole : List Xyz
whole =
    let p : Xyz = record { x = limit; y = minus_zero; z = plus_zero } in
    p ∷ p ∷ p ∷ p ∷ p ∷ p ∷ p ∷ p ∷ []

abbrev pub cyan : Inks
cyan = inks_of 255 0 0

-- ---- cellular prediction

-- the counts of rule 12.17, whose two of 4 are magenta's and red's
abbrev pub mixed : ℕ → ℕ
mixed j = get_or (24 ∷ 4 ∷ 8 ∷ 13 ∷ 29 ∷ 4 ∷ 16 ∷ 7 ∷ []) j 0

-- so many records of one kind, and more values after them
unfoldable pub records : ℕ → Xyz → List Float → List Float
records zero p rest = rest
records (suc n) p rest = p.x ∷ p.y ∷ p.z ∷ records n p rest

-- rule 12.17's run: X is 4.1, and 0.8 for the set of all eight colorants
abbrev pub sets : List Float
sets =
    let tone : ℕ → Xyz = λ bits. record { x = of_bits binary64 bits; y = minus_zero; z = limit } in
    records 254 (tone 0x4010666666666666) (records 1 (tone 0x3fe999999999999a) [])

-- cyan's own set has a NaN; magenta's, and the set of all
abbrev pub cyan_unset : List Float
cyan_unset = records 1 unset (records 254 ink [])

abbrev pub two_unset : List Float
two_unset = records 1 ink (records 1 unset (records 252 ink (records 1 unset [])))

-- one value too few and one too many, and a NaN among them
abbrev pub shorter : List Float
shorter = nan ∷ minus_zero ∷ records 254 ink []

abbrev pub longer : List Float
longer = nan ∷ sets

-- every set 200, -0 and +0
abbrev pub whole_sets : List Float
whole_sets = records 255 (record { x = limit; y = minus_zero; z = plus_zero }) []

pub record Marks : Type 0 where
  pub nan_bad : within nan ≡ false
  pub infinite_bad : within (inf false) ≡ false
  pub minus_infinite_bad : within (inf true) ≡ false
  -- -1e-300, and 200.00000000000003
  pub below_bad : within (of_bits binary64 0x81a56e1fc2f8f359) ≡ false
  pub above_bad : within (of_bits binary64 0x4069000000000001) ≡ false
  pub minus_zero_good : within minus_zero ≡ true
  pub zero_good : within plus_zero ≡ true
  pub limit_good : within limit ≡ true
  -- a sum begun at -0 would stay there
  pub begun : total 1 (λ j. 26) (λ j. minus_zero) ≡ plus_zero
  -- rule 12.10, counts 26, 26, 0, 27, 0, 0, 0, 26: from the last colorant on it would end in 39, divided before the sum in 3a
  pub uneven_x : channel counted 105 (λ j. (primary primaries j).x) ≡ of_bits binary64 0x3fbff0656cbd323b
  pub uneven : predicted listed Demichel half primaries ≡ Colour (of_bits binary64 0x3fbff0656cbd323b) plus_zero limit
  pub full_tone : predicted listed Kueppers cyan primaries ≡ Colour tenth plus_zero limit
  pub bad_primary : predicted listed Kueppers cyan magenta_unset ≡ BadPrimary 1
  pub bad_screen : predicted sloped Kueppers cyan magenta_unset ≡ BadScreen 1
  -- the same two in numbers
  pub numbered_primary : ruled listed Kueppers cyan magenta_unset ≡ numbered_of (BadPrimary 1)
  pub numbered_screen : ruled sloped Kueppers cyan magenta_unset ≡ numbered_of (BadScreen 1)
  -- what the law of full tones says of -0, and that a NaN is not within its limits
  pub minus_zero_law : FullTone → AllAdmitted whole → predicted listed Kueppers cyan whole ≡ Colour limit plus_zero plus_zero
  pub nan_law : AllAdmitted magenta_unset → false ≡ true
  -- rule 12.16: weights and sets (the order is a mark of `arith`)
  pub weights : upto (weight_at counted) 8 ≡ 1 ∷ 0 ∷ 0 ∷ 104 ∷ 0 ∷ 0 ∷ 0 ∷ 0 ∷ []
  pub set_numbers : upto (set_at counted) 8 ≡ 8 ∷ 9 ∷ 11 ∷ 139 ∷ 143 ∷ 159 ∷ 191 ∷ 255 ∷ []
  pub held : upto (held_by counted) 8 ≡ 26 ∷ 26 ∷ 0 ∷ 27 ∷ 0 ∷ 0 ∷ 0 ∷ 26 ∷ []
  -- rule 12.17, where each of the eight has cells
  pub mixed_order : upto (order_of mixed) 8 ≡ 4 ∷ 0 ∷ 6 ∷ 3 ∷ 2 ∷ 7 ∷ 1 ∷ 5 ∷ []
  pub mixed_weights : upto (weight_at mixed) 8 ≡ 5 ∷ 16 ∷ 9 ∷ 20 ∷ 5 ∷ 18 ∷ 0 ∷ 32 ∷ []
  -- from the eighth set on it would end in 77, divided before the sum in 78
  pub mixed_colour : cellular listed Demichel (inks_of 200 90 140) sets ≡ Cellular.Colour (of_bits binary64 0x4008c118de5ab279) plus_zero limit
  -- rule 16.8: sets without weight are judged too, the lowest bad one is told, and lengths come before values
  pub bad_set : cellular listed Demichel half cyan_unset ≡ Cellular.BadSet 1
  pub bad_sets : cellular listed Demichel half two_unset ≡ Cellular.BadSet 2
  pub too_short : cellular listed Demichel half shorter ≡ Cellular.Refused 14
  pub too_long : cellular listed Demichel half longer ≡ Cellular.Refused 14
  pub bad_screen_and_run : cellular sloped Demichel half shorter ≡ Cellular.Refused 1
  -- the same in numbers
  pub numbered_set : Cells.ruled listed Demichel half cyan_unset ≡ Cells.numbered_of (Cellular.BadSet 1)
  pub numbered_run : Cells.ruled listed Demichel half shorter ≡ Cells.numbered_of (Cellular.Refused 14)
  pub numbered_both : Cells.ruled sloped Demichel half shorter ≡ Cells.numbered_of (Cellular.Refused 1)
  -- what the laws of weights and sets say of these counts and of rule 12.3's ink values
  pub add_up_law : WeightsAddUp → sum_below 8 (weight_at (count listed Demichel half)) ≡ 105
  pub divide_law : WeightsDivide → 4 ∣ 104
  pub held_law : HeldAddUp → held_by counted 3 ≡ 27
  pub numbered_law : SetsNumbered → (1 ≤ 255) × (255 ≤ 255)
  pub holds_law : SetsHold → holds 139 7 ≡ true
  -- and of full tones: of -0, and that a NaN is not within its limits
  pub cellular_minus_zero_law : CellularFullTone → AllSetsAdmitted whole_sets → cellular listed Kueppers cyan whole_sets ≡ Cellular.Colour limit plus_zero plus_zero
  pub cellular_nan_law : AllSetsAdmitted cyan_unset → false ≡ true
