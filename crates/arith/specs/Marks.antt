-- Small numbers, and what three laws say of them. proofs/AllMarks.antt shows them by computing the definitions.
-- Assumes nothing: these are statements.
use Rattle.std.specs.Prelude.{ℕ, ◌+◌, ◌%◌, ◌≤◌, ◌<◌, ◌≡◌, [], ◌∷◌, get_or}
use Rattle.std.specs.Int.{◌∣◌}
use Rattle.arith.specs.Gcd.{gcd_of}
use Rattle.arith.specs.Order.{ordered}
use Rattle.arith.specs.Remainder.{remainder_of}
use Rattle.arith.specs.Rules.{rules_in_force}
use Rattle.arith.specs.Run.{upto}
use Rattle.arith.specs.Laws.{GcdCommon, RemainderWords, OrderFalls}

-- the counts of rule 12.3
abbrev pub counted : ℕ → ℕ
counted j = get_or (26 ∷ 26 ∷ 0 ∷ 27 ∷ 0 ∷ 0 ∷ 0 ∷ 26 ∷ []) j 0

pub record Marks : Type 0 where
  pub gcd_6 : gcd_of 12 18 ≡ 6
  pub common : GcdCommon → (6 ∣ 12) × (6 ∣ 18)
  -- 7 − 40 by 105
  pub remainder_72 : remainder_of 7 40 105 ≡ 72
  pub words : RemainderWords → (72 < 105) × ((72 + 40) % 105 ≡ 7)
  -- rule 12.16, the order: 27 goes before the three of 26, and these go by their numbers, as the four of 0 do
  pub in_order : upto (ordered 8 counted) 8 ≡ 3 ∷ 0 ∷ 1 ∷ 7 ∷ 2 ∷ 4 ∷ 5 ∷ 6 ∷ []
  -- what the law of the order says of its second and its third
  pub falls_law : OrderFalls → 26 ≤ 26
  pub ties_law : OrderFalls → 0 < 1
  -- rule 14.1: the ink bill, cellular prediction, stored numbers, the bit mask, lines that rise, and motifs
  pub in_force : rules_in_force ≡ 6
