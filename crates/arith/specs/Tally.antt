-- How often a number occurs in a list.
-- Assumes nothing: these are definitions.
use Rattle.std.specs.Prelude.{ℕ, ◌+◌, List, [], ◌∷◌, eqb}
use Rattle.arith.specs.Sum.{indicator}

-- how many elements of a list equal v
unfoldable pub tally : ℕ → List ℕ → ℕ
tally v [] = 0
tally v (x ∷ rest) = indicator (eqb x v) + tally v rest
