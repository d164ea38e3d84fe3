-- Lists given by their elements' places.
-- Assumes nothing: these are definitions.
use Rattle.std.specs.Prelude.{ℕ, zero, suc, List, [], ◌∷◌, ◌++◌, replicate}

-- the list f 0, f 1, .., f (n - 1)
unfoldable pub upto : (ℕ → ℕ) → ℕ → List ℕ
upto f zero = []
upto f (suc n) = upto f n ++ f n ∷ []

-- n times 0
unfoldable pub zeros : ℕ → List ℕ
zeros n = replicate n 0
