-- The first number that passes a test.
-- Assumes nothing: these are definitions.
use Rattle.std.specs.Prelude.{ℕ, zero, suc, Bool, cond}

-- The first of the k numbers from i on that passes, and i + k where none of them does.
-- (The `let` keeps the search from going on where i passes.)
unfoldable pub first_from : ℕ → ℕ → (ℕ → Bool) → ℕ
first_from zero i passes = i
first_from (suc k) i passes = let later = first_from k (suc i) passes in cond (passes i) i later

-- the first number below n that passes, and n where none does
unfoldable pub first_below : ℕ → (ℕ → Bool) → ℕ
unfolding first_from
first_below n passes = first_from n 0 passes
