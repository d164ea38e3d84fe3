-- A test that each of the first numbers passes.
-- Assumes nothing: these are definitions.
use Rattle.std.specs.Prelude.{ℕ, zero, suc, Bool, true, ◌&&◌}

-- 0, 1, .., n - 1 all pass
unfoldable pub every : ℕ → (ℕ → Bool) → Bool
every zero passes = true
every (suc n) passes = every n passes && passes n
