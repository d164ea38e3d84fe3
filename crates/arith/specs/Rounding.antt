-- Division rounded down and up, and the value before a place of a run of values.
-- Assumes nothing: these are definitions.
use Rattle.std.specs.Prelude.{ℕ, zero, suc, ◌+◌, ◌-◌, ◌/◌, ◌≤◌}

-- m / d rounded up
abbrev pub rounded_up : ℕ → ℕ → ℕ
rounded_up m d = (m + d - 1) / d

-- v is m / d rounded down or up
abbrev pub Rounded : ℕ → ℕ → ℕ → Type 0
Rounded m d v = (m / d ≤ v) × (v ≤ rounded_up m d)

-- the value before place j of a run of values, 0 before the first
abbrev pub before : (ℕ → ℕ) → ℕ → ℕ
before U zero = 0
before U (suc j) = U j
