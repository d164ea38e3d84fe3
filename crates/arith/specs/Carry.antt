-- A sum by a modulus as it is worked out, in 32 bits, for any three numbers. Assumes nothing: these are definitions.
use Rattle.std.specs.Prelude.{ℕ, cond, ◌+◌, ◌-◌, ◌%◌, ◌^◌, ltb}

-- n - by in 32 bits: the first number that reaches n once `by` is added
abbrev pub lacking : ℕ → ℕ → ℕ
lacking by n = (n + (2 ^ 32 - by)) % 2 ^ 32

-- p + by in 32 bits where p is below that number, else p less that number, in 32 bits too
unfoldable pub carried : ℕ → ℕ → ℕ → ℕ
carried p by n = cond (ltb p (lacking by n)) ((p + by) % 2 ^ 32) ((p + (2 ^ 32 - lacking by n)) % 2 ^ 32)
