-- Rule 18.1, motifs: b columns side by side, and of each column T = N / b cells, one below the other, from some row on.
-- Assumes nothing: these are definitions.
use Rattle.std.specs.Prelude.{ℕ, ◌+◌, ◌/◌, Bool}
use Rattle.std.specs.Int.{◌∣◌}
use Rattle.arith.specs.Sum.{sum_below, indicator}
use Rattle.screen.specs.declared.Screen.{Screen}

-- the screens that have motifs: b divides N
abbrev pub HasMotifs : Screen → Type 0
HasMotifs s = s.b ∣ s.n

-- the rows T of each column
abbrev pub motif_rows : Screen → ℕ
motif_rows s = s.n / s.b

-- How many cells of a motif pass a test of their column and row. Its columns are the b from x on; start i is the row at which column x + i
-- begins.
unfoldable pub in_motif : Screen → ℕ → (ℕ → ℕ) → (ℕ → ℕ → Bool) → ℕ
in_motif s x start test = sum_below s.b (λ i. sum_below (motif_rows s) (λ j. indicator (test (x + i) (start i + j))))
