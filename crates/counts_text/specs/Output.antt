-- What the calls that write do to the memory that is lent for a text.
-- Assumes nothing.
use Rattle.std.specs.Prelude.{ℕ, ◌+◌, ◌≡◌, List, ◌++◌, length}
use Rattle.counts_text.specs.declared.writing.Output.{Output}
use Rattle.counts_text.specs.Text.{Wrote}

-- A run is written behind what an output holds: whatever was written from some memory's beginning on, the run follows it.
pub record Puts (run : List ℕ) (before after : Output) : Type 0 where
  pub lent : after.text.ghost_name ≡ before.text.ghost_name
  pub room : length after.text.now ≡ length before.text.now
  pub done : after.done ≡ before.done + length run
  pub wrote : (first memory : List ℕ) → Wrote first memory before.text.now before.done → Wrote (first ++ run) memory after.text.now after.done
