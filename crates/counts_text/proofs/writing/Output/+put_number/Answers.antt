-- `counts_text::writing::Output::put_number` meets its contract: the numeral of the tenth part, then the last digit. Assumes nothing.
use Prim.Native.Nat.{ℕ, ◌+◌, ◌/◌, ◌%◌, ◌≤◌, ◌<◌}
use mathlib.Core.Path.{◌≡◌, sym, ap, ◌∙◌}
use mathlib.Core.List.{[], ◌∷◌}
use native.Mathlib.Omega.{arith}
use Rattle.counts_text.specs.Numbers.{numeral}
use Rattle.counts_text.specs.declared.writing.Output.{Output}
use Rattle.counts_text.specs.Output.{Puts}
use Rattle.counts_text.proofs.NumberLaws.{numeral_below, numeral_from, numeral_some, length_from}
use Rattle.counts_text.proofs.WroteLaws.{puts_as, puts_then}
use Rattle.counts_text.proofs.writing.Output.+put_number.Goals as goal
use Rattle.counts_text.proofs.writing.Output.+put_number.Goals.{then-v-ge10, else-v-ge10}

-- the two cases of the numeral
alone : {v : ℕ} {start out after : Output} → v < 10 → out ≡ start → Puts ((48 + v % 10) ∷ []) out after → Puts (numeral v) start after
alone {v} h e p =
    let digit : v % 10 ≡ v = omega arith in
    rw (sym e) (puts_as p (ap (λ (k : ℕ). (48 + k) ∷ []) digit ∙ sym (numeral_below v h)))

behind : {v : ℕ} {start front out after : Output} → 10 ≤ v → Puts (numeral (v / 10)) start front → out ≡ front → Puts ((48 + v % 10) ∷ []) out after
    → Puts (numeral v) start after
behind {v} h q e p = puts_as (puts_then q (rw e at p)) (sym (numeral_from v h))

pub put_number-requires : goal.put_number-requires
put_number-requires t c =
    (omega (arith, c.if-v-ge10.true, c.decreases), omega (arith, c.requires, length_from c.args.v c.if-v-ge10.true))

pub put-requires : goal.put-requires
put-requires t c = elim c.if-v-ge10.branch [
  | then-v-ge10 w ↦ rw w.self-is (omega (arith, c.requires, length_from c.args.v w.if-v-ge10.true, w.put_number.ensures.done, w.put_number.ensures.room))
  | else-v-ge10 w ↦ rw w.self-is (omega (arith, c.requires, numeral_some c.args.v))
]

pub returns : goal.returns
returns t c = elim c.if-v-ge10.branch [
  | then-v-ge10 w ↦ behind w.if-v-ge10.true w.put_number.ensures w.self-is c.put.ensures
  | else-v-ge10 w ↦ alone w.if-v-ge10.false w.self-is c.put.ensures
]
