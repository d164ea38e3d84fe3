-- Laws of `Wrote` and `Puts`: what is written one after the other is written as one run.
-- Assumes nothing.
use Prim.Native.Nat.{ℕ, suc, ◌+◌, ◌<◌}
use mathlib.Core.Path.{◌≡◌, refl, sym, ap, ◌∙◌, subst}
use mathlib.Core.List.{List, [], ◌∷◌, ◌++◌, append_assoc, append-nil}
use native.Mathlib.Numerals.{add-one}
use native.Mathlib.Omega.{arith}
use lib.ListN.{length, get_or, set, drop, length-append, length-drop}
use lib.Seq.{set_at, drop-cons, append_snoc}
use Rattle.counts_text.specs.Text.{Wrote}
use Rattle.counts_text.specs.declared.writing.Output.{Output}
use Rattle.counts_text.specs.Output.{Puts}

-- the same run in other words
pub wrote_as : {run words before after : List ℕ} {r : ℕ} → Wrote run before after r → run ≡ words → Wrote words before after r
wrote_as {run} {words} {before} {after} {r} w e = subst (λ (l : List ℕ). Wrote l before after r) e w

-- one byte more
pub wrote_byte : {run before after : List ℕ} {r : ℕ} → Wrote run before after r → (x : ℕ) → r < length after → Wrote (run ++ x ∷ []) before (set after r x) (r + 1)
wrote_byte {run} {before} {after} {r} w x l =
    let room : r < length before = omega (arith, w.many, simp (length-append, length-drop) at (ap length w.memory)) in
    record {
      many = rw (w.many, length-append);
      memory = rw (w.memory, drop-cons before r 0 room, add-one) (set_at run (get_or before r 0) (drop (suc r) before) x r (sym w.many) ∙ sym (append_snoc run x (drop (suc r) before)));
    }

pub puts_as : {run words : List ℕ} {before after : Output} → Puts run before after → run ≡ words → Puts words before after
puts_as {run} {words} {before} {after} p e = subst (λ (l : List ℕ). Puts l before after) e p

-- nothing, and one run after the other
pub puts_none : (out : Output) → Puts [] out out
puts_none out =
    record { lent = refl; room = refl; done = omega arith; wrote = λ first memory w. wrote_as w (sym (append-nil first)) }

pub puts_then : {run more : List ℕ} {before between after : Output} → Puts run before between → Puts more between after → Puts (run ++ more) before after
puts_then {run} {more} p q =
    record {
      lent = q.lent ∙ p.lent;
      room = q.room ∙ p.room;
      done = omega (arith, q.done, p.done, length-append run more);
      wrote = λ first memory w. wrote_as (q.wrote (first ++ run) memory (p.wrote first memory w)) (append_assoc first run more);
    }
