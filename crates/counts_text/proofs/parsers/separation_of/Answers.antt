-- `counts_text::parsers::separation_of` meets its contract. Assumes nothing.
use mathlib.Core.Path.{◌≡◌}
use mathlib.Core.List.{List, ◌++◌}
use Prim.Native.Nat.{ℕ}
use Rattle.std.specs.Prelude.{Some, None}
use Rattle.std.proofs.lemmas.Bool.Decides.{Decides-eqb}
use Rattle.std.proofs.lemmas.Slice.Eq.{strip_prefix_is}
use Rattle.separation.specs.declared.Separation.{Separation}
use Rattle.separation.specs.declared.Separation.TheVariants.{Demichel, Kueppers}
use Rattle.counts_text.specs.Parsers.{head_p}
use Rattle.counts_text.proofs.parsers.separation_of.Goals as goal

-- a line that begins with neither head begins with that of no separation
neither : (line : List ℕ) → ((values : List ℕ) → line ≡ head_p Demichel ++ values → ⊥) → ((values : List ℕ) → line ≡ head_p Kueppers ++ values → ⊥)
    → (sep : Separation) (values : List ℕ) → line ≡ head_p sep ++ values → ⊥
neither line d k Demichel = d
neither line d k Kueppers = k

pub returns-in-Some : goal.returns-in-Some
returns-in-Some c = strip_prefix_is Decides-eqb c.args.line.now (head_p Demichel) (Some c.in-Some.values) c.in-Some.ensures.cases

pub returns-in_err-strip_prefix-in-None : goal.returns-in_err-strip_prefix-in-None
returns-in_err-strip_prefix-in-None c =
    rw c.from_residual.ensures
    (neither c.args.line.now
    (strip_prefix_is Decides-eqb c.args.line.now (head_p Demichel) None c.in-None.ensures.cases)
    (strip_prefix_is Decides-eqb c.args.line.now (head_p Kueppers) None c.in_err-strip_prefix-in-None.ensures.cases))
