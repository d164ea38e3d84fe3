-- Laws of the refusals' combinators: what a call that is not refused passed, and what a refused one answers.
-- Assumes nothing.
use Prim.Native.Nat.{ℕ, suc, ◌<◌}
use mathlib.Core.Path.{◌≡◌, refl, sym, ap, ◌∙◌}
use mathlib.Core.Bool.{Bool, true, false, ◌&&◌, cond, false≢true}
use mathlib.Core.List.{List, ◌++◌, append-nil}
use native.Mathlib.Nat.{suc-ne-zero}
use native.Mathlib.Decide.{ℕ_discrete}
use native.Mathlib.Omega.{arith}
use lib.ListN.{length, drop}
use lib.Seq.{drop-length}
use borrow.Author.Tests.{eq-eqb, ne_eqb}
use Rattle.arith.specs.Refusal.{unless, or_else, answered, written, number}
use Rattle.arith.specs.declared.refusals.Refusal.{Refusal}
use Rattle.arith.specs.declared.refusals.Refusal.TheVariants.{Slope, CellCount, Subscreens, Offset, OffSheet, InputLength, OutputLength, Brick, Plates, Form, Primary, Price, Job, PrimariesLength, Stored}

-- A TEST'S ANSWER, from the function that makes it and the branch that was taken on it
pub failed : {answer test : Bool} → answer ≡ test → answer ≡ false → test ≡ false
failed e n = sym e ∙ n

pub passed : {answer test : Bool} → answer ≡ test → answer ≡ true → test ≡ true
passed e n = sym e ∙ n

-- two tests that pass together each pass
pub both_pass : (t u : Bool) → (t && u) ≡ true → (t ≡ true) × (u ≡ true)
both_pass true u e = (refl, e)
both_pass false u e = absurd (false≢true e)

-- what is not refused has passed the test, and the later tests
pub unless_none : (t : Bool) (number later : ℕ) → unless t (suc number) later ≡ 0 → (t ≡ true) × (later ≡ 0)
unless_none true number later e = (refl, e)
unless_none false number later e = absurd (suc-ne-zero number e)

module _ (refusal : ℕ) (number : ℕ) where
  pub refused_first : (refusal ≡ 0 → ⊥) → or_else refusal number ≡ refusal
  refused_first h = ap (λ (t : Bool). cond t number refusal) (ne_eqb refusal 0 h)

  pub refused_later : refusal ≡ 0 → or_else refusal number ≡ number
  refused_later e = ap (λ (t : Bool). cond t number refusal) (eq-eqb refusal 0 e)

  pub answered_none : (refusal ≡ 0 → ⊥) → answered refusal number ≡ 0
  answered_none h = ap (λ (t : Bool). cond t number 0) (ne_eqb refusal 0 h)

  pub answered_whole : refusal ≡ 0 → answered refusal number ≡ number
  answered_whole e = ap (λ (t : Bool). cond t number 0) (eq-eqb refusal 0 e)

module _ (refusal : ℕ) (run memory : List ℕ) where
  pub written_none : (refusal ≡ 0 → ⊥) → written refusal run memory ≡ memory
  written_none h = ap (λ (t : Bool). cond t (run ++ drop (length run) memory) memory) (ne_eqb refusal 0 h)

  pub written_whole : (n : ℕ) → refusal ≡ 0 → length run ≡ n → written refusal run memory ≡ run ++ drop n memory
  written_whole n e l = ap (λ (t : Bool). cond t (run ++ drop (length run) memory) memory) (eq-eqb refusal 0 e) ∙ rw l

  -- a run as long as the memory takes its place
  pub written_all : refusal ≡ 0 → length run ≡ length memory → written refusal run memory ≡ run
  written_all e l = written_whole (length memory) e l ∙ rw drop-length (append-nil run)

  -- what a refused call answers and leaves
  pub written_refused : {r : ℕ} → r ≡ refusal → (r ≡ 0 → ⊥) → (r ≡ refusal) × (memory ≡ written refusal run memory)
  written_refused e h = (e, sym (written_none (λ z. h (e ∙ z))))

-- A call that is tested twice, by its sizes and then by what it is given, and answers the run that it writes: refused by the second test, by
-- the first, and not refused.
module _ (size : ℕ) (test : Bool) (number : ℕ) (run memory : List ℕ) where
  module _ (fits : size ≡ 0) where
    pub content_refused : test ≡ false → (suc number ≡ or_else size (unless test (suc number) 0)) × (memory ≡ written (or_else size (unless test (suc number) 0)) run memory)
    content_refused e =
        written_refused (or_else size (unless test (suc number) 0)) run memory (sym (refused_later size (unless test (suc number) 0) fits ∙ rw e)) (suc-ne-zero number)

    pub content_passed : test ≡ true → length run ≡ length memory
        → (0 ≡ or_else size (unless test (suc number) 0)) × (run ≡ written (or_else size (unless test (suc number) 0)) run memory)
    content_passed e l =
        let none : or_else size (unless test (suc number) 0) ≡ 0 = refused_later size (unless test (suc number) 0) fits ∙ rw e in
        (sym none, sym (written_all (or_else size (unless test (suc number) 0)) run memory none l))

  pub size_refused : {r : ℕ} → r ≡ size → (r ≡ 0 → ⊥)
      → (r ≡ or_else size (unless test (suc number) 0)) × (memory ≡ written (or_else size (unless test (suc number) 0)) run memory)
  size_refused e h =
      written_refused (or_else size (unless test (suc number) 0)) run memory (e ∙ sym (refused_first size (unless test (suc number) 0) (λ z. h (e ∙ z)))) h

-- a call that is not refused is refused neither at first nor later
pub or_none : (refusal later : ℕ) → or_else refusal later ≡ 0 → (refusal ≡ 0) × (later ≡ 0)
or_none refusal later e = go (ℕ_discrete refusal 0)
  where
    go : Dec (refusal ≡ 0) → (refusal ≡ 0) × (later ≡ 0)
    go (yes z) = (z, sym (refused_later refusal later z) ∙ e)
    go (no h) = absurd (h (sym (refused_first refusal later h) ∙ e))

-- THE NUMBER OF A REFUSAL is above 0, which is that of a call that is served
pub number_above : (e : Refusal) → 0 < number e
number_above Slope = omega arith
number_above CellCount = omega arith
number_above Subscreens = omega arith
number_above Offset = omega arith
number_above OffSheet = omega arith
number_above InputLength = omega arith
number_above OutputLength = omega arith
number_above Brick = omega arith
number_above Plates = omega arith
number_above Form = omega arith
number_above Primary = omega arith
number_above Price = omega arith
number_above Job = omega arith
number_above PrimariesLength = omega arith
number_above Stored = omega arith

-- a call whose first tests answer a refusal is refused so, whatever the later tests say
pub error_first : (e : Refusal) (refusal later : ℕ) → number e ≡ refusal → number e ≡ or_else refusal later
error_first e refusal later same = same ∙ sym (refused_first refusal later (λ z. omega (arith, number_above e, same, z)))

-- a refused call answers 0 beside its refusal, and leaves memory as it was
pub refused_answered : (refusal value : ℕ) → 0 < refusal → answered refusal value ≡ 0
refused_answered refusal value above = answered_none refusal value (λ z. omega (arith, above, z))

pub refused_written : (refusal : ℕ) (run memory : List ℕ) → 0 < refusal → memory ≡ written refusal run memory
refused_written refusal run memory above = sym (written_none refusal run memory (λ z. omega (arith, above, z)))
