-- What refuses a line, from what its parser answers.
-- Assumes nothing.
use Prim.Native.Nat.{ℕ, suc, ◌+◌, ◌≤◌, ◌<◌}
use mathlib.Core.Path.{◌≡◌, refl, sym, ap, ◌∙◌, subst}
use mathlib.Core.Bool.{Bool, true, false, not, cond, ◌&&◌, true≢false}
use mathlib.Core.Logic.{◌⊎◌, inl, inr}
use mathlib.Core.List.{List, [], ◌∷◌}
use native.Mathlib.Nat.{eq-or-lt_of_le}
use native.Mathlib.Decide.{dec_lt}
use native.Mathlib.Numerals.{add-one}
use native.Mathlib.Omega.{arith}
use lib.ListN.{length}
use lib.Dec.{eqb, leb, ltb}
use borrow.Author.Tests.{lt-ltb, le-ltb, ltb-false, le-leb, lt-leb, eq-eqb, ne_eqb}
use denote.Ref.{Bor}
use Rattle.std.specs.Prelude.{Result, Ok, Err, MatchResult}
use Rattle.screen.specs.declared.Screen.{Screen}
use Rattle.arith.specs.Refusal.{unless, number}
use Rattle.arith.specs.declared.refusals.Refusal.{Refusal}
use Rattle.arith.proofs.RefusalLaws.{number_above}
use Rattle.counts_text.specs.declared.judging.BadLine.{BadLine}
use Rattle.arith.proofs.FirstLaws.{first_is}
use Rattle.screen.specs.Screens.{refusal_of}
use Rattle.counts_text.specs.Text.{split, newline, lines, line_at}
use Rattle.counts_text.specs.Lines.{is_screen, screen_in, screen_refusal, is_patch, patch_refusal}
use Rattle.counts_text.specs.Program.{ended, line_refusal, first_bad}
use Rattle.counts_text.specs.Parsers.{Parted, ScreenSays, Patch, Accepted, Judged}
use Rattle.counts_text.proofs.SplitLaws.{Reached, reached_start, reached_piece, reached_count, reached_next, some_piece, only_piece}

-- ---- the first line
module _ (text : List ℕ) where
  pub first_unended : length (lines text) ≡ 1 → line_refusal text 0 ≡ 10
  unfolding line_refusal
  first_unended e = rw (le-ltb 1 (length (lines text)) (omega arith)) refl

  module _ (more : 1 < length (lines text)) where
    pub first_other : is_screen (line_at text 0) ≡ false → line_refusal text 0 ≡ 10
    unfolding line_refusal screen_refusal
    first_other e = rw (lt-ltb 1 (length (lines text)) more, e) refl

    pub first_screen : is_screen (line_at text 0) ≡ true → line_refusal text 0 ≡ refusal_of (screen_in (line_at text 0))
    unfolding line_refusal screen_refusal
    first_screen e = rw (lt-ltb 1 (length (lines text)) more, e) refl

-- ---- the lines after it

-- lines before line i are good, and line i is the first of the rest
pub record JudgedTo (text rest : List ℕ) (i : ℕ) : Type 0 where
  pub here : Reached newline text rest i
  pub good : (k : ℕ) → k < i → line_refusal text k ≡ 0

-- one more good line
good_next : (text : List ℕ) (i : ℕ) → ((k : ℕ) → k < i → line_refusal text k ≡ 0) → line_refusal text i ≡ 0 → (k : ℕ) → k < i + 1 → line_refusal text k ≡ 0
good_next text i good e k l = go (eq-or-lt_of_le l)
  where
    go : (suc k ≡ i + 1) ⊎ (suc k < i + 1) → line_refusal text k ≡ 0
    go (inl q) =
        let same : k ≡ i = omega arith in
        rw same e
    go (inr h) = good k (omega arith)

-- a test and another, of which one fails
either_false : (t u : Bool) → (t ≡ false) ⊎ (u ≡ false) → (t && u) ≡ false
either_false true u (inl e) = absurd (true≢false e)
either_false true u (inr e) = e
either_false false u e = refl

nothing : (xs : List ℕ) → length xs ≡ 0 → xs ≡ []
nothing [] e = refl
nothing (x ∷ xs) e = absurd (omega arith)

-- what refuses line i, i not 0, where the rest of the text begins with it
abbrev rest_refusal : ℕ → List ℕ → ℕ
rest_refusal i rest =
    cond (ended rest 0) (unless (leb i 256) 10 (patch_refusal (line_at rest 0))) (unless (leb 2 i && eqb (length (line_at rest 0)) 0) 10 0)

shifted : (i m : ℕ) → ltb (suc i) (i + m) ≡ ltb 1 m
shifted i m = go (dec_lt 1 m)
  where
    go : Dec (1 < m) → ltb (suc i) (i + m) ≡ ltb 1 m
    go (yes l) = lt-ltb (suc i) (i + m) (omega arith) ∙ sym (lt-ltb 1 m l)
    go (no h) = le-ltb (suc i) (i + m) (omega arith) ∙ sym (le-ltb 1 m (omega arith))

module _ {text rest : List ℕ} {i : ℕ} (j : JudgedTo text rest i) where
  there : i < length (lines text)
  there = omega (arith, reached_count j.here, some_piece newline rest)

  -- the first bad line
  pub bad_line : (refusal : ℕ) → line_refusal text i ≡ refusal → 0 < refusal → Judged text (i + 1) refusal
  unfolding first_bad
  bad_line refusal e h =
      let first : first_bad text ≡ i =
      first_is (length (lines text)) (λ k. not (eqb (line_refusal text k) 0)) i there
      (ap not (ne_eqb (line_refusal text i) 0 (λ z. omega arith)))
      (λ k l. ap not (eq-eqb (line_refusal text k) 0 (j.good k l))) in
      record { there = rw first there; number = rw first (add-one i); why = rw first (sym e) }

module _ {text rest : List ℕ} {i : ℕ} (here : Reached newline text rest i) (later : 1 ≤ i) where
  -- what refuses it, by the text from there on
  restated : line_refusal text i ≡ rest_refusal i rest
  unfolding line_refusal
  restated = rw (reached_piece (here), reached_count (here), shifted i (length (lines rest)), ne_eqb i 0 (λ e. omega arith)) refl

  pub good_patch : i ≤ 256 → Patch rest → line_refusal text i ≡ 0
  unfolding patch_refusal
  good_patch few p = restated ∙ rw (p.ended, le-leb i 256 few, p.form) refl

  -- where nothing ends it
  unended : ended rest 0 ≡ false → (i ≡ 1) ⊎ (0 < length rest) → line_refusal text i ≡ 10
  unended e short = restated ∙ rw (e, either_false (leb 2 i) _ (go short)) refl
    where
      whole : line_at rest 0 ≡ rest
      whole = only_piece newline rest (omega (arith, ltb-false 1 (length (lines rest)) e, some_piece newline rest))

      go : (i ≡ 1) ⊎ (0 < length rest) → (leb 2 i ≡ false) ⊎ (eqb (length (line_at rest 0)) 0 ≡ false)
      go (inl q) = inl (lt-leb 2 i (omega arith))
      go (inr l) = inr (rw whole (ne_eqb (length rest) 0 (λ z. omega arith)))

  pub bad_patch : i ≤ 256 → (i ≡ 1) ⊎ (0 < length rest) → (Patch rest → ⊥) → line_refusal text i ≡ 10
  unfolding patch_refusal
  bad_patch few short n = go (ended rest 0) refl (is_patch (line_at rest 0)) refl
    where
      go : (t : Bool) → ended rest 0 ≡ t → (u : Bool) → is_patch (line_at rest 0) ≡ u → line_refusal text i ≡ 10
      go false e u q = unended e short
      go true e true q = absurd (n (record { ended = e; form = q }))
      go true e false q = restated ∙ rw (e, le-leb i 256 few, q) refl

  pub surplus : 256 < i → 0 < length rest → line_refusal text i ≡ 10
  surplus many short = go (ended rest 0) refl
    where
      go : (t : Bool) → ended rest 0 ≡ t → line_refusal text i ≡ 10
      go true e = restated ∙ rw (e, lt-leb i 256 many) refl
      go false e = unended e (inr short)

  pub at_end : 2 ≤ i → length rest ≡ 0 → (length (lines text) ≡ i + 1) × (line_refusal text i ≡ 0)
  unfolding split
  at_end two e =
      let none : rest ≡ [] = nothing rest e in
      (reached_count here ∙ rw none refl, restated ∙ rw (none, le-leb 2 i two) refl)

-- ---- the walk over the lines

judged_next : {text rest next : List ℕ} {i : ℕ} → JudgedTo text rest i → line_refusal text i ≡ 0 → Parted newline rest next → JudgedTo text next (i + 1)
judged_next {text} {rest} {next} {i} j e p = record { here = reached_next j.here p; good = good_next text i j.good e }

-- the loop over the P lines: the text goes on, or line 1 (counted from 0) is still to come
pub record PatchesAt (text rest : List ℕ) (line : ℕ) : Type 0 where
  pub judged : JudgedTo text rest line
  pub some : 1 ≤ line
  pub few : line ≤ 257
  pub more : (line ≡ 1) ⊎ (0 < length rest)

module _ {text rest : List ℕ} {line : ℕ} (p : PatchesAt text rest line) where
  pub patches_bad : line < 257 → (Patch rest → ⊥) → Judged text (line + 1) 10
  patches_bad l none = bad_line p.judged 10 (bad_patch p.judged.here p.some (omega arith) p.more none) (omega arith)

  module _ (l : line < 257) (good : Patch rest) {next : List ℕ} (parted : Parted newline rest next) where
    read : JudgedTo text next (line + 1)
    read = judged_next p.judged (good_patch p.judged.here p.some (omega arith) good) parted

    -- the text ends after so many P lines
    pub patches_end : length next ≡ 0 → Accepted text line
    patches_end e =
        let end = at_end read.here (omega arith) (omega (arith, p.some)) e in
        record {
          few = omega arith;
          many = omega (arith, end.0);
          good = λ i h. good_next text (line + 1) read.good end.1 i (omega (arith, end.0));
        }

    pub patches_next : (length next ≡ 0 → ⊥) → PatchesAt text next (line + 1)
    patches_next h = record { judged = read; some = omega arith; few = omega arith; more = inr (omega (arith, h)) }

  pub patches_surplus : 257 ≤ line → Judged text 258 10
  patches_surplus l = go p.more
    where
      at_257 : JudgedTo text rest 257
      at_257 =
          let e : line ≡ 257 = omega (arith, p.few) in
          subst (JudgedTo text rest) e p.judged

      go : (line ≡ 1) ⊎ (0 < length rest) → Judged text 258 10
      go (inl e) = absurd (omega arith)
      go (inr short) = bad_line at_257 10 (surplus at_257.here (omega arith) (omega arith) short) (omega arith)

-- a bad line that is answered is that line
pub same_bad : {T : Type 0} {bad other : BadLine} → ◌≡◌ {A = Result T BadLine} (Err bad) (Err other) → bad ≡ other
same_bad e = cc

-- the first line is good
pub good_screen : (text : List ℕ) (read : Result (Screen × Bor (List ℕ)) Refusal) (found : Screen × Bor (List ℕ)) → ScreenSays text read
    → MatchResult read (λ x. ◌≡◌ {A = Result (Screen × Bor (List ℕ)) BadLine} (Ok found) (Ok x)) (λ refusal. ⊥) → ScreenSays text (Ok found)
good_screen text (Ok x) found says e =
    let same : found ≡ x = cc in
    rw same says
good_screen text (Err refusal) found says e = absurd e

-- the first line is bad
pub bad_screen : (text : List ℕ) (read : Result (Screen × Bor (List ℕ)) Refusal) (bad : BadLine) → ScreenSays text read
    → MatchResult read (λ x. Err bad ≡ Ok x) (λ refusal. bad ≡ record { line = 1; refusal = refusal }) → Judged text bad.line (number bad.refusal)
bad_screen text (Ok x) bad says e = cc
bad_screen text (Err refusal) bad says e =
    let start : JudgedTo text text 0 = record { here = reached_start newline text; good = λ k l. absurd (omega arith) } in
    rw e (bad_line start (number refusal) says (number_above refusal))
