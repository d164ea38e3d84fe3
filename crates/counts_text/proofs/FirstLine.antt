-- The first line of a text, as `screen_line` and `patch_line` take it apart: where it ends, its head, and its numbers.
-- Assumes nothing.
use Prim.Native.Nat.{ℕ, ◌≤◌, ◌<◌}
use mathlib.Core.Path.{◌≡◌, refl, sym, ap, ◌∙◌}
use mathlib.Core.Bool.{Bool, true, false, true≢false, cond}
use mathlib.Core.List.{List, [], ◌∷◌, ◌++◌}
use native.Mathlib.Omega.{arith}
use lib.ListN.{length, get_or}
use borrow.Author.Tests.{lt-ltb, ltb-true}
use Rattle.std.specs.Prelude.{Some, None}
use Rattle.arith.specs.Run.{upto}
use Rattle.arith.proofs.RunLaws.{upto_at}
use Rattle.screen.specs.Screens.{refusal_of}
use Rattle.separation.specs.declared.Separation.{Separation}
use Rattle.counts_text.specs.Text.{newline, split, lines, line_at, fields}
use Rattle.counts_text.specs.Lines.{are_numbers, number_at, is_screen, screen_in, screen_by, separation_in, inks_in, inks_by}
use Rattle.counts_text.specs.Program.{line_refusal}
use Rattle.counts_text.specs.Parsers.{head_s, head_p, Parted, Patch}
use Rattle.counts_text.proofs.SplitLaws.{parted_count}
use Rattle.counts_text.proofs.LineLaws.{number_limit}
use Rattle.counts_text.proofs.HeadLaws.{screen_headed, screen_head, patch_headed, patch_head}
use Rattle.counts_text.proofs.JudgeLaws.{first_unended, first_other, first_screen}

-- a test that cannot pass fails
cannot : (t : Bool) → (t ≡ true → ⊥) → t ≡ false
cannot true h = absurd (h refl)
cannot false h = refl

-- what the numbers of a line are, and that they are not, from what `numbers` answers
values_none : (t : Bool) (of : List ℕ) → None ≡ cond t (Some of) None → t ≡ false
values_none true of e = cc
values_none false of e = refl

values_some : (t : Bool) (of read : List ℕ) → Some read ≡ cond t (Some of) None → (t ≡ true) × (read ≡ of)
values_some true of read e = (refl, cc)
values_some false of read e = cc

-- ---- no byte 10 stands in the text
module _ (text : List ℕ) (e : split newline text ≡ text ∷ []) where
  pub screen_unended : line_refusal text 0 ≡ 10
  screen_unended = first_unended text (rw e refl)

  pub patch_unended : Patch text → ⊥
  patch_unended p = omega (arith, ltb-true 1 (length (lines text)) p.ended, ap (λ (pieces : List (List ℕ)). length pieces) e)

-- ---- its first byte 10 ends a line
module _ (text line rest : List ℕ) (e : split newline text ≡ line ∷ split newline rest) where
  pub next_line : Parted newline text rest
  next_line = record { others = rw e refl }

  more : 1 < length (lines text)
  more = parted_count next_line

  line_is : line_at text 0 ≡ line
  line_is = rw e refl

  screen_other : is_screen line ≡ false → line_refusal text 0 ≡ 10
  screen_other n = first_other text more (rw line_is n)

  pub screen_unheaded : ((values : List ℕ) → line ≡ head_s ++ values → ⊥) → line_refusal text 0 ≡ 10
  screen_unheaded h = screen_other (cannot _ (λ s. let head = screen_head line s in h head.0 head.1))

  module _ (values : List ℕ) (head : line ≡ head_s ++ values) where
    pub screen_unread : None ≡ cond (are_numbers 5 99999 (fields values)) (Some (upto (number_at (fields values)) 5)) None → line_refusal text 0 ≡ 10
    screen_unread n = screen_other ((screen_headed line values head).form ∙ values_none _ _ n)

    module _ (of : List ℕ) (n : Some of ≡ cond (are_numbers 5 99999 (fields values)) (Some (upto (number_at (fields values)) 5)) None) where
      pub screen_is : screen_by (λ j. get_or of j 0) ≡ screen_in (line_at text 0)
      unfolding upto
      screen_is = rw (line_is, (screen_headed line values head).values, (values_some _ _ _ n).1) refl

      pub screen_judged : line_refusal text 0 ≡ refusal_of (screen_by (λ j. get_or of j 0))
      screen_judged =
          first_screen text more (rw line_is ((screen_headed line values head).form ∙ (values_some _ _ _ n).0)) ∙ ap refusal_of (sym screen_is)

  -- no line but one with a head of the two is a P line
  pub patch_unheaded : ((sep : Separation) (values : List ℕ) → line ≡ head_p sep ++ values → ⊥) → Patch text → ⊥
  patch_unheaded h p = let head = patch_head line (rw line_is at p.form) in h head.0 head.1 head.2

  -- and one with such a head is, where its ink values are read
  module _ (sep : Separation) (values : List ℕ) (head : line ≡ head_p sep ++ values) where
    pub patch_unread : None ≡ cond (are_numbers 3 255 (fields values)) (Some (upto (number_at (fields values)) 3)) None → Patch text → ⊥
    patch_unread n p = true≢false (sym (rw line_is at p.form) ∙ (patch_headed sep line values head).form ∙ values_none _ _ n)

    module _ (of : List ℕ) (n : Some of ≡ cond (are_numbers 3 255 (fields values)) (Some (upto (number_at (fields values)) 3)) None) where
      pub ink_limit : (j : ℕ) → j < 3 → get_or of j 0 ≤ 255
      ink_limit j l = rw ((values_some _ _ _ n).1, upto_at (number_at (fields values)) 3 j l) (number_limit 3 255 (fields values) (values_some _ _ _ n).0 j l)

      pub patch_form : Patch text
      patch_form = record { ended = lt-ltb 1 (length (lines text)) more; form = rw line_is ((patch_headed sep line values head).form ∙ (values_some _ _ _ n).0) }

      pub patch_separation : sep ≡ separation_in (line_at text 0)
      patch_separation = sym (rw line_is (patch_headed sep line values head).separation)

      pub patch_inks : inks_by (λ j. get_or of j 0) ≡ inks_in (line_at text 0)
      unfolding upto
      patch_inks = rw (line_is, (patch_headed sep line values head).values, (values_some _ _ _ n).1) refl
