-- Which of its three texts the program writes: one for an input that is too long, one for an input with a bad line, and one for a good input.
-- Assumes nothing.
use Prim.Native.Nat.{ℕ, suc, ◌-◌, ◌≤◌, ◌<◌}
use mathlib.Core.Path.{◌≡◌, sym, ap, ◌∙◌}
use mathlib.Core.List.{List, []}
use native.Mathlib.Numerals.{one-add}
use native.Mathlib.Omega.{arith}
use lib.ListN.{length, get_or, length-drop}
use lib.Seq.{get_or-drop}
use Rattle.screen.specs.declared.Screen.{Screen}
use borrow.Author.Tests.{lt-ltb, le-ltb}
use Rattle.counts_text.specs.Text.{newline, lines, line_at}
use Rattle.counts_text.specs.Lines.{screen_in, counts_line, error_line}
use Rattle.counts_text.specs.Program.{line_refusal, first_bad, counts_lines, judged, counts_text}
use Rattle.counts_text.specs.Parsers.{Parted, Accepted, Judged, ArePatches, lines_of_counts}
use Rattle.counts_text.proofs.Fits as Fits
use Rattle.counts_text.proofs.JoinedLaws.{joined_same}

pub too_long : (text : List ℕ) → 65536 < length text → counts_text text ≡ error_line 0 10
unfolding counts_text
too_long text l = rw (lt-ltb 65536 (length text) l)

-- the lines after the first of a good text are P lines
module _ (text rest : List ℕ) (patches : ℕ) (ok : Accepted text patches) (parted : Parted newline text rest) where
  pub later : (i : ℕ) → line_at rest i ≡ line_at text (suc i)
  later i = sym (ap (λ (pieces : List (List ℕ)). get_or pieces i []) parted.others) ∙ get_or-drop 1 (lines text) i [] ∙ ap (λ (k : ℕ). get_or (lines text) k []) (one-add i)

  pub good_patches : ArePatches rest patches
  good_patches =
      record {
        many = omega (arith, ok.many, length-drop 1 (lines text), ap (λ (pieces : List (List ℕ)). length pieces) parted.others);
        form = λ i l. rw (later i) (Fits.patches text ok.good (omega (arith, ok.many)) i (omega (arith, ok.many)));
      }

  -- and their counts are written
  pub good_counts : (s : Screen) → s ≡ screen_in (line_at text 0) → lines_of_counts s rest patches ≡ counts_lines text
  unfolding counts_lines
  good_counts s e =
      let count : length (lines text) - 2 ≡ patches = omega (arith, ok.many) in
      rw (count, e) (joined_same patches _ _ (λ i l. ap (counts_line (screen_in (line_at text 0))) (later i)))

module _ (text : List ℕ) (short : length text ≤ 65536) where
  pub error_alone : first_bad text < length (lines text) → error_line (suc (first_bad text)) (line_refusal text (first_bad text)) ≡ counts_text text
  unfolding counts_text judged
  error_alone l = rw (le-ltb 65536 (length text) short, lt-ltb (first_bad text) (length (lines text)) l)

  pub bad_text : (line refusal : ℕ) → Judged text line refusal → error_line line refusal ≡ counts_text text
  bad_text line refusal j = rw (j.number, j.why) (error_alone j.there)

  pub good_text : (patches : ℕ) → Accepted text patches → counts_lines text ≡ counts_text text
  unfolding counts_text judged
  good_text patches ok =
      rw (le-ltb 65536 (length text) short, le-ltb (first_bad text) (length (lines text)) (omega (arith, Fits.none_first text ok.good)))
