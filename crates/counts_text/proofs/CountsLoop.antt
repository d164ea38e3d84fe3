-- The loop that writes the lines of counts: those of the first P lines are written, and there is room for all.
-- Assumes nothing.
use Prim.Native.Nat.{ℕ, suc, ◌+◌, ◌≤◌, ◌<◌}
use mathlib.Core.Path.{◌≡◌, refl, sym, ap, ◌∙◌}
use mathlib.Core.List.{List}
use native.Mathlib.Omega.{arith}
use lib.ListN.{length, length-append}
use Rattle.arith.specs.Run.{upto}
use Rattle.screen.specs.declared.Screen.{Screen}
use Rattle.separation.specs.declared.Separation.{Separation}
use Rattle.separation.specs.declared.Inks.{Inks}
use Rattle.quantiser.specs.Running.{count}
use Rattle.counts_text.specs.Text.{newline, line_at, joined}
use Rattle.counts_text.specs.Lines.{letter_c, screen_in, separation_in, inks_in, line_of, counts_line}
use Rattle.counts_text.specs.Parsers.{Parted, Accepted, ArePatches, lines_of_counts}
use Rattle.counts_text.proofs.SplitLaws.{Reached, reached_start, reached_piece, reached_next}
use Rattle.counts_text.proofs.JoinedLaws.{joined_next, joined_within}
use Rattle.counts_text.proofs.ProgramLaws.{later}
use Rattle.counts_text.specs.declared.writing.Output.{Output}
use Rattle.counts_text.specs.Output.{Puts}
use Rattle.counts_text.proofs.WroteLaws.{puts_none, puts_as, puts_then}

-- the line that is written for P line i, counted from 0
abbrev written : Screen → List ℕ → ℕ → List ℕ
written s text i = counts_line s (line_at text i)

pub record CountsAt (s : Screen) (text : List ℕ) (patches : ℕ) (start out : Output) (rest : List ℕ) (p : ℕ) : Type 0 where
  pub good : ArePatches text patches
  pub room : start.done + length (lines_of_counts s text patches) ≤ length start.text.now
  pub within : p ≤ patches
  pub here : Reached newline text rest p
  pub puts : Puts (joined p (written s text)) start out

pub counts_start : (s : Screen) (text : List ℕ) (patches : ℕ) (out : Output) → ArePatches text patches
    → out.done + length (lines_of_counts s text patches) ≤ length out.text.now → CountsAt s text patches out out text 0
unfolding joined
counts_start s text patches out good room =
    record { good = good; room = room; within = omega arith; here = reached_start newline text; puts = puts_none out }

module _ {s : Screen} {text : List ℕ} {patches : ℕ} {start out : Output} {rest : List ℕ} {p : ℕ} (c : CountsAt s text patches start out rest p) where
  module _ (l : p < patches) where
    module _ (sep : Separation) (inks : Inks) (a : sep ≡ separation_in (line_at rest 0)) (b : inks ≡ inks_in (line_at rest 0)) where
      -- the counts that are answered make its line
      pub counts_line_here : (counts : List ℕ) → counts ≡ upto (count s sep inks) 8 → line_of letter_c counts ≡ written s text p
      unfolding counts_line
      counts_line_here counts e = rw (e, a, b, reached_piece c.here) refl

      -- which is that of the whole text's line, where the P lines are what follows its first
      pub counts_line_lem : (whole : List ℕ) → Accepted whole patches → Parted newline whole text → s ≡ screen_in (line_at whole 0) → (counts : List ℕ)
          → counts ≡ upto (count s sep inks) 8 → line_of letter_c counts ≡ counts_line (screen_in (line_at whole 0)) (line_at whole (suc p))
      counts_line_lem whole good parted screen counts e =
          counts_line_here counts e ∙ ap (λ (z : Screen). counts_line z (line_at text p)) screen ∙ ap (counts_line (screen_in (line_at whole 0))) (later whole text patches good parted p)

      -- there is room for it
      pub counts_room : (counts : List ℕ) → counts ≡ upto (count s sep inks) 8 → out.done + length (line_of letter_c counts) ≤ length out.text.now
      counts_room counts e = rw (counts_line_here counts e) (omega (
        arith,
        c.room,
        joined_within patches (p + 1) (written s text) (omega arith),
        ap (λ (run : List ℕ). length run) (joined_next p (written s text)),
        length-append (joined p (written s text)) (written s text p),
        c.puts.done,
        c.puts.room,
      ))

      pub counts_step : (counts : List ℕ) → counts ≡ upto (count s sep inks) 8 → {after : Output} {next : List ℕ} → Parted newline rest next
          → Puts (line_of letter_c counts) out after → CountsAt s text patches start after next (p + 1)
      counts_step counts e parted q =
          record {
            good = c.good;
            room = c.room;
            within = omega arith;
            here = reached_next c.here parted;
            puts = puts_as (puts_then c.puts (puts_as q (counts_line_here counts e))) (sym (joined_next p (written s text)));
          }
