-- Rules 13.1 to 13.7: what finished windows promise. Both renderers' contracts cite `FinishedWindow`; that they agree is `Agreement`.
-- Assumes nothing: these are statements.
use Rattle.std.specs.Prelude.{ℕ, ◌+◌, ◌*◌, ◌≤◌, ◌<◌, ◌≡◌, ◌&&◌, List, length, get_or, eqb}
use Rattle.arith.specs.Sum.{sum_below, indicator}
use Rattle.arith.specs.Tally.{tally}
use Rattle.screen.specs.declared.Screen.{Screen}
use Rattle.screen.specs.Screens.{Admitted}
use Rattle.screen.specs.Phase.{phase}
use Rattle.screen.specs.Brick as Brick
use Rattle.screen.specs.Laws.{times}
use Rattle.separation.specs.declared.Separation.{Separation}
use Rattle.separation.specs.declared.Inks.{Inks}
use Rattle.separation.specs.Laws.{InkValues}
use Rattle.quantiser.specs.Running.{count}
use Rattle.quantiser.specs.Subscreens.{subscreen_of}
use Rattle.quantiser.specs.Laws.{ShareRounded, SplitEvenly}
use Rattle.render.specs.declared.Window.{Window}
use Rattle.render.specs.Windows.{area, inks_at}
use Rattle.render.specs.Answers.{Rendering, rendering, rendered, brick_rendering, brick_rendered}

-- rule 13.1: a window of u by v bricks on the sheet, with the same ink values everywhere, and with runs of the right lengths
pub record Brickwork (s : Screen) (w : Window) (inks : Inks) (u v : ℕ) (input : List ℕ) (outputs : ℕ) : Type 0 where
  pub admitted : Admitted s
  pub bytes : InkValues inks
  pub columns : w.columns ≡ u * Brick.columns s
  pub rows : w.rows ≡ v * Brick.rows s
  pub right : w.x + w.columns ≤ 65536
  pub down : w.y + w.rows ≤ 65536
  pub inputs : length input ≡ 3 * area w
  pub one_triple : (i : ℕ) → i < area w → inks_at input i ≡ inks
  pub outputs_stated : outputs ≡ area w

-- rule 13.6: how many of the cells of the brick at (i, j) in the window have a phase in subscreen k and a byte that is the colorant
unfoldable pub bytes_in_subscreen : Screen → Window → List ℕ → ℕ → ℕ → ℕ → ℕ → ℕ
bytes_in_subscreen s w out i j k colorant =
    sum_below (Brick.rows s) (λ r. sum_below (Brick.columns s) (λ c.
    indicator (eqb (subscreen_of s (phase s (w.x + (i + c)) (w.y + (j + r)))) k && eqb (get_or out ((j + r) * w.columns + (i + c)) 0) colorant)))

-- rule 13.4, of one colorant
abbrev pub Counted : Screen → Separation → Inks → ℕ → ℕ → List ℕ → ℕ → Type 0
Counted s sep inks u v tallies j = get_or tallies j 0 ≡ u * v * count s sep inks j

pub record Even (s : Screen) (sep : Separation) (w : Window) (inks : Inks) (u v : ℕ) (answer : Rendering) (out : List ℕ) : Type 0 where
  -- rule 13.1: it is not refused
  pub not_refused : answer.refusal ≡ 0
  -- rule 13.2
  pub phases : (p : ℕ) → p < s.n → times s w.x w.y w.columns w.rows p ≡ u * v
  -- rule 13.3
  pub written : (j : ℕ) → j < 8 → get_or answer.tallies j 0 ≡ tally j out
  -- rule 13.4
  pub counted : (j : ℕ) → j < 8 → Counted s sep inks u v answer.tallies j
  -- rule 13.5
  pub shares : (j : ℕ) → j < 8 → ShareRounded s sep inks j
  -- rule 13.6, of the brick at (i, j) in the window
  pub subscreens : (i j : ℕ) → i + Brick.columns s ≤ w.columns → j + Brick.rows s ≤ w.rows → (k colorant : ℕ) → k < s.k → colorant < 8
      → SplitEvenly s sep inks colorant (bytes_in_subscreen s w out i j k colorant)

-- what a renderer promises of its answer and its output
abbrev pub FinishedWindow : Screen → Separation → Window → List ℕ → ℕ → Rendering → List ℕ → Type 0
FinishedWindow s sep w input outputs answer out = (inks : Inks) (u v : ℕ) → Brickwork s w inks u v input outputs → Even s sep w inks u v answer out

-- rule 13.7: both renderers agree, where the second is lent a true brick
abbrev pub Agreement : Type 0
Agreement =
    (s : Screen) (sep : Separation) (w : Window) (input brick out : List ℕ) → Brick.TrueBrick s brick
    → (brick_rendering s sep w input brick out ≡ rendering s sep w input out) × (brick_rendered s sep w input brick out ≡ rendered s sep w input out)
