-- Laws of the answers that callers use.
-- Assumes nothing: these are statements.
use Rattle.std.specs.Prelude.{ℕ, ◌*◌, ◌≤◌, ◌≡◌, ◌⊎◌, List, [], ◌∷◌, length, get_or}
use Rattle.arith.specs.Run.{zeros}
use Rattle.arith.specs.Sum.{sum_below}
use Rattle.screen.specs.declared.Screen.{Screen}
use Rattle.separation.specs.declared.Separation.{Separation}
use Rattle.separation.specs.declared.Inks.{Inks}
use Rattle.render.specs.declared.Window.{Window}
use Rattle.render.specs.Answers.{Rendering, answer_of, rendering, rendered, brick_rendering, lone_cell}

-- rule 11.3: a refused renderer answers its refusal and eight zeros
abbrev pub AnswerRefused : Type 0
AnswerRefused = (r : ℕ) (cells : List ℕ) → (r ≡ 0 → ⊥) → answer_of r cells ≡ record { refusal = r; tallies = zeros 8 }

-- one of the renderers answers so to some call, refused or not
abbrev pub FromRenderer : Rendering → Type 0
FromRenderer r =
    (s : Screen) × (sep : Separation) × (w : Window) × (input : List ℕ) × (brick : List ℕ) × (out : List ℕ)
    × ((r ≡ rendering s sep w input out) ⊎ (r ≡ brick_rendering s sep w input brick out))

-- rules 7.1 and 7.4: its tallies are eight, and together no more than the sheet has cells
abbrev pub TalliesOnSheet : Type 0
TalliesOnSheet = (r : Rendering) → FromRenderer r → (length r.tallies ≡ 8) × (sum_below 8 (λ j. get_or r.tallies j 0) ≤ 65536 * 65536)

-- the window of 1 by 1 at a place, and ink values as its input
abbrev pub lone_window : ℕ → ℕ → Window
lone_window x y = record { x = x; y = y; columns = 1; rows = 1 }

abbrev pub lone_input : Inks → List ℕ
lone_input inks = inks.c ∷ inks.m ∷ inks.y ∷ []

-- rule 7.8: a lone cell is what `render` answers and writes for that window
abbrev pub LoneCellRendered : Type 0
LoneCellRendered =
    (s : Screen) (sep : Separation) (x y : ℕ) (inks : Inks)
    → lone_cell s sep x y inks
    ≡ record {
      refusal = (rendering s sep (lone_window x y) (lone_input inks) (0 ∷ [])).refusal;
      colorant = get_or (rendered s sep (lone_window x y) (lone_input inks) (0 ∷ [])) 0 0;
    }
