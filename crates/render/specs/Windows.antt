-- Rules 7.1 to 7.4: what a window's cells and tallies are.
-- Assumes nothing: these are definitions.
use Rattle.std.specs.Prelude.{ℕ, ◌+◌, ◌*◌, ◌/◌, ◌%◌, List, get_or}
use Rattle.arith.specs.Run.{upto}
use Rattle.arith.specs.Tally.{tally}
use Rattle.screen.specs.declared.Screen.{Screen}
use Rattle.screen.specs.Phase.{phase}
use Rattle.separation.specs.declared.Separation.{Separation}
use Rattle.separation.specs.declared.Inks.{Inks}
use Rattle.separation.specs.Weights.{inks_of}
use Rattle.quantiser.specs.Subscreens.{colorant_of}
use Rattle.render.specs.declared.Window.{Window}

-- rule 7.1: how many cells a window has
abbrev pub area : Window → ℕ
area w = w.columns * w.rows

-- rule 7.2: the ink values of pixel i
abbrev pub inks_at : List ℕ → ℕ → Inks
inks_at input i = inks_of (get_or input (3 * i) 0) (get_or input (3 * i + 1) 0) (get_or input (3 * i + 2) 0)

-- rule 7.8: the colorant of a place for ink values of its own
unfoldable pub cell_of : Screen → Separation → ℕ → ℕ → Inks → ℕ
cell_of s sep x y inks = colorant_of s sep inks (phase s x y)

-- rule 7.3: cell i stands in column i mod W and row ⌊i / W⌋ of the window, and has the ink values of pixel i
unfoldable pub window_cell : Screen → Separation → Window → List ℕ → ℕ → ℕ
window_cell s sep w input i = cell_of s sep (w.x + i % w.columns) (w.y + i / w.columns) (inks_at input i)

-- rule 7.3: the output
unfoldable pub window_cells : Screen → Separation → Window → List ℕ → List ℕ
window_cells s sep w input = upto (window_cell s sep w input) (area w)

-- rule 7.4: the eight tallies
unfoldable pub tallies_of : List ℕ → List ℕ
tallies_of cells = upto (λ j. tally j cells) 8
