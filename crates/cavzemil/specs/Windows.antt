-- What the calls on cells answer and what they leave in the output.
-- Assumes nothing: these are definitions.
use Rattle.std.specs.Prelude.{ℕ, List, length}
use Rattle.arith.specs.Run.{zeros}
use Rattle.arith.specs.Refusal.{answered, written}
use Rattle.screen.specs.declared.Screen as Screens
use Rattle.screen.specs.Phase.{place_refusal}
use Rattle.separation.specs.declared.Separation.{Separation}
use Rattle.separation.specs.declared.Inks.{Inks}
use Rattle.render.specs.declared.Window as Windows
use Rattle.render.specs.Answers as Renderings
use Rattle.render.specs.Windows.{cell_of, window_cells}
use Rattle.render.specs.Answers.{window_refusal, brick_refusal, answer_of}
use Rattle.cavzemil.specs.declared.screens.Screen.{Screen}
use Rattle.cavzemil.specs.declared.windows.Window.{Window}
use Rattle.cavzemil.specs.declared.windows.Cell.{Cell}
use Rattle.cavzemil.specs.declared.windows.Rendering.{Rendering}
use Rattle.cavzemil.specs.Separations.{separation_of, refused_for}
use Rattle.cavzemil.specs.Screens.{screen_of}

-- the library's window, and the answer of its renderers, field by field
abbrev pub window_of : Window → Windows.Window
window_of w = record { x = w.x; y = w.y; columns = w.columns; rows = w.rows }

abbrev pub rendering_laid : Renderings.Rendering → Rendering
rendering_laid r = record { refusal = r.refusal; tallies = r.tallies }

-- the answer of a renderer to a number that no separation has
abbrev pub unrendered : Rendering
unrendered = record { refusal = 100; tallies = zeros 8 }

-- ---- given the refusal

-- the colorant of a lone place
unfoldable pub cell_given : ℕ → Screens.Screen → Separation → ℕ → ℕ → Inks → Cell
cell_given refusal s sep x y inks = record { refusal = refusal; colorant = answered refusal (cell_of s sep x y inks) }

-- the tallies of a window's cells, and the output with the cells; zeros, and the output as it was, where the call is refused (rule 11.3)
unfoldable pub rendering_given : ℕ → Screens.Screen → Separation → Windows.Window → List ℕ → Rendering
rendering_given refusal s sep w input = rendering_laid (answer_of refusal (window_cells s sep w input))

unfoldable pub output_given : ℕ → Screens.Screen → Separation → Windows.Window → List ℕ → List ℕ → List ℕ
output_given refusal s sep w input out = written refusal (window_cells s sep w input) out

-- ---- `cavzemil_cell_at`

abbrev pub cell_answer : Screen → ℕ → ℕ → ℕ → Inks → Cell
cell_answer s separation x y inks =
    cell_given (refused_for separation (place_refusal (screen_of s) x y)) (screen_of s) (separation_of separation) x y inks

-- ---- `cavzemil_render`: 100, then the screen's and 5 to 7

abbrev pub render_refusal : Screen → ℕ → Window → List ℕ → List ℕ → ℕ
render_refusal s separation w input out = refused_for separation (window_refusal (screen_of s) (window_of w) (length input) (length out))

abbrev pub render_answer : Screen → ℕ → Window → List ℕ → List ℕ → Rendering
render_answer s separation w input out =
    rendering_given (render_refusal s separation w input out) (screen_of s) (separation_of separation) (window_of w) input

abbrev pub render_output : Screen → ℕ → Window → List ℕ → List ℕ → List ℕ
render_output s separation w input out =
    output_given (render_refusal s separation w input out) (screen_of s) (separation_of separation) (window_of w) input out

-- ---- `cavzemil_render_brick`: the same, then 8

abbrev pub brick_refused : Screen → ℕ → Window → List ℕ → List ℕ → List ℕ → ℕ
brick_refused s separation w input brick out = refused_for separation (brick_refusal (screen_of s) (window_of w) (length input) (length out) brick)

abbrev pub brick_answer : Screen → ℕ → Window → List ℕ → List ℕ → List ℕ → Rendering
brick_answer s separation w input brick out =
    rendering_given (brick_refused s separation w input brick out) (screen_of s) (separation_of separation) (window_of w) input

abbrev pub brick_output : Screen → ℕ → Window → List ℕ → List ℕ → List ℕ → List ℕ
brick_output s separation w input brick out =
    output_given (brick_refused s separation w input brick out) (screen_of s) (separation_of separation) (window_of w) input out
