-- What the functions below the two renderers ask and promise (rules 7.6 and 7.7). A row's functions know no screen, only how many cells
-- it has and a table with the thresholds of its phases; what they write is said by the rule, for each screen that the table is of.
-- Assumes nothing: these are definitions.
use Rattle.std.specs.Prelude.{ℕ, ◌+◌, ◌*◌, ◌≤◌, ◌<◌, ◌≡◌, List, length, get_or}
use Rattle.arith.specs.Run.{upto}
use Rattle.arith.specs.Tally.{tally}
use Rattle.screen.specs.declared.Screen.{Screen}
use Rattle.screen.specs.declared.bricks.Brick.{Brick}
use Rattle.screen.specs.Screens.{Admitted}
use Rattle.screen.specs.Brick.{brick_place}
use Rattle.separation.specs.declared.Separation.{Separation}
use Rattle.separation.specs.declared.Inks.{Inks}
use Rattle.separation.specs.Weights.{scale_of}
use Rattle.quantiser.specs.Subscreens.{colorant_of}
use Rattle.quantiser.specs.Leaves.{threshold_of, levels_of, rank}
use Rattle.render.specs.declared.cells.Paint.{Paint}
use Rattle.render.specs.Windows.{inks_at}

-- ---- the table and the brick

-- a table that holds the thresholds of all phases of an admitted screen of n cells
pub record TableOf (s : Screen) (n : ℕ) (table : List ℕ) : Type 0 where
  pub admitted : Admitted s
  pub cells : s.n ≡ n
  pub long : n ≤ length table
  pub listed : (p : ℕ) → p < n → get_or table p 0 ≡ threshold_of s p

-- the table of some screen of n cells
abbrev pub Table : ℕ → List ℕ → Type 0
Table n table = (s : Screen) × TableOf s n table

-- a brick of n places in columns and rows, with any numbers below n in them
pub record BrickLent (n : ℕ) (size : Brick) (brick : List ℕ) : Type 0 where
  pub wide : 0 < size.columns
  pub high : 0 < size.rows
  pub places : size.rows * size.columns ≡ n
  pub shifted : size.shift < size.columns
  pub long : n ≤ length brick
  pub low : (i : ℕ) → i < n → get_or brick i 0 < n

-- the number that is read from a brick for the place (x, y)
abbrev pub number_read : Brick → List ℕ → ℕ → ℕ → ℕ
number_read size brick x y = get_or brick (brick_place size.columns size.rows size.shift x y) 0

-- ---- cells by their phase numbers

-- Pixel i is at the phase number f i. Its cell is the colorant of that phase for the pixel's own ink values.
unfoldable pub cells_by : Screen → Separation → List ℕ → (ℕ → ℕ) → ℕ → List ℕ
cells_by s sep input f cells = upto (λ i. colorant_of s sep (inks_at input i) (f i)) cells

-- what is written: so many of these cells, on the screen that the table is of
abbrev pub Cells : ℕ → Separation → List ℕ → List ℕ → (ℕ → ℕ) → ℕ → List ℕ → Type 0
Cells n sep table input f cells out = (s : Screen) → TableOf s n table → out ≡ cells_by s sep input f cells

-- eight tallies with those of some more cells added
unfoldable pub tallied_on : List ℕ → List ℕ → List ℕ
tallied_on tallies cells = upto (λ j. get_or tallies j 0 + tally j cells) 8

-- ---- a row, and the rows of a window, as they are lent

-- three bytes of input a cell, and tallies with room for the row
pub record RowLent (inputs outputs : ℕ) (tallies : List ℕ) : Type 0 where
  pub bytes : inputs ≡ 3 * outputs
  pub eight : length tallies ≡ 8
  pub room : (j : ℕ) → get_or tallies j 0 + outputs ≤ 65536 * 65536

-- a window on the sheet with at least one column, three bytes of input and one of output a cell
pub record RowsLent (x y columns rows inputs outputs : ℕ) : Type 0 where
  pub across : 0 < columns
  pub wide : x + columns ≤ 65536
  pub high : y + rows ≤ 65536
  pub bytes : inputs ≡ 3 * (columns * rows)
  pub cells : outputs ≡ columns * rows

-- ---- one cell

-- a cell painted with some ink values at a threshold
unfoldable pub paint_of : ℕ → Separation → Inks → ℕ → Paint
paint_of n sep inks t =
    record {
      inks = inks;
      unit = 2 * scale_of sep;
      levels = levels_of n sep inks;
      cell = rank (levels_of n sep inks) (2 * scale_of sep * t);
    }

-- a paint's levels are those of its own ink values, and its unit is the separation's
abbrev pub Own : ℕ → Separation → Paint → Type 0
Own n sep paint = (paint.unit ≡ 2 * scale_of sep) × (paint.levels ≡ levels_of n sep paint.inks)
