-- The sheet.
-- Assumes nothing: these are definitions.
use Rattle.std.specs.Prelude.{ℕ, ◌+◌, Bool, ◌&&◌, leb}

-- Rules 2.1 and 7.1: whether a window of w columns and r rows with its corner at (x, y) lies on the sheet of 65,536 columns and as
-- many rows. Where it does not, refusal 5 applies (rule 11.9).
unfoldable pub on_sheet : ℕ → ℕ → ℕ → ℕ → Bool
on_sheet x y w r = leb (x + w) 65536 && leb (y + r) 65536
