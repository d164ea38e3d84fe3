-- A window on the sheet, by the two tests that a call makes of it.
-- Assumes nothing.
use Prim.Native.Nat.{ℕ, ◌+◌, ◌≤◌, ◌<◌}
use mathlib.Core.Path.{◌≡◌, sym, ◌∙◌}
use mathlib.Core.Bool.{true, false, ◌&&◌}
use native.Mathlib.Nat.{zero-add}
use lib.Dec.{leb}
use borrow.Author.Tests.{leb-true, le-leb, lt-leb}
use Rattle.arith.specs.Sheet.{on_sheet}
use Rattle.arith.proofs.RefusalLaws.{both_pass}

module _ (x y columns rows : ℕ) where
  pub off_right : 65536 < x + columns → on_sheet x y columns rows ≡ false
  unfolding on_sheet
  off_right h = rw (lt-leb _ _ h)

  module _ (right : x + columns ≤ 65536) where
    pub off_below : 65536 < y + rows → on_sheet x y columns rows ≡ false
    unfolding on_sheet
    off_below h = rw (le-leb _ _ right, lt-leb _ _ h)

    pub on_sheet_lem : y + rows ≤ 65536 → on_sheet x y columns rows ≡ true
    unfolding on_sheet
    on_sheet_lem h = rw (le-leb _ _ right, le-leb _ _ h)

  -- what a window on the sheet keeps
  pub sheet_kept : on_sheet x y columns rows ≡ true → (x + columns ≤ 65536) × (y + rows ≤ 65536)
  unfolding on_sheet
  sheet_kept e =
      let parts = both_pass _ _ e in
      (leb-true _ _ parts.0, leb-true _ _ parts.1)

-- a window at the sheet's corner
module _ (columns rows : ℕ) where
  pub at_corner : on_sheet 0 0 columns rows ≡ (leb columns 65536 && leb rows 65536)
  unfolding on_sheet
  at_corner = rw (zero-add columns, zero-add rows)

  pub corner_kept : on_sheet 0 0 columns rows ≡ true → (columns ≤ 65536) × (rows ≤ 65536)
  corner_kept e =
      let parts = both_pass _ _ (sym at_corner ∙ e) in
      (leb-true _ _ parts.0, leb-true _ _ parts.1)
