-- A row of a brick, as it is taken out for a row: its part lies within the brick, and going round it from the right column reads the
-- brick at the places of the row. And a true brick has what that asks, and the phases of the sheet.
-- Assumes nothing.
use Prim.Native.Nat.{ℕ, ◌+◌, ◌-◌, ◌*◌, ◌/◌, ◌%◌, ◌≤◌, ◌<◌}
use mathlib.Core.Path.{◌≡◌, sym, ap, ◌∙◌}
use mathlib.Core.List.{List}
use native.Mathlib.Nat.{le_trans, le-mul_of_pos_right, mul_comm, mul-le-mul, mul-le-mul_right, mod-lt, div-lt_iff_lt-mul, div-le_self, div-add-mod'}
use native.Mathlib.Omega.{arith}
use lib.ListN.{length, get_or, take, drop}
use Rattle.arith.proofs.RunLaws.{part_length, part_at}
use Rattle.arith.proofs.RemainderLaws.{remainder_apart, remainder_on}
use Rattle.screen.specs.declared.Screen.{Screen}
use Rattle.screen.specs.declared.bricks.Brick.{Brick}
use Rattle.screen.specs.Screens.{Admitted}
use Rattle.screen.specs.Phase.{phase}
use Rattle.screen.specs.Brick.{columns, rows, shift, stored_brick, TrueBrick, brick_place}
use Rattle.screen.proofs.Published.{admitted_words, phase_below, brick_size, shift_words, read_from_brick}
use Rattle.render.specs.Rows.{BrickLent, number_read}

-- the part of a brick that is the line of row y, and the column in it that a row begins in
abbrev line_of : Brick → List ℕ → ℕ → List ℕ
line_of size brick y = take (y % size.rows * size.columns + size.columns - y % size.rows * size.columns) (drop (y % size.rows * size.columns) brick)

abbrev first_of : Brick → ℕ → ℕ → ℕ
first_of size x y = (x % size.columns + size.columns - size.shift * (y / size.rows) % size.columns) % size.columns

-- of a brick of few places, a row's shift is a number of few bits
module _ {n : ℕ} {size : Brick} {brick : List ℕ} (b : BrickLent n size brick) (few : n ≤ 4096) where
  pub columns_limit : size.columns ≤ 4096
  columns_limit = le_trans (rw (← b.places, mul_comm size.rows size.columns) (le-mul_of_pos_right size.columns b.high)) few

  pub behind_fits : (y : ℕ) → y < 65536 → size.shift * (y / size.rows) ≤ 4096 * 65536
  behind_fits y l =
      mul-le-mul {n₁ = size.shift} {m₁ = y / size.rows} {n₂ = 4096} {m₂ = 65536} (omega (arith, b.shifted, columns_limit)) (omega (arith, div-le_self y size.rows))

module _ {n : ℕ} {size : Brick} {brick : List ℕ} (b : BrickLent n size brick) where
  -- it lies within the brick
  line_fits : (y : ℕ) → y % size.rows * size.columns + size.columns ≤ n
  line_fits y = omega (arith, mul-le-mul_right size.columns (mod-lt y b.high), b.places)

  pub line_length : (y : ℕ) → length (line_of size brick y) ≡ size.columns
  line_length y = part_length (y % size.rows * size.columns) size.columns brick (omega (arith, line_fits y, b.long))

  line_at : (y i : ℕ) → i < size.columns → get_or (line_of size brick y) i 0 ≡ get_or brick (y % size.rows * size.columns + i) 0
  line_at y i l = part_at (y % size.rows * size.columns) (y % size.rows * size.columns + size.columns) brick i (omega arith)

  pub line_reads : (x y i : ℕ) → get_or (line_of size brick y) ((first_of size x y + i) % size.columns) 0 ≡ number_read size brick (x + i) y
  unfolding brick_place
  line_reads x y i =
      let behind : ℕ = size.shift * (y / size.rows) in
      line_at y _ (mod-lt _ b.wide)
      ∙ ap (λ (z : ℕ). get_or brick (y % size.rows * size.columns + z) 0)
      (ap (λ (z : ℕ). (z + i) % size.columns) (remainder_apart x behind size.columns b.wide) ∙ remainder_on x behind size.columns i b.wide)

-- ---- a true brick

module _ (s : Screen) (ok : Admitted s) (brick : List ℕ) (holds : TrueBrick s brick) (size : Brick) (stored : size ≡ stored_brick s) where
  e : size ≡ record { columns = columns s; rows = rows s; shift = shift s }
  e = let same = (admitted_words s).1 ok in rw (stored, same.columns_true, same.rows_true, same.shift_true)

  -- has what a row's function asks
  pub brick_lent : BrickLent s.n size brick
  brick_lent =
      let sizes = brick_size s ok in
      rw e
      record {
        wide = sizes.0;
        high = sizes.1;
        places = sizes.2;
        shifted = (shift_words s ok).0;
        long = (holds ok).0;
        low = low;
      }
    where
      low : (i : ℕ) → i < s.n → get_or brick i 0 < s.n
      low i l =
          let sizes = brick_size s ok in
          let down : i / columns s < rows s = (div-lt_iff_lt-mul sizes.0).1 (rw sizes.2 l) in
          let at : get_or brick i 0 ≡ phase s (i % columns s) (i / columns s) = ap (λ (k : ℕ). get_or brick k 0) (sym (div-add-mod' i (columns s))) ∙ (holds ok).1 (i % columns s) (i / columns s) (mod-lt i sizes.0) down in
          rw at (phase_below s ok _ _)

  -- and has the phases of the sheet
  pub brick_reads : (x y : ℕ) → number_read size brick x y ≡ phase s x y
  brick_reads x y = rw e (read_from_brick s ok brick holds x y).0
