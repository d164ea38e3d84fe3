-- The loop over a window's rows, whatever cells it writes: rows and tallies so far, and the parts that are lent for the next row.
-- Assumes nothing.
use Prim.Native.Nat.{ℕ, ◌+◌, ◌-◌, ◌*◌, ◌/◌, ◌%◌, ◌≤◌, ◌<◌}
use mathlib.Core.Path.{◌≡◌, refl, sym, ap, ◌∙◌}
use mathlib.Core.List.{List, [], ◌∷◌, ◌++◌}
use native.Mathlib.Nat.{mul-le-mul_right}
use native.Mathlib.Omega.{arith}
use lib.Arith.{digits_div, digits_mod}
use lib.ListN.{length, get_or, take, drop, length-take, length-drop}
use borrow.Rule.Slice.PartMut.{put_mid}
use Rattle.arith.specs.Run.{upto}
use Rattle.arith.specs.Tally.{tally}
use Rattle.arith.proofs.RunLaws.{Filling, filling_start, filling_at, filling_length, filling_part, filling_whole, part_length, part_at, upto_length, upto_at, upto_add, upto_same, upto_most}
use Rattle.arith.proofs.TallyLaws.{tally_append, tally_most}
use Rattle.screen.specs.declared.Screen.{Screen}
use Rattle.separation.specs.declared.Separation.{Separation}
use Rattle.quantiser.specs.Subscreens.{colorant_of}
use Rattle.render.specs.Windows.{inks_at, tallies_of}
use Rattle.render.specs.Rows.{cells_by, tallied_on, RowLent, RowsLent}
use Rattle.render.proofs.RefusalLaws.{area_limit}

-- the part of a list that is lent for a row
abbrev pub part : List ℕ → ℕ → ℕ → List ℕ
part l from to = take (to - from) (drop from l)

-- ---- the cells of a row

-- the cell of pixel i of a window, that in column u and row v at the phase number f u v
unfoldable pub cell_in : Screen → Separation → List ℕ → ℕ → (ℕ → ℕ → ℕ) → ℕ → ℕ
cell_in s sep input columns f i = colorant_of s sep (inks_at input i) (f (i % columns) (i / columns))

-- the ink values in the part that is lent for a row
inks_of_part : (input : List ℕ) (columns from i : ℕ) → i < columns → inks_at (part input (3 * from) (3 * (from + columns))) i ≡ inks_at input (from + i)
inks_of_part input columns from i l =
    rw (byte (3 * i) (3 * (from + i)) (omega arith) (omega arith), byte (3 * i + 1) (3 * (from + i) + 1) (omega arith) (omega arith), byte (3 * i + 2) (3 * (from + i) + 2) (omega arith) (omega arith))
  where
    byte : (k m : ℕ) → k < 3 * columns → 3 * from + k ≡ m → get_or (part input (3 * from) (3 * (from + columns))) k 0 ≡ get_or input m 0
    byte k m h q = part_at (3 * from) (3 * (from + columns)) input k (omega arith) ∙ ap (λ (z : ℕ). get_or input z 0) q

-- the cells of row j by its part of the input are the window's next
pub next_cells : (s : Screen) (sep : Separation) (input : List ℕ) (columns : ℕ) (f : ℕ → ℕ → ℕ) (g : ℕ → ℕ) (j : ℕ) → ((i : ℕ) → g i ≡ f i j)
    → cells_by s sep (part input (3 * (j * columns)) (3 * (j * columns + columns))) g columns ≡ upto (λ i. cell_in s sep input columns f (j * columns + i)) columns
unfolding cells_by cell_in
next_cells s sep input columns f g j same =
    upto_same _ _ columns (λ i l. rw (digits_mod j l, digits_div j l, inks_of_part input columns (j * columns) i l, same i))

-- ---- the loop

pub record WindowAt (cell : ℕ → ℕ) (columns : ℕ) (out₀ out tallies : List ℕ) (j : ℕ) : Type 0 where
  pub cells : Filling cell out₀ out (j * columns)
  pub counts : tallies ≡ tallies_of (upto cell (j * columns))

pub window_start : (cell : ℕ → ℕ) (columns : ℕ) (out : List ℕ) → WindowAt cell columns out out (0 ∷ 0 ∷ 0 ∷ 0 ∷ 0 ∷ 0 ∷ 0 ∷ 0 ∷ []) 0
unfolding upto tally tallies_of
window_start cell columns out =
    let none : 0 ≡ 0 * columns = omega arith in
    record { cells = filling_at (filling_start _ out) none; counts = ap (λ (k : ℕ). tallies_of (upto cell k)) none }

-- tallies with those of some more cells are the tallies of all of them
tallied_more : (cells more : List ℕ) {tallies : List ℕ} → tallies ≡ tallies_of cells → tallied_on tallies more ≡ tallies_of (cells ++ more)
unfolding tallied_on tallies_of
tallied_more cells more e =
    upto_same _ _ 8 (λ k l. ap (λ (t : ℕ). t + tally k more) (ap (λ (t : List ℕ). get_or t k 0) e ∙ upto_at _ 8 k l) ∙ sym (tally_append k cells more))

module _ {cell : ℕ → ℕ} {columns : ℕ} {out₀ out tallies : List ℕ} {j : ℕ} (v : WindowAt cell columns out₀ out tallies j) where
  window_length : length out ≡ length out₀
  window_length = filling_length v.cells

  window_eight : length tallies ≡ 8
  unfolding tallies_of
  window_eight = ap length v.counts ∙ upto_length _ 8

  -- a tally is at most the number of cells written
  window_count : (k : ℕ) → get_or tallies k 0 ≤ j * columns
  unfolding tallies_of
  window_count k = rw v.counts (upto_most _ 8 k (j * columns) (omega (arith, tally_most k (upto cell (j * columns)), upto_length cell (j * columns))))

  module _ {rows : ℕ} (h : j < rows) where
    -- a row before the last ends within the window
    next_fits : j * columns + columns ≤ columns * rows
    next_fits = omega (arith, mul-le-mul_right columns h)

    module _ {x y inputs : ℕ} (w : RowsLent x y columns rows inputs (length out₀)) where
      -- few enough cells are written with it
      next_few : j * columns + columns ≤ 65536 * 65536
      next_few = omega (arith, next_fits, area_limit x y columns rows w.wide w.high)

      -- the parts that are lent for it
      pub out_part : length (part out (j * columns) (j * columns + columns)) ≡ columns
      out_part = part_length (j * columns) columns out (omega (arith, window_length, next_fits, w.cells))

      pub row_lent : (input : List ℕ) → length input ≡ inputs
          → RowLent (length (part input (3 * (j * columns)) (3 * (j * columns + columns)))) (length (part out (j * columns) (j * columns + columns))) tallies
      row_lent input e =
          let bytes : length (part input (3 * (j * columns)) (3 * (j * columns + columns))) ≡ 3 * columns = simp (length-take, length-drop) (omega (arith, next_fits, w.bytes)) in
          record {
            bytes = bytes ∙ ap (λ (k : ℕ). 3 * k) (sym out_part);
            eight = window_eight;
            room = λ k. rw out_part (omega (arith, window_count k, next_few));
          }

      -- and what is written with it
      pub window_step : (row tallies' : List ℕ) → row ≡ upto (λ i. cell (j * columns + i)) columns → tallies' ≡ tallied_on tallies row
          → WindowAt cell columns out₀ (put_mid (j * columns) (j * columns + columns - j * columns) out row) tallies' (j + 1)
      window_step row tallies' next more =
          record {
            cells = filling_at (filling_part v.cells columns row (omega (arith, next_fits, w.cells)) next) (omega arith);
            counts = more ∙ ap (tallied_on tallies) next ∙ tallied_more _ _ v.counts ∙ ap tallies_of (sym (upto_add cell (j * columns) columns)) ∙ ap (λ (k : ℕ). tallies_of (upto cell k)) (omega arith);
          }

  pub window_end : (rows : ℕ) → rows ≤ j → length out₀ ≡ columns * rows → (out ≡ upto cell (length out₀)) × (tallies ≡ tallies_of out)
  window_end rows h e =
      let all : columns * rows ≤ j * columns = omega (arith, mul-le-mul_right columns h) in
      let whole : out ≡ upto cell (length out₀) = filling_whole v.cells (length out₀) refl (omega arith) in
      (whole, v.counts ∙ ap tallies_of (ap (upto cell) (omega (arith, v.cells.within)) ∙ sym whole))
