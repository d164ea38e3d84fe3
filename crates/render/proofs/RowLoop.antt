-- The loop over a row: what a painted cell is, cells and tallies so far, and that on the screen that the table is of a cell by the
-- table is the colorant of its phase number.
-- Assumes nothing.
use Prim.Native.Nat.{ℕ, ◌+◌, ◌*◌, ◌%◌, ◌≤◌, ◌<◌}
use mathlib.Core.Path.{◌≡◌, refl, sym, ap, ap₂, ◌∙◌}
use mathlib.Core.List.{List}
use native.Mathlib.Nat.{mul-le-mul, mul-zero, add-zero, mod-eq_of_lt, mod-add-mod}
use native.Mathlib.Numerals.{add-one}
use native.Mathlib.Omega.{arith}
use lib.ListN.{length, get_or, set}
use Rattle.arith.specs.Run.{upto}
use Rattle.arith.proofs.RunLaws.{Filling, filling_start, filling_store, filling_whole, upto_length, upto_same, upto_most}
use Rattle.arith.proofs.TallyLaws.{tally_most, tallies_bump, tallies_none}
use Rattle.separation.specs.declared.Separation.{Separation}
use Rattle.separation.specs.declared.Inks.{Inks}
use Rattle.separation.specs.Weights.{scale_of}
use Rattle.separation.specs.Laws.{InkValues}
use Rattle.quantiser.specs.Subscreens.{colorant_of}
use Rattle.quantiser.specs.Leaves.{levels_of, rank}
use Rattle.quantiser.proofs.Published.{scale_limit, rank_below, colorant_rank}
use Rattle.render.specs.declared.cells.Paint.{Paint}
use Rattle.render.specs.Windows.{inks_at}
use Rattle.render.specs.Rows.{cells_by, Cells, tallied_on, paint_of, Own}

-- ---- one cell

-- a painted cell has its own levels, and is a colorant's number
pub paint_own : (n : ℕ) (sep : Separation) (inks : Inks) (t : ℕ) {paint : Paint} → paint ≡ paint_of n sep inks t → Own n sep paint
unfolding paint_of
paint_own n sep inks t e = rw e (refl, refl)

pub paint_small : (n : ℕ) (sep : Separation) (inks : Inks) (t : ℕ) {paint : Paint} → paint ≡ paint_of n sep inks t → paint.cell < 8
unfolding paint_of
paint_small n sep inks t e = rw e (rank_below _ _)

-- what the bar of a threshold is at most
pub bar_limit : (sep : Separation) (unit t : ℕ) → unit ≡ 2 * scale_of sep → t ≤ 65535 → unit * t ≤ 33162750 * 65535
bar_limit sep unit t e h = mul-le-mul {n₁ = unit} {m₁ = t} {n₂ = 33162750} {m₂ = 65535} (omega (arith, e, scale_limit sep)) h

-- the cell of pixel i by the table: the rank of its phase number's threshold among its levels
unfoldable pub cell_by : ℕ → Separation → List ℕ → List ℕ → (ℕ → ℕ) → ℕ → ℕ
cell_by n sep table input f i = rank (levels_of n sep (inks_at input i)) (2 * scale_of sep * get_or table (f i) 0)

module _ (n : ℕ) (sep : Separation) (table input : List ℕ) (f : ℕ → ℕ) where
  pub paint_cell : (i t : ℕ) {paint : Paint} → paint ≡ paint_of n sep (inks_at input i) t → t ≡ get_or table (f i) 0 → paint.cell ≡ cell_by n sep table input f i
  unfolding paint_of cell_by
  paint_cell i t e q = rw (e, q)

  -- ON THE SCREEN THAT THE TABLE IS OF it is the colorant of its phase number
  pub by_rule : ((k : ℕ) → get_or input k 0 ≤ 255) → ((i : ℕ) → f i < n) → (cells : ℕ) {out : List ℕ} → out ≡ upto (cell_by n sep table input f) cells → Cells n sep table input f cells out
  unfolding cells_by cell_by
  by_rule bytes low cells e s t = e ∙ upto_same _ _ cells (λ i l. cell i)
    where
      cell : (i : ℕ) → cell_by n sep table input f i ≡ colorant_of s sep (inks_at input i) (f i)
      cell i =
          let values : InkValues (inks_at input i) = record { c_value = bytes _; m_value = bytes _; y_value = bytes _ } in
          ap₂ (λ (m q : ℕ). rank (levels_of m sep (inks_at input i)) (2 * scale_of sep * q)) (sym t.cells) (t.listed (f i) (low i))
          ∙ colorant_rank s t.admitted sep (inks_at input i) values (f i) (rw t.cells (low i))

-- ---- the phase that is carried, and the column that goes round

pub carried_first : (p a n : ℕ) → p < n → p ≡ (p + a * 0) % n
carried_first p a n h = sym (rw (mul-zero, add-zero) (mod-eq_of_lt h))

pub carried_on : (p a n i q : ℕ) → q ≡ (p + a) % n → (q + a * i) % n ≡ (p + a * (i + 1)) % n
carried_on p a n i q e = rw e (mod-add-mod (p + a) n (a * i) ∙ ap (λ (z : ℕ). z % n) (omega arith))

pub round_first : (p n : ℕ) → p < n → p ≡ (p + 0) % n
round_first p n h = sym (rw add-zero (mod-eq_of_lt h))

pub round_on : (p n i q : ℕ) → q ≡ (p + 1) % n → (q + i) % n ≡ (p + (i + 1)) % n
round_on p n i q e = rw e (mod-add-mod (p + 1) n i ∙ ap (λ (z : ℕ). z % n) (omega arith))

-- ---- the loop

pub record RowAt (cell : ℕ → ℕ) (out₀ tallies₀ out tallies : List ℕ) (i : ℕ) : Type 0 where
  pub cells : Filling cell out₀ out i
  pub counts : tallies ≡ tallied_on tallies₀ (upto cell i)

pub row_start : (cell : ℕ → ℕ) (out tallies : List ℕ) → length tallies ≡ 8 → RowAt cell out tallies out tallies 0
unfolding tallied_on upto
row_start cell out tallies eight = record { cells = filling_start _ _; counts = tallies_none tallies 8 eight }

module _ {cell : ℕ → ℕ} {out₀ tallies₀ out tallies : List ℕ} {i : ℕ} (r : RowAt cell out₀ tallies₀ out tallies i) where
  -- a tally has grown by at most one for each cell
  pub row_count : (k : ℕ) → get_or tallies k 0 ≤ get_or tallies₀ k 0 + i
  unfolding tallied_on
  row_count k = rw r.counts (upto_most _ 8 k _ (omega (arith, tally_most k (upto cell i), upto_length cell i)))

  pub row_step : (v : ℕ) → i < length out₀ → v ≡ cell i → v < 8 → RowAt cell out₀ tallies₀ (set out i v) (set tallies v (get_or tallies v 0 + 1)) (i + 1)
  unfolding tallied_on upto
  row_step v h e small =
      record {
        cells = filling_store r.cells v h e;
        counts = rw (r.counts, add-one i, ← e) (tallies_bump (λ j. get_or tallies₀ j 0) (upto cell i) 8 v small);
      }

  pub row_end : length out₀ ≤ i → (out ≡ upto cell (length out₀)) × (tallies ≡ tallied_on tallies₀ out)
  row_end h =
      let whole : out ≡ upto cell (length out₀) = filling_whole r.cells (length out₀) refl h in
      (whole, r.counts ∙ ap (tallied_on tallies₀) (ap (upto cell) (omega (arith, r.cells.within)) ∙ sym whole))
