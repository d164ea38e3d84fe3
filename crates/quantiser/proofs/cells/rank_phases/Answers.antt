-- `quantiser::cells::rank_phases` meets its contract, by the laws of its loop (ThresholdLoop). The measure is how many subscreens are
-- left.
-- Assumes nothing.
use native.Mathlib.Omega.{arith}
use Rattle.screen.proofs.Published.{admitted_words}
use Rattle.quantiser.proofs.ThresholdLoop.{rank_start, rank_length, next_fits, part_small, rank_next, rank_end}
use Rattle.quantiser.proofs.cells.rank_phases.Goals as goal

pub loop-subscreen-init : goal.loop-subscreen-init
loop-subscreen-init c = rank_start _ _

pub overflow_add-size : goal.overflow_add-size
overflow_add-size c =
    let limits = (admitted_words _).0 c.requires.0 in
    omega (arith, limits.cells_limit, limits.subscreens_limit, c.loop-subscreen-test.true)

pub overflow_cast-next : goal.overflow_cast-next
overflow_cast-next c =
    let ok = c.requires.0 in
    omega (arith, next_fits ok c.loop-subscreen.invariant c.loop-subscreen-test.true, ((admitted_words _).0 ok).cells_limit)

pub overflow_add-next : goal.overflow_add-next
overflow_add-next c =
    let ok = c.requires.0 in
    omega (arith, next_fits ok c.loop-subscreen.invariant c.loop-subscreen-test.true, ((admitted_words _).0 ok).cells_limit)

pub offset_bounds-table-start : goal.offset_bounds-table-start
offset_bounds-table-start c =
    let ok = c.requires.0 in
    omega (arith, next_fits ok c.loop-subscreen.invariant c.loop-subscreen-test.true, ((admitted_words _).0 ok).cells_limit)

pub slice_bounds-rank_subscreen-end : goal.slice_bounds-rank_subscreen-end
slice_bounds-rank_subscreen-end c =
    let pre = c.requires in
    omega (arith, next_fits pre.0 c.loop-subscreen.invariant c.loop-subscreen-test.true, rank_length pre.0 c.loop-subscreen.invariant, pre.1)

pub rank_subscreen-requires : goal.rank_subscreen-requires
rank_subscreen-requires c =
    let pre = c.requires in
    let limits = (admitted_words _).0 pre.0 in
    (c.loop-subscreen-test.true, omega (arith, part_small pre.0 c.loop-subscreen.invariant c.loop-subscreen-test.true pre.1, limits.cells_limit, limits.subscreens_limit, c.loop-subscreen-test.true))

pub loop-subscreen-preserved : goal.loop-subscreen-preserved
loop-subscreen-preserved c =
    let pre = c.requires in
    rank_next pre.0 c.loop-subscreen.invariant c.loop-subscreen-test.true pre.1 _ c.rank_subscreen.ensures

pub shape_of-table : goal.shape_of-table
shape_of-table c = rank_length c.requires.0 c.loop-subscreen.invariant

pub returns : goal.returns
returns c = rank_end c.requires.0 c.loop-subscreen.invariant c.loop-subscreen-test.false
