-- `plates::packing::pack` meets its contract: each return is one law of Refusals. Assumes nothing.
use mathlib.Core.Path.{◌∙◌}
use Rattle.std.proofs.lemmas.Result.{err_from_is_err_and}
use Rattle.arith.proofs.RefusalLaws.{failed, passed}
use Rattle.plates.proofs.Refusals.{size_5, size_lengths, size_passed, size_kept, pack_error, pack_9, pack_0}
use Rattle.plates.proofs.packing.pack.Goals as goal

pub returns-in_err-window : goal.returns-in_err-window
returns-in_err-window c =
    let p = err_from_is_err_and c.from_residual.result c.from_residual.ensures.1 in
    let told = pack_error c.args.columns c.args.rows c.args.cells.now c.args.planes.now _ (size_5 _ _ _ _ _ _ _ c.in_err-window.ensures.refused) in
    rw (p.1, p.2) (record { refused = told.0; memory = told.1 })

pub returns-in_err-check_lengths : goal.returns-in_err-check_lengths
returns-in_err-check_lengths c =
    let window = c.in_ok-window.window in
    let same = c.in_ok-window.ensures.made in
    let p = err_from_is_err_and c.from_residual-in_err-check_lengths.result c.from_residual-in_err-check_lengths.ensures.1 in
    let lengths = rw (c.cells_length.ensures, c.planes_length.ensures) at c.in_err-check_lengths.ensures in
    let told = pack_error window.columns window.rows c.args.cells.now c.args.planes.now _ (lengths ∙ size_lengths _ _ _ _ _ _ window.wide window.high) in
    rw (p.1, p.2, ← same.0, ← same.1) (record { refused = told.0; memory = told.1 })

pub returns-then-not-colorants_only : goal.returns-then-not-colorants_only
returns-then-not-colorants_only c =
    let window = c.in_ok-window.window in
    let same = c.in_ok-window.ensures.made in
    let lengths = rw (c.cells_length.ensures, c.planes_length.ensures) at c.in_ok-check_lengths.ensures in
    let size = size_passed _ _ _ _ _ _ window.wide window.high lengths in
    let told = pack_9 window.columns window.rows c.args.cells.now c.args.planes.now size (failed c.colorants_only.ensures c.if-not-colorants_only.true) in
    rw (← same.0, ← same.1) (record { refused = told.0; memory = told.1 })

pub invariant_of-write_planes : goal.invariant_of-write_planes
invariant_of-write_planes c =
    let window = c.in_ok-window.window in
    let lengths = rw (c.cells_length.ensures, c.planes_length.ensures) at c.in_ok-check_lengths.ensures in
    let size = size_kept _ _ _ _ _ _ (size_passed _ _ _ _ _ _ window.wide window.high lengths) in
    record { packable = record { wide = window.wide; long = size.1; only = passed c.colorants_only.ensures c.if-not-colorants_only.false } }

pub write_planes-requires : goal.write_planes-requires
write_planes-requires c =
    let window = c.in_ok-window.window in
    let lengths = rw (c.cells_length.ensures, c.planes_length.ensures) at c.in_ok-check_lengths.ensures in
    (size_kept _ _ _ _ _ _ (size_passed _ _ _ _ _ _ window.wide window.high lengths)).2

pub returns : goal.returns
returns c =
    let window = c.in_ok-window.window in
    let same = c.in_ok-window.ensures.made in
    let lengths = rw (c.cells_length.ensures, c.planes_length.ensures) at c.in_ok-check_lengths.ensures in
    let size = size_passed _ _ _ _ _ _ window.wide window.high lengths in
    let whole = pack_0 window.columns window.rows _ _ size (passed c.colorants_only.ensures c.if-not-colorants_only.false) in
    rw (← same.0, ← same.1) (record { refused = whole.0; memory = c.write_planes.ensures ∙ whole.1 })
