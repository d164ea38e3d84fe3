-- `plates::unpacking::unpack` meets its contract: each return is one law of Refusals. Assumes nothing.
use mathlib.Core.Path.{◌∙◌}
use Rattle.std.proofs.lemmas.Result.{err_from_is_err_and}
use Rattle.arith.proofs.RefusalLaws.{failed, passed}
use Rattle.plates.proofs.SoundLaws.{unpackable, apart_told}
use Rattle.plates.proofs.Refusals.{size_5, size_lengths, size_passed, size_kept, unpack_error, unpack_9, unpack_0}
use Rattle.plates.proofs.unpacking.unpack.Goals as goal

pub returns-in_err-window : goal.returns-in_err-window
returns-in_err-window c =
    let p = err_from_is_err_and c.from_residual.result c.from_residual.ensures.1 in
    let told = unpack_error c.args.columns c.args.rows c.args.planes.now c.args.cells.now _ (size_5 _ _ _ _ _ _ _ c.in_err-window.ensures.refused) in
    rw (p.1, p.2) (record { refused = told.0; memory = told.1 })

pub returns-in_err-check_lengths : goal.returns-in_err-check_lengths
returns-in_err-check_lengths c =
    let window = c.in_ok-window.window in
    let same = c.in_ok-window.ensures.made in
    let p = err_from_is_err_and c.from_residual-in_err-check_lengths.result c.from_residual-in_err-check_lengths.ensures.1 in
    let lengths = rw (c.planes_length.ensures, c.cells_length.ensures) at c.in_err-check_lengths.ensures in
    let told = unpack_error window.columns window.rows c.args.planes.now c.args.cells.now _ (lengths ∙ size_lengths _ _ _ _ _ _ window.wide window.high) in
    rw (p.1, p.2, ← same.0, ← same.1) (record { refused = told.0; memory = told.1 })

pub new-eight-requires : goal.new-eight-requires
new-eight-requires c =
    let window = c.in_ok-window.window in
    let lengths = rw (c.planes_length.ensures, c.cells_length.ensures) at c.in_ok-check_lengths.ensures in
    (size_kept _ _ _ _ _ _ (size_passed _ _ _ _ _ _ window.wide window.high lengths)).1

pub returns-then-not-sound : goal.returns-then-not-sound
returns-then-not-sound c =
    let window = c.in_ok-window.window in
    let same = c.in_ok-window.ensures.made in
    let lengths = rw (c.planes_length.ensures, c.cells_length.ensures) at c.in_ok-check_lengths.ensures in
    let size = size_passed _ _ _ _ _ _ window.wide window.high lengths in
    let sound = rw (c.new-eight.ensures.same_window, c.new-eight.ensures.same_bytes) at (failed c.sound.ensures c.if-not-sound.true) in
    let told = unpack_9 window.columns window.rows c.args.planes.now c.args.cells.now size sound in
    rw (← same.0, ← same.1) (record { refused = told.0; memory = told.1 })

pub invariant_of-write_cells : goal.invariant_of-write_cells
invariant_of-write_cells c =
    let planes = c.new-eight.result in
    let sound = passed c.sound.ensures c.if-not-sound.false in
    record { unpackable = unpackable _ _ _ planes.window.wide planes.one planes.eight sound; apart = apart_told _ _ _ planes.window.wide planes.one planes.eight sound }

pub write_cells-requires : goal.write_cells-requires
write_cells-requires c =
    let window = c.in_ok-window.window in
    let lengths = rw (c.planes_length.ensures, c.cells_length.ensures) at c.in_ok-check_lengths.ensures in
    rw c.new-eight.ensures.same_window (size_kept _ _ _ _ _ _ (size_passed _ _ _ _ _ _ window.wide window.high lengths)).2

pub returns : goal.returns
returns c =
    let window = c.in_ok-window.window in
    let same = c.in_ok-window.ensures.made in
    let lengths = rw (c.planes_length.ensures, c.cells_length.ensures) at c.in_ok-check_lengths.ensures in
    let size = size_passed _ _ _ _ _ _ window.wide window.high lengths in
    let sound = rw (c.new-eight.ensures.same_window, c.new-eight.ensures.same_bytes) at (passed c.sound.ensures c.if-not-sound.false) in
    let written = rw (c.new-eight.ensures.same_window, c.new-eight.ensures.same_bytes) at c.write_cells.ensures in
    let whole = unpack_0 window.columns window.rows _ _ size sound in
    rw (← same.0, ← same.1) (record { refused = whole.0; memory = written ∙ whole.1 })
