-- `plates::packing::Cells::write_place` meets its contract, by the law of a place (PackLoops). Assumes nothing.
use Prim.Native.Nat.{◌+◌, ◌*◌, ◌≤◌}
use native.Mathlib.Omega.{arith}
use lib.ListN.{length}
use Rattle.arith.proofs.RunLaws.{part_length}
use Rattle.plates.proofs.PlaceLaws.{row_ends, place_in}
use Rattle.plates.proofs.PackLoops.{packed_next, part_colorants, part_word}
use Rattle.plates.proofs.WordLaws.{stored_length}
use Rattle.plates.proofs.packing.Cells.write_place.Goals as goal

pub overflow_mul-first : goal.overflow_mul-first
overflow_mul-first c = omega (arith, row_ends _ c.args.self.window.columns _ c.requires.row, c.args.self.packable.long)

pub word_of-word-requires : goal.word_of-word-requires
word_of-word-requires c =
    let cells = c.args.self in
    let first = c.args.y * cells.window.columns + 8 * c.args.b in
    let inside : first + c.args.pixels ≤ length cells.bytes.now = omega (arith, row_ends _ cells.window.columns _ c.requires.row, cells.packable.long, c.requires.within) in
    record { few = rw (part_length first c.args.pixels cells.bytes.now inside) c.requires.few; colorants = part_colorants cells.bytes.now first c.args.pixels inside cells.packable.only }

pub put_word-requires : goal.put_word-requires
put_word-requires c =
    let window = c.args.self.window in
    rw (c.row_bytes.ensures, c.plane_length.ensures)
    (record { there = place_in window.columns _ _ _ c.requires.row c.requires.place; eight = omega (arith, c.requires.before.size) })

pub shape_of-planes : goal.shape_of-planes
shape_of-planes c = rw c.put_word.ensures (stored_length _ _ _ _ 8)

pub returns : goal.returns
returns c =
    let cells = c.args.self in
    let first = c.args.y * cells.window.columns + 8 * c.args.b in
    let inside : first + c.args.pixels ≤ length cells.bytes.now = omega (arith, row_ends _ cells.window.columns _ c.requires.row, cells.packable.long, c.requires.within) in
    rw (c.put_word.ensures, c.word_of-word.ensures, part_word cells.bytes.now first c.args.pixels inside, c.row_bytes.ensures, c.plane_length.ensures)
    (packed_next _ _ _ cells.packable _ _ _ c.requires.row c.requires.few c.requires.within c.requires.all (omega (arith, c.requires.place)) c.requires.before)
