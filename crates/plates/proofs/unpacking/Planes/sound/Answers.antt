-- `plates::unpacking::Planes::sound` meets its contract: row by row, and both tests at once (SoundLaws). Assumes nothing.
use Prim.Native.Nat.{ℕ, ◌*◌}
use mathlib.Core.Path.{refl, ◌∙◌}
use native.Mathlib.Omega.{arith}
use borrow.Author.Tests.{tests}
use Rattle.std.proofs.Common.{rules}
use Rattle.std.proofs.lemmas.Iterator.{YieldsList-from_range}
use Rattle.std.proofs.lemmas.Iterator.Search.{all_from_yields_List}
use Rattle.plates.specs.Planes.{row_bytes}
use Rattle.plates.specs.Places.{row_once}
use Rattle.plates.proofs.SoundLaws.{sound_is}
use Rattle.plates.proofs.UnpackLoops.{all_numbers}
use Rattle.plates.proofs.unpacking.Planes.sound.Goals as goal

pub returns : goal.returns
returns c =
    let planes = c.args.self in
    let rows = planes.window.rows in
    let passes = λ (y : ℕ). row_once planes.window.columns (rows * row_bytes planes.window.columns) planes.bytes.now (y * row_bytes planes.window.columns) in
    all_from_yields_List passes _ _ _ c.all.ensures.ran (YieldsList-from_range 0 rows rows refl (omega arith)) (λ y b q k. search (rules, tests))
    ∙ all_numbers rows passes
    ∙ sound_is _ _ _
