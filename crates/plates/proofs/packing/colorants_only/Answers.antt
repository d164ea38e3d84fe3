-- `plates::packing::colorants_only` meets its contract. Assumes nothing.
use Rattle.std.proofs.Common.{◌≡◌, rules}
use Rattle.plates.proofs.PackLoops.{highest_of, highest_tells}
use Rattle.plates.proofs.packing.colorants_only.Goals as goal

pub returns : goal.returns
returns c =
    let all : c.fold.result ≡ highest_of 0 c.args.cells.now = search rules in
    rw all (highest_tells c.args.cells.now)
