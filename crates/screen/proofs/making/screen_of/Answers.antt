-- `screen::making::screen_of` meets its contract. Assumes nothing.
use Rattle.screen.proofs.BrickLaws.{rows_pos}
use Rattle.screen.proofs.making.screen_of.Goals as goal

pub nonzero_div-result : goal.nonzero_div-result
nonzero_div-result c = rw c.gcd-rows.ensures (rows_pos _ _ c.requires.3)

pub shift_of-requires : goal.shift_of-requires
shift_of-requires c =
    let limits = c.requires in
    (limits.0, limits.1, limits.2, limits.3, limits.4, c.gcd-rows.ensures)

pub returns : goal.returns
returns c = rw (c.gcd-rows.ensures, c.shift_of.ensures)
