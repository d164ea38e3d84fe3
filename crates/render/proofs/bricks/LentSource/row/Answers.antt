-- `render::bricks::LentSource::row` meets its contract, by the laws of a brick's row (BrickRow). Assumes nothing.
use Rattle.render.proofs.BrickRow.{line_length, line_reads}
use Rattle.render.proofs.bricks.LentSource.row.Goals as goal

pub returns : goal.returns
returns c =
    let s = c.args.self.now in
    λ i. rw (line_length s.lent c.args.y) (line_reads s.lent c.args.x c.args.y i)
