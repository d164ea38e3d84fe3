-- `plates::unpacking::Sound::write_pixels` meets its contract: each colorant has the three bits that the sums give it (ColorantLaws). Assumes nothing.
use mathlib.Core.Path.{refl}
use native.Mathlib.Omega.{arith}
use Rattle.arith.proofs.RunLaws.{filling_start, filling_length, filling_store, filling_whole}
use Rattle.plates.proofs.MaskLaws.{mask_pos}
use Rattle.plates.proofs.ColorantLaws.{sums_fit, three_bits}
use Rattle.plates.proofs.unpacking.Sound.write_pixels.Goals as goal

pub sum_of-ones-requires-clause-fits : goal.sum_of-ones-requires-clause-fits
sum_of-ones-requires-clause-fits c = (sums_fit _ _ _ (λ p. c.args.self.planes.small _) c.args.self.apart c.requires.there).0

pub sum_of-twos-requires-clause-fits : goal.sum_of-twos-requires-clause-fits
sum_of-twos-requires-clause-fits c = (sums_fit _ _ _ (λ p. c.args.self.planes.small _) c.args.self.apart c.requires.there).1

pub sum_of-fours-requires-clause-fits : goal.sum_of-fours-requires-clause-fits
sum_of-fours-requires-clause-fits c = (sums_fit _ _ _ (λ p. c.args.self.planes.small _) c.args.self.apart c.requires.there).2

pub loop-t-init : goal.loop-t-init
loop-t-init c = filling_start _ _

pub nonzero_div-pixel : goal.nonzero_div-pixel
nonzero_div-pixel c = rw c.mask_of-mask.ensures (mask_pos _)

pub nonzero_div-pixel-in-loop-t : goal.nonzero_div-pixel-in-loop-t
nonzero_div-pixel-in-loop-t c = rw c.mask_of-mask.ensures (mask_pos _)

pub nonzero_div-pixel-in-loop-t-2 : goal.nonzero_div-pixel-in-loop-t-2
nonzero_div-pixel-in-loop-t-2 c = rw c.mask_of-mask.ensures (mask_pos _)

pub loop-t-preserved : goal.loop-t-preserved
loop-t-preserved c =
    let room = c.loop-t-test.true in
    filling_store c.loop-t.invariant _ room
    (rw (c.mask_of-mask.ensures, c.sum_of-ones.ensures, c.sum_of-twos.ensures, c.sum_of-fours.ensures)
    (three_bits _ _ _ (λ p. c.args.self.planes.small _) c.args.self.apart c.requires.there _ (omega (arith, c.requires.few))))

pub shape_of-out : goal.shape_of-out
shape_of-out c = filling_length c.loop-t.invariant

pub returns : goal.returns
returns c = filling_whole c.loop-t.invariant _ refl c.loop-t-test.false
