-- `quantiser::counting::running_sum` meets its contract: what each separation divides by is 2 × its own D. Assumes nothing.
use Prim.Native.Nat.{◌*◌, ◌/◌}
use mathlib.Core.Path.{sym, ap}
use Rattle.separation.specs.declared.Separation.{Separation}
use Rattle.separation.specs.Weights.{scale_of}
use Rattle.quantiser.proofs.counting.running_sum.Goals as goal

pub returns-in-Demichel : goal.returns-in-Demichel
unfolding scale_of
returns-in-Demichel c = sym (ap (λ (sep : Separation). c.args.level / (2 * scale_of sep)) c.in-Demichel.is)

pub returns-in-Kueppers : goal.returns-in-Kueppers
unfolding scale_of
returns-in-Kueppers c =
    sym (ap (λ (sep : Separation). c.args.level / (2 * scale_of sep)) c.in-Kueppers.is)
