-- The laws of specs/Laws.antt, proved.
-- Assumes nothing.
use mathlib.Core.Path.{sym, ap, ◌∙◌}
use native.Mathlib.Nat.{le_of_eq}
use native.Mathlib.Omega.{arith}
use borrow.Author.Tests.{ne_eqb}
use Rattle.arith.proofs.SumLaws.{sum_alone}
use Rattle.screen.specs.Screens.{refusal_of}
use Rattle.screen.proofs.Published.{admitted_words}
use Rattle.quantiser.specs.Running.{count}
use Rattle.quantiser.proofs.Published.{counts_add_up}
use Rattle.predict.specs.Predicted.{primary, colour_of}
use Rattle.predict.specs.Numbered.{predict_refusal, ruled}
use Rattle.predict.specs.Cellular as Cellular
use Rattle.predict.specs.Cellular.{record_of, weight_at, set_at}
use Rattle.predict.specs.Laws.{RuledRefused, FullTone, SetsNumbered, SetsHold, WeightsAddUp, WeightsDivide, HeldAddUp, CellularFullTone}
use Rattle.predict.proofs.Steps.{bad_none, predicted_mean}
use Rattle.predict.proofs.WholeLaws.{mean_whole}
use Rattle.predict.proofs.CellularLaws as CellularLaws
use Rattle.predict.proofs.CellularSteps.{no_bad_set, cellular_mean_lem}
pub use Rattle.predict.proofs.WholeLaws.{whole_itself}

pub ruled_refused : RuledRefused
unfolding ruled predict_refusal
ruled_refused s sep inks ps h = rw (ne_eqb (refusal_of s) 0 h, ne_eqb (refusal_of s) 0 h)

pub full_tone : FullTone
full_tone s ok sep inks v ps good h l all x y z wx wy wz =
    let limits = (admitted_words s).0 ok in
    let none = sum_alone 8 (count s sep inks) h l (counts_add_up s ok sep inks v ∙ sym all) in
    predicted_mean s sep inks ps ok (le_of_eq (sym (bad_none ps good)))
    ∙ ap colour_of (mean_whole s.n h (count s sep inks) (primary ps) limits.cells_above limits.cells_limit l all none good x y z wx wy wz)

-- ---- cellular prediction

pub sets_numbered : SetsNumbered
sets_numbered c k l = (CellularLaws.set_above c k, CellularLaws.set_below c k l)

pub sets_hold : SetsHold
sets_hold = CellularLaws.sets_hold

pub weights_add_up : WeightsAddUp
weights_add_up s ok sep inks v = CellularLaws.weights_sum (count s sep inks) ∙ counts_add_up s ok sep inks v

pub weights_divide : WeightsDivide
weights_divide = CellularLaws.weight_divides

pub held_add_up : HeldAddUp
held_add_up = CellularLaws.held

pub cellular_full_tone : CellularFullTone
cellular_full_tone s ok sep inks v values due good h l all x y z wx wy wz =
    let limits = (admitted_words s).0 ok in
    let c = count s sep inks in
    let none = sum_alone 8 c h l (counts_add_up s ok sep inks v ∙ sym all) in
    let some = limits.cells_above in
    let own = CellularLaws.alone_set c s.n h some l all none in
    cellular_mean_lem s sep inks values ok due (le_of_eq (sym (no_bad_set values good)))
    ∙ ap Cellular.colour_of
    (mean_whole s.n 0 (weight_at c) (λ k. record_of values (set_at c k)) some limits.cells_limit (omega arith)
    (CellularLaws.alone_weight c s.n h some l all none)
    (CellularLaws.alone_weightless c s.n h some l all none)
    (λ k m. good (set_at c k) (CellularLaws.set_above c k) (CellularLaws.set_below c k m))
    x y z (rw own wx) (rw own wy) (rw own wz))
