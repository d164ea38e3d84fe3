-- The laws of specs/Laws.antt, proved.
-- Assumes nothing.
use native.Mathlib.Omega.{arith}
use mathlib.Core.Path.{sym}
use Rattle.arith.proofs.SumLaws.{sum_term}
use Rattle.separation.proofs.Published.{weights_add_up, scale_odd}
use Rattle.quantiser.specs.Running.{count}
use Rattle.quantiser.specs.Laws.{RunningRises, RunningEnds, CountsAddUp, CountWithin, CountShare, HalvesNever, CountsAnswered, ScaleLimit, SubscreensAddUp, SubscreenPlaces, PhasePlace, ColorantBelow, PhasesInSubscreen, SubscreenShare, PhasesInAll, ThresholdLaw, ThresholdWithin, ThresholdOnce, ThresholdListed, ThresholdAnswered, RankBelow, RankNone, ColorantRank}
use Rattle.quantiser.proofs.LevelLaws as LevelLaws
use Rattle.quantiser.proofs.RunningLaws as RunningLaws
use Rattle.quantiser.proofs.SubscreenLaws as SubscreenLaws
use Rattle.quantiser.proofs.ThresholdLaws as ThresholdLaws

-- ---- running sums and counts

pub running_rises : RunningRises
running_rises = RunningLaws.running_rises

pub running_ends : RunningEnds
running_ends s ok sep inks v = RunningLaws.running_ends s sep inks (weights_add_up sep inks v)

pub counts_add_up : CountsAddUp
counts_add_up s ok sep inks v = RunningLaws.counts_add_up s sep inks (weights_add_up sep inks v)

pub count_within : CountWithin
count_within s ok sep inks v j l = omega (arith, sum_term 8 (count s sep inks) j l, counts_add_up s ok sep inks v)

pub count_share : CountShare
count_share s ok sep inks v j = (RunningLaws.count_low s sep inks j, RunningLaws.count_high s sep inks j)

pub halves_never : HalvesNever
halves_never s sep inks j m e = omega (arith, (scale_odd sep).1)

pub counts_answered : CountsAnswered
counts_answered = RunningLaws.counts_answered

pub scale_limit : ScaleLimit
scale_limit = LevelLaws.scale_limit

-- ---- subscreens

pub subscreens_add_up : SubscreensAddUp
subscreens_add_up = SubscreenLaws.sizes_add_up

pub subscreen_places : SubscreenPlaces
subscreen_places = SubscreenLaws.place_of

pub phase_place : PhasePlace
phase_place = SubscreenLaws.phase_place

-- ---- colorants of phases

pub colorant_below : ColorantBelow
colorant_below s ok sep inks v = SubscreenLaws.colorant_below s ok sep inks (running_ends s ok sep inks v)

pub phases_in_subscreen : PhasesInSubscreen
phases_in_subscreen s ok sep inks v = SubscreenLaws.phases_in_lem s ok sep inks (running_ends s ok sep inks v)

pub subscreen_share : SubscreenShare
subscreen_share s ok sep inks v k j l h =
    let ends = running_ends s ok sep inks v in
    (SubscreenLaws.share_low s ok sep inks ends k j l h, SubscreenLaws.share_high s ok sep inks ends k j l h)

pub phases_in_all : PhasesInAll
phases_in_all s ok sep inks v = SubscreenLaws.phases_in_all s ok sep inks (running_ends s ok sep inks v)

-- ---- thresholds

pub threshold_law : ThresholdLaw
threshold_law s ok sep inks v = ThresholdLaws.threshold_law s sep inks

pub threshold_within : ThresholdWithin
threshold_within = ThresholdLaws.threshold_within

pub threshold_once : ThresholdOnce
threshold_once = ThresholdLaws.threshold_once

pub threshold_listed : ThresholdListed
threshold_listed = LevelLaws.thresholds_listed

pub threshold_answered : ThresholdAnswered
threshold_answered s ok p l = sym (LevelLaws.lone_whole s p ok l)

pub rank_below : RankBelow
rank_below = ThresholdLaws.rank_below

pub rank_none : RankNone
rank_none = ThresholdLaws.rank_none

pub colorant_rank : ColorantRank
colorant_rank s ok sep inks v = ThresholdLaws.colorant_rank s sep inks ok (running_ends s ok sep inks v)
