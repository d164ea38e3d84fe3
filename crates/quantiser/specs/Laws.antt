-- What `quantiser` promises of its definitions to the crates above. Each is a statement; proofs/Published.antt proves it.
-- Assumes nothing.
use Rattle.std.specs.Prelude.{ℕ, suc, ◌+◌, ◌-◌, ◌*◌, ◌≤◌, ◌<◌, ◌≡◌, List, length, get_or, eqb, leb}
use Rattle.arith.specs.Sum.{sum_below, indicator}
use Rattle.arith.specs.First.{first_below}
use Rattle.arith.specs.Rounding.{Rounded, before}
use Rattle.arith.specs.Run.{upto}
use Rattle.screen.specs.declared.Screen.{Screen}
use Rattle.screen.specs.Screens.{refusal_of, Admitted}
use Rattle.separation.specs.declared.Separation.{Separation}
use Rattle.separation.specs.declared.Inks.{Inks}
use Rattle.separation.specs.Weights.{weight, scale_of}
use Rattle.separation.specs.Laws.{InkValues}
use Rattle.quantiser.specs.Running.{weight_up_to, running, count, counts_of}
use Rattle.quantiser.specs.Subscreens.{subscreen_size, subscreen_start, subscreen_of, distance_of, fill_up_to, colorant_at, colorant_of, phases_in, phases_of}
use Rattle.quantiser.specs.Leaves.{threshold_at, threshold_of, thresholds_in, lone_threshold, levels_of, rank}

-- a statement of every admitted screen, separation and ink values
abbrev pub Always : (Screen → Separation → Inks → Type 0) → Type 0
Always P = (s : Screen) → Admitted s → (sep : Separation) (inks : Inks) → InkValues inks → P s sep inks

-- ---- running sums and counts

-- rule 5.2: C never falls, and C(7) = N
abbrev pub RunningRises : Type 0
RunningRises = (s : Screen) (sep : Separation) (inks : Inks) (j : ℕ) → running s sep inks j ≤ running s sep inks (suc j)

abbrev pub RunningEnds : Type 0
RunningEnds = Always (λ s sep inks. running s sep inks 7 ≡ s.n)

-- rule 5.4: the counts add up to N
abbrev pub CountsAddUp : Type 0
CountsAddUp = Always (λ s sep inks. sum_below 8 (count s sep inks) ≡ s.n)

-- so that none is above N
abbrev pub CountWithin : Type 0
CountWithin = Always (λ s sep inks. (j : ℕ) → j < 8 → count s sep inks j ≤ s.n)

-- rules 4.5 and 13.5, the count is the share rounded down or up: of one colorant, and of all
abbrev pub ShareRounded : Screen → Separation → Inks → ℕ → Type 0
ShareRounded s sep inks j = Rounded (s.n * weight sep inks j) (scale_of sep) (count s sep inks j)

abbrev pub CountShare : Type 0
CountShare = Always (λ s sep inks. (j : ℕ) → ShareRounded s sep inks j)

-- rule 5.3, no halves: 2 × N × A(j) is never an odd multiple of D
abbrev pub HalvesNever : Type 0
HalvesNever = (s : Screen) (sep : Separation) (inks : Inks) (j m : ℕ) → 2 * (s.n * weight_up_to sep inks j) ≡ (2 * m + 1) * scale_of sep → ⊥

-- what `counts` answers: the screen's refusal, and for an admitted screen the counts
abbrev pub CountsAnswered : Type 0
CountsAnswered =
    (s : Screen) (sep : Separation) (inks : Inks)
    → ((counts_of s sep inks).refusal ≡ refusal_of s) × (Admitted s → (counts_of s sep inks).of ≡ upto (count s sep inks) 8)

-- D is at most 255 × 255 × 255, so that a renderer's products of it fit
abbrev pub ScaleLimit : Type 0
ScaleLimit = (sep : Separation) → scale_of sep ≤ 16581375

-- ---- subscreens

-- rule 6.1: the subscreens' sizes add up to N
abbrev pub SubscreensAddUp : Type 0
SubscreensAddUp = (s : Screen) → Admitted s → subscreen_start s s.k ≡ s.n

-- rule 6.2, they follow each other: the phase at distance q in subscreen k is the q-th from its start, and every phase below N is such a one
abbrev pub SubscreenPlaces : Type 0
SubscreenPlaces =
    (s : Screen) → Admitted s → (k q : ℕ) → k < s.k → q < subscreen_size s k
    → (subscreen_of s (subscreen_start s k + q) ≡ k) × (distance_of s (subscreen_start s k + q) ≡ q)

abbrev pub PhasePlace : Type 0
PhasePlace =
    (s : Screen) → Admitted s → (p : ℕ) → p < s.n
    → (subscreen_of s p < s.k) × (distance_of s p < subscreen_size s (subscreen_of s p)) × (subscreen_start s (subscreen_of s p) + distance_of s p ≡ p)

-- ---- colorants of phases

-- rule 6.3: every phase below N has a colorant
abbrev pub ColorantBelow : Type 0
ColorantBelow = Always (λ s sep inks. (p : ℕ) → p < s.n → colorant_of s sep inks p < 8)

-- rule 6.4: in subscreen k exactly ⌊(C(j) + k) / K⌋ − ⌊(C(j − 1) + k) / K⌋ phases have colorant j
abbrev pub PhasesInSubscreen : Type 0
PhasesInSubscreen =
    Always
    (λ s sep inks. (k j : ℕ) → k < s.k → j < 8
    → phases_in s sep inks k j ≡ fill_up_to s sep inks k j - before (fill_up_to s sep inks k) j)

-- rules 6.4 and 13.6, subscreens share evenly: of a number of cells of colorant j, that it is the colorant's count / K rounded down or up; and
-- that the number of its phases in each subscreen is such a one
abbrev pub SplitEvenly : Screen → Separation → Inks → ℕ → ℕ → Type 0
SplitEvenly s sep inks j cells = Rounded (count s sep inks j) s.k cells

abbrev pub SubscreenShare : Type 0
SubscreenShare = Always (λ s sep inks. (k j : ℕ) → k < s.k → j < 8 → SplitEvenly s sep inks j (phases_in s sep inks k j))

-- rule 6.4: over all phases exactly the count have colorant j
abbrev pub PhasesInAll : Type 0
PhasesInAll = Always (λ s sep inks. (j : ℕ) → j < 8 → phases_of s sep inks j ≡ count s sep inks j)

-- ---- thresholds

-- rule 6.5: a cell has the first colorant whose running sum is at least its threshold
abbrev pub ThresholdLaw : Type 0
ThresholdLaw =
    Always
    (λ s sep inks. (k q : ℕ) → k < s.k
    → colorant_at s sep inks k q ≡ first_below 8 (λ j. leb (threshold_at s k q) (running s sep inks j)))

-- rule 6.5: the thresholds of the phases are 1 to N, each exactly once
abbrev pub ThresholdWithin : Type 0
ThresholdWithin = (s : Screen) → Admitted s → (p : ℕ) → p < s.n → (1 ≤ threshold_of s p) × (threshold_of s p ≤ s.n)

abbrev pub ThresholdOnce : Type 0
ThresholdOnce =
    (s : Screen) → Admitted s → (t : ℕ) → 1 ≤ t → t ≤ s.n → sum_below s.n (λ p. indicator (eqb (threshold_of s p) t)) ≡ 1

-- a table with the thresholds written to it is as long as before, and has each phase's at its number
abbrev pub ThresholdListed : Type 0
ThresholdListed =
    (s : Screen) → Admitted s → (table : List ℕ) → s.n ≤ length table
    → (length (thresholds_in s table) ≡ length table) × ((p : ℕ) → p < s.n → get_or (thresholds_in s table) p 0 ≡ threshold_of s p)

-- what `threshold` answers for a phase that the screen has
abbrev pub ThresholdAnswered : Type 0
ThresholdAnswered = (s : Screen) → Admitted s → (p : ℕ) → p < s.n → lone_threshold s p ≡ threshold_of s p

-- a rank is a colorant's number
abbrev pub RankBelow : Type 0
RankBelow = (levels : List ℕ) (bar : ℕ) → rank levels bar < 8

-- and that of 0, which is above no level, is 0
abbrev pub RankNone : Type 0
RankNone = (levels : List ℕ) → rank levels 0 ≡ 0

-- a phase's colorant is the rank of its threshold, scaled by 2 × D, among the levels
abbrev pub ColorantRank : Type 0
ColorantRank =
    Always (λ s sep inks. (p : ℕ) → p < s.n → rank (levels_of s.n sep inks) (2 * scale_of sep * threshold_of s p) ≡ colorant_of s sep inks p)
