-- The loops over subscreens, over plain numbers and lists: that of `rank_phases`, which has written the thresholds of the first k, and that
-- of `threshold_of`, which passes the k that end before a phase.
-- Assumes nothing.
use Prim.Native.Nat.{ℕ, suc, ◌+◌, ◌-◌, ◌*◌, ◌/◌, ◌≤◌, ◌<◌}
use mathlib.Core.Path.{◌≡◌, refl, sym, ap, ap₂, ◌∙◌}
use mathlib.Core.List.{List, ◌++◌}
use native.Mathlib.Nat.{div-mul-le_self, not-le_of_lt}
use native.Mathlib.Numerals.{add-one}
use native.Mathlib.Omega.{arith}
use lib.ListN.{length, take, drop}
use borrow.Rule.Slice.PartMut.{put_mid}
use Rattle.arith.specs.Run.{upto}
use Rattle.arith.specs.Sum.{sum_below}
use Rattle.arith.proofs.RunLaws.{upto_same, part_length, Filling, filling_start, filling_length, filling_part}
use Rattle.arith.proofs.StepLaws.{rises_to}
use Rattle.screen.specs.declared.Screen.{Screen}
use Rattle.screen.specs.Screens.{Admitted}
use Rattle.quantiser.specs.Subscreens.{subscreen_size, subscreen_start}
use Rattle.quantiser.specs.Leaves.{threshold_at, threshold_of}
use Rattle.quantiser.proofs.SubscreenLaws.{start_step, start_rises, sizes_add_up, place_of}

pub record RankAt (s : Screen) (table₀ table : List ℕ) (k start : ℕ) : Type 0 where
  pub most : k ≤ s.k
  pub begins : start ≡ subscreen_start s k
  pub cells : Filling (threshold_of s) table₀ table start

pub rank_start : (s : Screen) (table : List ℕ) → RankAt s table table 0 0
unfolding subscreen_start sum_below
rank_start s table = record { most = omega arith; begins = refl; cells = filling_start _ _ }

module _ {s : Screen} {table₀ table : List ℕ} {k start : ℕ} (ok : Admitted s) (r : RankAt s table₀ table k start) where
  pub rank_length : length table ≡ length table₀
  rank_length = filling_length r.cells

  module _ (l : k < s.k) where
    -- the next subscreen begins where this ends, within the N phases
    next_begins : start + (s.n + k) / s.k ≡ subscreen_start s (k + 1)
    unfolding subscreen_size
    next_begins = rw (add-one, start_step s ok k) (ap (λ (z : ℕ). z + (s.n + k) / s.k) r.begins)

    pub next_fits : start + (s.n + k) / s.k ≤ s.n
    next_fits = omega (arith, next_begins, rises_to (subscreen_start s) (start_rises s ok) (k + 1) s.k (omega arith), sizes_add_up s ok)

    module _ (room : s.n ≤ length table₀) where
      -- the part that is lent for it
      pub part_size : length (take (start + (s.n + k) / s.k - start) (drop start table)) ≡ (s.n + k) / s.k
      part_size = part_length start ((s.n + k) / s.k) table (omega (arith, rank_length, next_fits))

      pub part_small : length (take (start + (s.n + k) / s.k - start) (drop start table)) * s.k ≤ s.n + k
      part_small = rw part_size (div-mul-le_self (s.n + k) s.k)

      -- and what is written there
      pub rank_next : (out : List ℕ) → out ≡ upto (λ q. (q + 1) * s.k - k) (length (take (start + (s.n + k) / s.k - start) (drop start table)))
          → RankAt s table₀ (put_mid start (start + (s.n + k) / s.k - start) table out) (k + 1) (start + (s.n + k) / s.k)
      unfolding threshold_of threshold_at subscreen_size
      rank_next out e =
          record {
            most = omega arith;
            begins = next_begins;
            cells = filling_part r.cells ((s.n + k) / s.k) out (omega (arith, next_fits)) (e ∙ ap (upto (λ q. (q + 1) * s.k - k)) part_size ∙ upto_same _ _ _ there);
          }
        where
          there : (q : ℕ) → q < (s.n + k) / s.k → (q + 1) * s.k - k ≡ threshold_of s (start + q)
          there q h =
              let place = place_of s ok k q l h in
              rw r.begins (sym (ap₂ (λ (i d : ℕ). threshold_at s i d) place.0 place.1))

  pub rank_end : s.k ≤ k → table ≡ upto (threshold_of s) s.n ++ drop s.n table₀
  rank_end h =
      let last : k ≡ s.k = omega (arith, r.most) in
      r.cells.cells ∙ ap (λ (i : ℕ). upto (threshold_of s) i ++ drop i table₀) (r.begins ∙ ap (subscreen_start s) last ∙ sizes_add_up s ok)

-- ---- passing subscreens

-- the subscreens before k have so many phases, at most p
pub record PassedAt (s : Screen) (p k passed : ℕ) : Type 0 where
  pub most : k ≤ s.k
  pub begins : passed ≡ subscreen_start s k
  pub reached : passed ≤ p

module _ {s : Screen} {p : ℕ} where
  pub passed_start : PassedAt s p 0 0
  unfolding subscreen_start sum_below
  passed_start = record { most = omega arith; begins = refl; reached = omega arith }

module _ {s : Screen} {p k passed : ℕ} (ok : Admitted s) (r : PassedAt s p k passed) where
  module _ (l : k < s.k) where
    -- where subscreen k ends, within the N phases
    passed_ends : passed + (s.n + k) / s.k ≡ subscreen_start s (suc k)
    unfolding subscreen_size
    passed_ends = sym (start_step s ok k ∙ ap (λ (z : ℕ). z + (s.n + k) / s.k) (sym r.begins))

    pub ends_within : passed + (s.n + k) / s.k ≤ s.n
    ends_within = omega (arith, passed_ends, rises_to (subscreen_start s) (start_rises s ok) (suc k) s.k l, sizes_add_up s ok)

    pub passed_next : passed + (s.n + k) / s.k ≤ p → PassedAt s p (k + 1) (passed + (s.n + k) / s.k)
    passed_next h = record { most = omega arith; begins = rw add-one passed_ends; reached = h }

    pub passed_end : p < passed + (s.n + k) / s.k → (p - passed + 1) * s.k - k ≡ threshold_of s p
    unfolding threshold_of threshold_at
    passed_end h =
        let place = place_of s ok k (p - passed) l (omega (arith, r.begins, r.reached, passed_ends, start_step s ok k)) in
        let here : subscreen_start s k + (p - passed) ≡ p = omega (arith, r.begins, r.reached) in
        sym (ap₂ (λ (i d : ℕ). threshold_at s i d) place.0 place.1) ∙ ap (threshold_of s) here

  -- a phase that the screen has is not beyond all subscreens
  pub passed_all : p < s.n → s.k ≤ k → ⊥
  passed_all l h =
      let last : k ≡ s.k = omega (arith, r.most) in
      not-le_of_lt l (omega (arith, r.reached, r.begins ∙ ap (subscreen_start s) last ∙ sizes_add_up s ok))
