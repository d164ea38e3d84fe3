-- Making and replacing: what is handed back, refused or not, and that it is admitted.
-- Assumes nothing.
use Prim.Native.Nat.{ℕ, ◌≤◌, ◌<◌}
use mathlib.Core.Path.{◌≡◌, refl, sym, ap, ◌∙◌}
use mathlib.Core.List.{List, [], ◌∷◌}
use native.Mathlib.Decide.{ℕ_discrete}
use native.Mathlib.Omega.{arith}
use borrow.Author.Tests.{eq-eqb, ne_eqb}
use Rattle.arith.specs.Refusal.{or_else, number}
use Rattle.arith.specs.declared.refusals.Refusal.{Refusal}
use Rattle.arith.proofs.RefusalLaws.{refused_first, refused_later, error_first, or_none}
use Rattle.screen.specs.declared.Screen.{Screen}
use Rattle.screen.specs.Screens.{screen_of, numbers_refusal, refusal_of, Admitted, Stored}
use Rattle.screen.specs.Made.{Made, handed_back, no_screen, made_of, replaced_by, Replacement, offset, subscreens, cells, replaced, after_all}
use Rattle.screen.proofs.Refusals.{numbers_most, stored_suffice, stored_admitted, refused_numbers, stored_kept}

-- ---- what is handed back

module _ (refusal : ℕ) (new other : Screen) where
  pub handed_new : refusal ≡ 0 → ◌≡◌ {A = Made} (record { refusal = 0; screen = new }) (handed_back refusal new other)
  handed_new e = rw (eq-eqb refusal 0 e, e)

  pub handed_other : (refusal ≡ 0 → ⊥) → ◌≡◌ {A = Made} (record { refusal = refusal; screen = other }) (handed_back refusal new other)
  handed_other h = rw (ne_eqb refusal 0 h)

-- ---- making

module _ (a b n k g : ℕ) where
  -- the stored numbers of a screen by its five numbers are true
  of_stored : Stored (screen_of a b n k g)
  of_stored = record { columns_true = refl; rows_true = refl; shift_true = refl }

  of_admitted : numbers_refusal a b n k g ≡ 0 → Admitted (screen_of a b n k g)
  of_admitted e = sym (stored_admitted (screen_of a b n k g) e (stored_suffice (screen_of a b n k g) of_stored))

  -- it is refused as the five numbers are
  of_refusal : numbers_refusal a b n k g ≡ refusal_of (screen_of a b n k g)
  of_refusal = go (ℕ_discrete (numbers_refusal a b n k g) 0)
    where
      go : Dec (numbers_refusal a b n k g ≡ 0) → numbers_refusal a b n k g ≡ refusal_of (screen_of a b n k g)
      go (yes e) = e ∙ sym (of_admitted e)
      go (no h) = refused_numbers (screen_of a b n k g) h

  -- what `make` answers, by the test of the five numbers
  pub made_number : (made_of a b n k g).refusal ≡ numbers_refusal a b n k g
  unfolding made_of
  made_number = refl

  pub made_none : 0 < numbers_refusal a b n k g → no_screen ≡ (made_of a b n k g).screen
  unfolding made_of
  made_none above = rw (ne_eqb (numbers_refusal a b n k g) 0 (λ z. omega (arith, above, z)))

  pub made_served : 0 ≡ numbers_refusal a b n k g → screen_of a b n k g ≡ (made_of a b n k g).screen
  unfolding made_of
  made_served e = rw (eq-eqb (numbers_refusal a b n k g) 0 (sym e))

  pub made_words : ((made_of a b n k g).refusal ≡ refusal_of (screen_of a b n k g)) × ((made_of a b n k g).refusal ≤ 4) × ((made_of a b n k g).refusal ≡ 0 → (made_of a b n k g).screen ≡ screen_of a b n k g) × (((made_of a b n k g).refusal ≡ 0 → ⊥) → (made_of a b n k g).screen ≡ no_screen)
  unfolding made_of
  made_words = (of_refusal, numbers_most a b n k g, λ e. rw (eq-eqb (numbers_refusal a b n k g) 0 e), λ h. rw (ne_eqb (numbers_refusal a b n k g) 0 h))

  pub made_admitted : (made_of a b n k g).refusal ≡ 0 → Admitted (made_of a b n k g).screen
  made_admitted e = rw (made_words.2 e) (sym made_words.0 ∙ e)

-- ---- replacing

-- a screen whose slope and cell count stay stores what it stored
pub brick_stays : (s : Screen) (n k g : ℕ) → Admitted s → s.n ≡ n
    → screen_of s.a s.b n k g ≡ record { a = s.a; b = s.b; n = n; k = k; g = g; columns = s.columns; rows = s.rows; shift = s.shift }
brick_stays s n k g ok same =
    let stored = stored_kept s ok in
    rw (stored.columns_true, stored.rows_true, stored.shift_true, same)

module _ (s : Screen) (n k g : ℕ) where
  -- the two tests of a replacement
  abbrev tested : ℕ
  tested = or_else (refusal_of s) (numbers_refusal s.a s.b n k g)

  -- refused for the screen that was handed in,
  pub replaced_first : (refusal_of s ≡ 0 → ⊥) → (replaced_by s n k g).refusal ≡ refusal_of s
  unfolding replaced_by
  replaced_first h = refused_first (refusal_of s) _ h

  pub replaced_old : (e : Refusal) → number e ≡ refusal_of s → number e ≡ (replaced_by s n k g).refusal
  unfolding replaced_by
  replaced_old e same = error_first e (refusal_of s) _ same

  -- or for the new numbers
  pub replaced_number : 0 ≡ refusal_of s → (replaced_by s n k g).refusal ≡ numbers_refusal s.a s.b n k g
  unfolding replaced_by
  replaced_number ok = refused_later (refusal_of s) _ (sym ok)

  replaced_none : 0 < tested → s ≡ (replaced_by s n k g).screen
  unfolding replaced_by
  replaced_none above = rw (ne_eqb tested 0 (λ z. omega (arith, above, z)))

  pub replaced_old_none : 0 < refusal_of s → s ≡ (replaced_by s n k g).screen
  replaced_old_none above = replaced_none (omega (arith, above, refused_first (refusal_of s) (numbers_refusal s.a s.b n k g) (λ z. omega (arith, above, z))))

  pub replaced_new_none : 0 ≡ refusal_of s → 0 < numbers_refusal s.a s.b n k g → s ≡ (replaced_by s n k g).screen
  replaced_new_none ok above = replaced_none (omega (arith, above, refused_later (refusal_of s) (numbers_refusal s.a s.b n k g) (sym ok)))

  -- and served, with its brick worked out or, beside the same cell count, as it was
  module _ (ok : 0 ≡ refusal_of s) (e : 0 ≡ numbers_refusal s.a s.b n k g) where
    pub replaced_served : screen_of s.a s.b n k g ≡ (replaced_by s n k g).screen
    unfolding replaced_by
    replaced_served = rw (eq-eqb tested 0 (refused_later (refusal_of s) _ (sym ok) ∙ sym e))

    pub replaced_beside : s.n ≡ n
        → ◌≡◌ {A = Screen} (record { a = s.a; b = s.b; n = s.n; k = k; g = g; columns = s.columns; rows = s.rows; shift = s.shift }) (replaced_by s n k g).screen
    replaced_beside same =
        ap (λ (m : ℕ). record { a = s.a; b = s.b; n = m; k = k; g = g; columns = s.columns; rows = s.rows; shift = s.shift }) same
        ∙ (rw (brick_stays s n k g (sym ok) same) at replaced_served)

  -- the same of the answer
  pub refused_keeps : ((replaced_by s n k g).refusal ≡ 0 → ⊥) → (replaced_by s n k g).screen ≡ s
  unfolding replaced_by
  refused_keeps h = rw (ne_eqb tested 0 h)

  pub served_screen : (replaced_by s n k g).refusal ≡ 0 → (replaced_by s n k g).screen ≡ screen_of s.a s.b n k g
  unfolding replaced_by
  served_screen e = rw (eq-eqb tested 0 e)

  -- a replacement that is served has both screens admitted
  pub served_parts : (replaced_by s n k g).refusal ≡ 0 → Admitted s × Admitted (screen_of s.a s.b n k g)
  unfolding replaced_by
  served_parts e =
      let parts = or_none (refusal_of s) _ e in
      (parts.0, of_admitted s.a s.b n k g parts.1)

  -- REFUSED OR NOT, an admitted screen gives an admitted one
  pub by_admitted : Admitted s → Admitted (replaced_by s n k g).screen
  by_admitted ok = go (ℕ_discrete (replaced_by s n k g).refusal 0)
    where
      go : Dec ((replaced_by s n k g).refusal ≡ 0) → Admitted (replaced_by s n k g).screen
      go (yes e) = rw (served_screen e) (served_parts e).1
      go (no h) = rw (refused_keeps h) ok

-- ---- lists of replacements

pub replaced_admitted : (s : Screen) → Admitted s → (r : Replacement) → Admitted (replaced s r).screen
replaced_admitted s ok (offset g) = by_admitted s s.n s.k g ok
replaced_admitted s ok (subscreens k) = by_admitted s s.n k s.g ok
replaced_admitted s ok (cells n) = by_admitted s n s.k s.g ok

pub replaced_refused : (s : Screen) (r : Replacement) → ((replaced s r).refusal ≡ 0 → ⊥) → (replaced s r).screen ≡ s
replaced_refused s (offset g) h = refused_keeps s s.n s.k g h
replaced_refused s (subscreens k) h = refused_keeps s s.n k s.g h
replaced_refused s (cells n) h = refused_keeps s n s.k s.g h

-- BY INDUCTION OVER THE LIST, each screen on the way is admitted
pub all_admitted : (rs : List Replacement) (s : Screen) → Admitted s → Admitted (after_all rs s)
all_admitted [] s ok = ok
all_admitted (r ∷ rs) s ok = all_admitted rs (replaced s r).screen (replaced_admitted s ok r)
