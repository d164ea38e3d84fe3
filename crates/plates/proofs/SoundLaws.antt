-- The test place by place: it passes exactly where each pixel is in one plane and the padding is clear; and what follows for planes that may be unpacked.
-- Assumes nothing.
use Prim.Native.Nat.{ℕ, ◌+◌, ◌-◌, ◌*◌, ◌/◌, ◌%◌, ◌≤◌, ◌<◌}
use mathlib.Core.Path.{◌≡◌, refl, sym, ap, ◌∙◌}
use mathlib.Core.Bool.{true, ◌&&◌}
use mathlib.Core.List.{List}
use native.Mathlib.Nat.{div-add-mod'}
use native.Mathlib.Decide.{dec_lt}
use native.Mathlib.Omega.{arith}
use lib.Arith.{digits_lt}
use lib.Dec.{ltb}
use lib.ListN.{length}
use borrow.Author.Tests.{lt-ltb, le-ltb, eqb-true, eq-eqb}
use Rattle.arith.specs.Every.{every}
use Rattle.arith.specs.Sum.{indicator}
use Rattle.arith.proofs.EveryLaws.{every_passes, every_made, every_is}
use Rattle.arith.proofs.RefusalLaws.{both_pass}
use Rattle.arith.proofs.SumLaws.{sum_same, sum_constant, sum_term}
use Rattle.arith.proofs.TallyLaws.{indicator_le}
use Rattle.plates.specs.Masks.{mask, bit}
use Rattle.plates.specs.Planes.{row_bytes, bit_at, planes_with, pixels_once, padding_clear}
use Rattle.plates.specs.Places.{byte_at, planes_at, once_at, row_once, Unpackable, Apart}
use Rattle.plates.proofs.MaskLaws.{mask_repeats}
use Rattle.plates.proofs.PlaceLaws.{place_row, place_column, plane_of, row_in_plane}

-- the bit of pixel t of place b of a row is that of pixel 8 * b + t of the row,
pub bit_at_place : (bytes rows : ℕ) (planes : List ℕ) (p y b t : ℕ) → t < 8
    → bit (byte_at (rows * bytes) planes (y * bytes + b) p) t ≡ bit_at bytes planes (p * rows + y) (8 * b + t)
unfolding bit_at
bit_at_place bytes rows planes p y b t l =
    let here : (p * rows + y) * bytes + (8 * b + t) / 8 ≡ p * (rows * bytes) + (y * bytes + b) = omega arith in
    rw (mask_repeats b t, here)

-- so that both are in as many planes
planes_at_place : (bytes rows : ℕ) (planes : List ℕ) (y b t : ℕ) → t < 8
    → planes_at (rows * bytes) planes (y * bytes + b) t ≡ planes_with bytes rows planes y (8 * b + t)
unfolding planes_at planes_with
planes_at_place bytes rows planes y b t l = sum_same 8 _ _ (λ p k. bit_at_place bytes rows planes p y b t l)

-- a pixel of a place is one of its first where it is one of the columns
first_of_place : (columns b t : ℕ) → ltb t (columns - 8 * b) ≡ ltb (8 * b + t) columns
first_of_place columns b t = go (dec_lt (8 * b + t) columns)
  where
    go : Dec (8 * b + t < columns) → ltb t (columns - 8 * b) ≡ ltb (8 * b + t) columns
    go (yes l) = rw (lt-ltb (8 * b + t) columns l) (lt-ltb t (columns - 8 * b) (omega arith))
    go (no h) = rw (le-ltb (8 * b + t) columns (omega arith)) (le-ltb t (columns - 8 * b) (omega arith))

module _ (columns rows : ℕ) (planes : List ℕ) where
  -- in how many planes each pixel is due to be: a column's in one, and one past them in none
  abbrev Due : Type 0
  Due = (y x : ℕ) → y < rows → x < 8 * row_bytes columns → planes_with (row_bytes columns) rows planes y x ≡ indicator (ltb x columns)

  -- which is so exactly where each place passes,
  places_due : ((y : ℕ) → y < rows → row_once columns (rows * row_bytes columns) planes (y * row_bytes columns) ≡ true) → Due
  unfolding once_at row_once
  places_due h y x k l =
      let whole : x ≡ 8 * (x / 8) + x % 8 = omega arith in
      rw whole
      (sym (planes_at_place (row_bytes columns) rows planes y (x / 8) (x % 8) (omega arith))
      ∙ eqb-true _ _ (every_passes 8 _ (every_passes (row_bytes columns) _ (h y k) (x / 8) (omega arith)) (x % 8) (omega arith))
      ∙ ap indicator (first_of_place columns (x / 8) (x % 8)))

  due_places : Due → (y : ℕ) → y < rows → row_once columns (rows * row_bytes columns) planes (y * row_bytes columns) ≡ true
  unfolding once_at row_once
  due_places due y k =
      every_made (row_bytes columns) _
      (λ b l.
      every_made 8 _
      (λ t m.
      eq-eqb _ _ (planes_at_place (row_bytes columns) rows planes y b t m ∙ due y (8 * b + t) k (omega arith) ∙ ap indicator (sym (first_of_place columns b t)))))

  -- and where both tests pass
  tests_due : pixels_once columns rows planes ≡ true → padding_clear columns rows planes ≡ true → Due
  unfolding pixels_once padding_clear planes_with
  tests_due once clear y x k l = go (dec_lt x columns)
    where
      go : Dec (x < columns) → planes_with (row_bytes columns) rows planes y x ≡ indicator (ltb x columns)
      go (yes m) = rw (lt-ltb x columns m) (eqb-true _ 1 (every_passes columns _ (every_passes rows _ once y k) x m))
      go (no h) =
          let past : x ≡ columns + (x - columns) = omega arith in
          rw (le-ltb x columns (omega arith), past)
          (sum_constant 8 0 _
          (λ p m. eqb-true _ 0 (every_passes (8 * row_bytes columns - columns) _ (every_passes (8 * rows) _ clear (p * rows + y) (digits_lt m k)) (x - columns) (omega arith))))

  due_pixels : Due → pixels_once columns rows planes ≡ true
  unfolding pixels_once
  due_pixels due = every_made rows _ (λ y k. every_made columns _ (λ x l. eq-eqb _ 1 (due y x k (omega arith) ∙ ap indicator (lt-ltb x columns l))))

  due_padding : Due → padding_clear columns rows planes ≡ true
  unfolding padding_clear planes_with
  due_padding due =
      every_made (8 * rows) _
      (λ r k.
      every_made (8 * row_bytes columns - columns) _
      (λ t l.
      let none = due (r % rows) (columns + t) (row_in_plane rows r k) (omega arith) ∙ ap indicator (le-ltb (columns + t) columns (omega arith)) in
      let most = sum_term 8 (λ p. bit_at (row_bytes columns) planes (p * rows + r % rows) (columns + t)) (r / rows) (plane_of rows r k) in
      eq-eqb _ 0 (ap (λ (z : ℕ). bit_at (row_bytes columns) planes z (columns + t)) (sym (div-add-mod' r rows)) ∙ omega (arith, none, most))))

  -- PLACE BY PLACE: each pixel of each place is in one plane within the columns and in none past them, exactly where both tests pass
  pub sound_is : every rows (λ y. row_once columns (rows * row_bytes columns) planes (y * row_bytes columns))
      ≡ pixels_once columns rows planes && padding_clear columns rows planes
  sound_is =
      sym
      (every_is rows _ _ (λ e. let both = both_pass _ _ e in due_places (tests_due both.0 both.1))
      (λ h. let due = places_due h in rw (due_pixels due, due_padding due) refl))

  -- So in planes that may be unpacked, each pixel of the columns is in one plane,
  module _ (given : Unpackable columns rows planes) where
    due : Due
    due = let both = both_pass _ _ given.sound in tests_due both.0 both.1

    pub pixel_once : (y x : ℕ) → y < rows → x < columns → planes_with (row_bytes columns) rows planes y x ≡ 1
    pixel_once y x k l = due y x k (omega arith) ∙ ap indicator (lt-ltb x columns l)

    -- and no bit, padding included, is in two planes
    pub planes_apart : Apart (rows * row_bytes columns) planes
    unfolding planes_at
    planes_apart place t l =
        let bytes : ℕ = row_bytes columns in
        let inside : place < bytes * rows = omega arith in
        let here : place / bytes * bytes + place % bytes ≡ place = div-add-mod' place bytes in
        let column = due (place / bytes) (8 * (place % bytes) + t % 8) (place_row bytes rows place inside) (omega (arith, place_column bytes rows place inside)) in
        let at_place = planes_at_place bytes rows planes (place / bytes) (place % bytes) (t % 8) (omega arith) in
        let whole : t ≡ 8 * (t / 8) + t % 8 = omega arith in
        let again = ap mask whole ∙ mask_repeats (t / 8) (t % 8) in
        rw (again, ← here) (omega (arith, at_place, column, indicator_le (ltb (8 * (place % bytes) + t % 8) columns)))

-- WHAT THE TYPES OF `plates` SAY: the planes of a window that pass the tests may be unpacked, and no pixel is in two of them
module _ (columns rows : ℕ) (planes : List ℕ) {plane : ℕ} (wide : columns ≤ 65536) (one : plane ≡ rows * row_bytes columns)
    (eight : length planes ≡ 8 * plane) (sound : pixels_once columns rows planes && padding_clear columns rows planes ≡ true) where
  pub unpackable : Unpackable columns rows planes
  unpackable = record { wide = wide; long = omega (arith, one, eight); sound = sound }

  pub apart_told : Apart plane planes
  apart_told = rw one (planes_apart columns rows planes unpackable)
