-- `map` of an array by a closure that carries a number from each element to the next: what it holds at each call, and what the calls give.
-- Assumes nothing.
use Prim.Native.Nat.{ℕ, zero, suc, ◌+◌, ◌<◌, ◌≤◌}
use mathlib.Core.Path.{◌≡◌, sym, ap, ◌∙◌}
use mathlib.Core.List.{List, [], ◌∷◌}
use mathlib.Core.Logic.{◌⊎◌, inl, inr}
use native.Mathlib.Nat.{add-zero, eq-or-lt_of_le}
use native.Mathlib.Numerals.{add-one}
use native.Mathlib.Omega.{arith}
use lib.ListN.{length, get_or}
use denote.Param.Members.{Mut, Called}
use Rattle.std.specs.Iterator.{Yields, CallableAtEachTurn}
use Rattle.std.specs.List.{FoldsTo}
use Rattle.std.specs.Array.{list_steps, MapsFrom, IsMapOf}
use Rattle.arith.specs.Run.{upto}
use Rattle.arith.proofs.RunLaws.{upto_is}

-- a closure that holds a number: with u held, a call at x gives `gives u x` and holds `next u x` afterwards
pub record Carries {F : Type 0} (g : Mut F (ℕ × Unit {0}) ℕ) (held : F → ℕ) (Kept : F → Type 0) (gives next : ℕ → ℕ → ℕ) : Type 0 where
  pub call : (f : F) (x y : ℕ) (q : F) → Kept f → Called g f (x, tt) y q → (y ≡ gives (held f) x) × (held q ≡ next (held f) x) × Kept q

module _ {F : Type 0} {g : Mut F (ℕ × Unit {0}) ℕ} {held : F → ℕ} {Kept : F → Type 0} {gives next : ℕ → ℕ → ℕ} (carries : Carries g held Kept gives next)
    (xs : List ℕ) (run : ℕ → ℕ) (goes_on : (i : ℕ) → run (suc i) ≡ next (run i) (get_or xs i 0)) where
  -- at a place of the list: what is left of it, and what the closure holds
  record At (i : ℕ) (left : List ℕ) (f : F) : Type 0 where
    long : i + length left ≡ length xs
    same : (k : ℕ) → get_or left k 0 ≡ get_or xs (i + k) 0
    holds : held f ≡ run i
    kept : Kept f

  here : {i x : ℕ} {left : List ℕ} {f : F} → At i (x ∷ left) f → x ≡ get_or xs i 0
  here {i} r = r.same 0 ∙ ap (λ (n : ℕ). get_or xs n 0) (add-zero i)

  one_more : {i x : ℕ} {left : List ℕ} {f q : F} (y : ℕ) → At i (x ∷ left) f → Called g f (x, tt) y q → At (suc i) left q
  one_more {i} {x} {left} {f} {q} y r k =
      let e = carries.call f x y q r.kept k in
      record {
        long = omega (arith, r.long);
        same = λ n. r.same (suc n) ∙ ap (λ (m : ℕ). get_or xs m 0) (omega arith);
        holds = e.1 ∙ rw (r.holds, here r) (sym (goes_on i));
        kept = e.2;
      }

  later : (zs : List ℕ) (i : ℕ) (s t : List ℕ) (p q : F) → At i s p → Yields (list_steps {A = ℕ}) s zs t → FoldsTo (λ p x q. (y : ℕ) × Called g p (x, tt) y q) p zs q → At (i + length zs) t q
  later [] i s t p q r e k = rw (add-zero, ← e, ← k) r
  later (z ∷ zs) i s t p q r e k =
      let first : At i (z ∷ e.0) p = rw e.1 at r in
      let sums : suc i + length zs ≡ i + suc (length zs) = omega arith in
      rw sums at (later zs (suc i) e.0 t k.0 q (one_more k.1.0 first k.1.1) e.2 k.2)

  pub served : (Q : F → ℕ → Type 0) → ((i : ℕ) (p : F) → i < length xs → held p ≡ run i → Kept p → Q p (get_or xs i 0)) → (f : F) → held f ≡ run 0 → Kept f
      → CallableAtEachTurn (list_steps {A = ℕ}) (λ p x q. (y : ℕ) × Called g p (x, tt) y q) Q xs f
  served Q each f start kept =
      record {
        at =
            λ zs t q x u e k one.
            let first : At 0 xs f = record { long = omega arith; same = λ n. ap (λ (m : ℕ). get_or xs m 0) (omega arith); holds = start; kept = kept } in
            let last : At (0 + length zs) (x ∷ u) q = rw one at (later zs 0 xs t f q first e k) in
            rw (here last) (each (0 + length zs) q (omega (arith, last.long)) last.holds last.kept);
      }

  each_of : (n i : ℕ) (f : F) (ys : List ℕ) → held f ≡ run i → Kept f → MapsFrom g f xs ys i n → (k : ℕ) → i ≤ k → k < i + n → get_or ys k 0 ≡ gives (run k) (get_or xs k 0)
  each_of zero i f ys start kept m k low high = absurd (omega arith)
  each_of (suc n) i f ys start kept m k low high =
      let e = carries.call f m.1 m.2 m.0 kept m.5 in
      let x : get_or xs i 0 ≡ m.1 = m.3.1 0 in
      let y : get_or ys i 0 ≡ m.2 = m.4.1 0 in
      let after : held m.0 ≡ run (i + 1) = e.1 ∙ rw (start, ← x, add-one) (sym (goes_on i)) in
      go (y ∙ e.0 ∙ rw (start, ← x)) (λ h. each_of n (i + 1) m.0 ys after e.2 m.6 k (omega arith) (omega arith)) (eq-or-lt_of_le low)
    where
      go : get_or ys i 0 ≡ gives (run i) (get_or xs i 0) → (i < k → get_or ys k 0 ≡ gives (run k) (get_or xs k 0)) → (i ≡ k) ⊎ (i < k) → get_or ys k 0 ≡ gives (run k) (get_or xs k 0)
      go one more (inl e) = rw e at one
      go one more (inr h) = more h

  pub mapped : (f : F) (ys : List ℕ) (n : ℕ) → IsMapOf g f xs ys n → held f ≡ run 0 → Kept f → ys ≡ upto (λ i. gives (run i) (get_or xs i 0)) n
  mapped f ys n m start kept =
      upto_is (λ i. gives (run i) (get_or xs i 0)) n ys m.long (λ i l. each_of n 0 f ys start kept m.each i (omega arith) (omega arith))
