-- The list of a table's allowed patterns has each pattern of k bits that the table allows, no other, and none twice; so the table's pivots are
-- of their sizes.
use Prim.Native.Nat.{ℕ, zero, suc, ◌+◌, ◌*◌, ◌^◌, ◌≤◌, ◌<◌}
use mathlib.Core.Path.{◌≡◌, refl, ap, ◌∙◌}
use mathlib.Core.List.{List, [], ◌∷◌}
use mathlib.Core.Bool.{Bool, true, false, not, cond, true≢false}
use mathlib.Core.Option.{none}
use mathlib.Core.Logic.{by_cases}
use native.Mathlib.Nat.{pow-suc}
use native.Mathlib.Decide.{ℕ_discrete}
use native.Mathlib.Omega.{arith}
use borrow.Author.Tests.{not-true}
use lib.ListN.{length, replicate}
use Rattle.rows.specs.Flat.{atoms_of, mask_of}
use Rattle.rows.specs.Count.{count}
use Rattle.rows.proofs.Digits.{atoms_length, mask_atoms, atoms_mask, mask_lt}
use Rattle.hull.specs.Table.{Pattern, forbids, allowed_from, allowed, allows}
use Rattle.hull.specs.Equations.{pivots_from}
use Rattle.hull.specs.Promises.{Sized, TablePivots}
use Rattle.hull.proofs.Spans.{Each, sized_pivots}

-- The list l has just the patterns of k bits that pass a test, as many as there are.
pub record Lists (k : ℕ) (test : Pattern → Bool) (l : List Pattern) : Type 1 where
  pub each : (P : Pattern → Type 0) → ((x : Pattern) → length x ≡ k → test x ≡ true → P x) → Each P l
  pub every : (P : Pattern → Type 0) → Each P l → (x : Pattern) → length x ≡ k → test x ≡ true → P x
  pub many : count k test ≡ length l

module _ (k : ℕ) (test : Pattern → Bool) where
  pub lengths : (l : List Pattern) → Lists k test l → Each (λ x. length x ≡ k) l
  lengths l lists = lists.each (λ x. length x ≡ k) (λ x e h. e)

  pub pivots_fit : (a : Pattern) (xs : List Pattern) → Lists k test (a ∷ xs)
      → (length (pivots_from a (replicate k none) xs) ≡ k) × Sized (pivots_from a (replicate k none) xs)
  pivots_fit a xs lists = sized_pivots k a xs (lengths (a ∷ xs) lists).0 (lengths (a ∷ xs) lists).1

module _ (P : Pattern → Type 0) (x : Pattern) (l : List Pattern) where
  each_more : (b : Bool) → (b ≡ false → P x) → Each P l → Each P (cond b l (x ∷ l))
  each_more true p e = e
  each_more false p e = (p refl, e)

  each_first : (b : Bool) → b ≡ false → Each P (cond b l (x ∷ l)) → P x
  each_first true h e = absurd (true≢false h)
  each_first false h e = e.0

  each_rest : (b : Bool) → Each P (cond b l (x ∷ l)) → Each P l
  each_rest true e = e
  each_rest false e = e.1

module _ (f : ℕ → Bool) (k : ℕ) (P : Pattern → Type 0) where
  each_from : (n p : ℕ) → ((q : ℕ) → q < p + n → f q ≡ false → P (atoms_of k q)) → Each P (allowed_from f k n p)
  unfolding allowed_from
  each_from zero p h = tt
  each_from (suc n) p h = each_more P (atoms_of k p) (allowed_from f k n (suc p)) (f p) (h p (omega arith)) (each_from n (suc p) (λ q l. h q (omega arith)))

  every_from : (n p : ℕ) → Each P (allowed_from f k n p) → (q : ℕ) → p ≤ q → q < p + n → f q ≡ false → P (atoms_of k q)
  unfolding allowed_from
  every_from zero p e q m l h = let no : ⊥ = omega arith in absurd no
  every_from (suc n) p e q m l h =
      let later = allowed_from f k n (suc p) in
      by_cases (ℕ_discrete p q) (λ same. rw (← same) (each_first P (atoms_of k p) later (f p) (rw same h) e))
      (λ other. every_from n (suc p) (each_rest P (atoms_of k p) later (f p) e) q (omega arith) (omega arith) h)

length_step : (f : ℕ → Bool) (j n p : ℕ) → length (allowed_from f j (suc n) p) ≡ cond (f p) 0 1 + length (allowed_from f j n (suc p))
unfolding allowed_from
length_step f j n p = more (f p) (atoms_of j p) (allowed_from f j n (suc p))
  where
    more : (b : Bool) (x : Pattern) (l : List Pattern) → length (cond b l (x ∷ l)) ≡ cond b 0 1 + length l
    more true x l = omega arith
    more false x l = omega arith

-- n * 2 patterns from p * 2 on are n even ones and n odd ones
evens_odds : (f : ℕ → Bool) (j n m p q : ℕ) → m ≡ n * 2 → q ≡ p * 2
    → length (allowed_from f j m q) ≡ length (allowed_from (λ i. f (i * 2 + 0)) j n p) + length (allowed_from (λ i. f (i * 2 + 1)) j n p)
unfolding allowed_from
evens_odds f j zero zero p q e d = refl
evens_odds f j zero (suc m) p q e d = let no : ⊥ = omega arith in absurd no
evens_odds f j (suc n) zero p q e d = let no : ⊥ = omega arith in absurd no
evens_odds f j (suc n) (suc zero) p q e d = let no : ⊥ = omega arith in absurd no
evens_odds f j (suc n) (suc (suc m)) p q e d =
    let even : q ≡ p * 2 + 0 = omega arith in
    let odd : suc q ≡ p * 2 + 1 = omega arith in
    omega (
      arith,
      length_step f j (suc m) q,
      length_step f j m (suc q),
      length_step (λ i. f (i * 2 + 0)) j n p,
      length_step (λ i. f (i * 2 + 1)) j n p,
      ap (λ i. cond {A = ℕ} (f i) 0 1) even,
      ap (λ i. cond {A = ℕ} (f i) 0 1) odd,
      evens_odds f j n m (suc p) (suc (suc q)) (omega arith) (omega arith),
    )

many_from : (f : ℕ → Bool) (j k : ℕ) → count k (λ x. not (f (mask_of x))) ≡ length (allowed_from f j (2 ^ k) 0)
unfolding count mask_of allowed_from
many_from f j zero = one (f 0) (atoms_of j 0)
  where
    one : (b : Bool) (x : Pattern) → cond (not b) 1 0 ≡ length (cond b [] (x ∷ []))
    one true x = refl
    one false x = refl
many_from f j (suc k) =
    omega (arith, evens_odds f j (2 ^ k) (2 ^ suc k) 0 0 (pow-suc 2 k) refl, many_from (λ i. f (i * 2 + 0)) j k, many_from (λ i. f (i * 2 + 1)) j k)

pub table_lists : (k : ℕ) (words : List ℕ) → Lists k (allows words) (allowed k words)
unfolding allowed
table_lists k words = record {
  each = λ P h. each_from (forbids words) k P (2 ^ k) 0
      (λ q l e. h (atoms_of k q) (atoms_length k q) (ap (λ i. not (forbids words i)) (mask_atoms k q (omega arith)) ∙ ap not e));
  every = λ P e x l h.
      let is : atoms_of k (mask_of x) ≡ x = rw (← l) (atoms_mask x) in
      let less : mask_of x < 2 ^ k = rw (← l) (mask_lt x) in
      rw is at (every_from (forbids words) k P (2 ^ k) 0 e (mask_of x) (omega arith) (omega arith) (not-true _ h));
  many = many_from (forbids words) k k;
}

pub table_pivots : TablePivots
table_pivots k words anchor xs e = pivots_fit k (allows words) anchor xs (rw e at (table_lists k words))
