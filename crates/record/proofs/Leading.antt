-- A record's atoms by their places: how many come before one that is not below n, or does not rise, and that these are all when all are good.
use Rattle.std.proofs.Common.{◌≡◌, ℕ, zero, suc, ◌+◌, ◌-◌, ◌≤◌, Bool, true, false, cond, not, List, [], ◌∷◌, length, ◌&&◌, eqb, leb, ltb, Option, None, Some, refl, sym, ap, ap₂, ◌∙◌, add-one, le-leb, le-ltb, lt-ltb, leb-true, leb-false, ltb-false, eq-eqb, ne_eqb, eqb-true, suc-le-suc, arith}
use borrow.Author.Tests.{eqb-false}
use Rattle.std.specs.Option.{unwrap_or}
use Rattle.std.specs.List.{range_with_len, position_or_len}
use Rattle.std.proofs.lemmas.List.FromFn.{length-range_with_len}
use Rattle.format.specs.Bytes.{list_from}
use Rattle.format.proofs.Listing.{list_length}
use Rattle.record.specs.Fields.{good_atoms, all_below, rising_atoms, rises}

not_leb : (a b : ℕ) → not (leb a b) ≡ ltb b a
not_leb a b = go (leb a b) refl
  where
    go : (t : Bool) → leb a b ≡ t → not (leb a b) ≡ ltb b a
    go true e = ap not e ∙ sym (le-ltb b a (leb-true a b e))
    go false e = ap not e ∙ sym (lt-ltb b a (leb-false a b e))

one_more : (k : ℕ) → 1 + k ≡ suc k
one_more k = omega arith

-- what a search among so many gives: a place, or nothing
abbrev found_at : ℕ → ℕ → Option ℕ
found_at p c = cond (ltb p c) (Some p) None

found_or : (p c : ℕ) → p ≤ c → unwrap_or (found_at p c) c ≡ p
found_or p c h = go (ltb p c) refl
  where
    go : (t : Bool) → ltb p c ≡ t → unwrap_or (found_at p c) c ≡ p
    go true e = ap (λ t. unwrap_or (cond t (Some p) None) c) e
    go false e = let none = ltb-false p c e in ap (λ t. unwrap_or (cond t (Some p) None) c) e ∙ omega (arith, none, h)

-- one more, where the first is good
counted : {k l : ℕ} (t : Bool) → k ≤ l → cond t (suc k) 0 ≤ suc l
counted true h = suc-le-suc h
counted false h = omega arith

good_few : (n : ℕ) (atoms : List ℕ) → good_atoms n atoms ≤ length atoms
unfolding good_atoms
good_few n [] = omega arith
good_few n (a ∷ atoms) = counted (ltb a n) (good_few n atoms)

rising_few : (from : ℕ) (atoms : List ℕ) → rising_atoms from atoms ≤ length atoms
unfolding rising_atoms
rising_few from [] = omega arith
rising_few from (a ∷ atoms) = counted (leb from a) (rising_few (suc a) atoms)

same_next : (k l : ℕ) → eqb (suc k) (suc l) ≡ eqb k l
same_next k l = go (eqb k l) refl
  where
    go : (t : Bool) → eqb k l ≡ t → eqb (suc k) (suc l) ≡ eqb k l
    go true e = eq-eqb (suc k) (suc l) (ap suc (eqb-true k l e)) ∙ sym e
    go false e = ne_eqb (suc k) (suc l) (λ s. eqb-false k l e (omega (arith, s))) ∙ sym e

-- all are counted when all are good
whole : (k l : ℕ) (b t : Bool) → eqb k l ≡ b → eqb (cond t (suc k) 0) (suc l) ≡ (t && b)
whole k l b true h = same_next k l ∙ h
whole k l b false h = ne_eqb 0 (suc l) (λ e. omega arith)

good_all : (n : ℕ) (atoms : List ℕ) → eqb (good_atoms n atoms) (length atoms) ≡ all_below n atoms
unfolding good_atoms all_below
good_all n [] = refl
good_all n (a ∷ atoms) = whole _ _ _ (ltb a n) (good_all n atoms)

rising_all : (from : ℕ) (atoms : List ℕ) → eqb (rising_atoms from atoms) (length atoms) ≡ rises from atoms
unfolding rising_atoms rises
rising_all from [] = refl
rising_all from (a ∷ atoms) = whole _ _ _ (leb from a) (rising_all (suc a) atoms)

module _ (number : ℕ → ℕ) where
  good_by_place : (n i c : ℕ) → position_or_len (λ j. leb n (number j)) (range_with_len i c) ≡ good_atoms n (list_from number i c)
  unfolding list_from good_atoms
  good_by_place n i zero = refl
  good_by_place n i (suc c) =
      ap₂ (λ b t. cond b (1 + t) 0) (not_leb n (number i)) (good_by_place n (i + 1) c ∙ ap (λ j. good_atoms n (list_from number j c)) (add-one i))
      ∙ ap (λ t. cond (ltb (number i) n) t 0) (one_more (good_atoms n (list_from number (suc i) c)))

  pub good_is : (n c : ℕ) (found : Option ℕ)
      → found ≡ found_at (position_or_len (λ j. leb n (number j)) (range_with_len 0 c)) (length (range_with_len 0 c))
      → unwrap_or found c ≡ good_atoms n (list_from number 0 c)
  good_is n c found e =
      ap (λ o. unwrap_or o c) (e ∙ ap₂ found_at (good_by_place n 0 c) (length-range_with_len 0 c))
      ∙ found_or (good_atoms n (list_from number 0 c)) c (omega (arith, good_few n (list_from number 0 c), list_length number 0 c))

  pub below_is : (n c : ℕ) → eqb (good_atoms n (list_from number 0 c)) c ≡ all_below n (list_from number 0 c)
  below_is n c = ap (eqb (good_atoms n (list_from number 0 c))) (sym (list_length number 0 c)) ∙ good_all n (list_from number 0 c)

  -- an atom after the first does not rise
  abbrev falls : ℕ → Bool
  falls j = ltb 0 j && leb (number j) (number (j - 1))

  rising_later : (i j c : ℕ) → j ≡ suc i → position_or_len falls (range_with_len j c) ≡ rising_atoms (suc (number i)) (list_from number j c)
  unfolding list_from rising_atoms
  rising_later i j zero e = refl
  rising_later i j (suc c) e =
      let before : j - 1 ≡ i = omega arith in
      ap₂ (λ b t. cond b (1 + t) 0)
      (ap (λ b. not (b && leb (number j) (number (j - 1)))) (lt-ltb 0 j (omega arith)) ∙ not_leb (number j) (number (j - 1)) ∙ ap (λ k. ltb (number k) (number j)) before)
      (rising_later j (j + 1) c (add-one j) ∙ ap (λ k. rising_atoms (suc (number j)) (list_from number k c)) (add-one j))
      ∙ ap (λ t. cond (ltb (number i) (number j)) t 0) (one_more (rising_atoms (suc (number j)) (list_from number (suc j) c)))

  rising_by_place : (c : ℕ) → position_or_len falls (range_with_len 0 c) ≡ rising_atoms 0 (list_from number 0 c)
  unfolding list_from rising_atoms
  rising_by_place zero = refl
  rising_by_place (suc c) =
      ap (λ t. 1 + t) (rising_later 0 1 c refl) ∙ one_more (rising_atoms (suc (number 0)) (list_from number 1 c))
      ∙ ap (λ b. cond b (suc (rising_atoms (suc (number 0)) (list_from number 1 c))) 0) (sym (le-leb 0 (number 0) (omega arith)))

  pub rising_is : (c : ℕ) (found : Option ℕ)
      → found ≡ found_at (position_or_len falls (range_with_len 0 c)) (length (range_with_len 0 c))
      → unwrap_or found c ≡ rising_atoms 0 (list_from number 0 c)
  rising_is c found e =
      ap (λ o. unwrap_or o c) (e ∙ ap₂ found_at (rising_by_place c) (length-range_with_len 0 c))
      ∙ found_or (rising_atoms 0 (list_from number 0 c)) c (omega (arith, rising_few 0 (list_from number 0 c), list_length number 0 c))

  pub rises_is : (c : ℕ) → eqb (rising_atoms 0 (list_from number 0 c)) c ≡ rises 0 (list_from number 0 c)
  rises_is c = ap (eqb (rising_atoms 0 (list_from number 0 c))) (sym (list_length number 0 c)) ∙ rising_all 0 (list_from number 0 c)
