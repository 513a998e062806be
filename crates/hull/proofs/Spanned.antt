-- What `span` finds, in terms of the allowed patterns: the basis of the anchor a and of those allowed after it and below p.
use Prim.Native.Nat.{ℕ, zero, suc, ◌+◌, ◌-◌, ◌^◌, ◌≤◌, ◌<◌}
use mathlib.Core.Path.{◌≡◌, refl, sym, ap, ap₂, ◌∙◌}
use mathlib.Core.List.{List, [], ◌∷◌, ◌++◌, append-nil}
use mathlib.Core.Bool.{Bool, true, false, not, cond}
use mathlib.Core.Option.{none}
use native.Mathlib.Nat.{mul-one, zero-add, add-zero, suc-add, add-suc}
use native.Mathlib.Numerals.{add-one}
use native.Mathlib.Omega.{arith}
use lib.ListN.{length, take, replicate, length-replicate, length-append}
use lib.Seq.{take_at, drop_at}
use lib.Bits.{bit_xor}
use Rattle.std.specs.Prelude.{Some, None, count_by}
use Rattle.std.specs.List.{range_with_len}
use Rattle.std.proofs.lemmas.List.FromFn.{length-range_with_len}
use Rattle.std.proofs.lemmas.List.Sums.{sum_by-cons, count_by-le-length}
use Rattle.rows.specs.Row.{plus}
use Rattle.rows.specs.Flat.{atoms_of, mask_of}
use Rattle.rows.proofs.Digits.{atoms_length, mask_atoms}
use Rattle.hull.specs.Table.{Pattern, allowed_from}
use Rattle.hull.specs.Equations.{Pivots, enter, pivots_from, rank}
use Rattle.hull.specs.Propose.{limit}
use Rattle.hull.specs.Steps.{bit, entered, seen, placed, array, basis, found}
use Rattle.hull.specs.declared.Basis.{Basis}
use Rattle.hull.proofs.Numbers.{mask_plus}
use Rattle.hull.proofs.Placed.{none_array, came, rank_enter, rank_le, enter_full, plus_long, entered_placed}
use Rattle.hull.proofs.Spans.{length_enter}

placed_length : (ss : Pivots) (j : ℕ) → length (placed j ss) ≡ length ss
placed_length [] j = refl
placed_length (s ∷ ss) j = ap suc (placed_length ss (suc j))

-- a pattern more
seen_basis : (k : ℕ) (a x : Pattern) (ss : Pivots) (n : ℕ) → length ss ≡ k → length a ≡ k
    → seen k (basis k a ss n) (mask_of x) ≡ basis k a (enter ss (plus a x)) (n + 1)
unfolding seen
seen_basis k a x ss n e h =
    let d = plus a x in
    let size : length (placed 0 ss) ≡ k = placed_length ss 0 ∙ e in
    let came_in : entered 0 (take k (array k ss)) (bit_xor (mask_of a) (mask_of x)) ≡ (placed 0 (enter ss d), came ss d) =
    ap₂ (entered 0) (take_at (placed 0 ss) (replicate (limit - k) 0) k size) (mask_plus a x ∙ sym (mul-one _))
    ∙ entered_placed ss d 0 (omega (arith, plus_long a x)) in
    ap₂ (λ (q : List ℕ × Bool) r. record { anchor = mask_of a; pivots = q.0 ++ r; rank = rank ss + bit q.1; allowed = n + 1 }) came_in
    (drop_at (placed 0 ss) (replicate (limit - k) 0) k size)
    ∙ ap (λ r. record { anchor = mask_of a; pivots = array k (enter ss d); rank = r; allowed = n + 1 }) (sym (rank_enter ss d))

pivots_append : (a : Pattern) (ss : Pivots) (xs ys : List Pattern) → pivots_from a ss (xs ++ ys) ≡ pivots_from a (pivots_from a ss xs) ys
unfolding pivots_from
pivots_append a ss [] ys = refl
pivots_append a ss (x ∷ xs) ys = pivots_append a (enter ss (plus a x)) xs ys

-- at full rank no pattern adds a pivot
pivots_full : (a : Pattern) (ss : Pivots) (xs : List Pattern) → rank ss ≡ length ss → pivots_from a ss xs ≡ ss
unfolding pivots_from
pivots_full a ss [] h = refl
pivots_full a ss (x ∷ xs) h = ap (λ r. pivots_from a r xs) (enter_full ss (plus a x) h) ∙ pivots_full a ss xs h

rank_none : (k : ℕ) → rank (replicate k none) ≡ 0
rank_none zero = refl
rank_none (suc k) = rank_none k

length_pivots : (a : Pattern) (ss : Pivots) (xs : List Pattern) → length (pivots_from a ss xs) ≡ length ss
unfolding pivots_from
length_pivots a ss [] = refl
length_pivots a ss (x ∷ xs) = length_pivots a (enter ss (plus a x)) xs ∙ length_enter ss (plus a x)

pub length_found : (k : ℕ) (a : Pattern) (xs : List Pattern) → length (pivots_from a (replicate k none) xs) ≡ k
length_found k a xs = length_pivots a (replicate k none) xs ∙ length-replicate k none

pub found_fits : (k : ℕ) (l : List Pattern) (s : Basis) → k ≤ limit → Some s ≡ found k l → (k ≤ limit) × (s.rank ≤ k)
found_fits k [] s h e = cc
found_fits k (a ∷ xs) s h e =
    let ss = pivots_from a (replicate k none) xs in
    let is : s ≡ basis k a ss (suc (length xs)) = cc in
    rw is (h, omega (arith, rank_le ss, length_found k a xs))

pub count_few : (f : ℕ → Bool) (p n : ℕ) → count_by (λ i. not (f i)) (range_with_len p n) ≤ n
count_few f p n = omega (arith, count_by-le-length (λ i. not (f i)) (range_with_len p n), length-range_with_len p n)

module _ (f : ℕ → Bool) (k : ℕ) where
  -- the allowed patterns in two parts, how many they are, and those of patterns that are all forbidden
  split : (m n p : ℕ) → allowed_from f k (m + n) p ≡ allowed_from f k m p ++ allowed_from f k n (p + m)
  unfolding allowed_from
  split zero n p = rw (zero-add, add-zero)
  split (suc m) n p =
      rw (suc-add m n, add-suc p m, ← suc-add p m)
      (either (f p) (atoms_of k p) (allowed_from f k m (suc p)) (allowed_from f k n (suc p + m)) (split m n (suc p)))
    where
      either : (b : Bool) (x : Pattern) (xs ys : List Pattern) {all : List Pattern} → all ≡ xs ++ ys → cond b all (x ∷ all) ≡ cond b xs (x ∷ xs) ++ ys
      either true x xs ys e = e
      either false x xs ys e = ap (◌∷◌ x) e

  pub counted : (n p : ℕ) → count_by (λ i. not (f i)) (range_with_len p n) ≡ length (allowed_from f k n p)
  unfolding allowed_from
  counted zero p = refl
  counted (suc n) p =
      sum_by-cons (λ i. cond (not (f i)) 1 0) p (range_with_len (p + 1) n)
      ∙ rw (add-one p) (either (f p) (atoms_of k p) (allowed_from f k n (suc p)) (counted n (suc p)))
    where
      either : (b : Bool) (x : Pattern) (xs : List Pattern) {m : ℕ} → m ≡ length xs → cond (not b) 1 0 + m ≡ length (cond b xs (x ∷ xs))
      either true x xs e = omega arith
      either false x xs e = omega arith

  few : (n p : ℕ) → length (allowed_from f k n p) ≤ n
  few n p = omega (arith, counted n p, count_few f p n)

  none_allowed : (n p : ℕ) → ((q : ℕ) → q < p + n → f q ≡ true) → allowed_from f k n p ≡ []
  unfolding allowed_from
  none_allowed zero p h = refl
  none_allowed (suc n) p h = rw (h p (omega arith)) (none_allowed n (suc p) (λ q l. h q (omega arith)))

  one : (q : ℕ) → f q ≡ false → allowed_from f k 1 q ≡ atoms_of k q ∷ []
  unfolding allowed_from
  one q b = rw b

  none_one : (q : ℕ) → f q ≡ true → allowed_from f k 1 q ≡ []
  unfolding allowed_from
  none_one q b = rw b

  module _ (a : ℕ) where
    abbrev x : Pattern
    x = atoms_of k a

    -- the allowed patterns after a and below p, and the basis of a and those
    abbrev after : ℕ → List Pattern
    after p = allowed_from f k (p - (a + 1)) (a + 1)

    unfoldable pub basis_to : ℕ → Basis
    basis_to p = basis k x (pivots_from x (replicate k none) (after p)) (suc (length (after p)))

    after_split : (p n : ℕ) → a < p → after (p + n) ≡ after p ++ allowed_from f k n p
    after_split p n h =
        let m : p + n - (a + 1) ≡ p - (a + 1) + n = omega arith in
        let at : a + 1 + (p - (a + 1)) ≡ p = omega arith in
        rw m (split (p - (a + 1)) n (a + 1) ∙ ap (λ i. after p ++ allowed_from f k n i) at)

    pub to_start : k ≤ limit → a < 2 ^ k → basis_to (a + 1) ≡ record { anchor = a; pivots = replicate limit 0; rank = 0; allowed = 1 }
    unfolding basis_to allowed_from pivots_from
    to_start h l =
        let none_yet : a + 1 - (a + 1) ≡ 0 = omega arith in
        ap (λ n. let xs = allowed_from f k n (a + 1) in basis k x (pivots_from x (replicate k none) xs) (suc (length xs))) none_yet
        ∙ ap₂ (λ ps i. record { anchor = mask_of x; pivots = ps; rank = i; allowed = 1 }) (none_array k h) (rank_none k)
        ∙ ap (λ m. record { anchor = m; pivots = replicate limit 0; rank = 0; allowed = 1 }) (mask_atoms k a l)

    pub to_skip : (p : ℕ) → a < p → f p ≡ true → basis_to (p + 1) ≡ basis_to p
    unfolding basis_to
    to_skip p h b = ap (λ xs. basis k x (pivots_from x (replicate k none) xs) (suc (length xs))) (after_split p 1 h ∙ rw (none_one p b) (append-nil (after p)))

    pub to_see : (p : ℕ) → a < p → p < 2 ^ k → f p ≡ false → seen k (basis_to p) p ≡ basis_to (p + 1)
    unfolding basis_to pivots_from
    to_see p h l b =
        let xs = after p in
        let y = atoms_of k p in
        let more : suc (length xs + 1) ≡ suc (length xs) + 1 = omega arith in
        sym (ap (λ l. basis k x (pivots_from x (replicate k none) l) (suc (length l))) (after_split p 1 h ∙ ap (λ l. xs ++ l) (one p b))
        ∙ ap₂ (λ ss n. basis k x ss (suc n)) (pivots_append x (replicate k none) xs (y ∷ [])) (length-append xs (y ∷ []))
        ∙ ap (basis k x (enter (pivots_from x (replicate k none) xs) (plus x y))) more
        ∙ sym (seen_basis k x y (pivots_from x (replicate k none) xs) (suc (length xs)) (length_found k x xs) (atoms_length k a))
        ∙ ap (seen k (basis k x (pivots_from x (replicate k none) xs) (suc (length xs)))) (mask_atoms k p l))

    pub to_full : (p n : ℕ) → a < p → (basis_to p).rank ≡ k
        → record (basis_to p) { allowed = (basis_to p).allowed + count_by (λ i. not (f i)) (range_with_len p n) } ≡ basis_to (p + n)
    unfolding basis_to
    to_full p n h full =
        let xs = after p in
        let ys = allowed_from f k n p in
        let ss = pivots_from x (replicate k none) xs in
        let more : suc (length xs + length ys) ≡ suc (length xs) + count_by (λ i. not (f i)) (range_with_len p n) = omega (arith, counted n p) in
        sym (ap (λ l. basis k x (pivots_from x (replicate k none) l) (suc (length l))) (after_split p n h)
        ∙ ap₂ (λ ss n. basis k x ss (suc n)) (pivots_append x (replicate k none) xs ys ∙ pivots_full x ss ys (full ∙ sym (length_found k x xs))) (length-append xs ys)
        ∙ ap (basis k x ss) more)

    pub to_few : (p : ℕ) → a < p → ((basis_to p).allowed ≤ p) × ((basis_to p).rank ≤ k)
    unfolding basis_to
    to_few p h = (
      omega (arith, few (p - (a + 1)) (a + 1)),
      omega (arith, rank_le (pivots_from x (replicate k none) (after p)), length_found k x (after p)),
    )

    -- the basis at the end of the patterns is what `found` says
    pub found_some : (p : ℕ) → p ≡ 2 ^ k → a < p → f a ≡ false → ((q : ℕ) → q < a → f q ≡ true)
        → Some (basis_to p) ≡ found k (allowed_from f k (2 ^ k) 0)
    unfolding basis_to
    found_some p e l b h =
        let m = p - (a + 1) in
        let all : 2 ^ k ≡ a + (1 + m) = omega arith in
        let before : allowed_from f k a 0 ≡ [] = none_allowed a 0 (λ q i. h q (omega arith)) in
        let at : 0 + a ≡ a = omega arith in
        sym (ap (found k)
        (ap (λ n. allowed_from f k n 0) all ∙ split a (1 + m) 0
        ∙ ap₂ ◌++◌ before (ap (allowed_from f k (1 + m)) at ∙ split 1 m a ∙ ap (λ l. l ++ allowed_from f k m (a + 1)) (one a b))))

  pub found_none : ((q : ℕ) → q < 2 ^ k → f q ≡ true) → found k (allowed_from f k (2 ^ k) 0) ≡ None
  found_none h = ap (found k) (none_allowed (2 ^ k) 0 (λ q l. h q (omega arith)))
