-- Rows with different lowest atoms, the highest first, are in triangular form: so k rows left that are not empty leave 2^(n - k).
use Prim.Native.Nat.{ℕ, zero, suc, ◌-◌, ◌^◌, ◌≤◌, ◌<◌}
use mathlib.Core.Path.{◌≡◌, refl, sym, ap, subst, ◌∙◌}
use mathlib.Core.List.{List, [], ◌∷◌, map}
use mathlib.Core.Bool.{Bool, true, false, cond, ◌&&◌, true≢false}
use mathlib.Core.Option.{none, some}
use native.Mathlib.Omega.{arith}
use borrow.Author.Tests.{ltb-true, ltb-false}
use lib.Arith.{lt_of_le-ne}
use lib.Dec.{ltb}
use lib.ListN.{length, replicate, length-replicate, get_or-replicate}
use Rattle.rows.specs.Row.{Row, Assignment, meets, meets_all}
use Rattle.rows.specs.Count.{count}
use Rattle.rows.specs.Decisions.{Decisions, agrees, undecided}
use Rattle.rows.specs.Triangular.{HasNone, Triangular}
use Rattle.rows.proofs.Counting.{count_ext}
use Rattle.rows.proofs.Triangle.{triangular_leaves}
use Rattle.echelon.specs.Forward.{same_low, empty, low}
use Rattle.echelon.specs.Promises.{Sized, Lowest}
use Rattle.echelon.proofs.Lows.{same_low_lem, low_lowest, low_lt}
use Rattle.echelon.proofs.Reducing.{Each, each_map, Long, each_long}
use Rattle.echelon.proofs.Left.{Settled}
use Rattle.echelon.proofs.Basis.{unfound}

abbrev place : Row → ℕ
place r = low r.atoms

abbrev pub insert : Row → List Row → List Row
insert r [] = r ∷ []
insert r (b ∷ bs) = cond (ltb (place b) (place r)) (r ∷ b ∷ bs) (b ∷ insert r bs)

-- The rows that are not empty, the one with the highest lowest atom first.
abbrev pub sorted : List Row → List Row
sorted [] = []
sorted (r ∷ rs) = cond (empty r.atoms) (sorted rs) (insert r (sorted rs))

-- ---- what inserting a row does

and_swap : (a b c : Bool) → (a && (b && c)) ≡ (b && (a && c))
and_swap true b c = refl
and_swap false true c = refl
and_swap false false c = refl

pub insert_meets : (r : Row) (bs : List Row) (x : Assignment) → meets_all (insert r bs) x ≡ (meets r x && meets_all bs x)
insert_meets r [] x = refl
insert_meets r (b ∷ bs) x = go (ltb (place b) (place r)) (insert_meets r bs x)
  where
    go : (t : Bool) → meets_all (insert r bs) x ≡ (meets r x && meets_all bs x)
        → meets_all (cond t (r ∷ b ∷ bs) (b ∷ insert r bs)) x ≡ (meets r x && (meets b x && meets_all bs x))
    go true e = refl
    go false e = ap (◌&&◌ (meets b x)) e ∙ and_swap (meets b x) (meets r x) (meets_all bs x)

pub insert_length : (r : Row) (bs : List Row) → length (insert r bs) ≡ suc (length bs)
insert_length r [] = refl
insert_length r (b ∷ bs) = go (ltb (place b) (place r)) (insert_length r bs)
  where
    go : (t : Bool) → length (insert r bs) ≡ suc (length bs) → length (cond t (r ∷ b ∷ bs) (b ∷ insert r bs)) ≡ suc (suc (length bs))
    go true e = refl
    go false e = ap suc e

insert_each : (P : Row → Type 0) (r : Row) (bs : List Row) → P r → Each P bs → Each P (insert r bs)
insert_each P r [] p h = (p, tt)
insert_each P r (b ∷ bs) p h = go (ltb (place b) (place r)) (insert_each P r bs p h.1)
  where
    go : (t : Bool) → Each P (insert r bs) → Each P (cond t (r ∷ b ∷ bs) (b ∷ insert r bs))
    go true e = (p, h)
    go false e = (h.0, e)

abbrev Falling : List Row → Type 0
Falling [] = Unit {0}
Falling (b ∷ bs) = Each (λ c. place c < place b) bs × Falling bs

insert_falling : (r : Row) (bs : List Row) → Each (λ c. place c ≡ place r → ⊥) bs → Falling bs → Falling (insert r bs)
insert_falling r [] d f = (tt, tt)
insert_falling r (b ∷ bs) d f = go (ltb (place b) (place r)) refl (insert_falling r bs d.1 f.1)
  where
    go : (t : Bool) → ltb (place b) (place r) ≡ t → Falling (insert r bs) → Falling (cond t (r ∷ b ∷ bs) (b ∷ insert r bs))
    go true e g = let l = ltb-true (place b) (place r) e in ((l, each_map (λ c k. omega arith) bs f.0), f)
    go false e g =
        let l = lt_of_le-ne (ltb-false (place b) (place r) e) (λ p. d.0 (sym p)) in (insert_each (λ c. place c < place b) r bs l f.0, g)

-- ---- the rows left, sorted

abbrev Full : (Row → Type 0) → Row → Type 0
Full P r = P r × (empty r.atoms ≡ false)

sorted_each : (P : Row → Type 0) (rs : List Row) → Each P rs → Each (Full P) (sorted rs)
sorted_each P [] h = tt
sorted_each P (r ∷ rs) h = go (empty r.atoms) refl (sorted_each P rs h.1)
  where
    go : (t : Bool) → empty r.atoms ≡ t → Each (Full P) (sorted rs) → Each (Full P) (cond t (sorted rs) (insert r (sorted rs)))
    go true e g = g
    go false e g = insert_each (Full P) r (sorted rs) (h.0, e) g

-- rows that share no lowest atom have it at different places
other_place : (r c : Row) → empty r.atoms ≡ false → Full (λ b. same_low r.atoms b.atoms ≡ false) c → place c ≡ place r → ⊥
other_place r c e h p =
    true≢false (sym (same_low_lem r c (place r) (low_lowest r e) (subst (Lowest c) p (low_lowest c h.1))) ∙ h.0)

sorted_falling : (rs : List Row) → Settled rs → Falling (sorted rs)
sorted_falling [] h = tt
sorted_falling (r ∷ rs) h = go (empty r.atoms) refl (sorted_falling rs h.1)
  where
    go : (t : Bool) → empty r.atoms ≡ t → Falling (sorted rs) → Falling (cond t (sorted rs) (insert r (sorted rs)))
    go true e g = g
    go false e g =
        insert_falling r (sorted rs)
        (each_map (λ c. other_place r c e) (sorted rs) (sorted_each (λ b. same_low r.atoms b.atoms ≡ false) rs (unfound r rs h.0))) g

-- ---- triangular, where nothing is decided

abbrev pub free : ℕ → Decisions
free n = replicate n none

free_undecided : (n : ℕ) → undecided (free n) ≡ n
free_undecided zero = refl
free_undecided (suc n) = ap suc (free_undecided n)

pub free_agrees : (n : ℕ) (x : Assignment) → length x ≡ n → agrees (free n) x ≡ true
free_agrees zero [] e = refl
free_agrees zero (v ∷ x) e = let z : ⊥ = omega arith in absurd z
free_agrees (suc n) [] e = let z : ⊥ = omega arith in absurd z
free_agrees (suc n) (v ∷ x) e = free_agrees n x (omega arith)

none_below : (r : Row) → empty r.atoms ≡ false → (bs : List Row) → Each (λ c. place c < place r) bs → HasNone r (map place bs)
none_below r e [] h = tt
none_below r e (b ∷ bs) h = ((low_lowest r e).below (place b) h.0, none_below r e bs h.1)

falling_triangular : (n : ℕ) (bs : List Row) → Each (Full (Long n)) bs → Falling bs → Triangular (free n) (map place bs) bs
falling_triangular n [] h f = tt
falling_triangular n (b ∷ bs) h f =
    let e = h.0.1 in
    let l : place b < n = omega (arith, low_lt b.atoms e, h.0.0) in
    (get_or-replicate n (place b) none (some false) l, (low_lowest b e).own, none_below b e bs f.0, falling_triangular n bs h.1 f.1)

pub sorted_counts : (n : ℕ) (rs : List Row) → Sized n rs → Settled rs
    → (length (sorted rs) ≤ n) × (count n (meets_all (sorted rs)) ≡ 2 ^ (n - length (sorted rs)))
sorted_counts n rs sized settled =
    let bs = sorted rs in
    let t = falling_triangular n bs (sorted_each (Long n) rs (each_long n rs sized)) (sorted_falling rs settled) in
    let leaves = rw (free_undecided n, length-replicate) at (triangular_leaves (free n) (map place bs) bs t) in
    (leaves.0, count_ext (λ x e. sym (ap (λ (b : Bool). b && meets_all bs x) (free_agrees n x e))) ∙ leaves.1)
