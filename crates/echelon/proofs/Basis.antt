-- The basis: the rising numbers of the rows left that are not empty, no two of which have the same lowest atom.
use Prim.Native.Nat.{ℕ, zero, suc, ◌≤◌, ◌<◌, suc-le-suc}
use mathlib.Core.Path.{◌≡◌, refl, sym, ap, subst, ◌∙◌}
use mathlib.Core.List.{List, [], ◌∷◌, ◌++◌}
use mathlib.Core.Bool.{Bool, true, false, cond, true≢false}
use mathlib.Core.Option.{Option, none, some, some-ne-none}
use native.Mathlib.Nat.{le_of_suc-le-suc}
use native.Mathlib.Omega.{arith}
use lib.ListN.{length, get_or, length-append, get_or-append}
use Rattle.rows.specs.Row.{Row}
use Rattle.echelon.specs.Forward.{same_low, empty, find, reduced, joined, eliminated, low}
use Rattle.echelon.specs.Promises.{Lowest, numbered, PivotFound, PivotsDiffer}
use Rattle.echelon.proofs.Lows.{same_low_lem, same_lowest, low_lowest}
use Rattle.echelon.proofs.Reducing.{Each}
use Rattle.echelon.proofs.Numbered.{numbered_last, numbered_before, numbered_each, each_numbered}
use Rattle.echelon.proofs.Onwards.{find_same}
use Rattle.echelon.proofs.Left.{by_rows, Settled, left_settled}

-- The numbers of the rows that are not empty.
abbrev pub numbers : List Row → List ℕ
numbers [] = []
numbers (r ∷ rs) = joined (empty r.atoms) (length rs) (numbers rs)

pub basis_is : (n : ℕ) (rs : List Row) → (eliminated n rs).basis ≡ numbers (eliminated n rs).rows
basis_is n =
    by_rows n (λ rs st. st.basis ≡ numbers st.rows) refl (λ r rs st e h. h)
    (λ r rs st e h. ap (joined (empty (reduced n st.rows r).0.atoms) (length st.rows)) h)

-- ---- a list with one number more

snoc_each : (P : ℕ → ℕ → Type 0) (l : List ℕ) (v : ℕ) → ((i : ℕ) → i < length l → P i (get_or l i 0)) → P (length l) v
    → (i : ℕ) → i < length (l ++ (v ∷ [])) → P i (get_or (l ++ (v ∷ [])) i 0)
snoc_each P [] v h p zero b = p
snoc_each P [] v h p (suc i) b = let z : ⊥ = omega arith in absurd z
snoc_each P (x ∷ l) v h p zero b = h 0 (omega arith)
snoc_each P (x ∷ l) v h p (suc i) b = snoc_each (λ j. P (suc j)) l v (λ j k. h (suc j) (suc-le-suc k)) p i (le_of_suc-le-suc b)

joined_few : (t : Bool) (s : ℕ) (l : List ℕ) → length l ≤ s → length (joined t s l) ≤ suc s
joined_few true s l h = omega arith
joined_few false s l h = omega (arith, length-append l (s ∷ []))

numbers_few : (rs : List Row) → length (numbers rs) ≤ length rs
numbers_few [] = omega arith
numbers_few (r ∷ rs) = joined_few (empty r.atoms) (length rs) (numbers rs) (numbers_few rs)

pub rank_rows : (n : ℕ) (rs : List Row) → length (eliminated n rs).basis ≤ length (eliminated n rs).rows
rank_rows n rs = rw (basis_is n rs) (numbers_few (eliminated n rs).rows)

-- ---- each names a row that is not empty, and a later one than the one before

abbrev pub Names : List Row → ℕ → Type 0
Names rs s = (s < length rs) × (empty (numbered rs s).atoms ≡ false)

names_older : (r : Row) (rs : List Row) (s : ℕ) → Names rs s → Names (r ∷ rs) s
names_older r rs s h = (omega (arith, h.0), ap (λ (q : Row). empty q.atoms) (numbered_before r rs s h.0) ∙ h.1)

pub numbers_name : (rs : List Row) (i : ℕ) → i < length (numbers rs) → Names rs (get_or (numbers rs) i 0)
numbers_name [] i h = let z : ⊥ = omega arith in absurd z
numbers_name (r ∷ rs) i h = go (empty r.atoms) refl (λ j l. names_older r rs (get_or (numbers rs) j 0) (numbers_name rs j l)) i h
  where
    go : (t : Bool) → empty r.atoms ≡ t → ((j : ℕ) → j < length (numbers rs) → Names (r ∷ rs) (get_or (numbers rs) j 0))
        → let ps = joined t (length rs) (numbers rs) in (j : ℕ) → j < length ps → Names (r ∷ rs) (get_or ps j 0)
    go true e older = older
    go false e older =
        snoc_each (λ _ s. Names (r ∷ rs) s) (numbers rs) (length rs) older
        (omega arith, ap (λ (q : Row). empty q.atoms) (numbered_last r rs) ∙ e)

numbers_rise : (rs : List Row) (i j : ℕ) → i < j → j < length (numbers rs) → get_or (numbers rs) i 0 < get_or (numbers rs) j 0
numbers_rise [] i j h l = let z : ⊥ = omega arith in absurd z
numbers_rise (r ∷ rs) i j h l = go (empty r.atoms) (numbers_rise rs) j l i h
  where
    go : (t : Bool) → ((i j : ℕ) → i < j → j < length (numbers rs) → get_or (numbers rs) i 0 < get_or (numbers rs) j 0)
        → let ps = joined t (length rs) (numbers rs) in (j : ℕ) → j < length ps → (i : ℕ) → i < j → get_or ps i 0 < get_or ps j 0
    go true rise = λ j l i h. rise i j h l
    go false rise =
        snoc_each (λ j s. (i : ℕ) → i < j → get_or (numbers rs ++ (length rs ∷ [])) i 0 < s) (numbers rs) (length rs)
        (λ j k i h. rw (get_or-append (numbers rs) (length rs ∷ []) 0 i (omega arith)) (rise i j h k))
        (λ i h. rw (get_or-append (numbers rs) (length rs ∷ []) 0 i h) (numbers_name rs i h).0)

pub basis_below : (n : ℕ) (rs : List Row) (i : ℕ) → i < length (eliminated n rs).basis
    → get_or (eliminated n rs).basis i 0 < length (eliminated n rs).rows
basis_below n rs i = rw (basis_is n rs) (λ h. (numbers_name (eliminated n rs).rows i h).0)

-- ---- no two rows left have the same lowest atom

unfound_parts : (t : Bool) (b : Row) (o : Option Row) → cond t (some b) o ≡ none → (t ≡ false) × (o ≡ none)
unfound_parts true b o e = absurd (some-ne-none b e)
unfound_parts false b o e = (refl, e)

pub unfound : (r : Row) (bs : List Row) → find r bs ≡ none → Each (λ b. same_low r.atoms b.atoms ≡ false) bs
unfound r [] e = tt
unfound r (b ∷ bs) e = let so = unfound_parts (same_low r.atoms b.atoms) b (find r bs) e in (so.0, unfound r bs so.1)

pub pivot_found : PivotFound
pivot_found r bs = (
  (λ b e. same_lowest r b (find_same r b bs e)),
  (λ e s a h own other.
      true≢false (sym (same_low_lem r (numbered bs s) a own other) ∙ each_numbered (λ b. same_low r.atoms b.atoms ≡ false) bs (unfound r bs e) s h)),
)

apart : (rs : List Row) → Settled rs → (a j : ℕ) → j < length rs → (i : ℕ) → i < j → Lowest (numbered rs i) a → Lowest (numbered rs j) a → ⊥
apart [] h a j l = let z : ⊥ = omega arith in absurd z
apart (r ∷ rs) h a j l =
    let older : (i : ℕ) → i < length rs → Lowest (numbered (r ∷ rs) i) a → Lowest (numbered rs i) a =
    λ i b. subst (λ q. Lowest q a) (numbered_before r rs i b) in
    let other = each_numbered (λ q. same_low r.atoms q.atoms ≡ false) rs (unfound r rs h.0) in
    numbered_each (λ t q. (i : ℕ) → i < t → Lowest (numbered (r ∷ rs) i) a → Lowest q a → ⊥) r rs
    (λ i b m k. true≢false (sym (same_low_lem r (numbered rs i) a k (older i b m)) ∙ other i b))
    (λ t b i c m k. apart rs h.1 a t b i c (older i (omega arith) m) k) j l

pub pivots_differ : PivotsDiffer
pivots_differ n rs sized = rw (basis_is n rs) (lowest, differ)
  where
    rows : List Row
    rows = (eliminated n rs).rows

    lowest : (i : ℕ) → i < length (numbers rows) → (get_or (numbers rows) i 0 < length rows) × (a : ℕ) × Lowest (numbered rows (get_or (numbers rows) i 0)) a
    lowest i h =
        let so = numbers_name rows i h in
        let q = numbered rows (get_or (numbers rows) i 0) in
        (so.0, low q.atoms, low_lowest q so.1)

    differ : (i j a : ℕ) → i < j → j < length (numbers rows) → Lowest (numbered rows (get_or (numbers rows) i 0)) a
        → Lowest (numbered rows (get_or (numbers rows) j 0)) a → ⊥
    differ i j a lt h =
        apart rows (left_settled n rs sized).1 a (get_or (numbers rows) j 0) (numbers_name rows j h).0 (get_or (numbers rows) i 0)
        (numbers_rise rows i j lt h)
