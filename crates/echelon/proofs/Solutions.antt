-- Elimination keeps the solutions: those of the rows handed in are those of the basis rows, 2^(n - rank) of them, unless a row was refuted.
use Prim.Native.Nat.{ℕ, suc, ◌≤◌, ◌<◌, suc-le-suc}
use mathlib.Core.Path.{◌≡◌, refl, sym, ap, ap₂, ◌∙◌}
use mathlib.Core.List.{List, [], ◌∷◌, ◌++◌, map, map-append}
use mathlib.Core.Bool.{Bool, true, false, cond, ◌&&◌, beq, and-true, and-false, and_comm, and_assoc, true≢false, false≢true}
use native.Mathlib.Omega.{arith}
use lib.ListN.{length, get_or, length-append}
use Rattle.std.proofs.lemmas.Bool.{and_parts}
use Rattle.words.specs.Set.{odd}
use Rattle.rows.specs.Row.{Row, Assignment, overlap, meets, meets_all, add}
use Rattle.rows.proofs.Sums.{sum_met}
use Rattle.rows.proofs.Counting.{count_ext}
use Rattle.echelon.specs.Forward.{empty, reduced, joined, State, next, eliminated}
use Rattle.echelon.specs.Promises.{Sized, numbered, basis_rows, SolutionsKept, SoundCounts}
use Rattle.echelon.proofs.Reducing.{Each, reduced_keeps}
use Rattle.echelon.proofs.Numbered.{numbered_last, numbered_before}
use Rattle.echelon.proofs.Left.{by_rows, left_settled}
use Rattle.echelon.proofs.Basis.{numbers, basis_is, numbers_name}
use Rattle.echelon.proofs.Sorted.{insert, sorted, insert_meets, insert_length, sorted_counts}

-- ---- one row

each_met : (rs : List Row) (x : Assignment) → meets_all rs x ≡ true → Each (λ b. meets b x ≡ true) rs
each_met [] x h = tt
each_met (r ∷ rs) x h = let so = and_parts (meets r x) (meets_all rs x) h in (so.0, each_met rs x so.1)

beq_true : (b : Bool) → beq b true ≡ b
beq_true true = refl
beq_true false = refl

-- a row that is met added changes nothing
pub add_met : (x : Assignment) (r b : Row) → meets b x ≡ true → meets (add r b) x ≡ meets r x
add_met x r b h = sum_met r b x ∙ ap (beq (meets r x)) h ∙ beq_true (meets r x)

-- so a row is left with the same solutions, among those of the older rows
reduced_meets : (n : ℕ) (bs : List Row) (r : Row) (x : Assignment) → (meets (reduced n bs r).0 x && meets_all bs x) ≡ (meets r x && meets_all bs x)
reduced_meets n bs r x = go (meets_all bs x) refl
  where
    go : (t : Bool) → meets_all bs x ≡ t → (meets (reduced n bs r).0 x && t) ≡ (meets r x && t)
    go true e =
        ap (λ (t : Bool). t && true)
        (reduced_keeps (λ q. meets q x ≡ meets r x) (λ b. meets b x ≡ true) (λ q b h k. add_met x q b k ∙ h) bs (each_met bs x e) n r refl)
    go false e = and-false (meets (reduced n bs r).0 x) ∙ sym (and-false (meets r x))

overlap_none : (r x : List Bool) → empty r ≡ true → overlap r x ≡ 0
overlap_none [] x e = refl
overlap_none (true ∷ r) x e = absurd (false≢true e)
overlap_none (false ∷ r) [] e = refl
overlap_none (false ∷ r) (v ∷ x) e = overlap_none r x e

-- an empty row is met exactly when its constant is 0
pub empty_meets : (r : Row) (x : Assignment) (c : Bool) → empty r.atoms ≡ true → r.constant ≡ c → meets r x ≡ beq false c
empty_meets r x c e k = ap₂ (λ (o : ℕ) (d : Bool). beq (odd o) d) (overlap_none r.atoms x e) k

-- ---- the rows left

record Kept (rs : List Row) (st : State) (x : Assignment) : Type 0 where
  rows : st.refuted ≡ false → meets_all st.rows x ≡ meets_all rs x
  pivots : st.refuted ≡ false → meets_all (sorted st.rows) x ≡ meets_all st.rows x
  none : st.refuted ≡ true → meets_all rs x ≡ false

sorted_next : (q : Row) (rows : List Row) (x : Assignment) (t c : Bool) → empty q.atoms ≡ t → q.constant ≡ c → (t && c) ≡ false
    → meets_all (sorted rows) x ≡ meets_all rows x → meets_all (cond t (sorted rows) (insert q (sorted rows))) x ≡ (meets q x && meets_all rows x)
sorted_next q rows x true true e d k h = absurd (true≢false k)
sorted_next q rows x true false e d k h = h ∙ sym (ap (λ (b : Bool). b && meets_all rows x) (empty_meets q x false e d))
sorted_next q rows x false c e d k h = insert_meets q (sorted rows) x ∙ ap (◌&&◌ (meets q x)) h

kept_next : (n : ℕ) (x : Assignment) (r : Row) (rs : List Row) (st : State) → st.refuted ≡ false → Kept rs st x
    → Kept (r ∷ rs) (next st (reduced n st.rows r)) x
kept_next n x r rs st e h =
    let q = (reduced n st.rows r).0 in
    let same : (meets q x && meets_all st.rows x) ≡ (meets r x && meets_all rs x) =
    reduced_meets n st.rows r x ∙ ap (◌&&◌ (meets r x)) (h.rows e) in
    record {
      rows = λ k. same;
      pivots = λ k. sorted_next q st.rows x (empty q.atoms) q.constant refl refl k (h.pivots e);
      none = λ k.
          let so = and_parts (empty q.atoms) q.constant k in
          sym same ∙ ap (λ (b : Bool). b && meets_all st.rows x) (empty_meets q x true so.0 so.1);
    }

kept : (n : ℕ) (x : Assignment) (rs : List Row) → Kept rs (eliminated n rs) x
kept n x =
    by_rows n (λ rs st. Kept rs st x) (record { rows = λ e. refl; pivots = λ e. refl; none = λ e. absurd (false≢true e) })
    (λ r rs st e h. record {
      rows = λ k. absurd (true≢false (sym e ∙ k));
      pivots = λ k. absurd (true≢false (sym e ∙ k));
      none = λ k. ap (◌&&◌ (meets r x)) (h.none e) ∙ and-false (meets r x);
    })
    (kept_next n x)

-- ---- the rows that the basis names

pub meets_append : (l m : List Row) (x : Assignment) → meets_all (l ++ m) x ≡ (meets_all l x && meets_all m x)
meets_append [] m x = refl
meets_append (r ∷ l) m x = ap (◌&&◌ (meets r x)) (meets_append l m x) ∙ sym (and_assoc (meets r x) (meets_all l x) (meets_all m x))

-- numbers of older rows name the same rows
map_older : (r : Row) (rs : List Row) (l : List ℕ) → ((i : ℕ) → i < length l → get_or l i 0 < length rs) → map (numbered (r ∷ rs)) l ≡ map (numbered rs) l
map_older r rs [] h = refl
map_older r rs (s ∷ l) h = ap₂ ◌∷◌ (numbered_before r rs s (h 0 (omega arith))) (map_older r rs l (λ i b. h (suc i) (suc-le-suc b)))

named_meets : (rs : List Row) (x : Assignment) → meets_all (map (numbered rs) (numbers rs)) x ≡ meets_all (sorted rs) x
named_meets [] x = refl
named_meets (r ∷ rs) x = go (empty r.atoms) (ap (λ l. meets_all l x) (map_older r rs (numbers rs) (λ i h. (numbers_name rs i h).0)) ∙ named_meets rs x)
  where
    go : (t : Bool) → meets_all (map (numbered (r ∷ rs)) (numbers rs)) x ≡ meets_all (sorted rs) x
        → meets_all (map (numbered (r ∷ rs)) (joined t (length rs) (numbers rs))) x ≡ meets_all (cond t (sorted rs) (insert r (sorted rs))) x
    go true e = e
    go false e =
        ap (λ l. meets_all l x) (map-append (numbered (r ∷ rs)) (numbers rs) (length rs ∷ []))
        ∙ meets_append (map (numbered (r ∷ rs)) (numbers rs)) (numbered (r ∷ rs) (length rs) ∷ []) x
        ∙ ap₂ ◌&&◌ e (and-true (meets (numbered (r ∷ rs) (length rs)) x) ∙ ap (λ q. meets q x) (numbered_last r rs))
        ∙ and_comm (meets_all (sorted rs) x) (meets r x) ∙ sym (insert_meets r (sorted rs) x)

basis_meets : (n : ℕ) (rs : List Row) (x : Assignment) → meets_all (basis_rows (eliminated n rs)) x ≡ meets_all (sorted (eliminated n rs).rows) x
basis_meets n rs x =
    let rows = (eliminated n rs).rows in ap (λ l. meets_all (map (numbered rows) l) x) (basis_is n rs) ∙ named_meets rows x

pub solutions_kept : SolutionsKept
solutions_kept n rs x =
    let so = kept n x rs in ((λ e. basis_meets n rs x ∙ so.pivots e ∙ so.rows e), so.none)

-- ---- their number

named_length : (rs : List Row) → length (numbers rs) ≡ length (sorted rs)
named_length [] = refl
named_length (r ∷ rs) = go (empty r.atoms) (named_length rs)
  where
    go : (t : Bool) → length (numbers rs) ≡ length (sorted rs)
        → length (joined t (length rs) (numbers rs)) ≡ length (cond t (sorted rs) (insert r (sorted rs)))
    go true e = e
    go false e = omega (arith, e, length-append (numbers rs) (length rs ∷ []), insert_length r (sorted rs))

rank_is : (n : ℕ) (rs : List Row) → length (eliminated n rs).basis ≡ length (sorted (eliminated n rs).rows)
rank_is n rs = ap length (basis_is n rs) ∙ named_length (eliminated n rs).rows

pub sound_counts : SoundCounts
sound_counts n rs sized =
    let so = left_settled n rs sized in
    let counts = sorted_counts n (eliminated n rs).rows so.0 so.1 in
    rw (rank_is n rs) (counts.0, λ e. count_ext (λ x l. sym ((kept n x rs).pivots e ∙ (kept n x rs).rows e)) ∙ counts.1)

pub rank_le : (n : ℕ) (rs : List Row) → Sized n rs → length (eliminated n rs).basis ≤ n
rank_le n rs sized = (sound_counts n rs sized).0
