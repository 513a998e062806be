-- Each row left is a sum of rows handed in: sums of sums are sums.
use Prim.Native.Nat.{ℕ}
use mathlib.Core.Path.{◌≡◌, sym, ap, ap₂, ◌∙◌}
use mathlib.Core.List.{List, [], ◌∷◌}
use mathlib.Core.Bool.{Bool, true, false, xor}
use lib.ListN.{length-replicate}
use Rattle.rows.specs.Row.{Row, plus, add, sum_of}
use Rattle.echelon.specs.Forward.{eliminated}
use Rattle.echelon.specs.Promises.{Sized, LeftAreSums}
use Rattle.echelon.proofs.Reducing.{Each, each_map, Long, long_add, reduced_keeps}
use Rattle.echelon.proofs.Numbered.{each_numbered}
use Rattle.echelon.proofs.Left.{by_rows}
use Rattle.rows.proofs.Plus.{add_comm, add_assoc, add_twice, add_zeros}

abbrev Sum : ℕ → List Row → Row → Type 0
Sum n rs q = (bs : List Bool) × (q ≡ sum_of n bs rs)

sum_long : (n : ℕ) (bs : List Bool) (rs : List Row) → Sized n rs → Long n (sum_of n bs rs)
sum_long n [] rs h = length-replicate n false
sum_long n (b ∷ bs) [] h = length-replicate n false
sum_long n (true ∷ bs) (r ∷ rs) h = long_add n r (sum_of n bs rs) h.0 (sum_long n bs rs h.1)
sum_long n (false ∷ bs) (r ∷ rs) h = sum_long n bs rs h.1

swap : (r s t : Row) → add s (add r t) ≡ add r (add s t)
swap r s t = sym (add_assoc s r t) ∙ ap (λ q. add q t) (add_comm s r) ∙ add_assoc r s t

sum_plus : (n : ℕ) (bs cs : List Bool) (rs : List Row) → Sized n rs → add (sum_of n bs rs) (sum_of n cs rs) ≡ sum_of n (plus bs cs) rs
unfolding xor
sum_plus n [] cs rs h = add_zeros n (sum_of n cs rs) (sum_long n cs rs h)
sum_plus n (b ∷ bs) [] rs h = add_comm (sum_of n (b ∷ bs) rs) (sum_of n [] rs) ∙ add_zeros n (sum_of n (b ∷ bs) rs) (sum_long n (b ∷ bs) rs h)
sum_plus n (b ∷ bs) (c ∷ cs) [] h = add_zeros n (sum_of n [] []) (length-replicate n false)
sum_plus n (true ∷ bs) (true ∷ cs) (r ∷ rs) h =
    let s = sum_of n bs rs in
    let t = sum_of n cs rs in
    add_assoc r s (add r t) ∙ ap (add r) (swap r s t)
    ∙ add_twice r (add s t) (h.0 ∙ sym (long_add n s t (sum_long n bs rs h.1) (sum_long n cs rs h.1))) ∙ sum_plus n bs cs rs h.1
sum_plus n (true ∷ bs) (false ∷ cs) (r ∷ rs) h = add_assoc r (sum_of n bs rs) (sum_of n cs rs) ∙ ap (add r) (sum_plus n bs cs rs h.1)
sum_plus n (false ∷ bs) (true ∷ cs) (r ∷ rs) h = swap r (sum_of n bs rs) (sum_of n cs rs) ∙ ap (add r) (sum_plus n bs cs rs h.1)
sum_plus n (false ∷ bs) (false ∷ cs) (r ∷ rs) h = sum_plus n bs cs rs h.1

-- ---- the rows left

sum_own : (n : ℕ) (r : Row) (rs : List Row) → Long n r → Sum n (r ∷ rs) r
sum_own n r rs l = (true ∷ [], sym (add_comm r (sum_of n [] rs) ∙ add_zeros n r l))

sum_older : (n : ℕ) (r : Row) (rs : List Row) (q : Row) → Sum n rs q → Sum n (r ∷ rs) q
sum_older n r rs q h = (false ∷ h.0, h.1)

sum_add : (n : ℕ) (rs : List Row) → Sized n rs → (p q : Row) → Sum n rs p → Sum n rs q → Sum n rs (add p q)
sum_add n rs sized p q h k = (plus h.0 k.0, ap₂ add h.1 k.1 ∙ sum_plus n h.0 k.0 rs sized)

sums : (n : ℕ) (rs : List Row) → Sized n rs → Each (Sum n rs) (eliminated n rs).rows
sums n =
    by_rows n (λ rs st. Sized n rs → Each (Sum n rs) st.rows) (λ sized. tt)
    (λ r rs st e h sized. each_map (sum_older n r rs) st.rows (h sized.1))
    (λ r rs st e h sized.
    let older = each_map (sum_older n r rs) st.rows (h sized.1) in
    let Q = Sum n (r ∷ rs) in
    (reduced_keeps Q Q (sum_add n (r ∷ rs) sized) st.rows older n r (sum_own n r rs sized.0), older))

pub left_are_sums : LeftAreSums
left_are_sums n rs sized = each_numbered (Sum n rs) (eliminated n rs).rows (sums n rs sized)
