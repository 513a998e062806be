-- A table's equations over the atoms named are met exactly when the table is, where it is exact.
use Prim.Native.Nat.{ℕ, zero, suc, ◌<◌}
use mathlib.Core.Path.{◌≡◌, refl, sym, ap, ap₂, ◌∙◌}
use mathlib.Core.List.{List, [], ◌∷◌, map}
use mathlib.Core.Bool.{Bool, true, false, cond, ◌&&◌, beq}
use native.Mathlib.Omega.{arith}
use lib.ListN.{length, get_or, set, length-set, length-replicate}
use lib.Seq.{get_or-set_other}
use Rattle.words.specs.Set.{odd}
use Rattle.rows.specs.Row.{Row, Assignment, overlap, meets_all}
use Rattle.hull.specs.Equations.{hull_of}
use Rattle.embed.specs.Embed.{Rising, named, spread, row_over}
use Rattle.embed.specs.Promises.{TableIsRows}
use Rattle.hull.proofs.Dot.{overlap_zeros}
use Rattle.hull.proofs.Only.{get_d_zeros}
use Rattle.hull.proofs.Exact.{exact_is_set}

-- one atom more
overlap_set : (r x : List Bool) (a : ℕ) → a < length r → get_or r a false ≡ false
    → overlap (set r a true) x ≡ cond (get_or x a false) (suc (overlap r x)) (overlap r x)
overlap_set [] x a l h = omega arith
overlap_set (b ∷ r) [] zero l h = refl
overlap_set (b ∷ r) [] (suc a) l h = refl
overlap_set (true ∷ r) (v ∷ x) zero l h = cc
overlap_set (false ∷ r) (v ∷ x) zero l h = refl
overlap_set (b ∷ r) (v ∷ x) (suc a) l h = more (b && v) (get_or x a false) _ (overlap r x) (overlap_set r x a (omega arith) h)
  where
    more : (p q : Bool) (m n : ℕ) → m ≡ cond q (suc n) n → cond p (suc m) m ≡ cond q (suc (cond p (suc n) n)) (cond p (suc n) n)
    more true true m n e = ap suc e
    more true false m n e = ap suc e
    more false true m n e = e
    more false false m n e = e

pub spread_length : (n : ℕ) (names : List ℕ) (c : List Bool) → length (spread n names c) ≡ n
spread_length n [] c = length-replicate n false
spread_length n (a ∷ names) [] = length-replicate n false
spread_length n (a ∷ names) (true ∷ c) = length-set (spread n names c) a true ∙ spread_length n names c
spread_length n (a ∷ names) (false ∷ c) = spread_length n names c

-- atoms below the first one named are clear
spread_clear : (n from : ℕ) (names : List ℕ) (c : List Bool) → Rising from n names → (a : ℕ) → a < from → get_or (spread n names c) a false ≡ false
spread_clear n from [] c r a h = get_d_zeros n a
spread_clear n from (b ∷ names) [] r a h = get_d_zeros n a
spread_clear n from (b ∷ names) (true ∷ c) r a h =
    let ne : a ≡ b → ⊥ = λ e. omega (arith, r.0) in
    get_or-set_other (spread n names c) b a true false ne ∙ spread_clear n (suc b) names c r.2 a (omega (arith, r.0))
spread_clear n from (b ∷ names) (false ∷ c) r a h = spread_clear n (suc b) names c r.2 a (omega (arith, r.0))

overlap_spread : (n from : ℕ) (names : List ℕ) (c : List Bool) (x : Assignment) → Rising from n names
    → overlap (spread n names c) x ≡ overlap c (named names x)
overlap_spread n from [] [] x r = overlap_zeros n x
overlap_spread n from [] (b ∷ c) x r = overlap_zeros n x
overlap_spread n from (a ∷ names) [] x r = overlap_zeros n x
overlap_spread n from (a ∷ names) (true ∷ c) x r =
    let within : a < length (spread n names c) = omega (arith, spread_length n names c, r.1) in
    overlap_set (spread n names c) x a within (spread_clear n (suc a) names c r.2 a (omega arith))
    ∙ ap (λ (o : ℕ). cond (get_or x a false) (suc o) o) (overlap_spread n (suc a) names c x r.2)
overlap_spread n from (a ∷ names) (false ∷ c) x r = overlap_spread n (suc a) names c x r.2

pub meets_over : (n : ℕ) (names : List ℕ) (rs : List Row) (x : Assignment) → Rising 0 n names
    → meets_all (map (row_over n names) rs) x ≡ meets_all rs (named names x)
meets_over n names [] x r = refl
meets_over n names (q ∷ rs) x r =
    ap₂ ◌&&◌ (ap (λ (o : ℕ). beq (odd o) q.constant) (overlap_spread n 0 names q.atoms x r)) (meets_over n names rs x r)

named_length : (names : List ℕ) (x : Assignment) → length (named names x) ≡ length names
named_length [] x = refl
named_length (a ∷ names) x = ap suc (named_length names x)

pub table_is_rows : TableIsRows
table_is_rows n k names words x size rising exact =
    (exact_is_set k words).0 exact (named names x) (named_length names x ∙ size) ∙ sym (meets_over n names (hull_of k words).rows x rising)
