-- A sum of rows of undecided atoms has undecided atoms only, and so has a row reduced by such rows.
use Prim.Native.Nat.{ℕ, zero, suc}
use mathlib.Core.Path.{◌≡◌, refl, sym, ap₂, ◌∙◌}
use mathlib.Core.List.{List, [], ◌∷◌, map, zip_with}
use mathlib.Core.Bool.{Bool, true, false, xor, ◌&&◌, and-false, false≢true}
use mathlib.Core.Option.{none, some}
use lib.ListN.{get_or}
use Rattle.rows.specs.Row.{Row, has_atom, plus, add}
use Rattle.rows.specs.Decisions.{Decisions}
use Rattle.rows.specs.Triangular.{Open}
use Rattle.rows.proofs.Plus.{xor_comm, xor_false}
use Rattle.echelon.specs.Forward.{low}
use Rattle.echelon.proofs.Reducing.{Each}
use Rattle.region.specs.Masks.{is_open}
use Rattle.inspect.proofs.Following.{chosen}
use Rattle.probe.specs.Elimination.{reduced_by}

-- ---- the atoms of a sum

has_plus : (r s : List Bool) (a : ℕ) → get_or (plus r s) a false ≡ xor (get_or r a false) (get_or s a false)
has_plus [] s a = sym (xor_false (get_or s a false))
has_plus (b ∷ r) [] a = sym (xor_comm (get_or (b ∷ r) a false) false ∙ xor_false (get_or (b ∷ r) a false))
has_plus (b ∷ r) (c ∷ s) zero = refl
has_plus (b ∷ r) (c ∷ s) (suc a) = has_plus r s a

pub has_sum : (r s : Row) (a : ℕ) (b c : Bool) → has_atom r a ≡ b → has_atom s a ≡ c → has_atom (add r s) a ≡ xor b c
has_sum r s a b c e f = has_plus r.atoms s.atoms a ∙ ap₂ xor e f

-- ---- undecided atoms only

abbrev pub Undecided : Decisions → Row → Type 0
Undecided p r = (a : ℕ) → has_atom r a ≡ true → Open p a

pub opened : (p : Decisions) (r : List Bool) (a : ℕ) → get_or (zip_with ◌&&◌ r (map is_open p)) a false ≡ true → Open p a
unfolding zip_with
opened p [] a h = absurd (false≢true h)
opened [] (b ∷ r) a h = absurd (false≢true h)
opened (none ∷ p) (b ∷ r) zero h = refl
opened (some v ∷ p) (b ∷ r) zero h = absurd (false≢true (sym (and-false b) ∙ h))
opened (d ∷ p) (b ∷ r) (suc a) h = opened p r a h

of_either : (P : Type 0) (b c : Bool) → xor b c ≡ true → (b ≡ true → P) → (c ≡ true → P) → P
of_either P true c e h g = h refl
of_either P false c e h g = g (sym (xor_false c) ∙ e)

sum_undecided : (p : Decisions) (r s : Row) → Undecided p r → Undecided p s → Undecided p (add r s)
sum_undecided p r s h g a e =
    of_either (Open p a) (has_atom r a) (has_atom s a) (sym (has_plus r.atoms s.atoms a) ∙ e) (h a) (g a)

pub reduced_undecided : (p : Decisions) (ks : List Row) (r : Row) → Each (Undecided p) ks → Undecided p r → Undecided p (reduced_by ks r)
unfolding reduced_by
reduced_undecided p [] r each h = h
reduced_undecided p (k ∷ ks) r each h =
    let s = reduced_by ks r in
    let rest = reduced_undecided p ks r each.1 h in
    chosen (Undecided p) (has_atom s (low k.atoms)) (add s k) s (λ e. sum_undecided p s k rest each.0) (λ e. rest)
