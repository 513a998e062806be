-- What `list` makes of placed pivots: the equations.
use Prim.Native.Nat.{ℕ, suc, ◌+◌, ◌*◌, ◌^◌}
use mathlib.Core.Path.{◌≡◌, refl, sym, ap, ap₂, ◌∙◌}
use mathlib.Core.List.{List, [], ◌∷◌, ◌++◌, map, map-map, map_congr_left}
use mathlib.Core.Bool.{Bool, true, false}
use mathlib.Core.Option.{Option, none, some}
use native.Mathlib.Nat.{add-zero, mul-one, one-mul}
use native.Mathlib.Numerals.{add-one}
use native.Mathlib.Omega.{arith}
use borrow.Author.Tests.{eq-eqb, ne_eqb}
use lib.ListN.{length, get_or, drop}
use lib.Bits.{bit_and, bit_xor}
use lib.Count.{ones}
use lib.Seq.{get_or-drop, drop-drop}
use Rattle.words.specs.Set.{odd}
use Rattle.words.proofs.Bitwise.{by_and, by_xor}
use Rattle.rows.specs.Row.{overlap}
use Rattle.rows.specs.Flat.{mask_of}
use Rattle.hull.specs.Table.{Pattern}
use Rattle.hull.specs.Equations.{Pivots, equations, zeros, through}
use Rattle.hull.specs.Propose.{local}
use Rattle.hull.specs.Steps.{bit, headed, placed, reach, within, listed}
use Rattle.hull.specs.declared.LocalEquation.{LocalEquation}
use Rattle.hull.proofs.Numbers.{mask_overlap, mask_zeros, op_shl, ones_shl, even_shl, bit_onto}
use Rattle.hull.proofs.Placed.{none_zero, some_pos}

-- what a list has from place j on
first_left : (ps : List ℕ) (j v : ℕ) (r : List ℕ) → drop j ps ≡ v ∷ r → get_or ps j 0 ≡ v
first_left ps j v r h = ap (λ n. get_or ps n 0) (sym (add-zero j)) ∙ sym (get_or-drop j ps 0 0) ∙ ap (λ l. get_or l 0 0) h

rest_left : (ps : List ℕ) (j v : ℕ) (r : List ℕ) → drop j ps ≡ v ∷ r → drop (suc j) ps ≡ r
rest_left ps j v r h = ap (λ n. drop n ps) (sym (add-one j)) ∙ sym (drop-drop 1 j ps) ∙ ap (drop 1) h

-- an equation of the positions above j takes in the bit of position j
abbrev taken : Option (List Bool) → List Bool → List Bool
taken s c = odd (overlap (false ∷ c) (headed s)) ∷ c

reach_taken : (ps : List ℕ) (j : ℕ) (s : Option (List Bool)) (c : List Bool) → get_or ps j 0 ≡ mask_of (headed s) * 2 ^ j
    → reach ps (suc j) (mask_of c * 2 ^ suc j) ≡ reach ps j (mask_of (taken s c) * 2 ^ j)
unfolding reach
reach_taken ps j s c h =
    let m = mask_of (false ∷ c) in
    let v = mask_of (headed s) in
    let o = overlap (false ∷ c) (headed s) in
    ap (reach ps j)
    (ap₂ (λ x y. bit_xor x (bit (odd (ones (bit_and x y))) * 2 ^ j)) (even_shl c j) h
    ∙ ap (λ n. bit_xor (m * 2 ^ j) (bit (odd n) * 2 ^ j)) (ap ones (op_shl by_and m v j) ∙ ones_shl (bit_and m v) j ∙ mask_overlap (false ∷ c) (headed s))
    ∙ op_shl by_xor m (bit (odd o)) j ∙ ap (λ n. n * 2 ^ j) (bit_onto (odd o) c))

lone_bit : (n j : ℕ) → mask_of (true ∷ zeros n) * 2 ^ j ≡ 2 ^ j
unfolding mask_of
lone_bit n j = ap (λ m. (m * 2 + 1) * 2 ^ j) (mask_zeros n) ∙ one-mul _

module _ (anchor : ℕ) (ps zs : List ℕ) where
  -- an equation of the positions from j on, carried to those below
  abbrev carried : ℕ → List Bool → LocalEquation
  carried j c = within anchor (reach ps j (mask_of c * 2 ^ j))

  later : (j : ℕ) (s : Option (List Bool)) (cs : List (List Bool)) → get_or ps j 0 ≡ mask_of (headed s) * 2 ^ j
      → map (carried (suc j)) cs ≡ map (carried j) (map (taken s) cs)
  later j s cs h = map_congr_left {l = cs} (λ c i. ap (within anchor) (reach_taken ps j s c h)) ∙ sym (map-map (carried j) (taken s) cs)

  listed_placed : (ss : Pivots) (j : ℕ) → drop j ps ≡ placed j ss ++ zs → listed anchor ps (length ss) j ≡ map (carried j) (equations ss)
  unfolding listed
  listed_placed [] j h = refl
  listed_placed (none ∷ ss) j h =
      let v = first_left ps j _ _ h in
      rw (eq-eqb _ _ (v ∙ none_zero j))
      (ap₂ ◌∷◌ (ap (λ c. within anchor (reach ps j c)) (sym (lone_bit (length ss) j)))
      (listed_placed ss (suc j) (rest_left ps j _ _ h) ∙ later j none (equations ss) v))
  listed_placed (some t ∷ ss) j h =
      let v = first_left ps j _ _ h in
      let held : get_or ps j 0 ≡ 0 → ⊥ = λ e. omega (arith, some_pos t j) in
      rw (ne_eqb _ _ held) (listed_placed ss (suc j) (rest_left ps j _ _ h) ∙ later j (some t) (equations ss) v)

-- all of it
pub listed_rows : (a : Pattern) (zs : List ℕ) (ss : Pivots) → listed (mask_of a) (placed 0 ss ++ zs) (length ss) 0 ≡ map local (map (through a) (equations ss))
unfolding reach
listed_rows a zs ss =
    listed_placed (mask_of a) (placed 0 ss ++ zs) zs ss 0 refl
    ∙ map_congr_left {l = equations ss} (λ c i. ap (within (mask_of a)) (mul-one (mask_of c)) ∙ ap (λ n. record { coefficients = mask_of c; constant = odd n }) (mask_overlap c a))
    ∙ sym (map-map local (through a) (equations ss))
