-- A row, an assignment, and when the one meets the other. Place a of a list of Bools is atom a.
use Rattle.std.specs.Prelude.{ℕ, suc, List, [], ◌∷◌, Bool, true, false, cond, ◌&&◌, get_or, replicate}
use Rattle.std.specs.Bool.{xor, beq}
use Rattle.words.specs.Set.{odd}

-- "An atom is one measure: true means swapped."
abbrev pub Assignment : Type 0
Assignment = List Bool

-- "A row is a set of atoms and a constant 0 or 1."
pub record Row : Type 0 where
  pub atoms : List Bool
  pub constant : Bool

abbrev pub has_atom : Row → ℕ → Bool
has_atom r a = get_or r.atoms a false

-- How many atoms are in both: of a set and an assignment, the count of true atoms in the set.
abbrev pub overlap : List Bool → List Bool → ℕ
overlap [] x = 0
overlap (b ∷ r) [] = 0
overlap (b ∷ r) (v ∷ x) = cond (b && v) (suc (overlap r x)) (overlap r x)

-- "An assignment meets it when its count of true atoms in the set is odd exactly when the constant is 1."
abbrev pub meets : Row → Assignment → Bool
meets r x = beq (odd (overlap r.atoms x)) r.constant

abbrev pub meets_all : List Row → Assignment → Bool
meets_all [] x = true
meets_all (r ∷ rs) x = meets r x && meets_all rs x

-- The atoms in just one of two sets.
abbrev pub plus : List Bool → List Bool → List Bool
plus [] s = s
plus (a ∷ r) [] = a ∷ r
plus (a ∷ r) (b ∷ s) = xor a b ∷ plus r s

-- "that row is added (XOR, constants too; one addition)"
abbrev pub add : Row → Row → Row
add r s = record { atoms = plus r.atoms s.atoms; constant = xor r.constant s.constant }

-- The sum of the rows chosen, over n atoms.
abbrev pub sum_of : ℕ → List Bool → List Row → Row
sum_of n [] rs = record { atoms = replicate n false; constant = false }
sum_of n (b ∷ bs) [] = record { atoms = replicate n false; constant = false }
sum_of n (b ∷ bs) (r ∷ rs) = cond b (add r (sum_of n bs rs)) (sum_of n bs rs)
