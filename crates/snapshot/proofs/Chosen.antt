-- The touched rows as a set of ordinals: eight words of a list of rows, and back, and the words that `select` makes.
use Prim.Native.Nat.{ℕ, zero, suc, ◌+◌, ◌*◌, ◌/◌, ◌%◌, ◌^◌, ◌≤◌, ◌<◌}
use mathlib.Core.Path.{◌≡◌, refl, sym, ap, ap₂, ◌∙◌}
use mathlib.Core.List.{List, ◌∷◌}
use mathlib.Core.Bool.{Bool, true, false, not, xor, ◌||◌}
use native.Mathlib.Nat.{mod-lt, suc-mul}
use native.Mathlib.Omega.{arith}
use borrow.Author.Tests.{ltb-true, ltb-false}
use lib.ListN.{length, get_or, replicate, get_or-eq_default}
use lib.Bits.{bit_or, bit_xor}
use lib.Dec.{eqb, ltb}
use lib.Pow.{pow_pos, shr-shr}
use Rattle.words.specs.Set.{packed, set_of, has}
use Rattle.words.specs.Calls.{merged}
use Rattle.words.proofs.Bitwise.{by_or, by_xor}
use Rattle.words.proofs.Packed.{digit_low}
use Rattle.words.proofs.Meaning.{same_atoms, set_merged, has_or, has_xor, has_none}
use Rattle.rows.specs.Flat.{atoms_of, mask_of, unpack}
use Rattle.rows.proofs.Digits.{atoms_mask}
use Rattle.rows.proofs.Rowwise.{has_above, mask_has}
use Rattle.index.specs.Index.{column_width}
use Rattle.region.specs.declared.Region.{Region}
use Rattle.region.proofs.Masked.{mask_set}
use Rattle.snapshot.specs.declared.Snapshot.{Snapshot}
use Rattle.snapshot.specs.Steps.{Adds}
use Rattle.snapshot.specs.Touch.{newly, marks, listed, touched_of, ordinals_of}
use Rattle.snapshot.proofs.Full.{full, full_has}
use Rattle.snapshot.proofs.Marking.{marks_same}

-- ---- a list of rows and its words

listed_length : (k : ℕ) (test : ℕ → Bool) → length (listed k test) ≡ k
unfolding listed
listed_length zero test = refl
listed_length (suc k) test = ap suc (listed_length k (λ j. test (suc j)))

listed_at : (k : ℕ) (test : ℕ → Bool) (j : ℕ) → j < k → get_or (listed k test) j false ≡ test j
unfolding listed
listed_at zero test j h = let z : ⊥ = omega arith in absurd z
listed_at (suc k) test zero h = refl
listed_at (suc k) test (suc j) h = listed_at k (λ j. test (suc j)) j (omega arith)

pub touched_length : (rank : ℕ) (index : List ℕ) (r : Region) (known : Snapshot) → length (touched_of rank index r known) ≡ rank
unfolding touched_of
touched_length rank index r known = listed_length rank _

-- a row below the rank is touched when the knowledge is uninitialised or a column of a new decision marks it
pub touched_at : (rank : ℕ) (index : List ℕ) (r : Region) (known : Snapshot) (j : ℕ) → j < rank
    → get_or (touched_of rank index r known) j false ≡ (not known.initialized || marks (newly r known) (column_width rank) index j r.atoms)
unfolding touched_of
touched_at rank index r known j h = listed_at rank _ j h

-- the ordinals of a list, and the list again
pub chosen_atoms : (rank : ℕ) (rows : List Bool) → length rows ≡ rank → rank ≤ 512 → atoms_of rank (set_of (ordinals_of rows).words) ≡ rows
unfolding ordinals_of
chosen_atoms rank rows long few = ap₂ atoms_of (sym long) (mask_set rows (omega arith)) ∙ atoms_mask rows

-- ---- words with the same atoms are the same words

has_mod : (n x a : ℕ) → a < n → has (x % 2 ^ n) a ≡ has x a
has_mod n x a h = ap (λ (d : ℕ). eqb d 1) (digit_low x n a h)

has_shr : (k x a : ℕ) → has (x / 2 ^ k) a ≡ has x (k + a)
has_shr k x a = ap (λ (n : ℕ). eqb (n % 2) 1) (shr-shr x k a)

lows_same : (k x y : ℕ) → ((a : ℕ) → a < k → has x a ≡ has y a) → x % 2 ^ k ≡ y % 2 ^ k
lows_same k x y same = same_atoms _ _ (λ a. go a (ltb a k) refl)
  where
    go : (a : ℕ) (b : Bool) → ltb a k ≡ b → has (x % 2 ^ k) a ≡ has (y % 2 ^ k) a
    go a true e = let l = ltb-true a k e in has_mod k x a l ∙ same a l ∙ sym (has_mod k y a l)
    go a false e =
        let l = ltb-false a k e in
        has_above k (x % 2 ^ k) a (mod-lt x (pow_pos k)) l ∙ sym (has_above k (y % 2 ^ k) a (mod-lt y (pow_pos k)) l)

unpack_same : (k w x y : ℕ) → ((a : ℕ) → a < w * k → has x a ≡ has y a) → unpack k w x ≡ unpack k w y
unfolding unpack
unpack_same k zero x y same = refl
unpack_same k (suc w) x y same =
    ap₂ ◌∷◌ (lows_same k x y (λ a h. same a (omega (arith, suc-mul w k))))
    (unpack_same k w (x / 2 ^ k) (y / 2 ^ k) (λ a h. has_shr k x a ∙ same (k + a) (omega (arith, suc-mul w k)) ∙ sym (has_shr k y a)))

-- the atoms of a set below the rank, where a test tells them
module _ (rank x : ℕ) (test : ℕ → Bool) (told : (a : ℕ) → a < 512 → has x a ≡ test a) where
  kept_listed : unpack 64 8 (x % 2 ^ rank) ≡ unpack 64 8 (mask_of (listed rank test))
  kept_listed = unpack_same 64 8 _ _ (λ a h. go a h (ltb a rank) refl)
    where
      go : (a : ℕ) → a < 512 → (b : Bool) → ltb a rank ≡ b → has (x % 2 ^ rank) a ≡ has (mask_of (listed rank test)) a
      go a h true e =
          let l = ltb-true a rank e in
          has_mod rank x a l ∙ told a h ∙ sym (mask_has (listed rank test) a ∙ listed_at rank test a l)
      go a h false e =
          let l = ltb-false a rank e in
          let past : length (listed rank test) ≤ a = omega (arith, listed_length rank test) in
          has_above rank (x % 2 ^ rank) a (mod-lt x (pow_pos rank)) l ∙ sym (mask_has (listed rank test) a ∙ get_or-eq_default (listed rank test) false past)

-- ---- every row

pub all_chosen : (rank : ℕ) (index : List ℕ) (r : Region) (known : Snapshot) → known.initialized ≡ false
    → unpack 64 8 (set_of full % 2 ^ rank) ≡ (ordinals_of (touched_of rank index r known)).words
unfolding touched_of ordinals_of
all_chosen rank index r known e =
    kept_listed rank (set_of full) _ (λ a h.
    full_has a h ∙ sym (ap (λ (t : Bool). not t || marks (newly r known) (column_width rank) index a r.atoms) e))

-- ---- the rows that new decisions touch

zeros_none : (j : ℕ) → has (set_of (replicate 8 0)) j ≡ false
unfolding packed
zeros_none j = has_none j

module _ (r : Region) (known : Snapshot) (held : length r.held ≡ 8) (cut : length r.cut ≡ 8)
    (old-held : length known.held ≡ 8) (old-cut : length known.cut ≡ 8) where
  -- the masks joined one after the other, as lists of eight words
  pub newly_is : (x y z : List ℕ) → x ≡ merged bit_or r.held r.cut → length x ≡ 8 → y ≡ merged bit_xor x known.held → length y ≡ 8
      → z ≡ merged bit_xor y known.cut → (a : ℕ) → has (set_of z) a ≡ newly r known a
  newly_is x y z is_x long-x is_y long-y is-z a =
      let left : has (set_of x) a ≡ (has (set_of r.held) a || has (set_of r.cut) a) =
      ap (λ (l : List ℕ). has (set_of l) a) is_x ∙ ap (λ (k : ℕ). has k a) (set_merged by_or r.held r.cut (held ∙ sym cut))
      ∙ has_or (set_of r.held) (set_of r.cut) a in
      let middle : has (set_of y) a ≡ xor (has (set_of x) a) (has (set_of known.held) a) =
      ap (λ (l : List ℕ). has (set_of l) a) is_y ∙ ap (λ (k : ℕ). has k a) (set_merged by_xor x known.held (long-x ∙ sym old-held))
      ∙ has_xor (set_of x) (set_of known.held) a in
      ap (λ (l : List ℕ). has (set_of l) a) is-z ∙ ap (λ (k : ℕ). has k a) (set_merged by_xor y known.cut (long-y ∙ sym old-cut))
      ∙ has_xor (set_of y) (set_of known.cut) a
      ∙ ap (λ (t : Bool). xor t (has (set_of known.cut) a)) (middle ∙ ap (λ (t : Bool). xor t (has (set_of known.held) a)) left)

  pub new_chosen : (rank : ℕ) (index rows : List ℕ) (x : ℕ) → known.initialized ≡ true → ((a : ℕ) → has x a ≡ newly r known a)
      → Adds (replicate 8 0) (λ j. marks (has x) (column_width rank) index j r.atoms) rows
      → unpack 64 8 (set_of rows % 2 ^ rank) ≡ (ordinals_of (touched_of rank index r known)).words
  unfolding touched_of ordinals_of
  new_chosen rank index rows x e same joined =
      kept_listed rank (set_of rows) _ (λ j h.
      joined j (omega arith) ∙ ap (λ (t : Bool). t || marks (has x) (column_width rank) index j r.atoms) (zeros_none j)
      ∙ marks_same (column_width rank) index j (has x) (newly r known) r.atoms same
      ∙ sym (ap (λ (t : Bool). not t || marks (newly r known) (column_width rank) index j r.atoms) e))
