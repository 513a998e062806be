-- Atoms inserted into empty words: they are the words of the set of the atoms named.
use Prim.Native.Nat.{ℕ, zero, suc, ◌+◌, ◌-◌, ◌*◌, ◌/◌, ◌%◌, ◌^◌, ◌≤◌, ◌<◌}
use mathlib.Core.Path.{◌≡◌, refl, sym, ap, subst, ◌∙◌}
use mathlib.Core.List.{List, [], ◌∷◌, map}
use mathlib.Core.Bool.{Bool, false, ◌||◌, or_assoc, or-false}
use native.Mathlib.Nat.{add-zero, add-suc, suc-add, zero-add, div-lt_iff_lt-mul, zero-lt-suc, mod-lt}
use native.Mathlib.Omega.{arith}
use lib.Bits.{or_lt}
use lib.Pow.{pow-lt, pow_pos}
use lib.ListN.{length, get_or, set, replicate, length-replicate, length-map}
use lib.Seq.{ext_get_or}
use Rattle.words.specs.Set.{set_of, has}
use Rattle.words.specs.Calls.{inserted}
use Rattle.words.proofs.Meaning.{set_inserted, insert_adds, has_none}
use Rattle.rows.specs.Flat.{width_of, atoms_of, mask_of, unpack}
use Rattle.rows.proofs.Digits.{atoms_has, atoms_length, atoms_fix_words}
use Rattle.embed.proofs.Named.{packed_zeros}
use Rattle.embed.proofs.Writing.{inserted_length}
use Rattle.format.specs.Bytes.{list_from}
use Rattle.format.proofs.Listing.{list_length, list_next}
use Rattle.records.specs.Promises.{AllBelow}
use Rattle.load.specs.Parts.{among, set_named}
use Rattle.load.specs.Steps.{inserted_all}

-- a row's words have a place for every atom
pub wide : (n : ℕ) → n ≤ width_of n * 64
wide n = omega arith

pub set_length : (n : ℕ) (atoms : List ℕ) → length (set_named n atoms) ≡ n
unfolding set_named
set_length n atoms = length-map (list_from (λ (a : ℕ). a) 0 n) (λ (a : ℕ). among a atoms) ∙ list_length (λ (a : ℕ). a) 0 n

-- ---- the turns of `fill_row`

module _ (number : ℕ → ℕ) (i c : ℕ) (ws : List ℕ) where
  pub inserted_next : i < c → inserted_all (list_from number i (c - i)) ws ≡ inserted_all (list_from number (i + 1) (c - (i + 1))) (inserted ws (number i))
  unfolding inserted_all
  inserted_next h = ap (λ (l : List ℕ). inserted_all l ws) (list_next number i c h)

  pub inserted_end : c ≤ i → inserted_all (list_from number i (c - i)) ws ≡ ws
  unfolding inserted_all list_from
  inserted_end h = let none : c - i ≡ 0 = omega arith in ap (λ (k : ℕ). inserted_all (list_from number i k) ws) none

-- ---- what the words hold then

all_length : (atoms ws : List ℕ) → length (inserted_all atoms ws) ≡ length ws
unfolding inserted_all
all_length [] ws = refl
all_length (a ∷ atoms) ws = all_length atoms (inserted ws a) ∙ inserted_length ws a

-- every word is below a bound
abbrev Bounded : ℕ → List ℕ → Type 0
Bounded b ws = (i : ℕ) → get_or ws i 0 < b

bounded_zeros : (b w : ℕ) → 0 < b → Bounded b (replicate w 0)
bounded_zeros b zero h i = h
bounded_zeros b (suc w) h zero = h
bounded_zeros b (suc w) h (suc i) = bounded_zeros b w h i

bounded_set : (b : ℕ) (ws : List ℕ) (i v : ℕ) → v < b → Bounded b ws → Bounded b (set ws i v)
bounded_set b [] i v l h j = h j
bounded_set b (x ∷ ws) zero v l h zero = l
bounded_set b (x ∷ ws) zero v l h (suc j) = h (suc j)
bounded_set b (x ∷ ws) (suc i) v l h zero = h 0
bounded_set b (x ∷ ws) (suc i) v l h (suc j) = bounded_set b ws i v l (λ k. h (suc k)) j

bounded_all : (atoms ws : List ℕ) → Bounded (2 ^ 64) ws → Bounded (2 ^ 64) (inserted_all atoms ws)
unfolding inserted_all inserted
bounded_all [] ws h = h
bounded_all (a ∷ atoms) ws h =
    bounded_all atoms (inserted ws a)
    (bounded_set (2 ^ 64) ws (a / 64) _ (or_lt 64 (get_or ws (a / 64) 0) (2 ^ (a % 64)) (h (a / 64)) (pow-lt (mod-lt a (zero-lt-suc 63)))) h)

module _ (n w : ℕ) (fits : n ≤ w * 64) where
  room : (a : ℕ) (ws : List ℕ) → a < n → length ws ≡ w → a / 64 < length ws
  room a ws h e = let below : a < w * 64 = omega arith in omega (arith, (div-lt_iff_lt-mul (zero-lt-suc 63)).1 below)

  clean_all : (atoms ws : List ℕ) → AllBelow n atoms → length ws ≡ w → set_of ws < 2 ^ n → set_of (inserted_all atoms ws) < 2 ^ n
  unfolding inserted_all
  clean_all [] ws h e l = l
  clean_all (a ∷ atoms) ws h e l =
      clean_all atoms (inserted ws a) h.1 (inserted_length ws a ∙ e)
      (subst (λ (x : ℕ). x < 2 ^ n) (sym (set_inserted ws a (room a ws h.0 e))) (or_lt n (set_of ws) (2 ^ a) l (pow-lt h.0)))

  has_all : (atoms ws : List ℕ) (a : ℕ) → AllBelow n atoms → length ws ≡ w → has (set_of (inserted_all atoms ws)) a ≡ (has (set_of ws) a || among a atoms)
  unfolding inserted_all
  has_all [] ws a h e = sym (or-false _)
  has_all (b ∷ atoms) ws a h e =
      has_all atoms (inserted ws b) a h.1 (inserted_length ws b ∙ e)
      ∙ ap (λ (t : Bool). t || among a atoms) ((insert_adds ws b).0 (room b ws h.0 e) a) ∙ or_assoc (has (set_of ws) a) _ (among a atoms)

  -- ---- so they are the words of a set

  module _ (atoms : List ℕ) (below : AllBelow n atoms) where
    pub all_words : unpack 64 w (mask_of (atoms_of n (set_of (inserted_all atoms (replicate w 0))))) ≡ inserted_all atoms (replicate w 0)
    all_words =
        let ws = inserted_all atoms (replicate w 0) in
        let zeros : length {A = ℕ} (replicate w 0) ≡ w = length-replicate {A = ℕ} w 0 in
        let size : length ws ≡ w = all_length atoms (replicate w 0) ∙ zeros in
        let none : set_of (replicate w 0) < 2 ^ n = subst (λ (x : ℕ). x < 2 ^ n) (sym (packed_zeros w)) (pow_pos n) in
        ap (λ (k : ℕ). unpack 64 k (mask_of (atoms_of n (set_of ws)))) (sym size)
        ∙ atoms_fix_words 64 n ws (bounded_all atoms (replicate w 0) (bounded_zeros (2 ^ 64) w (pow_pos 64))) (clean_all atoms (replicate w 0) below zeros none)

    named_at : (f : ℕ → Bool) (i c j : ℕ) → j < c → get_or (map f (list_from (λ (a : ℕ). a) i c)) j false ≡ f (i + j)
    unfolding list_from
    named_at f i zero j h = let z : ⊥ = omega arith in absurd z
    named_at f i (suc c) zero h = ap f (sym (add-zero i))
    named_at f i (suc c) (suc j) h = named_at f (suc i) c j (omega arith) ∙ ap f (suc-add i j ∙ sym (add-suc i j))

    named_atoms : atoms_of n (set_of (inserted_all atoms (replicate w 0))) ≡ set_named n atoms
    unfolding set_named
    named_atoms =
        let x = set_of (inserted_all atoms (replicate w 0)) in
        ext_get_or false (atoms_of n x) (set_named n atoms) (atoms_length n x ∙ sym (set_length n atoms))
        (λ a l.
        let lt : a < n = omega (arith, atoms_length n x) in
        atoms_has n x a lt ∙ has_all atoms (replicate w 0) a below (length-replicate {A = ℕ} w 0)
        ∙ ap (λ (y : ℕ). has y a || among a atoms) (packed_zeros w) ∙ ap (λ (t : Bool). t || among a atoms) (has_none a)
        ∙ sym (named_at (λ (b : ℕ). among b atoms) 0 n a lt ∙ ap (λ (b : ℕ). among b atoms) (zero-add a)))

    pub named_words : inserted_all atoms (replicate w 0) ≡ unpack 64 w (mask_of (set_named n atoms))
    named_words = sym all_words ∙ ap (λ (s : List Bool). unpack 64 w (mask_of s)) named_atoms
