-- What the numbers mean as sets of atoms: the proofs of specs/Promises.antt.
use Prim.Native.Nat.{ℕ, zero, suc, ◌+◌, ◌-◌, ◌*◌, ◌/◌, ◌%◌, ◌^◌, ◌≤◌, ◌<◌}
use mathlib.Core.Path.{◌≡◌, refl, sym, ap, ap₂, ◌∙◌, subst}
use mathlib.Core.List.{List, [], ◌∷◌, ◌++◌, zip_with}
use mathlib.Core.Bool.{Bool, true, false, cond, not, xor, ◌&&◌, ◌||◌, and-false, true≢false, false≢true}
use mathlib.Core.Logic.{inl, inr}
use native.Mathlib.Nat.{mod-lt, mod-eq_of_lt, mod-add-div', div-one, div-eq_of_lt, mul-div_cancel, one-mul, add_comm, zero-lt-suc, pow-suc, mul-mod_left, zero-div, suc-mul, le_refl}
use native.Mathlib.Numerals.{one-add, add-one}
use native.Mathlib.Omega.{arith}
use borrow.Author.Tests.{eq-eqb, ne_eqb, eqb-true, eqb-false}
use Rattle.std.proofs.Math.Bool.{and-true}
use Rattle.std.proofs.lemmas.Bool.{cases_lt}
use Rattle.std.specs.Prelude.{Option, Some, None, Ok, Err}
use lib.ListN.{length}
use lib.Seq.{set_out}
use lib.Dec.{eqb, eqb-suc-suc, eqb-zero-suc, eqb-suc-zero}
use lib.Bits.{bit_and, bit_or, bit_xor, or_zero_r, xor_add_and}
use lib.Count.{ones, ones_cat}
use lib.Pow.{pow_pos, pow-lt, pow-add, shr-shr, shr_lt, split}
use Rattle.words.specs.Set.{set_of, digit, has, low}
use Rattle.words.specs.Calls.{inserted, merged, narrow, first_of, Visits}
use Rattle.words.specs.declared.Unfit.TheVariants.{TooWide}
use Rattle.words.specs.Promises.{AtomIsBit, SameAtoms, InsertAdds, MergeJoins, IntersectionShares, SubsetHolds, OnesCount, FirstIsLowest, StepVisits, BitsRise, atoms_below, atoms_in}
use Rattle.words.proofs.Bitwise.{Bitwise, by_and, by_or, by_xor, one, two, digit_op, digit_ext, and_bit}
use Rattle.words.proofs.Packed.{digit_at, digit_low, packed_set, packed_zip}
use Rattle.words.proofs.Counts.{ones_xor}
use Rattle.words.proofs.Lowest.{Form, low_form, low_word, trailing_form, even_above}
use Rattle.std.specs.Iterator.{AlwaysYields}
use Rattle.words.specs.declared.SetBits.{SetBits}

pub atom_is_bit : AtomIsBit
atom_is_bit ws a = ap (λ (d : ℕ). eqb d 1) (digit_at 64 (zero-lt-suc 63) ws a)

-- ---- operations, digit by digit

module _ (x y a : ℕ) where
  has_op : {op : ℕ → ℕ → ℕ} → Bitwise op → (f : Bool → Bool → Bool)
      → f false false ≡ eqb (op 0 0) 1 → f false true ≡ eqb (op 0 1) 1 → f true false ≡ eqb (op 1 0) 1 → f true true ≡ eqb (op 1 1) 1
      → has (op x y) a ≡ f (has x a) (has y a)
  has_op {op} bw f p00 p01 p10 p11 =
      ap (λ (d : ℕ). eqb d 1) (digit_op bw x y a)
      ∙ sym (two (λ (p q : ℕ). f (eqb p 1) (eqb q 1) ≡ eqb (op p q) 1) p00 p01 p10 p11 (x / 2 ^ a) (y / 2 ^ a))

  pub has_and : has (bit_and x y) a ≡ (has x a && has y a)
  has_and = has_op by_and (λ p q. p && q) refl refl refl refl

  pub has_or : has (bit_or x y) a ≡ (has x a || has y a)
  has_or = has_op by_or (λ p q. p || q) refl refl refl refl

  pub has_xor : has (bit_xor x y) a ≡ xor (has x a) (has y a)
  unfolding xor
  has_xor = has_op by_xor xor refl refl refl refl

pub intersection_shares : IntersectionShares
intersection_shares = has_and

-- ---- equal atoms, equal sets

pub same_atoms : SameAtoms
same_atoms x y h =
    digit_ext x y
    (λ a. two (λ (p q : ℕ). eqb p 1 ≡ eqb q 1 → p ≡ q) (λ e. refl) (λ e. absurd (false≢true e)) (λ e. absurd (true≢false e)) (λ e. refl)
    (x / 2 ^ a) (y / 2 ^ a) (h a))

and_out : (p q : Bool) → (p && q) ≡ p → p ≡ true → q ≡ true
and_out true q e h = e
and_out false q e h = absurd (false≢true h)

and_in : (p q : Bool) → (p ≡ true → q ≡ true) → (p && q) ≡ p
and_in true q h = h refl
and_in false q h = refl

pub subset_holds : SubsetHolds
subset_holds x y = (
  (λ e a. and_out (has x a) (has y a) (sym (has_and x y a) ∙ ap (λ (n : ℕ). has n a) (eqb-true (bit_and x y) x e))),
  (λ f. eq-eqb (bit_and x y) x (same_atoms (bit_and x y) x (λ a. has_and x y a ∙ and_in (has x a) (has y a) (f a)))),
)

-- ---- a single atom, and sets joined

pub has_one : (a b : ℕ) → has (2 ^ a) b ≡ eqb b a
has_one zero zero = refl
has_one zero (suc b) =
    let lt : 1 < 2 ^ suc b = omega (arith, pow-suc 2 b, pow_pos b) in
    ap (λ (n : ℕ). eqb (n % 2) 1) (div-eq_of_lt lt) ∙ sym (eqb-suc-zero b)
has_one (suc a) zero =
    let even : 2 ^ suc a / 1 % 2 ≡ 0 = omega (arith, pow-suc 2 a, div-one (2 ^ suc a)) in
    ap (λ (n : ℕ). eqb n 1) even ∙ sym (eqb-zero-suc a)
has_one (suc a) (suc b) =
    let half : 2 ^ suc a / 2 ≡ 2 ^ a = omega (arith, pow-suc 2 a) in
    ap (λ (n : ℕ). eqb (2 ^ suc a / 2 ^ n % 2) 1) (sym (one-add b)) ∙ ap (λ (n : ℕ). eqb (n % 2) 1) (sym (shr-shr (2 ^ suc a) 1 b))
    ∙ ap (λ (n : ℕ). has n b) half ∙ has_one a b ∙ sym (eqb-suc-suc b a)

pub set_inserted : (ws : List ℕ) (a : ℕ) → a / 64 < length ws → set_of (inserted ws a) ≡ bit_or (set_of ws) (2 ^ a)
unfolding inserted
set_inserted ws a h =
    packed_set by_or or_zero_r 64 (2 ^ (a % 64)) (pow-lt {j = 64} (mod-lt a (zero-lt-suc 63))) ws (a / 64) h
    ∙ ap (bit_or (set_of ws)) (sym (pow-add 2 (a % 64) (a / 64 * 64)) ∙ ap (λ (n : ℕ). 2 ^ n) (mod-add-div' a 64))

pub insert_adds : InsertAdds
unfolding inserted
insert_adds ws a = (
  (λ h b.
      ap (λ (x : ℕ). has x b) (set_inserted ws a h) ∙ has_or (set_of ws) (2 ^ a) b ∙ ap (λ (t : Bool). has (set_of ws) b || t) (has_one a b)),
  set_out ws (a / 64) _,
)

pub set_merged : {op : ℕ → ℕ → ℕ} → Bitwise op → (l r : List ℕ) → length l ≡ length r → set_of (merged op l r) ≡ op (set_of l) (set_of r)
unfolding merged
set_merged {op} bw l r h =
    ap (λ (t : Bool). set_of (cond t (zip_with op l r) l)) (eq-eqb (length l) (length r) h) ∙ packed_zip bw 64 l r h

pub merge_joins : MergeJoins
merge_joins l r a h = (
  ap (λ (x : ℕ). has x a) (set_merged by_or l r h) ∙ has_or (set_of l) (set_of r) a,
  ap (λ (x : ℕ). has x a) (set_merged by_xor l r h) ∙ has_xor (set_of l) (set_of r) a,
)

-- ---- how many atoms

atoms_low : (m n x : ℕ) → m ≤ n → atoms_below m (x % 2 ^ n) ≡ atoms_below m x
atoms_low zero n x h = refl
atoms_low (suc m) n x h =
    ap₂ (λ (c d : ℕ). c + cond (eqb d 1) 1 0) (atoms_low m n x (omega arith)) (digit_low x n m (omega arith))

pub ones_count : OnesCount
unfolding ones
ones_count zero x h = let none : x ≡ 0 = omega arith in ap ones none
ones_count (suc n) x h =
    let top : x / 2 ^ n < 2 = shr_lt 1 n (subst (λ (k : ℕ). x < 2 ^ k) (sym (one-add n)) h) in
    ap ones (sym (split x n)) ∙ ones_cat n (x / 2 ^ n) (x % 2 ^ n) (mod-lt x (pow_pos n))
    ∙ add_comm (ones (x / 2 ^ n)) (ones (x % 2 ^ n))
    ∙ ap₂ ◌+◌ (ones_count n (x % 2 ^ n) (mod-lt x (pow_pos n)) ∙ atoms_low n n x (le_refl n))
    (ap ones (sym (mod-eq_of_lt top)) ∙ one (λ (d : ℕ). ones d ≡ cond (eqb d 1) 1 0) refl refl (x / 2 ^ n))

-- ---- the lowest atom

low_digit : (n t : ℕ) → Form n t → digit n t ≡ 1
low_digit n t f =
    let one : (f.half * 2 + 1) % 2 ≡ 1 = omega arith in
    ap (λ (x : ℕ). x / 2 ^ t % 2) f.is ∙ ap (λ (x : ℕ). x % 2) (mul-div_cancel (f.half * 2 + 1) (pow_pos t)) ∙ one

low_below : (n t a : ℕ) → Form n t → a < t → digit n a ≡ 0
low_below n t a f h =
    let m = (f.half * 2 + 1) * 2 ^ (t - a - 1) in
    ap (λ (x : ℕ). x / 2 ^ a % 2) (f.is ∙ even_above (f.half * 2 + 1) t a h) ∙ ap (λ (x : ℕ). x % 2) (mul-div_cancel (m * 2) (pow_pos a))
    ∙ mul-mod_left m 2

pub low_lowest : (x : ℕ) → 0 < x → (has x (low x) ≡ true) × ((b : ℕ) → b < low x → has x b ≡ false)
low_lowest x h = (
  ap (λ (d : ℕ). eqb d 1) (low_digit x (low x) (low_form x h)),
  (λ b l. ap (λ (d : ℕ). eqb d 1) (low_below x (low x) b (low_form x h) l)),
)

pub has_none : (b : ℕ) → has 0 b ≡ false
has_none b = ap (λ (n : ℕ). eqb (n % 2) 1) (zero-div (2 ^ b))

first_cases : (n e : Bool) (t : ℕ) → ((a : ℕ) → cond n (Ok (cond e None (Some t))) (Err TooWide) ≡ Ok (Some a) → (e ≡ false) × (t ≡ a))
    × (cond n (Ok (cond e None (Some t))) (Err TooWide) ≡ Ok None → e ≡ true)
first_cases true true t = ((λ a p. (cc, cc)), (λ p. refl))
first_cases true false t = ((λ a p. (refl, cc)), (λ p. cc))
first_cases false e t = ((λ a p. (cc, cc)), (λ p. cc))

pub first_is_lowest : FirstIsLowest
unfolding first_of
first_is_lowest ws =
    let x = set_of ws in
    let cases = first_cases (narrow (length ws)) (eqb x 0) (low x) in (
      (λ a e.
          let some : 0 < x = omega (arith, eqb-false x 0 (cases.0 a e).0) in
          rw (cases.0 a e).1 at (low_lowest x some)),
      (λ e b. ap (λ (n : ℕ). has n b) (eqb-true x 0 (cases.1 e)) ∙ has_none b),
    )

xor_out : (p q : Bool) → (q ≡ true → p ≡ true) → xor p q ≡ (p && not q)
unfolding xor
xor_out true true h = refl
xor_out true false h = refl
xor_out false true h = absurd (false≢true (h refl))
xor_out false false h = refl

one_less : (x : ℕ) → 0 < x → (bit_and x (2 ^ low x) ≡ 2 ^ low x) × (x - 2 ^ low x ≡ bit_xor x (2 ^ low x))
one_less x h =
    let t = low x in
    let shared : bit_and x (2 ^ t) ≡ 2 ^ t = and_bit x t ∙ ap (λ (d : ℕ). d * 2 ^ t) (low_digit x t (low_form x h)) ∙ one-mul (2 ^ t) in
    (shared, omega (arith, xor_add_and x (2 ^ t)))

pub step_visits : StepVisits
step_visits x a h =
    let t = low x in
    ap (λ (n : ℕ). has n a) (one_less x h).1 ∙ has_xor x (2 ^ t) a ∙ ap (xor (has x a)) (has_one t a)
    ∙ xor_out (has x a) (eqb a t) (λ e. ap (has x) (eqb-true a t e) ∙ ap (λ (d : ℕ). eqb d 1) (low_digit x t (low_form x h)))

-- ---- a visit

ones_bit : (t : ℕ) → ones (2 ^ t) ≡ 1
unfolding ones
ones_bit t =
    let whole : 2 ^ t ≡ 1 * 2 ^ t + 0 = omega arith in
    ap ones whole ∙ ones_cat t 1 0 (pow_pos t)

-- a step takes out one atom
pub ones_less : (x : ℕ) → 0 < x → ones (x - 2 ^ low x) + 1 ≡ ones x
ones_less x h =
    let t = low x in
    let e = one_less x h in
    omega (arith, ones_xor x (2 ^ t), ap ones e.0, ap ones e.1, ones_bit t)

none_in : (n x : ℕ) → ((b : ℕ) → b < n → has x b ≡ false) → atoms_in n x ≡ []
unfolding atoms_in
none_in zero x h = refl
none_in (suc n) x h = ap₂ (λ (l : List ℕ) (t : Bool). l ++ cond t (n ∷ []) []) (none_in n x (λ b l. h b (omega arith))) (h n (omega arith))

-- the atoms of x are its lowest, t, and those of y, which is x without t
rise : (n x y t : ℕ) → t < n → has x t ≡ true → ((b : ℕ) → b < t → has x b ≡ false) → ((b : ℕ) → has y b ≡ (has x b && not (eqb b t)))
    → atoms_in n x ≡ t ∷ atoms_in n y
unfolding atoms_in
rise zero x y t l at below rest = let z : ⊥ = omega arith in absurd z
rise (suc n) x y t l at below rest = elim (cases_lt t n) [
  | inl lt ↦
      let same : has y n ≡ has x n = rest n ∙ ap (λ (e : Bool). has x n && not e) (ne_eqb n t (λ e. omega arith)) ∙ and-true (has x n) in
      ap₂ (λ (m : List ℕ) (d : Bool). m ++ cond d (n ∷ []) []) (rise n x y t lt at below rest) (sym same)
  | inr ge ↦
      let last : t ≡ n = omega arith in
      let gone : has y n ≡ false = rest n ∙ ap (λ (e : Bool). has x n && not e) (eq-eqb n t (sym last)) ∙ and-false (has x n) in
      let before : (b : ℕ) → b < n → has y b ≡ false = λ b h. rest b ∙ ap (λ (d : Bool). d && not (eqb b t)) (below b (omega arith)) in
      ap₂ (λ (m : List ℕ) (d : Bool). m ++ cond d (n ∷ []) []) (none_in n x (λ b h. below b (omega arith))) (ap (has x) (sym last) ∙ at)
      ∙ ap (λ (m : ℕ). m ∷ []) (sym last)
      ∙ ap (λ (m : List ℕ). t ∷ m) (sym (ap₂ (λ (m : List ℕ) (d : Bool). m ++ cond d (n ∷ []) []) (none_in n y before) gone))
]

-- what a step of a visit gives: the lowest, and the others; or none are left
pub visit_some : (s j : SetBits) (y : ℕ) → Visits s (Some y) j → (0 < s.remaining) × (y ≡ low s.remaining) × (j.remaining ≡ s.remaining - 2 ^ low s.remaining)
visit_some s j y v = go s.remaining v
  where
    go : (x : ℕ) → Visits (record { remaining = x }) (Some y) j → (0 < x) × (y ≡ low x) × (j.remaining ≡ x - 2 ^ low x)
    go zero v = let e : Some y ≡ None = ap (λ (q : Option ℕ × SetBits). q.0) v in let z : ⊥ = cc in absurd z
    go (suc x) v =
        let m = rw (eqb-suc-zero x) at v in
        let first : Some y ≡ Some (low (suc x)) = ap (λ (q : Option ℕ × SetBits). q.0) m in
        (omega arith, cc, ap (λ (q : Option ℕ × SetBits). q.1.remaining) m)

visit_none : (s j : SetBits) → Visits s None j → s.remaining ≡ 0
visit_none s j v = go s.remaining v
  where
    go : (x : ℕ) → Visits (record { remaining = x }) None j → x ≡ 0
    go zero v = refl
    go (suc x) v = let e : None ≡ Some (low (suc x)) = ap (λ (q : Option ℕ × SetBits). q.0) (rw (eqb-suc-zero x) at v) in cc

low_le : (x : ℕ) → 0 < x → 2 ^ low x ≤ x
low_le x h = let f = low_form x h in omega (arith, f.is, suc-mul (f.half * 2) (2 ^ low x), ap (λ (m : ℕ). m * 2 ^ low x) (add-one (f.half * 2)))

visits : (k : ℕ) (s : SetBits) → s.remaining < k → s.remaining < 2 ^ 64 → AlwaysYields Visits (λ a. a) s (atoms_in 64 s.remaining)
visits zero s b h = let z : ⊥ = omega arith in absurd z
visits (suc k) s b h = elim (cases_lt 0 s.remaining) [
  | inl some ↦
      let x = s.remaining in
      let t = low x in
      let step = low_le x some in
      let l : t < 64 = omega (arith, low_word 64 x some h, (trailing_form 64 x some h).below) in
      let at = low_lowest x some in
      subst (λ (m : List ℕ). AlwaysYields Visits (λ a. a) s m) (sym (rise 64 x (x - 2 ^ t) t l at.0 at.1 (λ b. step_visits x b some))) (
        λ j v. omega (arith, visit_none s j v),
        λ y j v.
            let m = visit_some s j y v in
            (m.1, subst (λ (n : ℕ). AlwaysYields Visits (λ a. a) j (atoms_in 64 n)) m.2 (visits k j (omega (arith, m.2, pow_pos t)) (omega (arith, m.2)))),
      )
  | inr none ↦
      let empty : s.remaining ≡ 0 = omega arith in
      subst (λ (m : List ℕ). AlwaysYields Visits (λ a. a) s m) (sym (none_in 64 s.remaining (λ b l. ap (λ (n : ℕ). has n b) empty ∙ has_none b)))
      (λ y j v. omega (arith, (visit_some s j y v).0))
]

pub bits_rise : BitsRise
bits_rise w h = visits (w + 1) (record { remaining = w }) (omega arith) h
