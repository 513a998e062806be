-- One turn of each loop: what it does to the rest of the loop's own recursion, from the tests that the code makes.
use Rattle.std.proofs.Common.{◌≡◌, ℕ, zero, suc, ◌+◌, ◌-◌, ◌*◌, ◌/◌, ◌%◌, ◌^◌, ◌≤◌, ◌<◌, List, [], ◌∷◌, ◌++◌, Bool, true, false, length, get_or, set, take, drop, bit_and, bit_xor, drop_of_length-le, refl, sym, ap, ap₂, ◌∙◌, add-one, arith}
use Rattle.std.proofs.Math.Nat.{one-mul}
use Rattle.std.proofs.Math.Seq.{drop-cons, append_snoc}
use Rattle.std.proofs.lemmas.List.{take-append-drop, take-set, drop-set, take_more}
use borrow.Author.Tests.{eq-eqb, ne_eqb}
use lib.Count.{ones}
use mir.Val.{bool_byte}
use Rattle.words.specs.Set.{odd}
use lib.Pow.{shl_exact}
use Rattle.hull.specs.Steps.{bit, entered, reach}

-- shifts of a bit within a byte
pub bit_shl : (b : Bool) (j : ℕ) → j < 8 → bool_byte b * 2 ^ j % 2 ^ 8 ≡ bit b * 2 ^ j
bit_shl true j h = shl_exact {a = 1} 1 j 8 (omega arith) (omega arith)
bit_shl false j h = shl_exact {a = 0} 1 j 8 (omega arith) (omega arith)

pub byte_bit : (b : Bool) → bool_byte b ≡ bit b
byte_bit true = refl
byte_bit false = refl

pub one_shl : (w j : ℕ) → j < w → 1 * 2 ^ j % 2 ^ w ≡ 2 ^ j
one_shl w j h = shl_exact {a = 1} 1 j w (omega arith) (omega arith) ∙ one-mul _

-- what is left before a turn
pub left_more : (n i : ℕ) → i < n → n - i ≡ suc (n - (i + 1))
left_more n i h = omega arith

-- The pivots stand as they were, qs, and what is left of the difference at position j is d.
pub record Entering (ps qs : List ℕ) (j d : ℕ) (end : List ℕ × Bool) : Type 0 where
  pub stand : qs ≡ ps
  pub pivots : end.0 ≡ take j ps ++ (entered j (drop j ps) d).0
  pub came : end.1 ≡ (entered j (drop j ps) d).1

module _ (ps qs : List ℕ) (j d : ℕ) (end : List ℕ × Bool) (e : Entering ps qs j d end) where
  pub enter_end : length ps ≤ j → (qs ≡ end.0) × (false ≡ end.1)
  unfolding entered
  enter_end h =
      let none : drop j ps ≡ [] = drop_of_length-le ps h in
      (e.stand ∙ sym (take-append-drop j ps) ∙ ap (λ l. take j ps ++ l) none ∙ rw none at (sym e.pivots), rw none at (sym e.came))

  module _ (h : j < length ps) where
    pub enter_set : bit_and (d / 2 ^ j) 1 ≡ 1 → get_or qs j 0 ≡ 0 → (set qs j d ≡ end.0) × (true ≡ end.1)
    unfolding entered
    enter_set b z =
        let next : drop j ps ≡ get_or ps j 0 ∷ drop (suc j) ps = drop-cons ps j 0 h in
        let is : entered j (drop j ps) d ≡ (d ∷ drop (suc j) ps, true) = rw next (rw (eq-eqb _ _ b, eq-eqb _ _ (rw e.stand at z))) in (
          ap (λ l. set l j d) e.stand ∙ sym (take-append-drop j (set ps j d)) ∙ ap₂ ◌++◌ (take-set ps j d) (drop-set ps j d h ∙ ap (λ i. d ∷ drop i ps) (add-one j))
              ∙ ap (λ (p : List ℕ × Bool). take j ps ++ p.0) (sym is) ∙ sym e.pivots,
          ap (λ (p : List ℕ × Bool). p.1) (sym is) ∙ sym e.came,
        )

    module _ {rs : List ℕ} {d' : ℕ} (same : rs ≡ qs) where
      next_turn : entered j (drop j ps) d ≡ (get_or ps j 0 ∷ (entered (suc j) (drop (suc j) ps) d').0, (entered (suc j) (drop (suc j) ps) d').1)
          → Entering ps rs (j + 1) d' end
      next_turn is = rw (add-one j) (record {
        stand = same ∙ e.stand;
        pivots = e.pivots ∙ ap (λ (p : List ℕ × Bool). take j ps ++ p.0) is ∙ sym (append_snoc (take j ps) (get_or ps j 0) _)
            ∙ ap (λ l. l ++ (entered (suc j) (drop (suc j) ps) d').0) (sym (take_more ps j 0 h) ∙ ap (λ i. take i ps) (add-one j));
        came = e.came ∙ ap (λ (p : List ℕ × Bool). p.1) is;
      })

      pub enter_add : d' ≡ bit_xor d (get_or qs j 0) → bit_and (d / 2 ^ j) 1 ≡ 1 → (get_or qs j 0 ≡ 0 → ⊥) → Entering ps rs (j + 1) d' end
      unfolding entered
      enter_add left b z = next_turn (rw (left, e.stand, drop-cons ps j 0 h) (rw (eq-eqb _ _ b, ne_eqb _ _ (rw e.stand at z))))

      pub enter_skip : d' ≡ d → (bit_and (d / 2 ^ j) 1 ≡ 1 → ⊥) → Entering ps rs (j + 1) d' end
      unfolding entered
      enter_skip left b = next_turn (rw (left, drop-cons ps j 0 h) (rw (ne_eqb _ _ b)))

pub reach_turn : (ps : List ℕ) (j c : ℕ) → 0 < j → reach ps j c ≡ reach ps (j - 1) (bit_xor c (bit (odd (ones (bit_and c (get_or ps (j - 1) 0)))) * 2 ^ (j - 1)))
unfolding reach
reach_turn ps zero c h = let z : ⊥ = omega arith in absurd z
reach_turn ps (suc j) c h = let e : suc j - 1 ≡ j = omega arith in rw e
