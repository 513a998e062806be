-- The equations as `equations` files them: those found so far, then blanks.
use Prim.Native.Nat.{ℕ, ◌+◌, ◌-◌, ◌^◌, ◌≤◌, ◌<◌}
use mathlib.Core.Path.{◌≡◌, sym, ap, ap₂, ◌∙◌}
use mathlib.Core.List.{List, [], ◌∷◌, ◌++◌, append-nil}
use native.Mathlib.Numerals.{add-one}
use native.Mathlib.Omega.{arith}
use borrow.Author.Tests.{eq-eqb, ne_eqb}
use lib.ListN.{length, get_or, set, replicate, length-append}
use lib.Bits.{bit_and}
use lib.Count.{ones}
use lib.Seq.{set-append_seam, append_snoc}
use mathlib.Core.Bool.{Bool}
use Rattle.words.specs.Set.{odd}
use Rattle.hull.specs.Propose.{limit, blank, padded}
use Rattle.hull.specs.Steps.{reach, within, listed}
use Rattle.hull.specs.declared.LocalEquation.{LocalEquation}
use Rattle.hull.proofs.Turns.{left_more}

padded_next : (most : ℕ) (l : List LocalEquation) (v : LocalEquation) → length l < most
    → set (padded most l) (length l) v ≡ padded most (l ++ (v ∷ []))
padded_next most l v h =
    ap (λ n. set (l ++ replicate n blank) (length l) v) (left_more most (length l) h)
    ∙ set-append_seam l blank (replicate (most - (length l + 1)) blank) v
    ∙ sym (append_snoc l v (replicate (most - (length l + 1)) blank))
    ∙ ap (λ n. (l ++ (v ∷ [])) ++ replicate (most - n) blank) (sym (length-append l (v ∷ [])))

-- before position `free` there are n equations
abbrev pub Filed : ℕ → List ℕ → ℕ → ℕ → ℕ → List LocalEquation → Type 0
Filed anchor ps k free n es =
    (done : List LocalEquation) × (n ≡ length done) × (es ≡ padded limit done) × (done ++ listed anchor ps (k - free) free ≡ listed anchor ps k 0)

module _ (anchor : ℕ) (ps : List ℕ) (k : ℕ) where
  module _ (free n : ℕ) (es : List LocalEquation) (f : Filed anchor ps k free n es) where
    pub filed_skip : {m : ℕ} {ds : List LocalEquation} → free < k → (get_or ps free 0 ≡ 0 → ⊥) → ds ≡ es → m ≡ n → Filed anchor ps k (free + 1) m ds
    unfolding listed
    filed_skip h z e g =
        let rest : listed anchor ps (k - free) free ≡ listed anchor ps (k - (free + 1)) (free + 1) = rw (left_more k free h, add-one free) (rw (ne_eqb _ _ z)) in
        (f.0, g ∙ f.1, e ∙ f.2, ap (λ l. f.0 ++ l) (sym rest) ∙ f.3)

    pub filed_add : {m c : ℕ} {q : Bool} {ds : List LocalEquation} → free < k → n < limit → get_or ps free 0 ≡ 0
        → c ≡ reach ps free (2 ^ free) → q ≡ odd (ones (bit_and c anchor)) → ds ≡ set es n (record { coefficients = c; constant = q }) → m ≡ n + 1
        → Filed anchor ps k (free + 1) m ds
    unfolding listed
    filed_add {c = c} h l z u w e g =
        let v = within anchor c in
        let rest : listed anchor ps (k - free) free ≡ within anchor (reach ps free (2 ^ free)) ∷ listed anchor ps (k - (free + 1)) (free + 1) =
        rw (left_more k free h, add-one free) (rw (eq-eqb _ _ z)) in
        let fits : length f.0 < limit = omega arith in
        let tail = listed anchor ps (k - (free + 1)) (free + 1) in (
          f.0 ++ (v ∷ []),
          g ∙ ap (λ x. x + 1) f.1 ∙ sym (length-append f.0 (v ∷ [])),
          e ∙ ap (λ d. set es n (record { coefficients = c; constant = d })) w ∙ ap₂ (λ x l. set l x v) f.1 f.2 ∙ padded_next limit f.0 v fits,
          append_snoc f.0 v tail ∙ ap (λ x. f.0 ++ (within anchor x ∷ tail)) u ∙ ap (λ l. f.0 ++ l) (sym rest) ∙ f.3,
        )

    pub filed_all : k ≤ free → (es ≡ padded limit (listed anchor ps k 0)) × (n ≡ length (listed anchor ps k 0))
    unfolding listed
    filed_all h =
        let none : k - free ≡ 0 = omega arith in
        let all : f.0 ≡ listed anchor ps k 0 = sym (append-nil f.0) ∙ ap (λ m. f.0 ++ listed anchor ps m free) (sym none) ∙ f.3 in
        (f.2 ∙ ap (padded limit) all, f.1 ∙ ap length all)
