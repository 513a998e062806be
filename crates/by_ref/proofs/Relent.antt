-- An inspection that is lent other lists: what it answers and forces depends on their lengths alone, and on those only as far as 512.
use Prim.Native.Nat.{ℕ, min, ◌≤◌, ◌<◌}
use mathlib.Core.Path.{◌≡◌, refl, sym, ap, ap₂, subst, ◌∙◌}
use mathlib.Core.List.{List, [], ◌++◌, map}
use mathlib.Core.Bool.{Bool, true, false, cond}
use native.Mathlib.Omega.{arith}
use borrow.Author.Tests.{lt-ltb, le-ltb, ltb-false}
use Rattle.std.specs.Prelude.{Result, Ok, Err}
use lib.ListN.{length, take, drop, replicate, length-take, length-append, length-map}
use lib.Seq.{length-take-le, take_at, take-take}
use lib.Dec.{T, ltb, ltb→lt, eqb}
use Rattle.refusal.specs.Refusal.{answered, left}
use Rattle.refusal.specs.declared.Refusal.{Refusal}
use Rattle.std.proofs.lemmas.Bool.{or_parts}
use Rattle.parity.specs.declared.System.{System}
use Rattle.region.specs.declared.Region.{Region}
use Rattle.snapshot.specs.Knowledge.{overfull_by}
use Rattle.snapshot.specs.declared.Snapshot.{Snapshot}
use Rattle.inspect.specs.Consequences.{Consequences}
use Rattle.inspect.specs.Inspect.{Filled, told_of, Outcome, outcome, atoms_from, values_from, inspect_check, concluded, found, inspected, inspect_of}
use Rattle.inspect.specs.declared.Inspected.{Inspected}
use Rattle.inspect.specs.declared.Step.TheVariants.{Unchanged, Refuted}
use Rattle.ffi.specs.Answers.{inspected_answer, outcome_answer}
use Rattle.ffi.specs.declared.inspects.Inspection.{Inspection}
use Rattle.by_ref.specs.Told.{atom_of, value_of}
use Rattle.by_ref.specs.Steps.{written}
use Rattle.by_ref.specs.declared.Forced.{Forced}
use Rattle.by_ref.proofs.Lists.{atoms_are, values_are}

-- ---- 512 entries are enough

enough : (n k : ℕ) → k ≤ 512 → ltb (min n 512) k ≡ ltb n k
enough n k few = go (ltb n k) refl
  where
    go : (t : Bool) → ltb n k ≡ t → ltb (min n 512) k ≡ ltb n k
    go true e = let less : n < k = ltb→lt n k (subst T (sym e) tt) in lt-ltb (min n 512) k (omega (arith, less)) ∙ sym (lt-ltb n k less)
    go false e = let most : k ≤ n = ltb-false n k e in le-ltb (min n 512) k (omega (arith, most, few)) ∙ sym (le-ltb n k most)

module _ (s : System) (l : Filled) (r : Region) (known : Snapshot) where
  by_first : (n : ℕ) (full over : Bool) → overfull_by s r known ≡ full → ltb (min s.rows s.atoms) s.rank ≡ over
      → inspect_check s l r known (min n 512) (min n 512) ≡ inspect_check s l r known n n
  unfolding inspect_check
  by_first n true over e e' = simp e
  by_first n false true e e' = simp (e, e')
  by_first n false false e e' =
      let atoms : s.atoms ≤ 512 = ltb-false 512 s.atoms (or_parts _ _ (or_parts _ _ e).0).0 in
      let rank : s.rank ≤ min s.rows s.atoms = ltb-false _ _ e' in
      simp (enough n s.rank (omega (arith, atoms, rank)))

  same_check : (n : ℕ) → inspect_check s l r known (min n 512) (min n 512) ≡ inspect_check s l r known n n
  same_check n = by_first n (overfull_by s r known) (ltb (min s.rows s.atoms) s.rank) refl refl

  -- ---- the answer and the forced list, by the check

  abbrev passed : Bool → Bool → Consequences → Inspected × List (ℕ × Bool)
  passed refuted empty c =
      cond refuted (told_of Refuted 0 0 0 r known, []) (cond empty (told_of Unchanged 0 0 0 r known, []) (concluded c r known, c.forced))

  abbrev parts : Result Unit Refusal → Result Inspected Refusal × List (ℕ × Bool)
  parts u =
      let p = passed s.refuted (eqb s.rank 0) (found s l r known) in
      (answered u p.0, left u p.1 [])

  abbrev whole : Result Inspected Refusal × List (ℕ × Bool) → List ℕ → List ℕ → Outcome (Result Inspected Refusal)
  whole p atoms values = outcome p.0 (atoms_from p.1 atoms) (values_from p.1 values)

  abbrev check : List ℕ → List ℕ → Result Unit Refusal
  check atoms values = inspect_check s l r known (length atoms) (length values)

  abbrev fit : Outcome Inspected → Outcome (Result Inspected Refusal)
  fit o = outcome (Ok o.result) o.atoms o.values

  in_parts : (atoms values : List ℕ) → inspect_of s l r known atoms values ≡ whole (parts (check atoms values)) atoms values
  unfolding inspect_of
  in_parts atoms values = by_check (check atoms values)
    where
      by_tests : (refuted empty : Bool) (c : Consequences)
          → fit
          (cond refuted (outcome (told_of Refuted 0 0 0 r known) atoms values)
          (cond empty (outcome (told_of Unchanged 0 0 0 r known) atoms values)
          (outcome (concluded c r known) (atoms_from c.forced atoms) (values_from c.forced values))))
          ≡ whole (Ok (passed refuted empty c).0, (passed refuted empty c).1) atoms values
      by_tests true empty c = refl
      by_tests false true c = refl
      by_tests false false c = refl

      by_check : (u : Result Unit Refusal)
          → (let o = inspected s l r known atoms values in outcome (answered u o.result) (left u o.atoms atoms) (left u o.values values))
          ≡ whole (parts u) atoms values
      by_check (Ok done) = by_tests s.refuted (eqb s.rank 0) (found s l r known)
      by_check (Err refusal) = refl

  -- the count in the answer is the list's length
  counted : (u : Result Unit Refusal) → (inspected_answer r known (parts u).0).forced ≡ length (parts u).1
  counted (Ok done) = by_tests s.refuted (eqb s.rank 0) (found s l r known)
    where
      either : (t : Bool) (x y : Inspected) (k : ℕ) → x.forced ≡ k → y.forced ≡ k → (cond t x y).forced ≡ k
      either true x y k e e' = e
      either false x y k e e' = e'

      by_tests : (refuted empty : Bool) (c : Consequences) → (passed refuted empty c).0.forced ≡ length (passed refuted empty c).1
      by_tests true empty c = refl
      by_tests false true c = refl
      by_tests false false c = either c.sound _ _ (length c.forced) refl refl
  counted (Err refusal) = refl

-- ---- from lists of up to 512 entries to a list of entries

-- what is read of the first entries, with what another list has past them
again : {X : Type 0} (f : X → ℕ) (fs : List X) (xs ys : List ℕ) (k : ℕ) → k ≡ length fs
    → take k (map f fs ++ drop (length fs) xs) ++ drop k ys ≡ map f fs ++ drop (length fs) ys
again f fs xs ys k e =
    subst (λ (m : ℕ). take m (map f fs ++ drop (length fs) xs) ++ drop m ys ≡ map f fs ++ drop (length fs) ys) (sym e)
    (ap (λ (l : List ℕ). l ++ drop (length fs) ys) (take_at (map f fs) (drop (length fs) xs) (length fs) (length-map fs f)))

module _ (s : System) (l : Filled) (r : Region) (known : Snapshot) (i : Inspection) (ts vs : List ℕ) (xs : List Forced) where
  abbrev m : ℕ
  m = min (length xs) 512

  abbrev zeros : List ℕ
  zeros = take m (replicate 512 0)

  module _ (told : (i, (take m ts, take m vs)) ≡ outcome_answer r known (inspect_of s l r known zeros zeros)) where
    abbrev u : Result Unit Refusal
    u = check s l r known zeros zeros

    zeros_long : length zeros ≡ m
    zeros_long = length-take-le m (replicate 512 0) (omega arith)

    in_all : (i, (take m ts, take m vs)) ≡ outcome_answer r known (whole s l r known (parts s l r known u) zeros zeros)
    in_all = told ∙ ap (outcome_answer r known) (in_parts s l r known zeros zeros)

    same : check s l r known zeros zeros ≡ check s l r known (map atom_of xs) (map value_of xs)
    same =
        ap (λ (k : ℕ). inspect_check s l r known k k) zeros_long ∙ same_check s l r known (length xs)
        ∙ sym (ap₂ (inspect_check s l r known) (length-map xs atom_of) (length-map xs value_of))

    abbrev fs : List (ℕ × Bool)
    fs = (parts s l r known u).1

    count : i.forced ≡ length fs
    count = ap (λ (p : Inspection × (List ℕ × List ℕ)). p.0.forced) in_all ∙ counted s l r known u

    few : i.forced ≤ m
    few =
        let f : ℕ × Bool → ℕ = λ e. e.0 in
        let long = sym (ap length (ap (λ (p : Inspection × (List ℕ × List ℕ)). p.1.0) in_all)) ∙ length-take m ts in
        omega (arith, count, length-map fs f, length-append (map f fs) (drop (length fs) zeros), long)

    -- what `write` asks
    pub fits : (i.forced ≤ length xs) × (i.forced ≤ 512)
    fits = (omega (arith, few), omega (arith, few))

    -- what it leaves
    pub listed : length ts ≡ 512 → length vs ≡ 512
        → (i, (map atom_of (written ts vs i.forced xs), map value_of (written ts vs i.forced xs))) ≡ outcome_answer
        r known (inspect_of s l r known (map atom_of xs) (map value_of xs))
    listed ts-long vs-long =
        let k = i.forced in
        let in-ts : k ≤ length ts = omega (arith, few, ts-long) in
        let in-vs : k ≤ length vs = omega (arith, few, vs-long) in
        let atoms =
        atoms_are ts vs k xs in-ts in-vs fits.0
        ∙ ap (λ (a : List ℕ). a ++ drop k (map atom_of xs)) (sym (take-take k m ts few) ∙ ap (λ (p : Inspection × (List ℕ × List ℕ)). take k p.1.0) in_all)
        ∙ again (λ (e : ℕ × Bool). e.0) fs zeros (map atom_of xs) k count in
        let values =
        values_are ts vs k xs in-ts in-vs fits.0
        ∙ ap (λ (v : List ℕ). v ++ drop k (map value_of xs)) (sym (take-take k m vs few) ∙ ap (λ (p : Inspection × (List ℕ × List ℕ)). take k p.1.1) in_all)
        ∙ again (λ (e : ℕ × Bool). cond e.1 1 0) fs zeros (map value_of xs) k count in
        (λ j. ((in_all j).0, (atoms j, values j)))
        ∙ ap (λ (v : Result Unit Refusal). outcome_answer r known (whole s l r known (parts s l r known v) (map atom_of xs) (map value_of xs))) same
        ∙ ap (outcome_answer r known) (sym (in_parts s l r known (map atom_of xs) (map value_of xs)))
