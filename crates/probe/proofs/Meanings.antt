-- What elimination keeps: an assignment that agrees with the decisions meets the rows exactly when the answer is sound and it meets the rows kept.
use mathlib.Core.Path.{◌≡◌, refl, sym, ap, ◌∙◌}
use mathlib.Core.List.{List, [], ◌∷◌, map, zip_with}
use mathlib.Core.Bool.{Bool, true, false, cond, not, xor, ◌&&◌, beq, and-true, and-false, and_comm, and_assoc, and-eq-true_iff}
use Rattle.words.specs.Set.{odd}
use Rattle.rows.specs.Row.{Row, Assignment, has_atom, overlap, meets, meets_all, add}
use Rattle.rows.specs.Decisions.{Decisions, agrees}
use Rattle.echelon.specs.Forward.{empty, low}
use Rattle.region.specs.Masks.{is_held, is_open}
use Rattle.hull.proofs.Dot.{odd_sum}
use Rattle.echelon.proofs.Solutions.{add_met, empty_meets}
use Rattle.inspect.proofs.Following.{overlap_parts, chosen}
use Rattle.probe.specs.Elimination.{substituted, reduced_by, Kept, keeps, step, kept_from, eliminated}

-- ---- one row

moved : (h o c : Bool) → beq o (xor c h) ≡ beq (xor h o) c
unfolding xor
moved true true true = refl
moved true true false = refl
moved true false true = refl
moved true false false = refl
moved false true true = refl
moved false true false = refl
moved false false true = refl
moved false false false = refl

pub substituted_meets : (p : Decisions) (r : Row) (x : Assignment) → agrees p x ≡ true → meets (substituted p r) x ≡ meets r x
substituted_meets p r x agree =
    let held = overlap r.atoms (map is_held p) in
    let opened = overlap (zip_with ◌&&◌ r.atoms (map is_open p)) x in
    moved (odd held) (odd opened) r.constant
    ∙ ap (λ (b : Bool). beq b r.constant) (sym (ap odd (overlap_parts p r.atoms x agree) ∙ odd_sum held opened))

pub reduced_meets : (ks : List Row) (r : Row) (x : Assignment) → meets_all ks x ≡ true → meets (reduced_by ks r) x ≡ meets r x
unfolding reduced_by
reduced_meets [] r x met = refl
reduced_meets (k ∷ ks) r x met =
    let both = (and-eq-true_iff (meets k x) (meets_all ks x)).0 met in
    let s = reduced_by ks r in
    let same = reduced_meets ks r x both.1 in
    chosen (λ q. meets q x ≡ meets r x) (has_atom s (low k.atoms)) (add s k) s (λ e. add_met x s k both.0 ∙ same) (λ e. same)

-- ---- the rows kept

-- sound, and the rows kept are met
abbrev pub meets_kept : Kept → Assignment → Bool
meets_kept kept x = kept.sound && meets_all kept.rows x

keeps_by : (ks : List Row) (s : Row) (x : Assignment) (e c : Bool) → empty s.atoms ≡ e → s.constant ≡ c
    → meets_kept (cond e (record { rows = ks; sound = not c }) (record { rows = s ∷ ks; sound = true })) x ≡ (meets_all ks x && meets s x)
keeps_by ks s x true true e d = sym (ap (◌&&◌ (meets_all ks x)) (empty_meets s x true e d) ∙ and-false (meets_all ks x))
keeps_by ks s x true false e d = sym (ap (◌&&◌ (meets_all ks x)) (empty_meets s x false e d) ∙ and-true (meets_all ks x))
keeps_by ks s x false c e d = and_comm (meets s x) (meets_all ks x)

keeps_meets : (ks : List Row) (s : Row) (x : Assignment) → meets_kept (keeps ks s) x ≡ (meets_all ks x && meets s x)
keeps_meets ks s x = keeps_by ks s x (empty s.atoms) s.constant refl refl

module _ (p : Decisions) (x : Assignment) (agree : agrees p x ≡ true) where
  left_meets : (ks : List Row) (r : Row) → (meets_all ks x && meets (reduced_by ks (substituted p r)) x) ≡ (meets_all ks x && meets r x)
  left_meets ks r = go (meets_all ks x) refl
    where
      go : (t : Bool) → meets_all ks x ≡ t → (t && meets (reduced_by ks (substituted p r)) x) ≡ (t && meets r x)
      go true e = reduced_meets ks (substituted p r) x e ∙ substituted_meets p r x agree
      go false e = refl

  step_by : (kept : Kept) (r : Row) (t : Bool) → kept.sound ≡ t
      → meets_kept (cond t (keeps kept.rows (reduced_by kept.rows (substituted p r))) kept) x ≡ (meets_kept kept x && meets r x)
  step_by kept r true e =
      keeps_meets kept.rows (reduced_by kept.rows (substituted p r)) x ∙ left_meets kept.rows r
      ∙ ap (λ (t : Bool). (t && meets_all kept.rows x) && meets r x) (sym e)
  step_by kept r false e =
      ap (λ (t : Bool). t && meets_all kept.rows x) e ∙ ap (λ (t : Bool). (t && meets_all kept.rows x) && meets r x) (sym e)

  step_meets : (kept : Kept) (r : Row) → meets_kept (step p kept r) x ≡ (meets_kept kept x && meets r x)
  step_meets kept r = step_by kept r kept.sound refl

  from_meets : (kept : Kept) (rs : List Row) → meets_kept (kept_from p kept rs) x ≡ (meets_kept kept x && meets_all rs x)
  unfolding kept_from
  from_meets kept [] = sym (and-true (meets_kept kept x))
  from_meets kept (r ∷ rs) =
      from_meets (step p kept r) rs ∙ ap (λ (t : Bool). t && meets_all rs x) (step_meets kept r)
      ∙ and_assoc (meets_kept kept x) (meets r x) (meets_all rs x)

pub eliminated_meets : (p : Decisions) (rs : List Row) (x : Assignment) → agrees p x ≡ true → meets_kept (eliminated p rs) x ≡ meets_all rs x
eliminated_meets p rs x agree = from_meets p x agree (record { rows = []; sound = true }) rs

pub sound_meets : (p : Decisions) (rs : List Row) (x : Assignment) → agrees p x ≡ true → (eliminated p rs).sound ≡ true
    → meets_all (eliminated p rs).rows x ≡ meets_all rs x
sound_meets p rs x agree e =
    ap (λ (t : Bool). t && meets_all (eliminated p rs).rows x) (sym e) ∙ eliminated_meets p rs x agree

pub unsound_none : (p : Decisions) (rs : List Row) (x : Assignment) → agrees p x ≡ true → (eliminated p rs).sound ≡ false → meets_all rs x ≡ false
unsound_none p rs x agree e =
    sym (eliminated_meets p rs x agree) ∙ ap (λ (t : Bool). t && meets_all (eliminated p rs).rows x) e
