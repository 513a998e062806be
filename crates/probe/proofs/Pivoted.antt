-- The rows kept are triangular over their lowest atoms, on yes and on no: each has an undecided lowest atom, and newer rows lack it.
use Prim.Native.Nat.{ℕ}
use mathlib.Core.Path.{◌≡◌}
use mathlib.Core.List.{List, [], ◌∷◌}
use mathlib.Core.Bool.{true, false, not, xor}
use Rattle.rows.specs.Row.{Row, has_atom, add}
use Rattle.rows.specs.Decisions.{Decisions}
use Rattle.rows.specs.Triangular.{HasNone, Triangular}
use Rattle.echelon.specs.Forward.{empty, low}
use Rattle.echelon.proofs.Lows.{low_lowest}
use Rattle.echelon.proofs.Reducing.{Each}
use Rattle.inspect.proofs.Following.{chosen}
use Rattle.probe.proofs.Undecided.{has_sum, Undecided, opened, reduced_undecided}
use Rattle.probe.specs.Elimination.{substituted, reduced_by, Kept, keeps, step, kept_from, eliminated}
use Rattle.probe.specs.Steps.{pivots}

none_sum : (r s : Row) (ps : List ℕ) → HasNone r ps → HasNone s ps → HasNone (add r s) ps
unfolding xor
none_sum r s [] h g = tt
none_sum r s (a ∷ ps) h g = (has_sum r s a false false h.0 g.0, none_sum r s ps h.1 g.1)

-- ---- triangular form

-- a reduced row has no pivot of the rows kept
reduced_clear : (p : Decisions) (ks : List Row) (r : Row) → Triangular p (pivots ks) ks → HasNone (reduced_by ks r) (pivots ks)
unfolding reduced_by xor
reduced_clear p [] r t = tt
reduced_clear p (k ∷ ks) r t =
    let a = low k.atoms in
    let s = reduced_by ks r in
    let rest = reduced_clear p ks r t.3 in
    chosen (λ q. HasNone q (a ∷ pivots ks)) (has_atom s a) (add s k) s
    (λ e. (has_sum s k a true true e t.1, none_sum s k (pivots ks) rest t.2)) (λ e. (e, rest))

-- the rows kept: triangular, of undecided atoms only
record Shaped (p : Decisions) (ks : List Row) : Type 0 where
  form : Triangular p (pivots ks) ks
  undecided : Each (Undecided p) ks

shaped_more : (p : Decisions) (ks : List Row) (r : Row) → Shaped p ks → empty (reduced_by ks (substituted p r)).atoms ≡ false
    → Shaped p (reduced_by ks (substituted p r) ∷ ks)
shaped_more p ks r h e =
    let s = reduced_by ks (substituted p r) in
    let own = (low_lowest s e).own in
    let inside : Undecided p s = reduced_undecided p ks (substituted p r) h.undecided (opened p r.atoms) in
    record {
      form = (inside (low s.atoms) own, own, reduced_clear p ks (substituted p r) h.form, h.form);
      undecided = (inside, h.undecided);
    }

shaped_step : (p : Decisions) (kept : Kept) (r : Row) → Shaped p kept.rows → Shaped p (step p kept r).rows
shaped_step p kept r h =
    let s = reduced_by kept.rows (substituted p r) in
    chosen (λ (q : Kept). Shaped p q.rows) kept.sound (keeps kept.rows s) kept
    (λ t.
    chosen (λ (q : Kept). Shaped p q.rows) (empty s.atoms) (record { rows = kept.rows; sound = not s.constant })
    (record { rows = s ∷ kept.rows; sound = true }) (λ e. h) (λ e. shaped_more p kept.rows r h e))
    (λ t. h)

shaped_from : (p : Decisions) (kept : Kept) (rs : List Row) → Shaped p kept.rows → Shaped p (kept_from p kept rs).rows
unfolding kept_from
shaped_from p kept [] h = h
shaped_from p kept (r ∷ rs) h = shaped_from p (step p kept r) rs (shaped_step p kept r h)

pub kept_triangular : (p : Decisions) (rs : List Row) → Triangular p (pivots (eliminated p rs).rows) (eliminated p rs).rows
kept_triangular p rs = (shaped_from p (record { rows = []; sound = true }) rs (record { form = tt; undecided = tt })).form
