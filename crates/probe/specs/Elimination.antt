-- The probe over decisions and any list of rows: document 01, Probe, sentence by sentence. Rows kept stand newest first.
use mathlib.Core.List.{List, [], ◌∷◌, map, zip_with}
use Rattle.std.specs.Prelude.{Bool, true, cond, not, ◌&&◌}
use Rattle.std.specs.Bool.{xor}
use Rattle.words.specs.Set.{odd}
use Rattle.rows.specs.Row.{Row, has_atom, overlap, add}
use Rattle.rows.specs.Decisions.{Decisions}
use Rattle.echelon.specs.Forward.{empty, low}
use Rattle.region.specs.Masks.{is_held, is_open}

-- "decided atoms taken out, each held one flipping the constant"
abbrev pub substituted : Decisions → Row → Row
substituted p r = record {
  atoms = zip_with ◌&&◌ r.atoms (map is_open p);
  constant = xor r.constant (odd (overlap r.atoms (map is_held p)));
}

-- "Each row kept so far, in order, is added where the new row has its lowest atom."
unfoldable pub reduced_by : List Row → Row → Row
reduced_by [] r = r
reduced_by (k ∷ ks) r =
    let s = reduced_by ks r in
    cond (has_atom s (low k.atoms)) (add s k) s

-- The rows kept, and whether none was left empty with constant 1.
pub record Kept : Type 0 where
  pub rows : List Row
  pub sound : Bool

-- "What is left is kept if not empty; empty with constant 1 is no."
abbrev pub keeps : List Row → Row → Kept
keeps ks s = cond (empty s.atoms) (record { rows = ks; sound = not s.constant }) (record { rows = s ∷ ks; sound = true })

-- "on no those kept until then": after a no nothing is looked at.
abbrev pub step : Decisions → Kept → Row → Kept
step p kept r = cond kept.sound (keeps kept.rows (reduced_by kept.rows (substituted p r))) kept

-- "Basis rows in order"
unfoldable pub kept_from : Decisions → Kept → List Row → Kept
unfolding reduced_by
kept_from p kept [] = kept
kept_from p kept (r ∷ rs) = kept_from p (step p kept r) rs

abbrev pub eliminated : Decisions → List Row → Kept
eliminated p rs = kept_from p (record { rows = []; sound = true }) rs
