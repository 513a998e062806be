-- The forced list applied in order to the decisions.
use Rattle.std.specs.Prelude.{ℕ, ◌+◌, List, [], ◌∷◌, Bool, false, cond, not, get_or, set}
use Rattle.std.specs.Bool.{beq}
use Rattle.std.proofs.Math.Option.{Option, none, some}
use Rattle.rows.specs.Decisions.{Decisions}

-- The decisions as they stand, how many of them were made as held and as cut, and whether an atom was decided otherwise.
pub record Batch : Type 0 where
  pub decisions : Decisions
  pub held : ℕ
  pub cut : ℕ
  pub against : Bool

abbrev pub begun : Decisions → Batch
begun p = record { decisions = p; held = 0; cut = 0; against = false }

-- "an open atom is decided and counted as held or cut; an atom decided otherwise, Refuted": atom a forced to v, by what was decided of it.
abbrev pub forced_on : Batch → ℕ → Bool → Option Bool → Batch
forced_on b a v none = record {
  decisions = set b.decisions a (some v);
  held = b.held + cond v 1 0;
  cut = b.cut + cond v 0 1;
  against = false;
}
forced_on b a v (some w) = record { decisions = b.decisions; held = b.held; cut = b.cut; against = not (beq w v) }

-- "with earlier ones standing": after one that is against nothing is decided.
abbrev pub next : Batch → ℕ × Bool → Batch
next b f = cond b.against b (forced_on b f.0 f.1 (get_or b.decisions f.0 none))

unfoldable pub applied : Batch → List (ℕ × Bool) → Batch
applied b [] = b
applied b (f ∷ fs) = applied (next b f) fs
