-- The theorem of `snapshot`, as a statement; src/promises.rt holds it.
use Rattle.std.specs.Prelude.{ℕ, ◌<◌, ◌≡◌, ◌↔◌, true, false, get_or, Ok}
use Rattle.std.proofs.Math.Option.{none}
use Rattle.words.specs.Set.{set_of}
use Rattle.rows.specs.Row.{has_atom}
use Rattle.rows.specs.Decisions.{Decisions}
use Rattle.parity.specs.Prepare.{Lent, prepare_check, prepared}
use Rattle.parity.specs.Promises.{row_left}
use Rattle.parity.specs.declared.Prepared.{Prepared}
use Rattle.region.specs.Masks.{decisions_of, decisions, is_open}
use Rattle.region.specs.declared.Region.{Region}
use Rattle.snapshot.specs.Touch.{touched_of, touched_check}
use Rattle.snapshot.specs.declared.Snapshot.{Snapshot}

-- The decisions that were published.
abbrev pub old_decisions : Snapshot → Decisions
old_decisions known = decisions_of known.atoms (set_of known.held) (set_of known.cut)

-- An atom that is decided now and was open then.
abbrev pub NewlyDecided : Region → Snapshot → ℕ → Type 0
NewlyDecided r known a = (is_open (get_or (decisions r) a none) ≡ false) × (is_open (get_or (old_decisions known) a none) ≡ true)

-- "with an index from preparation these are the rows that have such an atom": of a sound system that preparation left, p.
abbrev pub Touches : ℕ → Prepared × Lent → Region → Snapshot → Type 0
Touches n p r known =
    (j : ℕ) → j < p.0.system.rank
    → (get_or (touched_of p.0.system.rank p.1.index r known) j false ≡ true)
    ↔ ((a : ℕ) × NewlyDecided r known a × (has_atom (row_left n p (get_or p.1.basis j 0)) a ≡ true))

abbrev pub TouchedExact : Type 0
TouchedExact = (n m : ℕ) (l : Lent) (r : Region) (known : Snapshot)
    → let p = prepared n m l in
    prepare_check n m l ≡ Ok tt → p.0.system.refuted ≡ false → known.initialized ≡ true
    → touched_check p.0.system p.1.index r known ≡ Ok tt → Touches n p r known
