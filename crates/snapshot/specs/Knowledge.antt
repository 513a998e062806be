-- Knowledge: the region that was published last, if any was, and whether it is an ancestor of a region.
use Rattle.std.specs.Prelude.{Bool, true, false, not, ◌&&◌, ◌||◌, replicate, ltb, eqb, Result}
use Rattle.words.specs.Set.{set_of, subset}
use Rattle.refusal.specs.Refusal.{left}
use Rattle.refusal.specs.declared.Refusal.{Refusal}
use Rattle.fit.specs.Rows.{limit, overfull}
use Rattle.parity.specs.declared.System.{System}
use Rattle.region.specs.declared.Region.{Region}
use Rattle.region.specs.Calls.{region_check}
use Rattle.snapshot.specs.declared.Snapshot.{Snapshot}

-- "Fresh knowledge is uninitialised, words and atom count 0"
abbrev pub fresh : Snapshot
fresh = record { initialized = false; atoms = 0; held = replicate 8 0; cut = replicate 8 0 }

-- "only publishing alters knowledge, and it sets the count to n"
abbrev pub published : Region → Snapshot
published r = record { initialized = true; atoms = r.atoms; held = r.held; cut = r.cut }

-- A region that is refused leaves the knowledge as it was.
unfoldable pub publish_of : Snapshot → Region → Result Unit Refusal × Snapshot
publish_of known r = (region_check r, left (region_check r) (published r) known)

-- "10: over 512 atoms or rows", of system, region and initialised knowledge
abbrev pub overfull_by : System → Region → Snapshot → Bool
overfull_by s r known = overfull s.atoms s.rows || (ltb limit r.atoms || (known.initialized && ltb limit known.atoms))

-- "15: atom counts differ among system, region, initialised snapshot"
abbrev pub unequal : System → Region → Snapshot → Bool
unequal s r known = not (eqb r.atoms s.atoms) || (known.initialized && not (eqb known.atoms r.atoms))

-- "16: old decisions missing from the region": a decision is an atom with its value.
abbrev pub missing : Region → Snapshot → Bool
missing r known =
    known.initialized
    && not (subset (set_of known.held) (set_of r.held) && subset (set_of known.cut) (set_of r.cut))
