-- Two small systems that have demand 3's setting, each with several calls of which one is refused, and what is counted.
use Rattle.std.specs.Prelude.{ℕ, ◌≡◌, List, [], ◌∷◌, true, false, Ok}
use Rattle.rows.specs.Count.{count}
use Rattle.parity.specs.Prepare.{Lent, lent, prepared}
use Rattle.inspect.specs.Inspect.{filled}
use Rattle.inspect.specs.Promises.{filled_by}
use Rattle.inspect.specs.Run.{Call, hold, cut, inspect, begins}
use Rattle.probe.specs.Probe.{told_of}
use Rattle.probe.specs.declared.Probed.{Probed}
use Rattle.embed.specs.Parts.{Part, row, table}
use Rattle.ways.specs.Ways.{Setting, way, probed_after}

-- {0,1}=1, {1,2}=0 and the table of 0 and 2 that forbids 00 and 11, over four atoms; a word lies past the rows.
abbrev pub parts : List Part
parts =
    row (record { atoms = true ∷ true ∷ false ∷ false ∷ []; constant = true })
    ∷ row (record { atoms = false ∷ true ∷ true ∷ false ∷ []; constant = false })
    ∷ table (0 ∷ 2 ∷ []) (9 ∷ 0 ∷ [])
    ∷ []

abbrev pub memory : Lent
memory =
    let room : List ℕ = 7 ∷ 7 ∷ 7 ∷ 7 ∷ 7 ∷ 7 ∷ 7 ∷ 7 ∷ [] in
    lent (3 ∷ 6 ∷ 5 ∷ 77 ∷ []) (1 ∷ 0 ∷ 1 ∷ []) room room room room

-- Atom 1 is held, atom 4 is not there, an inspection settles 0 and 2, and holding 0 is then against: atom 3 is left, in two ways.
abbrev pub calls : List Call
calls =
    let p = prepared 4 3 memory in
    hold (record { 0 = 1 })
    ∷ hold (record { 0 = 4 })
    ∷ inspect p.0.system (filled_by p.1) (0 ∷ 0 ∷ []) (0 ∷ 0 ∷ [])
    ∷ hold (record { 0 = 0 })
    ∷ []

-- {0,1}=1 over three atoms.
abbrev pub one_part : List Part
one_part = row (record { atoms = true ∷ true ∷ false ∷ []; constant = true }) ∷ []

abbrev pub one_memory : Lent
one_memory = let room : List ℕ = 0 ∷ 0 ∷ 0 ∷ 0 ∷ 0 ∷ 0 ∷ [] in lent (3 ∷ []) (1 ∷ []) room room room room

-- Both atoms are held; an inspection that is lent no memory is refused, and cutting 0 is against: no way is left.
abbrev pub one_calls : List Call
one_calls =
    hold (record { 0 = 0 })
    ∷ hold (record { 0 = 1 })
    ∷ inspect (record { atoms = 3; rows = 1; rank = 1; refuted = false }) (filled [] [] [] []) [] []
    ∷ cut (record { 0 = 0 })
    ∷ []

-- What the probe says, and the number of ways.
abbrev pub Counts : ℕ → ℕ → List Part → Lent → List Call → Probed → ℕ → Type 0
Counts n m ps l cs q ways = Setting n m ps l cs × (probed_after n m l cs ≡ Ok q) × (count n (way ps (begins n) cs) ≡ ways)

abbrev pub Instances : Type 0
Instances =
    Counts 4 3 parts memory calls (told_of true 1 0) 2
    × Counts 3 1 one_part one_memory one_calls (told_of false 1 0) 0
