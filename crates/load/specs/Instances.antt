-- Two small files, what they hand in, and what `load` leaves.
use Rattle.std.specs.Prelude.{ℕ, ◌≡◌, List, [], ◌∷◌, ◌++◌, true, false, replicate, Result, Ok, Err}
use Rattle.embed.specs.Parts.{row, table}
use Rattle.records.specs.declared.Checked.{Checked}
use Rattle.load.specs.Parts.{parts_of}
use Rattle.load.specs.Load.{outcome, load_of}
use Rattle.load.specs.declared.LoadError.{LoadError}
use Rattle.load.specs.declared.LoadError.TheVariants.{Short}

-- Document 01, "A file and its lines".
abbrev pub worked : List ℕ
worked =
    4 ∷ 0 ∷ 1 ∷ 0 ∷ 3 ∷ 0
    ∷ 7 ∷ 0 ∷ 2 ∷ 0 ∷ 1 ∷ 0 ∷ 0 ∷ 1 ∷ 0
    ∷ 7 ∷ 0 ∷ 2 ∷ 0 ∷ 0 ∷ 1 ∷ 0 ∷ 2 ∷ 0
    ∷ 23 ∷ 0 ∷ 3 ∷ 0 ∷ 2 ∷ 0 ∷ 0 ∷ 2 ∷ 0 ∷ 9
    ∷ (replicate 15 0
    ++ (2 ∷ 0 ∷ 6 ∷ 0
    ∷ 5 ∷ 0 ∷ 4 ∷ 0 ∷ 1 ∷ 0 ∷ 1
    ∷ 2 ∷ 0 ∷ 5 ∷ 0
    ∷ 2 ∷ 0 ∷ 6 ∷ 0
    ∷ 5 ∷ 0 ∷ 4 ∷ 0 ∷ 0 ∷ 0 ∷ 1
    ∷ []))

-- Two atoms, and a row that names atom 1 twice and atom 0.
abbrev pub twice : List ℕ
twice = 4 ∷ 0 ∷ 1 ∷ 0 ∷ 2 ∷ 0 ∷ 9 ∷ 0 ∷ 2 ∷ 0 ∷ 1 ∷ 1 ∷ 0 ∷ 1 ∷ 0 ∷ 0 ∷ 0 ∷ []

abbrev pub taken : ℕ → ℕ → Result Checked LoadError
taken n m = Ok (record { atoms = n; rows = m })

-- {0,1}=1, {1,2}=0 and a table; its equation is {0,2}=1. A word and a byte past the rows stand, and where memory is short all of it does.
abbrev pub Instances : Type 0
Instances =
    (parts_of worked 3
    ≡ row (record { atoms = true ∷ true ∷ false ∷ []; constant = true })
    ∷ row (record { atoms = false ∷ true ∷ true ∷ []; constant = false })
    ∷ table (0 ∷ 2 ∷ []) (9 ∷ 0 ∷ [])
    ∷ [])
    × (load_of worked (77 ∷ 77 ∷ 77 ∷ 77 ∷ []) (7 ∷ 7 ∷ 7 ∷ 7 ∷ []) ≡ outcome (taken 3 3) (3 ∷ 6 ∷ 5 ∷ 77 ∷ []) (1 ∷ 0 ∷ 1 ∷ 7 ∷ []))
    × (load_of worked (77 ∷ 77 ∷ []) (7 ∷ 7 ∷ 7 ∷ []) ≡ outcome (Err Short) (77 ∷ 77 ∷ []) (7 ∷ 7 ∷ 7 ∷ []))
    × (parts_of twice 2 ≡ row (record { atoms = true ∷ true ∷ []; constant = true }) ∷ [])
    × (load_of twice (77 ∷ []) (7 ∷ []) ≡ outcome (taken 2 1) (3 ∷ []) (1 ∷ []))
