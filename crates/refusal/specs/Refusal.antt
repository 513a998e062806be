-- Why calls are refused, with document 01's numbers, and what a call comes to by its checks.
use Rattle.std.specs.Prelude.{ℕ, List, [], ◌∷◌, Bool, cond, Result, Ok, Err}
use Rattle.refusal.specs.declared.Refusal.{Refusal}
use Rattle.refusal.specs.declared.Refusal.TheVariants.{Short, Overfull, Stray, Clash, Basis, Index, Unequal, Missing, Table, Atom}

abbrev pub number_of : Refusal → ℕ
number_of Short = 9
number_of Overfull = 10
number_of Stray = 11
number_of Clash = 12
number_of Basis = 13
number_of Index = 14
number_of Unequal = 15
number_of Missing = 16
number_of Table = 17
number_of Atom = 18

-- "Checks go by rising number within a group": a call's checks in their order, each with its refusal and whether it refuses. The first that
-- does decides.
abbrev pub checked : List (Refusal × Bool) → Result Unit Refusal
checked [] = Ok tt
checked (c ∷ cs) = cond c.1 (Err c.0) (checked cs)

-- What a call answers: its answer where all checks pass, else the refusal.
abbrev pub answered : {A : Type 0} → Result Unit Refusal → A → Result A Refusal
answered (Ok done) answer = Ok answer
answered (Err refusal) answer = Err refusal

-- What a call leaves of what it is lent: what it makes of it where all checks pass, else what was there.
abbrev pub left : {A : Type 0} → Result Unit Refusal → A → A → A
left (Ok done) made was = made
left (Err refusal) made was = was

-- And the number of what a call answers: 0 but of a refusal.
abbrev pub number_in : {A : Type 0} → Result A Refusal → ℕ
number_in (Ok answer) = 0
number_in (Err refusal) = number_of refusal
