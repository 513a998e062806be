-- The measures settled so far. Place a of the list is atom a: `some b` where it is decided to be b (document 01: held or cut), else `none`.
use Rattle.std.specs.Prelude.{ℕ, suc, List, [], ◌∷◌, Bool, true, false, ◌&&◌}
use Rattle.std.specs.Bool.{beq}
use Rattle.std.proofs.Math.Option.{Option, none, some}
use Rattle.rows.specs.Row.{Assignment}

abbrev pub Decisions : Type 0
Decisions = List (Option Bool)

-- Whether an assignment of these atoms gives each decided one its value.
abbrev pub agrees : Decisions → Assignment → Bool
agrees [] [] = true
agrees [] (v ∷ x) = false
agrees (d ∷ p) [] = false
agrees (none ∷ p) (v ∷ x) = agrees p x
agrees (some b ∷ p) (v ∷ x) = beq b v && agrees p x

-- "u counts atoms neither held nor cut."
abbrev pub undecided : Decisions → ℕ
undecided [] = 0
undecided (none ∷ p) = suc (undecided p)
undecided (some b ∷ p) = undecided p
