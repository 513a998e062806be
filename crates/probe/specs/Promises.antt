-- The theorems of `probe`, as statements, for all decisions and every list of rows; src/promises.rt holds each.
use Rattle.std.specs.Prelude.{ℕ, ◌-◌, ◌^◌, ◌≤◌, ◌<◌, ◌≡◌, List, Bool, true, false, ◌&&◌, length, get_or}
use Rattle.rows.specs.Row.{Row, meets_all, sum_of}
use Rattle.rows.specs.Count.{count}
use Rattle.rows.specs.Decisions.{Decisions, agrees, undecided}
use Rattle.echelon.specs.Forward.{empty}
use Rattle.probe.specs.Elimination.{eliminated}

-- No more rows are kept than atoms are undecided, on yes and on no.
abbrev pub KeptFew : Type 0
KeptFew = (p : Decisions) (rs : List Row) → length (eliminated p rs).rows ≤ undecided p

-- k rows kept of u undecided atoms: on yes 2^(u - k) assignments agree with the decisions and meet every row, on no none does.
abbrev pub ProbeCounts : Type 0
ProbeCounts = (p : Decisions) (rs : List Row)
    → ((eliminated p rs).sound ≡ true
    → count (length p) (λ x. agrees p x && meets_all rs x) ≡ 2 ^ (undecided p - length (eliminated p rs).rows))
    × ((eliminated p rs).sound ≡ false → count (length p) (λ x. agrees p x && meets_all rs x) ≡ 0)

-- "they are independent: no sum of one or more different ones is empty", on yes and on no, for a choice bs of them with the i-th in it.
abbrev pub KeptIndependent : Type 0
KeptIndependent = (p : Decisions) (rs : List Row) (n : ℕ) (bs : List Bool) (i : ℕ)
    → i < length (eliminated p rs).rows → get_or bs i false ≡ true → empty (sum_of n bs (eliminated p rs).rows).atoms ≡ false
