-- What `eliminate` answers and leaves in the memory lent to it, for fit and unfit input.
use Rattle.std.specs.Prelude.{ℕ, zero, suc, ◌*◌, min, List, [], ◌∷◌, ◌++◌, cond, ◌||◌, length, drop, ltb, Result}
use Rattle.rows.specs.Row.{Row}
use Rattle.rows.specs.Flat.{width_of, row_at, mask_of, unpack}
use Rattle.refusal.specs.Refusal.{checked, answered, left}
use Rattle.refusal.specs.declared.Refusal.{Refusal}
use Rattle.refusal.specs.declared.Refusal.TheVariants.{Short, Overfull, Stray}
use Rattle.fit.specs.Rows.{overfull, short, strays}
use Rattle.echelon.specs.Forward.{State, eliminated}
use Rattle.echelon.specs.declared.Eliminated.{Eliminated}

-- The first m rows of the words, the last first.
unfoldable pub rows_to : ℕ → ℕ → List ℕ → List ℕ → ℕ → List Row
rows_to n w ws cs zero = []
rows_to n w ws cs (suc m) = row_at n w ws cs m ∷ rows_to n w ws cs m

-- And back: their words of w a row, and their constants.
unfoldable pub words_of : ℕ → List Row → List ℕ
words_of w [] = []
words_of w (r ∷ rs) = words_of w rs ++ unpack 64 w (mask_of r.atoms)

unfoldable pub constants_of : List Row → List ℕ
constants_of [] = []
constants_of (r ∷ rs) = constants_of rs ++ (cond r.constant 1 0 ∷ [])

-- The result, and what the lent rows, constants and basis hold.
pub record Outcome (R : Type 0) : Type 0 where
  pub result : R
  pub rows : List ℕ
  pub constants : List ℕ
  pub basis : List ℕ

abbrev pub outcome : {R : Type 0} → R → List ℕ → List ℕ → List ℕ → Outcome R
outcome r ws cs ps = record { result = r; rows = ws; constants = cs; basis = ps }

-- A state written over the lent memory: "words and entries past those named are untouched", and so are the rows after one that refutes.
abbrev pub written : ℕ → State → List ℕ → List ℕ → List ℕ → Outcome Eliminated
written w st ws cs ps =
    outcome (record { rank = length st.basis; additions = st.additions; refuted = st.refuted })
    (words_of w st.rows ++ drop (length st.rows * w) ws)
    (constants_of st.rows ++ drop (length st.rows) cs)
    (st.basis ++ drop (length st.basis) ps)

-- 10, 9 and 11: "For m rows: m·W row words, m constants, basis .. min(m, n) entries"
unfoldable pub eliminate_check : ℕ → ℕ → List ℕ → List ℕ → List ℕ → Result Unit Refusal
eliminate_check n m ws cs ps =
    checked ((Overfull, overfull n m) ∷ (Short, short n m ws cs || ltb (length ps) (min m n)) ∷ (Stray, strays n (width_of n) ws cs m) ∷ [])

-- A refused call leaves all lent memory as it was.
unfoldable pub eliminate_of : ℕ → ℕ → List ℕ → List ℕ → List ℕ → Outcome (Result Eliminated Refusal)
unfolding eliminate_check
eliminate_of n m ws cs ps =
    let w = width_of n in
    let check = eliminate_check n m ws cs ps in
    let o = written w (eliminated n (rows_to n w ws cs m)) ws cs ps in
    outcome (answered check o.result) (left check o.rows ws) (left check o.constants cs) (left check o.basis ps)
