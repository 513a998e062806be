-- What each call of `rows` answers and leaves, for rows that are there and rows that are not.
use Rattle.std.specs.Prelude.{ℕ, zero, suc, ◌+◌, ◌*◌, Bool, false, Option, Some, None, Result, Ok, Err, cond, ◌&&◌, length, get_or, take, drop, set, leb, ltb, eqb}
use mathlib.Core.List.{List, ◌++◌, zip_with}
use Rattle.std.specs.Int.Bits.{bit_and, bit_or, bit_xor}
use Rattle.std.specs.Int.Count.{ones}
use Rattle.words.specs.Set.{set_of, odd, low}
use Rattle.words.specs.Calls.{narrow}
use Rattle.rows.specs.Flat.{row}
use Rattle.rows.specs.declared.Ordinal.{Ordinal}
use Rattle.rows.specs.declared.Source.{Source}
use Rattle.rows.specs.declared.Atom.{Atom}
use Rattle.rows.specs.declared.Outside.{Outside}

-- A row or a mask that is not there, or one of more bits than a usize numbers.
abbrev pub outside : Outside
outside = record {}

-- Document 01: "a row's place in the basis (ordinal) and its number among the rows (source)".
unfoldable pub source_of : List ℕ → Ordinal → Option Source
source_of basis place = cond (ltb place.0 (length basis)) (Some (record { 0 = get_or basis place.0 0 })) None

-- Whether row r lies within the words. (Of rows without words every one does.)
abbrev pub within : ℕ → List ℕ → Source → Bool
within w ws r = leb (r.0 * w + w) (length ws)

-- The part of w words at place i, the parts counted from 0, if it lies within.
unfoldable pub part_of : ℕ → List ℕ → ℕ → Option (List ℕ)
part_of w ws i = cond (leb (i * w + w) (length ws)) (Some (row w ws i)) None

-- The union of word i of each of the first m parts of w words.
unfoldable pub union_of : ℕ → ℕ → List ℕ → ℕ → ℕ
union_of w i ws zero = 0
union_of w i ws (suc m) = bit_or (union_of w i ws m) (get_or ws (m * w + i) 0)

-- That union, if the parts lie within and have such a word.
unfoldable pub union_at_of : ℕ → ℕ → List ℕ → ℕ → Option ℕ
union_at_of w i ws m = cond (ltb i w && leb (m * w) (length ws)) (Some (union_of w i ws m)) None

abbrev pub row_of : ℕ → List ℕ → Source → Option (List ℕ)
row_of w ws r = part_of w ws r.0

-- A row's "lowest atom"; a row of more bits than a usize numbers is not looked at.
unfoldable pub lowest_of : ℕ → List ℕ → Source → Result (Option Atom) Outside
lowest_of w ws r =
    cond (within w ws r && narrow w)
    (Ok (cond (eqb (set_of (row w ws r.0)) 0) None (Some (record { 0 = low (set_of (row w ws r.0)) }))))
    (Err outside)

-- A row and a mask that are both there: the mask's first w words.
abbrev pub both_within : ℕ → List ℕ → Source → List ℕ → Bool
both_within w ws r mask = within w ws r && leb w (length mask)

-- Whether the row shares an odd number of atoms with the mask.
unfoldable pub overlap_parity_of : ℕ → List ℕ → Source → List ℕ → Result Bool Outside
overlap_parity_of w ws r mask =
    cond (both_within w ws r mask) (Ok (odd (ones (bit_and (set_of (row w ws r.0)) (set_of (take w mask)))))) (Err outside)

-- The same as yes or no: a row or a mask that is not there has none in common.
abbrev pub is_odd : Result Bool Outside → Bool
is_odd (Ok b) = b
is_odd (Err e) = false

unfoldable pub overlap_count_of : ℕ → List ℕ → Source → List ℕ → Result ℕ Outside
overlap_count_of w ws r mask =
    cond (both_within w ws r mask && narrow w) (Ok (ones (bit_and (set_of (row w ws r.0)) (set_of (take w mask))))) (Err outside)

-- A row can be added to a later one that lies within the words, with its constant.
abbrev pub addable : ℕ → List ℕ → List ℕ → Source → Source → Bool
addable w ws cs t s = ltb s.0 t.0 && (ltb t.0 (length cs) && within w ws t)

-- "that row is added (XOR, constants too; one addition)": row s to row t, all other words as they were.
unfoldable pub added_words : ℕ → List ℕ → Source → Source → List ℕ
added_words w ws t s =
    take (t.0 * w) ws ++ (zip_with bit_xor (row w ws t.0) (row w ws s.0) ++ drop (t.0 * w + w) ws)

unfoldable pub added_constants : List ℕ → Source → Source → List ℕ
added_constants cs t s = set cs t.0 (bit_xor (get_or cs t.0 0) (get_or cs s.0 0))
