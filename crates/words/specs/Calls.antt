-- What each call of `words` answers and leaves, for fit and unfit slices.
-- Document 01: they "have these plain set meanings. `first` gives the lowest set bit." It numbers no refusal of theirs: where the
-- Rust panics, the answer is a case of its own and nothing is changed.
use Rattle.std.specs.Prelude.{◌≡◌, Option, Some, None, Result, Ok, Err, ℕ, ◌-◌, ◌*◌, ◌/◌, ◌%◌, ◌^◌, Bool, cond, length, get_or, set, eqb, ltb}
use mathlib.Core.List.{List, zip_with}
use Rattle.std.specs.Int.Bits.{bit_and, bit_or}
use Rattle.std.specs.Int.Count.{ones}
use Rattle.words.specs.Set.{set_of, subset, odd, low}
use Rattle.words.specs.declared.Place.{Place}
use Rattle.words.specs.declared.SetBits.{SetBits}
use Rattle.words.specs.declared.Unfit.{Unfit}
use Rattle.words.specs.declared.Unfit.TheVariants.{Unequal, TooWide}

abbrev pub place_of : ℕ → Place
place_of a = record { word = a / 64; bit = 2 ^ (a % 64) }

-- One step of `bits`: the lowest set bit, and the word without it.
abbrev pub next_of : SetBits → Option ℕ × SetBits
next_of s =
    cond (eqb s.remaining 0) (None, s)
    (Some (low s.remaining), record { remaining = s.remaining - 2 ^ low s.remaining })

abbrev pub Visits : SetBits → Option ℕ → SetBits → Type 0
Visits s r t = (r, t) ≡ next_of s

-- The bit of atom a set in its word; past the end nothing is (`set` changes a list at a place that it has).
unfoldable pub inserted : List ℕ → ℕ → List ℕ
inserted ws a = set ws (a / 64) (bit_or (get_or ws (a / 64) 0) (2 ^ (a % 64)))

-- Two sets of one width joined word by word; a set is left as it is beside one of another width.
unfoldable pub merged : (ℕ → ℕ → ℕ) → List ℕ → List ℕ → List ℕ
merged op l r = cond (eqb (length l) (length r)) (zip_with op l r) l

-- A yes or no where the two have one width.
abbrev pub judged : List ℕ → List ℕ → Bool → Result Bool Unfit
judged l r b = cond (eqb (length l) (length r)) (Ok b) (Err Unequal)

unfoldable pub subset_of : List ℕ → List ℕ → Result Bool Unfit
subset_of l r = judged l r (subset (set_of l) (set_of r))

unfoldable pub parity_of : List ℕ → List ℕ → Result Bool Unfit
parity_of l r = judged l r (odd (ones (bit_and (set_of l) (set_of r))))

-- Whether a usize numbers every bit of n words.
abbrev pub narrow : ℕ → Bool
narrow n = ltb (n * 64) (2 ^ 64)

unfoldable pub count_of : List ℕ → Result ℕ Unfit
count_of ws = cond (narrow (length ws)) (Ok (ones (set_of ws))) (Err TooWide)

unfoldable pub intersection_of : List ℕ → List ℕ → Result ℕ Unfit
intersection_of l r =
    cond (eqb (length l) (length r))
    (cond (narrow (length l)) (Ok (ones (bit_and (set_of l) (set_of r)))) (Err TooWide))
    (Err Unequal)

unfoldable pub first_of : List ℕ → Result (Option ℕ) Unfit
first_of ws =
    cond (narrow (length ws)) (Ok (cond (eqb (set_of ws) 0) None (Some (low (set_of ws))))) (Err TooWide)
