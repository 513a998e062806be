-- The words and constants that `embed` writes for a hull's equations are those of the table's rows.
use Prim.Native.Nat.{ℕ, suc, ◌+◌, ◌*◌, ◌/◌, ◌≤◌, ◌<◌}
use mathlib.Core.Path.{◌≡◌, refl, sym, ap, ap₂, subst, ◌∙◌}
use mathlib.Core.List.{List, [], ◌∷◌, ◌++◌, append_assoc, map, reverse}
use mathlib.Core.Bool.{Bool, true, false, cond, ◌&&◌}
use mathlib.Core.Option.{none}
use native.Mathlib.Nat.{add-mul, div-lt_iff_lt-mul, zero-lt-suc}
use native.Mathlib.Omega.{arith}
use borrow.Author.Tests.{le-leb, lt-ltb}
use lib.ListN.{length, take, drop, replicate, length-map}
use lib.Seq.{sets, sets-eq, take_at}
use lib.Pow.{low, high}
use Rattle.std.specs.Prelude.{Ok}
use Rattle.words.specs.Set.{set_of, odd}
use Rattle.words.specs.Calls.{inserted}
use Rattle.rows.specs.Row.{Row}
use Rattle.rows.specs.Flat.{width_of, atoms_of, mask_of, unpack}
use Rattle.rows.specs.declared.Source.{Source}
use Rattle.hull.specs.Table.{Pattern, allowed}
use Rattle.hull.specs.Equations.{pivots_from, equations, through, hull_from, hull_of}
use Rattle.hull.specs.Propose.{limit, local, told, proposal_of}
use Rattle.hull.specs.declared.Hull.{Hull}
use Rattle.hull.specs.declared.LocalEquation.{LocalEquation}
use Rattle.hull.proofs.Exact.{rank_free}
use Rattle.hull.proofs.Spanned.{length_found}
use Rattle.echelon.specs.Eliminate.{words_of, constants_of}
use Rattle.embed.specs.Embed.{Rising, spread, row_over}
use Rattle.embed.specs.Parts.{table, rows_of}
use Rattle.embed.specs.Written as embed
use Rattle.embed.specs.Written.{marked, row_words, names_within, writable, written_words, written_constants}
use Rattle.embed.proofs.Named.{atoms_marked}
use Rattle.format.specs.Format.{atom_at, k_at, table_atoms, table_at}
use Rattle.format.proofs.Listing.{list_length}
use Rattle.format.proofs.Tables.{table_told}
use Rattle.records.specs.Promises.{AllBelow}
use Rattle.load.specs.Steps.{inserted_all, Room, Loaded}
use Rattle.load.proofs.Inserted.{wide, all_words}
use Rattle.load.proofs.Loading.{words_both, words_size, constants_both, constants_size}

-- ---- the words of one equation

-- the atoms named by the set bits of some coefficients
abbrev chosen : List ℕ → ℕ → List ℕ
chosen [] c = []
chosen (a ∷ names) c = cond (odd c) (a ∷ chosen names (c / 2)) (chosen names (c / 2))

chosen_marked : (names : List ℕ) (c : ℕ) (ws : List ℕ) → marked names c ws ≡ inserted_all (chosen names c) ws
unfolding marked inserted_all
chosen_marked [] c ws = refl
chosen_marked (a ∷ names) c ws = either (odd c) (chosen_marked names (c / 2))
  where
    either : (t : Bool) → ((l : List ℕ) → marked names (c / 2) l ≡ inserted_all (chosen names (c / 2)) l)
        → marked names (c / 2) (cond t (inserted ws a) ws) ≡ inserted_all (cond t (a ∷ chosen names (c / 2)) (chosen names (c / 2))) ws
    either true rest = rest (inserted ws a)
    either false rest = rest ws

chosen_below : (from n : ℕ) (names : List ℕ) (c : ℕ) → Rising from n names → AllBelow n (chosen names c)
chosen_below from n [] c r = tt
chosen_below from n (a ∷ names) c r = either (odd c) (chosen_below (suc a) n names (c / 2) r.2)
  where
    either : (t : Bool) → AllBelow n (chosen names (c / 2)) → AllBelow n (cond t (a ∷ chosen names (c / 2)) (chosen names (c / 2)))
    either true rest = (r.1, rest)
    either false rest = rest

-- the bits of a set of the atoms named, and the set
spread_none : (n : ℕ) (names : List ℕ) → spread n names [] ≡ spread n [] []
spread_none n [] = refl
spread_none n (a ∷ names) = refl

spread_mask : (n : ℕ) (names : List ℕ) (c : List Bool) → spread n names (atoms_of (length names) (mask_of c)) ≡ spread n names c
unfolding atoms_of mask_of
spread_mask n [] c = refl
spread_mask n (a ∷ names) [] = spread_mask n names [] ∙ spread_none n names
spread_mask n (a ∷ names) (true ∷ c) = let l : 1 < 2 = omega arith in rw (low (mask_of c) 1 l, high (mask_of c) 1 l, spread_mask n names c)
spread_mask n (a ∷ names) (false ∷ c) = let l : 0 < 2 = omega arith in rw (low (mask_of c) 1 l, high (mask_of c) 1 l, spread_mask n names c)

-- ---- and of all of them

module _ (n w : ℕ) (names : List ℕ) (fits : n ≤ w * 64) (rising : Rising 0 n names) where
  one_words : (r : Row) → marked names (mask_of r.atoms) (replicate w 0) ≡ unpack 64 w (mask_of (row_over n names r).atoms)
  one_words r =
      let c = mask_of r.atoms in
      let named = chosen names c in
      let is : marked names c (replicate w 0) ≡ inserted_all named (replicate w 0) = chosen_marked names c (replicate w 0) in
      is ∙ sym (all_words n w fits named (chosen_below 0 n names c rising))
      ∙ ap (λ (l : List ℕ). unpack 64 w (mask_of (atoms_of n (set_of l)))) (sym is)
      ∙ ap (λ (s : List Bool). unpack 64 w (mask_of s)) (atoms_marked n w names c fits rising ∙ spread_mask n names r.atoms)

  rows_words : (rs : List Row) → row_words w names (map local rs) ≡ words_of w (reverse (map (row_over n names) rs))
  unfolding row_words words_of
  rows_words [] = refl
  rows_words (r ∷ rs) = ap₂ ◌++◌ (one_words r) (rows_words rs) ∙ sym (words_both w (row_over n names r ∷ []) (map (row_over n names) rs))

  rows_constants : (rs : List Row) → embed.constants_of (map local rs) ≡ constants_of (reverse (map (row_over n names) rs))
  unfolding constants_of
  rows_constants [] = refl
  rows_constants (r ∷ rs) =
      ap (λ (l : List ℕ). cond r.constant 1 0 ∷ l) (rows_constants rs) ∙ sym (constants_both (row_over n names r ∷ []) (map (row_over n names) rs))

-- ---- they can be written

names_within_lem : (from n w : ℕ) (names : List ℕ) → n ≤ w * 64 → Rising from n names → names_within w names ≡ true
names_within_lem from n w [] fits r = refl
names_within_lem from n w (a ∷ names) fits r =
    let below : a < w * 64 = omega (arith, r.1) in
    ap₂ ◌&&◌ (lt-ltb (a / 64) w ((div-lt_iff_lt-mul (zero-lt-suc 63)).1 below)) (names_within_lem (suc a) n w names fits r.2)

few_from : (k : ℕ) (l : List Pattern) → k ≤ limit → length (hull_from k l).rows ≤ limit
unfolding hull_from
few_from k [] h = omega arith
few_from k (a ∷ xs) h =
    let ss = pivots_from a (replicate k none) xs in
    omega (arith, length-map (equations ss) (through a), rank_free ss, length_found k a xs)

few_rows : (k : ℕ) (words : List ℕ) → k ≤ limit → length (hull_of k words).rows ≤ limit
unfolding hull_of
few_rows k words h = few_from k (allowed k words) h

-- ---- a table as `embed` writes it

module _ (file : List ℕ) (n o at : ℕ) (ws cs : List ℕ) (few : k_at file o ≤ limit) (rising : Rising 0 n (table_atoms file o))
    (room : Room (width_of n) (rows_of n (table (table_atoms file o) (table_at file o))) ws cs at) (h : Hull)
    (is : proposal_of limit (k_at file o) (table_at file o) ≡ Ok h) where
  abbrev w : ℕ
  w = width_of n

  abbrev names : List ℕ
  names = table_atoms file o

  abbrev rs : List Row
  rs = (hull_of (length names) (table_at file o)).rows

  abbrev es : List LocalEquation
  es = map local rs

  abbrev over : List Row
  over = map (row_over n names) rs

  abbrev first : Source
  first = record { 0 = at }

  told_is : h ≡ told limit (hull_of (length names) (table_at file o))
  told_is =
      table_told file o few h is
      ∙ ap (λ (k : ℕ). told limit (hull_of k (table_at file o))) (sym (list_length (atom_at file o) 0 (k_at file o)))

  pub count_is : h.count ≡ length over
  count_is = ap (λ (x : Hull). x.count) told_is ∙ sym (length-map rs (row_over n names))

  equations_are : take h.count h.equations ≡ es
  equations_are = ap (λ (x : Hull). take x.count x.equations) told_is ∙ take_at es _ (length rs) (length-map rs local)

  can_write : writable w ws cs h names first ≡ true
  can_write =
      let short-names : length names ≤ limit = omega (arith, list_length (atom_at file o) 0 (k_at file o)) in
      let short : h.count ≤ limit = omega (arith, count_is, length-map rs (row_over n names), few_rows (length names) (table_at file o) short-names) in
      let constants : at + h.count ≤ length cs = omega (arith, count_is, room.constants) in
      let words : (at + h.count) * w ≤ length ws = subst (λ (k : ℕ). (at + k) * w ≤ length ws) (sym count_is) room.words in
      rw (le-leb _ _ short, le-leb _ _ constants, le-leb _ _ words, names_within_lem 0 n w names (wide n) rising)

  words_are : written_words w ws es names first ≡ sets ws (at * w) (words_of w (reverse over))
  unfolding written_words
  words_are =
      let p = words_of w (reverse over) in
      let size : length p ≡ length over * w = words_size w over in
      let same : length es * w ≡ length p = ap (λ (k : ℕ). k * w) (length-map rs local ∙ sym (length-map rs (row_over n names))) ∙ sym size in
      let fits : at * w + length p ≤ length ws = omega (arith, room.words, add-mul at (length over) w) in
      ap₂ (λ (l : List ℕ) (k : ℕ). take (at * w) ws ++ (l ++ drop (at * w + k) ws)) (rows_words n w names (wide n) rising rs) same
      ∙ sym (append_assoc (take (at * w) ws) p (drop (at * w + length p) ws)) ∙ sym (sets-eq p ws (at * w) fits)

  constants_are : written_constants cs es first ≡ sets cs at (constants_of (reverse over))
  unfolding written_constants
  constants_are =
      let c = constants_of (reverse over) in
      let size : length c ≡ length over = constants_size over in
      let same : length es ≡ length c = length-map rs local ∙ sym (size ∙ length-map rs (row_over n names)) in
      let fits : at + length c ≤ length cs = omega (arith, room.constants) in
      ap₂ (λ (l : List ℕ) (k : ℕ). take at cs ++ (l ++ drop (at + k) cs)) (rows_constants n w names (wide n) rising rs) same
      ∙ sym (append_assoc (take at cs) c (drop (at + length c) cs)) ∙ sym (sets-eq c cs at fits)

  pub table_loaded : (r : Bool) (ws' cs' : List ℕ) → r ≡ writable w ws cs h names first
      → ws' ≡ cond r (written_words w ws (take h.count h.equations) names first) ws
      → cs' ≡ cond r (written_constants cs (take h.count h.equations) first) cs
      → Loaded w over ws cs at ws' cs' (at + h.count)
  table_loaded r ws' cs' done words constants = record {
    place = ap (λ (k : ℕ). at + k) count_is;
    words = words ∙ ap₂ (λ (t : Bool) (l : List LocalEquation). cond t (written_words w ws l names first) ws) (done ∙ can_write) equations_are ∙ words_are;
    constants = constants ∙ ap₂ (λ (t : Bool) (l : List LocalEquation). cond t (written_constants cs l first) cs) (done ∙ can_write) equations_are ∙ constants_are;
  }
