-- Memory that is filled: with the rows of a record, by its kind, and record by record.
use Rattle.std.proofs.Common.{◌≡◌, ℕ, ◌<◌, ◌≤◌, List, [], ◌∷◌, ◌++◌, length, Ok, Err, refl, sym, ap, subst, ◌∙◌}
use Rattle.rows.specs.Row.{Row}
use Rattle.rows.specs.Flat.{width_of}
use Rattle.embed.specs.Parts.{table, rows_of, all_rows}
use Rattle.format.specs.Format.{kind_at, next_at, table_atoms, table_at}
use Rattle.format.specs.Starts.{starts}
use Rattle.format.specs.declared.Record.{Record}
use Rattle.format.specs.declared.Records.{Records}
use Rattle.format.specs.Kind.{kind_of}
use Rattle.format.specs.declared.Kind.{Kind}
use Rattle.format.specs.declared.Kind.TheVariants.{Row as ARow, Table}
use Rattle.format.specs.declared.UnknownKind.{UnknownKind}
use Rattle.format.proofs.KindNumbers.{kind_named}
use Rattle.records.specs.Promises.{RecordFit, RecordsFit}
use Rattle.load.specs.Parts.{row_in, parts_at, parts_from}
use Rattle.load.specs.Steps.{Room, Loaded, RoomFor, Adds}
use Rattle.load.specs.declared.Filling.{Filling}
use Rattle.load.proofs.Handed.{here_row, here_table, here_none, from_more, from_end, fit_more}
use Rattle.load.proofs.Loading.{none_loaded, Left, left_room, left_next, left_end}

module _ (file : List ℕ) (n o : ℕ) where
  pub of_row : {kind : Kind} → Ok kind ≡ kind_of (kind_at file o) → kind ≡ ARow → all_rows n (parts_at file n o) ≡ row_in file n o ∷ []
  of_row e is = here_row file n o (kind_named _ ARow (sym e ∙ ap (λ (k : Kind). Ok k) is))

  pub of_table : {kind : Kind} → Ok kind ≡ kind_of (kind_at file o) → kind ≡ Table
      → all_rows n (parts_at file n o) ≡ rows_of n (table (table_atoms file o) (table_at file o))
  of_table e is = here_table file n o (kind_named _ Table (sym e ∙ ap (λ (k : Kind). Ok k) is))

  pub of_other : {kind : Kind} → Ok kind ≡ kind_of (kind_at file o) → (kind ≡ ARow → ⊥) → (kind ≡ Table → ⊥) → all_rows n (parts_at file n o) ≡ []
  of_other e r t = here_none file n o (λ i. let k = e ∙ ap kind_of i in r (cc)) (λ i. let k = e ∙ ap kind_of i in t (cc))

  pub of_unknown : {unknown : UnknownKind} → Err unknown ≡ kind_of (kind_at file o) → all_rows n (parts_at file n o) ≡ []
  of_unknown e = here_none file n o (λ i. let k = e ∙ ap kind_of i in cc) (λ i. let k = e ∙ ap kind_of i in cc)

pub adds_none : (t : Filling) {rs : List Row} → rs ≡ [] → Adds t rs t
adds_none t e =
    subst (λ (l : List Row). Adds t l t) (sym e) (record { same_words = refl; same_constants = refl; atoms = refl; loaded = none_loaded _ t.words.now t.constants.now t.next })

-- ---- record by record

-- the rows of the records from an offset on
abbrev pub rows_from : List ℕ → ℕ → ℕ → List Row
rows_from file n o = all_rows n (parts_from file n (starts file o))

-- what is left to write at a turn: the iterator has the records from its next one on
pub record Going (file : List ℕ) (t₀ : Filling) (it : Records) (t : Filling) : Type 0 where
  pub same_words : t.words.ghost_name ≡ t₀.words.ghost_name
  pub same_constants : t.constants.ghost_name ≡ t₀.constants.ghost_name
  pub same_file : it.next.file.now ≡ file
  pub atoms : t.atoms ≡ t₀.atoms
  pub fit : RecordsFit file t₀.atoms (starts file it.next.offset)
  pub left : Left (width_of t₀.atoms) (rows_from file t₀.atoms 0) t₀.words.now t₀.constants.now t₀.next (rows_from file t₀.atoms it.next.offset) t.words.now t.constants.now t.next

along : (P : List ℕ → ℕ → ℕ → Type 0) {f g : List ℕ} {n m o i : ℕ} → f ≡ g → n ≡ m → o ≡ i → P f n o → P g m i
along P {f} {g} {n} {m} {o} {i} a b c p = subst (λ (l : List ℕ). P l m i) a (subst (λ (k : ℕ). P f k i) b (subst (λ (k : ℕ). P f n k) c p))

module _ (file : List ℕ) (t₀ : Filling) {it : Records} {t : Filling} (g : Going file t₀ it t) where
  abbrev n : ℕ
  n = t₀.atoms

  abbrev w : ℕ
  w = width_of n

  abbrev ws₀ : List ℕ
  ws₀ = t₀.words.now

  abbrev cs₀ : List ℕ
  cs₀ = t₀.constants.now

  -- one record more
  module _ {then : Records} {x : Record}
      (h : (it.next.offset < length it.next.file.now) × (x ≡ it.next) × (then.next ≡ record { file = it.next.file; offset = next_at it.next.file.now it.next.offset })) where
    abbrev o : ℕ
    o = it.next.offset

    abbrev here : List Row
    here = all_rows n (parts_at file n o)

    within : o < length file
    within = subst (λ (l : List ℕ). o < length l) g.same_file h.0

    left : Left w (rows_from file n 0) ws₀ cs₀ t₀.next (here ++ rows_from file n (next_at file o)) t.words.now t.constants.now t.next
    left = subst (λ (rs : List Row). Left w (rows_from file n 0) ws₀ cs₀ t₀.next rs t.words.now t.constants.now t.next) (from_more file n o within) g.left

    file_is : x.file.now ≡ file
    file_is = ap (λ (r : Record). r.file.now) h.1 ∙ g.same_file

    offset_is : x.offset ≡ o
    offset_is = ap (λ (r : Record). r.offset) h.1

    pub going_fit : RecordFit x.file.now t.atoms x.offset
    going_fit = along RecordFit (sym file_is) (sym g.atoms) (sym offset_is) (fit_more file n o within g.fit).0

    pub going_room : RoomFor t₀ (rows_from file n 0) → RoomFor t (all_rows t.atoms (parts_at x.file.now t.atoms x.offset))
    going_room room =
        along (λ (f : List ℕ) (k i : ℕ). Room (width_of k) (all_rows k (parts_at f k i)) t.words.now t.constants.now t.next) (sym file_is) (sym g.atoms) (sym offset_is)
        (left_room w (rows_from file n 0) ws₀ cs₀ t₀.next t.words.now t.constants.now t.next here (rows_from file n (next_at file o)) left room)

    pub going_next : {u : Filling} → Adds t (all_rows t.atoms (parts_at x.file.now t.atoms x.offset)) u → Going file t₀ then u
    going_next {u} done =
        let next = next_at file o in
        let at : then.next.offset ≡ next = ap (λ (r : Record). r.offset) h.2 ∙ ap (λ (l : List ℕ). next_at l o) g.same_file in
        let now : Loaded w here t.words.now t.constants.now t.next u.words.now u.constants.now u.next =
        along (λ (f : List ℕ) (k i : ℕ). Loaded (width_of k) (all_rows k (parts_at f k i)) t.words.now t.constants.now t.next u.words.now u.constants.now u.next) file_is g.atoms offset_is done.loaded in
        record {
          same_words = done.same_words ∙ g.same_words;
          same_constants = done.same_constants ∙ g.same_constants;
          same_file = ap (λ (r : Record). r.file.now) h.2 ∙ g.same_file;
          atoms = done.atoms ∙ g.atoms;
          fit = subst (λ (i : ℕ). RecordsFit file n (starts file i)) (sym at) (fit_more file n o within g.fit).1;
          left = subst (λ (i : ℕ). Left w (rows_from file n 0) ws₀ cs₀ t₀.next (rows_from file n i) u.words.now u.constants.now u.next) (sym at)
              (left_next w (rows_from file n 0) ws₀ cs₀ t₀.next t.words.now t.constants.now t.next here (rows_from file n next) left u.words.now u.constants.now u.next now);
        }

  -- the end
  pub going_end : length it.next.file.now ≤ it.next.offset → Adds t₀ (rows_from file n 0) t
  going_end past =
      let all : length file ≤ it.next.offset = subst (λ (l : List ℕ). length l ≤ it.next.offset) g.same_file past in
      record {
        same_words = g.same_words;
        same_constants = g.same_constants;
        atoms = g.atoms;
        loaded = left_end w (rows_from file n 0) ws₀ cs₀ t₀.next t.words.now t.constants.now t.next
            (subst (λ (rs : List Row). Left w (rows_from file n 0) ws₀ cs₀ t₀.next rs t.words.now t.constants.now t.next) (from_end file n it.next.offset all) g.left);
      }
