-- "A file holds records: length (2 bytes, little-endian, counting what follows it), kind (2 bytes, little-endian), body."
-- A record is its offset o in the file; these are its fields.
use Rattle.std.specs.Prelude.{ℕ, ◌+◌, ◌-◌, ◌*◌, ◌/◌, min, List, length}
use Rattle.hull.specs.Propose.{table_words}
use Rattle.format.specs.Bytes.{byte_at, short_at, word_at, list_from}

abbrev pub length_at : List ℕ → ℕ → ℕ
length_at file o = short_at file o

abbrev pub kind_at : List ℕ → ℕ → ℕ
kind_at file o = short_at file (o + 2)

-- How many bytes the body has.
abbrev pub body_at : List ℕ → ℕ → ℕ
body_at file o = length_at file o - 2

-- Where the record ends by its length, and where the next one begins: no record reaches past the file.
abbrev pub end_at : List ℕ → ℕ → ℕ
end_at file o = o + (2 + length_at file o)

abbrev pub next_at : List ℕ → ℕ → ℕ
next_at file o = min (end_at file o) (length file)

-- "1: atom count n, 2 bytes."
abbrev pub count_at : List ℕ → ℕ → ℕ
count_at file o = short_at file (o + 4)

-- "2, a row: constant byte, then atoms." "Atom numbers are 2 bytes little-endian."
abbrev pub constant_at : List ℕ → ℕ → ℕ
constant_at file o = byte_at file (o + 4)

abbrev pub atom_at : List ℕ → ℕ → ℕ → ℕ
atom_at file o i = short_at file (o + (5 + i * 2))

abbrev pub atom_count : List ℕ → ℕ → ℕ
atom_count file o = (body_at file o - 1) / 2

abbrev pub row_atoms : List ℕ → ℕ → List ℕ
row_atoms file o = list_from (atom_at file o) 0 (atom_count file o)

-- "3, a table: byte k, k atoms strictly rising, then 2·ceil(2^k/128) words of 8 bytes little-endian"
abbrev pub k_at : List ℕ → ℕ → ℕ
k_at file o = byte_at file (o + 4)

abbrev pub table_atoms : List ℕ → ℕ → List ℕ
table_atoms file o = list_from (atom_at file o) 0 (k_at file o)

abbrev pub table_word_at : List ℕ → ℕ → ℕ → ℕ
table_word_at file o j = word_at file (o + (5 + k_at file o * 2 + j * 8))

abbrev pub table_at : List ℕ → ℕ → List ℕ
table_at file o = list_from (table_word_at file o) 0 (table_words (k_at file o))

-- "4, a decision: atom, value byte 0 or 1."
abbrev pub decided_at : List ℕ → ℕ → ℕ
decided_at file o = short_at file (o + 4)

abbrev pub value_at : List ℕ → ℕ → ℕ
value_at file o = byte_at file (o + 6)
