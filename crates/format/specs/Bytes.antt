-- Numbers in the bytes of a file. Past its end a byte is 0, so that every definition says something of any bytes.
use Rattle.std.specs.Prelude.{ℕ, zero, suc, ◌+◌, ◌*◌, ◌^◌, List, [], ◌∷◌, get_or}

abbrev pub byte_at : List ℕ → ℕ → ℕ
byte_at file i = get_or file i 0

-- "2 bytes, little-endian"
unfoldable pub short_at : List ℕ → ℕ → ℕ
short_at file i = byte_at file i + byte_at file (i + 1) * 256

-- "words of 8 bytes little-endian"
unfoldable pub word_at : List ℕ → ℕ → ℕ
word_at file i = short_at file i + short_at file (i + 2) * 2 ^ 16 + short_at file (i + 4) * 2 ^ 32 + short_at file (i + 6) * 2 ^ 48

-- c numbers, the i-th on.
unfoldable pub list_from : {A : Type 0} → (ℕ → A) → ℕ → ℕ → List A
list_from number i zero = []
list_from number i (suc c) = number i ∷ list_from number (suc i) c
