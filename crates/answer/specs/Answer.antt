-- What `answer` says and leaves in the memory lent to it, with room and without.
use Rattle.std.specs.Prelude.{ℕ, ◌+◌, ◌*◌, min, List, ◌++◌, cond, length, drop, ltb, Result, Ok, Err}
use Rattle.records.specs.Check.{file_limit}
use Rattle.answer.specs.Text.{text_of}
use Rattle.answer.specs.declared.NoRoom.{NoRoom}

-- The room that is asked, by the length of a file alone: a first line, and 8 bytes for each byte of the file.
abbrev pub room_of : ℕ → ℕ
room_of n = 64 + min n file_limit * 8

-- The result, and what the lent bytes hold.
pub record Outcome : Type 0 where
  pub result : Result ℕ NoRoom
  pub out : List ℕ

abbrev pub outcome : Result ℕ NoRoom → List ℕ → Outcome
outcome result out = record { result = result; out = out }

-- "9: a lent buffer too short", with nothing touched; else the text, all after it as it was.
unfoldable pub answer_of : List ℕ → List ℕ → Outcome
answer_of file out =
    let text = text_of file in
    cond (ltb (length out) (room_of (length file))) (outcome (Err (record {})) out)
    (outcome (Ok (length text)) (text ++ drop (length text) out))
