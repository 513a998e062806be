-- The theorem of `answer`, as a statement; src/promises.rt holds it.
use Rattle.std.specs.Prelude.{ℕ, ◌≤◌, List, length}
use Rattle.answer.specs.Text.{text_of}
use Rattle.answer.specs.Answer.{room_of}

-- The text of every file has room.
abbrev pub TextFits : Type 0
TextFits = (file : List ℕ) → length (text_of file) ≤ room_of (length file)
