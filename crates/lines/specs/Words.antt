-- The words of the lines.
use Rattle.std.specs.Prelude.{ℕ, List, [], ◌∷◌, Bool, cond, Result, Ok, Err}
use Prim.Native.Char.{code}
use Prim.Native.String.{String, [] as none, ◌∷◌ as ◌then◌}
use Rattle.refusal.specs.declared.Refusal.{Refusal}
use Rattle.region.specs.declared.Answer.{Answer}
use Rattle.region.specs.declared.Answer.TheVariants.{Taken, Same, Against}
use Rattle.inspect.specs.declared.Step.{Step}
use Rattle.inspect.specs.declared.Step.TheVariants.{Unchanged, Changed, Refuted}

-- A text of letters, spaces and line ends in its bytes.
abbrev pub bytes : String → List ℕ
bytes none = []
bytes (c then s) = code c ∷ bytes s

abbrev pub space : List ℕ
space = 32 ∷ []

abbrev pub newline : List ℕ
newline = 10 ∷ []

-- "taken (was open), same, or against", the last word of a line, which "byte 10 ends".
abbrev pub answer_word : Result Answer Refusal → List ℕ
answer_word (Ok Taken) = bytes " taken\n"
answer_word (Ok Same) = bytes " same\n"
answer_word (Ok Against) = bytes " against\n"
answer_word (Err refusal) = bytes " refused\n"

-- "The other answers print as `same`, `unchanged` and `refuted`."
abbrev pub step_word : Step → List ℕ
step_word Unchanged = bytes "inspect unchanged "
step_word Changed = bytes "inspect changed "
step_word Refuted = bytes "inspect refuted "

-- "yes or no"
abbrev pub probe_word : Bool → List ℕ
probe_word said = cond said (bytes "probe yes ") (bytes "probe no ")
