-- What the private functions of `lines` leave, for their contracts alone.
use Rattle.std.specs.Prelude.{ℕ, ◌≡◌, List}
use Rattle.parity.specs.declared.System.{System}
use Rattle.inspect.specs.Inspect.{Filled}
use Rattle.inspect.specs.Run.{Call, State, step, after}
use Rattle.text.specs.declared.Text.{Text}
use Rattle.text.specs.Puts.{Puts}
use Rattle.lines.specs.Lines.{call_line, calls_at, line_at}
use Rattle.lines.specs.declared.State.{State as Kept}

-- Region and knowledge, as the lists of calls have them.
abbrev pub state_of : Kept → State
state_of kept = record { region = kept.region; known = kept.known }

-- A line is put to a text, and region and knowledge are those of a state.
pub record Left (line : List ℕ) (st : State) (t u : Text) (kept : Kept) : Type 0 where
  pub puts : Puts t line u
  pub state : state_of kept ≡ st

-- Of one call, and of one record.
abbrev pub Called : State → Call → Text → Text → Kept → Type 0
Called st call = Left (call_line st call) (step st call)

abbrev pub Turned : List ℕ → System → Filled → State → ℕ → Text → Text → Kept → Type 0
Turned file s l st o = Left (line_at file s l st o) (after st (calls_at file s l o))
