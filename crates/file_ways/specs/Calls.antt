-- The calls of a file: none is refused, so no line of a file that is taken says `refused`.
use Rattle.std.specs.Prelude.{ℕ, ◌≡◌, List, [], ◌∷◌, Ok}
use Rattle.refusal.specs.Refusal.{number_in}
use Rattle.region.specs.Calls.{hold_of, cut_of}
use Rattle.inspect.specs.Inspect.{inspect_of}
use Rattle.inspect.specs.Run.{Call, hold, cut, inspect, State, begins, step}
use Rattle.format.specs.Starts.{starts}
use Rattle.records.specs.Check.{check_of}
use Rattle.records.specs.declared.Checked.{Checked}
use Rattle.file_ways.specs.Probes.{calls_of}

-- The number under which a call is refused, or 0.
abbrev pub call_number : State → Call → ℕ
call_number st (hold a) = number_in (hold_of st.region a).0
call_number st (cut a) = number_in (cut_of st.region a).0
call_number st (inspect s l atoms values) = number_in (inspect_of s l st.region st.known atoms values).result

-- Calls one after the other, of which none is refused.
abbrev pub AllAnswered : State → List Call → Type 0
AllAnswered st [] = Unit {0}
AllAnswered st (c ∷ cs) = (call_number st c ≡ 0) × AllAnswered (step st c) cs

abbrev pub CallsAnswered : Type 0
CallsAnswered = (file : List ℕ) (c : Checked) → check_of file ≡ Ok c → AllAnswered (begins c.atoms) (calls_of file c (starts file 0))
