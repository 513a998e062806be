-- Lists of calls over one region and one knowledge, as demand 3 has them: "Hold, cut and the probe take the region, and inspect the region
-- and the knowledge, as the last call returned or left them."
use Rattle.std.specs.Prelude.{ℕ, List, [], ◌∷◌}
use Rattle.std.specs.Result.{result_unwrap_or}
use Rattle.rows.specs.declared.Atom.{Atom}
use Rattle.parity.specs.declared.System.{System}
use Rattle.region.specs.Masks.{region_of}
use Rattle.region.specs.Calls.{undecided_of, hold_of, cut_of}
use Rattle.region.specs.declared.Region.{Region}
use Rattle.snapshot.specs.Knowledge.{fresh}
use Rattle.snapshot.specs.declared.Snapshot.{Snapshot}
use Rattle.inspect.specs.Inspect.{Filled, region_in, known_in, inspect_of}

-- A call with its arguments: an inspection is lent a system, memory to read, and the forced list's atoms and values.
pub data Call : Type 0 where
  hold : Atom → Call
  cut : Atom → Call
  inspect : System → Filled → List ℕ → List ℕ → Call

pub record State : Type 0 where
  pub region : Region
  pub known : Snapshot

-- "one region that begins undecided and one knowledge that begins fresh". (Above 512 atoms there is no region; the one of no atoms stands for it.)
abbrev pub begins : ℕ → State
begins n = record { region = result_unwrap_or (undecided_of n) (region_of []); known = fresh }

-- What a call leaves, refused or not.
abbrev pub step : State → Call → State
step st (hold a) = record { region = (hold_of st.region a).1; known = st.known }
step st (cut a) = record { region = (cut_of st.region a).1; known = st.known }
step st (inspect s l atoms values) =
    let o = inspect_of s l st.region st.known atoms values in
    record { region = region_in st.region o.result; known = known_in st.known o.result }

abbrev pub after : State → List Call → State
after st [] = st
after st (c ∷ cs) = after (step st c) cs
