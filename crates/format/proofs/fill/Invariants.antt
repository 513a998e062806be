-- the first places are filled
use Rattle.std.proofs.Common.{◌≡◌, ℕ, ◌<◌, length, take}
use Rattle.format.specs.Bytes.{list_from}
use Rattle.format.proofs.fill.Given as goal

abbrev pub invariant-loop-i : goal.invariant-loop-i
invariant-loop-i g l =
    (number : ℕ → _) → ((i : ℕ) → i < length l.fn.places → (v : _) → goal.F-post g l.value i v → v ≡ number i) → take l.i l.places ≡ list_from number 0 l.i
