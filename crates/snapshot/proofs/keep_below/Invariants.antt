use Rattle.std.proofs.Common.{ℕ, ◌≡◌, ◌-◌, ◌*◌, ◌^◌, ◌<◌, get_or}
use Rattle.snapshot.proofs.Keeping.{kept_to}
use Rattle.snapshot.proofs.keep_below.Given as goal

abbrev pub invariant-loop-word : goal.invariant-loop-word
invariant-loop-word l = record {
  left : l.left ≡ l.rank - l.word-index * 64;
  rows : l.rows ≡ kept_to 64 l.word-index l.rank l.fn.rows;
  fits : (i : ℕ) → get_or l.fn.rows i 0 < 2 ^ 64;
}
