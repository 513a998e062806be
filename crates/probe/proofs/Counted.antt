-- How many rows are kept, and how many assignments agree with the decisions and meet every row.
use mathlib.Core.Path.{◌≡◌, refl, sym, ◌∙◌}
use mathlib.Core.Bool.{Bool, true, false, ◌&&◌}
use lib.ListN.{length}
use Rattle.rows.specs.Row.{meets_all}
use Rattle.rows.specs.Decisions.{agrees}
use Rattle.rows.proofs.Counting.{count_ext, count_none}
use Rattle.rows.proofs.Triangle.{triangular_leaves}
use Rattle.inspect.proofs.Fits.{where_never}
use Rattle.probe.specs.Elimination.{eliminated}
use Rattle.probe.specs.Promises.{KeptFew, ProbeCounts}
use Rattle.probe.proofs.Meanings.{sound_meets, unsound_none}
use Rattle.probe.specs.Steps.{pivots}
use Rattle.probe.proofs.Pivoted.{kept_triangular}

pub kept_few : KeptFew
kept_few p rs = let kept = (eliminated p rs).rows in (triangular_leaves p (pivots kept) kept (kept_triangular p rs)).0

-- a test need be looked at only where another holds
pub where_true : (b c d : Bool) → (b ≡ true → c ≡ d) → (b && c) ≡ (b && d)
where_true true c d h = h refl
where_true false c d h = refl

pub probe_counts : ProbeCounts
probe_counts p rs =
    let kept = (eliminated p rs).rows in (
      λ e.
          count_ext (λ x l. where_true (agrees p x) (meets_all rs x) (meets_all kept x) (λ agree. sym (sound_meets p rs x agree e)))
          ∙ (triangular_leaves p (pivots kept) kept (kept_triangular p rs)).1,
      λ e. count_ext (λ x l. where_never (agrees p x) (meets_all rs x) (λ agree. unsound_none p rs x agree e)) ∙ count_none (length p),
    )
