-- The instances are computed.
use mathlib.Core.Path.{refl}
use mathlib.Core.List.{zip_with}
use mathlib.Core.Bool.{xor}
use native.Mathlib.Omega.{arith}
use Rattle.words.specs.Set.{packed}
use Rattle.rows.specs.Count.{count}
use Rattle.rows.specs.Flat.{row_at, atoms_of, mask_of, unpack}
use Rattle.rows.specs.Calls.{part_of}
use Rattle.hull.specs.Table.{allowed_from, allowed}
use Rattle.hull.specs.Equations.{enter, pivots_from, hull_from, hull_of}
use Rattle.fit.specs.Rows.{strays, misnames}
use Rattle.echelon.specs.Forward.{forward, eliminated}
use Rattle.echelon.specs.Eliminate.{rows_to, words_of, constants_of}
use Rattle.index.specs.Index.{index_of, incidences_of}
use Rattle.index.specs.Column.{over_rank}
use Rattle.parity.specs.Prepare.{prepare_check, prepared}
use Rattle.region.specs.Masks.{decisions_of, region_of}
use Rattle.region.specs.Calls.{decide_check, undecided_of, hold_of, cut_of}
use Rattle.snapshot.specs.Touch.{marks, listed, touched_of}
use Rattle.inspect.specs.Consequences.{reading_of, consequences}
use Rattle.inspect.specs.Batch.{applied}
use Rattle.inspect.specs.Inspect.{inspect_check, inspect_of}
use Rattle.probe.specs.Elimination.{reduced_by, kept_from}
use Rattle.probe.specs.Probe.{probe_check, probe_of}
use Rattle.ways.proofs.promises.instances.Goals as goal

pub returns : goal.returns
unfolding xor zip_with packed count row_at atoms_of mask_of unpack allowed_from allowed enter pivots_from hull_from hull_of strays misnames forward eliminated rows_to words_of constants_of index_of incidences_of prepare_check prepared part_of over_rank decisions_of region_of decide_check undecided_of hold_of cut_of marks listed touched_of reading_of consequences applied inspect_check inspect_of reduced_by kept_from probe_check probe_of
returns c = (
  (((refl, (refl, (((omega arith, omega arith, (omega arith, omega arith, tt)), omega arith, refl, refl), tt))), refl, refl, (tt, (tt, ((λ e. (refl, refl)), (tt, tt))))), refl, refl),
  (((refl, tt), refl, refl, (tt, (tt, ((λ e. let z : ⊥ = omega arith in absurd z), (tt, tt))))), refl, refl),
)
