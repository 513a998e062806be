-- The worked example is computed.
use mathlib.Core.Path.{refl}
use mathlib.Core.List.{zip_with}
use mathlib.Core.Bool.{xor}
use Rattle.words.specs.Set.{packed}
use Rattle.rows.specs.Flat.{row_at, atoms_of, mask_of, unpack}
use Rattle.rows.specs.Calls.{part_of}
use Rattle.hull.specs.Table.{allowed_from, allowed}
use Rattle.hull.specs.Equations.{enter, pivots_from, hull_from, hull_of}
use Rattle.fit.specs.Rows.{strays, misnames}
use Rattle.echelon.specs.Forward.{forward, eliminated}
use Rattle.echelon.specs.Eliminate.{rows_to, words_of, constants_of}
use Rattle.index.specs.Index.{index_of, incidences_of}
use Rattle.index.specs.Column.{over_rank}
use Rattle.parity.specs.Prepare.{prepared}
use Rattle.region.specs.Masks.{decisions_of, region_of}
use Rattle.region.specs.Calls.{decide_check, undecided_of, hold_of, cut_of}
use Rattle.snapshot.specs.Touch.{marks, listed, touched_of}
use Rattle.inspect.specs.Consequences.{reading_of, consequences}
use Rattle.inspect.specs.Batch.{applied}
use Rattle.inspect.specs.Inspect.{inspect_check, inspect_of}
use Rattle.probe.specs.Elimination.{reduced_by, kept_from}
use Rattle.probe.specs.Probe.{probe_check, probe_of}
use Rattle.format.specs.Bytes.{short_at, word_at, list_from}
use Rattle.format.specs.Starts.{starts_from, starts}
use Rattle.record.specs.Form.{length_check, kind_check, table_size_check, size_check}
use Rattle.record.specs.Fields.{all_below, rises, range_check, rising_check}
use Rattle.records.specs.Rows.{exact_at, rows_at}
use Rattle.records.specs.Check.{step_of, check_from, check_of}
use Rattle.load.specs.Parts.{set_named, parts_at, parts_from}
use Rattle.load.specs.Load.{load_of}
use Rattle.text.specs.Text.{digits_from, decimal_of}
use Rattle.lines.specs.Lines.{calls_at, line_at, lines_from}
use Rattle.answer.specs.Text.{answers_of, text_of}
use Rattle.answer.proofs.promises.worked.Goals as goal

pub returns : goal.returns
unfolding zip_with xor packed row_at atoms_of mask_of unpack part_of allowed_from allowed enter pivots_from hull_from hull_of strays misnames forward eliminated rows_to words_of constants_of index_of incidences_of over_rank prepared decisions_of region_of decide_check undecided_of hold_of cut_of marks listed touched_of reading_of consequences applied inspect_check inspect_of reduced_by kept_from probe_check probe_of short_at word_at list_from starts_from starts length_check kind_check table_size_check size_check all_below rises range_check rising_check exact_at rows_at step_of check_from check_of set_named parts_at parts_from load_of digits_from decimal_of calls_at line_at lines_from answers_of text_of
returns c = refl
