-- The instances are computed.
use mathlib.Core.Path.{refl}
use mathlib.Core.Bool.{xor}
use Rattle.words.specs.Set.{packed}
use Rattle.rows.specs.Flat.{atoms_of, mask_of, unpack}
use Rattle.hull.specs.Table.{allowed_from, allowed}
use Rattle.hull.specs.Equations.{enter, pivots_from, hull_from, hull_of}
use Rattle.echelon.specs.Eliminate.{words_of, constants_of}
use Rattle.format.specs.Bytes.{short_at, word_at, list_from}
use Rattle.format.specs.Starts.{starts_from, starts}
use Rattle.record.specs.Form.{length_check, kind_check, table_size_check, size_check}
use Rattle.record.specs.Fields.{all_below, rises, range_check, rising_check}
use Rattle.records.specs.Rows.{exact_at, rows_at}
use Rattle.records.specs.Check.{step_of, check_from, check_of}
use Rattle.load.specs.Parts.{set_named, parts_at, parts_from}
use Rattle.load.specs.Load.{load_of}
use Rattle.load.proofs.promises.instances.Goals as goal

pub returns : goal.returns
unfolding xor packed atoms_of mask_of unpack allowed_from allowed enter pivots_from hull_from hull_of words_of constants_of short_at word_at list_from starts_from starts length_check kind_check table_size_check size_check all_below rises range_check rising_check exact_at rows_at step_of check_from check_of set_named parts_at parts_from load_of
returns c = (refl, refl, refl, refl, refl)
