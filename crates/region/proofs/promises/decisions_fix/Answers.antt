-- `region_back` of a region with its eight words.
use Rattle.region.proofs.Masked.{region_back}
use Rattle.region.proofs.promises.decisions_fix.Goals as goal

pub returns : goal.returns
returns c r held_length cut_length held_fits cut_fits =
    region_back r (record { held_length = held_length; cut_length = cut_length; held_fits = held_fits; cut_fits = cut_fits })
