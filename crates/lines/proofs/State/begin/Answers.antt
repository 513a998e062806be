-- The region of no atoms, where there is none of so many.
use Rattle.std.proofs.Common.{◌≡◌, refl, sym, ap, ap₂, ◌∙◌, Result, Ok, Err, [], replicate}
use Rattle.std.specs.Result.{result_unwrap_or}
use Rattle.refusal.specs.declared.Refusal.{Refusal}
use Rattle.region.specs.Masks.{region_of}
use Rattle.region.specs.declared.Region.{Region}
use Rattle.region.proofs.Deciding.{open_region}
use Rattle.snapshot.specs.declared.Snapshot.{Snapshot}
use Rattle.lines.proofs.State.begin.Goals as goal

given : (q : Result Region Refusal) → result_unwrap_or q (record { atoms = 0; held = replicate 8 0; cut = replicate 8 0 }) ≡ result_unwrap_or q (region_of [])
given (Ok region) = refl
given (Err refusal) = sym (open_region 0)

pub returns : goal.returns
returns c =
    ap₂ (λ (r : Region) (known : Snapshot). record { region = r; known = known })
    (c.unwrap_or.ensures ∙ given c.undecided.result ∙ ap (λ (q : Result Region Refusal). result_unwrap_or q (region_of [])) c.undecided.ensures)
    c.fresh.ensures
