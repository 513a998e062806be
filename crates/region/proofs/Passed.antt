-- What a region has by its type: eight words for each mask, each word below 2^64.
use Prim.Native.Nat.{ℕ, zero, suc, ◌^◌, ◌<◌}
use mathlib.Core.List.{List, [], ◌∷◌}
use lib.ListN.{get_or}
use lib.Pow.{pow_pos}
use mir.Val.{Val}
use denote.Array.{each}
use denote.Plain.{UInt}
use denote.Shadow.{shadow}
use denote.Struct.Declared.{row}
use mir.Syntax.{w64}
use Rattle.region.specs.declared.Region.{Region}
use Rattle.region.specs.contracts.Region.{the_type}
use Rattle.region.proofs.Masked.{Eight}

each_fits : (ws : List ℕ) (vs : List Val) → shadow (each ℕ (UInt w64).own_val ws vs) → (i : ℕ) → get_or ws i 0 < 2 ^ 64
each_fits [] vs s i = pow_pos 64
each_fits (w ∷ ws) [] s i = absurd s
each_fits (w ∷ ws) (v ∷ vs) s zero = s.0.1
each_fits (w ∷ ws) (v ∷ vs) s (suc i) = each_fits ws vs s.1 i

pub eight_of : (r : Region) (vs : List Val) → shadow ((row the_type).own_val r vs) → Eight r
eight_of r vs s =
    let held = s.1.1.1.0 in
    let cut = s.1.1.1.1.0 in
    record {
      held_length = held.1.0.1;
      cut_length = cut.1.0.1;
      held_fits = each_fits r.held held.0 held.1.1;
      cut_fits = each_fits r.cut cut.0 cut.1.1;
    }
