-- The open atoms of a region in words: all atoms, XOR held, XOR cut.
use Prim.Native.Nat.{ℕ, ◌-◌, ◌^◌, ◌<◌}
use mathlib.Core.Path.{◌≡◌, refl, sym, ap, ◌∙◌}
use mathlib.Core.List.{List, map}
use mathlib.Core.Bool.{Bool, true, false, xor, ◌&&◌, true≢false}
use native.Mathlib.Omega.{arith}
use lib.ListN.{length, length-replicate}
use lib.Bits.{bit_xor}
use Rattle.words.specs.Set.{set_of, has}
use Rattle.words.specs.Calls.{merged}
use Rattle.words.proofs.Meaning.{merge_joins}
use Rattle.rows.specs.Flat.{atoms_of}
use Rattle.region.specs.Masks.{decision, decisions, is_open}
use Rattle.region.specs.declared.Region.{Region}
use Rattle.region.proofs.Masked.{Fitting, map_atoms}
use Rattle.snapshot.proofs.Full.{full, full_has}

open_of : (h c : Bool) → (h && c) ≡ false → is_open (decision h c) ≡ xor (xor true h) c
unfolding xor
open_of true true e = absurd (true≢false e)
open_of true false e = refl
open_of false true e = refl
open_of false false e = refl

module _ (r : Region) (fit : Fitting r) (held : length r.held ≡ 8) (cut : length r.cut ≡ 8) (m : List ℕ) (is : m ≡ merged bit_xor full r.held) (kept : length m ≡ 8) where
  free_has : (a : ℕ) → a < r.atoms → has (set_of (merged bit_xor m r.cut)) a ≡ is_open (decision (has (set_of r.held) a) (has (set_of r.cut) a))
  free_has a h =
      let below : a < 512 = omega (arith, fit.few) in
      let first : has (set_of m) a ≡ xor true (has (set_of r.held) a) =
      ap (λ (l : List ℕ). has (set_of l) a) is ∙ (merge_joins full r.held a (length-replicate {A = ℕ} 8 (2 ^ 64 - 1) ∙ sym held)).1
      ∙ ap (λ (t : Bool). xor t (has (set_of r.held) a)) (full_has a below) in
      (merge_joins m r.cut a (kept ∙ sym cut)).1 ∙ ap (λ (t : Bool). xor t (has (set_of r.cut) a)) first
      ∙ sym (open_of (has (set_of r.held) a) (has (set_of r.cut) a) (fit.apart a))

  pub map_open : map is_open (decisions r) ≡ atoms_of r.atoms (set_of (merged bit_xor m r.cut))
  map_open = map_atoms r is_open (set_of (merged bit_xor m r.cut)) (λ a h. sym (free_has a h))
