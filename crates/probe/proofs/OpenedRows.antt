-- Basis rows over the open atoms, by their ordinals: what forward elimination tells of them is told of the basis rows.
use Prim.Native.Nat.{ℕ, ◌^◌, ◌<◌}
use mathlib.Core.Path.{◌≡◌, sym, ap, ◌∙◌}
use native.Mathlib.Omega.{arith}
use lib.ListN.{length, get_or, length-map}
use Rattle.words.specs.Set.{set_of}
use Rattle.rows.specs.Flat.{width_of, row, row_at}
use Rattle.rows.proofs.Digits.{atoms_length}
use Rattle.region.specs.Masks.{is_held}
use Rattle.parity.specs.Basis.{rows_of}
use Rattle.parity.specs.declared.basis.Basis.{Basis}
use Rattle.inspect.specs.declared.Masks.{Masks}
use Rattle.inspect.proofs.Visits.{basis_at, basis_length}
use Rattle.probe.specs.Elimination.{substituted}
use Rattle.probe.specs.Steps.{opened_row, ToldOf}
use Rattle.probe.specs.declared.open_row.OpenRow.{OpenRow}
use Rattle.probe.specs.declared.eliminate.Eliminated.{Eliminated}
use Rattle.probe.proofs.Agreed.{told_forward, agreed}
use Rattle.probe.proofs.Opening.{opened_below, opened_small, opened_is}
use Rattle.probe.proofs.OpenRows.{row_of}
use Rattle.probe.proofs.Reducing.{after}

module _ (b : Basis) (m : Masks) where
  abbrev n : ℕ
  n = b.atoms

  -- the basis row of ordinal j over the open atoms
  abbrev pub opened_at : (w : ℕ) → ℕ → OpenRow w
  opened_at w j = let s = get_or b.entries.now j 0 in opened_row m.held m.free (row (width_of n) b.rows.now s) (get_or b.constants.now s 0)

  pub opened_bounds : (w j : ℕ) → j < b.rank → (set_of (opened_at w j).words < 2 ^ n) × ((opened_at w j).constant < 2)
  opened_bounds w j h = let fit = b.named.legible j h in (opened_below fit m.held m.free, opened_small fit m.held m.free)

  -- what forward elimination tells of them all is what is told of the basis rows
  pub told_all : (w : ℕ) (e : Eliminated) → e ≡ told_forward (after n w (opened_at w) b.rank) → ToldOf b m e
  told_all w e is p masked =
      let all : length (rows_of b) ≡ b.rank = basis_length n b.rows.now b.constants.now b.entries.now b.rank b.named.entries in
      let long : length p ≡ n = sym (length-map p is_held) ∙ ap length masked.held_are ∙ atoms_length n (set_of m.held) in
      is ∙ ap (λ (k : ℕ). told_forward (after n w (opened_at w) k)) (sym all)
      ∙ agreed n p long (λ j. row_of n (opened_at w j)) (λ j. atoms_length n (set_of (opened_at w j).words)) (rows_of b) (row_at n (width_of n) b.rows.now b.constants.now 0)
      (λ j h.
      let below : j < b.rank = omega (arith, h, all) in
      opened_is (b.named.legible j below) m.held m.free p masked
      ∙ ap (substituted p) (sym (basis_at n b.rows.now b.constants.now b.entries.now b.rank j below)))
