-- The row that an ordinal names, and the ordinal's place in a column.
use Prim.Native.Nat.{ℕ, ◌*◌, ◌/◌, ◌%◌, ◌^◌, ◌≤◌, ◌<◌, min}
use mathlib.Core.Path.{◌≡◌, sym, ap, ◌∙◌}
use mathlib.Core.List.{List}
use mathlib.Core.Bool.{Bool, cond}
use native.Mathlib.Nat.{mod-add-div'}
use native.Mathlib.Omega.{arith}
use borrow.Author.Tests.{lt-ltb}
use lib.ListN.{length, get_or}
use Rattle.std.specs.Prelude.{Some, None}
use lib.Pow.{pow-add}
use Rattle.words.specs.declared.Place.{Place}
use Rattle.words.specs.Calls.{place_of}
use Rattle.rows.specs.Flat.{width_of}
use Rattle.rows.specs.Calls.{source_of}
use Rattle.fit.proofs.Fitting.{Fit}
use Rattle.rows.proofs.Adding.{earlier}
use Rattle.parity.specs.Named.{Named}
use Rattle.rows.specs.declared.Ordinal.{Ordinal}

pub source_named : (ps : List ℕ) (j : Ordinal) → j.0 < length ps → source_of ps j ≡ Some (record { 0 = get_or ps j.0 0 })
unfolding source_of
source_named ps j h = ap (λ (t : Bool). cond t (Some (record { 0 = get_or ps j.0 0 })) None) (lt-ltb j.0 (length ps) h)

-- bit j mod 64 of word j div 64 is the ordinal's mark
pub ordinal_mark : (p : Place) (j : ℕ) → p ≡ place_of j → p.bit * 2 ^ (p.word * 64) ≡ 2 ^ j
ordinal_mark p j is =
    ap (λ (q : Place). q.bit * 2 ^ (q.word * 64)) is ∙ sym (pow-add 2 (j % 64) (j / 64 * 64)) ∙ ap (λ (n : ℕ). 2 ^ n) (mod-add-div' j 64)

-- each basis entry names a row that can be read
pub named_of : (n m rank : ℕ) (ws cs ps : List ℕ) → Fit n m ws cs → rank ≤ min m n → min m n ≤ length ps → ((j : ℕ) → j < rank → get_or ps j 0 < m) → Named n rank ws cs ps
named_of n m rank ws cs ps fit ranked entries names = record {
  ranked = omega (arith, fit.atoms);
  entries = omega arith;
  legible = λ j h.
      let row = get_or ps j 0 in
      let inside = names j h in
      record {
        atoms = fit.atoms;
        words = omega (arith, earlier (width_of n) m row inside, fit.words);
        constants = omega (arith, inside, fit.constants);
        below = fit.clean row inside;
        constant = fit.small row inside;
      };
}
