-- What is handed in as rows: the parts are met exactly when the rows that preparation is handed for them are, whatever their order.
use Prim.Native.Nat.{ℕ}
use mathlib.Core.Path.{◌≡◌, refl, sym, ap, ap₂, ◌∙◌}
use mathlib.Core.List.{List, [], ◌∷◌, reverse, reverse-cons}
use mathlib.Core.Bool.{◌&&◌, and-true, and_comm}
use Rattle.rows.specs.Row.{Row, Assignment, meets, meets_all}
use Rattle.echelon.proofs.Solutions.{meets_append}
use Rattle.embed.proofs.Embedded.{table_is_rows}
use Rattle.parity.specs.Prepare.{Lent}
use Rattle.parity.specs.Promises.{handed_in}
use Rattle.embed.specs.Parts.{Part, row, table, FitPart, FitParts, rows_of, all_rows, meets_part, meets_parts}

meets_reverse : (rs : List Row) (x : Assignment) → meets_all (reverse rs) x ≡ meets_all rs x
meets_reverse [] x = refl
meets_reverse (r ∷ rs) x =
    ap (λ (l : List Row). meets_all l x) (reverse-cons r rs) ∙ meets_append (reverse rs) (r ∷ []) x
    ∙ ap₂ ◌&&◌ (meets_reverse rs x) (and-true (meets r x)) ∙ and_comm (meets_all rs x) (meets r x)

part_met : (n : ℕ) (q : Part) (x : Assignment) → FitPart n q → meets_part q x ≡ meets_all (rows_of n q) x
part_met n (row r) x fit = sym (and-true (meets r x))
part_met n (table names words) x fit = table_is_rows n _ names words x refl fit.0 fit.3

parts_met : (n : ℕ) (qs : List Part) (x : Assignment) → FitParts n qs → meets_parts qs x ≡ meets_all (all_rows n qs) x
parts_met n [] x fit = refl
parts_met n (q ∷ qs) x fit =
    ap₂ ◌&&◌ (part_met n q x fit.0) (parts_met n qs x fit.1) ∙ sym (meets_append (rows_of n q) (all_rows n qs) x)

pub handed_met : (n m : ℕ) (parts : List Part) (l : Lent) (x : Assignment) → FitParts n parts → handed_in n m l ≡ reverse (all_rows n parts)
    → meets_parts parts x ≡ meets_all (handed_in n m l) x
handed_met n m parts l x fit handed =
    parts_met n parts x fit ∙ sym (meets_reverse (all_rows n parts) x) ∙ ap (λ (rs : List Row). meets_all rs x) (sym handed)
