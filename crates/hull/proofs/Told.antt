-- The ends of `propose`: an unfit table, one that allows nothing, and one that allows a pattern.
use Prim.Native.Nat.{ℕ, suc, ◌^◌, ◌≤◌, ◌<◌}
use mathlib.Core.Path.{◌≡◌, sym, ap, ◌∙◌}
use mathlib.Core.List.{List, [], ◌∷◌, map}
use mathlib.Core.Bool.{true}
use mathlib.Core.Option.{none}
use borrow.Author.Tests.{le-leb, lt-leb, eq-eqb, ne_eqb}
use lib.ListN.{length, replicate, length-map}
use lib.Dec.{eqb}
use Rattle.std.specs.Prelude.{None, Some, Ok, Err}
use Rattle.rows.specs.Flat.{mask_of}
use Rattle.refusal.specs.declared.Refusal.TheVariants.{Table}
use Rattle.hull.specs.Table.{Pattern}
use Rattle.hull.specs.Equations.{equations, through, pivots_from, rank, hull_from, hull_of}
use Rattle.hull.specs.Propose.{limit, table_words, local, padded, told, proposal_of}
use Rattle.hull.specs.Steps.{array, basis, found, listed, listing}
use Rattle.hull.specs.declared.Basis.{Basis}
use Rattle.hull.proofs.Numbers.{mask_zeros}
use Rattle.hull.proofs.Spanned.{length_found}
use Rattle.hull.proofs.Listed.{listed_rows}

module _ (k : ℕ) (ws : List ℕ) where
  pub large : limit < k → proposal_of limit k ws ≡ Err Table
  unfolding proposal_of
  large h = rw (lt-leb k limit h)

  pub long : k ≤ limit → (length ws ≡ table_words k → ⊥) → proposal_of limit k ws ≡ Err Table
  unfolding proposal_of
  long h z = rw (le-leb k limit h, ne_eqb _ _ z)

  pub fit : k ≤ limit → length ws ≡ table_words k → proposal_of limit k ws ≡ Ok (told limit (hull_of k ws))
  unfolding proposal_of
  fit h e = rw (le-leb k limit h, eq-eqb _ _ e)

pub told_none : (k : ℕ) (l : List Pattern) → None ≡ found k l → told limit (hull_from k l) ≡ told limit (hull_from 0 [])
unfolding hull_from mask_of
told_none k (a ∷ xs) e = cc
told_none k [] e =
    ap (λ m. record { equations = padded limit (record { coefficients = m; constant = true } ∷ []); count = 1; exact = true })
    (mask_zeros k)

pub told_some : (k : ℕ) (l : List Pattern) (s : Basis) → Some s ≡ found k l → told limit (hull_from k l) ≡ listing k s
unfolding hull_from
told_some k [] s e = cc
told_some k (a ∷ xs) s e =
    let ss = pivots_from a (replicate k none) xs in
    let rows = map (through a) (equations ss) in
    let exact = eqb (suc (length xs)) (2 ^ rank ss) in
    let is : basis k a ss (suc (length xs)) ≡ s = cc in
    let all : listed (mask_of a) (array k ss) k 0 ≡ map local rows =
    ap (λ n. listed (mask_of a) (array k ss) n 0) (sym (length_found k a xs)) ∙ listed_rows a _ ss in
    ap (λ n. record { equations = padded limit (map local rows); count = n; exact = exact }) (sym (length-map rows local))
    ∙ ap (λ l. record { equations = padded limit l; count = length l; exact = exact }) (sym all)
    ∙ ap (listing k) is
