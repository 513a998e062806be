-- All rows below the rank, or those that the columns of the atoms decided since mark.
use Rattle.std.proofs.Common.{◌≡◌, ◌%◌, ◌^◌, ℕ, List, length, replicate, ap, ◌∙◌, rules}
use mathlib.Core.Bool.{◌||◌}
use Rattle.words.specs.Set.{set_of, has}
use Rattle.rows.specs.Flat.{unpack}
use Rattle.snapshot.specs.declared.Ordinals.{Ordinals}
use Rattle.snapshot.specs.Touch.{marks, ordinals_of}
use Rattle.snapshot.proofs.Chosen.{all_chosen, newly_is, new_chosen}
use Rattle.snapshot.proofs.select.Goals as goal

pub returns-then-not-known : goal.returns-then-not-known
unfolding ordinals_of
returns-then-not-known c =
    let a = c.args in
    ap (λ (ws : List ℕ). let o : Ordinals = record { words = ws } in o)
    (c.keep_below.ensures ∙ all_chosen a.rank a.index.now a.region a.known c.if-not-known.true)

pub returns : goal.returns
unfolding ordinals_of
returns c =
    let a = c.args in
    let held : length a.region.held ≡ 8 = search rules in
    let cut : length a.region.cut ≡ 8 = search rules in
    let old_held : length a.known.held ≡ 8 = search rules in
    let old_cut : length a.known.cut ≡ 8 = search rules in
    let both = c.union_assign in
    let half = c.xor_assign in
    let new = c.xor_assign-2 in
    let long : length both.new.left ≡ 8 = both.auto.left ∙ held in
    let atoms = newly_is a.region a.known held cut old_held old_cut both.new.left half.new.left new.new.left
    both.ensures.words long half.ensures.words (half.auto.left ∙ long) new.ensures.words in
    let rows = c.join_columns.new.rows in
    ap (λ (ws : List ℕ). let o : Ordinals = record { words = ws } in o)
    (c.keep_below-2.ensures ∙ ap (λ (n : ℕ). unpack 64 n (set_of rows % 2 ^ a.rank)) c.join_columns.auto.rows
    ∙ new_chosen a.region a.known held cut old_held old_cut a.rank a.index.now rows (set_of new.new.left) c.if-not-known.false atoms
    (λ j h. c.join_columns.ensures j h
    ∙ ap (λ (w : ℕ). has (set_of (replicate 8 0)) j || marks (has (set_of new.new.left)) w a.index.now j a.region.atoms) c.column_width.ensures))
