-- The masks of a region: what is left of all atoms are the open ones.
use Prim.Native.Nat.{ℕ, ◌-◌, ◌^◌}
use mathlib.Core.Path.{◌≡◌, refl, sym, ap, ◌∙◌}
use lib.ListN.{length, length-replicate}
use Rattle.std.specs.Int.Bits.{bit_xor}
use Rattle.words.specs.Calls.{merged}
use Rattle.words.specs.Set.{set_of}
use Rattle.rows.specs.Flat.{atoms_of}
use Rattle.region.proofs.Masked.{map_held, fitting}
use Rattle.inspect.proofs.Opens.{map_open}
use borrow.Author.Rules.{rules}
use Rattle.inspect.proofs.MasksFromRegion.from.Goals as goal

pub returns : goal.returns
returns c =
    let r = c.args.region in
    let held_words : length r.held ≡ 8 = search rules in
    let cut_words : length r.cut ≡ 8 = search rules in
    let once_words : length c.xor_assign.new.left ≡ 8 = c.xor_assign.auto.left ∙ length-replicate {A = ℕ} 8 (2 ^ 64 - 1) in (
      refl,
      c.xor_assign-2.ensures.words ∙ ap (λ l. merged bit_xor l r.cut) c.xor_assign.ensures.words,
      λ fit. record {
        held_are = map_held r;
        open_are =
            map_open r (fitting r fit) held_words cut_words c.xor_assign.new.left c.xor_assign.ensures.words once_words
            ∙ ap (λ l. atoms_of r.atoms (set_of l)) (sym c.xor_assign-2.ensures.words);
      },
    )
