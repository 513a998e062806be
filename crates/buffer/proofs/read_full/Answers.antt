-- What a turn reads stands behind what stood there before.
use Rattle.std.proofs.Common.{◌≡◌, ℕ, ◌+◌, ◌-◌, ◌≤◌, List, ◌++◌, rules, length, take, sym, ap, ◌∙◌, subst, length-take-le}
use Rattle.std.proofs.Math.Seq.{take-append-add}
use Rattle.std.proofs.lemmas.List.{take-append-le}
use Rattle.std.specs.Io.KnownBytes.{Consumes}
use Rattle.std.proofs.KnownBytes.{Consumes-trans}
use borrow.Rule.Slice.PartMut.{put_mid, post_of}
use Rattle.buffer.proofs.read_full.Goals as goal

take_more : (a k m : ℕ) (xs ys : List ℕ) → a ≤ length xs → m ≤ length ys → take (a + m) (put_mid a k xs ys) ≡ take a xs ++ take m ys
take_more a k m xs ys within fits =
    let front = take a xs in
    let behind = ys ++ post_of a k xs in
    ap (λ n. take (n + m) (front ++ behind)) (sym (length-take-le a xs within))
    ∙ take-append-add front behind m
    ∙ ap (λ l. front ++ l) (take-append-le m ys (post_of a k xs) fits)

pub loop-taken-preserved : goal.loop-taken-preserved
loop-taken-preserved g c =
    let at = c.loop-taken.taken in
    let memory = c.loop-taken.memory in
    let more = take_more at (length memory - at) c.in_ok-n.n memory c.read.new.buf c.loop-taken.invariant.within c.in_ok-n.ensures.bound.0 in
    record {
      within = search rules;
      read = subst (Consumes _ _) (sym more) (Consumes-trans _ _ _ _ _ c.loop-taken.invariant.read c.in_ok-n.ensures.bytes.0);
    }
