use Rattle.std.proofs.Common.{ℕ, List, ◌∙◌, ap, ap₂, get_or, set, ◌%◌, ◌^◌, arith, ◌≡◌, length}
use Rattle.snapshot.proofs.Keeping.{kept_to, kept_next, kept_all}
use Rattle.snapshot.proofs.keep_below.Goals as goal

pub loop-word-preserved : goal.loop-word-preserved
loop-word-preserved c =
    let i = c.loop-word.word-index in
    record {
      left = omega (arith, c.loop-word.invariant.left, c.saturating_sub-left.ensures);
      rows =
          ap (set c.loop-word.rows i) c.first_bits.ensures
          ∙ ap₂ (λ (w : List ℕ) (n : ℕ). set w i (get_or w i 0 % 2 ^ n)) c.loop-word.invariant.rows c.loop-word.invariant.left
          ∙ kept_next 64 c.args.rows.now i c.args.rank (omega arith);
      fits = c.loop-word.invariant.fits;
    }

pub returns : goal.returns
returns c =
    let done : c.loop-word.word-index ≡ length c.args.rows.now = omega arith in
    c.loop-word.invariant.rows ∙ ap (λ (n : ℕ). kept_to 64 n c.args.rank c.args.rows.now) done
    ∙ kept_all 64 c.args.rows.now c.args.rank c.loop-word.invariant.fits
