-- the split words, with the rest of the earlier row added to that of the later one
use Rattle.std.proofs.Common.{◌≡◌, ◌+◌, ◌-◌, ◌*◌, rules, arith}
use Rattle.std.proofs.Math.Seq.{drop-drop}
use Rattle.rows.proofs.Adding.{added_split}
use Rattle.echelon.specs.Steps.{put}
use Rattle.echelon.proofs.Replaced.{added_none}
use Rattle.echelon.proofs.reduce.add_words.Goals as goal

pub returns-then-i-width : goal.returns-then-i-width
returns-then-i-width c =
    let a = c.args in
    let all : a.i ≡ a.width = omega arith in
    rw all (added_none a.width a.target.0 a.rows.now c.requires.within a.source.0)

pub returns : goal.returns
unfolding put
returns c =
    let a = c.args in
    let split = c.split_at_mut-earlier in
    let y = a.source.0 * a.width in
    let q = split.result.1.now in
    let end : a.i + (a.width - a.i) ≡ a.width = omega arith in
    rw (drop-drop (a.width - a.i) a.i q, end)
    (added_split a.i (a.width - a.i) a.width a.target.0 a.source.0 (y + a.i) (y + a.width - (y + a.i)) a.rows.now
    end (omega arith) (omega arith) c.requires.earlier c.requires.within split.ensures.front split.ensures.back (search rules))
