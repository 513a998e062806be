-- With less room than is asked, and with it.
use Rattle.std.proofs.Common.{◌≡◌, ℕ, ◌<◌, ◌≤◌, List, length, Ok, subst, arith, rules}
use borrow.Author.Tests.{lt-ltb}
use Rattle.text.specs.Text.{Wrote}
use Rattle.answer.specs.Text.{text_of}
use Rattle.answer.specs.Answer.{room_of, outcome, answer_of}
use Rattle.answer.proofs.Written.{answered_whole}
use Rattle.answer.proofs.answer.Goals as goal

pub returns-then-out-room-clause-is : goal.returns-then-out-room-clause-is
unfolding answer_of
returns-then-out-room-clause-is c =
    let less : length c.args.out.now < room_of (length c.args.file.now) = omega (arith, c.room.ensures, c.if-out-room.true) in
    rw (lt-ltb (length c.args.out.now) (room_of (length c.args.file.now)) less)

pub returns-clause-is : goal.returns-clause-is
returns-clause-is c =
    let file = c.args.file.now in
    let t = c.new-text.result in
    let u = c.put_text.new.text in
    let enough : room_of (length file) ≤ length c.args.out.now = omega (arith, c.room.ensures, c.if-out-room.false) in
    let zero : t.at ≡ 0 = omega (arith, c.new-text.ensures.place) in
    let wrote = subst (λ (l : List ℕ). Wrote l 0 (text_of file) u.out.now u.at) c.new-text.ensures.bytes (subst (λ (p : ℕ). Wrote t.out.now p (text_of file) u.out.now u.at) zero c.put_text.ensures.wrote) in
    let done : outcome (Ok u.at) u.out.now ≡ answer_of file c.args.out.now = answered_whole file enough wrote in
    search rules
