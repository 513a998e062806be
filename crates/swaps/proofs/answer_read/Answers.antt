-- The file that is answered is what was read, which is all that was there or that there is memory for; and the bytes that are written are its text.
use Rattle.std.proofs.Common.{◌≡◌, ℕ, ◌<◌, ◌≤◌, List, [], ◌++◌, length, take, drop, None, Some, IfSome, Option, Result, Ok, inl, inr, rules, refl, sym, ap, ap₂, subst, ◌∙◌, arith, append-nil, length-take-le, take_all}
use Rattle.std.proofs.Math.Seq.{take-append_seam}
use Rattle.std.proofs.lemmas.Bool.{cases_lt, lt-leb, le-ltb}
use Rattle.std.proofs.lemmas.Result.{on_ok_weaker}
use Rattle.std.specs.Io.KnownBytes.{Appends, Consumes, IsAtEnd}
use Rattle.records.specs.Check.{file_limit, check_of}
use Rattle.answer.specs.Text.{refused_line, text_of}
use Rattle.answer.specs.Answer.{Outcome, room_of, outcome, answer_of}
use Rattle.answer.specs.declared.NoRoom.{NoRoom}
use Rattle.swaps.proofs.answer_read.Goals as goal

-- Of the bytes xs, those that memory of n bytes holds.
read_all : (xs ys buf : List ℕ) (k n : ℕ) → n ≡ length buf → k ≤ length buf → xs ≡ take k buf ++ ys → (k < length buf → ys ≡ []) → take k buf ≡ take n xs
read_all xs ys buf k n is within e all =
    let here = take k buf in
    let long = length-take-le k buf within in
    elim (cases_lt k (length buf)) [
      | inl less ↦ sym (ap (take n) (e ∙ ap (λ l. here ++ l) (all less) ∙ append-nil here) ∙ take_all n here (omega (arith, long, is, within)))
      | inr full ↦ (let same : n ≡ length here = omega (arith, long, is, within, full) in sym (ap (take n) e ∙ ap (λ m. take m (here ++ ys)) same ∙ take-append_seam here ys))
    ]

known : (old new : Option (List ℕ)) (buf : List ℕ) (k n : ℕ) → n ≡ length buf → k ≤ length buf → Consumes old new (take k buf) → (k < length buf → IsAtEnd new) → IfSome old (λ xs. take k buf ≡ take n xs)
known None new buf k n is within e all = tt
known (Some xs) None buf k n is within e all = absurd e
known (Some xs) (Some ys) buf k n is within e all = read_all xs ys buf k n is within e all

-- With room the answer counts the bytes of the text, which stand there.
module _ (file out new : List ℕ) (r : Result ℕ NoRoom) (room : room_of (length file) ≤ length out) (e : outcome r new ≡ answer_of file out) where
  said : outcome r new ≡ outcome (Ok (length (text_of file))) (text_of file ++ drop (length (text_of file)) out)
  unfolding answer_of
  said = e ∙ rw (le-ltb (length out) (room_of (length file)) room) refl

  counts : r ≡ Ok (length (text_of file))
  counts = ap (λ (o : Outcome). o.result) said

  text_is : (n : ℕ) → r ≡ Ok n → take n new ≡ text_of file
  text_is n is =
      let size : n ≡ length (text_of file) = let same = counts in cc in
      ap₂ take size (ap (λ (o : Outcome). o.out) said) ∙ take-append_seam (text_of file) (drop (length (text_of file)) out)

-- A file that fills a part of the memory asks no more room.
room_less : (k n : ℕ) (buf out : List ℕ) → n ≡ length buf → k ≤ length buf → room_of n ≤ length out → room_of (length (take k buf)) ≤ length out
room_less k n buf out is within room = rw (length-take-le k buf within) (omega (arith, is, within, room))

-- A file that is too long has one text, whatever its bytes.
too_long : (file : List ℕ) → file_limit < length file → text_of file ≡ refused_line 8 file_limit
unfolding text_of check_of
too_long file over = rw (lt-leb (length file) file_limit over) refl

-- So what stands behind the memory changes nothing.
cut : (n : ℕ) (file : List ℕ) → file_limit < n → text_of (take n file) ≡ text_of file
cut n file over = elim (cases_lt (length file) n) [
  | inl less ↦ ap text_of (take_all n file (omega (arith, less)))
  | inr more ↦ (let long : file_limit < length (take n file) = rw (length-take-le n file more) over in too_long (take n file) long ∙ sym (too_long file (omega (arith, over, more))))
]

written : (given old new : Option (List ℕ)) (file bs : List ℕ) (n : ℕ) → file_limit < n → bs ≡ text_of file → IfSome given (λ xs. file ≡ take n xs) → Appends old new bs → IfSome given (λ xs. Appends old new (text_of xs))
written None old new file bs n over text is w = tt
written (Some xs) old new file bs n over text is w = subst (Appends old new) (text ∙ ap text_of is ∙ cut n xs over) w

pub unwrap-length-requires : goal.unwrap-length-requires
unwrap-length-requires g c =
    let buf = c.read_full.new.memory in
    let k = c.in_ok-n.n in
    let same : length c.args.file.now ≡ length buf = omega (arith, c.read_full.auto.memory) in
    let is : c.answer.result ≡ Ok (length (text_of (take k buf))) = counts (take k buf) _ _ c.answer.result (room_less k _ buf _ same c.in_ok-n.ensures.within c.requires.room) c.answer.ensures.is in
    rw is (search rules)

pub returns : goal.returns
returns g c =
    let k = c.in_ok-n.n in
    let n = length c.args.file.now in
    let buf = c.read_full.new.memory in
    let read = c.in_ok-n.ensures in
    let same : n ≡ length buf = omega (arith, c.read_full.auto.memory) in
    let text = text_is (take k buf) _ _ c.answer.result (room_less k n buf _ same read.within c.requires.room) c.answer.ensures.is _ c.unwrap-length.ensures in
    on_ok_weaker c.write_all.result (written _ _ _ _ _ n c.requires.limit text (known _ _ buf k n same read.within read.read read.to_the_end)) c.write_all.ensures.bytes
