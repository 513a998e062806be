-- A row more is one of `Upto`: a pivot entered, a row left empty, or the row that refutes.
use Rattle.std.proofs.Common.{rules, ◌≡◌, refl, add-one, arith}
use Rattle.std.proofs.lemmas.List.{length-replicate}
use Rattle.echelon.proofs.Directories.{none_listed, directory_start}
use Rattle.echelon.proofs.Upto.{upto_start, pivot_room, upto_pivot, upto_empty, upto_refuted, upto_end}
use Rattle.echelon.proofs.eliminate_rows.Goals as goal
use Rattle.echelon.proofs.eliminate_rows.Goals.{in-Some-pivot, in-None+else-rows-t-eq1}

pub loop-s-init : goal.loop-s-init
loop-s-init g c =
    let covers = c.requires.covers in
    (rw c.empty-directory.ensures (upto_start _ (directory_start _ _ _ _ _ (none_listed g.row.N) (simp length-replicate covers)) c.requires.fits), refl)

pub enter-requires : goal.enter-requires
enter-requires g c = (search rules, omega (arith, (c.left_as_is.ensures c.in-Some.pivot c.in-Some.is).pivot_is.atom))

pub bounds-basis-s : goal.bounds-basis-s
bounds-basis-s g c =
    let row = c.left_as_is.ensures c.in-Some.pivot c.in-Some.is in
    omega (arith, pivot_room c.loop-s.invariant.0 (omega arith) row refl c.args.m (omega arith), c.requires.ready.entries)

pub loop-s-preserved : goal.loop-s-preserved
loop-s-preserved g c =
    let so = c.loop-s.invariant.0 in
    let row = c.left_as_is.ensures c.in-Some.pivot c.in-Some.is in
    let room = pivot_room so (omega arith) row refl c.args.m (omega arith) in
    let next = upto_pivot so (omega arith) row refl (omega (arith, c.requires.ready.entries)) (omega arith) in
    (rw (c.enter.ensures, add-one c.loop-s.s) (rw (add-one c.loop-s.s) at next), omega (arith, c.loop-s.invariant.1))

pub loop-t-init : goal.loop-t-init
loop-t-init g c = (search rules, rw c.loop-s.invariant.1 c.loop-s.invariant.0)

pub bounds-basis-rank : goal.bounds-basis-rank
bounds-basis-rank g c =
    let row = rw c.loop-t.invariant.0.shape at c.reduce-row.ensures.left in
    omega (arith, pivot_room c.loop-t.invariant.1 (omega arith) row c.in-Some-pivot.is c.args.m (omega arith), c.requires.ready.entries)

pub returns-then-rows-t-eq1 : goal.returns-then-rows-t-eq1
returns-then-rows-t-eq1 g c =
    let row = rw c.loop-t.invariant.0.shape at c.reduce-row.ensures.left in
    let done = upto_refuted c.loop-t.invariant.1 (omega arith) row c.args.m (omega arith) c.in-None.is c.if-rows-t-eq1.true in
    search rules

pub loop-t-preserved : goal.loop-t-preserved
loop-t-preserved g c =
    let row = rw c.loop-t.invariant.0.shape at c.reduce-row.ensures.left in
    let so = c.loop-t.invariant.1 in (
      search rules,
      elim c.match-row.branch [
        | in-Some-pivot w ↦
            let room = pivot_room so (omega arith) row w.in-Some-pivot.is c.args.m (omega arith) in
            rw (w.basis-is, w.directory-is, w.rank-is, w.enter-in-Some-pivot.ensures, add-one c.loop-t.t)
            (upto_pivot so (omega arith) row w.in-Some-pivot.is (omega (arith, c.requires.ready.entries)) (omega arith))
        | in-None+else-rows-t-eq1 w ↦
            rw (w.basis-is, w.directory-is, w.rank-is, add-one c.loop-t.t)
            (upto_empty so (omega arith) row w.in-None.is w.if-rows-t-eq1.false)
      ],
    )

pub returns : goal.returns
returns g c =
    let all : c.loop-t.t ≡ c.args.m = omega arith in
    let done = rw all at (upto_end c.loop-t.invariant.1 (rw all c.requires.ready.words) (rw all c.requires.ready.constants)) in
    search rules
