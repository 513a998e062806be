-- `eliminate` as a whole: refused with nothing touched, or the rows done.
use Prim.Native.Nat.{ℕ, ◌≤◌, ◌<◌, min}
use mathlib.Core.Path.{◌≡◌, refl, ap, ◌∙◌}
use mathlib.Core.List.{List}
use native.Mathlib.Omega.{arith}
use borrow.Author.Tests.{ltb-false}
use lib.ListN.{length}
use lib.Dec.{ltb}
use Rattle.rows.specs.Flat.{width_of}
use Rattle.std.specs.Prelude.{Result, Ok, Err}
use Rattle.refusal.specs.Refusal.{answered, left}
use Rattle.refusal.specs.declared.Refusal.{Refusal}
use Rattle.fit.proofs.Fitting.{Fit, joined_fit}
use Rattle.rows.proofs.Adding.{earlier}
use Rattle.echelon.specs.Forward.{eliminated}
use Rattle.echelon.specs.Eliminate.{Outcome, outcome, rows_to, written, eliminate_check, eliminate_of}
use Rattle.echelon.specs.declared.Eliminated.{Eliminated}
use Rattle.echelon.specs.declared.shape.Shape.{Shape}
use Rattle.echelon.specs.Steps.{Clean, Ready}

pub fit_clean : (n m : ℕ) (ws cs : List ℕ) → Fit n m ws cs → (r : ℕ) → r < m → Clean n (width_of n) r ws cs
fit_clean n m ws cs fit r h = record {
  words = omega (arith, earlier (width_of n) m r h, fit.words);
  constants = omega (arith, fit.constants);
  atoms = fit.clean r h;
  constant = fit.small r h;
}

abbrev Answer : Type 0
Answer = Result Eliminated Refusal

ok_same : (a b : Eliminated) → ◌≡◌ {A = Answer} (Ok a) (Ok b) → a ≡ b
ok_same a b e = cc

other : (refusal : Refusal) (done : Eliminated) → ◌≡◌ {A = Answer} (Err refusal) (Ok done) → ⊥
other refusal done e = cc

same : (done : Eliminated) (ws cs ps : List ℕ) (o : Outcome Eliminated)
    → outcome {R = Answer} (Ok done) ws cs ps ≡ outcome (Ok o.result) o.rows o.constants o.basis → outcome done ws cs ps ≡ o
same done ws cs ps o e =
    let result = ok_same done o.result (ap (λ (p : Outcome Answer). p.result) e) in
    let rows : ws ≡ o.rows = ap (λ (p : Outcome Answer). p.rows) e in
    let constants : cs ≡ o.constants = ap (λ (p : Outcome Answer). p.constants) e in
    let basis : ps ≡ o.basis = ap (λ (p : Outcome Answer). p.basis) e in
    rw (result, rows, constants, basis) refl

module _ (n m : ℕ) (ws cs ps : List ℕ) (e : eliminate_check n m ws cs ps ≡ Ok tt) where
  pub fit_here : Fit n m ws cs × (min m n ≤ length ps)
  unfolding eliminate_check
  fit_here =
      let joined = joined_fit n m ws cs (ltb (length ps) (min m n)) e in
      (joined.0, ltb-false (length ps) (min m n) joined.1)

  -- what is fit is answered with what is written
  pub done_is : (done : Eliminated) (ws' cs' ps' : List ℕ) → outcome (Ok done) ws' cs' ps' ≡ eliminate_of n m ws cs ps
      → outcome done ws' cs' ps' ≡ written (width_of n) (eliminated n (rows_to n (width_of n) ws cs m)) ws cs ps
  unfolding eliminate_of
  done_is done ws' cs' ps' answer =
      let o = written (width_of n) (eliminated n (rows_to n (width_of n) ws cs m)) ws cs ps in
      same done ws' cs' ps' o
      (answer ∙ ap (λ check. outcome (answered check o.result) (left check o.rows ws) (left check o.constants cs) (left check o.basis ps)) e)

  -- and is not refused
  pub not_refused : (refusal : Refusal) (ws' cs' ps' : List ℕ) → outcome (Err refusal) ws' cs' ps' ≡ eliminate_of n m ws cs ps → ⊥
  unfolding eliminate_of
  not_refused refusal ws' cs' ps' answer =
      let o = written (width_of n) (eliminated n (rows_to n (width_of n) ws cs m)) ws cs ps in
      other refusal o.result
      (ap (λ p. p.result) (answer ∙ ap (λ check. outcome (answered check o.result) (left check o.rows ws) (left check o.constants cs) (left check o.basis ps)) e))

-- the rows as they are lent
pub ready_here : (n m : ℕ) (ws cs ps : List ℕ) (shape : Shape) → eliminate_check n m ws cs ps ≡ Ok tt → shape.atoms ≡ n → Ready shape m ws cs ps
ready_here n m ws cs ps shape fits atoms =
    let wide : shape.width ≡ width_of n = rw (← atoms) shape.wide in
    let fit = fit_here n m ws cs ps fits in
    record {
      few = fit.0.rows;
      words = rw wide fit.0.words;
      constants = fit.0.constants;
      entries = rw atoms fit.1;
      clean = rw (atoms, wide) (fit_clean n m ws cs fit.0);
    }
