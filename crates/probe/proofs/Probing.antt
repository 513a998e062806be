-- `probe` as a whole: refused, refuted, or what elimination leaves.
use Prim.Native.Nat.{ℕ, ◌*◌, ◌≤◌, min}
use mathlib.Core.Path.{◌≡◌, sym, ap, ◌∙◌}
use mathlib.Core.List.{List}
use mathlib.Core.Bool.{Bool, true, false, cond, not, ◌||◌}
use native.Mathlib.Omega.{arith}
use borrow.Author.Tests.{ltb-false, eqb-true, not-false}
use lib.ListN.{length, take}
use lib.Dec.{ltb, eqb}
use Rattle.rows.specs.Flat.{width_of}
use Rattle.rows.specs.Decisions.{undecided}
use Rattle.std.specs.Prelude.{Result, Ok}
use Rattle.refusal.specs.Refusal.{answered}
use Rattle.refusal.specs.declared.Refusal.{Refusal}
use Rattle.fit.specs.Rows.{overfull, short, strays, misnames}
use Rattle.std.proofs.lemmas.Bool.{or_parts}
use Rattle.fit.proofs.Fitting.{fit_of, passed}
use Rattle.fit.proofs.Naming.{names_each}
use Rattle.parity.specs.Basis.{basis_of}
use Rattle.parity.specs.declared.System.{System}
use Rattle.region.specs.Masks.{decisions}
use Rattle.region.specs.Calls.{strayed, clashes, region_check}
use Rattle.region.specs.declared.Region.{Region}
use Rattle.parity.specs.Named.{Named}
use Rattle.parity.proofs.Naming.{named_of}
use Rattle.probe.specs.Elimination.{eliminated}
use Rattle.probe.specs.Probe.{probe_check, told_of, probed, probe_of}
use Rattle.probe.specs.Steps.{told}
use Rattle.probe.specs.declared.Probed.{Probed}
use Rattle.probe.specs.declared.eliminate.Eliminated.{Eliminated}

-- what a probe that no number refuses has been lent
pub record Lent (s : System) (ws cs ps : List ℕ) (r : Region) : Type 0 where
  pub few : s.atoms ≤ 512
  pub named : Named s.atoms s.rank ws cs ps
  pub ranked : s.rank ≤ s.atoms
  pub region : region_check r ≡ Ok tt
  pub same : r.atoms ≡ s.atoms

module _ (s : System) (ws cs ps : List ℕ) (r : Region) where
  pub checked_lent : probe_check s ws cs ps r ≡ Ok tt → Lent s ws cs ps r
  unfolding probe_check region_check
  checked_lent e =
      let full = passed (overfull s.atoms s.rows || ltb 512 r.atoms) _ _ e in
      let rank = passed (ltb (min s.rows s.atoms) s.rank) _ _ full.1 in
      let nine = passed (short s.atoms s.rows ws cs || ltb (length ps) (min s.rows s.atoms)) _ _ rank.1 in
      let stray = passed (strays s.atoms (width_of s.atoms) ws cs s.rows || strayed r) _ _ nine.1 in
      let clash = passed (clashes r) _ _ stray.1 in
      let name = passed (misnames s.rows ps s.rank) _ _ clash.1 in
      let count = passed (not (eqb r.atoms s.atoms)) _ _ name.1 in
      let limits = or_parts (overfull s.atoms s.rows) _ full.0 in
      let system = or_parts (ltb 512 s.atoms) (ltb 512 s.rows) limits.0 in
      let room = or_parts (short s.atoms s.rows ws cs) _ nine.0 in
      let rows = or_parts (ltb (length ws) (s.rows * width_of s.atoms)) _ room.0 in
      let strange = or_parts (strays s.atoms (width_of s.atoms) ws cs s.rows) (strayed r) stray.0 in
      record {
        few = ltb-false 512 s.atoms system.0;
        named =
            named_of s.atoms s.rows s.rank ws cs ps
            (fit_of s.atoms s.rows ws cs strange.0 (ltb-false 512 s.atoms system.0) (ltb-false 512 s.rows system.1) (ltb-false _ _ rows.0) (ltb-false _ _ rows.1))
            (ltb-false (min s.rows s.atoms) s.rank rank.0) (ltb-false _ _ room.1) (names_each s.rows ps s.rank name.0);
        ranked = omega (arith, ltb-false (min s.rows s.atoms) s.rank rank.0);
        region = simp (limits.1, strange.1, clash.0);
        same = eqb-true r.atoms s.atoms (not-false _ count.0);
      }

  -- what is fit is answered
  pub fine_is : probe_check s ws cs ps r ≡ Ok tt → (q : Probed) → q ≡ probed s ws cs ps r → ◌≡◌ {A = Result Probed Refusal} (Ok q) (probe_of s ws cs ps r)
  unfolding probe_of
  fine_is e q is = ap (λ (p : Probed). Ok p) is ∙ ap (λ check. answered check (probed s ws cs ps r)) (sym e)

  -- "The Rust ignores a refuted preparation and may say yes; here it is no, k = 0"
  abbrev by : Bool → Eliminated → ℕ → Probed
  by t left u = cond t (told_of false u 0) (told_of left.sound u left.kept)

  module _ (u : ℕ) (undecideds : u ≡ undecided (decisions r)) where
    pub refuted_probed : s.refuted ≡ true → told_of false u 0 ≡ probed s ws cs ps r
    refuted_probed t =
        ap (λ (v : ℕ). told_of false v 0) undecideds
        ∙ sym (ap (λ (b : Bool). by b (told (eliminated (decisions r) (basis_of s.atoms ws cs (take s.rank ps)))) (undecided (decisions r))) t)

    pub refuted_is : probe_check s ws cs ps r ≡ Ok tt → s.refuted ≡ true → ◌≡◌ {A = Result Probed Refusal} (Ok (told_of false u 0)) (probe_of s ws cs ps r)
    refuted_is e t = fine_is e (told_of false u 0) (refuted_probed t)

    pub sound_is : s.refuted ≡ false → (left : Eliminated) → left ≡ told (eliminated (decisions r) (basis_of s.atoms ws cs (take s.rank ps)))
        → told_of left.sound u left.kept ≡ probed s ws cs ps r
    sound_is t left kept =
        ap (λ (v : ℕ). told_of left.sound v left.kept) undecideds ∙ sym (ap (λ (b : Bool). by b left (undecided (decisions r))) t)
        ∙ ap (λ (q : Eliminated). by s.refuted q (undecided (decisions r))) kept
