-- Over what preparation filled and a fit region of as many atoms the probe is not refused.
use Prim.Native.Nat.{ℕ, ◌*◌, ◌≤◌, ◌<◌, min}
use mathlib.Core.Path.{◌≡◌, ap}
use mathlib.Core.List.{List}
use borrow.Author.Tests.{le-ltb, eq-eqb}
use lib.ListN.{length, get_or}
use lib.Dec.{ltb}
use Rattle.rows.specs.Flat.{width_of}
use Rattle.std.specs.Prelude.{Ok}
use Rattle.refusal.specs.Refusal.{answered}
use Rattle.fit.proofs.Fitting.{Fit, strays_none, passed}
use Rattle.fit.proofs.Naming.{names_none}
use Rattle.parity.specs.Prepare.{Lent}
use Rattle.parity.specs.Promises.{Fits}
use Rattle.parity.specs.declared.System.{System}
use Rattle.parity.specs.declared.Prepared.{Prepared}
use Rattle.region.specs.Calls.{strayed, clashes, region_check}
use Rattle.region.specs.declared.Region.{Region}
use Rattle.inspect.proofs.Runs.{lent_fit}
use Rattle.probe.specs.Probe.{probe_check, probed, probe_of}

module _ (s : System) (ws cs ps : List ℕ) (r : Region) where
  fits_checked : Fit s.atoms s.rows ws cs → s.rank ≤ min s.rows s.atoms → min s.rows s.atoms ≤ length ps
      → ((j : ℕ) → j < s.rank → get_or ps j 0 < s.rows) → region_check r ≡ Ok tt → r.atoms ≡ s.atoms → probe_check s ws cs ps r ≡ Ok tt
  unfolding probe_check region_check
  fits_checked fit ranked entries named region same =
      let full = passed (ltb 512 r.atoms) _ _ region in
      let stray = passed (strayed r) _ _ full.1 in
      let clash = passed (clashes r) _ _ stray.1 in
      simp (
        le-ltb 512 s.atoms fit.atoms,
        le-ltb 512 s.rows fit.rows,
        full.0,
        le-ltb (min s.rows s.atoms) s.rank ranked,
        le-ltb (length ws) (s.rows * width_of s.atoms) fit.words,
        le-ltb (length cs) s.rows fit.constants,
        le-ltb (length ps) (min s.rows s.atoms) entries,
        strays_none s.atoms (width_of s.atoms) ws cs s.rows (λ j h. (fit.clean j h, fit.small j h)),
        stray.0,
        clash.0,
        names_none s.rows ps s.rank named,
        eq-eqb r.atoms s.atoms same,
      )

module _ (n m : ℕ) (q : Prepared × Lent) (f : Fits n m q) (r : Region) (fit : region_check r ≡ Ok tt) (atoms : r.atoms ≡ n) where
  prepared_fit : probe_check q.0.system q.1.rows q.1.constants q.1.basis r ≡ Ok tt
  prepared_fit =
      fits_checked q.0.system q.1.rows q.1.constants q.1.basis r (rw (f.atoms, f.rows) (lent_fit n m q f))
      (rw (f.atoms, f.rows) f.ranked) (rw (f.atoms, f.rows) f.entries) (λ j h. rw f.rows (f.named j h)) fit
      (rw f.atoms atoms)

  pub prepared_probed : probe_of q.0.system q.1.rows q.1.constants q.1.basis r ≡ Ok (probed q.0.system q.1.rows q.1.constants q.1.basis r)
  unfolding probe_of
  prepared_probed = ap (λ check. answered check (probed q.0.system q.1.rows q.1.constants q.1.basis r)) prepared_fit
