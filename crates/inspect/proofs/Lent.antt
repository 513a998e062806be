-- What `check_lent` tells a call that has checks of its own among these: `more` that is lent too short, and those after.
use Prim.Native.Nat.{ℕ, ◌≤◌, min}
use mathlib.Core.Path.{◌≡◌, sym, ◌∙◌}
use mathlib.Core.List.{List}
use mathlib.Core.Bool.{Bool, true, false, cond, ◌||◌}
use lib.ListN.{length}
use lib.Dec.{ltb}
use Rattle.std.specs.Prelude.{Result, Ok, Err}
use Rattle.rows.specs.Flat.{width_of}
use Rattle.refusal.specs.declared.Refusal.{Refusal}
use Rattle.refusal.specs.declared.Refusal.TheVariants.{Short, Stray, Clash, Basis}
use Rattle.fit.specs.Rows.{overfull, short, strays, misnames}
use Rattle.fit.proofs.Fitting.{passed}
use Rattle.fit.proofs.Naming.{misnames_all}
use Rattle.parity.specs.declared.System.{System}
use Rattle.region.specs.Calls.{strayed, clashes}
use Rattle.region.specs.declared.Region.{Region}
use Rattle.inspect.specs.Lent.{lent_check}

module _ (s : System) (ws cs ps : List ℕ) (r : Region) (entries : s.rank ≤ length ps) where
  -- the checks, joined to a call's own
  abbrev pub joined : Bool → Result Unit Refusal → Result Unit Refusal
  joined more after =
      cond (short s.atoms s.rows ws cs || more) (Err Short)
      (cond (strays s.atoms (width_of s.atoms) ws cs s.rows || strayed r) (Err Stray)
      (cond (clashes r) (Err Clash) (cond (misnames s.rows ps s.rank) (Err Basis) after)))

  pub lent_passed : lent_check s ws cs ps r ≡ Ok tt → (more : Bool) → more ≡ false → (after : Result Unit Refusal) → joined more after ≡ after
  unfolding lent_check
  lent_passed e more none after =
      let full = passed (overfull s.atoms s.rows) _ _ e in
      let room = passed (short s.atoms s.rows ws cs) _ _ full.1 in
      let stray = passed (strays s.atoms (width_of s.atoms) ws cs s.rows) _ _ room.1 in
      let few = passed (ltb 512 r.atoms) _ _ stray.1 in
      let own = passed (strayed r) _ _ few.1 in
      let clash = passed (clashes r) _ _ own.1 in
      let names = (passed (misnames s.rows ps (min s.rank (length ps))) _ _ clash.1).0 in
      simp (none, room.0, stray.0, own.0, clash.0, sym (misnames_all s.rows ps s.rank entries) ∙ names)

  pub lent_failed : (e : Refusal) → lent_check s ws cs ps r ≡ Err e → overfull s.atoms s.rows ≡ false → ltb 512 r.atoms ≡ false
      → (more : Bool) → more ≡ false → (after : Result Unit Refusal) → joined more after ≡ Err e
  unfolding lent_check
  lent_failed e is full few more none after =
      rw none
      (go (short s.atoms s.rows ws cs) (strays s.atoms (width_of s.atoms) ws cs s.rows) (strayed r) (clashes r) (misnames s.rows ps s.rank)
      (simp (full, few, misnames_all s.rows ps s.rank entries) at is))
    where
      go : (room stray own clash names : Bool)
          → cond room (Err Short) (cond stray (Err Stray) (cond own (Err Stray) (cond clash (Err Clash) (cond names (Err Basis) (Ok (tt {0})))))) ≡ Err e
          → cond (room || false) (Err Short) (cond (stray || own) (Err Stray) (cond clash (Err Clash) (cond names (Err Basis) after))) ≡ Err e
      go true stray own clash names p = p
      go false true own clash names p = p
      go false false true clash names p = p
      go false false false true names p = p
      go false false false false true p = p
      go false false false false false p = cc
