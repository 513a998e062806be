-- What any list of calls leads to: a region that only gained decisions, and knowledge that is fresh or an earlier region of the same run.
use Prim.Native.Nat.{ℕ, ◌≤◌, ◌<◌}
use mathlib.Core.Path.{◌≡◌, refl, sym, ap, ap₂, ◌∙◌, subst}
use mathlib.Core.List.{List, [], ◌∷◌, ◌++◌}
use mathlib.Core.Bool.{Bool, true, false, not, ◌&&◌, false≢true}
use mathlib.Core.Option.{Option, none, some}
use native.Mathlib.Omega.{arith}
use borrow.Author.Tests.{ltb-true, ltb-false}
use lib.ListN.{length, get_or, replicate, length-replicate}
use lib.Dec.{ltb}
use Rattle.std.specs.Result.{result_unwrap_or}
use Rattle.words.specs.Set.{set_of, subset}
use Rattle.words.proofs.Meaning.{subset_holds}
use Rattle.rows.specs.Decisions.{Decisions}
use Rattle.rows.specs.declared.Atom.{Atom}
use Rattle.std.specs.Prelude.{Result, Ok}
use Rattle.refusal.specs.Refusal.{checked, answered, number_in}
use Rattle.refusal.specs.declared.Refusal.{Refusal}
use Rattle.refusal.specs.declared.Refusal.TheVariants.{Overfull}
use Rattle.fit.proofs.Fitting.{Fit, joined_fit, joined_none}
use Rattle.parity.specs.Prepare.{Lent, prepared}
use Rattle.parity.specs.Promises.{Fits}
use Rattle.parity.specs.declared.System.{System}
use Rattle.parity.specs.declared.Prepared.{Prepared}
use Rattle.parity.proofs.Refit.{prepare_fits}
use Rattle.region.specs.Masks.{decisions, region_of, is_held, is_cut}
use Rattle.region.specs.Calls.{region_check, undecided_of, hold_of, cut_of, decide_of}
use Rattle.region.specs.Promises.{deciding}
use Rattle.region.specs.declared.Region.{Region}
use Rattle.region.specs.declared.Answer.{Answer}
use Rattle.region.proofs.Masked.{decisions_back, region_fits, held_has, cut_has, decide_known}
use Rattle.region.proofs.Standing.{Gains, decide_later}
use Rattle.snapshot.specs.Knowledge.{fresh, published, missing}
use Rattle.snapshot.specs.declared.Snapshot.{Snapshot}
use Rattle.inspect.specs.Batch.{begun}
use Rattle.inspect.specs.Inspect.{Filled, region_in, known_in, found, inspected, inspect_check, inspect_of}
use Rattle.inspect.specs.Run.{Call, hold, cut, inspect, State, begins, step, after}
use Rattle.inspect.specs.Promises.{filled_by, RegionsFit, KnowledgeAncestor, NeverRefused}
use Rattle.inspect.proofs.Fits.{fits_checked}
use Rattle.inspect.proofs.Batches.{gains}
use Rattle.inspect.proofs.Inspections.{grown, grown_length, leaves}

-- ---- knowledge that is an ancestor of decisions

pub data Ancestor (p : Decisions) : Snapshot → Type 0 where
  unknown : Ancestor p fresh
  earlier : (q : Decisions) → length q ≡ length p → Gains q p → Ancestor p (published (region_of q))

ancestor_gains : (p q : Decisions) → length q ≡ length p → Gains p q → (known : Snapshot) → Ancestor p known → Ancestor q known
ancestor_gains p q long gains known unknown = unknown
ancestor_gains p q long gains known (earlier o same older) = earlier o (same ∙ sym long) (λ a v h. gains a v (older a v h))

held_some : (d : Option Bool) → is_held d ≡ true → d ≡ some true
held_some none e = absurd (false≢true e)
held_some (some b) e = ap some e

cut_some : (d : Option Bool) → is_cut d ≡ true → d ≡ some false
cut_some none e = absurd (false≢true e)
cut_some (some true) e = absurd (false≢true e)
cut_some (some false) e = refl

module _ (p q : Decisions) (few : length p ≤ 512) (fewer : length q ≤ 512) (gains : Gains q p) where
  held_subset : subset (set_of (region_of q).held) (set_of (region_of p).held) ≡ true
  held_subset =
      (subset_holds _ _).1 (λ a h. held_has p few a ∙ ap is_held (gains a true (held_some (get_or q a none) (sym (held_has q fewer a) ∙ h))))

  cut_subset : subset (set_of (region_of q).cut) (set_of (region_of p).cut) ≡ true
  cut_subset = (subset_holds _ _).1 (λ a h. cut_has p few a ∙ ap is_cut (gains a false (cut_some (get_or q a none) (sym (cut_has q fewer a) ∙ h))))

pub none_missing : (p : Decisions) → length p ≤ 512 → (known : Snapshot) → Ancestor p known → missing (region_of p) known ≡ false
none_missing p few known unknown = refl
none_missing p few known (earlier q same gains) =
    let fewer : length q ≤ 512 = omega arith in
    ap not (ap₂ ◌&&◌ (held_subset p q few fewer gains) (cut_subset p q few fewer gains))

region_atoms : (p : Decisions) → (region_of p).atoms ≡ length p
unfolding region_of
region_atoms p = refl

-- ---- what a run leads to from decisions p

pub record Reached (p : Decisions) (r : Region) (known : Snapshot) : Type 0 where
  pub now : Decisions
  pub long : length now ≡ length p
  pub gains : Gains p now
  pub is : r ≡ region_of now
  pub knows : Ancestor now known

stays : (p : Decisions) (known : Snapshot) → Ancestor p known → Reached p (region_of p) known
stays p known k = record { now = p; long = refl; gains = λ a v h. h; is = refl; knows = k }

decide_reached : (p : Decisions) → length p ≤ 512 → (known : Snapshot) → Ancestor p known → (v : Bool) (a : Atom) → Reached p (deciding v (region_of p) a).1 known
decide_reached p few known k v a =
    let l = decide_later v p few a in
    record { now = l.now; long = l.long; gains = l.gains; is = l.is; knows = ancestor_gains p l.now l.long l.gains known k }

inspect_reached : (p : Decisions) → length p ≤ 512 → (known : Snapshot) → Ancestor p known → (s : System) (l : Filled) (atoms values : List ℕ)
    → let o = (inspect_of s l (region_of p) known atoms values).result in Reached p (region_in (region_of p) o) (known_in known o)
inspect_reached p few known k s l atoms values =
    let long = grown_length s l (region_of p) known ∙ region_atoms p in
    let more : Gains p (grown s l (region_of p) known) = λ a v e.
    gains (begun (decisions (region_of p))) (found s l (region_of p) known).forced a v (ap (λ (q : Decisions). get_or q a none) (decisions_back p few) ∙ e) in
    leaves s l (region_of p) known atoms values (Reached p) (stays p known k) (λ e.
    record { now = grown s l (region_of p) known; long = long; gains = more; is = refl; knows = earlier p (sym long) more })

-- ---- calls one after another

step_reached : (p : Decisions) → length p ≤ 512 → (st : State) → st.region ≡ region_of p → Ancestor p st.known → (c : Call)
    → Reached p (step st c).region (step st c).known
step_reached p few st is k c = subst (λ (r : Region). Reached p (step (at r) c).region (step (at r) c).known) (sym is) (go c)
  where
    at : Region → State
    at r = record { region = r; known = st.known }

    go : (c : Call) → Reached p (step (at (region_of p)) c).region (step (at (region_of p)) c).known
    go (hold a) = decide_reached p few st.known k true a
    go (cut a) = decide_reached p few st.known k false a
    go (inspect s l atoms values) = inspect_reached p few st.known k s l atoms values

pub after_reached : (p : Decisions) → length p ≤ 512 → (st : State) → st.region ≡ region_of p → Ancestor p st.known → (cs : List Call)
    → Reached p (after st cs).region (after st cs).known
after_reached p few st is k [] = record { now = p; long = refl; gains = λ a v h. h; is = is; knows = k }
after_reached p few st is k (c ∷ cs) =
    let one = step_reached p few st is k c in
    let rest = after_reached one.now (omega arith) (step st c) one.is one.knows cs in
    record {
      now = rest.now;
      long = rest.long ∙ one.long;
      gains = λ a v h. rest.gains a v (one.gains a v h);
      is = rest.is;
      knows = rest.knows;
    }

pub after_append : (st : State) (cs ds : List Call) → after st (cs ++ ds) ≡ after (after st cs) ds
after_append st [] ds = refl
after_append st (c ∷ cs) ds = after_append (step st c) cs ds

-- ---- from the start

pub record Start (n : ℕ) : Type 0 where
  pub now : Decisions
  pub few : length now ≤ 512
  pub long : n ≤ 512 → length now ≡ n
  pub is : (begins n).region ≡ region_of now

pub starts : (n : ℕ) → Start n
unfolding undecided_of
starts n = go (ltb 512 n) refl
  where
    at : Bool → Region
    at t = result_unwrap_or (answered (checked ((Overfull, t) ∷ [])) (region_of (replicate n none))) (region_of [])

    go : (t : Bool) → ltb 512 n ≡ t → Start n
    go true e = record {
      now = [];
      few = omega arith;
      long = λ h. let over = ltb-true 512 n e in let z : ⊥ = omega arith in absurd z;
      is = ap at e;
    }
    go false e = record {
      now = replicate n none;
      few = omega (arith, length-replicate {A = Option Bool} n none, ltb-false 512 n e);
      long = λ h. length-replicate n none;
      is = ap at e;
    }

module _ (n : ℕ) (cs : List Call) where
  pub reached : Reached (starts n).now (after (begins n) cs).region (after (begins n) cs).known
  reached = after_reached (starts n).now (starts n).few (begins n) (starts n).is unknown cs

  reached_few : length reached.now ≤ 512
  reached_few = omega (arith, reached.long, (starts n).few)

known_count : (p : Decisions) (known : Snapshot) → Ancestor p known → known.initialized ≡ true → known.atoms ≡ (region_of p).atoms
unfolding region_of
known_count p known unknown e = absurd (false≢true e)
known_count p known (earlier q long gains) e = long

pub regions_fit : RegionsFit
regions_fit n cs =
    let then = reached n cs in (
      ap region_check then.is ∙ region_fits then.now (reached_few n cs),
      λ e. known_count then.now (after (begins n) cs).known then.knows e ∙ sym (ap (λ (r : Region). r.atoms) then.is),
    )

pub knowledge_ancestor : KnowledgeAncestor
knowledge_ancestor n cs ds =
    let then = reached n cs in
    let known = (after (begins n) cs).known in
    let later = after_reached then.now (reached_few n cs) (after (begins n) cs) then.is then.knows ds in
    ap (λ (st : State). missing st.region known) (after_append (begins n) cs ds) ∙ ap (λ (r : Region). missing r known) later.is
    ∙ none_missing later.now (omega (arith, later.long, reached_few n cs)) known
    (ancestor_gains then.now later.now later.long later.gains known then.knows)

-- ---- what is not refused

decide_taken : (v : Bool) (p : Decisions) → length p ≤ 512 → (a : Atom) → a.0 < length p → number_in (decide_of v (region_of p) a).0 ≡ 0
decide_taken v p few a lt = ap (λ (o : Result Answer Refusal × Region). number_in o.0) (decide_known v p few a lt)

-- an inspection whose checks pass is not refused
pub inspect_taken : (s : System) (l : Filled) (r : Region) (known : Snapshot) (atoms values : List ℕ)
    → inspect_check s l r known (length atoms) (length values) ≡ Ok tt → number_in (inspect_of s l r known atoms values).result ≡ 0
unfolding inspect_of
inspect_taken s l r known atoms values e = ap (λ check. number_in (answered check (inspected s l r known atoms values).result)) e

ancestor_atoms : (p : Decisions) (known : Snapshot) → Ancestor p known → known.initialized ≡ true → known.atoms ≡ length p
unfolding region_of
ancestor_atoms p known unknown set = absurd (false≢true set)
ancestor_atoms p known (earlier q same gains) set = same

pub lent_fit : (n m : ℕ) (q : Prepared × Lent) → Fits n m q → Fit n m q.1.rows q.1.constants
lent_fit n m q f =
    let ws = q.1.rows in
    let cs = q.1.constants in
    (joined_fit n m ws cs false (sym (joined_none n m ws cs) ∙ f.fit)).0

prepared_fit : (n m : ℕ) (q : Prepared × Lent) → Fits n m q → (p : Decisions) → length p ≡ n → (known : Snapshot) → Ancestor p known
    → (atoms values : ℕ) → q.0.system.rank ≤ atoms → q.0.system.rank ≤ values
    → inspect_check q.0.system (filled_by q.1) (region_of p) known atoms values ≡ Ok tt
prepared_fit n m q f p long known k atoms values room room' =
    let fit = lent_fit n m q f in
    let few : length p ≤ 512 = omega (arith, fit.atoms) in
    fits_checked q.0.system (filled_by q.1) (region_of p) known atoms values (record {
      lent = rw (f.atoms, f.rows) fit;
      ranked = rw (f.atoms, f.rows) f.ranked;
      entries = rw (f.atoms, f.rows) f.entries;
      columns = rw f.atoms f.columns;
      atoms_room = room;
      values_room = room';
      region = region_fits p few;
      named = λ j h. rw f.rows (f.named j h);
      below_rank = λ sound. rw f.atoms (f.bits sound);
      same_atoms = region_atoms p ∙ long ∙ sym f.atoms;
      known_atoms = λ set. ancestor_atoms p known k set ∙ sym (region_atoms p);
      ancestor = none_missing p few known k;
    })

pub never_refused : NeverRefused
unfolding hold_of cut_of
never_refused n m l cs fit =
    let p = prepared n m l in
    let fits = prepare_fits n m l fit in
    let then = reached n cs in
    let long : length then.now ≡ n = then.long ∙ (starts n).long (lent_fit n m p fits).atoms in
    let known = (after (begins n) cs).known in (
      (λ a lt.
          let taken : (v : Bool) → number_in (decide_of v (after (begins n) cs).region a).0 ≡ 0 =
          λ v. ap (λ (r : Region). number_in (decide_of v r a).0) then.is ∙ decide_taken v then.now (reached_few n cs) a (omega arith) in
          (taken true, taken false)),
      (λ atoms values room room'.
          inspect_taken p.0.system (filled_by p.1) (after (begins n) cs).region known atoms values
          (ap (λ (r : Region). inspect_check p.0.system (filled_by p.1) r known (length atoms) (length values)) then.is
          ∙ prepared_fit n m p fits then.now long known then.knows (length atoms) (length values) room room')),
    )
