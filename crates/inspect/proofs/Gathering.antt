-- The forced list written row by row: the turns of `collect`. What is left to read is what the lists have from a place on.
use Prim.Native.Nat.{ℕ, zero, suc, ◌+◌, ◌-◌, ◌≤◌, ◌<◌}
use mathlib.Core.Path.{◌≡◌, refl, sym, ap, ap₂, ◌∙◌}
use mathlib.Core.List.{List, [], ◌∷◌, ◌++◌, map, append-nil, append_assoc}
use mathlib.Core.Bool.{Bool, true, false, cond, false≢true}
use native.Mathlib.Numerals.{add-one}
use native.Mathlib.Omega.{arith}
use lib.ListN.{length, get_or, drop, set, length-append, length-set, drop_of_length-le}
use lib.Seq.{drop-drop, get_or-drop}
use Rattle.rows.specs.Row.{Row}
use Rattle.std.specs.Prelude.{Option, Some, None, Result, Ok, Err}
use Rattle.inspect.specs.declared.Forced.{Forced}
use Rattle.inspect.specs.declared.Wrong.{Wrong}
use Rattle.inspect.specs.declared.Contradiction.{Contradiction}
use Rattle.inspect.specs.Consequences.{Reading, Consequences, reading_of, joins, consequences}
use Rattle.inspect.specs.Inspect.{atoms_from, values_from}
use Rattle.inspect.specs.Steps.{count_noted, atoms_noted, values_noted, collected_of, Gathered}

-- ---- what is left to read

module _ (held free : List Bool) where
  nothing_left : (ts : List Bool) → consequences held free ts [] ≡ record { forced = []; sound = true }
  unfolding consequences
  nothing_left [] = refl
  nothing_left (t ∷ ts) = refl

  -- rows that are not touched say nothing
  skip : (ts : List Bool) (rs : List Row) (j : ℕ) → ((k : ℕ) → k < j → get_or ts k false ≡ false)
      → consequences held free ts rs ≡ consequences held free (drop j ts) (drop j rs)
  unfolding consequences
  skip ts rs zero none = refl
  skip [] rs (suc j) none = refl
  skip (t ∷ ts) [] (suc j) none = sym (nothing_left (drop j ts))
  skip (t ∷ ts) (r ∷ rs) (suc j) none =
      ap (λ (b : Bool). cond b (joins (reading_of held free r) (consequences held free ts rs)) (consequences held free ts rs)) (none 0 (omega arith))
      ∙ skip ts rs j (λ k h. none (suc k) (omega arith))

  -- one that is touched
  turn : (ts : List Bool) (rs : List Row) (j : ℕ) (d : Row) → get_or ts j false ≡ true → j < length rs
      → consequences held free (drop j ts) (drop j rs) ≡ joins (reading_of held free (get_or rs j d)) (consequences held free (drop (suc j) ts) (drop (suc j) rs))
  unfolding consequences
  turn [] rs j d t h = absurd (false≢true t)
  turn (b ∷ ts) [] j d t h = let z : ⊥ = omega arith in absurd z
  turn (b ∷ ts) (r ∷ rs) zero d t h =
      ap (λ (b : Bool). cond b (joins (reading_of held free r) (consequences held free ts rs)) (consequences held free ts rs)) t
  turn (b ∷ ts) (r ∷ rs) (suc j) d t h = turn ts rs j d t (omega arith)

-- ---- what a row forces, behind what was forced before

abbrev Entries : Type 0
Entries = List (ℕ × Bool)

abbrev noted : Option Forced → Entries
noted None = []
noted (Some f) = (f.atom.0, f.value) ∷ []

abbrev behind : Entries → Consequences → Consequences
behind fs c = record { forced = fs ++ c.forced; sound = c.sound }

behind_next : (fs : Entries) (o : Option Forced) (c : Consequences) → behind fs (joins (Ok o) c) ≡ behind (fs ++ noted o) c
behind_next fs None c = ap (λ (l : Entries). behind l c) (sym (append-nil fs))
behind_next fs (Some f) c = ap (λ (l : Entries). record { forced = l; sound = c.sound }) (sym (append_assoc fs (noted (Some f)) c.forced))

behind_wrong : (fs : Entries) (e : Wrong) (c : Consequences) → behind fs (joins (Err e) c) ≡ record { forced = fs; sound = false }
behind_wrong fs e c = ap (λ (l : Entries). record { forced = l; sound = false }) (append-nil fs)

-- ---- the lists written

pushed : (f : ℕ × Bool → ℕ) (x : ℕ × Bool) (fs : Entries) (l : List ℕ) → length fs < length l
    → set (map f fs ++ drop (length fs) l) (length fs) (f x) ≡ map f (fs ++ (x ∷ [])) ++ drop (length (fs ++ (x ∷ []))) l
pushed f x fs [] h = let z : ⊥ = omega arith in absurd z
pushed f x [] (y ∷ l) h = refl
pushed f x (g ∷ fs) (y ∷ l) h = ap (◌∷◌ (f g)) (pushed f x fs l (omega arith))

number_noted : (o : Option Forced) (fs : Entries) → count_noted o (length fs) ≡ length (fs ++ noted o)
number_noted None fs = ap length (sym (append-nil fs))
number_noted (Some f) fs = sym (length-append fs (noted (Some f)))

atoms_noted_lem : (o : Option Forced) (fs : Entries) (l : List ℕ) → length fs < length l → atoms_noted o (length fs) (atoms_from fs l) ≡ atoms_from (fs ++ noted o) l
atoms_noted_lem None fs l h = ap (λ (m : Entries). atoms_from m l) (sym (append-nil fs))
atoms_noted_lem (Some f) fs l h = pushed (λ (g : ℕ × Bool). g.0) (f.atom.0, f.value) fs l h

values_noted_lem : (o : Option Forced) (fs : Entries) (l : List ℕ) → length fs < length l → values_noted o (length fs) (values_from fs l) ≡ values_from (fs ++ noted o) l
values_noted_lem None fs l h = ap (λ (m : Entries). values_from m l) (sym (append-nil fs))
values_noted_lem (Some f) fs l h = pushed (λ (g : ℕ × Bool). cond g.1 1 0) (f.atom.0, f.value) fs l h

count_few : (o : Option Forced) (k j : ℕ) → k ≤ j → count_noted o k ≤ j + 1
count_few None k j h = omega arith
count_few (Some f) k j h = omega arith

atoms_kept : (o : Option Forced) (k : ℕ) (l : List ℕ) → length (atoms_noted o k l) ≡ length l
atoms_kept None k l = refl
atoms_kept (Some f) k l = length-set l k f.atom.0

values_kept : (o : Option Forced) (k : ℕ) (l : List ℕ) → length (values_noted o k l) ≡ length l
values_kept None k l = refl
values_kept (Some f) k l = length-set l k (cond f.value 1 0)

-- ---- the turns

-- before row j is read: what the touched rows up to it force is written, and the rest follows behind it
pub record Gathering (held free ts : List Bool) (rs : List Row) (atoms values atoms' values' : List ℕ) (count j : ℕ) : Type 0 where
  pub fs : Entries
  pub few : count ≤ j
  pub number : count ≡ length fs
  pub kept : length atoms' ≡ length atoms
  pub kept' : length values' ≡ length values
  pub atoms_are : atoms' ≡ atoms_from fs atoms
  pub values_are : values' ≡ values_from fs values
  pub ahead : consequences held free ts rs ≡ behind fs (consequences held free (drop j ts) (drop j rs))

module _ {held free ts : List Bool} {rs : List Row} {atoms values atoms' values' : List ℕ} {count i : ℕ} (so : Gathering held free ts rs atoms values atoms' values' count i) where
  -- past rows that are not touched
  pub gathering_skip : (j : ℕ) → i ≤ j → ((k : ℕ) → i ≤ k → k < j → get_or ts k false ≡ false)
      → Gathering held free ts rs atoms values atoms' values' count j
  gathering_skip j h none =
      let far : i + (j - i) ≡ j = omega arith in
      let left : consequences held free (drop i ts) (drop i rs) ≡ consequences held free (drop j ts) (drop j rs) =
      skip held free (drop i ts) (drop i rs) (j - i) (λ k l. get_or-drop i ts k false ∙ none (i + k) (omega arith) (omega arith))
      ∙ ap₂ (consequences held free) (drop-drop (j - i) i ts ∙ ap (λ (k : ℕ). drop k ts) far) (drop-drop (j - i) i rs ∙ ap (λ (k : ℕ). drop k rs) far) in
      record {
        fs = so.fs;
        few = omega (arith, so.few);
        number = so.number;
        kept = so.kept;
        kept' = so.kept';
        atoms_are = so.atoms_are;
        values_are = so.values_are;
        ahead = so.ahead ∙ ap (behind so.fs) left;
      }

  -- all that follows is known
  told : (b : Bool) → consequences held free ts rs ≡ record { forced = so.fs; sound = b }
      → Gathered (consequences held free ts rs) (cond b (Ok count) (Err (record { forced = count }))) atoms values atoms' values'
  told b is = record {
    is = ap (λ (n : ℕ). let r : Result ℕ Contradiction = cond b (Ok n) (Err (record { forced = n })) in r) so.number ∙ ap collected_of (sym is);
    atoms_are = so.atoms_are ∙ ap (λ (c : Consequences). atoms_from c.forced atoms) (sym is);
    values_are = so.values_are ∙ ap (λ (c : Consequences). values_from c.forced values) (sym is);
  }

  pub gathering_end : length rs ≤ i → Gathered (consequences held free ts rs) (Ok count) atoms values atoms' values'
  gathering_end h =
      told true (so.ahead
      ∙ ap (behind so.fs) (ap (consequences held free (drop i ts)) (drop_of_length-le rs h) ∙ nothing_left held free (drop i ts))
      ∙ ap (λ (l : Entries). record { forced = l; sound = true }) (append-nil so.fs))

  -- row i is touched
  module _ (d : Row) (touched : get_or ts i false ≡ true) (h : i < length rs) where
    read : (r : Reading) → r ≡ reading_of held free (get_or rs i d)
        → consequences held free ts rs ≡ behind so.fs (joins r (consequences held free (drop (i + 1) ts) (drop (i + 1) rs)))
    read r is =
        so.ahead ∙ ap (behind so.fs)
        (turn held free ts rs i d touched h ∙ ap₂ (λ (q : Reading) (k : ℕ). joins q (consequences held free (drop k ts) (drop k rs))) (sym is) (sym (add-one i)))

    pub gathering_wrong : (e : Wrong) → Err e ≡ reading_of held free (get_or rs i d)
        → Gathered (consequences held free ts rs) (Err (record { forced = count })) atoms values atoms' values'
    gathering_wrong e is = told false (read (Err e) is ∙ behind_wrong so.fs e (consequences held free (drop (i + 1) ts) (drop (i + 1) rs)))

    pub gathering_next : (o : Option Forced) → Ok o ≡ reading_of held free (get_or rs i d) → length rs ≤ length atoms → length rs ≤ length values
        → {count' : ℕ} {atoms'' values'' : List ℕ} → count' ≡ count_noted o count → atoms'' ≡ atoms_noted o count atoms' → values'' ≡ values_noted o count values'
        → Gathering held free ts rs atoms values atoms'' values'' count' (i + 1)
    gathering_next o is room room' n a v =
        let free : length so.fs < length atoms = omega (arith, so.few, so.number) in
        let free' : length so.fs < length values = omega (arith, so.few, so.number) in
        record {
          fs = so.fs ++ noted o;
          few = omega (arith, n, count_few o count i so.few);
          number = n ∙ ap (count_noted o) so.number ∙ number_noted o so.fs;
          kept = ap length a ∙ atoms_kept o count atoms' ∙ so.kept;
          kept' = ap length v ∙ values_kept o count values' ∙ so.kept';
          atoms_are = a ∙ ap₂ (atoms_noted o) so.number so.atoms_are ∙ atoms_noted_lem o so.fs atoms free;
          values_are = v ∙ ap₂ (values_noted o) so.number so.values_are ∙ values_noted_lem o so.fs values free';
          ahead = read (Ok o) is ∙ behind_next so.fs o _;
        }
