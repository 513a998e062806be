-- The lines of all records: putting those that are left puts the whole.
use Rattle.std.proofs.Common.{◌≡◌, ℕ, ◌<◌, ◌≤◌, List, [], ◌++◌, length, sym, ap, subst, ◌∙◌}
use Rattle.parity.specs.declared.System.{System}
use Rattle.inspect.specs.Inspect.{Filled}
use Rattle.inspect.specs.Run.{State, after}
use Rattle.format.specs.Format.{next_at}
use Rattle.format.specs.Starts.{starts}
use Rattle.format.specs.declared.Record.{Record}
use Rattle.format.specs.declared.Records.{Records}
use Rattle.format.proofs.Offsets.{starts_cons, starts_nil}
use Rattle.text.specs.Puts.{Puts}
use Rattle.text.specs.declared.Text.{Text}
use Rattle.text.proofs.Puts.{puts_none, puts_both, puts_is}
use Rattle.lines.specs.Lines.{calls_at, line_at, lines_from}
use Rattle.lines.specs.Steps.{state_of, Turned}
use Rattle.lines.specs.declared.State.{State as Kept}

module _ (file : List ℕ) (s : System) (f : Filled) where
  pub lines_more : (st : State) (o : ℕ) → o < length file
      → lines_from file s f st (starts file o) ≡ line_at file s f st o ++ lines_from file s f (after st (calls_at file s f o)) (starts file (next_at file o))
  unfolding lines_from
  lines_more st o h = ap (lines_from file s f st) (starts_cons file o h)

  pub lines_end : (st : State) (o : ℕ) → length file ≤ o → lines_from file s f st (starts file o) ≡ []
  unfolding lines_from
  lines_end st o h = ap (lines_from file s f st) (starts_nil file o h)

  -- what a text holds with a state at offset o, against the text that all lines are put to: the lines left are those of the whole
  pub record Onward (whole : List ℕ) (t₀ : Text) (st : State) (o : ℕ) (t : Text) : Type 0 where
    pub leads : (u : Text) → Puts t (lines_from file s f st (starts file o)) u → Puts t₀ whole u

  module _ {whole : List ℕ} {t₀ : Text} where
    pub onward_start : {st : State} → lines_from file s f st (starts file 0) ≡ whole → Onward whole t₀ st 0 t₀
    onward_start e = record { leads = λ u p. puts_is e p }

    pub onward_next : {st : State} {o : ℕ} {t u : Text} {left : Kept} → o < length file → Onward whole t₀ st o t → Turned file s f st o t u left
        → Onward whole t₀ (state_of left) (next_at file o) u
    onward_next {st} {o} {t} {u} {left} h v turned = record {
      leads = λ w p. v.leads w
          (puts_is (sym (lines_more st o h))
          (puts_both turned.puts (puts_is (ap (λ (x : State). lines_from file s f x (starts file (next_at file o))) turned.state) p)));
    }

    -- with what the iterator over the records says of its next one
    pub onward_turn : {st : State} {it then : Records} {x : Record} {t u : Text} {left : Kept}
        → (it.next.offset < length it.next.file.now) × (x ≡ it.next) × (then.next ≡ record { file = it.next.file; offset = next_at it.next.file.now it.next.offset })
        → it.next.file.now ≡ file → Onward whole t₀ st it.next.offset t → Turned x.file.now s f st x.offset t u left
        → (then.next.file.now ≡ file) × Onward whole t₀ (state_of left) then.next.offset u
    onward_turn {st} {it} {then} {x} {t} {u} {left} h e v turned =
        let o = it.next.offset in
        let at = subst (λ (r : Record). Turned r.file.now s f st r.offset t u left) h.1 turned in (
          ap (λ (r : Record). r.file.now) h.2 ∙ e,
          subst (λ (i : ℕ). Onward whole t₀ (state_of left) i u) (sym (ap (λ (r : Record). r.offset) h.2 ∙ ap (λ (l : List ℕ). next_at l o) e))
              (onward_next (subst (λ (l : List ℕ). o < length l) e h.0) v (subst (λ (l : List ℕ). Turned l s f st o t u left) e at)),
        )

    pub onward_end : {st : State} {o : ℕ} {t : Text} → length file ≤ o → Onward whole t₀ st o t → Puts t₀ whole t
    onward_end {st} {o} {t} h v = v.leads t (puts_is (sym (lines_end st o h)) (puts_none t))
