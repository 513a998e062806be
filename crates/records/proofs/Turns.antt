-- The check of a file's records, one more and at the end, from where an iterator over them stands.
use Rattle.std.proofs.Common.{◌≡◌, ℕ, ◌≤◌, ◌<◌, List, length, Ok, Err, sym, ap, subst, ◌∙◌}
use Rattle.format.specs.declared.Record.{Record}
use Rattle.format.specs.Format.{next_at}
use Rattle.format.specs.Starts.{starts}
use Rattle.format.proofs.Offsets.{starts_nil, starts_cons}
use Rattle.record.specs.Fault.{◌>>=◌}
use Rattle.record.specs.declared.Fault.{Fault}
use Rattle.records.specs.Check.{step_of, check_from}
use Rattle.records.specs.declared.Seen.{Seen}

module _ {file : List ℕ} (at : Record) (same : at.file.now ≡ file) where
  module _ (within : at.offset < length at.file.now) where
    one_more : (seen : Seen) → check_from file seen (starts file at.offset)
        ≡ (step_of file seen at.offset >>= (λ next. check_from file next (starts file (next_at file at.offset))))
    unfolding check_from
    one_more seen = ap (check_from file seen) (starts_cons file at.offset (subst (λ f. at.offset < length f) same within))

    pub fold_stop : (seen : Seen) (f : Fault) → step_of at.file.now seen at.offset ≡ Err f → Err f ≡ check_from file seen (starts file at.offset)
    fold_stop seen f step =
        let found : step_of file seen at.offset ≡ Err f = subst (λ l. step_of l seen at.offset ≡ Err f) same step in
        sym (one_more seen ∙ ap (λ r. r >>= (λ next. check_from file next (starts file (next_at file at.offset)))) found)

    pub fold_more : (seen next : Seen) → step_of at.file.now seen at.offset ≡ Ok next → (to : Record)
        → to ≡ record { file = at.file; offset = next_at at.file.now at.offset }
        → check_from file next (starts file to.offset) ≡ check_from file seen (starts file at.offset)
    fold_more seen next step to is =
        let found : step_of file seen at.offset ≡ Ok next = subst (λ l. step_of l seen at.offset ≡ Ok next) same step in
        let place : to.offset ≡ next_at file at.offset = ap (λ r. r.offset) is ∙ ap (λ l. next_at l at.offset) same in
        ap (λ o. check_from file next (starts file o)) place
        ∙ sym (one_more seen ∙ ap (λ r. r >>= (λ next. check_from file next (starts file (next_at file at.offset)))) found)

  pub fold_end : length at.file.now ≤ at.offset → (seen : Seen) → Ok (record { atoms = seen.atoms; rows = seen.rows }) ≡ check_from file seen (starts file at.offset)
  unfolding check_from
  fold_end h seen = sym (ap (check_from file seen) (starts_nil file at.offset (subst (λ f. length f ≤ at.offset) same h)))
