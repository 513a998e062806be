-- The atoms are read into the head of an array, and `embed` writes the equations.
use Rattle.std.proofs.Common.{◌≡◌, ℕ, List, take, replicate, cond, ap, ap₂, ◌∙◌, refl, sym, arith, rules}
use lib.Seq.{length-take-le}
use Rattle.rows.specs.declared.Source.{Source}
use Rattle.embed.specs.Written.{writable, written_words}
use Rattle.format.specs.Bytes.{list_from}
use Rattle.format.specs.Format.{atom_at, table_atoms}
use Rattle.format.proofs.Tables.{table_fit}
use Rattle.load.proofs.Tabled.{count_is, table_loaded}
use Rattle.load.proofs.Filling.put_table.Goals as goal

pub unwrap-hull-requires : goal.unwrap-hull-requires
unwrap-hull-requires c =
    let fit = c.table.ensures ∙ table_fit c.args.at.file.now c.args.at.offset c.requires.few in
    search rules

pub overflow_add-self : goal.overflow_add-self
overflow_add-self c =
    omega (arith, c.requires.room.constants, count_is _ _ _ _ _ _ c.requires.few c.requires.rising c.requires.room _ (sym c.table.ensures ∙ c.unwrap-hull.ensures))

pub returns : goal.returns
returns c =
    let t = c.args.self.now in
    let at = c.args.at in
    let h = c.unwrap-hull.result in
    let es = take h.count h.equations in
    let first : Source = record { 0 = t.next } in
    let names : c.read_atoms.new.atoms ≡ table_atoms at.file.now at.offset = c.read_atoms.ensures ∙ ap (list_from (atom_at at.file.now at.offset) 0) (length-take-le c.from.result (replicate 8 0) (omega (arith, c.from.ensures, c.k.ensures, c.requires.few)) ∙ c.from.ensures ∙ c.k.ensures) in
    record {
      same_words = refl;
      same_constants = refl;
      atoms = refl;
      loaded = table_loaded _ _ _ _ _ _ c.requires.few c.requires.rising c.requires.room _ (sym c.table.ensures ∙ c.unwrap-hull.ensures)
          _ _ _
          (c.write.ensures.done ∙ ap₂ (λ (w : ℕ) (l : List ℕ). writable w t.words.now t.constants.now h l first) c.width.ensures names)
          (c.write.ensures.words ∙ ap₂ (λ (w : ℕ) (l : List ℕ). cond c.write.result (written_words w t.words.now es l first) t.words.now) c.width.ensures names)
          c.write.ensures.constants;
    }
