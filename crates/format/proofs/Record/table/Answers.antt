use Rattle.std.proofs.Common.{◌≡◌, ℕ, ◌≤◌, [], ◌∷◌, length, take, ◌∙◌, arith, length-take-le}
use Rattle.format.proofs.Tables.{few_words, table_read}
use Rattle.format.proofs.Record.table.Goals as goal

pub returns : goal.returns
returns c =
    let few : c.table_words.result ≤ 4 = omega (arith, few_words c.from-k.result) in
    let lent : length (take {A = ℕ} c.table_words.result (0 ∷ 0 ∷ 0 ∷ 0 ∷ [])) ≡ c.table_words.result = length-take-le _ _ few in
    c.propose.ensures ∙ table_read _ _ (c.from-k.ensures ∙ c.k.ensures) (lent ∙ c.table_words.ensures) c.read_words.ensures
