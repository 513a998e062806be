-- Texts put one after another are their concatenation put.
use Rattle.std.proofs.Common.{◌≡◌, List, [], ◌++◌, refl, ◌∙◌, arith, ℕ}
use Rattle.text.specs.Puts.{Puts}
use Rattle.text.specs.declared.Text.{Text}
use Rattle.text.proofs.Written.{wrote_both, wrote_is}

pub puts_none : (t : Text) → Puts t [] t
puts_none t = record { same_reference = refl; wrote = record { place = omega (arith, t.within); bytes = refl } }

pub puts_both : {t u v : Text} {s r : List ℕ} → Puts t s u → Puts u r v → Puts t (s ++ r) v
puts_both p q = record { same_reference = q.same_reference ∙ p.same_reference; wrote = wrote_both p.wrote q.wrote }

pub puts_is : {t u : Text} {s r : List ℕ} → s ≡ r → Puts t s u → Puts t r u
puts_is e p = record { same_reference = p.same_reference; wrote = wrote_is e p.wrote }
