-- What a call that writes to a text leaves.
use Rattle.std.specs.Prelude.{ℕ, ◌≡◌, List}
use Rattle.text.specs.Text.{Wrote}
use Rattle.text.specs.declared.Text.{Text}

-- The bytes s stand behind what was written, as far as there is room, and the text is still in its memory.
pub record Puts (t : Text) (s : List ℕ) (u : Text) : Type 0 where
  pub same_reference : u.out.ghost_name ≡ t.out.ghost_name
  pub wrote : Wrote t.out.now t.at s u.out.now u.at
