-- What a call does that is lent a writer.
use Rattle.std.specs.Prelude.{ℕ, ◌≡◌, List}
use Rattle.output.specs.Output.{Written}
use Rattle.output.specs.declared.Writer.{Writer}

-- its text stands in the same lent list, behind what stood there, as far as there is room
pub record Writes (text : List ℕ) (old new : Writer) : Type 0 where
  pub same_list : new.out.ghost_name ≡ old.out.ghost_name
  pub written : Written text old.out.now old.at new.out.now new.at
