-- The iterator over a text's tokens, as the definitions see it.
use Rattle.std.specs.Prelude.{List, ℕ, drop}
use Rattle.text.specs.White.{tokens}
use Rattle.text.specs.declared.Tokens.{Tokens}

-- the tokens that it has left
abbrev pub tokens_left : Tokens → List (List ℕ)
tokens_left t = tokens (drop t.at t.text.now)
