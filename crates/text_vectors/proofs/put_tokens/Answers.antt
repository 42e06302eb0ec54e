use Rattle.std.proofs.Common.{arith, sym, ◌∙◌}
use Rattle.text.proofs.TokenLaws.{walk}
use Rattle.text_vectors.proofs.put_tokens.Goals as goal

-- a token ends after the place where it was looked for
pub loop-a-smaller : goal.loop-a-smaller
loop-a-smaller c =
    let w = walk _ _ _ _ (sym c.next_token.ensures ∙ c.in-Some.is) in
    omega (arith, w.from, w.some_byte, w.inside)
