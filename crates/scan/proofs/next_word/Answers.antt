use Rattle.std.proofs.Common.{rules}
use Rattle.scan.specs.Words.{is_gap, not_gap}
use Rattle.scan.proofs.WordLaws.{here, nowhere}
use Rattle.scan.proofs.next_word.Goals as goal

pub returns-then-start-s : goal.returns-then-start-s
returns-then-start-s c =
    here _ _ _ (c.end_while-start.ensures is_gap (λ b r e. search rules)) _ c.if-start-s.true (c.end_while.ensures not_gap (λ b r e. search rules))

pub returns-else-start-s : goal.returns-else-start-s
returns-else-start-s c = nowhere _ _ _ (c.end_while-start.ensures is_gap (λ b r e. search rules)) c.if-start-s.false
