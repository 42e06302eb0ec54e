use Rattle.scan.proofs.LineLaws.{end_feed, end_text}
use Rattle.scan.proofs.line_end.Goals as goal

pub returns-then-i-s : goal.returns-then-i-s
returns-then-i-s c = end_feed _ _ _ c.feed_at-i.ensures c.if-i-s.true

pub returns-else-i-s : goal.returns-else-i-s
returns-else-i-s c = end_text _ _ _ c.feed_at-i.ensures c.if-i-s.false
