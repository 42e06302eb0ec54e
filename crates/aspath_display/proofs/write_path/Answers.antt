use Rattle.std.proofs.Common.{rules}
use Rattle.std.proofs.lemmas.Iterator.Consumers.{YieldsList-from_first}
use Rattle.aspath.specs.Segments.{segment_of, segments_left, kind_number}
use Rattle.aspath_display.specs.Display.{segment_text}
use Rattle.aspath_display.proofs.Text.{all_written}
use Rattle.aspath_display.proofs.write_path.Goals as goal

pub returns : goal.returns
returns c =
    all_written (λ x. segment_text x.kind x.numbers) _ (YieldsList-from_first segment_of segments_left _ c.segments.ensures)
    (c.write_each.ensures (λ x. segment_text (kind_number x.kind) x.numbers.now) (λ x v w p. search rules))
