use Rattle.psv_stream.proofs.Copying.{plain_number}
use Rattle.psv_stream.proofs.route.plain_digits.Goals as goal

pub returns : goal.returns
returns c = plain_number c.args.w c.digit_count-n.result c.ranges.w c.digit_count-n.ensures c.if-n-eq0.false c.if-n-gt7.false c.if-w-n-ne32.false c.if-leading_zero.false
