use Rattle.psv_stream.proofs.Routes.{seven, numbers_wrote, numbers_failed}
use Rattle.std.proofs.Common.{rules}
use Rattle.psv_stream.proofs.route.print_numbers.Goals as goal

pub returns-in_err-count : goal.returns-in_err-count
returns-in_err-count c = seven c.args.state c.args.prefix c.args.entry _ _ (search rules) _ _ c.put_asns.ensures _ c.in_err-count.was _ _ c.from_residual.ensures.1

pub returns-in_err-put_element : goal.returns-in_err-put_element
returns-in_err-put_element c =
    numbers_failed c.args.state c.args.prefix c.args.entry _ _ (search rules) _ _ c.put_asns.ensures _ c.in_ok-count.was _ c.origin_asn-origin_asn.ensures _ c.element-element.ensures
    _ _ _ c.put_element.ensures _ c.in_err-put_element.was _ c.from_residual-in_err-put_element.ensures.1

pub returns : goal.returns
returns c =
    numbers_wrote c.args.state c.args.prefix c.args.entry _ _ (search rules) _ _ c.put_asns.ensures _ c.in_ok-count.was _ c.origin_asn-origin_asn.ensures _ c.element-element.ensures
    _ _ _ c.put_element.ensures _ c.in_ok-put_element.was
