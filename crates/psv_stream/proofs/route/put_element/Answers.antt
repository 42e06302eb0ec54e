use Rattle.std.proofs.Common.{arith, length-take, rules}
use Rattle.psv_stream.proofs.Texts.{written_by, element_put, element_failed}
use Rattle.psv_stream.proofs.route.put_element.Goals as goal

pub slice_bounds-to_psv-end-2 : goal.slice_bounds-to_psv-end-2
slice_bounds-to_psv-end-2 c = simp length-take (omega arith)

pub returns-in_err-end : goal.returns-in_err-end
returns-in_err-end c = element_failed _ _ _ _ _ (search rules) c.to_psv.ensures _ c.in_err-end.was _ c.from_residual.ensures.1

pub returns : goal.returns
returns c = element_put _ _ _ _ _ (search rules) c.to_psv.ensures _ c.in_ok-end.was _ _ (written_by c.byte.ensures (search rules))
