use Rattle.text_dump_header.proofs.PreambleLaws.{id_none, id_some}
use Rattle.text_dump_header.proofs.router_in.Goals as goal

pub returns-in_err-id : goal.returns-in_err-id
returns-in_err-id c = let e = id_none c.args.s.now c.in_err-id.ensures in rw c.from_residual.ensures e

pub returns : goal.returns
returns c = simp (id_some c.args.s.now c.in_ok-id.id.now c.in_ok-id.ensures) c.before-2.ensures
