use Rattle.text_dump_header.proofs.PreambleLaws.{version_none, version_some}
use Rattle.text_dump_header.proofs.version_text.Goals as goal

pub returns-in_err-rest : goal.returns-in_err-rest
returns-in_err-rest c = let e = version_none c.args.t.now c.in_err-rest.ensures.cases in rw c.from_residual.ensures e

pub returns : goal.returns
returns c =
    simp (version_some c.args.t.now c.in_ok-rest.ensures.cases.0 c.in_ok-rest.rest.now c.in_ok-rest.ensures.cases.1)
    c.before-2.ensures
