use Rattle.text_dump_header.proofs.PreambleLaws.{router_none, router_no_comma, router_some}
use Rattle.text_dump_header.proofs.router_text.Goals as goal

pub returns-in_err-rest : goal.returns-in_err-rest
returns-in_err-rest c = let e = router_none c.args.t.now c.in_err-rest.ensures.cases in rw c.from_residual.ensures e

pub returns-in_err-router : goal.returns-in_err-router
returns-in_err-router c =
    let e = router_no_comma c.args.t.now c.in_ok-rest.ensures.cases.0 c.in_ok-rest.rest.now c.in_ok-rest.ensures.cases.1 c.in_err-router.ensures in
    rw c.from_residual-in_err-router.ensures e

pub returns : goal.returns
returns c =
    simp
    (router_some c.args.t.now c.in_ok-rest.ensures.cases.0 c.in_ok-rest.rest.now
    c.in_ok-rest.ensures.cases.1 c.in_ok-router.router.now c.in_ok-router.ensures)
    c.router_in.ensures
