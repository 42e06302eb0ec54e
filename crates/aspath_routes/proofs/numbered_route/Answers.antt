use Rattle.aspath_routes.proofs.Answers.{route_beyond, route_few, route_written}
use Rattle.aspath_routes.proofs.numbered_route.Goals as goal

pub returns-then-total-number : goal.returns-then-total-number
returns-then-total-number c = rw (← c.in_ok-path.ensures) (route_beyond _ _ _ _ c.in_ok-total.ensures c.if-total-number.true)

pub returns-then-out-n : goal.returns-then-out-n
returns-then-out-n c = rw (← c.in_ok-path.ensures) (route_few _ _ _ _ c.in_ok-total.ensures c.if-total-number.false _ c.route_len-n.ensures c.if-out-n.true)

pub returns : goal.returns
returns c =
    rw (← c.in_ok-path.ensures)
    (route_written _ _ _ _ c.in_ok-total.ensures c.if-total-number.false _ c.route_len-n.ensures c.if-out-n.false _ _ c.write_route.ensures)
