use Rattle.std.proofs.Common.{ap, arith, inl, length}
use Rattle.aspath_routes.proofs.Joined.{joined_small, counted, vec_mixed, vec_empty, vec_few, vec_written}
use Rattle.aspath_routes.proofs.to_u32_vec_opt.Goals as goal

pub returns-then-not-is_simple : goal.returns-then-not-is_simple
returns-then-not-is_simple c = rw (← c.in_ok-path.ensures) (vec_mixed _ _ _ _ c.is_simple.ensures c.if-not-is_simple.true)

pub count-n-requires-clause-fits : goal.count-n-requires-clause-fits
count-n-requires-clause-fits c =
    let path = c.in_ok-path.path in
    inl (omega (arith, ap length c.new-numbers.ensures, joined_small c.args.dedup _ _ _ path.few_numbers path.paired path.summed))

pub returns-then-none : goal.returns-then-none
returns-then-none c =
    rw (← c.in_ok-path.ensures)
    (vec_empty _ _ _ _ c.is_simple.ensures c.if-not-is_simple.false _ (counted _ _ _ c.new-numbers.ensures c.count-n.ensures.ran) (omega arith))

pub returns-then-out-n : goal.returns-then-out-n
returns-then-out-n c =
    rw (← c.in_ok-path.ensures)
    (vec_few _ _ _ _ c.is_simple.ensures c.if-not-is_simple.false _ (counted _ _ _ c.new-numbers.ensures c.count-n.ensures.ran) (λ e. omega arith) c.if-out-n.true)

pub returns : goal.returns
returns c =
    rw (← c.in_ok-path.ensures)
    (vec_written _ _ _ _ c.is_simple.ensures c.if-not-is_simple.false _ (counted _ _ _ c.new-numbers.ensures c.count-n.ensures.ran) (λ e. omega arith) c.if-out-n.false _ (rw (← c.new-numbers.ensures) c.write.ensures))
