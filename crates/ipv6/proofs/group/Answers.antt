use Rattle.std.proofs.Common.{◌<◌, sym, ◌∙◌, arith}
use Rattle.ipv6.proofs.Ipv6.{digit_small, hex_grows, group_more}
use Rattle.ipv6.proofs.group.Goals as goal

pub loop-b-preserved : goal.loop-b-preserved
loop-b-preserved c =
    let small : c.in_ok-d.d < 16 = digit_small _ _ (sym c.hex_digit.ensures ∙ c.in_ok-d.was) in (
      rw c.from.ensures (hex_grows c.args.p.now (omega arith) c.loop-b.b-index c.loop-b.v c.loop-b.invariant.0 c.in_ok-d.d small),
      rw c.from.ensures (group_more c.args.p.now (λ e. omega arith) (omega arith) c.loop-b.b-index c.loop-b.v c.loop-b.invariant.1 (omega arith) _ c.hex_digit.ensures c.in_ok-d.d c.in_ok-d.was),
    )
