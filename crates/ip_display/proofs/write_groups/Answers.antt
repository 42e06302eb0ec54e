use Rattle.std.proofs.Common.{refl, rules}
use Rattle.ip_display.proofs.Writing.{none_joined, next_group, all_groups}
use Rattle.ip_display.proofs.write_groups.Goals as goal

pub returns-in_default : goal.returns-in_default
returns-in_default c = none_joined _ _ c.in_default.ensures.cases

pub loop-h-preserved : goal.loop-h-preserved
loop-h-preserved c = next_group _ _ _ _ _ _ _ _ c.loop-h-test.true refl c.loop-h.invariant c.byte.ensures c.write_hex-in-loop-h.ensures

pub returns : goal.returns
returns c =
    let a = all_groups _ _ _ _ _ _ _ c.in-Some.ensures.cases.0 c.write_hex.ensures c.loop-h-test.false c.loop-h.invariant in
    search (rules, a)
