use mathlib.Core.Path.{◌≡◌}
use lib.ListN.{length}
use borrow.Author.Rules.{rules}
use Rattle.ip_display.proofs.Writing.{run_start, run_zeros, run_bound, run_longer, run_here, run_kept, run_later, run_found}
use Rattle.ip_display.proofs.longest_run.Goals as goal

pub loop-i-init : goal.loop-i-init
loop-i-init c =
    let e : length c.args.g ≡ 8 = search rules in
    (e, search rules, search rules, (run_start c.args.g e).0, (run_start c.args.g e).1, (run_start c.args.g e).2)

pub loop-i-preserved-then-len-n : goal.loop-i-preserved-then-len-n
loop-i-preserved-then-len-n c = (search rules, search rules, search run_bound, search run_zeros, search run_longer, search run_here)

pub loop-i-preserved : goal.loop-i-preserved
loop-i-preserved c = (search rules, search rules, search run_bound, search run_zeros, search run_kept, search run_later)

pub returns : goal.returns
returns c = run_found _ _ _ _ c.loop-i.invariant.0 c.loop-i-test.false c.loop-i.invariant.4 c.loop-i.invariant.5
