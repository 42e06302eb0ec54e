use Rattle.std.proofs.Common.{refl}
use Rattle.decimal.proofs.Leading.{rest_of, run_starts}
use Rattle.decimal.proofs.digits_at.Goals as goal

pub loop-i-init : goal.loop-i-init
loop-i-init c = (rest_of c.args.s.now c.args.at _ _ _ c.get.ensures.lookup refl c.unwrap_or-rest.ensures, run_starts c.unwrap_or-rest.result.now)
