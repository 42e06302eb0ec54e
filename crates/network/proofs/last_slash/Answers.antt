use Rattle.std.proofs.Common.{rules}
use Rattle.network.proofs.Reading.{last_found}
use Rattle.network.proofs.last_slash.Goals as goal

pub returns : goal.returns
returns c = last_found 47 c.args.s.now _ (λ i e. search rules) (λ i e. search rules) (λ i e j l m. search rules) (λ e j m. search rules)
