use Rattle.std.proofs.Common.{refl}
use Rattle.std.proofs.lemmas.Iterator.{items_from_drains}
use Rattle.std.proofs.lemmas.Iterator.Consumers.{YieldsList-from_first}
use Rattle.text.specs.White.{tokens}
use Rattle.text.specs.TokensLeft.{tokens_left}
use Rattle.path_text.proofs.PathLaws.{last_seen}
use Rattle.path_text.proofs.last_token.Goals as goal

pub returns : goal.returns
returns c =
    let ran = c.last.ensures.ran in
    let end = ran.1.1 in
    let items = YieldsList-from_first (λ x. x.now) tokens_left (tokens c.args.s.now) c.of.ensures in
    last_seen c.args.s.now ran.0 _ _ _ (items_from_drains ran.0 (end.0, end.1, λ _. (ran.1.0, end.2)) items) ran.2 refl c.unwrap_or.ensures
