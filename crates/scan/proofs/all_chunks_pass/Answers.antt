-- `scan::all_chunks_pass` meets its contract. Assumes nothing.
use Rattle.std.proofs.Common.{rules, tests, ◌∙◌}
use Rattle.std.proofs.lemmas.Iterator.{YieldsList-from_slice}
use Rattle.std.proofs.lemmas.Iterator.Search.{all_from_yields_List}
use Rattle.scan.specs.Lists.{all}
use Rattle.scan.proofs.ListLaws.{all_flatten}
use Rattle.scan.proofs.all_chunks_pass.Goals as goal

pub returns : goal.returns
returns g c =
    all_from_yields_List (λ chunk. all g.T.ByteTest.passing chunk) _ _ c.all.result c.all.ensures.ran (YieldsList-from_slice c.args.chunks.now cc) (λ x b q k. search (rules, tests))
    ∙ all_flatten g.T.ByteTest.passing c.args.chunks.now
