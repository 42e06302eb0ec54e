use Rattle.std.proofs.Common.{rules, tests, take, length, sym, ◌∙◌}
use borrow.Author.Tests.{lt-leb}
use Rattle.std.proofs.lemmas.Iterator.{YieldsList-from_slice, YieldsList-from_zip, same_from_all}
use Rattle.scan.proofs.SearchLaws.{starts_with_told, too_short}
use Rattle.scan.proofs.begins.Goals as goal

pub returns-then-p-s : goal.returns-then-p-s
returns-then-p-s c =
    starts_with_told c.args.s.now c.args.p.now _
    (same_from_all c.all.new.self _ _ _ _ c.all.ensures.ran
    (YieldsList-from_zip (YieldsList-from_slice (take (length c.args.p.now) c.args.s.now) cc) (YieldsList-from_slice c.args.p.now cc))
    (search rules) (λ x q k. search (rules, tests)) (λ x q k. search (rules, tests)))

pub returns-else-p-s : goal.returns-else-p-s
returns-else-p-s c =
    lt-leb (length c.args.p.now) (length c.args.s.now) c.if-p-s.false ∙ sym (too_short c.args.s.now c.args.p.now c.if-p-s.false)
