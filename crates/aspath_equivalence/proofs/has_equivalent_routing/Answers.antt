use mathlib.Core.Path.{◌∙◌}
use Rattle.aspath_normal.proofs.Answers.{read_path}
use Rattle.aspath_equivalence.proofs.Routing.{second_spoilt, second_spoilt_itself, refused_none, first_spoilt, first_spoilt_itself, both_left, counted, parts_left, answered}
use Rattle.aspath_equivalence.proofs.has_equivalent_routing.Goals as goal

pub returns-in_err-check-clause-lists : goal.returns-in_err-check-clause-lists
returns-in_err-check-clause-lists c = second_spoilt _ _ _ c.in_err-check.ensures (read_path _ _ c.record.ensures) _

pub returns-in_err-check-clause-lists2 : goal.returns-in_err-check-clause-lists2
returns-in_err-check-clause-lists2 c = second_spoilt_itself _ _ _ c.in_err-check.ensures (read_path _ _ c.record.ensures) _

pub returns-in_err-first-clause-lists : goal.returns-in_err-first-clause-lists
returns-in_err-first-clause-lists c = let e = c.in_err-first.ensures in first_spoilt_itself _ _ _ e.value _ _ e.lists

pub returns-in_err-first-clause-lists2 : goal.returns-in_err-first-clause-lists2
returns-in_err-first-clause-lists2 c = first_spoilt _ _ _ c.in_err-first.ensures.value _

-- the second record was tested
pub returns-in_err-second : goal.returns-in_err-second
returns-in_err-second c =
    let n = refused_none _ _ c.in_err-second.ensures.value in
    let e = c.in_ok-check.ensures ∙ read_path _ _ c.record.ensures in
    absurd (cc)

pub new-form-requires : goal.new-form-requires
new-form-requires c =
    let e = c.in_ok-first.ensures in parts_left _ _ _ e.value e.lists

pub new-form2-requires : goal.new-form2-requires
new-form2-requires c =
    let e = c.in_ok-second.ensures in parts_left _ _ _ e.value e.lists

pub returns : goal.returns
returns c =
    let e = c.in_ok-first.ensures in
    let d = c.in_ok-second.ensures in
    let f = c.new-form.ensures in
    let g = c.new-form2.ensures in
    let p = (counted _ _ e.value).1 in
    let q = (counted _ _ d.value).1 in
    record {
      value = answered _ _ _ e.value e.lists _ _ _ d.value d.lists _ (rw (← f.0, ← f.1, ← f.2, ← g.0, ← g.1, ← g.2) c.eq.ensures);
      lists = both_left _ _ _ q _ _ e.lists;
      lists2 = both_left _ _ _ p _ _ d.lists;
    }
