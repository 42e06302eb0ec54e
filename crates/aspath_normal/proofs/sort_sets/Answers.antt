use Rattle.std.proofs.Common.{◌≡◌, ◌<◌, length, get_or, refl, rules, arith, length-append}
use Rattle.std.proofs.lemmas.Slice.Zip.{zip_turn, zip_end}
use Rattle.aspath_normal.proofs.Sets.{set_end, sequence_passed, set_sorted, all_sorted}
use Rattle.aspath_normal.proofs.sort_sets.Goals as goal
use Rattle.aspath_normal.proofs.sort_sets.Goals.{In-Some}

-- the kind and the length of this turn are those at its place
there : (c : In-Some) → (length c.loop-kind.yielded < length c.args.kinds.now)
    × (c.in-Some.kind.now ≡ get_or c.args.kinds.now (length c.loop-kind.yielded) 0)
    × (c.in-Some.length.now ≡ get_or c.args.lengths.now (length c.loop-kind.yielded) 0)
there c =
    let t =
    zip_turn c.args.kinds.now c.args.lengths.now c.loop-kind.yielded c.into_iter-kind-iterator.result c.loop-kind.kind-iterator
    c.next.new.self c.next.result (search rules) (search rules) c.loop-kind.yielded_by (c.in-Some.kind, c.in-Some.length) c.in-Some.is
    c.next.ensures.steps in
    (t.0, t.2 0, t.3 0)

pub slice_bounds-sort_u32-end : goal.slice_bounds-sort_u32-end
slice_bounds-sort_u32-end c =
    let t = there (goal.at.slice_bounds-sort_u32-end c).In-Some in
    let h = set_end _ _ _ _ _ _ c.loop-kind.invariant t.0 _ _ _ t.1 t.2 refl in
    search rules

pub loop-kind-preserved-then-is_set : goal.loop-kind-preserved-then-is_set
loop-kind-preserved-then-is_set c =
    let t = there (goal.at.loop-kind-preserved-then-is_set c).In-Some in
    set_sorted _ _ _ _ _ _ c.loop-kind.invariant t.0 _ _ _ t.1 t.2 (simp length-append) (cc) _ c.sort_u32.ensures

pub loop-kind-preserved : goal.loop-kind-preserved
loop-kind-preserved c =
    let t = there (goal.at.loop-kind-preserved c).In-Some in
    sequence_passed _ _ _ _ _ _ c.loop-kind.invariant t.0 _ _ _ t.1 t.2 (simp length-append) cc

pub returns : goal.returns
returns c =
    let t =
    zip_end c.args.kinds.now c.args.lengths.now c.loop-kind.yielded c.into_iter-kind-iterator.result c.loop-kind.kind-iterator
    c.next.new.self c.next.result (search rules) (search rules) c.loop-kind.yielded_by c.in-None.is c.next.ensures.steps in
    all_sorted _ _ _ _ _ _ c.loop-kind.invariant (omega arith)
