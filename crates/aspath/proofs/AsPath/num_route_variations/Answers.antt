use native.Mathlib.Nat.{one-mul}
use Rattle.std.proofs.Common.{◌≡◌, ◌∙◌, sym, arith, lit<, rules, Err}
use Rattle.aspath.specs.Queries.{variations}
use Rattle.aspath.specs.Segments.{segments_in}
use Rattle.aspath.specs.declared.VariationsError.TheVariants.{TooMany}
use Rattle.aspath.proofs.Queries.{no_variation, some_variation, variations_more, variations_over, variations_done}
use Rattle.aspath.proofs.AsPath.num_route_variations.Goals as goal

pub returns-then-has_empty_set : goal.returns-then-has_empty_set
returns-then-has_empty_set c = no_variation _ _ c.has_empty_set.ensures c.if-has_empty_set.true

pub loop-segment-init : goal.loop-segment-init
loop-segment-init c =
    (some_variation _ _ c.has_empty_set.ensures c.if-has_empty_set.false, lit< tt, rw (c.into_iter-segment-iterator.ensures.into_iter_gives, c.segments-segment-items.ensures) (sym (one-mul (variations (segments_in c.args.self)))))

pub loop-segment-preserved : goal.loop-segment-preserved
loop-segment-preserved c =
    let more = rw c.in_ok-product.ensures.ok_part at c.checked_mul.ensures in
    (c.loop-segment.invariant.0, omega (arith, more.0), variations_more _ _ _ _ _ _ c.loop-segment.invariant.2 c.in-Some.ensures.steps c.choices.ensures _ more.1)

pub returns : goal.returns
returns c = variations_done _ _ _ c.loop-segment.invariant.2 c.in-None.ensures.steps.0 c.loop-segment.invariant.1

pub returns-in_err-product : goal.returns-in_err-product
returns-in_err-product c =
    let refused : c.from_residual.result ≡ Err TooMany = search rules in
    refused ∙ variations_over _ _ _ _ _ _ c.loop-segment.invariant.2 c.in-Some.ensures.steps c.choices.ensures (rw c.in_err-product.ensures.ok_part at c.checked_mul.ensures) c.loop-segment.invariant.0
