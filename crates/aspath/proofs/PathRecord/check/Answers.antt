use Rattle.std.proofs.Common.{◌∙◌, sym, arith}
use Rattle.aspath.proofs.Record.{unspoilt, spoilt_path, cut_path, taken}
use Rattle.aspath.proofs.PathRecord.check.Goals as goal

pub returns-then-is_spoilt : goal.returns-then-is_spoilt
returns-then-is_spoilt c = sym (spoilt_path _ _ _ _ _ _ c.is_spoilt.ensures c.if-is_spoilt.true)

pub slice_bounds-result-end : goal.slice_bounds-result-end
slice_bounds-result-end c = sym (taken _ _ _ _ _ (sym c.is_spoilt.ensures ∙ c.if-is_spoilt.false)).0

pub slice_bounds-result-end-2 : goal.slice_bounds-result-end-2
slice_bounds-result-end-2 c = sym (taken _ _ _ _ _ (sym c.is_spoilt.ensures ∙ c.if-is_spoilt.false)).1

pub slice_bounds-result-end-3 : goal.slice_bounds-result-end-3
slice_bounds-result-end-3 c = sym (taken _ _ _ _ _ (sym c.is_spoilt.ensures ∙ c.if-is_spoilt.false)).2

pub invariant_of-result : goal.invariant_of-result
invariant_of-result c =
    let sound = sym c.is_spoilt.ensures ∙ c.if-is_spoilt.false in
    let kept = unspoilt _ _ _ _ _ sound in
    let there = taken _ _ _ _ _ sound in
    record {
      few_segments = omega (arith, kept.few_segments, there.0);
      few_numbers = omega (arith, kept.few_numbers, there.2);
      paired = there.1 ∙ sym there.0;
      known = kept.kinds_known;
      summed = kept.sums ∙ sym there.2;
    }

pub returns : goal.returns
returns c = sym (cut_path _ _ _ _ _ (sym c.is_spoilt.ensures ∙ c.if-is_spoilt.false))
