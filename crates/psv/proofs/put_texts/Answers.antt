use mathlib.Core.Path.{◌≡◌, sym, ◌∙◌}
use native.Mathlib.Omega.{arith}
use lib.ListN.{length}
use borrow.Author.Rules.{rules}
use borrow.Author.Tests.{leb-true, leb-false}
use Prim.Native.Nat.{◌+◌, ◌-◌, ◌≤◌}
use Rattle.std.specs.Prelude.{Err}
use Rattle.output.specs.declared.PutError.TheVariants.{TooShort}
use Rattle.output.proofs.Writing.{then, put}
use Rattle.psv.specs.Line.{texts_line}
use Rattle.psv.proofs.Copied.{texts_length, texts_short}
use Rattle.psv.proofs.put_texts.Goals as goal

pub returns-in_err-left : goal.returns-in_err-left
returns-in_err-left c =
    let l : ¬ (length c.args.begin.now + length c.args.path.now + length c.args.origin_asn.now ≤ length c.args.out.now) = search rules in
    let z : c.from_residual.result ≡ Err TooShort = search rules in
    rw z (texts_short _ _ _ _ _ (omega (arith, l)))

pub returns-then-not-attributes_fit : goal.returns-then-not-attributes_fit
returns-then-not-attributes_fit c =
    let z : c.in_ok-left.left ≡ length c.args.out.now - (length c.args.begin.now + length c.args.path.now + length c.args.origin_asn.now) = search rules in
    texts_short _ _ _ _ _ (omega (arith, z, leb-false _ _ (sym c.attributes_fit.ensures ∙ c.if-not-attributes_fit.true)))

pub returns : goal.returns
unfolding texts_line
returns c =
    let l : length c.args.begin.now + length c.args.path.now + length c.args.origin_asn.now ≤ length c.args.out.now = search rules in
    let z : c.in_ok-left.left ≡ length c.args.out.now - (length c.args.begin.now + length c.args.path.now + length c.args.origin_asn.now) = search rules in
    let h = leb-true _ _ (sym c.attributes_fit.ensures ∙ c.if-not-attributes_fit.false) in
    put c.new-w.ensures.0 c.new-w.ensures.2 (texts_length c.args.begin.now c.args.path.now c.args.origin_asn.now c.args.attributes) (omega (arith, h, l, z)) (then (then (then (then (then c.bytes.ensures c.bytes-2.ensures) c.byte.ensures) c.bytes-3.ensures) c.write_attributes.ensures) c.byte-2.ensures) (search rules)
