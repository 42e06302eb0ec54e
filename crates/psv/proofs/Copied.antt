-- Laws of a line put together from texts that are at hand.
use Rattle.std.specs.Prelude.{Err}
use mathlib.Core.Path.{◌≡◌, ◌∙◌}
use mathlib.Core.List.{List, ◌++◌, append_assoc}
use Prim.Native.Nat.{ℕ, ◌+◌, ◌<◌}
use native.Mathlib.Omega.{arith}
use lib.ListN.{length, length-append}
use Rattle.output.specs.Output.{front, answer}
use Rattle.output.specs.declared.PutError.TheVariants.{TooShort}
use Rattle.output.proofs.Output.{too_short, kept}
use Rattle.elem.specs.Element.{numbers}
use Rattle.elem.specs.declared.Element.{Element}
use Rattle.psv.specs.declared.Attributes.{Attributes}
use Rattle.psv.specs.Line.{bar, sequence_text, asn_text, psv_text, begin_text, attributes_of, attributes_text, tail_text, texts_line}
use Rattle.psv.proofs.Printing.{psv_line}

module _ (begin path asn : List ℕ) (a : Attributes) where
  pub texts_length : 2 + length (attributes_text a) + length begin + length path + length asn ≡ length (texts_line begin path asn a)
  unfolding texts_line
  texts_length = simp length-append (omega arith)

  pub texts_short : (out : List ℕ) → length out < 2 + length (attributes_text a) + length begin + length path + length asn
      → ((Err TooShort) ≡ answer (texts_line begin path asn a) out) × (out ≡ front (texts_line begin path asn a) out)
  texts_short out l = (too_short _ _ _ texts_length l, kept _ _ _ texts_length l)

-- the texts of an element's own fields make its line
regroup : (x b p q g : List ℕ) → b ++ p ++ x ++ q ++ g ++ x ≡ b ++ p ++ (x ++ q ++ g ++ x)
regroup x b p q g = simp append_assoc

pub copied_line : (e : Element) (asns begin path asn ns : List ℕ) → begin ≡ begin_text e → path ≡ sequence_text ns → ns ≡ numbers e asns
    → asn ≡ asn_text e.origin_asn → texts_line begin path asn (attributes_of e) ≡ psv_text e asns
unfolding texts_line tail_text
copied_line e asns begin path asn ns h i j k =
    rw (h, i, j, k) (regroup bar (begin_text e) (sequence_text (numbers e asns)) (asn_text e.origin_asn) (attributes_text (attributes_of e)) ∙ psv_line e asns)
