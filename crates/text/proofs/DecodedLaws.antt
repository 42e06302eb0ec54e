-- On readable text, trimming and tokens are those of the decoded characters.
use mathlib.Core.Path.{◌≡◌, sym, ap, ◌∙◌}
use mathlib.Core.List.{List, map, map-map, flatten, reverse}
use mathlib.Core.Bool.{true}
use Prim.Native.Nat.{ℕ}
use Rattle.scan.specs.Lists.{take_while, drop_while, tokens_by}
use Rattle.scan.proofs.ListLaws.{take_while_drop_while}
use Rattle.utf8.specs.Utf8.{all, is_scalar, encode, encode_all, decode, readable}
use Rattle.text.specs.White.{is_white, is_space, skip, trim_start, drop_while_end, trim_end, trim, tokens}
use Rattle.utf8.proofs.ListLaws.{all_parts, all_map}
use Rattle.text.proofs.ListLaws.{all_reverse, all_tokens, map_reverse, drop_while_map, tokens_map}
use Rattle.utf8.proofs.EncodeLaws.{scalar_encodes, encode_chars, encode_is_char, encode_readable, readable_decode}
use Rattle.text.proofs.TrimLaws.{trim_is}

-- the encoding of a scalar value is white where the value is
pub encode_white : (c : ℕ) → is_scalar c ≡ true → is_space (encode c) ≡ is_white c
unfolding is_space
encode_white c h = simp (encode_is_char c h, (scalar_encodes c h).back)

front : (cs : List ℕ) → all is_scalar cs ≡ true → drop_while is_space (map encode cs) ≡ map encode (drop_while is_white cs)
front cs h = drop_while_map encode is_space is_white is_scalar encode_white cs h

-- the text of the scalar values cs
module _ (cs : List ℕ) (h : all is_scalar cs ≡ true) where
  pub trim_start_decoded : trim_start (encode_all cs) ≡ encode_all (drop_while is_white cs)
  unfolding skip
  trim_start_decoded = ap (λ l. flatten (drop_while is_space l)) (encode_chars cs h) ∙ ap flatten (front cs h)

  pub trim_end_decoded : trim_end (encode_all cs) ≡ encode_all (drop_while_end is_white cs)
  unfolding trim_end
  trim_end_decoded =
      ap (λ l. flatten (drop_while_end is_space l)) (encode_chars cs h)
      ∙ ap flatten
      (ap (λ l. reverse (drop_while is_space l)) (sym (map_reverse encode cs))
      ∙ ap reverse (front (reverse cs) (all_reverse is_scalar cs h))
      ∙ sym (map_reverse encode (drop_while is_white (reverse cs))))

  pub tokens_decoded : tokens (encode_all cs) ≡ map encode_all (tokens_by is_white cs)
  tokens_decoded =
      ap (λ l. map flatten (tokens_by is_space l)) (encode_chars cs h)
      ∙ ap (map flatten) (tokens_map encode is_space is_white is_scalar encode_white cs h)
      ∙ map-map flatten (map encode) (tokens_by is_white cs)

pub trim_decoded : (cs : List ℕ) → all is_scalar cs ≡ true → trim (encode_all cs) ≡ encode_all (drop_while_end is_white (drop_while is_white cs))
trim_decoded cs h =
    trim_is (encode_all cs)
    ∙ ap trim_end (trim_start_decoded cs h)
    ∙ trim_end_decoded (drop_while is_white cs) (all_parts is_scalar (take_while is_white cs) (drop_while is_white cs) (ap (all is_scalar) (take_while_drop_while is_white cs) ∙ h)).1

-- the tokens of readable text are readable
pub tokens_readable : (s : List ℕ) → readable s ≡ true → all readable (tokens s) ≡ true
tokens_readable s h =
    let d = readable_decode s h in
    ap (λ x. all readable (tokens x)) (sym d.0)
    ∙ ap (all readable) (tokens_decoded (decode s) d.1)
    ∙ all_map encode_all readable (all is_scalar) encode_readable (tokens_by is_white (decode s)) (all_tokens is_scalar is_white (decode s) d.1)
