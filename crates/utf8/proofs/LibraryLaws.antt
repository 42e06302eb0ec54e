-- The library's UTF-8 is the one of these definitions.
use Rattle.std.specs.Prelude.{Result, Ok, Err, MatchResult, is_ok}
use Rattle.std.specs.Str.{IsUtf8}
use mathlib.Core.Path.{◌≡◌, refl, sym, ap, ap₂, ◌∙◌}
use mathlib.Core.List.{List, [], ◌∷◌, ◌++◌, flatten}
use mathlib.Core.Bool.{Bool, true, false, cond, ◌&&◌, ◌||◌}
use Prim.Native.Nat.{ℕ, suc}
use native.Mathlib.Omega.{arith}
use lib.Dec.{leb, ltb}
use borrow.Author.Tests.{le-leb, lt-leb, le-ltb, lt-ltb}
use Rattle.utf8.proofs.TestLaws.{upto}
use lib.Utf8.{scalar, scalars, encode as encode_of, encodes}
use Rattle.utf8.specs.Utf8.{is_scalar, encode, encode_all, decode, all, readable}
use Rattle.utf8.proofs.EncodeLaws.{readable_decode, encode_readable}

or_else : (x y : Bool) → cond x true y ≡ (x || y)
or_else true y = refl
or_else false y = refl

below : (c n m : ℕ) → m ≡ suc n → ltb c m ≡ leb c n
below c n m e = upto c n
    (λ h. lt-ltb c m (omega arith) ∙ sym (le-leb c n h))
    (λ h. le-ltb c m (omega arith) ∙ sym (lt-leb c n h))

same_scalar : (c : ℕ) → scalar c ≡ is_scalar c
same_scalar c =
    rw (below c 0xD7FF 55296 refl, below c 0x10FFFF 1114112 refl, le-leb 0 c (omega arith)) (or_else (leb c 0xD7FF) (leb 57344 c && leb c 0x10FFFF))

same_encode : (c : ℕ) → encode_of c ≡ encode c
unfolding encode_of encode
same_encode c = rw (below c 0x7F 128 refl, below c 0x7FF 2048 refl, below c 0xFFFF 65536 refl)

same_scalars : (cs : List ℕ) → scalars cs ≡ all is_scalar cs
unfolding all
same_scalars [] = refl
same_scalars (c ∷ cs) = ap₂ (λ x y. x && y) (same_scalar c) (same_scalars cs)

same_encodes : (cs : List ℕ) → encodes cs ≡ encode_all cs
unfolding flatten
same_encodes [] = refl
same_encodes (c ∷ cs) = ap₂ (λ x y. x ++ y) (same_encode c) (same_encodes cs)

utf8_readable : (s : List ℕ) → IsUtf8 s → readable s ≡ true
utf8_readable s u =
    ap readable (sym u.1.1 ∙ same_encodes u.0) ∙ encode_readable u.0 (sym (same_scalars u.0) ∙ u.1.0)

readable_utf8 : (s : List ℕ) → readable s ≡ true → IsUtf8 s
readable_utf8 s r =
    let d = readable_decode s r in
    (decode s, (same_scalars (decode s) ∙ d.1, same_encodes (decode s) ∙ d.0))

-- what the library answers, whose two cases say whether it is UTF-8
pub ok_readable : {T E : Type 0} (s : List ℕ) (r : Result T E) (P : T → Type 0) (Q : E → Type 0) → MatchResult r P Q
    → ((x : T) → P x → IsUtf8 s) → ((e : E) → Q e → IsUtf8 s → ⊥) → is_ok r ≡ readable s
ok_readable s (Ok x) P Q m f g = sym (utf8_readable s (f x m))
ok_readable s (Err e) P Q m f g = go (readable s) refl
  where
    go : (t : Bool) → readable s ≡ t → false ≡ t
    go true h = absurd (g e m (readable_utf8 s h))
    go false h = refl
