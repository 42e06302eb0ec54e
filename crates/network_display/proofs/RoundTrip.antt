-- What is printed reads as the same address, and as the same prefix.
use Rattle.std.specs.Prelude.{Option, Some, None}
use mathlib.Core.Path.{◌≡◌, refl, sym, ap, subst, ◌∙◌}
use mathlib.Core.List.{List, [], ◌∷◌, ◌++◌, append_assoc, append-nil}
use mathlib.Core.Bool.{Bool, true, false, cond, not, ◌&&◌, and-false}
use Prim.Native.Nat.{ℕ, zero, suc, ◌+◌, ◌-◌, ◌*◌, ◌/◌, ◌%◌, ◌^◌, ◌≤◌, ◌<◌}
use native.Mathlib.Nat.{zero-add, add-zero, le_refl}
use native.Mathlib.Omega.{arith}
use lib.ListN.{length, get_or, take, drop, replicate, length-append, length-take, length-drop, take-append-drop}
use lib.Seq.{drop-drop, take_at, drop_at}
use lib.Dec.{eqb, leb, ltb}
use borrow.Author.Tests.{le-ltb, lt-ltb, lt-leb, le-leb, eq-eqb, ne_eqb, ltb-false, ltb-true, leb-true, leb-false, eqb-true}
use Rattle.decimal.specs.Decimal.{is_digit, behind, digits}
use Rattle.decimal_display.specs.Printed.{decimal}
use Rattle.decimal_display.proofs.Printed.{decimal_short, digits_most}
use Rattle.decimal_display.proofs.ReadBack.{digits_decimal, no_leading_zero}
use Rattle.scan.specs.Lists.{split_by, onto}
use Rattle.ipv4.specs.Parts.{parts, before, prepend, each, number}
use Rattle.ipv4.specs.Ipv4.{leading_zero, octet, four, ipv4}
use Rattle.ipv4.proofs.Parts.{later, parts_cons}
use Rattle.ipv6.specs.Ipv6.{hex_digit, value_from, group, groups, side, gap, filled, ipv6}
use Rattle.ipv6.proofs.Sides.{Below, below_append, groups_more}
use Rattle.network.specs.Address.{either, address, read_address}
use Rattle.network.specs.Prefix.{last_place, length_of, length_for, prefix, bits, read_prefix, valid_prefix}
use Rattle.network.specs.declared.IpAddr.{IpAddr}
use Rattle.network.specs.declared.IpAddr.TheVariants.{V4, V6}
use Rattle.network.specs.declared.NetworkPrefix.{NetworkPrefix}
use Rattle.ip_display.specs.Groups.{quarters, groups_of, zeros, longest, first_run}
use Rattle.ip_display.specs.Text.{dotted, hex_byte, hex, behind_colons, joined, shortened, plain, mapped, ipv6_text}
use Rattle.network_display.specs.Text.{address_text, prefix_text}
use Rattle.ip_display.proofs.Writing.{hex_1, hex_2, hex_3, hex_4, first_within}

-- no byte of the text is c
abbrev pub Free : ℕ → List ℕ → Type 0
Free c [] = Unit
Free c (b ∷ s) = (b ≡ c → ⊥) × Free c s

pub free_append : (c : ℕ) (s t : List ℕ) → Free c s → Free c t → Free c (s ++ t)
free_append c [] t p q = q
free_append c (b ∷ s) t p q = (p.0, free_append c s t p.1 q)

-- parts of a text that is put together
pub parts_free : (c : ℕ) (p : List ℕ) → Free c p → parts c p ≡ p ∷ []
unfolding split_by onto
parts_free c [] f = refl
parts_free c (b ∷ p) f = simp (ne_eqb b c f.0, parts_free c p f.1)

pub parts_append : (c : ℕ) (p s : List ℕ) → Free c p → parts c (p ++ (c ∷ s)) ≡ p ∷ parts c s
unfolding split_by onto
parts_append c [] s f = simp (eq-eqb c c refl)
parts_append c (b ∷ p) s f = simp (ne_eqb b c f.0, parts_append c p s f.1)

-- the last place of a byte that nothing behind it repeats
last_free : (c : ℕ) (s : List ℕ) → Free c s → last_place c s ≡ length s
unfolding last_place
last_free c [] f = refl
last_free c (b ∷ s) f =
    let z : last_place c s ≡ length s = last_free c s f.1 in simp (z, le-ltb (length s) (length s) (omega arith), ne_eqb b c f.0)

pub last_append : (c : ℕ) (p s : List ℕ) → Free c s → last_place c (p ++ (c ∷ s)) ≡ length p
unfolding last_place
last_append c [] s f =
    let z : last_place c s ≡ length s = last_free c s f in simp (z, le-ltb (length s) (length s) (omega arith), eq-eqb c c refl)
last_append c (b ∷ p) s f =
    let z : last_place c (p ++ (c ∷ s)) ≡ length p = last_append c p s f in
    simp (z, lt-ltb (length p) (length (p ++ (c ∷ s))) (simp length-append (omega arith)))

-- digits have no other byte
behind_free : (c v n : ℕ) (s : List ℕ) → is_digit c ≡ false → behind v s ≡ Some n → Free c s
unfolding behind
behind_free c v n [] h e = tt
behind_free c v n (b ∷ s) h e = go (is_digit b) refl e (behind_free c (v * 10 + (b - 48)) n s h)
  where
    go : (t : Bool) → is_digit b ≡ t → cond t (behind (v * 10 + (b - 48)) s) None ≡ Some n → (behind (v * 10 + (b - 48)) s ≡ Some n → Free c s) → Free c (b ∷ s)
    go true d f ih = (λ q. bool_clash (sym d ∙ ap is_digit q ∙ h), ih f)
      where
        bool_clash : true ≡ false → ⊥
        bool_clash w = let z : ◌≡◌ {A = ℕ} 0 1 = cc in omega arith
    go false d f ih = let z : ◌≡◌ {A = ℕ} 0 1 = cc in absurd (omega arith)

pub decimal_free : (c n : ℕ) → is_digit c ≡ false → Free c (decimal n)
unfolding digits
decimal_free c n h = go (decimal n) (digits_decimal n)
  where
    go : (s : List ℕ) → digits s ≡ Some n → Free c s
    go [] e = tt
    go (b ∷ s) e = behind_free c 0 n (b ∷ s) h e

-- an octet
pub octet_decimal : (o : ℕ) → o < 256 → octet (decimal o) ≡ Some o
unfolding octet
octet_decimal o h = simp (le-leb (length (decimal o)) 3 (digits_most 2 o (omega arith)), no_zero (ltb 0 o) refl, digits_decimal o, lt-ltb o 256 h)
  where
    no_zero : (t : Bool) → ltb 0 o ≡ t → leading_zero (decimal o) ≡ false
    no_zero true e = simp (ne_eqb (get_or (decimal o) 0 0) 48 (λ z. omega (arith, no_leading_zero o (ltb-true 0 o e))), and-false)
    no_zero false e =
        let z : o ≡ 0 = omega (arith, ltb-false 0 o e) in rw (z, decimal_short 0 (omega arith))

-- an IPv4 address, read from the front: the text behind one dot, two and three
abbrev behind3 : ℕ → List ℕ
behind3 n = decimal (n % 256)

abbrev behind2 : ℕ → List ℕ
behind2 n = decimal (n / 256 % 256) ++ (46 ∷ behind3 n)

abbrev behind1 : ℕ → List ℕ
behind1 n = decimal (n / 65536 % 256) ++ (46 ∷ behind2 n)

dotted_is : (n : ℕ) → dotted n ≡ decimal (n / 16777216 % 256) ++ (46 ∷ behind1 n)
unfolding dotted
dotted_is n = simp append_assoc

-- a number of four digits to the base 256
four_digits : (n : ℕ) → n < 2 ^ 32 → (((0 * 256 + n / 16777216 % 256) * 256 + n / 65536 % 256) * 256 + n / 256 % 256) * 256 + n % 256 ≡ n
four_digits n h =
    let a : n / 256 / 256 ≡ n / 65536 = omega arith in
    let b : n / 65536 / 256 ≡ n / 16777216 = omega arith in
    let c : n / 16777216 % 256 ≡ n / 16777216 = omega arith in
    let d : n / 65536 ≡ n / 16777216 * 256 + n / 65536 % 256 = omega arith in
    let e : n / 256 ≡ n / 65536 * 256 + n / 256 % 256 = omega arith in omega arith

pub ipv4_dotted : (n : ℕ) → n < 2 ^ 32 → ipv4 (dotted n) ≡ Some n
unfolding ipv4 each number
ipv4_dotted n h =
    rw (dotted_is n)
    (simp (between (n / 16777216 % 256), between (n / 65536 % 256), between (n / 256 % 256), parts_free 46 (decimal (n % 256)) (decimal_free 46 (n % 256) refl), octet_decimal (n / 16777216 % 256) (omega arith), octet_decimal (n / 65536 % 256) (omega arith), octet_decimal (n / 256 % 256) (omega arith), octet_decimal (n % 256) (omega arith)) (ap Some z))
  where
    between : (o : ℕ) (s : List ℕ) → parts 46 (decimal o ++ (46 ∷ s)) ≡ decimal o ∷ parts 46 s
    between o s = parts_append 46 (decimal o) s (decimal_free 46 o refl)

    z : (((0 * 256 + n / 16777216 % 256) * 256 + n / 65536 % 256) * 256 + n / 256 % 256) * 256 + n % 256 ≡ n
    z = four_digits n h

-- hexadecimal digits
pub digit_back : (d : ℕ) → d < 16 → hex_digit (hex_byte d) ≡ Some d
unfolding hex_digit
digit_back d h = go (ltb d 10) refl
  where
    go : (t : Bool) → ltb d 10 ≡ t
        → cond (leb 48 (cond t (48 + d) (87 + d)) && leb (cond t (48 + d) (87 + d)) 57) (Some (cond t (48 + d) (87 + d) - 48))
        (cond (leb 65 (cond t (48 + d) (87 + d)) && leb (cond t (48 + d) (87 + d)) 70) (Some (cond t (48 + d) (87 + d) - 55))
        (cond (leb 97 (cond t (48 + d) (87 + d)) && leb (cond t (48 + d) (87 + d)) 102) (Some (cond t (48 + d) (87 + d) - 87)) None)) ≡ Some d
    go true e =
        let l : d < 10 = ltb-true d 10 e in
        let z : 48 + d - 48 ≡ d = omega arith in simp (le-leb 48 (48 + d) (omega arith), le-leb (48 + d) 57 (omega arith), z)
    go false e =
        let l : 10 ≤ d = ltb-false d 10 e in
        let z : 87 + d - 87 ≡ d = omega arith in
        simp (le-leb 48 (87 + d) (omega arith), lt-leb (87 + d) 57 (omega arith), le-leb 65 (87 + d) (omega arith), lt-leb (87 + d) 70 (omega arith), le-leb 97 (87 + d) (omega arith), le-leb (87 + d) 102 (omega arith), z)

-- a group
pub group_hex : (g : ℕ) → g < 65536 → group (hex g) ≡ Some g
unfolding group each number
group_hex g h = by_size (ltb g 16) refl (ltb g 256) refl (ltb g 4096) refl
  where
    by_size : (t : Bool) → ltb g 16 ≡ t → (u : Bool) → ltb g 256 ≡ u → (v : Bool) → ltb g 4096 ≡ v → group (hex g) ≡ Some g
    by_size true e u f v k =
        let z : 0 * 16 + g ≡ g = omega arith in rw (hex_1 g (ltb-true g 16 e)) (simp (digit_back g (ltb-true g 16 e), z))
    by_size false e true f v k =
        let l : g < 256 = ltb-true g 256 f in
        let z : (0 * 16 + g / 16) * 16 + g % 16 ≡ g = omega arith in
        rw (hex_2 g (ltb-false g 16 e) l) (simp (digit_back (g / 16) (omega arith), digit_back (g % 16) (omega arith), z))
    by_size false e false f true k =
        let l : g < 4096 = ltb-true g 4096 k in
        let z : ((0 * 16 + g / 256) * 16 + g / 16 % 16) * 16 + g % 16 ≡ g = omega arith in
        rw (hex_3 g (ltb-false g 256 f) l) (simp (digit_back (g / 256) (omega arith), digit_back (g / 16 % 16) (omega arith), digit_back (g % 16) (omega arith), z))
    by_size false e false f false k =
        let z : (((0 * 16 + g / 4096) * 16 + g / 256 % 16) * 16 + g / 16 % 16) * 16 + g % 16 ≡ g = omega arith in
        rw (hex_4 g (ltb-false g 4096 k) h)
        (simp (digit_back (g / 4096) (omega arith), digit_back (g / 256 % 16) (omega arith), digit_back (g / 16 % 16) (omega arith), digit_back (g % 16) (omega arith), z))

-- what f reads has no byte that f does not read
each_free : (f : ℕ → Option ℕ) (c : ℕ) → f c ≡ None → (s ds : List ℕ) → each f s ≡ Some ds → Free c s
unfolding each
each_free f c h [] ds e = tt
each_free f c h (b ∷ s) ds e = go (f b) refl (each f s) (each_free f c h s) e
  where
    go : (m : Option ℕ) → f b ≡ m → (n : Option (List ℕ)) → ((ds : List ℕ) → n ≡ Some ds → Free c s) → prepend m n ≡ Some ds → Free c (b ∷ s)
    go (Some d) p (Some l) ih q = (λ w. clash (sym p ∙ ap f w ∙ h), ih l refl)
      where
        clash : Some d ≡ None → ⊥
        clash w = let z : ◌≡◌ {A = ℕ} 0 1 = cc in omega arith
    go (Some d) p None ih q = let z : ◌≡◌ {A = ℕ} 0 1 = cc in absurd (omega arith)
    go None p n ih q = let z : ◌≡◌ {A = ℕ} 0 1 = cc in absurd (omega arith)

-- a group's text has digits, and only these
group_text : (p : List ℕ) (g : ℕ) → group p ≡ Some g → (1 ≤ length p) × ((c : ℕ) → hex_digit c ≡ None → Free c p)
unfolding group
group_text p g = go (leb 1 (length p)) refl (leb (length p) 4) (each hex_digit p) refl
  where
    go : (t : Bool) → leb 1 (length p) ≡ t → (u : Bool) (m : Option (List ℕ)) → each hex_digit p ≡ m → cond (t && u) (value_from 16 0 m) None ≡ Some g
        → (1 ≤ length p) × ((c : ℕ) → hex_digit c ≡ None → Free c p)
    go true e true (Some ds) f h = (leb-true 1 (length p) e, λ c z. each_free hex_digit c z p ds f)
    go true e true None f h = let z : ◌≡◌ {A = ℕ} 0 1 = cc in absurd (omega arith)
    go true e false m f h = let z : ◌≡◌ {A = ℕ} 0 1 = cc in absurd (omega arith)
    go false e u m f h = let z : ◌≡◌ {A = ℕ} 0 1 = cc in absurd (omega arith)

-- ':' and '.' are no digits
colon : hex_digit 58 ≡ None
unfolding hex_digit
colon = refl

dot : hex_digit 46 ≡ None
unfolding hex_digit
dot = refl

hex_some : (g : ℕ) → g < 65536 → 1 ≤ length (hex g)
hex_some g h = (group_text (hex g) g (group_hex g h)).0

hex_free : (c g : ℕ) → hex_digit c ≡ None → g < 65536 → Free c (hex g)
hex_free c g e h = (group_text (hex g) g (group_hex g h)).1 c e

-- groups with colons between them
joined_cons : (g h : ℕ) (gs : List ℕ) → joined (g ∷ h ∷ gs) ≡ hex g ++ (58 ∷ joined (h ∷ gs))
unfolding joined behind_colons
joined_cons g h gs = refl

joined_one : (g : ℕ) → joined (g ∷ []) ≡ hex g
unfolding joined behind_colons
joined_one g = append-nil (hex g)

pub groups_joined : (dotted : Bool) (g : ℕ) (gs : List ℕ) → Below (g ∷ gs) → groups dotted (parts 58 (joined (g ∷ gs))) ≡ Some (g ∷ gs)
unfolding groups
groups_joined dotted g [] b = rw (joined_one g, parts_free 58 (hex g) (hex_free 58 g colon b.0), group_hex g b.0)
groups_joined dotted g (h ∷ gs) b =
    rw (joined_cons g h gs, parts_append 58 (hex g) (joined (h ∷ gs)) (hex_free 58 g colon b.0))
    (groups_more dotted (hex g) (joined (h ∷ gs)) ∙ rw (group_hex g b.0, groups_joined dotted h gs b.1))

-- a side
side_some : (dotted : Bool) (s : List ℕ) → 1 ≤ length s → side dotted s ≡ groups dotted (parts 58 s)
unfolding side
side_some dotted [] h = absurd (omega arith)
side_some dotted (b ∷ s) h = refl

joined_some : (g : ℕ) (gs : List ℕ) → g < 65536 → 1 ≤ length (joined (g ∷ gs))
unfolding joined
joined_some g gs h = simp length-append (omega (arith, hex_some g h))

pub side_joined : (dotted : Bool) (gs : List ℕ) → Below gs → side dotted (joined gs) ≡ Some gs
unfolding side joined
side_joined dotted [] b = refl
side_joined dotted (g ∷ gs) b = side_some dotted (joined (g ∷ gs)) (joined_some g gs b.0) ∙ groups_joined dotted g gs b

-- "::" is not in a text without ':', nor where one ':' is followed by another byte
gap_free : (p s : List ℕ) → Free 58 p → gap (p ++ s) ≡ length p + gap s
unfolding gap
gap_free [] s f = sym (zero-add (gap s))
gap_free (b ∷ p) s f = simp (ne_eqb b 58 f.0, gap_free p s f.1) (omega arith)

gap_colon : (s : List ℕ) → (get_or s 0 0 ≡ 58 → ⊥) → gap (58 ∷ s) ≡ suc (gap s)
unfolding gap
gap_colon s h = simp (ne_eqb (get_or s 0 0) 58 h)

first_byte : (p s : List ℕ) → 1 ≤ length p → Free 58 p → get_or (p ++ s) 0 0 ≡ 58 → ⊥
first_byte [] s h f e = omega arith
first_byte (b ∷ p) s h f e = f.0 e

joined_first : (g : ℕ) (gs s : List ℕ) → g < 65536 → get_or (joined (g ∷ gs) ++ s) 0 0 ≡ 58 → ⊥
unfolding joined
joined_first g gs s h e = first_byte (hex g) (behind_colons gs ++ s) (hex_some g h) (hex_free 58 g colon h) (rw append_assoc at e)

pub gap_joined : (gs s : List ℕ) → Below gs → gap (joined gs ++ s) ≡ length (joined gs) + gap s
unfolding joined
gap_joined [] s b = sym (zero-add (gap s))
gap_joined (g ∷ []) s b = rw (joined_one g) (gap_free (hex g) s (hex_free 58 g colon b.0))
gap_joined (g ∷ h ∷ gs) s b =
    let e : gap (58 ∷ (joined (h ∷ gs) ++ s)) ≡ suc (gap (joined (h ∷ gs) ++ s)) = gap_colon (joined (h ∷ gs) ++ s) (joined_first h gs s b.1.0) in
    let f : gap (joined (h ∷ gs) ++ s) ≡ length (joined (h ∷ gs)) + gap s = gap_joined (h ∷ gs) s b.1 in
    let l : length (hex g ++ (58 ∷ joined (h ∷ gs))) ≡ length (hex g) + suc (length (joined (h ∷ gs))) = length-append (hex g) (58 ∷ joined (h ∷ gs)) in
    rw (joined_cons g h gs, append_assoc) (gap_free (hex g) (58 ∷ (joined (h ∷ gs) ++ s)) (hex_free 58 g colon b.0) ∙ omega (arith, e, f, l))

-- eight groups with no "::"
pub ipv6_joined : (gs : List ℕ) → length gs ≡ 8 → Below gs → ipv6 (joined gs) ≡ Some gs
unfolding ipv6 gap
ipv6_joined gs e b =
    let z : gap (joined gs) ≡ length (joined gs) + 0 = rw append-nil at (gap_joined gs [] b) in
    simp (le-ltb (gap (joined gs)) (length (joined gs)) (omega arith), side_joined true gs b, eq-eqb (length gs) 8 e)

-- two sides with "::" between them
pub ipv6_sides : (a b : List ℕ) → Below a → Below b → length a + length b ≤ 7
    → ipv6 (joined a ++ (58 ∷ 58 ∷ []) ++ joined b) ≡ Some (a ++ (replicate (8 - length b - length a) 0 ++ b))
unfolding ipv6 gap
ipv6_sides a b p q h =
    rw place
    (simp (lt-ltb (length (joined a)) (length (joined a ++ (58 ∷ 58 ∷ []) ++ joined b)) (simp length-append (omega arith)), left, right, side_joined false a p, side_joined true b q, le-leb (length a + length b) 7 h))
  where
    place : gap (joined a ++ (58 ∷ 58 ∷ []) ++ joined b) ≡ length (joined a)
    place = rw append_assoc (gap_joined a (58 ∷ 58 ∷ joined b) p ∙ add-zero (length (joined a)))

    left : take (length (joined a)) (joined a ++ (58 ∷ 58 ∷ []) ++ joined b) ≡ joined a
    left = rw append_assoc (take_at (joined a) (58 ∷ 58 ∷ joined b) (length (joined a)) refl)

    right : drop (length (joined a) + 2) (joined a ++ (58 ∷ 58 ∷ []) ++ joined b) ≡ joined b
    right = drop_at (joined a ++ (58 ∷ 58 ∷ [])) (joined b) (length (joined a) + 2) (length-append (joined a) (58 ∷ 58 ∷ []))

-- the run that is left out is all zero groups
zeros_take : (n : ℕ) (gs : List ℕ) → n ≤ zeros gs → take n gs ≡ replicate n 0
unfolding zeros
zeros_take zero gs h = refl
zeros_take (suc n) [] h = absurd (omega arith)
zeros_take (suc n) (g ∷ gs) h = go (eqb g 0) refl h (zeros_take n gs)
  where
    go : (t : Bool) → eqb g 0 ≡ t → suc n ≤ cond t (zeros gs + 1) 0 → (n ≤ zeros gs → take n gs ≡ replicate n 0) → g ∷ take n gs ≡ 0 ∷ replicate n 0
    go true e l ih = let z : g ≡ 0 = eqb-true g 0 e in rw (z, ih (omega arith))
    go false e l ih = absurd (omega arith)

pub run_zeros_at : (n : ℕ) (gs : List ℕ) → n ≤ longest gs → n ≤ zeros (drop (first_run n gs) gs)
unfolding first_run longest
run_zeros_at n [] h = omega arith
run_zeros_at n (g ∷ gs) h = go (leb n (zeros (g ∷ gs))) refl (run_zeros_at n gs)
  where
    go : (t : Bool) → leb n (zeros (g ∷ gs)) ≡ t → (n ≤ longest gs → n ≤ zeros (drop (first_run n gs) gs)) → n ≤ zeros (drop (cond t 0 (suc (first_run n gs))) (g ∷ gs))
    go true e ih = leb-true n (zeros (g ∷ gs)) e
    go false e ih = ih (omega (arith, leb-false n (zeros (g ∷ gs)) e))

below_take : (n : ℕ) (gs : List ℕ) → Below gs → Below (take n gs)
below_take zero gs b = tt
below_take (suc n) [] b = tt
below_take (suc n) (g ∷ gs) b = (b.0, below_take n gs b.1)

below_drop : (n : ℕ) (gs : List ℕ) → Below gs → Below (drop n gs)
below_drop zero gs b = b
below_drop (suc n) [] b = tt
below_drop (suc n) (g ∷ gs) b = below_drop n gs b.1

-- a list around a run of zero groups
pub around_run : (gs : List ℕ) (k n : ℕ) → n ≤ zeros (drop k gs) → gs ≡ take k gs ++ (replicate n 0 ++ drop (k + n) gs)
around_run gs k n h =
    sym (take-append-drop k gs)
    ∙ ap (λ (l : List ℕ). take k gs ++ l) (sym (take-append-drop n (drop k gs)) ∙ rw (zeros_take n (drop k gs) h, drop-drop n k gs))

ipv6_run : (gs : List ℕ) (k n : ℕ) → length gs ≡ 8 → Below gs → 1 ≤ n → k + n ≤ 8 → n ≤ zeros (drop k gs)
    → ipv6 (joined (take k gs) ++ (58 ∷ 58 ∷ []) ++ joined (drop (k + n) gs)) ≡ Some gs
ipv6_run gs k n e b h l z =
    ipv6_sides (take k gs) (drop (k + n) gs) (below_take k gs b) (below_drop (k + n) gs b) (omega (arith, length-take k gs, length-drop (k + n) gs))
    ∙ ap Some (rw count (sym (around_run gs k n z)))
  where
    count : 8 - length (drop (k + n) gs) - length (take k gs) ≡ n
    count = omega (arith, length-take k gs, length-drop (k + n) gs)

pub ipv6_plain : (gs : List ℕ) → length gs ≡ 8 → Below gs → ipv6 (plain gs) ≡ Some gs
unfolding plain shortened
ipv6_plain gs e b = go (leb 2 (longest gs)) refl
  where
    go : (t : Bool) → leb 2 (longest gs) ≡ t
        → ipv6 (cond t (joined (take (first_run (longest gs) gs) gs) ++ (58 ∷ 58 ∷ []) ++ joined (drop (first_run (longest gs) gs + longest gs) gs)) (joined gs)) ≡ Some gs
    go true f =
        ipv6_run gs (first_run (longest gs) gs) (longest gs) e b (omega (arith, leb-true 2 (longest gs) f)) (omega (arith, first_within gs)) (run_zeros_at (longest gs) gs (le_refl (longest gs)))
    go false f = ipv6_joined gs e b

-- the dotted tail
each_stop : (f : ℕ → Option ℕ) (c : ℕ) → f c ≡ None → (p s : List ℕ) → each f (p ++ (c ∷ s)) ≡ None
unfolding each
each_stop f c h [] s = rw h
each_stop f c h (b ∷ p) s = rw (each_stop f c h p s) (go (f b))
  where
    go : (m : Option ℕ) → prepend m None ≡ None
    go (Some d) = refl
    go None = refl

group_dotted : (n : ℕ) → group (dotted n) ≡ None
unfolding group
group_dotted n = rw z (go (leb 1 (length (dotted n)) && leb (length (dotted n)) 4))
  where
    z : each hex_digit (dotted n) ≡ None
    z = rw (dotted_is n) (each_stop hex_digit 46 dot (decimal (n / 16777216 % 256)) (behind1 n))

    go : (t : Bool) → cond {A = Option ℕ} t None None ≡ None
    go true = refl
    go false = refl

dotted_free : (c n : ℕ) → is_digit c ≡ false → (46 ≡ c → ⊥) → Free c (dotted n)
dotted_free c n h d =
    subst (Free c) (sym (dotted_is n))
    (next (n / 16777216 % 256) (behind1 n) (next (n / 65536 % 256) (behind2 n) (next (n / 256 % 256) (behind3 n) (decimal_free c (n % 256) h))))
  where
    next : (o : ℕ) (s : List ℕ) → Free c s → Free c (decimal o ++ (46 ∷ s))
    next o s f = free_append c (decimal o) (46 ∷ s) (decimal_free c o h) (d, f)

-- four zero groups, one more, ffff, and the last 32 bits
mapped_groups : (l : ℕ) → l / 4294967296 ≡ 65535 → quarters l ≡ 0 ∷ 65535 ∷ l % 4294967296 / 65536 ∷ l % 4294967296 % 65536 ∷ []
mapped_groups l h =
    let a : l / 281474976710656 ≡ 0 = omega arith in
    let b : l / 4294967296 % 65536 ≡ 65535 = omega arith in
    let c : l / 65536 % 65536 ≡ l % 4294967296 / 65536 = omega arith in
    let d : l % 65536 ≡ l % 4294967296 % 65536 = omega arith in rw (a, b, c, d)

mapped_left : (a b : ℕ) → filled (side false []) (Some (65535 ∷ a ∷ b ∷ [])) ≡ Some (0 ∷ 0 ∷ 0 ∷ 0 ∷ 0 ∷ 65535 ∷ a ∷ b ∷ [])
unfolding side
mapped_left a b = refl

ffff : group (102 ∷ 102 ∷ 102 ∷ 102 ∷ []) ≡ Some 65535
unfolding group each number hex_digit
ffff = refl

mapped_right : (m : ℕ) → m < 2 ^ 32 → side true (102 ∷ 102 ∷ 102 ∷ 102 ∷ 58 ∷ dotted m) ≡ Some (65535 ∷ m / 65536 ∷ m % 65536 ∷ [])
unfolding side groups
mapped_right m h =
    rw (parts_append 58 (102 ∷ 102 ∷ 102 ∷ 102 ∷ []) (dotted m) f, parts_free 58 (dotted m) (dotted_free 58 m refl (λ z. omega arith)), ffff, group_dotted m, ipv4_dotted m h)
  where
    f : Free 58 (102 ∷ 102 ∷ 102 ∷ 102 ∷ [])
    f = ((λ z. omega arith), ((λ z. omega arith), ((λ z. omega arith), ((λ z. omega arith), tt))))

pub ipv6_mapped : (l : ℕ) → l / 4294967296 ≡ 65535 → ipv6 (mapped l) ≡ Some (groups_of 0 l)
unfolding ipv6 mapped gap
ipv6_mapped l h =
    simp (lt-ltb 0 (length (58 ∷ 58 ∷ 102 ∷ 102 ∷ 102 ∷ 102 ∷ 58 ∷ dotted (l % 4294967296))) (omega arith))
    (ap (filled (side false [])) (mapped_right (l % 4294967296) (omega arith))
    ∙ mapped_left (l % 4294967296 / 65536) (l % 4294967296 % 65536)
    ∙ rw (mapped_groups l h))

-- the halves of the groups
half_small : (x : ℕ) → x < 2 ^ 64 → Below (quarters x)
half_small x h = (omega arith, (omega arith, (omega arith, (omega arith, tt))))

half_back : (x : ℕ) → x < 2 ^ 64 → number 65536 0 (quarters x) ≡ x
unfolding number
half_back x h =
    let a : x / 65536 / 65536 ≡ x / 4294967296 = omega arith in
    let b : x / 4294967296 / 65536 ≡ x / 281474976710656 = omega arith in
    let d : x / 4294967296 ≡ x / 281474976710656 * 65536 + x / 4294967296 % 65536 = omega arith in
    let e : x / 65536 ≡ x / 4294967296 * 65536 + x / 65536 % 65536 = omega arith in omega arith

-- no IPv6 text is an IPv4 address
ipv4_no_dot : (s : List ℕ) → Free 46 s → ipv4 s ≡ None
unfolding ipv4 each
ipv4_no_dot s f = rw (parts_free 46 s f) (go (octet s))
  where
    go : (m : Option ℕ) → four (prepend m (Some [])) ≡ None
    go (Some o) = refl
    go None = refl

ipv4_colon : (s : List ℕ) → ipv4 (58 ∷ s) ≡ None
unfolding ipv4 each before octet digits behind
ipv4_colon s = rw (parts_cons 46 (58 ∷ s)) (go (leb (suc (length (before 46 s))) 3 && not (leading_zero (58 ∷ before 46 s))))
  where
    go : (t : Bool) → four (prepend (cond t None None) (each octet (later 46 (58 ∷ s)))) ≡ None
    go true = refl
    go false = refl

mapped_not_4 : (l : ℕ) → ipv4 (mapped l) ≡ None
unfolding mapped
mapped_not_4 l = ipv4_colon (58 ∷ 102 ∷ 102 ∷ 102 ∷ 102 ∷ 58 ∷ dotted (l % 4294967296))

colons_free : (c : ℕ) → hex_digit c ≡ None → (58 ≡ c → ⊥) → (gs : List ℕ) → Below gs → Free c (behind_colons gs)
unfolding behind_colons
colons_free c h d [] b = tt
colons_free c h d (g ∷ gs) b = (d, free_append c (hex g) (behind_colons gs) (hex_free c g h b.0) (colons_free c h d gs b.1))

pub joined_free : (c : ℕ) → hex_digit c ≡ None → (58 ≡ c → ⊥) → (gs : List ℕ) → Below gs → Free c (joined gs)
unfolding joined
joined_free c h d [] b = tt
joined_free c h d (g ∷ gs) b = free_append c (hex g) (behind_colons gs) (hex_free c g h b.0) (colons_free c h d gs b.1)

plain_free : (gs : List ℕ) → Below gs → Free 46 (plain gs)
unfolding plain shortened
plain_free gs b = go (leb 2 (longest gs)) (first_run (longest gs) gs) (longest gs)
  where
    no : (hs : List ℕ) → Below hs → Free 46 (joined hs)
    no = joined_free 46 dot (λ z. omega arith)

    go : (t : Bool) (k n : ℕ) → Free 46 (cond t (joined (take k gs) ++ (58 ∷ 58 ∷ []) ++ joined (drop (k + n) gs)) (joined gs))
    go true k n =
        free_append 46 (joined (take k gs) ++ (58 ∷ 58 ∷ [])) (joined (drop (k + n) gs))
        (free_append 46 (joined (take k gs)) (58 ∷ 58 ∷ []) (no (take k gs) (below_take k gs b)) ((λ z. omega arith), ((λ z. omega arith), tt)))
        (no (drop (k + n) gs) (below_drop (k + n) gs b))
    go false k n = no gs b

-- an address whose numbers are within their types
abbrev pub Fit : IpAddr → Type 0
Fit (V4 n) = n < 2 ^ 32
Fit (V6 u l) = (u < 2 ^ 64) × (l < 2 ^ 64)

-- what is printed of an address reads as that address
pub address_back : (a : IpAddr) → Fit a → address (address_text a) ≡ Some a
unfolding address address_text ipv6_text
address_back (V4 n) h = rw (ipv4_dotted n h)
address_back (V6 u l) h = go (eqb u 0) refl (eqb (l / 4294967296) 65535) refl
  where
    small : Below (groups_of u l)
    small = below_append (quarters u) (quarters l) (half_small u h.0) (half_small l h.1)

    back : (x : Option (List ℕ)) → x ≡ Some (groups_of u l) → either None x ≡ Some (V6 u l)
    back x e = rw e (ap Some (rw (half_back u h.0, half_back l h.1)))

    other : address (plain (groups_of u l)) ≡ Some (V6 u l)
    other = rw (ipv4_no_dot (plain (groups_of u l)) (plain_free (groups_of u l) small)) (back (ipv6 (plain (groups_of u l))) (ipv6_plain (groups_of u l) refl small))

    go : (s : Bool) → eqb u 0 ≡ s → (t : Bool) → eqb (l / 4294967296) 65535 ≡ t → address (cond (s && t) (mapped l) (plain (groups_of u l))) ≡ Some (V6 u l)
    go true e true f =
        let z : u ≡ 0 = eqb-true u 0 e in
        rw (mapped_not_4 l) (back (ipv6 (mapped l)) (ipv6_mapped l (eqb-true (l / 4294967296) 65535 f) ∙ rw z))
    go true e false f = other
    go false e t f = other

-- what is printed of a valid prefix reads as that prefix
length_back : (w m n : ℕ) → n < 10 ^ suc w → n ≤ m → length_of (suc w) m (decimal n) ≡ Some n
unfolding length_of
length_back w m n h l = simp (le-leb (length (decimal n)) (suc w) (digits_most w n h), digits_decimal n, lt-ltb n (m + 1) (omega arith))

length_for_lem : (a : IpAddr) (n : ℕ) → n ≤ bits a → length_for a (decimal n) ≡ Some n
length_for_lem (V4 k) n h = length_back 1 32 n (omega arith) h
length_for_lem (V6 u l) n h = length_back 2 128 n (omega arith) h

pub prefix_back : (p : NetworkPrefix) → Fit p.addr → p.len ≤ bits p.addr → prefix (prefix_text p) ≡ Some p
unfolding prefix prefix_text
prefix_back p f h =
    rw place
    (simp (lt-ltb (length (address_text p.addr)) (length (address_text p.addr ++ (47 ∷ []) ++ decimal p.len)) (simp length-append (omega arith)), left, right, address_back p.addr f, length_for_lem p.addr p.len h))
  where
    place : last_place 47 (address_text p.addr ++ (47 ∷ []) ++ decimal p.len) ≡ length (address_text p.addr)
    place = rw append_assoc (last_append 47 (address_text p.addr) (decimal p.len) (decimal_free 47 p.len refl))

    left : take (length (address_text p.addr)) (address_text p.addr ++ (47 ∷ []) ++ decimal p.len) ≡ address_text p.addr
    left = rw append_assoc (take_at (address_text p.addr) (47 ∷ decimal p.len) (length (address_text p.addr)) refl)

    right : drop (length (address_text p.addr) + 1) (address_text p.addr ++ (47 ∷ []) ++ decimal p.len) ≡ decimal p.len
    right = drop_at (address_text p.addr ++ (47 ∷ [])) (decimal p.len) (length (address_text p.addr) + 1) (length-append (address_text p.addr) (47 ∷ []))

-- the same of the answers that reading gives
pub read_address_back : (a : IpAddr) → Fit a → read_address (address_text a) ≡ Some a
read_address_back a f = (address_back a f)

pub read_prefix_back : (p : NetworkPrefix) → Fit p.addr → valid_prefix p ≡ true → read_prefix (prefix_text p) ≡ Some p
read_prefix_back p f h = (prefix_back p f (leb-true p.len (bits p.addr) h))
