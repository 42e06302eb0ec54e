-- Laws of an element's line: its parts written and put together, and its fields joined.
use Rattle.std.specs.Prelude.{Option, Some, None, option_map, Ok, Err}
use mathlib.Core.Path.{◌≡◌, refl, sym, ap, ◌∙◌}
use mathlib.Core.List.{List, [], ◌∷◌, ◌++◌, append_assoc}
use mathlib.Core.Bool.{Bool, true, false}
use Prim.Native.Nat.{ℕ, ◌+◌, ◌-◌, ◌≤◌, ◌<◌}
use native.Mathlib.Numerals.{add-one}
use native.Mathlib.Omega.{arith}
use lib.ListN.{length, get_or, drop, length-append, drop_of_length-le}
use lib.Seq.{drop-cons}
use lib.Dec.{leb}
use borrow.Author.Tests.{le-leb, lt-leb, leb-true, leb-false}
use Rattle.scan.specs.Ascii.{ascii}
use Rattle.decimal_display.specs.Printed.{decimal}
use Rattle.output.specs.Writing.{Writes}
use Rattle.output.specs.declared.Writer.{Writer}
use Rattle.output.proofs.Output.{kept}
use Rattle.output.proofs.Writing.{place, put}
use Rattle.network.specs.declared.Asn.{Asn}
use Rattle.network_display.specs.Text.{address_text, prefix_text}
use Rattle.seconds.specs.Seconds.{second_of}
use Rattle.aspath_display.specs.Display.{lead, separated}
use Rattle.elem.specs.Element.{spoilt, numbers}
use Rattle.elem.specs.declared.Element.{Element}
use Rattle.psv.specs.declared.ElementError.TheVariants.{TooShort}
use Rattle.psv.specs.Line.{header_text, bar, type_text, time_text, sequence_text, asn_text, origin_text, number_text, psv_text, display_text, front_text, between_text, attributes_of, attributes_text, tail_text, line_text, Printed}

-- an AS number is a number
pub asn_number : (x : Option Asn) → number_text (option_map (λ (a : Asn). a.0) x) ≡ asn_text x
unfolding asn_text number_text
asn_number (Some a) = refl
asn_number None = refl

-- a number's length taken from the room that is left
leb_shift : (n a room : ℕ) → n ≤ room → leb (n + a) room ≡ leb a (room - n)
leb_shift n a room h = go (leb a (room - n)) refl
  where
    go : (t : Bool) → leb a (room - n) ≡ t → leb (n + a) room ≡ t
    go true k = le-leb (n + a) room (omega (arith, leb-true a (room - n) k))
    go false k = lt-leb (n + a) room (omega (arith, leb-false a (room - n) k))

module _ (first x : Bool) (s : List ℕ) (i left : ℕ) (known : x ≡ leb (length (separated 32 decimal first (drop i s))) left) where
  module _ (h : i < length s) (n : ℕ) (e : n ≡ length (lead first 32 ++ decimal (get_or s i 0))) where
    next : length (separated 32 decimal first (drop i s)) ≡ n + length (separated 32 decimal false (drop (i + 1) s))
    unfolding separated
    next = rw (add-one, drop-cons s i 0 h, e) (length-append (lead first 32 ++ decimal (get_or s i 0)) _)

    pub room_more : n ≤ left → x ≡ leb (length (separated 32 decimal false (drop (i + 1) s))) (left - n)
    room_more l = known ∙ rw next (leb_shift n _ left l)

    pub room_none : ¬ (n ≤ left) → false ≡ x
    room_none l = sym (known ∙ lt-leb _ _ (omega (arith, next, l)))

  pub room_end : length s ≤ i → true ≡ x
  unfolding separated
  room_end h = sym (known ∙ rw (drop_of_length-le s h) (le-leb 0 left (omega arith)))

-- the first number has no space before it
module _ (x : ℕ) (rest : List ℕ) (n room : ℕ) (e : n ≡ length (decimal x)) where
  whole : length (separated 32 decimal true (x ∷ rest)) ≡ n + length (separated 32 decimal false rest)
  unfolding separated
  whole = rw e (length-append (decimal x) (separated 32 decimal false rest))

  pub first_more : n ≤ room → leb (length (separated 32 decimal true (x ∷ rest))) room ≡ leb (length (separated 32 decimal false rest)) (room - n)
  first_more h = rw whole (leb_shift n _ room h)

  pub first_none : ¬ (n ≤ room) → false ≡ leb (length (separated 32 decimal true (x ∷ rest))) room
  first_none h = sym (lt-leb _ _ (omega (arith, whole, h)))

pub none_fit : (ns : List ℕ) (room : ℕ) → length ns ≡ 0 → true ≡ leb (length (separated 32 decimal true ns)) room
unfolding separated
none_fit [] room e = sym (le-leb 0 room (omega arith))
none_fit (x ∷ ns) room e = absurd (omega (arith, e))

-- the line that ends so, of an element that is not spoilt; n bytes stand before its path
module _ (begin tail : List ℕ) (e : Element) (asns out : List ℕ) (r : Bool) (told : r ≡ spoilt e asns) (sound : r ≡ false) (n : ℕ) (size : n ≡ length begin) where
  abbrev text : List ℕ
  text = begin ++ sequence_text (numbers e asns) ++ tail

  text_length : length text ≡ n + length tail + length (sequence_text (numbers e asns))
  text_length = simp length-append (omega arith)

  short : length out < length text → Printed (spoilt e asns) text out (Err TooShort) out
  short l =
      let z : spoilt e asns ≡ false = sym told ∙ sound in
      record { told = rw z (simp (lt-leb (length text) (length out) l)); left = rw z (kept text out (length text) refl l) }

  pub no_ends : ¬ (n + length tail ≤ length out) → Printed (spoilt e asns) text out (Err TooShort) out
  no_ends l = short (omega (arith, text_length, l))

  module _ (room : ℕ) (ends : n + length tail ≤ length out) (is : room ≡ length out - (n + length tail)) (b : Bool)
      (fits : b ≡ leb (length (sequence_text (numbers e asns))) room) where
    pub no_path : b ≡ false → Printed (spoilt e asns) text out (Err TooShort) out
    no_path f = short (omega (arith, text_length, leb-false (length (sequence_text (numbers e asns))) room (sym fits ∙ f)))

    pub line_put : b ≡ true → (w v : Writer) → w.out.now ≡ out → w.at ≡ 0 → Writes text w v → (x : List ℕ) → x ≡ v.out.now
        → Printed (spoilt e asns) text out (Ok v.at) x
    line_put f w v o start c x y =
        let z : spoilt e asns ≡ false = sym told ∙ sound in
        let l : length text ≤ length out = omega (arith, text_length, leb-true (length (sequence_text (numbers e asns))) room (sym fits ∙ f)) in
        let a : v.at ≡ length text = place c start (rw o l) in
        let p = put {t = text} {x = x} {n = length text} start o refl l c y in
        record { told = rw z (simp (le-leb (length text) (length out) l) (ap Ok a)); left = rw z p.1 }

-- the header
pub header_is : header_text ≡ ascii "type|timestamp|peer_ip|peer_asn|prefix|as_path|origin_asns|origin|next_hop|local_pref|med|communities|atomic|aggr_asn|aggr_ip|only_to_customer"
unfolding header_text separated
header_is = refl

-- the fields joined are the parts one after another
to_the_right : (x a b c d f p q g h i j z : List ℕ)
    → a ++ x ++ b ++ x ++ c ++ x ++ d ++ (x ++ f ++ x) ++ p ++ (x ++ q ++ (x ++ g ++ x ++ h ++ x ++ i ++ x ++ j ++ z) ++ x)
    ≡ a ++ (x ++ (b ++ (x ++ (c ++ (x ++ (d ++ (x ++ (f ++ (x ++ (p ++ (x ++ (q ++ (x ++ (g ++ (x ++ (h ++ (x ++ (i ++ (x ++ (j ++ (z ++ x)))))))))))))))))))))
to_the_right x a b c d f p q g h i j z = simp append_assoc

to_the_right_14 : (x a b c d f p g h i j z : List ℕ)
    → a ++ x ++ b ++ x ++ c ++ x ++ d ++ (x ++ f ++ x) ++ p ++ (x ++ g ++ x ++ h ++ x ++ i ++ x ++ j ++ z)
    ≡ a ++ (x ++ (b ++ (x ++ (c ++ (x ++ (d ++ (x ++ (f ++ (x ++ (p ++ (x ++ (g ++ (x ++ (h ++ (x ++ (i ++ (x ++ (j ++ z))))))))))))))))))
to_the_right_14 x a b c d f p g h i j z = simp append_assoc

join16 : (a b c d f p q g h i j : List ℕ)
    → a ++ bar ++ b ++ bar ++ c ++ bar ++ d ++ (bar ++ f ++ bar) ++ p ++ (bar ++ q ++ (bar ++ g ++ bar ++ h ++ bar ++ i ++ bar ++ j ++ ascii "||false||") ++ bar)
    ≡ separated 124 (λ (t : List ℕ). t) true (a ∷ b ∷ c ∷ d ∷ f ∷ p ∷ q ∷ g ∷ h ∷ i ∷ j ∷ [] ∷ ascii "false" ∷ [] ∷ [] ∷ [] ∷ [])
unfolding separated
join16 a b c d f p q g h i j = to_the_right bar a b c d f p q g h i j (ascii "||false||")

join14 : (a b c d f p g h i j : List ℕ)
    → a ++ bar ++ b ++ bar ++ c ++ bar ++ d ++ (bar ++ f ++ bar) ++ p ++ (bar ++ g ++ bar ++ h ++ bar ++ i ++ bar ++ j ++ ascii "||false||")
    ≡ separated 124 (λ (t : List ℕ). t) true (a ∷ b ∷ c ∷ d ∷ f ∷ p ∷ g ∷ h ∷ i ∷ j ∷ [] ∷ ascii "false" ∷ [] ∷ [] ∷ [])
unfolding separated
join14 a b c d f p g h i j = to_the_right_14 bar a b c d f p g h i j (ascii "||false||")

pub psv_line : (e : Element) (asns : List ℕ) → line_text (tail_text e) e asns ≡ psv_text e asns
unfolding between_text front_text tail_text attributes_text psv_text
psv_line e asns =
    join16 (type_text e.announce) (time_text (second_of e.timestamp)) (address_text e.peer_ip) (decimal e.peer_asn.0) (prefix_text e.prefix) (sequence_text (numbers e asns)) (asn_text e.origin_asn) (origin_text e.origin) (address_text e.next_hop) (number_text e.local_pref) (number_text e.metric)

pub display_line : (e : Element) (asns : List ℕ) → line_text (attributes_text (attributes_of e)) e asns ≡ display_text e asns
unfolding between_text front_text attributes_text display_text
display_line e asns =
    join14 (type_text e.announce) (time_text (second_of e.timestamp)) (address_text e.peer_ip) (decimal e.peer_asn.0) (prefix_text e.prefix) (sequence_text (numbers e asns)) (origin_text e.origin) (address_text e.next_hop) (number_text e.local_pref) (number_text e.metric)
