-- Texts at the front of the lent list: a refusal, the PSV header, an element's line.
use Rattle.std.specs.Prelude.{Result, Ok, Err}
use Rattle.std.proofs.Common.{◌≡◌, ℕ, ◌<◌, ◌≤◌, Bool, true, false, cond, ltb, leb, List, [], ◌++◌, length, take, drop, sym, refl, ap, ◌∙◌, subst, append_assoc, zero-add, arith, length-append, take-append-drop, length-take, take-take, take_at, drop_at, w64, Fits, ltb-false, ltb-true, le-ltb, lt-ltb, leb-false, leb-true}
use lib.Seq.{drop-append-le}
use Rattle.scan.specs.Ascii.{ascii}
use Rattle.decimal_display.specs.Printed.{decimal}
use Rattle.output.specs.Output.{Written, front, answer}
use Rattle.output.specs.Writing.{Writes}
use Rattle.output.specs.declared.Writer.{Writer}
use Rattle.output.specs.declared.PutError.{PutError}
use Rattle.output.specs.declared.PutError.TheVariants.{TooShort as NoRoom}
use Rattle.decimal_display.proofs.Printed.{digits_most}
use Rattle.output.proofs.Output.{then, all_written, overwrite_all, room_all}
use Rattle.output.proofs.Writing.{then as writes_then}
use Rattle.elem.specs.Element.{spoilt}
use Rattle.elem.specs.declared.Element.{Element}
use Rattle.aspath_display.specs.Display.{separated}
use Rattle.psv.specs.Line.{header_text, psv_text, Printed}
use Rattle.std.specs.Result.{IsErrAnd, result_unwrap_or}
use Rattle.psv.specs.declared.ElementError.{ElementError}
use Rattle.psv.specs.declared.ElementError.TheVariants.{Spoilt, TooShort}
use Rattle.psv_stream.specs.Printed.{feed, refusal_text}
use Rattle.psv_stream.specs.Parts.{Puts, PutElement}

-- a writer that has room puts its text
module _ (t out new : List ℕ) (w : ℕ) where
  pub puts : Written t out 0 new w → length t ≤ length out → Puts t out new w
  puts v h =
      let z = all_written t out new 0 w v (omega arith) in
      let n : w ≡ length t = omega (arith, z.1) in
      (n, omega arith, z.0 ∙ rw (zero-add, n))

  -- and what is put, is the front of the list
  pub put_text : Puts t out new w → take w new ≡ t
  put_text p = rw p.2 (take_at t (drop w out) w (sym p.0))

  pub put_behind : Puts t out new w → drop w new ≡ drop w out
  put_behind p = rw p.2 (drop_at t (drop w out) w (sym p.0))

-- what a writer did, of the lent list afterwards
pub written_by : {t x : List ℕ} {w₀ w : Writer} → Writes t w₀ w → x ≡ w.out.now → Written t w₀.out.now w₀.at x w.at
written_by c e = rw e c.written

pub puts_none : (out : List ℕ) → Puts [] out out 0
puts_none out = (refl, omega arith, refl)

-- a refusal
short : (n : ℕ) → Fits w64 n → length (decimal n) ≤ 20
short n f = digits_most 19 n (omega (arith, f.fits))

refusal_is : (d e : List ℕ) → ascii "refused=" ++ d ++ (feed ++ ascii "line=") ++ e ++ feed ≡ ascii "refused=" ++ d ++ feed ++ ascii "line=" ++ e ++ feed
refusal_is d e = ap (λ (x : List ℕ). x ++ e ++ feed) (sym (append_assoc (ascii "refused=" ++ d) feed (ascii "line=")))

module _ (number line : ℕ) where
  refusal_short : Fits w64 number → Fits w64 line → length (refusal_text number line) ≤ 55
  unfolding refusal_text
  refusal_short f g = simp length-append (omega (arith, short number f, short line g))

  pub refuses : {x : List ℕ} {w₀ w₁ w₂ w₃ w₄ w : Writer} → w₀.at ≡ 0 → 65537 ≤ length w₀.out.now → Fits w64 number → Fits w64 line
      → Writes (ascii "refused=") w₀ w₁ → Writes (decimal number) w₁ w₂ → Writes (feed ++ ascii "line=") w₂ w₃ → Writes (decimal line) w₃ w₄ → Writes feed w₄ w
      → x ≡ w.out.now → Puts (refusal_text number line) w₀.out.now x w.at
  unfolding refusal_text
  refuses {x} {w₀} {w = w} z h f g a b c d e k =
      let v : Writes (refusal_text number line) w₀ w = rw (← refusal_is (decimal number) (decimal line)) (writes_then (writes_then (writes_then (writes_then a b) c) d) e) in
      let u : Written (refusal_text number line) w₀.out.now w₀.at x w.at = written_by v k in
      puts (refusal_text number line) w₀.out.now x w.at (rw z at u) (omega (arith, refusal_short f g))

-- a text that a call measured and put, and a line feed behind it
front_written : (t out : List ℕ) → length t ≤ length out → Written t out 0 (t ++ drop (length t) out) (length t)
front_written t out h =
    record {
      list = sym (overwrite_all out 0 t (omega arith) ∙ rw zero-add);
      place = omega (arith, room_all out 0 t (omega arith));
    }

with_feed : (t out new : List ℕ) (w : ℕ) → length t < length out → Written feed (t ++ drop (length t) out) (length t) new w → Puts (t ++ feed) out new w
with_feed t out new w h v = puts (t ++ feed) out new w (then (front_written t out (omega arith)) v) (rw length-append (omega arith))

-- a call that measures its text, by its answer
abbrev pub Told : List ℕ → List ℕ → List ℕ → Result ℕ PutError → Type 0
Told t out new (Ok n) = (n ≡ length t) × (length t ≤ length out) × (new ≡ t ++ drop (length t) out)
Told t out new (Err NoRoom) = (length out < length t) × (new ≡ out)

pub told_by : (t out new : List ℕ) (r : Result ℕ PutError) → (r ≡ answer t out) × (new ≡ front t out) → Told t out new r
unfolding answer front
told_by t out new r told = subst (Told t out new) (sym told.0) (go (leb (length t) (length out)) refl told.1)
  where
    go : (b : Bool) → leb (length t) (length out) ≡ b → new ≡ cond b (t ++ drop (length t) out) out → Told t out new (cond b (Ok (length t)) (Err NoRoom))
    go true e h = (refl, leb-true (length t) (length out) e, h)
    go false e h = (leb-false (length t) (length out) e, h)

-- the same of one that tests its element first
abbrev Said : Bool → List ℕ → List ℕ → List ℕ → Result ℕ ElementError → Type 0
Said s t out new (Ok n) = (s ≡ false) × Told t out new (Ok n)
Said s t out new (Err Spoilt) = (s ≡ true) × (new ≡ out)
Said s t out new (Err TooShort) = (s ≡ false) × Told t out new (Err NoRoom)

said_by : (s : Bool) (t out new : List ℕ) (r : Result ℕ ElementError) → Printed s t out r new → Said s t out new r
unfolding front
said_by s t out new r p = subst (Said s t out new) (sym p.told) (go s (leb (length t) (length out)) refl p.left)
  where
    go : (s b : Bool) → leb (length t) (length out) ≡ b → new ≡ cond s out (cond b (t ++ drop (length t) out) out)
        → Said s t out new (cond s (Err Spoilt) (cond b (Ok (length t)) (Err TooShort)))
    go true b e h = (refl, h)
    go false true e h = (refl, (refl, leb-true (length t) (length out) e, h))
    go false false e h = (refl, (leb-false (length t) (length out) e, h))

-- the PSV header
header_length : length header_text ≡ 142
unfolding header_text separated
header_length = refl

module _ (out : List ℕ) (room : 65537 ≤ length out) (o new : List ℕ) (w : ℕ) where
  header_told : (r : Result ℕ PutError) → Told header_text out o r → (n : ℕ) → n ≡ result_unwrap_or r 0 → Written feed o n new w → Puts (header_text ++ feed) out new w
  header_told (Ok k) z n e v = with_feed header_text out new w (omega (arith, header_length)) (rw (z.2, e, z.0) at v)
  header_told (Err NoRoom) z n e v = absurd (omega (arith, header_length, z.0))

  -- there is room for it, so the call answers its length
  pub header_put : (r : Result ℕ PutError) → (r ≡ answer header_text out) × (o ≡ front header_text out) → (n : ℕ) → n ≡ result_unwrap_or r 0 → Written feed o n new w
      → Puts (header_text ++ feed) out new w
  header_put r told = header_told r (told_by header_text out o r told)

-- a text put to the first 65,536 bytes, and a line feed behind it
module _ (out part : List ℕ) (room : 65537 ≤ length out) where
  part_length : length (take 65536 out) ≡ 65536
  part_length = simp length-take (omega arith)

  pub part_put : (t : List ℕ) (n : ℕ) → Told t (take 65536 out) part (Ok n) → (new : List ℕ) (w : ℕ)
      → Written feed (part ++ drop 65536 out) n new w → (length t ≤ 65536) × Puts (t ++ feed) out new w
  part_put t n z new w v =
      let h : length t ≤ 65536 = omega (arith, part_length, z.1) in
      let o : part ++ drop 65536 out ≡ t ++ drop (length t) out =
      rw (z.2, append_assoc, ← drop-append-le (length t) (take 65536 out) (drop 65536 out) (omega (arith, part_length)), take-append-drop) in
      (h, with_feed t out new w (omega arith) (rw (o, z.0) at v))

  -- and where there is no room for it
  pub whole_again : part ≡ take 65536 out → part ++ drop 65536 out ≡ out
  whole_again f = rw f (take-append-drop 65536 out)

-- an element's line, printed to the first 65,536 bytes
module _ (e : Element) (asns out part : List ℕ) (r : Result ℕ ElementError) (room : 65537 ≤ length out) (p : Printed (spoilt e asns) (psv_text e asns) (take 65536 out) r part) where
  abbrev text : List ℕ
  text = psv_text e asns

  said : (q : Result ℕ ElementError) → r ≡ q → Said (spoilt e asns) text (take 65536 out) part q
  said q f = subst (Said (spoilt e asns) text (take 65536 out) part) f (said_by (spoilt e asns) text (take 65536 out) part r p)

  pub element_put : (n : ℕ) → r ≡ Ok n → (new : List ℕ) (w : ℕ) → Written feed (part ++ drop 65536 out) n new w → PutElement e asns out new (Ok w)
  element_put n f new w v =
      let z = said (Ok n) f in
      let y = part_put out part room text n z.1 new w v in
      (z.0, y.0, y.1)

  pub element_spoilt : r ≡ (Err Spoilt) → PutElement e asns out (part ++ drop 65536 out) (Err Spoilt)
  element_spoilt f = let z = said (Err Spoilt) f in (z.0, whole_again out part room z.1)

  pub element_short : r ≡ (Err TooShort) → PutElement e asns out (part ++ drop 65536 out) (Err TooShort)
  element_short f = let z = said (Err TooShort) f in (z.0, omega (arith, part_length out part room, z.1.0), whole_again out part room z.1.1)

  pub element_failed : (z : ElementError) → r ≡ Err z → (q : Result ℕ ElementError) → IsErrAnd q (λ y. y ≡ z) → PutElement e asns out (part ++ drop 65536 out) q
  element_failed z f (Ok w) g = absurd g
  element_failed Spoilt f (Err y) g = rw g (element_spoilt f)
  element_failed TooShort f (Err y) g = rw g (element_short f)

-- only the first so many of the lent AS numbers are the element's
few : (n : ℕ) (l : List ℕ) → ltb (length (take n l)) n ≡ ltb (length l) n
few n l = go (ltb (length l) n) refl
  where
    go : (b : Bool) → ltb (length l) n ≡ b → ltb (length (take n l)) n ≡ b
    go true e = lt-ltb (length (take n l)) n (rw length-take (omega (arith, ltb-true (length l) n e)))
    go false e = le-ltb (length (take n l)) n (rw length-take (omega (arith, ltb-false (length l) n e)))

module _ (e : Element) (asns : List ℕ) where
  pub text_taken : psv_text e (take e.count asns) ≡ psv_text e asns
  unfolding psv_text
  text_taken = rw (take-take e.count e.count asns (omega arith))

  pub spoilt_taken : spoilt e (take e.count asns) ≡ spoilt e asns
  unfolding spoilt
  spoilt_taken = rw (few e.count asns)
