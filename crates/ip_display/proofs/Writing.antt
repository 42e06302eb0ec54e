-- Laws of writing addresses.
use mathlib.Core.Path.{◌≡◌, refl, sym, ap, ◌∙◌}
use mathlib.Core.List.{List, [], ◌∷◌, ◌++◌}
use mathlib.Core.Bool.{Bool, true, false, cond, ◌&&◌}
use Prim.Native.Nat.{ℕ, zero, suc, ◌+◌, ◌-◌, ◌*◌, ◌/◌, ◌%◌, ◌≤◌, ◌<◌, max}
use native.Mathlib.Numerals.{add-one}
use native.Mathlib.Nat.{zero-add, le_refl}
use native.Mathlib.Omega.{arith}
use lib.ListN.{length, get_or, take, drop, length-append, length-take, length-drop, drop_of_length-le}
use lib.Seq.{drop-cons, take_all}
use lib.Dec.{eqb, leb, ltb}
use borrow.Author.Tests.{le-ltb, lt-ltb, lt-leb, le-leb, eq-eqb, ne_eqb, leb-true, leb-false}
use Rattle.decimal_display.specs.Printed.{decimal}
use Rattle.output.specs.Writing.{Writes}
use Rattle.output.specs.declared.Writer.{Writer}
use Rattle.decimal_display.proofs.Printed.{decimal_short, decimal_long, digits_most}
use Rattle.output.proofs.Writing.{then, nothing, Left, next_left, none_left}
use Rattle.ip_display.specs.Groups.{groups_of, counted, zeros, longest, first_run}
use Rattle.ip_display.specs.Text.{before_dot, dotted, hex_byte, hexes, hex, behind_colons, joined, shortened, plain, is_mapped, mapped, ipv6_text}

-- the table of the digits: a list of f 0, f 1 and so on has f i at the place i
listed : (ℕ → ℕ) → ℕ → List ℕ
listed f zero = []
listed f (suc n) = f 0 ∷ listed (λ i. f (suc i)) n

listed_at : (f : ℕ → ℕ) (n i : ℕ) → i < n → get_or (listed f n) i 0 ≡ f i
unfolding listed
listed_at f zero i h = absurd (omega arith)
listed_at f (suc n) zero h = refl
listed_at f (suc n) (suc i) h = listed_at (λ j. f (suc j)) n i (omega arith)

pub digit_of : (d : ℕ) → d < 16
    → get_or (48 ∷ 49 ∷ 50 ∷ 51 ∷ 52 ∷ 53 ∷ 54 ∷ 55 ∷ 56 ∷ 57 ∷ 97 ∷ 98 ∷ 99 ∷ 100 ∷ 101 ∷ 102 ∷ []) d 0 ≡ hex_byte d
unfolding listed
digit_of d h = listed_at hex_byte 16 d h

-- a group by its number of digits
hex_long : (k n : ℕ) → 16 ≤ n → hexes (suc k) n ≡ hexes k (n / 16) ++ (hex_byte (n % 16) ∷ [])
unfolding hexes
hex_long k n h = simp (le-ltb n 16 h)

hex_last : (k n : ℕ) → n < 16 → hexes (suc k) n ≡ hex_byte n ∷ []
unfolding hexes
hex_last k n h = simp (lt-ltb n 16 h)

pub hex_1 : (g : ℕ) → g < 16 → hex g ≡ hex_byte g ∷ []
unfolding hex
hex_1 g h = hex_last 3 g h

pub hex_2 : (g : ℕ) → 16 ≤ g → g < 256 → hex g ≡ (hex_byte (g / 16) ∷ []) ++ (hex_byte (g % 16) ∷ [])
unfolding hex
hex_2 g h l = hex_long 3 g h ∙ rw (hex_last 2 (g / 16) (omega arith))

pub hex_3 : (g : ℕ) → 256 ≤ g → g < 4096 → hex g ≡ (hex_byte (g / 256) ∷ []) ++ (hex_byte (g / 16 % 16) ∷ []) ++ (hex_byte (g % 16) ∷ [])
unfolding hex
hex_3 g h l =
    let z : g / 16 / 16 ≡ g / 256 = omega arith in
    hex_long 3 g (omega arith) ∙ rw (hex_long 2 (g / 16) (omega arith), z, hex_last 1 (g / 256) (omega arith))

pub hex_4 : (g : ℕ) → 4096 ≤ g → g < 65536
    → hex g ≡ (hex_byte (g / 4096) ∷ []) ++ (hex_byte (g / 256 % 16) ∷ []) ++ (hex_byte (g / 16 % 16) ∷ []) ++ (hex_byte (g % 16) ∷ [])
unfolding hex
hex_4 g h l =
    let z : g / 16 / 16 ≡ g / 256 = omega arith in
    let y : g / 256 / 16 ≡ g / 4096 = omega arith in
    hex_long 3 g (omega arith) ∙ rw (hex_long 2 (g / 16) (omega arith), z, hex_long 1 (g / 256) (omega arith), y, hex_last 0 (g / 4096) (omega arith))

-- the digits written of a group
module _ (g b c d : ℕ) (eb : b ≡ hex_byte (g / 256 % 16)) (ec : c ≡ hex_byte (g / 16 % 16)) (ed : d ≡ hex_byte (g % 16)) where
  pub one_digit : g < 16 → d ∷ [] ≡ hex g
  one_digit h = let z : g % 16 ≡ g = omega arith in rw (hex_1 g h, ed, z)

  pub two_digits : 16 ≤ g → g < 256 → c ∷ d ∷ [] ≡ hex g
  two_digits h l = let z : g / 16 % 16 ≡ g / 16 = omega arith in rw (hex_2 g h l, ec, ed, z)

  pub three_digits : 256 ≤ g → g < 4096 → b ∷ c ∷ d ∷ [] ≡ hex g
  three_digits h l = let z : g / 256 % 16 ≡ g / 256 = omega arith in rw (hex_3 g h l, eb, ec, ed, z)

  pub four_digits : 4096 ≤ g → g < 65536 → (a : ℕ) → a ≡ hex_byte (g / 4096) → a ∷ b ∷ c ∷ d ∷ [] ≡ hex g
  four_digits h l a ea = rw (hex_4 g h l, ea, eb, ec, ed)

-- what is written is a text
pub as_text : (t u : List ℕ) (w v : Writer) → t ≡ u → Writes t w v → Writes u w v
as_text t u w v e f = rw (← e) f

-- an octet by its number of digits
pub octet_2 : (o : ℕ) → 10 ≤ o → o < 100 → (48 + o / 10) ∷ (48 + o % 10) ∷ [] ≡ decimal o
octet_2 o h l = rw (decimal_long o h, decimal_short (o / 10) (omega arith))

pub octet_3 : (o : ℕ) → 100 ≤ o → o < 256 → (48 + o / 100) ∷ (48 + o / 10 % 10) ∷ (48 + o % 10) ∷ [] ≡ decimal o
octet_3 o h l =
    let z : o / 10 / 10 ≡ o / 100 = omega arith in
    rw (decimal_long o (omega arith), decimal_long (o / 10) (omega arith), z, decimal_short (o / 100) (omega arith))

pub dotted_written : (n : ℕ) (w₀ w₁ w₂ w₃ w₄ : Writer) → Writes (before_dot (n / 16777216 % 256)) w₀ w₁ → Writes (before_dot (n / 65536 % 256)) w₁ w₂
    → Writes (before_dot (n / 256 % 256)) w₂ w₃ → Writes (decimal (n % 256)) w₃ w₄ → Writes (dotted n) w₀ w₄
unfolding dotted
dotted_written n w₀ w₁ w₂ w₃ w₄ a b c d = then (then (then a b) c) d

-- groups between colons: those behind the first are still to be written
pub none_joined : (gs : List ℕ) (w : Writer) → length gs ≡ 0 → Writes (joined gs) w w
unfolding joined
none_joined [] w e = nothing w
none_joined (g ∷ gs) w e = absurd (omega (arith, e))

pub next_group : (text gs : List ℕ) (i g : ℕ) (w₀ w₁ w₂ w₃ : Writer) → i < length gs → g ≡ get_or gs i 0 → Left text w₀ (behind_colons (drop i gs)) w₁ → Writes (58 ∷ []) w₁ w₂
    → Writes (hex g) w₂ w₃ → Left text w₀ (behind_colons (drop (i + 1) gs)) w₃
unfolding behind_colons
next_group text gs i g w₀ w₁ w₂ w₃ h e f a b = rw add-one (next_left (rw (drop-cons gs i 0 h, ← e) at f) (then a b))

pub all_groups : (text : List ℕ) (g : ℕ) (gs : List ℕ) (i : ℕ) (w₀ w₁ w₂ : Writer) → text ≡ g ∷ gs → Writes (hex g) w₀ w₁ → length gs ≤ i
    → Left (behind_colons gs) w₁ (behind_colons (drop i gs)) w₂ → Writes (joined text) w₀ w₂
unfolding joined behind_colons
all_groups text g gs i w₀ w₁ w₂ e a h f = let z : drop i gs ≡ [] = drop_of_length-le gs {i = i} h in rw e (then a (none_left (rw z at f)))

-- zero groups counted from behind: of those from i on, n are at the front, the longest run has len, and it starts at start
pub counted_one : (g n : ℕ) → g ≡ 0 → n + 1 ≡ counted g n
counted_one g n e = simp (eq-eqb g 0 e)

pub counted_none : (g n : ℕ) → (g ≡ 0 → ⊥) → 0 ≡ counted g n
counted_none g n e = simp (ne_eqb g 0 e)

counted_le : (g n : ℕ) → counted g n ≤ n + 1
counted_le g n = go (eqb g 0)
  where
    go : (t : Bool) → cond t (n + 1) 0 ≤ n + 1
    go true = omega arith
    go false = omega arith

module _ (g : List ℕ) (i : ℕ) (e : length g ≡ 8) (p : 0 < i) (h : i ≤ 8) (n : ℕ) (hn : n ≡ zeros (drop i g)) (m : ℕ) (hm : m ≡ counted (get_or g (i - 1) 0) n) where
  here : drop (i - 1) g ≡ get_or g (i - 1) 0 ∷ drop i g
  here = let z : suc (i - 1) ≡ i = omega arith in drop-cons g (i - 1) 0 (omega arith) ∙ rw z

  pub run_zeros : m ≡ zeros (drop (i - 1) g)
  unfolding zeros
  run_zeros = rw (here, ← hn) hm

  pub run_bound : n + i ≤ 8 → m + (i - 1) ≤ 8
  run_bound l = omega (arith, hm, counted_le (get_or g (i - 1) 0) n)

  module _ (len : ℕ) (hl : len ≡ longest (drop i g)) where
    both : longest (drop (i - 1) g) ≡ max m len
    unfolding longest
    both = rw (here, ← here, ← run_zeros, ← hl)

    pub run_longer : len ≤ m → m ≡ longest (drop (i - 1) g)
    run_longer l = rw both (omega arith)

    pub run_here : len ≤ m → i - 1 ≡ i - 1 + first_run m (drop (i - 1) g)
    unfolding first_run
    run_here l =
        let w : zeros (get_or g (i - 1) 0 ∷ drop i g) ≡ m = sym (rw here at run_zeros) in
        let f : first_run m (drop (i - 1) g) ≡ 0 = rw here (simp (w, le-leb m m (omega arith))) in omega arith

    pub run_kept : m < len → len ≡ longest (drop (i - 1) g)
    run_kept l = rw both (omega arith)

    pub run_later : m < len → (start : ℕ) → start ≡ i + first_run len (drop i g) → start ≡ i - 1 + first_run len (drop (i - 1) g)
    unfolding first_run
    run_later l start f =
        let w : zeros (get_or g (i - 1) 0 ∷ drop i g) ≡ m = sym (rw here at run_zeros) in
        let k : first_run len (drop (i - 1) g) ≡ suc (first_run len (drop i g)) = rw here (simp (w, lt-leb len m l)) in omega arith

pub run_start : (g : List ℕ) → length g ≡ 8 → (0 ≡ zeros (drop 8 g)) × (0 ≡ longest (drop 8 g)) × (8 ≡ 8 + first_run 0 (drop 8 g))
unfolding zeros longest first_run
run_start g e = let z : drop 8 g ≡ [] = drop_of_length-le g {i = 8} (omega arith) in rw z (refl, refl, refl)

-- a run lies within the groups
zeros_le : (gs : List ℕ) → zeros gs ≤ length gs
unfolding zeros
zeros_le [] = omega arith
zeros_le (g ∷ gs) = omega (arith, counted_le g (zeros gs), zeros_le gs)

pub longest_le : (gs : List ℕ) → longest gs ≤ length gs
unfolding longest
longest_le [] = omega arith
longest_le (g ∷ gs) = omega (arith, zeros_le (g ∷ gs), longest_le gs)

run_within : (n : ℕ) (gs : List ℕ) → n ≤ longest gs → first_run n gs + n ≤ length gs
unfolding first_run longest
run_within n [] h = omega arith
run_within n (g ∷ gs) h = go (leb n (zeros (g ∷ gs))) refl (run_within n gs)
  where
    go : (t : Bool) → leb n (zeros (g ∷ gs)) ≡ t → (n ≤ longest gs → first_run n gs + n ≤ length gs) → cond t 0 (suc (first_run n gs)) + n ≤ suc (length gs)
    go true e ih = omega (arith, leb-true n (zeros (g ∷ gs)) e, zeros_le (g ∷ gs))
    go false e ih = omega (arith, leb-false n (zeros (g ∷ gs)) e, ih (omega (arith, leb-false n (zeros (g ∷ gs)) e)))

pub first_within : (gs : List ℕ) → first_run (longest gs) gs + longest gs ≤ length gs
first_within gs = run_within (longest gs) gs (le_refl (longest gs))

-- at the front the run is the groups' longest, of any groups, and of eight it ends within them
pub run_whole : (g : List ℕ) (i len start : ℕ) → i ≤ 0 → len ≡ longest (drop i g) → start ≡ i + first_run len (drop i g)
    → (start ≡ first_run (longest g) g) × (len ≡ longest g)
run_whole g i len start h hl hs =
    let z : i ≡ 0 = omega arith in
    let k : len ≡ longest g = rw z at hl in
    let f : start ≡ 0 + first_run len g = rw z at hs in (f ∙ zero-add (first_run len g) ∙ rw k, k)

pub run_found : (g : List ℕ) (i len start : ℕ) → length g ≡ 8 → i ≤ 0 → len ≡ longest (drop i g) → start ≡ i + first_run len (drop i g)
    → (start ≡ first_run (longest g) g) × (len ≡ longest g) × (start + len ≤ 8)
run_found g i len start e h hl hs = let k = run_whole g i len start h hl hs in (k.0, k.1, omega (arith, e, k.0, k.1, first_within g))

-- the whole text of groups
module _ (g : List ℕ) (k n : ℕ) (hk : k ≡ first_run (longest g) g) (hn : n ≡ longest g) where
  pub plain_joined : n < 2 → (w v : Writer) → Writes (joined g) w v → Writes (plain g) w v
  unfolding plain
  plain_joined h w v f = simp (lt-leb 2 (longest g) (omega arith)) f

  pub plain_shortened : 2 ≤ n → length g ≡ 8 → (w₀ w₁ w₂ w₃ : Writer) → Writes (joined (take k g)) w₀ w₁ → Writes (58 ∷ 58 ∷ []) w₁ w₂
      → Writes (joined (take (8 - (k + n)) (drop (k + n) g))) w₂ w₃ → Writes (plain g) w₀ w₃
  unfolding plain shortened
  plain_shortened h e w₀ w₁ w₂ w₃ a b c =
      let f : k ≡ first_run n g = hk ∙ ap (λ (m : ℕ). first_run m g) (sym hn) in
      simp (← hn, le-leb 2 n h, ← f) (then (then a b) (rw (take_all (8 - (k + n)) (drop (k + n) g) (simp length-drop (omega arith))) at c))

-- addresses
module _ (u l : ℕ) where
  pub mapped_written : eqb u 0 && eqb (l / 4294967296) 65535 ≡ true → (w₀ w₁ w₂ : Writer) → Writes (58 ∷ 58 ∷ 102 ∷ 102 ∷ 102 ∷ 102 ∷ 58 ∷ []) w₀ w₁
      → Writes (dotted (l % 4294967296)) w₁ w₂ → Writes (ipv6_text u l) w₀ w₂
  unfolding ipv6_text mapped
  mapped_written e w₀ w₁ w₂ a b = simp e (then a b)

  pub plain_written : eqb u 0 && eqb (l / 4294967296) 65535 ≡ false → (g : List ℕ) (w v : Writer) → g ≡ groups_of u l → Writes (plain g) w v → Writes (ipv6_text u l) w v
  unfolding ipv6_text
  plain_written e g w v f a = simp e (rw f at a)

-- the longest text
hexes_le : (k n : ℕ) → length (hexes k n) ≤ k
unfolding hexes
hexes_le zero n = omega arith
hexes_le (suc k) n = go (ltb n 16) (hexes_le k (n / 16))
  where
    go : (t : Bool) → length (hexes k (n / 16)) ≤ k → length (cond t (hex_byte n ∷ []) (hexes k (n / 16) ++ (hex_byte (n % 16) ∷ []))) ≤ suc k
    go true h = omega arith
    go false h = simp length-append (omega arith)

colons_le : (gs : List ℕ) → length (behind_colons gs) ≤ 5 * length gs
unfolding behind_colons hex
colons_le [] = omega arith
colons_le (g ∷ gs) = simp length-append (omega (arith, hexes_le 4 g, colons_le gs))

joined_le : (gs : List ℕ) → length (joined gs) ≤ 5 * length gs
unfolding joined hex
joined_le [] = omega arith
joined_le (g ∷ gs) = simp length-append (omega (arith, hexes_le 4 g, colons_le gs))

plain_le : (gs : List ℕ) → length gs ≡ 8 → length (plain gs) ≤ 45
unfolding plain shortened
plain_le gs e = go (leb 2 (longest gs))
  where
    go : (t : Bool) → length (cond t (joined (take (first_run (longest gs) gs) gs) ++ (58 ∷ 58 ∷ []) ++ joined (drop (first_run (longest gs) gs + longest gs) gs)) (joined gs)) ≤ 45
    go true =
        simp length-append
        (omega (arith, first_within gs, joined_le (take (first_run (longest gs) gs) gs), joined_le (drop (first_run (longest gs) gs + longest gs) gs), length-take (first_run (longest gs) gs) gs, length-drop (first_run (longest gs) gs + longest gs) gs))
    go false = omega (arith, joined_le gs)

pub dotted_le : (n : ℕ) → length (dotted n) ≤ 15
unfolding dotted
dotted_le n =
    simp length-append
    (omega (arith, digits_most 2 (n / 16777216 % 256) (omega arith), digits_most 2 (n / 65536 % 256) (omega arith), digits_most 2 (n / 256 % 256) (omega arith), digits_most 2 (n % 256) (omega arith)))

pub ipv6_le : (u l : ℕ) → length (ipv6_text u l) ≤ 45
unfolding ipv6_text mapped
ipv6_le u l = go (is_mapped u l)
  where
    go : (t : Bool) → length (cond t ((58 ∷ 58 ∷ 102 ∷ 102 ∷ 102 ∷ 102 ∷ 58 ∷ []) ++ dotted (l % 4294967296)) (plain (groups_of u l))) ≤ 45
    go true = omega (arith, dotted_le (l % 4294967296))
    go false = plain_le (groups_of u l) refl
