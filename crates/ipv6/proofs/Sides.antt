-- Laws of the code's record of groups, and of reading groups into it.
use mathlib.Core.Path.{◌≡◌, refl, sym, ap, subst, ◌∙◌}
use mathlib.Core.List.{List, [], ◌∷◌, ◌++◌}
use mathlib.Core.Bool.{Bool, true, false, cond, not, ◌&&◌}
use Rattle.std.specs.Prelude.{Option, Some, None}
use Rattle.std.specs.List.{slice_split, onto_first}
use Rattle.std.proofs.lemmas.Iterator.{YieldsList}
use denote.Ref.{Bor}
use Rattle.scan.specs.Lists.{split_by, onto}
use Prim.Native.Nat.{ℕ, zero, suc, ◌+◌, ◌-◌, ◌*◌, ◌/◌, ◌%◌, ◌^◌, ◌≤◌, ◌<◌}
use native.Mathlib.Nat.{zero-add, add-zero}
use native.Mathlib.Omega.{arith}
use lib.ListN.{length, take, drop, length-drop, replicate, length-append, length-replicate}
use lib.Seq.{take_all}
use mir.Syntax.{w64}
use mir.Val.{Fits}
use lib.Dec.{eqb, leb, ltb}
use borrow.Author.Tests.{le-ltb, lt-ltb, lt-leb, le-leb, eq-eqb, ne_eqb, leb-true, leb-false, eqb-true, eqb-false, not-true}
use Rattle.decimal.specs.Decimal.{below}
use Rattle.ipv4.specs.Parts.{parts, prepend, each, number}
use Rattle.ipv4.specs.Ipv4.{ipv4}
use Rattle.ipv6.specs.Ipv6.{hex_digit, value_from, group, last_part, groups, side, gap, filled, eight, ipv6, upper, lower, as_ipv6}
use Rattle.ipv6.specs.Groups.{no_groups, shifted, push, push_all, with_groups, whole_of}
use Rattle.ipv6.specs.declared.Groups.{Groups}
use Rattle.ipv4.proofs.Parts.{parts_cons, each_length, each_small, number_room}
use Rattle.ipv4.proofs.Ipv4.{ipv4_small}
use Rattle.ipv6.proofs.Ipv6.{digit_small, gap_nowhere, gap_there}

pub push_n : (r : Groups) (g : ℕ) → (push r g).n ≡ r.n + 1
unfolding push
push_n r g = go (ltb r.n 4)
  where
    go : (t : Bool) → (cond {A = Groups} t (record { n = r.n + 1; upper = shifted r.upper g; lower = r.lower }) (record { n = r.n + 1; upper = r.upper; lower = shifted r.lower g })).n ≡ r.n + 1
    go true = refl
    go false = refl

pub push_all_n : (r : Groups) (gs : List ℕ) → (push_all r gs).n ≡ r.n + length gs
unfolding push_all
push_all_n r [] = sym (add-zero r.n)
push_all_n r (g ∷ gs) = push_all_n (push r g) gs ∙ omega (arith, push_n r g)

pub push_all_append : (r : Groups) (a b : List ℕ) → push_all r (a ++ b) ≡ push_all (push_all r a) b
unfolding push_all
push_all_append r [] b = refl
push_all_append r (g ∷ a) b = push_all_append (push r g) a b

-- from at most eight groups on
counted : (r : Groups) (gs : List ℕ) → r.n ≤ 8 → with_groups r (Some gs) ≡ cond (leb (r.n + length gs) 8) (Some (push_all r gs)) None
unfolding push_all
counted r [] h = simp (le-leb (r.n + 0) 8 (omega arith))
counted r (g ∷ gs) h = refl

-- what a push answers
module _ (r : Groups) (g : ℕ) (x : Option Groups) (hx : x ≡ with_groups r (Some (g ∷ []))) where
  pub push_none : x ≡ None → 7 < r.n
  push_none e = go (leb (r.n + 1) 8) refl (sym e ∙ hx)
    where
      go : (t : Bool) → leb (r.n + 1) 8 ≡ t → None ≡ cond {A = Option Groups} t (Some (push_all r (g ∷ []))) None → 7 < r.n
      go true f h = let z : ◌≡◌ {A = ℕ} 0 1 = cc in absurd (omega arith)
      go false f h = omega (arith, leb-false (r.n + 1) 8 f)

  pub push_is : (y : Groups) → x ≡ Some y → (y ≡ push r g) × (r.n ≤ 7)
  unfolding push_all
  push_is y e = go (leb (r.n + 1) 8) refl (sym e ∙ hx)
    where
      go : (t : Bool) → leb (r.n + 1) 8 ≡ t → Some y ≡ cond {A = Option Groups} t (Some (push r g)) None → (y ≡ push r g) × (r.n ≤ 7)
      go true f h = (cc, omega (arith, leb-true (r.n + 1) 8 f))
      go false f h = let z : ◌≡◌ {A = ℕ} 0 1 = cc in absurd (omega arith)

-- one group in front
from_prepend : (r : Groups) (g : ℕ) (m : Option (List ℕ)) → r.n ≤ 7 → with_groups r (prepend (Some g) m) ≡ with_groups (push r g) m
unfolding push_all
from_prepend r g (Some []) h = simp (le-leb (r.n + 1) 8 (omega arith))
from_prepend r g (Some (k ∷ gs)) h = let z : (push r g).n + suc (length gs) ≡ r.n + suc (suc (length gs)) = omega (arith, push_n r g) in rw z
from_prepend r g None h = refl

-- no room for it
from_full : (r : Groups) (g : ℕ) (m : Option (List ℕ)) → 7 < r.n → with_groups r (prepend (Some g) m) ≡ None
from_full r g (Some gs) h = simp (lt-leb (r.n + suc (length gs)) 8 (omega arith))
from_full r g None h = refl

-- the last part
module _ (t : List ℕ) (dotted : Bool) (r : Groups) (x : Option ℕ) (hx : x ≡ group t) where
  pub part_group : (g : ℕ) → x ≡ Some g → (y : Option Groups) → y ≡ with_groups r (Some (g ∷ [])) → y ≡ with_groups r (last_part dotted (group t) (ipv4 t))
  part_group g hg y e = e ∙ rw (← hx, hg)

  module _ (hg : x ≡ None) where
    pub part_bare : not dotted ≡ true → None ≡ with_groups r (last_part dotted (group t) (ipv4 t))
    part_bare d = rw (← hx, hg, not-true dotted d)

    module _ (d : dotted ≡ true) (y : Option ℕ) (hy : y ≡ ipv4 t) where
      pub part_none : y ≡ None → None ≡ with_groups r (last_part dotted (group t) (ipv4 t))
      part_none e = rw (← hx, hg, d, ← hy, e)

      module _ (a : ℕ) (ha : y ≡ Some a) (z : Option Groups) (hz : z ≡ with_groups r (Some (a / 65536 ∷ []))) where
        pub part_crowded : z ≡ None → None ≡ with_groups r (last_part dotted (group t) (ipv4 t))
        part_crowded e =
            rw (← hx, hg, d, ← hy, ha) (simp (lt-leb (r.n + 2) 8 (omega (arith, push_none r (a / 65536) z hz e))))

        pub part_dotted : (v : Groups) → z ≡ Some v → (w : Option Groups) → w ≡ with_groups v (Some (a % 65536 ∷ [])) → w ≡ with_groups r (last_part dotted (group t) (ipv4 t))
        unfolding push_all
        part_dotted v hv w hw =
            let pushed : (v ≡ push r (a / 65536)) × (r.n ≤ 7) = push_is r (a / 65536) z hz v hv in
            rw (← hx, hg, d, ← hy, ha, hw, pushed.0) (sym (from_prepend r (a / 65536) (Some (a % 65536 ∷ [])) pushed.1))

-- a side
pub side_empty : (s : List ℕ) (dotted : Bool) (r : Groups) → length s ≡ 0 → Some r ≡ with_groups r (side dotted s)
unfolding side
side_empty [] dotted r h = refl
side_empty (b ∷ s) dotted r h = absurd (omega arith)

-- a part that is not the last
pub groups_more : (dotted : Bool) (p u : List ℕ) → groups dotted (p ∷ parts 58 u) ≡ prepend (group p) (groups dotted (parts 58 u))
unfolding groups
groups_more dotted p u = rw (parts_cons 58 u)

-- std's cut of a text into its parts is ours
cut_parts : (c : ℕ) (s : List ℕ) → slice_split (λ b. eqb b c) s ≡ parts c s
unfolding split_by onto
cut_parts c [] = refl
cut_parts c (b ∷ s) = rw (cut_parts c s) (go (eqb b c) (parts c s))
  where
    go : (t : Bool) (ps : List (List ℕ)) → cond t ([] ∷ ps) (onto_first b ps) ≡ cond t ([] ∷ ps) (onto b ps)
    go true ps = refl
    go false [] = refl
    go false (p ∷ ps) = refl

side_parts : (s : List ℕ) (ps : List (List ℕ)) (dotted : Bool) (r : Groups) → eqb (length s) 0 ≡ false → slice_split (λ b. eqb b 58) s ≡ ps
    → with_groups r (side dotted s) ≡ with_groups r (groups dotted ps)
unfolding side
side_parts [] ps dotted r h e = let z : ◌≡◌ {A = ℕ} 0 1 = cc in absurd (omega arith)
side_parts (b ∷ s) ps dotted r h e = rw (sym (cut_parts 58 (b ∷ s)) ∙ e)

-- an iterator over parts that gives ps
abbrev pub Gives : {S : Type 0} → (S → Option (Bor (List ℕ)) → S → Type 0) → S → List (List ℕ) → Type 0
Gives steps i ps = YieldsList steps (λ x. x.now) i ps

-- what its next call, which answers m, says of them
module _ {S : Type 0} (steps : S → Option (Bor (List ℕ)) → S → Type 0) (i j : S) (m : Option (Bor (List ℕ))) (step : steps i m j) where
  none_left : (ps : List (List ℕ)) → Gives steps i ps → m ≡ None → ps ≡ []
  none_left [] y e = refl
  none_left (p ∷ ps) y e = absurd (y.runs.0 j (subst (λ n. steps i n j) e step))

  one_more : (ps : List (List ℕ)) → Gives steps i ps → (q : Bor (List ℕ)) → m ≡ Some q → (qs : List (List ℕ)) × Gives steps j qs × (ps ≡ q.now ∷ qs)
  one_more [] y q e = absurd (y.runs q j (subst (λ n. steps i n j) e step))
  one_more (p ∷ ps) y q e =
      let z = y.runs.1 q j (subst (λ n. steps i n j) e step) in (ps, record { runs = z.1 }, ap (λ x. x ∷ ps) (sym z.0))

-- the groups of s so far are in r, and the others are those of the part p and of the parts that i gives
abbrev pub Reading : {S : Type 0} → (S → Option (Bor (List ℕ)) → S → Type 0) → List ℕ → Bool → Groups → S → List ℕ → Groups → Type 0
Reading steps s dotted r₀ i p r =
    (ps : List (List ℕ)) × Gives steps i ps × (with_groups r₀ (side dotted s) ≡ with_groups r (groups dotted (p ∷ ps)))

module _ {S : Type 0} (steps : S → Option (Bor (List ℕ)) → S → Type 0) (s : List ℕ) (dotted : Bool) (r₀ : Groups) (i j : S) (m : Option (Bor (List ℕ))) (step : steps i m j) where
  pub side_start : eqb (length s) 0 ≡ false → Gives steps i (slice_split (λ b. eqb b 58) s) → (q : Bor (List ℕ)) → m ≡ Some q
      → (k : S) → k ≡ j → Reading steps s dotted r₀ k q.now r₀
  side_start h y q e k f =
      let z = one_more steps i j m step (slice_split (λ b. eqb b 58) s) y q e in
      (z.0, subst (λ l. Gives steps l z.0) (sym f) z.1, side_parts s (q.now ∷ z.0) dotted r₀ h z.2)

  module _ (p : List ℕ) (r : Groups) (here : Reading steps s dotted r₀ i p r) where
    pub side_last : m ≡ None → (z : Option Groups) → z ≡ with_groups r (last_part dotted (group p) (ipv4 p)) → z ≡ with_groups r₀ (side dotted s)
    unfolding groups
    side_last e z f = f ∙ sym (here.2 ∙ rw (none_left steps i j m step here.0 here.1 e))

    module _ (q : Bor (List ℕ)) (e : m ≡ Some q) (x : Option ℕ) (hx : x ≡ group p) where
      more : (qs : List (List ℕ)) × Gives steps j qs × (here.0 ≡ q.now ∷ qs)
      more = one_more steps i j m step here.0 here.1 q e

      first : (y : Option ℕ) → x ≡ y → with_groups r₀ (side dotted s) ≡ with_groups r (prepend y (groups dotted (q.now ∷ more.0)))
      unfolding groups
      first y f = here.2 ∙ ap (λ l. with_groups r (groups dotted (p ∷ l))) more.2 ∙ ap (λ n. with_groups r (prepend n (groups dotted (q.now ∷ more.0)))) (sym hx ∙ f)

      pub side_stop : x ≡ None → None ≡ with_groups r₀ (side dotted s)
      side_stop f = sym (first None f)

      module _ (g : ℕ) (hg : x ≡ Some g) (z : Option Groups) (hz : z ≡ with_groups r (Some (g ∷ []))) where
        pub side_full : z ≡ None → None ≡ with_groups r₀ (side dotted s)
        side_full f = sym (first (Some g) hg ∙ from_full r g (groups dotted (q.now ∷ more.0)) (push_none r g z hz f))

        pub side_next : (y : Groups) → z ≡ Some y → Reading steps s dotted r₀ j q.now y
        side_next y f =
            let pushed : (y ≡ push r g) × (r.n ≤ 7) = push_is r g z hz y f in
            (more.0, more.1, first (Some g) hg ∙ rw pushed.0 (from_prepend r g (groups dotted (q.now ∷ more.0)) pushed.1))

-- zero groups
abbrev pub zeros_from : Groups → ℕ → Option Groups
zeros_from r k = with_groups r (Some (replicate k 0))

module _ (r₀ r : Groups) (m n : ℕ) (hn : n ≡ r.n) (inv : zeros_from r₀ (m - r₀.n) ≡ zeros_from r (m - n)) where
  module _ (more : n < m) (z : Option Groups) (hz : z ≡ with_groups r (Some (0 ∷ []))) where
    k : m - n ≡ suc (m - (n + 1))
    k = omega arith

    pub fill_full : z ≡ None → None ≡ zeros_from r₀ (m - r₀.n)
    fill_full e = sym (inv ∙ rw k (from_full r 0 (Some (replicate (m - (n + 1)) 0)) (push_none r 0 z hz e)))

    pub fill_more : (y : Groups) → z ≡ Some y → zeros_from r₀ (m - r₀.n) ≡ zeros_from y (m - (n + 1))
    fill_more y e =
        let pushed : (y ≡ push r 0) × (r.n ≤ 7) = push_is r 0 z hz y e in
        inv ∙ rw (k, pushed.0) (from_prepend r 0 (Some (replicate (m - (n + 1)) 0)) pushed.1)

    pub fill_n : (y : Groups) → z ≡ Some y → n + 1 ≡ y.n
    fill_n y e = rw (push_is r 0 z hz y e).0 (omega (arith, push_n r 0))

  pub fill_end : m ≤ n → Some r ≡ zeros_from r₀ (m - r₀.n)
  fill_end h = let k : m - n ≡ 0 = omega arith in sym (inv ∙ rw k)

pub whole_yes : (r : Groups) → r.n ≡ 8 → Some (r.upper, r.lower) ≡ whole_of r
whole_yes r h = simp (eq-eqb r.n 8 h)

pub whole_no : (r : Groups) → (r.n ≡ 8 → ⊥) → None ≡ whole_of r
whole_no r h = simp (ne_eqb r.n 8 h)

-- every group is below 2 ^ 16
abbrev pub Below : List ℕ → Type 0
Below [] = Unit
Below (g ∷ gs) = (g < 65536) × Below gs

pub below_append : (a b : List ℕ) → Below a → Below b → Below (a ++ b)
below_append [] b p q = q
below_append (g ∷ a) b p q = (p.0, below_append a b p.1 q)

pub below_zeros : (n : ℕ) → Below (replicate n 0)
below_zeros zero = tt
below_zeros (suc n) = (omega arith, below_zeros n)

pub group_small : (p : List ℕ) (g : ℕ) → group p ≡ Some g → g < 65536
unfolding group
group_small p g = go (each hex_digit p) refl (leb 1 (length p)) (leb (length p) 4) refl
  where
    go : (m : Option (List ℕ)) → each hex_digit p ≡ m → (t u : Bool) → leb (length p) 4 ≡ u → cond (t && u) (value_from 16 0 m) None ≡ Some g → g < 65536
    go (Some ds) e true true f h =
        let y : number 16 0 ds ≡ g = cc in
        let x : number 16 0 ds < 16 ^ (0 + length ds) = each_small hex_digit 16 digit_small p ds e 0 0 (omega arith) in
        let w : number 16 0 ds < 16 ^ 4 = number_room {m = 4} (omega arith) x (omega (arith, each_length hex_digit p ds e, leb-true (length p) 4 f)) in
        rw y at w
    go (Some ds) e true false f h = let z : ◌≡◌ {A = ℕ} 0 1 = cc in absurd (omega arith)
    go (Some ds) e false u f h = let z : ◌≡◌ {A = ℕ} 0 1 = cc in absurd (omega arith)
    go None e true true f h = let z : ◌≡◌ {A = ℕ} 0 1 = cc in absurd (omega arith)
    go None e true false f h = let z : ◌≡◌ {A = ℕ} 0 1 = cc in absurd (omega arith)
    go None e false u f h = let z : ◌≡◌ {A = ℕ} 0 1 = cc in absurd (omega arith)

last_small : (dotted : Bool) (p gs : List ℕ) → last_part dotted (group p) (ipv4 p) ≡ Some gs → Below gs
last_small dotted p gs = go dotted (group p) refl (ipv4 p) refl
  where
    go : (d : Bool) (m : Option ℕ) → group p ≡ m → (n : Option ℕ) → ipv4 p ≡ n → last_part d m n ≡ Some gs → Below gs
    go d (Some g) e n f h = let z : g ∷ [] ≡ gs = cc in subst Below z (group_small p g e, tt)
    go true None e (Some a) f h =
        let z : a / 65536 ∷ a % 65536 ∷ [] ≡ gs = cc in subst Below z (omega (arith, ipv4_small p a f), (omega arith, tt))
    go true None e None f h = let z : ◌≡◌ {A = ℕ} 0 1 = cc in absurd (omega arith)
    go false None e n f h = let z : ◌≡◌ {A = ℕ} 0 1 = cc in absurd (omega arith)

groups_small : (dotted : Bool) (ps : List (List ℕ)) (gs : List ℕ) → groups dotted ps ≡ Some gs → Below gs
unfolding groups
groups_small dotted [] gs h = let z : [] ≡ gs = cc in subst Below z tt
groups_small dotted (p ∷ []) gs h = last_small dotted p gs h
groups_small dotted (p ∷ q ∷ ps) gs h = go (group p) refl (groups dotted (q ∷ ps)) (groups_small dotted (q ∷ ps)) h
  where
    go : (m : Option ℕ) → group p ≡ m → (n : Option (List ℕ)) → ((l : List ℕ) → n ≡ Some l → Below l) → prepend m n ≡ Some gs → Below gs
    go (Some g) e (Some l) ih f = let z : g ∷ l ≡ gs = cc in subst Below z (group_small p g e, ih l refl)
    go (Some g) e None ih f = let z : ◌≡◌ {A = ℕ} 0 1 = cc in absurd (omega arith)
    go None e n ih f = let z : ◌≡◌ {A = ℕ} 0 1 = cc in absurd (omega arith)

pub side_small : (dotted : Bool) (s gs : List ℕ) → side dotted s ≡ Some gs → Below gs
unfolding side
side_small dotted [] gs h = let z : [] ≡ gs = cc in subst Below z tt
side_small dotted (b ∷ s) gs h = groups_small dotted (parts 58 (b ∷ s)) gs h

-- eight groups fill the halves
pub shift_small : (x g : ℕ) → x < 281474976710656 → shifted x g ≡ x * 65536 + g
shift_small x g h = omega arith

four_shifts : (a b c d : ℕ) → a < 65536 → b < 65536 → c < 65536 → d < 65536
    → shifted (shifted (shifted (shifted 0 a) b) c) d ≡ number 65536 0 (a ∷ b ∷ c ∷ d ∷ [])
unfolding number
four_shifts a b c d p q r s =
    rw (shift_small 0 a (omega arith), shift_small (0 * 65536 + a) b (omega arith), shift_small ((0 * 65536 + a) * 65536 + b) c (omega arith), shift_small (((0 * 65536 + a) * 65536 + b) * 65536 + c) d (omega arith))

pub halves : (gs : List ℕ) → length gs ≡ 8 → Below gs → ((push_all no_groups gs).upper ≡ upper gs) × ((push_all no_groups gs).lower ≡ lower gs)
unfolding push_all push
halves [] l s = absurd (omega arith)
halves (a ∷ []) l s = absurd (omega arith)
halves (a ∷ b ∷ []) l s = absurd (omega arith)
halves (a ∷ b ∷ c ∷ []) l s = absurd (omega arith)
halves (a ∷ b ∷ c ∷ d ∷ []) l s = absurd (omega arith)
halves (a ∷ b ∷ c ∷ d ∷ e ∷ []) l s = absurd (omega arith)
halves (a ∷ b ∷ c ∷ d ∷ e ∷ f ∷ []) l s = absurd (omega arith)
halves (a ∷ b ∷ c ∷ d ∷ e ∷ f ∷ g ∷ []) l s = absurd (omega arith)
halves (a ∷ b ∷ c ∷ d ∷ e ∷ f ∷ g ∷ h ∷ []) l s =
    (four_shifts a b c d s.0 s.1.0 s.1.1.0 s.1.1.1.0, four_shifts e f g h s.1.1.1.1.0 s.1.1.1.1.1.0 s.1.1.1.1.1.1.0 s.1.1.1.1.1.1.1.0)
halves (a ∷ b ∷ c ∷ d ∷ e ∷ f ∷ g ∷ h ∷ i ∷ gs) l s = absurd (omega arith)

-- the groups of eight, as the code answers them
pub whole_eight : (gs : List ℕ) → length gs ≡ 8 → Below gs → whole_of (push_all no_groups gs) ≡ Some (upper gs, lower gs)
whole_eight gs h s =
    simp (eq-eqb (push_all no_groups gs).n 8 (push_all_n no_groups gs ∙ zero-add (length gs) ∙ h), (halves gs h s).0, (halves gs h s).1)

-- what a side's answer says of its groups
known : (r : Groups) (m : Option (List ℕ)) (x : Option Groups) (y : Groups) → r.n ≤ 8 → x ≡ with_groups r m → x ≡ Some y
    → (gs : List ℕ) × (m ≡ Some gs) × (y ≡ push_all r gs) × (r.n + length gs ≤ 8)
known r (Some gs) x y few e f = go (leb (r.n + length gs) 8) refl (sym (e ∙ counted r gs few) ∙ f)
  where
    go : (t : Bool) → leb (r.n + length gs) 8 ≡ t → cond {A = Option Groups} t (Some (push_all r gs)) None ≡ Some y
        → (hs : List ℕ) × (Some gs ≡ Some hs) × (y ≡ push_all r hs) × (r.n + length hs ≤ 8)
    go true p q = (gs, refl, cc, leb-true (r.n + length gs) 8 p)
    go false p q = let z : ◌≡◌ {A = ℕ} 0 1 = cc in absurd (omega arith)
known r None x y few e f = let z : ◌≡◌ {A = ℕ} 0 1 = cc in absurd (omega arith)

-- none, or more than eight
unknown : (r : Groups) (m : Option (List ℕ)) (x : Option Groups) → r.n ≤ 8 → x ≡ with_groups r m → x ≡ None → (gs : List ℕ) → m ≡ Some gs → 8 < r.n + length gs
unknown r m x few e f gs h = go (leb (r.n + length gs) 8) refl (sym f ∙ e ∙ ap (with_groups r) h ∙ counted r gs few)
  where
    go : (t : Bool) → leb (r.n + length gs) 8 ≡ t → None ≡ cond {A = Option Groups} t (Some (push_all r gs)) None → 8 < r.n + length gs
    go true p q = let z : ◌≡◌ {A = ℕ} 0 1 = cc in absurd (omega arith)
    go false p q = leb-false (r.n + length gs) 8 p

-- the groups of both sides with the zero groups between them
assembled : (a b : List ℕ) (n : ℕ) → n ≡ 8 - length b - length a → length a + length b ≤ 7 → Below a → Below b
    → whole_of (push_all (push_all (push_all no_groups a) (replicate n 0)) b) ≡ as_ipv6 (filled (Some a) (Some b))
assembled a b n e h p q =
    ap whole_of (sym (push_all_append no_groups a (replicate n 0 ++ b) ∙ push_all_append (push_all no_groups a) (replicate n 0) b))
    ∙ whole_eight (a ++ (replicate n 0 ++ b)) (simp (length-append, length-replicate) (omega arith)) (below_append a (replicate n 0 ++ b) p (below_append (replicate n 0) b (below_zeros n) q))
    ∙ simp (← e, le-leb (length a + length b) 7 h)

-- left and right of "::"
module _ (l r : List ℕ) (x : Option Groups) (hx : x ≡ with_groups no_groups (side false l)) where
  pub around_left : x ≡ None → None ≡ as_ipv6 (filled (side false l) (side true r))
  around_left e = go (side false l) (side true r) (unknown no_groups (side false l) x (omega arith) hx e)
    where
      go : (m n : Option (List ℕ)) → ((gs : List ℕ) → m ≡ Some gs → 8 < 0 + length gs) → None ≡ as_ipv6 (filled m n)
      go (Some a) (Some b) h = let z : 8 < 0 + length a = h a refl in simp (lt-leb (length a + length b) 7 (omega arith))
      go (Some a) None h = refl
      go None n h = refl

  module _ (a : Groups) (ha : x ≡ Some a) (y : Option Groups) (hy : y ≡ with_groups no_groups (side true r)) where
    pub around_right : y ≡ None → None ≡ as_ipv6 (filled (side false l) (side true r))
    around_right e = go (side false l) (side true r) (unknown no_groups (side true r) y (omega arith) hy e)
      where
        go : (m n : Option (List ℕ)) → ((gs : List ℕ) → n ≡ Some gs → 8 < 0 + length gs) → None ≡ as_ipv6 (filled m n)
        go (Some c) (Some b) h = let z : 8 < 0 + length b = h b refl in simp (lt-leb (length c + length b) 7 (omega arith))
        go (Some c) None h = refl
        go None n h = refl

    module _ (b : Groups) (hb : y ≡ Some b) where
      left : (gs : List ℕ) × (side false l ≡ Some gs) × (a ≡ push_all no_groups gs) × (0 + length gs ≤ 8)
      left = known no_groups (side false l) x a (omega arith) hx ha

      right : (gs : List ℕ) × (side true r ≡ Some gs) × (b ≡ push_all no_groups gs) × (0 + length gs ≤ 8)
      right = known no_groups (side true r) y b (omega arith) hy hb

      left_n : a.n ≡ length left.0
      left_n = ap (λ (g : Groups). g.n) left.2 ∙ push_all_n no_groups left.0 ∙ zero-add (length left.0)

      right_n : b.n ≡ length right.0
      right_n = ap (λ (g : Groups). g.n) right.2 ∙ push_all_n no_groups right.0 ∙ zero-add (length right.0)

      pub count_fits : Fits w64 (a.n + b.n)
      count_fits = record { fits = omega (arith, left_n, right_n, left.3, right.3) }

      pub around_many : 7 < a.n + b.n → None ≡ as_ipv6 (filled (side false l) (side true r))
      around_many h = rw (left.1, right.1) (simp (lt-leb (length left.0 + length right.0) 7 (omega (arith, left_n, right_n))))

      module _ (few : a.n + b.n ≤ 7) (u : Option Groups) (hu : u ≡ with_groups a (Some (replicate (8 - b.n - a.n) 0))) where
        pub around_unfilled : u ≡ None → None ≡ as_ipv6 (filled (side false l) (side true r))
        around_unfilled e =
            let zeros : length {A = ℕ} (replicate (8 - b.n - a.n) 0) ≡ 8 - b.n - a.n = rw length-replicate in
            absurd (omega (arith, unknown a (Some (replicate (8 - b.n - a.n) 0)) u (omega arith) hu e (replicate (8 - b.n - a.n) 0) refl, zeros))

        module _ (z : Groups) (full : u ≡ Some z) where
          hz : z ≡ push_all a (replicate (8 - b.n - a.n) 0)
          hz = go (known a (Some (replicate (8 - b.n - a.n) 0)) u z (omega arith) hu full)
            where
              go : ((gs : List ℕ) × (Some (replicate (8 - b.n - a.n) 0) ≡ Some gs) × (z ≡ push_all a gs) × (a.n + length gs ≤ 8)) → z ≡ push_all a (replicate (8 - b.n - a.n) 0)
              go k = let same : replicate (8 - b.n - a.n) 0 ≡ k.0 = cc in k.2 ∙ rw same

          fill_count : z.n ≡ 8 - b.n
          fill_count =
              let u : (push_all a (replicate (8 - b.n - a.n) 0)).n ≡ a.n + (8 - b.n - a.n) = push_all_n a (replicate (8 - b.n - a.n) 0) ∙ rw length-replicate in
              rw hz (omega arith)

          pub fill_le : z.n ≤ 8
          fill_le = omega (arith, fill_count)

          module _ (w : Option Groups) (hw : w ≡ with_groups z (side true r)) where
            pub around_over : w ≡ None → None ≡ as_ipv6 (filled (side false l) (side true r))
            around_over e = absurd (omega (arith, unknown z (side true r) w fill_le hw e right.0 right.1, fill_count, right_n))

            pub around_whole : (q : Groups) → w ≡ Some q → (v : Option (ℕ × ℕ)) → v ≡ whole_of q → v ≡ as_ipv6 (filled (side false l) (side true r))
            around_whole q hq v hv = hv ∙ go left.0 right.0 k.0 left.1 right.1 left.2 k.1 k.2 left_n right_n
              where
                k : (gs : List ℕ) × (side true r ≡ Some gs) × (q ≡ push_all z gs) × (z.n + length gs ≤ 8)
                k = known z (side true r) w q fill_le hw hq

                go : (gl gr gs : List ℕ) → side false l ≡ Some gl → side true r ≡ Some gr → a ≡ push_all no_groups gl → side true r ≡ Some gs → q ≡ push_all z gs
                    → a.n ≡ length gl → b.n ≡ length gr → whole_of q ≡ as_ipv6 (filled (side false l) (side true r))
                go gl gr gs el er ea es eq na nb =
                    let same : gs ≡ gr = cc in
                    let parted : q ≡ push_all (push_all (push_all no_groups gl) (replicate (8 - b.n - a.n) 0)) gr = eq ∙ rw (same, hz, ← ea) in
                    ap whole_of parted
                    ∙ assembled gl gr (8 - b.n - a.n) (omega arith) (omega arith) (side_small false l gl el) (side_small true r gr er)
                    ∙ sym (rw (el, er))

-- the whole text
module _ (s : List ℕ) (p : Option ℕ) (hp : p ≡ below (length s) (Some (gap s))) where
  pub gap_text : (k : ℕ) → p ≡ Some k → (v : Option (ℕ × ℕ)) → v ≡ as_ipv6 (filled (side false (take k s)) (side true (take (length s - (k + 2)) (drop (k + 2) s)))) → v ≡ as_ipv6 (ipv6 s)
  unfolding ipv6
  gap_text k here v e =
      let there : (k ≡ gap s) × (gap s < length s) = gap_there s p hp k here in
      e ∙ rw (take_all (length s - (k + 2)) (drop (k + 2) s) (simp length-drop (omega arith)), there.0) (simp (lt-ltb (gap s) (length s) there.1))

  module _ (nowhere : p ≡ None) (x : Option Groups) (hx : x ≡ with_groups no_groups (side true s)) where
    plain : ipv6 s ≡ eight (side true s)
    unfolding ipv6
    plain = simp (le-ltb (gap s) (length s) (gap_nowhere s p hp nowhere))

    pub plain_none : x ≡ None → None ≡ as_ipv6 (ipv6 s)
    plain_none e = rw plain (go (side true s) (unknown no_groups (side true s) x (omega arith) hx e))
      where
        go : (m : Option (List ℕ)) → ((gs : List ℕ) → m ≡ Some gs → 8 < 0 + length gs) → None ≡ as_ipv6 (eight m)
        go (Some a) h = let z : 8 < 0 + length a = h a refl in simp (ne_eqb (length a) 8 (λ f. omega arith))
        go None h = refl

    pub plain_whole : (q : Groups) → x ≡ Some q → (v : Option (ℕ × ℕ)) → v ≡ whole_of q → v ≡ as_ipv6 (ipv6 s)
    plain_whole q hq v hv = hv ∙ rw plain (go found.0 found.1 found.2)
      where
        found : (gs : List ℕ) × (side true s ≡ Some gs) × (q ≡ push_all no_groups gs) × (0 + length gs ≤ 8)
        found = known no_groups (side true s) x q (omega arith) hx hq

        count : (gs : List ℕ) → side true s ≡ Some gs → (t : Bool) → eqb (length gs) 8 ≡ t → whole_of (push_all no_groups gs) ≡ as_ipv6 (cond t (Some gs) None)
        count gs es true e = whole_eight gs (eqb-true (length gs) 8 e) (side_small true s gs es)
        count gs es false e =
            simp (ne_eqb (push_all no_groups gs).n 8 (λ f. eqb-false (length gs) 8 e (sym (zero-add (length gs)) ∙ sym (push_all_n no_groups gs) ∙ f)))

        go : (gs : List ℕ) → side true s ≡ Some gs → q ≡ push_all no_groups gs → whole_of q ≡ as_ipv6 (eight (side true s))
        go gs es eq = rw (eq, es) (count gs es (eqb (length gs) 8) refl)
