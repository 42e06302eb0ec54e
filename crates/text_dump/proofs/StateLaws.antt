-- Laws of the state and of what it remembers.
use Rattle.std.specs.Prelude.{Some, None}
use Prim.Native.Nat.{ℕ, min, ◌-◌, ◌≤◌, ◌<◌}
use mathlib.Core.Path.{◌≡◌, refl, sym, ap, ◌∙◌}
use mathlib.Core.Bool.{Bool, true, false, not, ◌||◌, true≢false}
use mathlib.Core.List.{List, [], ◌∷◌}
use native.Mathlib.Omega.{arith}
use native.Mathlib.Numerals.{unary_clauses}
use lib.ListN.{length, take, get_or}
use lib.Seq.{take_all, take-length}
use lib.Dec.{ltb, leb}
use borrow.Author.Tests.{ltb-false, leb-true, leb-false}
use Rattle.columns.specs.Columns.{are_rising}
use Rattle.seconds.specs.Seconds.{is_timestamp}
use Rattle.network.specs.declared.NetworkPrefix.{NetworkPrefix}
use Rattle.text_dump_line.specs.declared.PrefixText.{PrefixText}
use Rattle.text_dump_line.specs.declared.PrefixText.TheVariants.{Valid as ValidText}
use Rattle.plain_reader.specs.Rules.{Remembered as Plain, nothing, invalid, valid, replace}
use Rattle.plain_reader.specs.Cursor.{Cursor}
use Rattle.text_dump.specs.State.{plain, stored, cursor, moved, valid_remembered, spoilt}
use Rattle.text_dump.specs.Rules.{text_of, origin_asn}
use Rattle.text_dump.specs.declared.Remembered.{Remembered}
use Rattle.text_dump.specs.declared.Remembered.TheVariants.{Nothing, Invalid, Valid}
use Rattle.text_dump.specs.declared.State.{State}

pub stored_plain : (m : Remembered) → stored (plain m) ≡ m
stored_plain Nothing = refl
stored_plain Invalid = refl
stored_plain (Valid p) = refl

pub plain_stored : (m : Plain NetworkPrefix) → plain (stored m) ≡ m
plain_stored nothing = refl
plain_stored invalid = refl
plain_stored (valid p) = refl

-- a state holds any cursor
pub cursor_moved : (σ : State) (c : Cursor NetworkPrefix) → cursor (moved σ c) ≡ c
cursor_moved σ c = ap (λ (m : Plain NetworkPrefix). record { at = c.at; remembered = m }) (plain_stored c.remembered)

-- a state with its own cursor is itself
pub moved_cursor : (σ : State) → moved σ (cursor σ) ≡ σ
moved_cursor σ =
    ap
    (λ (m : Remembered). record { columns = σ.columns; peer_ip = σ.peer_ip; peer_asn = σ.peer_asn; timestamp = σ.timestamp; remembered = m; position = σ.position })
    (stored_plain σ.remembered)

pub replaces : (x : PrefixText) (p : NetworkPrefix) (m : Remembered) → x ≡ ValidText p → plain (Valid p) ≡ replace (text_of x) (plain m)
replaces x p m e = rw e

-- of a state that is not spoilt: the position lies in the part
pub first : (a b : Bool) → (a || b) ≡ false → a ≡ false
first true b h = absurd (true≢false h)
first false b h = refl

pub second : (a b : Bool) → (a || not b) ≡ false → b ≡ true
second true b h = absurd (true≢false h)
second false true h = refl
second false false h = absurd (true≢false h)

pub position_inside : (σ : State) (n : ℕ) → spoilt σ n ≡ false → σ.position ≤ n
unfolding spoilt
position_inside σ n h =
    let a : Bool = ltb n σ.position in
    let b : Bool = not (are_rising σ.columns) in
    let c : Bool = not (is_timestamp σ.timestamp) in
    ltb-false n σ.position (first a b (first (a || b) c (first (a || b || c) (not (valid_remembered σ.remembered)) h)))

-- the origin
pub no_origin : (asns : List ℕ) (n : ℕ) → n ≡ 0 → None ≡ origin_asn (take n asns)
unfolding origin_asn
no_origin asns n h = rw h

pub last_of : (l : List ℕ) (x : ℕ) → 0 < length l → x ≡ get_or l (length l - 1) x → Some (record { 0 = x }) ≡ origin_asn l
unfolding origin_asn
last_of [] x h e = absurd (omega arith)
last_of (a ∷ []) x h e = ap (λ (n : ℕ). Some (record { 0 = n })) e
last_of (a ∷ b ∷ l) x h e = last_of (b ∷ l) x (omega arith) (simp unary_clauses (simp unary_clauses at e))

-- as many as there are, at most
pub taken : (asns : List ℕ) (n m : ℕ) → m ≡ min n (length asns) → take m asns ≡ take n asns
taken asns n m e = go (leb n (length asns)) refl
  where
    go : (b : Bool) → leb n (length asns) ≡ b → take m asns ≡ take n asns
    go true h = let le : n ≤ length asns = leb-true n (length asns) h in let k : m ≡ n = omega arith in rw k
    go false h =
        let gt : length asns < n = leb-false n (length asns) h in
        let k : m ≡ length asns = omega arith in
        rw k (take-length asns ∙ sym (take_all n asns (omega arith)))

-- for origin_asn
pub ruleset origin_laws = (no_origin, last_of, taken)
