-- A line of a list of cases: a question, a tab, the answer.
use Rattle.std.specs.Prelude.{ℕ, ◌+◌, ◌-◌, ◌%◌, ◌^◌, Bool, cond, not, ◌&&◌, List, [], length, take, drop, ◌==◌, nat_le, nat_lt, Option, Some, None, Float, from_bits}
use Rattle.std.specs.Float.{binary64}
use Rattle.scan.specs.Lists.{end_while}
use Rattle.cases.specs.declared.Tally.{Tally}
use Rattle.cases.specs.declared.Or.{Or}

-- the part from a up to e; no bytes where there is no such part
abbrev pub part_of : List ℕ → ℕ → ℕ → List ℕ
part_of s a e = cond (nat_le a e && nat_le e (length s)) (take (e - a) (drop a s)) []

-- the float of these bits, of which a NaN's are none
abbrev pub float_of : ℕ → Option Float
float_of bits = cond (nat_lt 0x7ff0_0000_0000_0000 (bits % 0x8000_0000_0000_0000)) None (Some (from_bits binary64 bits))

abbrev pub not_tab : ℕ → Bool
not_tab b = not (b == 9)

-- what stands behind the first tab
unfoldable pub answer_of : List ℕ → List ℕ
answer_of s = drop (end_while not_tab s 0 + 1) s

-- what an optional value is shown as, where `shown` tells how its type is: it, or else the text
abbrev pub shown_or : {T : Type 0} → (T → Option (List ℕ)) → Or T → Option (List ℕ)
shown_or shown x = elim x.0 [ Some v ↦ shown v | None ↦ Some x.1.now ]

-- a case more, which the program answered rightly or not
unfoldable pub counted : Tally → Bool → Tally
counted t right =
    record {
      cases = (t.cases + 1) % 2 ^ 64;
      mismatches = cond right t.mismatches ((t.mismatches + 1) % 2 ^ 64);
    }
