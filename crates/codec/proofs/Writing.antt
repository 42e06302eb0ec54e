-- The words that are written, and those that stay where a reading goes on. Assumes nothing.
use mathlib.Core.Path.{◌≡◌, refl, sym, ◌∙◌}
use mathlib.Core.Bool.{Bool, true, false, not, cond, beq}
use mathlib.Core.List.{[], ◌∷◌}
use Prim.Native.Nat.{ℕ, ◌*◌}
use native.Mathlib.Omega.{arith}
use lib.ListN.{take, drop}
use lib.Dec.{T}
use lib.Ieee.{Float, nan, inf, fin, binary64, up, down, eq, to_bits, is_nan}
use borrow.Author.Tests.{eq-eqb}
use mir.Val.{bool_byte}
use Rattle.elem.specs.declared.Element.{Element}
use Rattle.network.specs.declared.NetworkPrefix.{NetworkPrefix}
use Rattle.plain_reader.specs.Cursor.{Cursor}
use Rattle.text_dump.specs.State.{moved, turned}
use Rattle.text_dump.specs.declared.Remembered.{Remembered}
use Rattle.text_dump.specs.declared.State.{State}
use Rattle.text_dump.proofs.StateLaws.{stored_plain}
use Rattle.codec.specs.Words.{address_words, remembered_words, asn_number, origin_number, cursor_with, cursor_words, state_with, state_words, element_with, element_words}
use Rattle.codec.specs.declared.AddressWords.{AddressWords}
use Rattle.codec.specs.declared.RememberedWords.{RememberedWords}
use Rattle.std.specs.Prelude.{Option}

-- only a NaN is not equal to itself
pub a_number : (t : Float) → eq t t ≡ true → T (not (is_nan t))
unfolding eq is_nan
a_number nan h = let z : ◌≡◌ {A = ℕ} 0 1 = cc in absurd (omega arith)
a_number (inf s) h = tt
a_number (fin s m e) h = tt

same : (s : Bool) → beq s s ≡ true
same true = refl
same false = refl

clash : true ≡ false → ⊥
clash h = let z : ◌≡◌ {A = ℕ} 0 1 = cc in omega arith

pub a_nan : (t : Float) → eq t t ≡ false → 9221120237041090560 ≡ to_bits binary64 t
unfolding eq to_bits
a_nan nan h = refl
a_nan (inf s) h = absurd (clash (sym (same s) ∙ h))
a_nan (fin s m e) h = absurd (clash (sym (simp (eq-eqb (m * up e * down e) (m * up e * down e) refl, same s)) ∙ h))

bool_word : (b : Bool) → bool_byte b ≡ cond b 1 0
bool_word true = refl
bool_word false = refl

pub state_written : (σ : State) (peer : AddressWords) (time : ℕ) (m : RememberedWords)
    → peer ≡ address_words σ.peer_ip → time ≡ to_bits binary64 σ.timestamp → m ≡ remembered_words σ.remembered → state_with σ peer time m ≡ state_words σ
unfolding state_words
state_written σ peer time m p t r = rw (p, t, r)

pub cursor_written : (m : Remembered) (r : RememberedWords) (position : ℕ) → r ≡ remembered_words m → cursor_with r position ≡ cursor_words m position
unfolding cursor_words
cursor_written m r position e = rw e

pub element_written : (e : Element) (time : ℕ) (peer prefix hop : AddressWords) (asn origin pref med : Option ℕ)
    → time ≡ to_bits binary64 e.timestamp → peer ≡ address_words e.peer_ip → prefix ≡ address_words e.prefix.addr → hop ≡ address_words e.next_hop
    → asn ≡ asn_number e.origin_asn → origin ≡ origin_number e.origin → pref ≡ e.local_pref → med ≡ e.metric
    → element_with e (bool_byte e.announce) time peer prefix hop asn origin pref med ≡ element_words e
unfolding element_words
element_written e time peer prefix hop asn origin pref med t p q h a o l m = rw (bool_word e.announce, t, p, q, h, a, o, l, m)

-- the same reading elsewhere: its first ten words stay, and the last six say where it stands
pub moved_words : (σ : State) (c : Cursor NetworkPrefix) → take 10 (state_words (moved σ c)) ≡ take 10 (state_words σ)
unfolding state_words
moved_words σ c = refl

pub cursor_last : (σ : State) → drop 10 (state_words σ) ≡ cursor_words σ.remembered σ.position
unfolding state_words cursor_words
cursor_last σ = refl

-- at the start of the next part: all words stay but the last, the position
pub turned_words : (σ : State) → take 15 (state_words (turned σ)) ≡ take 15 (state_words σ)
unfolding state_words
turned_words σ = rw (stored_plain σ.remembered)

pub position_last : (σ : State) → drop 15 (state_words σ) ≡ σ.position ∷ []
unfolding state_words
position_last σ = refl
