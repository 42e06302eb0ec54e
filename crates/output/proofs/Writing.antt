-- Laws of calls that are lent a writer.
use Rattle.std.specs.Prelude.{Ok}
use mathlib.Core.Path.{◌≡◌, refl, sym, ◌∙◌}
use mathlib.Core.List.{List, [], ◌∷◌, ◌++◌}
use Prim.Native.Nat.{ℕ, ◌+◌, ◌-◌, ◌≤◌, ◌<◌, min}
use native.Mathlib.Omega.{arith}
use lib.ListN.{length, set, take, drop}
use lib.Seq.{take_at}
use borrow.Rule.Slice.PartMut.{put_mid}
use borrow.Rule.Slice.Mut.{set_vals}
use Rattle.output.specs.Output.{room, overwrite, front, answer}
use Rattle.output.specs.Writing.{Writes}
use Rattle.output.specs.declared.Writer.{Writer}
use Rattle.output.proofs.Output as output

-- a call that writes t and then one that writes u write t ++ u
pub then : {t u : List ℕ} {w₀ w₁ w₂ : Writer} → Writes t w₀ w₁ → Writes u w₁ w₂ → Writes (t ++ u) w₀ w₂
then a b = record { same_list = b.same_list ∙ a.same_list; written = output.then a.written b.written }

-- a call that writes nothing
pub nothing : (w : Writer) → Writes [] w w
nothing w = record { same_list = refl; written = output.nothing w.out.now w.at }

-- the list with no room left
pub full : (t : List ℕ) (w : Writer) → length w.out.now ≤ w.at → Writes t w w
full t w h = record { same_list = refl; written = output.no_room t w.out.now w.at h }

pub one_byte : (b : ℕ) (w : Writer) → w.at < length w.out.now
    → Writes (b ∷ []) w (record { out = set_vals (set w.out.now w.at b) w.out; at = w.at + 1 })
one_byte b w h = record { same_list = refl; written = output.byte_written b w.out.now w.at h }

pub first_bytes : (t ys : List ℕ) (w : Writer) (n k : ℕ) → w.at < length w.out.now → n ≡ min (length t) (length w.out.now - w.at) → k ≡ n → ys ≡ take n t
    → Writes t w (record { out = set_vals (put_mid w.at k w.out.now ys) w.out; at = w.at + n })
first_bytes t ys w n k h e z f = record { same_list = refl; written = output.bytes_written t w.out.now ys w.at n k e z f }

-- Writing in a loop. The text was to stand in the writer w₀; the writer is now w, and the rest is left to write.
pub record Left (text : List ℕ) (w₀ : Writer) (rest : List ℕ) (w : Writer) : Type 0 where
  pub same_list : w.out.ghost_name ≡ w₀.out.ghost_name
  pub list : overwrite w₀.out.now w₀.at text ≡ overwrite w.out.now w.at rest
  pub place : w₀.at + room w₀.out.now w₀.at text ≡ w.at + room w.out.now w.at rest

-- at first all is left
pub all_left : (text : List ℕ) (w : Writer) → Left text w text w
all_left text w = record { same_list = refl; list = refl; place = refl }

-- a call that writes what comes next
pub next_left : {text t rest : List ℕ} {w₀ w v : Writer} → Left text w₀ (t ++ rest) w → Writes t w v → Left text w₀ rest v
next_left l c =
    let k = output.next_left_lem (record { list = l.list; place = l.place }) c.written in
    record { same_list = c.same_list ∙ l.same_list; list = k.list; place = k.place }

-- a call that writes all that is left, and nothing left
pub last_left : {text rest : List ℕ} {w₀ w v : Writer} → Left text w₀ rest w → Writes rest w v → Writes text w₀ v
last_left l c =
    record {
      same_list = c.same_list ∙ l.same_list;
      written = output.last_left (record { list = l.list; place = l.place }) c.written;
    }

pub none_left : {text : List ℕ} {w₀ w : Writer} → Left text w₀ [] w → Writes text w₀ w
none_left {w = w} l = last_left l (nothing w)

-- a writer that began at place 0 of a list with room is at the text's end
pub place : {t : List ℕ} {w₀ w : Writer} → Writes t w₀ w → w₀.at ≡ 0 → length t ≤ length w₀.out.now → w.at ≡ length t
place {t} {w₀} c z h = omega (arith, c.written.place, z, output.room_all w₀.out.now w₀.at t (omega (arith, z)))

-- and holds the text, whole
pub holds : {t s : List ℕ} {w₀ w : Writer} → Writes t w₀ w → w₀.at ≡ 0 → length t ≤ length w₀.out.now → s ≡ take w.at w.out.now → s ≡ t
holds {t} {w₀ = w₀} {w = w} c z h e =
    e
    ∙ rw ((output.all_written t w₀.out.now w.out.now w₀.at w.at c.written (omega (arith, z, h))).0, z) (take_at t (drop (0 + length t) w₀.out.now) w.at (sym (place c z h)))

-- a call that measured its text and has room, so that it lends a writer of its whole list: x is the list afterwards
pub put : {t x out : List ℕ} {n : ℕ} {w₀ w : Writer} → w₀.at ≡ 0 → w₀.out.now ≡ out → n ≡ length t → n ≤ length out → Writes t w₀ w → x ≡ w.out.now
    → ((Ok w.at) ≡ answer t out) × (x ≡ front t out)
put {t} {x} {out} {n} {w₀} {w} z o measured h c e =
    let k = rw (z, o) at c.written in (output.wrote t out n measured w.out.now w.at h k, e ∙ output.whole t out n measured w.out.now w.at h k)
