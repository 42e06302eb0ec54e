-- The loop over lines. Its step is a closure: called at a place, with the bytes at hand and the room for what a line may
-- print, it answers a `Step`. Here g is what is known of the calls of such closures.
use Rattle.std.specs.Prelude.{◌≡◌, ℕ, ◌+◌, ◌-◌, ◌<◌, ◌≤◌, List, ◌++◌, length, take, drop, Option, Some, None}
use Rattle.std.specs.Fn.{Mut, Takes, Called}
use denote.Ref.{Bor, MutBor}
use Rattle.psv_stream.specs.declared.Step.{Step}
use Rattle.psv_stream.specs.declared.Step.TheVariants as step
use Rattle.psv_stream.specs.declared.walk.End.{End}
use Rattle.psv_stream.specs.declared.walk.End.TheVariants as end
use Rattle.psv_stream.specs.declared.walk.Taken.{Taken}

-- why lines end, by the answer of the last call (none: no room), which writes v bytes
abbrev pub EndsBy : {P : Type 0} → Option (Step P) → End → ℕ → Type 0
EndsBy None e v = (e ≡ end.Full) × (v ≡ 0)
EndsBy (Some step.Starved) e v = (e ≡ end.Starved) × (v ≡ 0)
EndsBy (Some step.Leaves) e v = (e ≡ end.Left) × (v ≡ 0)
EndsBy (Some (step.Stops n)) e v = (e ≡ end.Stopped) × (v ≡ n)
EndsBy (Some (step.Took d n q)) e v = ⊥

module _ {F P : Type 0} (g : Mut F (P × (Bor (List ℕ) × (MutBor (List ℕ) × Unit {0}))) (Step P × (MutBor (List ℕ) × Unit {0}))) where
  -- f may be called at p, with the bytes s and the room o
  abbrev pub TakesStep : F → P → List ℕ → List ℕ → Type 0
  TakesStep f p s o = (a : Bor (List ℕ)) (m : MutBor (List ℕ)) → a.now ≡ s → m.now ≡ o → Takes g f (p, (a, (m, tt)))

  -- such a call may answer r, and leave f' and, where the room was, o'
  pub record StepsAt (f : F) (p : P) (s o : List ℕ) (r : Step P) (f' : F) (o' : List ℕ) : Type 0 where
    pub text : Bor (List ℕ)
    pub room : MutBor (List ℕ)
    pub shows : (text.now ≡ s) × (room.now ≡ o)
    pub left : MutBor (List ℕ)
    pub called : Called g f (p, (text, (room, tt))) (r, (left, tt)) f'
    pub leaves : left.now ≡ o'

  -- the same where the output o has the room, or no call where it has none
  abbrev pub NextStep : F → P → List ℕ → List ℕ → F → List ℕ → Option (Step P) → Type 0
  NextStep f p s o f' o' None = (length o < 65537) × (o' ≡ o)
  NextStep f p s o f' o' (Some r) = (room : List ℕ) × StepsAt f p s (take 65537 o) r f' room × (o' ≡ room ++ drop 65537 o) × (length o' ≡ length o)

  -- f may be called at p, whatever the bytes at hand and the room
  abbrev pub Ready : F → P → Type 0
  Ready f p = (s o : List ℕ) → TakesStep f p s o

  -- after a line that is taken it may be called again, and what is left gets less
  pub record GoesOn (size : P → ℕ) : Type 0 where
    pub ready : (f f' : F) (p q : P) (s o o' : List ℕ) (d v : ℕ) → Ready f p → StepsAt f p s o (step.Took d v q) f' o' → Ready f' q
    pub falls : (f f' : F) (p q : P) (s o o' : List ℕ) (d v : ℕ) → Ready f p → StepsAt f p s o (step.Took d v q) f' o' → (size p < d + size q) × (d + size q ≤ length s) × (v ≤ length o)
    pub ends : (f f' : F) (p : P) (s o o' : List ℕ) (v : ℕ) → Ready f p → StepsAt f p s o (step.Stops v) f' o' → v ≤ length o

  -- the lines taken, from the first on
  pub data Walked (s : List ℕ) (f₀ : F) (p₀ : P) (out₀ : List ℕ) : F → P → ℕ → ℕ → List ℕ → Type 0 where
    none : Walked s f₀ p₀ out₀ f₀ p₀ 0 0 out₀
    took : {f : F} {p : P} {c w : ℕ} {o : List ℕ} {f' : F} {part : List ℕ} {d v : ℕ} {q : P} → Walked s f₀ p₀ out₀ f p c w o
        → NextStep f p (take (length s - c) (drop c s)) (take (length o - w) (drop w o)) f' part (Some (step.Took d v q))
        → Walked s f₀ p₀ out₀ f' q (c + d) (w + v) (take w o ++ (part ++ drop (length o - w) (drop w o)))

  -- what holds before each line
  pub record Before (size : P → ℕ) (s : List ℕ) (f₀ : F) (p₀ : P) (out₀ : List ℕ) (f : F) (p : P) (c w : ℕ) (o : List ℕ) : Type 0 where
    pub walked : Walked s f₀ p₀ out₀ f p c w o
    pub ready : Ready f p
    pub inside : c ≤ length s
    pub within : w ≤ length o

  -- where they end: the lines taken, and the answer of the call after them, by which the last v bytes are written
  pub record Ended (s : List ℕ) (f₀ : F) (p₀ : P) (out₀ : List ℕ) (r : Taken P) (new : List ℕ) : Type 0 where
    pub last : F
    pub next : F
    pub o : List ℕ
    pub part : List ℕ
    pub w : ℕ
    pub walked : Walked s f₀ p₀ out₀ last r.place r.consumed w o
    pub output : new ≡ take w o ++ (part ++ drop (length o - w) (drop w o))
    pub answer : Option (Step P)
    pub v : ℕ
    pub written : r.written ≡ w + v
    pub by : NextStep last r.place (take (length s - r.consumed) (drop r.consumed s)) (take (length o - w) (drop w o)) next part answer
    pub ends : EndsBy answer r.end v
