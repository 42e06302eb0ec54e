-- How next goes through the lines, as a relation: each way that it can go is one constructor, so that a law of next has one line for each.
use Rattle.std.specs.Prelude.{Option, Some, None}
use Prim.Native.Nat.{ℕ}
use mathlib.Core.Path.{◌≡◌, refl}
use mathlib.Core.List.{List, [], ◌∷◌}
use Rattle.plain_reader.specs.Rules.{Rules, Remembered, nothing, invalid, valid, Line, unreadable, passed, wrapped, route, replace}
use Rattle.plain_reader.specs.Calls.{element, end, refused}
use Rattle.plain_reader.specs.Plain.{PlainState, Step, answer, answer_under, take_line, take_lines}
use Rattle.plain_reader.specs.Elements.{Readable, routes, after_line, under}

-- no route yields nothing
no_route_lem : (L : Rules) (m : Remembered L.Prefix) → under L m [] ≡ []
no_route_lem L nothing = refl
no_route_lem L invalid = refl
no_route_lem L (valid p) = refl

module _ (L : Rules) (σ : PlainState L.Prefix) (k : L.Places) where
  -- from a remembered prefix and lines, next answers this and leaves that
  pub data Scan : Remembered L.Prefix → List (List ℕ) → Step L → Type 0 where
    ends : {m : Remembered L.Prefix} → Scan m [] (end, record { left = []; remembered = m })
    -- an unreadable line
    six : {m : Remembered L.Prefix} {x : List ℕ} {l : List (List ℕ)} → L.classify x ≡ unreadable → Scan m (x ∷ l) (refused 6, σ)
    -- a line that yields nothing
    passes : {m : Remembered L.Prefix} {x : List ℕ} {l : List (List ℕ)} {z : Step L} (y : Line L.Prefix L.Route)
        → L.classify x ≡ y → Readable y → under L (after_line m y) (routes y) ≡ [] → Scan (after_line m y) l z → Scan m (x ∷ l) z
    -- a route under a valid prefix
    yields : {m : Remembered L.Prefix} {x : List ℕ} {l : List (List ℕ)} (t : Remembered L.Prefix) (r : L.Route) (p : L.Prefix)
        → L.classify x ≡ route t r → replace t m ≡ valid p → L.refusal k r ≡ None → Scan m (x ∷ l) (element (L.yield p r), record { left = l; remembered = valid p })
    refuses : {m : Remembered L.Prefix} {x : List ℕ} {l : List (List ℕ)} (t : Remembered L.Prefix) (r : L.Route) (p : L.Prefix) (n : ℕ)
        → L.classify x ≡ route t r → replace t m ≡ valid p → L.refusal k r ≡ Some n → Scan m (x ∷ l) (refused n, σ)

  pub scan : (m : Remembered L.Prefix) (l : List (List ℕ)) → Scan m l (take_lines L σ k m l)
  unfolding take_lines
  scan m [] = ends
  scan m (x ∷ l) = line (L.classify x) refl (λ m'. scan m' l)
    where
      on : Remembered L.Prefix → Step L
      on m' = take_lines L σ k m' l

      answered : (t : Remembered L.Prefix) (r : L.Route) (p : L.Prefix) (o : Option ℕ) → L.classify x ≡ route t r → replace t m ≡ valid p → L.refusal k r ≡ o → Scan m (x ∷ l) (answer L σ k p r l o)
      answered t r p None c h f = yields t r p c h f
      answered t r p (Some n) c h f = refuses t r p n c h f

      routed : (t : Remembered L.Prefix) (r : L.Route) (m' : Remembered L.Prefix) → L.classify x ≡ route t r → replace t m ≡ m' → Scan (replace t m) l (on (replace t m))
          → Scan m (x ∷ l) (answer_under L σ k m' r l (on (replace t m)))
      routed t r nothing c h i = passes {m = m} (route t r) c tt (rw h) i
      routed t r invalid c h i = passes {m = m} (route t r) c tt (rw h) i
      routed t r (valid p) c h i = answered t r p (L.refusal k r) c h refl

      line : (y : Line L.Prefix L.Route) → L.classify x ≡ y → ((m' : Remembered L.Prefix) → Scan m' l (on m')) → Scan m (x ∷ l) (take_line L σ k y m l on)
      line unreadable c i = six c
      line passed c i = passes passed c tt (no_route_lem L m) (i m)
      line (wrapped p) c i = passes (wrapped p) c tt refl (i (valid p))
      line (route t r) c i = routed t r (replace t m) c refl (i (replace t m))
