-- A line taken from the front of the bytes at hand: what is printed, and what is then to come, whatever comes later.
use Rattle.std.proofs.Common.{◌≡◌, ℕ, ◌+◌, ◌-◌, ◌<◌, ◌≤◌, Bool, true, false, List, [], ◌∷◌, ◌++◌, length, take, drop, sym, refl, ap, ◌∙◌, append-nil, arith, length-append, length-drop, take-append-drop, length-take, take-take, drop-drop, take-add, le-ltb, lt-ltb}
use Rattle.std.proofs.lemmas.List.{drop-take}
use lib.Seq.{drop-append-le, take-append-le}
use Rattle.scan.specs.Lines.{lines, line_end}
use Rattle.scan.proofs.LineLaws.{line_at, line_end_inside, line_end_after, no_lines}
use Rattle.input.specs.Input.{Later, Fronts}
use Rattle.input.specs.declared.Front.{Front}
use Rattle.input.specs.declared.Front.TheVariants as front
use Rattle.psv_stream.specs.Printed.{header, stopped, on_line, at_end, printed_from}
use Rattle.psv_stream.specs.Printed as P
use Rattle.psv_stream.specs.Run.{header_bytes, stage_of, rest}
use Rattle.psv_stream.specs.Parts.{Puts, acts, Ends, long_text, TooLong, Does, Steps, HeadSteps}
use Rattle.psv_stream.specs.declared.Phase.{Phase}
use Rattle.psv_stream.specs.declared.Phase.TheVariants.{Path, Header, Body, Stopped}
use Rattle.psv_stream.specs.declared.Step.{Step}
use Rattle.psv_stream.specs.declared.Step.TheVariants as step
use Rattle.psv_stream.proofs.Texts.{put_text, put_behind}

-- nothing is printed any more
stopped_rest : (ls : List (List ℕ)) → printed_from stopped ls ≡ []
unfolding printed_from on_line
stopped_rest [] = refl
stopped_rest (l ∷ ls) = stopped_rest ls

pub rest_stopped : (s : List ℕ) → rest Stopped s ≡ []
unfolding rest
rest_stopped s = stopped_rest (lines (drop 0 s))

-- the header's lines stand among the bytes at hand, whatever comes behind these
stage_kept : (q : Phase) (s later : List ℕ) → header_bytes q ≤ length s → stage_of q (s ++ later) ≡ stage_of q s
stage_kept Path s later h = refl
stage_kept (Header t n size) s later h = rw (take-append-le size s later h)
stage_kept (Body σ n) s later h = refl
stage_kept Stopped s later h = refl

-- a line that is not too long
split_take : (m n : ℕ) (s : List ℕ) → m ≤ n → take m s ++ take (n - m) (drop m s) ≡ take n s
split_take m n s h = let z : m + (n - m) ≡ n = omega arith in sym (ap (λ (k : ℕ). take k s) (sym z) ∙ take-add m (n - m) s)

fits : (e : ℕ) (s : List ℕ) → e ≤ 65536 → P.too_long (take e s) ≡ false
fits e s h = le-ltb 65536 (length (take e s)) (rw length-take (omega arith))

acts_is : (p : Phase) (s later : List ℕ) (e : ℕ) → header_bytes p < e → e ≤ length s → e ≤ 65536
    → on_line (stage_of p (s ++ later)) (take (e - header_bytes p) (drop (header_bytes p) s)) ≡ acts p (take e s)
unfolding on_line
acts_is Path s later e h i j = let z : e - 0 ≡ e = omega arith in rw (z, fits e s j)
acts_is (Header t n size) s later e h i j = rw (take-append-le size s later (omega arith), split_take size e s (omega arith), fits e s j)
acts_is (Body σ n) s later e h i j = let z : e - 0 ≡ e = omega arith in rw (z, fits e s j)
acts_is Stopped s later e h i j = refl

module _ (p : Phase) (s : List ℕ) (ended : Bool) (out new : List ℕ) where
  module _ (e : ℕ) (line : Fronts s (header_bytes p) ended (front.Line e)) where
    line_rest : (later : List ℕ) → Later ended later → rest p (s ++ later) ≡ (acts p (take e s)).0 ++ printed_from (acts p (take e s)).1 (lines (drop e s ++ later))
    unfolding rest printed_from
    line_rest later none = rw (line.3 later none, acts_is p s later e line.0 line.1 line.2)

    rest_next : (q : Phase) (c : ℕ) (later : List ℕ) → c + header_bytes q ≡ e → rest q (drop c s ++ later) ≡ printed_from (stage_of q (drop c s)) (lines (drop e s ++ later))
    unfolding rest
    rest_next q c later h =
        let k : header_bytes q ≤ length (drop c s) = rw length-drop (omega (arith, line.1)) in
        rw (stage_kept q (drop c s) later k, drop-append-le (header_bytes q) (drop c s) later k, drop-drop, h)

    -- what is left of a line is left of the bytes at hand
    stage_there : (q : Phase) (c : ℕ) → c + header_bytes q ≡ e → stage_of q (drop c (take e s)) ≡ stage_of q (drop c s)
    stage_there Path c h = refl
    stage_there (Header t n size) c h = rw (← h, drop-take c size s, take-take size size (drop c s) (omega arith))
    stage_there (Body σ n) c h = refl
    stage_there Stopped c h = refl

    does_steps : (r : Step Phase) → Does (acts p (take e s)) (take e s) out new r → Steps p s ended out new r
    does_steps (step.Took c w q) d =
        let end : c + header_bytes q ≡ e = d.2 ∙ rw length-take (omega (arith, line.1)) in (
          omega (arith, line.0, end),
          omega (arith, line.1, end),
          d.0.1,
          put_behind (acts p (take e s)).0 out new w d.0,
          λ later none. rw (put_text (acts p (take e s)).0 out new w d.0) (line_rest later none ∙ rw (d.1, stage_there q c end, rest_next q c later end)),
        )
    does_steps (step.Stops w) d = (
      d.0.1,
      put_behind (acts p (take e s)).0 out new w d.0,
      λ later none. rw (put_text (acts p (take e s)).0 out new w d.0) (line_rest later none ∙ rw (d.1, stopped_rest, rest_stopped)),
    )
    does_steps step.Starved d = absurd d
    does_steps step.Leaves d = absurd d

  -- the last text
  last_steps : (text : List ℕ) → ((later : List ℕ) → Later ended later → rest p (s ++ later) ≡ text) → (w : ℕ) → Puts text out new w → Steps p s ended out new (step.Stops w)
  last_steps text is w d =
      (d.1, put_behind text out new w d, λ later none. rw (put_text text out new w d) (is later none ∙ rw (rest_stopped later) (sym (append-nil text))))

-- a line that is too long
module _ (t : List ℕ) (at : ℕ) (inside : at < length t) (long : 65536 < line_end t at) where
  abbrev long_line : List ℕ
  long_line = take (line_end t at - at) (drop at t)

  is_long : (met : List ℕ) → length met ≡ at → P.too_long (met ++ long_line) ≡ true
  is_long met h =
      lt-ltb 65536 (length (met ++ long_line)) (rw (length-append, length-take, length-drop) (omega (arith, line_end_inside t at (omega arith), line_end_after t at inside)))

  at_length : length (take at t) ≡ at
  at_length = rw length-take (omega arith)

long_on : (p : Phase) (t : List ℕ) (inside : header_bytes p < length t) (long : 65536 < line_end t (header_bytes p)) → on_line (stage_of p t) (long_line t (header_bytes p) inside long) ≡ (long_text p, stopped)
unfolding on_line
long_on Path t inside long = rw (is_long t 0 inside long [] refl)
long_on (Header x n size) t inside long = rw (is_long t size inside long (take size t) (at_length t size inside long))
long_on (Body σ n) t inside long = rw (is_long t 0 inside long [] refl)
long_on Stopped t inside long = refl

module _ (p : Phase) (s : List ℕ) (ended : Bool) (out new : List ℕ) where
  too_long_steps : Fronts s (header_bytes p) ended front.TooLong → (w : ℕ) → TooLong p out new w → Steps p s ended out new (step.Stops w)
  unfolding rest printed_from
  too_long_steps long = last_steps p s ended out new (long_text p) (λ later none. is later)
    where
      is : (later : List ℕ) → rest p (s ++ later) ≡ long_text p
      is later =
          let inside : header_bytes p < length (s ++ later) = rw length-append (omega (arith, long.0)) in
          rw (line_at (s ++ later) (header_bytes p) inside, long_on p (s ++ later) inside (long.1 later), stopped_rest (lines (drop (line_end (s ++ later) (header_bytes p)) (s ++ later)))) (append-nil (long_text p))

  -- no line
  nothing_steps : Fronts s (header_bytes p) ended front.Nothing → (w : ℕ) → Ends p out new w → Steps p s ended out new (step.Stops w)
  unfolding rest printed_from
  nothing_steps over = last_steps p s ended out new (at_end (stage_of p [])) (λ later none. is later (none over.0))
    where
      same_end : (q : Phase) (t : List ℕ) → at_end (stage_of q t) ≡ at_end (stage_of q [])
      same_end Path t = refl
      same_end (Header x n size) t = refl
      same_end (Body σ n) t = refl
      same_end Stopped t = refl

      is : (later : List ℕ) → later ≡ [] → rest p (s ++ later) ≡ at_end (stage_of p [])
      is later none = rw (none, append-nil, no_lines s (header_bytes p) over.1) (same_end p s)

-- by what line_at answers
module _ (p : Phase) (s : List ℕ) (ended : Bool) (at : ℕ) (here : at ≡ header_bytes p) (f : Front) (known : Fronts s at ended f) where
  here_known : Fronts s (header_bytes p) ended f
  here_known = rw here at known

  pub line_inside : (e : ℕ) → f ≡ front.Line e → e ≤ length s
  line_inside e g = let w : Fronts s (header_bytes p) ended (front.Line e) = rw g at here_known in w.1

  pub starved_steps : f ≡ front.Starved → (out : List ℕ) → Steps p s ended out out step.Starved
  starved_steps g out = (refl, rw g at here_known)

  module _ (out new : List ℕ) where
    pub line_steps : (r : Step Phase) (e : ℕ) → f ≡ front.Line e → Does (acts p (take e s)) (take e s) out new r → Steps p s ended out new r
    line_steps r e g = does_steps p s ended out new e (rw g at here_known) r

    pub long_steps : (w : ℕ) → f ≡ front.TooLong → TooLong p out new w → Steps p s ended out new (step.Stops w)
    long_steps w g = too_long_steps p s ended out new (rw g at here_known) w

    pub end_steps : (w : ℕ) → f ≡ front.Nothing → Ends p out new w → Steps p s ended out new (step.Stops w)
    end_steps w g = nothing_steps p s ended out new (rw g at here_known) w

-- what is written to the first n bytes of the output, is written to the output
module _ (p : Phase) (s : List ℕ) (ended : Bool) (out room new : List ℕ) (n : ℕ) (front : room ≡ take n out) (size : length (new ++ drop n out) ≡ length out) where
  wider : (w : ℕ) → w ≤ length room → drop w new ≡ drop w room → (w ≤ length out) × (drop w (new ++ drop n out) ≡ drop w out) × (take w (new ++ drop n out) ≡ take w new)
  wider w h k =
      let whole : room ++ drop n out ≡ out = rw front (take-append-drop n out) in
      let same : length new ≡ length room = omega (arith, size, length-append new (drop n out), ap length whole, length-append room (drop n out)) in (
        omega (arith, ap length whole, length-append room (drop n out)),
        drop-append-le w new (drop n out) (omega arith) ∙ ap (λ (x : List ℕ). x ++ drop n out) k ∙ sym (drop-append-le w room (drop n out) h) ∙ ap (drop w) whole,
        take-append-le w new (drop n out) (omega arith),
      )

  pub steps_wider : (r : Step Phase) → Steps p s ended room new r → Steps p s ended out (new ++ drop n out) r
  steps_wider (step.Took c w q) h = let z = wider w h.2 h.3 in (h.0, h.1, z.0, z.1, rw z.2 h.4)
  steps_wider (step.Stops w) h = let z = wider w h.0 h.1 in (z.0, z.1, rw z.2 h.2)
  steps_wider step.Starved h = (rw (h.0, front) (take-append-drop n out), h.1)
  steps_wider step.Leaves h = absurd h

-- a line of the head
pub head_steps : (p : Phase) (s : List ℕ) (ended : Bool) (out new : List ℕ) (r : Step Phase) → Steps p s ended out new r → HeadSteps p s ended out new r
head_steps p s ended out new (step.Took c w q) h = h
head_steps p s ended out new (step.Stops w) h = h
head_steps p s ended out new step.Starved h = h
head_steps p s ended out new step.Leaves h = absurd h

-- for a line of the head
pub ruleset line_laws = (line_inside, starved_steps, line_steps)
