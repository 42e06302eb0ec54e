-- What a line does that the loop over the head takes, and is not too long: the path line, a header line, a line under a spoilt state.
use Rattle.std.specs.Prelude.{Option, Some, None, Result, Ok, Err, unwrap_or}
use Rattle.std.proofs.Common.{◌≡◌, ℕ, ◌<◌, ◌≤◌, Bool, true, false, List, ◌++◌, length, pos, refl, ap, ◌∙◌, arith, le-ltb, lt-ltb}
use lib.Seq.{take-length}
use lib.Ieee.{Float, fin, binary64, of_bits}
use Rattle.timestamp.specs.Dates.{infer_timestamp}
use Rattle.timestamp.specs.declared.InferError.{InferError}
use Rattle.timestamp.specs.declared.InferError.TheVariants.{NotUtf8}
use Rattle.psv.specs.Line.{header_text}
use Rattle.text_dump.specs.State.{turned, spoilt}
use Rattle.text_dump.specs.Open.{open_of}
use Rattle.text_dump.specs.Open.{told as toldOpened}
use Rattle.text_dump.specs.declared.State.{State}
use Rattle.text_dump.specs.declared.OpenError.{OpenError}
use Rattle.text_dump.specs.declared.OpenError.TheVariants.{NoColumns, NoTimestamp, Unreadable}
use Rattle.psv_stream.specs.Printed.{path, header, feed, refusal_text, refuse, dated, scanned, after}
use Rattle.psv_stream.specs.Printed as P
use Rattle.psv_stream.specs.Parts.{Puts, Ends, TooLong, Does, acts, is_head}
use Rattle.psv_stream.specs.declared.Phase.{Phase}
use Rattle.psv_stream.specs.declared.Phase.TheVariants.{Path, Header, Body, Stopped}
use Rattle.psv_stream.specs.declared.Step.{Step}
use Rattle.psv_stream.specs.declared.Step.TheVariants as step
use Rattle.text_dump.proofs.LineLaws.{spoilt_anywhere, spoilt_line}
use Rattle.psv_stream.proofs.Texts.{puts_none}

zero : fin false 0 (pos 0) ≡ of_bits binary64 0
unfolding of_bits
zero = refl

module _ (l out : List ℕ) where
  -- a refusal
  pub refused_does : (z : P.Step) (number line : ℕ) → z ≡ refuse number line → (new : List ℕ) (w : ℕ) → Puts (refusal_text number line) out new w → Does z l out new (step.Stops w)
  refused_does z number line f new w h = rw f (h, refl)

  -- the path line
  module _ (i : Result (Option Float) InferError) (known : i ≡ infer_timestamp l) where
    pub path_read : (d : Option Float) → i ≡ Ok d → (t : Float) → t ≡ unwrap_or d (of_bits binary64 0) → Does (dated (infer_timestamp l)) l out out (step.Took (length l) 0 (Header t 0 0))
    path_read (Some t) f u g = rw (← known, f, g) (puts_none out, refl, omega arith)
    path_read None f u g = rw (← known, f, g) (puts_none out, rw zero, omega arith)

    pub path_unreadable : i ≡ (Err NotUtf8) → (new : List ℕ) (w : ℕ) → Puts (refusal_text 3 0) out new w → Does (dated (infer_timestamp l)) l out new (step.Stops w)
    path_unreadable f new w = refused_does (dated (infer_timestamp l)) 3 0 (rw (← known, f)) new w

  -- a header line
  module _ (t : Float) (n : ℕ) (o : Result State OpenError) (known : toldOpened o ≡ open_of t l) where
    abbrev scan : P.Step
    scan = scanned t n l (open_of t l)

    pub opens : (σ : State) → o ≡ Ok σ → (new : List ℕ) (w : ℕ) → Puts (header_text ++ feed) out new w → Does scan l out new (step.Took (length l) w (Body σ n))
    opens σ f new w p = rw (← known, f) (p, refl, omega arith)

    pub no_columns_yet : o ≡ (Err NoColumns) → n < 64 → Does scan l out out (step.Took 0 0 (Header t n (length l)))
    no_columns_yet f h = rw (← known, f) (rw (lt-ltb n 64 h, take-length l) (puts_none out, refl, omega arith))

    module _ (new : List ℕ) (w : ℕ) where
      pub no_columns : o ≡ (Err NoColumns) → 64 ≤ n → Puts (refusal_text 2 0) out new w → Does scan l out new (step.Stops w)
      no_columns f h = refused_does scan 2 0 (rw (← known, f) (rw (le-ltb n 64 h))) new w

      pub unreadable_line_lem : (line : ℕ) → o ≡ Err (Unreadable line) → Puts (refusal_text 1 line) out new w → Does scan l out new (step.Stops w)
      unreadable_line_lem line f = refused_does scan 1 line (rw (← known, f)) new w

      pub no_timestamp : o ≡ (Err NoTimestamp) → Puts (refusal_text 4 0) out new w → Does scan l out new (step.Stops w)
      no_timestamp f = refused_does scan 4 0 (rw (← known, f)) new w

-- by phase
module _ (p : Phase) (out new : List ℕ) (w : ℕ) where
  pub path_ends : p ≡ Path → Puts (refusal_text 2 0) out new w → Ends p out new w
  path_ends f h = rw f h

  pub header_ends : (t : Float) (n size : ℕ) → p ≡ Header t n size → Puts (refusal_text 2 0) out new w → Ends p out new w
  header_ends t n size f h = rw f h

  pub path_long : p ≡ Path → Puts (refusal_text 13 0) out new w → TooLong p out new w
  path_long f h = rw f h

  pub header_long : (t : Float) (n size : ℕ) → p ≡ Header t n size → Puts (refusal_text 13 (after n)) out new w → TooLong p out new w
  header_long t n size f h = rw f h

  pub body_long : (σ : State) (n : ℕ) → p ≡ Body σ n → Puts (refusal_text 13 (after n)) out new w → TooLong p out new w
  body_long σ n f h = rw f h

  module _ (l : List ℕ) where
    pub on_body : (σ : State) (n : ℕ) → p ≡ Body σ n → is_head p ≡ true → Puts (refusal_text 5 (after n)) out new w → Does (acts p l) l out new (step.Stops w)
    on_body σ n f h d =
        let spoils : spoilt (turned σ) 0 ≡ true = rw f at h in
        let five = spoilt_line σ l 16384 (spoilt_anywhere σ (length l) 0 ∙ spoils) in
        refused_does l out (acts p l) 5 (after n) (rw f (rw five)) new w d

module _ (p : Phase) (out new : List ℕ) (r : Step Phase) (l : List ℕ) where
  pub on_path : p ≡ Path → Does (dated (infer_timestamp l)) l out new r → Does (acts p l) l out new r
  on_path f h = rw f h

  pub on_header : (t : Float) (n size : ℕ) → p ≡ Header t n size
      → Does (scanned t (after n) l (open_of t l)) l out new r → Does (acts p l) l out new r
  on_header t n size f h = rw f h

module _ (p : Phase) (out : List ℕ) where
  pub body_ends : (σ : State) (n : ℕ) → p ≡ Body σ n → Ends p out out 0
  body_ends σ n f = rw f (puts_none out)

  pub stopped_ends : p ≡ Stopped → Ends p out out 0
  stopped_ends f = rw f (puts_none out)

  pub stopped_long : p ≡ Stopped → TooLong p out out 0
  stopped_long f = rw f (puts_none out)

  pub on_stopped : (l : List ℕ) → p ≡ Stopped → Does (acts p l) l out out (step.Stops 0)
  on_stopped l f = rw f (puts_none out, refl)

-- the loop over the head goes on under a spoilt state
pub head_body : (p : Phase) (σ : State) (n : ℕ) → p ≡ Body σ n → (τ : State) → τ ≡ turned σ → (r : Bool) → r ≡ spoilt τ 0 → r ≡ is_head p
head_body p σ n f τ g r h = rw f (h ∙ ap (λ (u : State). spoilt u 0) g)

-- for the functions that go by phase
pub ruleset end_laws = (path_ends, header_ends, body_ends, stopped_ends)

pub ruleset long_laws = (path_long, header_long, body_long, stopped_long)

pub ruleset on_laws = (on_path, on_header, on_stopped)
