-- For the parts of a run: what the line comes to that comes next, and what is written of it.
use Rattle.std.specs.Prelude.{◌≡◌, ℕ, ◌+◌, ◌-◌, ◌<◌, ◌≤◌, Bool, true, false, cond, List, [], ◌++◌, length, get_or, take, drop, nat_le, Result, Ok, Err, Option, Some, None}
use Rattle.input.specs.Input.{Starved}
use Rattle.word.specs.Word.{little_endian}
use Rattle.decimal.specs.Decimal.{leading}
use Rattle.network.specs.declared.NetworkPrefix.{NetworkPrefix}
use Rattle.elem.specs.Element.{spoilt as spoiltElement}
use Rattle.elem.specs.declared.Element.{Element}
use Rattle.psv.specs.declared.Attributes.{Attributes}
use Rattle.psv.specs.Line.{psv_text, front_text, between_text, sequence_text, asn_text, texts_line}
use Rattle.psv.specs.declared.ElementError.{ElementError}
use Rattle.psv.specs.declared.ElementError.TheVariants.{Spoilt, TooShort}
use Rattle.timestamp.specs.Dates.{infer_timestamp}
use Rattle.path_text.specs.Path.{asns_of}
use Rattle.text_dump_line.specs.declared.PrefixText.{PrefixText}
use Rattle.text_dump_line.specs.declared.PrefixText.TheVariants as prefix
use Rattle.text_dump_line.specs.declared.RouteEntry.{RouteEntry}
use Rattle.text_dump.specs.Open.{open_of}
use Rattle.text_dump.specs.Rules.{origin_asn, element_of}
use Rattle.text_dump.specs.State.{plain, moved, turned, spoilt}
use Rattle.text_dump.specs.declared.Remembered.{Remembered}
use Rattle.text_dump.specs.declared.Remembered.TheVariants as remembered
use Rattle.text_dump.specs.declared.State.{State}
use Rattle.packed.specs.Packed.{remembered_in}
use Rattle.psv_stream.specs.Printed.{header, stopped, feed}
use Rattle.psv_stream.specs.Printed as P
use Rattle.psv_stream.specs.declared.Phase.{Phase}
use Rattle.psv_stream.specs.declared.Phase.TheVariants.{Path, Header, Body, Stopped}
use Rattle.psv_stream.specs.declared.Step.{Step}
use Rattle.psv_stream.specs.declared.Step.TheVariants as step
use Rattle.psv_stream.specs.declared.Ran.{Ran}
use Rattle.psv_stream.specs.Refusal.{number}
use Rattle.psv_stream.specs.declared.Refusal.{Refusal}
use Rattle.psv_stream.specs.declared.body.Cursor.{Cursor}
use Rattle.psv_stream.specs.Run.{header_bytes, stage_of, Prints}

-- what a line comes to that is not too long; of a header line, the text with all before it
abbrev pub acts : Phase → List ℕ → P.Step
acts Path l = P.dated (infer_timestamp l)
acts (Header t n size) text = P.scanned t (P.after n) text (open_of t text)
acts (Body σ n) l = P.answered (P.after n) (P.next_of σ l).0 (P.next_of σ l).1
acts Stopped l = ([], stopped)

-- the loop over the head takes the next line: the table is not open yet, or its state is spoilt, so that the line is refused
abbrev pub is_head : Phase → Bool
is_head Path = true
is_head (Header t n size) = true
is_head (Body σ n) = spoilt (turned σ) 0
is_head Stopped = false

-- a text at the front of the lent list, and behind it what stood there
abbrev pub Puts : List ℕ → List ℕ → List ℕ → ℕ → Type 0
Puts text out new w = (w ≡ length text) × (w ≤ length out) × (new ≡ text ++ drop w out)

-- what is printed at the input's end, and of a line that is too long
abbrev pub Ends : Phase → List ℕ → List ℕ → ℕ → Type 0
Ends p = Puts (P.at_end (stage_of p []))

abbrev pub long_text : Phase → List ℕ
long_text Path = P.refusal_text 13 0
long_text (Header t n size) = P.refusal_text 13 (P.after n)
long_text (Body σ n) = P.refusal_text 13 (P.after n)
long_text Stopped = []

abbrev pub TooLong : Phase → List ℕ → List ℕ → ℕ → Type 0
TooLong p = Puts (long_text p)

-- an element's line with its line feed
abbrev pub PutElement : Element → List ℕ → List ℕ → List ℕ → Result ℕ ElementError → Type 0
PutElement e asns out new (Ok w) = (spoiltElement e asns ≡ false) × (length (psv_text e asns) ≤ 65536) × Puts (psv_text e asns ++ feed) out new w
PutElement e asns out new (Err Spoilt) = (spoiltElement e asns ≡ true) × (new ≡ out)
PutElement e asns out new (Err TooShort) = (spoiltElement e asns ≡ false) × (65536 < length (psv_text e asns)) × (new ≡ out)

-- a path's bytes up to `end` are what its numbers print as, and those from `last` on what the last of them prints as
pub record Spells (path : List ℕ) (last end : ℕ) : Type 0 where
  pub inside : end ≤ length path
  pub order : last ≤ end
  pub text : take end path ≡ sequence_text (asns_of path)
  pub asn : take (end - last) (drop last path) ≡ asn_text (origin_asn (asns_of path))

-- a text begins with a number of a plain path: n digits and no more, at most seven, the first of them no 0, and a space after them
pub record PlainNumber (text : List ℕ) (n : ℕ) : Type 0 where
  pub digits : n ≡ length (leading text)
  pub some : 0 < n
  pub few : n ≤ 7
  pub no_zero : get_or text 0 0 ≡ 48 → ⊥
  pub space : get_or text n 0 ≡ 32

-- the same of a word's bytes
abbrev pub PlainDigits : ℕ → Option ℕ → Type 0
PlainDigits w (Some n) = PlainNumber (little_endian w) n
PlainDigits w None = Unit {0}

-- what is told of a plain path; of others nothing is
abbrev pub IsPlain : List ℕ → Option (ℕ × ℕ) → Type 0
IsPlain path (Some (last, end)) = Spells path last end
IsPlain path None = Unit {0}

-- texts_line (psv: specs/Line.antt) of the texts that the path's numbers print as
abbrev pub copied_text : List ℕ → List ℕ → Attributes → List ℕ
copied_text start path a = texts_line start (sequence_text (asns_of path)) (asn_text (origin_asn (asns_of path))) a

-- a route's line put together from texts: start, the path as its numbers print, the last of them, and the attributes; where it is not, nothing is written
abbrev pub Copies : List ℕ → List ℕ → Attributes → List ℕ → List ℕ → Option ℕ → Type 0
Copies start path a out new (Some w) =
    (length (asns_of path) ≤ 16384) × (length (copied_text start path a) ≤ 65536) × Puts (copied_text start path a ++ feed) out new w
Copies start path a out new None = new ≡ out

-- a line's text l does what z says: of it are c bytes consumed, and the others are of header lines that have come
abbrev pub Does : P.Step → List ℕ → List ℕ → List ℕ → Step Phase → Type 0
Does z l out new (step.Took c w q) = Puts z.0 out new w × (z.1 ≡ stage_of q (drop c l)) × (c + header_bytes q ≡ length l)
Does z l out new (step.Stops w) = Puts z.0 out new w × (z.1 ≡ stopped)
Does z l out new step.Starved = ⊥
Does z l out new step.Leaves = ⊥

-- whatever comes later
abbrev pub Steps : Phase → List ℕ → Bool → List ℕ → List ℕ → Step Phase → Type 0
Steps p s ended out new (step.Took c w q) =
    (header_bytes p < c + header_bytes q) × (c + header_bytes q ≤ length s) × (w ≤ length out) × (drop w new ≡ drop w out) × Prints ended p s (take w new) q (drop c s)
Steps p s ended out new (step.Stops w) = (w ≤ length out) × (drop w new ≡ drop w out) × Prints ended p s (take w new) Stopped []
Steps p s ended out new step.Starved = (new ≡ out) × Starved s (header_bytes p) ended
Steps p s ended out new step.Leaves = ⊥

-- the same in the loop over the head, which leaves where the body begins
abbrev pub HeadSteps : Phase → List ℕ → Bool → List ℕ → List ℕ → Step Phase → Type 0
HeadSteps p s ended out new (step.Took c w q) = Steps p s ended out new (step.Took c w q)
HeadSteps p s ended out new (step.Stops w) = Steps p s ended out new (step.Stops w)
HeadSteps p s ended out new step.Starved = Steps p s ended out new step.Starved
HeadSteps p s ended out new step.Leaves = (new ≡ out) × (is_head p ≡ false)

-- from p₀, with the input s and the output out₀, the lines taken have come to p, with c bytes consumed and w written to what is now out
pub record Came (p₀ : Phase) (s : List ℕ) (ended : Bool) (out₀ : List ℕ) (p : Phase) (c w : ℕ) (out : List ℕ) : Type 0 where
  pub consumed : c ≤ length s
  pub written : w ≤ length out₀
  pub same : length out ≡ length out₀
  pub kept : drop w out ≡ drop w out₀
  pub prints : Prints ended p₀ s (take w out) p (drop c s)

-- a run over the head: it stops as `Runs` says, or where the body begins
pub record Heads (p : Phase) (s : List ℕ) (ended : Bool) (out : List ℕ) (r : Ran) (new : List ℕ) : Type 0 where
  pub came : Came p s ended out r.phase r.consumed r.written new
  pub wants_input : r.starved ≡ true → Starved (drop r.consumed s) (header_bytes r.phase) ended
  pub wants_room : r.starved ≡ false → is_head r.phase ≡ true → length out - r.written < 65537

-- A route's line.

-- the element of a route under a prefix
abbrev pub element_for : State → NetworkPrefix → RouteEntry → List ℕ → Element
element_for σ p e asns = element_of σ p e (length asns) (origin_asn asns)

abbrev pub route_text : State → NetworkPrefix → RouteEntry → List ℕ → List ℕ
route_text σ p e asns = psv_text (element_for σ p e asns) asns ++ feed

-- what the line comes to, if it is the n-th and u stands behind it: 7, or what its element comes to
abbrev pub routed : State → NetworkPrefix → RouteEntry → List ℕ → ℕ → State → P.Step
routed σ p e asns n u = cond (nat_le (length asns) 16384) (P.printed_element n u (element_for σ p e asns) asns) (P.refuse 7 n)

-- that line written, or the number of its refusal with nothing written
abbrev pub PutRoute : State → NetworkPrefix → RouteEntry → List ℕ → List ℕ → List ℕ → Result ℕ Refusal → Type 0
PutRoute σ p e asns out new (Ok w) = ((n : ℕ) (u : State) → routed σ p e asns n u ≡ (route_text σ p e asns, P.body u n)) × Puts (route_text σ p e asns) out new w
PutRoute σ p e asns out new (Err k) = ((n : ℕ) (u : State) → routed σ p e asns n u ≡ P.refuse (number k) n) × (new ≡ out)

-- that line written, or nothing
abbrev pub PutCopy : State → NetworkPrefix → RouteEntry → List ℕ → List ℕ → List ℕ → Option ℕ → Type 0
PutCopy σ p e asns out new (Some w) = PutRoute σ p e asns out new (Ok w)
PutCopy σ p e asns out new None = new ≡ out

-- What the lines of the body begin with.

-- the front of the lines of a table, under its state
abbrev pub front_of : State → List ℕ
front_of σ = front_text true σ.timestamp σ.peer_ip σ.peer_asn

-- The first n bytes of start are the front of all lines, and the first k with the field of the prefix that is remembered behind it, each unless it is 0.
pub record Starts (front start : List ℕ) (n : ℕ) (m : Remembered) (k : ℕ) : Type 0 where
  pub front_inside : n ≤ length start
  pub is_front : 0 < n → take n start ≡ front
  pub inside : k ≤ length start
  pub is_start : (p : NetworkPrefix) → m ≡ remembered.Valid p → 0 < k → take k start ≡ front ++ between_text p

-- of k bytes, behind a line's prefix text: a blank one leaves the prefix
abbrev pub kept_len : PrefixText → ℕ → ℕ
kept_len prefix.Blank k = k
kept_len prefix.Invalid k = 0
kept_len (prefix.Valid p) k = 0

-- The loop over the body's lines.

-- the phase that it stands for
abbrev pub state_of : State → Cursor → State
state_of σ b = moved σ (record { at = b.position; remembered = plain (remembered_in b.memory) })

abbrev pub phase_of : State → Cursor → Phase
phase_of σ b = Body (state_of σ b) b.number

abbrev pub step_of : State → Step Cursor → Step Phase
step_of σ (step.Took c w b) = step.Took c w (phase_of σ b)
step_of σ (step.Stops w) = step.Stops w
step_of σ step.Starved = step.Starved
step_of σ step.Leaves = step.Leaves

-- whatever comes later, of a step of that loop
abbrev pub BodySteps : State → Cursor → List ℕ → Bool → List ℕ → List ℕ → Step Cursor → Type 0
BodySteps σ b s ended out new r = Steps (phase_of σ b) s ended out new (step_of σ r)

-- a state that remembers m is not spoilt where a line starts
abbrev pub Fine : State → Remembered → Type 0
Fine σ m = spoilt (moved σ (record { at = 0; remembered = plain m })) 0 ≡ false

-- what holds before each line
pub record Kept (σ : State) (start : List ℕ) (n : ℕ) (b : Cursor) : Type 0 where
  pub fine : Fine σ (remembered_in b.memory)
  pub starts : Starts (front_of σ) start n (remembered_in b.memory) b.start_len

-- and behind it, if others come
abbrev pub Keeps : State → List ℕ → ℕ → Step Cursor → Type 0
Keeps σ start n (step.Took c w b) = Kept σ start n b
Keeps σ start n (step.Stops w) = Unit {0}
Keeps σ start n step.Starved = Unit {0}
Keeps σ start n step.Leaves = Unit {0}

-- what a line does that is not too long
abbrev pub BodyDoes : State → Cursor → List ℕ → List ℕ → List ℕ → Step Cursor → Type 0
BodyDoes σ b l out new r = Does (acts (phase_of σ b) l) l out new (step_of σ r)
