-- What a body line says, and the rules by which a reading goes.
use Rattle.std.specs.Prelude.{ℕ, List, Option}

-- the remembered prefix (01, Records: nothing, invalid text, or a prefix); a route's prefix text is one of the three too, nothing where it is blank
pub data Remembered (P : Type 0) : Type 0 where
  nothing : Remembered P
  invalid : Remembered P
  valid : P → Remembered P

-- a line (01, Body lines): P is a prefix, R what a route carries besides its prefix
pub data Line (P R : Type 0) : Type 0 where
  -- not UTF-8
  unreadable : Line P R
  -- no route, and no wrapped prefix
  passed : Line P R
  -- a wrapped prefix (01's term)
  wrapped : P → Line P R
  -- a route with its prefix text; where that is nothing, a blank-prefix route (01's term)
  route : Remembered P → R → Line P R

-- the rules of one reading, as they stand under its header, its timestamp and its modes
pub record Rules : Type 1 where
  -- a prefix, what a route carries besides it, an element, and what next is lent: its AS places
  pub Prefix : Type 0
  pub Route : Type 0
  pub Element : Type 0
  pub Places : Type 0
  -- what a line says
  pub classify : List ℕ → Line Prefix Route
  -- the element that a route yields under a prefix
  pub yield : Prefix → Route → Element
  -- the number that refuses a route for want of places (01: 7 if its AS numbers exceed them), or none
  pub refusal : Places → Route → Option ℕ

-- what is remembered once a route's prefix text is read (01, Body lines): any but a blank one replaces what was remembered, even an invalid one
abbrev pub replace : {P : Type 0} → Remembered P → Remembered P → Remembered P
replace nothing m = m
replace invalid m = invalid
replace (valid p) m = valid p
