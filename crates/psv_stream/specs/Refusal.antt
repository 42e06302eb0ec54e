-- 01's numbers of the program's refusals (01, Where a call says no).
use Rattle.std.specs.Prelude.{ℕ}
use Rattle.path_text.specs.declared.AsnsError.{AsnsError}
use Rattle.path_text.specs.declared.AsnsError.TheVariants as asns
use Rattle.psv.specs.declared.ElementError.{ElementError}
use Rattle.psv.specs.declared.ElementError.TheVariants as element
use Rattle.psv_stream.specs.declared.Refusal.{Refusal}
use Rattle.psv_stream.specs.declared.Refusal.TheVariants.{UnreadableHeader, NoColumns, PathNotUtf8, NoTimestamp, SpoiltState, UnreadableLine, TooFewPlaces, SpoiltElement, ElementTooLong, LineTooLong}

abbrev pub number : Refusal → ℕ
number UnreadableHeader = 1
number NoColumns = 2
number PathNotUtf8 = 3
number NoTimestamp = 4
number SpoiltState = 5
number UnreadableLine = 6
number TooFewPlaces = 7
number SpoiltElement = 8
number ElementTooLong = 9
number LineTooLong = 13

-- what a call's own refusal is among them
abbrev pub of_asns : AsnsError → Refusal
of_asns asns.TooFewPlaces = TooFewPlaces

abbrev pub of_element : ElementError → Refusal
of_element element.Spoilt = SpoiltElement
of_element element.TooShort = ElementTooLong
