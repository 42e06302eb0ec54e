-- Detection (01, Dates, detection, PSV, paths).
use Rattle.std.specs.Prelude.{ℕ, Bool, true, false, ◌&&◌, ◌||◌, List, take, get_or, leb, Option, Some, None}
use Rattle.scan.specs.Ascii.{ascii}
use Rattle.scan.specs.Search.{find_in}
use Rattle.utf8.specs.Utf8.{readable}

abbrev pub is_found : Option ℕ → Bool
is_found (Some k) = true
is_found None = false

unfoldable pub contains : List ℕ → List ℕ → Bool
contains s p = is_found (find_in s p)

-- 0x21 to 0x7E
abbrev pub is_graphic : ℕ → Bool
is_graphic b = leb 0x21 b && leb b 0x7E

abbrev pub has_mark : List ℕ → Bool
has_mark s = contains s (ascii "BGP table") || contains s (ascii "Next Hop") || contains s (ascii "Status codes:")

-- of the first 128 bytes: the first is graphic (of no bytes it is read as 0, and is not), they are
-- UTF-8, and one of the marks is there
abbrev pub is_table : List ℕ → Bool
is_table s = is_graphic (get_or s 0 0) && readable s && has_mark s

unfoldable pub detect : List ℕ → Bool
detect s = is_table (take 128 s)
