-- An element (01, Records; models/bgp/elem.rs).
use Rattle.std.specs.Prelude.{ℕ, Bool, not, ◌||◌, List, length, take, ltb}
use Rattle.network.specs.Prefix.{valid_prefix}
use Rattle.seconds.specs.Seconds.{is_timestamp}
use Rattle.elem.specs.declared.Element.{Element}

-- 01, Where a call says no, 8: prefix length, timestamp, count beyond the list
unfoldable pub spoilt : Element → List ℕ → Bool
spoilt e asns = not (valid_prefix e.prefix) || not (is_timestamp e.timestamp) || ltb (length asns) e.count

-- its AS numbers
abbrev pub numbers : Element → List ℕ → List ℕ
numbers e asns = take e.count asns
