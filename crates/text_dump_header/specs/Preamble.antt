-- What a line of the preamble says (01, Header). The line is trimmed at its end.
use Rattle.std.specs.Prelude.{ℕ, ◌+◌, cond, List, length, take, drop, Option, Some, None}
use Rattle.std.specs.Option.{unwrap_or, option_map, option_and_then}
use Rattle.scan.specs.Ascii.{ascii}
use Rattle.scan.specs.Search.{starts_with, find_in}
use Rattle.text.specs.White.{trim}
use Rattle.decimal.specs.Decimal.{read_u32, read_u64}
use Rattle.network.specs.Address.{read_address}
use Rattle.text_dump_header.specs.declared.Preamble.{Preamble}

-- what stands behind p, where s starts with it
unfoldable pub strip : List ℕ → List ℕ → Option (List ℕ)
strip p s = cond (starts_with s p) (Some (drop (length p) s)) None

-- what stands before and behind the first p
abbrev pub before_at : List ℕ → Option ℕ → Option (List ℕ)
before_at s (Some k) = Some (take k s)
before_at s None = None

abbrev pub behind_at : List ℕ → List ℕ → Option ℕ → Option (List ℕ)
behind_at p s (Some k) = Some (drop (k + length p) s)
behind_at p s None = None

unfoldable pub before : List ℕ → List ℕ → Option (List ℕ)
before p s = before_at s (find_in s p)

unfoldable pub behind : List ℕ → List ℕ → Option (List ℕ)
behind p s = behind_at p s (find_in s p)

-- up to the first p, or all
unfoldable pub up_to : List ℕ → List ℕ → List ℕ
up_to p s = unwrap_or (before p s) s

-- the text after the first mark, up to a second one
unfoldable pub marked : List ℕ → List ℕ → Option (List ℕ)
marked mark s = option_map (up_to mark) (behind mark s)

-- from `BGP table version is ` to the first comma
unfoldable pub version_text : List ℕ → Option (List ℕ)
version_text t = option_and_then (before (ascii ",")) (strip (ascii "BGP table version is ") t)

-- in the rest, the text after `local router ID is `, before its first comma
unfoldable pub router_in : List ℕ → Option (List ℕ)
router_in s = option_and_then (before (ascii ",")) (marked (ascii "local router ID is ") s)

unfoldable pub router_text : List ℕ → Option (List ℕ)
router_text t = option_and_then router_in (option_and_then (behind (ascii ",")) (strip (ascii "BGP table version is ") t))

-- on a line starting `Default local pref`, the text after `local AS `
unfoldable pub local_as_text : List ℕ → Option (List ℕ)
local_as_text t = cond (starts_with t (ascii "Default local pref")) (marked (ascii "local AS ") t) None

-- a line that reaches its number overwrites, even with missing
unfoldable pub reads : {A : Type 0} → (List ℕ → A) → Option (List ℕ) → A → A
reads read (Some x) old = read (trim x)
reads read None old = old

unfoldable pub preamble_line : List ℕ → Preamble → Preamble
preamble_line t p =
    record {
      table_version = reads read_u64 (version_text t) p.table_version;
      router_id = reads read_address (router_text t) p.router_id;
      local_as = reads read_u32 (local_as_text t) p.local_as;
    }
