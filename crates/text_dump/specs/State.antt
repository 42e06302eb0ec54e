-- The reading state (01, Records).
use Rattle.std.specs.Prelude.{ℕ, Bool, true, not, ◌||◌, ltb}
use Rattle.columns.specs.Columns.{are_rising}
use Rattle.seconds.specs.Seconds.{is_timestamp}
use Rattle.network.specs.Prefix.{valid_prefix}
use Rattle.network.specs.declared.NetworkPrefix.{NetworkPrefix}
use Rattle.plain_reader.specs.Rules.{nothing, invalid, valid}
use Rattle.plain_reader.specs.Rules.{Remembered as Plain}
use Rattle.plain_reader.specs.Cursor.{Cursor, to_start}
use Rattle.text_dump.specs.declared.Remembered.{Remembered}
use Rattle.text_dump.specs.declared.Remembered.TheVariants.{Nothing, Invalid, Valid}
use Rattle.text_dump.specs.declared.State.{State}

-- the remembered prefix, as the plain reader has it, and back
abbrev pub plain : Remembered → Plain NetworkPrefix
plain Nothing = nothing
plain Invalid = invalid
plain (Valid p) = valid p

abbrev pub stored : Plain NetworkPrefix → Remembered
stored nothing = Nothing
stored invalid = Invalid
stored (valid p) = Valid p

-- where a state stands: its position and its remembered prefix
abbrev pub cursor : State → Cursor NetworkPrefix
cursor σ = record { at = σ.position; remembered = plain σ.remembered }

-- the same reading elsewhere
abbrev pub moved : State → Cursor NetworkPrefix → State
moved σ c = record { columns = σ.columns; peer_ip = σ.peer_ip; peer_asn = σ.peer_asn; timestamp = σ.timestamp; remembered = stored c.remembered; position = c.at }

-- turning to the next part sets the position to 0 and keeps the rest
abbrev pub turned : State → State
turned σ = moved σ (to_start (cursor σ))

abbrev pub valid_remembered : Remembered → Bool
valid_remembered Nothing = true
valid_remembered Invalid = true
valid_remembered (Valid p) = valid_prefix p

-- 5 (01, Where a call says no), over a part of n bytes: position past the part, columns not rising,
-- timestamp, prefix length
unfoldable pub spoilt : State → ℕ → Bool
spoilt σ n = ltb n σ.position || not (are_rising σ.columns) || not (is_timestamp σ.timestamp) || not (valid_remembered σ.remembered)
