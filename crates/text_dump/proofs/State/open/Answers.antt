use mathlib.Core.Path.{ap}
use mathlib.Core.Bool.{not}
use Rattle.text_dump.proofs.OpenLaws.{fault_header, fault_columns, has_columns, opens}
use Rattle.text_dump.proofs.State.open.Goals as goal

pub returns-in_err-header : goal.returns-in_err-header
returns-in_err-header c =
    fault_header _ _ _ c.is_timestamp.ensures (ap not c.if-not-is_timestamp.false) _ c.parse_header.ensures _ c.in_err-header.was _ c.from_residual.ensures.1

pub returns-in_err-columns : goal.returns-in_err-columns
returns-in_err-columns c =
    fault_columns _ _ _ c.is_timestamp.ensures (ap not c.if-not-is_timestamp.false) _ c.parse_header.ensures _ _ c.in_ok-header.was
    _ c.in_err-columns.ensures.value _ c.from_residual-in_err-columns.ensures.1

pub returns : goal.returns
returns c =
    let d = has_columns _ _ _ c.is_timestamp.ensures (ap not c.if-not-is_timestamp.false) _ c.parse_header.ensures _ _ c.in_ok-header.was _ c.in_ok-columns.ensures.value in
    opens _ _ _ c.is_timestamp.ensures (ap not c.if-not-is_timestamp.false) _ c.parse_header.ensures _ _ c.in_ok-header.was _ d _ c.peer_ip.ensures _ c.peer_asn.ensures
