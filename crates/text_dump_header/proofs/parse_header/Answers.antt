use Rattle.std.specs.Prelude.{Ok}
use mathlib.Core.Path.{◌≡◌, ap, ◌∙◌}
use borrow.Author.Rules.{rules}
use Rattle.text_dump_header.specs.Header.{header_of, header}
use Rattle.text_dump_header.proofs.HeaderLaws.{joined, scan_laws}
use Rattle.text_dump_header.proofs.parse_header.Goals as goal
use Rattle.text_dump_header.proofs.parse_header.Goals.{then-all_scanned, else-all_scanned+then-at-text, else-all_scanned+else-at-text+else-not-is_readable+then-is_some}

-- where the ways out of the loop meet
met : (c : goal.After-header_of) → Ok (header_of c.if-all_scanned.p c.if-all_scanned.columns, c.if-all_scanned.at) ≡ header c.args.text.now
met c =
    elim c.if-all_scanned.branch [
      | then-all_scanned w ↦ search (joined, scan_laws, rules)
      | else-all_scanned+then-at-text w ↦ search (joined, scan_laws, rules)
      | else-all_scanned+else-at-text+else-not-is_readable+then-is_some w ↦ search (joined, scan_laws, rules)
    ]

pub lines-preserved : goal.lines-preserved
lines-preserved c = search (scan_laws, rules)

pub returns : goal.returns
returns c = ap (λ h. Ok (h, c.if-all_scanned.at)) c.header_of.ensures ∙ met c
