use Rattle.std.proofs.Common.{arith}
use Rattle.ipv4.proofs.Ipv4.{octet_count, octet_zero, octet_one, octet_some}
use Rattle.ipv4.proofs.octet_of.Goals as goal

pub returns-in-1 : goal.returns-in-1
returns-in-1 c = octet_one _ _ _ c.requires.0 c.requires.2 c.requires.3 (λ e. omega arith) (omega arith) (omega arith)

pub returns-in-2-to-3 : goal.returns-in-2-to-3
returns-in-2-to-3 c = octet_some _ _ _ c.requires.0 c.requires.2 c.requires.3 (λ e. omega arith) (omega arith) (omega arith) (λ e. omega arith)

pub returns-in_default : goal.returns-in_default
returns-in_default c = octet_count _ _ _ c.requires.0 c.requires.2 c.requires.3 (λ e. omega arith) (λ a b. omega arith)

pub returns-in_default-2 : goal.returns-in_default-2
returns-in_default-2 c = octet_zero _ _ _ c.requires.0 c.requires.2 c.requires.3 (omega arith) (omega arith)

pub returns-in_default-3 : goal.returns-in_default-3
returns-in_default-3 c = octet_count _ _ _ c.requires.0 c.requires.2 c.requires.3 (λ e. omega arith) (λ a b. omega arith)
