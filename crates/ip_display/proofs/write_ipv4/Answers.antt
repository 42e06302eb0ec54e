use Rattle.std.proofs.Common.{◌≡◌, ◌/◌, ◌%◌, rules, ℕ, List, [], ◌∷◌}
use Rattle.ip_display.proofs.Writing.{dotted_written}
use Rattle.ip_display.proofs.write_ipv4.Goals as goal

pub returns : goal.returns
returns c =
    let n = c.args.n in
    let octets : ◌≡◌ {A = List ℕ} c.to_be_bytes.result (n / 16777216 % 256 ∷ n / 65536 % 256 ∷ n / 256 % 256 ∷ n % 256 ∷ []) = c.to_be_bytes.ensures in
    let a = dotted_written _ _ _ _ _ _ (rw octets at c.write_before_dot.ensures) (rw octets at c.write_before_dot-2.ensures) (rw octets at c.write_before_dot-3.ensures) (rw octets at c.write_octet.ensures) in
    search (rules, a)
