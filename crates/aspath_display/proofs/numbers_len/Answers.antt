use Rattle.std.proofs.Common.{rules, arith, ℕ, ◌≡◌, ◌<◌, ◌≤◌, ◌+◌, ◌∙◌, length, slice_index_or}
use Rattle.std.specs.List.{sum_by}
use Rattle.std.proofs.lemmas.List.Sums.{sum_by-le}
use Rattle.decimal_display.specs.Printed.{decimal}
use Rattle.decimal_display.proofs.Printed.{digits_most}
use Rattle.aspath_display.proofs.Text.{parted_len}
use Rattle.aspath_display.proofs.numbers_len.Goals as goal

pub returns : goal.returns
returns c = λ sep.
    let all = c.args.numbers.now in
    let sum : c.sum.result ≡ sum_by (λ x. 1 + length (decimal x)) all = search rules in
    let digits : (k d : ℕ) → k < length all → 1 + length (decimal (slice_index_or all k d)) ≤ 21 =
    λ k d h. let below : slice_index_or all k d < 4294967296 = search rules in omega (arith, digits_most 9 (slice_index_or all k d) (omega (arith, below))) in
    record { is = c.saturating_sub.ensures ∙ rw sum (parted_len decimal sep all); small = omega (arith, c.saturating_sub.ensures, sum_by-le (λ x. 1 + length (decimal x)) 21 all digits, sum, c.requires) }
