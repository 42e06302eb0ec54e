use Rattle.std.proofs.Common.{◌≡◌, ℕ, length, replicate, sym}
use lib.ListN.{length-replicate}
-- over a variable, so that the list is never written out
use Rattle.cases.proofs.list_buffer.Goals as goal

zeros : (n : ℕ) → n ≡ length {A = ℕ} (replicate n 0)
zeros n = sym (length-replicate n 0)

pub returns : goal.returns
returns c = zeros 2097152
