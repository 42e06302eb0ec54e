-- However reads cut the input, what is printed is the same.
use Rattle.std.proofs.Common.{◌≡◌, ℕ, List, [], ◌++◌, take, sym, ap, ◌∙◌, append_assoc}
use mathlib.Core.List.{flatten}
use Rattle.psv_stream.specs.Printed.{printed}
use Rattle.psv_stream.specs.Run.{rest}
use Rattle.psv_stream.specs.Drive.{Drives, reads, runs, stops}
use Rattle.psv_stream.specs.declared.Phase.{Phase}
use Rattle.psv_stream.specs.declared.Phase.TheVariants.{Path}
use Rattle.psv_stream.proofs.Steps.{rest_stopped}

drives : {p : Phase} {s : List ℕ} {pieces : List (List ℕ)} {text : List ℕ} → Drives p s pieces text → text ≡ rest p (s ++ flatten pieces)
unfolding flatten
drives (reads {p} {s} {piece} {pieces} d) = drives d ∙ rw (append_assoc s piece (flatten pieces))
drives (runs {p} {s} {pieces} {text} {ended} {out} {r} {new} last run d) =
    sym (run.prints (flatten pieces) (λ e. rw (last e)) ∙ ap (λ (t : List ℕ). take r.written new ++ t) (sym (drives d)))
drives (stops {s} {pieces}) = sym (rest_stopped (s ++ flatten pieces))

-- the program's own use of demand 3: it starts before the path line, with no bytes
pub every_cut : (pieces : List (List ℕ)) (text : List ℕ) → Drives Path [] pieces text → text ≡ printed (flatten pieces)
unfolding rest
every_cut pieces text d = drives d
