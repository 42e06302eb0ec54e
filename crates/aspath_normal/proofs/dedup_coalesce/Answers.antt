use mathlib.Core.Path.{refl, ◌∙◌}
use Rattle.aspath_normal.proofs.Answers.{read_path, normal_counts, normal_kinds, normal_lengths, normal_numbers}
use Rattle.aspath_normal.proofs.dedup_coalesce.Goals as goal

pub returns : goal.returns
returns c =
    let e = c.in_ok-check.ensures ∙ read_path _ _ c.record.ensures in
    let d = c.normalise.ensures in
    record {
      value = normal_counts _ _ _ _ _ _ e _ _ _ _ _ d;
      lists = record {
        same_kinds = refl;
        same_lengths = refl;
        same_numbers = refl;
        same_segments = refl;
        same_count = refl;
        kinds = normal_kinds _ _ _ _ _ _ e _ _ _ _ _ d;
        lengths = normal_lengths _ _ _ _ _ _ e _ _ _ _ _ d;
        numbers = normal_numbers _ _ _ _ _ _ e _ _ _ _ _ d;
      };
    }
