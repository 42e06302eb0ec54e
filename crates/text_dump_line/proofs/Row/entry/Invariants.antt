use Rattle.std.proofs.Common.{◌≡◌}
use Rattle.decimal.specs.Decimal.{read_u32}
use Rattle.text_dump_line.specs.Line.{column}
use Rattle.text_dump_line.proofs.Row.entry.Given as goal

abbrev pub invariant-loop-a : goal.invariant-loop-a
invariant-loop-a l = (l.a-index ≡ 1 → l.local_pref ≡ read_u32 (column l.self.columns.metric l.self.columns.local_pref l.self.text.now))
    × (l.a-index ≡ 2 → l.metric ≡ read_u32 (column l.self.columns.metric l.self.columns.local_pref l.self.text.now))
    × (l.a-index ≡ 2 → l.local_pref ≡ read_u32 (column l.self.columns.local_pref l.self.columns.weight l.self.text.now))
