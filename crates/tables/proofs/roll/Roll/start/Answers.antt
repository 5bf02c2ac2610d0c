use mathlib.Core.Path.{refl}
use mathlib.Core.List.{map}
use Rattle.row.proofs.Judging.{judged_start}
use Rattle.tables.specs.Register.{as_entry, register_entries}
use Rattle.tables.proofs.roll.Roll.start.Goals as goal

pub returns : goal.returns
returns c = record { by_index = λ rows. judged_start register_entries c.blank_entries.result c.blank_entries.ensures (map as_entry rows); blank_value = refl }
