use Rattle.row.proofs.Judging.{answer_no, answer_yes}
use Rattle.tables.specs.Register.{register_entries}
use Rattle.tables.specs.Meaning.{roll_so_far}
use Rattle.tables.proofs.Entries.{lawful}
use Rattle.tables.proofs.roll.Roll.answer.Goals as goal

pub returns-then-self : goal.returns-then-self
returns-then-self c =
    answer_no register_entries lawful (roll_so_far c.args.self) c.blank_entries-entries.result c.blank_entries-entries.ensures c.if-self.true

pub returns : goal.returns
returns c = answer_yes register_entries lawful (roll_so_far c.args.self) c.if-self.false
