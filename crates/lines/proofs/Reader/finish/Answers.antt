use mathlib.Core.Path.{◌∙◌}
use Rattle.lines.proofs.Parts.{ends_ahead, ends_behind}
use Rattle.lines.proofs.Stream.{read_answer}
use Rattle.lines.proofs.Reader.finish.Goals as goal

pub returns-in-None-clause-by_index : goal.returns-in-None-clause-by_index
returns-in-None-clause-by_index c =
    let asked = let s = c.args.self in
    read_answer s c.part_then-in-None.result (c.part_then-in-None.ensures ∙ ends_ahead s c.part_in.result c.finish-listed.result c.in-None.is c.part_in.ensures c.finish-listed.ensures) in
    asked.0

pub returns-in-None-clause-value : goal.returns-in-None-clause-value
returns-in-None-clause-value c =
    let asked = let s = c.args.self in
    read_answer s c.part_then-in-None.result (c.part_then-in-None.ensures ∙ ends_ahead s c.part_in.result c.finish-listed.result c.in-None.is c.part_in.ensures c.finish-listed.ensures) in
    asked.1

pub returns-in-Some-clause-by_index : goal.returns-in-Some-clause-by_index
returns-in-Some-clause-by_index c =
    let asked = let s = c.args.self in
    read_answer s c.part_then.result (c.part_then.ensures ∙ ends_behind s c.in-Some.part c.finish-listed.result c.in-Some.is c.finish-listed.ensures) in
    asked.0

pub returns-in-Some-clause-value : goal.returns-in-Some-clause-value
returns-in-Some-clause-value c =
    let asked = let s = c.args.self in
    read_answer s c.part_then.result (c.part_then.ensures ∙ ends_behind s c.in-Some.part c.finish-listed.result c.in-Some.is c.finish-listed.ensures) in
    asked.1
