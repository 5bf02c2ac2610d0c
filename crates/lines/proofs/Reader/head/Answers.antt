use native.Mathlib.Omega.{arith}
use Rattle.lines.proofs.Parts.{head_behind, head_still, head_past}
use Rattle.lines.proofs.Reader.head.Goals as goal

pub returns-in-Some : goal.returns-in-Some
returns-in-Some c = head_behind c.args.self c.args.bytes.now c.in-Some.part c.in-Some.is

pub returns-then-bytes-line : goal.returns-then-bytes-line
returns-then-bytes-line c =
    head_still c.args.self c.args.bytes.now c.in_default.is c.first_line-line.result c.first_line-line.ensures (omega arith)

pub returns : goal.returns
returns c =
    head_past c.args.self c.args.bytes.now c.in_default.is c.first_line-line.result c.first_line-line.ensures c.part_in.result (omega arith) c.part_in.ensures
