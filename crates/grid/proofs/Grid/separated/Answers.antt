use Rattle.grid.proofs.Steps.{separates, strays}
use Rattle.grid.proofs.Grid.separated.Goals as goal

pub returns-then-b-known : goal.returns-then-b-known
returns-then-b-known c = let k = c.known-known in
    separates c.args.self k.result c.args.b c.requires.in_line c.requires.b_value k.ensures c.parted.result c.args.ended.now _
    c.if-b-known.true c.parted.ensures

pub returns : goal.returns
returns c = let k = c.known-known in
    strays c.args.self k.result c.args.b c.requires.in_line c.requires.b_value k.ensures c.spoilt.result c.args.ended.now c.if-b-known.false c.spoilt.ensures
