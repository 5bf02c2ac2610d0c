use mathlib.Core.Path.{ap}
use mathlib.Core.List.{List}
use lib.IntN.{pos}
use Rattle.share.specs.declared.Line.{Line}
use Rattle.share.specs.declared.Shared.{Shared}
use Rattle.share.specs.Forms.{nothing_shared}
use Rattle.share.proofs.array.nothing_shared.Goals as goal

pub returns : goal.returns
unfolding nothing_shared
returns c =
    let a = c.args in
    let with : (ls : List Line) → Shared = λ ls. record { number = a.number; place = a.place; gap = record { 0 = pos 0 }; user = record { 0 = pos 0 }; lines = ls } in
    ap with c.blank_lines-lines.ensures
