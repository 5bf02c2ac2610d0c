use Rattle.std.proofs.Common.{ℕ, List, [], get_or, sym, refl, ap, ◌∙◌}
use Rattle.grid.specs.Meaning.{row_left}
use Rattle.faults.proofs.Walking.{by_sound, by_bad}
use Rattle.faults.proofs.Judging.{first_cell}
use Rattle.faults.specs.Faults.{line_fault}
use Rattle.faults.specs.Inner.{as_told}
use Rattle.le.proofs.Tests.{holds_or_fails}
use Rattle.faults.proofs.Walk.line.Goals as goal

pub returns-in-None : goal.returns-in-None
returns-in-None c = let a = c.args in
    let row = c.cells_of-row in let cells = row.result.cells in let are = row.ensures.are in
    let w-is = c.in-None.ensures ∙ ap (line_fault a.self.table a.self.before) (sym are) in
    let n_is = c.number_of.ensures (row_left as_told a.self.grid a.self.ended []) (first_cell cells row.result.count row.ensures.some ∙ ap (λ
    (l : List ℕ). get_or l 0 0) (sym are)) in record {
      by_index = λ text end is. by_sound text a.self end is _ c.number_of.result refl c.passing-next.result c.passing-next.ensures n_is w-is;
      at_value = λ s. c.passing-next.ensures.at;
    }

pub returns-in-Some : goal.returns-in-Some
returns-in-Some c = let a = c.args in
    let row = c.cells_of-row in let cells = row.result.cells in let are = row.ensures.are in
    let w-is = c.in-Some.ensures ∙ ap (line_fault a.self.table a.self.before) (sym are) in
    let n_is = c.number_of.ensures (row_left as_told a.self.grid a.self.ended []) (first_cell cells row.result.count row.ensures.some ∙ ap
    (λ (l : List ℕ). get_or l 0 0) (sym are)) in record {
      by_index = λ text end is. by_bad text a.self end is _ c.number_of.result refl c.passing-next.result c.passing-next.ensures n_is c.in-Some.wrong w-is;
      at_value = λ s. absurd (holds_or_fails s refl);
    }
