use native.Mathlib.Omega.{arith}
use borrow.Author.Rules.{rules}
use Rattle.render.proofs.Placed.{rendered, same_put, looser}
use Rattle.text.specs.Texts.{most_statement}
use Rattle.text.proofs.Statements.{accepted_text_lem, refusal_text, most_refused}
use mathlib.Core.List.{List, [], ◌∷◌}
use mir.Val.{Val}
use denote.Array.{each}
use denote.Shadow.{shadow}
use Rattle.share.specs.declared.Line.{Line}
use Rattle.share.specs.contracts.Line.{the_row}
use Rattle.text.specs.Reading.{LinesFit, no_line, one_line}
use Rattle.text.proofs.sharing.statement_text.Goals as goal

-- the machine's lines hold numbers of 64 bits
lines_fit : (ls : List Line) (us : List Val) → shadow (each the_row.Denot the_row.own_val ls us) → LinesFit ls
lines_fit [] us m = no_line
lines_fit (l ∷ ls) [] m = absurd m
lines_fit (l ∷ ls) (u ∷ us) m = let one = m.0 in one_line {l = l} (record { share = search rules; amount = search rules }) (lines_fit ls us m.1)

pub returns-then-out-lt-MOST_STATEMENT-clause-statement_fits : goal.returns-then-out-lt-MOST_STATEMENT-clause-statement_fits
returns-then-out-lt-MOST_STATEMENT-clause-statement_fits c =
    record { gap = search rules; user = search rules; lines = lines_fit c.args.s.lines _ c.well_formed.0.1.1.1.1.1.1.0.1.1 }

pub returns-then-s-eq0-clause-renders : goal.returns-then-s-eq0-clause-renders
returns-then-s-eq0-clause-renders c =
    let a = c.args in
    let q = same_put (accepted_text_lem a.s a.count c.if-s-eq0.true) c.put_accepted.ensures in
    (rendered most_statement c.if-out-lt-MOST_STATEMENT.false q).0

pub returns-then-s-eq0-clause-statement_fits : goal.returns-then-s-eq0-clause-statement_fits
returns-then-s-eq0-clause-statement_fits c =
    record { gap = search rules; user = search rules; lines = lines_fit c.args.s.lines _ c.well_formed.0.1.1.1.1.1.1.0.1.1 }

pub fill-requires : goal.fill-requires
fill-requires c = omega (arith, most_refused)

pub returns-clause-renders : goal.returns-clause-renders
returns-clause-renders c =
    let a = c.args in
    let q = same_put (refusal_text a.s a.count c.if-s-eq0.false) (rw most_refused at c.fill.ensures) in
    (rendered most_statement c.if-out-lt-MOST_STATEMENT.false (looser most_statement (omega arith) q)).0

pub returns-clause-prefix_len : goal.returns-clause-prefix_len
returns-clause-prefix_len c =
    let a = c.args in
    let q = same_put (refusal_text a.s a.count c.if-s-eq0.false) (rw most_refused at c.fill.ensures) in
    (rendered most_statement c.if-out-lt-MOST_STATEMENT.false (looser most_statement (omega arith) q)).1

pub returns-clause-statement_fits : goal.returns-clause-statement_fits
returns-clause-statement_fits c =
    record { gap = search rules; user = search rules; lines = lines_fit c.args.s.lines _ c.well_formed.0.1.1.1.1.1.1.0.1.1 }
