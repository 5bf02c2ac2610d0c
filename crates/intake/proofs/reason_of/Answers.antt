use mathlib.Core.Path.{sym, ap, ◌∙◌}
use Rattle.std.specs.Prelude.{Some, ℕ}
use Rattle.intake.specs.declared.Reason.TheVariants.{Beyond}
use Rattle.intake.proofs.Texts.{few}
use Rattle.intake.proofs.Why.{line_reason, whole_reason, too_far, judged}
use Rattle.intake.proofs.reason_of.Goals as goal

pub returns-in-Err : goal.returns-in-Err
returns-in-Err c = line_reason _ _ _ c.in-Err.is

pub statement_is_within-requires : goal.statement_is_within-requires
statement_is_within-requires c = few c.in-Ok.is c.requires

pub line_beyond-requires : goal.line_beyond-requires
line_beyond-requires c = few c.in-Ok.is c.requires

pub reason_in-requires-clause-count_le_most_entries : goal.reason_in-requires-clause-count_le_most_entries
reason_in-requires-clause-count_le_most_entries c = few c.in-Ok.is c.requires

pub returns-then-not-statement_is_within : goal.returns-then-not-statement_is_within
returns-then-not-statement_is_within c =
    ap (λ (n : ℕ). Some (Beyond n)) c.line_beyond.ensures ∙ too_far _ _ (sym c.statement_is_within.ensures ∙ c.if-not-statement_is_within.true) ∙ whole_reason _ _ _ c.in-Ok.is

pub returns : goal.returns
returns c = c.reason_in.ensures ∙ judged _ _ (sym c.statement_is_within.ensures ∙ c.if-not-statement_is_within.false) ∙ whole_reason _ _ _ c.in-Ok.is
