use mathlib.Core.Path.{sym, ap}
use native.Mathlib.Omega.{arith}
use Rattle.std.specs.Prelude.{Err}
use Rattle.render.proofs.Placed.{looser, same_put}
use Rattle.fitting.specs.declared.Finding.{Finding}
use Rattle.fitting.specs.Told.{finding_text, most_finding}
use Rattle.fitting.proofs.told.put_misfit.Goals as goal

pub returns-in-NotShared : goal.returns-in-NotShared
unfolding finding_text
returns-in-NotShared c = same_put (sym (ap (λ (own : Finding). finding_text (Err own)) c.in-NotShared.is)) (looser most_finding (omega arith) c.put_not_shared.ensures)

pub returns-in-Compensation : goal.returns-in-Compensation
unfolding finding_text
returns-in-Compensation c = same_put (sym (ap (λ (own : Finding). finding_text (Err own)) c.in-Compensation.is)) (looser most_finding (omega arith) c.put_fen_apart.ensures)

pub returns-in-Weight : goal.returns-in-Weight
unfolding finding_text
returns-in-Weight c = same_put (sym (ap (λ (own : Finding). finding_text (Err own)) c.in-Weight.is)) (looser most_finding (omega arith) c.put_number_apart.ensures)

pub returns-in-Share : goal.returns-in-Share
unfolding finding_text
returns-in-Share c = same_put (sym (ap (λ (own : Finding). finding_text (Err own)) c.in-Share.is)) (looser most_finding (omega arith) c.put_signed_apart.ensures)

pub returns-in-Uncollected : goal.returns-in-Uncollected
unfolding finding_text
returns-in-Uncollected c = same_put (sym (ap (λ (own : Finding). finding_text (Err own)) c.in-Uncollected.is)) (looser most_finding (omega arith) c.put_fen_apart-in-Uncollected.ensures)

pub returns-in-Given : goal.returns-in-Given
unfolding finding_text
returns-in-Given c = same_put (sym (ap (λ (own : Finding). finding_text (Err own)) c.in-Given.is)) (looser most_finding (omega arith) c.put_fen_apart-in-Given.ensures)

pub returns-in-Amount : goal.returns-in-Amount
unfolding finding_text
returns-in-Amount c = same_put (sym (ap (λ (own : Finding). finding_text (Err own)) c.in-Amount.is)) (looser most_finding (omega arith) c.put_signed_apart-in-Amount.ensures)

pub returns-in-Total : goal.returns-in-Total
unfolding finding_text
returns-in-Total c = same_put (sym (ap (λ (own : Finding). finding_text (Err own)) c.in-Total.is)) (looser most_finding (omega arith) c.put_signed_apart-in-Total.ensures)

pub returns-in-User : goal.returns-in-User
unfolding finding_text
returns-in-User c = same_put (sym (ap (λ (own : Finding). finding_text (Err own)) c.in-User.is)) (looser most_finding (omega arith) c.put_signed_apart-in-User.ensures)
