use mathlib.Core.Path.{◌≡◌, sym, ◌∙◌, ap}
use Rattle.call.specs.declared.Call.{Call}
use Rattle.book.specs.Book.{record_at}
use Rattle.pay.specs.Inner.{is_by_energy}
use Rattle.score.specs.Scoring.{is_own_live}
use Rattle.score.proofs.Turns.{state_low}
use Rattle.score.proofs.Energy.{idle_turned}
use Rattle.score.proofs.Ends.{kept_idle, kept_event}
use Rattle.score.proofs.records.turn_of.Goals as goal

pub returns-then-not-is_own_live : goal.returns-then-not-is_own_live
returns-then-not-is_own_live c =
    let at : Call = record_at c.args.b.now c.args.i in
    let own : c.is_own_live.result ≡ is_own_live c.args.member at = c.is_own_live.ensures ∙ ap (is_own_live c.args.member) c.record_at-x.ensures in
    let a = c.args in
    let o = sym own ∙ c.if-not-is_own_live.true in record {
      score_turned = idle_turned a.month a.member a.series.now (record_at a.b.now) a.i (state_low _ _ c.requires.record_is_sound) o _
          (rw (← c.record_at-x.ensures) c.idle_refusal-number.ensures);
      ends_kept_2 = λ z. kept_idle a.member (record_at a.b.now) a.i a.ends.now c.requires.ends_kept o;
    }

pub returns-then-is_by_energy : goal.returns-then-is_by_energy
returns-then-is_by_energy c =
    let at : Call = record_at c.args.b.now c.args.i in
    let energy : c.is_by_energy.result ≡ is_by_energy c.args.member.kind at = c.is_by_energy.ensures ∙ ap (is_by_energy c.args.member.kind) c.record_at-x.ensures in
    let a = c.args in record {
      score_turned = c.energy_turn.ensures a.month a.series.now;
      ends_kept_2 = λ z. kept_event a.member (record_at a.b.now) a.i a.ends.now c.requires.ends_kept (sym energy ∙ c.if-is_by_energy.true);
    }
