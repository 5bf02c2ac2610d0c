use mathlib.Core.Path.{sym, ◌∙◌, ap}
use Rattle.book.specs.Book.{record_at}
use Rattle.pay.specs.Live.{live_pay}
use Rattle.score.proofs.Energy.{paid_turned}
use Rattle.score.proofs.records.live_turn.Goals as goal

pub returns : goal.returns
returns c =
    let a = c.args in
    let x = c.record_at-x in
    let r = c.refusal_by_ends-number in record {
      score_turned = paid_turned a.month a.member a.series.now (record_at a.b.now) a.i c.requires.i_value c.requires.i_value_2
          (sym r.ensures.value ∙ c.if-number-ne0.false)
          c.live_pay-grains.result.0 (c.live_pay-grains.ensures.0 ∙ ap (live_pay a.member a.series.now) x.ensures) c.live_pay-grains.ensures.1;
      ends_kept_2 = λ z. r.ensures.ends_kept_2 c.if-number-ne0.false;
    }
