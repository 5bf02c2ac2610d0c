use native.Mathlib.Omega.{arith}
use native.Mathlib.Nat.{zero-add}
use mathlib.Core.Path.{◌≡◌, refl, sym, ◌∙◌, ap}
use mathlib.Core.List.{List}
use Prim.Native.Nat.{ℕ, ◌≤◌}
use lib.IntN.{ℤ}
use lib.ListN.{length}
use Rattle.units.specs.declared.Grains.{Grains}
use Rattle.book.specs.Book.{most_keys, count_at, record_at}
use Rattle.book.proofs.Exact.{Accepted, accepted_tests, accepted_few}
use Rattle.pay.specs.Event.{energy_pay}
use Rattle.pay.specs.Sum.{total_z}
use Rattle.score.specs.Scoring.{wh_at}
use Rattle.score.specs.Outcomes.{Ready}
use Rattle.score.proofs.Checked.{all_sound, spans_month}
use Rattle.explain.specs.declared.CallPart.{CallPart}
use Rattle.explain.specs.declared.Explained.{Explained}
use Rattle.explain.specs.Explaining.{filled_up, month_wh, explain_earned}
use Rattle.explain.specs.Inner.{parts_before}
use Rattle.explain.proofs.Before.{parts_are}
use Rattle.explain.proofs.Scored.{accepted_ready}
use Rattle.explain.proofs.explain_accepted.Goals as goal

abbrev answer : ℕ → ℤ → ℕ → Grains → ℕ → List CallPart → Explained
answer count wh energy added grains parts =
    record {
      number = 0;
      place = 0;
      count = count;
      wh = record { 0 = wh };
      energy = record { 0 = energy };
      added = added;
      grains = record { 0 = grains };
      parts = parts;
    }

-- the same fields, the same answer
same : (added : Grains) {n n' e e' g g' : ℕ} {w w' : ℤ} {ps ps' : List CallPart} → n ≡ n' → w ≡ w' → e ≡ e' → g ≡ g' → ps ≡ ps' → answer n w e added g ps ≡ answer n' w' e' added g' ps'
same added a b c d e = rw (a, b, c, d, e) refl

pub count_at-n-requires : goal.count_at-n-requires
count_at-n-requires c =
    let ready : Ready c.args.member c.args.book.now c.args.series.now = (accepted_ready c.args.member c.args.book.now c.args.series.now c.args.grains c.requires).0 in
    let tested : Accepted c.args.book.now = accepted_tests c.args.book.now ready.front.book in
    tested.long

pub parts_before-found-requires : goal.parts_before-found-requires
parts_before-found-requires c =
    let ready : Ready c.args.member c.args.book.now c.args.series.now = (accepted_ready c.args.member c.args.book.now c.args.series.now c.args.grains c.requires).0 in
    let tested : Accepted c.args.book.now = accepted_tests c.args.book.now ready.front.book in
    let few : count_at c.args.book.now ≤ most_keys = accepted_few c.args.book.now ready.front.book in
    let k = tested.count in
    let w = few in
    let n = c.count_at-n.ensures.0 in
    let m = spans_month c.args.book.now c.args.series.now ready.spans in
    record {
      small = (ready.front.line.rated.1, m.1);
      n_in_bounds = omega arith;
      n_le_most_keys = omega arith;
      by_index = λ i l. rw m.0 (all_sound c.args.book.now ready.front.book i (omega arith));
    }

pub returns : goal.returns
unfolding explain_earned month_wh
returns c =
    let a = c.args in
    let n = c.count_at-n.ensures.0 in
    let found = c.parts_before-found.ensures in
    let whole = ap (parts_before a.member a.book.now a.series.now) n ∙ sym (parts_are a.member a.book.now a.series.now) in
    let wh = found.energy ∙ ap (total_z (wh_at a.member (record_at a.book.now))) n in
    same a.added (found.count ∙ ap length whole) wh (c.month_pay.ensures ∙ zero-add _ ∙ ap energy_pay wh) c.plus.ensures (found.parts ∙ ap filled_up whole)
