use mathlib.Core.Path.{◌≡◌}
use Prim.Native.Nat.{◌^◌, ◌<◌}
use Rattle.posted.proofs.Lines.{row_reads}
use borrow.Author.Rules.{rules}
use Rattle.posted.proofs.line.read_numbers.Goals as goal

pub returns : goal.returns
returns c =
    let e = c.read_earned in
    let k = c.read_carried in
    let m = c.read_got-g in
    let assessment : e.result.0.assessment < 2 ^ 32 → c.unwrap_or.result ≡ e.result.0.assessment = λ h. search rules in
    let energy : k.result.0.energy < 2 ^ 32 → c.unwrap_or-2.result ≡ k.result.0.energy = λ h. search rules in
    let number : e.result.0.number < 2 ^ 16 → c.unwrap_or-3.result ≡ e.result.0.number = λ h. search rules in
    let hours : e.result.0.hours < 2 ^ 16 → c.unwrap_or-4.result ≡ e.result.0.hours = λ h. search rules in
    record {
      fits =
          record {
            number = search rules;
            hours = search rules;
            grains = search rules;
            compensation = search rules;
            assessment = search rules;
            energy = search rules;
            weight = search rules;
            share = search rules;
            uncollected = search rules;
            given = search rules;
            amount = search rules;
          };
      reads = row_reads _ _ _ e.result.0 k.result.0 m.result _ _ _ _ e.ensures k.ensures m.ensures number hours assessment energy;
    }
