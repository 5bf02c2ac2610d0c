use mathlib.Core.Path.{◌≡◌}
use Prim.Native.Nat.{◌^◌, ◌<◌}
use Rattle.posted.proofs.Lines.{heads_reads, same_header}
use borrow.Author.Rules.{rules}
use Rattle.posted.proofs.line.read_heads.Goals as goal

pub returns : goal.returns
returns c =
    let part : c.read_field-part.result.0 < 2 ^ 32 → c.unwrap_or.result ≡ c.read_field-part.result.0 = λ h. search rules in
    let area : c.read_field-area.result.0 < 2 ^ 8 → c.unwrap_or-2.result ≡ c.read_field-area.result.0 = λ h. search rules in
    let year : c.read_field-year.result.0 < 2 ^ 16 → c.unwrap_or-3.result ≡ c.read_field-year.result.0 = λ h. search rules in
    let month : c.read_field-month.result.0 < 2 ^ 8 → c.unwrap_or-4.result ≡ c.read_field-month.result.0 = λ h. search rules in
    let l = heads_reads _ _ _ _ _ _ _ _ _ _ _ _ _ _ _ c.read_field-area.ensures c.read_field-year.ensures c.read_field-month.ensures
    c.read_field-calls.ensures c.read_field-part.ensures area year month part in
    record {
      fits = record { area = search rules; year = search rules; month = search rules; calls = search rules; part = search rules };
      reads = λ g n part rest fits cut. let p = l g n part rest fits cut in (same_header g p.0 p.1 p.2, p.3, p.4);
    }
