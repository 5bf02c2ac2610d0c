use mathlib.Core.Path.{sym, ◌∙◌, ap, ap₂}
use Prim.Native.Nat.{◌≤◌}
use native.Mathlib.Omega.{arith}
use lib.ListN.{length}
use Rattle.book.specs.declared.Verdict.{Verdict}
use Rattle.book.specs.Book.{calls_of}
use Rattle.book.proofs.Judged.{zero_accepted}
use Rattle.pair.specs.Screening.{IsAccepted}
use Rattle.tabs.specs.Tabs.{page_size, tabs_of, own_page}
use Rattle.tabs.specs.Outcome.{tabs_outcome}
use Rattle.tabs.proofs.Pages.{length_tabs, laid}
use Rattle.tabs.proofs.WaysOut.{table_book, table_short, table_made}
use Rattle.tabs.proofs.tabs.Goals as goal

pub returns-then-v-ne0 : goal.returns-then-v-ne0
returns-then-v-ne0 c = table_book _ _ c.check-v.result c.check-v.ensures c.if-v-ne0.true

pub returns-then-page-lt-PAGE_SIZE : goal.returns-then-page-lt-PAGE_SIZE
returns-then-page-lt-PAGE_SIZE c =
    let sound : IsAccepted c.args.book.now =
    zero_accepted _ (ap (λ (v : Verdict). v.number) (sym c.check-v.ensures) ∙ c.if-v-ne0.false) in
    ap (λ (v : Verdict). tabs_outcome v c.args.page.now) c.refused.ensures ∙ table_short _ _ sound c.if-page-lt-PAGE_SIZE.true

pub put_tabs-requires : goal.put_tabs-requires
put_tabs-requires c =
    let sound : IsAccepted c.args.book.now =
    zero_accepted _ (ap (λ (v : Verdict). v.number) (sym c.check-v.ensures) ∙ c.if-v-ne0.false) in
    record { accepted = sound; page_size_in_bounds = omega (arith, c.if-page-lt-PAGE_SIZE.false) }

pub returns : goal.returns
returns c =
    let sound : IsAccepted c.args.book.now =
    zero_accepted _ (ap (λ (v : Verdict). v.number) (sym c.check-v.ensures) ∙ c.if-v-ne0.false) in
    let h : page_size ≤ length c.args.page.now = omega (arith, c.if-page-lt-PAGE_SIZE.false) in
    let n = length_tabs (tabs_of (calls_of c.args.book.now)) 64 in
    ap₂ tabs_outcome c.refused-2.ensures (laid (own_page (calls_of c.args.book.now)) _ _ (omega arith) c.put_tabs.ensures) ∙ table_made _ _ sound h
