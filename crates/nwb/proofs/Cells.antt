-- What the cells of a C function hold. Assumes nothing.
use mathlib.Core.Path.{◌≡◌, sym, ◌∙◌, ap}
use mathlib.Core.List.{List}
use Prim.Native.Nat.{ℕ}
use Rattle.book.specs.declared.write.Written.{Written}
use Rattle.book.specs.Write.{BookOutcome, book_outcome}
use Rattle.book.specs.declared.Verdict.{Verdict}
use Rattle.join.specs.declared.Joined.{Joined}
use Rattle.join.specs.Joining.{JoinOutcome, join_outcome}
use Rattle.tabs.specs.Outcome.{TabsOutcome, tabs_outcome, JoinTabsOutcome, join_tabs_outcome}
use Rattle.lookup.specs.declared.Place.{Place}
use Rattle.nwb.specs.Told.{ToldWrite, ToldJoin, ToldTabs, ToldJoinTabs, book_number, offset_in, ToldFind}

-- the parts of an outcome, one by one
pub wrote : (o : BookOutcome) (r : Written) (out : List ℕ) → book_outcome r out ≡ o → ToldWrite o r.number r.place r.length out
wrote o r out e =
    record {
      number_is = ap (λ (x : BookOutcome). x.number) e;
      place_is = ap (λ (x : BookOutcome). x.place) e;
      length_is = ap (λ (x : BookOutcome). x.size) e;
      out_is = ap (λ (x : BookOutcome). x.out) e;
    }

pub joins : (o : JoinOutcome) (r : Joined) (out : List ℕ) → join_outcome r out ≡ o → ToldJoin o r.number r.place r.length r.turns out
joins o r out e =
    record {
      number_is = ap (λ (x : JoinOutcome). x.number) e;
      place_is = ap (λ (x : JoinOutcome). x.place) e;
      length_is = ap (λ (x : JoinOutcome). x.size) e;
      turns_is = ap (λ (x : JoinOutcome). x.turns) e;
      out_is = ap (λ (x : JoinOutcome). x.out) e;
    }

pub tables : (o : TabsOutcome) (v : Verdict) (page : List ℕ) → tabs_outcome v page ≡ o → ToldTabs o v.number v.place page
tables o v page e =
    record {
      number_is = ap (λ (x : TabsOutcome). x.number) e;
      place_is = ap (λ (x : TabsOutcome). x.place) e;
      page_is = ap (λ (x : TabsOutcome). x.page) e;
    }

pub joins_tabs : (o : JoinTabsOutcome) (r : Joined) (out page : List ℕ) → join_tabs_outcome r out page ≡ o
    → ToldJoinTabs o r.number r.place r.length r.turns out page
joins_tabs o r out page e =
    record {
      number_is = ap (λ (x : JoinTabsOutcome). x.number) e;
      place_is = ap (λ (x : JoinTabsOutcome). x.place) e;
      length_is = ap (λ (x : JoinTabsOutcome). x.size) e;
      turns_is = ap (λ (x : JoinTabsOutcome). x.turns) e;
      out_is = ap (λ (x : JoinTabsOutcome). x.out) e;
      page_is = ap (λ (x : JoinTabsOutcome). x.page) e;
    }

-- the place that a lookup gave, told
pub located : (w p q : Place) (book offset : ℕ) → w ≡ p → w ≡ q → book ≡ book_number q → offset ≡ offset_in q → ToldFind p book offset
located w p q book offset e h b o = record { book_is = b ∙ ap book_number (sym h ∙ e); offset_is = o ∙ ap offset_in (sym h ∙ e) }
