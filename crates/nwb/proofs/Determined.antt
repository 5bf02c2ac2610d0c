-- Two outcomes that the contract of a C function allows are one: number, cells and output. Assumes nothing.
use mathlib.Core.Path.{◌≡◌, sym, ◌∙◌}
use mathlib.Core.List.{List}
use Prim.Native.Nat.{ℕ}
use lib.IntN.{ℤ}
use Rattle.book.specs.declared.Verdict.{Verdict}
use Rattle.book.specs.Write.{BookOutcome}
use Rattle.join.specs.Joining.{JoinOutcome}
use Rattle.tabs.specs.Outcome.{TabsOutcome, JoinTabsOutcome}
use Rattle.lookup.specs.declared.Place.{Place}
use Rattle.score.specs.declared.answer.Score.{Score}
use Rattle.ramp.specs.declared.Hour.{Hour}
use Rattle.nwb.specs.Told.{ToldCheck, ToldWrite, ToldJoin, ToldTabs, ToldJoinTabs, ToldFind, ToldScore, ToldRamp, ToldShare}

-- nwb_check
pub check_determined : (v : Verdict) (n p n' p' : ℕ) → ToldCheck v n p → ToldCheck v n' p' → (n ≡ n') × (p ≡ p')
check_determined v n p n' p' x y = (x.number_is ∙ sym y.number_is, x.place_is ∙ sym y.place_is)

-- nwb_none, nwb_one
pub wrote_determined : (o : BookOutcome) (n p l n' p' l' : ℕ) (out out' : List ℕ)
    → ToldWrite o n p l out → ToldWrite o n' p' l' out' → (n ≡ n') × (p ≡ p') × (l ≡ l') × (out ≡ out')
wrote_determined o n p l n' p' l' out out' x y =
    (x.number_is ∙ sym y.number_is, x.place_is ∙ sym y.place_is, x.length_is ∙ sym y.length_is, x.out_is ∙ sym y.out_is)

-- nwb_join
pub join_determined : (o : JoinOutcome) (n p l t n' p' l' t' : ℕ) (out out' : List ℕ) → ToldJoin o n p l t out → ToldJoin o n' p' l' t' out'
    → (n ≡ n') × (p ≡ p') × (l ≡ l') × (t ≡ t') × (out ≡ out')
join_determined o n p l t n' p' l' t' out out' x y =
    (x.number_is ∙ sym y.number_is, x.place_is ∙ sym y.place_is, x.length_is ∙ sym y.length_is, x.turns_is ∙ sym y.turns_is, x.out_is ∙ sym y.out_is)

-- nwb_tabs
pub tabs_determined : (o : TabsOutcome) (n p n' p' : ℕ) (page page' : List ℕ) → ToldTabs o n p page → ToldTabs o n' p' page'
    → (n ≡ n') × (p ≡ p') × (page ≡ page')
tabs_determined o n p n' p' page page' x y = (x.number_is ∙ sym y.number_is, x.place_is ∙ sym y.place_is, x.page_is ∙ sym y.page_is)

-- nwb_join_tabs
pub join_tabs_determined : (o : JoinTabsOutcome) (n p l t n' p' l' t' : ℕ) (out page out' page' : List ℕ)
    → ToldJoinTabs o n p l t out page → ToldJoinTabs o n' p' l' t' out' page'
    → (n ≡ n') × (p ≡ p') × (l ≡ l') × (t ≡ t') × (out ≡ out') × (page ≡ page')
join_tabs_determined o n p l t n' p' l' t' out page out' page' x y = (
  x.number_is ∙ sym y.number_is,
  x.place_is ∙ sym y.place_is,
  x.length_is ∙ sym y.length_is,
  x.turns_is ∙ sym y.turns_is,
  x.out_is ∙ sym y.out_is,
  x.page_is ∙ sym y.page_is,
)

-- nwb_find
pub find_determined : (w : Place) (b o b' o' : ℕ) → ToldFind w b o → ToldFind w b' o' → (b ≡ b') × (o ≡ o')
find_determined w b o b' o' x y = (x.book_is ∙ sym y.book_is, x.offset_is ∙ sym y.offset_is)

-- nwb_score
pub score_determined : (s : Score) (n p g f n' p' g' f' : ℕ)
    → ToldScore s n p g f → ToldScore s n' p' g' f' → (n ≡ n') × (p ≡ p') × (g ≡ g') × (f ≡ f')
score_determined s n p g f n' p' g' f' x y =
    (x.number_is ∙ sym y.number_is, x.place_is ∙ sym y.place_is, x.grains_is ∙ sym y.grains_is, x.fen_is ∙ sym y.fen_is)

-- nwb_ramp; nwb_fen answers by its number alone
pub ramp_determined : (h : Hour) (n p g n' p' g' : ℕ) → ToldRamp h n p g → ToldRamp h n' p' g' → (n ≡ n') × (p ≡ p') × (g ≡ g')
ramp_determined h n p g n' p' g' x y = (x.number_is ∙ sym y.number_is, x.place_is ∙ sym y.place_is, x.grains_is ∙ sym y.grains_is)

-- nwb_share
pub share_determined : (part : ℕ) (input before after after' : List ℕ) (n p n' p' : ℕ) (g g' : ℤ)
    → ToldShare part input before after n p g → ToldShare part input before after' n' p' g'
    → (n ≡ n') × (p ≡ p') × (g ≡ g') × (after ≡ after')
share_determined part input before after after' n p n' p' g g' x y =
    (x.number_is ∙ sym y.number_is, x.place_is ∙ sym y.place_is, x.gap_is ∙ sym y.gap_is, x.out_is ∙ sym y.out_is)
