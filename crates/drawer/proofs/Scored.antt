-- What is listed of a member, and its score. Assumes nothing.
use mathlib.Core.Path.{◌≡◌, refl, sym, ◌∙◌, ap}
use mathlib.Core.Bool.{false}
use mathlib.Core.Logic.{◌↔◌, ◌≢◌}
use mathlib.Core.List.{List, [], ◌∷◌, Memᴰ as In}
use Prim.Native.Nat.{ℕ, ◌<◌}
use native.Mathlib.Omega.{arith}
use Rattle.book.specs.Book.{count_at, record_at}
use Rattle.book.specs.Check.{accepted, check}
use Rattle.pay.specs.declared.Member.{Member}
use Rattle.pay.specs.Member.{MemberWithin}
use Rattle.score.specs.declared.answer.Score.{Score}
use Rattle.score.specs.First.{first_nonzero}
use Rattle.score.specs.Refusing.{clashes, refusal_at}
use Rattle.score.specs.Scoring.{month_at, score_refused, in_fen, scoring}
use Rattle.score.specs.Outcomes.{LineAndBook, Ready, Against, ScoreOutcome, bad_line_lem, bad_book, bad_length, bad_value, is_contested_lem, not_open_lem, stands_against_lem, scored}
use Rattle.score.proofs.First.{first_of_all, first_bad_lem, first_before}
use Rattle.score.proofs.Turns.{records_refused, records_sum, score_is, score_refused_lem}
use Rattle.score.proofs.Exact.{against_of, ready_records, outcome}
use Rattle.drawer.specs.declared.refused.RefusedRecord.{RefusedRecord}
use Rattle.drawer.specs.Refused.{against_at, first_against, is_refused_at, refused_at, refused_of, NoneListed, Given}
use Rattle.drawer.proofs.Telling.{told_in, in_told, none_listed, walk_on}
use Rattle.drawer.proofs.Refusals.{clash_yes, clash_not, thirteen, first_against_low, is_refused, refused_number, passed_number}

module _ (m : Member) (b : List ℕ) where
  -- A record is listed, with a number that is not 0, exactly where that number is its refusal.
  pub listed_exactly : (k number : ℕ) → k < count_at b → number ≢ 0
      → ((x : RefusedRecord) × In x (refused_of m b 0) × (x.place ≡ k) × (x.number ≡ number)) ↔ (refusal_at (month_at b) m (record_at b) k ≡ number)
  unfolding refused_of refused_at
  listed_exactly k number l n = (from, to)
    where
      from : (x : RefusedRecord) × In x (refused_of m b 0) × (x.place ≡ k) × (x.number ≡ number) → refusal_at (month_at b) m (record_at b) k ≡ number
      from e =
          let t = told_in (is_refused_at m b) (refused_at m b) (count_at b) 0 e.0 e.1 in
          let p : t.k ≡ k = sym (ap (λ (x : RefusedRecord). x.place) t.is) ∙ e.2 in
          ap (refusal_at (month_at b) m (record_at b)) (sym p) ∙ sym (ap (λ (x : RefusedRecord). x.number) t.is) ∙ e.3

      to : refusal_at (month_at b) m (record_at b) k ≡ number → (x : RefusedRecord) × In x (refused_of m b 0) × (x.place ≡ k) × (x.number ≡ number)
      to e = (refused_at m b k, in_told (is_refused_at m b) (refused_at m b) (count_at b) 0 k (omega arith) l (is_refused m b k number (sym e) n), refl, e)

  -- Where line, book and series are good, the first that is listed is the score's number and place,
  module _ (series : List ℕ) (ready : Ready m b series) where
    pub first_is_score : (x : RefusedRecord) (xs : List RefusedRecord) → refused_of m b 0 ≡ x ∷ xs → scoring m b series ≡ score_refused x.number x.place
    unfolding refused_of refused_at
    first_is_score x xs e =
        let w = walk_on (is_refused_at m b) (refused_at m b) (count_at b) 0 x xs e in
        let t = w.first in
        let clear = first_of_all (refusal_at (month_at b) m (record_at b)) t.k (λ j l. passed_number m b j (w.before j (omega arith) l)) in
        let earned = records_refused (month_at b) m series (record_at b) (count_at b) t.k t.high clear (refused_number m b t.k t.is_listed_lem) in
        score_refused_lem m b series _ _ (ready_records m b series ready ∙ earned) ∙ ap (λ (y : RefusedRecord). score_refused y.number y.place) (sym t.is)

    -- and the score is accepted exactly where none is.
    pub none_accepted : refused_of m b 0 ≡ [] → (scoring m b series).number ≡ 0
    unfolding refused_of in_fen
    none_accepted e =
        let clear = first_of_all (refusal_at (month_at b) m (record_at b)) (count_at b) (λ k l. passed_number m b k
        (none_listed (is_refused_at m b) (refused_at m b) (count_at b) 0 e k (omega arith) l)) in
        ap (λ (r : Score). r.number) (score_is m b series _ (ready_records m b series ready ∙ records_sum (month_at b) m series (record_at b) (count_at b) clear))

    pub accepted_none : (scoring m b series).number ≡ 0 → refused_of m b 0 ≡ []
    unfolding refused_of refused_at
    accepted_none z = go (refused_of m b 0) refl
      where
        go : (xs : List RefusedRecord) → refused_of m b 0 ≡ xs → xs ≡ []
        go [] e = refl
        go (x ∷ xs) e =
            let t = (walk_on (is_refused_at m b) (refused_at m b) (count_at b) 0 x xs e).first in
            let number = ap (λ (r : Score). r.number) (first_is_score x xs e) in
            absurd (refused_number m b t.k t.is_listed_lem (sym (ap (λ (y : RefusedRecord). y.number) t.is) ∙ sym number ∙ z))

  -- Of a record that is listed with 13, the call told beside it is the first earlier one that stands against it.
  pub against_is : (x : RefusedRecord) → In x (refused_of m b 0) → x.number ≡ 13
      → (x.against < x.place) × Against m.number (record_at b x.place) (record_at b x.against)
      × ((j : ℕ) → j < x.against → clashes m.number (record_at b x.place) (record_at b j) ≡ false)
  unfolding refused_of refused_at first_against
  against_is x i e =
      let t = told_in (is_refused_at m b) (refused_at m b) (count_at b) 0 x i in
      rw t.is (told t.k (sym (ap (λ (y : RefusedRecord). y.number) t.is) ∙ e))
    where
      told : (k : ℕ) → refusal_at (month_at b) m (record_at b) k ≡ 13
          → let at = first_nonzero (against_at m.number (record_at b k) (record_at b)) k in
          (at < k) × Against m.number (record_at b k) (record_at b at) × ((j : ℕ) → j < at → clashes m.number (record_at b k) (record_at b j) ≡ false)
      told k f =
          let v = against_at m.number (record_at b k) (record_at b) in
          let l = first_against_low m.number (record_at b k) (record_at b) k (thirteen (month_at b) m (record_at b) k f) in (
            l,
            against_of m.number (record_at b k) (record_at b (first_nonzero v k)) (clash_yes m.number (record_at b k) (record_at b) (first_nonzero v k) (first_bad_lem v k l)),
            λ j g. clash_not m.number (record_at b k) (record_at b) j (first_before v k j g),
          )

-- One member: where line and book are good, none of 11 to 14 is listed exactly where its scoring is accepted.
pub accepted_exactly : (m : Member) (b series : List ℕ) → LineAndBook m b → ((scoring m b series).number ≡ 0) ↔ NoneListed m b series
accepted_exactly m b series front = (λ z. go z (outcome m b series), λ n. none_accepted m b series (ready_of n) n.records)
  where
    ready_of : NoneListed m b series → Ready m b series
    ready_of n = record { front = front; spans = n.spans; within = n.within }

    of : {r : Score} → scoring m b series ≡ r → (scoring m b series).number ≡ r.number
    of d = ap (λ (r : Score). r.number) d

    go : (scoring m b series).number ≡ 0 → ScoreOutcome m b series (scoring m b series) → NoneListed m b series
    go z (bad_line_lem d n) = absurd (n front.line)
    go z (bad_book d l n) = absurd (n front.book)
    go z (bad_length d l n) = absurd (omega (arith, of d))
    go z (bad_value i d l s t w v) = absurd (omega (arith, of d))
    go z (is_contested_lem i d t q) = absurd (omega (arith, of d))
    go z (not_open_lem i d t q n) = absurd (omega (arith, of d))
    go z (stands_against_lem i j d t q o l a) = absurd (omega (arith, of d))
    go z (scored g d ready clear s) = record { spans = ready.spans; within = ready.within; records = accepted_none m b series ready z }

-- All members: none of 11 to 14 is listed exactly where every member's scoring is accepted.
pub every_accepted : (b : List ℕ) → check b ≡ accepted → (gs : List Given) → ((g : Given) → In g gs → MemberWithin g.member)
    → ((g : Given) → In g gs → (scoring g.member b g.series).number ≡ 0) ↔ ((g : Given) → In g gs → NoneListed g.member b g.series)
every_accepted b book gs lines = (λ h g i. (exactly g i).0 (h g i), λ h g i. (exactly g i).1 (h g i))
  where
    exactly : (g : Given) → In g gs → ((scoring g.member b g.series).number ≡ 0) ↔ NoneListed g.member b g.series
    exactly g i = accepted_exactly g.member b g.series (record { line = lines g i; book = book })
