-- A member's score depends on the member's own records, its line, its series and the month; the place of 12 to 14 is counted from the first of them. Assumes nothing.
use mathlib.Core.Path.{◌≡◌, refl, sym, ◌∙◌, ap}
use mathlib.Core.Bool.{Bool, true, false, cond, not, ◌&&◌}
use mathlib.Core.List.{List}
use Prim.Native.Nat.{ℕ, ◌+◌, ◌-◌, ◌≤◌, ◌<◌}
use native.Mathlib.Nat.{zero-add}
use native.Mathlib.Decide.{dec_le, dec_lt, ℕ_discrete}
use native.Mathlib.Omega.{arith}
use lib.Dec.{eqb, ltb, leb}
use lib.IntN.{pos}
use lib.ListN.{length}
use borrow.Author.Tests.{eq-eqb, eqb-true, eqb-false}
use Rattle.le.specs.Le.{IsBytes}
use Rattle.call.proofs.Bytes.{number_fits}
use Rattle.units.specs.Month.{quarters_of}
use Rattle.call.specs.declared.Call.{Call}
use Rattle.call.specs.Revising.{contested, withdrawn}
use Rattle.book.specs.declared.Verdict.{Verdict}
use Rattle.book.specs.Book.{size_of, header_at, count_at, record_at}
use Rattle.book.specs.Check.{accepted, refused, check}
use Rattle.pay.specs.declared.Member.{Member}
use Rattle.pay.specs.declared.open.Month.{Month}
use Rattle.pay.specs.Member.{member_is_sound}
use Rattle.pay.specs.Open.{open_to}
use Rattle.score.specs.declared.answer.Score.{Score}
use Rattle.score.specs.declared.answer.Earned.{Earned}
use Rattle.score.specs.declared.answer.Earned.TheVariants.{Accepted, Refused}
use Rattle.score.specs.First.{first_nonzero, any_below}
use Rattle.score.specs.Series.{length_place, first_too_much, series_fault}
use Rattle.score.specs.Refusing.{clashes, clash_at, own_at, first_own, number_of, refusal_at}
use Rattle.score.specs.Scoring.{pay_of, wh_of, pay_at, wh_at, month_grains, records_earned, month_at, sound_earned, grains_earned, score_refused, in_fen, scoring}
use Rattle.score.specs.Own.{own_start, own_call, other_at, own_count, Agree, from_first}
use Rattle.score.proofs.First.{first_le, first_bad_lem, first_before, first_again, any_zero}
use Rattle.score.proofs.Checked.{all_rise}
use Rattle.score.proofs.Turns.{own_yes, clash_other, refuse_other, pay_other, wh_other, records_refused, records_sum, fault_in, sound_refused, sound_records, earned_10, earned_sound}
use Rattle.score.proofs.Turns.{score_is, score_refused_lem}
use Rattle.score.proofs.Parts.{Part, total_part, total_z_part, part_hit, part_none, any_shifted}

-- a refusal's place, s further on
unfoldable pub moved : ℕ → Earned → Earned
moved s (Accepted g) = Accepted g
moved s (Refused v p) = Refused v (s + p)

-- the book's records of a member are `mine`, n of them from s on
pub record Records (m : Member) (book mine : ℕ → Call) (s n count : ℕ) : Type 0 where
  pub fits : s + n ≤ count
  pub low : (k : ℕ) → k < s → (book k).participant ≡ m.number → ⊥
  pub part : (k : ℕ) → k < n → book (s + k) ≡ mine k
  pub high : (k : ℕ) → s + n ≤ k → k < count → (book k).participant ≡ m.number → ⊥

-- the same record gives the same
pay_same : (m : Member) (series : List ℕ) (book mine : ℕ → Call) (i k : ℕ) → book i ≡ mine k → pay_at m series book i ≡ pay_at m series mine k
unfolding pay_at
pay_same m series book mine i k e = ap (pay_of m series) e

wh_same : (m : Member) (book mine : ℕ → Call) (i k : ℕ) → book i ≡ mine k → wh_at m book i ≡ wh_at m mine k
unfolding wh_at
wh_same m book mine i k e = ap (wh_of m) e

clash_none : (number : ℕ) (x : Call) (book : ℕ → Call) (j : ℕ) → ((book j).participant ≡ number → ⊥) → clash_at number x book j ≡ false
unfolding clash_at
clash_none number x book j h = clash_other number x (book j) h

clash_same : (number : ℕ) (x : Call) (book mine : ℕ → Call) (i j : ℕ) → book i ≡ mine j → clash_at number x book i ≡ clash_at number x mine j
unfolding clash_at
clash_same number x book mine i j e = ap (clashes number x) e

refusal_same : (month : Month) (m : Member) (book mine : ℕ → Call) (i k : ℕ) → book i ≡ mine k
    → any_below (clash_at m.number (mine k) book) i ≡ any_below (clash_at m.number (mine k) mine) k → refusal_at month m book i ≡ refusal_at month m mine k
unfolding refusal_at
refusal_same month m book mine i k e h = rw (e, h)

module _ (month : Month) (m : Member) (series : List ℕ) (book mine : ℕ → Call) (s n count : ℕ) (r : Records m book mine s n count) where
  -- what is nothing at others' records, and the same at the same record, is that of the member's
  part_of : {A : Type 0} (f g : ℕ → A) (none : A) → ((k : ℕ) → ((book k).participant ≡ m.number → ⊥) → f k ≡ none) → ((k : ℕ) → k < n → f (s + k) ≡ g k) → Part f g none s n count
  part_of f g none other same = record { fits = r.fits; low = λ k l. other k (r.low k l); part = same; high = λ k l t. other k (r.high k l t) }

  refusals : Part (refusal_at month m book) (refusal_at month m mine) 0 s n count
  refusals = part_of (refusal_at month m book) (refusal_at month m mine) 0 (refuse_other month m book) same
    where
      same : (k : ℕ) → k < n → refusal_at month m book (s + k) ≡ refusal_at month m mine k
      same k l = refusal_same month m book mine (s + k) k (r.part k l)
          (any_shifted (clash_at m.number (mine k) book) (clash_at m.number (mine k) mine) s k
          (any_zero (clash_at m.number (mine k) book) s (λ j i. clash_none m.number (mine k) book j (r.low j i)))
          (λ j i. clash_same m.number (mine k) book mine (s + j) j (r.part j (omega arith))))

  grains_same : month_grains m series book count ≡ month_grains m series mine n
  unfolding month_grains
  grains_same =
      let pays = part_of (pay_at m series book) (pay_at m series mine) 0 (pay_other m series book) (λ k l. pay_same m series book mine (s + k) k (r.part k l)) in
      let energies = part_of (wh_at m book) (wh_at m mine) (pos 0) (wh_other m book) (λ k l. wh_same m book mine (s + k) k (r.part k l)) in
      rw (total_part (pay_at m series book) (pay_at m series mine) s n count pays, total_z_part (wh_at m book) (wh_at m mine) s n count energies) refl

  -- The records' outcome is that of the member's records by themselves, a refusal's place moved to the first of them.
  pub score_moved : records_earned month m series book count ≡ moved s (records_earned month m series mine n)
  unfolding moved
  score_moved = go (dec_le n f)
    where
      f : ℕ
      f = first_nonzero (refusal_at month m mine) n

      go : Dec (n ≤ f) → records_earned month m series book count ≡ moved s (records_earned month m series mine n)
      go (yes l) =
          let e : f ≡ n = omega (arith, first_le (refusal_at month m mine) n) in
          let x = records_sum month m series mine n e in
          let y = records_sum month m series book count (part_none (refusal_at month m book) (refusal_at month m mine) s n count refusals e) in
          y ∙ ap (λ (g : ℕ). Accepted (record { 0 = g })) grains_same ∙ sym (ap (moved s) x)
      go (no l) =
          let t : f < n = omega arith in
          let h = part_hit (refusal_at month m book) (refusal_at month m mine) s n count refusals t in
          let b = first_bad_lem (refusal_at month m mine) n t in
          let x = records_refused month m series mine n f t (first_again (refusal_at month m mine) n) b in
          let y = records_refused month m series book count (s + f) (omega (arith, r.fits)) h.1 (λ z. b (sym h.2 ∙ z)) in
          y ∙ ap (λ (v : ℕ). Refused v (s + f)) h.2 ∙ sym (ap (moved s) x)

-- A member's records lie together

other_yes : (number : ℕ) (book : ℕ → Call) (i : ℕ) → other_at number book i ≡ 0 → (book i).participant ≡ number
unfolding other_at
other_yes number book i h = go (eqb (book i).participant number) refl h
  where
    go : (t : Bool) → eqb (book i).participant number ≡ t → ◌≡◌ {A = ℕ} (cond t 0 1) 0 → (book i).participant ≡ number
    go true e h = eqb-true _ _ e
    go false e h = absurd (eqb-false 1 0 refl h)

other_not : (number : ℕ) (book : ℕ → Call) (i : ℕ) → (book i).participant ≡ number → other_at number book i ≡ 0
unfolding other_at
other_not number book i h = simp (eq-eqb _ _ h)

-- The run that two books are to agree on has none but the member's records.
pub own_all : (number : ℕ) (b : List ℕ) (k : ℕ) → k < own_count number b → (own_call number b k).participant ≡ number
unfolding own_count
own_all number b k l =
    other_yes number (own_call number b) k (first_before (other_at number (own_call number b)) (count_at b - own_start number b) k l)

own_of : (number : ℕ) (book : ℕ → Call) (i : ℕ) → (own_at number book i ≡ 0 → ⊥) → (book i).participant ≡ number
unfolding own_at
own_of number book i h = go (eqb (book i).participant number) refl h
  where
    go : (t : Bool) → eqb (book i).participant number ≡ t → (◌≡◌ {A = ℕ} (cond t 1 0) 0 → ⊥) → (book i).participant ≡ number
    go true e h = eqb-true _ _ e
    go false e h = absurd (h refl)

-- a call number has 32 bits
number_small : (b : List ℕ) → IsBytes b → (i : ℕ) → (record_at b i).number < 4294967296
unfolding record_at
number_small b h i = number_fits b h (size_of i)

module _ (b : List ℕ) (bytes : IsBytes b) (ok : check b ≡ accepted) where
  -- keys rise by participant
  participants_rise : (j k : ℕ) → j ≤ k → k < count_at b → (record_at b j).participant ≤ (record_at b k).participant
  participants_rise j k l r = go (dec_lt j k)
    where
      go : Dec (j < k) → (record_at b j).participant ≤ (record_at b k).participant
      go (yes p) = omega (arith, all_rise b ok j k p r, number_small b bytes k, number_small b bytes j)
      go (no p) = let e : j ≡ k = omega arith in rw e (omega arith)

  above : (number s n : ℕ) → s + n < count_at b → (record_at b s).participant ≡ number → ((record_at b (s + n)).participant ≡ number → ⊥)
      → (k : ℕ) → s + n ≤ k → k < count_at b → (record_at b k).participant ≡ number → ⊥
  above number s n f p q k l r e = q (omega (arith, participants_rise s (s + n) (omega arith) f, participants_rise (s + n) k l r))

  -- In an accepted book a member's records lie together.
  pub lie_together : (m : Member) → Records m (record_at b) (own_call m.number b) (own_start m.number b) (own_count m.number b) (count_at b)
  unfolding first_own own_start own_count own_call
  lie_together m =
      let number = m.number in
      let own = own_at number (record_at b) in
      let s = first_nonzero own (count_at b) in
      let mine = own_call number b in
      let other = other_at number mine in
      let n = first_nonzero other (count_at b - s) in
      let f : s ≤ count_at b = first_le own (count_at b) in
      let g : n ≤ count_at b - s = first_le other (count_at b - s) in
      record {
        fits = omega arith;
        low = λ k l e. own_yes number (record_at b) k e (first_before own (count_at b) k l);
        part = λ k l. refl;
        high = λ k l r e.
            above number s n (omega arith) (own_of number (record_at b) s (first_bad_lem own (count_at b) (omega arith)))
            (λ d. first_bad_lem other (count_at b - s) (omega arith) (other_not number mine n d)) k l r e;
      }

-- The same refusal, its place counted from the member's first record

-- a record is refused with 12, 13 or 14
Known : Earned → Type 0
Known (Accepted g) = Unit {0}
Known (Refused v p) = (leb 12 v && leb v 14) ≡ true

refusal_known : (month : Month) (m : Member) (book : ℕ → Call) (i : ℕ) → (refusal_at month m book i ≡ 0 → ⊥)
    → (leb 12 (refusal_at month m book i) && leb (refusal_at month m book i) 14) ≡ true
unfolding refusal_at number_of
refusal_known month m book i h =
    go (eqb (book i).participant m.number) (eqb (book i).state withdrawn) (eqb (book i).state contested)
    (open_to month m (book i)) (any_below (clash_at m.number (book i) book) i) h
  where
    number : Bool → Bool → Bool → Bool → Bool → ℕ
    number t u v w x = cond (not t) 0 (cond u 0 (cond v 14 (cond (not w) 12 (cond x 13 0))))

    go : (t u v w x : Bool) → (number t u v w x ≡ 0 → ⊥) → (leb 12 (number t u v w x) && leb (number t u v w x) 14) ≡ true
    go false u v w x h = absurd (h refl)
    go true true v w x h = absurd (h refl)
    go true false true w x h = refl
    go true false false false x h = refl
    go true false false true true h = refl
    go true false false true false h = absurd (h refl)

score_known : (month : Month) (m : Member) (series : List ℕ) (book : ℕ → Call) (count : ℕ) → Known (records_earned month m series book count)
unfolding Known
score_known month m series book count = go (dec_lt f count)
  where
    f : ℕ
    f = first_nonzero (refusal_at month m book) count

    go : Dec (f < count) → Known (records_earned month m series book count)
    go (yes l) =
        let b = first_bad_lem (refusal_at month m book) count l in
        rw (records_refused month m series book count f l (first_again (refusal_at month m book) count) b) (refusal_known month m book f b)
    go (no l) =
        let e : f ≡ count = omega (arith, first_le (refusal_at month m book) count) in
        rw (records_sum month m series book count e) tt

fen_moved : (s : ℕ) (x : Earned) → Known x → from_first s (in_fen (moved s x)) ≡ from_first 0 (in_fen x)
unfolding Known from_first in_fen moved
fen_moved s (Accepted g) h = refl
fen_moved s (Refused v p) h =
    let e : s + p - s ≡ p - 0 = omega arith in
    rw (h, e) refl

-- A place of 12 to 14 is told as so many records behind the member's first, and no other answer changes.
pub place_from_first : (first number p : ℕ) → (leb 12 number && leb number 14) ≡ true → from_first first (score_refused number (first + p)) ≡ score_refused number p
unfolding from_first
place_from_first first number p h =
    let e : first + p - first ≡ p = omega arith in
    rw (h, e) refl

pub same_run : (m : Member) (mine mine' : ℕ → Call) (n : ℕ) → ((k : ℕ) → k < n → mine k ≡ mine' k) → Records m mine mine' 0 n n
same_run m mine mine' n h =
    record {
      fits = omega arith;
      low = λ k l e. absurd (omega arith);
      part = λ k l. rw zero-add (h k l);
      high = λ k l r e. absurd (omega arith);
    }

-- the records' part: it is the same of two runs that agree
runs_agree : (month : Month) (m : Member) (series : List ℕ) (mine mine' : ℕ → Call) (n n' : ℕ) → n ≡ n' → ((k : ℕ) → k < n → mine k ≡ mine' k)
    → from_first 0 (in_fen (records_earned month m series mine n)) ≡ from_first 0 (in_fen (records_earned month m series mine' n'))
runs_agree month m series mine mine' n n' e h =
    ap (λ (x : Earned). from_first 0 (in_fen x)) (score_moved month m series mine mine' 0 n n (same_run m mine mine' n h))
    ∙ fen_moved 0 (records_earned month m series mine' n) (score_known month m series mine' n)
    ∙ ap (λ (k : ℕ). from_first 0 (in_fen (records_earned month m series mine' k))) e

module _ (m : Member) (series b : List ℕ) where
  abbrev start : ℕ
  start = own_start m.number b

  -- what the member's records give by themselves
  abbrev own_records : Month → Earned
  own_records month = records_earned month m series (own_call m.number b) (own_count m.number b)

  -- the records' part of one book, its place counted from the first
  own_run : IsBytes b → check b ≡ accepted → (month : Month) → from_first start (in_fen (records_earned month m series (record_at b) (count_at b))) ≡ from_first 0 (in_fen (own_records month))
  own_run bytes ok month =
      ap (λ (x : Earned). from_first start (in_fen x))
      (score_moved month m series (record_at b) (own_call m.number b) start (own_count m.number b) (count_at b) (lie_together b bytes ok m))
      ∙ fen_moved start (own_records month) (score_known month m series (own_call m.number b) (own_count m.number b))

series_eleven : (series : List ℕ) (q : ℕ) → ((series_fault series q).number ≡ 0 → ⊥) → (series_fault series q).number ≡ 11
unfolding series_fault
series_eleven series q h = go (eqb (length series) q) (ltb (first_too_much series) (length series)) h
  where
    fault : Bool → Bool → Verdict
    fault t u = cond (not t) (refused 11 length_place) (cond u (refused 11 (first_too_much series)) accepted)

    go : (t u : Bool) → ((fault t u).number ≡ 0 → ⊥) → (fault t u).number ≡ 11
    go false u h = refl
    go true true h = refl
    go true false h = absurd (h refl)

-- 10 and 11 have places that do not count records
stays : (s number place : ℕ) → (leb 12 number && leb number 14) ≡ false → from_first s (score_refused number place) ≡ score_refused number place
unfolding from_first
stays s number place h = rw h refl

-- Where two sound books of one month agree on a member's records, its line and its series give the same grains in both, or the same refusal,
-- its place counted from the member's first record in 12 to 14.
pub own_only : (m : Member) (b b' series : List ℕ) → IsBytes b → IsBytes b' → check b ≡ accepted → check b' ≡ accepted → Agree m.number b b'
    → from_first (own_start m.number b) (scoring m b series) ≡ from_first (own_start m.number b') (scoring m b' series)
own_only m b b' series bytes bytes' ok ok' agree = go (member_is_sound m) refl
  where
    told : List ℕ → Score
    told a = from_first (own_start m.number a) (scoring m a series)

    month-same : month_at b ≡ month_at b'
    month-same = rw (agree.year, agree.month) refl

    fault_same : fault_in b series ≡ fault_in b' series
    fault_same = rw (agree.year, agree.month) refl

    sound_is : member_is_sound m ≡ true → (a : List ℕ) → check a ≡ accepted → grains_earned m a series ≡ sound_earned m a series
    sound_is l a ok = earned_sound m a series l (ap (λ (v : Verdict). v.number) ok)

    -- one refusal for both
    both : (v p : ℕ) → (leb 12 v && leb v 14) ≡ false → grains_earned m b series ≡ Refused v p → grains_earned m b' series ≡ Refused v p → told b ≡ told b'
    both v p n x y =
        ap (from_first (own_start m.number b)) (score_refused_lem m b series v p x) ∙ stays (own_start m.number b) v p n
        ∙ sym (stays (own_start m.number b') v p n) ∙ sym (ap (from_first (own_start m.number b')) (score_refused_lem m b' series v p y))

    records_is : member_is_sound m ≡ true → (a : List ℕ) → IsBytes a → check a ≡ accepted → (fault_in a series).number ≡ 0 → told a ≡ from_first 0 (in_fen (own_records m series a (month_at a)))
    records_is l a bytes ok z =
        ap (from_first (own_start m.number a)) (score_is m a series _ (sound_is l a ok ∙ sound_records m a series z)) ∙ own_run m series a bytes ok (month_at a)

    sound : member_is_sound m ≡ true → Dec ((fault_in b series).number ≡ 0) → told b ≡ told b'
    sound l (yes z) =
        records_is l b bytes ok z
        ∙ runs_agree (month_at b) m series (own_call m.number b) (own_call m.number b') (own_count m.number b) (own_count m.number b') agree.count agree.calls
        ∙ ap (λ (k : Month). from_first 0 (in_fen (own_records m series b' k))) month-same
        ∙ sym (records_is l b' bytes' ok' (sym (ap (λ (v : Verdict). v.number) fault_same) ∙ z))
    sound l (no z) =
        both (fault_in b series).number (fault_in b series).place (rw (series_eleven series (quarters_of (header_at b).year (header_at b).month) z) refl)
        (sound_is l b ok ∙ sound_refused m b series (fault_in b series) refl z) (sound_is l b' ok' ∙ sound_refused m b' series (fault_in b series) fault_same z)

    go : (t : Bool) → member_is_sound m ≡ t → told b ≡ told b'
    go false l = both 10 0 refl (earned_10 m b series l) (earned_10 m b' series l)
    go true l = sound l (ℕ_discrete (fault_in b series).number 0)
