-- An explanation is determined; its parts add up to the grains; each live call of the member is one part, and only such; and it is the score's. Assumes nothing.
use mathlib.Core.Path.{◌≡◌, refl, sym, ◌∙◌, ap}
use mathlib.Core.Bool.{Bool, true, false, cond, not}
use mathlib.Core.List.{List, []}
use mathlib.Core.Logic.{◌↔◌}
use Prim.Native.Nat.{ℕ, ◌+◌, ◌<◌}
use native.Mathlib.Omega.{arith}
use lib.Dec.{eqb, ltb}
use lib.ListN.{length, get_or, get_or-append}
use borrow.Author.Tests.{eqb-false, ltb-true}
use Rattle.units.specs.declared.Grains.{Grains}
use Rattle.units.specs.Money.{grains_plus}
use Rattle.call.specs.declared.Call.{Call}
use Rattle.book.specs.declared.Verdict.{Verdict}
use Rattle.book.specs.Book.{count_at, record_at}
use Rattle.book.specs.Check.{check}
use Rattle.pay.specs.declared.Member.{Member}
use Rattle.pay.specs.declared.open.Month.{Month}
use Rattle.pay.specs.Member.{member_is_sound}
use Rattle.pay.specs.Event.{energy_pay, clamp}
use Rattle.score.specs.declared.answer.Earned.{Earned}
use Rattle.score.specs.declared.answer.Earned.TheVariants.{Accepted, Refused}
use Rattle.score.specs.Refusing.{refusal_at}
use Rattle.score.specs.Scoring.{month_grains, first_refused, records_earned, after, sound_earned, grains_earned, in_fen, scoring}
use Rattle.score.proofs.First.{first_bad_lem}
use Rattle.explain.specs.declared.CallPart.{CallPart}
use Rattle.explain.specs.declared.Explained.{Explained}
use Rattle.explain.specs.Explaining.{call_part, parts_of, blank_part, filled_up, month_wh, hours_sum, explain_earned, explaining}
use Rattle.explain.specs.Explaining.{hours_grains, HoursWithin, parts_grains, parts_wh, part_at, OwnLive, HasPart}
use Rattle.explain.specs.Inner.{parts_before}
use Rattle.explain.proofs.Before.{parts_are}
use Rattle.explain.proofs.Scored.{accepted_ready}
use Rattle.explain.proofs.Each.{of_record, indexed, rising}
use Rattle.explain.proofs.Adding.{filled_grains, filled_wh, before_grains, before_wh}
use Rattle.score.proofs.Most.{most_hour, month_most}
use Rattle.explain.proofs.Hours.{month_of_hours}

-- Two outcomes that the contract of `explain` allows are one.
pub explain_determined : (m : Member) (b series : List ℕ) (hours : List Grains) (r s : Explained) → r ≡ explaining m b series hours → s ≡ explaining m b series hours → r ≡ s
explain_determined m b series hours r s p q = p ∙ sym q

-- Accepted is what has no number

num : Earned → ℕ
num (Accepted g) = 1
num (Refused v p) = v

after_num : (fault : Verdict) (e : Earned) → (num e ≡ 0 → ⊥) → num (after fault e) ≡ 0 → ⊥
unfolding after num
after_num fault e h = go (eqb fault.number 0) refl
  where
    go : (t : Bool) → eqb fault.number 0 ≡ t → num (cond t e (Refused fault.number fault.place)) ≡ 0 → ⊥
    go true d z = h z
    go false d z = eqb-false _ _ d z

records_num : (month : Month) (m : Member) (series : List ℕ) (book : ℕ → Call) (count : ℕ) → num (records_earned month m series book count) ≡ 0 → ⊥
unfolding records_earned first_refused num
records_num month m series book count = go (ltb first count) refl
  where
    first : ℕ
    first = first_refused month m book count

    go : (t : Bool) → ltb first count ≡ t → num (cond t (Refused (refusal_at month m book first) first) (Accepted (record { 0 = month_grains m series book count }))) ≡ 0 → ⊥
    go true d z = first_bad_lem (refusal_at month m book) count (ltb-true _ _ d) z
    go false d z = omega arith

earned_num : (m : Member) (b series : List ℕ) → num (grains_earned m b series) ≡ 0 → ⊥
unfolding grains_earned sound_earned num
earned_num m b series = go (member_is_sound m)
  where
    go : (t : Bool) → num (cond (not t) (Refused 10 0) (after (check b) (sound_earned m b series))) ≡ 0 → ⊥
    go true z = after_num (check b) (sound_earned m b series) (λ y. after_num _ _ (records_num _ m series (record_at b) (count_at b)) y) z
    go false z = omega arith

module _ (m : Member) (b series : List ℕ) (hours : List Grains) where
  abbrev r : Explained
  r = explaining m b series hours

  abbrev added : Grains
  added = record { 0 = hours_sum hours }

  record IsAccepted : Type 0 where
    grains : Grains
    is : grains_earned m b series ≡ Accepted grains

  accepted_of : r.number ≡ 0 → IsAccepted
  unfolding explaining explain_earned num
  accepted_of = go (grains_earned m b series) refl
    where
      go : (e : Earned) → grains_earned m b series ≡ e → (explain_earned m b series added e).number ≡ 0 → IsAccepted
      go (Accepted g) d z = record { grains = g; is = d }
      go (Refused v p) d z = absurd (earned_num m b series (ap num d ∙ z))

  -- The parts' grains, the energy's and what the hours add are the grains, held at the top of 64 bits.
  pub parts_held : r.grains.0 ≡ grains_plus (parts_grains r.parts + r.energy.0) r.added.0
  unfolding explaining explain_earned grains_plus parts_grains month_grains month_wh
  parts_held = go (grains_earned m b series) refl
    where
      go : (e : Earned) → grains_earned m b series ≡ e → (let s = explain_earned m b series added e in s.grains.0 ≡ grains_plus (parts_grains s.parts + s.energy.0) s.added.0)
      go (Accepted g) d =
          let t = filled_grains (parts_of m b series) ∙ ap parts_grains (parts_are m b series) ∙ before_grains m b series (count_at b) in
          ap (λ (n : ℕ). grains_plus n added.0) (omega (arith, t, (accepted_ready m b series g d).1))
      go (Refused v p) d = omega (arith, filled_grains [])

  -- WHERE NO HOUR IS ABOVE WHAT ONE PAYS THEY ADD UP: no month reaches the top.
  pub parts_add_up : HoursWithin most_hour hours → parts_grains r.parts + r.energy.0 + r.added.0 ≡ r.grains.0
  unfolding explaining explain_earned grains_plus parts_grains month_grains month_wh
  parts_add_up within = go (grains_earned m b series) refl
    where
      go : (e : Earned) → grains_earned m b series ≡ e → (let s = explain_earned m b series added e in parts_grains s.parts + s.energy.0 + s.added.0 ≡ s.grains.0)
      go (Accepted g) d =
          let a = accepted_ready m b series g d in
          let t = filled_grains (parts_of m b series) ∙ ap parts_grains (parts_are m b series) ∙ before_grains m b series (count_at b) in
          omega (arith, t, a.1, month_most m b series a.0, (month_of_hours hours within).1)
      go (Refused v p) d = omega (arith, filled_grains [])

  -- And what the hours add to an accepted score is the sum of all of them.
  pub hours_add_up : r.number ≡ 0 → HoursWithin most_hour hours → r.added.0 ≡ hours_grains hours
  unfolding explaining explain_earned
  hours_add_up z within = let a = accepted_of z in rw a.is (month_of_hours hours within).0

  -- The month's Wh are those of the parts, added up, and their sum is paid, clamped at zero once.
  pub energy_adds_up : (r.wh.0 ≡ parts_wh r.parts) × (r.energy.0 ≡ energy_pay (parts_wh r.parts))
  unfolding explaining explain_earned month_wh parts_wh energy_pay clamp
  energy_adds_up = go (grains_earned m b series)
    where
      go : (e : Earned) → (let s = explain_earned m b series added e in (s.wh.0 ≡ parts_wh s.parts) × (s.energy.0 ≡ energy_pay (parts_wh s.parts)))
      go (Accepted g) = let t = filled_wh (parts_of m b series) ∙ ap parts_wh (parts_are m b series) ∙ before_wh m b series (count_at b) in (sym t, ap energy_pay (sym t))
      go (Refused v p) = let t = filled_wh [] in (sym t, ap energy_pay (sym t))

  -- Of an accepted score
  module _ (z : r.number ≡ 0) where
    counted : r.count ≡ length (parts_before m b series (count_at b))
    unfolding explaining explain_earned
    counted = let a = accepted_of z in rw a.is (ap length (parts_are m b series))

    filled : r.parts ≡ filled_up (parts_before m b series (count_at b))
    unfolding explaining explain_earned
    filled = let a = accepted_of z in rw a.is (ap filled_up (parts_are m b series))

    at : (k : ℕ) → k < r.count → part_at r k ≡ get_or (parts_before m b series (count_at b)) k blank_part
    unfolding filled_up
    at k l = rw filled (get_or-append (parts_before m b series (count_at b)) _ blank_part k (omega (arith, counted)))

    -- Record i is a live call of the member exactly where it is the record of a part.
    pub each_once : (i : ℕ) → OwnLive m b i ↔ HasPart r i
    each_once i = (there, back)
      where
        there : OwnLive m b i → HasPart r i
        there o =
            let p = indexed m b series (count_at b) i o.is_record_lem o.own_live in
            let l : p.index < r.count = omega (arith, p.low, counted) in
            record { index = p.index; is_part = l; place = rw (at p.index l) p.place }

        back : HasPart r i → OwnLive m b i
        back h =
            let p = of_record m b series (count_at b) h.index (omega (arith, h.is_part, counted)) in
            let e = sym (at h.index h.is_part) in
            let d = ap (λ (q : CallPart). q.place) e ∙ h.place in
            record { is_record_lem = rw d at p.low; own_live = rw d at p.own }

    -- The parts' records rise, so that none is there twice.
    pub places_rise : (j k : ℕ) → j < k → k < r.count → (part_at r j).place < (part_at r k).place
    places_rise j k d l = rw (at j (omega arith), at k l) (rising m b series (count_at b) j k d (omega (arith, counted)))

    -- Each part is that of its record.
    pub part_of_its_record : (k : ℕ) → k < r.count → part_at r k ≡ call_part m series (part_at r k).place (record_at b (part_at r k).place)
    part_of_its_record k l = rw (at k l) (of_record m b series (count_at b) k (omega (arith, counted))).is

-- An explanation is refused exactly as the score is, with its number and place.
pub refused_as_scored : (m : Member) (b series : List ℕ) (hours : List Grains)
    → ((explaining m b series hours).number ≡ (scoring m b series).number) × ((explaining m b series hours).place ≡ (scoring m b series).place)
unfolding explaining explain_earned scoring in_fen
refused_as_scored m b series hours = go (grains_earned m b series)
  where
    go : (e : Earned) → ((explain_earned m b series (record { 0 = hours_sum hours }) e).number ≡ (in_fen e).number)
        × ((explain_earned m b series (record { 0 = hours_sum hours }) e).place ≡ (in_fen e).place)
    go (Accepted g) = (refl, refl)
    go (Refused v p) = (refl, refl)

-- Where the hours pay nothing the grains are the score's.
pub as_scored : (m : Member) (b series : List ℕ) (hours : List Grains) → hours_sum hours ≡ 0 → (explaining m b series hours).grains ≡ (scoring m b series).grains
unfolding explaining explain_earned scoring in_fen grains_plus
as_scored m b series hours none = go (grains_earned m b series) refl
  where
    go : (e : Earned) → grains_earned m b series ≡ e → (explain_earned m b series (record { 0 = hours_sum hours }) e).grains ≡ (in_fen e).grains
    go (Accepted g) d =
        let a = accepted_ready m b series g d in
        ap (λ (n : ℕ). record { 0 = n }) (omega (arith, a.1, month_most m b series a.0))
    go (Refused v p) d = refl

-- The grains of an accepted score are the score's and what the hours add, held at the top of 64 bits.
pub grains_as_scored : (m : Member) (b series : List ℕ) (hours : List Grains) → (scoring m b series).number ≡ 0
    → (explaining m b series hours).grains.0 ≡ grains_plus (scoring m b series).grains.0 (hours_sum hours)
unfolding explaining explain_earned scoring in_fen num
grains_as_scored m b series hours = go (grains_earned m b series) refl
  where
    go : (e : Earned) → grains_earned m b series ≡ e → (in_fen e).number ≡ 0
        → (explain_earned m b series (record { 0 = hours_sum hours }) e).grains.0 ≡ grains_plus (in_fen e).grains.0 (hours_sum hours)
    go (Accepted g) d z = refl
    go (Refused v p) d z = absurd (earned_num m b series (ap num d ∙ z))
