-- What an outcome can be: the lines are shared, or they are refused. Assumes nothing.
use mathlib.Core.Path.{◌≡◌, refl, sym, ap, ◌∙◌}
use mathlib.Core.Bool.{Bool, true, false}
use mathlib.Core.List.{List, []}
use mathlib.Core.Logic.{◌⊎◌, inl, inr}
use Prim.Native.Nat.{ℕ, min, ◌≤◌, ◌<◌}
use native.Mathlib.Omega.{arith}
use native.Mathlib.Decide.{dec_le}
use borrow.Author.Tests.{ltb-false, eqb-true, eqb-false, lt-ltb}
use lib.Dec.{ltb, eqb, lit<}
use lib.ListN.{length, take, length-map}
use lib.Seq.{take_all}
use Rattle.apportion.specs.Apportion.{total}
use Rattle.apportion.proofs.Promises.{each_one}
use Rattle.share.specs.Sharing.{most_number, most_part, part_place, Part, SharingOutcome, sharing}
use Rattle.ceiling.specs.declared.LimitedLine.{LimitedLine}
use Rattle.ceiling.specs.Ceiling.{first_bad_limited, plain_lines, uncollected_of, uncollected_sum, positive, positives, given_up, ceiled_parts}
use Rattle.ceiling.specs.Ceiling.{CeilingOutcome, ceiling_refused, ceiling_accepted, second_sharing, both_sharings, ceiling_in_turn, ceiling}
use Rattle.ceiling.proofs.Places.{length_uncollected, length_by}
use Rattle.ceiling.proofs.PastFirst.{long_parts}

-- the lines are shared: part, lines and limits are sound, the first sharing was accepted, and the positive amounts can give up what is not collected
pub record Taken (part bad count : ℕ) (ls : List LimitedLine) : Type 0 where
  pub is : ceiling_in_turn part bad count ls ≡ ceiling_accepted ls (sharing part (plain_lines ls))
  pub fair : part ≤ most_part
  pub sound : count ≤ bad
  pub few : count ≤ most_number
  pub first : (sharing part (plain_lines ls)).number ≡ 0
  pub room : uncollected_sum ls (sharing part (plain_lines ls)).parts ≤ total (positives (sharing part (plain_lines ls)).parts)

-- the lines are refused, with a number above 0
pub record Refused (o : CeilingOutcome) : Type 0 where
  pub number : ℕ
  pub place : ℕ
  pub is : o ≡ ceiling_refused number place
  pub some : 0 < number

module _ (part bad count : ℕ) (ls : List LimitedLine) where
  abbrev f : SharingOutcome
  f = sharing part (plain_lines ls)

  abbrev o : CeilingOutcome
  o = ceiling_in_turn part bad count ls

  pub outcome : Taken part bad count ls ⊎ Refused o
  unfolding ceiling_in_turn both_sharings second_sharing
  outcome =
      go (ltb most_part part) (ltb bad (min count most_number)) (ltb most_number count) (eqb f.number 0) (ltb (total (positives f.parts)) (uncollected_sum ls f.parts)) refl refl refl refl refl
    where
      go : (p a m b c : Bool) → ltb most_part part ≡ p → ltb bad (min count most_number) ≡ a → ltb most_number count ≡ m → eqb f.number 0 ≡ b
          → ltb (total (positives f.parts)) (uncollected_sum ls f.parts) ≡ c → Taken part bad count ls ⊎ Refused o
      go true a m b c ep ea em eb ec = inr (record { number = 10; place = part_place; is = rw ep; some = lit< tt })
      go false true m b c ep ea em eb ec = inr (record { number = 10; place = bad; is = rw (ep, ea); some = lit< tt })
      go false false true b c ep ea em eb ec = inr (record { number = 10; place = most_number; is = rw (ep, ea, em); some = lit< tt })
      go false false false false c ep ea em eb ec =
          inr (record { number = f.number; place = f.place; is = rw (ep, ea, em, eb); some = omega (arith, eqb-false f.number 0 eb) })
      go false false false true true ep ea em eb ec = inr (record { number = 17; place = 0; is = rw (ep, ea, em, eb, ec); some = lit< tt })
      go false false false true false ep ea em eb ec =
          let few = ltb-false most_number count em in
          inl
          (record {
            is = rw (ep, ea, em, eb, ec);
            fair = ltb-false most_part part ep;
            sound = omega (arith, ltb-false bad (min count most_number) ea, few);
            few = few;
            first = eqb-true f.number 0 eb;
            room = ltb-false (total (positives f.parts)) (uncollected_sum ls f.parts) ec;
          })

  -- where no number is given, the lines are shared
  pub taken : o.number ≡ 0 → Taken part bad count ls
  taken h = go outcome
    where
      go : Taken part bad count ls ⊎ Refused o → Taken part bad count ls
      go (inl t) = t
      go (inr r) = let n : r.number ≡ 0 = sym (ap (λ (x : CeilingOutcome). x.number) r.is) ∙ h in absurd (omega (arith, r.some))

  -- a refusal gives no line anything
  pub none_given : 0 < o.number → o.parts ≡ []
  none_given h = go outcome
    where
      go : Taken part bad count ls ⊎ Refused o → o.parts ≡ []
      go (inl t) = let n : o.number ≡ 0 = ap (λ (x : CeilingOutcome). x.number) t.is in absurd (omega arith)
      go (inr r) = ap (λ (x : CeilingOutcome). x.parts) r.is

  pub each_given : Taken part bad count ls → length o.parts ≡ length ls
  unfolding ceiled_parts given_up
  each_given t =
      let lf : length f.parts ≡ length ls = long_parts part (plain_lines ls) t.first ∙ length-map ls (λ (l : LimitedLine). l.line) in
      ap (λ (x : CeilingOutcome). length x.parts) t.is
      ∙ length_by f.parts (uncollected_of ls f.parts) (given_up ls f.parts) (length_uncollected ls f.parts lf ∙ sym lf)
      (each_one (uncollected_sum ls f.parts) (positives f.parts) ∙ length-map f.parts (λ (p : Part). positive p.amount))
      ∙ lf

-- a list of lines that is shared
pub taken_list : (part : ℕ) (ls : List LimitedLine) → (ceiling part ls).number ≡ 0 → Taken part (first_bad_limited 0 (take most_number ls)) (length ls) ls
unfolding ceiling
taken_list part ls h = taken part _ _ ls h

-- THE SAME SHARING, of a list and of an array that holds its first 64 lines.
pub same_ceiling : (part : ℕ) (ls lines : List LimitedLine) → take (length ls) lines ≡ take 64 ls
    → ceiling_in_turn part (first_bad_limited 0 (take (length ls) lines)) (length ls) (take (length ls) lines) ≡ ceiling part ls
unfolding ceiling ceiling_in_turn
same_ceiling part ls lines t = ap (λ (x : List LimitedLine). ceiling_in_turn part (first_bad_limited 0 x) (length ls) x) t ∙ go (dec_le (length ls) 64)
  where
    go : Dec (length ls ≤ 64) → ceiling_in_turn part (first_bad_limited 0 (take 64 ls)) (length ls) (take 64 ls) ≡ ceiling_in_turn part (first_bad_limited 0 (take 64 ls)) (length ls) ls
    go (yes h) = ap (ceiling_in_turn part (first_bad_limited 0 (take 64 ls)) (length ls)) (take_all 64 ls h)
    go (no f) = rw (lt-ltb most_number (length ls) (omega arith))
