-- What an outcome can be: the lines are shared, or they are refused. Assumes nothing.
use mathlib.Core.Path.{◌≡◌, refl, sym, ap, ◌∙◌}
use mathlib.Core.Bool.{Bool, true, false, ◌&&◌, true≢false}
use mathlib.Core.List.{List, []}
use mathlib.Core.Logic.{◌⊎◌, inl, inr}
use Prim.Native.Nat.{ℕ, min, ◌≤◌, ◌<◌}
use native.Mathlib.Omega.{arith}
use borrow.Author.Tests.{ltb-false, eqb-false}
use lib.Dec.{ltb, eqb, lit<}
use lib.ListN.{length, take, length-map}
use Rattle.apportion.specs.Apportion.{apportion}
use Rattle.apportion.proofs.Promises.{Shareable, each_one}
use Rattle.share.specs.declared.Line.{Line}
use Rattle.share.specs.Sharing.{compensated, below, generators_amount, weight_of, weights, all_weights, parts, first_bad_line, weightless, most_compensation, most_number, most_part, part_place}
use Rattle.share.specs.Sharing.{SharingOutcome, sharing_refused, sharing_accepted, settled, sharing_in_turn, sharing}
use Rattle.share.proofs.Lines.{length_parts}

-- the lines are shared: the part and all lines are sound, C is within its limit, and there is nothing to share or a weight to share it by
pub record Taken (part bad count : ℕ) (ls : List Line) : Type 0 where
  pub is : sharing_in_turn part bad count ls ≡ sharing_accepted part ls
  pub fair : part ≤ most_part
  pub sound : count ≤ bad
  pub few : count ≤ most_number
  pub within : compensated ls ≤ most_compensation
  pub way : Shareable (generators_amount part ls) (weights ls)

-- the lines are refused, with a number above 0
pub record Refused (o : SharingOutcome) : Type 0 where
  pub number : ℕ
  pub place : ℕ
  pub is : o ≡ sharing_refused number place
  pub some : 0 < number

way_of : (part : ℕ) (ls : List Line) → weightless part ls ≡ false → Shareable (generators_amount part ls) (weights ls)
way_of part ls h = go (ltb 0 (generators_amount part ls)) (eqb (all_weights ls) 0) refl refl h
  where
    go : (a b : Bool) → ltb 0 (generators_amount part ls) ≡ a → eqb (all_weights ls) 0 ≡ b → (a && b) ≡ false → Shareable (generators_amount part ls) (weights ls)
    go false b ea eb k = inl (omega (arith, ltb-false 0 (generators_amount part ls) ea))
    go true false ea eb k = inr (omega (arith, eqb-false (all_weights ls) 0 eb))
    go true true ea eb k = absurd (true≢false k)

-- each line gets a part, whatever is shared
pub long_shares : (amount : ℕ) (ls : List Line) → length (apportion amount (weights ls)) ≡ length ls
long_shares amount ls = each_one amount (weights ls) ∙ length-map ls (λ l. weight_of (below ls) l)

module _ (part bad count : ℕ) (ls : List Line) where
  abbrev o : SharingOutcome
  o = sharing_in_turn part bad count ls

  pub outcome : Taken part bad count ls ⊎ Refused o
  unfolding sharing_in_turn settled
  outcome =
      go (ltb most_part part) (ltb bad (min count most_number)) (ltb most_number count) (ltb most_compensation (compensated ls)) (weightless part ls) refl refl refl refl refl
    where
      go : (p a m b c : Bool) → ltb most_part part ≡ p → ltb bad (min count most_number) ≡ a → ltb most_number count ≡ m → ltb most_compensation (compensated ls) ≡ b
          → weightless part ls ≡ c → Taken part bad count ls ⊎ Refused o
      go true a m b c ep ea em eb ec = inr (record { number = 10; place = part_place; is = rw ep; some = lit< tt })
      go false true m b c ep ea em eb ec = inr (record { number = 10; place = bad; is = rw (ep, ea); some = lit< tt })
      go false false true b c ep ea em eb ec = inr (record { number = 10; place = most_number; is = rw (ep, ea, em); some = lit< tt })
      go false false false true c ep ea em eb ec = inr (record { number = 15; place = 0; is = rw (ep, ea, em, eb); some = lit< tt })
      go false false false false true ep ea em eb ec = inr (record { number = 16; place = 0; is = rw (ep, ea, em, eb, ec); some = lit< tt })
      go false false false false false ep ea em eb ec =
          let few = ltb-false most_number count em in
          inl
          (record {
            is = rw (ep, ea, em, eb, ec);
            fair = ltb-false most_part part ep;
            sound = omega (arith, ltb-false bad (min count most_number) ea, few);
            few = few;
            within = ltb-false most_compensation (compensated ls) eb;
            way = way_of part ls ec;
          })

  -- where no number is given, the lines are shared
  pub taken : o.number ≡ 0 → Taken part bad count ls
  taken h = go outcome
    where
      go : Taken part bad count ls ⊎ Refused o → Taken part bad count ls
      go (inl t) = t
      go (inr r) = let n : r.number ≡ 0 = sym (ap (λ (x : SharingOutcome). x.number) r.is) ∙ h in absurd (omega (arith, r.some))

  -- a refusal gives no line anything
  pub none_given : 0 < o.number → o.parts ≡ []
  none_given h = go outcome
    where
      go : Taken part bad count ls ⊎ Refused o → o.parts ≡ []
      go (inl t) = let n : o.number ≡ 0 = ap (λ (x : SharingOutcome). x.number) t.is in absurd (omega arith)
      go (inr r) = ap (λ (x : SharingOutcome). x.parts) r.is

  pub each_given : Taken part bad count ls → length o.parts ≡ length ls
  unfolding parts
  each_given t = ap (λ (x : SharingOutcome). length x.parts) t.is ∙ length_parts (below ls) ls _ (long_shares (generators_amount part ls) ls)

-- a list of lines that is shared
pub taken_list : (part : ℕ) (ls : List Line) → (sharing part ls).number ≡ 0 → Taken part (first_bad_line 0 (take most_number ls)) (length ls) ls
taken_list part ls h = taken part _ _ ls h
