-- What the second sharing is given by the first. Assumes nothing.
use mathlib.Core.Path.{◌≡◌, sym, ap, ap₂, ◌∙◌}
use mathlib.Core.List.{List}
use mathlib.Core.Logic.{inl, inr}
use Prim.Native.Nat.{ℕ, ◌≤◌, ◌<◌, ◌^◌}
use native.Mathlib.Decide.{dec_le}
use native.Mathlib.Omega.{arith}
use lib.IntN.{nat_abs}
use lib.ListN.{length, length-map}
use lib.Seq.{take_all}
use Rattle.apportion.specs.Apportion.{total, apportion}
use Rattle.apportion.proofs.Loops.{get_d_total}
use Rattle.apportion.proofs.Promises.{Shareable, adds_up}
use Rattle.share.specs.declared.Line.{Line}
use Rattle.share.specs.declared.Answer.{Answer}
use Rattle.share.specs.Sharing.{most_number, most_part, Part, SharingOutcome, sharing}
use Rattle.share.specs.Forms.{fill_in, blank_line, Lent}
use Rattle.share.specs.Forms as S
use Rattle.share.proofs.Lines.{length_fill}
use Rattle.share.proofs.Outcomes.{taken_list, each_given}
use Rattle.share.proofs.Promises.{part_within}
use Rattle.ceiling.specs.declared.LimitedLine.{LimitedLine}
use Rattle.ceiling.specs.Ceiling.{first_bad_limited, plain_lines, uncollected_of, positives, given_up, ceiled_by, ceiled_parts}
use Rattle.ceiling.specs.Ceiling.{CeilingOutcome, ceiling_refused, ceiling_accepted, second_sharing, ceiling}
use Rattle.ceiling.specs.Forms.{ceiled_lines, answer_of, LentLimited}
use Rattle.ceiling.specs.Inner.{parts_in, part_in, AmountsWithin, EachWithin, Small, most_amount, SecondShared, exceeds, gives}
use Rattle.ceiling.proofs.Places.{length_parts_in, parts_back, part_in_at, uncollected_sum_le, positives_sum_le}
use Rattle.ceiling.proofs.Turns.{both_refused, both_on, second_17, second_on}
use Rattle.ceiling.proofs.Refusals.{on_both}

-- the parts of an accepted first sharing are small, and as many as the lines
pub small_parts : (part : ℕ) (ls : List Line) → (sharing part ls).number ≡ 0 → Small most_amount (sharing part ls).parts
small_parts part ls none i p h =
    (part_within part ls none i p (omega (arith, each_given part _ _ ls (taken_list part ls none)))).1

pub long_parts : (part : ℕ) (ls : List Line) → (sharing part ls).number ≡ 0 → length (sharing part ls).parts ≡ length ls
long_parts part ls none = each_given part _ _ ls (taken_list part ls none)

-- a refusal, and the lines as they were
pub refused_as : (part : ℕ) (ls : List LimitedLine) (number place : ℕ) (answer : Answer) → answer ≡ answer_of (ceiling_refused number place) → ceiling_refused number place ≡ ceiling part ls
    → LentLimited part ls ls answer
refused_as part ls number place answer e o = record { says = e ∙ ap answer_of o; lines = ap (λ (x : CeilingOutcome). ceiled_lines x.parts ls) o }

-- The first sharing of lines without their limits

module _ (part : ℕ) (ls : List LimitedLine) (shared : List Line) (first : Answer) (l : Lent part (plain_lines ls) shared first) where
  abbrev pub o : SharingOutcome
  o = sharing part (plain_lines ls)

  pub number_is : first.number ≡ o.number
  number_is = ap (λ (a : Answer). a.number) l.says

  pub first_refused : part ≤ most_part → length ls ≤ first_bad_limited 0 ls → (first.number ≡ 0 → ⊥) → ceiling_refused first.number first.place ≡ ceiling part ls
  first_refused fair sound some =
      ap₂ ceiling_refused number_is (ap (λ (a : Answer). a.place) l.says) ∙ both_refused ls o (λ z. some (number_is ∙ z)) ∙ on_both part ls fair sound

  pub long_shared : length shared ≡ length ls
  long_shared = ap length l.lines ∙ length_fill o.parts (plain_lines ls) ∙ length-map ls (λ (l : LimitedLine). l.line)

  module _ (none : first.number ≡ 0) where
    accepted : o.number ≡ 0
    accepted = sym number_is ∙ none

    long_o : length o.parts ≡ length (plain_lines ls)
    long_o = long_parts part (plain_lines ls) accepted

    parts_are : parts_in shared ≡ o.parts
    parts_are =
        ap parts_in (l.lines ∙ sym (take_all (length o.parts) (fill_in o.parts (plain_lines ls)) (omega (arith, long_o, length_fill o.parts (plain_lines ls)))))
        ∙ parts_back o.parts (plain_lines ls) (omega (arith, long_o))

    pub first_small : Small most_amount (parts_in shared)
    first_small = rw parts_are (small_parts part (plain_lines ls) accepted)

    -- the first sharing's answer is the second's, where nothing stands in its way
    answer_is : S.answer_of o ≡ answer_of (ceiling_accepted ls o)
    answer_is =
        let place : o.place ≡ 0 = ap (λ (x : SharingOutcome). x.place) (taken_list part (plain_lines ls) accepted).is in
        λ i. record { number = accepted i; place = place i; gap = record { 0 = o.gap }; user = record { 0 = o.user } }

    second_is : part ≤ most_part → length ls ≤ first_bad_limited 0 ls → second_sharing ls o ≡ ceiling part ls
    second_is fair sound = both_on ls o accepted ∙ on_both part ls fair sound

    pub finished : part ≤ most_part → length ls ≤ first_bad_limited 0 ls → {after : List LimitedLine} {answer : Answer} → SecondShared ls (parts_in shared) first after answer
        → LentLimited part ls after answer
    finished fair sound (exceeds h e a) =
        let is = second_17 ls o (rw parts_are at h) ∙ second_is fair sound in
        record { says = e ∙ ap answer_of is; lines = a ∙ ap (λ (x : CeilingOutcome). ceiled_lines x.parts ls) is }
    finished fair sound (gives h e a) =
        let is = second_on ls o (rw parts_are at h) ∙ second_is fair sound in
        record {
          says = e ∙ l.says ∙ answer_is ∙ ap answer_of is;
          lines = a ∙ ap (λ (ps : List Part). ceiled_lines (ceiled_parts ls ps) ls) parts_are ∙ ap (λ (x : CeilingOutcome). ceiled_lines x.parts ls) is;
        }

-- The second sharing, of lines and the lines of the first

module _ (ls : List LimitedLine) (shared : List Line) (few : length ls ≤ most_number) (each : length shared ≡ length ls) (small : Small most_amount (parts_in shared)) where
  pub sums_fit : (total (uncollected_of ls (parts_in shared)) < 2 ^ 60) × (total (positives (parts_in shared)) < 2 ^ 60)
  sums_fit =
      (omega (arith, uncollected_sum_le most_amount ls (parts_in shared) small, length_parts_in shared), omega (arith, positives_sum_le most_amount (parts_in shared) small, length_parts_in shared))

pub amounts_fit : (shared : List Line) (n : ℕ) → length shared ≡ n → Small most_amount (parts_in shared) → AmountsWithin shared n
amounts_fit shared n e small k h =
    let at = part_in_at shared k (part_in blank_line) (omega arith) in
    omega (arith, ap (λ (p : Part). nat_abs p.amount) at, small k (part_in blank_line) (omega (arith, length_parts_in shared)))

-- what was worked out gives the parts
pub parts_given : (ls : List LimitedLine) (fs : List Part) (sum : ℕ) (us ps gs : List ℕ) → us ≡ uncollected_of ls fs → ps ≡ positives fs → sum ≡ total us → gs ≡ apportion sum ps
    → ceiled_lines (ceiled_by fs us gs) ls ≡ ceiled_lines (ceiled_parts ls fs) ls
unfolding ceiled_parts given_up
parts_given ls fs sum us ps gs eu ep es eg = rw (eg, es, eu, ep)

-- numbers whose sum is small are small
pub each_small : (xs : List ℕ) (count : ℕ) → total xs < 2 ^ 60 → EachWithin xs count
each_small xs count h k i = omega (arith, get_d_total xs k)

-- what is given up adds up to the sum
pub given_small : (sum count : ℕ) (gs ps : List ℕ) → sum ≤ total ps → sum < 2 ^ 60 → gs ≡ apportion sum ps → EachWithin gs count
given_small sum count gs ps h k e = each_small gs count (omega (arith, ap total e, adds_up sum ps (way (dec_le 1 sum))))
  where
    way : Dec (1 ≤ sum) → Shareable sum ps
    way (yes some) = inr (omega arith)
    way (no f) = inl (omega arith)
