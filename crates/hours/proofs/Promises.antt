-- What reading a ramping file promises: the lowest bad line is told, otherwise every hour; however the bytes come in; and the sum is the hours' sum. Assumes nothing.
use Rattle.std.proofs.Common.{
  ◌≡◌,
  ℕ,
  zero,
  suc,
  ◌+◌,
  ◌*◌,
  ◌<◌,
  ◌≤◌,
  Bool,
  true,
  false,
  List,
  [],
  ◌∷◌,
  ◌++◌,
  map,
  length,
  get_or,
  replicate,
  sym,
  refl,
  ap,
  ◌∙◌,
  add-zero,
  add-suc,
  suc-add,
  zero-add,
  arith,
}
use Rattle.le.proofs.Tests.{holds_or_fails}
use Rattle.units.specs.declared.Grains.{Grains}
use Rattle.units.specs.Money.{most_grains, grains_plus}
use Rattle.pay.specs.declared.Member.{Member}
use Rattle.pay.proofs.Within.{of_line_lem}
use Rattle.ramp.specs.Ramping.{first_standard, hour_grains, hour_paid, ramping}
use Rattle.ramp.proofs.Accepted.{Accepted, hour_pays}
use Rattle.ramp.proofs.Sound.{all_within}
use Rattle.ramp.proofs.Bounds.{most_hour, grains_most}
use Rattle.ramp.proofs.Top.{EachHourMost, hours_total, hours_most, hours_below_top}
use Rattle.hours.specs.declared.HourLine.{HourLine}
use Rattle.hours.specs.declared.HoursFault.{HoursFault}
use Rattle.std.specs.Prelude.{Option, Some, None}
use Rattle.hours.specs.declared.HoursFault.TheVariants.{OfMember, AtLine}
use Rattle.hours.specs.declared.Hours.{Hours}
use Rattle.hours.specs.declared.Reader.{Reader}
use Rattle.hours.specs.Hours.{most_hours, of_hour, hour_lines, pays_from, grains_sum, is_fault, hours_refused, hours_paid, read_hours}
use Rattle.hours.specs.Outcomes.{LineWithinAt, LinesWithin, MayRead, HoursOutcome, bad_member, other_kind, bad_line_lem, paid}
use Rattle.hours.specs.Stream.{ended_part, HasRead, Settled, reader_is_settled, Stops}
use Rattle.hours.proofs.Sound.{good_most, good_sound, AllSound, all_sound}
use Rattle.hours.proofs.Taking.{apart, same_fault}
use Rattle.hours.proofs.Exact.{none_bad, hours_exact}

-- the line of a fault, from 1 on
abbrev line_told : Option HoursFault → ℕ
line_told None = 0
line_told (Some (OfMember number)) = 0
line_told (Some (AtLine place)) = suc place

-- The whole file

module _ (m : Member) (hours : ℕ) (text : List ℕ) where
  -- THE LOWEST BAD LINE IS TOLD, and nothing else of the file;
  pub lowest_bad : MayRead m → (i : ℕ) → i < length (hour_lines text) → LinesWithin hours (hour_lines text) i → (LineWithinAt hours (hour_lines text) i → ⊥)
      → read_hours m hours text ≡ hours_refused (AtLine i)
  lowest_bad may i h w n = sym ((hours_exact m hours text (hours_refused (AtLine i))).1 (bad_line_lem i refl may h w n))

  -- where a line is told, those before it are within the limits and it is not;
  pub told_lowest : (i : ℕ) → read_hours m hours text ≡ hours_refused (AtLine i)
      → MayRead m × (i < length (hour_lines text)) × LinesWithin hours (hour_lines text) i × (LineWithinAt hours (hour_lines text) i → ⊥)
  unfolding hours_refused hours_paid
  told_lowest i e = go ((hours_exact m hours text (hours_refused (AtLine i))).0 (sym e))
    where
      go : HoursOutcome m hours (hour_lines text) (hours_refused (AtLine i))
          → MayRead m × (i < length (hour_lines text)) × LinesWithin hours (hour_lines text) i × (LineWithinAt hours (hour_lines text) i → ⊥)
      go (bad_member f n) = absurd (omega (arith, ap (λ (r : Hours). line_told r.fault) f))
      go (other_kind f w k) = absurd (omega (arith, ap (λ (r : Hours). line_told r.fault) f))
      go (paid f may w) = absurd (omega (arith, ap (λ (r : Hours). line_told r.fault) f))
      go (bad_line_lem j f may h w n) =
          let same : j ≡ i = omega (arith, ap (λ (r : Hours). line_told r.fault) f) in
          rw (← same) (may, h, w, n)

  -- a file without a bad line is taken whole.
  pub all_taken_lem : MayRead m → LinesWithin hours (hour_lines text) (length (hour_lines text)) → read_hours m hours text ≡ hours_paid m.rated.0 (hour_lines text)
  all_taken_lem may w = sym ((hours_exact m hours text (hours_paid m.rated.0 (hour_lines text))).1 (paid refl may w))

  -- A refused file says nothing but its fault: zeros everywhere.
  pub refused_zeros : (fault : HoursFault) → (read_hours m hours text).fault ≡ Some fault → read_hours m hours text ≡ hours_refused fault
  unfolding hours_refused hours_paid
  refused_zeros fault f = go (read_hours m hours text) ((hours_exact m hours text (read_hours m hours text)).0 refl) f
    where
      told : (r : Hours) (own : HoursFault) → r ≡ hours_refused own → r.fault ≡ Some fault → r ≡ hours_refused fault
      told r own e s = e ∙ ap (λ (x : HoursFault). hours_refused x) (same_fault own fault (sym (ap (λ (h : Hours). h.fault) e) ∙ s))

      go : (r : Hours) → HoursOutcome m hours (hour_lines text) r → r.fault ≡ Some fault → r ≡ hours_refused fault
      go r (bad_member e n) s = told r (OfMember 10) e s
      go r (other_kind e w k) s = told r (OfMember 12) e s
      go r (bad_line_lem i e may h w n) s = told r (AtLine i) e s
      go r (paid e may w) s = absurd (apart s (ap (λ (h : Hours). h.fault) e))

-- a fault that is told is one
none_told : (fault : HoursFault) → (r : Hours) → r ≡ hours_refused fault → r.fault ≡ None → ⊥
unfolding hours_refused
none_told fault r e f = apart (ap (λ (h : Hours). h.fault) e) f

-- What the hours pay

abbrev none : Grains
none = record { 0 = 0 }

-- grains as numbers
abbrev pub as_numbers : List Grains → List ℕ
as_numbers gs = map (λ g. g.0) gs

abbrev pub grains_of : Hours → List ℕ
grains_of r = as_numbers r.grains

zeros_total : (n : ℕ) → hours_total (as_numbers (replicate n (record { 0 = 0 }))) ≡ 0
unfolding hours_total
zeros_total zero = refl
zeros_total (suc n) = omega (arith, zeros_total n)

plain_sum : (gs : List Grains) → hours_total (as_numbers gs) ≤ most_grains → grains_sum gs ≡ hours_total (as_numbers gs)
unfolding grains_sum hours_total grains_plus
plain_sum [] h = refl
plain_sum (g ∷ gs) h = let rest = plain_sum gs (omega (arith, h)) in omega (arith, rest, h)

-- of lines that are all sound, by a unit of some rating
module _ (N : ℕ) (some : 0 < N) (hours : ℕ) (ls : List HourLine) (s : AllSound hours ls) where
  hour_most : (hour : ℕ) → hour_grains N (of_hour hour ls) ≤ most_hour
  hour_most hour =
      let actions = of_hour hour ls in
      grains_most N actions some (good_most actions (s.good hour)) (all_within (first_standard actions) actions (good_sound actions (s.good hour)))

  each_most : (hour n : ℕ) → EachHourMost (as_numbers (pays_from N ls hour n))
  unfolding pays_from
  each_most hour zero = tt
  each_most hour (suc n) = (hour_most hour, each_most (suc hour) n)

  pays_length : (hour n : ℕ) → length (as_numbers (pays_from N ls hour n)) ≡ n
  unfolding pays_from
  pays_length hour zero = refl
  pays_length hour (suc n) = ap suc (pays_length (suc hour) n)

  pays_at : (hour n k : ℕ) → k < n → (get_or (pays_from N ls hour n) k none).0 ≡ hour_grains N (of_hour (hour + k) ls)
  unfolding pays_from
  pays_at hour zero k h = absurd (omega (arith, h))
  pays_at hour (suc n) zero h = ap (λ (x : ℕ). hour_grains N (of_hour x ls)) (sym (add-zero hour))
  pays_at hour (suc n) (suc k) h = pays_at (suc hour) n k (omega (arith, h)) ∙ ap (λ (x : ℕ). hour_grains N (of_hour x ls)) (suc-add hour k ∙ sym (add-suc hour k))

  paid_sum : grains_sum (pays_from N ls 0 most_hours) ≡ hours_total (as_numbers (pays_from N ls 0 most_hours))
  paid_sum =
      let low = hours_below_top 0 (as_numbers (pays_from N ls 0 most_hours)) (omega arith) (omega (arith, pays_length 0 most_hours)) (each_most 0 most_hours) in
      plain_sum (pays_from N ls 0 most_hours) (omega (arith, low))

  paid_most : grains_sum (pays_from N ls 0 most_hours) ≤ most_hours * most_hour
  paid_most =
      let gs = as_numbers (pays_from N ls 0 most_hours) in
      omega (arith, paid_sum, hours_most gs (each_most 0 most_hours), pays_length 0 most_hours)

module _ (m : Member) (hours : ℕ) (text : List ℕ) where
  -- THE SUM IS THE HOURS' SUM, never held at the top.
  pub sum_is : (read_hours m hours text).sum.0 ≡ hours_total (grains_of (read_hours m hours text))
  unfolding hours_refused hours_paid
  sum_is = go (read_hours m hours text) ((hours_exact m hours text (read_hours m hours text)).0 refl)
    where
      told : (r : Hours) (fault : HoursFault) → r ≡ hours_refused fault → r.sum.0 ≡ hours_total (grains_of r)
      told r fault e = ap (λ (h : Hours). h.sum.0) e ∙ sym (zeros_total most_hours) ∙ ap (λ (h : Hours). hours_total (grains_of h)) (sym e)

      go : (r : Hours) → HoursOutcome m hours (hour_lines text) r → r.sum.0 ≡ hours_total (grains_of r)
      go r (bad_member e n) = told r (OfMember 10) e
      go r (other_kind e w k) = told r (OfMember 12) e
      go r (bad_line_lem i e may h w n) = told r (AtLine i) e
      go r (paid e may w) =
          ap (λ (h : Hours). h.sum.0) e
          ∙ paid_sum m.rated.0 (omega (arith, may.line.rated.0)) hours (hour_lines text) (all_sound hours (hour_lines text) (none_bad hours (hour_lines text) w))
          ∙ ap (λ (h : Hours). hours_total (grains_of h)) (sym e)

  -- And it is at most 744 times the most an hour pays.
  pub sum_most : (read_hours m hours text).sum.0 ≤ most_hours * most_hour
  unfolding hours_refused hours_paid
  sum_most = go (read_hours m hours text) ((hours_exact m hours text (read_hours m hours text)).0 refl)
    where
      sum : Hours → ℕ
      sum h = h.sum.0

      go : (r : Hours) → HoursOutcome m hours (hour_lines text) r → r.sum.0 ≤ most_hours * most_hour
      go r (bad_member e n) = omega (arith, ap sum e)
      go r (other_kind e w k) = omega (arith, ap sum e)
      go r (bad_line_lem i e may h w n) = omega (arith, ap sum e)
      go r (paid e may w) =
          let most =
          paid_most m.rated.0 (omega (arith, may.line.rated.0)) hours (hour_lines text) (all_sound hours (hour_lines text) (none_bad hours (hour_lines text) w)) in
          omega (arith, ap sum e, most)

  -- EACH HOUR IS PAID AS ITS ACTIONS ARE SCORED: of a file that is taken, no hour is refused.
  pub as_scored : (read_hours m hours text).fault ≡ None → (hour : ℕ) → hour < most_hours
      → ramping m (of_hour hour (hour_lines text)) ≡ hour_paid (get_or (read_hours m hours text).grains hour none).0
  unfolding hours_paid
  as_scored f hour h = go (read_hours m hours text) ((hours_exact m hours text (read_hours m hours text)).0 refl) f
    where
      go : (r : Hours) → HoursOutcome m hours (hour_lines text) r → r.fault ≡ None → ramping m (of_hour hour (hour_lines text)) ≡ hour_paid (get_or r.grains hour none).0
      go r (bad_member e n) f = absurd (none_told (OfMember 10) r e f)
      go r (other_kind e w k) f = absurd (none_told (OfMember 12) r e f)
      go r (bad_line_lem i e may h w n) f = absurd (none_told (AtLine i) r e f)
      go r (paid e may w) f =
          let s = all_sound hours (hour_lines text) (none_bad hours (hour_lines text) w) in
          let some : 0 < m.rated.0 = omega (arith, may.line.rated.0) in
          let actions = of_hour hour (hour_lines text) in
          let good : Accepted m actions =
          record { line = of_line_lem m may.line; kind = may.kind; few = good_most actions (s.good hour); within = all_within (first_standard actions) actions (good_sound actions (s.good hour)) } in
          hour_pays m actions good
          ∙ ap hour_paid (sym (ap (λ (x : Hours). (get_or x.grains hour none).0) e ∙ pays_at m.rated.0 some hours (hour_lines text) s 0 most_hours hour h
          ∙ ap (λ (x : ℕ). hour_grains m.rated.0 (of_hour x (hour_lines text))) (zero-add hour)))

-- The stream: what the contracts of a reader say that has read a text

-- a reader that was started for a member and a month, and fed part after part of a text, each as its contract has it
pub data Streamed (m : Member) (hours : ℕ) : List ℕ → Reader → Type 0 where
  started : (r : Reader) → HasRead m hours r [] → Streamed m hours [] r
  fed : (text bytes : List ℕ) (s r : Reader) → Streamed m hours text s
      → ((m : Member) (hours : ℕ) (x : List ℕ) → HasRead m hours s x → HasRead m hours r (x ++ bytes)) → Streamed m hours (text ++ bytes) r

module _ (m : Member) (hours : ℕ) where
  -- IN WHATEVER PARTS a text came, it is the text that has been read.
  pub read_in_parts : (text : List ℕ) (r : Reader) → Streamed m hours text r → HasRead m hours r text
  read_in_parts text r (started _ h) = h
  read_in_parts text r (fed before bytes s _ k h) = h m hours before (read_in_parts before s k)

  module _ (text : List ℕ) (r : Reader) (k : HasRead m hours r text) where
    -- THE STREAM'S ANSWER is that of the whole file.
    pub stream_answer : (t : Hours) → ((m : Member) (hours : ℕ) (x : List ℕ) → HasRead m hours r x → t ≡ read_hours m hours x) → t ≡ read_hours m hours text
    stream_answer t h = h m hours text k

    -- A FAULT THAT IS KNOWN STAYS: no bytes that follow change the answer.
    pub stops_late_enough : ((m : Member) (hours : ℕ) (x : List ℕ) → HasRead m hours r x → Stops m hours x true) → Settled m hours text
    stops_late_enough t = (t m hours text k).late refl

    -- AND IT IS KNOWN BY THE END OF ITS LINE at the latest: where reading goes on, no line that has ended has one.
    pub stops_soon_enough : ((m : Member) (hours : ℕ) (x : List ℕ) → HasRead m hours r x → Stops m hours x false) → is_fault (read_hours m hours (ended_part text)).fault ≡ true → ⊥
    stops_soon_enough t f = holds_or_fails ((t m hours text k).soon f) refl

-- Two outcomes that a contract allows are one

pub read_determined : (m : Member) (hours : ℕ) (text : List ℕ) (t u : Hours) → t ≡ read_hours m hours text → u ≡ read_hours m hours text → t ≡ u
read_determined m hours text t u e f = e ∙ sym f

-- readers of one member and month that have read one text finish alike,
pub finish_determined : (m : Member) (hours : ℕ) (text : List ℕ) (r s : Reader) → HasRead m hours r text → HasRead m hours s text → (t u : Hours)
    → ((m : Member) (hours : ℕ) (x : List ℕ) → HasRead m hours r x → t ≡ read_hours m hours x)
    → ((m : Member) (hours : ℕ) (x : List ℕ) → HasRead m hours s x → u ≡ read_hours m hours x) → t ≡ u
finish_determined m hours text r s a b t u e f = e m hours text a ∙ sym (f m hours text b)

-- and one reader says the same of whether to stop.
pub settled_determined : (r : Reader) (t u : Bool) → t ≡ reader_is_settled r → u ≡ reader_is_settled r → t ≡ u
settled_determined r t u e f = e ∙ sym f
