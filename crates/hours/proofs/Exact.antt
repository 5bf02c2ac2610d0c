-- A file's answer comes exactly under its condition: which line is the first bad one, and a table of all answers. Assumes nothing.
use Rattle.std.proofs.Common.{◌≡◌, ℕ, zero, suc, ◌<◌, ◌≤◌, Bool, true, false, cond, ◌↔◌, List, [], ◌∷◌, ◌++◌, length, get_or, take, sym, refl, ◌∙◌, append-nil, arith, le-ltb, lt-ltb}
use native.Mathlib.Decide.{dec_lt}
use lib.Seq.{append_snoc}
use Rattle.le.proofs.Tests.{fails, refuted}
use Rattle.pay.specs.declared.Member.{Member}
use Rattle.pay.specs.Member.{member_is_sound, MemberWithin}
use Rattle.pay.proofs.Within.{line_of, of_line_lem}
use Rattle.ramp.specs.Ramping.{is_ramping}
use Rattle.hours.specs.declared.HourLine.{HourLine}
use Rattle.hours.specs.declared.HoursFault.TheVariants.{AtLine}
use Rattle.hours.specs.declared.Hours.{Hours}
use Rattle.hours.specs.Hours.{hour_lines, hour_line_is_sound, first_bad_line, hours_refused, hours_paid, hours_of_lines, read_hours}
use Rattle.hours.specs.Outcomes.{LineWithin, LineWithinAt, LinesWithin, MayRead, HoursOutcome, bad_member, other_kind, bad_line_lem, paid}
use Rattle.hours.specs.Inner.{blank_hour_line, lines_say}
use Rattle.hours.proofs.Sound.{line_within, within_line}
use Rattle.hours.proofs.Taking.{lines_of, refused_10, refused_12}
use Rattle.hours.proofs.Streaming.{said}

-- The first bad line

module _ (hours : ℕ) where
  pub bad_le : (before ls : List HourLine) → first_bad_line hours before ls ≤ length ls
  unfolding first_bad_line
  bad_le before [] = omega arith
  bad_le before (l ∷ ls) = go (hour_line_is_sound hours before l) (bad_le (before ++ l ∷ []) ls)
    where
      go : (t : Bool) → first_bad_line hours (before ++ l ∷ []) ls ≤ length ls → cond t (suc (first_bad_line hours (before ++ l ∷ []) ls)) 0 ≤ suc (length ls)
      go true h = omega (arith, h)
      go false h = omega arith

  -- the lines before it are within the limits,
  before_bad : (before ls : List HourLine) (k : ℕ) → k < first_bad_line hours before ls → LineWithin hours (before ++ take k ls) (get_or ls k blank_hour_line)
  unfolding first_bad_line
  before_bad before [] k h = absurd (omega (arith, h))
  before_bad before (l ∷ ls) k h = go (first_bad_line hours (before ++ l ∷ []) ls) (hour_line_is_sound hours before l) refl k h (before_bad (before ++ l ∷ []) ls)
    where
      go : (n : ℕ) (t : Bool) → hour_line_is_sound hours before l ≡ t → (k : ℕ) → k < cond t (suc n) 0
          → ((k : ℕ) → k < n → LineWithin hours ((before ++ l ∷ []) ++ take k ls) (get_or ls k blank_hour_line))
          → LineWithin hours (before ++ take k (l ∷ ls)) (get_or (l ∷ ls) k blank_hour_line)
      go n false e k h rec = absurd (omega (arith, h))
      go n true e zero h rec = rw (append-nil before) (line_within hours before l e)
      go n true e (suc k) h rec = rw (← (append_snoc before l (take k ls))) (rec k (omega (arith, h)))

  -- and it is not
  at_bad : (before ls : List HourLine) → let n = first_bad_line hours before ls in n < length ls → LineWithin hours (before ++ take n ls) (get_or ls n blank_hour_line) → ⊥
  unfolding first_bad_line
  at_bad before [] h = absurd (omega (arith, h))
  at_bad before (l ∷ ls) h = go (first_bad_line hours (before ++ l ∷ []) ls) (hour_line_is_sound hours before l) refl h (at_bad (before ++ l ∷ []) ls)
    where
      go : (n : ℕ) (t : Bool) → hour_line_is_sound hours before l ≡ t → cond t (suc n) 0 < suc (length ls)
          → (n < length ls → LineWithin hours ((before ++ l ∷ []) ++ take n ls) (get_or ls n blank_hour_line) → ⊥)
          → LineWithin hours (before ++ take (cond t (suc n) 0) (l ∷ ls)) (get_or (l ∷ ls) (cond t (suc n) 0) blank_hour_line) → ⊥
      go n false e h rec = rw (append-nil before) (refuted (hour_line_is_sound hours before l) (within_line hours before l) e)
      go n true e h rec = rw (← (append_snoc before l (take n ls))) (rec (omega (arith, h)))

  module _ (ls : List HourLine) where
    -- lines within the limits stand before it, and one that is not does not
    no_sooner : (i : ℕ) → i ≤ length ls → LinesWithin hours ls i → i ≤ first_bad_line hours [] ls
    no_sooner i h w = go (dec_lt (first_bad_line hours [] ls) i)
      where
        go : Dec (first_bad_line hours [] ls < i) → i ≤ first_bad_line hours [] ls
        go (yes k) = absurd (at_bad [] ls (omega (arith, h, k)) (w (first_bad_line hours [] ls) k))
        go (no k) = omega (arith, k)

    no_later : (i : ℕ) → (LineWithinAt hours ls i → ⊥) → first_bad_line hours [] ls ≤ i
    no_later i n = go (dec_lt i (first_bad_line hours [] ls))
      where
        go : Dec (i < first_bad_line hours [] ls) → first_bad_line hours [] ls ≤ i
        go (yes k) = absurd (n (before_bad [] ls i k))
        go (no k) = omega (arith, k)

    -- where all are within the limits none is bad
    pub none_bad : LinesWithin hours ls (length ls) → first_bad_line hours [] ls ≡ length ls
    none_bad w = omega (arith, no_sooner (length ls) (omega arith) w, bad_le [] ls)

-- The answers

module _ (m : Member) (hours : ℕ) (ls : List HourLine) where
  abbrev first : ℕ
  first = first_bad_line hours [] ls

  may : MayRead m → (member_is_sound m ≡ true) × (is_ramping m.kind ≡ true)
  may r = (of_line_lem m r.line, r.kind)

  at_line : MayRead m → (i : ℕ) → first ≡ i → i < length ls → lines_say m hours ls ≡ hours_refused (AtLine i)
  unfolding hours_of_lines
  at_line r i e h = lines_of m hours ls (may r) ∙ rw (e, lt-ltb i (length ls) h)

  at_end : MayRead m → first ≡ length ls → lines_say m hours ls ≡ hours_paid m.rated.0 ls
  unfolding hours_of_lines
  at_end r e = lines_of m hours ls (may r) ∙ rw (e, le-ltb (length ls) (length ls) (omega arith))

  pub hours_outcome : HoursOutcome m hours ls (lines_say m hours ls)
  hours_outcome = line (member_is_sound m) refl
    where
      turn : MayRead m → Dec (first < length ls) → HoursOutcome m hours ls (lines_say m hours ls)
      turn r (yes h) = bad_line_lem first (at_line r first refl h) r h (λ k l. before_bad hours [] ls k l) (at_bad hours [] ls h)
      turn r (no h) =
          let all : first ≡ length ls = omega (arith, h, bad_le hours [] ls) in
          paid (at_end r all) r (λ k l. before_bad hours [] ls k (omega (arith, l, all)))

      kind : MemberWithin m → (t : Bool) → is_ramping m.kind ≡ t → HoursOutcome m hours ls (lines_say m hours ls)
      kind w true k = turn (record { line = w; kind = k }) (dec_lt first (length ls))
      kind w false k = other_kind (refused_12 m hours (of_line_lem m w) k ls) w k

      line : (t : Bool) → member_is_sound m ≡ t → HoursOutcome m hours ls (lines_say m hours ls)
      line true s = kind (line_of m s) (is_ramping m.kind) refl
      line false s = bad_member (refused_10 m hours s ls) (refuted (member_is_sound m) (of_line_lem m) s)

  pub decides : (r : Hours) → HoursOutcome m hours ls r → r ≡ lines_say m hours ls
  decides r (bad_member e n) = e ∙ sym (refused_10 m hours (fails (member_is_sound m) (line_of m) n) ls)
  decides r (other_kind e w k) = e ∙ sym (refused_12 m hours (of_line_lem m w) k ls)
  decides r (bad_line_lem i e g h w n) = e ∙ sym (at_line g i (omega (arith, no_sooner hours ls i (omega (arith, h)) w, no_later hours ls i n)) h)
  decides r (paid e g w) = e ∙ sym (at_end g (none_bad hours ls w))

-- EXACTLY: an answer is the file's where, and only where, a row of the table allows it
pub hours_exact : (m : Member) (hours : ℕ) (text : List ℕ) (r : Hours) → (r ≡ read_hours m hours text) ↔ HoursOutcome m hours (hour_lines text) r
hours_exact m hours text r = (λ e. rw (e ∙ said m hours text) (hours_outcome m hours (hour_lines text)), λ o. decides m hours (hour_lines text) r o ∙ sym (said m hours text))
