-- Two books of one month that have the same calls of a member agree on its records. Assumes nothing.
use mathlib.Core.Path.{◌≡◌, sym, ◌∙◌, ap}
use mathlib.Core.Logic.{◌↔◌}
use mathlib.Core.List.{List, Memᴰ as In}
use Prim.Native.Nat.{ℕ, zero, suc, ◌+◌, ◌-◌, ◌≤◌, ◌<◌}
use native.Mathlib.Decide.{dec_lt}
use native.Mathlib.Omega.{arith}
use lib.ListN.{length}
use Rattle.call.specs.declared.Call.{Call}
use Rattle.call.specs.Key.{call_key}
use Rattle.book.specs.Book.{header_at, count_at, record_at, calls_from, calls_of}
use Rattle.book.specs.Check.{accepted, check}
use Rattle.book.specs.Sound.{Rises, Sound}
use Rattle.book.proofs.Judged.{check_most}
use Rattle.book.proofs.Exact.{sound_accepted}
use Rattle.book.proofs.Records.{length_calls}
use Rattle.book.proofs.Without.{call_in, in_calls, call_place}
use Rattle.pay.specs.declared.Member.{Member}
use Rattle.score.specs.declared.answer.Score.{Score}
use Rattle.score.specs.Scoring.{score_refused, scoring}
use Rattle.score.specs.First.{first_nonzero}
use Rattle.score.specs.Refusing.{own_at, first_own}
use Rattle.score.specs.Outcomes.{RecordsTurn, ScoreOutcome, bad_line_lem, bad_book, bad_length, bad_value, is_contested_lem, not_open_lem, stands_against_lem, scored}
use Rattle.score.specs.Own.{own_start, own_call, own_count, Agree, from_first}
use Rattle.score.proofs.First.{first_before}
use Rattle.score.proofs.Checked.{all_rise}
use Rattle.score.proofs.Turns.{own_yes}
use Rattle.score.proofs.Exact.{outcome}
use Rattle.score.proofs.Own.{Records, lie_together, own_all, own_only}
use Rattle.book.proofs.Rising.{same_members}
use Rattle.book.proofs.Without.{place_from_lem, place_call, from_place}
use Rattle.book.proofs.AreBytes.{sound_bytes}

-- any member of that number
someone : ℕ → Member
someone number = record { number = number; kind = 0; rated = record { 0 = 0 } }

-- so many records of a book whose keys rise
rises_from : (b : List ℕ) → check b ≡ accepted → (n s low : ℕ) → s + n ≤ count_at b → ((k : ℕ) → s ≤ k → k < s + n → low ≤ call_key (record_at b k)) → Rises low (calls_from b s n)
unfolding calls_from
rises_from b ok zero s low l h = tt
rises_from b ok (suc n) s low l h =
    (h s (omega arith) (omega arith), rises_from b ok n (suc s) (suc (call_key (record_at b s))) (omega arith) (λ k p q. all_rise b ok s k (omega arith) (omega arith)))

module _ (number : ℕ) (b : List ℕ) (s : Sound b) where
  ok : check b ≡ accepted
  ok = sound_accepted b s

  lie : Records (someone number) (record_at b) (own_call number b) (own_start number b) (own_count number b) (count_at b)
  unfolding someone
  lie = lie_together b (sound_bytes b s) ok (someone number)

  -- the member's calls, in their order
  abbrev own : List Call
  own = calls_from b (own_start number b) (own_count number b)

  own_rise : Rises 0 own
  own_rise = rises_from b ok (own_count number b) (own_start number b) 0 lie.fits (λ k p q. omega arith)

  own_at_lem : (k : ℕ) → k < own_count number b → (record_at b (own_start number b + k) ≡ own_call number b k) × (own_start number b + k < count_at b)
  own_at_lem k l = (lie.part k l, omega (arith, lie.fits))

  own_in : (x : Call) → In x own → In x (calls_of b) × (x.participant ≡ number)
  own_in x i =
      let f = from_place b (own_start number b) (own_count number b) x i in
      let a = own_at_lem f.0 f.1 in
      (rw f.2 at (place_call b (own_start number b + f.0) a.1), ap (λ (c : Call). c.participant) (sym f.2 ∙ a.0) ∙ own_all number b f.0 f.1)

  in_own : (x : Call) → In x (calls_of b) → x.participant ≡ number → In x own
  unfolding someone
  in_own x i p = go (dec_lt k start) (dec_lt k (start + count))
    where
      start : ℕ
      start = own_start number b

      count : ℕ
      count = own_count number b

      f : (j : ℕ) × (j < count_at b) × (record_at b j ≡ x)
      f = call_place b x i

      k : ℕ
      k = f.0

      is_own : (record_at b k).participant ≡ number
      is_own = ap (λ (c : Call). c.participant) f.2 ∙ p

      go : Dec (k < start) → Dec (k < start + count) → In x own
      go (yes l) h = absurd (lie.low k l is_own)
      go (no l) (yes h) =
          let e : start + (k - start) ≡ k = omega arith in
          rw (ap (record_at b) e ∙ f.2) at (place_from_lem b count start (k - start) (omega arith))
      go (no l) (no h) = absurd (lie.high k (omega arith) f.1 is_own)

-- The hypothesis as a person says it: two books of one month of which each has the calls of the member that the other has agree on its records.
module _ (number : ℕ) (b b' : List ℕ) (s : Sound b) (s' : Sound b') where
  own_same : ((x : Call) → x.participant ≡ number → In x (calls_of b) ↔ In x (calls_of b')) → own number b s ≡ own number b' s'
  own_same h =
      same_members 0 0 (own number b s) (own number b' s') (own_rise number b s) (own_rise number b' s')
      (λ x. (λ i. let f = own_in number b s x i in in_own number b' s' x ((h x f.1).0 f.0) f.1, λ i. let f = own_in number b' s' x i in in_own number b s x ((h x f.1).1 f.0) f.1))

  pub agree_by_calls : (header_at b).year ≡ (header_at b').year → (header_at b).month ≡ (header_at b').month
      → ((x : Call) → x.participant ≡ number → In x (calls_of b) ↔ In x (calls_of b')) → Agree number b b'
  unfolding own_call
  agree_by_calls year month h =
      record {
        year = year;
        month = month;
        count = count;
        calls = λ k l.
            sym (in_calls b (own_start number b) (own_count number b) k l) ∙ ap (λ (cs : List Call). call_in cs k) (own_same h)
            ∙ in_calls b' (own_start number b') (own_count number b') k (omega (arith, count));
      }
    where
      count : own_count number b ≡ own_count number b'
      count = sym (length_calls b (own_count number b) (own_start number b)) ∙ ap length (own_same h) ∙ length_calls b' (own_count number b') (own_start number b')

-- And books that agree have the same calls of the member, so that agreement is that and no more.
agree_back : (number : ℕ) (b b' : List ℕ) → Agree number b b' → Agree number b' b
agree_back number b b' a = record { year = sym a.year; month = sym a.month; count = sym a.count; calls = λ k l. sym (a.calls k (omega (arith, a.count))) }

has_theirs : (number : ℕ) (b b' : List ℕ) → Sound b → Sound b' → Agree number b b' → (x : Call) → x.participant ≡ number → In x (calls_of b) → In x (calls_of b')
unfolding own_call
has_theirs number b b' s s' a x p i =
    let f = from_place b (own_start number b) (own_count number b) x (in_own number b s x i p) in
    let l : f.0 < own_count number b' = omega (arith, f.1, a.count) in
    rw (sym (a.calls f.0 f.1) ∙ f.2) at (place_call b' (own_start number b' + f.0) (own_at_lem number b' s' f.0 l).1)

pub calls_of_agree : (number : ℕ) (b b' : List ℕ) → Sound b → Sound b' → Agree number b b' → (x : Call) → x.participant ≡ number → In x (calls_of b) ↔ In x (calls_of b')
calls_of_agree number b b' s s' a x p = (has_theirs number b b' s s' a x p, has_theirs number b' b s' s (agree_back number b b' a) x p)

-- So a member's line and its series give the same grains over two sound books of one month that have the same calls of it, or the same refusal,
-- its place counted from the member's first record in 12 to 14.
pub own_calls_only : (m : Member) (b b' series : List ℕ) → Sound b → Sound b' → (header_at b).year ≡ (header_at b').year → (header_at b).month ≡ (header_at b').month
    → ((x : Call) → x.participant ≡ m.number → In x (calls_of b) ↔ In x (calls_of b'))
    → from_first (own_start m.number b) (scoring m b series) ≡ from_first (own_start m.number b') (scoring m b' series)
own_calls_only m b b' series s s' year month h =
    own_only m b b' series (sound_bytes b s) (sound_bytes b' s') (sound_accepted b s) (sound_accepted b' s') (agree_by_calls m.number b b' s s' year month h)

-- Counting from the first record cuts nothing off: a record that is refused with 12 to 14 is one of the member's, and stands no earlier than the first of them.
module _ (m : Member) (b series : List ℕ) where
  abbrev first : ℕ
  first = own_start m.number b

  not_before : (i : ℕ) → (record_at b i).participant ≡ m.number → first ≤ i
  unfolding own_start first_own
  not_before i p = go (dec_lt i (first_nonzero (own_at m.number (record_at b)) (count_at b)))
    where
      go : Dec (i < first_nonzero (own_at m.number (record_at b)) (count_at b)) → first_nonzero (own_at m.number (record_at b)) (count_at b) ≤ i
      go (yes l) = absurd (own_yes m.number (record_at b) i p (first_before (own_at m.number (record_at b)) (count_at b) i l))
      go (no l) = omega arith

  pub place_not_before : 12 ≤ (scoring m b series).number → first ≤ (scoring m b series).place
  place_not_before l = go (outcome m b series)
    where
      number : {r : Score} → scoring m b series ≡ r → r.number ≡ (scoring m b series).number
      number d = sym (ap (λ (r : Score). r.number) d)

      at : (v i : ℕ) → scoring m b series ≡ score_refused v i → RecordsTurn m b series i → first ≤ (scoring m b series).place
      at v i d t = rw (ap (λ (r : Score). r.place) d) (not_before i t.own)

      go : ScoreOutcome m b series (scoring m b series) → first ≤ (scoring m b series).place
      go (bad_line_lem d n) = absurd (omega (arith, number d))
      go (bad_book d w n) = absurd (omega (arith, number d, check_most b))
      go (bad_length d w n) = absurd (omega (arith, number d))
      go (bad_value i d w s t u v) = absurd (omega (arith, number d))
      go (is_contested_lem i d t q) = at 14 i d t
      go (not_open_lem i d t q n) = at 12 i d t
      go (stands_against_lem i j d t q o w a) = at 13 i d t
      go (scored g d ready clear w) = absurd (omega (arith, number d))
