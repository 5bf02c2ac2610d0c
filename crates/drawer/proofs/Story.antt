-- The drawer of the story: the plant's book, head office's and the spare terminal's; and a member with three faults, all of them told. Assumes nothing.
use mathlib.Core.Path.{◌≡◌, refl, sym, ◌∙◌, ap, subst}
use mathlib.Core.Bool.{true, false}
use mathlib.Core.List.Memᴰ.{head as here}
use mathlib.Core.List.{List, [], ◌∷◌, Memᴰ as In}
use Prim.Native.Nat.{ℕ, ◌<◌, ◌≤◌}
use native.Mathlib.Omega.{arith}
use lib.Dec.{lit<, lit≤}
use lib.IntN.{pos}
use lib.ListN.{length}
use Rattle.le.specs.Le.{le_at, le_bytes}
use Rattle.units.specs.Month.{is_leap, days_of, minutes_of, quarters_of}
use Rattle.call.specs.declared.Call.{Call}
use Rattle.call.specs.Limits.{table, limits_of, limits_allow, call_is_sound}
use Rattle.call.specs.Revising.{live, contested}
use Rattle.call.specs.Services.{reserve, start_stop}
use Rattle.call.specs.Service.{CallWithin}
use Rattle.call.specs.Layout.{call_at, key_bytes, time_bytes, term_bytes, call_bytes}
use Rattle.call.proofs.Exact.{sound_within}
use Rattle.book.specs.declared.Header.{Header}
use Rattle.book.specs.Book.{first_version, most_records, header_at, count_at, record_at, calls_from, calls_of, mark_bytes, date_bytes, count_bytes, head_bytes, record_bytes, book_bytes}
use Rattle.book.specs.Check.{header_minutes}
use Rattle.book.specs.Sound.{Heading, CallsWithin, Sound}
use Rattle.book.proofs.Heads.{first_known, first_fits}
use Rattle.book.proofs.Exact.{sound_accepted, reads_back}
use Rattle.book.proofs.Records.{length_calls}
use Rattle.rule.specs.Standing.{same_call, decide, given, standing}
use Rattle.rule.specs.Keys.{record_of, also, put, put_all, different_keys, records_at}
use Rattle.rule.specs.Whole.{records_of, those, all, highest, withdrawn_at, ruling, rule_for, rule_over, rule_calls}
use Rattle.join.specs.Joining.{key_count}
use Rattle.join.specs.Trees.{book as leaf, books, written, result, Covers}
use Rattle.join.proofs.Story.{march, stop, entered, early, withdrawal, entered_within, early_within, withdrawal_within, one, one_reads, plant, head_office, spare, three}
use Rattle.join.proofs.Trees.{keys_of}
use Rattle.join.proofs.OneVersion.{stays_first_lem}
use Rattle.join.proofs.Story.{one_month, each_first, few_in_first, three_first, left, left_room, left_covers, few}
use Rattle.std.specs.Prelude.{Some}
use Rattle.lookup.specs.Lookup.{index_from, index_of}
use Rattle.pay.specs.declared.Member.{Member}
use Rattle.pay.specs.Kinds.{coal}
use Rattle.pay.specs.Member.{member_is_sound}
use Rattle.pay.specs.Open.{reserve_open, open_to}
use Rattle.pay.proofs.Within.{line_of}
use Rattle.score.specs.First.{first_nonzero, any_below}
use Rattle.score.specs.Refusing.{overlaps, is_once, clashes, clash_at, number_of, refusal_at}
use Rattle.score.specs.declared.answer.Score.{Score}
use Rattle.score.specs.Scoring.{score_refused, scoring}
use Rattle.score.specs.Outcomes.{ValuesWithin}
use Rattle.drawer.specs.declared.stale.Why.TheVariants.{Withdrawn}
use Rattle.drawer.specs.Told.{told_from}
use Rattle.drawer.specs.Stale.{is_this, is_stale, why_not, why_of, is_stale_at, stale_at, stale_of, EachStands}
use Rattle.drawer.specs.Refused.{against_at, first_against, is_refused_at, refused_at, refused_of, NoneListed}
use Rattle.drawer.specs.Nothing.{stands_against, is_covered, is_spare, or_stays, staying}
use Rattle.drawer.proofs.Agreeing.{joined_calls, nothing_listed}
use Rattle.drawer.proofs.Scored.{first_is_score, accepted_exactly}
use Rattle.drawer.proofs.Staying.{stays_in, bytes_same}

-- The three books, joined: the stop is withdrawn

abbrev pub joined : List ℕ
joined = written (result left)

rule_of_three : (x y z : List Call) → x ≡ entered ∷ [] → y ≡ withdrawal ∷ [] → z ≡ early ∷ [] → rule_calls (x ∷ y ∷ z ∷ []) ≡ withdrawal ∷ []
unfolding rule_calls rule_over rule_for ruling records_of record_of records_at also those highest withdrawn_at different_keys put_all put entered withdrawal early stop
rule_of_three x y z e f h = rw (e, f, h) refl

joined_stop : calls_of joined ≡ withdrawal ∷ []
unfolding three plant head_office spare
joined_stop =
    joined_calls march three one_month left left_covers left_room few
    ∙ rule_of_three _ _ _ (one_reads entered entered_within).1 (one_reads withdrawal withdrawal_within).1 (one_reads early early_within).1

-- a book of one call, read at its index
module _ (c : Call) (w : CallWithin (header_minutes march) c) where
  count_one : count_at (one c) ≡ 1
  unfolding calls_of
  count_one = sym (length_calls (one c) (count_at (one c)) 0) ∙ ap length (one_reads c w).1

  at_one : record_at (one c) 0 ≡ c
  unfolding calls_of calls_from
  at_one = go (rw count_one at (one_reads c w).1)
    where
      go : record_at (one c) 0 ∷ [] ≡ c ∷ [] → record_at (one c) 0 ≡ c
      go e = cc

-- Of the plant's book its entry is listed, as the call is withdrawn; of the spare terminal's the early one; of head office's nothing.
pub plant_told : stale_of plant joined 0 ≡ record { place = 0; stands = Some 0; why = Withdrawn } ∷ []
unfolding stale_of told_from is_stale_at is_stale is_this stale_at why_of why_not index_of index_from record_of same_call plant entered withdrawal stop
plant_told = rw (count_one entered entered_within, at_one entered entered_within, joined_stop) refl

pub spare_told : stale_of spare joined 0 ≡ record { place = 0; stands = Some 0; why = Withdrawn } ∷ []
unfolding stale_of told_from is_stale_at is_stale is_this stale_at why_of why_not index_of index_from record_of same_call spare early withdrawal stop
spare_told = rw (count_one early early_within, at_one early early_within, joined_stop) refl

pub office_told : stale_of head_office joined 0 ≡ []
unfolding stale_of told_from is_stale_at is_stale is_this stale_at record_of same_call head_office withdrawal stop
office_told = rw (count_one withdrawal withdrawal_within, at_one withdrawal withdrawal_within, joined_stop) refl

-- So the three do not agree with what stands: nothing would be listed where they did.
pub three_disagree : EachStands three → ⊥
unfolding three
three_disagree s =
    let none = (nothing_listed march three one_month left left_covers left_room few).1 s plant (here refl) in
    let told = plant_told in
    let z : ◌≡◌ {A = ℕ} 0 1 = cc in
    omega arith

-- Of the three books head office's alone stays: the spare terminal's adds nothing, nor does then the plant's

spare_listed : is_spare (plant ∷ head_office ∷ []) spare ≡ true
unfolding
    is_spare all is_covered stands_against standing decide given same_call plant head_office spare entered withdrawal early stop
    rule_calls rule_over rule_for ruling records_of record_of records_at also those highest withdrawn_at different_keys put_all put
spare_listed = rw ((one_reads entered entered_within).1, (one_reads withdrawal withdrawal_within).1, (one_reads early early_within).1) refl

office_unlisted : is_spare (plant ∷ []) head_office ≡ false
unfolding
    is_spare all is_covered stands_against standing decide given same_call plant head_office entered withdrawal stop
    rule_calls rule_over rule_for ruling records_of record_of records_at also those highest withdrawn_at different_keys put_all put
office_unlisted = rw ((one_reads entered entered_within).1, (one_reads withdrawal withdrawal_within).1) refl

plant_listed : is_spare (head_office ∷ []) plant ≡ true
unfolding
    is_spare all is_covered stands_against standing decide given same_call plant head_office entered withdrawal stop
    rule_calls rule_over rule_for ruling records_of record_of records_at also those highest withdrawn_at different_keys put_all put
plant_listed = rw ((one_reads entered entered_within).1, (one_reads withdrawal withdrawal_within).1) refl

pub office_stays : staying [] three ≡ head_office ∷ []
unfolding staying or_stays three
office_stays = rw (spare_listed, office_unlisted, plant_listed) refl

-- it by itself is the book of all three, byte for byte: all are of the first version
pub office_alone : written (result (leaf head_office)) ≡ written (result left)
unfolding books
office_alone =
    let l : key_count (staying [] three) ≤ most_records first_version = omega (arith, keys_of (staying [] three) three (λ b i. stays_in march [] three b i), few_in_first) in
    (bytes_same march three one_month few left (leaf head_office) left_covers covers left_room tt).1
    (stays_first_lem (staying [] three) (λ b i. each_first b (stays_in march [] three b i)) l ∙ sym three_first)
  where
    covers : Covers (leaf head_office) (staying [] three)
    covers =
        record {
          all = λ b i. subst (λ (l : List (List ℕ)). In b l) office_stays i;
          only = λ b i. subst (λ (l : List (List ℕ)). In b l) (sym office_stays) i;
        }

-- A member with three faults

-- area 5, February 2026
february : Header
february = record { area = 5; year = 2026; month = 2 }

call : ℕ → ℕ → ℕ → ℕ → ℕ → ℕ → ℕ → Call
call participant service state number start length a =
    record { participant = participant; service = service; state = state; number = number; revision = 1; start = start; length = length; a = pos a; b = 0; c = 0 }

-- of member 7 an hour of reserve without a called power, another that overlaps it, and a contested call
calls : List Call
calls =
    call 3 start_stop live 5 600 60 0
    ∷ call 7 reserve live 1000 600 60 0
    ∷ call 7 reserve live 1001 630 60 1000
    ∷ call 7 0 contested 1002 0 0 0
    ∷ []

pub book : List ℕ
book = book_bytes first_version february calls

-- member 7, coal of 300,000 kW
pub seven : Member
seven = record { number = 7; kind = coal; rated = record { 0 = 300000 } }

-- all three are told; what the second stands against is the first, though that one is refused itself
pub three_told : refused_of seven book 0
    ≡ record { place = 1; number = 12; against = 1 } ∷ record { place = 2; number = 13; against = 1 } ∷ record { place = 3; number = 14; against = 3 } ∷ []
unfolding
    book calls call february seven refused_of told_from is_refused_at refused_at first_against against_at first_nonzero refusal_at number_of clash_at clashes overlaps is_once any_below open_to
    reserve_open
    header_at count_at record_at call_at call_bytes key_bytes time_bytes term_bytes le_at le_bytes book_bytes head_bytes mark_bytes date_bytes count_bytes record_bytes
three_told = refl

abbrev sound : Call → Type 0
sound x = call_is_sound (header_minutes february) x ≡ true

is_within : (x : Call) → x.number < 4294967296 → x.revision < 4294967296 → sound x → CallWithin (header_minutes february) x
is_within x = sound_within (header_minutes february) x

within : CallsWithin (header_minutes february) calls
unfolding calls call february header_minutes minutes_of days_of is_leap call_is_sound limits_allow limits_of table
within = (
  is_within _ (lit< tt) (lit< tt) refl,
  (is_within _ (lit< tt) (lit< tt) refl, (is_within _ (lit< tt) (lit< tt) refl, (is_within _ (lit< tt) (lit< tt) refl, tt))),
)

heads : Heading february
unfolding february
heads = record { area = (lit≤ tt, lit≤ tt); year = (lit≤ tt, lit≤ tt); month = (lit≤ tt, lit≤ tt) }

is_sound_lem : Sound book
unfolding book calls call
is_sound_lem =
    record {
      version = first_version;
      header = february;
      calls = calls;
      known = first_known;
      heading = heads;
      few = first_fits _ (lit≤ tt);
      within = within;
      rising = (lit≤ tt, (lit≤ tt, (lit≤ tt, (lit≤ tt, tt))));
      bytes = refl;
    }

quarters : quarters_of (header_at book).year (header_at book).month ≡ 2688
unfolding book calls february quarters_of days_of is_leap
quarters = ap (λ (h : Header). quarters_of h.year h.month) (reads_back first_version february calls first_known heads (first_fits _ (lit≤ tt)) within).0

-- and the first of them is the score's refusal, whatever the outputs are
pub seven_refused : (series : List ℕ) → length series ≡ 2688 → ValuesWithin series 2688 → scoring seven book series ≡ score_refused 12 1
unfolding seven member_is_sound
seven_refused series long values =
    first_is_score seven book series
    (record {
      front = record { line = line_of seven refl; book = sound_accepted book is_sound_lem };
      spans = long ∙ sym quarters;
      within = λ j l. values j (omega (arith, l, long));
    })
    _ _ three_told

-- so that of this member not none of 11 to 14 is listed
pub seven_listed : (series : List ℕ) → length series ≡ 2688 → ValuesWithin series 2688 → NoneListed seven book series → ⊥
unfolding seven member_is_sound
seven_listed series long values none =
    let line = line_of seven refl in
    let number = (accepted_exactly seven book series (record { line = line; book = sound_accepted book is_sound_lem })).1 none in
    omega (arith, number, ap (λ (r : Score). r.number) (seven_refused series long values))
