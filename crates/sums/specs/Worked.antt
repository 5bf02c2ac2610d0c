-- The sums that the paper works through and marks, as one table. Assumes nothing.
use Rattle.std.specs.Prelude.{◌≡◌, Bool, true, false, ◌&&◌, List, [], ◌∷◌, ◌++◌, ℕ, suc, ◌-◌, eqb, ltb, leb, ℤ, pos, negsuc, get_or, length, replicate}
use Rattle.units.specs.Month.{minutes_of, quarters_of}
use Rattle.call.specs.declared.Call.{Call}
use Rattle.call.specs.Key.{call_key}
use Rattle.call.specs.Limits.{call_is_sound}
use Rattle.call.specs.Revising.{live, call_withdrawn, call_contested}
use Rattle.call.specs.Services.{deep_peak, reserve, start_stop, black_start, frequency_event}
use Rattle.book.specs.Book.{first_version, most_records, book_bytes}
use Rattle.pay.specs.declared.Member.{Member}
use Rattle.pay.specs.declared.open.Month.{Month}
use Rattle.pay.specs.Member.{member_is_sound}
use Rattle.score.specs.declared.answer.Score.{Score}
use Rattle.score.specs.Series.{most_output}
use Rattle.score.specs.Scoring.{records_earned, in_fen, scoring}
use Rattle.rule.specs.Standing.{same_call}
use Rattle.rule.specs.Joined.{join_calls}
use Rattle.rule.specs.Whole.{rule_calls}
use Rattle.sums.specs.Crowded.{january}

-- a member, its mean output in the month's first quarter hour, its calls, and the grains and fen that they give;
-- or books to be joined, and the records of the book that they give
pub data Sum : Type 0 where
  Scoring : Member → ℕ → List Call → (grains fen : ℕ) → Sum
  Joining : List (List Call) → List Call → Sum

-- the month of the sums
abbrev pub sums_month : Month
sums_month = record { year = 2026; month = 1 }

-- its series: these outputs first, and none in the quarter hours after them
unfoldable pub whole_month : List ℕ → List ℕ
whole_month outputs = outputs ++ replicate (quarters_of sums_month.year sums_month.month - length outputs) 0

-- a row's member is member 1, by kind and rated kW
abbrev pub row_member : ℕ → ℕ → Member
row_member kind N = record { number = 1; kind = kind; rated = record { 0 = N } }

abbrev pub row_coal : ℕ → Member
row_coal N = row_member 1 N

abbrev pub row_hydro : ℕ → Member
row_hydro N = row_member 3 N

abbrev pub row_wind : ℕ → Member
row_wind N = row_member 4 N

-- a row's call: live, of member 1, from the month's first midnight on
abbrev pub row_call : (number revision service minutes : ℕ) → ℤ → ℕ → Call
row_call number revision service minutes a b =
    record {
      participant = 1;
      service = service;
      state = live;
      number = number;
      revision = revision;
      start = 0;
      length = minutes;
      a = a;
      b = b;
      c = 0;
    }

-- a row's call, by its service
abbrev pub row_deep_peak : Call
row_deep_peak = row_call 1 1 deep_peak 15 (pos 0) 0

abbrev pub row_reserve : ℕ → Call
row_reserve a = row_call 1 1 reserve 15 (pos a) 0

abbrev pub row_start_stop : ℕ → Call
row_start_stop minutes = row_call 1 1 start_stop minutes (pos 0) 0

abbrev pub row_black_start : Call
row_black_start = row_call 1 1 black_start 0 (pos 0) 0

abbrev pub row_event : ℕ → ℤ → ℕ → Call
row_event number a b = row_call number 1 frequency_event 0 a b

-- one key at a revision: live as a start-stop of so many minutes, contested, withdrawn
abbrev pub row_live_at : (revision minutes : ℕ) → Call
row_live_at revision minutes = row_call 9 revision start_stop minutes (pos 0) 0

abbrev pub row_contested_at : ℕ → Call
row_contested_at revision = call_contested (row_live_at revision 0)

abbrev pub row_withdrawn_at : ℕ → Call
row_withdrawn_at revision = call_withdrawn (row_live_at revision 0)

-- a book of one record
abbrev pub alone : Call → List Call
alone x = x ∷ []

abbrev pub sums : List Sum
sums =
    -- coal, N 300,001, P 150,000 in one quarter hour of service 1: 225,000 grains, 4 fen
    Scoring (row_coal 300001) 150000 (alone row_deep_peak) 225000 4
    -- coal, N = a = 300,000: P 209,999 gives 4,725,052,500, 210,000 gives 945,000,000 (request 1), 210,001 gives 944,989,500
    ∷ Scoring (row_coal 300000) 209999 (alone (row_reserve 300000)) 4725052500 78751
    ∷ Scoring (row_coal 300000) 210000 (alone (row_reserve 300000)) 945000000 15750
    ∷ Scoring (row_coal 300000) 210001 (alone (row_reserve 300000)) 944989500 15750
    -- coal 300,000, start-stop 4,320 minutes: 3,600,000,000,000 grains; 4,321: 0
    ∷ Scoring (row_coal 300000) 0 (alone (row_start_stop 4320)) 3600000000000 60000000
    ∷ Scoring (row_coal 300000) 0 (alone (row_start_stop 4321)) 0 0
    -- hydro 3,000,000 and 3,000,001, black start: both 1,800,000,000,000
    ∷ Scoring (row_hydro 3000000) 0 (alone row_black_start) 1800000000000 30000000
    ∷ Scoring (row_hydro 3000001) 0 (alone row_black_start) 1800000000000 30000000
    -- wind 100,000: b 7,999 gives 0, 8,000 gives 300,000,000,000, 9,000 gives 540,000,000,000
    ∷ Scoring (row_wind 100000) 0 (alone (row_event 1 (pos 0) 7999)) 0 0
    ∷ Scoring (row_wind 100000) 0 (alone (row_event 1 (pos 0) 8000)) 300000000000 5000000
    ∷ Scoring (row_wind 100000) 0 (alone (row_event 1 (pos 0) 9000)) 540000000000 9000000
    -- events a −500, b 400 and a 300, b 400: 0; a 500, b 400 alone: 48,000,000
    ∷ Scoring (row_coal 100000) 0 (row_event 1 (negsuc 499) 400 ∷ row_event 2 (pos 300) 400 ∷ []) 0 0
    ∷ Scoring (row_coal 100000) 0 (alone (row_event 1 (pos 500) 400)) 48000000 800
    -- one key: withdrawn at 2 and live at 7 give withdrawn at 2
    ∷ Joining (alone (row_withdrawn_at 2) ∷ alone (row_live_at 7 300) ∷ []) (alone (row_withdrawn_at 2))
    -- two unequal live at 3 give contested at 3
    ∷ Joining (alone (row_live_at 3 300) ∷ alone (row_live_at 3 240) ∷ []) (alone (row_contested_at 3))
    -- those two and a live at 4 give the live at 4
    ∷ Joining (alone (row_live_at 3 300) ∷ alone (row_live_at 3 240) ∷ alone (row_live_at 4 180) ∷ []) (alone (row_live_at 4 180))
    ∷ []

-- accepted, with these grains and fen
abbrev pub pays : ℕ → ℕ → Score
pays grains fen = record { number = 0; place = 0; grains = record { 0 = grains }; fen = record { 0 = fen } }

unfoldable pub same_score : Score → Score → Bool
same_score r s = eqb r.number s.number && eqb r.place s.place && eqb r.grains.0 s.grains.0 && eqb r.fen.0 s.fen.0

-- the same calls, in the same order
unfoldable pub same_calls : List Call → List Call → Bool
same_calls [] [] = true
same_calls [] (y ∷ ys) = false
same_calls (x ∷ xs) [] = false
same_calls (x ∷ xs) (y ∷ ys) = same_call x y && same_calls xs ys

-- record i of a book
unfoldable pub row_call_at : List Call → ℕ → Call
row_call_at calls i = get_or calls i (row_call 0 0 0 0 (pos 0) 0)

-- books joined one after the other, as a join of two is made
unfoldable pub join_in_turn : List Call → List (List Call) → List Call
join_in_turn done [] = done
join_in_turn done (b ∷ bs) = join_in_turn (join_calls done b) bs

-- outputs within the limit
unfoldable pub outputs_are_sound : List ℕ → Bool
outputs_are_sound [] = true
outputs_are_sound (p ∷ ps) = leb p most_output && outputs_are_sound ps

-- calls that a book of the month may have: sound, numbers of 32 bits, keys rising, the first being `low` or above
unfoldable pub calls_are_sound : ℕ → List Call → Bool
calls_are_sound low [] = true
calls_are_sound low (x ∷ xs) =
    leb low (call_key x)
    && ltb x.number 4294967296
    && ltb x.revision 4294967296
    && call_is_sound (minutes_of sums_month.year sums_month.month) x
    && calls_are_sound (suc (call_key x)) xs

-- a row's register line, outputs and calls are within the paper's limits
unfoldable pub row_is_sound : Member → List ℕ → List Call → Bool
row_is_sound m outputs calls =
    member_is_sound m
    && leb (length outputs) (quarters_of sums_month.year sums_month.month)
    && outputs_are_sound outputs
    && leb (length calls) (most_records first_version)
    && calls_are_sound 0 calls

-- the member's score by the records in turn
unfoldable pub row_score : Member → List ℕ → List Call → Score
row_score m outputs calls = in_fen (records_earned sums_month m (whole_month outputs) (row_call_at calls) (length calls))

-- the row is sound, and the member's score is as said; books joined by the rule over the whole list, and in turn, give the calls said
unfoldable pub holds : Sum → Bool
holds (Scoring m output calls grains fen) = row_is_sound m (output ∷ []) calls && same_score (row_score m (output ∷ []) calls) (pays grains fen)
holds (Joining books calls) = same_calls (rule_calls books) calls && same_calls (join_in_turn [] books) calls

unfoldable pub every : List Sum → Bool
every [] = true
every (x ∷ xs) = holds x && every xs

-- the book of the month with a row's calls
unfoldable pub row_book : List Call → List ℕ
row_book calls = book_bytes first_version january calls

-- each sum of a member is what scoring gives of that book's bytes and the whole month's series
abbrev pub OverBytes : List Sum → Type 0
OverBytes [] = Unit {0}
OverBytes (Scoring m output calls grains fen ∷ xs) = (scoring m (row_book calls) (whole_month (output ∷ [])) ≡ pays grains fen) × OverBytes xs
OverBytes (Joining books calls ∷ xs) = OverBytes xs
