-- A call of every service to a plant of every kind, and what scoring answers, worked out from the paper's sentences, apart from the definitions. Assumes nothing.
use Rattle.std.specs.Prelude.{◌≡◌, Bool, true, ◌&&◌, List, [], ◌∷◌, ℕ, suc, ◌+◌, ◌/◌, ◌%◌, eqb, ℤ, pos, negsuc}
use Rattle.call.specs.declared.Call.{Call}
use Rattle.call.specs.Revising.{live, contested}
use Rattle.call.specs.Services.{deep_peak, reserve, start_stop, standby, black_start, agc_availability, agc_contribution, frequency_event, avc, stability_trip}
use Rattle.pay.specs.declared.Member.{Member}
use Rattle.pay.specs.Kinds.{coal, gas, hydro, wind, photovoltaic, solar_thermal, pumped_storage, new_storage}
use Rattle.score.specs.declared.answer.Score.{Score}
use Rattle.score.specs.Scoring.{score_refused, scoring}
use Rattle.sums.specs.Worked.{whole_month, pays, same_score, row_is_sound, row_score, row_book}

-- a plant; a call to it by service, length, a, b and c, from the month's first midnight on; and the answer
pub data Row : Type 0 where
  Scores : Member → (service minutes : ℕ) → ℤ → (b c : ℕ) → Score → Row

-- a plant is member 2, by kind and rated kW
abbrev pub plant : ℕ → ℕ → Member
plant kind N = record { number = 2; kind = kind; rated = record { 0 = N } }

-- one of each kind
abbrev pub coal_plant : Member
coal_plant = plant coal 300001

abbrev pub gas_plant : Member
gas_plant = plant gas 199999

abbrev pub hydro_plant : Member
hydro_plant = plant hydro 250003

abbrev pub wind_plant : Member
wind_plant = plant wind 100003

abbrev pub photovoltaic_plant : Member
photovoltaic_plant = plant photovoltaic 54321

abbrev pub solar_thermal_plant : Member
solar_thermal_plant = plant solar_thermal 77777

abbrev pub pumped_storage_plant : Member
pumped_storage_plant = plant pumped_storage 1200007

abbrev pub new_storage_plant : Member
new_storage_plant = plant new_storage 12345

-- P in the month's first three quarter hours: for 300,001 kW below half, between half and 70%, above 70%
abbrev pub outputs : List ℕ
outputs = 123459 ∷ 180013 ∷ 230009 ∷ []

abbrev pub called : (service minutes : ℕ) → ℤ → (b c : ℕ) → Call
called service minutes a b c =
    record { participant = 2; service = service; state = live; number = 1; revision = 1; start = 0; length = minutes; a = a; b = b; c = c }

-- record 0 of each row's book: member 1's, and contested, which is nothing to member 2
abbrev pub anothers : Call
anothers = record { participant = 1; service = 0; state = contested; number = 1; revision = 1; start = 0; length = 0; a = pos 0; b = 0; c = 0 }

-- the records of a row's book
abbrev pub row_calls : (service minutes : ℕ) → ℤ → (b c : ℕ) → List Call
row_calls service minutes a b c = anothers ∷ called service minutes a b c ∷ []

-- 12: the service or its fields are not open to the kind; the call is record 1
abbrev pub not_open : Score
not_open = score_refused 12 1

abbrev pub every_service_and_kind : List Row
every_service_and_kind =
    -- 1, deep peak, kind 1: each quarter hour of the window with 10P < 5N: (5N − 10P) × 15 × 3,000
    Scores coal_plant deep_peak 45 (pos 0) 0 0 (pays 11943675000 199061)
    ∷ Scores gas_plant deep_peak 45 (pos 0) 0 0 not_open
    ∷ Scores hydro_plant deep_peak 45 (pos 0) 0 0 not_open
    ∷ Scores wind_plant deep_peak 45 (pos 0) 0 0 not_open
    ∷ Scores photovoltaic_plant deep_peak 45 (pos 0) 0 0 not_open
    ∷ Scores solar_thermal_plant deep_peak 45 (pos 0) 0 0 not_open
    ∷ Scores pumped_storage_plant deep_peak 45 (pos 0) 0 0 not_open
    ∷ Scores new_storage_plant deep_peak 45 (pos 0) 0 0 not_open
    -- 2, reserve, kind 1, a from 1 to N: where 5N < 10P and P < a, (10a − 10P) × 15 × rate: 350 if 10P < 7N, else 70 (request 1);
    -- kinds 2, 3, a = 0: where 10P < 7N, (7N − 10P) × 15 × 10
    ∷ Scores coal_plant reserve 45 (pos 290003) 0 0 (pays 6404412000 106740)
    ∷ Scores gas_plant reserve 45 (pos 0) 0 0 (pays 24810450 414)
    ∷ Scores hydro_plant reserve 45 (pos 0) 0 0 (pays 77314650 1289)
    ∷ Scores wind_plant reserve 45 (pos 0) 0 0 not_open
    ∷ Scores photovoltaic_plant reserve 45 (pos 0) 0 0 not_open
    ∷ Scores solar_thermal_plant reserve 45 (pos 0) 0 0 not_open
    ∷ Scores pumped_storage_plant reserve 45 (pos 0) 0 0 not_open
    ∷ Scores new_storage_plant reserve 45 (pos 0) 0 0 not_open
    -- 3, start-stop, per kW: kind 1 12,000,000 if length ≤ 4,320; kind 2 6,000,000; kind 3 120,000
    ∷ Scores coal_plant start_stop 4320 (pos 0) 0 0 (pays 3600012000000 60000200)
    ∷ Scores gas_plant start_stop 4321 (pos 0) 0 0 (pays 1199994000000 19999900)
    ∷ Scores hydro_plant start_stop 7 (pos 0) 0 0 (pays 30000360000 500006)
    ∷ Scores wind_plant start_stop 600 (pos 0) 0 0 not_open
    ∷ Scores photovoltaic_plant start_stop 600 (pos 0) 0 0 not_open
    ∷ Scores solar_thermal_plant start_stop 600 (pos 0) 0 0 not_open
    ∷ Scores pumped_storage_plant start_stop 600 (pos 0) 0 0 not_open
    ∷ Scores new_storage_plant start_stop 600 (pos 0) 0 0 not_open
    -- 4, standby, kind 1: 600,000 per kW for each whole day, at most 7 per call
    ∷ Scores coal_plant standby 5759 (pos 0) 0 0 (pays 540001800000 9000030)
    ∷ Scores gas_plant standby 1440 (pos 0) 0 0 not_open
    ∷ Scores hydro_plant standby 1440 (pos 0) 0 0 not_open
    ∷ Scores wind_plant standby 1440 (pos 0) 0 0 not_open
    ∷ Scores photovoltaic_plant standby 1440 (pos 0) 0 0 not_open
    ∷ Scores solar_thermal_plant standby 1440 (pos 0) 0 0 not_open
    ∷ Scores pumped_storage_plant standby 1440 (pos 0) 0 0 not_open
    ∷ Scores new_storage_plant standby 1440 (pos 0) 0 0 not_open
    -- 5, black start, per kW: kinds 3, 7 600,000; others 1,200,000; at most 1,800,000,000,000
    ∷ Scores coal_plant black_start 0 (pos 0) 0 0 (pays 360001200000 6000020)
    ∷ Scores gas_plant black_start 0 (pos 0) 0 0 (pays 239998800000 3999980)
    ∷ Scores hydro_plant black_start 0 (pos 0) 0 0 (pays 150001800000 2500030)
    ∷ Scores wind_plant black_start 0 (pos 0) 0 0 (pays 120003600000 2000060)
    ∷ Scores photovoltaic_plant black_start 0 (pos 0) 0 0 (pays 65185200000 1086420)
    ∷ Scores solar_thermal_plant black_start 0 (pos 0) 0 0 (pays 93332400000 1555540)
    ∷ Scores pumped_storage_plant black_start 0 (pos 0) 0 0 (pays 720004200000 12000070)
    ∷ Scores new_storage_plant black_start 0 (pos 0) 0 0 (pays 14814000000 246900)
    -- 6, AGC availability, kinds 1, 2, 3, 6, 7, 8: 6,000 per kW for each hundredth of a percent of b above 98% (request 4)
    ∷ Scores coal_plant agc_availability 0 (pos 0) 10000 0 (pays 360001200000 6000020)
    ∷ Scores gas_plant agc_availability 0 (pos 0) 9999 0 (pays 238798806000 3979980)
    ∷ Scores hydro_plant agc_availability 0 (pos 0) 9900 0 (pays 150001800000 2500030)
    ∷ Scores wind_plant agc_availability 0 (pos 0) 10000 0 not_open
    ∷ Scores photovoltaic_plant agc_availability 0 (pos 0) 10000 0 not_open
    ∷ Scores solar_thermal_plant agc_availability 0 (pos 0) 10000 0 (pays 93332400000 1555540)
    ∷ Scores pumped_storage_plant agc_availability 0 (pos 0) 9950 0 (pays 1080006300000 18000105)
    ∷ Scores new_storage_plant agc_availability 0 (pos 0) 9901 0 (pays 7481070000 124685)
    -- 7, AGC contribution, per kW: kinds 1, 2, 6, 8 180 × b; kinds 3, 7 30 × b; kinds 4, 5 120,000 for each whole percent above 90%
    ∷ Scores coal_plant agc_contribution 0 (pos 0) 9777 0 (pays 527959759860 8799329)
    ∷ Scores gas_plant agc_contribution 0 (pos 0) 10000 0 (pays 359998200000 5999970)
    ∷ Scores hydro_plant agc_contribution 0 (pos 0) 8765 0 (pays 65738288850 1095638)
    ∷ Scores wind_plant agc_contribution 0 (pos 0) 9999 0 (pays 108003240000 1800054)
    ∷ Scores photovoltaic_plant agc_contribution 0 (pos 0) 9100 0 (pays 6518520000 108642)
    ∷ Scores solar_thermal_plant agc_contribution 0 (pos 0) 1 0 (pays 13999860 233)
    ∷ Scores pumped_storage_plant agc_contribution 0 (pos 0) 9999 0 (pays 359966099790 5999435)
    ∷ Scores new_storage_plant agc_contribution 0 (pos 0) 7501 0 (pays 16667972100 277800)
    -- 8, primary frequency, kinds 4, 5: from 80% N × (3,000,000 + 2,400 × (b − 8,000)), from 90% N × 5,400,000;
    -- other kinds: the smaller of a and b, in Wh, times 120,000
    ∷ Scores coal_plant frequency_event 20 (pos 500000) 400001 0 (pays 48000120000 800002)
    ∷ Scores gas_plant frequency_event 0 (pos 399999) 400000 0 (pays 47999880000 799998)
    ∷ Scores hydro_plant frequency_event 3 (pos 123457) 123458 0 (pays 14814840000 246914)
    ∷ Scores wind_plant frequency_event 1 (pos 0) 8999 0 (pays 539776192800 8996270)
    ∷ Scores photovoltaic_plant frequency_event 1 (pos 0) 9001 0 (pays 293333400000 4888890)
    ∷ Scores solar_thermal_plant frequency_event 9 (pos 7) 1000000000 0 (pays 840000 14)
    ∷ Scores pumped_storage_plant frequency_event 5 (pos 654321) 87654 0 (pays 10518480000 175308)
    ∷ Scores new_storage_plant frequency_event 2 (pos 1000000000) 1000000000 0 (pays 120000000000000 2000000000)
    -- 9, AVC: if c ≥ 9,800 and b ≥ 9,900, (b − 9,900) × N × length
    ∷ Scores coal_plant avc 44640 (pos 0) 9999 9800 (pays 1325812419360 22096874)
    ∷ Scores gas_plant avc 1 (pos 0) 10000 10000 (pays 19999900 333)
    ∷ Scores hydro_plant avc 1440 (pos 0) 9901 9999 (pays 360004320 6000)
    ∷ Scores wind_plant avc 4321 (pos 0) 9950 9801 (pays 21605648150 360094)
    ∷ Scores photovoltaic_plant avc 20160 (pos 0) 9977 9876 (pays 84323574720 1405393)
    ∷ Scores solar_thermal_plant avc 43200 (pos 0) 9902 9900 (pays 6719932800 111999)
    ∷ Scores pumped_storage_plant avc 333 (pos 0) 9911 9850 (pays 4395625641 73260)
    ∷ Scores new_storage_plant avc 77 (pos 0) 9999 10000 (pays 94105935 1568)
    -- 10, stability trip: 2,400,000 per kW
    ∷ Scores coal_plant stability_trip 0 (pos 0) 0 0 (pays 720002400000 12000040)
    ∷ Scores gas_plant stability_trip 0 (pos 0) 0 0 (pays 479997600000 7999960)
    ∷ Scores hydro_plant stability_trip 0 (pos 0) 0 0 (pays 600007200000 10000120)
    ∷ Scores wind_plant stability_trip 0 (pos 0) 0 0 (pays 240007200000 4000120)
    ∷ Scores photovoltaic_plant stability_trip 0 (pos 0) 0 0 (pays 130370400000 2172840)
    ∷ Scores solar_thermal_plant stability_trip 0 (pos 0) 0 0 (pays 186664800000 3111080)
    ∷ Scores pumped_storage_plant stability_trip 0 (pos 0) 0 0 (pays 2880016800000 48000280)
    ∷ Scores new_storage_plant stability_trip 0 (pos 0) 0 0 (pays 29628000000 493800)
    ∷ []

-- both sides of each limit; what the paper leaves out pays nothing, or is not open
abbrev pub both_sides : List Row
both_sides =
    -- 1: output exactly at half of N, and below it
    Scores (plant coal 246918) deep_peak 15 (pos 0) 0 0 (pays 0 0)
    ∷ Scores (plant coal 246919) deep_peak 15 (pos 0) 0 0 (pays 225000 4)
    -- 2, kind 1: output exactly at half of N, and above it
    ∷ Scores (plant coal 246918) reserve 15 (pos 200000) 0 0 (pays 0 0)
    ∷ Scores (plant coal 246917) reserve 15 (pos 200000) 0 0 (pays 4018402500 66973)
    -- 2, kind 1: output below 70% of N, exactly there, and above it
    ∷ Scores (plant coal 176371) reserve 15 (pos 150000) 0 0 (pays 1393402500 23223)
    ∷ Scores (plant coal 176370) reserve 15 (pos 150000) 0 0 (pays 278680500 4645)
    ∷ Scores (plant coal 176369) reserve 15 (pos 150000) 0 0 (pays 278680500 4645)
    -- 2, kind 1: output exactly at 70% of N and at the called power, and below that
    ∷ Scores (plant coal 176370) reserve 15 (pos 123459) 0 0 (pays 0 0)
    ∷ Scores (plant coal 176370) reserve 15 (pos 123460) 0 0 (pays 10500 0)
    -- 2, kind 1: output at the called power, and below it
    ∷ Scores (plant coal 170001) reserve 15 (pos 123459) 0 0 (pays 0 0)
    ∷ Scores (plant coal 170001) reserve 15 (pos 123460) 0 0 (pays 10500 0)
    -- 2, kind 1: a from 1 to N
    ∷ Scores (plant coal 170001) reserve 15 (pos 0) 0 0 not_open
    ∷ Scores (plant coal 170001) reserve 15 (pos 1) 0 0 (pays 0 0)
    ∷ Scores (plant coal 170001) reserve 15 (pos 170001) 0 0 (pays 488691000 8145)
    ∷ Scores (plant coal 170001) reserve 15 (pos 170002) 0 0 not_open
    -- 2, kinds 2, 3: output exactly at 70% of N, and below it; a = 0
    ∷ Scores (plant gas 176370) reserve 15 (pos 0) 0 0 (pays 0 0)
    ∷ Scores (plant gas 176371) reserve 15 (pos 0) 0 0 (pays 1050 0)
    ∷ Scores (plant gas 176371) reserve 15 (pos 1) 0 0 not_open
    ∷ Scores (plant hydro 176371) reserve 15 (pos 1) 0 0 not_open
    -- 3, kind 1: 72 hours, and a minute more
    ∷ Scores (plant coal 300001) start_stop 4320 (pos 0) 0 0 (pays 3600012000000 60000200)
    ∷ Scores (plant coal 300001) start_stop 4321 (pos 0) 0 0 (pays 0 0)
    -- 4: no whole day, one, seven, eight
    ∷ Scores (plant coal 300001) standby 1439 (pos 0) 0 0 (pays 0 0)
    ∷ Scores (plant coal 300001) standby 1440 (pos 0) 0 0 (pays 180000600000 3000010)
    ∷ Scores (plant coal 300001) standby 10080 (pos 0) 0 0 (pays 1260004200000 21000070)
    ∷ Scores (plant coal 300001) standby 11520 (pos 0) 0 0 (pays 1260004200000 21000070)
    -- 5: below its most, and above it
    ∷ Scores (plant coal 1499999) black_start 0 (pos 0) 0 0 (pays 1799998800000 29999980)
    ∷ Scores (plant coal 1500001) black_start 0 (pos 0) 0 0 (pays 1800000000000 30000000)
    ∷ Scores (plant pumped_storage 2999999) black_start 0 (pos 0) 0 0 (pays 1799999400000 29999990)
    ∷ Scores (plant pumped_storage 3000001) black_start 0 (pos 0) 0 0 (pays 1800000000000 30000000)
    -- 6: no hundredth of a percent above 98%, one; on both sides of a whole percent, and of two
    ∷ Scores (plant new_storage 12345) agc_availability 0 (pos 0) 9799 0 (pays 0 0)
    ∷ Scores (plant new_storage 12345) agc_availability 0 (pos 0) 9800 0 (pays 0 0)
    ∷ Scores (plant new_storage 12345) agc_availability 0 (pos 0) 9801 0 (pays 74070000 1235)
    ∷ Scores (plant new_storage 12345) agc_availability 0 (pos 0) 9899 0 (pays 7332930000 122216)
    ∷ Scores (plant new_storage 12345) agc_availability 0 (pos 0) 9900 0 (pays 7407000000 123450)
    ∷ Scores (plant new_storage 12345) agc_availability 0 (pos 0) 9999 0 (pays 14739930000 245666)
    ∷ Scores (plant new_storage 12345) agc_availability 0 (pos 0) 10000 0 (pays 14814000000 246900)
    -- 7, kinds 4, 5: no whole percent above 90%, one; a part of a percent more is still one (request 4 leaves them)
    ∷ Scores (plant wind 100003) agc_contribution 0 (pos 0) 8999 0 (pays 0 0)
    ∷ Scores (plant wind 100003) agc_contribution 0 (pos 0) 9099 0 (pays 0 0)
    ∷ Scores (plant photovoltaic 54321) agc_contribution 0 (pos 0) 9100 0 (pays 6518520000 108642)
    ∷ Scores (plant photovoltaic 54321) agc_contribution 0 (pos 0) 9199 0 (pays 6518520000 108642)
    -- 8, kinds 4, 5: 80%, 90%, c = 1; a = 0 and b at most 10,000
    ∷ Scores (plant wind 100003) frequency_event 0 (pos 0) 7999 0 (pays 0 0)
    ∷ Scores (plant wind 100003) frequency_event 0 (pos 0) 8000 0 (pays 300009000000 5000150)
    ∷ Scores (plant wind 100003) frequency_event 0 (pos 0) 8001 0 (pays 300249007200 5004150)
    ∷ Scores (plant photovoltaic 54321) frequency_event 0 (pos 0) 8999 0 (pays 293203029600 4886717)
    ∷ Scores (plant photovoltaic 54321) frequency_event 0 (pos 0) 9000 0 (pays 293333400000 4888890)
    ∷ Scores (plant photovoltaic 54321) frequency_event 0 (pos 0) 9000 1 (pays 0 0)
    ∷ Scores (plant wind 100003) frequency_event 0 (pos 0) 10000 0 (pays 540016200000 9000270)
    ∷ Scores (plant wind 100003) frequency_event 0 (pos 0) 10001 0 not_open
    ∷ Scores (plant wind 100003) frequency_event 0 (pos 1) 9000 0 not_open
    ∷ Scores (plant photovoltaic 54321) frequency_event 0 (negsuc 0) 9000 0 not_open
    -- 8, other kinds: a below b, above b, below zero; c = 1
    ∷ Scores (plant new_storage 12345) frequency_event 0 (pos 400) 401 0 (pays 48000000 800)
    ∷ Scores (plant new_storage 12345) frequency_event 0 (pos 402) 401 0 (pays 48120000 802)
    ∷ Scores (plant new_storage 12345) frequency_event 0 (negsuc 0) 401 0 (pays 0 0)
    ∷ Scores (plant new_storage 12345) frequency_event 0 (pos 400) 401 1 (pays 0 0)
    -- 9: c at 98% and below it, b at 99% and on both sides
    ∷ Scores (plant gas 199999) avc 1000 (pos 0) 10000 9799 (pays 0 0)
    ∷ Scores (plant gas 199999) avc 1000 (pos 0) 10000 9800 (pays 19999900000 333332)
    ∷ Scores (plant gas 199999) avc 1000 (pos 0) 9899 9800 (pays 0 0)
    ∷ Scores (plant gas 199999) avc 1000 (pos 0) 9900 9800 (pays 0 0)
    ∷ Scores (plant gas 199999) avc 1000 (pos 0) 9901 9800 (pays 199999000 3333)
    -- fen: 29,999 grains are none, 30,000 one, 89,999 one, 90,000 two
    ∷ Scores (plant solar_thermal 29999) avc 1 (pos 0) 9901 9800 (pays 29999 0)
    ∷ Scores (plant solar_thermal 30000) avc 1 (pos 0) 9901 9800 (pays 30000 1)
    ∷ Scores (plant solar_thermal 89999) avc 1 (pos 0) 9901 9800 (pays 89999 1)
    ∷ Scores (plant solar_thermal 90000) avc 1 (pos 0) 9901 9800 (pays 90000 2)
    ∷ []

-- the row is sound, and the answer is the one said
unfoldable pub answers : Member → List Call → Score → Bool
answers m calls r = row_is_sound m outputs calls && same_score (row_score m outputs calls) r

unfoldable pub all_answer : List Row → Bool
all_answer [] = true
all_answer (Scores m service minutes a b c r ∷ rows) = answers m (row_calls service minutes a b c) r && all_answer rows

-- the rows from row i on are in the order of services and, in each, of kinds: row i is of service i / 8 + 1 and of kind i % 8 + 1
unfoldable pub in_order : ℕ → List Row → Bool
in_order i [] = true
in_order i (Scores m service minutes a b c r ∷ rows) = eqb service (i / 8 + 1) && eqb m.kind (i % 8 + 1) && in_order (suc i) rows

-- each answer is what scoring gives of the bytes of a book with the row's calls, and of the whole month's series
abbrev pub AnswersOverBytes : List Row → Type 0
AnswersOverBytes [] = Unit {0}
AnswersOverBytes (Scores m service minutes a b c r ∷ rows) = (scoring m (row_book (row_calls service minutes a b c)) (whole_month outputs) ≡ r) × AnswersOverBytes rows
