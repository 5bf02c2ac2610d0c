-- The clerk's way, worked: the reserve window revised and its other part entered, in both orders and with either part keeping the number, and the desk's own cut. Assumes nothing.
use mathlib.Core.Path.{◌≡◌, refl, sym, ◌∙◌, ap}
use mathlib.Core.Logic.{inl, inr}
use mathlib.Core.List.Memᴰ.{head as here}
use mathlib.Core.List.{List, [], ◌∷◌, replicate}
use Prim.Native.Nat.{ℕ, suc, ◌<◌}
use native.Mathlib.Omega.{arith}
use lib.Dec.{lit<, lit≤}
use lib.ListN.{length, length-replicate}
use Rattle.units.specs.Month.{is_leap, days_of, minutes_of}
use Rattle.call.specs.declared.Call.{Call}
use Rattle.call.specs.Limits.{table, limits_of, limits_allow, call_is_sound}
use Rattle.book.specs.Book.{first_version, second_version, most_records, version_at, count_at}
use Rattle.book.specs.Check.{header_minutes}
use Rattle.book.specs.Sound.{Known, Sound}
use Rattle.book.specs.Cut.{Cut}
use Rattle.book.proofs.Writing.{Numbered}
use Rattle.book.proofs.Exact.{sound_version, sound_reads}
use Rattle.book.proofs.Cutting.{count_of_calls, cut_count, cut_one}
use Rattle.book.proofs.Samples.{march, good_from, Sample, sample, sample_count, is_new, new_in, window}
use Rattle.book.proofs.CutStory.{windows}
use Rattle.score.specs.Scoring.{scoring}
use Rattle.std.specs.Prelude.{Ok, Err}
use Rattle.cutting.specs.declared.NotCut.TheVariants.{NotInside, InUse}
use Rattle.cutting.specs.Parts.{first_part_of, second_part_of, MayCut}
use Rattle.cutting.specs.Cutting.{Cut as CutIs, cutting}
use Rattle.cutting.specs.Outcomes.{Has, LiveWindow, CutOutcome, is_not_inside, is_in_use, is_cut}
use Rattle.score.proofs.CutStory.{outputs, plant, scores, rising, called, whole, before, above, second_kept, before_scored, still_scores}
use Rattle.join.proofs.Cutting.{Room, both_joined, forward, backward, KeptHigher, cut_entered, cut_accepted}
use Rattle.cutting.proofs.Desk.{desk_cuts}
use Rattle.cutting.proofs.Exact.{cut_exact, CutInTurn, found_cuts}

-- a page for a book of one, and an output for a book of two
unfoldable pub page : List ℕ
page = replicate 48 0

unfoldable pub output : List ℕ
output = replicate 80 0

pub room : Room before.book page output page output
unfolding page output
room =
    let one = sample_count (whole ∷ []) before in
    record { page_long = lit≤ tt; page_long' = lit≤ tt; free = omega arith; out_long = rw one (lit≤ tt); out_long' = rw one (lit≤ tt) }

-- the book with two calls joined in turn
abbrev joined : Call → Call → List ℕ
joined x y = both_joined before.book x y page output page output

-- the first part keeps the number
abbrev first : Call
first = called 5 2 0 45

abbrev second : Call
second = called 9 1 45 75

small : Numbered (first ∷ second ∷ [])
small = ((lit< tt, lit< tt), ((lit< tt, lit< tt), tt))

higher : KeptHigher whole first second
higher = record { first_higher = λ e. lit< tt; second_higher = λ e. absurd (let d : ◌≡◌ {A = ℕ} 9 5 = e in omega arith) }

-- revised, then entered
pub revised_entered : Sound (joined first second) × Cut before.book (joined first second) whole first second
revised_entered =
    let asked = above.is_cut.cuttable in
    cut_entered before.book before.sound whole first second asked small higher page output page output first second forward
    (cut_accepted before.book before.sound whole first second asked small higher page output page output first second forward room)

-- entered, then revised
pub entered_revised : Sound (joined second first) × Cut before.book (joined second first) whole first second
entered_revised =
    let asked = above.is_cut.cuttable in
    cut_entered before.book before.sound whole first second asked small higher page output page output second first backward
    (cut_accepted before.book before.sound whole first second asked small higher page output page output second first backward room)

-- the second part keeps the number
abbrev new_first : Call
new_first = called 9 1 0 45

abbrev old_second : Call
old_second = called 5 2 45 75

small' : Numbered (new_first ∷ old_second ∷ [])
small' = ((lit< tt, lit< tt), ((lit< tt, lit< tt), tt))

higher' : KeptHigher whole new_first old_second
higher' = record { first_higher = λ e. absurd (let d : ◌≡◌ {A = ℕ} 9 5 = e in omega arith); second_higher = λ e. lit< tt }

pub second_revised : Sound (joined old_second new_first) × Cut before.book (joined old_second new_first) whole new_first old_second
second_revised =
    let asked = second_kept.is_cut.cuttable in
    cut_entered before.book before.sound whole new_first old_second asked small' higher' page output page output old_second new_first backward
    (cut_accepted before.book before.sound whole new_first old_second asked small' higher' page output page output old_second new_first backward room)

-- each of them scores as the whole
pub joined_scored : (scoring (plant 300000) (joined first second) (outputs rising) ≡ scores 13650000000 227500)
    × (scoring (plant 300000) (joined second first) (outputs rising) ≡ scores 13650000000 227500)
    × (scoring (plant 300000) (joined old_second new_first) (outputs rising) ≡ scores 13650000000 227500)
joined_scored = (alike revised_entered, alike entered_revised, alike second_revised)
  where
    alike : {c : List ℕ} {x y : Call} → Sound c × Cut before.book c whole x y → scoring (plant 300000) c (outputs rising) ≡ scores 13650000000 227500
    alike {c} t = still_scores (plant 300000) (outputs rising) before.book c 13650000000 227500 before.sound t.0 t.1 before_scored

-- The desk's own cut, at 45 with the new number 9
pub may : MayCut before.book whole 45 9
unfolding is_new
may =
    record {
      has = rw before.calls (here refl);
      live = refl;
      window = inr refl;
      not_last = lit< tt;
      quarter = refl;
      inside = (lit< tt, lit< tt);
      fresh = λ y j. new_in (second_part_of whole 45 9) (whole ∷ []) refl y (rw before.calls at j);
      small = lit< tt;
    }

pub desk_parts : (first_part_of whole 45 ≡ called 5 2 0 45) × (second_part_of whole 45 9 ≡ called 9 1 45 75)
desk_parts = (refl, refl)

pub desk_cut : Cut before.book (both_joined before.book (first_part_of whole 45) (second_part_of whole 45 9) page output page output) whole (first_part_of whole 45) (second_part_of whole 45 9)
desk_cut = (desk_cuts before.book before.sound whole 45 9 may page output page output room).2

-- The command finds these two parts; its own number is in use, and its end is no quarter hour inside it
abbrev member : ℕ
member = whole.participant

has_whole : Has before.book member 5 whole
has_whole = record { there = may.has; whose = refl; under = refl }

live_whole : LiveWindow whole
live_whole = record { live = refl; window = inr refl }

module _ (at new : ℕ) (small : new < 4294967296) where
  found_of : (r : CutIs) → CutOutcome before.book member 5 at new r → cutting before.book member 5 at new ≡ r
  found_of r o = sym ((cut_exact before.book before.sound member 5 at new (lit< tt) small r).1 o)

pub desk_found : cutting before.book member 5 45 9 ≡ Ok (called 5 2 0 45, called 9 1 45 75)
desk_found = found_of 45 9 (lit< tt) (Ok (called 5 2 0 45, called 9 1 45 75)) (is_cut whole refl has_whole may)

pub own_number : cutting before.book member 5 45 5 ≡ Err (InUse whole)
own_number =
    found_of 45 5 (lit< tt) (Err (InUse whole))
    (is_in_use whole whole refl has_whole live_whole (lit< tt) (record { quarter = refl; behind = lit< tt; before = lit< tt }) has_whole)

pub own_end : cutting before.book member 5 120 9 ≡ Err (NotInside whole)
own_end = found_of 120 9 (lit< tt) (Err (NotInside whole)) (is_not_inside whole refl has_whole live_whole (lit< tt) (λ i. let h = i.before in omega arith))

pub desk_cut_found : CutInTurn before.book before.sound member 5 45 9 (lit< tt) (lit< tt) (called 5 2 0 45) (called 9 1 45 75) page output page output
desk_cut_found = found_cuts before.book before.sound member 5 45 9 (lit< tt) (lit< tt) (called 5 2 0 45) (called 9 1 45 75) desk_found page output page output room

-- A FULL BOOK of the first version: 512 windows. The desk's cut of it has 513 calls, and is of the second version.

pub full : Sample (windows 0 512)
unfolding windows good_from march header_minutes minutes_of days_of is_leap call_is_sound limits_allow limits_of table
full = sample (windows 0 512) (lit≤ tt) refl

full_count : count_at full.book ≡ 512
unfolding windows
full_count = sample_count (windows 0 512) full

abbrev half_hour : Call
half_hour = window 1 0 0 1 0 30

pub full_may : MayCut full.book half_hour 15 512
unfolding windows is_new
full_may =
    record {
      has = rw full.calls (here refl);
      live = refl;
      window = inl refl;
      not_last = lit< tt;
      quarter = refl;
      inside = (lit< tt, lit< tt);
      fresh = λ y j. new_in (second_part_of half_hour 15 512) (windows 0 512) refl y (rw full.calls at j);
      small = lit< tt;
    }

-- an output for 513 records
unfoldable pub wide : List ℕ
wide = replicate 16432 0

wide_long : length wide ≡ 16432
unfolding wide
wide_long = length-replicate {A = ℕ} 16432 0

full_room : Room full.book page wide page wide
unfolding page
full_room =
    let n = full_count in
    let l = wide_long in
    record { page_long = lit≤ tt; page_long' = lit≤ tt; free = omega arith; out_long = omega arith; out_long' = omega arith }

abbrev pub beyond : List ℕ
beyond = both_joined full.book (first_part_of half_hour 15) (second_part_of half_hour 15 512) page wide page wide

-- a book of more than 512 is of the second version
first_most : (v : ℕ) → v ≡ first_version → most_records v ≡ 512
unfolding most_records
first_most v e = rw e refl

only_second : (c : List ℕ) → Sound c → 512 < count_at c → version_at c ≡ second_version
only_second c s l = go s.known
  where
    go : Known s.version → version_at c ≡ second_version
    go (inl e) = absurd (omega (arith, s.few, first_most s.version e, count_of_calls c, ap length (sound_reads c s).1))
    go (inr e) = sound_version c s ∙ e

pub beyond_512 : Sound beyond × Cut full.book beyond half_hour (first_part_of half_hour 15) (second_part_of half_hour 15 512) × (count_at beyond ≡ 513) × (version_at beyond ≡ second_version)
beyond_512 =
    let d = desk_cuts full.book full.sound half_hour 15 512 full_may page wide page wide full_room in
    let n : count_at beyond ≡ 513 = cut_count full.book beyond full.sound d.1 _ _ _ d.2 ∙ ap suc full_count in
    (d.1, d.2, n, only_second beyond d.1 (omega arith))

-- entered and then revised it is the same book: `cut_one`
abbrev half_first : Call
half_first = first_part_of half_hour 15

abbrev half_second : Call
half_second = second_part_of half_hour 15 512

abbrev pub backwards : List ℕ
backwards = both_joined full.book half_second half_first page wide page wide

halves_small : Numbered (half_first ∷ half_second ∷ [])
halves_small = ((lit< tt, lit< tt), ((lit< tt, lit< tt), tt))

halves_higher : KeptHigher half_hour half_first half_second
halves_higher = record { first_higher = λ e. lit< tt; second_higher = λ e. absurd (let d : ◌≡◌ {A = ℕ} 512 0 = e in omega arith) }

backwards_cut : Sound backwards × Cut full.book backwards half_hour half_first half_second
backwards_cut =
    let asked = beyond_512.1.cuttable in
    cut_entered full.book full.sound half_hour half_first half_second asked halves_small halves_higher page wide page wide half_second half_first backward
    (cut_accepted full.book full.sound half_hour half_first half_second asked halves_small halves_higher page wide page wide half_second half_first backward full_room)

pub one_cut : beyond ≡ backwards
one_cut =
    let t = backwards_cut in
    let n : count_at backwards ≡ 513 = cut_count full.book backwards full.sound t.0 _ _ _ t.1 ∙ ap suc full_count in
    cut_one full.book beyond backwards half_hour half_first half_second beyond_512.0 t.0 beyond_512.1 t.1 (beyond_512.3 ∙ sym (only_second backwards t.0 (omega arith)))
