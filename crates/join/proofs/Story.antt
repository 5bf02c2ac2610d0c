-- Three books of one stop: the plant entered and revised it, head office withdrew it, and a spare terminal, loaded early, still has the first entry.
-- They meet the hypotheses of demand 3, and in two orders and groupings give one book in which the stop is withdrawn. Assumes nothing.
use mathlib.Core.Path.{◌≡◌, refl, sym, ◌∙◌, ap}
use mathlib.Core.Bool.{true}
use mathlib.Core.Logic.{⊎_elim, ◌≢◌}
use mathlib.Core.List.Memᴰ.{cases_cons as in-cons}
use mathlib.Core.List.Memᴰ.{head as here}
use mathlib.Core.List.Memᴰ.{not-nil as in-nil}
use mathlib.Core.List.Memᴰ.{tail as there}
use mathlib.Core.List.{List, [], ◌∷◌, replicate, Memᴰ as In}
use Prim.Native.Nat.{ℕ, ◌≤◌}
use native.Mathlib.Omega.{arith}
use mathlib.Core.Option.{Option, none, some}
use lib.Dec.{lit<, lit≤}
use lib.IntN.{pos}
use lib.ListN.{length}
use Rattle.units.specs.Month.{is_leap, days_of, minutes_of}
use Rattle.call.specs.declared.Call.{Call}
use Rattle.call.specs.Key.{call_key}
use Rattle.call.specs.Limits.{table, limits_of, limits_allow, call_is_sound}
use Rattle.call.specs.Revising.{call_withdrawn}
use Rattle.call.specs.Service.{CallWithin}
use Rattle.call.proofs.Exact.{sound_within}
use Rattle.book.specs.declared.Header.{Header}
use Rattle.book.specs.Book.{first_version, most_records, most_keys, version_at, header_at, count_at, calls_of, book_bytes}
use Rattle.book.specs.Check.{header_minutes}
use Rattle.book.specs.Sound.{Heading, Sound}
use Rattle.book.proofs.Heads.{first_known, first_some, first_fits}
use Rattle.book.proofs.Exact.{version_of, reads_back}
use Rattle.book.proofs.Records.{length_calls}
use Rattle.rule.specs.Standing.{is_withdrawn}
use Rattle.rule.specs.Keys.{record_of, put, put_all, different_keys}
use Rattle.rule.specs.Whole.{withdrawn_at}
use Rattle.rule.proofs.Keyed.{find_hit}
use Rattle.join.specs.Joining.{key_count}
use Rattle.join.specs.Trees.{Plan, book, join, books, written, result, AllAccepted, Room, OneMonth, Covers, version_over, rule_book}
use Rattle.join.proofs.Trees.{book_sound}
use Rattle.join.proofs.OneVersion.{stays_first_lem}
use Rattle.join.specs.Changing.{changing, record_after, had, withdrawn_revision}
use Rattle.join.proofs.Entering.{change_accepted, revises, withdraws}
use Rattle.join.proofs.Orders.{any_order, same_bytes, stays_withdrawn}

-- March 2026, area 12
unfoldable pub march : Header
march = record { area = 12; year = 2026; month = 3 }

-- a start-stop call of member 3, at a revision, of so many minutes
unfoldable pub stop : ℕ → ℕ → Call
stop revision minutes =
    record { participant = 3; service = 3; state = 0; number = 9; revision = revision; start = 600; length = minutes; a = pos 0; b = 0; c = 0 }

unfoldable pub entered : Call
entered = stop 2 300

unfoldable pub early : Call
early = stop 1 240

unfoldable pub withdrawal : Call
withdrawal = call_withdrawn (stop 2 300)

-- each within the paper's limits
pub entered_within : CallWithin (header_minutes march) entered
unfolding entered stop march header_minutes minutes_of days_of is_leap call_is_sound limits_allow limits_of table
entered_within = sound_within (header_minutes march) entered (lit< tt) (lit< tt) refl

pub early_within : CallWithin (header_minutes march) early
unfolding early stop march header_minutes minutes_of days_of is_leap call_is_sound limits_allow limits_of table
early_within = sound_within (header_minutes march) early (lit< tt) (lit< tt) refl

pub withdrawal_within : CallWithin (header_minutes march) withdrawal
unfolding withdrawal stop march header_minutes minutes_of days_of is_leap call_is_sound limits_allow limits_of table
withdrawal_within = sound_within (header_minutes march) withdrawal (lit< tt) (lit< tt) refl

pub march_heads : Heading march
unfolding march
march_heads = record { area = (lit≤ tt, lit≤ tt); year = (lit≤ tt, lit≤ tt); month = (lit≤ tt, lit≤ tt) }

-- a book of one record is sound, and reads back
unfoldable pub one : Call → List ℕ
one c = book_bytes first_version march (c ∷ [])

module _ (c : Call) (w : CallWithin (header_minutes march) c) where
  pub one_sound : Sound (one c)
  unfolding one
  one_sound = book_sound first_version march (c ∷ []) first_known march_heads first_some (record { within = (w, tt); rises = (omega arith, tt) })

  pub one_first : version_at (one c) ≡ first_version
  unfolding one
  one_first = version_of first_version march (c ∷ []) first_known march_heads first_some

  pub one_reads : (header_at (one c) ≡ march) × (calls_of (one c) ≡ c ∷ [])
  unfolding one
  one_reads = reads_back first_version march (c ∷ []) first_known march_heads first_some (w, tt)

unfoldable pub plant : List ℕ
plant = one entered

unfoldable pub head_office : List ℕ
head_office = one withdrawal

unfoldable pub spare : List ℕ
spare = one early

unfoldable pub three : List (List ℕ)
three = plant ∷ head_office ∷ spare ∷ []

-- what holds of each of the three
each : (P : List ℕ → Type 0) → P plant → P head_office → P spare → (b : List ℕ) → In b three → P b
unfolding three
each P x y z b i =
    ⊎_elim (λ (e : b ≡ plant). rw e x)
    (λ j. ⊎_elim (λ (e : b ≡ head_office). rw e y) (λ k. ⊎_elim (λ (e : b ≡ spare). rw e z) (λ l. absurd (in-nil l)) (in-cons k)) (in-cons j)) (in-cons i)

pub one_month : OneMonth march three
unfolding plant head_office spare
one_month =
    record {
      sound = each Sound (one_sound entered entered_within) (one_sound withdrawal withdrawal_within) (one_sound early early_within);
      header =
          each (λ (b : List ℕ). header_at b ≡ march) (one_reads entered entered_within).0 (one_reads withdrawal withdrawal_within).0
          (one_reads early early_within).0;
    }

-- one key, in each of them and in all

count_two : (x y : List ℕ) (c d : Call) → calls_of x ≡ c ∷ [] → calls_of y ≡ d ∷ [] → key_count (x ∷ y ∷ []) ≡ length (different_keys ((c ∷ []) ∷ (d ∷ []) ∷ []))
unfolding key_count
count_two x y c d e f = rw (e, f) refl

count_three : (x y z : List ℕ) (c d f : Call) → calls_of x ≡ c ∷ [] → calls_of y ≡ d ∷ [] → calls_of z ≡ f ∷ []
    → key_count (x ∷ y ∷ z ∷ []) ≡ length (different_keys ((c ∷ []) ∷ (d ∷ []) ∷ (f ∷ []) ∷ []))
unfolding key_count
count_three x y z c d f e g h = rw (e, g, h) refl

pub plant_and_office : key_count (plant ∷ head_office ∷ []) ≡ 1
unfolding plant head_office entered withdrawal stop different_keys put_all put
plant_and_office = count_two plant head_office entered withdrawal (one_reads entered entered_within).1 (one_reads withdrawal withdrawal_within).1

head_office_spare : key_count (head_office ∷ spare ∷ []) ≡ 1
unfolding head_office spare early withdrawal stop different_keys put_all put
head_office_spare = count_two head_office spare withdrawal early (one_reads withdrawal withdrawal_within).1 (one_reads early early_within).1

pub all_three : key_count (plant ∷ head_office ∷ spare ∷ []) ≡ 1
unfolding plant head_office spare entered early withdrawal stop different_keys put_all put
all_three =
    count_three plant head_office spare entered withdrawal early (one_reads entered entered_within).1 (one_reads withdrawal withdrawal_within).1
    (one_reads early early_within).1

-- an output of 48 bytes
unfoldable pub output : List ℕ
output = replicate 48 0

pub output_long : length output ≡ 48
unfolding output
output_long = refl

-- (plant and head office) and spare; plant and (head office and spare)
unfoldable pub left : Plan
left = join (join (book plant) (book head_office) output) (book spare) output

unfoldable pub right : Plan
right = join (book plant) (join (book head_office) (book spare) output) output

pub left_room : Room left
unfolding left books
left_room = ((tt, tt, λ f. omega (arith, plant_and_office, output_long)), tt, λ f. omega (arith, all_three, output_long))

pub right_room : Room right
unfolding right books
right_room = (tt, (tt, tt, λ f. omega (arith, head_office_spare, output_long)), λ f. omega (arith, all_three, output_long))

pub left_covers : Covers left three
unfolding left books three
left_covers = record { all = λ b i. i; only = λ b i. i }

pub right_covers : Covers right three
unfolding right books three
right_covers = record { all = λ b i. i; only = λ b i. i }

pub few : key_count three ≤ most_keys
unfolding three
few = omega (arith, all_three)

-- they are of the first version, and so is what they give
pub each_first : (b : List ℕ) → In b three → version_at b ≡ first_version
unfolding plant head_office spare
each_first = each (λ (b : List ℕ). version_at b ≡ first_version) (one_first entered entered_within) (one_first withdrawal withdrawal_within) (one_first early early_within)

pub few_in_first : key_count three ≤ most_records first_version
unfolding three
few_in_first = first_fits (key_count three) (omega (arith, all_three))

pub three_first : version_over three ≡ first_version
three_first = stays_first_lem three each_first few_in_first

-- both groupings are accepted throughout, and give the book of the whole list
pub left_book : AllAccepted left × ((result left).number ≡ 0) × (written (result left) ≡ rule_book march three)
left_book = any_order march three one_month left left_covers left_room few

pub one_book : written (result left) ≡ written (result right)
one_book = same_bytes march three one_month few left right left_covers right_covers left_room right_room

-- and the stop is withdrawn in it
pub withdrawn_there : In withdrawal (calls_of head_office)
unfolding head_office
withdrawn_there = rw (one_reads withdrawal withdrawal_within).1 (here refl)

pub stop_withdrawn : (r : Call) × In r (calls_of (written (result left))) × (call_key r ≡ call_key withdrawal) × (is_withdrawn r ≡ true)
unfolding three withdrawal
stop_withdrawn = stays_withdrawn march three one_month left left_covers left_room few head_office (there (here refl)) withdrawal withdrawn_there refl

-- The desk's own steps, on a book that has the key of a call already

module _ (c w : Call) (cw : CallWithin (header_minutes march) c) (ww : CallWithin (header_minutes march) w) (k : call_key c ≡ call_key w) where
  has_key : record_of (call_key w) (calls_of (one c)) ≡ some c
  has_key = ap (record_of (call_key w)) (one_reads c cw).1 ∙ find_hit (call_key w) c [] k

  one_record : count_at (one c) ≡ 1
  unfolding calls_of
  one_record = sym (length_calls (one c) (count_at (one c)) 0) ∙ ap length (one_reads c cw).1

  changes : (changing (one c) w output output).number ≡ 0
  changes = (change_accepted (one c) (one_sound c cw) w ((ww.number, ww.revision.1), tt) output output).1 (record {
    within = rw (one_reads c cw).0 ww;
    page_long = omega (arith, output_long);
    fits = had not_none (omega (arith, output_long, one_record));
  })
    where
      not_none : record_of (call_key w) (calls_of (one c)) ≢ none
      not_none e = let f = has_key in let z : ◌≡◌ {A = ℕ} 0 1 = cc in omega arith

-- the plant revises the stop that the spare terminal has: accepted, and the revised record stands
pub desk_revises : ((changing spare entered output output).number ≡ 0) × (record_after spare entered output output (call_key entered) ≡ some entered)
unfolding spare early entered stop
desk_revises =
    let z = changes early entered early_within entered_within refl in (
      z,
      revises spare (one_sound early early_within) entered ((entered_within.number, entered_within.revision.1), tt) output output z early
          (has_key early entered early_within entered_within refl) refl refl (lit< tt),
    )

-- head office withdraws it in the plant's book: accepted, and the stop is withdrawn at revision 2
pub desk_withdraws : ((changing plant withdrawal output output).number ≡ 0) × (record_after plant withdrawal output output (call_key withdrawal) ≡ some withdrawal)
unfolding plant entered withdrawal stop withdrawn_revision withdrawn_at
desk_withdraws =
    let z = changes entered withdrawal entered_within withdrawal_within refl in (
      z,
      withdraws plant (one_sound entered entered_within) withdrawal ((withdrawal_within.number, withdrawal_within.revision.1), tt) output output z refl
          ∙ ap (λ (o : Option Call). some (withdrawn_at (withdrawn_revision o withdrawal) withdrawal)) (has_key entered withdrawal entered_within withdrawal_within refl),
    )
