-- Two books: the plants entered two stops, head office withdrew the first. They meet the hypotheses of the laws on a key taken out everywhere. Assumes nothing.
use mathlib.Core.Path.{◌≡◌, refl, ◌∙◌, ap}
use mathlib.Core.Logic.{⊎_elim}
use mathlib.Core.List.Memᴰ.{cases_cons as in-cons}
use mathlib.Core.List.Memᴰ.{head as here}
use mathlib.Core.List.Memᴰ.{not-nil as in-nil}
use mathlib.Core.List.Memᴰ.{tail as there}
use mathlib.Core.List.{List, [], ◌∷◌, replicate, Memᴰ as In}
use Prim.Native.Nat.{ℕ, ◌≤◌, ◌<◌}
use native.Mathlib.Omega.{arith}
use lib.Dec.{lit<, lit≤}
use lib.IntN.{pos}
use lib.ListN.{length}
use Rattle.units.specs.Month.{is_leap, days_of, minutes_of}
use Rattle.call.specs.declared.Call.{Call}
use Rattle.call.specs.Key.{call_key}
use Rattle.call.specs.Limits.{table, limits_of, limits_allow, call_is_sound}
use Rattle.call.specs.Revising.{withdrawn, call_withdrawn}
use Rattle.call.specs.Service.{CallWithin}
use Rattle.call.proofs.Exact.{sound_within}
use Rattle.book.specs.declared.Header.{Header}
use Rattle.book.specs.Book.{first_version, most_records, most_keys, header_at, count_at, record_at, calls_of, book_bytes}
use Rattle.book.specs.Check.{header_minutes}
use Rattle.book.specs.Sound.{Heading, Sound, SaysSame}
use Rattle.book.specs.Without.{book_without}
use Rattle.book.proofs.Heads.{first_known, first_some}
use Rattle.book.proofs.Exact.{reads_back}
use Rattle.rule.specs.Keys.{put, put_all, different_keys}
use Rattle.rule.proofs.Bounds.{Calls}
use Rattle.join.specs.Joining.{key_count}
use Rattle.join.specs.Trees.{Plan, book, join, books, written, result, Room, OneMonth}
use Rattle.join.specs.Without.{plan_without}
use Rattle.join.proofs.Trees.{book_sound}
use Rattle.join.proofs.Without.{withdrawn_place, same_tree}

-- March 2026, area 12
pub march : Header
march = record { area = 12; year = 2026; month = 3 }

march_heads : Heading march
unfolding march
march_heads = record { area = (lit≤ tt, lit≤ tt); year = (lit≤ tt, lit≤ tt); month = (lit≤ tt, lit≤ tt) }

-- the stops of members 3 and 5, and the withdrawal of the first
first : Call
first = record { participant = 3; service = 3; state = 0; number = 9; revision = 1; start = 600; length = 300; a = pos 0; b = 0; c = 0 }

second : Call
second = record { participant = 5; service = 3; state = 0; number = 2; revision = 1; start = 900; length = 240; a = pos 0; b = 0; c = 0 }

pub gone : Call
gone = call_withdrawn first

first_within : CallWithin (header_minutes march) first
unfolding first march header_minutes minutes_of days_of is_leap call_is_sound limits_allow limits_of table
first_within = sound_within (header_minutes march) first (lit< tt) (lit< tt) refl

second_within : CallWithin (header_minutes march) second
unfolding second march header_minutes minutes_of days_of is_leap call_is_sound limits_allow limits_of table
second_within = sound_within (header_minutes march) second (lit< tt) (lit< tt) refl

gone_within : CallWithin (header_minutes march) gone
unfolding gone first march header_minutes minutes_of days_of is_leap call_is_sound limits_allow limits_of table
gone_within = sound_within (header_minutes march) gone (lit< tt) (lit< tt) refl

plants_calls : Calls (header_minutes march) (first ∷ second ∷ [])
unfolding first second
plants_calls = record { within = (first_within, (second_within, tt)); rises = (lit≤ tt, (lit≤ tt, tt)) }

office_calls : Calls (header_minutes march) (gone ∷ [])
unfolding gone first
office_calls = record { within = (gone_within, tt); rises = (lit≤ tt, tt) }

plants : List ℕ
plants = book_bytes first_version march (first ∷ second ∷ [])

office : List ℕ
office = book_bytes first_version march (gone ∷ [])

two_fit : 2 ≤ most_records first_version
unfolding most_records
two_fit = lit≤ tt

plants_read : (header_at plants ≡ march) × (calls_of plants ≡ first ∷ second ∷ [])
unfolding plants
plants_read = reads_back first_version march (first ∷ second ∷ []) first_known march_heads two_fit plants_calls.within

office_read : (header_at office ≡ march) × (calls_of office ≡ gone ∷ [])
unfolding office
office_read = reads_back first_version march (gone ∷ []) first_known march_heads first_some office_calls.within

-- both joined, into an output of 80 bytes
output : List ℕ
output = replicate 80 0

output_long : length output ≡ 80
unfolding output
output_long = refl

pub both : Plan
both = join (book plants) (book office) output

both_books : books both ≡ plants ∷ office ∷ []
unfolding both books
both_books = refl

pub one_month : OneMonth march (books both)
unfolding plants office
one_month = rw both_books (record { sound = sound; header = header })
  where
    sound : (b : List ℕ) → In b (plants ∷ office ∷ []) → Sound b
    sound b i =
        ⊎_elim (λ (e : b ≡ plants). rw e (book_sound first_version march (first ∷ second ∷ []) first_known march_heads two_fit plants_calls))
        (λ j. ⊎_elim (λ (e : b ≡ office). rw e (book_sound first_version march (gone ∷ []) first_known march_heads first_some office_calls)) (λ l. absurd (in-nil l)) (in-cons j)) (in-cons i)

    header : (b : List ℕ) → In b (plants ∷ office ∷ []) → header_at b ≡ march
    header b i =
        ⊎_elim (λ (e : b ≡ plants). ap header_at e ∙ plants_read.0) (λ j. ⊎_elim (λ (e : b ≡ office). ap header_at e ∙ office_read.0) (λ l. absurd (in-nil l)) (in-cons j)) (in-cons i)

two_keys : key_count (books both) ≡ 2
unfolding key_count different_keys put_all put first second gone
two_keys = rw (both_books, plants_read.1, office_read.1) refl

pub few : key_count (books both) ≤ most_keys
few = omega (arith, two_keys)

pub room : Room both
unfolding both books
room = (tt, tt, λ f. omega (arith, two_keys, output_long))

-- the first stop is withdrawn in the joined book
pub stop_gone : (j : ℕ) × (j < count_at (written (result both))) × (call_key (record_at (written (result both)) j) ≡ call_key gone) × ((record_at (written (result both)) j).state ≡ withdrawn)
unfolding gone
stop_gone =
    withdrawn_place march (books both) one_month both (record { all = λ b i. i; only = λ b i. i }) few room office
    (rw both_books (there (here refl))) gone (rw office_read.1 (here refl)) refl

-- and the two books without it give header and calls of the joined book without it
pub stop_taken_out : SaysSame (written (result (plan_without (call_key gone) both))) (book_without (call_key gone) (written (result both)))
stop_taken_out = same_tree march (call_key gone) both one_month few room
