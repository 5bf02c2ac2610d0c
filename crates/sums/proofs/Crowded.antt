-- Two sound books of one month and area with 2,001 different keys: every tree of joins over them stops in refusal 8. Assumes nothing.
use mathlib.Core.Path.{◌≡◌, refl}
use mathlib.Core.Logic.{◌⊎◌, ⊎_elim}
use mathlib.Core.List.Memᴰ.{cases_cons as in-cons}
use mathlib.Core.List.Memᴰ.{head as here}
use mathlib.Core.List.Memᴰ.{tail as there}
use mathlib.Core.List.{List, [], ◌∷◌, Memᴰ as In}
use Prim.Native.Nat.{ℕ, ◌≤◌}
use native.Mathlib.Omega.{arith}
use lib.Dec.{lit<, lit≤}
use lib.ListN.{length}
use Rattle.book.specs.Book.{first_version, second_version, most_records, header_at, calls_of}
use Rattle.book.specs.Check.{refused, header_minutes}
use Rattle.book.proofs.Heads.{first_known, first_fits, second_known, second_fits}
use Rattle.rule.proofs.Bounds.{Calls}
use Rattle.join.specs.Joining.{join_refused, key_count, joining}
use Rattle.join.specs.Trees.{Plan, books, result, Room, OneMonth, Covers}
use Rattle.join.proofs.Trees.{book_refused}
use Rattle.join.proofs.Orders.{too_many, never_through}
use Rattle.sums.specs.Crowded.{january, many_calls, last_call, full, one_more, crowd, two, three}
use Rattle.sums.proofs.Numbered.{numbered_calls, numbered_fit, numbered_sound, numbered_reads, joined_one_longer, heads, both, month_of_both, keys_of_both_lem, output_long}

many_calls_lem : Calls (header_minutes january) many_calls
unfolding many_calls
many_calls_lem = numbered_calls _ _ _ (lit≤ tt)

many_fit : length many_calls ≤ most_records second_version
unfolding many_calls
many_fit = numbered_fit _ _ _ (second_fits _ (lit≤ tt))

last_calls : Calls (header_minutes january) last_call
unfolding last_call
last_calls = numbered_calls _ _ _ (lit≤ tt)

last_fits : length last_call ≤ most_records first_version
unfolding last_call
last_fits = numbered_fit _ _ _ (first_fits _ (lit≤ tt))

full_reads : (header_at full ≡ january) × (calls_of full ≡ many_calls)
unfolding full many_calls
full_reads = numbered_reads _ _ _ second_known (second_fits _ (lit≤ tt)) (lit≤ tt)

one_reads : (header_at one_more ≡ january) × (calls_of one_more ≡ last_call)
unfolding one_more last_call
one_reads = numbered_reads _ _ _ first_known (first_fits _ (lit≤ tt)) (lit≤ tt)

pub one_month : OneMonth january crowd
unfolding crowd full one_more many_calls last_call
one_month =
    month_of_both full one_more (numbered_sound _ _ _ second_known (second_fits _ (lit≤ tt)) (lit≤ tt)) (numbered_sound _ _ _ first_known (first_fits _ (lit≤ tt)) (lit≤ tt))
    full_reads.0 one_reads.0

pub keys_2001 : key_count crowd ≡ 2001
unfolding crowd many_calls last_call
keys_2001 = keys_of_both_lem full one_more 2000 (lit< tt) full_reads.1 one_reads.1

-- every tree of joins over the two books, given room, stops in refusal 8
pub every_tree_stops : (p : Plan) → Covers p crowd → Room p → (result p).number ≡ 8
every_tree_stops p covers room = too_many january crowd one_month p covers room (omega (arith, keys_2001))

-- and without room none gets through either
pub no_tree_through : (p : Plan) → Covers p crowd → ((result p).number ≡ 8) ⊎ ((result p).number ≡ 9)
no_tree_through p covers = never_through january crowd one_month p covers (omega (arith, keys_2001))

-- Two trees, with room

two_room : Room two
unfolding two
two_room = (tt, tt, λ f. omega (arith, output_long))

two_covers : Covers two crowd
unfolding two books crowd
two_covers = record { all = λ b i. i; only = λ b i. i }

pub two_stop : (result two).number ≡ 8
two_stop = every_tree_stops two two_covers two_room

three_room : Room three
unfolding three
three_room = (tt, (tt, tt, λ f. omega (arith, output_long)), λ f. omega (arith, output_long))

three_covers : Covers three crowd
unfolding three books crowd
three_covers =
    record {
      all = both (λ (b : List ℕ). In b (one_more ∷ full ∷ full ∷ [])) full one_more (there (here refl)) (here refl);
      only = λ b i. ⊎_elim (λ (e : b ≡ one_more). there (here e)) (λ j. both (λ (d : List ℕ). In d (full ∷ one_more ∷ [])) full full (here refl) (here refl) b j) (in-cons i);
    }

pub three_stop : (result three).number ≡ 8
three_stop = every_tree_stops three three_covers three_room

-- into whatever output: the outcome that the contract of `join` states is number 8, place 0, and the output as it was
pub join_stops : (out : List ℕ) → joining full one_more out ≡ join_refused (refused 8 0) out
unfolding full one_more many_calls last_call
join_stops out =
    book_refused january heads second_version first_version second_known first_known many_calls last_call many_fit last_fits many_calls_lem last_calls out
    (omega (arith, joined_one_longer 2000 (lit< tt)))
