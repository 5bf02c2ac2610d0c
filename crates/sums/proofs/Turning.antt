-- The hypotheses of one version, met: 512 calls and one more in two orders and one repeated, and an empty book of the second version among books of the first. Assumes nothing.
use mathlib.Core.Path.{◌≡◌, refl, sym, ◌∙◌, ap₂, subst}
use mathlib.Core.Logic.{⊎_elim}
use mathlib.Core.List.Memᴰ.{cases_cons as in-cons}
use mathlib.Core.List.Memᴰ.{head as here}
use mathlib.Core.List.Memᴰ.{not-nil as in-nil}
use mathlib.Core.List.Memᴰ.{tail as there}
use mathlib.Core.List.{List, [], ◌∷◌, Memᴰ as In}
use Prim.Native.Nat.{ℕ}
use native.Mathlib.Omega.{arith}
use lib.Dec.{lit<, lit≤}
use lib.ListN.{length}
use Rattle.call.specs.declared.Call.{Call}
use Rattle.book.specs.Book.{first_version, second_version, most_records, version_at, header_at, calls_of}
use Rattle.book.specs.Sound.{Sound, SaysSame}
use Rattle.book.proofs.Heads.{first_known, first_fits, second_known, second_fits}
use Rattle.rule.specs.Keys.{put, put_all, different_keys}
use Rattle.join.specs.Joining.{key_count}
use Rattle.join.specs.Trees.{Plan, books, written, result, Room, OneMonth, Covers, version_over}
use Rattle.join.proofs.Orders.{one_version}
use Rattle.join.proofs.OneVersion.{stays_first_lem, one_is_second, keys_make_second}
use Rattle.join.specs.Nothing.{AddsNothing}
use Rattle.join.proofs.Nothing.{left_out, left-out-bytes}
use Rattle.sums.specs.Crowded.{january, numbered}
use Rattle.sums.specs.Turning.{full_first, next_call, empty_second, turning, one_order, other_order, repeated_one, late_call, pair, pair_order, mixed, mixed_order, mixed_back}
use Rattle.sums.proofs.Numbered.{numbered_sound, numbered_reads, numbered_version, both, month_of_both, keys_of_both_lem, output_long}

-- The books

full_sound : Sound full_first
unfolding full_first
full_sound = numbered_sound _ _ _ first_known (first_fits _ (lit≤ tt)) (lit≤ tt)

full_reads : (header_at full_first ≡ january) × (calls_of full_first ≡ numbered 0 512)
unfolding full_first
full_reads = numbered_reads _ _ _ first_known (first_fits _ (lit≤ tt)) (lit≤ tt)

next_sound : Sound next_call
unfolding next_call
next_sound = numbered_sound _ _ _ first_known (first_fits _ (lit≤ tt)) (lit≤ tt)

next_reads : (header_at next_call ≡ january) × (calls_of next_call ≡ numbered 512 1)
unfolding next_call
next_reads = numbered_reads _ _ _ first_known (first_fits _ (lit≤ tt)) (lit≤ tt)

empty_sound : Sound empty_second
unfolding empty_second
empty_sound = numbered_sound _ _ _ second_known (second_fits _ (lit≤ tt)) (lit≤ tt)

empty_reads : (header_at empty_second ≡ january) × (calls_of empty_second ≡ numbered 0 0)
unfolding empty_second
empty_reads = numbered_reads _ _ _ second_known (second_fits _ (lit≤ tt)) (lit≤ tt)

empty_version : version_at empty_second ≡ second_version
unfolding empty_second
empty_version = numbered_version _ _ _ second_known (second_fits _ (lit≤ tt)) (lit≤ tt)

-- 512 calls and one more, all of the first version: every tree gives the second

pub turning_month : OneMonth january turning
unfolding turning
turning_month = month_of_both full_first next_call full_sound next_sound full_reads.0 next_reads.0

pub keys_513 : key_count turning ≡ 513
unfolding turning
keys_513 = keys_of_both_lem full_first next_call 512 (lit< tt) full_reads.1 next_reads.1

turning_over : version_over turning ≡ second_version
unfolding most_records
turning_over = keys_make_second turning (omega (arith, keys_513))

pub turns : (p : Plan) → Covers p turning → Room p → version_at (written (result p)) ≡ second_version
turns p c r = one_version january turning turning_month p c r (omega (arith, keys_513)) ∙ turning_over

order_room : Room one_order
unfolding one_order
order_room = (tt, tt, λ f. omega (arith, output_long))

other_room : Room other_order
unfolding other_order
other_room = (tt, tt, λ f. omega (arith, output_long))

repeated_room : Room repeated_one
unfolding repeated_one
repeated_room = ((tt, tt, λ f. omega (arith, output_long)), tt, λ f. omega (arith, output_long))

-- a list of two in the other order
swapped : (x y : List ℕ) (b : List ℕ) → In b (x ∷ y ∷ []) → In b (y ∷ x ∷ [])
swapped x y b i = both (λ (z : List ℕ). In z (y ∷ x ∷ [])) x y (there (here refl)) (here refl) b i

order_covers : Covers one_order turning
unfolding one_order books turning
order_covers = record { all = λ b i. i; only = λ b i. i }

other_covers : Covers other_order turning
unfolding other_order books turning
other_covers = record { all = swapped full_first next_call; only = swapped next_call full_first }

repeated_covers : Covers repeated_one turning
unfolding repeated_one books turning
repeated_covers =
    record {
      all = both (λ (b : List ℕ). In b (full_first ∷ next_call ∷ full_first ∷ [])) full_first next_call (here refl) (there (here refl));
      only = λ b i. ⊎_elim (λ (e : b ≡ full_first). here e) (λ j. swapped next_call full_first b j) (in-cons i);
    }

pub one_order_lem : version_at (written (result one_order)) ≡ second_version
one_order_lem = turns one_order order_covers order_room

pub other_order_lem : version_at (written (result other_order)) ≡ second_version
other_order_lem = turns other_order other_covers other_room

pub repeated_one_lem : version_at (written (result repeated_one)) ≡ second_version
repeated_one_lem = turns repeated_one repeated_covers repeated_room

-- Two books of the first version and an empty one of the second among them: the second, either way

late_sound : Sound late_call
unfolding late_call
late_sound = numbered_sound _ _ _ first_known (first_fits _ (lit≤ tt)) (lit≤ tt)

late_reads : (header_at late_call ≡ january) × (calls_of late_call ≡ numbered 600 1)
unfolding late_call
late_reads = numbered_reads _ _ _ first_known (first_fits _ (lit≤ tt)) (lit≤ tt)

late_version : version_at late_call ≡ first_version
unfolding late_call
late_version = numbered_version _ _ _ first_known (first_fits _ (lit≤ tt)) (lit≤ tt)

next_version : version_at next_call ≡ first_version
unfolding next_call
next_version = numbered_version _ _ _ first_known (first_fits _ (lit≤ tt)) (lit≤ tt)

pair_month : OneMonth january pair
unfolding pair
pair_month = month_of_both next_call late_call next_sound late_sound next_reads.0 late_reads.0

mixed_month : OneMonth january mixed
unfolding mixed
mixed_month =
    record {
      sound = λ b i. ⊎_elim (λ (e : b ≡ empty_second). rw e empty_sound) (λ j. pair_month.sound b j) (in-cons i);
      header = λ b i. ⊎_elim (λ (e : b ≡ empty_second). rw e empty_reads.0) (λ j. pair_month.header b j) (in-cons i);
    }

pair_keys : key_count pair ≡ 2
unfolding pair key_count numbered different_keys put_all put
pair_keys = ap₂ (λ (xs ys : List Call). length (different_keys (xs ∷ ys ∷ []))) next_reads.1 late_reads.1

mixed_keys : key_count mixed ≡ 2
unfolding mixed pair key_count numbered different_keys put_all put
mixed_keys =
    ap₂ (λ (xs : List Call) (b : List (List Call)). length (different_keys (xs ∷ b))) empty_reads.1
    (ap₂ (λ (xs ys : List Call). xs ∷ ys ∷ []) next_reads.1 late_reads.1)

mixed_over : version_over mixed ≡ second_version
unfolding mixed
mixed_over = one_is_second mixed empty_second (here refl) empty_version

pub mixed_version : (p : Plan) → Covers p mixed → Room p → version_at (written (result p)) ≡ second_version
mixed_version p c r = one_version january mixed mixed_month p c r (omega (arith, mixed_keys)) ∙ mixed_over

-- what holds of three
each_of : {A : Type 0} (P : A → Type 0) (x y z : A) → P x → P y → P z → (w : A) → In w (x ∷ y ∷ z ∷ []) → P w
each_of P x y z p q r w i = ⊎_elim (λ (e : w ≡ x). rw e p) (λ j. both P y z q r w j) (in-cons i)

pub mixed_order_lem : version_at (written (result mixed_order)) ≡ second_version
unfolding mixed_order books mixed pair
mixed_order_lem = mixed_version mixed_order covers ((tt, (tt, tt, λ f. omega (arith, output_long)), λ f. omega (arith, output_long)))
  where
    covers : Covers mixed_order mixed
    covers =
        record {
          all = each_of (λ (b : List ℕ). In b (next_call ∷ empty_second ∷ late_call ∷ [])) empty_second next_call late_call (there (here refl)) (here refl) (there (there (here refl)));
          only = each_of (λ (b : List ℕ). In b (empty_second ∷ next_call ∷ late_call ∷ [])) next_call empty_second late_call (there (here refl)) (here refl) (there (there (here refl)));
        }

back_covers : Covers mixed_back mixed
unfolding mixed_back books mixed pair
back_covers =
    record {
      all = each_of (λ (b : List ℕ). In b (late_call ∷ next_call ∷ empty_second ∷ [])) empty_second next_call late_call (there (there (here refl))) (there (here refl)) (here refl);
      only = each_of (λ (b : List ℕ). In b (empty_second ∷ next_call ∷ late_call ∷ [])) late_call next_call empty_second (there (there (here refl))) (there (here refl)) (here refl);
    }

back_room : Room mixed_back
unfolding mixed_back
back_room = ((tt, tt, λ f. omega (arith, output_long)), tt, λ f. omega (arith, output_long))

pub mixed_back_lem : version_at (written (result mixed_back)) ≡ second_version
mixed_back_lem = mixed_version mixed_back back_covers back_room

-- The empty book adds nothing, and can be left out: header and calls stay. The bytes do not, since the version over the list is another.

pair_over : version_over pair ≡ first_version
unfolding pair
pair_over =
    stays_first_lem pair (both (λ (b : List ℕ). version_at b ≡ first_version) next_call late_call next_version late_version)
    (first_fits (key_count pair) (omega (arith, pair_keys)))

empty_adds_nothing : AddsNothing pair empty_second
unfolding numbered
empty_adds_nothing = record { stands = λ c i. absurd (in-nil (subst (λ (cs : List Call). In c cs) empty_reads.1 i)) }

pair_room : Room pair_order
unfolding pair_order
pair_room = (tt, tt, λ f. omega (arith, output_long))

pair_covers : Covers pair_order pair
unfolding pair_order books pair
pair_covers = record { all = λ b i. i; only = λ b i. i }

pub empty_left_out : SaysSame (written (result mixed_back)) (written (result pair_order))
unfolding mixed
empty_left_out =
    left_out january empty_second pair mixed_month empty_adds_nothing mixed_back pair_order back_covers pair_covers (omega (arith, pair_keys)) back_room pair_room

pub empty_shows : written (result mixed_back) ≡ written (result pair_order) → ⊥
unfolding mixed
empty_shows e =
    let v = (left-out-bytes january empty_second pair mixed_month empty_adds_nothing mixed_back pair_order back_covers pair_covers (omega (arith, pair_keys)) back_room pair_room).0 e in
    let w : ◌≡◌ {A = ℕ} 2 1 = sym mixed_over ∙ v ∙ pair_over in
    omega arith
