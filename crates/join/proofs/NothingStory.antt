-- The spare terminal's book of the story adds nothing to the plant's and head office's: plugged in on closing day or left in its drawer, one book. Assumes nothing.
use mathlib.Core.Path.{◌≡◌, refl, sym, ◌∙◌, ap}
use mathlib.Core.Logic.{⊎_elim}
use mathlib.Core.List.Memᴰ.{cases_cons as in-cons}
use mathlib.Core.List.Memᴰ.{head as here}
use mathlib.Core.List.Memᴰ.{not-nil as in-nil}
use mathlib.Core.List.Memᴰ.{tail as there}
use mathlib.Core.List.{List, [], ◌∷◌, map, Memᴰ as In}
use mathlib.Core.Option.{Option, some}
use Prim.Native.Nat.{ℕ, ◌≤◌}
use native.Mathlib.Omega.{arith}
use Rattle.call.specs.declared.Call.{Call}
use Rattle.call.specs.Key.{call_key}
use Rattle.book.specs.Book.{first_version, most_records, most_keys, calls_of}
use Rattle.book.specs.Without.{without, book_without}
use Rattle.book.proofs.Without.{without_hit, without_reads}
use Rattle.rule.specs.Standing.{same_call, decide, given, standing}
use Rattle.rule.specs.Keys.{record_of, also, put, put_all, different_keys}
use Rattle.rule.specs.Whole.{records_of, those, all, highest, withdrawn_at, ruling, rule_for, rule_over}
use Rattle.join.specs.Joining.{key_count}
use Rattle.join.specs.Trees.{Plan, book, join, books, written, result, Room, OneMonth, Covers, version_over}
use Rattle.join.specs.Nothing.{AddsNothing}
use Rattle.join.proofs.Trees.{keys_of}
use Rattle.join.proofs.OneVersion.{stays_first_lem}
use Rattle.join.proofs.Nothing.{no-key-more, left-out-bytes, entry-out, withdrawn_stands}
use Rattle.join.proofs.Story.{march, stop, entered, early, withdrawal, entered_within, early_within, withdrawal_within, one, one_sound, one_reads, plant, head_office, spare, three}
use Rattle.join.proofs.Story.{one_month, each_first, few_in_first, plant_and_office, output, output_long, left, left_room, left_covers, withdrawn_there}

-- the plant's book and head office's
unfoldable pub two : List (List ℕ)
two = plant ∷ head_office ∷ []

rule_over_two : (x y : List Call) → x ≡ entered ∷ [] → y ≡ withdrawal ∷ [] → rule_over (x ∷ y ∷ []) (call_key early) ≡ some withdrawal
unfolding rule_over rule_for ruling records_of record_of also those highest withdrawn_at entered withdrawal early stop
rule_over_two x y e f = rw (e, f) refl

stands_against_lem : standing withdrawal early ≡ withdrawal
unfolding standing decide given same_call withdrawal early stop
stands_against_lem = refl

-- head office's withdrawal stands against the early entry
pub spare_adds_nothing : AddsNothing two spare
unfolding two plant head_office spare
spare_adds_nothing = record { stands = stands }
  where
    is-early : (c : Call) → In c (calls_of spare) → c ≡ early
    is-early c i =
        ⊎_elim (λ (e : c ≡ early). e) (λ j. absurd (in-nil j)) (in-cons (rw (one_reads early early_within).1 at i))

    stands : (c : Call) → In c (calls_of spare) → (r : Call) × (rule_over (map calls_of two) (call_key c) ≡ some r) × (standing r c ≡ r)
    stands c i =
        rw (is-early c i) (
          withdrawal,
          rule_over_two (calls_of plant) (calls_of head_office) (one_reads entered entered_within).1 (one_reads withdrawal withdrawal_within).1,
          stands_against_lem,
        )

-- a book in front of the two, or behind them
module _ (x b : List ℕ) where
  behind : In b (x ∷ two) → In b (plant ∷ head_office ∷ x ∷ [])
  unfolding two
  behind i =
      ⊎_elim (λ (e : b ≡ x). there (there (here e)))
      (λ j. ⊎_elim (λ (e : b ≡ plant). here e) (λ k. ⊎_elim (λ (e : b ≡ head_office). there (here e)) (λ l. absurd (in-nil l)) (in-cons k)) (in-cons j)) (in-cons i)

  before : In b (plant ∷ head_office ∷ x ∷ []) → In b (x ∷ two)
  unfolding two
  before i =
      ⊎_elim (λ (e : b ≡ plant). there (here e))
      (λ j. ⊎_elim (λ (e : b ≡ head_office). there (there (here e))) (λ k. ⊎_elim (λ (e : b ≡ x). here e) (λ l. absurd (in-nil l)) (in-cons k)) (in-cons j)) (in-cons i)

pub spare_month_lem : OneMonth march (spare ∷ two)
unfolding three
spare_month_lem = record { sound = λ b i. one_month.sound b (behind spare b i); header = λ b i. one_month.header b (behind spare b i) }

pub left_covers_spare : Covers left (spare ∷ two)
unfolding three
left_covers_spare = record { all = λ b i. left_covers.all b (behind spare b i); only = λ b i. before spare b (left_covers.only b i) }

-- the plant's book joined with head office's, the spare terminal left in its drawer
pub without_spare : Plan
without_spare = join (book plant) (book head_office) output

pub without_spare_room : Room without_spare
unfolding without_spare books
without_spare_room = (tt, tt, λ f. omega (arith, plant_and_office, output_long))

pub without_spare_covers : Covers without_spare two
unfolding without_spare books two
without_spare_covers = record { all = λ b i. i; only = λ b i. i }

pub few : key_count two ≤ most_keys
unfolding two
few = omega (arith, plant_and_office)

-- with the spare terminal or without it all books are of the first version, and there are few keys
part_first : (bs : List (List ℕ)) → ((b : List ℕ) → In b bs → In b three) → version_over bs ≡ first_version
part_first bs f =
    let l : key_count bs ≤ most_records first_version = omega (arith, keys_of bs three f, few_in_first) in
    stays_first_lem bs (λ b i. each_first b (f b i)) l

-- so it is the same book, byte for byte
pub spare_left_out : written (result left) ≡ written (result without_spare)
unfolding three two
spare_left_out =
    (left-out-bytes march spare two spare_month_lem spare_adds_nothing left without_spare left_covers_spare without_spare_covers few left_room without_spare_room).1
    (part_first (spare ∷ two) (behind spare) ∙ sym (part_first two (λ b i. behind spare b (there i))))

-- The spare terminal's book without the early entry

unfoldable pub emptied : List ℕ
emptied = book_without (call_key early) spare

emptied_calls : calls_of emptied ≡ []
unfolding emptied spare without
emptied_calls =
    (without_reads (call_key early) (one early) (one_sound early early_within)).1 ∙ ap (without (call_key early)) (one_reads early early_within).1 ∙ without_hit (call_key early) early [] refl

pub with_emptied : Plan
with_emptied = join (join (book plant) (book head_office) output) (book emptied) output

one_key : key_count (plant ∷ head_office ∷ emptied ∷ []) ≡ 1
unfolding key_count plant head_office entered withdrawal stop different_keys put_all put
one_key = rw ((one_reads entered entered_within).1, (one_reads withdrawal withdrawal_within).1, emptied_calls) refl

pub with_emptied_room : Room with_emptied
unfolding with_emptied books
with_emptied_room = ((tt, tt, λ f. omega (arith, plant_and_office, output_long)), tt, λ f. omega (arith, one_key, output_long))

pub with_emptied_covers : Covers with_emptied (emptied ∷ two)
unfolding with_emptied books
with_emptied_covers = record { all = behind emptied; only = before emptied }

pub few_first : key_count (spare ∷ two) ≤ most_keys
few_first = omega (arith, no-key-more march spare two spare_month_lem spare_adds_nothing left without_spare left_covers_spare without_spare_covers, few)

pub early_there : In early (calls_of spare)
unfolding spare
early_there = rw (one_reads early early_within).1 (here refl)

-- the early entry adds nothing: head office has withdrawn it
pub early_out : written (result left) ≡ written (result with_emptied)
unfolding two spare emptied early withdrawal stop
early_out =
    entry-out march spare two spare_month_lem early early_there head_office (there (here refl)) withdrawal withdrawn_there refl
    (withdrawn_stands withdrawal early refl refl) left with_emptied left_covers_spare with_emptied_covers few_first left_room with_emptied_room

-- Head office's book does add: the rule over the plant's and the spare terminal's gives the entered stop, which does not stand against the withdrawal

without_office : (x y : List Call) → x ≡ entered ∷ [] → y ≡ early ∷ [] → rule_over (x ∷ y ∷ []) (call_key withdrawal) ≡ some entered
unfolding rule_over rule_for ruling records_of record_of also those highest all entered withdrawal early stop
without_office x y e f = rw (e, f, f) refl

back_again : (standing entered withdrawal).state ≡ 2
unfolding standing decide given same_call entered withdrawal stop
back_again = refl

entered_live : entered.state ≡ 0
unfolding entered stop
entered_live = refl

pub office_adds : AddsNothing (plant ∷ spare ∷ []) head_office → ⊥
unfolding plant spare
office_adds n =
    let a = n.stands withdrawal withdrawn_there in
    let e : a.0 ≡ entered = injected a.0 (sym a.1 ∙ without_office _ _ (one_reads entered entered_within).1 (one_reads early early_within).1) in
    let same = ap (λ (r : Call). (standing r withdrawal).state) (sym e) ∙ ap (λ (r : Call). r.state) (a.2 ∙ e) in
    omega (arith, back_again, entered_live, same)
  where
    injected : (r : Call) → ◌≡◌ {A = Option Call} (some r) (some entered) → r ≡ entered
    injected r h = cc
