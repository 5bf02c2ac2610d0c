-- What is promised of a join turn by turn: what stands in the output after each turn, that the lowest keys come first, that a turn writes one record and nothing
-- else, that the run ends in the joined book, and that the turns told are the different keys. Assumes nothing.
use mathlib.Core.Path.{◌≡◌, refl, sym, ◌∙◌, ap, ap₂}
use mathlib.Core.Logic.{◌≢◌}
use mathlib.Core.List.Memᴰ.{eq_of_singleton as eq-of-one}
use mathlib.Core.List.Memᴰ.{head as here}
use mathlib.Core.List.Memᴰ.{tail as there}
use mathlib.Core.List.{List, [], ◌∷◌, ◌++◌, map, append_assoc, Memᴰ as In}
use Prim.Native.Nat.{ℕ, zero, suc, ◌+◌, ◌-◌, ◌/◌, ◌≤◌, ◌<◌}
use native.Mathlib.Nat.{zero-add}
use native.Mathlib.Omega.{arith}
use lib.ListN.{length, take, drop, length-append}
use lib.Seq.{sets, sets-eq, length-take-le, take-add, take_at, drop_at, drop-append-add, drop-drop, take-append_seam}
use Rattle.le.specs.Le.{Stores}
use Rattle.units.specs.Month.{most_minutes}
use Rattle.call.specs.declared.Call.{Call}
use Rattle.call.specs.Key.{call_key}
use Rattle.call.specs.Layout.{call_bytes}
use Rattle.call.proofs.Exact.{within_sized}
use Rattle.book.specs.Book.{most_keys, header_size, size_of, place_of, header_at, count_at, calls_from, calls_of, head_bytes, record_bytes, book_bytes}
use Rattle.book.specs.Check.{accepted, header_minutes}
use Rattle.book.specs.Sound.{CallsWithin, Rises, Sound}
use Rattle.book.proofs.Lengths.{length_records, length_book}
use Rattle.book.proofs.Heads.{month_most, known_most, count_back}
use Rattle.book.proofs.Exact.{sound_accepted}
use Rattle.book.proofs.Records.{record_back, regroup, longer, length_calls}
use Rattle.rule.specs.Keys.{different_keys}
use Rattle.rule.specs.Whole.{tree_joined}
use Rattle.rule.proofs.Different.{different_rise, first_below}
use Rattle.rule.proofs.Joins.{join_keys}
use Rattle.rule.proofs.Merging.{merge_joins}
use Rattle.rule.proofs.Bounds.{Calls, join_sound_lem}
use Rattle.pair.specs.Screening.{screen}
use Rattle.pair.proofs.Screening.{screen_passes}
use Rattle.join.specs.Turns.{Run, turns_run, begun, ran}
use Rattle.join.specs.Joining.{JoinOutcome, join_wrote, key_count, keys_of_both, joined_of, joined_version, joined_book, joining}
use Rattle.join.specs.Verdict.{Joinable}
use Rattle.join.specs.Trees.{book, books, written, OneMonth}
use Rattle.join.proofs.Books.{keys_rise}
use Rattle.join.proofs.Steps.{joined_length, most_joined}
use Rattle.join.proofs.Turns.{After, after, turns_long}
use Rattle.join.proofs.Taken.{ran_over, ran_turns}
use Rattle.join.proofs.WaysOut.{joins_both}
use Rattle.join.proofs.Writes.{stores_book}
use Rattle.join.proofs.Versions.{pair_known}
use Rattle.join.proofs.Trees.{sound_calls_lem, same_month_lem, tree_of, key_count_lem, keys_of}
use Rattle.join.proofs.Accepted.{Accepts, accepts}
use Rattle.join.proofs.Exact.{join_kept}

-- Lists, in two parts

map_take : (t : ℕ) (cs : List Call) → map call_key (take t cs) ≡ take t (map call_key cs)
map_take zero cs = refl
map_take (suc t) [] = refl
map_take (suc t) (c ∷ cs) = ap (λ (ks : List ℕ). call_key c ∷ ks) (map_take t cs)

map_drop : (t : ℕ) (cs : List Call) → map call_key (drop t cs) ≡ drop t (map call_key cs)
map_drop zero cs = refl
map_drop (suc t) [] = refl
map_drop (suc t) (c ∷ cs) = map_drop t cs

within_take : (m t : ℕ) (cs : List Call) → CallsWithin m cs → CallsWithin m (take t cs)
within_take m zero cs w = tt
within_take m (suc t) [] w = tt
within_take m (suc t) (c ∷ cs) w = (w.0, within_take m t cs w.1)

records_append : (xs ys : List Call) → record_bytes (xs ++ ys) ≡ record_bytes xs ++ record_bytes ys
unfolding record_bytes
records_append [] ys = refl
records_append (x ∷ xs) ys = ap (λ (l : List ℕ). call_bytes x ++ l) (records_append xs ys) ∙ sym (append_assoc (call_bytes x) (record_bytes xs) (record_bytes ys))

-- records between other bytes are read back
reads : (m : ℕ) (cs : List Call) (p s : List ℕ) (i : ℕ) → m ≤ most_minutes → CallsWithin m cs → length p ≡ size_of i
    → calls_from (p ++ (record_bytes cs ++ s)) i (length cs) ≡ cs
unfolding calls_from record_bytes
reads m [] p s i k w e = refl
reads m (c ∷ cs) p s i k w e =
    let t = record_bytes cs ++ s in
    let all : p ++ ((call_bytes c ++ record_bytes cs) ++ s) ≡ p ++ (call_bytes c ++ t) = ap (λ (l : List ℕ). p ++ l) (append_assoc (call_bytes c) (record_bytes cs) s) in
    let head = record_back p i e c t (within_sized m c k w.0) in
    let tail = ap (λ (l : List ℕ). calls_from l (suc i) (length cs)) (regroup p i e c t) ∙ reads m cs (p ++ call_bytes c) s (suc i) k w.1 (longer p i e c t) in
    ap (λ (l : List ℕ). calls_from l i (suc (length cs))) all ∙ ap₂ (λ (x : Call) (xs : List Call). x ∷ xs) head tail

-- Two books that can be joined into an output

module _ (first second out : List ℕ) (fit : Joinable first second out) where
  -- the different keys of both
  abbrev keys : List ℕ
  keys = different_keys (calls_of first ∷ calls_of second ∷ [])

  -- after so many turns
  abbrev turned : ℕ → Run
  turned t = turns_run t (begun first second out)

  first_rises : Rises 0 (calls_of first)
  first_rises = keys_rise first (sound_accepted first fit.alike.first_sound)

  second_rises : Rises 0 (calls_of second)
  second_rises = keys_rise second (sound_accepted second fit.alike.second_sound)

  one_header : header_at first ≡ header_at second
  one_header = λ i. record { area = fit.alike.area i; year = fit.alike.year i; month = fit.alike.month i }

  calls : Calls (header_minutes (header_at first)) (joined_of first second)
  unfolding joined_of
  calls =
      join_sound_lem (header_minutes (header_at first)) (calls_of first) (calls_of second) (sound_calls_lem first fit.alike.first_sound)
      (rw (sym one_header) at (sound_calls_lem second fit.alike.second_sound))

  run_after : (t : ℕ) → t ≤ keys_of_both first second → After (calls_of first) (calls_of second) out 0 (joined_of first second) t
  unfolding joined_of
  run_after t h =
      after t (calls_of first) (calls_of second) first_rises second_rises out 0 (joined_of first second)
      (merge_joins 0 (calls_of first) (calls_of second) first_rises second_rises) (omega (arith, joined_length first second))

  -- how long the records of the first so many keys are
  records_long : (t : ℕ) → t ≤ keys_of_both first second → place_of 0 + length (record_bytes (take t (joined_of first second))) ≡ place_of t
  records_long t h =
      omega (arith, length_records (take t (joined_of first second)), length-take-le t (joined_of first second) (omega (arith, joined_length first second)))

  front_long : (t : ℕ) → t ≤ keys_of_both first second → length (take header_size out ++ record_bytes (take t (joined_of first second))) ≡ place_of t
  front_long t h =
      let room = fit.room in
      length-append (take header_size out) (record_bytes (take t (joined_of first second))) ∙ omega (arith, length-take-le header_size out (omega arith), records_long t h)

  -- After t turns the output has its first 16 bytes as lent, then the 32 bytes of each of the first t joined records, then its own bytes as lent; and t turns are counted.
  pub after_turns : (t : ℕ) → t ≤ keys_of_both first second
      → ((turns_run t (begun first second out)).out ≡ take header_size out ++ record_bytes (take t (joined_of first second)) ++ drop (place_of t) out)
      × ((turns_run t (begun first second out)).turns ≡ t)
  unfolding begun
  after_turns t h =
      let e = (run_after t h).is in
      let room = fit.room in
      let bytes = record_bytes (take t (joined_of first second)) in (
        ap (λ (r : Run). r.out) e ∙ sets-eq bytes out header_size (omega (arith, records_long t h))
            ∙ ap (λ (n : ℕ). take header_size out ++ bytes ++ drop n out) (records_long t h),
        ap (λ (r : Run). r.turns) e ∙ zero-add t,
      )

  -- Those t records are of the t lowest keys: theirs are the first t of the different keys of both books, the others are left, and each of those is higher than each of these.
  pub lowest_first : (t : ℕ) → t ≤ keys_of_both first second
      → (map call_key (calls_from (turns_run t (begun first second out)).out 0 t) ≡ take t (different_keys (calls_of first ∷ calls_of second ∷ [])))
      × (different_keys ((turns_run t (begun first second out)).first ∷ (turns_run t (begun first second out)).second ∷ [])
      ≡ drop t (different_keys (calls_of first ∷ calls_of second ∷ [])))
      × ((k l : ℕ) → In k (take t (different_keys (calls_of first ∷ calls_of second ∷ []))) → In l (drop t (different_keys (calls_of first ∷ calls_of second ∷ []))) → k < l)
  unfolding begun joined_of
  lowest_first t h =
      let a = run_after t h in
      let zs = joined_of first second in
      let cs = take t zs in
      let tail = drop (place_of t) out in
      let named = join_keys (calls_of first) (calls_of second) in
      let room = fit.room in
      let many : length cs ≡ t = length-take-le t zs (omega (arith, joined_length first second)) in
      let start : length (take header_size out) ≡ size_of 0 = length-take-le header_size out (omega arith) in
      let within = within_take (header_minutes (header_at first)) t zs calls.within in
      let back : calls_from (turned t).out 0 t ≡ cs =
      ap₂ (λ (l : List ℕ) (n : ℕ). calls_from l 0 n) ((after_turns t h).0 ∙ append_assoc (take header_size out) (record_bytes cs) tail) (sym many)
      ∙ reads (header_minutes (header_at first)) cs (take header_size out) tail 0 (month_most (header_at first)) within start in
      let left : different_keys (a.first ∷ a.second ∷ []) ≡ drop t keys =
      sym (join_keys a.first a.second) ∙ ap (map call_key) (sym (merge_joins 0 a.first a.second a.first_rises a.second_rises) ∙ a.rest)
      ∙ map_drop t zs ∙ ap (drop t) named in (
        ap (map call_key) back ∙ map_take t zs ∙ ap (take t) named,
        ap (λ (r : Run). different_keys (r.first ∷ r.second ∷ [])) a.is ∙ left,
        first_below 0 t keys (different_rise (calls_of first ∷ calls_of second ∷ [])),
      )

  -- Turn t + 1 changes no byte but the 32 from 16 + 32 × t on.
  pub written_once : (t : ℕ) → t < keys_of_both first second
      → (take (place_of t) (turns_run (suc t) (begun first second out)).out ≡ take (place_of t) (turns_run t (begun first second out)).out)
      × (drop (place_of (suc t)) (turns_run (suc t) (begun first second out)).out ≡ drop (place_of (suc t)) (turns_run t (begun first second out)).out)
      × (length (turns_run (suc t) (begun first second out)).out ≡ length (turns_run t (begun first second out)).out)
  written_once t h =
      let zs = joined_of first second in
      let front = take header_size out ++ record_bytes (take t zs) in
      let next = record_bytes (take 1 (drop t zs)) in
      let tail = drop (place_of (suc t)) out in
      let long = front_long t (omega arith) in
      let one : suc t ≡ t + 1 = omega arith in
      let next_place : place_of t + 32 ≡ place_of (suc t) = omega arith in
      let far : place_of (suc t) ≡ length front + 32 = omega (arith, long) in
      let before = (after_turns t (omega arith)).0 in
      let behind = (after_turns (suc t) h).0 in
      let more : (turned (suc t)).out ≡ front ++ (next ++ tail) =
      behind ∙ ap (λ (n : ℕ). take header_size out ++ record_bytes (take n zs) ++ tail) one
      ∙ ap (λ (cs : List Call). take header_size out ++ record_bytes cs ++ tail) (take-add t 1 zs)
      ∙ ap (λ (l : List ℕ). take header_size out ++ l ++ tail) (records_append (take t zs) (take 1 (drop t zs)))
      ∙ ap (λ (l : List ℕ). l ++ tail) (sym (append_assoc (take header_size out) (record_bytes (take t zs)) next))
      ∙ append_assoc front next tail in (
        ap (take (place_of t)) more ∙ take_at front (next ++ tail) (place_of t) long
            ∙ sym (ap (take (place_of t)) before ∙ take_at front (drop (place_of t) out) (place_of t) long),
        ap (drop (place_of (suc t))) behind
            ∙ drop_at (take header_size out ++ record_bytes (take (suc t) zs)) tail (place_of (suc t)) (front_long (suc t) h)
            ∙ sym (ap (drop (place_of (suc t))) before ∙ ap (λ (n : ℕ). drop n (front ++ drop (place_of t) out)) far ∙ drop-append-add front (drop (place_of t) out) 32
            ∙ drop-drop 32 (place_of t) out ∙ ap (λ (n : ℕ). drop n out) next_place),
        turns_long (suc t) (begun first second out) ∙ sym (turns_long t (begun first second out)),
      )

  -- The run ends, and its output with the header over the first 16 bytes is the output of the join.
  pub run_ends : ((ran first second out).first ≡ [])
      × ((ran first second out).second ≡ [])
      × (sets (ran first second out).out 0 (head_bytes (joined_version first second) (header_at first) (ran first second out).turns)
      ≡ (join_wrote (joined_book first second) (ran first second out).turns out).out)
  run_ends =
      let e = ran_over first second out first_rises second_rises in
      let zs = joined_of first second in
      let v = joined_version first second in
      let h = header_at first in
      let n = (ran first second out).turns in
      let book = book_bytes v h zs in
      let room = fit.room in
      let many : n ≡ length zs = ran_turns first second out first_rises second_rises ∙ sym (joined_length first second) in
      let s : Stores out 16 (record_bytes zs) (ran first second out).out = record { is = ap (λ (r : Run). r.out) e } in
      let t : Stores (ran first second out).out 0 (head_bytes v h n) (sets (ran first second out).out 0 (head_bytes v h n)) = record { is = refl } in (
        ap (λ (r : Run). r.first) e,
        ap (λ (r : Run). r.second) e,
        (stores_book v h zs n out (ran first second out).out (sets (ran first second out).out 0 (head_bytes v h n)) many (omega (arith, joined_length first second)) s t).is
            ∙ sets-eq book out 0 (omega (arith, length_book v h zs, joined_length first second)) ∙ ap (λ (j : ℕ). book ++ drop j out) (zero-add (length book)),
      )

  -- such a join is accepted
  pub joinable_accepted : (joining first second out).number ≡ 0
  joinable_accepted =
      let p = sound_accepted first fit.alike.first_sound in
      let q = sound_accepted second fit.alike.second_sound in
      let s : screen first second ≡ accepted = sym (screen_passes first second p q (rw one_header (same_month_lem (header_at second)))) in
      ap (λ (o : JoinOutcome). o.number) (sym (joins_both first second out s fit.few fit.room))

-- Every join that is accepted, whatever its books

module _ (first second out : List ℕ) (z : (joining first second out).number ≡ 0) where
  got : Accepts first second out
  got = accepts first second out z

  turns_told : (joining first second out).turns ≡ keys_of_both first second
  turns_told =
      ap (λ (o : JoinOutcome). o.turns) got.is
      ∙ ran_turns first second out (keys_rise first got.screen.first) (keys_rise second got.screen.second)

  pub size_told : (joining first second out).size ≡ size_of (keys_of_both first second)
  size_told =
      ap (λ (o : JoinOutcome). o.size) got.is ∙ length_book (joined_version first second) (header_at first) (joined_of first second)
      ∙ ap size_of (joined_length first second)

  pub count_told : count_at (written (joining first second out)) ≡ (joining first second out).turns
  unfolding book_bytes
  count_told =
      let v = joined_version first second in
      let zs = joined_of first second in
      ap (λ (o : JoinOutcome). count_at (written o)) got.is ∙ ap count_at (take-append_seam (joined_book first second) _)
      ∙ count_back v (header_at first) (length zs) (record_bytes zs) (pair_known _ _ (keys_of_both first second)) got.few
      ∙ joined_length first second ∙ sym turns_told

  -- The turns told are the different keys of both books; so they are the header's count of the result, and (length - 16) / 32.
  pub turns_are_keys : ((joining first second out).turns ≡ keys_of_both first second)
      × (count_at (written (joining first second out)) ≡ (joining first second out).turns)
      × (((joining first second out).size - 16) / 32 ≡ (joining first second out).turns)
  turns_are_keys = (turns_told, count_told, omega (arith, size_told, turns_told))

  -- no more than both books have records
  pub turns_few : (joining first second out).turns ≤ count_at first + count_at second
  turns_few = omega (arith, turns_told, most_joined first second got.screen.first got.screen.second (count_at first) (count_at second) refl refl)

  -- and no more than any book may have
  pub turns_most : (joining first second out).turns ≤ most_keys
  turns_most =
      omega (arith, turns_told, joined_length first second, got.few, known_most (joined_version first second) (pair_known _ _ (keys_of_both first second)))

-- Along a list of books the turns never fall: of sound books an accepted join takes at least as many as either has calls.
module _ (first second out : List ℕ) (s : Sound first) (t : Sound second) (z : (joining first second out).number ≡ 0) where
  own_keys : (b : List ℕ) → Sound b → key_count (b ∷ []) ≡ count_at b
  unfolding calls_of books tree_of tree_joined
  own_keys b r = sym (key_count_lem (header_at b) (book b) (lone_month b r)) ∙ length_calls b (count_at b) 0
    where
      lone_month : (d : List ℕ) → Sound d → OneMonth (header_at d) (d ∷ [])
      lone_month d q = record { sound = λ e i. let f : e ≡ d = eq-of-one i in rw f q; header = λ e i. ap header_at (eq-of-one i) }

  pub turns_not_fewer : (count_at first ≤ (joining first second out).turns) × (count_at second ≤ (joining first second out).turns)
  turns_not_fewer =
      let k = (turns_are_keys first second out z).0 in
      let f = keys_of (first ∷ []) (first ∷ second ∷ []) (λ b i. here (eq-of-one i)) in
      let g = keys_of (second ∷ []) (first ∷ second ∷ []) (λ b i. there i) in
      (omega (arith, k, f, own_keys first s), omega (arith, k, g, own_keys second t))

-- A join whose number is not 0 tells no turn, whatever the bytes.
pub refused_no_turns : (first second out : List ℕ) → (joining first second out).number ≢ 0 → (joining first second out).turns ≡ 0
refused_no_turns first second out n = (join_kept first second out n).1
