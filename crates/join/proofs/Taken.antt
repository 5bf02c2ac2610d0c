-- The turns that the code takes: from two books read up to a place each, by the records that it has stored. Assumes nothing.
use mathlib.Core.Path.{◌≡◌, refl, sym, ◌∙◌, ap, ap₂}
use mathlib.Core.Logic.{◌⊎◌, inl, inr}
use mathlib.Core.List.{List, [], ◌∷◌}
use Prim.Native.Nat.{ℕ, zero, suc, ◌+◌, ◌*◌, ◌-◌, ◌/◌, ◌<◌, ◌≤◌}
use native.Mathlib.Nat.{le_refl, sub-zero, zero-add}
use native.Mathlib.Omega.{arith}
use lib.ListN.{length}
use lib.Seq.{sets, take_all}
use Rattle.le.specs.Le.{Stores}
use Rattle.call.specs.declared.Call.{Call}
use Rattle.call.specs.Key.{call_key}
use Rattle.call.specs.Layout.{call_at, call_bytes}
use Rattle.book.specs.Book.{size_of, place_of, count_at, record_at, calls_from, calls_of, record_bytes}
use Rattle.book.specs.Sound.{Rises}
use Rattle.rule.specs.Inner.{merge}
use Rattle.rule.proofs.Keyed.{weaken}
use Rattle.rule.proofs.Merging.{merges, merges_long, merge_joins}
use Rattle.pair.specs.Screening.{IsAccepted}
use Rattle.join.specs.declared.Reached.{Reached}
use Rattle.join.specs.Turns.{Run, turn, turns_run, begun, ran}
use Rattle.join.specs.Joining.{keys_of_both, joined_of}
use Rattle.join.specs.Steps.{
  left_of,
  RecordLies,
  KeySettled,
  lower,
  upper,
  equal,
  ReadTo,
  left_from,
  stands,
  TurnTaken,
  TurnsTaken,
  first_left,
  second_left,
  LastTurn,
  LastTurns,
  over,
}
use Rattle.join.proofs.Books.{size, has, keys_rise}
use Rattle.join.proofs.Steps.{left_cons, left_end, length_left, merges_short, joined_length}
use Rattle.join.proofs.Turns.{
  turn_first,
  turn_second,
  turn_lower,
  turn_upper,
  turn_equal,
  turns_add,
  turns_over,
  all_taken_lem,
  counted,
  turns_long,
  run_at,
}

-- A book that is read up to a place

by_index : (b : List ℕ) (i : ℕ) → left_from b (place_of i) ≡ left_of b (count_at b) i
unfolding left_from
by_index b i = let e : (16 + 32 * i - 16) / 32 ≡ i = omega arith in ap (left_of b (count_at b)) e

left_rises : (b : List ℕ) → Rises 0 (left_of b (count_at b) 0) → (i : ℕ) → i ≤ count_at b → Rises 0 (left_of b (count_at b) i)
left_rises b r zero h = r
left_rises b r (suc i) h =
    let e : suc i ≡ i + 1 = omega arith in
    let c = left_cons b (count_at b) i (omega arith) in
    let s : Rises 0 (record_at b i ∷ left_of b (count_at b) (i + 1)) = rw c at (left_rises b r i (omega arith)) in
    rw e (weaken 0 (suc (call_key (record_at b i))) (left_of b (count_at b) (i + 1)) (omega arith) s.1)

pub all_left : (b : List ℕ) → calls_of b ≡ left_from b 16
unfolding calls_of left_of
all_left b = sym (by_index b 0 ∙ ap (calls_from b 0) (sub-zero (count_at b)))

pub from_start : (b : List ℕ) → IsAccepted b → ReadTo b 16
from_start b p = record { accepted = p; index = 0; place = refl; within = omega arith }

to_end : (b : List ℕ) → IsAccepted b → ReadTo b (length b)
to_end b p = record { accepted = p; index = count_at b; place = size b p; within = le_refl (count_at b) }

module _ {b : List ℕ} {at : ℕ} (g : ReadTo b at) where
  pub rises_left : Rises 0 (left_from b at)
  unfolding left_of calls_of
  rises_left =
      let all : Rises 0 (left_of b (count_at b) 0) = rw (sub-zero (count_at b)) (keys_rise b g.accepted) in
      rw (g.place, by_index b g.index) (left_rises b all g.index g.within)

  -- at its end nothing is left
  pub ends : length b ≤ at → left_from b at ≡ []
  ends h =
      let p = g.place in
      ap (left_from b) p ∙ by_index b g.index ∙ left_end b (count_at b) g.index (omega (arith, size b g.accepted))

  -- as many calls as there are records
  pub length_from : at + 32 * length (left_from b at) ≡ length b
  length_from =
      let p = g.place in
      let w = g.within in
      omega (arith, ap length (ap (left_from b) p ∙ by_index b g.index), length_left b (count_at b) g.index, size b g.accepted)

  module _ (h : at < length b) where
    index_in : g.index < count_at b
    index_in = let p = g.place in omega (arith, size b g.accepted)

    pub lies : RecordLies b at
    lies = rw g.place (has b g.accepted g.index index_in)

    pub goes_on_lem : ReadTo b (at + 32)
    goes_on_lem =
        let p = g.place in
        let i = index_in in
        record { accepted = g.accepted; index = g.index + 1; place = omega arith; within = omega arith }

    -- the next record, and what is left behind it
    pub next_left : left_from b at ≡ call_at b at ∷ left_from b (at + 32)
    unfolding record_at
    next_left =
        let p = g.place in
        let e : place_of (g.index + 1) ≡ at + 32 = omega arith in
        ap (left_from b) p ∙ by_index b g.index ∙ left_cons b (count_at b) g.index index_in
        ∙ ap₂ (λ (c : Call) (cs : List Call). c ∷ cs) (ap (call_at b) (sym p)) (sym (by_index b (g.index + 1)) ∙ ap (left_from b) e)

    next_rises : Rises 0 (call_at b at ∷ left_from b (at + 32))
    next_rises = rw next_left at rises_left

-- A turn while both books have records

as_stored : {before after : List ℕ} {at : ℕ} {x z : Call} → z ≡ x → Stores before at (call_bytes z) after → sets before at (call_bytes x) ≡ after
as_stored {before} {after} {at} e s = ap (λ (c : Call). sets before at (call_bytes c)) (sym e) ∙ sym s.is

module _ {first : List ℕ} {a : ℕ} {second : List ℕ} {b : ℕ} (g : ReadTo first a) (k : ReadTo second b) (h : a < length first) (l : b < length second) where
  opened : (before : List ℕ) (t : ℕ) → turn (stands first a second b before t)
      ≡ turn (run_at (call_at first a ∷ left_from first (a + 32)) (call_at second b ∷ left_from second (b + 32)) before t)
  opened before t i = turn (run_at (next_left g h i) (next_left k l i) before t)

  -- the record of the settled key is stored at its place
  pub takes : {before after : List ℕ} {t p q d : ℕ} {z : Call} → KeySettled (call_at first a) (call_at second b) a b p q z → Stores before (place_of t) (call_bytes z) after → d ≡ suc t
      → TurnTaken first a second b before t (record { first = p; second = q; turns = d }) after
  takes {before} {after} {t} (lower n e f w) s c =
      record {
        is =
            opened before t ∙ turn_lower (call_at first a) (left_from first (a + 32)) (call_at second b) (left_from second (b + 32)) (next_rises g h) (next_rises k l) before t n
            ∙ (λ i. run_at (left_from first (sym e i)) ((sym (next_left k l) ∙ ap (left_from second) (sym f)) i) (as_stored w s i) (sym c i));
        counted = c;
        in_first = rw e (goes_on_lem g h);
        in_second = rw f k;
        further = omega arith;
      }
  takes {before} {after} {t} (upper n e f w) s c =
      record {
        is =
            opened before t ∙ turn_upper (call_at first a) (left_from first (a + 32)) (call_at second b) (left_from second (b + 32)) (next_rises g h) (next_rises k l) before t n
            ∙ (λ i. run_at ((sym (next_left g h) ∙ ap (left_from first) (sym e)) i) (left_from second (sym f i)) (as_stored w s i) (sym c i));
        counted = c;
        in_first = rw e g;
        in_second = rw f (goes_on_lem k l);
        further = omega arith;
      }
  takes {before} {after} {t} (equal n e f w) s c =
      record {
        is =
            opened before t ∙ turn_equal (call_at first a) (left_from first (a + 32)) (call_at second b) (left_from second (b + 32)) (next_rises g h) (next_rises k l) before t n
            ∙ (λ i. run_at (left_from first (sym e i)) (left_from second (sym f i)) (as_stored w s i) (sym c i));
        counted = c;
        in_first = rw e (goes_on_lem g h);
        in_second = rw f (goes_on_lem k l);
        further = omega arith;
      }

-- Where the other book is used up

pub last_taken : {b : List ℕ} {at : ℕ} → ReadTo b at → at < length b → {before after : List ℕ} {t r : ℕ} → Stores before (place_of t) (call_bytes (call_at b at)) after → r ≡ suc t
    → LastTurn b at before t r after
last_taken {b} {at} g h {before} {after} {t} {r} s c =
    record {
      as_first =
          (λ i. turn (run_at (next_left g h i) [] before t)) ∙ turn_first (call_at b at) (left_from b (at + 32)) before t (next_rises g h)
          ∙ (λ i. run_at (left_from b (at + 32)) [] (sym s.is i) (sym c i));
      as_second =
          (λ i. turn (run_at [] (next_left g h i) before t)) ∙ turn_second (call_at b at) (left_from b (at + 32)) before t (next_rises g h)
          ∙ (λ i. run_at [] (left_from b (at + 32)) (sym s.is i) (sym c i));
      counted = c;
    }

pub none_taken : (b : List ℕ) (at : ℕ) (out : List ℕ) (t : ℕ) → LastTurns b at out t at t out
unfolding turns_run
none_taken b at out t = record { taken = 0; counted = sym (zero-add t); as_first = refl; as_second = refl }

pub one_taken : {b : List ℕ} {from : ℕ} {out₀ : List ℕ} {t₀ at t : ℕ} {out : List ℕ} {r : ℕ} {after : List ℕ}
    → LastTurns b from out₀ t₀ at t out → LastTurn b at out t r after → LastTurns b from out₀ t₀ (at + 32) r after
unfolding turns_run
one_taken g s =
    let e = g.counted in
    let f = s.counted in
    record {
      taken = suc g.taken;
      counted = omega arith;
      as_first = ap turn g.as_first ∙ s.as_first;
      as_second = ap turn g.as_second ∙ s.as_second;
    }

-- the output is as long as it was
pub last_long : {b : List ℕ} {from : ℕ} {out₀ : List ℕ} {t₀ at t : ℕ} {out : List ℕ} → LastTurns b from out₀ t₀ at t out → length out ≡ length out₀
last_long {b} {from} {out₀} {t₀} g =
    ap (λ (r : Run). length r.out) (sym g.as_first) ∙ turns_long g.taken (first_left b from out₀ t₀)

-- the rest of a book up to a place, and room for what is behind it
pub record Rest (b : List ℕ) (from : ℕ) (out₀ : List ℕ) (t₀ at : ℕ) (out : List ℕ) (t : ℕ) : Type 0 where
  pub read : ReadTo b at
  pub turns : LastTurns b from out₀ t₀ at t out
  pub room : place_of t + (length b - at) ≤ length out₀

pub rest_none : {b : List ℕ} {at : ℕ} → ReadTo b at → (out : List ℕ) (t : ℕ) → place_of t + (length b - at) ≤ length out → Rest b at out t at out t
rest_none {b} {at} g out t h = record { read = g; turns = none_taken b at out t; room = h }

module _ {b : List ℕ} {from : ℕ} {out₀ : List ℕ} {t₀ at : ℕ} {out : List ℕ} {t : ℕ} (g : Rest b from out₀ t₀ at out t) where
  pub rest_long : length out ≡ length out₀
  rest_long = last_long g.turns

  pub rest_room : at < length b → place_of t + 32 ≤ length out
  rest_room h =
      let e = goes_on_lem g.read h in
      let f = e.place in
      let w = e.within in
      let r = g.room in
      omega (arith, size b e.accepted, rest_long)

  pub rest_more : at < length b → {r : ℕ} {after : List ℕ} → LastTurn b at out t r after → Rest b from out₀ t₀ (at + 32) after r
  rest_more h s =
      let e = goes_on_lem g.read h in
      let f = e.place in
      let w = e.within in
      let r = g.room in
      let c = s.counted in
      record { read = e; turns = one_taken g.turns s; room = omega (arith, size b e.accepted) }

  pub rest_all : length b ≤ at → LastTurns b from out₀ t₀ (length b) t out
  rest_all h =
      let p = g.read.place in
      let w = g.read.within in
      let e : at ≡ length b = omega (arith, size b g.read.accepted) in
      rw e at g.turns

-- The whole run

-- turns from the beginning
pub record SoFar (first second out₀ : List ℕ) (a b : ℕ) (out : List ℕ) (t : ℕ) : Type 0 where
  pub is : turns_run t (begun first second out₀) ≡ stands first a second b out t
  pub in_first : ReadTo first a
  pub in_second : ReadTo second b

pub none_yet : (first second out : List ℕ) → IsAccepted first → IsAccepted second → SoFar first second out 16 16 out 0
unfolding turns_run begun
none_yet first second out p q =
    record { is = λ i. run_at (all_left first i) (all_left second i) out 0; in_first = from_start first p; in_second = from_start second q }

module _ {first second out₀ : List ℕ} {a b : ℕ} {out : List ℕ} {t : ℕ} (g : SoFar first second out₀ a b out t) where
  pub another : {r : Reached} {after : List ℕ} → TurnTaken first a second b out t r after → SoFar first second out₀ r.first r.second after r.turns
  unfolding turns_run
  another s =
      record {
        is = ap (λ (n : ℕ). turns_run n (begun first second out₀)) s.counted ∙ ap turn g.is ∙ s.is;
        in_first = s.in_first;
        in_second = s.in_second;
      }

  pub so_long : length out ≡ length out₀
  unfolding begun
  so_long = ap (λ (r : Run). length r.out) (sym g.is) ∙ turns_long t (begun first second out₀)

  -- as many are left as there are keys behind those whose turn was
  pub keys_left : t + length (merge (left_from first a) (left_from second b)) ≡ keys_of_both first second
  unfolding begun joined_of
  keys_left =
      let p = keys_rise first g.in_first.accepted in
      let q = keys_rise second g.in_second.accepted in
      (counted t (calls_of first) (calls_of second) p q out₀ (left_from first a) (left_from second b) out g.is).left
      ∙ ap length (merge_joins 0 (calls_of first) (calls_of second) p q) ∙ joined_length first second

  -- the rest of either book has its room
  pub room_left : size_of (keys_of_both first second) ≤ length out₀
      → (place_of t + (length first - a) ≤ length out) × (place_of t + (length second - b) ≤ length out)
  room_left h =
      let l = merges_long (merges (left_from first a) (left_from second b)) in
      let e = length_from g.in_first in
      let f = length_from g.in_second in
      let k = keys_left in
      (omega (arith, so_long), omega (arith, so_long))

  pub next_room : size_of (keys_of_both first second) ≤ length out₀ → a < length first → place_of t + 32 ≤ length out
  next_room h l = let r = room_left h in let e = goes_on_lem g.in_first l in let f = e.place in let w = e.within in omega (arith, size first e.accepted)

  pub both_over : {r : Reached} → r.first ≡ a → r.second ≡ b → r.turns ≡ t → (length first ≤ a) ⊎ (length second ≤ b) → TurnsTaken first second out₀ r out
  both_over e f n o =
      record {
        is = ap (λ (n : ℕ). turns_run n (begun first second out₀)) n ∙ g.is ∙ (λ i. stands first (sym e i) second (sym f i) out (sym n i));
        in_first = rw e g.in_first;
        in_second = rw f g.in_second;
        ended = rw (e, f) o;
      }

-- both books up to the end of one, the rest of the first, the rest of the second
module _ {first second out₀ : List ℕ} {r : Reached} {out : List ℕ} (g : TurnsTaken first second out₀ r out) where
  pub taken_so_far_lem : SoFar first second out₀ r.first r.second out r.turns
  taken_so_far_lem = record { is = g.is; in_first = g.in_first; in_second = g.in_second }

  module _ {t : ℕ} {mid : List ℕ} (h : LastTurns first r.first out r.turns (length first) t mid) where
    -- behind the rest of the first book
    behind_first : turns_run t (begun first second out₀) ≡ second_left second r.second mid t
    behind_first = go g.ended
      where
        first_over : left_from first (length first) ≡ []
        first_over = ends (to_end first g.in_first.accepted) (le_refl (length first))

        go : (length first ≤ r.first) ⊎ (length second ≤ r.second) → turns_run t (begun first second out₀) ≡ second_left second r.second mid t
        go (inl l) =
            let e = ends g.in_first l in
            let f : run_at [] [] out r.turns ≡ run_at [] [] mid t =
            sym (turns_over h.taken out r.turns) ∙ ap (λ (cs : List Call). turns_run h.taken (run_at cs [] out r.turns)) (sym e) ∙ h.as_first
            ∙ ap (λ (cs : List Call). run_at cs [] mid t) first_over in
            ap (λ (n : ℕ). turns_run n (begun first second out₀)) (ap (λ (w : Run). w.turns) (sym f)) ∙ g.is
            ∙ (λ i. run_at (e i) (left_from second r.second) (f i).out (f i).turns)
        go (inr l) =
            let e = ends g.in_second l in
            ap (λ (n : ℕ). turns_run n (begun first second out₀)) h.counted ∙ turns_add h.taken r.turns (begun first second out₀)
            ∙ ap (turns_run h.taken) (g.is ∙ ap (λ (cs : List Call). run_at (left_from first r.first) cs out r.turns) e)
            ∙ h.as_first ∙ (λ i. run_at (first_over i) (sym e i) mid t)

    pub all_turns : {n : ℕ} {after : List ℕ} → LastTurns second r.second mid t (length second) n after → turns_run n (begun first second out₀) ≡ over after n
    all_turns {n} {after} l =
        ap (λ (n : ℕ). turns_run n (begun first second out₀)) l.counted ∙ turns_add l.taken t (begun first second out₀)
        ∙ ap (turns_run l.taken) behind_first ∙ l.as_second
        ∙ ap (λ (cs : List Call). run_at [] cs after n) (ends (to_end second g.in_second.accepted) (le_refl (length second)))

    -- the rest of the second book has its room too
    pub second_room : size_of (keys_of_both first second) ≤ length out₀ → place_of t + (length second - r.second) ≤ length mid
    second_room k = (room_left behind k).1
      where
        behind : SoFar first second out₀ (length first) r.second mid t
        behind =
            record {
              is = behind_first ∙ ap (λ (cs : List Call). run_at cs (left_from second r.second) mid t) (sym (ends (to_end first g.in_first.accepted) (le_refl (length first))));
              in_first = to_end first g.in_first.accepted;
              in_second = g.in_second;
            }

-- a run that is over has a turn for each key, and has written the join
pub run_over : (first second out after : List ℕ) (t : ℕ) → IsAccepted first → IsAccepted second → turns_run t (begun first second out) ≡ over after t
    → (t ≡ keys_of_both first second) × Stores out 16 (record_bytes (joined_of first second)) after
unfolding begun joined_of merge
run_over first second out after t p q e =
    let r = keys_rise first p in
    let s = keys_rise second q in
    let g = counted t (calls_of first) (calls_of second) r s out [] [] after e in
    let j = merge_joins 0 (calls_of first) (calls_of second) r s in
    let n : t ≡ length (merge (calls_of first) (calls_of second)) = omega (arith, g.left) in (
      n ∙ ap length j ∙ joined_length first second,
      record { is = g.wrote ∙ ap (λ (cs : List Call). sets out 16 (record_bytes cs)) (take_all t (merge (calls_of first) (calls_of second)) (omega arith) ∙ j) },
    )

-- the run until no key is left, of books whose keys rise
module _ (first second out : List ℕ) (r : Rises 0 (calls_of first)) (s : Rises 0 (calls_of second)) where
  pub ran_over : ran first second out ≡ over (sets out 16 (record_bytes (joined_of first second))) (keys_of_both first second)
  unfolding ran begun joined_of
  ran_over =
      let xs = calls_of first in
      let ys = calls_of second in
      let j = merge_joins 0 xs ys r s in
      all_taken_lem (length xs + length ys) xs ys r s out 0 (merges_short (merges xs ys))
      ∙ (λ i. run_at [] [] (sets out 16 (record_bytes (j i))) ((zero-add (length (merge xs ys)) ∙ ap length j ∙ joined_length first second) i))

  pub ran_turns : (ran first second out).turns ≡ keys_of_both first second
  ran_turns = ap (λ (w : Run). w.turns) ran_over
