-- The counts brought forward, incoming call by incoming call. Assumes nothing.
use mathlib.Core.Path.{◌≡◌, refl, sym, ◌∙◌, ap}
use mathlib.Core.Bool.{Bool, true, false}
use mathlib.Core.Logic.{◌⊎◌, inl, inr}
use mathlib.Core.List.{List, [], ◌∷◌}
use mathlib.Core.Option.{Option, none, some}
use Prim.Native.Nat.{ℕ, zero, suc, ◌+◌, ◌*◌, ◌<◌, ◌≤◌}
use native.Mathlib.Omega.{arith}
use native.Mathlib.Decide.{dec_lt, ℕ_discrete}
use lib.Dec.{eqb}
use lib.ListN.{length, drop}
use borrow.Author.Tests.{eq-eqb, ne_eqb, lt-ltb, le-ltb}
use Rattle.le.specs.Le.{IsBytes}
use Rattle.call.specs.declared.Call.{Call}
use Rattle.call.specs.Key.{call_key}
use Rattle.call.specs.Layout.{call_at}
use Rattle.call.specs.Service.{CallWithin}
use Rattle.call.specs.Services.{most_participant}
use Rattle.book.specs.Book.{most_keys, header_at, calls_of}
use Rattle.book.specs.Check.{header_minutes}
use Rattle.book.specs.Sound.{CallsWithin, Rises}
use Rattle.rule.specs.Standing.{standing}
use Rattle.rule.specs.Keys.{record_of, also}
use Rattle.rule.specs.Joined.{join_calls}
use Rattle.rule.proofs.Keyed.{find_miss}
use Rattle.rule.proofs.Merging.{merges, merge_joins}
use Rattle.pair.specs.Screening.{IsAccepted}
use Rattle.join.specs.Steps.{ReadTo, left_from}
use Rattle.join.proofs.Books.{few, size, keys_rise}
use Rattle.join.proofs.Steps.{merges_short}
use Rattle.join.proofs.Taken.{all_left, from_start, ends, length_from, goes_on_lem, next_left, rises_left}
use Rattle.tabs.specs.declared.Tab.{Tab}
use Rattle.tabs.specs.declared.forward.Run.{Run}
use Rattle.tabs.specs.Tabs.{page_size, first_index, own_of, of_state, tabs_of, tabs_on, first_unfit}
use Rattle.tabs.specs.Forward.{replaced, stands_against, settled}
use Rattle.tabs.specs.Inner.{Ordered, is_of, Counted, count_on, hit, Recounted, is_at, RunTo, RunOn, FoundIn, Meeting, Passed, Facing, lost, gained, Able, CountsOf, Midway, Forwarded}
use Rattle.tabs.proofs.Members.{own_hit, own_miss, first_hit, first_miss}
use Rattle.tabs.proofs.Walking.{is_next, not_next, comes_next, skip, starts}
use Rattle.tabs.proofs.Stretches.{run_in, run_over}
use Rattle.tabs.proofs.Fits.{fits_is, fits_each}
use Rattle.tabs.proofs.Counting.{none_counted}
use Rattle.tabs.proofs.Seeking.{below_there, below_over, at_there, at_over, is_same, Known, counted_as, one_there, Seeking, seek_next, seek_over}
use Rattle.tabs.proofs.Tallies.{tally, one, tally_cons, tally_also, tally_most}
use Rattle.tabs.proofs.Fresh.{Balance, balanced}

-- One incoming call more

module _ (xs : List Call) (y : Call) (ys : List Call) (m s : ℕ) where
  settled_cons : tally m s (settled xs (y ∷ ys)) ≡ gained xs y m s + tally m s (settled xs ys)
  unfolding settled gained one tally
  settled_cons = tally_cons m s (stands_against (record_of (call_key y) xs) y) (settled xs ys)

  replaced_cons : tally m s (replaced xs (y ∷ ys)) ≡ lost xs y m s + tally m s (replaced xs ys)
  unfolding replaced lost tally
  replaced_cons = tally_also m s (record_of (call_key y) xs) (replaced xs ys)

also_most : (o : Option Call) (cs : List Call) → length (also o cs) ≤ suc (length cs)
unfolding also
also_most none cs = omega arith
also_most (some c) cs = omega arith

replaced_most : (xs ys : List Call) → length (replaced xs ys) ≤ length ys
unfolding replaced
replaced_most xs [] = omega arith
replaced_most xs (y ∷ ys) = omega (arith, also_most (record_of (call_key y) xs) (replaced xs ys), replaced_most xs ys)

-- A book's calls

within_drop : (n k : ℕ) (cs : List Call) → CallsWithin n cs → CallsWithin n (drop k cs)
within_drop n zero cs w = w
within_drop n (suc k) [] w = tt
within_drop n (suc k) (c ∷ cs) w = within_drop n k cs w.1

pub within_left : {b : List ℕ} {at : ℕ} → IsBytes b → ReadTo b at → CallsWithin (header_minutes (header_at b)) (left_from b at)
within_left {b} {at} small r =
    let u = starts b small r.accepted in
    let p = r.place in
    let l = length_from (from_start b r.accepted) in
    let w = r.within in
    let k = skip 16 r.index (from_start b r.accepted) (omega (arith, size b r.accepted)) in
    rw (p, k.1) (within_drop (header_minutes (header_at b)) r.index (left_from b 16) u.coming.within)

pub call_within : {b : List ℕ} {at : ℕ} → IsBytes b → ReadTo b at → at < length b → CallWithin (header_minutes (header_at b)) (call_at b at)
call_within small r h = (rw (next_left r h) at (within_left small r)).0

left_few : {b : List ℕ} {at : ℕ} → ReadTo b at → length (left_from b at) ≤ most_keys
left_few {b} r = let p = r.place in omega (arith, length_from r, size b r.accepted, few b r.accepted)

pub all_few : (b : List ℕ) → IsAccepted b → length (calls_of b) ≤ most_keys
all_few b p = omega (arith, ap length (all_left b), left_few (from_start b p))

module _ (first second : List ℕ) (p : IsAccepted first) (q : IsAccepted second) where
  pub joined_few : length (join_calls (calls_of first) (calls_of second)) ≤ most_keys + most_keys
  joined_few =
      omega (
        arith,
        ap length (merge_joins 0 (calls_of first) (calls_of second) (keys_rise first p) (keys_rise second q)),
        merges_short (merges (calls_of first) (calls_of second)),
        all_few first p,
        all_few second q,
      )

module _ (first second page : List ℕ) (p : IsAccepted first) (q : IsAccepted second) (o : CountsOf page (calls_of first)) where
  balance : (m s : ℕ) → Balance m s (calls_of first) (calls_of second) (join_calls (calls_of first) (calls_of second))
  balance m s = balanced m s (calls_of first) (calls_of second) (keys_rise first p) (keys_rise second q)

  pub bring_starts : Midway first second 16 page
  unfolding tally
  bring_starts =
      let e = all_left second in
      record {
        in_second = from_start second q;
        counts = λ m s c. rw (sym e) (omega (arith, o.is m s c, (balance m s).is));
        enough = λ m s. rw (sym e) (balance m s).enough;
        long = o.long;
      }

  pub bring_over : {b : ℕ} {mid : List ℕ} → Midway first second b mid → drop page_size mid ≡ drop page_size page → length mid ≡ length page → length second ≤ b
      → Forwarded page (calls_of first) (calls_of second) mid
  unfolding tally settled replaced of_state own_of
  bring_over {b} {mid} g d l h =
      let e = ends g.in_second h in
      record {
        counts = λ m s c.
            omega (
              arith,
              g.counts m s c,
              ap (λ (l : List Call). of_state s (own_of m (settled (calls_of first) l))) e,
              ap (λ (l : List Call). of_state s (own_of m (replaced (calls_of first) l))) e,
              o.is m s c,
              (balance m s).is,
            );
        behind = d;
        long = l;
      }

-- A member's calls in the first book

module _ {b : List ℕ} {m at end : ℕ} (g : RunTo b m at end) where
  module _ (h : at < end) where
    one_left : 0 < length (own_of m (left_from b at))
    one_left = let e = g.ends in omega arith

    here : (at < length b) × ((call_at b at).participant ≡ m)
    here =
        let z : at + 32 * 0 ≡ at = omega arith in
        let r = run_in g.coming 0 (omega arith) one_left in
        rw z at r

    pub run_there : at < length b
    run_there = here.0

    pub run_own : (call_at b at).participant ≡ m
    run_own = here.1

    pub run_next : RunTo b m (at + 32) end
    run_next =
        let e = g.ends in
        let l : length (own_of m (left_from b at)) ≡ suc (length (own_of m (left_from b (at + 32)))) =
        ap (λ (cs : List Call). length (own_of m cs)) (next_left g.coming.read run_there) ∙ ap length (own_hit m (call_at b at) (left_from b (at + 32)) run_own) in
        record { coming = comes_next g.coming run_there run_own; ends = omega arith }

  -- behind them
  pub run_above : end ≤ at → at < length b → m < (call_at b at).participant
  run_above h l =
      let e = g.ends in
      let z : at + 32 * 0 ≡ at = omega arith in
      let n : (call_at b at).participant ≡ m → ⊥ =
      λ p. run_over g.coming 0 (omega arith) (omega arith) (rw (sym z) at l) (ap (λ (i : ℕ). (call_at b i).participant) z ∙ p) in
      let o : (m ≤ (call_at b at).participant) × Ordered (call_at b at).participant (left_from b (at + 32)) = rw (next_left g.coming.read l) at g.coming.from in
      rises (call_at b at).participant o.0 n
    where
      rises : (p : ℕ) → m ≤ p → (p ≡ m → ⊥) → m < p
      rises p l k = omega arith

-- The place of an incoming key

pub record Seeks (first : List ℕ) (from end : ℕ) (y : Call) (at : ℕ) : Type 0 where
  pub run : RunTo first y.participant at end
  pub seeking : Seeking first from (call_key y) at

module _ {first : List ℕ} {from end : ℕ} {y : Call} {at : ℕ} (g : Seeks first from end y at) where
  module _ (h : at < end) where
    key_own : (call_at first at).participant ≡ y.participant
    key_own = run_own g.run h

    pub seeks_next : (call_at first at).number < y.number → Seeks first from end y (at + 32)
    seeks_next l =
        let e = key_own in
        record {
          run = run_next g.run h;
          seeking =
              seek_next g.seeking
              (sym (below_there first at (call_key y) (call_key (call_at first at)) (run_there g.run h) refl) ∙ lt-ltb (call_key (call_at first at)) (call_key y) (omega arith));
        }

    pub seeks_there : y.number ≤ (call_at first at).number → (k n : ℕ) → k ≡ (call_at first at).number → n ≡ y.number → FoundIn first from end y at (eqb k n)
    seeks_there l k n p q =
        let e = key_own in
        record {
          run = g.run;
          sought =
              seek_over g.seeking
              (sym (below_there first at (call_key y) (call_key (call_at first at)) (run_there g.run h) refl) ∙ le-ltb (call_key (call_at first at)) (call_key y) (omega arith));
          known = known (ℕ_discrete k n) ∙ at_there first at (call_key y) (call_key (call_at first at)) (run_there g.run h) refl;
        }
      where
        known : Dec (k ≡ n) → eqb k n ≡ eqb (call_key (call_at first at)) (call_key y)
        known (yes f) = let e = key_own in eq-eqb k n f ∙ sym (eq-eqb (call_key (call_at first at)) (call_key y) (omega arith))
        known (no f) = let e = key_own in ne_eqb k n f ∙ sym (ne_eqb (call_key (call_at first at)) (call_key y) (λ z. f (omega arith)))

  pub seeks_over : end ≤ at → y.number < 4294967296 → FoundIn first from end y at false
  seeks_over h n = go (dec_lt at (length first))
    where
      go : Dec (at < length first) → FoundIn first from end y at false
      go (no l) =
          let z : length first ≤ at = omega arith in
          record { run = g.run; sought = seek_over g.seeking (sym (below_over first at (call_key y) z)); known = at_over first at (call_key y) z }
      go (yes l) =
          let a = run_above g.run h l in
          record {
            run = g.run;
            sought = seek_over g.seeking (sym (below_there first at (call_key y) (call_key (call_at first at)) l refl) ∙ le-ltb (call_key (call_at first at)) (call_key y) (omega arith));
            known = sym (ne_eqb (call_key (call_at first at)) (call_key y) (λ e. omega arith)) ∙ at_there first at (call_key y) (call_key (call_at first at)) l refl;
          }

-- An incoming record against the first book's

module _
    {first : List ℕ} {from end : ℕ} {second : List ℕ} {b member : ℕ} (g : Meeting first from end second b member)
    {place : ℕ} {is_there : Bool} (f : FoundIn first from end (call_at second b) place is_there)
  where
    pub meets : Facing first place second b
    meets =
        record {
          in_first = f.sought.read;
          in_second = g.in_second;
          there = g.there;
          first_within = f.run.coming.within;
          second_within = g.second_within;
          same = g.same ∙ f.sought.same (call_key (call_at second b)) (omega arith);
          ended = f.sought.ended;
        }

    pub passed : Passed first from end (call_at second b) place
    passed = record { run = f.run; same = λ j l. f.sought.same j (omega arith) }

    pub passed_known : is_at first place (call_key (call_at second b)) ≡ true → Passed first from end (call_at second b) (place + 32)
    passed_known e =
        let h = is_same first place (call_key (call_at second b)) e in
        let k = h.1 in
        record {
          run = run_next f.run (before (dec_lt place end));
          same = λ j l.
              f.sought.same j (omega arith) ∙ ap (record_of j) (next_left f.sought.read h.0)
              ∙ find_miss j (call_at first place) (left_from first (place + 32)) (λ z. omega arith);
        }
      where
        before : Dec (place < end) → place < end
        before (yes l) = l
        before (no l) =
            let h = is_same first place (call_key (call_at second b)) e in
            let k = h.1 in
            let a = run_above f.run (omega arith) h.0 in
            let n = (rw (next_left g.in_second g.there) at g.second_within).0.number in
            absurd (omega arith)

-- a record stays in its state, or comes into another
module _ {xs : List Call} {x y : Call} {page : List ℕ} (k : Known xs x y) where
  pub stays : x.state ≡ (standing x y).state → Recounted page (lost xs y) (gained xs y) page
  stays e = counted_as k.loses k.gains (none_counted page y.participant x.state (standing x y).state e)

  module _ {m from to : ℕ} (p : m ≡ y.participant) (e : from ≡ x.state) (f : to ≡ (standing x y).state) where
    pub movable : Able page (lost xs y) → (page_size ≤ length page) × (Counted m from × (Counted m to × ((1 ≤ count_on page m from) × (count_on page m to < 65535))))
    movable a = rw (p, e, f) (a.long, (k.from, (k.to, (one_there k a, a.roomy y.participant (standing x y).state k.to))))

    pub moves : {after : List ℕ} → Recounted page (hit m from) (hit m to) after → Recounted page (lost xs y) (gained xs y) after
    moves r = counted_as k.loses k.gains (rw (p, e, f) at r)

-- So far: the counts, and how far the member's calls of the first book are read
pub record InMember (first second page : List ℕ) (m end from a b : ℕ) (mid : List ℕ) : Type 0 where
  pub midway : Midway first second b mid
  pub run : RunTo first m a end
  pub low : ℕ
  pub rises : Rises low (left_from second b)
  pub same : (k : ℕ) → low ≤ k → m * 4294967296 ≤ k → k < suc m * 4294967296 → record_of k (calls_of first) ≡ record_of k (left_from first a)
  pub behind : drop page_size mid ≡ drop page_size page
  pub long : length mid ≡ length page
  pub further : from ≤ b

module _ {first second page : List ℕ} {m end from a b : ℕ} {mid : List ℕ} (g : InMember first second page m end from a b mid)
    (small_second : IsBytes second) (h : is_of second b m ≡ true) where
  b_there : b < length second
  b_there = (is_next second b m h).0

  member-own : (call_at second b).participant ≡ m
  member-own = (is_next second b m h).1

  next : left_from second b ≡ call_at second b ∷ left_from second (b + 32)
  next = next_left g.midway.in_second b_there

  next_rises : (g.low ≤ call_key (call_at second b)) × Rises (suc (call_key (call_at second b))) (left_from second (b + 32))
  next_rises = rw next at g.rises

  y_within : CallWithin (header_minutes (header_at second)) (call_at second b)
  y_within = (rw next at (within_left small_second g.midway.in_second)).0

  pub faces : Meeting first a end second b m
  faces =
      let n = y_within.number in
      let e = member-own in
      record {
        run = g.run;
        in_second = g.midway.in_second;
        there = b_there;
        second_within = within_left small_second g.midway.in_second;
        is = sym member-own;
        same = g.same (call_key (call_at second b)) next_rises.0 (omega arith) (omega arith);
      }

  counts-next : (n s : ℕ) → Counted n s
      → count_on mid n s + (gained (calls_of first) (call_at second b) n s + tally n s (settled (calls_of first) (left_from second (b + 32))))
      ≡ tally n s (join_calls (calls_of first) (calls_of second)) + (lost (calls_of first) (call_at second b) n s + tally n s (replaced (calls_of first) (left_from second (b + 32))))
  unfolding tally
  counts-next n s c =
      omega (
        arith,
        g.midway.counts n s c,
        ap (λ (l : List Call). of_state s (own_of n (settled (calls_of first) l))) next,
        ap (λ (l : List Call). of_state s (own_of n (replaced (calls_of first) l))) next,
        settled_cons (calls_of first) (call_at second b) (left_from second (b + 32)) n s,
        replaced_cons (calls_of first) (call_at second b) (left_from second (b + 32)) n s,
      )

  enough-next : (n s : ℕ)
      → gained (calls_of first) (call_at second b) n s + tally n s (settled (calls_of first) (left_from second (b + 32))) ≤ tally n s (join_calls (calls_of first) (calls_of second))
  unfolding tally
  enough-next n s =
      omega (
        arith,
        g.midway.enough n s,
        ap (λ (l : List Call). of_state s (own_of n (settled (calls_of first) l))) next,
        settled_cons (calls_of first) (call_at second b) (left_from second (b + 32)) n s,
      )

  pub able : Able mid (lost (calls_of first) (call_at second b))
  unfolding tally
  able =
      record {
        long = g.midway.long;
        enough = λ n s c. omega (arith, counts-next n s c, enough-next n s);
        roomy = λ n s c.
            omega (
              arith,
              g.midway.counts n s c,
              tally_most n s (join_calls (calls_of first) (calls_of second)),
              joined_few first second g.run.coming.read.accepted g.midway.in_second.accepted,
              tally_most n s (replaced (calls_of first) (left_from second b)),
              replaced_most (calls_of first) (left_from second b),
              left_few g.midway.in_second,
            );
      }

  pub member-next : {r : ℕ} {after : List ℕ} → Passed first a end (call_at second b) r
      → Recounted mid (lost (calls_of first) (call_at second b)) (gained (calls_of first) (call_at second b)) after
      → InMember first second page m end from r (b + 32) after
  unfolding tally
  member-next t f =
      let low = next_rises.0 in
      let l = g.further in
      record {
        midway =
            record {
              in_second = goes_on_lem g.midway.in_second b_there;
              counts = λ n s c. omega (arith, counts-next n s c, f.counts n s c);
              enough = λ n s. omega (arith, enough-next n s);
              long = omega (arith, f.long, g.midway.long);
            };
        run = rw member-own at t.run;
        low = suc (call_key (call_at second b));
        rises = next_rises.1;
        same = λ k l p q. g.same k (omega arith) p q ∙ t.same k (omega arith);
        behind = f.behind ∙ g.behind;
        long = f.long ∙ g.long;
        further = omega arith;
      }

-- The first book's calls of a member, by its page

index_most : (m : ℕ) (cs : List Call) → first_index m cs ≤ length cs
unfolding first_index
index_most m [] = omega arith
index_most m (c ∷ cs) = go (index_most m cs) (ℕ_discrete c.participant m)
  where
    go : first_index m cs ≤ length cs → Dec (c.participant ≡ m) → first_index m (c ∷ cs) ≤ suc (length cs)
    go ih (yes e) = omega (arith, first_hit m c cs e)
    go ih (no e) = omega (arith, first_miss m c cs e)

from_index : (m l : ℕ) (cs : List Call) → Ordered l cs → Ordered m (drop (first_index m cs) cs)
unfolding first_index
from_index m l [] o = tt
from_index m l (c ∷ cs) o = go (from_index m c.participant cs o.1) (ℕ_discrete c.participant m)
  where
    go : Ordered m (drop (first_index m cs) cs) → Dec (c.participant ≡ m) → Ordered m (drop (first_index m (c ∷ cs)) (c ∷ cs))
    go ih (yes e) = rw (first_hit m c cs e) (omega arith, o.1)
    go ih (no e) = rw (first_miss m c cs e) ih

own_index : (m : ℕ) (cs : List Call) → own_of m (drop (first_index m cs) cs) ≡ own_of m cs
unfolding first_index own_of
own_index m [] = refl
own_index m (c ∷ cs) = go (own_index m cs) (ℕ_discrete c.participant m)
  where
    go : own_of m (drop (first_index m cs) cs) ≡ own_of m cs → Dec (c.participant ≡ m) → own_of m (drop (first_index m (c ∷ cs)) (c ∷ cs)) ≡ own_of m (c ∷ cs)
    go ih (yes e) = rw (first_hit m c cs e) refl
    go ih (no e) = rw (first_miss m c cs e) (ih ∙ sym (own_miss m c cs e))

record_index : (n m k : ℕ) (cs : List Call) → CallsWithin n cs → m * 4294967296 ≤ k → k < suc m * 4294967296 → record_of k cs ≡ record_of k (drop (first_index m cs) cs)
unfolding first_index record_of
record_index n m k [] w p q = refl
record_index n m k (c ∷ cs) w p q = go (record_index n m k cs w.1 p q) (ℕ_discrete c.participant m)
  where
    other : (x : ℕ) → x < 4294967296 → (j : ℕ) → (j ≡ m → ⊥) → j * 4294967296 + x ≡ k → ⊥
    other x l j e f = omega arith

    go : record_of k cs ≡ record_of k (drop (first_index m cs) cs) → Dec (c.participant ≡ m) → record_of k (c ∷ cs) ≡ record_of k (drop (first_index m (c ∷ cs)) (c ∷ cs))
    go ih (yes e) = rw (first_hit m c cs e) refl
    go ih (no e) = rw (first_miss m c cs e) (find_miss k c cs (λ f. other c.number w.0.number c.participant e f) ∙ ih)

module _ (first given : List ℕ) (small : IsBytes first) (p : IsAccepted first) (z : first_unfit given (calls_of first) ≡ 0) {m : ℕ} (h : 1 ≤ m) (l : m ≤ most_participant)
    {r : Run} (o : RunOn given m r) where
  given-on : tabs_on given m ≡ tabs_of (calls_of first) m
  given-on = (fits_is given (calls_of first) m (fits_each given (calls_of first) z m h l)).1

  starts-at : r.at ≡ 16 + 32 * first_index m (calls_of first)
  unfolding tabs_of
  starts-at = o.at ∙ ap (λ (t : Tab). 16 + 32 * t.index) given-on

  ends_at : r.end ≡ r.at + 32 * length (own_of m (calls_of first))
  unfolding tabs_of
  ends_at = o.end ∙ ap (λ (t : Tab). r.at + 32 * t.count) given-on

  left-given : left_from first (16 + 32 * first_index m (calls_of first)) ≡ drop (first_index m (calls_of first)) (calls_of first)
  left-given =
      let e = all_left first in
      let n : first_index m (calls_of first) ≤ length (left_from first 16) = omega (arith, index_most m (calls_of first), ap length e) in
      (skip 16 (first_index m (calls_of first)) (from_start first p) n).1 ∙ ap (drop (first_index m (calls_of first))) (sym e)

  reads : ReadTo first (16 + 32 * first_index m (calls_of first))
  reads =
      let n : first_index m (calls_of first) ≤ length (left_from first 16) = omega (arith, index_most m (calls_of first), ap length (all_left first)) in
      (skip 16 (first_index m (calls_of first)) (from_start first p) n).0

  pub run-given : RunTo first m r.at r.end
  run-given =
      let u = starts first small p in
      let s = starts-at in
      let w = within_left small reads in
      let own : own_of m (left_from first (16 + 32 * first_index m (calls_of first))) ≡ own_of m (calls_of first) = ap (own_of m) left-given ∙ own_index m (calls_of first) in
      let f : Ordered m (left_from first (16 + 32 * first_index m (calls_of first))) =
      rw left-given (from_index m 1 (calls_of first) (rw (all_left first) u.coming.from)) in
      record {
        coming = rw s (record { read = reads; within = w; from = f });
        ends = ends_at ∙ rw s (ap (λ (k : ℕ). 16 + 32 * first_index m (calls_of first) + 32 * k) (sym (ap length own)));
      }

  pub same-given : (k : ℕ) → m * 4294967296 ≤ k → k < suc m * 4294967296 → record_of k (calls_of first) ≡ record_of k (left_from first r.at)
  same-given k a b =
      record_index (header_minutes (header_at first)) m k (calls_of first) (rw (all_left first) (within_left small (from_start first p))) a b
      ∙ ap (record_of k) (sym left-given) ∙ ap (λ (i : ℕ). record_of k (left_from first i)) (sym starts-at)

pub member_starts : {first second page : List ℕ} {m end from a : ℕ} → Midway first second from page → RunTo first m a end
    → ((k : ℕ) → m * 4294967296 ≤ k → k < suc m * 4294967296 → record_of k (calls_of first) ≡ record_of k (left_from first a))
    → InMember first second page m end from a from page
member_starts g r s =
    record { midway = g; run = r; low = 0; rises = rises_left g.in_second; same = λ k l p q. s k p q; behind = refl; long = refl; further = omega arith }

-- at least one record of the member is counted
pub member_over : {first second page : List ℕ} {m end from a b : ℕ} {mid : List ℕ} → InMember first second page m end from a b mid → from < length second
    → (call_at second from).participant ≡ m → is_of second b m ≡ false → from < b
member_over {second = second} {m} {from = from} {b = b} g h e f = go (ℕ_discrete from b)
  where
    go : Dec (from ≡ b) → from < b
    go (no n) = let l = g.further in omega arith
    go (yes n) = absurd (split (not_next second from m (ap (λ (i : ℕ). is_of second i m) n ∙ f)))
      where
        split : (length second ≤ from) ⊎ ((from < length second) × ((call_at second from).participant ≡ m → ⊥)) → ⊥
        split (inl z) = omega arith
        split (inr z) = z.1 e
