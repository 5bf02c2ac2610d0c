-- One turn over lists whose keys rise, and so many turns: what they write, what they leave, and that they end. Assumes nothing.
use mathlib.Core.Path.{◌≡◌, refl, sym, ◌∙◌, ap}
use mathlib.Core.Logic.{inl, inr, ⊎_elim}
use mathlib.Core.List.Memᴰ.{append_cases as in-append}
use mathlib.Core.List.Memᴰ.{append_right as in_right}
use mathlib.Core.List.Memᴰ.{cases_cons as in-cons}
use mathlib.Core.List.Memᴰ.{head as here}
use mathlib.Core.List.Memᴰ.{not-nil as in-nil}
use mathlib.Core.List.Memᴰ.{tail as there}
use mathlib.Core.List.{
  List,
  [],
  ◌∷◌,
  ◌++◌,
  append-nil,
  Memᴰ as In,
}
use mathlib.Core.Option.{Option, none, some}
use Prim.Native.Nat.{ℕ, zero, suc, ◌+◌, ◌-◌, ◌≤◌, ◌<◌, min}
use native.Mathlib.Nat.{le_refl, add-zero, zero-add}
use native.Mathlib.Decide.{dec_lt}
use native.Mathlib.Omega.{arith}
use lib.ListN.{length, take, drop, length-drop}
use lib.Seq.{sets, length-sets, take-length, drop-length}
use Rattle.le.specs.Le.{Stores}
use Rattle.le.proofs.Laws.{then}
use Rattle.call.specs.declared.Call.{Call}
use Rattle.call.specs.Key.{call_key}
use Rattle.call.specs.Layout.{call_bytes}
use Rattle.call.proofs.Bytes.{length_call}
use Rattle.book.specs.Book.{place_of, record_bytes}
use Rattle.book.specs.Sound.{Rises}
use Rattle.book.specs.Without.{without}
use Rattle.book.proofs.Without.{without_hit, without_none}
use Rattle.rule.specs.Standing.{standing}
use Rattle.rule.specs.Keys.{record_of}
use Rattle.rule.specs.Joined.{joined_at, joined_for}
use Rattle.rule.specs.Inner.{merge}
use Rattle.rule.proofs.Keyed.{Three, three, weaken, call_above, find_hit, find_below}
use Rattle.rule.proofs.Merging.{merge_nil, merge_lt, merge_gt, merge_eq}
use Rattle.join.specs.Turns.{Run, lower_of, lowest_key, placed, turn_for, turn, turns_run}

-- a run that has come so far
abbrev pub run_at : List Call → List Call → List ℕ → ℕ → Run
run_at xs ys out t = record { first = xs; second = ys; out = out; turns = t }

-- The lowest key

lowest_above : (n : ℕ) (cs : List Call) → ((d : Call) → In d cs → n ≤ call_key d) → lower_of n (lowest_key cs) ≡ some n
unfolding lowest_key lower_of
lowest_above n [] h = refl
lowest_above n (d ∷ cs) h = go (lowest_key cs) (lowest_above n cs (λ e i. h e (there i)))
  where
    go : (o : Option ℕ) → lower_of n o ≡ some n → lower_of n (lower_of (call_key d) o) ≡ some n
    go none e = let l = h d (here refl) in ap some (omega arith)
    go (some j) e = let l = h d (here refl) in let f : min n j ≡ n = cc in ap some (omega arith)

-- a call's key is the lowest where none is lower
pub lowest_is : (c : Call) (cs : List Call) → In c cs → ((d : Call) → In d cs → call_key c ≤ call_key d) → lowest_key cs ≡ some (call_key c)
unfolding lowest_key lower_of
lowest_is c [] i h = absurd (in-nil i)
lowest_is c (d ∷ cs) i h =
    ⊎_elim (λ (e : c ≡ d). lowest_above (call_key d) cs (λ x j. let l = h x (there j) in omega (arith, ap call_key e)) ∙ ap (λ (x : Call). some (call_key x)) (sym e))
    (λ j. let l = h d (here refl) in ap (lower_of (call_key d)) (lowest_is c cs j (λ x m. h x (there m))) ∙ ap some (omega arith)) (in-cons i)

-- One turn

module _ (xs ys : List Call) (out : List ℕ) (t : ℕ) where
  turned : (k : ℕ) (z : Call) (xs' ys' : List Call) → lowest_key (xs ++ ys) ≡ some k → without k xs ≡ xs' → without k ys ≡ ys' → joined_for xs ys k ≡ some z
      → turn (run_at xs ys out t) ≡ run_at xs' ys' (sets out (place_of t) (call_bytes z)) (suc t)
  unfolding turn turn_for placed
  turned k z xs' ys' l p q j =
      ap (λ (o : Option ℕ). turn_for o (run_at xs ys out t)) l
      ∙ (λ i. run_at (p i) (q i) (placed (j i) t out) (suc t))

pub no_turn : (out : List ℕ) (t : ℕ) → turn (run_at [] [] out t) ≡ run_at [] [] out t
unfolding turn turn_for lowest_key
no_turn out t = refl

-- the lowest key of the first list alone, of the second alone, of both
module _ (x : Call) (xs : List Call) (out : List ℕ) (t : ℕ) where
  -- of a list whose other is used up
  pub turn_first : Rises 0 (x ∷ xs) → turn (run_at (x ∷ xs) [] out t) ≡ run_at xs [] (sets out (place_of t) (call_bytes x)) (suc t)
  unfolding without joined_for joined_at record_of
  turn_first r =
      let k = call_key x in
      turned (x ∷ xs) [] out t k x xs []
      (lowest_is x (x ∷ xs ++ []) (here refl) (λ d i. low d (rw (append-nil (x ∷ xs)) at i)))
      (without_hit k x xs refl ∙ without_none k (suc k) xs (le_refl (suc k)) r.1) refl
      (ap (λ (o : Option Call). joined_at o none) (find_hit k x xs refl))
    where
      low : (d : Call) → In d (x ∷ xs) → call_key x ≤ call_key d
      low d i = call_above (call_key x) (x ∷ xs) d (le_refl (call_key x), r.1) i

  pub turn_second : Rises 0 (x ∷ xs) → turn (run_at [] (x ∷ xs) out t) ≡ run_at [] xs (sets out (place_of t) (call_bytes x)) (suc t)
  unfolding without joined_for joined_at record_of
  turn_second r =
      let k = call_key x in
      turned [] (x ∷ xs) out t k x [] xs
      (lowest_is x (x ∷ xs) (here refl) low) refl
      (without_hit k x xs refl ∙ without_none k (suc k) xs (le_refl (suc k)) r.1)
      (ap (joined_at none) (find_hit k x xs refl))
    where
      low : (d : Call) → In d (x ∷ xs) → call_key x ≤ call_key d
      low d i = call_above (call_key x) (x ∷ xs) d (le_refl (call_key x), r.1) i

module _ (x : Call) (xs : List Call) (y : Call) (ys : List Call) (r : Rises 0 (x ∷ xs)) (s : Rises 0 (y ∷ ys)) (out : List ℕ) (t : ℕ) where
  -- no key of either list is below one that is at most the first of each
  lows : (k : ℕ) → k ≤ call_key x → k ≤ call_key y → (d : Call) → In d (x ∷ xs ++ y ∷ ys) → k ≤ call_key d
  lows k h l d i =
      ⊎_elim (λ j. call_above k (x ∷ xs) d (h, r.1) j) (λ j. call_above k (y ∷ ys) d (l, s.1) j) (in-append (x ∷ xs) i)

  pub turn_lower : call_key x < call_key y → turn (run_at (x ∷ xs) (y ∷ ys) out t) ≡ run_at xs (y ∷ ys) (sets out (place_of t) (call_bytes x)) (suc t)
  unfolding joined_for joined_at
  turn_lower h =
      let k = call_key x in
      turned (x ∷ xs) (y ∷ ys) out t k x xs (y ∷ ys)
      (lowest_is x (x ∷ xs ++ y ∷ ys) (here refl) (lows k (le_refl k) (omega arith)))
      (without_hit k x xs refl ∙ without_none k (suc k) xs (le_refl (suc k)) r.1)
      (without_none k (suc k) (y ∷ ys) (le_refl (suc k)) (h, s.1))
      (λ i. joined_at (find_hit k x xs refl i) (find_below (suc k) k (y ∷ ys) (h, s.1) (le_refl (suc k)) i))

  pub turn_upper : call_key y < call_key x → turn (run_at (x ∷ xs) (y ∷ ys) out t) ≡ run_at (x ∷ xs) ys (sets out (place_of t) (call_bytes y)) (suc t)
  unfolding joined_for joined_at
  turn_upper h =
      let k = call_key y in
      turned (x ∷ xs) (y ∷ ys) out t k y (x ∷ xs) ys
      (lowest_is y (x ∷ xs ++ y ∷ ys) (in_right (x ∷ xs) (here refl)) (lows k (omega arith) (le_refl k)))
      (without_none k (suc k) (x ∷ xs) (le_refl (suc k)) (h, r.1))
      (without_hit k y ys refl ∙ without_none k (suc k) ys (le_refl (suc k)) s.1)
      (λ i. joined_at (find_below (suc k) k (x ∷ xs) (h, r.1) (le_refl (suc k)) i) (find_hit k y ys refl i))

  pub turn_equal : call_key x ≡ call_key y → turn (run_at (x ∷ xs) (y ∷ ys) out t) ≡ run_at xs ys (sets out (place_of t) (call_bytes (standing x y))) (suc t)
  unfolding joined_for joined_at
  turn_equal h =
      let k = call_key x in
      turned (x ∷ xs) (y ∷ ys) out t k (standing x y) xs ys
      (lowest_is x (x ∷ xs ++ y ∷ ys) (here refl) (lows k (le_refl k) (omega arith)))
      (without_hit k x xs refl ∙ without_none k (suc k) xs (le_refl (suc k)) r.1)
      (without_hit k y ys (sym h) ∙ without_none k (suc (call_key y)) ys (omega arith) s.1)
      (λ i. joined_at (find_hit k x xs refl i) (find_hit k y ys (sym h) i))

-- So many turns

pub turns_add : (s t : ℕ) (r : Run) → turns_run (s + t) r ≡ turns_run s (turns_run t r)
unfolding turns_run
turns_add zero t r = ap (λ (n : ℕ). turns_run n r) (zero-add t)
turns_add (suc s) t r =
    let e : suc s + t ≡ suc (s + t) = omega arith in
    ap (λ (n : ℕ). turns_run n r) e ∙ ap turn (turns_add s t r)

-- the first turn, and the others
pub turns_front : (t : ℕ) (r : Run) → turns_run (suc t) r ≡ turns_run t (turn r)
unfolding turns_run
turns_front zero r = refl
turns_front (suc t) r = ap turn (turns_front t r)

-- where no key is left, nothing goes on
pub turns_over : (t : ℕ) (out : List ℕ) (n : ℕ) → turns_run t (run_at [] [] out n) ≡ run_at [] [] out n
unfolding turns_run
turns_over zero out n = refl
turns_over (suc t) out n = ap turn (turns_over t out n) ∙ no_turn out n

-- the next record of a merge: a turn writes it, and leaves what the rest is the merge of
pub record Next (xs ys : List Call) (z : Call) (zs : List Call) : Type 0 where
  pub first : List Call
  pub second : List Call
  pub first_rises : Rises 0 first
  pub second_rises : Rises 0 second
  pub rest : merge first second ≡ zs
  pub takes : (out : List ℕ) (t : ℕ) → turn (run_at xs ys out t) ≡ run_at first second (sets out (place_of t) (call_bytes z)) (suc t)

higher : (c : Call) (cs : List Call) → Rises (suc (call_key c)) cs → Rises 0 cs
higher c cs r = weaken 0 (suc (call_key c)) cs (omega arith) r

pub next : (xs ys : List Call) → Rises 0 xs → Rises 0 ys → (z : Call) (zs : List Call) → merge xs ys ≡ z ∷ zs → Next xs ys z zs
unfolding merge
next [] [] r s z zs e = let c : ◌≡◌ {A = ℕ} 0 1 = cc in absurd (omega arith)
next [] (y ∷ ys) r s z zs e =
    let p : y ≡ z = cc in
    let q : ys ≡ zs = cc in
    record {
      first = [];
      second = ys;
      first_rises = tt;
      second_rises = higher y ys s.1;
      rest = q;
      takes = λ out t. turn_second y ys out t s ∙ ap (λ (c : Call). run_at [] ys (sets out (place_of t) (call_bytes c)) (suc t)) p;
    }
next (x ∷ xs) [] r s z zs e =
    let p : x ≡ z = cc (merge_nil (x ∷ xs)) in
    let q : xs ≡ zs = cc (merge_nil (x ∷ xs)) in
    record {
      first = xs;
      second = [];
      first_rises = higher x xs r.1;
      second_rises = tt;
      rest = merge_nil xs ∙ q;
      takes = λ out t. turn_first x xs out t r ∙ ap (λ (c : Call). run_at xs [] (sets out (place_of t) (call_bytes c)) (suc t)) p;
    }
next (x ∷ xs) (y ∷ ys) r s z zs e = go (three (call_key x) (call_key y))
  where
    go : Three (call_key x) (call_key y) → Next (x ∷ xs) (y ∷ ys) z zs
    go (inl h) =
        let p : x ≡ z = cc (merge_lt x xs y ys h) in
        record {
          first = xs;
          second = y ∷ ys;
          first_rises = higher x xs r.1;
          second_rises = s;
          rest = cc (merge_lt x xs y ys h);
          takes = λ out t. turn_lower x xs y ys r s out t h ∙ ap (λ (c : Call). run_at xs (y ∷ ys) (sets out (place_of t) (call_bytes c)) (suc t)) p;
        }
    go (inr (inl h)) =
        let p : standing x y ≡ z = cc (merge_eq x xs y ys h) in
        record {
          first = xs;
          second = ys;
          first_rises = higher x xs r.1;
          second_rises = higher y ys s.1;
          rest = cc (merge_eq x xs y ys h);
          takes = λ out t. turn_equal x xs y ys r s out t h ∙ ap (λ (c : Call). run_at xs ys (sets out (place_of t) (call_bytes c)) (suc t)) p;
        }
    go (inr (inr h)) =
        let p : y ≡ z = cc (merge_gt x xs y ys h) in
        record {
          first = x ∷ xs;
          second = ys;
          first_rises = r;
          second_rises = higher y ys s.1;
          rest = cc (merge_gt x xs y ys h);
          takes = λ out t. turn_upper x xs y ys r s out t h ∙ ap (λ (c : Call). run_at (x ∷ xs) ys (sets out (place_of t) (call_bytes c)) (suc t)) p;
        }

-- no record is left exactly where no key is
pub none_left : (xs ys : List Call) → merge xs ys ≡ [] → (xs ≡ []) × (ys ≡ [])
unfolding merge
none_left [] ys e = (refl, e)
none_left (x ∷ xs) [] e = let c : ◌≡◌ {A = ℕ} 0 1 = cc (merge_nil (x ∷ xs)) in absurd (omega arith)
none_left (x ∷ xs) (y ∷ ys) e = go (three (call_key x) (call_key y))
  where
    go : Three (call_key x) (call_key y) → (x ∷ xs ≡ []) × (y ∷ ys ≡ [])
    go (inl h) = let c : ◌≡◌ {A = ℕ} 0 1 = cc (merge_lt x xs y ys h) in absurd (omega arith)
    go (inr (inl h)) = let c : ◌≡◌ {A = ℕ} 0 1 = cc (merge_eq x xs y ys h) in absurd (omega arith)
    go (inr (inr h)) = let c : ◌≡◌ {A = ℕ} 0 1 = cc (merge_gt x xs y ys h) in absurd (omega arith)

-- after so many turns: the first so many records of the merge are written, and its others are what the merge of the rest has
pub record After (xs ys : List Call) (out : List ℕ) (n : ℕ) (zs : List Call) (t : ℕ) : Type 0 where
  pub first : List Call
  pub second : List Call
  pub first_rises : Rises 0 first
  pub second_rises : Rises 0 second
  pub rest : merge first second ≡ drop t zs
  pub is : turns_run t (run_at xs ys out n) ≡ run_at first second (sets out (place_of n) (record_bytes (take t zs))) (n + t)

-- a record behind others
one_more : (out : List ℕ) (n : ℕ) (c : Call) (cs : List Call) → sets (sets out (place_of n) (call_bytes c)) (place_of (suc n)) (record_bytes cs) ≡ sets out (place_of n) (record_bytes (c ∷ cs))
unfolding record_bytes
one_more out n c cs =
    let one : Stores out (place_of n) (call_bytes c) (sets out (place_of n) (call_bytes c)) = record { is = refl } in
    let all : Stores (sets out (place_of n) (call_bytes c)) (place_of (suc n)) (record_bytes cs) (sets (sets out (place_of n) (call_bytes c)) (place_of (suc n)) (record_bytes cs)) = record
    { is = refl } in
    (then (place_of (suc n)) (omega (arith, length_call c)) one all).is

pub after : (t : ℕ) (xs ys : List Call) → Rises 0 xs → Rises 0 ys → (out : List ℕ) (n : ℕ) (zs : List Call) → merge xs ys ≡ zs → t ≤ length zs → After xs ys out n zs t
unfolding turns_run record_bytes
after zero xs ys r s out n zs e h =
    record { first = xs; second = ys; first_rises = r; second_rises = s; rest = e; is = ap (run_at xs ys out) (sym (add-zero n)) }
after (suc t) xs ys r s out n [] e h = absurd (omega arith)
after (suc t) xs ys r s out n (z ∷ zs) e h =
    let w = next xs ys r s z zs e in
    let a = after t w.first w.second w.first_rises w.second_rises (sets out (place_of n) (call_bytes z)) (suc n) zs w.rest (omega arith) in
    let f : suc n + t ≡ n + suc t = omega arith in
    record {
      first = a.first;
      second = a.second;
      first_rises = a.first_rises;
      second_rises = a.second_rises;
      rest = a.rest;
      is =
          turns_front t (run_at xs ys out n) ∙ ap (turns_run t) (w.takes out n) ∙ a.is
          ∙ (λ i. run_at a.first a.second (one_more out n z (take t zs) i) (f i));
    }

-- more turns than there are records change nothing more
pub all_taken_lem : (t : ℕ) (xs ys : List Call) → Rises 0 xs → Rises 0 ys → (out : List ℕ) (n : ℕ) → length (merge xs ys) ≤ t
    → turns_run t (run_at xs ys out n) ≡ run_at [] [] (sets out (place_of n) (record_bytes (merge xs ys))) (n + length (merge xs ys))
all_taken_lem t xs ys r s out n h =
    let zs = merge xs ys in
    let m = length zs in
    let a = after m xs ys r s out n zs refl (le_refl m) in
    let e = none_left a.first a.second (a.rest ∙ drop-length zs) in
    let f : t ≡ (t - m) + m = omega arith in
    ap (λ (k : ℕ). turns_run k (run_at xs ys out n)) f ∙ turns_add (t - m) m (run_at xs ys out n)
    ∙ ap (turns_run (t - m)) (a.is ∙ (λ i. run_at (e.0 i) (e.1 i) (sets out (place_of n) (record_bytes (take-length zs i))) (n + m)))
    ∙ turns_over (t - m) (sets out (place_of n) (record_bytes zs)) (n + m)

-- a run whose turns are all counted: what it has written, and how many are left
pub record Counted (xs ys : List Call) (out : List ℕ) (t : ℕ) (xs' ys' : List Call) (out' : List ℕ) : Type 0 where
  pub left : t + length (merge xs' ys') ≡ length (merge xs ys)
  pub wrote : out' ≡ sets out (place_of 0) (record_bytes (take t (merge xs ys)))

pub counted : (t : ℕ) (xs ys : List Call) → Rises 0 xs → Rises 0 ys → (out : List ℕ) (xs' ys' : List Call) (out' : List ℕ)
    → turns_run t (run_at xs ys out 0) ≡ run_at xs' ys' out' t → Counted xs ys out t xs' ys' out'
counted t xs ys r s out xs' ys' out' e = go (dec_lt (length (merge xs ys)) t)
  where
    go : Dec (length (merge xs ys) < t) → Counted xs ys out t xs' ys' out'
    go (yes h) =
        let f : t ≡ length (merge xs ys) = ap (λ (w : Run). w.turns) (sym e ∙ all_taken_lem t xs ys r s out 0 (omega arith)) ∙ zero-add (length (merge xs ys)) in
        absurd (omega arith)
    go (no h) =
        let zs = merge xs ys in
        let a = after t xs ys r s out 0 zs refl (omega arith) in
        let f = sym e ∙ a.is in
        let p : merge xs' ys' ≡ drop t zs = (λ i. merge (f i).first (f i).second) ∙ a.rest in
        record { left = omega (arith, ap length p, length-drop t zs); wrote = ap (λ (w : Run). w.out) f }

-- The output keeps its length

placed_long : (o : Option Call) (n : ℕ) (out : List ℕ) → length (placed o n out) ≡ length out
unfolding placed
placed_long none n out = refl
placed_long (some c) n out = length-sets out (place_of n) (call_bytes c)

turn_long : (r : Run) → length (turn r).out ≡ length r.out
unfolding turn turn_for
turn_long r = go (lowest_key (r.first ++ r.second))
  where
    go : (o : Option ℕ) → length (turn_for o r).out ≡ length r.out
    go none = refl
    go (some k) = placed_long (joined_for r.first r.second k) r.turns r.out

pub turns_long : (t : ℕ) (r : Run) → length (turns_run t r).out ≡ length r.out
unfolding turns_run
turns_long zero r = refl
turns_long (suc t) r = turn_long (turns_run t r) ∙ turns_long t r
