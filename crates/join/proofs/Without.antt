-- One key taken out of every book of a month: whatever the tree of joins, it gives the book of before without that key. Assumes nothing.
use mathlib.Core.Path.{◌≡◌, refl, sym, ◌∙◌, ap, ap₂, subst}
use mathlib.Core.Bool.{true}
use mathlib.Core.List.Memᴰ
use mathlib.Core.List.Memᴰ.{head as here}
use mathlib.Core.List.Memᴰ.{tail as there}
use mathlib.Core.List.{List, [], ◌∷◌, ◌++◌, map, Memᴰ as In}
use Prim.Native.Nat.{ℕ, ◌≤◌, ◌<◌}
use native.Mathlib.Omega.{arith}
use lib.ListN.{length}
use borrow.Author.Tests.{eqb-true}
use Rattle.call.specs.declared.Call.{Call}
use Rattle.call.specs.Key.{call_key}
use Rattle.call.specs.Revising.{withdrawn}
use Rattle.book.specs.declared.Header.{Header}
use Rattle.book.specs.Book.{most_keys, header_at, count_at, record_at, calls_of}
use Rattle.book.specs.Sound.{Sound, SaysSame}
use Rattle.book.specs.Without.{without, book_without}
use Rattle.book.proofs.Without.{without_sound, without_reads, call_place}
use Rattle.rule.specs.Keys.{different_keys}
use Rattle.rule.specs.Standing.{is_withdrawn}
use Rattle.rule.specs.Whole.{rule_calls}
use Rattle.rule.proofs.Without.{rule_without, fewer_keys}
use Rattle.join.specs.Joining.{key_count}
use Rattle.join.specs.Trees.{Plan, book, join, books, written, result, Room, OneMonth, Covers}
use Rattle.join.specs.Without.{plan_without}
use Rattle.join.proofs.Trees.{keys_of}
use Rattle.join.proofs.Orders.{result_reads, result_sound, stays_withdrawn}

module _ (h : Header) (bs : List (List ℕ)) (month : OneMonth h bs) (k : ℕ) where
  -- The books without that key are sound books of the same month and area,
  pub without_month : OneMonth h (map (book_without k) bs)
  without_month = record { sound = sound; header = header }
    where
      sound : (b : List ℕ) → In b (map (book_without k) bs) → Sound b
      sound b i = let m = Memᴰ.of_map (book_without k) bs i in rw (sym m.2) (without_sound k m.0 (month.sound m.0 m.1))

      header : (b : List ℕ) → In b (map (book_without k) bs) → header_at b ≡ h
      header b i =
          let m = Memᴰ.of_map (book_without k) bs i in
          sym (ap header_at m.2) ∙ (without_reads k m.0 (month.sound m.0 m.1)).0 ∙ month.header m.0 m.1

  calls_without : map calls_of (map (book_without k) bs) ≡ map (without k) (map calls_of bs)
  calls_without = go bs month.sound
    where
      go : (cs : List (List ℕ)) → ((b : List ℕ) → In b cs → Sound b) → map calls_of (map (book_without k) cs) ≡ map (without k) (map calls_of cs)
      go [] s = refl
      go (b ∷ cs) s = ap₂ (λ (x : List Call) (xs : List (List Call)). x ∷ xs) (without_reads k b (s b (here refl))).1 (go cs (λ c i. s c (there i)))

  -- of no more different keys.
  pub without_few : key_count (map (book_without k) bs) ≤ key_count bs
  unfolding key_count
  without_few = omega (arith, ap (λ (cs : List (List Call)). length (different_keys cs)) calls_without, fewer_keys k (map calls_of bs))

  -- the rule over them gives the calls of other keys
  rule_calls_lem : rule_calls (map calls_of (map (book_without k) bs)) ≡ without k (rule_calls (map calls_of bs))
  rule_calls_lem = ap rule_calls calls_without ∙ rule_without k (map calls_of bs)

-- A tree that covers the books, their keys not too many
module _ (h : Header) (bs : List (List ℕ)) (month : OneMonth h bs) (p : Plan) (covers : Covers p bs) (few : key_count bs ≤ most_keys) where
  module _ (room : Room p) where
    -- A call that is withdrawn in any of the books is a withdrawn record of the result.
    pub withdrawn_place : (b : List ℕ) → In b bs → (w : Call) → In w (calls_of b) → is_withdrawn w ≡ true
        → (j : ℕ) × (j < count_at (written (result p))) × (call_key (record_at (written (result p)) j) ≡ call_key w) × ((record_at (written (result p)) j).state ≡ withdrawn)
    withdrawn_place b i w l t =
        let r = stays_withdrawn h bs month p covers room few b i w l t in
        let f = call_place (written (result p)) r.0 r.1 in
        (f.0, f.1, ap call_key f.2 ∙ r.2, ap (λ (c : Call). c.state) f.2 ∙ eqb-true _ _ r.3)

-- Any tree over the books without a key gives the month, the area and the calls of any tree over the books, without that key.
pub taken_out : (h : Header) (bs : List (List ℕ)) → OneMonth h bs → key_count bs ≤ most_keys → (k : ℕ)
    → (p q : Plan) → Covers p bs → Covers q (map (book_without k) bs) → Room p → Room q → SaysSame (written (result q)) (book_without k (written (result p)))
taken_out h bs month few k p q c d r s =
    let less = without_few h bs month k in
    let x = result_reads h bs month p c r few in
    let y = result_reads h (map (book_without k) bs) (without_month h bs month k) q d s (omega arith) in
    let w = without_reads k (written (result p)) (result_sound h bs month p c r few) in
    record {
      header = y.0 ∙ sym (w.0 ∙ x.0);
      calls = y.1 ∙ rule_calls_lem h bs month k ∙ sym (w.1 ∙ ap (without k) x.1);
    }

-- The same tree over the books without a key

map_append : (k : ℕ) (bs cs : List (List ℕ)) → map (book_without k) (bs ++ cs) ≡ map (book_without k) bs ++ map (book_without k) cs
map_append k [] cs = refl
map_append k (b ∷ bs) cs = ap (λ (l : List (List ℕ)). book_without k b ∷ l) (map_append k bs cs)

pub books_without : (k : ℕ) (p : Plan) → books (plan_without k p) ≡ map (book_without k) (books p)
unfolding books plan_without
books_without k (book b) = refl
books_without k (join l r out) = ap₂ (λ (x y : List (List ℕ)). x ++ y) (books_without k l) (books_without k r) ∙ sym (map_append k (books l) (books r))

part_month : (h : Header) (bs cs : List (List ℕ)) → ((b : List ℕ) → In b bs → In b cs) → OneMonth h cs → OneMonth h bs
part_month h bs cs f o = record { sound = λ b i. o.sound b (f b i); header = λ b i. o.header b (f b i) }

module _ (h : Header) (k : ℕ) where
  -- has room where the tree has,
  pub room_without : (p : Plan) → OneMonth h (books p) → key_count (books p) ≤ most_keys → Room p → Room (plan_without k p)
  unfolding books plan_without
  room_without (book b) o few r = tt
  room_without (join l r out) o few s =
      let bs = books l ++ books r in
      let low : (b : List ℕ) → In b (books l) → In b bs = λ b i. Memᴰ.append_left (books r) i in
      let high : (b : List ℕ) → In b (books r) → In b bs = λ b i. Memᴰ.append_right (books l) i in
      let less = without_few h bs o k in
      let same = ap key_count (books_without k (join l r out)) in (
        room_without l (part_month h (books l) bs low o) (omega (arith, keys_of (books l) bs low)) s.0,
        room_without r (part_month h (books r) bs high o) (omega (arith, keys_of (books r) bs high)) s.1,
        λ f. omega (arith, s.2 few),
      )

  -- and gives the same month, area and calls without that key.
  pub same_tree : (p : Plan) → OneMonth h (books p) → key_count (books p) ≤ most_keys → Room p → SaysSame (written (result (plan_without k p))) (book_without k (written (result p)))
  same_tree p o few r =
      let e = books_without k p in
      taken_out h (books p) o few k p (plan_without k p) (record { all = λ b i. i; only = λ b i. i })
      (record { all = λ b i. subst (λ (l : List (List ℕ)). In b l) (sym e) i; only = λ b i. subst (λ (l : List (List ℕ)). In b l) e i }) r (room_without p o few r)
