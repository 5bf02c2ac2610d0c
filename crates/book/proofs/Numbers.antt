-- Each refusal number of the check comes out exactly under its condition, in the paper's order. Assumes nothing.
use mathlib.Core.Path.{◌≡◌, refl, sym, ◌∙◌, ap}
use mathlib.Core.Bool.{Bool, true, false}
use mathlib.Core.List.{List, [], ◌∷◌}
use mathlib.Core.Logic.{◌↔◌}
use Prim.Native.Nat.{ℕ, zero, suc, ◌+◌, ◌-◌, ◌<◌, ◌≤◌}
use native.Mathlib.Omega.{arith}
use native.Mathlib.Nat.{not-suc-le-zero}
use native.Mathlib.Decide.{ℕ_discrete, dec_lt}
use lib.Dec.{eqb, ltb}
use lib.ListN.{length}
use borrow.Author.Tests.{ltb-true, ltb-false, le-ltb, eq-eqb, eqb-true}
use Rattle.le.specs.Le.{IsBytes}
use Rattle.le.proofs.Tests.{each, all, holds_or_fails, fails, refuted}
use Rattle.call.specs.Key.{call_key}
use Rattle.call.specs.Limits.{call_is_sound}
use Rattle.call.specs.Layout.{reserved_at}
use Rattle.call.proofs.Exact.{within_sound}
use Rattle.book.specs.declared.Verdict.{Verdict}
use Rattle.book.specs.Book.{header_size, size_of, place_of, header_at, count_at, record_at}
use Rattle.book.specs.Check.{refused, accepted, is_marked, is_versioned, is_headed, header_minutes, is_record, judge, check_records, check}
use Rattle.book.specs.Refusals.{Fielded, Above, Front, SoundBefore, Refusal, none, under_16, no_mark, no_version, no_header, no_count, no_field, no_rise}
use Rattle.book.proofs.Turns.{short, unmarked, unversioned, unheaded, uncounted, counted, stops, goes_on_lem, ends, starts}
use Rattle.book.proofs.Heads.{month_most, marked_is, is_marked_lem, versioned_is, is_versioned_lem, headed_is, is_headed_lem}
use Rattle.book.proofs.Records.{record_within}

module _ (b : List ℕ) (small : IsBytes b) where
  abbrev minutes : ℕ
  minutes = header_minutes (header_at b)

  -- the lowest key that record i may have
  abbrev lowest : ℕ → ℕ
  lowest zero = 0
  lowest (suc i) = suc (call_key (record_at b i))

  fielded : (i : ℕ) → is_record minutes b i ≡ true → Fielded b i
  unfolding is_record
  fielded i e =
      let p = each (call_is_sound minutes (record_at b i)) (eqb (reserved_at b (place_of i)) 0 ∷ []) e in
      record { fields = record_within minutes b small i p.0; zeros = eqb-true _ _ p.1.0 }

  is_fielded : (i : ℕ) → Fielded b i → is_record minutes b i ≡ true
  unfolding is_record
  is_fielded i w =
      all (call_is_sound minutes (record_at b i)) (eqb (reserved_at b (place_of i)) 0 ∷ [])
      (within_sound minutes (record_at b i) (month_most (header_at b)) w.fields, (eq-eqb _ _ w.zeros, tt))

  above : (i : ℕ) → ltb (call_key (record_at b i)) (lowest i) ≡ false → Above b i
  above zero e = tt
  above (suc i) e = ltb-false _ _ e

  is_above : (i : ℕ) → Above b i → ltb (call_key (record_at b i)) (lowest i) ≡ false
  is_above zero e = le-ltb (call_key (record_at b zero)) 0 (omega arith)
  is_above (suc i) e = le-ltb _ _ e

  -- what the turn of record i gives
  passes : (i : ℕ) → Fielded b i → Above b i → judge minutes b (lowest i) i ≡ 0
  unfolding judge
  passes i f a = simp (is_fielded i f, is_above i a)

  gives_5 : (i : ℕ) → is_record minutes b i ≡ false → judge minutes b (lowest i) i ≡ 5
  unfolding judge
  gives_5 i e = simp e

  gives_6 : (i : ℕ) → Fielded b i → ltb (call_key (record_at b i)) (lowest i) ≡ true → judge minutes b (lowest i) i ≡ 6
  unfolding judge
  gives_6 i f e = simp (is_fielded i f, e)

  -- the records before record i pass
  skip : (i n : ℕ) → i ≤ n → SoundBefore b i → check_records minutes b 0 0 n ≡ check_records minutes b (lowest i) i (n - i)
  skip zero n h g = sym (starts minutes b n)
  skip (suc i) n h g =
      let here = g i (omega arith) in
      let s : suc i ≡ i + 1 = omega arith in
      skip i n (omega arith) (λ j l. g j (omega arith))
      ∙ goes_on_lem minutes b (lowest i) i n 0 (lowest (suc i)) (omega arith) (sym (passes i here.0 here.1)) refl refl
      ∙ ap (λ (k : ℕ). check_records minutes b (lowest (suc i)) k (n - k)) (sym s)

  front : Front b → check b ≡ check_records minutes b 0 0 (count_at b)
  front t = counted b t.long (is_marked_lem b t.mark) (is_versioned_lem b t.version) (is_headed_lem b t.header) t.count

  stops_at : (t : Front b) (i v : ℕ) → i < count_at b → SoundBefore b i → v ≡ judge minutes b (lowest i) i → (v ≡ 0 → ⊥) → check b ≡ refused v i
  stops_at t i v l g e z = front t ∙ skip i (count_at b) (omega arith) g ∙ stops minutes b (lowest i) i (count_at b) v l e z

  from_row : (v : Verdict) → Refusal b v → check b ≡ v
  from_row v (none e t g) = front t ∙ skip (count_at b) (count_at b) (omega arith) g ∙ ends minutes b (lowest (count_at b)) (count_at b) (count_at b) (omega arith) ∙ sym e
  from_row v (under_16 e h) = short b h ∙ sym e
  from_row v (no_mark e h m) = unmarked b h (fails (is_marked b) (marked_is b) m) ∙ sym e
  from_row v (no_version e h m n) = unversioned b h (is_marked_lem b m) (fails (is_versioned b) (versioned_is b) n) ∙ sym e
  from_row v (no_header e h m n d) = unheaded b h (is_marked_lem b m) (is_versioned_lem b n) (fails (is_headed b) (headed_is b) d) ∙ sym e
  from_row v (no_count e h m n d c) = uncounted b h (is_marked_lem b m) (is_versioned_lem b n) (is_headed_lem b d) c ∙ sym e
  from_row v (no_field i e t l g f) =
      stops_at t i 5 l g (sym (gives_5 i (fails (is_record minutes b i) (fielded i) f))) (λ x. omega arith) ∙ sym e
  from_row v (no_rise i e t l g f a) =
      stops_at t i 6 l g (sym (gives_6 i f (not_below (ltb (call_key (record_at b i)) (lowest i)) refl))) (λ x. omega arith) ∙ sym e
    where
      not_below : (u : Bool) → ltb (call_key (record_at b i)) (lowest i) ≡ u → ltb (call_key (record_at b i)) (lowest i) ≡ true
      not_below true q = q
      not_below false q = absurd (a (above i q))

  -- and some row holds
  before_more : (i : ℕ) → SoundBefore b i → Fielded b i → Above b i → SoundBefore b (suc i)
  before_more i g f a j l = at (dec_lt j i)
    where
      at : Dec (j < i) → Fielded b j × Above b j
      at (yes p) = g j p
      at (no p) = let e : j ≡ i = omega arith in rw e (f, a)

  module _ (t : Front b) where
    walk : (left i : ℕ) → i + left ≡ count_at b → SoundBefore b i → (v : Verdict) × Refusal b v
    walk zero i e g = let k : count_at b ≡ i = omega arith in (accepted, none refl t (rw k g))
    walk (suc left) i e g =
        one (is_record minutes b i) refl (ltb (call_key (record_at b i)) (lowest i)) refl (λ f a. walk left (suc i) (omega arith) (before_more i g f a))
      where
        one : (u : Bool) → is_record minutes b i ≡ u → (w : Bool) → ltb (call_key (record_at b i)) (lowest i) ≡ w → (Fielded b i → Above b i → (v : Verdict) × Refusal b v) → (v : Verdict)
            × Refusal b v
        one false p w q k = (refused 5 i, no_field i refl t (omega arith) g (refuted (is_record minutes b i) (is_fielded i) p))
        one true p true q k = (refused 6 i, no_rise i refl t (omega arith) g (fielded i p) (λ a. holds_or_fails q (is_above i a)))
        one true p false q k = k (fielded i p) (above i q)

  some : (v : Verdict) × Refusal b v
  some = from (ltb (length b) header_size) refl (is_marked b) refl (is_versioned b) refl (is_headed b) refl (ℕ_discrete (length b) (size_of (count_at b)))
    where
      from : (l : Bool) → ltb (length b) header_size ≡ l → (m : Bool) → is_marked b ≡ m → (n : Bool) → is_versioned b ≡ n
          → (h : Bool) → is_headed b ≡ h → Dec (length b ≡ size_of (count_at b)) → (v : Verdict) × Refusal b v
      from true l m' m n' n h' h c = (refused 1 0, under_16 refl (ltb-true _ _ l))
      from false l false m n' n h' h c = (refused 2 0, no_mark refl (ltb-false _ _ l) (refuted (is_marked b) (is_marked_lem b) m))
      from false l true m false n h' h c = (refused 3 0, no_version refl (ltb-false _ _ l) (marked_is b m) (refuted (is_versioned b) (is_versioned_lem b) n))
      from false l true m true n false h c = (refused 4 0, no_header refl (ltb-false _ _ l) (marked_is b m) (versioned_is b n) (refuted (is_headed b) (is_headed_lem b) h))
      from false l true m true n true h (no c) = (refused 1 0, no_count refl (ltb-false _ _ l) (marked_is b m) (versioned_is b n) (headed_is b h) c)
      from false l true m true n true h (yes c) =
          walk (record { long = ltb-false _ _ l; mark = marked_is b m; version = versioned_is b n; header = headed_is b h; count = c }) (count_at b) 0 (omega arith) (λ j x. absurd (not-suc-le-zero x))

  to_row : (v : Verdict) → check b ≡ v → Refusal b v
  to_row v e = let s = some in rw (sym (from_row s.0 s.1) ∙ e) at s.1

  -- DEMAND 1: each number and place comes out exactly under its row's condition, and the rows stand in the paper's order.
  pub refused_exactly : (v : Verdict) → (check b ≡ v) ↔ Refusal b v
  refused_exactly v = (to_row v, from_row v)
