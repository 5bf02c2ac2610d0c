-- A field is told of each record by which a book is refused with 5, and of each call that is not written for 5. Assumes nothing.
use mathlib.Core.Path.{◌≡◌, refl, sym, ◌∙◌, ap}
use mathlib.Core.Bool.{Bool, true, false, not, cond, ◌&&◌, true≢false}
use mathlib.Core.List.{List, [], ◌∷◌}
use mathlib.Core.Logic.{◌↔◌, ◌≢◌}
use Prim.Native.Nat.{ℕ, ◌+◌, ◌≤◌, ◌<◌}
use native.Mathlib.Omega.{arith}
use lib.Dec.{eqb, ltb}
use lib.ListN.{length}
use borrow.Author.Tests.{lt-ltb, le-ltb, le-leb, lt-leb, eqb-true}
use Rattle.le.specs.Le.{IsBytes}
use Rattle.le.proofs.Tests.{each}
use Rattle.units.specs.Month.{minutes_of}
use Rattle.call.specs.declared.Call.{Call}
use Rattle.call.specs.Limits.{call_is_sound}
use Rattle.call.specs.Layout.{record_size, reserved_at}
use Rattle.book.specs.declared.Header.{Header}
use Rattle.book.specs.declared.Verdict.{Verdict}
use Rattle.book.specs.Book.{most_keys, version_at, size_of, place_of, header_at, record_at}
use Rattle.book.specs.Check.{refused, header_is_sound, header_minutes, check}
use Rattle.book.proofs.Heads.{known_most}
use Rattle.book.specs.Refusals.{Refusal, none, under_16, no_mark, no_version, no_header, no_count, no_field, no_rise}
use Rattle.book.specs.Write.{sound_calls, write_fault}
use Rattle.book.proofs.Numbers.{refused_exactly}
use Rattle.book.proofs.Records.{record_within}
use Rattle.std.specs.Prelude.{Option, Some, None}
use Rattle.field.specs.declared.BadRecord.{BadRecord}
use Rattle.field.specs.declared.Field.{Field}
use Rattle.field.specs.Field.{fields, bad_field}
use Rattle.field.specs.Columns.{FieldHolds, FirstFails}
use Rattle.field.specs.Record.{has_record, bad_record}
use Rattle.field.proofs.Named.{named_exactly, none_exactly}

-- The record of a book

module _ (b : List ℕ) (i : ℕ) where
  pub no_late : most_keys ≤ i → None ≡ bad_record b i
  unfolding bad_record has_record
  no_late h = rw (le-ltb i most_keys h)

  pub no_short : i < most_keys → length b < place_of i + record_size → None ≡ bad_record b i
  unfolding bad_record has_record
  no_short h k = rw (lt-ltb i most_keys h, lt-leb (place_of i + record_size) (length b) k)

  abbrev told : BadRecord
  told = record { call = record_at b i; field = bad_field (header_minutes (header_at b)) (record_at b i) (reserved_at b (place_of i)) }

  pub there : i < most_keys → place_of i + record_size ≤ length b → Some told ≡ bad_record b i
  unfolding bad_record has_record
  there h k = rw (lt-ltb i most_keys h, le-leb (place_of i + record_size) (length b) k)

  pub as_told_lem : (h : Header) (x : Call) (f : Option Field) (m n at : ℕ) → i < most_keys → place_of i + record_size ≤ length b
      → h ≡ header_at b → m ≡ minutes_of h.year h.month → x ≡ record_at b i → at ≡ place_of i → n ≡ reserved_at b at → f ≡ bad_field m x n
      → ◌≡◌ {A = Option BadRecord} (Some (record { call = x; field = f })) (bad_record b i)
  unfolding header_minutes
  as_told_lem h x f m n at p q a c d e g k =
      (λ j. Some (record { call = d j; field = (k ∙ λ i'. bad_field ((c ∙ ap (λ (y : Header). minutes_of y.year y.month) a) i') (d i') ((g ∙ ap (λ (z : ℕ). reserved_at b z) e) i')) j }))
      ∙ there p q

-- what is told of record i: the record as it stands, and the first field whose condition fails
abbrev ToldAt : List ℕ → ℕ → Type 0
ToldAt b i =
    (f : Field) × (bad_record b i ≡ Some (record { call = record_at b i; field = Some f }))
    × FirstFails (FieldHolds (header_minutes (header_at b)) (record_at b i) (reserved_at b (place_of i))) fields (Some f)

-- where a record is told and has a bad field, that is the first whose condition fails
some_told : (b : List ℕ) (i : ℕ) → bad_record b i ≡ Some (told b i) → bad_field (header_minutes (header_at b)) (record_at b i) (reserved_at b (place_of i)) ≢ None
    → (o : Option Field) → bad_field (header_minutes (header_at b)) (record_at b i) (reserved_at b (place_of i)) ≡ o → ToldAt b i
some_told b i is bad None e = absurd (bad e)
some_told b i is bad (Some f) e = (
  f,
  is ∙ ap (λ (o : Option Field). Some (record { call = record_at b i; field = o })) e,
  (named_exactly (header_minutes (header_at b)) (record_at b i) (reserved_at b (place_of i)) (Some f)).0 e,
)

-- A BOOK THAT IS REFUSED WITH 5 AT A RECORD HAS A BAD FIELD THERE: the first whose condition fails, in the month of the book's header.
pub told_of_5 : (b : List ℕ) (i : ℕ) → IsBytes b → check b ≡ refused 5 i → ToldAt b i
told_of_5 b i small e = go ((refused_exactly b small (refused 5 i)).0 e)
  where
    number : {v : Verdict} → refused 5 i ≡ v → 5 ≡ v.number
    number e = ap (λ (v : Verdict). v.number) e

    go : Refusal b (refused 5 i) → ToldAt b i
    go (none e f s) = absurd (omega (arith, number e))
    go (under_16 e l) = absurd (omega (arith, number e))
    go (no_mark e l n) = absurd (omega (arith, number e))
    go (no_version e l k n) = absurd (omega (arith, number e))
    go (no_header e l k v n) = absurd (omega (arith, number e))
    go (no_count e l k v h n) = absurd (omega (arith, number e))
    go (no_rise j e f l s g n) = absurd (omega (arith, number e))
    go (no_field j e f l s n) =
        let same : j ≡ i = sym (ap (λ (v : Verdict). v.place) e) in
        let early : i < most_keys = omega (arith, f.header.few, known_most (version_at b) f.version) in
        let whole : place_of i + record_size ≤ length b = omega (arith, f.count) in
        let is = sym (there b i early whole) in
        let m = header_minutes (header_at b) in
        let r = reserved_at b (place_of i) in
        let bad : bad_field m (record_at b i) r ≢ None = λ g.
        let p = each (call_is_sound m (record_at b i)) (eqb r 0 ∷ []) ((none_exactly m (record_at b i) r).1 g) in
        n (rw same (record { fields = record_within m b small i p.0; zeros = eqb-true _ _ p.1.0 })) in
        some_told b i is bad (bad_field m (record_at b i) r) refl

-- A call

-- the test of 5, and whether a field is named
named_if : (h : Header) (c : Call) → call_is_sound (header_minutes h) c ≡ false → bad_field (header_minutes h) c 0 ≢ None
named_if h c e g =
    let p = each (call_is_sound (header_minutes h) c) (eqb 0 0 ∷ []) ((none_exactly (header_minutes h) c 0).1 g) in
    true≢false (sym p.0 ∙ e)

if_named : (h : Header) (c : Call) → bad_field (header_minutes h) c 0 ≢ None → call_is_sound (header_minutes h) c ≡ false
if_named h c n = go (call_is_sound (header_minutes h) c) refl
  where
    go : (t : Bool) → call_is_sound (header_minutes h) c ≡ t → t ≡ false
    go true e = absurd (n ((none_exactly (header_minutes h) c 0).0 (rw e refl)))
    go false e = refl

-- A CALL IS NOT WRITTEN FOR 5 EXACTLY WHERE ITS HEADER IS SOUND AND ONE OF ITS FIELDS IS BAD.
pub written_5 : (h : Header) (c : Call) (room : ℕ) → (write_fault h (c ∷ []) room ≡ 5) ↔ ((header_is_sound h ≡ true) × (bad_field (header_minutes h) c 0 ≢ None))
unfolding write_fault sound_calls
written_5 h c room = (forth (header_is_sound h) refl (call_is_sound (header_minutes h) c) refl (ltb room (size_of 1)), back)
  where
    forth : (t : Bool) → header_is_sound h ≡ t → (u : Bool) → call_is_sound (header_minutes h) c ≡ u → (w : Bool) → ◌≡◌ {A = ℕ} (cond (not t) 4 (cond (not (u && true)) 5 (cond w 9 0))) 5
        → (header_is_sound h ≡ true) × (bad_field (header_minutes h) c 0 ≢ None)
    forth false d u e w g = absurd (omega arith)
    forth true d false e w g = (d, named_if h c e)
    forth true d true e true g = absurd (omega arith)
    forth true d true e false g = absurd (omega arith)

    back : (header_is_sound h ≡ true) × (bad_field (header_minutes h) c 0 ≢ None) → write_fault h (c ∷ []) room ≡ 5
    back p = rw (p.0, if_named h c p.1) refl
