-- The check accepts a list of bytes exactly where it is a sound book; books and their calls are one to one. Assumes nothing.
use mathlib.Core.Path.{◌≡◌, refl, sym, ◌∙◌, ap, ap₂}
use mathlib.Core.Bool.{Bool, true, false, cond, not}
use mathlib.Core.List.{List, ◌++◌}
use mathlib.Core.Logic.{◌↔◌}
use Prim.Native.Nat.{ℕ, ◌<◌, ◌≤◌}
use native.Mathlib.Omega.{arith}
use lib.Dec.{eqb, ltb}
use lib.ListN.{length}
use borrow.Author.Tests.{eqb-true, ltb-false, not-false}
use Rattle.le.specs.Le.{IsBytes}
use Rattle.le.proofs.Laws.{split}
use Rattle.call.specs.declared.Call.{Call}
use Rattle.book.specs.declared.Header.{Header}
use Rattle.book.specs.declared.Verdict.{Verdict}
use Rattle.book.specs.Book.{most_records, most_keys, header_size, size_of, HasHeader, version_at, header_at, count_at, calls_from, calls_of, head_bytes, record_bytes, book_bytes}
use Rattle.book.specs.Check.{refused, accepted, is_marked, is_versioned, is_headed, header_minutes, check_records, check}
use Rattle.book.specs.Sound.{Known, Heading, CallsWithin, Sound, SaysSame}
use Rattle.book.proofs.Turns.{counted}
use Rattle.book.proofs.Lengths.{length_head, length_book}
use Rattle.book.proofs.Heads.{month_most, known_most, marked_is, is_marked_lem, versioned_is, is_versioned_lem, headed_is, is_headed_lem}
use Rattle.book.proofs.Heads.{header_back, count_back, mark_back, version_back, versioned_back, headed_back, head_again}
use Rattle.book.proofs.Records.{calls_back, length_calls, records_accepted, records_sound}

-- Reading what was written gives the same version, header and calls.
module _ (v : ℕ) (h : Header) (cs : List Call) (k : Known v) (g : Heading h) (few : length cs ≤ most_records v) where
  pub version_of : version_at (book_bytes v h cs) ≡ v
  unfolding book_bytes
  version_of = version_back v h (length cs) (record_bytes cs) k

  header_of : header_at (book_bytes v h cs) ≡ h
  unfolding book_bytes
  header_of = header_back v h (length cs) (record_bytes cs) g

  count_of : count_at (book_bytes v h cs) ≡ length cs
  unfolding book_bytes
  count_of = count_back v h (length cs) (record_bytes cs) k few

  pub reads_back : CallsWithin (header_minutes h) cs → (header_at (book_bytes v h cs) ≡ h) × (calls_of (book_bytes v h cs) ≡ cs)
  unfolding calls_of book_bytes
  reads_back w = (header_of, ap (calls_from (book_bytes v h cs) 0) count_of ∙ calls_back (header_minutes h) cs (head_bytes v h (length cs)) 0 (month_most h) w (length_head v h (length cs)))

-- A sound book is accepted.
pub sound_accepted : (b : List ℕ) → Sound b → check b ≡ accepted
unfolding book_bytes
sound_accepted b s =
    let v = s.version in
    let h = s.header in
    let cs = s.calls in
    let n = length cs in
    let t = record_bytes cs in
    let w = head_bytes v h n ++ t in
    let c : count_at w ≡ n = count_back v h n t s.known s.few in
    let l : length w ≡ size_of n = length_book v h cs in
    ap check s.bytes
    ∙ counted w (omega arith) (is_marked_lem w (mark_back v h n t)) (is_versioned_lem w (versioned_back v h n t s.known))
    (is_headed_lem w (headed_back v h n t s.known s.heading s.few)) (l ∙ ap size_of (sym c))
    ∙ ap₂ (λ (x : Header) (k : ℕ). check_records (header_minutes x) w 0 0 k) (header_back v h n t s.heading) c
    ∙ records_accepted (header_minutes h) 0 cs (head_bytes v h n) 0 (month_most h) s.within s.rising (length_head v h n)

-- What acceptance says of each test
passed : (t : Bool) {n : ℕ} {f : Verdict} → 0 < n → cond t (refused n 0) f ≡ accepted → (t ≡ false) × (f ≡ accepted)
passed true {n} h e = absurd (let z : n ≡ 0 = ap (λ (v : Verdict). v.number) e in omega arith)
passed false h e = (refl, e)

pub record Accepted (b : List ℕ) : Type 0 where
  pub long : HasHeader b
  pub mark : is_marked b ≡ true
  pub version : is_versioned b ≡ true
  pub header : is_headed b ≡ true
  pub count : length b ≡ size_of (count_at b)
  pub records : check_records (header_minutes (header_at b)) b 0 0 (count_at b) ≡ accepted

pub accepted_tests : (b : List ℕ) → check b ≡ accepted → Accepted b
unfolding check
accepted_tests b e =
    let p = passed (ltb (length b) header_size) (omega arith) e in
    let m = passed (not (is_marked b)) (omega arith) p.1 in
    let v = passed (not (is_versioned b)) (omega arith) m.1 in
    let h = passed (not (is_headed b)) (omega arith) v.1 in
    let c = passed (not (eqb (length b) (size_of (count_at b)))) (omega arith) h.1 in
    record {
      long = ltb-false _ _ p.0;
      mark = not-false _ m.0;
      version = not-false _ v.0;
      header = not-false _ h.0;
      count = eqb-true _ _ (not-false _ c.0);
      records = c.1;
    }

-- no accepted book has more records than any book may have
pub accepted_few : (b : List ℕ) → check b ≡ accepted → count_at b ≤ most_keys
accepted_few b e = let t = accepted_tests b e in omega (arith, (headed_is b t.header).few, known_most (version_at b) (versioned_is b t.version))

-- Accepted bytes are a sound book, and its version, header and calls are those read from them.
pub accepted_sound : (b : List ℕ) → IsBytes b → check b ≡ accepted → (s : Sound b) × (s.version ≡ version_at b) × (s.header ≡ header_at b) × (s.calls ≡ calls_of b)
unfolding book_bytes calls_of
accepted_sound b small e =
    let t = accepted_tests b e in
    let n = count_at b in
    let w = headed_is b t.header in
    let r = records_sound (header_minutes (header_at b)) b small n 0 0 t.count t.records in
    let len = length_calls b n 0 in
    let head = head_again b small (marked_is b t.mark) w in
    let bytes : b ≡ book_bytes (version_at b) (header_at b) (calls_from b 0 n) =
    split header_size b 0 t.long ∙ ap₂ (λ (x y : List ℕ). x ++ y) (sym head ∙ ap (head_bytes (version_at b) (header_at b)) (sym len)) r.2 in (
      record {
        version = version_at b;
        header = header_at b;
        calls = calls_from b 0 n;
        known = versioned_is b t.version;
        heading = w.heading;
        few = rw len w.few;
        within = r.0;
        rising = r.1;
        bytes = bytes;
      },
      refl,
      refl,
      refl,
    )

-- DEMAND 1: bytes are accepted exactly where they are the bytes of a header and a list of calls within the paper's limits, keys rising.
pub accepted_exactly : (b : List ℕ) → IsBytes b → (check b ≡ accepted) ↔ Sound b
accepted_exactly b small = (λ e. (accepted_sound b small e).0, sound_accepted b)

-- A sound book has one version, one header and one list of calls, and no other: those that are read from it.
pub sound_version : (b : List ℕ) (s : Sound b) → version_at b ≡ s.version
sound_version b s = ap version_at s.bytes ∙ version_of s.version s.header s.calls s.known s.heading s.few

pub sound_reads : (b : List ℕ) (s : Sound b) → (header_at b ≡ s.header) × (calls_of b ≡ s.calls)
sound_reads b s =
    let r = reads_back s.version s.header s.calls s.known s.heading s.few s.within in
    (ap header_at s.bytes ∙ r.0, ap calls_of s.bytes ∙ r.1)

pub sound_known : (b : List ℕ) → Sound b → Known (version_at b)
sound_known b s = rw (sound_version b s) s.known

-- the bytes are those of what is read
pub sound_again : (b : List ℕ) → Sound b → b ≡ book_bytes (version_at b) (header_at b) (calls_of b)
sound_again b s = rw (sound_version b s, (sound_reads b s).0, (sound_reads b s).1) s.bytes

-- DEMAND 2: two sound books of one version, month and area with equal calls are equal bytes.
pub one_to_one : (b b' : List ℕ) → Sound b → Sound b' → version_at b ≡ version_at b' → SaysSame b b' → b ≡ b'
one_to_one b b' s s' v e = sound_again b s ∙ (λ i. book_bytes (v i) (e.header i) (e.calls i)) ∙ sym (sound_again b' s')
