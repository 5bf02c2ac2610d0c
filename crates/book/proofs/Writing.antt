-- What the writers promise: each number exactly under its condition, and what was written is a sound book. Assumes nothing.
use mathlib.Core.Path.{◌≡◌, refl, sym, ◌∙◌}
use mathlib.Core.Bool.{Bool, true, false}
use mathlib.Core.List.{List, [], ◌∷◌}
use mathlib.Core.Logic.{◌↔◌}
use Prim.Native.Nat.{ℕ, ◌<◌, ◌≤◌}
use native.Mathlib.Omega.{arith}
use lib.Dec.{ltb}
use lib.ListN.{length, take, drop}
use lib.Seq.{take-append_seam, drop-append_seam}
use borrow.Author.Tests.{ltb-true, ltb-false, lt-ltb, le-ltb, eq-eqb, ne_eqb}
use Rattle.le.proofs.Tests.{each, all, fails, refuted}
use Rattle.units.specs.Month.{most_minutes}
use Rattle.call.specs.declared.Call.{Call}
use Rattle.call.specs.Limits.{call_is_sound}
use Rattle.call.proofs.Exact.{sound_within, within_sound}
use Rattle.book.specs.declared.Header.{Header}
use Rattle.book.specs.Book.{first_version, most_records, size_of, version_at, header_at, calls_of, book_bytes}
use Rattle.book.specs.Check.{header_is_sound, header_minutes}
use Rattle.book.specs.Sound.{Heading, CallsWithin, Rises, Sound}
use Rattle.book.specs.Refusals.{WriteRefusal, none, no_header, no_field, no_room}
use Rattle.book.specs.Write.{refused_out, wrote_out, sound_calls, fault, write_fault, writing}
use Rattle.book.proofs.Heads.{first_known, month_most, first_some, sound_heading, heading_sound}
use Rattle.book.proofs.Exact.{version_of, reads_back}

-- call number and revision are numbers of 32 bits, as those of every `Call` of the code are
abbrev pub Numbered : List Call → Type 0
Numbered [] = Unit {0}
Numbered (c ∷ cs) = ((c.number < 4294967296) × (c.revision < 4294967296)) × Numbered cs

module _ (m : ℕ) (few : m ≤ most_minutes) where
  calls_within : (cs : List Call) → Numbered cs → sound_calls m cs ≡ true → CallsWithin m cs
  unfolding sound_calls
  calls_within [] n e = tt
  calls_within (c ∷ cs) n e =
      let p = each (call_is_sound m c) (sound_calls m cs ∷ []) e in
      (sound_within m c n.0.0 n.0.1 p.0, calls_within cs n.1 p.1.0)

  within_calls : (cs : List Call) → CallsWithin m cs → sound_calls m cs ≡ true
  unfolding sound_calls
  within_calls [] w = refl
  within_calls (c ∷ cs) w = all (call_is_sound m c) (sound_calls m cs ∷ []) (within_sound m c few w.0, (within_calls cs w.1, tt))

module _ (h : Header) (cs : List Call) (numbered : Numbered cs) (room : ℕ) where
  some : (n : ℕ) × (write_fault h cs room ≡ n) × WriteRefusal h cs room n
  unfolding write_fault
  some = from (header_is_sound h) refl (sound_calls (header_minutes h) cs) refl (ltb room (size_of (length cs))) refl
    where
      heading : header_is_sound h ≡ true → Heading h
      heading e = sound_heading h e

      within : sound_calls (header_minutes h) cs ≡ true → CallsWithin (header_minutes h) cs
      within e = calls_within (header_minutes h) (month_most h) cs numbered e

      from : (t : Bool) → header_is_sound h ≡ t → (u : Bool) → sound_calls (header_minutes h) cs ≡ u → (v : Bool) → ltb room (size_of (length cs)) ≡ v
          → (n : ℕ) × (fault h (sound_calls (header_minutes h) cs) (size_of (length cs)) room ≡ n) × WriteRefusal h cs room n
      from false t u' u v' v = (4, simp t, no_header refl (refuted (header_is_sound h) (heading_sound h) t))
      from true t false u v' v = (5, simp (t, u), no_field refl (heading t) (refuted (sound_calls (header_minutes h) cs) (within_calls (header_minutes h) (month_most h) cs) u))
      from true t true u true v = (9, simp (t, u, v), no_room refl (heading t) (within u) (ltb-true _ _ v))
      from true t true u false v = (0, simp (t, u, v), none refl (heading t) (within u) (ltb-false _ _ v))

  from_row : (n : ℕ) → WriteRefusal h cs room n → write_fault h cs room ≡ n
  unfolding write_fault
  from_row n (none e g w r) = simp (heading_sound h g, within_calls (header_minutes h) (month_most h) cs w, le-ltb _ _ r) (sym e)
  from_row n (no_header e g) = simp (fails (header_is_sound h) (sound_heading h) g) (sym e)
  from_row n (no_field e g w) = simp (heading_sound h g, fails (sound_calls (header_minutes h) cs) (calls_within (header_minutes h) (month_most h) cs numbered) w) (sym e)
  from_row n (no_room e g w r) = simp (heading_sound h g, within_calls (header_minutes h) (month_most h) cs w, lt-ltb _ _ r) (sym e)

  -- DEMAND 1: 4, 5, 9 and acceptance come out exactly under their conditions, in that order.
  pub write_refused_exactly : (n : ℕ) → (write_fault h cs room ≡ n) ↔ WriteRefusal h cs room n
  write_refused_exactly n = ((λ e. let s = some in rw (sym s.1 ∙ e) at s.2), from_row n)

-- What an accepted writing leaves
module _ (h : Header) (cs : List Call) (out : List ℕ) (ok : write_fault h cs (length out) ≡ 0) where
  wrote : writing h cs out ≡ wrote_out (book_bytes first_version h cs) out
  unfolding writing
  wrote = simp (eq-eqb _ _ ok)

  -- the book stands at the start of the output
  pub book_written : take (writing h cs out).size (writing h cs out).out ≡ book_bytes first_version h cs
  book_written = rw wrote (take-append_seam (book_bytes first_version h cs) (drop (length (book_bytes first_version h cs)) out))

  -- and the bytes behind it stay
  pub rest_kept : drop (writing h cs out).size (writing h cs out).out ≡ drop (writing h cs out).size out
  rest_kept = rw wrote (drop-append_seam (book_bytes first_version h cs) (drop (length (book_bytes first_version h cs)) out))

  -- DEMAND 2: what was written is a sound book of the first version, and reads back as the same header and calls.
  abbrev Back : Type 0
  Back =
      Sound (book_bytes first_version h cs)
      × (version_at (book_bytes first_version h cs) ≡ first_version)
      × (header_at (book_bytes first_version h cs) ≡ h)
      × (calls_of (book_bytes first_version h cs) ≡ cs)

  pub written_sound : Numbered cs → length cs ≤ most_records first_version → Rises 0 cs → Back
  written_sound n few r = go ((write_refused_exactly h cs n (length out) 0).0 ok)
    where
      go : WriteRefusal h cs (length out) 0 → Back
      go (none e g w k) =
          let b = reads_back first_version h cs first_known g few w in (
            record { version = first_version; header = h; calls = cs; known = first_known; heading = g; few = few; within = w; rising = r; bytes = refl },
            version_of first_version h cs first_known g few,
            b.0,
            b.1,
          )
      go (no_header e g) = absurd (omega arith)
      go (no_field e g w) = absurd (omega arith)
      go (no_room e g w k) = absurd (omega arith)

-- A refusal changes nothing in the output and gives zeros otherwise.
pub refused_kept : (h : Header) (cs : List Call) (out : List ℕ) → (write_fault h cs (length out) ≡ 0 → ⊥) → writing h cs out ≡ refused_out (write_fault h cs (length out)) 0 out
unfolding writing
refused_kept h cs out n = simp (ne_eqb _ _ n)

-- A book of none and a book of one, once accepted, are such books.
pub none_sound : (h : Header) (out : List ℕ) → write_fault h [] (length out) ≡ 0 → Sound (book_bytes first_version h [])
none_sound h out ok = (written_sound h [] out ok tt (omega (arith, first_some)) tt).0

pub one_sound : (h : Header) (c : Call) (out : List ℕ) → c.number < 4294967296 → c.revision < 4294967296 → write_fault h (c ∷ []) (length out) ≡ 0 → Sound (book_bytes first_version h (c ∷ []))
one_sound h c out n r ok = (written_sound h (c ∷ []) out ok ((n, r), tt) first_some (omega arith, tt)).0
