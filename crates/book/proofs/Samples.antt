-- Books for examples: of March 2026, area 12, of any calls that a test finds good. Assumes nothing.
use mathlib.Core.Path.{◌≡◌, refl, sym, ◌∙◌, ap}
use mathlib.Core.Bool.{Bool, true, ◌&&◌, not}
use mathlib.Core.List.Memᴰ.{cases_cons as in-cons}
use mathlib.Core.List.Memᴰ.{not-nil as in-nil}
use mathlib.Core.List.{List, [], ◌∷◌, Memᴰ as In}
use mathlib.Core.Logic.{◌⊎◌, ⊎_elim}
use Prim.Native.Nat.{ℕ, suc, ◌+◌, ◌-◌, ◌%◌, ◌≤◌, ◌<◌}
use native.Mathlib.Omega.{arith}
use lib.Dec.{eqb, ltb, leb, lit≤}
use lib.IntN.{pos}
use lib.ListN.{length}
use borrow.Author.Tests.{ltb-true, leb-true, eqb-true, eq-eqb, not-true}
use Rattle.le.proofs.Tests.{each, all, holds_or_fails}
use Rattle.call.specs.declared.Call.{Call}
use Rattle.call.specs.Key.{call_key}
use Rattle.call.specs.Limits.{call_is_sound}
use Rattle.call.proofs.Exact.{sound_within}
use Rattle.book.specs.declared.Header.{Header}
use Rattle.book.specs.Book.{first_version, most_records, version_at, header_at, count_at, calls_of, book_bytes}
use Rattle.book.specs.Check.{header_minutes}
use Rattle.book.specs.Sound.{Heading, CallsWithin, Rises, Sound}
use Rattle.book.proofs.Heads.{first_known, first_fits}
use Rattle.book.proofs.Exact.{version_of, reads_back}
use Rattle.book.specs.Without.{without}
use Rattle.book.proofs.Writing.{Numbered}
use Rattle.book.specs.Cut.{Numbers, first_keeps, second_keeps, Cuttable, Cut}
use Rattle.book.proofs.Rising.{placed}
use Rattle.book.proofs.Cutting.{count_of_calls, cut_calls_lem, cut-sound}

unfoldable pub march : Header
march = record { area = 12; year = 2026; month = 3 }

pub march_heads : Heading march
unfolding march
march_heads = record { area = (lit≤ tt, lit≤ tt); year = (lit≤ tt, lit≤ tt); month = (lit≤ tt, lit≤ tt) }

-- the book of calls, of the first version
unfoldable pub book_of : List Call → List ℕ
book_of cs = book_bytes first_version march cs

-- each call is within the limits, and keys rise
unfoldable pub good_from : ℕ → List Call → Bool
good_from low [] = true
good_from low (c ∷ cs) =
    call_is_sound (header_minutes march) c && ltb c.number 4294967296 && ltb c.revision 4294967296 && leb low (call_key c) && good_from (suc (call_key c)) cs

good_from_lem : (low : ℕ) (cs : List Call) → good_from low cs ≡ true → CallsWithin (header_minutes march) cs × Rises low cs
unfolding good_from
good_from_lem low [] h = (tt, tt)
good_from_lem low (c ∷ cs) h =
    let p =
    each (call_is_sound (header_minutes march) c) (ltb c.number 4294967296 ∷ ltb c.revision 4294967296 ∷ leb low (call_key c) ∷ good_from (suc (call_key c)) cs ∷ []) h in
    let rest = good_from_lem (suc (call_key c)) cs p.1.1.1.1.0 in
    ((sound_within (header_minutes march) c (ltb-true _ _ p.1.0) (ltb-true _ _ p.1.1.0) p.0, rest.0), (leb-true _ _ p.1.1.1.0, rest.1))

-- a sound book of March that has these calls
pub record Sample (cs : List Call) : Type 0 where
  pub book : List ℕ
  pub sound : Sound book
  pub header : header_at book ≡ march
  pub version : version_at book ≡ first_version
  pub calls : calls_of book ≡ cs

pub sample : (cs : List Call) → length cs ≤ 512 → good_from 0 cs ≡ true → Sample cs
unfolding book_of
sample cs few good =
    let g = good_from_lem 0 cs good in
    let r = reads_back first_version march cs first_known march_heads (first_fits _ few) g.0 in
    record {
      book = book_of cs;
      sound =
          record { version = first_version; header = march; calls = cs; known = first_known; heading = march_heads; few = first_fits _ few; within = g.0; rising = g.1; bytes = refl };
      header = r.0;
      version = version_of first_version march cs first_known march_heads (first_fits _ few);
      calls = r.1;
    }

pub sample_count : (cs : List Call) (s : Sample cs) → count_at s.book ≡ length cs
sample_count cs s = sym (count_of_calls s.book) ∙ ap length s.calls

-- no call of the member has the number
unfoldable pub is_new : Call → List Call → Bool
is_new x [] = true
is_new x (y ∷ ys) = not (eqb y.participant x.participant && eqb y.number x.number) && is_new x ys

pub new_in : (x : Call) (cs : List Call) → is_new x cs ≡ true → (y : Call) → In y cs → y.participant ≡ x.participant → y.number ≡ x.number → ⊥
unfolding is_new
new_in x [] h y i p n = in-nil i
new_in x (c ∷ cs) h y i p n =
    let t = each (not (eqb c.participant x.participant && eqb c.number x.number)) (is_new x cs ∷ []) h in
    ⊎_elim (λ (e : y ≡ c). holds_or_fails (both (ap (λ (z : Call). z.participant) (sym e) ∙ p) (ap (λ (z : Call). z.number) (sym e) ∙ n)) (not-true _ t.0))
    (λ j. new_in x cs t.1.0 y j p n) (in-cons i)
  where
    both : c.participant ≡ x.participant → c.number ≡ x.number → (eqb c.participant x.participant && eqb c.number x.number) ≡ true
    both e f = all (eqb c.participant x.participant) (eqb c.number x.number ∷ []) (eq-eqb _ _ e, (eq-eqb _ _ f, tt))

-- Windows of member 7

abbrev pub window : ℕ → ℕ → ℕ → ℕ → ℕ → ℕ → Call
window service a number revision start minutes =
    record { participant = 7; service = service; state = 0; number = number; revision = revision; start = start; length = minutes; a = pos a; b = 0; c = 0 }

-- which part keeps the number, and that the other's is new
pub data Kept (cs : List Call) (n : ℕ) (first second : Call) : Type 0 where
  by_first : first.number ≡ n → is_new second cs ≡ true → Kept cs n first second
  by_second : second.number ≡ n → is_new first cs ≡ true → Kept cs n first second

-- a cut of a book, and the calls that it has
pub record CutTo (b : List ℕ) (whole first second : Call) (cs : List Call) : Type 0 where
  pub after : Sample cs
  pub is_cut : Cut b after.book whole first second

-- the cut of a sample is a sample
pub sample_cut : (cs : List Call) (s : Sample cs) (whole first second : Call) → length cs < 512 → Cuttable s.book whole first second → Numbered (first ∷ second ∷ [])
    → CutTo s.book whole first second (placed first (placed second (without (call_key whole) cs)))
sample_cut cs s whole first second few asked numbered =
    let free : count_at s.book < most_records (version_at s.book) = rw s.version (first_fits _ (omega (arith, sample_count cs s))) in
    let c = cut-sound s.book s.sound whole first second asked numbered free in
    record {
      after =
          record {
            book = c.0;
            sound = c.1;
            header = sym c.2.header ∙ s.header;
            version = c.3 ∙ s.version;
            calls = cut_calls_lem s.book c.0 s.sound c.1 whole first second c.2 ∙ ap (λ (ds : List Call). placed first (placed second (without (call_key whole) ds))) s.calls;
          };
      is_cut = c.2;
    }

-- such a window of a sample, cut at a quarter hour inside it into parts of the numbers p and q at the revisions u and v

unfoldable pub in_parts : ℕ → ℕ → ℕ → ℕ → ℕ → ℕ → ℕ → Bool
in_parts start minutes p u q v at =
    eqb (at % 15) 0 && ltb start at && ltb at (start + minutes) && leb 1 u && leb 1 v && ltb p 4294967296 && ltb u 4294967296 && ltb q 4294967296 && ltb v 4294967296

module _ (cs : List Call) (s : Sample cs) (few : length cs < 512) (service a n r start minutes : ℕ) (is : (service ≡ 1) ⊎ (service ≡ 2))
    (i : In (window service a n r start minutes) cs) (p u q v at : ℕ) (test : in_parts start minutes p u q v at ≡ true) where
  abbrev whole : Call
  whole = window service a n r start minutes

  abbrev first : Call
  first = window service a p u start (at - start)

  abbrev second : Call
  second = window service a q v at (start + minutes - at)

  record Tested : Type 0 where
    quarter : at % 15 ≡ 0
    inside : (start < at) × (at < start + minutes)
    some : (1 ≤ u) × (1 ≤ v)
    small : Numbered (first ∷ second ∷ [])

  tested : Tested
  unfolding in_parts
  tested =
      let t =
      each (eqb (at % 15) 0) (ltb start at ∷ ltb at (start + minutes) ∷ leb 1 u ∷ leb 1 v ∷ ltb p 4294967296 ∷ ltb u 4294967296 ∷ ltb q 4294967296 ∷ ltb v 4294967296 ∷ []) test in
      let o = t.1.1.1 in
      let m = o.1.1 in
      record {
        quarter = eqb-true _ _ t.0;
        inside = (ltb-true _ _ t.1.0, ltb-true _ _ t.1.1.0);
        some = (leb-true _ _ o.0, leb-true _ _ o.1.0);
        small = ((ltb-true _ _ m.0, ltb-true _ _ m.1.0), ((ltb-true _ _ m.1.1.0, ltb-true _ _ m.1.1.1.0), tt));
      }

  asked : Kept cs n first second → Cuttable s.book whole first second
  asked kept =
      let t = tested in
      let low = t.inside.0 in
      let high = t.inside.1 in
      record {
        has = rw s.calls i;
        live = refl;
        window = is;
        first_part = record { live = refl; participant = refl; service = refl; same_a = refl; no_b = refl; no_c = refl; revision = t.some.0 };
        second_part = record { live = refl; participant = refl; service = refl; same_a = refl; no_b = refl; no_c = refl; revision = t.some.1 };
        begins = refl;
        meet = omega arith;
        ends = omega arith;
        quarter = t.quarter;
        inside = t.inside;
        numbers = numbers kept;
      }
    where
      numbers : Kept cs n first second → Numbers s.book whole first second
      numbers (by_first e h) = first_keeps e (λ y j. new_in second cs h y (rw s.calls at j))
      numbers (by_second e h) = second_keeps e (λ y j. new_in first cs h y (rw s.calls at j))

  pub halved : Kept cs n first second → CutTo s.book whole first second (placed first (placed second (without (call_key whole) cs)))
  halved kept = sample_cut cs s whole first second few (asked kept) tested.small
