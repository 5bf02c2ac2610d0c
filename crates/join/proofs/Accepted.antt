-- What an accepted join says, and the book that it has written. Assumes nothing.
use mathlib.Core.Path.{◌≡◌, sym, ◌∙◌, ap}
use mathlib.Core.Bool.{true}
use mathlib.Core.List.{List, [], ◌∷◌}
use Prim.Native.Nat.{ℕ, ◌≤◌}
use native.Mathlib.Omega.{arith}
use lib.Dec.{eqb}
use lib.ListN.{length}
use lib.Seq.{take-append_seam}
use borrow.Author.Tests.{eqb-true}
use Rattle.le.proofs.Tests.{each}
use Rattle.book.specs.declared.Header.{Header}
use Rattle.book.specs.declared.Verdict.{Verdict}
use Rattle.book.specs.Book.{most_records, version_at, header_at, calls_of}
use Rattle.book.specs.Check.{header_minutes}
use Rattle.book.specs.Sound.{Known, Heading, Sound}
use Rattle.book.proofs.Exact.{version_of, reads_back, sound_reads}
use Rattle.rule.specs.Keys.{record_of}
use Rattle.rule.specs.Joined.{joined_at, join_calls}
use Rattle.rule.proofs.Joins.{join_find}
use Rattle.rule.proofs.Bounds.{Calls, join_sound_lem}
use Rattle.pair.specs.Screening.{same_month}
use Rattle.join.specs.Turns.{ran}
use Rattle.join.specs.Joining.{JoinOutcome, join_refused, join_wrote, keys_of_both, joined_of, joined_version, joined_book, joining}
use Rattle.join.specs.Trees.{written}
use Rattle.pair.proofs.Screening.{Screened}
use Rattle.join.proofs.WaysOut.{Way, screened, many, short, joins, way}
use Rattle.join.proofs.Steps.{joined_length}
use Rattle.join.proofs.Versions.{pair_known, pair_most}
use Rattle.join.proofs.Trees.{sound_calls_lem, book_sound}

pub record Accepts (a b out : List ℕ) : Type 0 where
  pub screen : Screened a b
  pub few : length (joined_of a b) ≤ most_records (joined_version a b)
  pub is : joining a b out ≡ join_wrote (joined_book a b) (ran a b out).turns out

pub accepts : (a b out : List ℕ) → (joining a b out).number ≡ 0 → Accepts a b out
accepts a b out z = go (way a b out)
  where
    -- no refusal has number 0
    never : {v : Verdict} → join_refused v out ≡ joining a b out → v.number ≡ 0
    never e = ap (λ (o : JoinOutcome). o.number) e ∙ z

    go : Way a b out → Accepts a b out
    go (screened s e) = absurd (s (never e))
    go (many s f e) = absurd (omega (arith, never e))
    go (short s r e) = absurd (omega (arith, never e))
    go (joins s f e) = record { screen = s; few = let most = pair_most (version_at a) (version_at b) (keys_of_both a b) f in omega (arith, joined_length a b, most); is = sym e }

-- year, month and area are the whole header
pub one_header : (h k : Header) → same_month h k ≡ true → h ≡ k
unfolding same_month
one_header h k e =
    let t = each (eqb h.year k.year) (eqb h.month k.month ∷ eqb h.area k.area ∷ []) e in
    path (eqb-true _ _ t.1.1.0) (eqb-true _ _ t.0) (eqb-true _ _ t.1.0)
  where
    path : h.area ≡ k.area → h.year ≡ k.year → h.month ≡ k.month → h ≡ k
    path a y m = λ i. record { area = a i; year = y i; month = m i }

-- Two sound books, joined
module _ (a b out : List ℕ) (p : Sound a) (q : Sound b) (z : (joining a b out).number ≡ 0) where
  first_calls : Calls (header_minutes (header_at a)) (calls_of a)
  first_calls = sound_calls_lem a p

  second_calls : Calls (header_minutes (header_at a)) (calls_of b)
  second_calls = rw (sym (one_header (header_at a) (header_at b) (accepts a b out z).screen.month)) at (sound_calls_lem b q)

  joined_calls : Calls (header_minutes (header_at a)) (joined_of a b)
  unfolding joined_of
  joined_calls = join_sound_lem (header_minutes (header_at a)) (calls_of a) (calls_of b) first_calls second_calls

  heads : Heading (header_at a)
  heads = rw (sym (sound_reads a p).0) at p.heading

  written_bytes : written (joining a b out) ≡ joined_book a b
  written_bytes = ap written (accepts a b out z).is ∙ take-append_seam (joined_book a b) _

  known : Known (joined_version a b)
  known = pair_known (version_at a) (version_at b) (keys_of_both a b)

  -- the joined book is sound and of the same month and area, and its calls are the join of the calls
  pub joined_sound : Sound (written (joining a b out))
  joined_sound = rw written_bytes (book_sound (joined_version a b) (header_at a) (joined_of a b) known heads (accepts a b out z).few joined_calls)

  pub version_joined : version_at (written (joining a b out)) ≡ joined_version a b
  version_joined = ap version_at written_bytes ∙ version_of (joined_version a b) (header_at a) (joined_of a b) known heads (accepts a b out z).few

  pub header_joined : header_at (written (joining a b out)) ≡ header_at a
  header_joined = ap header_at written_bytes ∙ (reads_back (joined_version a b) (header_at a) (joined_of a b) known heads (accepts a b out z).few joined_calls.within).0

  pub reads_joined : calls_of (written (joining a b out)) ≡ join_calls (calls_of a) (calls_of b)
  unfolding joined_of
  reads_joined = ap calls_of written_bytes ∙ (reads_back (joined_version a b) (header_at a) (joined_of a b) known heads (accepts a b out z).few joined_calls.within).1

  -- one key in the joined book
  pub record_joined : (k : ℕ) → record_of k (calls_of (written (joining a b out))) ≡ joined_at (record_of k (calls_of a)) (record_of k (calls_of b))
  record_joined k = ap (record_of k) reads_joined ∙ join_find (calls_of a) (calls_of b) k
