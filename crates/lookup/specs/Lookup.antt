-- One key in two books: the record that stands, as it lies in the first or the second. Assumes nothing.
use Rattle.std.specs.Prelude.{◌≡◌, cond, List, [], ◌∷◌, ℕ, suc, ◌+◌, eqb, take, drop, Option, Some, None}
use Rattle.std.specs.Borrow.{Bor}
use Rattle.call.specs.declared.Call.{Call}
use Rattle.call.specs.Key.{key_of, call_key}
use Rattle.call.specs.Layout.{record_size}
use Rattle.book.specs.Book.{place_of, record_at, calls_of}
use Rattle.rule.specs.declared.Decision.{Decision}
use Rattle.rule.specs.declared.Decision.TheVariants.{First, Second, Struck}
use Rattle.rule.specs.Standing.{decide}
use Rattle.pair.specs.Screening.{passes, screen}
use Rattle.lookup.specs.declared.Place.{Place}
use Rattle.lookup.specs.declared.Place.TheVariants.{Nowhere, InFirst, InSecond}

-- the index of the record with a key, among calls of which the first is record i
unfoldable pub index_from : ℕ → ℕ → List Call → Option ℕ
index_from k i [] = None
index_from k i (c ∷ cs) = cond (eqb (call_key c) k) (Some i) (index_from k (suc i) cs)

-- the same of a book
unfoldable pub index_of : ℕ → List ℕ → Option ℕ
index_of k b = index_from k 0 (calls_of b)

-- where the record that stands lies, of record i of the first book and record j of the second; a struck one stands in neither
unfoldable pub stands_at : Decision → ℕ → ℕ → Place
stands_at First i j = InFirst i
stands_at Second i j = InSecond j
stands_at Struck i j = Nowhere

-- a key that neither book has is nowhere; in one book only, it is there; in both, it is where the record that stands lies
unfoldable pub choose : List ℕ → Option ℕ → List ℕ → Option ℕ → Place
choose first None second None = Nowhere
choose first (Some i) second None = InFirst i
choose first None second (Some j) = InSecond j
choose first (Some i) second (Some j) = stands_at (decide (record_at first i) (record_at second j)) i j

-- nowhere, where joining would refuse with 1 to 7 or 21 to 26
unfoldable pub which : List ℕ → List ℕ → ℕ → ℕ → Place
which first second participant number =
    cond (passes (screen first second))
    (choose first (index_of (key_of participant number) first) second (index_of (key_of participant number) second))
    Nowhere

-- a part is so many bytes of a slice from a place on, where they lie
pub record Lies (s : Bor (List ℕ)) (at size : ℕ) (part : Bor (List ℕ)) : Type 0 where
  pub bytes : part.now ≡ take size (drop at s.now)
  pub block : part.ref_ptr.0 ≡ s.ref_ptr.0
  pub offset : part.ref_ptr.1 ≡ s.ref_ptr.1 + at

-- the record's 32 bytes in the first book or the second, or an empty part
abbrev pub LiesAt : Place → Bor (List ℕ) → Bor (List ℕ) → Bor (List ℕ) → Type 0
LiesAt Nowhere first second part = part.now ≡ []
LiesAt (InFirst i) first second part = Lies first (place_of i) record_size part
LiesAt (InSecond j) first second part = Lies second (place_of j) record_size part

abbrev pub Found : Bor (List ℕ) → Bor (List ℕ) → ℕ → ℕ → Bor (List ℕ) → Type 0
Found first second participant number part = LiesAt (which first.now second.now participant number) first second part
