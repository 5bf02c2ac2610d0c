-- Records of a book that are not the one that stands for their key. Assumes nothing.
use Rattle.std.specs.Prelude.{◌≡◌, Bool, true, false, cond, not, ◌&&◌, ℕ, ◌-◌, ◌<◌, ltb}
use mathlib.Core.List.{List, [], ◌∷◌, map, Memᴰ as In}
use Rattle.std.proofs.Math.Option.{Option, none, some}
use Rattle.call.specs.declared.Call.{Call}
use Rattle.call.specs.Key.{call_key}
use Rattle.call.specs.Revising.{call_contested}
use Rattle.book.specs.Book.{count_at, record_at, calls_of}
use Rattle.rule.specs.Standing.{same_call, is_contested, is_withdrawn}
use Rattle.rule.specs.Keys.{record_of}
use Rattle.rule.specs.Whole.{rule_over}
use Rattle.pair.specs.Screening.{passes, screen}
use Rattle.lookup.specs.Lookup.{index_of}
use Rattle.drawer.specs.declared.stale.Why.{Why}
use Rattle.drawer.specs.declared.stale.Why.TheVariants.{Withdrawn, Higher, Contested, Other}
use Rattle.drawer.specs.declared.stale.StaleRecord.{StaleRecord}
use Rattle.drawer.specs.declared.stale.NextStale.{NextStale}
use Rattle.drawer.specs.declared.stale.NextStale.TheVariants.{BadBooks, NoneLeft, Next}
use Rattle.drawer.specs.Told.{told_from}

-- the record that stands for a key, where there is one, is this one
unfoldable pub is_this : Option Call → Call → Bool
is_this none c = false
is_this (some r) c = same_call r c

-- a record that is not the one that stands for its key, among the joined calls
unfoldable pub is_stale : List Call → Call → Bool
is_stale joined c = not (is_this (record_of (call_key c) joined) c)

-- why c does not stand where r does: withdrawn; a higher revision; contested at this revision
unfoldable pub why_not : Call → Call → Why
why_not r c =
    cond (is_withdrawn r && not (is_withdrawn c)) Withdrawn
    (cond (ltb c.revision r.revision) Higher
    (cond (is_contested r) Contested
    Other))

unfoldable pub why_of : Option Call → Call → Why
why_of none c = Other
why_of (some r) c = why_not r c

-- record k of a book is listed
unfoldable pub is_stale_at : List ℕ → List ℕ → ℕ → Bool
is_stale_at book joined k = is_stale (calls_of joined) (record_at book k)

-- what is told of it: where the record that stands lies in the joined book, and why this one does not stand
unfoldable pub stale_at : List ℕ → List ℕ → ℕ → StaleRecord
stale_at book joined k =
    record {
      place = k;
      stands = index_of (call_key (record_at book k)) joined;
      why = why_of (record_of (call_key (record_at book k)) (calls_of joined)) (record_at book k);
    }

-- what is listed of a book, from record i on
unfoldable pub stale_of : List ℕ → List ℕ → ℕ → List StaleRecord
stale_of book joined i = told_from (is_stale_at book joined) (stale_at book joined) i (count_at book - i)

-- the first of them
unfoldable pub first_stale : List StaleRecord → NextStale
first_stale [] = NoneLeft
first_stale (x ∷ xs) = Next x

-- a refusal, where joining would refuse the two with 1 to 7 or 21 to 26
unfoldable pub next_stale : List ℕ → List ℕ → ℕ → NextStale
next_stale book joined i =
    cond (passes (screen book joined)) (first_stale (stale_of book joined i))
    (BadBooks (screen book joined).number (screen book joined).place)

-- What the promises speak of

-- nothing is listed of any of the books
abbrev pub NothingListed : List ℕ → List (List ℕ) → Type 0
NothingListed joined bs = (b : List ℕ) → In b bs → stale_of b joined 0 ≡ []

-- each book agrees with what stands: each of its records is the one that the rule over all of them gives
abbrev pub EachStands : List (List ℕ) → Type 0
EachStands bs = (b : List ℕ) → In b bs → (c : Call) → In c (calls_of b) → rule_over (map calls_of bs) (call_key c) ≡ some c

-- no two of them have different records for one key
abbrev pub NoneDiffer : List (List ℕ) → Type 0
NoneDiffer bs =
    (b : List ℕ) → In b bs → (d : List ℕ) → In d bs → (x : Call) → In x (calls_of b) → (y : Call) → In y (calls_of d) → call_key x ≡ call_key y → x ≡ y

-- why c does not stand where r does, a row each
pub data Reason (r c : Call) (why : Why) : Type 0 where
  withdrawn_elsewhere : why ≡ Withdrawn → is_withdrawn r ≡ true → is_withdrawn c ≡ false → Reason r c why
  revised_elsewhere : why ≡ Higher → is_withdrawn r ≡ is_withdrawn c → c.revision < r.revision → Reason r c why
  contested_here : why ≡ Contested → is_withdrawn c ≡ false → r ≡ call_contested c → Reason r c why
