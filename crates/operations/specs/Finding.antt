-- What a lookup of one key in two books gives, a row each: exactly when which. Assumes nothing.
use Rattle.std.specs.Prelude.{◌≡◌, ◌⊎◌, ◌≢◌, List, [], ℕ}
use Rattle.std.proofs.Math.Option.{some}
use Rattle.call.specs.declared.Call.{Call}
use Rattle.call.specs.Key.{key_of}
use Rattle.call.specs.Layout.{call_bytes}
use Rattle.book.specs.Book.{calls_of}
use Rattle.rule.specs.Keys.{record_of}
use Rattle.pair.specs.Screening.{screen}
use Rattle.join.specs.Joining.{joined_of}

-- the record that the join has for a key, as it lies in one of the books
pub record Lying (first second : List ℕ) (key : ℕ) (c : Call) : Type 0 where
  pub stands : record_of key (joined_of first second) ≡ some c
  pub lies : (record_of key (calls_of first) ≡ some c) ⊎ (record_of key (calls_of second) ≡ some c)

-- joining would refuse with 1 to 7 or 21 to 26, and the part is empty; the record that stands lies in one of the books, and the part is its 32 bytes; there is none, or it
-- lies in neither, and the part is empty
pub data FindVerdict (first second : List ℕ) (participant number : ℕ) (part : List ℕ) : Type 0 where
  books_refused : (screen first second).number ≢ 0 → part ≡ [] → FindVerdict first second participant number part
  record_found : (screen first second).number ≡ 0 → (c : Call) → Lying first second (key_of participant number) c → part ≡ call_bytes c → FindVerdict first second participant number part
  nothing_found : (screen first second).number ≡ 0 → ((c : Call) → ¬ Lying first second (key_of participant number) c) → part ≡ [] → FindVerdict first second participant number part
