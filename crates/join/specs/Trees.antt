-- Trees of joins over bytes: any order, any grouping, any repetition. Assumes nothing.
use Rattle.std.specs.Prelude.{◌≡◌, Bool, true, cond, ◌&&◌, ℕ, ◌≤◌, eqb, leb, length, take}
use mathlib.Core.List.{List, [], ◌∷◌, ◌++◌, map, Memᴰ as In}
use Rattle.book.specs.declared.Header.{Header}
use Rattle.book.specs.Book.{first_version, second_version, most_records, most_keys, size_of, version_at, header_at, calls_of, book_bytes}
use Rattle.book.specs.Sound.{Sound}
use Rattle.rule.specs.Whole.{rule_calls}
use Rattle.join.specs.Joining.{JoinOutcome, lone, key_count, joining}

-- a lone book, or the join of what two trees give, into an output that is lent to it
pub data Plan : Type 0 where
  book : List ℕ → Plan
  join : Plan → Plan → List ℕ → Plan

-- the books at the leaves
unfoldable pub books : Plan → List (List ℕ)
books (book b) = b ∷ []
books (join l r out) = books l ++ books r

-- the book that an outcome has written
abbrev pub written : JoinOutcome → List ℕ
written o = take o.size o.out

-- the join of what two outcomes have written; a refusal ends it
unfoldable pub join_both : JoinOutcome → JoinOutcome → List ℕ → JoinOutcome
join_both l r out = cond (eqb l.number 0) (cond (eqb r.number 0) (joining (written l) (written r) out) r) l

-- what a tree gives: each node is the outcome of a join
unfoldable pub result : Plan → JoinOutcome
result (book b) = lone b
result (join l r out) = join_both (result l) (result r) out

-- every join of a tree is accepted
abbrev pub AllAccepted : Plan → Type 0
AllAccepted (book b) = Unit {0}
AllAccepted (join l r out) = AllAccepted l × AllAccepted r × ((joining (written (result l)) (written (result r)) out).number ≡ 0)

-- each output holds the result, where its keys are not too many
abbrev pub Room : Plan → Type 0
Room (book b) = Unit {0}
Room (join l r out) = Room l × Room r × (key_count (books l ++ books r) ≤ most_keys → size_of (key_count (books l ++ books r)) ≤ length out)

-- sound books of one month and area
pub record OneMonth (h : Header) (bs : List (List ℕ)) : Type 0 where
  pub sound : (b : List ℕ) → In b bs → Sound b
  pub header : (b : List ℕ) → In b bs → header_at b ≡ h

-- the leaves of a tree are these books, each at least once
pub record Covers (p : Plan) (bs : List (List ℕ)) : Type 0 where
  pub all : (b : List ℕ) → In b bs → In b (books p)
  pub only : (b : List ℕ) → In b (books p) → In b bs

-- every book of a list is of the first version
unfoldable pub all_first : List (List ℕ) → Bool
all_first [] = true
all_first (b ∷ bs) = eqb (version_at b) first_version && all_first bs

-- the version over a whole list of books: the first exactly where every book is of it and the list has no more different keys than one of it has records
unfoldable pub version_over : List (List ℕ) → ℕ
version_over bs = cond (all_first bs && leb (key_count bs) (most_records first_version)) first_version second_version

-- the book that the rule over the whole list gives
unfoldable pub rule_book : Header → List (List ℕ) → List ℕ
rule_book h bs = book_bytes (version_over bs) h (rule_calls (map calls_of bs))
