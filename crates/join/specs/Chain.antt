-- A chain of joins: book after book joined with what those before it gave, as a desk does it. Assumes nothing.
use Rattle.std.specs.Prelude.{cond, List, [], ◌∷◌, ◌++◌, map, ℕ, suc, ◌+◌, ◌*◌, min, eqb, length, take}
use Rattle.book.specs.declared.Header.{Header}
use Rattle.book.specs.Book.{most_keys}
use Rattle.book.specs.Write.{writing}
use Rattle.join.specs.Joining.{JoinOutcome, key_count, joining}
use Rattle.join.specs.Trees.{written}

-- a book that is joined in, and the output that is lent to its join
pub record Link : Type 0 where
  pub book : List ℕ
  pub out : List ℕ

-- the books of a chain
abbrev pub linked : List Link → List (List ℕ)
linked links = map (λ l. l.book) links

-- the outcomes of a chain's joins from a book on, in their order; a refusal is its last
unfoldable pub chain : List ℕ → List Link → List JoinOutcome
chain b [] = []
chain b (l ∷ ls) =
    joining b l.book l.out ∷ cond (eqb (joining b l.book l.out).number 0) (chain (written (joining b l.book l.out)) ls) []

-- the empty book of a month and area, as it is written into a page
unfoldable pub empty_book : Header → List ℕ → List ℕ
empty_book h page = take (writing h [] page).size (writing h [] page).out

unfoldable pub sum : List ℕ → ℕ
sum [] = 0
sum (n ∷ ns) = n + sum ns

-- the turns of each join
abbrev pub turns_of : List JoinOutcome → List ℕ
turns_of os = map (λ o. o.turns) os

-- how many different keys there are up to each book, where those of other books are there already
unfoldable pub keys_up_to : List (List ℕ) → List (List ℕ) → List ℕ
keys_up_to before [] = []
keys_up_to before (b ∷ bs) = key_count (before ++ b ∷ []) ∷ keys_up_to (before ++ b ∷ []) bs

-- the most turns of a chain by the counts of its books: of each join the smaller of 2,000 and the counts up to its book, where so many are there already
unfoldable pub most_turns : ℕ → List ℕ → ℕ
most_turns before [] = 0
most_turns before (n ∷ ns) = min most_keys (before + n) + most_turns (before + n) ns

-- the same without the 2,000: the first count as many times as there are books, the next once less, the last once
unfoldable pub counted_again : List ℕ → ℕ
counted_again [] = 0
counted_again (n ∷ ns) = suc (length ns) * n + counted_again ns
