-- Where a book turns to the second version: a full book of the first with one call more, and an empty book of the second among books of the first. Assumes nothing.
use Rattle.std.specs.Prelude.{List, [], ◌∷◌, ℕ}
use Rattle.book.specs.Book.{first_version, second_version, book_bytes}
use Rattle.join.specs.Trees.{Plan, book, join}
use Rattle.sums.specs.Crowded.{january, numbered, output}

-- calls 0 to 511, and call 512
unfoldable pub full_first : List ℕ
full_first = book_bytes first_version january (numbered 0 512)

unfoldable pub next_call : List ℕ
next_call = book_bytes first_version january (numbered 512 1)

-- no call, in a book of the second version
unfoldable pub empty_second : List ℕ
empty_second = book_bytes second_version january (numbered 0 0)

-- the two books of the first version, in two orders and one repeated
unfoldable pub turning : List (List ℕ)
turning = full_first ∷ next_call ∷ []

unfoldable pub one_order : Plan
one_order = join (book full_first) (book next_call) output

unfoldable pub other_order : Plan
other_order = join (book next_call) (book full_first) output

unfoldable pub repeated_one : Plan
repeated_one = join (join (book full_first) (book next_call) output) (book full_first) output

-- two books of one call, of the first version, and the empty one of the second among them
unfoldable pub late_call : List ℕ
late_call = book_bytes first_version january (numbered 600 1)

unfoldable pub pair : List (List ℕ)
pair = next_call ∷ late_call ∷ []

unfoldable pub pair_order : Plan
pair_order = join (book next_call) (book late_call) output

unfoldable pub mixed : List (List ℕ)
mixed = empty_second ∷ pair

unfoldable pub mixed_order : Plan
mixed_order = join (book next_call) (join (book empty_second) (book late_call) output) output

unfoldable pub mixed_back : Plan
mixed_back = join (join (book late_call) (book next_call) output) (book empty_second) output
