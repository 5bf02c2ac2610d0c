-- Books that add nothing. Assumes nothing.
use Rattle.std.specs.Prelude.{Bool, false, cond, ◌&&◌, List, [], ◌∷◌, ◌++◌, map, ℕ}
use Rattle.std.proofs.Math.Option.{Option, none, some}
use Rattle.call.specs.declared.Call.{Call}
use Rattle.call.specs.Key.{call_key}
use Rattle.book.specs.Book.{calls_of}
use Rattle.rule.specs.Standing.{same_call, standing}
use Rattle.rule.specs.Keys.{record_of}
use Rattle.rule.specs.Whole.{all, rule_calls}
use Rattle.pair.specs.Screening.{passes, screen}

-- the record that others have for a key, where they have one, stands against c
unfoldable pub stands_against : Option Call → Call → Bool
stands_against none c = false
stands_against (some r) c = same_call (standing r c) r

-- the calls that others give have a record that stands against c
unfoldable pub is_covered : List Call → Call → Bool
is_covered others c = stands_against (record_of (call_key c) others) c

-- a book adds nothing to the others' joined book: they are of one month and area, and it gives what stands against each of its calls
unfoldable pub adds_nothing : List ℕ → List ℕ → Bool
adds_nothing others book = passes (screen others book) && all (is_covered (calls_of others)) (calls_of book)

-- a spare book, which is listed: there are others, and by the rule over them they give what stands against each of its calls
unfoldable pub is_spare : List (List ℕ) → List ℕ → Bool
is_spare [] b = false
is_spare (o ∷ os) b = all (is_covered (rule_calls (map calls_of (o ∷ os)))) (calls_of b)

-- a book among those before it and those behind it that stay: it is listed as spare, or stays too
unfoldable pub or_stays : List (List ℕ) → List ℕ → List (List ℕ) → List (List ℕ)
or_stays before b behind = cond (is_spare (before ++ behind) b) behind (b ∷ behind)

-- the books that stay, of those behind others: gone through from the last to the first
unfoldable pub staying : List (List ℕ) → List (List ℕ) → List (List ℕ)
staying before [] = []
staying before (b ∷ bs) = or_stays before b (staying (before ++ (b ∷ [])) bs)
