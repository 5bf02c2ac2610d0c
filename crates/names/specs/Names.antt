-- Services, kinds of plant and months by their words. Assumes nothing.
use Rattle.std.specs.Prelude.{Bool, true, false, cond, ◌&&◌, List, [], ◌∷◌, ℕ, zero, suc, eqb, Option, Some, None}
use Rattle.render.specs.Decimal.{word}
use Rattle.clock.specs.Clock.{before, behind}

-- The words

-- words are parted by single blanks
abbrev pub blank : ℕ
blank = 32

-- the text behind so many words
unfoldable pub skip : List ℕ → ℕ → List ℕ
skip words zero = words
skip words (suc n) = skip (behind blank words) n

-- word n of a text, from 0 on
unfoldable pub word_at : List ℕ → ℕ → List ℕ
word_at words n = before blank (skip words n)

-- the services by their numbers in the paper; a contested or withdrawn call has none
unfoldable pub services : List ℕ
services = word "none deep-peak reserve start-stop standby black-start agc-availability agc-contribution frequency-event avc stability-trip"

-- the kinds of plant by their numbers in the paper
unfoldable pub kinds : List ℕ
kinds = word "none coal gas hydro wind photovoltaic solar-thermal pumped-storage new-storage"

-- the months
unfoldable pub months : List ℕ
months = word "none January February March April May June July August September October November December"

-- how many there are of each
abbrev pub most_service : ℕ
most_service = 10

abbrev pub most_kind : ℕ
most_kind = 8

-- Reading

-- two texts are the same, byte for byte
unfoldable pub same : List ℕ → List ℕ → Bool
same [] [] = true
same [] (y ∷ ys) = false
same (x ∷ xs) [] = false
same (x ∷ xs) (y ∷ ys) = eqb x y && same xs ys

-- which of so many words of a list a text is, counted from word n on
unfoldable pub place_from : List ℕ → ℕ → ℕ → List ℕ → Option ℕ
place_from words zero n text = None
place_from words (suc left) n text = cond (same text (word_at words n)) (Some n) (place_from words left (suc n) text)

-- the service that a word says, and the kind
unfoldable pub service_of : List ℕ → Option ℕ
service_of text = place_from services most_service 1 text

unfoldable pub kind_of : List ℕ → Option ℕ
kind_of text = place_from kinds most_kind 1 text

-- Writing

-- the words
unfoldable pub service_word : ℕ → List ℕ
service_word n = word_at services n

unfoldable pub kind_word : ℕ → List ℕ
kind_word n = word_at kinds n

unfoldable pub month_word : ℕ → List ℕ
month_word n = word_at months n

-- the most bytes of a word
abbrev pub most_word : ℕ
most_word = 16
