-- Forms as they are shown: each mark, and what is decided where a form and its numbers do not fit each other. Assumes nothing.
use mathlib.Core.Path.{◌≡◌, refl}
use mathlib.Core.Bool.{Bool, true, ◌&&◌}
use mathlib.Core.List.{List, [], ◌∷◌}
use Prim.Native.Nat.{ℕ}
use Prim.Native.String.{String}
use lib.IntN.{negsuc}
use Rattle.render.specs.Decimal.{word, decimal_in, decimal, signed_decimal}
use Rattle.render.specs.Room.{if_text_fits}
use Rattle.render.specs.Yuan.{two_places, five_places, yuan, signed_yuan, points}
use Rattle.clock.specs.Clock.{before, behind, two_digits, clock_text, date_text, hours_text, minutes_text, length_text}
use Rattle.names.specs.Names.{skip, word_at, services, kinds, months, same, service_word, kind_word, month_word}
use Rattle.form.specs.Form.{bits, time_text, shown, word_shown, is_number, is_sign, byte_text, next_on, next_marked, taken_by, filled_from, filled, filled_with}
use Rattle.form.specs.Form.{most_shown, most_byte, most_from, most_of}

-- a form, its numbers, and what is shown
pub data Case : Type 0 where
  shows : String → List ℕ → String → Case

abbrev pub every : List Case → Bool
every [] = true
every (shows form values text ∷ cases) = same (filled (word form) values) (word text) && every cases

abbrev pub cases : List Case
cases =
    -- numbers, signed ones, yuan and points
    shows "%n %i %y %s %p\n" (7 ∷ bits (negsuc 4) ∷ 12345 ∷ bits (negsuc 49) ∷ 250000 ∷ []) "7 -5 123.45 -0.50 2.50000\n"
    -- a service, a kind and a month by their words, a date, a time of the day and a length of time
    ∷ shows "%v %k %m %d %t %l" (2 ∷ 1 ∷ 3 ∷ 21600 ∷ 1440 ∷ 90 ∷ []) "reserve coal March 16/00:00 24:00 1h30m"
    -- of their numbers the lowest bits count
    ∷ shows "%v %l" (258 ∷ 65596 ∷ []) "reserve 1h"
    -- what is shown where a number is not 0, and where it is; one part may be missing
    ∷ shows "[on|off] [on|off] [x]%n" (3 ∷ 0 ∷ 0 ∷ 5 ∷ []) "on off 5"
    -- marks that are not shown take their numbers too
    ∷ shows "[a %n|b %n] %n" (0 ∷ 1 ∷ 2 ∷ 3 ∷ []) "b 2 3"
    -- the signs themselves
    ∷ shows "%% %[%n%|%]" (7 ∷ []) "% [7|]"
    -- a number that is missing is 0
    ∷ shows "%n of %n[ more|]" (7 ∷ []) "7 of 0"
    -- numbers too many are not looked at
    ∷ shows "%n" (7 ∷ 8 ∷ []) "7"
    -- a mark that is not known shows its letter; a small letter takes a number
    ∷ shows "%q %n %? %n" (7 ∷ 8 ∷ 9 ∷ []) "q 8 ? 9"
    -- a `%` at the end shows nothing
    ∷ shows "100%" [] "100"
    -- brackets that are not in pairs: a `|` turns showing off up to the next `]`, a `[` in what is not shown asks its own number, a `]` alone is nothing
    ∷ shows "a|b]c" [] "ac"
    ∷ shows "[a[b]c]d" (0 ∷ 5 ∷ []) "bcd"
    ∷ shows "a]b" [] "ab"
    ∷ []

pub shown_so : every cases ≡ true
unfolding filled_from byte_text next_on next_marked taken_by is_sign is_number shown word_shown time_text same
    service_word kind_word month_word word_at skip services kinds months before behind date_text clock_text two_digits length_text hours_text minutes_text
    decimal decimal_in signed_decimal yuan signed_yuan points two_places five_places
shown_so = refl

-- two texts
pub texts_shown : filled_with (word "%1: %2\n") (word "a.nwb") (word "no such file") [] ≡ word "a.nwb: no such file\n"
unfolding filled_from byte_text next_on next_marked taken_by is_sign is_number shown
texts_shown = refl

-- room for the most digits of a number, and a byte less: nothing
pub just_room : if_text_fits (most_of (word "%n\n")) 21 (word "7\n") ≡ word "7\n"
unfolding most_from most_byte most_shown next_marked is_sign
just_room = refl

pub no_room : if_text_fits (most_of (word "%n\n")) 20 (word "7\n") ≡ []
unfolding most_from most_byte most_shown next_marked is_sign
no_room = refl
