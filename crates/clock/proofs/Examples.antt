-- What is read of texts, worked out apart; and that no contract leaves a choice. Assumes nothing.
use mathlib.Core.Path.{◌≡◌, refl, sym, ◌∙◌}
use mathlib.Core.List.{List, [], ◌∷◌, map}
use Prim.Native.Nat.{ℕ}
use Prim.Native.String.{String}
use Rattle.render.specs.Decimal.{word, decimal_in, decimal}
use Rattle.std.specs.Prelude.{Option, Some, None}
use Rattle.clock.specs.Clock.{has, before, behind, number_in, up_to16_bits, date_of, start_of, minutes_in, rest_in, length_of}
use Rattle.clock.specs.Clock.{two_digits, clock_text, date_text, hours_text, minutes_text, length_text}

pub record Case : Type 0 where
  pub text : String
  pub says : Option ℕ

abbrev case : String → Option ℕ → Case
case text says = record { text = text; says = says }

-- starts, in a month of 28 days
pub starts : List Case
starts =
    case "0" (Some 0)
    ∷ case "21600" (Some 21600)
    ∷ case "65535" (Some 65535)
    ∷ case "65536" None
    ∷ case "1/00:00" (Some 0)
    ∷ case "16/00:00" (Some 21600)
    ∷ case "16/7:5" (Some 22025)
    ∷ case "28/23:59" (Some 40319)
    ∷ case "0/00:00" None
    ∷ case "29/00:00" None
    ∷ case "16/24:00" None
    ∷ case "16/00:60" None
    ∷ case "16/00" None
    ∷ case "16/" None
    ∷ case "/00:00" None
    ∷ case "16/00:00:00" None
    ∷ case "1/6/00:00" None
    ∷ case "-1" None
    ∷ case "" None
    ∷ []

-- lengths
pub lengths : List Case
lengths =
    case "2700" (Some 2700)
    ∷ case "45h" (Some 2700)
    ∷ case "90m" (Some 90)
    ∷ case "1h30m" (Some 90)
    ∷ case "1h30" (Some 90)
    ∷ case "0h" (Some 0)
    ∷ case "1092h15m" (Some 65535)
    ∷ case "1092h16m" None
    ∷ case "h" None
    ∷ case "m" None
    ∷ case "30m1h" None
    ∷ case "1h2h" None
    ∷ case "1m2m" None
    ∷ case "1.5h" None
    ∷ case "" None
    ∷ []

-- Each text says what its table has.
pub starts_read : map (λ c. start_of 28 (word c.text)) starts ≡ map (λ c. c.says) starts
unfolding starts start_of date_of up_to16_bits number_in has before behind
starts_read = refl

pub lengths_read : map (λ c. length_of (word c.text)) lengths ≡ map (λ c. c.says) lengths
unfolding lengths length_of minutes_in rest_in up_to16_bits number_in has before behind
lengths_read = refl

-- what is written
pub written : date_text 22025 ∷ date_text 0 ∷ length_text 59 ∷ length_text 60 ∷ length_text 61 ∷ [] ≡ word "16/07:05" ∷ word "1/00:00" ∷ word "59m" ∷ word "1h" ∷ word "1h1m" ∷ []
unfolding date_text clock_text two_digits length_text hours_text minutes_text decimal decimal_in
written = refl

-- A text says one start, and one length.
pub start_determined : (days : ℕ) (text : List ℕ) (t u : Option ℕ) → t ≡ start_of days text → u ≡ start_of days text → t ≡ u
start_determined days text t u e f = e ∙ sym f

pub length_determined : (text : List ℕ) (t u : Option ℕ) → t ≡ length_of text → u ≡ length_of text → t ≡ u
length_determined text t u e f = e ∙ sym f
