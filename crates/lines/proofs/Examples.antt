-- Texts and what is read of them: the paper's sample, and the edges of a line. They show that the definitions are about something.
use mathlib.Core.Path.{◌≡◌, refl}
use mathlib.Core.Bool.{Bool, true, ◌&&◌}
use mathlib.Core.List.{List, [], ◌∷◌, ◌++◌}
use Prim.Native.Nat.{ℕ}
use lib.Dec.{eqb}
use Rattle.row.specs.Numbers.{numbers_in}
use Rattle.row.specs.Judging.{filled_up, judged}
use Rattle.share.specs.Sharing.{line_is_sound}
use Rattle.lines.specs.declared.Taken.{Taken}
use Rattle.lines.specs.Text.{line_of, text_lines, part_in, text_part, part_then, read_text}

-- "1 0 100 300000 0"
first : List ℕ
first = 49 ∷ 32 ∷ 48 ∷ 32 ∷ 49 ∷ 48 ∷ 48 ∷ 32 ∷ 51 ∷ 48 ∷ 48 ∷ 48 ∷ 48 ∷ 48 ∷ 32 ∷ 48 ∷ []

-- "2 0 200 0 1000"
second : List ℕ
second = 50 ∷ 32 ∷ 48 ∷ 32 ∷ 50 ∷ 48 ∷ 48 ∷ 32 ∷ 48 ∷ 32 ∷ 49 ∷ 48 ∷ 48 ∷ 48 ∷ []

-- "3 2 50 0 0"
third : List ℕ
third = 51 ∷ 32 ∷ 50 ∷ 32 ∷ 53 ∷ 48 ∷ 32 ∷ 48 ∷ 32 ∷ 48 ∷ []

-- "10000" and "5000"
whole : List ℕ
whole = 49 ∷ 48 ∷ 48 ∷ 48 ∷ 48 ∷ []

half : List ℕ
half = 53 ∷ 48 ∷ 48 ∷ 48 ∷ []

-- the paper's sample behind a part, without the last line feed
pub sample : List ℕ → List ℕ
sample part = part ++ 10 ∷ first ++ 10 ∷ second ++ 10 ∷ third

pub record Case : Type 0 where
  pub text : List ℕ
  pub part : ℕ
  pub number : ℕ
  pub place : ℕ
  pub count : ℕ

-- a text that is taken, by its part and how many lines it has
taken : List ℕ → ℕ → ℕ → Case
taken text part count = record { text = text; part = part; number = 0; place = 0; count = count }

-- one whose first line is no part
none : List ℕ → Case
none text = record { text = text; part = 0; number = 10; place = 65; count = 0 }

-- one whose line is refused, behind the whole part
refused : List ℕ → ℕ → Case
refused lines place = record { text = whole ++ 10 ∷ lines; part = 10000; number = 10; place = place; count = 0 }

pub cases : List Case
cases =
    taken (sample whole) 10000 3
    ∷ taken (sample half ++ 10 ∷ []) 5000 3
    -- a part and no lines; leading zeros
    ∷ taken whole 10000 0
    ∷ taken (whole ++ 10 ∷ []) 10000 0
    ∷ taken (48 ∷ []) 0 0
    ∷ taken (sample (48 ∷ 48 ∷ 48 ∷ 48 ∷ 48 ∷ 48 ∷ 48 ∷ 48 ∷ 48 ∷ 48 ∷ 48 ∷ 48 ∷ half)) 5000 3
    -- no text at all; an empty first line; 10,001; a sign; two numbers; a blank behind and before; a carriage return
    ∷ none []
    ∷ none (10 ∷ [])
    ∷ none (10 ∷ sample whole)
    ∷ none (sample (49 ∷ 48 ∷ 48 ∷ 48 ∷ 49 ∷ []))
    ∷ none (sample (43 ∷ half))
    ∷ none (sample (45 ∷ 48 ∷ []))
    ∷ none (sample (half ++ 32 ∷ half))
    ∷ none (sample (half ++ 32 ∷ []))
    ∷ none (sample (32 ∷ half))
    ∷ none (sample (half ++ 13 ∷ []))
    -- the lines without a part
    ∷ none (third ++ 10 ∷ [])
    -- an empty line; one behind a sound line
    ∷ refused (10 ∷ []) 0
    ∷ refused (third ++ 10 ∷ 10 ∷ []) 1
    -- a carriage return; a blank behind, before, and one too many; a sign; a NUL
    ∷ refused (third ++ 13 ∷ 10 ∷ []) 0
    ∷ refused (third ++ 32 ∷ []) 0
    ∷ refused (32 ∷ third) 0
    ∷ refused (first ++ 10 ∷ 51 ∷ 32 ∷ 32 ∷ 50 ∷ 32 ∷ 53 ∷ 48 ∷ 32 ∷ 48 ∷ 32 ∷ 48 ∷ []) 1
    ∷ refused (43 ∷ third) 0
    ∷ refused (third ++ 0 ∷ []) 0
    -- a sixth number; an equal number; leading zeros
    ∷ refused (third ++ 32 ∷ 48 ∷ []) 0
    ∷ refused (third ++ 10 ∷ third) 1
    ∷ taken (whole ++ 10 ∷ 48 ∷ 48 ∷ 48 ∷ 48 ∷ 48 ∷ 48 ∷ 48 ∷ 48 ∷ 48 ∷ 48 ∷ 48 ∷ 48 ∷ third) 10000 1
    ∷ []

pub as_said : Case → Taken → Bool
as_said c t = eqb t.part c.part && eqb t.number c.number && eqb t.place c.place && eqb t.count c.count

pub every : List Case → Bool
every [] = true
every (c ∷ cs) = as_said c (read_text c.text) && every cs

-- Each text is read as the table says.
pub reads_as_told : every cases ≡ true
unfolding every as_said cases taken none refused sample first second third whole half read_text part_then text_part part_in judged text_lines line_of numbers_in line_is_sound filled_up
reads_as_told = refl
