-- The array form and the lent list: each says of its lines what `sharing` says. Assumes nothing.
use Rattle.std.specs.Prelude.{◌≡◌, List, [], ◌∷◌, map, ℕ, pos, take, replicate}
use Rattle.share.specs.declared.Line.{Line}
use Rattle.share.specs.declared.Shared.{Shared}
use Rattle.share.specs.declared.Answer.{Answer}
use Rattle.share.specs.Sharing.{Part, first_bad_line, SharingOutcome, sharing_refused, sharing_in_turn, sharing, most_number}

-- a line with its share and amount filled in
abbrev pub filled : Line → Part → Line
filled l p =
    record {
      number = l.number;
      status = l.status;
      energy = l.energy;
      compensation = l.compensation;
      assessment = l.assessment;
      share = record { 0 = p.share };
      amount = record { 0 = p.amount };
    }

-- the lines with their parts filled in, as far as there are parts
abbrev pub fill_in : List Part → List Line → List Line
fill_in [] ls = ls
fill_in (p ∷ ps) [] = []
fill_in (p ∷ ps) (l ∷ ls) = filled l p ∷ fill_in ps ls

-- share and amount are 0
abbrev pub cleared : Line → Line
cleared l = filled l (record { share = pos 0; amount = pos 0 })

-- a line of zeros, which is never sound
abbrev pub blank_line : Line
blank_line =
    record {
      number = 0;
      status = 0;
      energy = record { 0 = 0 };
      compensation = record { 0 = 0 };
      assessment = record { 0 = 0 };
      share = record { 0 = pos 0 };
      amount = record { 0 = pos 0 };
    }

-- The array form

-- the sharing of the first `count` of 64 lines: a count above 64 is 10 at the first bad of the 64, or at 64 where these are sound
abbrev pub sharing_counted : ℕ → List Line → ℕ → SharingOutcome
sharing_counted part lines count = sharing_in_turn part (first_bad_line 0 (take count lines)) count (take count lines)

-- the lines with share and amount 0
abbrev pub clear : List Line → List Line
clear lines = map (λ l. cleared l) lines

-- an outcome with the lines of the array: on a refusal, and beyond the count, share and amount are 0
abbrev pub array_of : List Line → SharingOutcome → Shared
array_of lines o =
    record {
      number = o.number;
      place = o.place;
      gap = record { 0 = o.gap };
      user = record { 0 = o.user };
      lines = fill_in o.parts (clear lines);
    }

-- a refusal, with the lines of the array
abbrev pub refuse : ℕ → ℕ → List Line → Shared
refuse number place lines = array_of lines (sharing_refused number place)

-- the answer where there are no lines to hand back: number and place, otherwise zeros
unfoldable pub nothing_shared : ℕ → ℕ → Shared
nothing_shared number place =
    record { number = number; place = place; gap = record { 0 = pos 0 }; user = record { 0 = pos 0 }; lines = replicate most_number blank_line }

-- the answer of the array form
unfoldable pub shared_array : ℕ → List Line → ℕ → Shared
shared_array part lines count = array_of lines (sharing_counted part lines count)

-- number, place, R and the user's amount of an array form's answer
abbrev pub answer_in : Shared → Answer
answer_in s = record { number = s.number; place = s.place; gap = s.gap; user = s.user }

-- number, place, R and the user's amount of an outcome
abbrev pub answer_of : SharingOutcome → Answer
answer_of o = record { number = o.number; place = o.place; gap = record { 0 = o.gap }; user = record { 0 = o.user } }

-- The lent list

-- the lines that were lent, as they were before and are after, and the answer: on a refusal no line changes, else share and
-- amount alone
pub record Lent (part : ℕ) (before after : List Line) (answer : Answer) : Type 0 where
  pub says : answer ≡ answer_of (sharing part before)
  pub lines : after ≡ fill_in (sharing part before).parts before
