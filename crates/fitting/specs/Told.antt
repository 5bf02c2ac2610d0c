-- What does not fit, in words. Assumes nothing.
use Rattle.std.specs.Prelude.{List, [], ◌++◌, ℕ, ◌+◌, ◌-◌, ◌*◌, ◌^◌, min, Ok, Err}
use Rattle.render.specs.Decimal.{word, decimal}
use Rattle.render.specs.Room.{most_decimal}
use Rattle.render.specs.Yuan.{yuan, signed_yuan, most_signed_yuan}
use Rattle.fitting.specs.declared.Finding.TheVariants.{NotShared, Compensation, Weight, Share, Uncollected, Given, Amount, Total, User}
use Rattle.fitting.specs.Fitting.{Judged}

-- a line of the text, as people count it, from 1 on, and what is said of it
unfoldable pub line_text : ℕ → List ℕ → List ℕ
line_text line why = word "line " ++ decimal (min (line + 1) (2 ^ 64 - 1)) ++ why

-- a number that stands on a line, by its name, and the one that follows
unfoldable pub apart_text : ℕ → List ℕ → List ℕ → List ℕ → List ℕ
apart_text line name stands follows = line_text line (word ": ") ++ (name ++ stands) ++ (word ", and its numbers give " ++ follows)

-- sharing refuses the lines
unfoldable pub not_shared_text : ℕ → ℕ → List ℕ
not_shared_text number place = word "sharing refuses its lines with " ++ decimal number ++ (word " at " ++ decimal place)

-- what does not fit; nothing where all fits
unfoldable pub finding_text : Judged → List ℕ
finding_text (Ok u) = []
finding_text (Err (NotShared number place)) = not_shared_text number place
finding_text (Err (Compensation line stands follows)) = apart_text line (word "compensation ") (yuan stands.0) (yuan follows.0)
finding_text (Err (Weight line stands follows)) = apart_text line (word "weight ") (decimal stands) (decimal follows)
finding_text (Err (Share line stands follows)) = apart_text line (word "share ") (signed_yuan stands.0) (signed_yuan follows.0)
finding_text (Err (Uncollected line stands follows)) = apart_text line (word "uncollected ") (yuan stands.0) (yuan follows.0)
finding_text (Err (Given line stands follows)) = apart_text line (word "given ") (yuan stands.0) (yuan follows.0)
finding_text (Err (Amount line stands follows)) = apart_text line (word "amount ") (signed_yuan stands.0) (signed_yuan follows.0)
finding_text (Err (Total line stands follows)) = apart_text line (word "total ") (signed_yuan stands.0) (signed_yuan follows.0)
finding_text (Err (User line stands follows)) = apart_text line (word "user ") (signed_yuan stands.0) (signed_yuan follows.0)

-- The most bytes of each, besides those of what is named

abbrev pub most_line : ℕ
most_line = 5 + most_decimal

abbrev pub most_apart : ℕ
most_apart = most_line + 25 + 2 * most_signed_yuan

abbrev pub most_not_shared : ℕ
most_not_shared = 35 + 2 * most_decimal

-- the longest name is `compensation`
abbrev pub most_finding : ℕ
most_finding = most_apart + 13
