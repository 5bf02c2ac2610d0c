-- What reading a text promises: the answer is that of the text's part and lines, however the bytes come in, and their sharing is the one of every form.
use mathlib.Core.Path.{◌≡◌, refl, ap, sym, ◌∙◌}
use mathlib.Core.Bool.{Bool, true, false, cond}
use mathlib.Core.List.{List, [], ◌∷◌, ◌++◌, map}
use mathlib.Core.Logic.{◌≢◌}
use Prim.Native.Nat.{ℕ, suc, ◌-◌, ◌≤◌, ◌<◌}
use native.Mathlib.Decide.{dec_le}
use native.Mathlib.Omega.{arith}
use lib.Dec.{ltb}
use lib.IntN.{pos}
use lib.ListN.{length, take, replicate, length-append}
use lib.Seq.{take_all, take-append-le}
use borrow.Author.Tests.{ltb-true, ltb-false}
use Rattle.row.specs.Judging.{filled_up, refused_at, all_taken, first_unsound}
use Rattle.row.proofs.Judging.{lowest_unsound, every_sound, after_most}
use Rattle.share.specs.declared.Line.{Line}
use Rattle.share.specs.declared.Shared.{Shared}
use Rattle.share.specs.Sharing.{line_is_sound, first_bad_line, sharing_refused, sharing, most_number, most_part, part_place}
use Rattle.share.specs.Forms.{blank_line, cleared, array_of, nothing_shared, sharing_counted, shared_array}
use Rattle.share.proofs.Cases.{sharing_10, sharing_part}
use Rattle.share.proofs.Counted.{counted_few}
use Rattle.lines.specs.declared.Reader.{Reader}
use Rattle.lines.specs.declared.body.Listed.{Listed}
use Rattle.lines.specs.declared.Taken.{Taken}
use Rattle.lines.specs.Text.{text_part, text_lines, sharing_lines, with_part, part_refused, read_text, taken_shared}
use Rattle.lines.specs.Meaning.{meaning}
use Rattle.lines.specs.Stream.{HasRead, Settled, Tells, GoesOn, Stays}
use Rattle.lines.proofs.Lines.{lawful}
use Rattle.lines.proofs.Sheets.{shared_no}
use Rattle.lines.proofs.Parts.{part_fair, part_past}

-- The whole text

-- the first line that is not sound, as sharing has it
first_unsound_lem : (before : ℕ) (ls : List Line) → first_unsound sharing_lines before ls ≡ first_bad_line before ls
first_unsound_lem before [] = refl
first_unsound_lem before (l ∷ ls) = ap (λ (n : ℕ). cond (line_is_sound before l) (suc n) 0) (first_unsound_lem l.number ls)

-- A PART ABOVE ITS LIMIT, OR NONE, IS 10 AT 65, whatever the lines are.
pub bad_part : (text : List ℕ) → most_part < text_part text → read_text text ≡ part_refused
unfolding read_text
bad_part text h = part_past (text_part text) _ h

module _ (text : List ℕ) (fair : text_part text ≤ most_part) where
  abbrev part : ℕ
  part = text_part text

  abbrev ls : List Line
  ls = text_lines text

  -- The lowest line that is not sound is refused, with 10.
  pub lowest_bad : first_bad_line 0 ls < length ls → read_text text ≡ with_part part (refused_at sharing_lines (first_bad_line 0 ls))
  unfolding read_text
  lowest_bad h =
      part_fair part _ fair
      ∙ ap (λ (l : Listed). with_part part l) (lowest_unsound sharing_lines lawful ls (rw (first_unsound_lem 0 ls) h) ∙ ap (λ (n : ℕ). refused_at sharing_lines n) (first_unsound_lem 0 ls))

  -- Where every line is sound, all are taken.
  pub all_taken_lem : length ls ≤ first_bad_line 0 ls → read_text text ≡ with_part part (all_taken sharing_lines ls)
  unfolding read_text
  all_taken_lem h = part_fair part _ fair ∙ ap (λ (l : Listed). with_part part l) (every_sound sharing_lines lawful ls (rw (first_unsound_lem 0 ls) h))

  -- Of more than 64 lines the 65th is refused, or an earlier one: after 64 sound lines anything more is 10 at 64.
  pub after_64 : 64 < length ls → (read_text text ≡ with_part part (refused_at sharing_lines (first_bad_line 0 (take 64 ls)))) × (first_bad_line 0 (take 64 ls) ≤ 64)
  unfolding read_text
  after_64 h =
      let m = after_most sharing_lines ls h in
      let e = first_unsound_lem 0 (take 64 ls) in
      (part_fair part _ fair ∙ ap (λ (l : Listed). with_part part l) (m.0 ∙ ap (λ (n : ℕ). refused_at sharing_lines n) e), rw e at m.1)

-- The sharing

-- Of a text that was refused it is that refusal: number and place, no gap, nothing for the user, and no line of the text.
pub shared_refused : (t : Taken) → t.number ≢ 0
    → taken_shared t ≡ record { number = t.number; place = t.place; gap = record { 0 = pos 0 }; user = record { 0 = pos 0 }; lines = replicate 64 blank_line }
unfolding nothing_shared
shared_refused t h = sym (shared_no t h)

cleared_none : map (λ l. cleared l) (filled_up sharing_lines []) ≡ replicate 64 blank_line
unfolding filled_up
cleared_none = refl

array_first : (part : ℕ) (ls : List Line) → sharing_counted part (filled_up sharing_lines ls) (length ls) ≡ sharing part ls
unfolding filled_up
array_first part ls =
    let xs = replicate (most_number - length ls) blank_line in
    counted_few part (ls ++ xs) (length ls) (omega (arith, length-append ls xs))
    ∙ ap (λ (us : List Line). sharing part us) (take-append-le (length ls) ls xs (omega arith) ∙ take_all (length ls) ls (omega arith))

-- a refusal with 10, of the text and of the sharing
shared_ten : (t : Taken) (part : ℕ) (ls : List Line) (k : ℕ) → t.number ≡ 10 → t.place ≡ k → t.lines ≡ filled_up sharing_lines [] → sharing part ls ≡ sharing_refused 10 k
    → taken_shared t ≡ array_of t.lines (sharing part ls)
shared_ten t part ls k n p l e =
    shared_refused t (λ h. omega (arith, n))
    ∙ (λ i. record { number = n i; place = p i; gap = record { 0 = pos 0 }; user = record { 0 = pos 0 }; lines = (sym cleared_none ∙ ap (map (λ x. cleared x)) (sym l)) i })
    ∙ ap (array_of t.lines) (sym e)

shared_all : (part : ℕ) (ls : List Line) → taken_shared (with_part part (all_taken sharing_lines ls)) ≡ array_of (filled_up sharing_lines ls) (sharing part ls)
unfolding taken_shared shared_array
shared_all part ls = ap (array_of (filled_up sharing_lines ls)) (array_first part ls)

-- THE SHARING OF A TEXT is that of its part and lines: 10 at 65 for the part, 10 at the lowest bad line, 15, 16, or R, what each line gets
-- and the user's amount.
pub text_shared : (text : List ℕ) → taken_shared (read_text text) ≡ array_of (read_text text).lines (sharing (text_part text) (text_lines text))
unfolding filled_up
text_shared text = go (dec_le (text_part text) most_part)
  where
    lines : text_part text ≤ most_part → (t : Bool) → ltb (first_bad_line 0 (text_lines text)) (length (text_lines text)) ≡ t
        → taken_shared (read_text text) ≡ array_of (read_text text).lines (sharing (text_part text) (text_lines text))
    lines fair true e =
        let bad = ltb-true _ _ e in
        rw (lowest_bad text fair bad)
        (shared_ten (with_part (text_part text) (refused_at sharing_lines (first_bad_line 0 (text_lines text)))) (text_part text) (text_lines text) (first_bad_line 0 (text_lines text)) refl refl refl
        (sym (sharing_10 (text_part text) (text_lines text) fair bad)))
    lines fair false e = rw (all_taken_lem text fair (ltb-false _ _ e)) (shared_all (text_part text) (text_lines text))

    go : Dec (text_part text ≤ most_part) → taken_shared (read_text text) ≡ array_of (read_text text).lines (sharing (text_part text) (text_lines text))
    go (yes fair) = lines fair (ltb (first_bad_line 0 (text_lines text)) (length (text_lines text))) refl
    go (no past) =
        let h : most_part < text_part text = omega arith in
        rw (bad_part text h) (shared_ten part_refused (text_part text) (text_lines text) part_place refl refl refl (sym (sharing_part (text_part text) (text_lines text) h)))

-- The stream: what the contracts of a reader say that has read a text

-- a reader that was started, and fed part after part of a text, each as its contract has it
pub data Streamed : List ℕ → Reader → Type 0 where
  started : (r : Reader) → HasRead r [] → Streamed [] r
  fed : (text bytes : List ℕ) (s r : Reader) → Streamed text s → ((x : List ℕ) → HasRead s x → HasRead r (x ++ bytes)) → Streamed (text ++ bytes) r

-- IN WHATEVER PARTS a text came, it is the text that has been read.
pub read_in_parts : (text : List ℕ) (r : Reader) → Streamed text r → HasRead r text
read_in_parts text r (started _ h) = h
read_in_parts text r (fed before bytes s _ k h) = h before (read_in_parts before s k)

-- THE STREAM'S ANSWER is that of the whole text.
pub stream_answer : (text : List ℕ) (r : Reader) (t : Taken) → HasRead r text → ((x : List ℕ) → HasRead r x → t ≡ read_text x) → t ≡ read_text text
stream_answer text r t k h = h text k

-- Reading stops as soon as no bytes can change the answer,
pub stops_late_enough : (text : List ℕ) (r : Reader) → HasRead r text → ((x : List ℕ) → HasRead r x → Tells (Settled x) true)
    → (rest : List ℕ) → read_text (text ++ rest) ≡ read_text text
stops_late_enough text r k t = (t text k).yes refl

-- and no sooner: while it goes on, some bytes would change it.
pub stops_at_once : (text : List ℕ) (r : Reader) → HasRead r text → ((x : List ℕ) → HasRead r x → Tells (Settled x) false)
    → ((rest : List ℕ) → read_text (text ++ rest) ≡ read_text text) → ⊥
stops_at_once text r k t = (t text k).no refl

-- Two outcomes that a contract allows are one

pub read_determined : (text : List ℕ) (t u : Taken) → t ≡ read_text text → u ≡ read_text text → t ≡ u
read_determined text t u e f = e ∙ sym f

pub shared_determined : (t : Taken) (r s : Shared) → r ≡ taken_shared t → s ≡ taken_shared t → r ≡ s
shared_determined t r s e f = e ∙ sym f

pub finish_determined : (r : Reader) (t u : Taken) → t ≡ meaning r [] → u ≡ meaning r [] → t ≡ u
finish_determined r t u e f = e ∙ sym f

pub settled_determined : (r : Reader) (t u : Bool) → Tells (Stays r) t → Tells (Stays r) u → t ≡ u
settled_determined r true true a b = refl
settled_determined r false false a b = refl
settled_determined r true false a b = absurd (b.no refl (a.yes refl))
settled_determined r false true a b = absurd (a.no refl (b.yes refl))

-- readers that have read the same text answer alike, whatever follows;
pub reader_determined : (text : List ℕ) (r s : Reader) → HasRead r text → HasRead s text → (rest : List ℕ) → meaning r rest ≡ meaning s rest
reader_determined text r s a b rest = a.says rest ∙ sym (b.says rest)

-- and so do any two that go on from one by the same bytes.
pub step_determined : (first : Reader) (bytes : List ℕ) (r s : Reader) → GoesOn first bytes r → GoesOn first bytes s → (rest : List ℕ) → meaning r rest ≡ meaning s rest
step_determined first bytes r s a b rest = a.says rest ∙ sym (b.says rest)
