-- The part's line, and what stands behind it. Assumes nothing.
use mathlib.Core.Path.{◌≡◌, refl, ap, sym, ◌∙◌}
use mathlib.Core.Bool.{true, false}
use mathlib.Core.List.{List, [], ◌∷◌, ◌++◌, map}
use Prim.Native.Nat.{ℕ, suc, ◌+◌, ◌≤◌, ◌<◌}
use native.Mathlib.Decide.{dec_le}
use native.Mathlib.Omega.{arith}
use lib.ListN.{length, get_or, drop, drop_of_length-le}
use borrow.Author.Tests.{le-leb, lt-leb, eq-eqb, ne_eqb}
use Rattle.row.specs.declared.Row.{Row}
use Rattle.row.specs.Numbers.{onto, lines_of, parts_of, numbers_in, numbers_of, hold}
use Rattle.row.specs.Meaning.{is_row, RowFresh, RowFollows}
use Rattle.row.proofs.Left.{next_byte}
use Rattle.row.proofs.Rows.{whole_row, none_row}
use Rattle.share.specs.Sharing.{most_part}
use Rattle.lines.specs.declared.body.Body.{Body}
use Rattle.lines.specs.declared.body.Listed.{Listed}
use Rattle.lines.specs.declared.part.FirstLine.{FirstLine}
use Rattle.lines.specs.declared.Head.{Head}
use Rattle.lines.specs.declared.Reader.{Reader}
use Rattle.std.proofs.Common.{Some, None}
use Rattle.lines.specs.Text.{space, part_in, text_part, text_lines, with_part, part_refused, part_then, read_text}
use Rattle.lines.specs.Meaning.{body_outcome, body_meaning, BodyFresh, part_when, fair_part, first_says, FirstLineIs, HeadIs, meaning}

-- A part and what is behind it

pub part_fair : (part : ℕ) (l : Listed) → part ≤ most_part → part_then part l ≡ with_part part l
unfolding part_then
part_fair part l h = rw (le-leb part most_part h)

pub part_past : (part : ℕ) (l : Listed) → most_part < part → part_then part l ≡ part_refused
unfolding part_then
part_past part l h = rw (lt-leb part most_part h)

-- parts that are the same where they are within the limit say the same
alike : (p q : ℕ) (l : Listed) → (q ≤ most_part → p ≡ q) → (most_part < q → most_part < p) → part_then p l ≡ part_then q l
alike p q l same past = go (dec_le q most_part)
  where
    go : Dec (q ≤ most_part) → part_then p l ≡ part_then q l
    go (yes h) = ap (λ (n : ℕ). part_then n l) (same h)
    go (no h) = part_past p l (past (omega arith)) ∙ sym (part_past q l (omega arith))

pub part_told : (p q : ℕ) (l : Listed) → p ≡ fair_part q → part_then p l ≡ part_then q l
part_told p q l e = alike p q l (λ h. omega arith) (λ h. omega arith)

held_part : (ns : List ℕ) (l : Listed) → part_then (get_or (map hold ns) 0 (suc most_part)) l ≡ part_then (get_or ns 0 (suc most_part)) l
held_part [] l = refl
held_part (n ∷ ns) l = alike (hold n) n l (λ h. omega arith) (λ h. omega arith)

-- The first line of a text

-- a byte of it
first_onto : (b : ℕ) (ls : List (List ℕ)) → get_or (onto b ls) 0 [] ≡ b ∷ get_or ls 0 []
first_onto b [] = refl
first_onto b (l ∷ ls) = refl

behind_onto : (b : ℕ) (ls : List (List ℕ)) → drop 1 (onto b ls) ≡ drop 1 ls
behind_onto b [] = refl
behind_onto b (l ∷ ls) = refl

first_byte : (row r : Row) (body : Body) (b : ℕ) (rest : List ℕ) → (b ≡ 10 → ⊥) → RowFollows space 0 row b r → first_says r body rest ≡ first_says row body (b ∷ rest)
unfolding first_says
first_byte row r body b rest ne f =
    let part : part_when r (get_or (lines_of rest) 0 []) ≡ part_when row (get_or (onto b (lines_of rest)) 0 []) =
    ap (λ (ns : List ℕ). get_or ns 0 (suc most_part)) (f.line (get_or (lines_of rest) 0 []))
    ∙ ap (λ (l : List ℕ). part_when row l) (sym (first_onto b (lines_of rest))) in
    rw (ne_eqb b 10 ne) (λ i. part_then (part i) (body_outcome body (sym (behind_onto b (lines_of rest)) i)))

-- its line feed
pub first_ends : (row : Row) (body : Body) (b : ℕ) (rest : List ℕ) → b ≡ 10 → first_says row body (b ∷ rest) ≡ part_then (part_when row []) (body_meaning body rest)
unfolding first_says body_meaning
first_ends row body b rest e = rw (eq-eqb b 10 e)

-- the loop over its bytes, by what is left
pub record Left (row : Row) (bytes : List ℕ) (r : Row) (next : ℕ) : Type 0 where
  pub within : next ≤ length bytes
  pub says : (body : Body) (rest : List ℕ) → first_says r body (drop next bytes ++ rest) ≡ first_says row body (bytes ++ rest)

module _ (row : Row) (bytes : List ℕ) where
  pub left_start : Left row bytes row 0
  left_start = record { within = omega arith; says = λ body rest. refl }

  module _ (r : Row) (next : ℕ) (h : Left row bytes r next) where
    pub left_step : (s : Row) → next < length bytes → (get_or bytes next 0 ≡ 10 → ⊥) → RowFollows space 0 r (get_or bytes next 0) s → Left row bytes s (next + 1)
    left_step s less ne f =
        record {
          within = omega arith;
          says = λ body rest.
              first_byte r s body (get_or bytes next 0) (drop (next + 1) bytes ++ rest) ne f
              ∙ ap (λ (l : List ℕ). first_says r body (l ++ rest)) (sym (next_byte bytes next less)) ∙ h.says body rest;
        }

    pub left_ended : get_or bytes next 0 ≡ 10 → FirstLineIs row bytes (record { row = r; next = next })
    left_ended e = record { within = h.within; says = h.says; ends = λ less. e }

    pub left_all : length bytes ≤ next → FirstLineIs row bytes (record { row = r; next = next })
    left_all over = record { within = h.within; says = h.says; ends = λ less. absurd (omega arith) }

-- The reader

module _ (s : Reader) (bytes : List ℕ) where
  -- behind the part
  pub head_behind : (part : ℕ) → s.part ≡ Some part → HeadIs s bytes (record { first = s.first; next = 0; part = Some part })
  unfolding meaning
  head_behind part e =
      record {
        within = omega arith;
        still = λ f. absurd (cc);
        behind = λ p f rest. let same : s.part ≡ Some p = e ∙ f in rw same;
      }

  module _ (ahead : s.part ≡ None) (l : FirstLine) (f : FirstLineIs s.first bytes l) where
    -- within its line
    pub head_still : length bytes ≤ l.next → HeadIs s bytes (record { first = l.row; next = 0; part = None })
    unfolding meaning
    head_still over =
        record {
          within = omega arith;
          still = λ e rest.
              rw ahead (ap (λ (xs : List ℕ). first_says l.row s.body (xs ++ rest)) (sym (drop_of_length-le bytes {i = l.next} over)) ∙ f.says s.body rest);
          behind = λ p e. absurd (cc);
        }

    -- across its end
    pub head_past : (part : ℕ) → l.next < length bytes → part ≡ fair_part (part_when l.row []) → HeadIs s bytes (record { first = l.row; next = l.next + 1; part = Some part })
    unfolding meaning
    head_past part less e =
        record {
          within = omega arith;
          still = λ k. absurd (cc);
          behind = λ p k rest.
              let x = drop (l.next + 1) bytes ++ rest in
              let same : p ≡ part = cc in
              rw ahead
              (ap (λ (n : ℕ). part_then n (body_meaning s.body x)) same
              ∙ part_told part (part_when l.row []) (body_meaning s.body x) e
              ∙ sym (first_ends l.row s.body (get_or bytes l.next 0) x (f.ends less))
              ∙ ap (λ (xs : List ℕ). first_says l.row s.body (xs ++ rest)) (sym (next_byte bytes l.next less)) ∙ f.says s.body rest);
        }

  module _ (h : Head) (k : HeadIs s bytes h) where
    pub fed_still : h.part ≡ None → (rest : List ℕ) → meaning (record { first = h.first; body = s.body; part = None }) rest ≡ meaning s (bytes ++ rest)
    unfolding meaning
    fed_still e rest = k.still e rest

    pub fed_behind : (b : Body) (part : ℕ) → h.part ≡ Some part → ((rest : List ℕ) → body_meaning b rest ≡ body_meaning s.body (drop h.next bytes ++ rest))
        → (rest : List ℕ) → meaning (record { first = h.first; body = b; part = Some part }) rest ≡ meaning s (bytes ++ rest)
    unfolding meaning
    fed_behind b part e f rest = ap (λ (y : Listed). part_then part y) (f rest) ∙ k.behind part e rest

-- the start
pub starts_reader : (first : Row) (body : Body) → RowFresh first → BodyFresh body
    → (text : List ℕ) → meaning (record { first = first; body = body; part = None }) text ≡ read_text text
unfolding meaning first_says read_text text_part part_in text_lines numbers_of
starts_reader first body f h text =
    let l = get_or (lines_of text) 0 [] in
    (λ i. part_then (get_or (f.line space 0 l i) 0 (suc most_part)) (h.says (drop 1 (lines_of text)) i))
    ∙ held_part (numbers_in 1 (parts_of space l)) _

-- the end
pub ends_ahead : (s : Reader) (part : ℕ) (l : Listed) → s.part ≡ None → part ≡ fair_part (part_when s.first []) → l ≡ body_meaning s.body [] → part_then part l ≡ meaning s []
unfolding meaning first_says body_meaning
ends_ahead s part l a e f = rw a (part_told part (part_when s.first []) l e ∙ ap (λ (y : Listed). part_then (part_when s.first []) y) f)

pub ends_behind : (s : Reader) (part : ℕ) (l : Listed) → s.part ≡ Some part → l ≡ body_meaning s.body [] → part_then part l ≡ meaning s []
unfolding meaning
ends_behind s part l a f = rw a (ap (λ (y : Listed). part_then part y) f)

-- The part, where its line ends

pub part_whole : (row : Row) → is_row 0 row [] [] ≡ true → part_when row [] ≡ hold row.value
part_whole row h = ap (λ (ns : List ℕ). get_or ns 0 (suc most_part)) (whole_row space 0 row (hold row.value) h refl)

pub part_none : (row : Row) → is_row 0 row [] [] ≡ false → part_when row [] ≡ suc most_part
part_none row h = ap (λ (ns : List ℕ). get_or ns 0 (suc most_part)) (none_row space 0 row h)
