-- The steps of the reader: a byte of the mark, a separator, a quote, a dash, a run of digits. Assumes nothing.
use mathlib.Core.Path.{◌≡◌, refl, ap, sym, subst, ◌∙◌}
use mathlib.Core.Bool.{Bool, true, false, cond}
use mathlib.Core.List.{List, [], ◌∷◌, ◌++◌, map}
use Prim.Native.Nat.{ℕ, suc, ◌+◌, ◌*◌, ◌-◌, ◌≤◌, ◌<◌}
use native.Mathlib.Omega.{arith}
use lib.Dec.{eqb, ltb, leb}
use lib.ListN.{length, drop, get_or}
use borrow.Author.Tests.{ne_eqb, eq-eqb, eqb-true, lt-leb, lt-ltb, ltb-true, leb-true}
use Rattle.le.proofs.Tests.{each, holds_or_fails}
use Rattle.row.specs.Numbers.{lines_of, is_digit, digits, value, hold}
use Rattle.row.proofs.Texts.{and_false}
use Rattle.row.proofs.Left.{next_byte}
use Rattle.grid.specs.declared.cell.Cell.{Cell}
use Rattle.grid.specs.declared.cell.Cell.TheVariants.{Fresh, Bare, Opened, Quoted, Dashed, Closed, Bad}
use Rattle.grid.specs.declared.cell.Run.{Run}
use Rattle.grid.specs.declared.Grid.{Grid}
use Rattle.grid.specs.Grid.{mark, comma, is_separator, as_comma, carriage_return, quote}
use Rattle.grid.specs.Told.{dash}
use Rattle.grid.specs.Meaning.{
  cell_so_far,
  cell_digits,
  cell_quote,
  cell_dash,
  head_left,
  blank_left,
  row_left,
  lines_left,
  separator_left,
  lines_by,
  rows_behind,
  grid_first,
  marks_on,
  rows_left,
  grid_begun,
}
use Rattle.grid.specs.Meaning.{grid_opened, mark_goes_on, grid_known, grid_spoilt, grid_digits, InLine, Follows, RunFrom, no_feed, StepFrom}
use Rattle.grid.proofs.Lines.{LineFollows, typed_as, by_foreign, by_quoting, by_dashing, by_return, by_one_digit}
use Rattle.grid.proofs.Texts.{lines_by_lem, stage_case, late, mark_late, mark_last, mark_more, lines_byte, by_line, by_byte, mark_low, begun_in_line, after_begun, after_opening}
use Rattle.grid.proofs.Texts.{opened_alike, opened_clear}

-- The mark

high : (b : ℕ) → 187 ≤ b → (is_digit b ≡ false) × (is_separator b ≡ false)
high b h =
    (rw (lt-leb b 57 (omega arith)) (and_false (leb 48 b)), rw (ne_eqb b 44 (λ e. omega arith), ne_eqb b 59 (λ e. omega arith), ne_eqb b 9 (λ e. omega arith)))

mark_high : (stage b : ℕ) → mark_goes_on stage b ≡ true → 187 ≤ b
mark_high stage b =
    stage_case (λ n. mark_goes_on n b ≡ true → 187 ≤ b) (λ h. omega (arith, eqb-true b 239 h)) (λ h. omega (arith, eqb-true b 187 h)) (λ h. omega (arith, eqb-true b 191 h))
    (λ n l h. absurd (holds_or_fails h (rw (late n l)))) stage

abbrev marked_at : Grid → ℕ → Grid
marked_at g stage = record { stage = stage; separator = g.separator; filled = true; shut = g.shut; cell = Bad; at = g.at }

module _ (g : Grid) (b : ℕ) (clear : g.shut ≡ false) (h : mark_goes_on g.stage b ≡ true) where
  mark_line : (ended : List ℕ) → g.stage < 2 → LineFollows g ended b (marked_at g (g.stage + 1)) ended
  unfolding head_left blank_left row_left
  mark_line ended low =
      let big = mark_high g.stage b h in
      let f = by_foreign g ended clear b (high b big).0 (λ e. omega arith) (λ e. omega arith) (λ e. omega arith) (λ e. omega arith) in
      record {
        heads = λ l. rw (lt-ltb (g.stage + 1) 4 (omega arith), lt-ltb g.stage 4 (omega arith), (high b big).0);
        blanks = f.blanks;
        numbers = f.numbers;
      }

  -- its last byte
  pub by_mark_last : 2 ≤ g.stage → (ended : List ℕ) → Follows g ended b grid_first ended
  unfolding rows_left rows_behind marks_on lines_by
  by_mark_last two ended =
      record {
        rows = λ say k rest.
            let stage : g.stage ≡ 2 = omega (arith, ltb-true g.stage 3 (each (ltb g.stage 3) (eqb b (get_or mark g.stage 0) ∷ []) h).0) in
            rw (mark_at2 stage rest, stage);
      }
    where
      mark_at2 : g.stage ≡ 2 → (rest : List ℕ) → marks_on g.stage (b ∷ rest) ≡ true
      mark_at2 e rest = ap (λ (n : ℕ). marks_on n (b ∷ rest)) e ∙ mark_last b rest (ap (λ (n : ℕ). mark_goes_on n b) (sym e) ∙ h)

  -- another of its bytes
  pub by_mark_more : g.stage < 2 → (ended : List ℕ) → Follows g ended b (marked_at g (g.stage + 1)) ended
  unfolding rows_left
  by_mark_more low ended =
      record {
        rows = λ say k rest.
            let m = mark_more g.stage b rest low h in
            let big = mark_high g.stage b h in
            let r = marked_at g (g.stage + 1) in
            let same = lines_by_lem say k g r ended ended b (mark_line ended low) (lines_by g.separator rest)
            ∙ ap (lines_left say k g ended) (sym (lines_byte g.separator b rest (high b big).1 (λ e. omega arith))) in
            (λ i. cond (m.0 i) (rows_behind say k ended (m.1 i)) (same i));
      }

-- Separators

-- the separator that is read first is the file's
known_left : (g : Grid) (b : ℕ) (rest : List ℕ) → is_separator b ≡ true → separator_left g.separator (b ∷ rest) ≡ (grid_known g b).separator
known_left g b rest is = rw is

known_is : (g : Grid) (b : ℕ) → is_separator b ≡ true → is_separator (grid_known g b).separator ≡ true
known_is g b is = go (is_separator g.separator) refl
  where
    go : (t : Bool) → is_separator g.separator ≡ t → is_separator (cond t g.separator b) ≡ true
    go true e = e
    go false e = is

lines_known : (say : List ℕ → List ℕ) (k : ℕ) (g : Grid) (b : ℕ) (ended : List ℕ) (ls : List (List ℕ)) → lines_left say k (grid_known g b) ended ls ≡ lines_left say k g ended ls
unfolding head_left blank_left row_left
lines_known say k g b ended [] = refl
lines_known say k g b ended (l ∷ ls) = refl

-- what follows a state that knows it follows the one before
pub after_known : (g r : Grid) (ended after : List ℕ) (b : ℕ) → InLine g → is_separator b ≡ true → Follows (grid_known g b) ended b r after → Follows g ended b r after
unfolding rows_left lines_by
after_known g r ended after b line is f =
    record {
      rows = λ say k rest. f.rows say k rest
          ∙ rw (mark_late g.stage (b ∷ rest) line.stage)
          (ap (λ (s : ℕ). lines_left say k (grid_known g b) ended (lines_of (map (as_comma s) (b ∷ rest)))) (rw (known_is g b is) (sym (known_left g b rest is)))
          ∙ lines_known say k g b ended (lines_of (map (as_comma (separator_left g.separator (b ∷ rest))) (b ∷ rest))));
    }

-- a separator that is no comma is a semicolon or a tab
other_low : (b : ℕ) → eqb b comma ≡ false → is_separator b ≡ true → (is_digit b ≡ false) × (b ≡ 10 → ⊥) × (b ≡ quote → ⊥) × (b ≡ dash → ⊥) × (b ≡ carriage_return → ⊥) × (b ≡ comma → ⊥)
other_low b e one = go (eqb b 59) refl
  where
    Is : ℕ → Type 0
    Is c = (is_digit c ≡ false) × (c ≡ 10 → ⊥) × (c ≡ quote → ⊥) × (c ≡ dash → ⊥) × (c ≡ carriage_return → ⊥) × (c ≡ comma → ⊥)

    go : (t : Bool) → eqb b 59 ≡ t → Is b
    go true f = subst Is (sym (eqb-true b 59 f)) (refl, (λ x. omega arith), (λ x. omega arith), (λ x. omega arith), (λ x. omega arith), (λ x. omega arith))
    go false f = subst Is (sym (eqb-true b 9 (rw (e, f) at one))) (refl, (λ x. omega arith), (λ x. omega arith), (λ x. omega arith), (λ x. omega arith), (λ x. omega arith))

module _ (g : Grid) (ended : List ℕ) (line : InLine g) where
  -- a separator that is the file's
  module _ (is : is_separator g.separator ≡ true) (at : ℕ) (after : List ℕ) where
    abbrev parted : Grid
    parted = record { stage = g.stage; separator = g.separator; filled = g.filled; shut = false; cell = Fresh; at = at }

    pub by_separator : LineFollows g ended comma parted after → Follows g ended g.separator parted after
    by_separator f =
        by_line g parted ended after g.separator comma line.stage line.stage (λ e. omega arith)
        (λ rest. rw (is, eq-eqb g.separator g.separator refl))
        (λ rest. rw is) f

  -- one that is not
  pub by_stranger : (b : ℕ) → is_separator g.separator ≡ true → is_separator b ≡ true → (b ≡ g.separator → ⊥) → Follows g ended b (grid_spoilt g) ended
  by_stranger b is one ne = go (eqb b comma) refl
    where
      go : (t : Bool) → eqb b comma ≡ t → Follows g ended b (grid_spoilt g) ended
      go true e =
          by_line g (grid_spoilt g) ended ended b 59 line.stage line.stage (λ x. omega arith) (λ rest. rw (is, ne_eqb b g.separator ne, e)) (λ rest. rw is)
          (by_foreign g ended line.clear 59 refl (λ x. omega arith) (λ x. omega arith) (λ x. omega arith) (λ x. omega arith))
      go false e =
          let low = other_low b e one in
          by_line g (grid_spoilt g) ended ended b b line.stage line.stage low.1 (λ rest. rw (is, ne_eqb b g.separator ne, e)) (λ rest. rw is)
          (by_foreign g ended line.clear b low.0 low.2 low.3 low.4 low.5)

-- A quote, a dash and a carriage return

module _ (g : Grid) (ended : List ℕ) (line : InLine g) where
  pub by_quote_byte : (r : Grid) → r ≡ typed_as g (cell_quote g.cell) → Follows g ended quote r ended
  by_quote_byte r e =
      by_byte g r ended ended quote line.stage (omega (arith, line.stage, ap (λ (x : Grid). x.stage) e)) (λ x. omega arith) refl (ap (λ (x : Grid). x.separator) e)
      (by_quoting g ended line.clear r e)

  pub by_dash_byte : (r : Grid) → r ≡ typed_as g (cell_dash g.cell) → Follows g ended dash r ended
  by_dash_byte r e =
      by_byte g r ended ended dash line.stage (omega (arith, line.stage, ap (λ (x : Grid). x.stage) e)) (λ x. omega arith) refl (ap (λ (x : Grid). x.separator) e)
      (by_dashing g ended line.clear r e)

  pub by_return_byte : Follows g ended carriage_return (record { stage = g.stage; separator = g.separator; filled = g.filled; shut = true; cell = g.cell; at = g.at }) ended
  by_return_byte =
      by_byte g (record { stage = g.stage; separator = g.separator; filled = g.filled; shut = true; cell = g.cell; at = g.at }) ended ended carriage_return line.stage line.stage
      (λ x. omega arith)
      refl refl (by_return g ended line.clear)

  -- a byte that no cell has
  pub by_spoiling : (b : ℕ) → is_digit b ≡ false → (b ≡ 10 → ⊥) → is_separator b ≡ false → (b ≡ quote → ⊥) → (b ≡ carriage_return → ⊥) → (b ≡ dash → ⊥) → Follows g ended b (grid_spoilt g) ended
  by_spoiling b d ne n nq nr nd =
      by_byte g (grid_spoilt g) ended ended b line.stage line.stage ne n refl
      (by_foreign g ended line.clear b d nq nd nr (λ e. holds_or_fails (ap is_separator e) n))

-- Digits

digit_low : (d : ℕ) → is_digit d ≡ true → (48 ≤ d) × (d ≤ 57)
digit_low d is = let e = each (leb 48 d) (leb d 57 ∷ []) is in (leb-true 48 d e.0, leb-true d 57 e.1.0)

by_digit_byte : (g : Grid) (ended : List ℕ) (d v : ℕ) → g.shut ≡ false → is_digit d ≡ true
    → ((p : List ℕ) → hold (value v p) ≡ hold (value (cell_so_far g.cell) (d ∷ p))) → Follows g ended d (grid_digits g v) ended
by_digit_byte g ended d v clear is h =
    let low = digit_low d is in
    let n : is_separator d ≡ false = rw (ne_eqb d 44 (λ e. omega arith), digit-no-semicolon d is, ne_eqb d 9 (λ e. omega arith)) in
    after_begun g (grid_digits g v) ended ended d (mark_low g.stage d (omega arith))
    (by_byte (grid_begun g) (grid_digits g v) ended ended d (begun_in_line g clear).stage (omega arith) (λ e. omega arith) n refl (by_one_digit (grid_begun g) ended clear d v is h))
  where
    digit-no-semicolon : (x : ℕ) → is_digit x ≡ true → eqb x 59 ≡ false
    digit-no-semicolon x y = let low = digit_low x y in ne_eqb x 59 (λ e. omega arith)

value_append : (v : ℕ) (ds p : List ℕ) → value (value v ds) p ≡ value v (ds ++ p)
value_append v [] p = refl
value_append v (d ∷ ds) p = value_append (v * 10 + (d - 48)) ds p

module _ (separator at : ℕ) (ended : List ℕ) (say : List ℕ → List ℕ) (k : ℕ) (rest : List ℕ) where
  abbrev with_cell : ℕ → Bool → Cell → Grid
  with_cell stage filled cell = record { stage = stage; separator = separator; filled = filled; shut = false; cell = cell; at = at }

  abbrev Worth : Cell → ℕ → List ℕ → Type 0
  Worth cell v ds = (p : List ℕ) → hold (value v p) ≡ hold (value (cell_so_far cell) (ds ++ p))

  abbrev left : Grid → List ℕ → List (List ℕ)
  left g bs = rows_left say k g ended (bs ++ rest)

  one : (stage : ℕ) (filled : Bool) (cell : Cell) (d : ℕ) (ds : List ℕ) → is_digit d ≡ true
      → left (with_cell 4 true (cell_digits cell (cell_so_far cell * 10 + (d - 48)))) ds ≡ left (with_cell stage filled cell) (d ∷ ds)
  one stage filled cell d ds is = (by_digit_byte (with_cell stage filled cell) ended d (cell_so_far cell * 10 + (d - 48)) refl is (λ p. refl)).rows say k (ds ++ rest)

  -- A RUN OF DIGITS
  pub run : (stage : ℕ) (filled : Bool) (cell : Cell) (d : ℕ) (ds : List ℕ) (v : ℕ) → digits (d ∷ ds) ≡ true → Worth cell v (d ∷ ds)
      → left (with_cell 4 true (cell_digits cell v)) [] ≡ left (with_cell stage filled cell) (d ∷ ds)
  run stage filled cell d [] v h w = (by_digit_byte (with_cell stage filled cell) ended d v refl (each (is_digit d) (true ∷ []) h).0 w).rows say k rest
  run stage filled Fresh d (e ∷ ds) v h w =
      let t = each (is_digit d) (digits (e ∷ ds) ∷ []) h in
      run 4 true (Bare (0 * 10 + (d - 48))) e ds v t.1.0 w ∙ one stage filled Fresh d (e ∷ ds) t.0
  run stage filled (Bare u) d (e ∷ ds) v h w =
      let t = each (is_digit d) (digits (e ∷ ds) ∷ []) h in
      run 4 true (Bare (u * 10 + (d - 48))) e ds v t.1.0 w ∙ one stage filled (Bare u) d (e ∷ ds) t.0
  run stage filled Opened d (e ∷ ds) v h w =
      let t = each (is_digit d) (digits (e ∷ ds) ∷ []) h in
      run 4 true (Quoted (0 * 10 + (d - 48))) e ds v t.1.0 w ∙ one stage filled Opened d (e ∷ ds) t.0
  run stage filled (Quoted u) d (e ∷ ds) v h w =
      let t = each (is_digit d) (digits (e ∷ ds) ∷ []) h in
      run 4 true (Quoted (u * 10 + (d - 48))) e ds v t.1.0 w ∙ one stage filled (Quoted u) d (e ∷ ds) t.0
  run stage filled Dashed d (e ∷ ds) v h w =
      let t = each (is_digit d) (digits (e ∷ ds) ∷ []) h in
      run 4 true Bad e ds (value 0 (e ∷ ds)) t.1.0 (λ p. ap hold (value_append 0 (e ∷ ds) p)) ∙ one stage filled Dashed d (e ∷ ds) t.0
  run stage filled (Closed u) d (e ∷ ds) v h w =
      let t = each (is_digit d) (digits (e ∷ ds) ∷ []) h in
      run 4 true Bad e ds (value 0 (e ∷ ds)) t.1.0 (λ p. ap hold (value_append 0 (e ∷ ds) p)) ∙ one stage filled (Closed u) d (e ∷ ds) t.0
  run stage filled Bad d (e ∷ ds) v h w =
      let t = each (is_digit d) (digits (e ∷ ds) ∷ []) h in
      run 4 true Bad e ds (value 0 (e ∷ ds)) t.1.0 (λ p. ap hold (value_append 0 (e ∷ ds) p)) ∙ one stage filled Bad d (e ∷ ds) t.0

-- Step behind step

module _ (g h : Grid) (b : ℕ) (line : InLine g) (is : is_separator b ≡ true) (e : h ≡ grid_known g b) where
  pub known_line : InLine h × (is_separator h.separator ≡ true)
  known_line = rw e (record { stage = line.stage; clear = line.clear }, known_is g b is)

  pub separates : (r : Grid) (ended after : List ℕ) → b ≡ h.separator → Follows h ended h.separator r after → Follows g ended b r after
  separates r ended after same f =
      after_known g r ended after b line is
      (subst (λ (x : Grid). Follows x ended b r after) e (subst (λ (x : ℕ). Follows h ended x r after) (sym same) f))

  pub strays : (r : Grid) (ended : List ℕ) → (b ≡ h.separator → ⊥) → r ≡ grid_spoilt h → Follows g ended b r ended
  strays r ended ne spoilt =
      let k = known_line in
      let f = by_stranger h ended k.0 b k.1 is ne in
      after_known g r ended ended b line is (subst (λ (x : Grid). Follows x ended b r ended) e (subst (λ (x : Grid). Follows h ended b x ended) (sym spoilt) f))

module _ (g o : Grid) (b : ℕ) (ne : b ≡ 10 → ⊥) (e : o ≡ grid_opened g) where
  pub open_clear : o.shut ≡ false
  open_clear = rw e (opened_clear g)

  pub opens : (r : Grid) (ended after : List ℕ) → Follows o ended b r after → Follows g ended b r after
  opens r ended after f = after_opening g r ended after b ne (subst (λ (x : Grid). Follows x ended b r after) e f)

  pub begins : (n r : Grid) (ended after : List ℕ) → n ≡ grid_begun o → mark_goes_on o.stage b ≡ false → Follows n ended b r after → Follows g ended b r after
  begins n r ended after same stops f = opens r ended after (after_begun o r ended after b stops (subst (λ (x : Grid). Follows x ended b r after) same f))

digits_line : (ds : List ℕ) → digits ds ≡ true → no_feed ds ≡ true
digits_line [] h = refl
digits_line (d ∷ ds) h =
    let e = each (is_digit d) (digits ds ∷ []) h in
    let low = digit_low d e.0 in
    rw (ne_eqb d 10 (λ x. omega arith), digits_line ds e.1.0)

-- the digits from byte i of a text on
module _ (g o : Grid) (text : List ℕ) (i v : ℕ) (more : i < length text) (is : is_digit (get_or text i 0) ≡ true) (e : o ≡ grid_opened g) (so_far : v ≡ cell_so_far o.cell) where
  pub runs : (r : Run) (n : Grid) → RunFrom text i v r → n ≡ grid_digits o r.value → (ended : List ℕ) → StepFrom text i g ended (record { grid = n; end = r.end }) ended
  runs r n f same ended = go f.read refl
    where
      go : (ds : List ℕ) → f.read ≡ ds → StepFrom text i g ended (record { grid = n; end = r.end }) ended
      go [] none =
          let here : r.end ≡ i = f.long ∙ ap (λ (x : List ℕ). i + length x) none ∙ omega arith in
          absurd (holds_or_fails is (ap (λ (x : ℕ). is_digit (get_or text x 0)) (sym here) ∙ f.whole (omega arith)))
      go (d ∷ ds) some =
          let all : digits (d ∷ ds) ≡ true = ap digits (sym some) ∙ f.all in
          let low = digit_low d (each (is_digit d) (digits ds ∷ []) all).0 in
          let long : r.end ≡ i + suc (length ds) = f.long ∙ ap (λ (x : List ℕ). i + length x) some in
          record {
            on = omega arith;
            within = f.within;
            read = d ∷ ds;
            stands = f.stands ∙ ap (λ (x : List ℕ). x ++ drop r.end text) some;
            line = digits_line (d ∷ ds) all;
            rows = λ say k rest.
                ap (λ (x : Grid). rows_left say k x ended rest) same
                ∙ subst (λ (t : Bool). rows_left say k (record { stage = 4; separator = o.separator; filled = true; shut = t; cell = cell_digits o.cell r.value; at = o.at }) ended rest
                ≡ rows_left say k (record { stage = o.stage; separator = o.separator; filled = o.filled; shut = t; cell = o.cell; at = o.at }) ended (d ∷ (ds ++ rest)))
                (sym (ap (λ (x : Grid). x.shut) e ∙ opened_clear g))
                (run o.separator o.at ended say k rest o.stage o.filled o.cell d ds r.value all
                (λ p. f.worth p ∙ (λ j. hold (value (so_far j) (some j ++ p)))))
                ∙ ap (λ (x : Grid). rows_left say k x ended (d ∷ (ds ++ rest))) e
                ∙ opened_alike g d (λ x. omega arith) say k ended (ds ++ rest);
          }

-- a step by one byte
pub follows_on : (text : List ℕ) (i : ℕ) (g : Grid) (ended : List ℕ) (r : Grid) (after : List ℕ) → i < length text → (get_or text i 0 ≡ 10 → ⊥)
    → Follows g ended (get_or text i 0) r after → StepFrom text i g ended (record { grid = r; end = i + 1 }) after
follows_on text i g ended r after h ne f =
    record {
      on = omega arith;
      within = omega arith;
      read = get_or text i 0 ∷ [];
      stands = next_byte text i h;
      line = rw (ne_eqb (get_or text i 0) 10 ne);
      rows = f.rows;
    }
