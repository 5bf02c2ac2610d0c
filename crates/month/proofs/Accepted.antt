-- A month that is settled: what it has passed, and its lines place by place. Assumes nothing.
use mathlib.Core.Path.{◌≡◌, refl, sym, ap, ◌∙◌}
use mathlib.Core.Bool.{Bool, true, false, cond, not, true≢false}
use mathlib.Core.List.{List, [], ◌∷◌}
use Prim.Native.Nat.{ℕ, zero, suc, ◌≤◌, ◌<◌}
use native.Mathlib.Omega.{arith}
use borrow.Author.Tests.{ltb-true, ltb-false, eqb-true}
use lib.Dec.{ltb, eqb}
use lib.ListN.{length, get_or, take, drop, length-map, get_or-append}
use lib.Seq.{drop-drop}
use Rattle.units.specs.declared.Grains.{Grains}
use Rattle.units.specs.Money.{grains_plus}
use Rattle.book.specs.Book.{count_at, calls_of}
use Rattle.book.specs.Check.{accepted, check}
use Rattle.score.specs.declared.answer.Earned.{Earned}
use Rattle.score.specs.declared.answer.Earned.TheVariants.{Accepted, Refused}
use Rattle.score.specs.Scoring.{grains_earned, in_fen}
use Rattle.book.proofs.Judged.{zero_accepted}
use Rattle.apportion.specs.Apportion.{total}
use Rattle.share.specs.declared.Line.{Line}
use Rattle.share.specs.Sharing.{below, most_part}
use Rattle.share.specs.Forms.{blank_line}
use Rattle.share.proofs.Lists.{get_d_mapped}
use Rattle.ceiling.specs.declared.LimitedLine.{LimitedLine}
use Rattle.ceiling.specs.Ceiling.{CeiledPart, CeilingOutcome}
use Rattle.ceiling.specs.Inner.{blank_limited}
use Rattle.register.specs.declared.Entry.{Entry}
use Rattle.register.specs.Register.{blank_entry, entry_line, entry_limited, first_bad_entry}
use Rattle.register.proofs.Entries.{length_lines, line_at}
use Rattle.month.specs.declared.Fault.{Fault}
use Rattle.month.specs.declared.Fault.TheVariants.{NoFault, InPart, InRegister, InBook, Unlisted, OfMember, OfRamping, InSharing}
use Rattle.month.specs.declared.Ramped.{Ramped}
use Rattle.month.specs.declared.Row.{Row}
use Rattle.month.specs.declared.Statement.{Statement}
use Rattle.month.specs.declared.members.MemberEarned.{MemberEarned}
use Rattle.month.specs.declared.members.MemberEarned.TheVariants.{ScoreAndHours, NotScored, NotRamped}
use Rattle.month.specs.Settling.{MonthGiven, first_unlisted, no_ramping, earned_with, earnings, first_refused_member, member_fault, earned_grains, compensations}
use Rattle.month.specs.Settling.{row_of, no_part, rows_of, blank_row, filled_rows, month_refused, shared_month, month_lines, earned_month, settling}
use Rattle.month.specs.Outcomes.{own_series, ramped_of_line, earned_in, limited_in, lines_in, grains_in, shared_in, statement_of}
use Rattle.month.proofs.Walking.{no_grains, no_fen, fen_of, is_both, length_earnings}
use Rattle.month.proofs.Statements.{next_of}

abbrev pub rows_settled : MonthGiven → List Row
rows_settled g = rows_of (below (lines_in g)) (lines_in g) (grains_in g) g.ramped (shared_in g).parts

-- what it has passed
pub record Passed (g : MonthGiven) : Type 0 where
  pub part : g.part ≤ most_part
  pub register : g.count ≤ first_bad_entry 0 g.entries
  pub book : check g.book ≡ accepted
  pub listed : count_at g.book ≤ first_unlisted g.entries (calls_of g.book)
  pub members : length (earned_in g) ≤ first_refused_member (earned_in g)
  pub shared : (shared_in g).number ≡ 0
  pub is : settling g ≡ statement_of g

-- a fault is one
abbrev is_fault : Fault → Bool
is_fault NoFault = false
is_fault InPart = true
is_fault (InRegister line) = true
is_fault (InBook number place) = true
is_fault (Unlisted call) = true
is_fault (OfMember line number place) = true
is_fault (OfRamping line number place) = true
is_fault (InSharing number place) = true

no_refusal : (fault : Fault) → is_fault fault ≡ true → (month_refused fault).fault ≡ NoFault → ⊥
unfolding month_refused
no_refusal fault e h = true≢false (sym e ∙ ap is_fault h)

-- the first refused member has a refusal; where none is refused, each has the grains of both
refused_at_lem : (line : ℕ) (es : List MemberEarned) → first_refused_member es < length es → is_fault (member_fault line (get_or es (first_refused_member es) (NotScored 0 0))) ≡ true
unfolding first_refused_member member_fault
refused_at_lem line [] h = absurd (omega arith)
refused_at_lem line (ScoreAndHours g ∷ es) h = refused_at_lem line es (omega arith)
refused_at_lem line (NotScored number place ∷ es) h = refl
refused_at_lem line (NotRamped number place ∷ es) h = refl

pub both_at : (es : List MemberEarned) (i : ℕ) (d : MemberEarned) → length es ≤ first_refused_member es → i < length es → get_or es i d ≡ ScoreAndHours (earned_grains (get_or es i d))
unfolding first_refused_member earned_grains
both_at [] i d h l = absurd (omega arith)
both_at (ScoreAndHours g ∷ es) zero d h l = refl
both_at (ScoreAndHours g ∷ es) (suc i) d h l = both_at es i d (omega arith) (omega arith)
both_at (NotScored number place ∷ es) i d h l = absurd (omega arith)
both_at (NotRamped number place ∷ es) i d h l = absurd (omega arith)

-- what is behind the register, the book and the listing
abbrev rest_of : MonthGiven → Statement
rest_of g = earned_month g.part g.entries g.book g.ramped (earned_in g)

record Reached (g : MonthGiven) : Type 0 where
  part : g.part ≤ most_part
  register : g.count ≤ first_bad_entry 0 g.entries
  book : (check g.book).number ≡ 0
  listed : count_at g.book ≤ first_unlisted g.entries (calls_of g.book)
  none : (rest_of g).fault ≡ NoFault
  is : settling g ≡ rest_of g

reached : (g : MonthGiven) → (settling g).fault ≡ NoFault → Reached g
unfolding settling
reached g = go (ltb most_part g.part) (ltb bad g.count) (eqb (check g.book).number 0) (ltb call n) refl refl refl refl
  where
    bad : ℕ
    bad = first_bad_entry 0 g.entries

    call : ℕ
    call = first_unlisted g.entries (calls_of g.book)

    n : ℕ
    n = count_at g.book

    all : Bool → Bool → Bool → Bool → Statement
    all p a b c =
        cond p (month_refused InPart)
        (cond a (month_refused (InRegister bad))
        (cond (not b) (month_refused (InBook (check g.book).number (check g.book).place)) (cond c (month_refused (Unlisted call)) (rest_of g))))

    go : (p a b c : Bool) → ltb most_part g.part ≡ p → ltb bad g.count ≡ a → eqb (check g.book).number 0 ≡ b → ltb call n ≡ c → (all p a b c).fault ≡ NoFault → Reached g
    go true a b c ep ea eb ec h = absurd (no_refusal _ refl h)
    go false true b c ep ea eb ec h = absurd (no_refusal _ refl h)
    go false false false c ep ea eb ec h = absurd (no_refusal _ refl h)
    go false false true true ep ea eb ec h = absurd (no_refusal _ refl h)
    go false false true false ep ea eb ec h =
        record {
          part = ltb-false most_part g.part ep;
          register = ltb-false bad g.count ea;
          book = eqb-true (check g.book).number 0 eb;
          listed = ltb-false call n ec;
          none = h;
          is = rw (ep, ea, eb, ec) refl;
        }

pub passed : (g : MonthGiven) → (settling g).fault ≡ NoFault → Passed g
unfolding earned_month shared_month
passed g h = go (ltb first (length es)) (eqb o.number 0) refl refl r.none
  where
    r : Reached g
    r = reached g h

    es : List MemberEarned
    es = earned_in g

    first : ℕ
    first = first_refused_member es

    o : CeilingOutcome
    o = shared_in g

    all : Bool → Bool → Statement
    all a b =
        cond a (month_refused (member_fault first (get_or es first (NotScored 0 0))))
        (cond b (statement_of g) (month_refused (InSharing o.number o.place)))

    go : (a b : Bool) → ltb first (length es) ≡ a → eqb o.number 0 ≡ b → (all a b).fault ≡ NoFault → Passed g
    go true b ea eb k = absurd (no_refusal _ (refused_at_lem first es (ltb-true first (length es) ea)) k)
    go false false ea eb k = absurd (no_refusal _ refl k)
    go false true ea eb k =
        record {
          part = r.part;
          register = r.register;
          book = zero_accepted g.book r.book;
          listed = r.listed;
          members = ltb-false first (length es) ea;
          shared = eqb-true o.number 0 eb;
          is = r.is ∙ rw (ea, eb) refl;
        }

-- The members' own series

own_next : (series lengths : List ℕ) (i : ℕ) → own_series (drop (get_or lengths 0 0) series) (drop 1 lengths) i ≡ own_series series lengths (suc i)
own_next series [] zero = refl
own_next series [] (suc i) = refl
own_next series (l ∷ ls) i = ap (take (get_or ls i 0)) (drop-drop (total (take i ls)) l series)

pub earned_at : (es : List Entry) (book series lengths : List ℕ) (ramped : List Ramped) (i : ℕ) (d : MemberEarned) → i < length es
    → get_or (earnings es book series lengths ramped) i d
    ≡ earned_with (grains_earned (get_or es i blank_entry).member book (own_series series lengths i)) (get_or ramped i no_ramping)
unfolding earnings
earned_at [] book series lengths ramped i d h = absurd (omega arith)
earned_at (e ∷ es) book series lengths ramped zero d h = refl
earned_at (e ∷ es) book series lengths ramped (suc i) d h =
    earned_at es book (drop (get_or lengths 0 0) series) (drop 1 lengths) (drop 1 ramped) i d (omega arith)
    ∙ rw (own_next series lengths i, next_of ramped i no_ramping) refl

-- where there are the grains of both, score and ramping file are good, and the grains are theirs together
pub with_both : (x : Earned) (r : Ramped) (g : Grains) → earned_with x r ≡ ScoreAndHours g
    → ((in_fen x).number ≡ 0) × (r.number ≡ 0) × (g.0 ≡ grains_plus (in_fen x).grains.0 r.grains.0)
unfolding earned_with earned_grains in_fen
with_both (Accepted y) r g e = go (eqb r.number 0) refl e
  where
    go : (t : Bool) → eqb r.number 0 ≡ t → cond t (ScoreAndHours (record { 0 = grains_plus y.0 r.grains.0 })) (NotRamped r.number r.place) ≡ ScoreAndHours g
        → ((in_fen (Accepted y)).number ≡ 0) × (r.number ≡ 0) × (g.0 ≡ grains_plus y.0 r.grains.0)
    go true z e = (refl, eqb-true r.number 0 z, sym (ap (λ (x : MemberEarned). (earned_grains x).0) e))
    go false z e = absurd (true≢false (sym (ap is_both e)))
with_both (Refused number place) r g e = absurd (true≢false (sym (ap is_both e)))

-- The rows

pub length_rows : (is_below : Bool) (ls : List Line) (gs : List Grains) (rs : List Ramped) (ps : List CeiledPart) → length (rows_of is_below ls gs rs ps) ≡ length ls
unfolding rows_of
length_rows is_below [] gs rs ps = refl
length_rows is_below (l ∷ ls) gs rs ps = ap suc (length_rows is_below ls (drop 1 gs) (drop 1 rs) (drop 1 ps))

pub row_at : (is_below : Bool) (ls : List Line) (gs : List Grains) (rs : List Ramped) (ps : List CeiledPart) (i : ℕ) (d : Row) → i < length ls
    → get_or (rows_of is_below ls gs rs ps) i d ≡ row_of is_below (get_or ls i blank_line) (get_or gs i no_grains) (get_or rs i no_ramping).hours (get_or ps i no_part)
unfolding rows_of
row_at is_below [] gs rs ps i d h = absurd (omega arith)
row_at is_below (l ∷ ls) gs rs ps zero d h = refl
row_at is_below (l ∷ ls) gs rs ps (suc i) d h =
    row_at is_below ls (drop 1 gs) (drop 1 rs) (drop 1 ps) i d (omega arith) ∙ rw (next_of gs i no_grains, next_of rs i no_ramping, next_of ps i no_part) refl

module _ (g : MonthGiven) where
  pub length_limited : length (limited_in g) ≡ length g.entries
  unfolding month_lines
  length_limited = length_lines g.entries (compensations (grains_in g))

  pub length_in : length (lines_in g) ≡ length g.entries
  length_in = length-map (limited_in g) (λ (l : LimitedLine). l.line) ∙ length_limited

  -- the row of line i
  pub settled_row : (i : ℕ) → Passed g → i < length g.entries
      → get_or (settling g).rows i blank_row
      ≡ row_of (below (lines_in g)) (get_or (lines_in g) i blank_line) (get_or (grains_in g) i no_grains) (ramped_of_line g i).hours (get_or (shared_in g).parts i no_part)
  unfolding filled_rows
  settled_row i p h =
      let long = length_in in
      let rows = length_rows (below (lines_in g)) (lines_in g) (grains_in g) g.ramped (shared_in g).parts in
      ap (λ (s : Statement). get_or s.rows i blank_row) p.is ∙ get_or-append (rows_settled g) _ blank_row i (omega arith)
      ∙ row_at (below (lines_in g)) (lines_in g) (grains_in g) g.ramped (shared_in g).parts i blank_row (omega arith)

  -- the grains of line i, and the fen of them
  pub grains_at : (i : ℕ) → i < length g.entries → get_or (grains_in g) i no_grains ≡ earned_grains (get_or (earned_in g) i (NotScored 0 0))
  grains_at i h =
      get_d_mapped earned_grains (earned_in g) i (NotScored 0 0) no_grains (omega (arith, length_earnings g.entries g.book g.series g.lengths g.ramped))

  pub limited_in_lem : (i : ℕ) → i < length g.entries → get_or (limited_in g) i blank_limited ≡ entry_limited (get_or g.entries i blank_entry) (fen_of (get_or (grains_in g) i no_grains))
  unfolding month_lines
  limited_in_lem i h =
      let long = length-map (earned_in g) earned_grains in
      line_at g.entries (compensations (grains_in g)) i blank_entry h
      ∙ ap (entry_limited (get_or g.entries i blank_entry))
      (get_d_mapped fen_of (grains_in g) i no_grains no_fen (omega (arith, length_earnings g.entries g.book g.series g.lengths g.ramped)))

  pub line_in_lem : (i : ℕ) → i < length g.entries → get_or (lines_in g) i blank_line ≡ entry_line (get_or g.entries i blank_entry) (fen_of (get_or (grains_in g) i no_grains))
  unfolding entry_limited
  line_in_lem i h =
      get_d_mapped (λ (l : LimitedLine). l.line) (limited_in g) i blank_limited blank_line (omega (arith, length_limited)) ∙ ap (λ (l : LimitedLine). l.line) (limited_in_lem i h)
