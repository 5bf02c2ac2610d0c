-- The spare terminal out of its drawer: how the month's books come together cannot be seen in the statement, and nothing withdrawn comes back. Assumes nothing.
use mathlib.Core.Path.{◌≡◌, sym, ◌∙◌, ap}
use mathlib.Core.Bool.{true, false}
use mathlib.Core.List.{List, ◌∷◌, map, Memᴰ as In}
use Prim.Native.Nat.{ℕ, ◌-◌, ◌≤◌, ◌<◌}
use native.Mathlib.Omega.{arith}
use Rattle.call.specs.declared.Call.{Call}
use Rattle.call.specs.Key.{call_key}
use Rattle.call.specs.Revising.{withdrawn}
use Rattle.book.specs.declared.Header.{Header}
use Rattle.book.specs.Book.{most_keys, count_at, record_at, calls_of}
use Rattle.book.specs.Without.{book_without}
use Rattle.book.proofs.Without.{without_sound}
use Rattle.rule.specs.Standing.{is_withdrawn}
use Rattle.join.specs.Joining.{key_count}
use Rattle.join.specs.Trees.{Plan, written, result, Room, OneMonth, Covers}
use Rattle.join.specs.Nothing.{AddsNothing}
use Rattle.join.proofs.Orders.{result_sound}
use Rattle.join.proofs.Without.{without_month, without_few, withdrawn_place, taken_out}
use Rattle.join.proofs.Nothing.{left_out, left-out-sound, entry-out, withdrawn_stands}
use Rattle.month.specs.declared.Statement.{Statement}
use Rattle.month.specs.Settling.{MonthGiven, settling}
use Rattle.month.specs.Lowered.{lowered_statement}
use Rattle.month.proofs.Promises.{with_book, book_alone, order_same}
use Rattle.month.proofs.Withdrawn.{withdrawn_month}

-- the statement of a month over what a tree of joins gives: its register, series and ramping files are those of g
abbrev pub statement_over : Plan → MonthGiven → Statement
statement_over p g = settling (with_book g (written (result p)))

-- The record of a withdrawn call in a book, and the statement as it is without it
pub record Nobody (w : Call) (p q : Plan) : Type 0 where
  pub place : ℕ
  pub is_record_lem : place < count_at (written (result p))
  pub its_key : call_key (record_at (written (result p)) place) ≡ call_key w
  pub stays_withdrawn : (record_at (written (result p)) place).state ≡ withdrawn
  pub statement : (g : MonthGiven) → statement_over q g ≡ lowered_statement place (statement_over p g)

-- A call that one of the books has withdrawn counts for nobody, whatever the others still have of it and however they are joined: the call is a withdrawn
-- record of the joined book, and the statement is that of the books from which every entry of the call is taken out, the count of calls and places aside.
pub counts_for_nobody : (h : Header) (bs : List (List ℕ)) → OneMonth h bs → key_count bs ≤ most_keys
    → (b : List ℕ) → In b bs → (w : Call) → In w (calls_of b) → is_withdrawn w ≡ true
    → (p q : Plan) → Covers p bs → Covers q (map (book_without (call_key w)) bs) → Room p → Room q → Nobody w p q
counts_for_nobody h bs month few b i w l t p q c d r s =
    let a = withdrawn_place h bs month p c few r b i w l t in
    let sound = result_sound h bs month p c r few in
    let less = result_sound h (map (book_without (call_key w)) bs) (without_month h bs month (call_key w)) q d s (omega (arith, without_few h bs month (call_key w))) in
    let out = taken_out h bs month few (call_key w) p q c d r s in
    record {
      place = a.0;
      is_record_lem = a.1;
      its_key = a.2;
      stays_withdrawn = a.3;
      statement = λ g.
          book_alone (written (result q)) (book_without (call_key w) (written (result p))) less (without_sound (call_key w) (written (result p)) sound) out g
          ∙ ap (λ (k : ℕ). settling (with_book g (book_without k (written (result p))))) (sym a.2)
          ∙ withdrawn_month (written (result p)) sound a.0 a.1 a.3 g;
    }

-- So no line of the statement is another, nor R, nor the month.
module _ (w : Call) (p q : Plan) (n : Nobody w p q) (g : MonthGiven) where
  pub same_lines : (statement_over q g).rows ≡ (statement_over p g).rows
  unfolding lowered_statement
  same_lines = ap (λ (s : Statement). s.rows) (n.statement g)

  pub same_gap : (statement_over q g).gap ≡ (statement_over p g).gap
  unfolding lowered_statement
  same_gap = ap (λ (s : Statement). s.gap) (n.statement g)

  pub same_header : (statement_over q g).header ≡ (statement_over p g).header
  unfolding lowered_statement
  same_header = ap (λ (s : Statement). s.header) (n.statement g)

  pub one_fewer : (statement_over q g).calls ≡ (statement_over p g).calls - 1
  unfolding lowered_statement
  one_fewer = ap (λ (s : Statement). s.calls) (n.statement g)

-- What the drawer's books have in common, told of one tree p over them: the statement is the one of every tree, and nothing withdrawn counts
pub record DrawerKept (bs : List (List ℕ)) (p : Plan) : Type 0 where
  -- in whatever order and grouping the books are joined, and however often each of them: the same statement
  pub whatever_the_tree : (q : Plan) → Covers q bs → Room q → (g : MonthGiven) → statement_over q g ≡ statement_over p g
  -- a call that any of the books has withdrawn counts for nobody: over whatever tree of the books without any entry of that call, the statement is the same,
  -- the count of calls one fewer, places behind its record one lower
  pub withdrawn_anywhere : (b : List ℕ) → In b bs → (w : Call) → In w (calls_of b) → is_withdrawn w ≡ true
      → (q : Plan) → Covers q (map (book_without (call_key w)) bs) → Room q → Nobody w p q

-- THE DRAWER: sound books of one month and area, with no more keys than a book may have, joined two at a time with room. However they came together, the statement is one;
-- and a call that any of them has withdrawn is in no member's money.
pub the_drawer : (h : Header) (bs : List (List ℕ)) → OneMonth h bs → key_count bs ≤ most_keys → (p : Plan) → Covers p bs → Room p → DrawerKept bs p
the_drawer h bs month few p c r =
    record {
      whatever_the_tree = λ q d s g. order_same g h bs month few q p d c s r;
      withdrawn_anywhere = λ b i w l t q d s. counts_for_nobody h bs month few b i w l t p q c d r s;
    }

-- An early entry of a book, live or contested and at whatever revision, of a call that another book has withdrawn: the statement is that of the books of which
-- the one has lost the entry. Plugging its terminal in brings nothing back.
pub early_entry : (h : Header) (b : List ℕ) (bs : List (List ℕ)) → OneMonth h (b ∷ bs) → key_count (b ∷ bs) ≤ most_keys
    → (c : Call) → In c (calls_of b) → is_withdrawn c ≡ false
    → (d : List ℕ) → In d bs → (w : Call) → In w (calls_of d) → is_withdrawn w ≡ true → call_key w ≡ call_key c
    → (p q : Plan) → Covers p (b ∷ bs) → Covers q (book_without (call_key c) b ∷ bs) → Room p → Room q → (g : MonthGiven) → statement_over p g ≡ statement_over q g
early_entry h b bs month few c i f d j w l t k p q x y r s g =
    ap (λ (z : List ℕ). settling (with_book g z)) (entry-out h b bs month c i d j w l k (withdrawn_stands w c t f) p q x y few r s)

-- A book that adds nothing to the others changes no statement: it may stay in its drawer.
pub nothing_added : (h : Header) (b : List ℕ) (bs : List (List ℕ)) → OneMonth h (b ∷ bs) → AddsNothing bs b → key_count bs ≤ most_keys
    → (p q : Plan) → Covers p (b ∷ bs) → Covers q bs → Room p → Room q → (g : MonthGiven) → statement_over p g ≡ statement_over q g
nothing_added h b bs month nothing few p q c d r s g =
    let sounds = left-out-sound h b bs month nothing p q c d few r s in
    book_alone (written (result p)) (written (result q)) sounds.0 sounds.1 (left_out h b bs month nothing p q c d few r s) g
