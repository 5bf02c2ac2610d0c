-- What is written reads back, and nothing else reads whole. Assumes nothing.
use mathlib.Core.Path.{◌≡◌, refl, sym, ◌∙◌, ap}
use mathlib.Core.List.{List, ◌++◌, append_assoc}
use Prim.Native.Nat.{ℕ, ◌+◌, ◌-◌, ◌≤◌}
use native.Mathlib.Omega.{arith}
use lib.IntN.{ℤ}
use lib.ListN.{length, take, replicate, length-append, length-map, length-replicate}
use lib.Seq.{take_at, length-take-le}
use mir.Syntax.{w64}
use mir.Val.{SFits}
use Rattle.std.specs.Prelude.{Ok}
use Rattle.io.specs.Counts.{IsPrefixLen}
use Rattle.book.specs.declared.Header.{Header}
use Rattle.month.specs.declared.Fault.TheVariants.{NoFault}
use Rattle.month.specs.declared.Row.{Row}
use Rattle.month.specs.declared.Statement.{Statement}
use Rattle.ceiling.specs.declared.LimitedLine.{LimitedLine}
use Rattle.month.specs.Settling.{MonthGiven, blank_row, filled_rows, settling}
use Rattle.month.specs.Outcomes.{limited_in}
use Rattle.share.proofs.Signs.{small_fits}
use Rattle.month.proofs.Accepted.{rows_settled, length_rows, length_limited, length_in, passed}
use Rattle.render.specs.Room.{Renders}
use Rattle.render.proofs.Printed.{front_is}
use Rattle.posted.specs.Posted.{head_text, rows_text, total_text, user_text, is_settled, posted_text, most_posted}
use Rattle.posted.specs.Reading.{Posted, HeadFits, RowsFit, Settled, statement_with, read_whole, bad_line, ReadPosted, no_head, no_line, no_user_lem, no_end, whole}
use Rattle.posted.proofs.Posting.{settled_text}
use Rattle.posted.proofs.Fits.{HoursCounted, few_entries, month_head, month_rows, month_gap, month_user}
use Rattle.posted.proofs.Determined.{posted_determined}

front_rows : (rs : List Row) → take (length rs) (filled_rows rs) ≡ rs
unfolding filled_rows
front_rows rs = take_at rs (replicate (64 - length rs) blank_row) (length rs) refl

filled_long : (rs : List Row) → length rs ≤ 64 → length (filled_rows rs) ≡ 64
unfolding filled_rows
filled_long rs h = omega (arith, length-append rs (replicate (64 - length rs) blank_row), length-replicate (64 - length rs) blank_row)

-- a statement of so many rows is a settled one
pub settled_of : (h : Header) (calls part : ℕ) (rs : List Row) (gap user : ℤ) → HeadFits h calls part → length rs ≤ 64 → RowsFit rs → SFits w64 gap → SFits w64 user
    → Settled (statement_with h calls part rs gap user)
unfolding statement_with
settled_of h calls part rs gap user f few g k l =
    record {
      fault = refl;
      few = few;
      long = filled_long rs few;
      filled = ap (λ (us : List Row). filled_rows us) (sym (front_rows rs));
      head = f;
      fit = rw (front_rows rs) g;
      gap = k;
      user = l;
    }

settled_fault : (s : Statement) → s.fault ≡ NoFault
    → head_text s.header s.calls s.part ++ rows_text (take s.count s.rows) ++ (total_text s.gap.0 ++ user_text s.user.0) ≡ posted_text s
unfolding is_settled
settled_fault s e =
    sym (append_assoc (head_text s.header s.calls s.part ++ rows_text (take s.count s.rows)) (total_text s.gap.0) (user_text s.user.0))
    ∙ settled_text s (ap is_settled e)

-- a settled statement's text reads as that statement
reads_settled : (s : Statement) → Settled s → ReadPosted (posted_text s) (Ok s)
unfolding read_whole statement_with
reads_settled s h =
    let rs = take s.count s.rows in
    let many : length rs ≡ s.count = length-take-le s.count s.rows (omega (arith, h.few, h.long)) in
    let n = sym many in
    let f = h.fault in
    let k = h.filled in
    whole s.header s.calls s.part rs s.gap.0 s.user.0
    (λ i. Ok (record { fault = f i; header = s.header; calls = s.calls; part = s.part; gap = s.gap; user = s.user; count = n i; rows = k i }))
    (record { head = h.head; few = omega (arith, many, h.few); fit = h.fit; is = sym (settled_fault s f) })
    h.gap h.user

-- WHAT IS WRITTEN READS BACK as the same statement.
pub posted_back : (s : Statement) → Settled s → {r : Posted} → ReadPosted (posted_text s) r → r ≡ Ok s
posted_back s h f = posted_determined f (reads_settled s h)

-- The same of what `posted_text` leaves at the front of a buffer with room.
pub written_back : (s : Statement) → Settled s → {before after : List ℕ} {n : ℕ} → most_posted ≤ length before → Renders most_posted (posted_text s) before after n → IsPrefixLen n after
    → {r : Posted} → ReadPosted (take n after) r → r ≡ Ok s
written_back s h room f k g = posted_back s h (rw (front_is room f k) at g)

text_of : (h : Header) (c p : ℕ) (rs : List Row) (z u : ℤ) → head_text h c p ++ rows_text rs ++ (total_text z ++ user_text u) ≡ posted_text (statement_with h c p rs z u)
unfolding statement_with
text_of h c p rs z u =
    ap (λ (us : List Row). head_text h c p ++ rows_text us ++ (total_text z ++ user_text u)) (sym (front_rows rs)) ∙ settled_fault (statement_with h c p rs z u) refl

not_bad : {A : Type 0} {s : Statement} (n : ℕ) → Ok s ≡ bad_line n → A
not_bad n e = absurd (let z : ◌≡◌ {A = ℕ} 0 1 = cc in omega arith)

-- NOTHING ELSE READS WHOLE: what does is the text of the statement that is told, and that is a settled one.
pub posted_only : {t : List ℕ} {s : Statement} → ReadPosted t (Ok s) → Settled s × (t ≡ posted_text s)
unfolding read_whole
posted_only (no_head e n) = not_bad 0 e
posted_only (no_line h c o rs x e p k l) = not_bad (1 + length rs) e
posted_only (no_user_lem h c o rs z x e p k l) = not_bad (2 + length rs) e
posted_only (no_end h c o rs z u x e p k v l) = not_bad (3 + length rs) e
posted_only {s = s} (whole h c o rs z u e p k v) =
    let same : s ≡ statement_with h c o rs z u = cc in
    rw same (settled_of h c o rs z u p.head p.few p.fit k v, p.is ∙ text_of h c o rs z u)

module _ (g : MonthGiven) (e : (settling g).fault ≡ NoFault) where
  -- the rows of a settled month's statement: one for each member, and zeros behind them
  pub month_filled : (settling g).rows ≡ filled_rows (rows_settled g)
  month_filled = ap (λ (s : Statement). s.rows) (passed g e).is

  pub month_front : take (settling g).count (settling g).rows ≡ rows_settled g
  month_front =
      let m : (settling g).count ≡ length (rows_settled g) =
      ap (λ (s : Statement). s.count) (passed g e).is ∙ sym (length-map (limited_in g) (λ (l : LimitedLine). l.line)) ∙ sym (length_rows _ _ _ _ _) in
      (λ i. take (m i) (month_filled i)) ∙ front_rows (rows_settled g)

-- A MONTH THAT WAS SETTLED HAS SUCH A STATEMENT: a row for each member, 64 at most, and every number fits its bits.
pub month_settled : (g : MonthGiven) → HoursCounted g → (settling g).fault ≡ NoFault → Settled (settling g)
month_settled g n e =
    let many : (settling g).count ≡ length g.entries = ap (λ (s : Statement). s.count) (passed g e).is ∙ length_limited g in
    let few = few_entries g e in
    let rows : length (rows_settled g) ≡ length g.entries = length_rows _ _ _ _ _ ∙ length_in g in
    let front = month_front g e in
    record {
      fault = e;
      few = omega arith;
      long = ap length (month_filled g e) ∙ filled_long (rows_settled g) (omega arith);
      filled = month_filled g e ∙ ap (λ (us : List Row). filled_rows us) (sym front);
      head = month_head g e;
      fit = rw front (month_rows g e n);
      gap = small_fits (settling g).gap.0 100000000000 (month_gap g e) (omega arith);
      user = small_fits (settling g).user.0 100000000000 (month_user g e) (omega arith);
    }

-- SETTLED, WRITTEN, READ: whatever month is settled, its statement's text reads back as that statement, and as nothing else;
pub month_posted_back : (g : MonthGiven) → HoursCounted g → (settling g).fault ≡ NoFault → {r : Posted} → ReadPosted (posted_text (settling g)) r
    → r ≡ Ok (settling g)
month_posted_back g n e = posted_back (settling g) (month_settled g n e)

-- so does what `posted_text` leaves of it at the front of a buffer with room.
pub month_written_back : (g : MonthGiven) → HoursCounted g → (settling g).fault ≡ NoFault → {before after : List ℕ} {n : ℕ} → most_posted ≤ length before
    → Renders most_posted (posted_text (settling g)) before after n → IsPrefixLen n after → {r : Posted} → ReadPosted (take n after) r
    → r ≡ Ok (settling g)
month_written_back g n e = written_back (settling g) (month_settled g n e)
