-- What the reader makes of the lines that it took. Assumes nothing.
use mathlib.Core.Path.{◌≡◌, refl, sym, ◌∙◌, ap}
use mathlib.Core.List.{List, [], ◌++◌, append_assoc}
use mathlib.Core.Logic.{◌≢◌}
use Prim.Native.Nat.{ℕ, ◌+◌, ◌-◌}
use native.Mathlib.Omega.{arith}
use lib.IntN.{ℤ}
use lib.ListN.{length, take, replicate, take-append-drop}
use lib.Seq.{length-take-le}
use Rattle.std.specs.Prelude.{Ok, Err}
use Rattle.month.specs.declared.Row.{Row}
use Rattle.month.specs.declared.Fault.TheVariants.{NoFault}
use Rattle.month.specs.Settling.{blank_row, filled_rows}
use Rattle.render.specs.Decimal.{word}
use Rattle.posted.specs.declared.line.Heads.{Heads}
use Rattle.posted.specs.Posted.{head_text, rows_text, total_text, user_text}
use Rattle.posted.specs.Reading.{BeginsHead, BeginsTotal, BeginsUser, total_line, user_line, Taken, statement_with, read_whole, bad_line, ReadPosted, no_head, no_line, no_user_lem, no_end, whole}
use Rattle.posted.specs.Inner.{HeadAt, RowsAt, SumAt, NoSum}
use Rattle.posted.proofs.Posting.{append_none}

pub reads_no_head : (t : List ℕ) → (BeginsHead t → ⊥) → ReadPosted t (Err 0)
reads_no_head t n = no_head refl n

module _ (t : List ℕ) (h : Heads) (u : List ℕ) (hh : HeadAt t h u) (rows : List Row) (count : ℕ) (v : List ℕ) (ll : RowsAt u rows count v) where
  abbrev members : List Row
  members = take count rows

  many : length members ≡ count
  many = length-take-le count rows (omega (arith, ll.few, ll.long))

  taken : (rest : List ℕ) → v ≡ rest → Taken t h.header h.calls h.part members rest
  taken rest e =
      record {
        head = hh.fits;
        few = omega (arith, many, ll.few);
        fit = ll.fit;
        is =
            hh.is ∙ ap (λ (xs : List ℕ). head_text h.header h.calls h.part ++ xs) (ll.is ∙ ap (λ (xs : List ℕ). rows_text members ++ xs) e)
            ∙ sym (append_assoc (head_text h.header h.calls h.part) (rows_text members) rest);
      }

  no_total : NoSum (word "total ") v → BeginsTotal v → ⊥
  unfolding total_text
  no_total n (total_line z rest fits cut) = n z rest fits cut

  pub reads_no_line : NoSum (word "total ") v → ReadPosted t (Err (count + 1))
  reads_no_line n =
      let line : count + 1 ≡ 1 + length members = omega (arith, many) in
      no_line h.header h.calls h.part members v (ap bad_line line) (taken v refl) (λ p. ll.ends (p.0, omega (arith, p.1, many))) (no_total n)

  module _ (gap : ℤ) (w : List ℕ) (gg : SumAt (word "total ") v gap w) where
    no_last : NoSum (word "user ") w → BeginsUser w → ⊥
    unfolding user_text
    no_last n (user_line z rest fits cut) = n z rest fits cut

    total_there : v ≡ total_text gap ++ w
    unfolding total_text
    total_there = gg.is

    pub reads_no_user : NoSum (word "user ") w → ReadPosted t (Err (count + 2))
    reads_no_user n =
        let line : count + 2 ≡ 2 + length members = omega (arith, many) in
        no_user_lem h.header h.calls h.part members gap w (ap bad_line line) (taken _ total_there) gg.fits (no_last n)

    module _ (user : ℤ) (x : List ℕ) (uu : SumAt (word "user ") w user x) where
      user_there : v ≡ total_text gap ++ (user_text user ++ x)
      unfolding user_text
      user_there = total_there ∙ ap (λ (xs : List ℕ). total_text gap ++ xs) uu.is

      pub reads_no_end : x ≢ [] → ReadPosted t (Err (count + 3))
      reads_no_end more =
          let line : count + 3 ≡ 3 + length members = omega (arith, many) in
          no_end h.header h.calls h.part members gap user x (ap bad_line line) (taken _ user_there) gg.fits uu.fits more

      filled : rows ≡ filled_rows members
      unfolding filled_rows
      filled =
          let left : 64 - count ≡ 64 - length members = omega (arith, many) in
          sym (take-append-drop count rows) ∙ ap (λ (rs : List Row). members ++ rs) (ll.blank ∙ ap (λ (n : ℕ). replicate n blank_row) left)

      pub reads_whole : x ≡ []
          → ReadPosted t
          (Ok (record { calls = h.calls; gap = record { 0 = gap }; user = record { 0 = user }; count = count; rows = rows; fault = NoFault; part = h.part; header = h.header }))
      unfolding read_whole statement_with
      reads_whole over =
          let last : v ≡ total_text gap ++ user_text user =
          user_there ∙ ap (λ (xs : List ℕ). total_text gap ++ xs) (ap (λ (xs : List ℕ). user_text user ++ xs) over ∙ append_none (user_text user)) in
          let n = sym many in
          let f = filled in
          whole h.header h.calls h.part members gap user
          (λ i.
          Ok (record { calls = h.calls; gap = record { 0 = gap }; user = record { 0 = user }; count = n i; rows = f i; fault = NoFault; part = h.part; header = h.header }))
          (taken _ last) gg.fits uu.fits
