-- The turns of a chain of joins, and of the last join of a tree: the different keys, and what they come to at most. Assumes nothing.
use mathlib.Core.Path.{◌≡◌, refl, sym, ◌∙◌, ap, ap₂, subst}
use mathlib.Core.Logic.{⊎_elim}
use mathlib.Core.List.{List, [], ◌∷◌, ◌++◌, map}
use mathlib.Core.List.Memᴰ.{append_cases as in-append}
use mathlib.Core.List.Memᴰ.{eq_of_singleton as eq-of-one}
use mathlib.Core.List.Memᴰ.{head as here}
use mathlib.Core.List.Memᴰ.{tail as there}
use mathlib.Core.List.{Memᴰ as In}
use Prim.Native.Nat.{ℕ, suc, ◌+◌, ◌*◌, ◌≤◌, min}
use native.Mathlib.Nat.{mul-add, suc-mul}
use native.Mathlib.Omega.{arith}
use native.Mathlib.Decide.{ℕ_discrete}
use lib.ListN.{length, take}
use lib.Seq.{take-length}
use borrow.Author.Tests.{eq-eqb, ne_eqb}
use Rattle.call.specs.declared.Call.{Call}
use Rattle.le.specs.Le.{le_at}
use Rattle.book.specs.declared.Header.{Header}
use Rattle.book.specs.Book.{first_version, most_keys, header_at, count_at, calls_of, record_bytes, book_bytes}
use Rattle.book.specs.Sound.{Sound}
use Rattle.book.specs.Write.{BookOutcome, write_fault, writing}
use Rattle.book.proofs.Heads.{first_known, first_some, count_back}
use Rattle.book.proofs.Writing.{book_written, refused_kept, written_sound}
use Rattle.rule.specs.Keys.{put_all, different_keys}
use Rattle.rule.specs.Whole.{tree_joined}
use Rattle.join.specs.Joining.{JoinOutcome, key_count, joining}
use Rattle.join.specs.Trees.{Plan, book, join, books, written, join_both, result, OneMonth, Covers}
use Rattle.join.specs.Chain.{Link, linked, chain, empty_book, sum, turns_of, keys_up_to, most_turns, counted_again}
use Rattle.join.proofs.Versions.{tree_version}
use Rattle.join.proofs.Trees.{tree_of, keys_of, key_count_lem, tree_known, tree_few, Ends, through, stops, ends}
use Rattle.join.proofs.Orders.{leaves_month}
use Rattle.join.proofs.Turning.{count_told, turns_are_keys, turns_few, turns_most, refused_no_turns}

-- The last join of a tree

-- what two outcomes give is accepted only where both are, and then it is the join of what they have written
both_went : (l r : JoinOutcome) (out : List ℕ) → (join_both l r out).number ≡ 0 → join_both l r out ≡ joining (written l) (written r) out
unfolding join_both
both_went l r out z = go (ℕ_discrete l.number 0) (ℕ_discrete r.number 0)
  where
    go : Dec (l.number ≡ 0) → Dec (r.number ≡ 0) → join_both l r out ≡ joining (written l) (written r) out
    go (yes p) (yes q) = rw (eq-eqb l.number 0 p, eq-eqb r.number 0 q) refl
    go (yes p) (no q) = absurd (q (rw (eq-eqb l.number 0 p, ne_eqb r.number 0 q) at z))
    go (no p) q = absurd (p (rw (ne_eqb l.number 0 p) at z))

module _ (h : Header) (l r : Plan) (out : List ℕ) (month : OneMonth h (books (join l r out))) (z : (result (join l r out)).number ≡ 0) where
  told : count_at (written (result (join l r out))) ≡ (result (join l r out)).turns
  unfolding result
  told =
      let e = both_went (result l) (result r) out z in
      ap (λ (o : JoinOutcome). count_at (written o)) e
      ∙ count_told (written (result l)) (written (result r)) out (ap (λ (o : JoinOutcome). o.number) (sym e) ∙ z)
      ∙ ap (λ (o : JoinOutcome). o.turns) (sym e)

  own_turns : (result (join l r out)).turns ≡ key_count (books (join l r out))
  unfolding book_bytes
  own_turns = go (ends h (join l r out) month)
    where
      cs : List Call
      cs = tree_joined (tree_of (join l r out))

      go : Ends h (join l r out) → (result (join l r out)).turns ≡ key_count (books (join l r out))
      go (stops s) = absurd (⊎_elim (λ (e : (result (join l r out)).number ≡ 8). omega arith) (λ (e : (result (join l r out)).number ≡ 9). omega arith) s)
      go (through f n w) =
          sym told ∙ ap count_at w
          ∙ count_back (tree_version (join l r out)) h (length cs) (record_bytes cs) (tree_known h (join l r out) month) (tree_few h (join l r out) month f)
          ∙ key_count_lem h (join l r out) month

-- Of every tree that is a join, over whatever order, grouping and repetition of the books, the last join tells the different keys of the whole list.
pub last_turns : (h : Header) (bs : List (List ℕ)) → OneMonth h bs → (l r : Plan) (out : List ℕ) → Covers (join l r out) bs
    → (result (join l r out)).number ≡ 0 → (result (join l r out)).turns ≡ key_count bs
last_turns h bs month l r out covers z =
    let p = join l r out in
    omega (arith, own_turns h l r out (leaves_month h bs p covers month) z, keys_of (books p) bs covers.only, keys_of bs (books p) covers.all)

-- A chain

-- an accepted join goes on, a refused one is the last
module _ (b : List ℕ) (l : Link) (ls : List Link) where
  abbrev next : JoinOutcome
  next = joining b l.book l.out

  goes_on_lem : next.number ≡ 0 → chain b (l ∷ ls) ≡ next ∷ chain (written next) ls
  unfolding chain
  goes_on_lem z = rw (eq-eqb next.number 0 z) refl

  stops_here : (next.number ≡ 0 → ⊥) → chain b (l ∷ ls) ≡ next ∷ []
  unfolding chain
  stops_here n = rw (ne_eqb next.number 0 n) refl

-- the joins of a chain behind what a tree gives are each the last of a tree
module _ (h : Header) where
  joined_in : (p : Plan) (b : List ℕ) (out : List ℕ) → (result p).number ≡ 0 → result (join p (book b) out) ≡ joining (written (result p)) b out
  unfolding result join_both
  joined_in p b out z = rw (eq-eqb (result p).number 0 z) (ap (λ (x : List ℕ). joining (written (result p)) x out) (take-length b))

  one_more : (p : Plan) (b : List ℕ) (out : List ℕ) → OneMonth h (books p) → Sound b → header_at b ≡ h → OneMonth h (books (join p (book b) out))
  unfolding books
  one_more p b out o s e =
      record {
        sound = λ c i. ⊎_elim (λ j. o.sound c j) (λ j. subst Sound (sym (eq-of-one j)) s) (in-append (books p) i);
        header = λ c i. ⊎_elim (λ j. o.header c j) (λ j. ap header_at (eq-of-one j) ∙ e) (in-append (books p) i);
      }

  along : (ls : List Link) (p : Plan) → OneMonth h (books p) → OneMonth h (linked ls) → (result p).number ≡ 0
      → ((o : JoinOutcome) → In o (chain (written (result p)) ls) → o.number ≡ 0) → turns_of (chain (written (result p)) ls) ≡ keys_up_to (books p) (linked ls)
  unfolding chain keys_up_to books
  along [] p o m z a = refl
  along (l ∷ ls) p o m z a =
      let b = written (result p) in
      let q = join p (book l.book) l.out in
      let e = joined_in p l.book l.out z in
      let w = one_more p l.book l.out o (m.sound l.book (here refl)) (m.header l.book (here refl)) in
      let n : (joining b l.book l.out).number ≡ 0 = a (joining b l.book l.out) (here refl) in
      let k : (result q).number ≡ 0 = ap (λ (x : JoinOutcome). x.number) e ∙ n in
      let g = goes_on_lem b l ls n in
      let f : chain (written (joining b l.book l.out)) ls ≡ chain (written (result q)) ls = ap (λ (x : JoinOutcome). chain (written x) ls) (sym e) in
      let rest = along ls q w (record { sound = λ c i. m.sound c (there i); header = λ c i. m.header c (there i) }) k
      (λ x i. a x (rw (g, f) (there i))) in
      ap turns_of g
      ∙ ap₂ (λ (t : ℕ) (ts : List ℕ). t ∷ ts) (ap (λ (x : JoinOutcome). x.turns) (sym e) ∙ own_turns h p (book l.book) l.out w k) (ap turns_of f ∙ rest)

-- the book of none

module _ (h : Header) (page : List ℕ) where
  empty_written : write_fault h [] (length page) ≡ 0 → empty_book h page ≡ book_bytes first_version h []
  unfolding empty_book
  empty_written ok = book_written h [] page ok

  empty_count : write_fault h [] (length page) ≡ 0 → count_at (empty_book h page) ≡ 0
  unfolding book_bytes
  empty_count ok = ap count_at (empty_written ok) ∙ count_back first_version h 0 (record_bytes []) first_known (omega (arith, first_some))

  -- where it is refused nothing is written, and no count is there
  refused_count : (write_fault h [] (length page) ≡ 0 → ⊥) → count_at (empty_book h page) ≡ 0
  unfolding empty_book count_at le_at
  refused_count n = ap (λ (o : BookOutcome). count_at (take o.size o.out)) (refused_kept h [] page n)

  none_counted : count_at (empty_book h page) ≡ 0
  none_counted = go (ℕ_discrete (write_fault h [] (length page)) 0)
    where
      go : Dec (write_fault h [] (length page) ≡ 0) → count_at (empty_book h page) ≡ 0
      go (yes ok) = empty_count ok
      go (no n) = refused_count n

  -- a writing that was accepted
  was_written : (writing h [] page).number ≡ 0 → write_fault h [] (length page) ≡ 0
  was_written z = go (ℕ_discrete (write_fault h [] (length page)) 0)
    where
      go : Dec (write_fault h [] (length page) ≡ 0) → write_fault h [] (length page) ≡ 0
      go (yes ok) = ok
      go (no n) = absurd (n (ap (λ (o : BookOutcome). o.number) (sym (refused_kept h [] page n)) ∙ z))

  -- a book without calls adds no key
  no_key : (bs : List (List ℕ)) → write_fault h [] (length page) ≡ 0 → key_count (empty_book h page ∷ bs) ≡ key_count bs
  unfolding key_count different_keys put_all
  no_key bs ok = ap (λ (cs : List Call). length (put_all cs (different_keys (map calls_of bs)))) (ap calls_of (empty_written ok) ∙ (written_sound h [] page ok tt (omega (arith, first_some)) tt).3)

  keys_behind : (bs before : List (List ℕ)) → write_fault h [] (length page) ≡ 0 → keys_up_to (empty_book h page ∷ before) bs ≡ keys_up_to before bs
  unfolding keys_up_to
  keys_behind [] before ok = refl
  keys_behind (b ∷ bs) before ok = ap₂ (λ (n : ℕ) (ns : List ℕ). n ∷ ns) (no_key (before ++ b ∷ []) ok) (keys_behind bs (before ++ b ∷ []) ok)

  -- Over a chain of accepted joins from an empty book over sound books of its month and area the turns of each join are the different keys up to its book, and all turns
  -- are their sum.
  pub chain_turns_lem : (ls : List Link) → (writing h [] page).number ≡ 0 → OneMonth h (linked ls)
      → ((o : JoinOutcome) → In o (chain (empty_book h page) ls) → o.number ≡ 0)
      → (turns_of (chain (empty_book h page) ls) ≡ keys_up_to [] (linked ls)) × (sum (turns_of (chain (empty_book h page) ls)) ≡ sum (keys_up_to [] (linked ls)))
  unfolding result books
  chain_turns_lem ls ok month all =
      let e = empty_book h page in
      let f = was_written ok in
      let s = written_sound h [] page f tt (omega (arith, first_some)) tt in
      let o : OneMonth h (e ∷ []) = record { sound = λ c i. subst Sound (sym (eq-of-one i ∙ empty_written f)) s.0; header = λ c i. ap header_at (eq-of-one i ∙ empty_written f) ∙ s.2 } in
      let g : written (result (book e)) ≡ e = take-length e in
      let t : turns_of (chain e ls) ≡ keys_up_to [] (linked ls) =
      ap (λ (b : List ℕ). turns_of (chain b ls)) (sym g) ∙ along h ls (book e) o month refl (λ x i. all x (rw g at i)) ∙ keys_behind (linked ls) [] f in
      (t, ap sum t)

-- What a chain comes to at most, by the counts of its books

more_before : (m n : ℕ) (ns : List ℕ) → m ≤ n → most_turns m ns ≤ most_turns n ns
unfolding most_turns
more_before m n [] h = omega arith
more_before m n (k ∷ ns) h = let i = more_before (m + k) (n + k) ns (omega arith) in omega arith

-- from any book on, over any bytes
pub chain_from : (b : List ℕ) (ls : List Link) → sum (turns_of (chain b ls)) ≤ most_turns (count_at b) (map count_at (linked ls))
unfolding chain sum most_turns
chain_from b [] = omega arith
chain_from b (l ∷ ls) = go (chain_from (written o) ls) (ℕ_discrete o.number 0)
  where
    o : JoinOutcome
    o = joining b l.book l.out

    n : ℕ
    n = count_at l.book

    ns : List ℕ
    ns = map count_at (linked ls)

    go : sum (turns_of (chain (written o) ls)) ≤ most_turns (count_at (written o)) ns → Dec (o.number ≡ 0)
        → sum (turns_of (chain b (l ∷ ls))) ≤ min most_keys (count_at b + n) + most_turns (count_at b + n) ns
    go ih (yes z) =
        let t = turns_are_keys b l.book l.out z in
        let few = turns_few b l.book l.out z in
        let most : o.turns ≤ most_keys = turns_most b l.book l.out z in
        let e = t.1 in
        let k : sum (turns_of (chain b (l ∷ ls))) ≡ o.turns + sum (turns_of (chain (written o) ls)) = ap (λ (os : List JoinOutcome). sum (turns_of os)) (goes_on_lem b l ls z) in
        let w = more_before (count_at (written o)) (count_at b + n) ns (omega arith) in
        omega arith
    go ih (no z) =
        let k : sum (turns_of (chain b (l ∷ ls))) ≡ o.turns + 0 = ap (λ (os : List JoinOutcome). sum (turns_of os)) (stops_here b l ls z) in
        omega (arith, refused_no_turns b l.book l.out z)

-- All turns of a chain from an empty book are together at most the sum, over its joins, of the smaller of 2,000 and the counts up to that book: where every join is accepted,
-- and where the chain stops in a refusal, which adds 0.
pub chain_bound : (h : Header) (page : List ℕ) (ls : List Link) → sum (turns_of (chain (empty_book h page) ls)) ≤ most_turns 0 (map count_at (linked ls))
chain_bound h page ls = rw (none_counted h page) at (chain_from (empty_book h page) ls)

-- at most 2,000 for each book
books_most : (n : ℕ) (ns : List ℕ) → most_turns n ns ≤ most_keys * length ns
unfolding most_turns
books_most n [] = omega arith
books_most n (k ∷ ns) = let i = books_most (n + k) ns in omega arith

linked_long : (ls : List Link) → length (map count_at (linked ls)) ≡ length ls
linked_long [] = refl
linked_long (l ∷ ls) = ap suc (linked_long ls)

-- Where nothing is known but that there are so many books: at most 2,000 for each, from any book on and over any bytes.
pub chain_bound_books : (b : List ℕ) (ls : List Link) → sum (turns_of (chain b ls)) ≤ most_keys * length ls
chain_bound_books b ls =
    let i = chain_from b ls in
    let j = books_most (count_at b) (map count_at (linked ls)) in
    omega (arith, linked_long ls)

again_most : (n : ℕ) (ns : List ℕ) → most_turns n ns ≤ length ns * n + counted_again ns
unfolding most_turns counted_again
again_most n [] = omega arith
again_most n (k ∷ ns) =
    let i = again_most (n + k) ns in
    let d : length ns * (n + k) ≡ length ns * n + length ns * k = mul-add (length ns) n k in
    let e : suc (length ns) * k ≡ length ns * k + k = suc-mul (length ns) k in
    let f : suc (length ns) * n ≡ length ns * n + n = suc-mul (length ns) n in
    omega arith

-- Without the minimum: the first count as many times as there are books, the next once less, the last once.
pub chain_bound_counts : (h : Header) (page : List ℕ) (ls : List Link) → sum (turns_of (chain (empty_book h page) ls)) ≤ counted_again (map count_at (linked ls))
chain_bound_counts h page ls =
    let i = chain_bound h page ls in
    let j = again_most 0 (map count_at (linked ls)) in
    omega arith
