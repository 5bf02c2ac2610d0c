-- Trees of joins over bytes follow the trees over lists of calls. Assumes nothing.
use mathlib.Core.Path.{◌≡◌, refl, sym, ◌∙◌, ap, ap₂, subst}
use mathlib.Core.Bool.{true}
use mathlib.Core.Logic.{◌⊎◌, inl, inr}
use mathlib.Core.List.Memᴰ
use mathlib.Core.List.Memᴰ.{head as here}
use mathlib.Core.List.{List, [], ◌∷◌, ◌++◌, map, Memᴰ as In}
use Prim.Native.Nat.{ℕ, ◌≤◌, ◌<◌}
use native.Mathlib.Omega.{arith}
use native.Mathlib.Decide.{dec_le}
use lib.ListN.{length}
use lib.Seq.{take-length, take-append_seam}
use borrow.Author.Tests.{eq-eqb, ne_eqb}
use Rattle.call.specs.declared.Call.{Call}
use Rattle.book.specs.declared.Header.{Header}
use Rattle.book.specs.Book.{most_records, most_keys, size_of, version_at, header_at, calls_of, book_bytes}
use Rattle.book.specs.Check.{refused, accepted, header_minutes}
use Rattle.book.specs.Sound.{Known, Heading, Sound}
use Rattle.book.proofs.Heads.{known_most}
use Rattle.book.proofs.Exact.{sound_accepted, version_of, reads_back, sound_version, sound_reads, sound_known, sound_again}
use Rattle.rule.specs.Joined.{join_calls}
use Rattle.rule.specs.Whole.{Tree, leaf, node, leaves, tree_joined}
use Rattle.rule.proofs.Merging.{join_long}
use Rattle.rule.proofs.Bounds.{Calls, Sounds, tree_sound}
use Rattle.rule.proofs.Orders.{Over}
use Rattle.rule.proofs.Whole.{number_of_keys}
use Rattle.rule.proofs.Without.{more_books}
use Rattle.pair.specs.Screening.{same_month, screen}
use Rattle.join.specs.Turns.{ran}
use Rattle.join.specs.Joining.{JoinOutcome, join_refused, join_wrote, key_count, keys_of_both, joined_of, pair_version, joining}
use Rattle.join.specs.Trees.{Plan, book, join, books, written, join_both, result, AllAccepted, Room, OneMonth, Covers}
use Rattle.pair.proofs.Screening.{screen_passes}
use Rattle.join.proofs.WaysOut.{over_many, over_short, refuse_over, joins_both}
use Rattle.join.proofs.Steps.{joined_length}
use Rattle.join.proofs.Taken.{ran_turns}
use Rattle.join.proofs.Versions.{pair_known, pair_most, tree_version}

-- Sound books

pub sound_calls_lem : (b : List ℕ) → Sound b → Calls (header_minutes (header_at b)) (calls_of b)
sound_calls_lem b s =
    let r = sound_reads b s in
    rw (r.0, r.1) (record { within = s.within; rises = s.rising })

pub sound_few : (b : List ℕ) → Sound b → length (calls_of b) ≤ most_records (version_at b)
sound_few b s = rw (sound_version b s, (sound_reads b s).1) s.few

pub book_sound : (v : ℕ) (h : Header) (cs : List Call) → Known v → Heading h → length cs ≤ most_records v → Calls (header_minutes h) cs → Sound (book_bytes v h cs)
book_sound v h cs k g f c =
    record { version = v; header = h; calls = cs; known = k; heading = g; few = f; within = c.within; rising = c.rises; bytes = refl }

pub same_month_lem : (h : Header) → same_month h h ≡ true
unfolding same_month
same_month_lem h = simp (eq-eqb h.year h.year refl, eq-eqb h.month h.month refl, eq-eqb h.area h.area refl)

-- The join of two sound books of one month and area

module _ (h : Header) (g : Heading h) (v w : ℕ) (kv : Known v) (kw : Known w) (xs ys : List Call) (fx : length xs ≤ most_records v) (fy : length ys ≤ most_records w)
    (cx : Calls (header_minutes h) xs) (cy : Calls (header_minutes h) ys) (out : List ℕ) where
  abbrev one : List ℕ
  one = book_bytes v h xs

  abbrev two : List ℕ
  two = book_bytes w h ys

  none_refused_lem : screen one two ≡ accepted
  none_refused_lem =
      sym (screen_passes one two (sound_accepted _ (book_sound v h xs kv g fx cx)) (sound_accepted _ (book_sound w h ys kw g fy cy))
      (ap₂ same_month (reads_back v h xs kv g fx cx.within).0 (reads_back w h ys kw g fy cy.within).0 ∙ same_month_lem h))

  calls-joined : joined_of one two ≡ join_calls xs ys
  unfolding joined_of
  calls-joined = ap₂ join_calls (reads_back v h xs kv g fx cx.within).1 (reads_back w h ys kw g fy cy.within).1

  keys-joined : keys_of_both one two ≡ length (join_calls xs ys)
  keys-joined = sym (joined_length one two) ∙ ap length calls-joined

  version_joined : pair_version (version_at one) (version_at two) (keys_of_both one two) ≡ pair_version v w (length (join_calls xs ys))
  version_joined = λ i. pair_version (version_of v h xs kv g fx i) (version_of w h ys kw g fy i) (keys-joined i)

  turns-joined : (ran one two out).turns ≡ length (join_calls xs ys)
  turns-joined =
      ran_turns one two out (rw (reads_back v h xs kv g fx cx.within).1 cx.rises) (rw (reads_back w h ys kw g fy cy.within).1 cy.rises) ∙ keys-joined

  pub book-joined : length (join_calls xs ys) ≤ most_keys → size_of (length (join_calls xs ys)) ≤ length out
      → joining one two out ≡ join_wrote (book_bytes (pair_version v w (length (join_calls xs ys))) h (join_calls xs ys)) (length (join_calls xs ys)) out
  book-joined f r =
      sym (joins_both one two out none_refused_lem (omega (arith, keys-joined)) (omega (arith, keys-joined)))
      ∙ (λ i. join_wrote (book_bytes (version_joined i) ((reads_back v h xs kv g fx cx.within).0 i) (calls-joined i)) (turns-joined i) out)

  pub book_refused : most_keys < length (join_calls xs ys) → joining one two out ≡ join_refused (refused 8 0) out
  book_refused f = sym (refuse_over one two out none_refused_lem _ (over_many (keys_of_both one two) (length out) (omega (arith, keys-joined))) (λ z. omega arith))

  pub book-short : length (join_calls xs ys) ≤ most_keys → length out < size_of (length (join_calls xs ys)) → joining one two out ≡ join_refused (refused 9 0) out
  book-short f r =
      sym (refuse_over one two out none_refused_lem _
      (over_short (keys_of_both one two) (length out) (omega (arith, keys-joined)) (omega (arith, keys-joined))) (λ z. omega arith))

-- The tree over lists of calls

unfoldable pub tree_of : Plan → Tree
tree_of (book b) = leaf (calls_of b)
tree_of (join l r out) = node (tree_of l) (tree_of r)

map_append : (bs cs : List (List ℕ)) → map calls_of (bs ++ cs) ≡ map calls_of bs ++ map calls_of cs
map_append [] cs = refl
map_append (b ∷ bs) cs = ap (λ (l : List (List Call)). calls_of b ∷ l) (map_append bs cs)

leaves_of : (p : Plan) → leaves (tree_of p) ≡ map calls_of (books p)
unfolding leaves tree_of books
leaves_of (book b) = refl
leaves_of (join l r out) = ap₂ (λ (x y : List (List Call)). x ++ y) (leaves_of l) (leaves_of r) ∙ sym (map_append (books l) (books r))

pub covers_over : (p : Plan) (bs : List (List ℕ)) → Covers p bs → Over (tree_of p) (map calls_of bs)
covers_over p bs c =
    record {
      all = λ d i.
          let m = Memᴰ.of_map calls_of bs i in
          subst (λ (l : List (List Call)). In d l) (sym (leaves_of p)) (Memᴰ.cast (sym m.2) (Memᴰ.map calls_of (c.all m.0 m.1)));
      only = λ d i.
          let m = Memᴰ.of_map calls_of (books p) (subst (λ (l : List (List Call)). In d l) (leaves_of p) i) in
          Memᴰ.cast (sym m.2) (Memᴰ.map calls_of (c.only m.0 m.1));
    }

-- books that are all among others have no more different keys
pub keys_of : (bs cs : List (List ℕ)) → ((b : List ℕ) → In b bs → In b cs) → key_count bs ≤ key_count cs
unfolding key_count
keys_of bs cs h =
    more_books (map calls_of bs) (map calls_of cs)
    (λ d i. let m = Memᴰ.of_map calls_of bs i in Memᴰ.cast (sym m.2) (Memᴰ.map calls_of (h m.0 m.1)))

own : (p : Plan) → Covers p (books p)
own p = record { all = λ b i. i; only = λ b i. i }

module _ (h : Header) where
  pub month_sounds : (bs : List (List ℕ)) → OneMonth h bs → Sounds (header_minutes h) (map calls_of bs)
  month_sounds bs o d i =
      let m = Memᴰ.of_map calls_of bs i in
      let c = sound_calls_lem m.0 (o.sound m.0 m.1) in
      rw (o.header m.0 m.1, m.2) at c

  pub left_month : (l r : Plan) (out : List ℕ) → OneMonth h (books (join l r out)) → OneMonth h (books l)
  unfolding books
  left_month l r out o = record { sound = λ b i. o.sound b (Memᴰ.append_left (books r) i); header = λ b i. o.header b (Memᴰ.append_left (books r) i) }

  pub right_month : (l r : Plan) (out : List ℕ) → OneMonth h (books (join l r out)) → OneMonth h (books r)
  unfolding books
  right_month l r out o = record { sound = λ b i. o.sound b (Memᴰ.append_right (books l) i); header = λ b i. o.header b (Memᴰ.append_right (books l) i) }

  pub heading : (p : Plan) → OneMonth h (books p) → Heading h
  unfolding books
  heading (book b) o =
      let s = o.sound b (here refl) in
      rw (sym (sound_reads b s).0 ∙ o.header b (here refl)) at s.heading
  heading (join l r out) o = heading l (left_month l r out o)

  pub tree_calls : (p : Plan) → OneMonth h (books p) → Calls (header_minutes h) (tree_joined (tree_of p))
  tree_calls p o = tree_sound (header_minutes h) (tree_of p) (λ d i. month_sounds (books p) o d ((covers_over p (books p) (own p)).only d i))

  pub key_count_lem : (p : Plan) → OneMonth h (books p) → length (tree_joined (tree_of p)) ≡ key_count (books p)
  unfolding key_count
  key_count_lem p o = number_of_keys (header_minutes h) (tree_of p) (map calls_of (books p)) (covers_over p (books p) (own p)) (month_sounds (books p) o)

  -- its version is one that is read, and allows as many records as it has
  pub tree_known : (p : Plan) → OneMonth h (books p) → Known (tree_version p)
  unfolding books tree_version
  tree_known (book b) o = sound_known b (o.sound b (here refl))
  tree_known (join l r out) o = pair_known (tree_version l) (tree_version r) (key_count (books l ++ books r))

  pub tree_few : (p : Plan) → OneMonth h (books p) → length (tree_joined (tree_of p)) ≤ most_keys → length (tree_joined (tree_of p)) ≤ most_records (tree_version p)
  unfolding books tree_version tree_of tree_joined
  tree_few (book b) o f = sound_few b (o.sound b (here refl))
  tree_few (join l r out) o f =
      let e = key_count_lem (join l r out) o in
      let most = pair_most (tree_version l) (tree_version r) (key_count (books l ++ books r)) (omega arith) in
      omega (arith, e, most)

  -- what a tree gives: the book of its calls, or a refusal 8
  pub record Gives (p : Plan) : Type 0 where
    pub few : length (tree_joined (tree_of p)) ≤ most_keys → AllAccepted p × ((result p).number ≡ 0) × (written (result p) ≡ book_bytes (tree_version p) h (tree_joined (tree_of p)))
    pub many : most_keys < length (tree_joined (tree_of p)) → (result p).number ≡ 8

  gives_book : (b : List ℕ) → Sound b → header_at b ≡ h → Gives (book b)
  unfolding books result tree_of tree_joined tree_version
  gives_book b s e =
      record {
        few = λ f. (tt, refl, take-length b ∙ sound_again b s ∙ ap (λ (k : Header). book_bytes (version_at b) k (calls_of b)) e);
        many = λ f. absurd (omega (arith, sound_few b s, known_most (version_at b) (sound_known b s)));
      }

  -- a join of two outcomes, each a book of this month and area
  both_accepted : (l r : JoinOutcome) (out : List ℕ) → l.number ≡ 0 → r.number ≡ 0 → join_both l r out ≡ joining (written l) (written r) out
  unfolding join_both
  both_accepted l r out p q = rw (eq-eqb l.number 0 p, eq-eqb r.number 0 q) refl

  left_refused : (l r : JoinOutcome) (out : List ℕ) → l.number ≡ 8 → (join_both l r out).number ≡ 8
  unfolding join_both
  left_refused l r out p = rw (ne_eqb l.number 0 (λ e. omega arith)) p

  right_refused : (l r : JoinOutcome) (out : List ℕ) → l.number ≡ 0 → r.number ≡ 8 → (join_both l r out).number ≡ 8
  unfolding join_both
  right_refused l r out p q = rw (eq-eqb l.number 0 p, ne_eqb r.number 0 (λ e. omega arith)) q

  gives_join : (l r : Plan) (out : List ℕ) → OneMonth h (books (join l r out)) → Gives l → Gives r
      → (key_count (books (join l r out)) ≤ most_keys → size_of (key_count (books (join l r out))) ≤ length out) → Gives (join l r out)
  unfolding books result tree_of tree_joined tree_version
  gives_join l r out o gl gr room = go (dec_le (length xs) most_keys) (dec_le (length ys) most_keys)
    where
      xs : List Call
      xs = tree_joined (tree_of l)

      ys : List Call
      ys = tree_joined (tree_of r)

      count : length (join_calls xs ys) ≡ key_count (books (join l r out))
      count = key_count_lem (join l r out) o

      g : Heading h
      g = heading (join l r out) o

      cx : Calls (header_minutes h) xs
      cx = tree_calls l (left_month l r out o)

      cy : Calls (header_minutes h) ys
      cy = tree_calls r (right_month l r out o)

      kl : Known (tree_version l)
      kl = tree_known l (left_month l r out o)

      kr : Known (tree_version r)
      kr = tree_known r (right_month l r out o)

      fx : length xs ≤ most_keys → length xs ≤ most_records (tree_version l)
      fx = tree_few l (left_month l r out o)

      fy : length ys ≤ most_keys → length ys ≤ most_records (tree_version r)
      fy = tree_few r (right_month l r out o)

      long : (length xs ≤ length (join_calls xs ys)) × (length ys ≤ length (join_calls xs ys))
      long = join_long 0 xs ys cx.rises cy.rises

      go : Dec (length xs ≤ most_keys) → Dec (length ys ≤ most_keys) → Gives (join l r out)
      go (no p) q =
          record {
            few = λ f. absurd (omega (arith, long));
            many = λ f. left_refused (result l) (result r) out (gl.many (omega arith));
          }
      go (yes p) (no q) =
          record {
            few = λ f. absurd (omega (arith, long));
            many = λ f. right_refused (result l) (result r) out (gl.few p).1 (gr.many (omega arith));
          }
      go (yes p) (yes q) =
          let a = gl.few p in
          let b = gr.few q in
          let at : joining (written (result l)) (written (result r)) out ≡ joining (book_bytes (tree_version l) h xs) (book_bytes (tree_version r) h ys) out =
          ap₂ (λ (x y : List ℕ). joining x y out) a.2 b.2 in
          let two = both_accepted (result l) (result r) out a.1 b.1 in
          record {
            few = λ f.
                let e = at ∙ book-joined h g (tree_version l) (tree_version r) kl kr xs ys (fx p) (fy q) cx cy out f (omega (arith, count, room (omega (arith, count))))
                ∙ ap (λ (n : ℕ). join_wrote (book_bytes (pair_version (tree_version l) (tree_version r) n) h (join_calls xs ys)) n out) count in (
                  (a.0, b.0, ap (λ (x : JoinOutcome). x.number) e),
                  ap (λ (x : JoinOutcome). x.number) (two ∙ e),
                  ap written (two ∙ e) ∙ take-append_seam (book_bytes (tree_version (join l r out)) h (join_calls xs ys)) _,
                );
            many = λ f. ap (λ (x : JoinOutcome). x.number) (two ∙ at ∙ book_refused h g (tree_version l) (tree_version r) kl kr xs ys (fx p) (fy q) cx cy out f);
          }

  pub gives : (p : Plan) → OneMonth h (books p) → Room p → Gives p
  unfolding books
  gives (book b) o r = gives_book b (o.sound b (here refl)) (o.header b (here refl))
  gives (join l r out) o w =
      gives_join l r out o (gives l (left_month l r out o) w.0) (gives r (right_month l r out o) w.1) w.2

  -- Without a word on room

  -- a tree is through, with the book of its calls, or stops in 8 or 9
  pub data Ends (p : Plan) : Type 0 where
    through : length (tree_joined (tree_of p)) ≤ most_keys → (result p).number ≡ 0 → written (result p) ≡ book_bytes (tree_version p) h (tree_joined (tree_of p)) → Ends p
    stops : ((result p).number ≡ 8) ⊎ ((result p).number ≡ 9) → Ends p

  ends_book : (b : List ℕ) → Sound b → header_at b ≡ h → Ends (book b)
  unfolding tree_of tree_joined tree_version
  ends_book b s e =
      let f : length (calls_of b) ≤ most_keys = omega (arith, sound_few b s, known_most (version_at b) (sound_known b s)) in
      let g = (gives_book b s e).few f in
      through f g.1 g.2

  -- the number of a side that stops
  abbrev Stops : ℕ → Type 0
  Stops n = (n ≡ 8) ⊎ (n ≡ 9)

  left_stops : (l r : JoinOutcome) (out : List ℕ) → Stops l.number → Stops (join_both l r out).number
  unfolding join_both
  left_stops l r out (inl p) = rw (ne_eqb l.number 0 (λ e. omega arith)) (inl p)
  left_stops l r out (inr p) = rw (ne_eqb l.number 0 (λ e. omega arith)) (inr p)

  right_stops : (l r : JoinOutcome) (out : List ℕ) → l.number ≡ 0 → Stops r.number → Stops (join_both l r out).number
  unfolding join_both
  right_stops l r out z (inl p) = rw (eq-eqb l.number 0 z, ne_eqb r.number 0 (λ e. omega arith)) (inl p)
  right_stops l r out z (inr p) = rw (eq-eqb l.number 0 z, ne_eqb r.number 0 (λ e. omega arith)) (inr p)

  ends_join : (l r : Plan) (out : List ℕ) → OneMonth h (books (join l r out)) → Ends l → Ends r → Ends (join l r out)
  unfolding books result tree_of tree_joined tree_version
  ends_join l r out o (stops s) er = stops (left_stops (result l) (result r) out s)
  ends_join l r out o (through fx a u) (stops s) = stops (right_stops (result l) (result r) out a s)
  ends_join l r out o (through fx a u) (through fy b v) = go (dec_le (length zs) most_keys) (dec_le (size_of (length zs)) (length out))
    where
      xs : List Call
      xs = tree_joined (tree_of l)

      ys : List Call
      ys = tree_joined (tree_of r)

      zs : List Call
      zs = join_calls xs ys

      g : Heading h
      g = heading (join l r out) o

      cx : Calls (header_minutes h) xs
      cx = tree_calls l (left_month l r out o)

      cy : Calls (header_minutes h) ys
      cy = tree_calls r (right_month l r out o)

      kl : Known (tree_version l)
      kl = tree_known l (left_month l r out o)

      kr : Known (tree_version r)
      kr = tree_known r (right_month l r out o)

      few_l : length xs ≤ most_records (tree_version l)
      few_l = tree_few l (left_month l r out o) fx

      few_r : length ys ≤ most_records (tree_version r)
      few_r = tree_few r (right_month l r out o) fy

      count : length zs ≡ key_count (books (join l r out))
      count = key_count_lem (join l r out) o

      at : join_both (result l) (result r) out ≡ joining (book_bytes (tree_version l) h xs) (book_bytes (tree_version r) h ys) out
      at = both_accepted (result l) (result r) out a b ∙ ap₂ (λ (x y : List ℕ). joining x y out) u v

      go : Dec (length zs ≤ most_keys) → Dec (size_of (length zs) ≤ length out) → Ends (join l r out)
      go (no f) w = stops (inl (ap (λ (x : JoinOutcome). x.number) (at ∙ book_refused h g (tree_version l) (tree_version r) kl kr xs ys few_l few_r cx cy out (omega arith))))
      go (yes f) (no w) = stops (inr (ap (λ (x : JoinOutcome). x.number) (at ∙ book-short h g (tree_version l) (tree_version r) kl kr xs ys few_l few_r cx cy out f (omega arith))))
      go (yes f) (yes w) =
          let e = at ∙ book-joined h g (tree_version l) (tree_version r) kl kr xs ys few_l few_r cx cy out f w
          ∙ ap (λ (n : ℕ). join_wrote (book_bytes (pair_version (tree_version l) (tree_version r) n) h zs) n out) count in
          through f (ap (λ (x : JoinOutcome). x.number) e) (ap written e ∙ take-append_seam (book_bytes (tree_version (join l r out)) h zs) _)

  pub ends : (p : Plan) → OneMonth h (books p) → Ends p
  unfolding books
  ends (book b) o = ends_book b (o.sound b (here refl)) (o.header b (here refl))
  ends (join l r out) o = ends_join l r out o (ends l (left_month l r out o)) (ends r (right_month l r out o))
