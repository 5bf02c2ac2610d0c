-- A form put into a buffer, by what is left of it. Assumes nothing.
use mathlib.Core.Path.{◌≡◌, refl, sym, ◌∙◌, ap}
use mathlib.Core.Bool.{Bool, true, false, ◌||◌}
use mathlib.Core.List.{List, [], ◌∷◌, ◌++◌}
use Prim.Native.Nat.{ℕ, zero, suc, ◌+◌, ◌-◌, ◌≤◌, ◌<◌}
use native.Mathlib.Nat.{add-zero}
use native.Mathlib.Numerals.{add-one}
use native.Mathlib.Decide.{dec_lt}
use native.Mathlib.Omega.{arith}
use borrow.Author.Tests.{ne_eqb}
use lib.Dec.{eqb}
use lib.ListN.{length, get_or, take, drop, length-append, length-drop}
use lib.Seq.{sets, drop-cons, drop-drop, drop-nil, get_or-drop, length-take-le}
use Rattle.le.proofs.Laws.{then}
use Rattle.render.specs.Inner.{Puts}
use Rattle.render.proofs.Placed.{looser, same_put, none_put}
use Rattle.form.specs.Form.{shown, is_sign, byte_text, next_on, next_marked, taken_by, filled_from, filled_with, most_shown, most_byte, most_from, most_with}
use Rattle.form.specs.declared.walk.Far.{Far}
use Rattle.form.specs.Inner.{Plain, Stops, Goes, Walks}

pub drop_all : (n : ℕ) (l : List ℕ) → length l ≤ n → drop n l ≡ []
drop_all n [] h = drop-nil n
drop_all zero (x ∷ l) h = absurd (omega arith)
drop_all (suc n) (x ∷ l) h = drop_all n l (omega arith)

-- A text by what is left of it

pub goes_then : {k l o x y z : List ℕ} {at at' at'' m n p : ℕ} → Goes k at x m l at' y n → Goes l at' y n o at'' z p → Goes k at x m o at'' z p
goes_then f g = record { fits = omega (arith, f.fits, g.fits); long = g.long ∙ f.long; bytes = g.bytes ∙ f.bytes }

pub goes_put : {k l x y text : List ℕ} {at r m most rest : ℕ} → text ≡ x ++ y → most ≡ m + rest → Puts m k at x l r → Goes k at text most l r y rest
goes_put {k} {l} {x} {y} {text} {at} {r} e f p =
    record {
      fits = omega (arith, p.fits, p.behind, f);
      long = omega (arith, p.behind, ap length e, length-append x y);
      bytes = (then r p.behind p.bytes (record { is = refl })).is ∙ ap (sets k at) (sym e);
    }

pub goes_end : {k l text : List ℕ} {at r most rest : ℕ} → Goes k at text most l r [] rest → Puts most k at text l r
goes_end f = record { fits = omega (arith, f.fits, f.long); behind = omega (arith, f.long); bytes = record { is = f.bytes } }

-- none of four tests holds
none_of : (a b c d : Bool) → (a || b || c || d) ≡ false → (a ≡ false) × (b ≡ false) × (c ≡ false) × (d ≡ false)
none_of false false false false h = (refl, refl, refl, refl)
none_of true b c d h = absurd (let e : ◌≡◌ {A = Bool} true false = h in let z : ◌≡◌ {A = ℕ} 0 1 = cc in omega arith)
none_of false true c d h = absurd (let e : ◌≡◌ {A = Bool} true false = h in let z : ◌≡◌ {A = ℕ} 0 1 = cc in omega arith)
none_of false false true d h = absurd (let e : ◌≡◌ {A = Bool} true false = h in let z : ◌≡◌ {A = ℕ} 0 1 = cc in omega arith)
none_of false false false true h = absurd (let e : ◌≡◌ {A = Bool} true false = h in let z : ◌≡◌ {A = ℕ} 0 1 = cc in omega arith)

-- four bytes without a sign
pub four_plain : (form : List ℕ) (i : ℕ) → (is_sign (get_or form i 0) || is_sign (get_or form (i + 1) 0) || is_sign (get_or form (i + 2) 0) || is_sign (get_or form (i + 3) 0)) ≡ false
    → (k : ℕ) → i ≤ k → k < i + 4 → is_sign (get_or form k 0) ≡ false
four_plain form i h k low high = go (k - i) (omega arith)
  where
    all : (is_sign (get_or form i 0) ≡ false) × (is_sign (get_or form (i + 1) 0) ≡ false) × (is_sign (get_or form (i + 2) 0) ≡ false) × (is_sign (get_or form (i + 3) 0) ≡ false)
    all = none_of _ _ _ _ h

    go : (d : ℕ) → k ≡ i + d → is_sign (get_or form k 0) ≡ false
    go zero e = rw (e, add-zero) all.0
    go (suc zero) e = rw e all.1
    go (suc (suc zero)) e = rw e all.2
    go (suc (suc (suc zero))) e = rw e all.3
    go (suc (suc (suc (suc d)))) e = absurd (omega arith)

-- the most bytes from byte i of a form on, byte by byte
module _ (a b : ℕ) (form : List ℕ) where
  pub room_is : (marked : Bool) (i : ℕ) → i < length form
      → most_from a b marked (drop i form) ≡ most_byte a b marked (get_or form i 0) + most_from a b (next_marked marked (get_or form i 0)) (drop (i + 1) form)
  unfolding most_from
  room_is marked i h = rw (add-one, drop-cons form i 0 h)

  pub room_none : (marked : Bool) (i : ℕ) → length form ≤ i → most_from a b marked (drop i form) ≡ 0
  unfolding most_from
  room_none marked i h = rw (drop_all i form h)

module _ (one other form vs : List ℕ) where
  -- what is left of the text from byte i of the form on, and its most bytes
  abbrev left : Bool → Bool → ℕ → ℕ → List ℕ
  left on marked i taken = filled_from one other on marked (drop i form) (drop taken vs)

  abbrev room : Bool → ℕ → ℕ
  room marked i = most_from (length one) (length other) marked (drop i form)

  left_none : (on marked : Bool) (i taken : ℕ) → length form ≤ i → left on marked i taken ≡ []
  unfolding filled_from
  left_none on marked i taken h = rw (drop_all i form h)

  -- byte i of the form, and what is left behind it
  left_is : (on marked : Bool) (i taken : ℕ) → i < length form
      → left on marked i taken
      ≡ byte_text one other on marked (get_or form i 0) (get_or vs taken 0)
      ++ left (next_on on marked (get_or form i 0) (get_or vs taken 0)) (next_marked marked (get_or form i 0)) (i + 1) (taken + taken_by marked (get_or form i 0))
  unfolding filled_from
  left_is on marked i taken h = rw (add-one, drop-cons form i 0 h, get_or-drop taken vs 0 0, add-zero, drop-drop)

  byte_goes : {k l : List ℕ} {at r : ℕ} (c : ℕ) (on marked : Bool) (i taken : ℕ) → i < length form → get_or form i 0 ≡ c
      → Puts (most_byte (length one) (length other) marked c) k at (byte_text one other on marked c (get_or vs taken 0)) l r
      → Goes k at (left on marked i taken) (room marked i) l r
      (left (next_on on marked c (get_or vs taken 0)) (next_marked marked c) (i + 1) (taken + taken_by marked c)) (room (next_marked marked c) (i + 1))
  byte_goes c on marked i taken h e p = goes_put (rw e at (left_is on marked i taken h)) (rw e at (room_is (length one) (length other) form marked i h)) p

  -- the `%` of a mark shows nothing
  percent_goes : (k : List ℕ) (at : ℕ) (on : Bool) (i taken : ℕ) → i < length form → get_or form i 0 ≡ 37
      → Goes k at (left on false i taken) (room false i) k at (left on true (i + 1) taken) (room true (i + 1))
  unfolding most_byte byte_text next_on next_marked taken_by is_sign
  percent_goes k at true i taken h e = rw add-zero at (byte_goes 37 true false i taken h e (none_put k at))
  percent_goes k at false i taken h e = rw add-zero at (byte_goes 37 false false i taken h e (none_put k at))

  -- its letter, where bytes are shown and where they are not
  letter_goes : {k l : List ℕ} {at r : ℕ} (c i taken : ℕ) → i < length form → get_or form i 0 ≡ c → Puts (most_shown (length one) (length other) c) k at (shown one other c (get_or vs taken 0)) l r
      → Goes k at (left true true i taken) (room true i) l r (left true false (i + 1) (taken + taken_by true c)) (room false (i + 1))
  unfolding most_byte byte_text next_on next_marked
  letter_goes c i taken h e p = byte_goes c true true i taken h e p

  letter_passed : (k : List ℕ) (at c i taken : ℕ) → i < length form → get_or form i 0 ≡ c
      → Goes k at (left false true i taken) (room true i) k at (left false false (i + 1) (taken + taken_by true c)) (room false (i + 1))
  unfolding most_byte byte_text next_on next_marked
  letter_passed k at c i taken h e = byte_goes c false true i taken h e (looser _ (omega arith) (none_put k at))

  -- the form ends behind a `%`
  none_goes : (k : List ℕ) (at : ℕ) (on : Bool) (i taken : ℕ) → length form ≤ i → Goes k at (left on true i taken) (room true i) k at (left on false i taken) (room false i)
  none_goes k at on i taken h = goes_put (left_none on true i taken h ∙ sym (left_none on false i taken h)) (omega (
    arith,
    room_none (length one) (length other) form true i h,
    room_none (length one) (length other) form false i h,
  )) (none_put k at)

  unmarked : (c : ℕ) → (c ≡ 37 → ⊥) → next_marked false c ≡ false
  unfolding next_marked
  unmarked c n = rw (ne_eqb c 37 n)

  -- a byte that is no mark and shows nothing
  sign_goes : (k : List ℕ) (at c : ℕ) (on : Bool) (i taken : ℕ) → i < length form → get_or form i 0 ≡ c → (c ≡ 37 → ⊥) → byte_text one other on false c (get_or vs taken 0) ≡ []
      → Goes k at (left on false i taken) (room false i) k at (left (next_on on false c (get_or vs taken 0)) false (i + 1) (taken + taken_by false c)) (room false (i + 1))
  sign_goes k at c on i taken h e n b =
      rw (unmarked c n) at (byte_goes c on false i taken h e (same_put (sym b) (looser _ (omega arith) (none_put k at))))

-- Runs of plain bytes

pub none_plain : (form : List ℕ) (from : ℕ) → from ≤ length form → Plain form from from
none_plain form from h = record { order = omega arith; within = h; plain = λ k low high. absurd (omega (arith, low, high)) }

more_plain : {form : List ℕ} {from i : ℕ} (n : ℕ) → Plain form from i → i + n ≤ length form → ((k : ℕ) → i ≤ k → k < i + n → is_sign (get_or form k 0) ≡ false) → Plain form from (i + n)
more_plain {form} {from} {i} n p h f = record { order = omega (arith, p.order); within = h; plain = λ k low high. go k low high (dec_lt k i) }
  where
    go : (k : ℕ) → from ≤ k → k < i + n → Dec (k < i) → is_sign (get_or form k 0) ≡ false
    go k low high (yes g) = p.plain k low g
    go k low high (no g) = f k (omega (arith, g)) high

pub one_plain : {form : List ℕ} {from i : ℕ} → Plain form from i → i < length form → is_sign (get_or form i 0) ≡ false → Plain form from (i + 1)
one_plain {form} {from} {i} p h s = more_plain 1 p (omega arith) (λ k low high. let e : k ≡ i = omega (arith, low, high) in rw e s)

pub four_more : {form : List ℕ} {from i : ℕ} → Plain form from i → i + 4 ≤ length form
    → (is_sign (get_or form i 0) || is_sign (get_or form (i + 1) 0) || is_sign (get_or form (i + 2) 0) || is_sign (get_or form (i + 3) 0)) ≡ false → Plain form from (i + 4)
four_more {form} {from} {i} p h s = more_plain 4 p h (four_plain form i s)

pub no_more : {form : List ℕ} {i : ℕ} → length form ≤ i → Stops form i
no_more h = record { sign = λ g. absurd (omega (arith, g, h)) }

-- a byte that is no sign shows itself, where bytes are shown, and changes nothing
plain_byte : (one other : List ℕ) (c v : ℕ) → is_sign c ≡ false
    → (byte_text one other true false c v ≡ c ∷ []) × (next_on true false c v ≡ true) × (next_marked false c ≡ false) × (taken_by false c ≡ 0)
unfolding byte_text next_on next_marked taken_by is_sign
plain_byte one other c v s =
    let n = none_of (eqb c 37) (eqb c 91) (eqb c 124) (eqb c 93) s in
    (simp (n.0, n.1, n.2, n.3), simp (n.1, n.2, n.3), simp n.0, simp n.1)

-- where bytes are not shown, it shows nothing and changes nothing
plain_passed : (one other : List ℕ) (c v : ℕ) → is_sign c ≡ false
    → (byte_text one other false false c v ≡ []) × (next_on false false c v ≡ false) × (next_marked false c ≡ false) × (taken_by false c ≡ 0)
unfolding byte_text next_on next_marked taken_by is_sign
plain_passed one other c v s =
    let n = none_of (eqb c 37) (eqb c 91) (eqb c 124) (eqb c 93) s in
    (refl, simp (n.1, n.2, n.3), simp n.0, simp n.1)

plain_most : (a b c : ℕ) → is_sign c ≡ false → most_byte a b false c ≡ 1
unfolding most_byte
plain_most a b c s = rw s

module _ (one other form vs : List ℕ) where
  plain_left_lem : (i taken : ℕ) → i < length form → is_sign (get_or form i 0) ≡ false → left one other form vs true false i taken ≡ get_or form i 0 ∷ left one other form vs true false (i + 1) taken
  plain_left_lem i taken h s =
      let p = plain_byte one other (get_or form i 0) (get_or vs taken 0) s in
      left_is one other form vs true false i taken h ∙ rw (p.0, p.1, p.2, p.3, add-zero)

  plain_room : (i : ℕ) → i < length form → is_sign (get_or form i 0) ≡ false → room one other form vs false i ≡ 1 + room one other form vs false (i + 1)
  plain_room i h s =
      let p = plain_byte one other (get_or form i 0) 0 s in
      room_is (length one) (length other) form false i h ∙ rw (p.2, plain_most (length one) (length other) (get_or form i 0) s)

  run_left : (n i taken : ℕ) → i + n ≤ length form → ((k : ℕ) → i ≤ k → k < i + n → is_sign (get_or form k 0) ≡ false)
      → (left one other form vs true false i taken ≡ take n (drop i form) ++ left one other form vs true false (i + n) taken)
      × (room one other form vs false i ≡ n + room one other form vs false (i + n))
  run_left zero i taken h f = (rw add-zero, rw add-zero (omega arith))
  run_left (suc n) i taken h f =
      let s = f i (omega arith) (omega arith) in
      let g = run_left n (i + 1) taken (omega arith) (λ k low high. f k (omega (arith, low)) (omega (arith, high))) in
      let j : i + 1 + n ≡ i + suc n = omega arith in
      let d : drop i form ≡ get_or form i 0 ∷ drop (i + 1) form = rw add-one (drop-cons form i 0 (omega arith)) in
      (plain_left_lem i taken (omega arith) s ∙ ap (λ (l : List ℕ). get_or form i 0 ∷ l) g.0 ∙ rw (d, j), omega (arith, plain_room i (omega arith) s, rw j at g.1))

  past_one : (i taken : ℕ) → i < length form → is_sign (get_or form i 0) ≡ false → left one other form vs false false i taken ≡ left one other form vs false false (i + 1) taken
  past_one i taken h s =
      let p = plain_passed one other (get_or form i 0) (get_or vs taken 0) s in
      left_is one other form vs false false i taken h ∙ rw (p.0, p.1, p.2, p.3, add-zero)

  past_left : (n i taken : ℕ) → i + n ≤ length form → ((k : ℕ) → i ≤ k → k < i + n → is_sign (get_or form k 0) ≡ false)
      → left one other form vs false false i taken ≡ left one other form vs false false (i + n) taken
  past_left zero i taken h f = rw add-zero
  past_left (suc n) i taken h f =
      let s = f i (omega arith) (omega arith) in
      let g = past_left n (i + 1) taken (omega arith) (λ k low high. f k (omega (arith, low)) (omega (arith, high))) in
      let j : i + 1 + n ≡ i + suc n = omega arith in
      past_one i taken (omega arith) s ∙ rw j at g

-- A form by its pieces

module _ (one other form vs : List ℕ) where
  pub walk_none : (k : List ℕ) (far : Far) → far.taken ≤ far.read → far.read ≤ length form → Walks one other form vs k far k far
  walk_none k far h g = record { goes = record { fits = omega arith; long = refl; bytes = refl }; order = h; within = g }

  pub walk_then : {k l o : List ℕ} {far mid end : Far} → Walks one other form vs k far l mid → Walks one other form vs l mid o end → Walks one other form vs k far o end
  walk_then f g = record { goes = goes_then f.goes g.goes; order = g.order; within = g.within }

  -- the whole form is put
  pub walk_end : {k l : List ℕ} {far : Far} (at : ℕ) → length form ≤ far.read → Walks one other form vs k (record { at = at; read = 0; taken = 0; on = true }) l far
      → Puts (most_with form (length one) (length other)) k at (filled_with form one other vs) l far.at
  walk_end {far = far} at h w = goes_end (rw (left_none one other form vs far.on false far.read far.taken h) at w.goes)

  -- a run of plain bytes
  pub walk_run : {k l : List ℕ} (far : Far) (to r : ℕ) → far.on ≡ true → Plain form far.read to → far.taken ≤ far.read
      → Puts (length (take (to - far.read) (drop far.read form))) k far.at (take (to - far.read) (drop far.read form)) l r
      → Walks one other form vs k far l (record { at = r; read = to; taken = far.taken; on = true })
  walk_run far to r o p t puts =
      let n = to - far.read in
      let e : far.read + n ≡ to = omega (arith, p.order) in
      let g = run_left one other form vs n far.read far.taken (omega (arith, p.order, p.within)) (λ k low high. p.plain k low (omega (arith, high))) in
      let long : length (take n (drop far.read form)) ≡ n = length-take-le n (drop far.read form) (omega (arith, p.within, length-drop far.read form)) in
      record {
        goes = rw o (goes_put (rw e at g.0) (omega (arith, rw e at g.1, long)) puts);
        order = omega (arith, p.order);
        within = p.within;
      }

  -- and one that is passed over
  pub walk_past : (k : List ℕ) (far : Far) (to : ℕ) → far.on ≡ false → Plain form far.read to → far.taken ≤ far.read
      → Walks one other form vs k far k (record { at = far.at; read = to; taken = far.taken; on = far.on })
  walk_past k far to o p t =
      let n = to - far.read in
      let e : far.read + n ≡ to = omega (arith, p.order) in
      let plain : (j : ℕ) → far.read ≤ j → j < far.read + n → is_sign (get_or form j 0) ≡ false = λ j low high. p.plain j low (omega (arith, high)) in
      let r = run_left one other form vs n far.read far.taken (omega (arith, p.order, p.within)) plain in
      let g = past_left one other form vs n far.read far.taken (omega (arith, p.order, p.within)) plain in
      record {
        goes = rw o (goes_put (rw e at g) (rw e at r.1) (looser n (omega arith) (none_put k far.at)));
        order = omega (arith, p.order);
        within = p.within;
      }

  -- a mark, shown and not
  pub walk_mark : {k l : List ℕ} (far : Far) (r t c : ℕ) → far.on ≡ true → far.read + 1 < length form → get_or form far.read 0 ≡ 37 → get_or form (far.read + 1) 0 ≡ c
      → t ≡ taken_by true c → t ≤ 1 → far.taken ≤ far.read → Puts (most_shown (length one) (length other) c) k far.at (shown one other c (get_or vs far.taken 0)) l r
      → Walks one other form vs k far l (record { at = r; read = far.read + 1 + 1; taken = far.taken + t; on = true })
  walk_mark {k} far r t c o h e d f b g p =
      record {
        goes = rw (o, f) (goes_then (percent_goes one other form vs k far.at true far.read far.taken (omega arith) e) (letter_goes one other form vs c (far.read + 1) far.taken h d p));
        order = omega (arith, b, g);
        within = omega (arith, h);
      }

  pub walk_mark_passed : (k : List ℕ) (far : Far) (t c : ℕ) → far.on ≡ false → far.read + 1 < length form → get_or form far.read 0 ≡ 37 → get_or form (far.read + 1) 0 ≡ c
      → t ≡ taken_by true c → t ≤ 1 → far.taken ≤ far.read
      → Walks one other form vs k far k (record { at = far.at; read = far.read + 1 + 1; taken = far.taken + t; on = far.on })
  walk_mark_passed k far t c o h e d f b g =
      record {
        goes = rw (o, f) (goes_then (percent_goes one other form vs k far.at false far.read far.taken (omega arith) e)
            (letter_passed one other form vs k far.at c (far.read + 1) far.taken h d));
        order = omega (arith, b, g);
        within = omega (arith, h);
      }

  -- a `%` at the form's end
  pub walk_mark_end : (k : List ℕ) (far : Far) → far.read + 1 ≡ length form → get_or form far.read 0 ≡ 37 → far.taken ≤ far.read
      → Walks one other form vs k far k (record { at = far.at; read = far.read + 1; taken = far.taken; on = far.on })
  walk_mark_end k far h e t =
      record {
        goes = goes_then (percent_goes one other form vs k far.at far.on far.read far.taken (omega arith) e)
            (none_goes one other form vs k far.at far.on (far.read + 1) far.taken (omega arith));
        order = omega arith;
        within = omega arith;
      }

  -- a byte that shows nothing
  walk_byte : (k : List ℕ) (far : Far) (on next : Bool) (c t : ℕ) → far.on ≡ on → far.read < length form → get_or form far.read 0 ≡ c → (c ≡ 37 → ⊥)
      → byte_text one other on false c (get_or vs far.taken 0) ≡ [] → t ≡ taken_by false c → t ≤ 1 → next ≡ next_on on false c (get_or vs far.taken 0) → far.taken ≤ far.read
      → Walks one other form vs k far k (record { at = far.at; read = far.read + 1; taken = far.taken + t; on = next })
  walk_byte k far on next c t o h e n b f g d s =
      record {
        goes = rw (o, f, d) (sign_goes one other form vs k far.at c on far.read far.taken h e n b);
        order = omega (arith, g, s);
        within = omega (arith, h);
      }

  -- a sign where bytes are shown, and any byte where they are not, show nothing
  silent : (on : Bool) (c v : ℕ) → (on ≡ true → is_sign c ≡ true) → byte_text one other on false c v ≡ []
  unfolding byte_text
  silent true c v s = rw (s refl)
  silent false c v s = refl

  pub walk_sign : (k : List ℕ) (far : Far) (next : Bool) (c t : ℕ) → far.read < length form → get_or form far.read 0 ≡ c → (c ≡ 37 → ⊥) → (far.on ≡ true → is_sign c ≡ true)
      → t ≡ taken_by false c → t ≤ 1 → next ≡ next_on far.on false c (get_or vs far.taken 0) → far.taken ≤ far.read
      → Walks one other form vs k far k (record { at = far.at; read = far.read + 1; taken = far.taken + t; on = next })
  walk_sign k far next c t h e n b f g d s = walk_byte k far far.on next c t refl h e n (silent far.on c (get_or vs far.taken 0) b) f g d s

-- room for a mark, and for a run, which is put or passed over
pub mark_room : (a b : ℕ) (form : List ℕ) (i : ℕ) → i + 1 < length form → get_or form i 0 ≡ 37 → most_shown a b (get_or form (i + 1) 0) ≤ most_from a b false (drop i form)
unfolding most_byte next_marked is_sign
mark_room a b form i h e =
    let p = rw e at (room_is a b form false i (omega arith)) in
    omega (arith, p, room_is a b form true (i + 1) h)

pub passed_room : (one other form : List ℕ) {from : ℕ} (to : ℕ) → Plain form from to
    → (to - from) + most_from (length one) (length other) false (drop to form) ≡ most_from (length one) (length other) false (drop from form)
passed_room one other form {from} to p =
    let n = to - from in
    let e : from + n ≡ to = omega (arith, p.order) in
    let g = run_left one other form [] n from 0 (omega (arith, p.order, p.within)) (λ k low high. p.plain k low (omega (arith, high))) in
    sym (rw e at g.1)

-- the same by the bytes of the run
pub run_room : (one other form : List ℕ) {from : ℕ} (to : ℕ) → Plain form from to
    → length (take (to - from) (drop from form)) + most_from (length one) (length other) false (drop to form) ≡ most_from (length one) (length other) false (drop from form)
run_room one other form {from} to p =
    let n = to - from in
    let long : length (take n (drop from form)) ≡ n = length-take-le n (drop from form) (omega (arith, p.within, length-drop from form)) in
    omega (arith, passed_room one other form to p, long)

pub plain_then : {form : List ℕ} {from mid to : ℕ} → Plain form from mid → Plain form mid to → Plain form from to
plain_then {form} {from} {mid} {to} p q = record { order = omega (arith, p.order, q.order); within = q.within; plain = λ k low high. go k low high (dec_lt k mid) }
  where
    go : (k : ℕ) → from ≤ k → k < to → Dec (k < mid) → is_sign (get_or form k 0) ≡ false
    go k low high (yes g) = p.plain k low g
    go k low high (no g) = q.plain k (omega (arith, g)) high
