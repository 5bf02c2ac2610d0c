-- Lines read row by row where they lie, and settled. Assumes nothing.
use mathlib.Core.Logic.{inl, inr}
use mathlib.Core.Path.{◌≡◌, refl, sym, ap, ap₂, subst, ◌∙◌}
use mathlib.Core.Bool.{Bool, true, false, cond, ◌&&◌, and-true, true≢false}
use mathlib.Core.List.{List, [], ◌∷◌, ◌++◌, map}
use Prim.Native.Nat.{ℕ, zero, suc, ◌+◌, ◌*◌, ◌-◌, ◌%◌, ◌^◌, ◌≤◌, ◌<◌, min}
use native.Mathlib.Numerals.{add-one}
use native.Mathlib.Omega.{arith}
use lib.Dec.{ltb, eqb, lit<}
use lib.IntN.{ℤ}
use lib.ListN.{length, get_or, take, drop, drop_of_length-le, length-map, length-append, replicate, length-replicate}
use lib.Seq.{drop-cons, take_at}
use native.Mathlib.Decide.{dec_le, ℕ_discrete}
use borrow.Author.Tests.{ltb-true, eqb-true, lt-ltb, le-ltb, eq-eqb, ne_eqb}
use Rattle.le.specs.Le.{Stores}
use Rattle.le.proofs.Tests.{each}
use Rattle.apportion.specs.Apportion.{total, apportion}
use Rattle.apportion.proofs.Loops.{get_d_total}
use Rattle.apportion.proofs.Promises.{each_one, adds_up}
use Rattle.units.specs.declared.SignedFen.{SignedFen}
use Rattle.share.specs.declared.Answer.{Answer}
use Rattle.share.specs.declared.Line.{Line}
use Rattle.share.specs.Sharing.{Part, compensated, weight_of, weights_of, all_weights, below, parts_by, parts, first_bad_line}
use Rattle.share.specs.Sharing.{SharingOutcome, sharing_refused, sharing_accepted, settled, sharing_in_turn, generators_amount, most_number, most_compensation, most_part, part_place}
use Rattle.share.specs.Forms.{answer_of}
use Rattle.share.specs.Limits.{LineWithin, LinesWithin}
use Rattle.share.specs.Inner.{GapIs}
use Rattle.share.proofs.Bounds.{all_within, weights_le}
use Rattle.share.proofs.Cases.{bad_le, turn_part, turn_10, turn_on, settled_16, settled_on, parts_are}
use Rattle.share.proofs.Lines.{length_parts}
use Rattle.share.proofs.Lists.{get_d_mapped}
use Rattle.share.proofs.Outcomes.{long_shares}
use Rattle.share_bytes.specs.Bytes.{line_size, fields_at, bytes_are_sound, first_bad_bytes, part_size, part_bytes, parts_bytes, user_part, parts_written}
use Rattle.share_bytes.specs.Bytes.{byte_count, byte_lines, sharing_spelt, if_room, sharing_bytes, BytesShared}
use Rattle.share_bytes.specs.Inner.{lines_at, line_at, spelt_lines, BytesSettled}
use Rattle.share_bytes.proofs.Spelling.{length_lines, line_of, last_stored}
use Rattle.share_bytes.proofs.Reading.{bad_read, same_read}
use Rattle.share_bytes.proofs.ByteCases.{none_written, some_written, long_written, nothing_stored, told_is}

-- The reserved bytes, by a test each

pub four_bad : (one four : ℕ) → (four ≡ 0 → ⊥) → false ≡ (eqb one 0 && eqb four 0)
four_bad one four f = rw (ne_eqb four 0 f) (none (eqb one 0))
  where
    none : (t : Bool) → false ≡ (t && false)
    none true = refl
    none false = refl

pub four_good : (one four : ℕ) → four ≡ 0 → eqb one 0 ≡ (eqb one 0 && eqb four 0)
four_good one four e = rw (eq-eqb four 0 e) (sym (and-true (eqb one 0)))

-- The first bad line

-- of so many lines in all, which of those from row i on is the first bad one
abbrev pub bad_from : ℕ → List ℕ → ℕ → ℕ → ℕ
bad_from before bytes i count = first_bad_bytes before bytes (line_size * i) (count - i)

pub bad_start : (bytes : List ℕ) (count : ℕ) → bad_from 0 bytes 0 count ≡ first_bad_bytes 0 bytes 0 count
bad_start bytes count = let e : count - 0 ≡ count = omega arith in ap (λ (n : ℕ). first_bad_bytes 0 bytes 0 n) e

taken : (t : Bool) (n : ℕ) → t ≡ true → cond t (suc n) 0 ≡ suc n
taken true n e = refl
taken false n e = absurd (true≢false (sym e))

left : (t : Bool) (n : ℕ) → t ≡ false → cond t (suc n) 0 ≡ 0
left true n e = absurd (true≢false e)
left false n e = refl

module _ (before : ℕ) (bytes : List ℕ) (i count : ℕ) where
  one_row : i < count → bad_from before bytes i count
      ≡ cond (bytes_are_sound before bytes (line_size * i)) (suc (bad_from (fields_at bytes (line_size * i)).number bytes (i + 1) count)) 0
  one_row h =
      let n = count - (i + 1) in
      let e : count - i ≡ suc n = omega arith in
      let a : line_size * i + line_size ≡ line_size * (i + 1) = omega arith in
      ap (λ (k : ℕ). first_bad_bytes before bytes (line_size * i) k) e
      ∙ ap (λ (k : ℕ). cond (bytes_are_sound before bytes (line_size * i)) (suc (first_bad_bytes (fields_at bytes (line_size * i)).number bytes k n)) 0) a

  pub bad_row : i < count → bytes_are_sound before bytes (line_size * i) ≡ true
      → bad_from before bytes i count ≡ suc (bad_from (fields_at bytes (line_size * i)).number bytes (i + 1) count)
  bad_row h t = one_row h ∙ taken (bytes_are_sound before bytes (line_size * i)) _ t

  pub bad_stop : i < count → bytes_are_sound before bytes (line_size * i) ≡ false → bad_from before bytes i count ≡ 0
  bad_stop h t = one_row h ∙ left (bytes_are_sound before bytes (line_size * i)) _ t

  pub bad_end : count ≤ i → bad_from before bytes i count ≡ 0
  bad_end h = let e : count - i ≡ 0 = omega arith in ap (λ (k : ℕ). first_bad_bytes before bytes (line_size * i) k) e

pub bad_few : (bytes : List ℕ) (n : ℕ) → first_bad_bytes 0 bytes 0 n ≤ n
bad_few bytes n = omega (arith, bad_read 0 bytes 0 n, bad_le 0 (lines_at bytes 0 n), length_lines (line_at bytes) 0 n)

-- lines of which none is bad are within their limits
pub sound_within : (bytes : List ℕ) (n : ℕ) → n ≤ first_bad_bytes 0 bytes 0 n → LinesWithin (spelt_lines bytes n)
sound_within bytes n h =
    let e = ap (first_bad_line 0) (same_read 0 bytes 0 n h) in
    all_within 0 (spelt_lines bytes n) (omega (arith, h, e, bad_read 0 bytes 0 n, length_lines (fields_at bytes) 0 n))

-- Row by row

module _ (bytes : List ℕ) (count : ℕ) where
  abbrev ls : List Line
  ls = spelt_lines bytes count

  -- the row i, and what is left behind it
  pub row_step : (i : ℕ) → i < count → drop i ls ≡ fields_at bytes (line_size * i) ∷ drop (i + 1) ls
  row_step i h =
      let d = fields_at bytes 0 in
      drop-cons ls i d (omega (arith, length_lines (fields_at bytes) 0 count))
      ∙ ap₂ (λ (x : Line) (k : ℕ). x ∷ drop k ls) (line_of (fields_at bytes) count i d h) (sym (add-one i))

  pub row_end : (i : ℕ) → count ≤ i → drop i ls ≡ []
  row_end i h = drop_of_length-le ls {i = i} (omega (arith, length_lines (fields_at bytes) 0 count))

  pub row_within : (i : ℕ) → LinesWithin ls → i < count → LineWithin (fields_at bytes (line_size * i))
  row_within i all h =
      let d = fields_at bytes 0 in
      subst (λ (l : Line). LineWithin l) (line_of (fields_at bytes) count i d h) (all i d (omega (arith, length_lines (fields_at bytes) 0 count)))

  pub length_row_weights : (is_below : Bool) → length (weights_of is_below ls) ≡ count
  length_row_weights is_below = length-map ls _ ∙ length_lines (fields_at bytes) 0 count

  pub row_weight : (is_below : Bool) (i : ℕ) → i < count → get_or (weights_of is_below ls) i 0 ≡ weight_of is_below (fields_at bytes (line_size * i))
  row_weight is_below i h =
      let d = fields_at bytes 0 in
      get_d_mapped (λ l. weight_of is_below l) ls i d 0 (omega (arith, length_lines (fields_at bytes) 0 count))
      ∙ ap (λ (l : Line). weight_of is_below l) (line_of (fields_at bytes) count i d h)

-- nothing to share, in a room of zeros
pub zeros : (ws : List ℕ) → replicate {A = ℕ} (length ws) 0 ≡ map (λ w. 0) ws
zeros [] = refl
zeros (w ∷ ws) = ap (λ (l : List ℕ). 0 ∷ l) (zeros ws)

pub length_zeros : (n : ℕ) → length (replicate {A = ℕ} n 0) ≡ n
length_zeros n = length-replicate n 0

pub take_zeros : (n m : ℕ) → n ≤ m → take {A = ℕ} n (replicate m 0) ≡ replicate n 0
take_zeros zero m h = refl
take_zeros (suc n) zero h = absurd (omega arith)
take_zeros (suc n) (suc m) h = ap (λ (l : List ℕ). 0 ∷ l) (take_zeros n m (omega arith))

-- the front of an array that has been lent and written
pub front_fits : (xs ys : List ℕ) (n : ℕ) → length xs ≡ n → n ≤ length (xs ++ ys)
front_fits xs ys n e = omega (arith, length-append xs ys)

pub front_long : (xs ys : List ℕ) (n : ℕ) → length xs ≡ n → n ≡ length (take n (xs ++ ys))
front_long xs ys n e = sym (ap length (take_at xs ys n e) ∙ e)

-- What is asked of the writer of the parts, and what it stores, by the shares as they were reckoned

module _ (bytes out weights ss : List ℕ) (amount : ℕ) (is : ss ≡ apportion amount weights) where
  long_ss : length ss ≡ length weights
  long_ss = ap length is ∙ each_one amount weights

  pub parts_ready : line_size * length weights ≤ length bytes → LinesWithin (spelt_lines bytes (length weights)) → part_size * length weights + part_size ≤ length out
      → amount ≤ most_compensation → (0 < amount → 0 < total weights)
      → (line_size * length ss ≤ length bytes) × (LinesWithin (spelt_lines bytes (length ss)) × ((part_size * length ss ≤ length out) × ((k : ℕ) → get_or ss k 0 ≤ most_compensation)))
  parts_ready a b r most way = (
    omega (arith, long_ss),
    (subst (λ (n : ℕ). LinesWithin (spelt_lines bytes n)) (sym long_ss) b, (omega (arith, long_ss), λ k. omega (arith, get_d_total ss k, sum))),
  )
    where
      go : Dec (1 ≤ amount) → total ss ≡ amount
      go (yes h) = ap total is ∙ adds_up amount weights (inr (way h))
      go (no f) = ap total is ∙ adds_up amount weights (inl (omega arith))

      sum : total ss ≡ amount
      sum = go (dec_le 1 amount)

  pub parts_as : (negative : Bool) (user : ℤ) {mid after : List ℕ} → Stores out 0 (parts_bytes (parts_by negative (spelt_lines bytes (length ss)) ss)) mid
      → Stores mid (part_size * length weights) (part_bytes (user_part user)) after
      → Stores out 0 (parts_bytes (parts_by negative (spelt_lines bytes (length weights)) (apportion amount weights) ++ (user_part user ∷ []))) after
  parts_as negative user {mid} {after} f g =
      let ps = parts_by negative (spelt_lines bytes (length weights)) (apportion amount weights) in
      let long : length ps ≡ length weights =
      length_parts negative (spelt_lines bytes (length weights)) (apportion amount weights) (each_one amount weights ∙ sym (length_lines (fields_at bytes) 0 (length weights)))
      ∙ length_lines (fields_at bytes) 0 (length weights) in
      last_stored ps (user_part user) (length weights) long
      (subst (λ (qs : List Part). Stores out 0 (parts_bytes qs) mid) (ap₂ (λ (n : ℕ) (ts : List ℕ). parts_by negative (spelt_lines bytes n) ts) long_ss is) f) g

-- as many lines as a room that is lent is long
pub rows_ready : (bytes : List ℕ) (k n : ℕ) → k ≡ n → line_size * n ≤ length bytes → LinesWithin (spelt_lines bytes n) → (line_size * k ≤ length bytes) × LinesWithin (spelt_lines bytes k)
rows_ready bytes k n e a b = (omega arith, subst (λ (j : ℕ). LinesWithin (spelt_lines bytes j)) (sym e) b)

-- The room

pub room_refused : (room number place : ℕ) → 0 < number → if_room room (sharing_refused number place) ≡ sharing_refused number place
unfolding if_room
room_refused room number place some =
    let none : part_size * length (parts_written (sharing_refused number place)) ≡ 0 = ap (λ (ps : List Part). part_size * length ps) (none_written (sharing_refused number place) some) in
    rw (le-ltb room (part_size * length (parts_written (sharing_refused number place))) (omega arith))

module _ (room : ℕ) (o : SharingOutcome) (count : ℕ) (zero : o.number ≡ 0) (long : length o.parts ≡ count) where
  all : length (parts_written o) ≡ count + 1
  all = long_written o zero ∙ ap (λ (n : ℕ). n + 1) long

  pub room_9 : room < part_size * count + part_size → if_room room o ≡ sharing_refused 9 0
  unfolding if_room
  room_9 h = rw (lt-ltb room (part_size * length (parts_written o)) (omega (arith, all)))

  pub room_on : part_size * count + part_size ≤ room → if_room room o ≡ o
  unfolding if_room
  room_on h = rw (le-ltb room (part_size * length (parts_written o)) (omega (arith, all)))

pub length_accepted : (part : ℕ) (ls : List Line) → length (sharing_accepted part ls).parts ≡ length ls
unfolding parts
length_accepted part ls = length_parts (below ls) ls _ (long_shares (generators_amount part ls) ls)

-- Settled

module _ (part : ℕ) (ls : List Line) (out : List ℕ) (r : Answer) where
  -- a refusal leaves the output as it is
  pub untouched : (number place : ℕ) → 0 < number → if_room (length out) (settled part ls) ≡ sharing_refused number place → r ≡ answer_of (sharing_refused number place)
      → BytesSettled part ls out out r
  untouched number place some e s =
      record {
        says = s ∙ ap answer_of (sym e);
        bytes = nothing_stored out (if_room (length out) (settled part ls)) (ap parts_written e ∙ none_written (sharing_refused number place) some);
      }

  -- the parts are written
  pub written : (whole user : SignedFen) (amount : ℕ) (negative : Bool) (weights : List ℕ) {after : List ℕ} → if_room (length out) (settled part ls) ≡ sharing_accepted part ls
      → r ≡ record { number = 0; place = 0; gap = whole; user = user } → GapIs part ls amount negative whole.0 user.0 → weights ≡ weights_of negative ls
      → Stores out 0 (parts_bytes (parts_by negative ls (apportion amount weights) ++ (user_part user.0 ∷ []))) after → BytesSettled part ls out after r
  written whole user amount negative weights {after} e s g w stores =
      let given : parts_by negative ls (apportion amount weights) ≡ parts part ls =
      parts_are part ls amount negative (apportion amount weights) g.0 g.1 (ap (λ (ws : List ℕ). apportion amount ws) w) in
      let all : parts_by negative ls (apportion amount weights) ++ (user_part user.0 ∷ []) ≡ parts_written (sharing_accepted part ls) =
      ap₂ (λ (ps : List Part) (z : ℤ). ps ++ (user_part z ∷ [])) given g.3 ∙ sym (some_written (sharing_accepted part ls) refl) in
      record {
        says = s ∙ told_is (sharing_accepted part ls) 0 0 whole user refl refl g.2 g.3 ∙ ap answer_of (sym e);
        bytes = subst (λ (ps : List Part). Stores out 0 (parts_bytes ps) after) (all ∙ ap parts_written (sym e)) stores;
      }

-- The tests of the weights

pub none_weighs : (amount all : ℕ) → (ltb 0 amount && eqb all 0) ≡ true → (0 < amount) × (all ≡ 0)
none_weighs amount all e = let t = each (ltb 0 amount) (eqb all 0 ∷ []) e in (ltb-true _ _ t.0, eqb-true _ _ t.1.0)

pub some_weighs : (amount all : ℕ) (ws : List ℕ) → all ≡ total ws → (ltb 0 amount && eqb all 0) ≡ false → 0 < amount → 0 < total ws
some_weighs amount all ws s e h = go (ℕ_discrete all 0)
  where
    go : Dec (all ≡ 0) → 0 < total ws
    go (yes z) = absurd (true≢false (sym (rw (lt-ltb 0 amount h, eq-eqb all 0 z)) ∙ e))
    go (no f) = omega arith

-- Lines of n rows, of what is shared and of weights as they were reckoned
module _ (bytes : List ℕ) (n amount : ℕ) (negative : Bool) (ws : List ℕ) (is : ws ≡ weights_of negative (spelt_lines bytes n)) where
  abbrev rows : List Line
  rows = spelt_lines bytes n

  long_ws : length ws ≡ n
  long_ws = ap length is ∙ length_row_weights bytes n negative

  pub weights_fit : n ≤ most_number → LinesWithin rows → (total ws < 2 ^ 62) × (total ws < 2 ^ 64)
  weights_fit few all =
      let most = weights_le negative rows all in
      (omega (arith, ap total is, most, length_lines (fields_at bytes) 0 n), omega (arith, ap total is, most, length_lines (fields_at bytes) 0 n))

  pub shared_ready : (out : List ℕ) → n ≤ most_number → line_size * n ≤ length bytes → LinesWithin rows → part_size * n + part_size ≤ length out → amount ≤ most_compensation
      → (0 < amount → 0 < total (weights_of negative rows))
      → (length ws ≤ most_number) × ((line_size * length ws ≤ length bytes) × (LinesWithin (spelt_lines bytes (length ws)) × ((part_size * length ws + part_size ≤ length out)
      × ((amount ≤ most_compensation) × ((total ws < 2 ^ 62) × (0 < amount → 0 < total ws))))))
  shared_ready out few a b r most way = (
    omega (arith, long_ws),
    (omega (arith, long_ws), (subst (λ (k : ℕ). LinesWithin (spelt_lines bytes k)) (sym long_ws) b, (omega (arith, long_ws), (most, ((weights_fit few b).0, λ h. omega (arith, ap total is, way h)))))),
  )

  module _ (part : ℕ) (whole user : ℤ) (out : List ℕ) (r : Answer) (gap_is : GapIs part rows amount negative whole user) (within : compensated rows ≤ most_compensation) where
    all_is : total ws ≡ all_weights rows
    all_is = ap total is ∙ ap (λ (b : Bool). total (weights_of b rows)) gap_is.1

    -- 16
    pub gap_16 : 0 < amount → total ws ≡ 0 → r ≡ answer_of (sharing_refused 16 0) → BytesSettled part rows out out r
    gap_16 h z s =
        untouched part rows out r 16 0 (lit< tt)
        (ap (if_room (length out)) (sym (settled_16 part rows within (omega (arith, gap_is.0)) (sym all_is ∙ z))) ∙ room_refused (length out) 16 0 (lit< tt)) s

    taken_on : (0 < amount → 0 < total (weights_of negative rows)) → settled part rows ≡ sharing_accepted part rows
    taken_on way = sym (settled_on part rows within (λ h. omega (arith, way (omega (arith, gap_is.0)), ap total is, all_is)))

    long_parts : length (sharing_accepted part rows).parts ≡ n
    long_parts = length_accepted part rows ∙ length_lines (fields_at bytes) 0 n

    -- 9
    pub gap_9 : (0 < amount → 0 < total (weights_of negative rows)) → length out < part_size * n + part_size → r ≡ answer_of (sharing_refused 9 0) → BytesSettled part rows out out r
    gap_9 way short s =
        untouched part rows out r 9 0 (lit< tt) (ap (if_room (length out)) (taken_on way) ∙ room_9 (length out) (sharing_accepted part rows) n refl long_parts short) s

    pub gap_shared : (after : List ℕ) (told left : SignedFen) → told.0 ≡ whole → left.0 ≡ user → (0 < amount → 0 < total (weights_of negative rows))
        → part_size * n + part_size ≤ length out → r ≡ record { number = 0; place = 0; gap = told; user = left }
        → Stores out 0 (parts_bytes (parts_by negative (spelt_lines bytes (length ws)) (apportion amount ws) ++ (user_part left.0 ∷ []))) after → BytesSettled part rows out after r
    gap_shared after told left t u way room s f =
        let e = ap (if_room (length out)) (taken_on way) ∙ room_on (length out) (sharing_accepted part rows) n refl long_parts room in
        written part rows out r told left amount negative ws e s (gap_is.0, gap_is.1, t ∙ gap_is.2, u ∙ gap_is.3) is
        (subst (λ (k : ℕ). Stores out 0 (parts_bytes (parts_by negative (spelt_lines bytes k) (apportion amount ws) ++ (user_part left.0 ∷ []))) after) long_ws f)

-- The sharing of bytes

pub not_shared : (part : ℕ) (input out : List ℕ) (r : Answer) (number place : ℕ) → 0 < number → sharing_bytes part input (length out) ≡ sharing_refused number place
    → r ≡ answer_of (sharing_refused number place) → BytesShared part input out out r
not_shared part input out r number place some e s =
    record {
      says = s ∙ ap answer_of (sym e);
      bytes = nothing_stored out (sharing_bytes part input (length out)) (ap parts_written e ∙ none_written (sharing_refused number place) some);
    }

-- 10 at 65
pub part_above : (part : ℕ) (input : List ℕ) (out : List ℕ) (r : Answer) → length input % line_size ≡ 0 → most_part < part → r ≡ answer_of (sharing_refused 10 part_place)
    → BytesShared part input out out r
unfolding sharing_bytes
part_above part input out r whole h s =
    let turn : sharing_spelt part input ≡ sharing_refused 10 part_place = sym (turn_part part _ (byte_count input) (byte_lines input) h) in
    not_shared part input out r 10 part_place (lit< tt)
    (rw (eq-eqb (length input % line_size) 0 whole) (ap (if_room (length out)) turn ∙ room_refused (length out) 10 part_place (lit< tt))) s

module _ (part : ℕ) (input : List ℕ) (m bad : ℕ) (whole : length input % line_size ≡ 0) (fair : part ≤ most_part) (m-is : m ≡ min (byte_count input) most_number)
    (is : bad ≡ first_bad_bytes 0 input 0 m) where
  few : bad ≤ m
  few = omega (arith, is, bad_few input m)

  bad_is : bad ≡ first_bad_bytes 0 input 0 (min (byte_count input) most_number)
  bad_is = is ∙ ap (λ (k : ℕ). first_bad_bytes 0 input 0 k) m-is

  -- 10 at the first bad line
  pub ten : (out : List ℕ) (r : Answer) → bad < byte_count input → r ≡ answer_of (sharing_refused 10 bad) → BytesShared part input out out r
  unfolding sharing_bytes
  ten out r h s =
      let turn : sharing_spelt part input ≡ sharing_refused 10 bad =
      ap (λ (k : ℕ). sharing_in_turn part k (byte_count input) (byte_lines input)) (sym bad_is)
      ∙ sym (turn_10 part bad (byte_count input) (byte_lines input) fair (omega (arith, few, m-is)) h) in
      not_shared part input out r 10 bad (lit< tt)
      (rw (eq-eqb (length input % line_size) 0 whole) (ap (if_room (length out)) turn ∙ room_refused (length out) 10 bad (lit< tt))) s

  pub none_bad : byte_count input ≤ bad → (byte_count input ≤ most_number) × (byte_count input ≤ first_bad_bytes 0 input 0 (min (byte_count input) most_number))
      × LinesWithin (spelt_lines input (byte_count input))
  none_bad h =
      let all : m ≡ byte_count input = omega (arith, few, m-is) in
      (omega (arith, few, m-is), omega (arith, bad_is), sound_within input (byte_count input) (omega (arith, is, ap (λ (k : ℕ). first_bad_bytes 0 input 0 k) all)))

-- where the part and every line are sound, what settles them is the sharing of the bytes
pub settled_bytes : (part : ℕ) (input out after : List ℕ) (r : Answer) → length input % line_size ≡ 0 → part ≤ most_part → byte_count input ≤ most_number
    → byte_count input ≤ first_bad_bytes 0 input 0 (min (byte_count input) most_number) → BytesSettled part (byte_lines input) out after r → BytesShared part input out after r
unfolding sharing_bytes
settled_bytes part input out after r whole fair few sound s =
    let bad = first_bad_bytes 0 input 0 (min (byte_count input) most_number) in
    let turn : settled part (byte_lines input) ≡ sharing_spelt part input = turn_on part bad (byte_count input) (byte_lines input) fair few sound in
    let e : if_room (length out) (settled part (byte_lines input)) ≡ sharing_bytes part input (length out) =
    rw (eq-eqb (length input % line_size) 0 whole) (ap (if_room (length out)) turn) in
    record {
      says = s.says ∙ ap answer_of e;
      bytes = subst (λ (o : SharingOutcome). Stores out 0 (parts_bytes (parts_written o)) after) e s.bytes;
    }
