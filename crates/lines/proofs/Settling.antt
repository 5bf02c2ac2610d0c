-- If any bytes make an open line sound, the best ones do; so it is known when no bytes can change the answer. Assumes nothing.
use mathlib.Core.Path.{◌≡◌, refl, ap, sym, subst, ◌∙◌}
use mathlib.Core.Bool.{Bool, true, false, cond, not, ◌&&◌, ◌||◌, true≢false}
use mathlib.Core.List.{List, [], ◌∷◌, ◌++◌, map}
use Prim.Native.Nat.{ℕ, zero, suc, ◌+◌, ◌*◌, ◌-◌, ◌≤◌, ◌<◌}
use native.Mathlib.Decide.{dec_le}
use native.Mathlib.Omega.{arith}
use lib.Dec.{leb, ltb, eqb}
use lib.ListN.{length, take, get_or, replicate, length-take, length-replicate}
use borrow.Author.Tests.{ltb-true, ltb-false, leb-true, eqb-true, eqb-false, lt-ltb, le-ltb, le-leb, eq-eqb, ne_eqb, not-true, not-false}
use Rattle.le.proofs.Tests.{Hold, each, all}
use Rattle.row.specs.declared.Row.{Row}
use Rattle.row.specs.Numbers.{onto, parts_of, lines_of, is_digit, digits, not_empty, numbers, value, hold}
use Rattle.row.specs.Meaning.{row_is_begun, is_row, row_at, row_parts, row_numbers}
use Rattle.row.specs.Judging.{refused_at}
use Rattle.row.specs.Inner.{judge_from, judged_on}
use Rattle.row.proofs.Texts.{and_false, or_true, digit_is_not, grows, Without, line_last, by_parts}
use Rattle.row.proofs.Rows.{foreign, none_row}
use Rattle.share.specs.declared.Line.{Line}
use Rattle.share.specs.Sharing.{line_is_sound, most_number, most_status, most_energy, most_compensation, most_assessment}
use Rattle.share.specs.Forms.{blank_line}
use Rattle.share.proofs.Counted.{blank_bad}
use Rattle.lines.specs.declared.body.Body.{Body}
use Rattle.lines.specs.declared.body.Listed.{Listed}
use Rattle.lines.specs.Text.{as_line, sharing_lines}
use Rattle.lines.specs.Meaning.{row_line, lines_left, body_meaning, BodyStays, number_bytes, zeros, best_bytes}
use Rattle.lines.specs.Stream.{Tells}

-- The bytes that end the open number

module _ (row : Row) where
  pub number_has : 0 < row.at → row.digit ≡ true → number_bytes row ≡ []
  unfolding number_bytes
  number_has h d = rw (lt-ltb 0 row.at h, d)

  pub number_zero : 0 < row.at → row.digit ≡ false → number_bytes row ≡ 48 ∷ []
  unfolding number_bytes
  number_zero h d = rw (lt-ltb 0 row.at h, d)

  module _ (h : row.at ≤ 0) where
    pub number_64 : row.value ≡ 0 → number_bytes row ≡ 54 ∷ 52 ∷ []
    unfolding number_bytes
    number_64 e = rw (le-ltb 0 row.at h, eq-eqb row.value 0 e)

    module _ (not_empty : row.value ≡ 0 → ⊥) where
      pub number_9 : row.value < 6 → number_bytes row ≡ 57 ∷ []
      unfolding number_bytes
      number_9 k = rw (le-ltb 0 row.at h, ne_eqb row.value 0 not_empty, lt-ltb row.value 6 k)

      pub number_4 : 6 ≤ row.value → row.value ≡ 6 → number_bytes row ≡ 52 ∷ []
      unfolding number_bytes
      number_4 k e = rw (le-ltb 0 row.at h, ne_eqb row.value 0 not_empty, le-ltb row.value 6 k, eq-eqb row.value 6 e)

      pub number_none : 6 ≤ row.value → (row.value ≡ 6 → ⊥) → number_bytes row ≡ []
      unfolding number_bytes
      number_none k e = rw (le-ltb 0 row.at h, ne_eqb row.value 0 not_empty, le-ltb row.value 6 k, ne_eqb row.value 6 e)

-- they are digits, there is one, and they make the number no higher
record Next (row : Row) (p nb : List ℕ) : Type 0 where
  digits : digits nb ≡ true
  some : (row.digit || not_empty nb) ≡ true
  low : value row.value nb ≤ value row.value p

next : (row : Row) (p : List ℕ) → 0 < row.at → (row.digit || not_empty p) ≡ true → Next row p (number_bytes row)
next row p h s = go row.digit refl p s
  where
    go : (d : Bool) → row.digit ≡ d → (p : List ℕ) → (row.digit || not_empty p) ≡ true → Next row p (number_bytes row)
    go true e p s = rw (number_has row h e) (record { digits = refl; some = rw e; low = grows row.value p })
    go false e [] s = absurd (true≢false (sym s ∙ rw e))
    go false e (d ∷ p) s =
        rw (number_zero row h e) (record { digits = refl; some = or_true row.digit; low = omega (arith, grows (row.value * 10 + (d - 48)) p) })

-- of the first number, they make it the highest up to 64
record First (b : ℕ) (row : Row) (nb : List ℕ) : Type 0 where
  digits : digits nb ≡ true
  some : (row.digit || not_empty nb) ≡ true
  above : b < value row.value nb
  within : value row.value nb ≤ 64

digit_most : (d : ℕ) (p : List ℕ) → digits (d ∷ p) ≡ true → d ≤ 57
digit_most d p h = leb-true d 57 (each (leb 48 d) (leb d 57 ∷ []) (each (is_digit d) (digits p ∷ []) h).0).1.0

-- a number above 0 that is at most 64 has at most one digit more
most : (v : ℕ) (p : List ℕ) → digits p ≡ true → 0 < v → value v p ≤ 64 → value v p ≤ v * 10 + 9
most v [] h k m = omega arith
most v (d ∷ []) h k m = omega (arith, digit_most d [] h)
most v (d ∷ e ∷ p) h k m = absurd (omega (arith, grows ((v * 10 + (d - 48)) * 10 + (e - 48)) p))

-- one from 7 on has none
whole : (v : ℕ) (p : List ℕ) → 6 < v → value v p ≤ 64 → p ≡ []
whole v [] k m = refl
whole v (d ∷ p) k m = absurd (omega (arith, grows (v * 10 + (d - 48)) p))

module _ (b : ℕ) (row : Row) (p : List ℕ) (at : row.at ≤ 0) (ds : digits p ≡ true) (s : (row.digit || not_empty p) ≡ true)
    (above : b < value row.value p) (within : value row.value p ≤ 64) where
  first_none : (row.value ≡ 0 → ⊥) → 6 ≤ row.value → (row.value ≡ 6 → ⊥) → First b row (number_bytes row)
  first_none z k e =
      let none = whole row.value p (omega (arith, k, ℕ-ne row.value e k)) within in
      rw (number_none row at z k e)
      (record {
        digits = refl;
        some = ap (λ (q : List ℕ). row.digit || not_empty q) (sym none) ∙ s;
        above = subst (λ (q : List ℕ). b < value row.value q) none above;
        within = subst (λ (q : List ℕ). value row.value q ≤ 64) none within;
      })
    where
      ℕ-ne : (n : ℕ) → (n ≡ 6 → ⊥) → 6 ≤ n → 6 < n
      ℕ-ne n e k = omega (arith, e)

  first : First b row (number_bytes row)
  first = go (eqb row.value 0) (ltb row.value 6) (eqb row.value 6) refl refl refl
    where
      go : (z l e : Bool) → eqb row.value 0 ≡ z → ltb row.value 6 ≡ l → eqb row.value 6 ≡ e → First b row (number_bytes row)
      go true l e ez el ee =
          let z = eqb-true row.value 0 ez in
          rw (number_64 row at z) (record { digits = refl; some = or_true row.digit; above = omega (arith, above, within, z); within = omega (arith, z) })
      go false true e ez el ee =
          let z = eqb-false row.value 0 ez in
          let l = ltb-true row.value 6 el in
          rw (number_9 row at z l)
          (record { digits = refl; some = or_true row.digit; above = omega (arith, above, most row.value p ds (omega (arith, z)) within); within = omega (arith, l) })
      go false false true ez el ee =
          let e = eqb-true row.value 6 ee in
          rw (number_4 row at (eqb-false row.value 0 ez) (ltb-false row.value 6 el) e)
          (record { digits = refl; some = or_true row.digit; above = omega (arith, above, within, e); within = omega (arith, e) })
      go false false false ez el ee = first_none (eqb-false row.value 0 ez) (ltb-false row.value 6 el) (eqb-false row.value 6 ee)

-- Limits

abbrev In : ℕ → List ℕ → Type 0
In b ns =
    (b < get_or ns 0 0) × (get_or ns 0 0 ≤ most_number) × (get_or ns 1 0 ≤ most_status) × (get_or ns 2 0 ≤ most_energy)
    × (get_or ns 3 0 ≤ most_compensation) × (get_or ns 4 0 ≤ most_assessment)

tests : List ℕ → List Bool
tests ns = leb (get_or ns 0 0) most_number ∷ leb (get_or ns 1 0) most_status ∷ leb (get_or ns 2 0) most_energy ∷ leb (get_or ns 3 0) most_compensation ∷ leb (get_or ns 4 0) most_assessment ∷ []

sound_in : (b : ℕ) (ns : List ℕ) → line_is_sound b (as_line ns) ≡ true → In b ns
unfolding line_is_sound tests
sound_in b ns h =
    let p = each (ltb b (get_or ns 0 0)) (tests ns) h in
    (ltb-true _ _ p.0, leb-true _ _ p.1.0, leb-true _ _ p.1.1.0, leb-true _ _ p.1.1.1.0, leb-true _ _ p.1.1.1.1.0, leb-true _ _ p.1.1.1.1.1.0)

in_sound : (b : ℕ) (ns : List ℕ) → In b ns → line_is_sound b (as_line ns) ≡ true
unfolding line_is_sound tests
in_sound b ns h =
    all (ltb b (get_or ns 0 0)) (tests ns)
    (lt-ltb _ _ h.0, (le-leb _ _ h.1, (le-leb _ _ h.2, (le-leb _ _ h.3, (le-leb _ _ h.4, (le-leb _ _ h.5, tt))))))

-- a lower number behind the first, and zeros behind that, keep to the limits
in_next : (b : ℕ) (pre : List ℕ) (v w : ℕ) (ws zs : List ℕ) → 0 < length pre → length pre ≤ 4 → w ≤ v → ((j : ℕ) → get_or zs j 0 ≡ 0)
    → In b (pre ++ v ∷ ws) → In b (pre ++ w ∷ zs)
in_next b [] v w ws zs not_empty few l z h = absurd (omega arith)
in_next b (n ∷ []) v w ws zs not_empty few l z h = (h.0, h.1, omega (arith, h.2), omega (arith, z 0), omega (arith, z 1), omega (arith, z 2))
in_next b (n ∷ s ∷ []) v w ws zs not_empty few l z h = (h.0, h.1, h.2, omega (arith, h.3), omega (arith, z 0), omega (arith, z 1))
in_next b (n ∷ s ∷ e ∷ []) v w ws zs not_empty few l z h = (h.0, h.1, h.2, h.3, omega (arith, h.4), omega (arith, z 0))
in_next b (n ∷ s ∷ e ∷ c ∷ []) v w ws zs not_empty few l z h = (h.0, h.1, h.2, h.3, h.4, omega (arith, h.5))
in_next b (n ∷ s ∷ e ∷ c ∷ a ∷ pre) v w ws zs not_empty few l z h = absurd (omega arith)

in_first : (b w : ℕ) (zs : List ℕ) → b < w → w ≤ 64 → ((j : ℕ) → get_or zs j 0 ≡ 0) → In b (w ∷ zs)
in_first b w zs h k z = (h, k, omega (arith, z 0), omega (arith, z 1), omega (arith, z 2), omega (arith, z 3))

-- Zeros

zero_pieces : ℕ → List (List ℕ)
zero_pieces k = replicate k (48 ∷ [])

zero_values : (k j : ℕ) → get_or (map hold (map (value 0) (zero_pieces k))) j 0 ≡ 0
unfolding zero_pieces
zero_values zero j = refl
zero_values (suc k) zero = refl
zero_values (suc k) (suc j) = zero_values k j

zero_numbers : (k : ℕ) → numbers (zero_pieces k) ≡ true
unfolding zero_pieces
zero_numbers zero = refl
zero_numbers (suc k) = zero_numbers k

no_space : (d : ℕ) → is_digit d ≡ true → eqb d 32 ≡ false
no_space d h = ne_eqb d 32 (digit_is_not d 32 h (omega arith))

best_pieces : (p : List ℕ) (k : ℕ) → digits p ≡ true → parts_of 32 (p ++ zeros k) ≡ p ∷ zero_pieces k
unfolding zero_pieces
best_pieces [] zero h = refl
best_pieces [] (suc k) h = ap (λ (ps : List (List ℕ)). [] ∷ onto 48 ps) (best_pieces [] k refl)
best_pieces (d ∷ p) k h =
    let e = each (is_digit d) (digits p ∷ []) h in
    rw (no_space d e.0, best_pieces p k e.1.0)

-- The best bytes

-- the numbers of a line of which `p` is left of the open one, and the parts `ps` come behind it
abbrev five_with : Row → List ℕ → List (List ℕ) → List ℕ
five_with row p ps = take row.at row.ended ++ map hold (value row.value p ∷ map (value 0) ps)

-- a sound line is five numbers
five_of_lem : (b : ℕ) (row : Row) (p : List ℕ) (ps : List (List ℕ)) → line_is_sound b (as_line (row_at 4 row p ps)) ≡ true
    → (is_row 4 row p ps ≡ true) × (line_is_sound b (as_line (five_with row p ps)) ≡ true)
five_of_lem b row p ps h = go (is_row 4 row p ps) refl h
  where
    go : (t : Bool) → is_row 4 row p ps ≡ t → line_is_sound b (as_line (cond t (five_with row p ps) [])) ≡ true
        → (is_row 4 row p ps ≡ true) × (line_is_sound b (as_line (five_with row p ps)) ≡ true)
    go true e k = (e, k)
    go false e k = absurd (true≢false (sym k ∙ blank_bad b))

five_tests : Row → List ℕ → List (List ℕ) → List Bool
five_tests row p ps = digits p ∷ (row.digit || not_empty p) ∷ numbers ps ∷ eqb (row.at + length ps) 4 ∷ []

module _ (b : ℕ) (row : Row) (long : 4 ≤ length row.ended) where
  best_at : (p : List ℕ) (ps : List (List ℕ)) → line_is_sound b (as_line (row_at 4 row p ps)) ≡ true → line_is_sound b (row_line row (best_bytes row)) ≡ true
  unfolding five_tests zero_pieces row_numbers
  best_at p ps h = go (dec_le 1 row.at)
    where
      five : (is_row 4 row p ps ≡ true) × (line_is_sound b (as_line (five_with row p ps)) ≡ true)
      five = five_of_lem b row p ps h

      limits : In b (five_with row p ps)
      limits = sound_in b (five_with row p ps) five.1

      t : Hold (not row.bad ∷ five_tests row p ps)
      t = each (not row.bad) (five_tests row p ps) five.0

      few : row.at ≤ 4
      few = omega (arith, eqb-true (row.at + length ps) 4 t.1.1.1.1.0)

      end : digits (number_bytes row) ≡ true → (row.digit || not_empty (number_bytes row)) ≡ true
          → In b (five_with row (number_bytes row) (zero_pieces (4 - row.at)))
          → line_is_sound b (row_line row (best_bytes row)) ≡ true
      end ds s l =
          let all_tests : is_row 4 row (number_bytes row) (zero_pieces (4 - row.at)) ≡ true =
          all (not row.bad) (five_tests row (number_bytes row) (zero_pieces (4 - row.at)))
          (t.0, (ds, (s, (zero_numbers (4 - row.at), (eq-eqb (row.at + length (zero_pieces (4 - row.at))) 4 (omega (arith, few, length-replicate {A = List ℕ} (4 - row.at) (48 ∷ []))), tt))))) in
          rw (best_pieces (number_bytes row) (4 - row.at) ds, all_tests) (in_sound b (five_with row (number_bytes row) (zero_pieces (4 - row.at))) l)

      go : Dec (1 ≤ row.at) → line_is_sound b (row_line row (best_bytes row)) ≡ true
      go (yes k) =
          let n = next row p k t.1.1.0 in
          let size : length (take row.at row.ended) ≡ row.at = length-take row.at row.ended ∙ omega (arith, few, long) in
          end n.digits n.some
          (in_next b (take row.at row.ended) (hold (value row.value p)) (hold (value row.value (number_bytes row)))
          (map hold (map (value 0) ps)) (map hold (map (value 0) (zero_pieces (4 - row.at))))
          (omega arith) (omega (arith, few, long)) (omega (arith, n.low)) (zero_values (4 - row.at)) limits)
      go (no k) =
          let none : row.at ≡ 0 = omega arith in
          let pre : take row.at row.ended ≡ [] = ap (λ (n : ℕ). take n row.ended) none in
          let l = subst (λ (ns : List ℕ). In b (ns ++ map hold (value row.value p ∷ map (value 0) ps))) pre limits in
          let f = first b row p (omega arith) t.1.0 t.1.1.0 (omega (arith, l.0)) (omega (arith, l.1)) in
          end f.digits f.some
          (subst (λ (ns : List ℕ). In b (ns ++ map hold (value row.value (number_bytes row) ∷ map (value 0) (zero_pieces (4 - row.at))))) (sym pre)
          (in_first b (hold (value row.value (number_bytes row))) (map hold (map (value 0) (zero_pieces (4 - row.at))))
          (omega (arith, f.above, f.within)) (omega (arith, f.within)) (zero_values (4 - row.at))))

  -- IF ANY BYTES MAKE AN OPEN LINE SOUND, THE BEST ONES DO.
  pub best_sound : (rest : List ℕ) → line_is_sound b (row_line row rest) ≡ true → line_is_sound b (row_line row (best_bytes row)) ≡ true
  unfolding row_numbers
  best_sound rest h = by_parts 32 (λ ps. line_is_sound b (as_line (row_parts 4 row ps)) ≡ true → line_is_sound b (row_line row (best_bytes row)) ≡ true) best_at rest h

-- The lines read so far

number_digits : (row : Row) → digits (number_bytes row) ≡ true
unfolding number_bytes
number_digits row = go (ltb 0 row.at) row.digit (eqb row.value 0) (ltb row.value 6) (eqb row.value 6)
  where
    go : (a d z l e : Bool) → digits (cond a (cond d [] (48 ∷ [])) (cond z (54 ∷ 52 ∷ []) (cond l (57 ∷ []) (cond e (52 ∷ []) [])))) ≡ true
    go true true z l e = refl
    go true false z l e = refl
    go false d true l e = refl
    go false d false true e = refl
    go false d false false true = refl
    go false d false false false = refl

zeros_plain : (k : ℕ) → Without 10 (zeros k)
zeros_plain zero = tt
zeros_plain (suc k) = (λ e. omega arith, (λ e. omega arith, zeros_plain k))

plain : (p : List ℕ) (k : ℕ) → digits p ≡ true → Without 10 (p ++ zeros k)
plain [] k h = zeros_plain k
plain (d ∷ p) k h =
    let e = each (is_digit d) (digits p ∷ []) h in
    (digit_is_not d 10 e.0 (omega arith), plain p k e.1.0)

alone : List ℕ → List (List ℕ)
alone [] = []
alone (b ∷ bs) = (b ∷ bs) ∷ []

one_line : (bs : List ℕ) → Without 10 bs → lines_of bs ≡ alone bs
unfolding alone
one_line [] h = refl
one_line (b ∷ bs) h = line_last b bs h

lines_alone : (row : Row) (bs : List ℕ) → row_is_begun row ≡ true → lines_left row (alone bs) ≡ row_line row bs ∷ []
unfolding alone
lines_alone row [] h = rw h
lines_alone row (b ∷ bs) h = refl

pub tells_refused : (s : Body) → s.sheet.refused ≡ true → Tells (BodyStays s) true
unfolding body_meaning judged_on
tells_refused s h = record { yes = λ _ rest. simp h; no = λ e. absurd (true≢false e) }

ten_or_none : (s : Body) (bad good : List ℕ) → (body_meaning s bad).number ≡ 10 → (body_meaning s good).number ≡ 0 → BodyStays s → ⊥
ten_or_none s bad good b g h =
    let e : ◌≡◌ {A = ℕ} 10 0 = sym b ∙ ap (λ (t : Listed). t.number) (h bad ∙ sym (h good)) ∙ g in
    omega arith

module _ (s : Body) (on : s.sheet.refused ≡ false) where
  pub tells_shut : row_is_begun s.row ≡ false → Tells (BodyStays s) false
  unfolding body_meaning judged_on
  tells_shut h =
      let d : s.row.digit ≡ false = no_digit s.row.bad s.row.digit (ltb 0 s.row.at) h in
      let none : is_row 4 s.row [] [] ≡ false = simp (d, and_false) in
      let line : row_line s.row [] ≡ blank_line = ap as_line (none_row 32 4 s.row none) in
      record {
        yes = λ e. absurd (true≢false (sym e));
        no = λ _. ten_or_none s (10 ∷ []) [] (rw (on, line, blank_bad s.sheet.before)) (rw (on, h));
      }
    where
      no_digit : (a d n : Bool) → (a || d || n) ≡ false → d ≡ false
      no_digit true d n h = absurd (true≢false h)
      no_digit false true n h = absurd (true≢false h)
      no_digit false false n h = refl

  module _ (isOpen : row_is_begun s.row ≡ true) where
    takes : List ℕ → Bool
    takes bytes = line_is_sound s.sheet.before (row_line s.row bytes) && ltb s.sheet.count most_number

    none_taken : 4 ≤ length s.row.ended → takes (best_bytes s.row) ≡ false → (rest : List ℕ) → takes rest ≡ false
    unfolding takes
    none_taken long h rest = go (line_is_sound s.sheet.before (row_line s.row rest)) (ltb s.sheet.count most_number) refl refl
      where
        go : (t u : Bool) → line_is_sound s.sheet.before (row_line s.row rest) ≡ t → ltb s.sheet.count most_number ≡ u → takes rest ≡ false
        go false u e f = rw e
        go true false e f = rw f (and_false (line_is_sound s.sheet.before (row_line s.row rest)))
        go true true e f = absurd (true≢false (sym (all _ (_ ∷ []) (best_sound s.sheet.before s.row long rest e, (f, tt))) ∙ h))

    refused_all : ((rest : List ℕ) → takes rest ≡ false) → (rest : List ℕ) → body_meaning s rest ≡ refused_at sharing_lines s.sheet.count
    unfolding body_meaning takes judged_on
    refused_all h rest = rw on (go (lines_of rest))
      where
        go : (ls : List (List ℕ)) → judge_from sharing_lines s.sheet.before s.sheet.lines s.sheet.count (lines_left s.row ls) ≡ refused_at sharing_lines s.sheet.count
        go [] = rw (isOpen, h [])
        go (l ∷ ls) = rw (h l)

    taken_one : takes (best_bytes s.row) ≡ true → (body_meaning s (best_bytes s.row)).number ≡ 0
    unfolding body_meaning takes judged_on
    taken_one h = rw (on, one_line (best_bytes s.row) (plain (number_bytes s.row) (4 - s.row.at) (number_digits s.row)), lines_alone s.row (best_bytes s.row) isOpen, h)

    spoilt_one : (body_meaning s (0 ∷ [])).number ≡ 10
    unfolding body_meaning judged_on
    spoilt_one =
        let line : row_line s.row (0 ∷ []) ≡ blank_line = ap as_line (foreign 32 4 s.row 0 (λ e. omega arith) refl []) in
        rw (on, line, blank_bad s.sheet.before)

    pub tells_open : (best : Row) (t : Bool) → 4 ≤ length s.row.ended → row_line best [] ≡ row_line s.row (best_bytes s.row)
        → t ≡ (line_is_sound s.sheet.before (row_line best []) && ltb s.sheet.count most_number) → Tells (BodyStays s) (not t)
    unfolding takes
    tells_open best t long e f =
        let is : t ≡ takes (best_bytes s.row) = f ∙ ap (λ (l : Line). line_is_sound s.sheet.before l && ltb s.sheet.count most_number) e in
        record {
          yes = λ h rest. let none = refused_all (none_taken long (sym is ∙ not-true t h)) in none rest ∙ sym (none []);
          no = λ h. ten_or_none s (0 ∷ []) (best_bytes s.row) spoilt_one (taken_one (sym is ∙ not-false t h));
        }
