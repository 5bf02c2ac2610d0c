-- The lines that a statement was made from, and its own: they are shared alike. Assumes nothing.
use mathlib.Core.Path.{◌≡◌, refl, sym, ap, ap₂, ◌∙◌, subst}
use mathlib.Core.Bool.{Bool, true, false, cond, ◌||◌, true≢false}
use mathlib.Core.List.{List, [], ◌∷◌}
use mathlib.Core.Logic.{inl, inr}
use Prim.Native.Nat.{ℕ, zero, suc, ◌+◌, ◌*◌, ◌-◌, ◌/◌, ◌≤◌, ◌<◌}
use native.Mathlib.Omega.{arith}
use borrow.Author.Tests.{eq-eqb, eqb-true, le-leb, leb-true}
use lib.Dec.{eqb, ltb, leb}
use lib.IntN.{ℤ, pos, nat_abs, ◌+ℤ◌, ◌-ℤ◌}
use lib.Signed.{lt_z}
use lib.ListN.{length, take, drop, get_or, length-map}
use lib.Seq.{take_all}
use Rattle.le.proofs.Tests.{each, all}
use Rattle.units.specs.declared.Fen.{Fen}
use Rattle.units.specs.declared.Grains.{Grains}
use Rattle.units.specs.declared.Thousandths.{Thousandths}
use Rattle.units.specs.declared.Mwh.{Mwh}
use Rattle.units.specs.Money.{grains_to_fen, fen_per_thousandth}
use Rattle.apportion.specs.Apportion.{total, apportion}
use Rattle.apportion.proofs.Promises.{Shareable, each_one}
use Rattle.share.specs.declared.Line.{Line}
use Rattle.share.specs.Sharing.{most_number, most_status, most_energy, most_compensation, most_assessment, most_part, below, gap, compensated, assessed, weight_of, weights_of, weights, all_weights}
use Rattle.share.specs.Sharing.{signed, generators_amount, user_amount, Part, part_of, parts_by, parts, line_is_sound, first_bad_line, SharingOutcome, sharing, sharing_accepted}
use Rattle.share.proofs.Cases.{bad_of_64, sharing_on, settled_on}
use Rattle.share.proofs.Outcomes as S
use Rattle.ceiling.specs.declared.Limit.{Limit}
use Rattle.ceiling.specs.declared.LimitedLine.{LimitedLine}
use Rattle.ceiling.specs.Ceiling.{most_limit, limit_is_sound, limited_is_sound, first_bad_limited, plain_lines, paid, beyond, positive, positives, uncollected_of, uncollected_sum}
use Rattle.ceiling.specs.Ceiling.{given_up, CeiledPart, ceiled_by, ceiled_parts}
use Rattle.ceiling.specs.Ceiling.{CeilingOutcome, ceiling_accepted, ceiling}
use Rattle.ceiling.proofs.PastFirst.{long_parts}
use Rattle.ceiling.proofs.Places.{bad_step, bad_here}
use Rattle.ceiling.proofs.Turns.{turn_on, both_on, second_on}
use Rattle.ceiling.proofs.Outcomes.{Taken, taken_list, each_given}
use Rattle.month.specs.declared.Ramped.{Ramped}
use Rattle.month.specs.declared.Row.{Row}
use Rattle.month.specs.declared.Statement.{Statement}
use Rattle.month.specs.Settling.{no_ramping, row_of, rows_of}
use Rattle.month.proofs.Accepted.{length_rows}
use Rattle.fitting.specs.Fitting.{Fits}
use Rattle.fitting.specs.Fitting.{weight_by, status_for, weight_for, own_apart, first_own, own_line, own_lines, limit_for, own_limited, own_limits, part_apart, first_part_of, is_below, finding_in}
use Rattle.fitting.specs.Exactly.{grains_of, hours_of, FenOfGrains, SharedFrom}
use Rattle.fitting.proofs.Findings.{both_or, is_same}
use Rattle.fitting.proofs.Cases.{own_fits, part_fits}
use Rattle.fitting.proofs.Exactly.{Stages, fits_of, plain_own, below_gap, gap_of}

-- Statuses

status_le : (b : Bool) (e w : ℕ) → status_for b e w ≤ 2
unfolding status_for
status_le b e w = go (eqb w (weight_by b 0 e)) (eqb w (weight_by b 1 e)) (eqb w (weight_by b 2 e))
  where
    go : (t u v : Bool) → cond t 0 (cond u 1 (cond v 2 0)) ≤ 2
    go true u v = omega arith
    go false true v = omega arith
    go false false true = omega arith
    go false false false = omega arith

-- a weight of one of the three statuses fits one
fits_one : (b : Bool) (e st : ℕ) → st ≤ 2 → eqb (weight_by b st e) (weight_by b 0 e) ≡ false → eqb (weight_by b st e) (weight_by b 1 e) ≡ false → eqb (weight_by b st e) (weight_by b 2 e) ≡ false → ⊥
fits_one b e zero h p q r = true≢false (sym (eq-eqb (weight_by b 0 e) (weight_by b 0 e) refl) ∙ p)
fits_one b e (suc zero) h p q r = true≢false (sym (eq-eqb (weight_by b 1 e) (weight_by b 1 e) refl) ∙ q)
fits_one b e (suc (suc zero)) h p q r = true≢false (sym (eq-eqb (weight_by b 2 e) (weight_by b 2 e) refl) ∙ r)
fits_one b e (suc (suc (suc st))) h p q r = omega (arith, h)

status_back : (b : Bool) (e st : ℕ) → st ≤ 2 → weight_for b e (weight_by b st e) ≡ weight_by b st e
unfolding status_for
status_back b e st h = go (eqb (weight_by b st e) (weight_by b 0 e)) (eqb (weight_by b st e) (weight_by b 1 e)) (eqb (weight_by b st e) (weight_by b 2 e)) refl refl refl
  where
    go : (t u v : Bool) → eqb (weight_by b st e) (weight_by b 0 e) ≡ t → eqb (weight_by b st e) (weight_by b 1 e) ≡ u → eqb (weight_by b st e) (weight_by b 2 e) ≡ v
        → weight_by b (cond t 0 (cond u 1 (cond v 2 0))) e ≡ weight_by b st e
    go true u v p q r = sym (eqb-true (weight_by b st e) (weight_by b 0 e) p)
    go false true v p q r = sym (eqb-true (weight_by b st e) (weight_by b 1 e) q)
    go false false true p q r = sym (eqb-true (weight_by b st e) (weight_by b 2 e) r)
    go false false false p q r = absurd (fits_one b e st h p q r)

-- Rows and the lines that they were made from

record Like (b : Bool) (r : Row) (l : Line) : Type 0 where
  number : r.number ≡ l.number
  energy : r.energy ≡ l.energy
  compensation : r.compensation ≡ l.compensation
  assessment : r.assessment ≡ l.assessment
  weight : r.weight ≡ weight_of b l
  status : l.status ≤ 2

data AllLike (b : Bool) : List Row → List Line → Type 0 where
  no_more : AllLike b [] []
  one_more : (r : Row) (l : Line) (rs : List Row) (ls : List Line) → Like b r l → AllLike b rs ls → AllLike b (r ∷ rs) (l ∷ ls)

weight_own : (b : Bool) (r : Row) (l : Line) → Like b r l → weight_for b r.energy.0 r.weight ≡ weight_of b l
weight_own b r l k =
    ap₂ (λ (e w : ℕ). weight_for b e w) (ap (λ (x : Mwh). x.0) k.energy) k.weight ∙ status_back b l.energy.0 l.status k.status

line_tests_lem : (l : Line) → List Bool
line_tests_lem l = leb l.number most_number ∷ leb l.status most_status ∷ leb l.energy.0 most_energy ∷ leb l.compensation.0 most_compensation ∷ leb l.assessment.0 most_assessment ∷ []

status_ok : (before : ℕ) (l : Line) → line_is_sound before l ≡ true → l.status ≤ 2
unfolding line_is_sound line_tests_lem
status_ok before l h = leb-true l.status 2 (each (ltb before l.number) (line_tests_lem l) h).1.1.0

own_sound : (b : Bool) (before : ℕ) (r : Row) (l : Line) → Like b r l → line_is_sound before l ≡ true → line_is_sound before (own_line b r) ≡ true
unfolding line_is_sound own_line line_tests_lem
own_sound b before r l k h =
    let e = each (ltb before l.number) (line_tests_lem l) h in
    all (ltb before r.number) (line_tests_lem (own_line b r)) (
      ap (ltb before) k.number ∙ e.0,
      (
        ap (λ (n : ℕ). leb n most_number) k.number ∙ e.1.0,
        (
          le-leb (status_for b r.energy.0 r.weight) 2 (status_le b r.energy.0 r.weight),
          (
            ap (λ (x : Mwh). leb x.0 most_energy) k.energy ∙ e.1.1.1.0,
            (
              ap (λ (x : Fen). leb x.0 most_compensation) k.compensation ∙ e.1.1.1.1.0,
              (ap (λ (x : Thousandths). leb x.0 most_assessment) k.assessment ∙ e.1.1.1.1.1.0, tt),
            ),
          ),
        ),
      ),
    )

line_step : (before : ℕ) (l : Line) (ls : List Line) → line_is_sound before l ≡ true → first_bad_line before (l ∷ ls) ≡ suc (first_bad_line l.number ls)
line_step before l ls e = rw e

line_here : (before : ℕ) (l : Line) (ls : List Line) → line_is_sound before l ≡ false → first_bad_line before (l ∷ ls) ≡ 0
line_here before l ls e = rw e

sound_head : (before : ℕ) (l : Line) (ls : List Line) → length (l ∷ ls) ≤ first_bad_line before (l ∷ ls) → (line_is_sound before l ≡ true) × (length ls ≤ first_bad_line l.number ls)
sound_head before l ls h = go (line_is_sound before l) refl
  where
    go : (t : Bool) → line_is_sound before l ≡ t → (line_is_sound before l ≡ true) × (length ls ≤ first_bad_line l.number ls)
    go true e = (e, omega (arith, h, line_step before l ls e))
    go false e = absurd (omega (arith, h, line_here before l ls e))

like_rows : (b : Bool) (before : ℕ) (ls : List Line) (gs : List Grains) (hs : List Ramped) (cs : List CeiledPart) → length ls ≤ first_bad_line before ls → AllLike b (rows_of b ls gs hs cs) ls
unfolding rows_of row_of
like_rows b before [] gs hs cs h = no_more
like_rows b before (l ∷ ls) gs hs cs h =
    let p = sound_head before l ls h in
    one_more _ l _ ls (record { number = refl; energy = refl; compensation = refl; assessment = refl; weight = refl; status = status_ok before l p.0 })
    (like_rows b l.number ls (drop 1 gs) (drop 1 hs) (drop 1 cs) p.1)

-- The first sharing

compensated_same : {b : Bool} {rs : List Row} {ls : List Line} → AllLike b rs ls → compensated (own_lines b rs) ≡ compensated ls
unfolding own_line
compensated_same no_more = refl
compensated_same (one_more r l rs ls k ks) = ap₂ (λ (x y : ℕ). x + y) (ap (λ (x : Fen). x.0) k.compensation) (compensated_same ks)

assessed_same : {b : Bool} {rs : List Row} {ls : List Line} → AllLike b rs ls → assessed (own_lines b rs) ≡ assessed ls
unfolding own_line
assessed_same no_more = refl
assessed_same (one_more r l rs ls k ks) = ap₂ (λ (x y : ℕ). x + y) (ap (λ (x : Thousandths). x.0 * fen_per_thousandth) k.assessment) (assessed_same ks)

weights_same : (b : Bool) {rs : List Row} {ls : List Line} → AllLike b rs ls → weights_of b (own_lines b rs) ≡ weights_of b ls
unfolding own_line
weights_same b no_more = refl
weights_same b (one_more r l rs ls k ks) = ap₂ (λ (x : ℕ) (xs : List ℕ). x ∷ xs) (weight_own b r l k) (weights_same b ks)

parts_same : (b : Bool) {rs : List Row} {ls : List Line} → AllLike b rs ls → (ss : List ℕ) → parts_by b (own_lines b rs) ss ≡ parts_by b ls ss
unfolding own_line
parts_same b no_more ss = refl
parts_same b (one_more r l rs ls k ks) [] = refl
parts_same b (one_more r l rs ls k ks) (x ∷ ss) =
    let head : part_of b (own_line b r) x ≡ part_of b l x =
    ap₂ (λ (c : Fen) (a : Thousandths). record { share = signed b x; amount = pos c.0 -ℤ pos (a.0 * fen_per_thousandth) +ℤ signed b x }) k.compensation k.assessment in
    ap₂ (λ (p : Part) (ps : List Part). p ∷ ps) head (parts_same b ks ss)

sound_same : (b : Bool) (before : ℕ) {rs : List Row} {ls : List Line} → AllLike b rs ls → length ls ≤ first_bad_line before ls → length (own_lines b rs) ≤ first_bad_line before (own_lines b rs)
unfolding own_line
sound_same b before no_more h = omega arith
sound_same b before (one_more r l rs ls k ks) h =
    let p = sound_head before l ls h in
    let s = own_sound b before r l k p.0 in
    let rest = sound_same b r.number ks (subst (λ (n : ℕ). length ls ≤ first_bad_line n ls) (sym k.number) p.1) in
    omega (arith, line_step before (own_line b r) (own_lines b rs) s, rest)

module _ (part : ℕ) (ls : List Line) (rs : List Row) (like : AllLike (below ls) rs ls) (none : (sharing part ls).number ≡ 0) where
  abbrev own : List Line
  own = own_lines (below ls) rs

  t : S.Taken part (first_bad_line 0 (take most_number ls)) (length ls) ls
  t = S.taken_list part ls none

  ec : compensated own ≡ compensated ls
  ec = compensated_same like

  eb : below own ≡ below ls
  eb = ap₂ ltb (assessed_same like) ec

  eg : gap own ≡ gap ls
  unfolding gap
  eg = ap₂ (λ (a c : ℕ). pos a -ℤ pos c) (assessed_same like) ec

  en : generators_amount part own ≡ generators_amount part ls
  unfolding generators_amount
  en = ap (λ (z : ℤ). nat_abs z * part / most_part) eg

  eu : user_amount part own ≡ user_amount part ls
  unfolding user_amount
  eu = λ i. eg i -ℤ signed (eb i) (en i)

  ew : weights own ≡ weights ls
  ew = ap (λ (c : Bool). weights_of c own) eb ∙ weights_same (below ls) like

  ep : parts part own ≡ parts part ls
  unfolding parts
  ep = (λ i. parts_by (eb i) own (apportion (en i) (ew i))) ∙ parts_same (below ls) like (apportion (generators_amount part ls) (weights ls))

  way : 0 < generators_amount part own → 0 < all_weights own
  way some = go t.way
    where
      go : Shareable (generators_amount part ls) (weights ls) → 0 < all_weights own
      go (inl z) = absurd (omega (arith, some, en, z))
      go (inr w) = omega (arith, w, ap total ew)

  sharing_same : sharing part own ≡ sharing part ls
  sharing_same =
      let sound = sound_same (below ls) 0 like (omega (arith, t.sound, (bad_of_64 ls).0)) in
      let accepted : sharing_accepted part own ≡ sharing_accepted part ls = λ i. record { number = 0; place = 0; gap = eg i; user = eu i; parts = ep i } in
      sym (settled_on part own (omega (arith, ec, t.within)) way ∙ sharing_on part own t.fair sound) ∙ accepted ∙ sym t.is

-- Limits

beyond_paid : (l : Limit) (z : ℤ) → beyond l z ≤ paid z
unfolding beyond
beyond_paid l z = go l.none
  where
    go : (n : Bool) → cond n 0 (paid z - l.fen.0) ≤ paid z
    go true = omega arith
    go false = omega arith

taken_back : (p u : ℕ) → u ≤ p → cond (eqb u 0) 0 (p - (p - u)) ≡ u
taken_back p u h = go (eqb u 0) refl
  where
    go : (t : Bool) → eqb u 0 ≡ t → cond t 0 (p - (p - u)) ≡ u
    go true e = sym (eqb-true u 0 e)
    go false e = omega (arith, h)

beyond_by : (z : ℤ) (u : ℕ) → beyond (limit_for z u) z ≡ cond (eqb u 0) 0 (paid z - (paid z - u))
unfolding beyond limit_for
beyond_by z u = refl

limit_back : (l : Limit) (z : ℤ) → beyond (limit_for z (beyond l z)) z ≡ beyond l z
limit_back l z = beyond_by z (beyond l z) ∙ taken_back (paid z) (beyond l z) (beyond_paid l z)

sound_by : (n : Bool) (fen p : ℕ) → (n || leb fen most_limit) ≡ true → (eqb (cond n 0 (p - fen)) 0 || leb (p - cond n 0 (p - fen)) most_limit) ≡ true
sound_by true fen p h = refl
sound_by false fen p h = go (eqb (p - fen) 0) refl
  where
    go : (t : Bool) → eqb (p - fen) 0 ≡ t → (t || leb (p - (p - fen)) most_limit) ≡ true
    go true e = refl
    go false e = le-leb (p - (p - fen)) most_limit (omega (arith, leb-true fen most_limit h))

limit_sound : (l : Limit) (z : ℤ) → limit_is_sound l ≡ true → limit_is_sound (limit_for z (beyond l z)) ≡ true
unfolding limit_is_sound limit_for beyond
limit_sound l z h = sound_by l.none l.fen.0 (paid z) h

data AllBeyond : List Row → List LimitedLine → List Part → Type 0 where
  no_row : AllBeyond [] [] []
  one_row : (r : Row) (l : LimitedLine) (p : Part) (rs : List Row) (ls : List LimitedLine) (ps : List Part) → r.uncollected.0 ≡ beyond l.limit p.amount → AllBeyond rs ls ps
      → AllBeyond (r ∷ rs) (l ∷ ls) (p ∷ ps)

beyond_rows : (b : Bool) (ls : List LimitedLine) (gs : List Grains) (hs : List Ramped) (ps : List Part) (vs : List ℕ) → length ps ≡ length ls → length vs ≡ length ps
    → AllBeyond (rows_of b (plain_lines ls) gs hs (ceiled_by ps (uncollected_of ls ps) vs)) ls ps
unfolding rows_of row_of
beyond_rows b [] gs hs [] vs h k = no_row
beyond_rows b [] gs hs (p ∷ ps) vs h k = absurd (omega arith)
beyond_rows b (l ∷ ls) gs hs [] vs h k = absurd (omega arith)
beyond_rows b (l ∷ ls) gs hs (p ∷ ps) [] h k = absurd (omega arith)
beyond_rows b (l ∷ ls) gs hs (p ∷ ps) (v ∷ vs) h k = one_row _ l p _ ls ps refl (beyond_rows b ls (drop 1 gs) (drop 1 hs) ps vs (omega arith) (omega arith))

uncollected_same : (b : Bool) {rs : List Row} {ls : List LimitedLine} {ps : List Part} → AllBeyond rs ls ps → uncollected_of (own_limits b rs ps) ps ≡ uncollected_of ls ps
unfolding own_limits own_limited
uncollected_same b no_row = refl
uncollected_same b (one_row r l p rs ls ps e k) =
    ap₂ (λ (x : ℕ) (xs : List ℕ). x ∷ xs) (ap (λ (u : ℕ). beyond (limit_for p.amount u) p.amount) e ∙ limit_back l.limit p.amount) (uncollected_same b k)

like_head : {b : Bool} {r : Row} {l : Line} {rs : List Row} {ls : List Line} → AllLike b (r ∷ rs) (l ∷ ls) → Like b r l
like_head (one_more r l rs ls k ks) = k

like_tail : {b : Bool} {r : Row} {l : Line} {rs : List Row} {ls : List Line} → AllLike b (r ∷ rs) (l ∷ ls) → AllLike b rs ls
like_tail (one_more r l rs ls k ks) = ks

limited_sound : (b : Bool) (before : ℕ) (r : Row) (l : LimitedLine) (p : Part) → Like b r l.line → r.uncollected.0 ≡ beyond l.limit p.amount → limited_is_sound before l ≡ true
    → limited_is_sound before (own_limited b r p) ≡ true
unfolding limited_is_sound own_limited
limited_sound b before r l p k e h =
    let two = each (line_is_sound before l.line) (limit_is_sound l.limit ∷ []) h in
    all (line_is_sound before (own_line b r)) (limit_is_sound (limit_for p.amount r.uncollected.0) ∷ []) (
      own_sound b before r l.line k two.0,
      (ap (λ (u : ℕ). limit_is_sound (limit_for p.amount u)) e ∙ limit_sound l.limit p.amount two.1.0, tt),
    )

limited_head : (before : ℕ) (l : LimitedLine) (ls : List LimitedLine) → length (l ∷ ls) ≤ first_bad_limited before (l ∷ ls)
    → (limited_is_sound before l ≡ true) × (length ls ≤ first_bad_limited l.line.number ls)
limited_head before l ls h = go (limited_is_sound before l) refl
  where
    go : (t : Bool) → limited_is_sound before l ≡ t → (limited_is_sound before l ≡ true) × (length ls ≤ first_bad_limited l.line.number ls)
    go true e = (e, omega (arith, h, bad_step before l ls e))
    go false e = absurd (omega (arith, h, bad_here before l ls e))

-- the number of an own line is its row's
own_number : (b : Bool) (r : Row) (p : Part) → (own_limited b r p).line.number ≡ r.number
unfolding own_limited own_line
own_number b r p = refl

own_limits_cons : (b : Bool) (r : Row) (p : Part) (rs : List Row) (ps : List Part) → own_limits b (r ∷ rs) (p ∷ ps) ≡ own_limited b r p ∷ own_limits b rs ps
unfolding own_limits
own_limits_cons b r p rs ps = refl

all_sound : (b : Bool) (before : ℕ) {rs : List Row} {ls : List LimitedLine} {ps : List Part} → AllBeyond rs ls ps → AllLike b rs (plain_lines ls) → length ls ≤ first_bad_limited before ls
    → length (own_limits b rs ps) ≤ first_bad_limited before (own_limits b rs ps)
unfolding own_limits
all_sound b before no_row like h = omega arith
all_sound b before (one_row r l p rs ls ps e k) like h =
    let two = limited_head before l ls h in
    let s = limited_sound b before r l p (like_head like) e two.0 in
    let same : l.line.number ≡ (own_limited b r p).line.number = sym (own_number b r p ∙ (like_head like).number) in
    let rest = all_sound b (own_limited b r p).line.number k (like_tail like) (subst (λ (n : ℕ). length ls ≤ first_bad_limited n ls) same two.1) in
    omega (arith, bad_step before (own_limited b r p) (own_limits b rs ps) s, rest)

-- Rows fit

own_fit : (b : Bool) (n : ℕ) {rs : List Row} {ls : List Line} → AllLike b rs ls → FenOfGrains rs → first_own b n rs ≡ Fits
unfolding first_own
own_fit b n no_more f = refl
own_fit b n (one_more r l rs ls k ks) f =
    both_or (own_apart b n r) (first_own b (suc n) rs)
    (sym (own_fits b n r (record { 0 = grains_to_fen r.grains.0 }) refl f.0 (weight_for b r.energy.0 r.weight) refl (k.weight ∙ sym (weight_own b r l k))))
    (own_fit b (suc n) ks f.1)

parts_fit : (b : Bool) (n : ℕ) (ls : List Line) (gs : List Grains) (hs : List Ramped) (cs : List CeiledPart) → length cs ≡ length ls → first_part_of n (rows_of b ls gs hs cs) cs ≡ Fits
unfolding first_part_of rows_of row_of
parts_fit b n [] gs hs cs h = refl
parts_fit b n (l ∷ ls) gs hs [] h = absurd (omega arith)
parts_fit b n (l ∷ ls) gs hs (c ∷ cs) h =
    let r = row_of b l (get_or gs 0 (record { 0 = 0 })) (get_or hs 0 no_ramping).hours c in
    both_or (part_apart n r c) (first_part_of (suc n) (rows_of b ls (drop 1 gs) (drop 1 hs) cs) cs)
    (sym (part_fits n r c (is_same c.share c.share refl) refl refl (is_same c.amount c.amount refl))) (parts_fit b (suc n) ls (drop 1 gs) (drop 1 hs) cs (omega arith))

-- Sharing within limits
module _ (part : ℕ) (ls : List LimitedLine) (none : (ceiling part ls).number ≡ 0) (rs : List Row) (gs : List Grains) (hs : List Ramped)
    (er : rs ≡ rows_of (below (plain_lines ls)) (plain_lines ls) gs hs (ceiling part ls).parts) where
  abbrev plain : List Line
  plain = plain_lines ls

  abbrev b : Bool
  b = below plain

  abbrev o : SharingOutcome
  o = sharing part plain

  abbrev own-ls : List LimitedLine
  own-ls = own_limits b rs o.parts

  taken : Taken part (first_bad_limited 0 (take most_number ls)) (length ls) ls
  taken = taken_list part ls none

  first : o.number ≡ 0
  first = taken.first

  long-ps : length o.parts ≡ length ls
  long-ps = long_parts part plain first ∙ length-map ls (λ (l : LimitedLine). l.line)

  parts_are : (ceiling part ls).parts ≡ ceiled_by o.parts (uncollected_of ls o.parts) (given_up ls o.parts)
  unfolding ceiling ceiled_parts
  parts_are = ap (λ (x : CeilingOutcome). x.parts) taken.is

  long-vs : length (given_up ls o.parts) ≡ length o.parts
  unfolding given_up
  long-vs = each_one (uncollected_sum ls o.parts) (positives o.parts) ∙ length-map o.parts (λ (p : Part). positive p.amount)

  like : AllLike b rs plain
  like =
      let k = S.taken_list part plain first in
      subst (λ (xs : List Row). AllLike b xs plain) (sym er) (like_rows b 0 plain gs hs (ceiling part ls).parts (omega (arith, k.sound, (bad_of_64 plain).0)))

  beyonds : AllBeyond rs ls o.parts
  beyonds =
      subst (λ (xs : List Row). AllBeyond xs ls o.parts) (sym (er ∙ ap (rows_of b plain gs hs) parts_are)) (beyond_rows b ls gs hs o.parts (given_up ls o.parts) long-ps long-vs)

  same : sharing part (own_lines b rs) ≡ o
  same = sharing_same part plain rs like first

  many : length rs ≡ length ls
  many = ap length er ∙ length_rows b plain gs hs (ceiling part ls).parts ∙ length-map ls (λ (l : LimitedLine). l.line)

  plain-is : plain_lines own-ls ≡ own_lines b rs
  plain-is = plain_own b rs o.parts (long-ps ∙ sym many)

  same_first : sharing part (plain_lines own-ls) ≡ o
  same_first = ap (sharing part) plain-is ∙ same

  long-own : length own-ls ≡ length ls
  long-own = sym (length-map own-ls (λ (l : LimitedLine). l.line)) ∙ ap length plain-is ∙ length-map rs (own_line b) ∙ many

  uncollected : uncollected_of own-ls o.parts ≡ uncollected_of ls o.parts
  uncollected = uncollected_same b beyonds

  few : length ls ≤ 64
  few = taken.few

  sound : length own-ls ≤ first_bad_limited 0 (take most_number own-ls)
  sound =
      let own = all_sound b 0 beyonds like (omega (arith, taken.sound, ap (first_bad_limited 0) (take_all 64 ls few))) in
      omega (arith, own, ap (first_bad_limited 0) (take_all 64 own-ls (omega (arith, few, long-own))))

  room : uncollected_sum own-ls o.parts ≤ total (positives o.parts)
  room = omega (arith, ap total uncollected, taken.room)

  own_is : ceiling part own-ls ≡ ceiling_accepted own-ls o
  unfolding ceiling
  own_is =
      let f = sharing part (plain_lines own-ls) in
      let fits : uncollected_sum own-ls f.parts ≤ total (positives f.parts) =
      subst (λ (x : SharingOutcome). uncollected_sum own-ls x.parts ≤ total (positives x.parts)) (sym same_first) room in
      sym (second_on own-ls f fits ∙ both_on own-ls f (ap (λ (x : SharingOutcome). x.number) same_first ∙ first)
      ∙ turn_on part (first_bad_limited 0 (take most_number own-ls)) (length own-ls) own-ls taken.fair (omega (arith, few, long-own)) sound)
      ∙ ap (ceiling_accepted own-ls) same_first

  -- its own lines, within its own limits, are shared as they were
  ceiling-same : ceiling part own-ls ≡ ceiling part ls
  unfolding ceiling ceiled_parts given_up
  ceiling-same =
      let e : ceiled_parts own-ls o.parts ≡ ceiled_parts ls o.parts =
      ap (λ (us : List ℕ). ceiled_by o.parts us (apportion (total us) (positives o.parts))) uncollected in
      own_is ∙ (λ i. record { number = 0; place = 0; gap = o.gap; user = o.user; parts = e i }) ∙ sym taken.is

-- WHAT IS SHARED FITS
pub shared_fits : (s : Statement) (ls : List LimitedLine) → SharedFrom s ls → finding_in s ≡ Fits
unfolding ceiling
shared_fits s ls h =
    let part = s.part in
    let rs = take s.count s.rows in
    let gs = grains_of rs in
    let hs = hours_of rs in
    let c = below (plain_lines ls) in
    let q = ceiling part ls in
    let e = same part ls h.accepted rs gs hs h.rows in
    let k = like part ls h.accepted rs gs hs h.rows in
    let own : ceiling part (own_limits c rs (sharing part (own_lines c rs)).parts) ≡ q =
    ap (λ (x : SharingOutcome). ceiling part (own_limits c rs x.parts)) e ∙ ceiling-same part ls h.accepted rs gs hs h.rows in
    let each : length q.parts ≡ length (plain_lines ls) = each_given part _ (length ls) ls (taken_list part ls h.accepted) ∙ sym (length-map ls (λ (l : LimitedLine). l.line)) in
    let members : first_part_of 1 rs q.parts ≡ Fits = ap (λ (xs : List Row). first_part_of 1 xs q.parts) h.rows ∙ parts_fit c 1 (plain_lines ls) gs hs q.parts each in
    let sign : c ≡ is_below s = sym (ap (λ (z : ℤ). lt_z z (pos 0)) (h.gap ∙ gap_of part ls h.accepted) ∙ below_gap (plain_lines ls)) in
    let st : Stages s c =
    record {
      few = h.few;
      own = own_fit c 1 k h.fen;
      first = ap (λ (x : SharingOutcome). x.number) e ∙ (taken_list part ls h.accepted).first;
      second = ap (λ (x : CeilingOutcome). x.number) own ∙ h.accepted;
      total = h.gap ∙ sym (ap (λ (x : CeilingOutcome). x.gap) own);
      members = ap (λ (x : CeilingOutcome). first_part_of 1 rs x.parts) own ∙ members;
      user = h.user ∙ sym (ap (λ (x : CeilingOutcome). x.user) own);
    } in
    fits_of s (subst (λ (x : Bool). Stages s x) sign st)
