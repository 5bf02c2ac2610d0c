-- A statement fits exactly where sharing of some lines, within some limits, gives it. Assumes nothing.
use mathlib.Core.Path.{◌≡◌, refl, sym, ap, ap₂, ◌∙◌}
use mathlib.Core.Bool.{Bool, true, false, cond, true≢false}
use mathlib.Core.List.{List, [], ◌∷◌}
use Prim.Native.Nat.{ℕ, suc, ◌+◌, ◌-◌, ◌≤◌, ◌<◌}
use native.Mathlib.Decide.{dec_lt}
use native.Mathlib.Omega.{arith}
use borrow.Author.Tests.{eq-eqb, eqb-true, lt-ltb, le-ltb, ltb-false}
use lib.Dec.{eqb, ltb}
use lib.IntN.{ℤ, pos, ◌-ℤ◌}
use lib.Signed.{lt_z}
use lib.ListN.{length, take, length-map}
use Rattle.units.specs.Money.{grains_to_fen}
use Rattle.share.specs.declared.Line.{Line}
use Rattle.share.specs.Sharing.{below, gap, compensated, assessed, Part, SharingOutcome, sharing}
use Rattle.share.proofs.Signs.{diff_up, diff_down}
use Rattle.share.proofs.Promises.{gap_is}
use Rattle.ceiling.specs.declared.LimitedLine.{LimitedLine}
use Rattle.ceiling.specs.Ceiling.{plain_lines, CeiledPart, CeilingOutcome, ceiling}
use Rattle.ceiling.proofs.PastFirst.{long_parts}
use Rattle.ceiling.proofs.Outcomes.{taken_list, each_given}
use Rattle.ceiling.proofs.Promises.{gap_kept}
use Rattle.month.specs.declared.Row.{Row}
use Rattle.month.specs.declared.Statement.{Statement}
use Rattle.month.specs.Settling.{row_of, rows_of}
use Rattle.std.specs.Prelude.{Err}
use Rattle.fitting.specs.declared.Finding.TheVariants.{NotShared, Compensation, Weight, Share, Uncollected, Given, Amount, Total, User}
use Rattle.fitting.specs.Fitting.{Judged, Fits, is_fits, or_else, same_fen, weight_for, own_apart, first_own, own_line, own_lines, own_limited, own_limits}
use Rattle.fitting.specs.Fitting.{part_apart, first_part_of, total_apart, user_apart, by_ceiling, by_sharing, is_below, finding_in}
use Rattle.fitting.specs.Exactly.{grains_of, hours_of, FenOfGrains, SharedFrom}
use Rattle.fitting.proofs.Findings.{is_fits_lem, or_both, both_or, same_is, is_same}
use Rattle.fitting.proofs.Cases.{total_fits, user_fits}

never_fits : (f : Judged) → is_fits f ≡ false → f ≡ Fits → ⊥
never_fits f e h = true≢false (sym (is_fits_lem f h) ∙ e)

-- R is below zero where A < C
below_is : (a c : ℕ) → lt_z (pos a -ℤ pos c) (pos 0) ≡ ltb a c
below_is a c = go (dec_lt a c)
  where
    go : Dec (a < c) → lt_z (pos a -ℤ pos c) (pos 0) ≡ ltb a c
    go (yes l) = rw (diff_down a c l, lt-ltb a c l) refl
    go (no f) =
        let k : c ≤ a = omega arith in
        rw (diff_up a c k, le-ltb a c k) (le-ltb (a - c) 0 (omega arith))

pub below_gap : (ls : List Line) → lt_z (gap ls) (pos 0) ≡ below ls
unfolding gap
below_gap ls = below_is (assessed ls) (compensated ls)

-- R of what sharing within limits accepts
pub gap_of : (part : ℕ) (ls : List LimitedLine) → (ceiling part ls).number ≡ 0 → (ceiling part ls).gap ≡ gap (plain_lines ls)
gap_of part ls none = gap_kept part ls none ∙ gap_is part (plain_lines ls) (taken_list part ls none).first

-- What fits, column by column

own_columns : (b : Bool) (n : ℕ) (r : Row) → own_apart b n r ≡ Fits → (r.compensation.0 ≡ grains_to_fen r.grains.0) × (r.weight ≡ weight_for b r.energy.0 r.weight)
unfolding own_apart is_fits
own_columns b n r h = go (eqb r.compensation.0 (grains_to_fen r.grains.0)) (eqb r.weight (weight_for b r.energy.0 r.weight)) refl refl h
  where
    go : (t u : Bool) → eqb r.compensation.0 (grains_to_fen r.grains.0) ≡ t → eqb r.weight (weight_for b r.energy.0 r.weight) ≡ u
        → cond t (cond u Fits (Err (Weight n r.weight (weight_for b r.energy.0 r.weight)))) (Err (Compensation n r.compensation (record { 0 = grains_to_fen r.grains.0 }))) ≡ Fits
        → (r.compensation.0 ≡ grains_to_fen r.grains.0) × (r.weight ≡ weight_for b r.energy.0 r.weight)
    go true true e k h = (eqb-true r.compensation.0 (grains_to_fen r.grains.0) e, eqb-true r.weight (weight_for b r.energy.0 r.weight) k)
    go true false e k h = absurd (never_fits (Err (Weight n r.weight (weight_for b r.energy.0 r.weight))) refl h)
    go false u e k h = absurd (never_fits (Err (Compensation n r.compensation (record { 0 = grains_to_fen r.grains.0 }))) refl h)

part_columns : (n : ℕ) (r : Row) (p : CeiledPart) → part_apart n r p ≡ Fits
    → (r.share.0 ≡ p.share) × (r.uncollected.0 ≡ p.uncollected) × (r.given.0 ≡ p.given) × (r.amount.0 ≡ p.amount)
unfolding part_apart is_fits
part_columns n r p h = go (same_fen r.share.0 p.share) (eqb r.uncollected.0 p.uncollected) (eqb r.given.0 p.given) (same_fen r.amount.0 p.amount) refl refl refl refl h
  where
    go : (t u v w : Bool) → same_fen r.share.0 p.share ≡ t → eqb r.uncollected.0 p.uncollected ≡ u → eqb r.given.0 p.given ≡ v → same_fen r.amount.0 p.amount ≡ w
        → cond t (cond u (cond v (cond w Fits (Err (Amount n r.amount (record { 0 = p.amount })))) (Err (Given n r.given (record { 0 = p.given }))))
        (Err (Uncollected n r.uncollected (record { 0 = p.uncollected })))) (Err (Share n r.share (record { 0 = p.share }))) ≡ Fits
        → (r.share.0 ≡ p.share) × (r.uncollected.0 ≡ p.uncollected) × (r.given.0 ≡ p.given) × (r.amount.0 ≡ p.amount)
    go true true true true a c d e h =
        (same_is r.share.0 p.share a, eqb-true r.uncollected.0 p.uncollected c, eqb-true r.given.0 p.given d, same_is r.amount.0 p.amount e)
    go true true true false a c d e h = absurd (never_fits (Err (Amount n r.amount (record { 0 = p.amount }))) refl h)
    go true true false w a c d e h = absurd (never_fits (Err (Given n r.given (record { 0 = p.given }))) refl h)
    go true false v w a c d e h = absurd (never_fits (Err (Uncollected n r.uncollected (record { 0 = p.uncollected }))) refl h)
    go false u v w a c d e h = absurd (never_fits (Err (Share n r.share (record { 0 = p.share }))) refl h)

-- rows that fit are those of their own lines and parts
fens : (b : Bool) (n : ℕ) (rs : List Row) → first_own b n rs ≡ Fits → FenOfGrains rs
unfolding first_own
fens b n [] h = tt
fens b n (r ∷ rs) h =
    let p = or_both (own_apart b n r) (first_own b (suc n) rs) h in
    ((own_columns b n r p.0).0, fens b (suc n) rs p.1)

row_follows : (b : Bool) (n m : ℕ) (r : Row) (c : CeiledPart) → own_apart b n r ≡ Fits → part_apart m r c ≡ Fits → r ≡ row_of b (own_line b r) r.grains r.hours c
unfolding row_of own_line
row_follows b n m r c f g =
    let w = (own_columns b n r f).1 in
    let v = part_columns m r c g in
    λ i. record {
      number = r.number;
      hours = r.hours;
      grains = r.grains;
      compensation = r.compensation;
      assessment = r.assessment;
      energy = r.energy;
      weight = w i;
      share = record { 0 = v.0 i };
      uncollected = record { 0 = v.1 i };
      given = record { 0 = v.2 i };
      amount = record { 0 = v.3 i };
    }

rows_follow : (b : Bool) (n m : ℕ) (rs : List Row) (cs : List CeiledPart) → length cs ≡ length rs → first_own b n rs ≡ Fits → first_part_of m rs cs ≡ Fits
    → rs ≡ rows_of b (own_lines b rs) (grains_of rs) (hours_of rs) cs
unfolding first_own first_part_of rows_of
rows_follow b n m [] cs h f g = refl
rows_follow b n m (r ∷ rs) [] h f g = absurd (omega arith)
rows_follow b n m (r ∷ rs) (c ∷ cs) h f g =
    let p = or_both (own_apart b n r) (first_own b (suc n) rs) f in
    let q = or_both (part_apart m r c) (first_part_of (suc m) rs cs) g in
    ap₂ (λ (x : Row) (xs : List Row). x ∷ xs) (row_follows b n m r c p.0 q.0) (rows_follow b (suc n) (suc m) rs cs (omega arith) p.1 q.1)

-- The stages that a statement passes
pub record Stages (s : Statement) (b : Bool) : Type 0 where
  pub few : s.count ≤ 64
  pub own : first_own b 1 (take s.count s.rows) ≡ Fits
  pub first : (sharing s.part (own_lines b (take s.count s.rows))).number ≡ 0
  pub second : (ceiling s.part (own_limits b (take s.count s.rows) (sharing s.part (own_lines b (take s.count s.rows))).parts)).number ≡ 0
  pub total : s.gap.0 ≡ (ceiling s.part (own_limits b (take s.count s.rows) (sharing s.part (own_lines b (take s.count s.rows))).parts)).gap
  pub members : first_part_of 1 (take s.count s.rows)
      (ceiling s.part (own_limits b (take s.count s.rows) (sharing s.part (own_lines b (take s.count s.rows))).parts)).parts ≡ Fits
  pub user : s.user.0 ≡ (ceiling s.part (own_limits b (take s.count s.rows) (sharing s.part (own_lines b (take s.count s.rows))).parts)).user

total_is : (s : Statement) (z : ℤ) → total_apart s z ≡ Fits → s.gap.0 ≡ z
unfolding total_apart is_fits
total_is s z h = go (same_fen s.gap.0 z) refl h
  where
    go : (t : Bool) → same_fen s.gap.0 z ≡ t → cond t Fits (Err (Total (1 + s.count) s.gap (record { 0 = z }))) ≡ Fits → s.gap.0 ≡ z
    go true e h = same_is s.gap.0 z e
    go false e h = absurd (never_fits (Err (Total (1 + s.count) s.gap (record { 0 = z }))) refl h)

user_is : (s : Statement) (z : ℤ) → user_apart s z ≡ Fits → s.user.0 ≡ z
unfolding user_apart is_fits
user_is s z h = go (same_fen s.user.0 z) refl h
  where
    go : (t : Bool) → same_fen s.user.0 z ≡ t → cond t Fits (Err (User (2 + s.count) s.user (record { 0 = z }))) ≡ Fits → s.user.0 ≡ z
    go true e h = same_is s.user.0 z e
    go false e h = absurd (never_fits (Err (User (2 + s.count) s.user (record { 0 = z }))) refl h)

-- a refusal of sharing does not fit
cond_fits : (t : Bool) (f : Judged) (n p : ℕ) → cond t f (Err (NotShared n p)) ≡ Fits → (t ≡ true) × (f ≡ Fits)
unfolding is_fits
cond_fits true f n p h = (refl, h)
cond_fits false f n p h = absurd (never_fits (Err (NotShared n p)) refl h)

stages : (s : Statement) → finding_in s ≡ Fits → Stages s (is_below s)
unfolding finding_in by_sharing by_ceiling is_fits
stages s h = go (ltb 64 s.count) refl h
  where
    b : Bool
    b = is_below s

    rs : List Row
    rs = take s.count s.rows

    o : SharingOutcome
    o = sharing s.part (own_lines b rs)

    q : CeilingOutcome
    q = ceiling s.part (own_limits b rs o.parts)

    go : (t : Bool) → ltb 64 s.count ≡ t → cond t (Err (NotShared 10 64)) (or_else (first_own b 1 rs) (by_sharing b s o)) ≡ Fits → Stages s (is_below s)
    go true e h = absurd (never_fits (Err (NotShared 10 64)) refl h)
    go false e h =
        let p = or_both (first_own b 1 rs) (by_sharing b s o) h in
        let first = cond_fits (eqb o.number 0) (by_ceiling s q) o.number o.place p.1 in
        let rest = or_else (total_apart s q.gap) (or_else (first_part_of 1 rs q.parts) (user_apart s q.user)) in
        let second = cond_fits (eqb q.number 0) rest q.number q.place first.1 in
        let t = or_both (total_apart s q.gap) (or_else (first_part_of 1 rs q.parts) (user_apart s q.user)) second.1 in
        let m = or_both (first_part_of 1 rs q.parts) (user_apart s q.user) t.1 in
        record {
          few = ltb-false 64 s.count e;
          own = p.0;
          first = eqb-true o.number 0 first.0;
          second = eqb-true q.number 0 second.0;
          total = total_is s q.gap t.0;
          members = m.0;
          user = user_is s q.user m.1;
        }

pub fits_of : (s : Statement) → Stages s (is_below s) → finding_in s ≡ Fits
unfolding finding_in by_sharing by_ceiling
fits_of s k =
    let b = is_below s in
    let rs = take s.count s.rows in
    let o = sharing s.part (own_lines b rs) in
    let q = ceiling s.part (own_limits b rs o.parts) in
    let m = both_or (first_part_of 1 rs q.parts) (user_apart s q.user) k.members (sym (user_fits s q.user (is_same s.user.0 q.user k.user))) in
    let t = both_or (total_apart s q.gap) (or_else (first_part_of 1 rs q.parts) (user_apart s q.user)) (sym (total_fits s q.gap (is_same s.gap.0 q.gap k.total))) m in
    rw (le-ltb 64 s.count k.few)
    (both_or (first_own b 1 rs) (by_sharing b s o) k.own (rw (eq-eqb o.number 0 k.first) (rw (eq-eqb q.number 0 k.second) t)))

-- lines with limits are the lines
pub plain_own : (b : Bool) (rs : List Row) (ps : List Part) → length ps ≡ length rs → plain_lines (own_limits b rs ps) ≡ own_lines b rs
unfolding own_limits own_limited
plain_own b [] ps h = refl
plain_own b (r ∷ rs) [] h = absurd (omega arith)
plain_own b (r ∷ rs) (p ∷ ps) h = ap (λ (xs : List Line). own_line b r ∷ xs) (plain_own b rs ps (omega arith))

-- WHAT FITS IS SHARED: its rows, R and the user's amount are those that sharing of its own lines gives, within limits.
pub fits_shared : (s : Statement) → finding_in s ≡ Fits
    → SharedFrom s (own_limits (is_below s) (take s.count s.rows) (sharing s.part (own_lines (is_below s) (take s.count s.rows))).parts)
unfolding ceiling
fits_shared s h =
    let k = stages s h in
    let b = is_below s in
    let rs = take s.count s.rows in
    let ps = (sharing s.part (own_lines b rs)).parts in
    let ls = own_limits b rs ps in
    let long : length ps ≡ length rs = long_parts s.part (own_lines b rs) k.first ∙ length-map rs (own_line b) in
    let plain : plain_lines ls ≡ own_lines b rs = plain_own b rs ps long in
    let sign : b ≡ below (plain_lines ls) = ap (λ (z : ℤ). lt_z z (pos 0)) (k.total ∙ gap_of s.part ls k.second) ∙ below_gap (plain_lines ls) in
    let many : length ls ≡ length rs = sym (length-map ls (λ (l : LimitedLine). l.line)) ∙ ap length plain ∙ length-map rs (own_line b) in
    let each : length (ceiling s.part ls).parts ≡ length rs = each_given s.part _ (length ls) ls (taken_list s.part ls k.second) ∙ many in
    record {
      few = k.few;
      fen = fens b 1 rs k.own;
      accepted = k.second;
      gap = k.total;
      user = k.user;
      rows = rows_follow b 1 1 rs (ceiling s.part ls).parts each k.own k.members
          ∙ ap₂ (λ (c : Bool) (xs : List Line). rows_of c xs (grains_of rs) (hours_of rs) (ceiling s.part ls).parts) sign (sym plain);
    }
