-- The month's sharing and the cases of a month, over plain values. Assumes nothing.
use mathlib.Core.Path.{◌≡◌, refl, sym, ap, ◌∙◌, subst}
use mathlib.Core.Bool.{Bool}
use mathlib.Core.List.{List, [], ◌∷◌, map}
use Prim.Native.Nat.{ℕ, zero, suc, ◌-◌, ◌≤◌, ◌<◌, min}
use native.Mathlib.Nat.{min-eq_left, min-eq_right}
use native.Mathlib.Decide.{dec_lt, dec_le}
use native.Mathlib.Omega.{arith}
use borrow.Author.Tests.{eq-eqb, ne_eqb, lt-ltb, le-ltb}
use lib.Dec.{ltb}
use lib.IntN.{ℤ, pos, ◌-ℤ◌}
use lib.Signed.{lt_z}
use lib.ListN.{length, get_or, take, length-take}
use lib.Seq.{length-take-le, take_all}
use Rattle.units.specs.declared.Fen.{Fen}
use Rattle.units.specs.declared.Grains.{Grains}
use Rattle.book.specs.declared.Header.{Header}
use Rattle.book.specs.declared.Verdict.{Verdict}
use Rattle.book.specs.Book.{header_at, count_at, calls_from, calls_of}
use Rattle.book.specs.Check.{check}
use Rattle.share.specs.declared.Line.{Line}
use Rattle.share.specs.Sharing.{below, gap, assessed, compensated, sharing, most_part}
use Rattle.share.specs.Limits.{LineWithin, LinesWithin, CountedWithin}
use Rattle.share.proofs.Cases.{bad_of_64}
use Rattle.share.proofs.Bounds.{all_within}
use Rattle.share.proofs.Signs.{diff_up, diff_down}
use Rattle.share.proofs.Outcomes.{taken_list as shared-list}
use Rattle.share.proofs.Promises.{gap_is}
use Rattle.ceiling.specs.declared.LimitedLine.{LimitedLine}
use Rattle.ceiling.specs.declared.Ceiled.{Ceiled}
use Rattle.ceiling.specs.Ceiling.{CeiledPart, plain_lines, ceiling}
use Rattle.ceiling.specs.Forms.{ceiled_line, ceiled_lines, cleared_line, cleared_lines, ceiled_of, ceiled_array}
use Rattle.ceiling.proofs.Outcomes.{taken_list, each_given}
use Rattle.ceiling.proofs.Promises.{gap_kept}
use Rattle.month.specs.declared.Ramped.{Ramped}
use Rattle.month.specs.declared.Row.{Row}
use Rattle.month.specs.declared.Statement.{Statement}
use Rattle.month.specs.declared.members.MemberEarned.{MemberEarned}
use Rattle.month.specs.declared.members.MemberEarned.TheVariants.{NotScored}
use Rattle.register.specs.declared.Entry.{Entry}
use Rattle.register.specs.Register.{first_bad_entry, limited_for}
use Rattle.register.proofs.Entries.{bad_le, take_lines}
use Rattle.month.specs.declared.Fault.{Fault}
use Rattle.month.specs.declared.Fault.TheVariants.{NoFault, InPart, InRegister, InBook, Unlisted, InSharing}
use Rattle.month.specs.Settling.{MonthGiven, first_unlisted, earnings, first_refused_member, member_fault, earned_grains, compensations, filled_rows, month_refused, shared_month, rows_of}
use Rattle.month.specs.Settling.{month_lines, earned_month, settling}
use Rattle.month.specs.Inner.{rows_in}
use Rattle.month.proofs.Walking.{fen_of}
use Rattle.month.proofs.Statements.{rows_filled}

-- R is below zero where A < C
below_is : (a c : ℕ) → lt_z (pos a -ℤ pos c) (pos 0) ≡ ltb a c
below_is a c = go (dec_lt a c)
  where
    go : Dec (a < c) → lt_z (pos a -ℤ pos c) (pos 0) ≡ ltb a c
    go (yes l) = rw (diff_down a c l, lt-ltb a c l) refl
    go (no f) =
        let k : c ≤ a = omega arith in
        rw (diff_up a c k, le-ltb a c k) (le-ltb (a - c) 0 (omega arith))

-- the first lines of an array
module _ {A B : Type 0} (f : A → B) where
  pub take_map : (n : ℕ) (xs : List A) → take n (map f xs) ≡ map f (take n xs)
  take_map zero xs = refl
  take_map (suc n) [] = refl
  take_map (suc n) (x ∷ xs) = ap (λ (ys : List B). f x ∷ ys) (take_map n xs)

take_ceiled : (n : ℕ) (ps : List CeiledPart) (ls : List LimitedLine) → length ps ≤ n → take n (ceiled_lines ps ls) ≡ ceiled_lines ps (take n ls)
take_ceiled n [] ls h = refl
take_ceiled zero (p ∷ ps) ls h = absurd (omega arith)
take_ceiled (suc n) (p ∷ ps) [] h = refl
take_ceiled (suc n) (p ∷ ps) (l ∷ ls) h = ap (λ (x : List LimitedLine). ceiled_line l p ∷ x) (take_ceiled n ps ls (omega arith))

-- filling a line in leaves it within its bounds
within_cleared : (ls : List LimitedLine) → LinesWithin (plain_lines ls) → (i : ℕ) (d : Line) → i < length (plain_lines (cleared_lines ls))
    → LineWithin (get_or (plain_lines (cleared_lines ls)) i d)
within_cleared [] w i d h = absurd (omega arith)
within_cleared (l ∷ ls) w zero d h =
    let k = w 0 d (omega arith) in
    record { energy = k.energy; compensation = k.compensation; assessment = k.assessment }
within_cleared (l ∷ ls) w (suc i) d h = within_cleared ls (λ j e m. w (suc j) e (omega arith)) i d (omega arith)

within_ceiled : (ps : List CeiledPart) (ls : List LimitedLine) → LinesWithin (plain_lines ls) → (i : ℕ) (d : Line) → i < length (plain_lines (ceiled_lines ps ls))
    → LineWithin (get_or (plain_lines (ceiled_lines ps ls)) i d)
within_ceiled [] ls w i d h = w i d h
within_ceiled (p ∷ ps) [] w i d h = w i d h
within_ceiled (p ∷ ps) (l ∷ ls) w zero d h =
    let k = w 0 d (omega arith) in
    record { energy = k.energy; compensation = k.compensation; assessment = k.assessment }
within_ceiled (p ∷ ps) (l ∷ ls) w (suc i) d h = within_ceiled ps ls (λ j e m. w (suc j) e (omega arith)) i d (omega arith)

-- The sharing of the first lines of an array
module _ (part : ℕ) (book : List ℕ) (lines : List LimitedLine) (grains : List Grains) (ramped : List Ramped) (count : ℕ) (h : count ≤ 64) (long : length lines ≡ 64)
    (s : Ceiled) (is : s ≡ ceiled_array part lines count) where
  abbrev ls : List LimitedLine
  ls = take count lines

  length_ls : length ls ≡ count
  length_ls = length-take-le count lines (omega arith)

  array_is : s ≡ ceiled_of lines (ceiling part ls)
  unfolding ceiled_array ceiling
  array_is = is ∙ rw (length_ls, take_all 64 ls (omega (arith, length_ls))) refl

  number_is : s.number ≡ (ceiling part ls).number
  number_is = ap (λ (x : Ceiled). x.number) array_is

  pub shared_refused : (s.number ≡ 0 → ⊥) → month_refused (InSharing s.number s.place) ≡ shared_month part book ls (take count grains) ramped (ceiling part ls)
  unfolding shared_month
  shared_refused some =
      rw (number_is, ap (λ (x : Ceiled). x.place) array_is, ne_eqb (ceiling part ls).number 0 (λ e. some (number_is ∙ e))) refl

  module _ (none : s.number ≡ 0) where
    none_told : (ceiling part ls).number ≡ 0
    none_told = sym number_is ∙ none

    -- the first sharing was accepted
    first_told : (sharing part (plain_lines ls)).number ≡ 0
    first_told = (taken_list part ls none_told).first

    each : length (ceiling part ls).parts ≡ length ls
    unfolding ceiling
    each = each_given part _ (length ls) ls (taken_list part ls none_told)

    lines_are : take count s.lines ≡ ceiled_lines (ceiling part ls).parts (cleared_lines ls)
    lines_are =
        ap (λ (x : Ceiled). take count x.lines) array_is
        ∙ take_ceiled count (ceiling part ls).parts (cleared_lines lines) (omega (arith, each, length_ls))
        ∙ ap (ceiled_lines (ceiling part ls).parts) (take_map (λ l. cleared_line l) count lines)

    sound_within : LinesWithin (plain_lines ls)
    sound_within =
        let bad = bad_of_64 (plain_lines ls) in
        all_within 0 (plain_lines ls) (omega (arith, (shared-list part (plain_lines ls) first_told).sound, bad.0))

    pub shared-within : CountedWithin (plain_lines s.lines) count
    shared-within = (
      h,
      subst LinesWithin (sym (take_map (λ l. l.line) count s.lines ∙ ap (λ (x : List LimitedLine). plain_lines x) lines_are))
          (within_ceiled (ceiling part ls).parts (cleared_lines ls) (within_cleared ls sound_within)),
    )

    gap-told : s.gap.0 ≡ gap (plain_lines ls)
    gap-told = ap (λ (x : Ceiled). x.gap.0) array_is ∙ gap_kept part ls none_told ∙ gap_is part (plain_lines ls) first_told

    below-told : lt_z s.gap.0 (pos 0) ≡ below (plain_lines ls)
    unfolding gap
    below-told = ap (λ (z : ℤ). lt_z z (pos 0)) gap-told ∙ below_is (assessed (plain_lines ls)) (compensated (plain_lines ls))

    pub shared_is : (header : Header) (calls : ℕ) (negative : Bool) (rows : List Row) → header ≡ header_at book → calls ≡ count_at book
        → negative ≡ lt_z s.gap.0 (pos 0) → rows ≡ filled_rows (rows_in negative (take count s.lines) (take count grains) ramped)
        → ◌≡◌ {A = Statement}
        (record { fault = NoFault; header = header; calls = calls; part = part; gap = s.gap; user = s.user; count = count; rows = rows })
        (shared_month part book ls (take count grains) ramped (ceiling part ls))
    unfolding shared_month
    shared_is header calls negative rows eh ec en er =
        let all : rows ≡ filled_rows (rows_of (below (plain_lines ls)) (plain_lines ls) (take count grains) ramped (ceiling part ls).parts) =
        er ∙ rw (en, below-told, lines_are) (ap filled_rows (rows_filled (below (plain_lines ls)) ls (take count grains) ramped (ceiling part ls).parts each)) in
        let g : s.gap.0 ≡ (ceiling part ls).gap = ap (λ (x : Ceiled). x.gap.0) array_is in
        let u : s.user.0 ≡ (ceiling part ls).user = ap (λ (x : Ceiled). x.user.0) array_is in
        rw (eq-eqb (ceiling part ls).number 0 none_told)
        (λ i. record { fault = NoFault; header = eh i; calls = ec i; part = part; gap = record { 0 = g i }; user = record { 0 = u i }; count = sym length_ls i; rows = all i })

-- The members

pub earned_refused : (part : ℕ) (es : List Entry) (book : List ℕ) (ramped : List Ramped) (earned : List MemberEarned) (fault : Fault) → first_refused_member earned < length earned
    → fault ≡ member_fault (first_refused_member earned) (get_or earned (first_refused_member earned) (NotScored 0 0)) → month_refused fault ≡ earned_month part es book ramped earned
unfolding earned_month
earned_refused part es book ramped earned fault h e = rw (lt-ltb _ _ h, e) refl

pub earned_shared : (part : ℕ) (entries : List Entry) (book : List ℕ) (ramped : List Ramped) (earned : List MemberEarned) (count : ℕ)
    → (grains : List Grains) (fens : List Fen) (lines : List LimitedLine) → first_refused_member earned ≡ length earned → take count grains ≡ map earned_grains earned
    → fens ≡ compensations grains → lines ≡ limited_for entries fens
    → shared_month part book (take count lines) (take count grains) ramped (ceiling part (take count lines)) ≡ earned_month part (take count entries) book ramped earned
unfolding earned_month month_lines
earned_shared part entries book ramped earned count grains fens lines none eg ef el =
    let all : take count lines ≡ limited_for (take count entries) (compensations (map earned_grains earned)) =
    ap (take count) el ∙ take_lines count entries fens
    ∙ ap (limited_for (take count entries)) (ap (take count) ef ∙ take_map fen_of count grains ∙ ap compensations eg) in
    rw (le-ltb (first_refused_member earned) (length earned) (omega arith), eg, all) refl

-- The month

pub take_seen : (entries : List Entry) (count n : ℕ) → length entries ≡ 64 → n ≡ min count 64 → take n entries ≡ take count entries
take_seen entries count n e m = go (dec_le count 64)
  where
    go : Dec (count ≤ 64) → take n entries ≡ take count entries
    go (yes f) = ap (λ (k : ℕ). take k entries) (m ∙ min-eq_left f)
    go (no f) =
        let same : n ≡ 64 = m ∙ min-eq_right (omega arith) in
        take_all n entries (omega arith) ∙ sym (take_all count entries (omega arith))

-- no bad entry before the count: there are at most 64
pub few_entries : (entries : List Entry) (count : ℕ) → length entries ≡ 64 → count ≤ first_bad_entry 0 (take count entries) → count ≤ 64
few_entries entries count e h =
    omega (arith, bad_le 0 (take count entries), length-take count entries)

module _ (g : MonthGiven) where
  abbrev bad : ℕ
  bad = first_bad_entry 0 g.entries

  pub in_part : most_part < g.part → month_refused InPart ≡ settling g
  unfolding settling
  in_part h = rw (lt-ltb most_part g.part h) refl

  module _ (fair : g.part ≤ most_part) where
    pub in_register : bad < g.count → month_refused (InRegister bad) ≡ settling g
    unfolding settling
    in_register h = rw (le-ltb most_part g.part fair, lt-ltb bad g.count h) refl

    module _ (sound : g.count ≤ bad) where
      pub in_book : (v : Verdict) → v ≡ check g.book → (v.number ≡ 0 → ⊥) → month_refused (InBook v.number v.place) ≡ settling g
      unfolding settling
      in_book v e some = rw (le-ltb most_part g.part fair, le-ltb bad g.count sound, ← e, ne_eqb v.number 0 some) refl

      module _ (none : (check g.book).number ≡ 0) where
        pub unlisted : (n i : ℕ) → n ≡ count_at g.book → i ≡ first_unlisted g.entries (calls_from g.book 0 n) → i < n → month_refused (Unlisted i) ≡ settling g
        unfolding settling calls_of
        unlisted n i en ei h =
            let is : i ≡ first_unlisted g.entries (calls_from g.book 0 (count_at g.book)) = ei ∙ ap (λ (k : ℕ). first_unlisted g.entries (calls_from g.book 0 k)) en in
            rw (le-ltb most_part g.part fair, le-ltb bad g.count sound, none, ← is, ← en, lt-ltb i n h) refl

        pub listed : (n i : ℕ) → n ≡ count_at g.book → i ≡ first_unlisted g.entries (calls_from g.book 0 n) → n ≤ i
            → earned_month g.part g.entries g.book g.ramped (earnings g.entries g.book g.series g.lengths g.ramped) ≡ settling g
        unfolding settling calls_of
        listed n i en ei h =
            let is : i ≡ first_unlisted g.entries (calls_from g.book 0 (count_at g.book)) = ei ∙ ap (λ (k : ℕ). first_unlisted g.entries (calls_from g.book 0 k)) en in
            rw (le-ltb most_part g.part fair, le-ltb bad g.count sound, none, ← is, ← en, le-ltb i n h) refl
