-- The statement, stage by stage. Assumes nothing.
use mathlib.Core.Path.{◌≡◌, refl, sym, ap, ◌∙◌}
use mathlib.Core.Bool.{Bool, true, false}
use mathlib.Core.List.{List, [], ◌∷◌}
use Prim.Native.Nat.{ℕ, zero, suc, ◌≤◌, ◌<◌}
use native.Mathlib.Omega.{arith}
use borrow.Author.Tests.{eq-eqb, ne_eqb, lt-ltb, le-ltb}
use lib.ListN.{length, take, length-map}
use lib.Seq.{length-take-le, take_all}
use Rattle.share.specs.declared.Line.{Line}
use Rattle.share.specs.declared.Shared.{Shared}
use Rattle.share.specs.Sharing.{SharingOutcome, sharing}
use Rattle.share.specs.Forms.{fill_in, clear, cleared, array_of, shared_array}
use Rattle.share.proofs.Counted.{counted_few}
use Rattle.ceiling.specs.declared.LimitedLine.{LimitedLine}
use Rattle.ceiling.specs.declared.Ceiled.{Ceiled}
use Rattle.ceiling.specs.Ceiling.{CeiledPart, CeilingOutcome, ceiling}
use Rattle.ceiling.specs.Forms.{ceiled_line, ceiled_lines, cleared_line, cleared_lines, ceiled_of, ceiled_array}
use Rattle.ceiling.specs.Inner.{parts_in}
use Rattle.ceiling.proofs.Places.{parts_back}
use Rattle.ceiling.proofs.PastFirst.{long_parts}
use Rattle.ceiling.proofs.Outcomes.{taken_list, each_given}
use Rattle.month.specs.declared.Row.{Row}
use Rattle.month.specs.declared.Statement.{Statement}
use Rattle.month.proofs.Settled.{take_map}
use Rattle.std.specs.Prelude.{Err}
use Rattle.fitting.specs.declared.Finding.TheVariants.{NotShared}
use Rattle.fitting.specs.Fitting.{Judged, is_fits, or_else, first_own, own_line, own_lines, own_limits, first_part_of, total_apart, user_apart, by_ceiling, by_sharing, is_below, finding_in}
use Rattle.fitting.specs.Inner.{got_of}
use Rattle.fitting.proofs.Findings.{or_fits, or_not}

-- lines that are filled in have their parts
got_back : (ps : List CeiledPart) (ls : List LimitedLine) → length ps ≡ length ls → got_of (ceiled_lines ps (cleared_lines ls)) ≡ ps
got_back [] [] h = refl
got_back [] (l ∷ ls) h = absurd (omega arith)
got_back (p ∷ ps) [] h = absurd (omega arith)
got_back (p ∷ ps) (l ∷ ls) h = ap (λ (xs : List CeiledPart). p ∷ xs) (got_back ps ls (omega arith))

take_ceiled : (n : ℕ) (ps : List CeiledPart) (ls : List LimitedLine) → length ps ≤ n → take n (ceiled_lines ps ls) ≡ ceiled_lines ps (take n ls)
take_ceiled n [] ls h = refl
take_ceiled zero (p ∷ ps) ls h = absurd (omega arith)
take_ceiled (suc n) (p ∷ ps) [] h = refl
take_ceiled (suc n) (p ∷ ps) (l ∷ ls) h = ap (λ (x : List LimitedLine). ceiled_line l p ∷ x) (take_ceiled n ps ls (omega arith))

-- Against the sharing within the limits
module _ (s : Statement) (h : s.count ≤ 64) (lines : List LimitedLine) (long : length lines ≡ 64) (x : Ceiled) (is : x ≡ ceiled_array s.part lines s.count) where
  abbrev ls : List LimitedLine
  ls = take s.count lines

  abbrev o : CeilingOutcome
  o = ceiling s.part ls

  length_ls : length ls ≡ s.count
  length_ls = length-take-le s.count lines (omega arith)

  array_is : x ≡ ceiled_of lines o
  unfolding ceiled_array ceiling
  array_is = is ∙ rw (length_ls, take_all 64 ls (omega (arith, length_ls))) refl

  number_is : x.number ≡ o.number
  number_is = ap (λ (y : Ceiled). y.number) array_is

  pub ceiling_refused_lem : (x.number ≡ 0 → ⊥) → Err (NotShared x.number x.place) ≡ by_ceiling s o
  unfolding by_ceiling
  ceiling_refused_lem some = rw (number_is, ap (λ (y : Ceiled). y.place) array_is, ne_eqb o.number 0 (λ e. some (number_is ∙ e))) refl

  module _ (none : x.number ≡ 0) where
    told : o.number ≡ 0
    told = sym number_is ∙ none

    each : length o.parts ≡ length ls
    unfolding ceiling
    each = each_given s.part _ (length ls) ls (taken_list s.part ls told)

    lines_are : got_of (take s.count x.lines) ≡ o.parts
    lines_are =
        ap (λ (y : Ceiled). got_of (take s.count y.lines)) array_is
        ∙ ap got_of (take_ceiled s.count o.parts (cleared_lines lines) (omega (arith, each, length_ls)) ∙ ap (ceiled_lines o.parts) (take_map (λ l. cleared_line l) s.count lines))
        ∙ got_back o.parts ls each

    abbrev rest : Judged
    rest = or_else (first_part_of 1 (take s.count s.rows) o.parts) (user_apart s o.user)

    by_is : by_ceiling s o ≡ or_else (total_apart s o.gap) rest
    unfolding by_ceiling
    by_is = rw (eq-eqb o.number 0 told)

    module _ (t : Judged) (et : t ≡ total_apart s x.gap.0) where
      own_total : t ≡ total_apart s o.gap
      own_total = et ∙ ap (λ (y : Ceiled). total_apart s y.gap.0) array_is

      pub total_told : is_fits t ≡ false → t ≡ by_ceiling s o
      total_told f = own_total ∙ sym (by_is ∙ or_not (total_apart s o.gap) rest (ap is_fits (sym own_total) ∙ f))

      module _ (ft : is_fits t ≡ true) (m : Judged) (em : m ≡ first_part_of 1 (take s.count s.rows) (got_of (take s.count x.lines))) where
        behind_total : by_ceiling s o ≡ rest
        behind_total = by_is ∙ or_fits (total_apart s o.gap) rest (ap is_fits (sym own_total) ∙ ft)

        own_parts : m ≡ first_part_of 1 (take s.count s.rows) o.parts
        own_parts = em ∙ ap (first_part_of 1 (take s.count s.rows)) lines_are

        pub parts_told : is_fits m ≡ false → m ≡ by_ceiling s o
        parts_told f = own_parts ∙ sym (behind_total ∙ or_not (first_part_of 1 (take s.count s.rows) o.parts) (user_apart s o.user) (ap is_fits (sym own_parts) ∙ f))

        pub user_told : is_fits m ≡ true → (u : Judged) → u ≡ user_apart s x.user.0 → u ≡ by_ceiling s o
        user_told f u eu =
            eu ∙ ap (λ (y : Ceiled). user_apart s y.user.0) array_is
            ∙ sym (behind_total ∙ or_fits (first_part_of 1 (take s.count s.rows) o.parts) (user_apart s o.user) (ap is_fits (sym own_parts) ∙ f))

-- The statement
module _ (s : Statement) where
  pub too_many : 64 < s.count → Err (NotShared 10 64) ≡ finding_in s
  unfolding finding_in
  too_many h = rw (lt-ltb 64 s.count h)

  module _ (few : s.count ≤ 64) where
    abbrev rs : List Row
    rs = take s.count s.rows

    abbrev own : Judged
    own = first_own (is_below s) 1 rs

    abbrev first : SharingOutcome
    first = sharing s.part (own_lines (is_below s) rs)

    in_turn : finding_in s ≡ or_else own (by_sharing (is_below s) s first)
    unfolding finding_in
    in_turn = rw (le-ltb 64 s.count few)

    module _ (b : Bool) (eb : b ≡ is_below s) (f : Judged) (ef : f ≡ first_own b 1 rs) where
      own_is : f ≡ own
      own_is = ef ∙ ap (λ (c : Bool). first_own c 1 rs) eb

      pub own_told : is_fits f ≡ false → f ≡ finding_in s
      own_told n = own_is ∙ sym (in_turn ∙ or_not own (by_sharing (is_below s) s first) (ap is_fits (sym own_is) ∙ n))

      module _ (fits : is_fits f ≡ true) (long : length s.rows ≡ 64) (lines : List Line) (el : lines ≡ own_lines b s.rows) (x : Shared) (ex : x ≡ shared_array s.part lines s.count) where
        on : finding_in s ≡ by_sharing (is_below s) s first
        on = in_turn ∙ or_fits own (by_sharing (is_below s) s first) (ap is_fits (sym own_is) ∙ fits)

        lines_is : lines ≡ own_lines (is_below s) s.rows
        lines_is = el ∙ ap (λ (c : Bool). own_lines c s.rows) eb

        wide : length lines ≡ 64
        wide = ap length lines_is ∙ length-map s.rows (own_line (is_below s)) ∙ long

        front : take s.count lines ≡ own_lines (is_below s) rs
        front = ap (take s.count) lines_is ∙ take_map (own_line (is_below s)) s.count s.rows

        shared_is : x ≡ array_of lines first
        unfolding shared_array
        shared_is = ex ∙ ap (array_of lines) (counted_few s.part lines s.count (omega (arith, wide, few)) ∙ ap (sharing s.part) front)

        first_number : x.number ≡ first.number
        first_number = ap (λ (y : Shared). y.number) shared_is

        pub sharing_refused_lem : (x.number ≡ 0 → ⊥) → Err (NotShared x.number x.place) ≡ finding_in s
        unfolding by_sharing
        sharing_refused_lem some =
            rw (first_number, ap (λ (y : Shared). y.place) shared_is) (sym (on ∙ rw (ne_eqb first.number 0 (λ e. some (first_number ∙ e))) refl))

        module _ (none : x.number ≡ 0) where
          told_first : first.number ≡ 0
          told_first = sym first_number ∙ none

          long_first : length first.parts ≡ s.count
          long_first =
              long_parts s.part (own_lines (is_below s) rs) told_first ∙ length-map rs (own_line (is_below s)) ∙ length-take-le s.count s.rows (omega (arith, long, few))

          parts_are : parts_in (take s.count x.lines) ≡ first.parts
          parts_are =
              ap (λ (y : Shared). parts_in (take s.count y.lines)) shared_is
              ∙ ap (λ (n : ℕ). parts_in (take n (fill_in first.parts (clear lines)))) (sym long_first)
              ∙ parts_back first.parts (clear lines) (rw (length-map lines (λ l. cleared l)) (omega (arith, long_first, wide, few)))

          pub rest_told : (limited : List LimitedLine) → take s.count limited ≡ own_limits b rs (parts_in (take s.count x.lines))
              → (r : Judged) → r ≡ by_ceiling s (ceiling s.part (take s.count limited)) → r ≡ finding_in s
          unfolding by_sharing
          rest_told limited e r er =
              let same : take s.count limited ≡ own_limits (is_below s) rs first.parts =
              e ∙ ap (λ (c : Bool). own_limits c rs (parts_in (take s.count x.lines))) eb ∙ ap (own_limits (is_below s) rs) parts_are in
              er ∙ ap (λ (ks : List LimitedLine). by_ceiling s (ceiling s.part ks)) same ∙ sym (on ∙ rw (eq-eqb first.number 0 told_first) refl)
