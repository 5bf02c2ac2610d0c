-- The desk's two parts, joined in turn into a sound book that has the window, cut it. Assumes nothing.
use mathlib.Core.Path.{refl, sym}
use mathlib.Core.List.{List, [], ◌∷◌}
use Prim.Native.Nat.{ℕ}
use native.Mathlib.Omega.{arith}
use Rattle.call.specs.declared.Call.{Call}
use Rattle.book.specs.Sound.{Sound}
use Rattle.book.proofs.Writing.{Numbered}
use Rattle.book.specs.Cut.{first_keeps, Cuttable, Cut}
use Rattle.cutting.specs.Parts.{first_part_of, second_part_of, MayCut}
use Rattle.book.proofs.Parts.{call_within}
use Rattle.join.proofs.Cutting.{Room, BothAccepted, both_joined, forward, KeptHigher, cut_entered, cut_accepted}

module _ (b : List ℕ) (s : Sound b) (whole : Call) (at number : ℕ) (may : MayCut b whole at number) where
  abbrev first : Call
  first = first_part_of whole at

  abbrev second : Call
  second = second_part_of whole at number

  pub desk_asked : Cuttable b whole first second
  desk_asked =
      let stood = (call_within b s whole may.has).revision.0 in
      let low = may.inside.0 in
      let high = may.inside.1 in
      record {
        has = may.has;
        live = may.live;
        window = may.window;
        first_part = record { live = refl; participant = refl; service = refl; same_a = refl; no_b = refl; no_c = refl; revision = omega (arith, stood) };
        second_part = record { live = refl; participant = refl; service = refl; same_a = refl; no_b = refl; no_c = refl; revision = omega arith };
        begins = refl;
        meet = omega arith;
        ends = omega arith;
        quarter = may.quarter;
        inside = (low, high);
        numbers = first_keeps refl may.fresh;
      }

  numbered : Numbered (first ∷ second ∷ [])
  numbered = (((call_within b s whole may.has).number, omega (arith, may.not_last)), ((may.small, omega arith), tt))

  higher : KeptHigher whole first second
  higher = record { first_higher = λ e. omega arith; second_higher = λ e. absurd (may.fresh whole may.has refl (sym e)) }

  -- THE DESK CUTS: where the book may be cut so and there is room, both parts are accepted in turn, and the book that is left is sound, and a cut of the first one.
  pub desk_cuts : (page out page' out' : List ℕ) → Room b page out page' out'
      → BothAccepted b first second page out page' out' × Sound (both_joined b first second page out page' out') × Cut b (both_joined b first second page out page' out') whole first second
  desk_cuts page out page' out' room =
      let both = cut_accepted b s whole first second desk_asked numbered higher page out page' out' first second forward room in
      let c = cut_entered b s whole first second desk_asked numbered higher page out page' out' first second forward both in
      (both, c.0, c.1)
