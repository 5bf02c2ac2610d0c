-- Each outcome of a join comes out exactly under its condition, in the paper's order. Assumes nothing.
use mathlib.Core.Path.{◌≡◌, refl, sym, ◌∙◌, ap}
use mathlib.Core.Bool.{Bool, true, false}
use mathlib.Core.Logic.{inl, inr, ◌↔◌, ◌≢◌}
use mathlib.Core.List.{List}
use Prim.Native.Nat.{ℕ, ◌≤◌}
use native.Mathlib.Omega.{arith}
use native.Mathlib.Decide.{dec_le, ℕ_discrete}
use lib.ListN.{length}
use Rattle.le.specs.Le.{IsBytes}
use Rattle.le.proofs.Tests.{fails, refuted}
use Rattle.book.specs.declared.Header.{Header}
use Rattle.book.specs.declared.Verdict.{Verdict}
use Rattle.book.specs.Book.{most_keys, size_of, header_at}
use Rattle.book.specs.Check.{accepted, check}
use Rattle.book.proofs.Exact.{accepted_exactly, sound_accepted}
use Rattle.book.proofs.Numbers.{refused_exactly}
use Rattle.pair.specs.Screening.{same_month, screen}
use Rattle.book.proofs.Judged.{Judged, check_judged, zero_accepted}
use Rattle.pair.proofs.Screening.{both_first, screen_both, screen_month, screen_passes, second_raised}
use Rattle.join.specs.Joining.{JoinOutcome, join_refused, keys_of_both, joining}
use Rattle.join.specs.Verdict.{Differ, Alike, JoinVerdict, first_refused_lem, second_refused, seven, eight, nine, joined}
use Rattle.join.proofs.WaysOut.{Way, screened, many, short, joins, way, over_many, over_short, refuse_screened, refuse_over, joins_both}
use Rattle.join.proofs.Trees.{same_month_lem}
use Rattle.join.proofs.Accepted.{one_header}

-- Year, month and area, as a test and as a condition

module _ (h k : Header) where
  pub one_month : h.year ≡ k.year → h.month ≡ k.month → h.area ≡ k.area → same_month h k ≡ true
  one_month y m a =
      let e : h ≡ k = λ i. record { area = a i; year = y i; month = m i } in
      rw e (same_month_lem k)

  pub differs : Differ h k → same_month h k ≡ false
  differs d = fails (same_month h k) (one_header h k) (apart d)
    where
      apart : Differ h k → h ≡ k → ⊥
      apart (inl n) e = n (ap (λ (x : Header). x.year) e)
      apart (inr (inl n)) e = n (ap (λ (x : Header). x.month) e)
      apart (inr (inr n)) e = n (ap (λ (x : Header). x.area) e)

  pub differ : same_month h k ≡ false → Differ h k
  differ f = go (ℕ_discrete h.year k.year) (ℕ_discrete h.month k.month) (ℕ_discrete h.area k.area)
    where
      go : Dec (h.year ≡ k.year) → Dec (h.month ≡ k.month) → Dec (h.area ≡ k.area) → Differ h k
      go (no y) m a = inl y
      go (yes y) (no m) a = inr (inl m)
      go (yes y) (yes m) (no a) = inr (inr a)
      go (yes y) (yes m) (yes a) = absurd (refuted (same_month h k) (λ (e : h ≡ k). rw e (same_month_lem k)) f (λ i. record { area = a i; year = y i; month = m i }))

-- a verdict of the check that is not acceptance has a number
pub not_zero : (b : List ℕ) (v : Verdict) → check b ≡ v → v ≢ accepted → v.number ≡ 0 → ⊥
not_zero b v c n z = n (sym c ∙ zero_accepted b (ap (λ (w : Verdict). w.number) c ∙ z))

module _ (a b out : List ℕ) (small_a : IsBytes a) (small_b : IsBytes b) where
  -- a row that holds is the outcome
  passes : Alike a b → screen a b ≡ accepted
  passes l =
      sym (screen_passes a b (sound_accepted a l.first_sound) (sound_accepted b l.second_sound)
      (one_month (header_at a) (header_at b) l.year l.month l.area))

  from_row : (o : JoinOutcome) → JoinVerdict a b out o → joining a b out ≡ o
  from_row o (first_refused_lem v r n e) =
      let c = (refused_exactly a small_a v).1 r in
      let z = not_zero a v c n in
      sym (refuse_screened a b out v (screen_both a b v (both_first a b v (sym c) z) z) z) ∙ sym e
  from_row o (second_refused v s r n e) =
      let c = (refused_exactly b small_b v).1 r in
      sym (refuse_screened a b out _ (sym (second_raised a b (sound_accepted a s) v.number v.place c (not_zero b v c n))) (λ z. omega arith)) ∙ sym e
  from_row o (seven s t d e) =
      sym (refuse_screened a b out _ (screen_month a b (sound_accepted a s) (sound_accepted b t) (differs (header_at a) (header_at b) d)) (λ z. omega arith)) ∙ sym e
  from_row o (eight l f e) = sym (refuse_over a b out (passes l) _ (over_many (keys_of_both a b) (length out) f) (λ z. omega arith)) ∙ sym e
  from_row o (nine l f r e) = sym (refuse_over a b out (passes l) _ (over_short (keys_of_both a b) (length out) f r) (λ z. omega arith)) ∙ sym e
  from_row o (joined l f r e) = sym (joins_both a b out (passes l) f r) ∙ sym e

  -- and some row holds
  some : (o : JoinOutcome) × JoinVerdict a b out o
  some = go (check_judged a) (check_judged b)
    where
      n : ℕ
      n = keys_of_both a b

      alike : check a ≡ accepted → check b ≡ accepted → same_month (header_at a) (header_at b) ≡ true → Alike a b
      alike p q m =
          let e = one_header (header_at a) (header_at b) m in
          record {
            first_sound = (accepted_exactly a small_a).0 p;
            second_sound = (accepted_exactly b small_b).0 q;
            year = ap (λ (x : Header). x.year) e;
            month = ap (λ (x : Header). x.month) e;
            area = ap (λ (x : Header). x.area) e;
          }

      together : check a ≡ accepted → check b ≡ accepted → (t : Bool) → same_month (header_at a) (header_at b) ≡ t
          → Dec (n ≤ most_keys) → Dec (size_of n ≤ length out) → (o : JoinOutcome) × JoinVerdict a b out o
      together p q false m f r = (_, seven ((accepted_exactly a small_a).0 p) ((accepted_exactly b small_b).0 q) (differ (header_at a) (header_at b) m) refl)
      together p q true m (no f) r = (_, eight (alike p q m) (omega arith) refl)
      together p q true m (yes f) (no r) = (_, nine (alike p q m) f (omega arith) refl)
      together p q true m (yes f) (yes r) = (_, joined (alike p q m) f r refl)

      bad : (v w : Verdict) → v ≡ w → 1 ≤ v.number → w ≢ accepted
      bad v w e l f = let z : v.number ≡ 0 = ap (λ (x : Verdict). x.number) (e ∙ f) in omega arith

      go : Judged (check a) → Judged (check b) → (o : JoinOutcome) × JoinVerdict a b out o
      go (inr p) q = (_, first_refused_lem (check a) ((refused_exactly a small_a (check a)).0 refl) (bad (check a) (check a) refl p.0) refl)
      go (inl p) (inr q) =
          (_, second_refused (check b) ((accepted_exactly a small_a).0 p) ((refused_exactly b small_b (check b)).0 refl) (bad (check b) (check b) refl q.0) refl)
      go (inl p) (inl q) = together p q (same_month (header_at a) (header_at b)) refl (dec_le n most_keys) (dec_le (size_of n) (length out))

  -- Each refusal of a join, with its place, and the joined book come out exactly under their row's condition.
  pub join_exact : (o : JoinOutcome) → (joining a b out ≡ o) ↔ JoinVerdict a b out o
  join_exact o = ((λ e. let s = some in rw (sym (from_row s.0 s.1) ∙ e) at s.1), from_row o)

-- a refused join tells no length and no turn, and leaves the output as it was
pub join_kept : (a b out : List ℕ) → (joining a b out).number ≢ 0 → ((joining a b out).size ≡ 0) × ((joining a b out).turns ≡ 0) × ((joining a b out).out ≡ out)
join_kept a b out n = go (way a b out)
  where
    of : {v : Verdict} → join_refused v out ≡ joining a b out → ((joining a b out).size ≡ 0) × ((joining a b out).turns ≡ 0) × ((joining a b out).out ≡ out)
    of e = (ap (λ (o : JoinOutcome). o.size) (sym e), ap (λ (o : JoinOutcome). o.turns) (sym e), ap (λ (o : JoinOutcome). o.out) (sym e))

    go : Way a b out → ((joining a b out).size ≡ 0) × ((joining a b out).turns ≡ 0) × ((joining a b out).out ≡ out)
    go (screened s e) = of e
    go (many s f e) = of e
    go (short s r e) = of e
    go (joins s f e) = absurd (n (ap (λ (o : JoinOutcome). o.number) (sym e)))
