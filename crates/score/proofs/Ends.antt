-- The latest ends: a call that starts no earlier than its service's clashes with none before it, and every record's turn keeps them. Assumes nothing.
use mathlib.Core.Path.{◌≡◌, refl, sym, ◌∙◌, ap}
use mathlib.Core.Bool.{Bool, true, false, cond, ◌&&◌, ◌||◌}
use mathlib.Core.List.{List, [], ◌∷◌}
use Prim.Native.Nat.{ℕ, zero, suc, ◌+◌, ◌≤◌, ◌<◌}
use native.Mathlib.Nat.{not-suc-le-zero, le_refl}
use native.Mathlib.Numerals.{add-one}
use native.Mathlib.Decide.{dec_le, ℕ_discrete}
use native.Mathlib.Omega.{arith}
use lib.Dec.{eqb, ltb, leb}
use lib.ListN.{get_or, set, length-set, replicate, get_or-replicate}
use lib.Seq.{get_or-set_same, get_or-set_other}
use borrow.Author.Tests.{eq-eqb, ne_eqb, le-ltb, le-leb, ltb-true, ltb-false, leb-true, leb-false}
use Rattle.le.proofs.Tests.{each}
use Rattle.call.specs.declared.Call.{Call}
use Rattle.call.specs.Revising.{live}
use Rattle.call.specs.Services.{standby, black_start, agc_availability, agc_contribution, avc}
use Rattle.pay.specs.declared.Member.{Member}
use Rattle.pay.specs.Inner.{is_by_energy}
use Rattle.pay.proofs.Cases.{energy_service}
use Rattle.score.specs.First.{any_below}
use Rattle.score.specs.Refusing.{overlaps, is_once, clashes, clash_at}
use Rattle.score.specs.Scoring.{is_own_live}
use Rattle.score.specs.Inner.{NoneBefore, later, end_of, latest_end, EndsKept, with_end, starts_after}
use Rattle.score.proofs.First.{any_zero}

-- the later of two comes before neither
later_most : (m n : ℕ) → (m ≤ later m n) × (n ≤ later m n)
unfolding later
later_most m n = go (ltb m n) refl
  where
    go : (t : Bool) → ltb m n ≡ t → (m ≤ cond t n m) × (n ≤ cond t n m)
    go true e = let l = ltb-true m n e in (omega arith, le_refl n)
    go false e = (le_refl m, ltb-false m n e)

later_zero : (m : ℕ) → later m 0 ≡ m
unfolding later
later_zero m = rw (le-ltb m 0 (omega arith)) refl

module _ (number service : ℕ) (book : ℕ → Call) where
  latest_none : latest_end number service book 0 ≡ 0
  unfolding latest_end
  latest_none = refl

  latest_suc : (i : ℕ) → latest_end number service book (suc i) ≡ later (latest_end number service book i) (end_of number service (book i))
  unfolding latest_end
  latest_suc i = refl

  latest_more : (i : ℕ) → latest_end number service book (i + 1) ≡ later (latest_end number service book i) (end_of number service (book i))
  latest_more i = rw add-one (latest_suc i)

  -- a record that ends nothing of the service leaves its latest end
  latest_same : (i : ℕ) → end_of number service (book i) ≡ 0 → latest_end number service book (i + 1) ≡ latest_end number service book i
  latest_same i e = latest_more i ∙ rw e (later_zero (latest_end number service book i))

  -- no call among the first i ends later
  pub latest_last : (i j : ℕ) → j < i → end_of number service (book j) ≤ latest_end number service book i
  latest_last zero j l = absurd (not-suc-le-zero l)
  latest_last (suc i) j l = rw (latest_suc i) (go (dec_le i j) (latest_last i j))
    where
      most : (latest_end number service book i ≤ later (latest_end number service book i) (end_of number service (book i)))
          × (end_of number service (book i) ≤ later (latest_end number service book i) (end_of number service (book i)))
      most = later_most (latest_end number service book i) (end_of number service (book i))

      go : Dec (i ≤ j) → (j < i → end_of number service (book j) ≤ latest_end number service book i)
          → end_of number service (book j) ≤ later (latest_end number service book i) (end_of number service (book i))
      go (yes p) ih = let q : j ≡ i = omega arith in rw q most.1
      go (no p) ih = let h = ih (omega arith) in omega (arith, h, most.0)

once_not : (service : ℕ) → service ≤ standby → is_once service ≡ false
unfolding is_once
once_not service l =
    rw (
      ne_eqb service black_start (λ e. omega arith),
      ne_eqb service agc_availability (λ e. omega arith),
      ne_eqb service agc_contribution (λ e. omega arith),
      ne_eqb service avc (λ e. omega arith),
    ) refl

-- y has ended where x starts
clash_ended : (number : ℕ) (x y : Call) → x.service ≤ standby → end_of number x.service y ≤ x.start → clashes number x y ≡ false
unfolding clashes end_of overlaps
clash_ended number x y s h = go (eqb y.participant number && eqb y.state live && eqb y.service x.service) h
  where
    go : (t : Bool) → cond t (y.start + y.length) 0 ≤ x.start
        → (t && (leb x.service standby && (ltb x.start (y.start + y.length) && ltb y.start (x.start + x.length)) || is_once x.service)) ≡ false
    go false h = refl
    go true h = rw (le-leb x.service standby s, le-ltb x.start (y.start + y.length) h) (once_not x.service s)

-- a call that starts at the latest end of its service or later clashes with none before it
pub starts_after_lem : (number : ℕ) (x : Call) (book : ℕ → Call) (i : ℕ) → x.service ≤ standby → latest_end number x.service book i ≤ x.start → any_below (clash_at number x book) i ≡ false
unfolding clash_at
starts_after_lem number x book i s h =
    any_zero (clash_at number x book) i (λ j l. let e = latest_last number x.service book i j l in clash_ended number x (book j) s (omega (arith, e, h)))

pub no_search : (number : ℕ) (x : Call) (book : ℕ → Call) (i : ℕ) (ends : List ℕ) → EndsKept number book i ends → starts_after x ends ≡ true → any_below (clash_at number x book) i ≡ false
unfolding starts_after
no_search number x book i ends k h =
    let p = each (leb x.service standby) (leb (get_or ends x.service 0) x.start ∷ []) h in
    let s = leb-true x.service standby p.0 in
    starts_after_lem number x book i s (rw (← k.latest x.service s) (leb-true (get_or ends x.service 0) x.start p.1.0))

-- What a record ends of a service
and_false : (t : Bool) → (t && false) ≡ false
and_false true = refl
and_false false = refl

end_other : (number service : ℕ) (y : Call) → (y.participant ≡ number → ⊥) → end_of number service y ≡ 0
unfolding end_of
end_other number service y n = rw (ne_eqb y.participant number n) refl

module _ (m : Member) (service : ℕ) (y : Call) where
  end_own : is_own_live m y ≡ true → y.service ≡ service → end_of m.number service y ≡ y.start + y.length
  unfolding is_own_live end_of
  end_own o e = rw (o, eq-eqb y.service service e) refl

  end_idle : is_own_live m y ≡ false → end_of m.number service y ≡ 0
  unfolding is_own_live end_of
  end_idle o = rw o refl

  end_apart : (y.service ≡ service → ⊥) → end_of m.number service y ≡ 0
  unfolding end_of
  end_apart n = rw (ne_eqb y.service service n, and_false (eqb y.participant m.number && eqb y.state live)) refl

-- Record i's turn
module _ (m : Member) (book : ℕ → Call) (i : ℕ) (ends : List ℕ) (k : EndsKept m.number book i ends) where
  kept_same : ((service : ℕ) → service ≤ standby → end_of m.number service (book i) ≡ 0) → EndsKept m.number book (i + 1) ends
  kept_same z = record {
    room = k.room;
    latest = λ service l. k.latest service l ∙ sym (latest_same m.number service book i (z service l));
  }

  -- one that is not a live call of the member
  pub kept_idle : is_own_live m (book i) ≡ false → EndsKept m.number book (i + 1) ends
  kept_idle o = kept_same (λ service l. end_idle m service (book i) o)

  -- one of another service
  kept_above : standby < (book i).service → EndsKept m.number book (i + 1) ends
  kept_above h = kept_same (λ service l. end_apart m service (book i) (λ e. omega arith))

  pub kept_event : is_by_energy m.kind (book i) ≡ true → EndsKept m.number book (i + 1) ends
  kept_event h = let e = energy_service m (book i) h in kept_above (omega (arith, e))

  -- a live call of the member
  pub kept_live : is_own_live m (book i) ≡ true → EndsKept m.number book (i + 1) (with_end (book i) ends)
  unfolding with_end
  kept_live o = go (leb (book i).service standby) refl
    where
      new : ℕ
      new = later (get_or ends (book i).service 0) ((book i).start + (book i).length)

      here : (service : ℕ) → service ≤ standby → Dec (service ≡ (book i).service) → get_or (set ends (book i).service new) service 0 ≡ latest_end m.number service book (i + 1)
      here service l (yes e) =
          ap (λ (s : ℕ). get_or (set ends (book i).service new) s 0) e
          ∙ get_or-set_same ends (book i).service new 0 (omega (arith, k.room))
          ∙ ap (λ (n : ℕ). later n ((book i).start + (book i).length)) (ap (λ (s : ℕ). get_or ends s 0) (sym e) ∙ k.latest service l)
          ∙ ap (later (latest_end m.number service book i)) (sym (end_own m service (book i) o (sym e)))
          ∙ sym (latest_more m.number service book i)
      here service l (no e) =
          get_or-set_other ends (book i).service service new 0 e
          ∙ k.latest service l ∙ sym (latest_same m.number service book i (end_apart m service (book i) (λ q. e (sym q))))

      go : (t : Bool) → leb (book i).service standby ≡ t → EndsKept m.number book (i + 1) (cond t (set ends (book i).service new) ends)
      go true e = record {
        room = rw (length-set ends (book i).service new) k.room;
        latest = λ service l. here service l (ℕ_discrete service (book i).service);
      }
      go false e = kept_above (leb-false (book i).service standby e)

latest_zero : (number service : ℕ) (book : ℕ → Call) (n : ℕ) → NoneBefore number book n → latest_end number service book n ≡ 0
latest_zero number service book zero h = latest_none number service book
latest_zero number service book (suc n) h =
    latest_suc number service book n
    ∙ rw (latest_zero number service book n (λ j l. h j (omega arith)), end_other number service (book n) (h n (omega arith))) (later_zero 0)

-- before the member's first record nothing has ended
pub kept_none : (number : ℕ) (book : ℕ → Call) (n : ℕ) → NoneBefore number book n → EndsKept number book n (replicate 5 0)
kept_none number book n h = record {
  room = omega arith;
  latest = λ service l. get_or-replicate 5 service 0 0 (omega arith) ∙ sym (latest_zero number service book n h);
}
