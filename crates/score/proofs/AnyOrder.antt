-- A score goes by which calls a member has, and not by their order: when it is accepted, and its grains. Assumes nothing.
use mathlib.Core.Path.{◌≡◌, sym, ◌∙◌, ap, ap₂}
use mathlib.Core.Bool.{true}
use mathlib.Core.Logic.{◌↔◌}
use mathlib.Core.List.{List, Memᴰ as In}
use Prim.Native.Nat.{ℕ, zero, suc, ◌+◌, ◌≤◌, ◌<◌}
use native.Mathlib.Decide.{dec_lt, ℕ_discrete}
use native.Mathlib.Omega.{arith}
use lib.IntN.{ℤ, ◌+ℤ◌, +ℤ_assoc, +ℤ_idl, +ℤ_idr}
use Rattle.units.specs.Money.{grains_to_fen}
use Rattle.call.specs.declared.Call.{Call}
use Rattle.call.specs.Key.{call_key}
use Rattle.call.specs.Revising.{live, contested, withdrawn}
use Rattle.book.specs.Book.{header_at, count_at, record_at, calls_from, calls_of}
use Rattle.book.specs.Check.{accepted, check, header_minutes}
use Rattle.book.proofs.Judged.{zero_accepted}
use Rattle.book.proofs.Without.{call_place}
use Rattle.pay.specs.declared.Member.{Member}
use Rattle.pay.specs.declared.open.Month.{Month}
use Rattle.pay.specs.Sum.{total, total_z}
use Rattle.pay.specs.Event.{energy_pay}
use Rattle.pay.specs.Open.{open_to}
use Rattle.pay.proofs.Sums.{total_none, total_one, total_split, total_z_none, total_z_suc}
use Rattle.score.specs.declared.answer.Score.{Score}
use Rattle.score.specs.declared.answer.Earned.TheVariants.{Accepted}
use Rattle.score.specs.Refusing.{refusal_at}
use Rattle.score.specs.Scoring.{wh_of, pay_at, wh_at, month_grains, month_at, grains_earned, in_fen, scoring}
use Rattle.score.specs.Outcomes.{Ready, Against, shares_minute, second, Passes, other, gone, good, Clear, ScoreOutcome}
use Rattle.score.specs.Outcomes.{bad_line_lem, bad_book, bad_length, bad_value, is_contested_lem, not_open_lem, stands_against_lem, scored}
use Rattle.score.proofs.Checked.{all_sound, all_rise}
use Rattle.score.proofs.First.{first_of_all}
use Rattle.score.proofs.Turns.{state_low, records_sum, score_is}
use Rattle.score.proofs.Exact.{of_passes, outcome, ready_records}
use Rattle.book.proofs.Without.{place_call}
use Rattle.score.specs.AnyOrder.{pay_of_all, wh_of_all, grains_of_all, OwnLive, Scorable}

-- Sums

module _ (m : Member) (series b : List ℕ) where
  pays_from_lem : (n s : ℕ) → pay_of_all m series (calls_from b s n) ≡ total (pay_at m series (record_at b)) s n
  unfolding pay_of_all calls_from pay_at
  pays_from_lem zero s = sym (total_none (pay_at m series (record_at b)) s)
  pays_from_lem (suc n) s =
      let f = pay_at m series (record_at b) in
      let e : suc n ≡ 1 + n = omega arith in
      let d : s + 1 ≡ suc s = omega arith in
      sym (ap (total f s) e ∙ total_split f s 1 n ∙ ap₂ ◌+◌ (total_one f s) (ap (λ (k : ℕ). total f k n) d ∙ sym (pays_from_lem n (suc s))))

  -- the first term of a signed sum
  first_term : (f : ℕ → ℤ) (n : ℕ) → total_z f (suc n) ≡ f 0 +ℤ total_z (λ i. f (suc i)) n
  first_term f zero = total_z_suc f 0 ∙ ap (λ (z : ℤ). z +ℤ f 0) (total_z_none f) ∙ +ℤ_idl (f 0) ∙ sym (ap (λ (z : ℤ). f 0 +ℤ z) (total_z_none (λ i. f (suc i))) ∙ +ℤ_idr (f 0))
  first_term f (suc n) =
      total_z_suc f (suc n) ∙ ap (λ (z : ℤ). z +ℤ f (suc n)) (first_term f n) ∙ +ℤ_assoc (f 0) (total_z (λ i. f (suc i)) n) (f (suc n))
      ∙ ap (λ (z : ℤ). f 0 +ℤ z) (sym (total_z_suc (λ i. f (suc i)) n))

  same_terms : (f g : ℕ → ℤ) (n : ℕ) → ((i : ℕ) → f i ≡ g i) → total_z f n ≡ total_z g n
  same_terms f g zero h = total_z_none f ∙ sym (total_z_none g)
  same_terms f g (suc n) h = total_z_suc f n ∙ ap₂ ◌+ℤ◌ (same_terms f g n h) (h n) ∙ sym (total_z_suc g n)

  whs_from : (n s : ℕ) → wh_of_all m (calls_from b s n) ≡ total_z (λ i. wh_of m (record_at b (s + i))) n
  unfolding wh_of_all calls_from
  whs_from zero s = sym (total_z_none (λ i. wh_of m (record_at b (s + i))))
  whs_from (suc n) s =
      let first : s ≡ s + 0 = omega arith in
      let next : (i : ℕ) → suc s + i ≡ s + suc i = λ i. omega arith in
      ap₂ ◌+ℤ◌ (ap (λ (k : ℕ). wh_of m (record_at b k)) first) (whs_from n (suc s) ∙ same_terms _ _ n (λ i. ap (λ (k : ℕ). wh_of m (record_at b k)) (next i)))
      ∙ sym (first_term (λ i. wh_of m (record_at b (s + i))) n)

  -- the month's grains over the records are those of the calls
  grains_of_calls : month_grains m series (record_at b) (count_at b) ≡ grains_of_all m series (calls_of b)
  unfolding month_grains grains_of_all calls_of wh_at
  grains_of_calls =
      let same : (i : ℕ) → wh_of m (record_at b (0 + i)) ≡ wh_of m (record_at b i) = λ i. let e : 0 + i ≡ i = omega arith in ap (λ (k : ℕ). wh_of m (record_at b k)) e in
      sym (ap₂ ◌+◌ (pays_from_lem (count_at b) 0) (ap energy_pay (whs_from (count_at b) 0 ∙ same_terms _ _ (count_at b) same)))

-- Standing against each other goes both ways

pub against_back : (m : Member) (x y : Call) → OwnLive m x → Against m.number x y → Against m.number y x
against_back m x y o (shares_minute s l p q) = shares_minute (record { own = o.own; live = o.live; service = sym s.service }) (omega (arith, s.service)) q p
against_back m x y o (second s l) = second (record { own = o.own; live = o.live; service = sym s.service }) (rw s.service l)

pub against_own : (m : Member) (x y : Call) → Against m.number x y → OwnLive m y
against_own m x y (shares_minute s l p q) = record { own = s.own; live = s.live }
against_own m x y (second s l) = record { own = s.own; live = s.live }

-- The records in turn and the calls in any order

module _ (month : Month) (m : Member) (book : ℕ → Call) (i : ℕ) where
  passes_own : OwnLive m (book i) → Passes month m book i → (open_to month m (book i) ≡ true) × ((j : ℕ) → j < i → Against m.number (book i) (book j) → ⊥)
  passes_own o (other n) = absurd (n o.own)
  passes_own o (gone p q) = absurd (let s = o.live in omega arith)
  passes_own o (good p q t n) = (t, n)

  passes_not : (book i).participant ≡ m.number → (book i).state ≡ contested → Passes month m book i → ⊥
  passes_not p q (other n) = n p
  passes_not p q (gone s t) = omega arith
  passes_not p q (good s t u n) = omega arith

module _ (month : Month) (m : Member) (b : List ℕ) (ok : check b ≡ accepted) where
  scorable_of : Clear month m (record_at b) (count_at b) → Scorable month m (calls_of b)
  scorable_of clear =
      record {
        uncontested = λ x i p q. let f = call_place b x i in passes_not month m (record_at b) f.0 (rw f.2 p) (rw f.2 q) (clear f.0 f.1);
        each_open = λ x i o. let f = call_place b x i in rw f.2 at (passes_own month m (record_at b) f.0 (rw f.2 o) (clear f.0 f.1)).0;
        apart = apart;
      }
    where
      earlier : (x y : Call) (u v : ℕ) → u < count_at b → v < u → record_at b u ≡ x → record_at b v ≡ y → OwnLive m x → Against m.number x y → ⊥
      earlier x y u v l h e f o a = (passes_own month m (record_at b) u (rw e o) (clear u l)).1 v h (rw (e, f) a)

      apart : (x y : Call) → In x (calls_of b) → In y (calls_of b) → (x ≡ y → ⊥) → OwnLive m x → Against m.number x y → ⊥
      apart x y i j d o a = go (dec_lt p.0 q.0) (dec_lt q.0 p.0)
        where
          p : (k : ℕ) × (k < count_at b) × (record_at b k ≡ x)
          p = call_place b x i

          q : (k : ℕ) × (k < count_at b) × (record_at b k ≡ y)
          q = call_place b y j

          go : Dec (p.0 < q.0) → Dec (q.0 < p.0) → ⊥
          go (yes h) t = earlier y x q.0 p.0 q.1 h q.2 p.2 (against_own m x y a) (against_back m x y o a)
          go (no h) (yes t) = earlier x y p.0 q.0 p.1 t p.2 q.2 o a
          go (no h) (no t) = let e : p.0 ≡ q.0 = omega arith in d (sym p.2 ∙ ap (record_at b) e ∙ q.2)

  clear_of : Scorable month m (calls_of b) → Clear month m (record_at b) (count_at b)
  clear_of s k l = own (ℕ_discrete (record_at b k).participant m.number)
    where
      low : (record_at b k).state ≤ withdrawn
      low = state_low (header_minutes (header_at b)) (record_at b k) (all_sound b ok k l)

      against : (record_at b k).participant ≡ m.number → (record_at b k).state ≡ live → (j : ℕ) → j < k → Against m.number (record_at b k) (record_at b j) → ⊥
      against p q j h a =
          s.apart (record_at b k) (record_at b j) (place_call b k l) (place_call b j (omega arith)) (λ e. omega (arith, all_rise b ok j k h l, ap call_key e))
          (record { own = p; live = q }) a

      stated : (record_at b k).participant ≡ m.number → Dec ((record_at b k).state ≡ withdrawn) → Dec ((record_at b k).state ≡ contested) → Passes month m (record_at b) k
      stated p (yes q) c = gone p q
      stated p (no q) (yes c) = absurd (s.uncontested (record_at b k) (place_call b k l) p c)
      stated p (no q) (no c) =
          let z : (record_at b k).state ≡ live = omega (arith, low) in
          good p z (s.each_open (record_at b k) (place_call b k l) (record { own = p; live = z })) (against p z)

      own : Dec ((record_at b k).participant ≡ m.number) → Passes month m (record_at b) k
      own (no p) = other p
      own (yes p) = stated p (ℕ_discrete (record_at b k).state withdrawn) (ℕ_discrete (record_at b k).state contested)

-- The score

-- an accepted score of so many grains
abbrev pub score_of : ℕ → Score
score_of g = record { number = 0; place = 0; grains = record { 0 = g }; fen = record { 0 = grains_to_fen g } }

module _ (m : Member) (b series : List ℕ) where
  -- Where line, book and series are good, and the member's calls can be scored, the grains are the sum over them,
  pub earned_any_order : Ready m b series → Scorable (month_at b) m (calls_of b) → grains_earned m b series ≡ Accepted (record { 0 = grains_of_all m series (calls_of b) })
  earned_any_order ready s =
      let clear = clear_of (month_at b) m b ready.front.book s in
      let none = first_of_all (refusal_at (month_at b) m (record_at b)) (count_at b) (λ k l. of_passes (month_at b) m (record_at b) k (clear k l)) in
      ready_records m b series ready ∙ records_sum (month_at b) m series (record_at b) (count_at b) none
      ∙ ap (λ (g : ℕ). Accepted (record { 0 = g })) (grains_of_calls m series b)

  -- and so is the answer.
  pub scored_any_order : Ready m b series → Scorable (month_at b) m (calls_of b) → scoring m b series ≡ score_of (grains_of_all m series (calls_of b))
  unfolding in_fen
  scored_any_order ready s = score_is m b series _ (earned_any_order ready s)

  accepted_scorable : (scoring m b series).number ≡ 0 → Ready m b series × Scorable (month_at b) m (calls_of b)
  accepted_scorable z = go (outcome m b series)
    where
      of : {r : Score} → scoring m b series ≡ r → r.number ≡ 0
      of d = sym (ap (λ (r : Score). r.number) d) ∙ z

      go : ScoreOutcome m b series (scoring m b series) → Ready m b series × Scorable (month_at b) m (calls_of b)
      go (bad_line_lem d n) = absurd (omega (arith, of d))
      go (bad_book d l n) = absurd (n (zero_accepted b (of d)))
      go (bad_length d l n) = absurd (omega (arith, of d))
      go (bad_value i d l s t w v) = absurd (omega (arith, of d))
      go (is_contested_lem i d t q) = absurd (omega (arith, of d))
      go (not_open_lem i d t q n) = absurd (omega (arith, of d))
      go (stands_against_lem i j d t q o l a) = absurd (omega (arith, of d))
      go (scored k d ready clear s) = (ready, scorable_of (month_at b) m b ready.front.book clear)

  -- IN WHATEVER ORDER: a score is accepted exactly where line, book and series are good and of the member's calls none is contested, each live one is open to it, and no two stand against each other;
  pub accepted_any_order : ((scoring m b series).number ≡ 0) ↔ (Ready m b series × Scorable (month_at b) m (calls_of b))
  accepted_any_order = (accepted_scorable, λ h. ap (λ (r : Score). r.number) (scored_any_order h.0 h.1))

  -- and its grains are the sum over the calls.
  pub grains_any_order : (scoring m b series).number ≡ 0 → scoring m b series ≡ score_of (grains_of_all m series (calls_of b))
  grains_any_order z = let h = accepted_scorable z in scored_any_order h.0 h.1
