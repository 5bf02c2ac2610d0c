-- Cutting a window changes no accepted score. Assumes nothing.
use mathlib.Core.Path.{◌≡◌, refl, sym, ◌∙◌, ap, ap₂}
use mathlib.Core.Bool.{Bool, true, false, cond}
use mathlib.Core.Logic.{◌⊎◌, inl, inr, ⊎_elim}
use mathlib.Core.List.{List, [], ◌∷◌, Memᴰ as In}
use Prim.Native.Nat.{ℕ, ◌+◌, ◌/◌, ◌%◌, ◌≤◌, ◌<◌}
use native.Mathlib.Decide.{dec_lt}
use native.Mathlib.Omega.{arith}
use lib.IntN.{ℤ, pos, ◌+ℤ◌, +ℤ_idl}
use borrow.Author.Tests.{ne_eqb}
use Rattle.units.specs.Month.{quarters_of}
use Rattle.call.specs.declared.Call.{Call}
use Rattle.call.specs.Key.{call_key}
use Rattle.call.specs.Revising.{contested}
use Rattle.call.specs.Services.{deep_peak, reserve, black_start, agc_availability, agc_contribution, frequency_event, avc}
use Rattle.book.specs.declared.Header.{Header}
use Rattle.book.specs.Book.{calls_of}
use Rattle.book.specs.Sound.{Sound}
use Rattle.book.proofs.Exact.{sound_accepted}
use Rattle.pay.specs.declared.Member.{Member}
use Rattle.pay.specs.declared.open.Month.{Month}
use Rattle.pay.specs.Event.{called_up, energy_pay}
use Rattle.pay.specs.Open.{open_to}
use Rattle.pay.specs.Window.{quarter_counts, window_quarters}
use Rattle.pay.specs.Live.{live_pay, quarters_paid, live_wh}
use Rattle.pay.proofs.Sums.{total_split, cut}
use Rattle.pay.proofs.Cases.{live_1, live_2, quarters_1, quarters_2}
use Rattle.score.specs.declared.answer.Earned.TheVariants.{Accepted}
use Rattle.score.specs.Scoring.{is_own_live, pay_of, wh_of, month_at, grains_earned, in_fen, scoring}
use Rattle.score.specs.Own.{own_start, from_first}
use Rattle.score.specs.Outcomes.{Ready, Against, shares_minute, second as once-a-month}
use Rattle.book.specs.Cut.{PartOf, Cuttable, Cut}
use Rattle.score.specs.AnyOrder.{pay_of_all, wh_of_all, grains_of_all, OwnLive, Scorable}
use Rattle.book.proofs.Rising.{placed, placed_here, placed_behind}
use Rattle.book.proofs.Parts.{EndToEnd, end_to_end}
use Rattle.book.proofs.Cutting.{others, whole_placed, cut_calls_lem}
use Rattle.score.proofs.AnyOrder.{against_back, against_own, accepted_any_order, earned_any_order}
use Rattle.score.proofs.Agreeing.{own_calls_only}

-- One window

-- a window's quarter hours that pay are those of its parts
pub quarters_cut : (m : Member) (service a : ℕ) (series : List ℕ) (start first second : ℕ) → start % 15 ≡ 0 → first % 15 ≡ 0
    → window_quarters m service a series start (first + second) ≡ window_quarters m service a series start first + window_quarters m service a series (start + first) second
unfolding window_quarters
quarters_cut m service a series start first second hs hf =
    let e : (first + second) / 15 ≡ first / 15 + second / 15 = omega arith in
    let d : (start + first) / 15 ≡ start / 15 + first / 15 = omega arith in
    rw (e, d) (total_split (quarter_counts m service a series) (start / 15) (first / 15) (second / 15))

module _ (b : List ℕ) (s : Sound b) (whole first second : Call) (cut_of : Cuttable b whole first second) where
  lie : EndToEnd whole first second
  lie = end_to_end b s whole first second cut_of

  module _ (m : Member) (series : List ℕ) where
    -- THE PARTS' GRAINS ADD UP to the whole's,
    pub parts_pay : live_pay m series whole ≡ live_pay m series first + live_pay m series second
    parts_pay = go cut_of.window
      where
        p : PartOf whole first
        p = cut_of.first_part

        q : PartOf whole second
        q = cut_of.second_part

        go : (whole.service ≡ deep_peak) ⊎ (whole.service ≡ reserve) → live_pay m series whole ≡ live_pay m series first + live_pay m series second
        go (inl e) =
            rw (live_1 m series whole e, live_1 m series first (p.service ∙ e), live_1 m series second (q.service ∙ e), lie.lengths, lie.starts, cut_of.begins)
            (cut m deep_peak 0 series whole.start first.length second.length lie.aligned lie.quarters)
        go (inr e) =
            rw (live_2 m series whole e, live_2 m series first (p.service ∙ e), live_2 m series second (q.service ∙ e), p.same_a, q.same_a, lie.lengths, lie.starts, cut_of.begins)
            (cut m reserve (called_up whole.a) series whole.start first.length second.length lie.aligned lie.quarters)

    -- and so do their quarter hours.
    pub parts_quarters : quarters_paid m series whole ≡ quarters_paid m series first + quarters_paid m series second
    parts_quarters = go cut_of.window
      where
        p : PartOf whole first
        p = cut_of.first_part

        q : PartOf whole second
        q = cut_of.second_part

        go : (whole.service ≡ deep_peak) ⊎ (whole.service ≡ reserve) → quarters_paid m series whole ≡ quarters_paid m series first + quarters_paid m series second
        go (inl e) =
            rw (quarters_1 m series whole e, quarters_1 m series first (p.service ∙ e), quarters_1 m series second (q.service ∙ e), lie.lengths, lie.starts, cut_of.begins)
            (quarters_cut m deep_peak 0 series whole.start first.length second.length lie.aligned lie.quarters)
        go (inr e) =
            rw (quarters_2 m series whole e, quarters_2 m series first (p.service ∙ e), quarters_2 m series second (q.service ∙ e), p.same_a, q.same_a, lie.lengths, lie.starts, cut_of.begins)
            (quarters_cut m reserve (called_up whole.a) series whole.start first.length second.length lie.aligned lie.quarters)

    part_own : (x : Call) → PartOf whole x → is_own_live m x ≡ is_own_live m whole
    unfolding is_own_live
    part_own x p = rw (p.participant, p.live, cut_of.live) refl

    -- for any member, theirs or another's
    pay_cut : pay_of m series whole ≡ pay_of m series first + pay_of m series second
    unfolding pay_of
    pay_cut = rw (part_own first cut_of.first_part, part_own second cut_of.second_part) (go (is_own_live m whole))
      where
        go : (t : Bool) → cond t (live_pay m series whole) 0 ≡ cond t (live_pay m series first) 0 + cond t (live_pay m series second) 0
        go true = parts_pay
        go false = refl

  -- a window has no energy
  no_energy : (m : Member) (x : Call) → x.service ≡ whole.service → wh_of m x ≡ pos 0
  unfolding wh_of live_wh
  no_energy m x e = rw (ne_eqb x.service frequency_event none) (go (is_own_live m x))
    where
      none : x.service ≡ frequency_event → ⊥
      none d = ⊎_elim (λ (w : whole.service ≡ deep_peak). omega arith) (λ (w : whole.service ≡ reserve). omega arith) cut_of.window

      go : (t : Bool) → cond t (pos 0) (pos 0) ≡ pos 0
      go true = refl
      go false = refl

-- One call more

pay_placed : (m : Member) (series : List ℕ) (x : Call) (cs : List Call) → pay_of_all m series (placed x cs) ≡ pay_of m series x + pay_of_all m series cs
unfolding pay_of_all placed
pay_placed m series x [] = refl
pay_placed m series x (c ∷ cs) = go (pay_placed m series x cs) (dec_lt (call_key x) (call_key c))
  where
    go : pay_of_all m series (placed x cs) ≡ pay_of m series x + pay_of_all m series cs → Dec (call_key x < call_key c)
        → pay_of_all m series (placed x (c ∷ cs)) ≡ pay_of m series x + (pay_of m series c + pay_of_all m series cs)
    go ih (yes l) = rw (placed_here x c cs l) refl
    go ih (no l) = rw (placed_behind x c cs (omega arith)) (omega arith)

wh_placed : (m : Member) (x : Call) (cs : List Call) → wh_of m x ≡ pos 0 → wh_of_all m (placed x cs) ≡ wh_of_all m cs
unfolding wh_of_all placed
wh_placed m x [] e = rw e (+ℤ_idl (pos 0))
wh_placed m x (c ∷ cs) e = go (wh_placed m x cs e) (dec_lt (call_key x) (call_key c))
  where
    go : wh_of_all m (placed x cs) ≡ wh_of_all m cs → Dec (call_key x < call_key c) → wh_of_all m (placed x (c ∷ cs)) ≡ wh_of m c +ℤ wh_of_all m cs
    go ih (yes l) = rw (placed_here x c cs l, e) (+ℤ_idl (wh_of m c +ℤ wh_of_all m cs))
    go ih (no l) = rw (placed_behind x c cs (omega arith)) (ap (λ (z : ℤ). wh_of m c +ℤ z) ih)

-- What a part is open to, and what stands against it

module _ (b : List ℕ) (s : Sound b) (whole first second : Call) (cut_of : Cuttable b whole first second) (m : Member) where
  part_open : (month : Month) (x : Call) → PartOf whole x → open_to month m x ≡ open_to month m whole
  unfolding open_to
  part_open month x p = go cut_of.window
    where
      go : (whole.service ≡ deep_peak) ⊎ (whole.service ≡ reserve) → open_to month m x ≡ open_to month m whole
      go (inl e) = let f : x.service ≡ deep_peak = p.service ∙ e in simp (e, f)
      go (inr e) = let f : x.service ≡ reserve = p.service ∙ e in simp (e, f, p.same_a)

  -- what stands against a part stands against the whole
  part_against : (x y : Call) → PartOf whole x → whole.start ≤ x.start → x.start + x.length ≤ whole.start + whole.length → Against m.number x y → Against m.number whole y
  part_against x y p l h (shares_minute o t u v) =
      shares_minute (record { own = o.own; live = o.live; service = o.service ∙ p.service }) (let e = p.service in omega arith) (omega arith) (omega arith)
  part_against x y p l h (once-a-month o t) = once-a-month (record { own = o.own; live = o.live; service = o.service ∙ p.service }) (rw p.service at t)

  first_against_lem : (y : Call) → Against m.number first y → Against m.number whole y
  first_against_lem y a = part_against first y cut_of.first_part (omega (arith, cut_of.begins)) (omega (arith, cut_of.begins, cut_of.meet, cut_of.ends)) a

  second_against : (y : Call) → Against m.number second y → Against m.number whole y
  second_against y a = part_against second y cut_of.second_part (omega (arith, cut_of.inside.0)) (omega (arith, cut_of.ends)) a

  -- the parts do not stand against each other: they meet
  parts_apart : Against m.number first second → ⊥
  parts_apart (shares_minute o t u v) = omega (arith, cut_of.meet)
  parts_apart (once-a-month o t) = ⊎_elim (λ (w : whole.service ≡ deep_peak). no (p.service ∙ w) (omega arith)) (λ (w : whole.service ≡ reserve). no (p.service ∙ w) (omega arith)) cut_of.window
    where
      p : PartOf whole first
      p = cut_of.first_part

      no : {n : ℕ} → first.service ≡ n → n ≤ 2 → ⊥
      no e l =
          ⊎_elim (λ (d : first.service ≡ black_start). omega arith)
          (⊎_elim (λ (d : first.service ≡ agc_availability). omega arith)
          (⊎_elim (λ (d : first.service ≡ agc_contribution). omega arith) (λ (d : first.service ≡ avc). omega arith))) t

-- The books

module _ (b c : List ℕ) (s : Sound b) (t : Sound c) (whole first second : Call) (cut_of : Cut b c whole first second) (m : Member) where
  abbrev asked : Cuttable b whole first second
  asked = cut_of.cuttable

  months : month_at b ≡ month_at c
  months = ap (λ (h : Header). record { year = h.year; month = h.month }) cut_of.header

  -- where the member's calls can be scored before, they can be scored after
  scorable_cut : (month : Month) → Scorable month m (calls_of b) → Scorable month m (calls_of c)
  scorable_cut month g =
      record {
        uncontested = λ x i p q. uncontested x p q ((cut_of.calls x).0 i);
        each_open = λ x i o. is_open x o ((cut_of.calls x).0 i);
        apart = λ x y i j d o a. apart x y ((cut_of.calls x).0 i) ((cut_of.calls y).0 j) d o a;
      }
    where
      Left : Call → Type 0
      Left x = (x ≡ first) ⊎ ((x ≡ second) ⊎ (In x (calls_of b) × (x ≡ whole → ⊥)))

      -- the whole is the member's where a part is
      own_whole : (x : Call) → PartOf whole x → OwnLive m x → OwnLive m whole
      own_whole x p o = record { own = sym p.participant ∙ o.own; live = asked.live }

      uncontested : (x : Call) → x.participant ≡ m.number → x.state ≡ contested → Left x → ⊥
      uncontested x p q (inl e) = let l = asked.first_part.live in omega (arith, ap (λ (z : Call). z.state) e)
      uncontested x p q (inr (inl e)) = let l = asked.second_part.live in omega (arith, ap (λ (z : Call). z.state) e)
      uncontested x p q (inr (inr h)) = g.uncontested x h.0 p q

      part_is_open : (x : Call) → PartOf whole x → OwnLive m x → open_to month m x ≡ true
      part_is_open x p o = part_open b s whole first second asked m month x p ∙ g.each_open whole asked.has (own_whole x p o)

      is_open : (x : Call) → OwnLive m x → Left x → open_to month m x ≡ true
      is_open x o (inl e) = rw e (part_is_open first asked.first_part (rw e at o))
      is_open x o (inr (inl e)) = rw e (part_is_open second asked.second_part (rw e at o))
      is_open x o (inr (inr h)) = g.each_open x h.0 o

      -- a part against a call that stays
      first_and : (y : Call) → In y (calls_of b) → (y ≡ whole → ⊥) → OwnLive m first → Against m.number first y → ⊥
      first_and y j d o a = g.apart whole y asked.has j (λ e. d (sym e)) (own_whole first asked.first_part o) (first_against_lem b s whole first second asked m y a)

      second_and : (y : Call) → In y (calls_of b) → (y ≡ whole → ⊥) → OwnLive m second → Against m.number second y → ⊥
      second_and y j d o a = g.apart whole y asked.has j (λ e. d (sym e)) (own_whole second asked.second_part o) (second_against b s whole first second asked m y a)

      apart : (x y : Call) → Left x → Left y → (x ≡ y → ⊥) → OwnLive m x → Against m.number x y → ⊥
      apart x y (inl e) (inl f) d o a = d (e ∙ sym f)
      apart x y (inl e) (inr (inl f)) d o a = parts_apart b s whole first second asked m (rw (e, f) at a)
      apart x y (inl e) (inr (inr h)) d o a = first_and y h.0 h.1 (rw e at o) (rw e at a)
      apart x y (inr (inl e)) (inl f) d o a = parts_apart b s whole first second asked m (rw (e, f) at (against_back m x y o a))
      apart x y (inr (inl e)) (inr (inl f)) d o a = d (e ∙ sym f)
      apart x y (inr (inl e)) (inr (inr h)) d o a = second_and y h.0 h.1 (rw e at o) (rw e at a)
      apart x y (inr (inr h)) (inl f) d o a = first_and x h.0 h.1 (rw f at (against_own m x y a)) (rw f at (against_back m x y o a))
      apart x y (inr (inr h)) (inr (inl f)) d o a = second_and x h.0 h.1 (rw f at (against_own m x y a)) (rw f at (against_back m x y o a))
      apart x y (inr (inr h)) (inr (inr k)) d o a = g.apart x y h.0 k.0 d o a

  module _ (series : List ℕ) where
    pays_same : pay_of_all m series (calls_of c) ≡ pay_of_all m series (calls_of b)
    pays_same =
        let rest = others b whole in
        let before = ap (pay_of_all m series) (whole_placed b s whole asked.has) ∙ pay_placed m series whole rest in
        let after = ap (pay_of_all m series) (cut_calls_lem b c s t whole first second cut_of) ∙ pay_placed m series first (placed second rest) in
        omega (arith, before, after, pay_placed m series second rest, pay_cut b s whole first second asked m series)

    energy_same : wh_of_all m (calls_of c) ≡ wh_of_all m (calls_of b)
    energy_same =
        let rest = others b whole in
        let none : (x : Call) → x.service ≡ whole.service → wh_of m x ≡ pos 0 = λ x e. no_energy b s whole first second asked m x e in
        ap (wh_of_all m) (cut_calls_lem b c s t whole first second cut_of) ∙ wh_placed m first (placed second rest) (none first asked.first_part.service)
        ∙ wh_placed m second rest (none second asked.second_part.service) ∙ sym (wh_placed m whole rest (none whole refl))
        ∙ sym (ap (wh_of_all m) (whole_placed b s whole asked.has))

    grains_same : grains_of_all m series (calls_of c) ≡ grains_of_all m series (calls_of b)
    unfolding grains_of_all
    grains_same = ap₂ (λ (x : ℕ) (z : ℤ). x + energy_pay z) pays_same energy_same

    ready_cut : Ready m b series → Ready m c series
    ready_cut r =
        record {
          front = record { line = r.front.line; book = sound_accepted c t };
          spans = r.spans ∙ ap (λ (h : Header). quarters_of h.year h.month) cut_of.header;
          within = r.within;
        }

    -- what is earned before it is money
    pub cut_earned : (scoring m b series).number ≡ 0 → grains_earned m c series ≡ grains_earned m b series
    cut_earned z =
        let h = (accepted_any_order m b series).0 z in
        earned_any_order m c series (ready_cut h.0) (rw (← months) (scorable_cut (month_at b) h.1))
        ∙ ap (λ (g : ℕ). Accepted (record { 0 = g })) grains_same ∙ sym (earned_any_order m b series h.0 h.1)

    -- CUTTING A WINDOW CHANGES NOBODY'S PAY: the answer of any register line whose score over the book is accepted is the same over the cut of it, number 0, place 0, grains and fen.
    pub cut_same : (scoring m b series).number ≡ 0 → scoring m c series ≡ scoring m b series
    unfolding scoring
    cut_same z = ap in_fen (cut_earned z)

    -- Of another member every answer is the same, a refusal too, its place counted from the member's first record in 12 to 14.
    pub cut_others : (m.number ≡ whole.participant → ⊥) → from_first (own_start m.number b) (scoring m b series) ≡ from_first (own_start m.number c) (scoring m c series)
    cut_others n =
        own_calls_only m b c series s t (ap (λ (h : Header). h.year) cut_of.header) (ap (λ (h : Header). h.month) cut_of.header)
        (λ x p. (λ i. (cut_of.calls x).1 (inr (inr (i, λ e. n (sym p ∙ ap (λ (z : Call). z.participant) e)))), λ i. stays x p ((cut_of.calls x).0 i)))
      where
        stays : (x : Call) → x.participant ≡ m.number → (x ≡ first) ⊎ ((x ≡ second) ⊎ (In x (calls_of b) × (x ≡ whole → ⊥))) → In x (calls_of b)
        stays x p (inl e) = absurd (n (sym p ∙ ap (λ (z : Call). z.participant) e ∙ asked.first_part.participant))
        stays x p (inr (inl e)) = absurd (n (sym p ∙ ap (λ (z : Call). z.participant) e ∙ asked.second_part.participant))
        stays x p (inr (inr h)) = h.0
