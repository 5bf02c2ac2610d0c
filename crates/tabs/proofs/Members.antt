-- A member's calls in a book: they lie together, behind those of the members below it. Assumes nothing.
use mathlib.Core.Path.{◌≡◌, refl, sym, ◌∙◌, ap}
use mathlib.Core.Bool.{cond}
use mathlib.Core.Logic.{inl, inr}
use mathlib.Core.List.{List, [], ◌∷◌, ◌++◌}
use Prim.Native.Nat.{ℕ, zero, suc, ◌+◌, ◌*◌, ◌-◌, ◌<◌, ◌≤◌}
use native.Mathlib.Omega.{arith}
use native.Mathlib.Decide.{ℕ_discrete}
use lib.Dec.{leb}
use lib.ListN.{length, take, drop, drop_of_length-le}
use lib.Seq.{take-length, take_at, drop_at, take-append_seam, drop-append_seam, drop-drop}
use borrow.Author.Tests.{eq-eqb, ne_eqb, le-leb, lt-leb}
use Rattle.call.specs.declared.Call.{Call}
use Rattle.call.specs.Key.{call_key}
use Rattle.call.specs.Revising.{live, contested, withdrawn}
use Rattle.call.specs.Services.{most_participant}
use Rattle.call.specs.Service.{CallWithin, Stated, is_live, is_contested_lem, is_withdrawn_lem}
use Rattle.book.specs.Sound.{CallsWithin, Rises}
use Rattle.rule.proofs.Keyed.{Three, three}
use Rattle.tabs.specs.Tabs.{first_index, own_of, of_state, tabs_of}
use Rattle.tabs.specs.Forward.{sum_to}
use Rattle.tabs.specs.Inner.{Ordered, Under}

-- One call more

module _ (m : ℕ) (c : Call) (cs : List Call) where
  pub own_hit : c.participant ≡ m → own_of m (c ∷ cs) ≡ c ∷ own_of m cs
  unfolding own_of
  own_hit e = simp (eq-eqb c.participant m e)

  pub own_miss : (c.participant ≡ m → ⊥) → own_of m (c ∷ cs) ≡ own_of m cs
  unfolding own_of
  own_miss e = simp (ne_eqb c.participant m e)

  pub first_hit : c.participant ≡ m → first_index m (c ∷ cs) ≡ 0
  unfolding first_index
  first_hit e = simp (eq-eqb c.participant m e)

  pub first_miss : (c.participant ≡ m → ⊥) → first_index m (c ∷ cs) ≡ suc (first_index m cs)
  unfolding first_index
  first_miss e = simp (ne_eqb c.participant m e)

module _ (s : ℕ) (c : Call) (cs : List Call) where
  pub state_hit : c.state ≡ s → of_state s (c ∷ cs) ≡ suc (of_state s cs)
  unfolding of_state
  state_hit e = simp (eq-eqb c.state s e)

  pub state_miss : (c.state ≡ s → ⊥) → of_state s (c ∷ cs) ≡ of_state s cs
  unfolding of_state
  state_miss e = simp (ne_eqb c.state s e)

-- members rise as keys do
ordered_from : (n low m : ℕ) (cs : List Call) → m * 4294967296 ≤ low → CallsWithin n cs → Rises low cs → Ordered m cs
ordered_from n low m [] h w r = tt
ordered_from n low m (c ∷ cs) h w r =
    let f = w.0.number in
    let g = r.0 in
    (omega arith, ordered_from n (suc (call_key c)) c.participant cs (omega arith) w.1 r.1)

pub ordered : (n : ℕ) (cs : List Call) → CallsWithin n cs → Rises 0 cs → Ordered 1 cs
ordered n [] w r = tt
ordered n (c ∷ cs) w r = (w.0.participant.0, ordered_from n (suc (call_key c)) c.participant cs (omega arith) w.1 r.1)

pub ordered_weaken : (l m : ℕ) (cs : List Call) → l ≤ m → Ordered m cs → Ordered l cs
ordered_weaken l m [] h o = tt
ordered_weaken l m (c ∷ cs) h o = (let g = o.0 in omega arith, o.1)

pub own_none : (m l : ℕ) (cs : List Call) → m < l → Ordered l cs → own_of m cs ≡ []
unfolding own_of
own_none m l [] h o = refl
own_none m l (c ∷ cs) h o = let g = o.0 in own_miss m c cs (λ e. omega arith) ∙ own_none m c.participant cs (omega arith) o.1

pub first_none : (m : ℕ) (cs : List Call) → own_of m cs ≡ [] → first_index m cs ≡ length cs
unfolding own_of first_index
first_none m [] e = refl
first_none m (c ∷ cs) e = go (ℕ_discrete c.participant m) (first_none m cs)
  where
    go : Dec (c.participant ≡ m) → (own_of m cs ≡ [] → first_index m cs ≡ length cs) → first_index m (c ∷ cs) ≡ suc (length cs)
    go (yes p) ih = absurd (let l : suc (length (own_of m cs)) ≡ 0 = ap length (sym (own_hit m c cs p) ∙ e) in omega arith)
    go (no p) ih = first_miss m c cs p ∙ ap suc (ih (sym (own_miss m c cs p) ∙ e))

pub under_own : (m : ℕ) (cs : List Call) → Under m cs → own_of m cs ≡ []
unfolding own_of
under_own m [] u = refl
under_own m (c ∷ cs) u = let g = u.0 in own_miss m c cs (λ e. omega arith) ∙ under_own m cs u.1

-- where no member is below m, m's calls come first, and those of the members above it follow
pub record Lead (m : ℕ) (cs : List Call) : Type 0 where
  pub after : List Call
  pub is : cs ≡ own_of m cs ++ after
  pub above : Ordered (suc m) after

pub lead : (m : ℕ) (cs : List Call) → Ordered m cs → Lead m cs
unfolding own_of
lead m [] o = record { after = []; is = refl; above = tt }
lead m (c ∷ cs) o = go (λ p. lead m cs (rw p at o.1)) (ℕ_discrete c.participant m)
  where
    go : (c.participant ≡ m → Lead m cs) → Dec (c.participant ≡ m) → Lead m (c ∷ cs)
    go ih (yes p) =
        let k = ih p in
        record {
          after = k.after;
          is = ap (λ (l : List Call). c ∷ l) k.is ∙ ap (λ (l : List Call). l ++ k.after) (sym (own_hit m c cs p));
          above = k.above;
        }
    go ih (no p) =
        let g = o.0 in
        let a : Ordered (suc m) (c ∷ cs) = (omega arith, o.1) in
        record { after = c ∷ cs; is = ap (λ (l : List Call). l ++ (c ∷ cs)) (sym (own_none m (suc m) (c ∷ cs) (omega arith) a)); above = a }

-- the calls of the members below m, m's, and those of the members above it
pub record Cut (m : ℕ) (cs : List Call) : Type 0 where
  pub before : List Call
  pub after : List Call
  pub is : cs ≡ before ++ (own_of m cs ++ after)
  pub below : Under m before
  pub above : Ordered (suc m) after
  pub index : 1 ≤ length (own_of m cs) → first_index m cs ≡ length before

pub cut : (m l : ℕ) (cs : List Call) → Ordered l cs → Cut m cs
unfolding own_of first_index
cut m l [] o = record { before = []; after = []; is = refl; below = tt; above = tt; index = λ h. refl }
cut m l (c ∷ cs) o = go (cut m c.participant cs o.1) (three c.participant m)
  where
    go : Cut m cs → Three c.participant m → Cut m (c ∷ cs)
    go k (inl h) =
        let e : own_of m (c ∷ cs) ≡ own_of m cs = own_miss m c cs (λ e. omega arith) in
        record {
          before = c ∷ k.before;
          after = k.after;
          is = ap (λ (l : List Call). c ∷ l) k.is ∙ ap (λ (l : List Call). c ∷ (k.before ++ (l ++ k.after))) (sym e);
          below = (h, k.below);
          above = k.above;
          index = λ g. first_miss m c cs (λ e. omega arith) ∙ ap suc (k.index (rw e at g));
        }
    go i (inr (inl h)) =
        let k = lead m (c ∷ cs) (omega arith, o.1) in
        record { before = []; after = k.after; is = k.is; below = tt; above = k.above; index = λ g. first_hit m c cs h }
    go i (inr (inr h)) =
        let k = lead m (c ∷ cs) (omega arith, o.1) in
        let e : own_of m (c ∷ cs) ≡ [] = own_none m (suc m) (c ∷ cs) (omega arith) (h, o.1) in
        record { before = []; after = k.after; is = k.is; below = tt; above = k.above; index = λ g. absurd (omega (arith, ap length e)) }

pub empty : (cs : List Call) → length cs ≡ 0 → cs ≡ []
empty [] e = refl
empty (c ∷ cs) e = absurd (omega arith)

-- how many calls are of members up to m
up_to : ℕ → List Call → ℕ
up_to m [] = 0
up_to m (c ∷ cs) = cond (leb c.participant m) (suc (up_to m cs)) (up_to m cs)

module _ (m : ℕ) (c : Call) (cs : List Call) where
  up_hit : c.participant ≤ m → up_to m (c ∷ cs) ≡ suc (up_to m cs)
  unfolding up_to
  up_hit h = simp (le-leb c.participant m h)

  up_miss : m < c.participant → up_to m (c ∷ cs) ≡ up_to m cs
  unfolding up_to
  up_miss h = simp (lt-leb c.participant m h)

up_none : (m l : ℕ) (cs : List Call) → m < l → Ordered l cs → up_to m cs ≡ 0
unfolding up_to
up_none m l [] h o = refl
up_none m l (c ∷ cs) h o = let g = o.0 in up_miss m c cs (omega arith) ∙ up_none m c.participant cs (omega arith) o.1

up_all : (n : ℕ) (cs : List Call) → CallsWithin n cs → up_to most_participant cs ≡ length cs
unfolding up_to
up_all n [] w = refl
up_all n (c ∷ cs) w = up_hit most_participant c cs w.0.participant.1 ∙ ap suc (up_all n cs w.1)

up_suc : (m : ℕ) (cs : List Call) → up_to (suc m) cs ≡ up_to m cs + length (own_of (suc m) cs)
unfolding up_to own_of
up_suc m [] = refl
up_suc m (c ∷ cs) = go (up_suc m cs) (three c.participant (suc m))
  where
    go : up_to (suc m) cs ≡ up_to m cs + length (own_of (suc m) cs) → Three c.participant (suc m)
        → up_to (suc m) (c ∷ cs) ≡ up_to m (c ∷ cs) + length (own_of (suc m) (c ∷ cs))
    go ih (inl h) =
        omega (arith, up_hit (suc m) c cs (omega arith), up_hit m c cs (omega arith), ap length (own_miss (suc m) c cs (λ e. omega arith)))
    go ih (inr (inl h)) =
        omega (arith, up_hit (suc m) c cs (omega arith), up_miss m c cs (omega arith), ap length (own_hit (suc m) c cs h))
    go ih (inr (inr h)) =
        omega (arith, up_miss (suc m) c cs h, up_miss m c cs (omega arith), ap length (own_miss (suc m) c cs (λ e. omega arith)))

-- the counts of members 1 to m, together
up_sum : (m : ℕ) (cs : List Call) → Ordered 1 cs → sum_to (λ j. length (own_of j cs)) m ≡ up_to m cs
unfolding sum_to
up_sum zero cs o = sym (up_none 0 1 cs (omega arith) o)
up_sum (suc m) cs o = omega (arith, up_sum m cs o, up_suc m cs)

-- a member that has a call: as many stand before its first as the members below it have
first_up : (m l : ℕ) (cs : List Call) → 1 ≤ m → Ordered l cs → 1 ≤ length (own_of m cs) → first_index m cs ≡ up_to (m - 1) cs
unfolding own_of first_index up_to
first_up m l [] p o h = refl
first_up m l (c ∷ cs) p o h = go (first_up m c.participant cs p o.1) (three c.participant m)
  where
    go : (1 ≤ length (own_of m cs) → first_index m cs ≡ up_to (m - 1) cs) → Three c.participant m → first_index m (c ∷ cs) ≡ up_to (m - 1) (c ∷ cs)
    go ih (inl g) =
        first_miss m c cs (λ e. omega arith) ∙ ap suc (ih (omega (arith, ap length (own_miss m c cs (λ e. omega arith)))))
        ∙ sym (up_hit (m - 1) c cs (omega arith))
    go ih (inr (inl g)) = first_hit m c cs g ∙ sym (up_none (m - 1) c.participant (c ∷ cs) (omega arith) (omega arith, o.1))
    go ih (inr (inr g)) = absurd (omega (arith, ap length (own_none m c.participant (c ∷ cs) g (omega arith, o.1))))

-- A book's calls
module _ (n : ℕ) (cs : List Call) (w : CallsWithin n cs) (r : Rises 0 cs) where
  rise : Ordered 1 cs
  rise = ordered n cs w r

  -- A member's records are exactly those from its index on, as many as its count, and no others.
  pub tab_lies : (m : ℕ)
      → (take (tabs_of cs m).count (drop (tabs_of cs m).index cs) ≡ own_of m cs)
      × (own_of m (take (tabs_of cs m).index cs) ≡ [])
      × (own_of m (drop ((tabs_of cs m).index + (tabs_of cs m).count) cs) ≡ [])
  unfolding tabs_of own_of
  tab_lies m = go (ℕ_discrete (length (own_of m cs)) 0) (cut m 1 cs rise)
    where
      Lies : Type 0
      Lies =
          (take (length (own_of m cs)) (drop (first_index m cs) cs) ≡ own_of m cs)
          × (own_of m (take (first_index m cs) cs) ≡ [])
          × (own_of m (drop (first_index m cs + length (own_of m cs)) cs) ≡ [])

      go : Dec (length (own_of m cs) ≡ 0) → Cut m cs → Lies
      go (yes z) k =
          let e : own_of m cs ≡ [] = empty (own_of m cs) z in
          let i : first_index m cs ≡ length cs = first_none m cs e in (
            ap (λ (j : ℕ). take j (drop (first_index m cs) cs)) z ∙ sym e,
            ap (λ (j : ℕ). own_of m (take j cs)) i ∙ ap (own_of m) (take-length cs) ∙ e,
            ap (own_of m) (drop_of_length-le cs {i = first_index m cs + length (own_of m cs)} (omega arith)),
          )
      go (no z) k =
          let own = own_of m cs in
          let i : length k.before ≡ first_index m cs = sym (k.index (omega arith)) in
          let behind : drop (first_index m cs) cs ≡ own ++ k.after = ap (drop (first_index m cs)) k.is ∙ drop_at k.before (own ++ k.after) (first_index m cs) i in
          let front : take (first_index m cs) cs ≡ k.before = ap (take (first_index m cs)) k.is ∙ take_at k.before (own ++ k.after) (first_index m cs) i in
          let rest : drop (first_index m cs + length own) cs ≡ k.after =
          sym (drop-drop (length own) (first_index m cs) cs) ∙ ap (drop (length own)) behind ∙ drop-append_seam own k.after in (
            ap (take (length own)) behind ∙ take-append_seam own k.after,
            ap (own_of m) front ∙ under_own m k.before k.below,
            ap (own_of m) rest ∙ own_none m (suc m) k.after (omega arith) k.above,
          )

  -- The index of a member with records is the sum of the counts of the members below it, of one without the book's count.
  pub index_is : (m : ℕ) → 1 ≤ m
      → (1 ≤ (tabs_of cs m).count → (tabs_of cs m).index ≡ sum_to (λ j. (tabs_of cs j).count) (m - 1)) × ((tabs_of cs m).count ≡ 0 → (tabs_of cs m).index ≡ length cs)
  unfolding tabs_of
  index_is m p = (λ h. first_up m 1 cs p rise h ∙ sym (up_sum (m - 1) cs rise), λ z. first_none m cs (empty (own_of m cs) z))

  -- the counts of all members make the book's
  pub counts_all : sum_to (λ j. length (own_of j cs)) most_participant ≡ length cs
  counts_all = up_sum most_participant cs rise ∙ up_all n cs w

-- A call is in one of the three states
module _ (n : ℕ) where
  state_adds : (c : Call) (cs : List Call) → CallWithin n c → of_state live cs + of_state contested cs + of_state withdrawn cs ≡ length cs
      → of_state live (c ∷ cs) + of_state contested (c ∷ cs) + of_state withdrawn (c ∷ cs) ≡ suc (length cs)
  state_adds c cs w h = go w.content
    where
      go : Stated n c → of_state live (c ∷ cs) + of_state contested (c ∷ cs) + of_state withdrawn (c ∷ cs) ≡ suc (length cs)
      go (is_live s x y) = omega (arith, state_hit live c cs s, state_miss contested c cs (λ e. omega arith), state_miss withdrawn c cs (λ e. omega arith))
      go (is_contested_lem s x) = omega (arith, state_miss live c cs (λ e. omega arith), state_hit contested c cs s, state_miss withdrawn c cs (λ e. omega arith))
      go (is_withdrawn_lem s x) = omega (arith, state_miss live c cs (λ e. omega arith), state_miss contested c cs (λ e. omega arith), state_hit withdrawn c cs s)

  pub states_all : (cs : List Call) → CallsWithin n cs → of_state live cs + of_state contested cs + of_state withdrawn cs ≡ length cs
  unfolding of_state
  states_all [] w = refl
  states_all (c ∷ cs) w = state_adds c cs w.0 (states_all cs w.1)

  pub own_within : (m : ℕ) (cs : List Call) → CallsWithin n cs → CallsWithin n (own_of m cs)
  unfolding own_of
  own_within m [] w = tt
  own_within m (c ∷ cs) w = go (own_within m cs w.1) (ℕ_discrete c.participant m)
    where
      go : CallsWithin n (own_of m cs) → Dec (c.participant ≡ m) → CallsWithin n (own_of m (c ∷ cs))
      go ih (yes p) = rw (own_hit m c cs p) (w.0, ih)
      go ih (no p) = rw (own_miss m c cs p) ih

-- Live, contested and withdrawn make a member's count, and the counts of all members the book's.
pub states_add_up : (n : ℕ) (cs : List Call) → CallsWithin n cs → Rises 0 cs
    → ((m : ℕ) → (tabs_of cs m).live + (tabs_of cs m).contested + (tabs_of cs m).withdrawn ≡ (tabs_of cs m).count) × (sum_to (λ m. (tabs_of cs m).count) most_participant ≡ length cs)
unfolding tabs_of
states_add_up n cs w r = (λ m. states_all n (own_of m cs) (own_within n m cs w), counts_all n cs w r)
