-- The paper's rule over a whole list of books is the least upper bound of what they have. Assumes nothing.
use mathlib.Core.Path.{◌≡◌, refl, sym, ◌∙◌, ap, subst}
use mathlib.Core.Bool.{Bool, true, false, cond, ◌&&◌, true≢false}
use mathlib.Core.Logic.{◌⊎◌, inl, inr, ⊎_elim}
use mathlib.Core.List.Memᴰ.{cases_cons as in-cons}
use mathlib.Core.List.Memᴰ.{head as here}
use mathlib.Core.List.Memᴰ.{not-nil as in-nil}
use mathlib.Core.List.Memᴰ.{tail as there}
use mathlib.Core.List.{List, [], ◌∷◌, Memᴰ as In}
use mathlib.Core.Option.{Option, none, some}
use Prim.Native.Nat.{ℕ, ◌≤◌, ◌+◌}
use native.Mathlib.Omega.{arith}
use native.Mathlib.Decide.{dec_le}
use lib.Dec.{eqb}
use lib.IntN.{pos}
use borrow.Author.Tests.{eq-eqb, eqb-true}
use Rattle.call.specs.declared.Call.{Call}
use Rattle.call.specs.Key.{call_key}
use Rattle.call.specs.Revising.{withdrawn, call_contested, call_withdrawn}
use Rattle.call.specs.Service.{CallWithin}
use Rattle.call.proofs.Keys.{key_same}
use Rattle.rule.specs.Standing.{same_call, is_withdrawn, standing}
use Rattle.rule.specs.Keys.{record_of, also}
use Rattle.rule.specs.Whole.{records_of, those, all, highest, withdrawn_at, ruling, rule_for, rule_over}
use Rattle.rule.proofs.Equality.{same_eq, eq_same}
use Rattle.rule.proofs.Keyed.{Three, three, find_in}
use Rattle.rule.proofs.Lattice.{Below, rank, blank, Is, gone, stays, is, own_blank, own_withdrawn, level, rank_blank, Stood, second, first, equal, clash, stood, stand_least}
use Rattle.rule.proofs.Keyed.{within_in}
use Rattle.rule.proofs.Bounds.{Under, Sounds, Least}

-- lists that pass a test
those_in : (p : Call → Bool) (cs : List Call) (c : Call) → In c (those p cs) → In c cs × (p c ≡ true)
unfolding those
those_in p [] c i = absurd (in-nil i)
those_in p (d ∷ cs) c i = go (those_in p cs c) (p d) refl i
  where
    go : (In c (those p cs) → In c cs × (p c ≡ true)) → (b : Bool) → p d ≡ b → In c (cond b (d ∷ those p cs) (those p cs)) → In c (d ∷ cs) × (p c ≡ true)
    go ih true e j = ⊎_elim (λ (f : c ≡ d). (here f, ap p f ∙ e)) (λ k. let h = ih k in (there h.0, h.1)) (in-cons j)
    go ih false e j = let h = ih j in (there h.0, h.1)

in_those : (p : Call → Bool) (cs : List Call) (c : Call) → In c cs → p c ≡ true → In c (those p cs)
unfolding those
in_those p [] c i t = absurd (in-nil i)
in_those p (d ∷ cs) c i t = go (λ j. in_those p cs c j t) (p d) refl (in-cons i)
  where
    go : (In c cs → In c (those p cs)) → (b : Bool) → p d ≡ b → (c ≡ d) ⊎ In c cs → In c (cond b (d ∷ those p cs) (those p cs))
    go ih true e (inl f) = here f
    go ih true e (inr j) = there (ih j)
    go ih false e (inl f) = absurd (true≢false (sym t ∙ ap p f ∙ e))
    go ih false e (inr j) = ih j

all_in : (p : Call → Bool) (cs : List Call) → all p cs ≡ true → (c : Call) → In c cs → p c ≡ true
unfolding all
all_in p [] t c i = absurd (in-nil i)
all_in p (d ∷ cs) t c i = go (all_in p cs) (p d) refl t
  where
    go : (all p cs ≡ true → (c : Call) → In c cs → p c ≡ true) → (b : Bool) → p d ≡ b → (b && all p cs) ≡ true → p c ≡ true
    go ih true e u = ⊎_elim (λ (f : c ≡ d). ap p f ∙ e) (λ j. ih u c j) (in-cons i)
    go ih false e u = absurd (true≢false (sym u))

not_all : (p : Call → Bool) (cs : List Call) → all p cs ≡ false → (c : Call) × In c cs × (p c ≡ false)
unfolding all
not_all p [] t = absurd (true≢false t)
not_all p (d ∷ cs) t = go (not_all p cs) (p d) refl t
  where
    go : (all p cs ≡ false → (c : Call) × In c cs × (p c ≡ false)) → (b : Bool) → p d ≡ b → (b && all p cs) ≡ false → (c : Call) × In c (d ∷ cs) × (p c ≡ false)
    go ih true e u = let h = ih u in (h.0, there h.1, h.2)
    go ih false e u = (d, here refl, e)

-- the highest revision is some record's, and no record's is higher
highest_up : (cs : List Call) (c : Call) → In c cs → c.revision ≤ highest cs
unfolding highest
highest_up [] c i = absurd (in-nil i)
highest_up (d ∷ cs) c i = ⊎_elim (λ (e : c ≡ d). omega (arith, ap (λ (z : Call). z.revision) e)) (λ j. let h = highest_up cs c j in omega arith) (in-cons i)

highest_in : (c : Call) (cs : List Call) → (d : Call) × In d (c ∷ cs) × (d.revision ≡ highest (c ∷ cs))
unfolding highest
highest_in c [] = (c, here refl, omega arith)
highest_in c (b ∷ cs) = go (highest_in b cs) (dec_le (highest (b ∷ cs)) c.revision)
  where
    go : (d : Call) × In d (b ∷ cs) × (d.revision ≡ highest (b ∷ cs)) → Dec (highest (b ∷ cs) ≤ c.revision)
        → (d : Call) × In d (c ∷ b ∷ cs) × (d.revision ≡ highest (c ∷ b ∷ cs))
    go h (yes p) = (c, here refl, omega arith)
    go h (no p) = (h.0, there h.1, let e = h.2 in omega arith)

some_highest : (cs : List Call) (c : Call) → In c cs → (d : Call) × In d cs × (d.revision ≡ highest cs)
some_highest [] c i = absurd (in-nil i)
some_highest (b ∷ cs) c i = highest_in b cs

-- the records that the books have at a key
in_records : (k : ℕ) (bs : List (List Call)) (b : List Call) (c : Call) → In b bs → record_of k b ≡ some c → In c (records_of k bs)
unfolding records_of also
in_records k [] b c i e = absurd (in-nil i)
in_records k (d ∷ bs) b c i e = go (λ j. in_records k bs b c j e) (record_of k d) refl (in-cons i)
  where
    go : (In b bs → In c (records_of k bs)) → (o : Option Call) → record_of k d ≡ o → (b ≡ d) ⊎ In b bs → In c (also o (records_of k bs))
    go ih none f (inl g) = let z : ◌≡◌ {A = ℕ} 0 1 = cc in absurd (omega arith)
    go ih none f (inr j) = ih j
    go ih (some a) f (inl g) = let h : c ≡ a = cc in here h
    go ih (some a) f (inr j) = there (ih j)

pub records_in : (k : ℕ) (bs : List (List Call)) (c : Call) → In c (records_of k bs) → (b : List Call) × In b bs × (record_of k b ≡ some c)
unfolding records_of also
records_in k [] c i = absurd (in-nil i)
records_in k (d ∷ bs) c i = go (records_in k bs c) (record_of k d) refl i
  where
    go : (In c (records_of k bs) → (b : List Call) × In b bs × (record_of k b ≡ some c)) → (o : Option Call) → record_of k d ≡ o → In c (also o (records_of k bs))
        → (b : List Call) × In b (d ∷ bs) × (record_of k b ≡ some c)
    go ih none f j = let h = ih j in (h.0, there h.1, h.2)
    go ih (some a) f j =
        ⊎_elim (λ (e : c ≡ a). (d, here refl, f ∙ ap some (sym e))) (λ l. let h = ih l in (h.0, there h.1, h.2)) (in-cons j)

-- o is the least record above those of a list
record Over (cs : List Call) (o : Option Call) : Type 0 where
  above : (c : Call) → In c cs → Under (some c) o
  least : (z : Option Call) → ((c : Call) → In c cs → Under (some c) z) → Under o z

-- one of them that is above all
top_over : (cs : List Call) (d : Call) → In d cs → ((c : Call) → In c cs → Below c d) → Over cs (some d)
top_over cs d i h = record { above = h; least = λ z u. u d i }

by_rank : (c d : Call) → rank c ≤ rank d → (rank c ≡ rank d → Below c d) → Below c d
by_rank c d h f = go (three (rank c) (rank d))
  where
    go : Three (rank c) (rank d) → Below c d
    go (inl p) = inl p
    go (inr (inl p)) = f p
    go (inr (inr p)) = absurd (omega arith)

-- ranks, of a withdrawn record and of another
pub gone_rank : (c : Call) → is_withdrawn c ≡ true → rank c ≡ 4294967296 + c.revision
gone_rank c t = go (is c)
  where
    go : Is c → rank c ≡ 4294967296 + c.revision
    go (gone _ _ r _) = r
    go (stays _ n _ _) = absurd (n (eqb-true _ _ t))

pub here_rank : (c : Call) → (is_withdrawn c ≡ true → ⊥) → (rank c ≡ c.revision) × (blank c ≡ call_contested c)
here_rank c t = go (is c)
  where
    go : Is c → (rank c ≡ c.revision) × (blank c ≡ call_contested c)
    go (gone u _ _ _) = absurd (t u)
    go (stays _ _ r b) = (r, b)

-- the call of w withdrawn at the revision of d, of the same key
one_withdrawn : {m : ℕ} (w d : Call) (r : ℕ) → CallWithin m w → CallWithin m d → call_key w ≡ call_key d → d.revision ≡ r → withdrawn_at r w ≡ call_withdrawn d
unfolding withdrawn_at
one_withdrawn w d r p q k e =
    let h = key_same w d p.number q.number k in
    λ i. record { participant = h.0 i; service = 0; state = withdrawn; number = h.1 i; revision = sym e i; start = 0; length = 0; a = pos 0; b = 0; c = 0 }

kept : (p : Call → Bool) (cs rs : List Call) → those p cs ≡ rs → (c : Call) → In c rs → In c cs × (p c ≡ true)
kept p cs rs e c i = those_in p cs c (subst (λ (l : List Call). In c l) (sym e) i)

keeps : (p : Call → Bool) (cs rs : List Call) → those p cs ≡ rs → (c : Call) → In c cs → p c ≡ true → In c rs
keeps p cs rs e c i t = subst (λ (l : List Call). In c l) e (in_those p cs c i t)

module _ (m k : ℕ) (cs : List Call) (good : (c : Call) → In c cs → CallWithin m c × (call_key c ≡ k)) where
  one : (c d : Call) → In c cs → In d cs → call_key c ≡ call_key d
  one c d i j = (good c i).1 ∙ sym (good d j).1

  -- where a record is withdrawn
  rule_is_withdrawn : (w : Call) (ws : List Call) → those is_withdrawn cs ≡ w ∷ ws → Over cs (some (withdrawn_at (highest (w ∷ ws)) w))
  rule_is_withdrawn w ws e =
      let w-in = (kept is_withdrawn cs (w ∷ ws) e w (here refl)).0 in
      let top = highest_in w ws in
      let d = top.0 in
      let d-is = kept is_withdrawn cs (w ∷ ws) e d top.1 in
      let same = one_withdrawn w d (highest (w ∷ ws)) (good w w-in).0 (good d d-is.0).0 (one w d w-in d-is.0) top.2 in
      rw (same ∙ sym (own_withdrawn d (good d d-is.0).0 (eqb-true _ _ d-is.1)))
      (top_over cs d d-is.0 (λ c i. above d d-is.0 d-is.1 top.2 c i (is_withdrawn c) refl))
    where
      above : (d : Call) → In d cs → is_withdrawn d ≡ true → d.revision ≡ highest (w ∷ ws) → (c : Call) → In c cs → (b : Bool) → is_withdrawn c ≡ b → Below c d
      above d j t h c i true u =
          let most = highest_up (w ∷ ws) c (keeps is_withdrawn cs (w ∷ ws) e c i u) in
          by_rank c d (omega (arith, gone_rank c u, gone_rank d t))
          (λ r. inr (inr (own_blank d (good d j).0 (eqb-true _ _ t) ∙ sym (level c d (good c i).0 (good d j).0 (one c d i j) r))))
      above d j t h c i false u =
          inl (omega (arith, gone_rank d t, (here_rank c (λ v. true≢false (sym v ∙ u))).0, (good c i).0.revision.1))

  -- where none is
  module _ (e : those is_withdrawn cs ≡ []) where
    none_gone : (c : Call) → In c cs → (rank c ≡ c.revision) × (blank c ≡ call_contested c)
    none_gone c i = here_rank c (λ t. in-nil (keeps is_withdrawn cs [] e c i t))

    rule_none : those (λ c. eqb c.revision (highest cs)) cs ≡ [] → Over cs none
    rule_none f =
        record {
          above = λ c i. let h = some_highest cs c i in in-nil (keeps (λ c. eqb c.revision (highest cs)) cs [] f h.0 h.1 (eq-eqb _ _ h.2));
          least = λ z u. tt;
        }

    module _ (t : Call) (ts : List Call) (f : those (λ c. eqb c.revision (highest cs)) cs ≡ t ∷ ts) where
      at_top : (c : Call) → In c (t ∷ ts) → In c cs × (c.revision ≡ highest cs)
      at_top c i = let h = kept _ cs (t ∷ ts) f c i in (h.0, eqb-true _ _ h.1)

      t_in : In t cs
      t_in = (at_top t (here refl)).0

      rank_t : rank t ≡ highest cs
      rank_t = (none_gone t t_in).0 ∙ (at_top t (here refl)).1

      under_t : (c : Call) → In c cs → rank c ≤ rank t
      under_t c i = omega (arith, rank_t, (none_gone c i).0, highest_up cs c i)

      rule_alike : all (same_call t) ts ≡ true → Over cs (some t)
      rule_alike a = top_over cs t t_in (λ c i. by_rank c t (under_t c i) (λ r. inr (inl (like c i r))))
        where
          like : (c : Call) → In c cs → rank c ≡ rank t → c ≡ t
          like c i r =
              let found = keeps (λ c. eqb c.revision (highest cs)) cs (t ∷ ts) f c i (eq-eqb _ _ (sym (none_gone c i).0 ∙ r ∙ rank_t)) in
              ⊎_elim (λ (h : c ≡ t). h) (λ j. sym (same_eq t c (all_in (same_call t) ts a c j))) (in-cons found)

      rule_clash : all (same_call t) ts ≡ false → Over cs (some (call_contested t))
      rule_clash a =
          rw (sym (none_gone t t_in).1)
          (record {
            above = λ c i.
                by_rank c (blank t) (omega (arith, under_t c i, rank_blank t))
                (λ r. inr (inr (level t c (good t t_in).0 (good c i).0 (one t c t_in i) (sym (r ∙ rank_blank t)))));
            least = least;
          })
        where
          least : (z : Option Call) → ((c : Call) → In c cs → Under (some c) z) → Under (some (blank t)) z
          least none u = u t t_in
          least (some z) u =
              let o = not_all (same_call t) ts a in
              let d = o.0 in
              let d-is = at_top d (there o.1) in
              let below = stand_least t d (good t t_in).0 (good d d-is.0).0 (one t d t_in d-is.0) z (u t t_in) (u d d-is.0) in
              go d o.2 (rank_t ∙ sym d-is.1 ∙ sym (none_gone d d-is.0).0) below (stood t d (good t t_in).0 (good d d-is.0).0 (one t d t_in d-is.0))
            where
              go : (d : Call) → same_call t d ≡ false → rank t ≡ rank d → Below (standing t d) z → Stood t d → Below (blank t) z
              go d n r b (second h e) = absurd (omega arith)
              go d n r b (first h e) = absurd (omega arith)
              go d n r b (equal h e) = absurd (true≢false (sym (eq_same t d h) ∙ n))
              go d n r b (clash h q e) = rw e at b

  decided : (ws ts : List Call) → those is_withdrawn cs ≡ ws → those (λ c. eqb c.revision (highest cs)) cs ≡ ts → Over cs (ruling ws ts)
  unfolding ruling
  decided (w ∷ ws) ts e f = rule_is_withdrawn w ws e
  decided [] [] e f = rule_none e f
  decided [] (t ∷ ts) e f = go (all (same_call t) ts) refl
    where
      go : (b : Bool) → all (same_call t) ts ≡ b → Over cs (some (cond b t (call_contested t)))
      go true a = rule_alike e t ts f a
      go false a = rule_clash e t ts f a

  rule_over_lem : Over cs (rule_for cs)
  unfolding rule_for
  rule_over_lem = decided _ _ refl refl

-- the rule over the whole list
pub rule_least : (m : ℕ) (bs : List (List Call)) (k : ℕ) → Sounds m bs → Least bs k (rule_over bs k)
unfolding rule_over
rule_least m bs k s = record { above = λ b i. up b i (record_of k b) refl; least = λ z u. over.least z (λ c i. down z u c (records_in k bs c i)) }
  where
    good : (c : Call) → In c (records_of k bs) → CallWithin m c × (call_key c ≡ k)
    good c i =
        let h = records_in k bs c i in
        let f = find_in k h.0 c h.2 in
        (within_in m h.0 c (s h.0 h.1).within f.0, f.1)

    over : Over (records_of k bs) (rule_for (records_of k bs))
    over = rule_over_lem m k (records_of k bs) good

    up : (b : List Call) → In b bs → (o : Option Call) → record_of k b ≡ o → Under o (rule_for (records_of k bs))
    up b i none e = tt
    up b i (some c) e = over.above c (in_records k bs b c i e)

    down : (z : Option Call) → ((b : List Call) → In b bs → Under (record_of k b) z) → (c : Call) → (b : List Call) × In b bs × (record_of k b ≡ some c) → Under (some c) z
    down z u c h = subst (λ (o : Option Call). Under o z) h.2 (u h.0 h.1)
