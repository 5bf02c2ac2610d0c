-- The records of one key, ordered: by rank, and at one rank the blank record above all others.
-- `standing` is the least upper bound of two. Assumes nothing.
use mathlib.Core.Path.{◌≡◌, refl, sym, ◌∙◌, ap}
use mathlib.Core.Bool.{Bool, true, false, true≢false}
use mathlib.Core.Logic.{◌⊎◌, inl, inr}
use Prim.Native.Nat.{ℕ, ◌≤◌, ◌<◌, ◌+◌}
use native.Mathlib.Omega.{arith}
use borrow.Author.Tests.{lt-ltb, le-ltb, eqb-true, eqb-false}
use Rattle.call.specs.declared.Call.{Call}
use Rattle.call.specs.Key.{call_key}
use Rattle.call.specs.Revising.{contested, withdrawn, call_struck, call_contested, call_withdrawn}
use Rattle.call.specs.Service.{CallWithin, Stated, is_live, is_contested_lem, is_withdrawn_lem, Blank}
use Rattle.call.proofs.Keys.{key_same}
use Rattle.rule.specs.declared.Decision.{Decision}
use Rattle.rule.specs.declared.Decision.TheVariants.{First, Second, Struck}
use Rattle.rule.specs.Standing.{same_call, is_contested, is_withdrawn, decide, given, standing}
use Rattle.rule.proofs.Equality.{same_eq, eq_same}
use Rattle.rule.proofs.Keyed.{Three, three}

-- withdrawn above all others, then by revision
rank_if : Bool → ℕ → ℕ
rank_if true r = 4294967296 + r
rank_if false r = r

pub rank : Call → ℕ
rank c = rank_if (is_withdrawn c) c.revision

-- the record of that rank with nothing in it
unfoldable pub state_if : Bool → ℕ
state_if true = withdrawn
state_if false = contested

unfoldable pub blank : Call → Call
blank c = call_struck (state_if (is_withdrawn c)) c

-- a test, as a number's fact
pub data Is (c : Call) : Type 0 where
  gone : is_withdrawn c ≡ true → c.state ≡ 2 → rank c ≡ 4294967296 + c.revision → blank c ≡ call_withdrawn c → Is c
  stays : is_withdrawn c ≡ false → (c.state ≡ 2 → ⊥) → rank c ≡ c.revision → blank c ≡ call_contested c → Is c

pub is : (c : Call) → Is c
unfolding rank blank rank_if state_if
is c = go (is_withdrawn c) refl
  where
    go : (b : Bool) → is_withdrawn c ≡ b → Is c
    go true e = gone e (eqb-true _ _ e) (ap (λ (b : Bool). rank_if b c.revision) e) (ap (λ (b : Bool). call_struck (state_if b) c) e)
    go false e = stays e (eqb-false _ _ e) (ap (λ (b : Bool). rank_if b c.revision) e) (ap (λ (b : Bool). call_struck (state_if b) c) e)

rank_withdrawn : (c : Call) → rank (call_withdrawn c) ≡ 4294967296 + c.revision
unfolding rank rank_if
rank_withdrawn c = refl

rank_contested : (c : Call) → rank (call_contested c) ≡ c.revision
unfolding rank rank_if
rank_contested c = refl

blank_withdrawn : (c : Call) → blank (call_withdrawn c) ≡ call_withdrawn c
unfolding blank state_if
blank_withdrawn c = refl

blank_contested : (c : Call) → blank (call_contested c) ≡ call_contested c
unfolding blank state_if
blank_contested c = refl

pub rank_blank : (c : Call) → rank (blank c) ≡ rank c
rank_blank c = go (is c)
  where
    go : Is c → rank (blank c) ≡ rank c
    go (gone t s r e) = ap rank e ∙ rank_withdrawn c ∙ sym r
    go (stays t s r e) = ap rank e ∙ rank_contested c ∙ sym r

blank_blank : (c : Call) → blank (blank c) ≡ blank c
blank_blank c = go (is c)
  where
    go : Is c → blank (blank c) ≡ blank c
    go (gone t s r e) = ap blank e ∙ blank_withdrawn c ∙ sym e
    go (stays t s r e) = ap blank e ∙ blank_contested c ∙ sym e

-- the order, and that it is one
abbrev pub Below : Call → Call → Type 0
Below x y = (rank x < rank y) ⊎ ((x ≡ y) ⊎ (y ≡ blank x))

pub below_refl : (x : Call) → Below x x
below_refl x = inr (inl refl)

pub below_trans : (x y z : Call) → Below x y → Below y z → Below x z
below_trans x y z (inl p) (inl q) = inl (omega arith)
below_trans x y z (inl p) (inr (inl q)) = inl (omega (arith, ap rank q))
below_trans x y z (inl p) (inr (inr q)) = inl (omega (arith, ap rank q, rank_blank y))
below_trans x y z (inr (inl p)) (inl q) = inl (omega (arith, ap rank p))
below_trans x y z (inr (inl p)) (inr (inl q)) = inr (inl (p ∙ q))
below_trans x y z (inr (inl p)) (inr (inr q)) = inr (inr (q ∙ ap blank (sym p)))
below_trans x y z (inr (inr p)) (inl q) = inl (omega (arith, ap rank p, rank_blank x))
below_trans x y z (inr (inr p)) (inr (inl q)) = inr (inr (sym q ∙ p))
below_trans x y z (inr (inr p)) (inr (inr q)) = inr (inr (q ∙ ap blank p ∙ blank_blank x))

pub below_rank : (x y : Call) → Below x y → rank x ≤ rank y
below_rank x y (inl p) = omega arith
below_rank x y (inr (inl p)) = omega (arith, ap rank p)
below_rank x y (inr (inr p)) = omega (arith, ap rank p, rank_blank x)

pub below_anti : (x y : Call) → Below x y → Below y x → x ≡ y
below_anti x y (inl p) q = absurd (omega (arith, below_rank y x q))
below_anti x y (inr (inl p)) q = p
below_anti x y (inr (inr p)) (inl q) = absurd (omega (arith, below_rank x y (inr (inr p))))
below_anti x y (inr (inr p)) (inr (inl q)) = sym q
below_anti x y (inr (inr p)) (inr (inr q)) = q ∙ ap blank p ∙ blank_blank x ∙ sym p

-- Records of sound books

-- a contested or withdrawn record has nothing in it
pub struck_own : {m : ℕ} (c : Call) → CallWithin m c → 1 ≤ c.state → c ≡ call_struck c.state c
struck_own {m} c p h = go p.content
  where
    emptied : Blank c → c ≡ call_struck c.state c
    emptied b =
        λ i. record {
          participant = c.participant;
          service = b.service i;
          state = c.state;
          number = c.number;
          revision = c.revision;
          start = b.time.no_start i;
          length = b.time.no_length i;
          a = b.no_a i;
          b = b.no_b i;
          c = b.no_c i;
        }

    go : Stated m c → c ≡ call_struck c.state c
    go (is_live s f r) = absurd (omega arith)
    go (is_contested_lem s b) = emptied b
    go (is_withdrawn_lem s b) = emptied b

pub own_withdrawn : {m : ℕ} (c : Call) → CallWithin m c → c.state ≡ withdrawn → c ≡ call_withdrawn c
own_withdrawn c p e = struck_own c p (omega arith) ∙ ap (λ (s : ℕ). call_struck s c) e

pub own_contested : {m : ℕ} (c : Call) → CallWithin m c → c.state ≡ contested → c ≡ call_contested c
own_contested c p e = struck_own c p (omega arith) ∙ ap (λ (s : ℕ). call_struck s c) e

-- records of one key, struck at one revision, are one
pub one_struck : {m : ℕ} (x y : Call) (s : ℕ) → CallWithin m x → CallWithin m y → call_key x ≡ call_key y → x.revision ≡ y.revision → call_struck s x ≡ call_struck s y
one_struck x y s p q k e =
    let h = key_same x y p.number q.number k in
    λ i. record { participant = h.0 i; service = 0; state = s; number = h.1 i; revision = e i; start = 0; length = 0; a = (call_struck s x).a; b = 0; c = 0 }

pub level : {m : ℕ} (x y : Call) → CallWithin m x → CallWithin m y → call_key x ≡ call_key y → rank x ≡ rank y → blank x ≡ blank y
level x y p q k r = go (is x) (is y)
  where
    go : Is x → Is y → blank x ≡ blank y
    go (gone _ _ rx bx) (gone _ _ ry by) = bx ∙ one_struck x y withdrawn p q k (omega arith) ∙ sym by
    go (gone _ _ rx bx) (stays _ _ ry by) = absurd (omega (arith, q.revision.1))
    go (stays _ _ rx bx) (gone _ _ ry by) = absurd (omega (arith, p.revision.1))
    go (stays _ _ rx bx) (stays _ _ ry by) = bx ∙ one_struck x y contested p q k (omega arith) ∙ sym by

-- a withdrawn record is its own blank
pub own_blank : {m : ℕ} (x : Call) → CallWithin m x → x.state ≡ withdrawn → x ≡ blank x
own_blank x p e = go (is x)
  where
    go : Is x → x ≡ blank x
    go (gone _ _ _ b) = own_withdrawn x p e ∙ sym b
    go (stays _ n _ _) = absurd (n e)

-- what `standing` is, by rank
pub data Stood (x y : Call) : Type 0 where
  second : rank x < rank y → standing x y ≡ y → Stood x y
  first : rank y < rank x → standing x y ≡ x → Stood x y
  equal : x ≡ y → standing x y ≡ x → Stood x y
  clash : rank x ≡ rank y → (x ≡ y → ⊥) → standing x y ≡ blank x → Stood x y

-- the record that stands has the same key
pub stand_key : (x y : Call) → call_key x ≡ call_key y → call_key (standing x y) ≡ call_key x
unfolding standing given
stand_key x y k = go (decide x y)
  where
    go : (d : Decision) → call_key (given d x y) ≡ call_key x
    go First = refl
    go Second = sym k
    go Struck = refl

module _ {m : ℕ} (x y : Call) (p : CallWithin m x) (q : CallWithin m y) (k : call_key x ≡ call_key y) where
  -- at one revision, neither withdrawn
  module _ (tx : is_withdrawn x ≡ false) (ty : is_withdrawn y ≡ false) (h : x.revision ≡ y.revision) where
    unequal : same_call x y ≡ false → (c d : Bool) → is_contested x ≡ c → is_contested y ≡ d → standing x y ≡ call_contested x
    unfolding standing decide given
    unequal e true d f g =
        simp (tx, ty, le-ltb x.revision y.revision (omega arith), le-ltb y.revision x.revision (omega arith), e, f) (own_contested x p (eqb-true _ _ f))
    unequal e false true f g =
        simp (tx, ty, le-ltb x.revision y.revision (omega arith), le-ltb y.revision x.revision (omega arith), e, f, g)
        (own_contested y q (eqb-true _ _ g) ∙ sym (one_struck x y contested p q k h))
    unequal e false false f g =
        simp (tx, ty, le-ltb x.revision y.revision (omega arith), le-ltb y.revision x.revision (omega arith), e, f, g)

    same_stands : same_call x y ≡ true → standing x y ≡ x
    unfolding standing decide given
    same_stands e = simp (tx, ty, le-ltb x.revision y.revision (omega arith), le-ltb y.revision x.revision (omega arith), e)

    alike : rank x ≡ rank y → blank x ≡ call_contested x → (b : Bool) → same_call x y ≡ b → Stood x y
    alike r bx true e = equal (same_eq x y e) (same_stands e)
    alike r bx false e = clash r (λ (d : x ≡ y). true≢false (sym (eq_same x y d) ∙ e)) (unequal e _ _ refl refl ∙ sym bx)

  -- at equal revision unequal records, a contested one against a live one included, become contested at that revision
  pub unequal_contested : is_withdrawn x ≡ false → is_withdrawn y ≡ false → x.revision ≡ y.revision → (x ≡ y → ⊥) → standing x y ≡ call_contested x
  unequal_contested tx ty h n = unequal tx ty h (go (same_call x y) refl) _ _ refl refl
    where
      go : (b : Bool) → same_call x y ≡ b → same_call x y ≡ false
      go true e = absurd (n (same_eq x y e))
      go false e = e

  pub stood : Stood x y
  unfolding standing decide given
  stood = go (is x) (is y) (three x.revision y.revision)
    where
      go : Is x → Is y → Three x.revision y.revision → Stood x y
      go (gone tx sx rx bx) (gone ty sy ry by) (inl h) = second (omega arith) (simp (tx, ty, lt-ltb _ _ h, le-ltb y.revision x.revision (omega arith)))
      go (gone tx sx rx bx) (gone ty sy ry by) (inr (inl h)) =
          let e : x ≡ y = own_blank x p sx ∙ level x y p q k (omega arith) ∙ sym (own_blank y q sy) in
          equal e (simp (tx, ty, le-ltb x.revision y.revision (omega arith), le-ltb y.revision x.revision (omega arith), eq_same x y e))
      go (gone tx sx rx bx) (gone ty sy ry by) (inr (inr h)) = first (omega arith) (simp (tx, ty, lt-ltb _ _ h))
      go (gone tx sx rx bx) (stays ty sy ry by) c = first (omega (arith, q.revision.1)) (simp (tx, ty))
      go (stays tx sx rx bx) (gone ty sy ry by) c = second (omega (arith, p.revision.1)) (simp (tx, ty))
      go (stays tx sx rx bx) (stays ty sy ry by) (inl h) = second (omega arith) (simp (tx, ty, lt-ltb _ _ h, le-ltb y.revision x.revision (omega arith)))
      go (stays tx sx rx bx) (stays ty sy ry by) (inr (inr h)) = first (omega arith) (simp (tx, ty, lt-ltb _ _ h))
      go (stays tx sx rx bx) (stays ty sy ry by) (inr (inl h)) = alike tx ty h (omega arith) bx (same_call x y) refl

  -- `standing` is the least upper bound
  pub stand_left : Below x (standing x y)
  stand_left = go stood
    where
      go : Stood x y → Below x (standing x y)
      go (second h e) = rw e (inl h)
      go (first h e) = inr (inl (sym e))
      go (equal h e) = inr (inl (sym e))
      go (clash h n e) = inr (inr e)

  pub stand_right : Below y (standing x y)
  stand_right = go stood
    where
      go : Stood x y → Below y (standing x y)
      go (second h e) = inr (inl (sym e))
      go (first h e) = rw e (inl h)
      go (equal h e) = inr (inl (sym (e ∙ h)))
      go (clash h n e) = inr (inr (e ∙ level x y p q k h))

  pub stand_least : (z : Call) → Below x z → Below y z → Below (standing x y) z
  stand_least z bx by = go stood
    where
      apart : rank x ≡ rank y → (x ≡ y → ⊥) → Below x z → Below y z → Below (blank x) z
      apart h n (inl a) b = inl (omega (arith, rank_blank x))
      apart h n (inr (inr a)) b = inr (inl (sym a))
      apart h n (inr (inl a)) (inl b) = absurd (omega (arith, ap rank a))
      apart h n (inr (inl a)) (inr (inl b)) = absurd (n (a ∙ sym b))
      apart h n (inr (inl a)) (inr (inr b)) = inr (inl (level x y p q k h ∙ sym b))

      go : Stood x y → Below (standing x y) z
      go (second h e) = rw e by
      go (first h e) = rw e bx
      go (equal h e) = rw e bx
      go (clash h n e) = rw e (apart h n bx by)

  -- the record that stands is sound
  struck_within : (s : ℕ) → Stated m (call_struck s x) → CallWithin m (call_struck s x)
  struck_within s c = record { participant = p.participant; number = p.number; revision = p.revision; content = c }

  empty : (s : ℕ) → Blank (call_struck s x)
  empty s = record { service = refl; time = record { no_start = refl; no_length = refl }; no_a = refl; no_b = refl; no_c = refl }

  blank_within : CallWithin m (blank x)
  blank_within = go (is x)
    where
      go : Is x → CallWithin m (blank x)
      go (gone t s r b) = rw b (struck_within withdrawn (is_withdrawn_lem refl (empty withdrawn)))
      go (stays t s r b) = rw b (struck_within contested (is_contested_lem refl (empty contested)))

  pub stand_within : CallWithin m (standing x y)
  stand_within = go stood
    where
      go : Stood x y → CallWithin m (standing x y)
      go (second h e) = rw e q
      go (first h e) = rw e p
      go (equal h e) = rw e p
      go (clash h n e) = rw e blank_within
