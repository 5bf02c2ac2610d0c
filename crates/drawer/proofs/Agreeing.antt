-- What is listed of books, and whether each agrees with what stands. Assumes nothing.
use mathlib.Core.Path.{◌≡◌, refl, sym, ◌∙◌, ap, ap₂, subst}
use mathlib.Core.Bool.{Bool, true, false, not, true≢false}
use mathlib.Core.Logic.{inl, inr, ⊎_elim, ◌↔◌}
use mathlib.Core.List.Memᴰ
use mathlib.Core.List.Memᴰ.{cases_cons as in-cons}
use mathlib.Core.List.Memᴰ.{head as here}
use mathlib.Core.List.Memᴰ.{not-nil as in-nil}
use mathlib.Core.List.Memᴰ.{tail as there}
use mathlib.Core.List.{List, [], ◌∷◌, map, Memᴰ as In}
use mathlib.Core.Option.{Option, none, some}
use Prim.Native.Nat.{ℕ, zero, suc, ◌+◌, ◌≤◌, ◌<◌}
use native.Mathlib.Decide.{ℕ_discrete}
use native.Mathlib.Omega.{arith}
use Rattle.call.specs.declared.Call.{Call}
use Rattle.call.specs.Key.{call_key}
use Rattle.book.specs.declared.Header.{Header}
use Rattle.book.specs.declared.Verdict.{Verdict}
use Rattle.book.specs.Book.{most_keys, header_at, count_at, record_at, calls_from, calls_of}
use Rattle.book.specs.Check.{accepted, header_minutes}
use Rattle.book.proofs.Exact.{sound_accepted}
use Rattle.pair.specs.Screening.{same_month, screen}
use Rattle.pair.proofs.Screening.{screen_passes}
use Rattle.rule.specs.Standing.{same_call}
use Rattle.rule.specs.Keys.{record_of}
use Rattle.rule.specs.Whole.{rule_over, rule_calls}
use Rattle.rule.proofs.Equality.{same_eq, eq_same}
use Rattle.rule.proofs.Keyed.{find_in, in_find}
use Rattle.rule.proofs.Bounds.{Under, under_anti, Calls, Sounds, tree_sound}
use Rattle.rule.proofs.Ruling.{rule_least}
use Rattle.rule.proofs.Orders.{leaves_sound, joined_rule}
use Rattle.join.specs.Joining.{key_count}
use Rattle.join.specs.Trees.{Plan, written, result, Room, OneMonth, Covers}
use Rattle.join.proofs.Trees.{same_month_lem, tree_of, covers_over, month_sounds}
use Rattle.join.proofs.Orders.{calls, result_reads, result_sound}
use Rattle.drawer.specs.declared.stale.StaleRecord.{StaleRecord}
use Rattle.drawer.specs.Stale.{is_this, is_stale, is_stale_at, stale_at, stale_of, first_stale, next_stale, NothingListed, EachStands, NoneDiffer}
use Rattle.drawer.proofs.Telling.{told_in, in_told, none_listed, none_told}
use Rattle.drawer.proofs.Listing.{next_of}

flip : (t : Bool) → not t ≡ false → t ≡ true
flip true e = refl
flip false e = absurd (true≢false e)

-- A record is listed exactly where it is not the one that stands for its key
module _ (joined : List Call) (c : Call) where
  pub fresh_stands : is_stale joined c ≡ false → record_of (call_key c) joined ≡ some c
  unfolding is_stale is_this
  fresh_stands = go (record_of (call_key c) joined) refl
    where
      go : (o : Option Call) → record_of (call_key c) joined ≡ o → not (is_this o c) ≡ false → record_of (call_key c) joined ≡ some c
      go none f e = absurd (true≢false e)
      go (some r) f e = f ∙ ap some (same_eq r c (flip (same_call r c) e))

  pub stands_fresh : record_of (call_key c) joined ≡ some c → is_stale joined c ≡ false
  unfolding is_stale is_this
  stands_fresh e = rw (e, eq_same c c refl) refl

  pub stale_exactly : (is_stale joined c ≡ true) ↔ (record_of (call_key c) joined ≡ some c → ⊥)
  stale_exactly = (λ e f. true≢false (sym e ∙ stands_fresh f), λ n. go n (is_stale joined c) refl)
    where
      go : (record_of (call_key c) joined ≡ some c → ⊥) → (t : Bool) → is_stale joined c ≡ t → is_stale joined c ≡ true
      go n true e = e
      go n false e = absurd (n (fresh_stands e))

-- the calls of a book are its records
calls_at : (b : List ℕ) (left i : ℕ) (c : Call) → In c (calls_from b i left) → (k : ℕ) × (i ≤ k) × (k < i + left) × (c ≡ record_at b k)
unfolding calls_from
calls_at b zero i c m = absurd (in-nil m)
calls_at b (suc left) i c m =
    ⊎_elim (λ (e : c ≡ record_at b i). (i, omega arith, omega arith, e)) (λ j. let r = calls_at b left (suc i) c j in (r.0, omega (arith, r.1), omega (arith, r.2), r.3)) (in-cons m)

at_calls : (b : List ℕ) (left i k : ℕ) → i ≤ k → k < i + left → In (record_at b k) (calls_from b i left)
unfolding calls_from
at_calls b zero i k l h = absurd (omega arith)
at_calls b (suc left) i k l h = go (at_calls b left (suc i) k) (ℕ_discrete k i)
  where
    go : (suc i ≤ k → k < suc i + left → In (record_at b k) (calls_from b (suc i) left)) → Dec (k ≡ i) → In (record_at b k) (record_at b i ∷ calls_from b (suc i) left)
    go ih (yes e) = here (ap (record_at b) e)
    go ih (no n) = there (ih (omega arith) (omega arith))

-- Nothing is listed of a book exactly where each of its records is the one that stands.
pub none_stale : (book joined : List ℕ) → (stale_of book joined 0 ≡ []) ↔ ((c : Call) → In c (calls_of book) → record_of (call_key c) (calls_of joined) ≡ some c)
unfolding stale_of is_stale_at calls_of
none_stale book joined = (of_none, to_none)
  where
    of_none : stale_of book joined 0 ≡ [] → (c : Call) → In c (calls_of book) → record_of (call_key c) (calls_of joined) ≡ some c
    of_none e c m =
        let r = calls_at book (count_at book) 0 c m in
        fresh_stands (calls_of joined) c
        (ap (is_stale (calls_of joined)) r.3 ∙ none_listed (is_stale_at book joined) (stale_at book joined) (count_at book) 0 e r.0 r.1 (omega (arith, r.2)))

    to_none : ((c : Call) → In c (calls_of book) → record_of (call_key c) (calls_of joined) ≡ some c) → stale_of book joined 0 ≡ []
    to_none h =
        none_told (is_stale_at book joined) (stale_at book joined) (count_at book) 0
        (λ k l u. stands_fresh (calls_of joined) (record_at book k) (h (record_at book k) (at_calls book (count_at book) 0 k l (omega arith))))

-- A record of a book is told exactly where it is not the one that stands for its key.
pub told_exactly : (book joined : List ℕ) (k : ℕ) → k < count_at book
    → ((x : StaleRecord) × In x (stale_of book joined 0) × (x.place ≡ k)) ↔ (record_of (call_key (record_at book k)) (calls_of joined) ≡ some (record_at book k) → ⊥)
unfolding stale_of is_stale_at stale_at
told_exactly book joined k l = (from, to)
  where
    stale : (is_stale (calls_of joined) (record_at book k) ≡ true) ↔ (record_of (call_key (record_at book k)) (calls_of joined) ≡ some (record_at book k) → ⊥)
    stale = stale_exactly (calls_of joined) (record_at book k)

    from : (x : StaleRecord) × In x (stale_of book joined 0) × (x.place ≡ k) → record_of (call_key (record_at book k)) (calls_of joined) ≡ some (record_at book k) → ⊥
    from e =
        let t = told_in (is_stale_at book joined) (stale_at book joined) (count_at book) 0 e.0 e.1 in
        let p : t.k ≡ k = sym (ap (λ (x : StaleRecord). x.place) t.is) ∙ e.2 in
        stale.0 (ap (is_stale_at book joined) (sym p) ∙ t.is_listed_lem)

    to : (record_of (call_key (record_at book k)) (calls_of joined) ≡ some (record_at book k) → ⊥) → (x : StaleRecord) × In x (stale_of book joined 0) × (x.place ≡ k)
    to n = (stale_at book joined k, in_told (is_stale_at book joined) (stale_at book joined) (count_at book) 0 k (omega arith) l (stale.1 n), refl)

-- Sound books of one month and area
module _ (h : Header) (bs : List (List ℕ)) (month : OneMonth h bs) where
  sounds : Sounds (header_minutes h) (map calls_of bs)
  sounds = month_sounds h bs month

  -- what a key has in a book, as one of its records
  pub has_own : (b : List ℕ) → In b bs → (c : Call) → In c (calls_of b) → record_of (call_key c) (calls_of b) ≡ some c
  has_own b i c m = in_find 0 (calls_of b) c (sounds (calls_of b) (Memᴰ.map calls_of i)).rises m

  -- Each agrees with what stands exactly where no two of them have different records for one key.
  pub stands_exactly : EachStands bs ↔ NoneDiffer bs
  stands_exactly = (differ, each)
    where
      one : {o : Option Call} (x y : Call) → o ≡ some x → o ≡ some y → x ≡ y
      one x y e f = cc

      differ : EachStands bs → NoneDiffer bs
      differ s b i d j x m y n k = one x y (s b i x m) (ap (rule_over (map calls_of bs)) k ∙ s d j y n)

      each : NoneDiffer bs → EachStands bs
      each n b i c m =
          let l = rule_least (header_minutes h) (map calls_of bs) (call_key c) sounds in
          let up : Under (some c) (rule_over (map calls_of bs) (call_key c)) =
          subst (λ (o : Option Call). Under o (rule_over (map calls_of bs) (call_key c))) (has_own b i c m) (l.above (calls_of b) (Memᴰ.map calls_of i)) in
          under_anti (rule_over (map calls_of bs) (call_key c)) (some c) (l.least (some c) below) up
        where
          found : (d : List Call) → In d (map calls_of bs) → (o : Option Call) → record_of (call_key c) d ≡ o → Under o (some c)
          found d j none e = tt
          found d j (some y) e =
              let f = find_in (call_key c) d y e in
              let q = Memᴰ.of_map calls_of bs j in
              let w : In y (calls_of q.0) = subst (λ (l : List Call). In y l) (sym q.2) f.0 in
              inr (inl (n q.0 q.1 b i y w c m f.1))

          below : (d : List Call) → In d (map calls_of bs) → Under (record_of (call_key c) d) (some c)
          below d j = found d j (record_of (call_key c) d) refl

  -- however they are joined
  module _ (p : Plan) (covers : Covers p bs) (room : Room p) (few : key_count bs ≤ most_keys) where
    pub joined_calls : calls_of (written (result p)) ≡ rule_calls (map calls_of bs)
    joined_calls = (result_reads h bs month p covers room few).1

    pub joined_stands : (k : ℕ) → record_of k (calls_of (written (result p))) ≡ rule_over (map calls_of bs) k
    joined_stands k =
        ap (record_of k) (calls h bs month p covers room few) ∙ joined_rule (header_minutes h) (tree_of p) (map calls_of bs) (covers_over p bs covers) sounds k

    pub joined_sound : Calls (header_minutes h) (calls_of (written (result p)))
    joined_sound =
        subst (Calls (header_minutes h)) (sym (calls h bs month p covers room few))
        (tree_sound (header_minutes h) (tree_of p) (leaves_sound (header_minutes h) (tree_of p) (map calls_of bs) (covers_over p bs covers) sounds))

    pub joined_header : header_at (written (result p)) ≡ h
    joined_header = (result_reads h bs month p covers room few).0

    -- none of the books is refused against the joined book, nor it against them
    pub none_refused_lem : (b : List ℕ) → In b bs → (screen b (written (result p)) ≡ accepted) × (screen (written (result p)) b ≡ accepted)
    none_refused_lem b i =
        let own = sound_accepted b (month.sound b i) in
        let all = sound_accepted (written (result p)) (result_sound h bs month p covers room few) in (
          sym (screen_passes b (written (result p)) own all (ap₂ same_month (month.header b i) joined_header ∙ same_month_lem h)),
          sym (screen_passes (written (result p)) b all own (ap₂ same_month joined_header (month.header b i) ∙ same_month_lem h)),
        )

    -- so the next one that is told is the first of those that are listed
    pub told_next : (b : List ℕ) → In b bs → (i : ℕ) → next_stale b (written (result p)) i ≡ first_stale (stale_of b (written (result p)) i)
    told_next b m i = sym (next_of b (written (result p)) i (ap (λ (v : Verdict). v.number) (none_refused_lem b m).0))

    -- Nothing is listed of the books exactly where each agrees with what stands,
    pub nothing_listed : NothingListed (written (result p)) bs ↔ EachStands bs
    nothing_listed = (
      λ n b i c m. sym (joined_stands (call_key c)) ∙ (none_stale b (written (result p))).0 (n b i) c m,
      λ s b i. (none_stale b (written (result p))).1 (λ c m. joined_stands (call_key c) ∙ s b i c m),
    )

    -- that is, where no two of them have different records for one key.
    pub nothing_differs : NothingListed (written (result p)) bs ↔ NoneDiffer bs
    nothing_differs = (λ n. stands_exactly.0 (nothing_listed.0 n), λ d. nothing_listed.1 (stands_exactly.1 d))
