-- Books that add nothing, left out together. Assumes nothing.
use mathlib.Core.Path.{◌≡◌, refl, sym, ◌∙◌, ap, ap₂, subst}
use mathlib.Core.Bool.{Bool, true, false, cond, ◌&&◌, true≢false}
use mathlib.Core.Logic.{⊎_elim, ◌↔◌}
use mathlib.Core.List.Memᴰ
use mathlib.Core.List.{List, [], ◌∷◌, ◌++◌, map, append_assoc}
use mathlib.Core.List.Memᴰ.{append_cases as in-append}
use mathlib.Core.List.Memᴰ.{cases_cons as in-cons}
use mathlib.Core.List.Memᴰ.{head as here}
use mathlib.Core.List.Memᴰ.{not-nil as in-nil}
use mathlib.Core.List.Memᴰ.{tail as there}
use mathlib.Core.List.{Memᴰ as In}
use mathlib.Core.Option.{Option, none, some}
use Prim.Native.Nat.{ℕ, ◌≤◌}
use native.Mathlib.Omega.{arith}
use Rattle.call.specs.declared.Call.{Call}
use Rattle.call.specs.Key.{call_key}
use Rattle.book.specs.declared.Header.{Header}
use Rattle.book.specs.Book.{most_keys, version_at, calls_of}
use Rattle.book.specs.Check.{accepted, header_minutes}
use Rattle.book.specs.Sound.{SaysSame}
use Rattle.book.proofs.Exact.{sound_accepted, one_to_one}
use Rattle.rule.specs.Standing.{standing}
use Rattle.rule.specs.Keys.{record_of}
use Rattle.rule.specs.Whole.{all, rule_over, rule_calls, Tree, leaf, node, leaves}
use Rattle.rule.proofs.Equality.{same_eq, eq_same}
use Rattle.rule.proofs.Keyed.{ext_find}
use Rattle.rule.proofs.Bounds.{least_one}
use Rattle.rule.proofs.Ruling.{rule_least}
use Rattle.rule.proofs.Orders.{Over}
use Rattle.rule.proofs.Without.{rule_find, rule_rises}
use Rattle.join.specs.Joining.{key_count}
use Rattle.join.specs.Trees.{Plan, book, join, books, written, result, Room, OneMonth, Covers, version_over}
use Rattle.join.specs.Nothing.{AddsNothing}
use Rattle.join.proofs.Trees.{same_month_lem, month_sounds, keys_of}
use Rattle.join.proofs.Orders.{result_reads, result_sound, one_version}
use Rattle.join.proofs.Nothing.{rule-same}
use Rattle.pair.specs.Screening.{passes, same_month, screen}
use Rattle.pair.proofs.Screening.{screen_passes}
use Rattle.drawer.specs.Nothing.{stands_against, is_covered, adds_nothing, is_spare, or_stays, staying}
use Rattle.drawer.proofs.Agreeing.{joined_calls, joined_header}

-- Covered is what stands against it

pub all_in : (p : Call → Bool) (cs : List Call) → all p cs ≡ true → (c : Call) → In c cs → p c ≡ true
unfolding all
all_in p [] t c i = absurd (in-nil i)
all_in p (d ∷ cs) t c i = go (all_in p cs) (p d) refl t
  where
    go : (all p cs ≡ true → (c : Call) → In c cs → p c ≡ true) → (b : Bool) → p d ≡ b → (b && all p cs) ≡ true → p c ≡ true
    go ih true e u = ⊎_elim (λ (f : c ≡ d). ap p f ∙ e) (λ j. ih u c j) (in-cons i)
    go ih false e u = absurd (true≢false (sym u))

pub in_all : (p : Call → Bool) (cs : List Call) → ((c : Call) → In c cs → p c ≡ true) → all p cs ≡ true
unfolding all
in_all p [] h = refl
in_all p (d ∷ cs) h = rw (h d (here refl)) (in_all p cs (λ c i. h c (there i)))

-- the calls that others give, and one call
module _ (others : List Call) (c : Call) where
  pub covered_by_lem : is_covered others c ≡ true → (r : Call) × (record_of (call_key c) others ≡ some r) × (standing r c ≡ r)
  unfolding is_covered stands_against
  covered_by_lem = go (record_of (call_key c) others) refl
    where
      go : (o : Option Call) → record_of (call_key c) others ≡ o → stands_against o c ≡ true → (r : Call) × (record_of (call_key c) others ≡ some r) × (standing r c ≡ r)
      go none e t = absurd (true≢false (sym t))
      go (some r) e t = (r, e, same_eq (standing r c) r t)

  pub by_covered : (r : Call) → record_of (call_key c) others ≡ some r → standing r c ≡ r → is_covered others c ≡ true
  unfolding is_covered stands_against
  by_covered r e s = rw e (eq_same (standing r c) r s)

-- A book is covered by what others give exactly where it adds nothing to them.
pub nothing_exactly : (others : List (List ℕ)) (b : List ℕ) → (all (is_covered (rule_calls (map calls_of others))) (calls_of b) ≡ true) ↔ AddsNothing others b
nothing_exactly others b = (
  λ t. record {
    stands = λ c i.
        let r = covered_by_lem given c (all_in (is_covered given) (calls_of b) t c i) in
        (r.0, sym (rule_find (map calls_of others) (call_key c)) ∙ r.1, r.2);
  },
  λ n. in_all (is_covered given) (calls_of b) (λ c i. let r = n.stands c i in by_covered given c r.0 (rule_find (map calls_of others) (call_key c) ∙ r.1) r.2),
)
  where
    given : List Call
    given = rule_calls (map calls_of others)

-- A tree over lists, one after another
tree_from : List Call → List (List Call) → Tree
tree_from b [] = leaf b
tree_from b (d ∷ ds) = node (leaf b) (tree_from d ds)

tree_leaves : (b : List Call) (bs : List (List Call)) → leaves (tree_from b bs) ≡ b ∷ bs
unfolding leaves tree_from
tree_leaves b [] = refl
tree_leaves b (d ∷ ds) = ap (λ (l : List (List Call)). b ∷ l) (tree_leaves d ds)

tree_over : (b : List Call) (bs : List (List Call)) → Over (tree_from b bs) (b ∷ bs)
tree_over b bs =
    record {
      all = λ d i. subst (λ (l : List (List Call)). In d l) (sym (tree_leaves b bs)) i;
      only = λ d i. subst (λ (l : List (List Call)). In d l) (tree_leaves b bs) i;
    }

-- what the rule gives depends only on which books there are
module _ (h : Header) where
  fewer : (bs cs : List (List ℕ)) → OneMonth h cs → ((d : List ℕ) → In d bs → In d cs) → OneMonth h bs
  fewer bs cs m f = record { sound = λ d i. m.sound d (f d i); header = λ d i. m.header d (f d i) }

  mapped : (bs cs : List (List ℕ)) → ((d : List ℕ) → In d bs → In d cs) → (d : List Call) → In d (map calls_of bs) → In d (map calls_of cs)
  mapped bs cs f d i = let m = Memᴰ.of_map calls_of bs i in Memᴰ.cast (sym m.2) (Memᴰ.map calls_of (f m.0 m.1))

  same_books : (bs cs : List (List ℕ)) → OneMonth h bs → OneMonth h cs → ((d : List ℕ) → In d bs → In d cs) → ((d : List ℕ) → In d cs → In d bs)
      → (k : ℕ) → rule_over (map calls_of bs) k ≡ rule_over (map calls_of cs) k
  same_books bs cs m n f g k =
      least_one (map calls_of bs) (map calls_of cs) k _ _ (mapped bs cs f) (mapped cs bs g)
      (rule_least (header_minutes h) (map calls_of bs) k (month_sounds h bs m)) (rule_least (header_minutes h) (map calls_of cs) k (month_sounds h cs n))

  -- a book that is listed changes nothing of what the others give
  listed_same : (others : List (List ℕ)) (b : List ℕ) → OneMonth h (b ∷ others) → is_spare others b ≡ true
      → (k : ℕ) → rule_over (map calls_of (b ∷ others)) k ≡ rule_over (map calls_of others) k
  unfolding is_spare
  listed_same [] b m t k = absurd (true≢false (sym t))
  listed_same (o ∷ os) b m t k =
      rule-same (header_minutes h) (calls_of b) (map calls_of (o ∷ os)) (month_sounds h (b ∷ o ∷ os) m) (tree_from (calls_of o) (map calls_of os))
      (tree_over (calls_of o) (map calls_of os)) ((nothing_exactly (o ∷ os) b).0 t).stands k

  -- a book between others, or before them
  between : (before : List (List ℕ)) (b : List ℕ) (behind : List (List ℕ)) (d : List ℕ) → In d (before ++ (b ∷ behind)) → In d (b ∷ before ++ behind)
  between before b behind d i =
      ⊎_elim (λ j. there (Memᴰ.append_left behind j)) (λ j. ⊎_elim (λ (e : d ≡ b). here e) (λ l. there (Memᴰ.append_right before l)) (in-cons j)) (in-append before i)

  in_front : (before : List (List ℕ)) (b : List ℕ) (behind : List (List ℕ)) (d : List ℕ) → In d (b ∷ before ++ behind) → In d (before ++ (b ∷ behind))
  in_front before b behind d i =
      ⊎_elim (λ (e : d ≡ b). Memᴰ.append_right before (here e))
      (λ j. ⊎_elim (λ l. Memᴰ.append_left (b ∷ behind) l) (λ l. Memᴰ.append_right before (there l)) (in-append before j)) (in-cons i)

  -- those that stay are among the books
  pub stays_in : (before bs : List (List ℕ)) (d : List ℕ) → In d (staying before bs) → In d bs
  unfolding staying or_stays
  stays_in before [] d i = i
  stays_in before (b ∷ bs) d i = go (stays_in (before ++ (b ∷ [])) bs d) (is_spare (before ++ staying (before ++ (b ∷ [])) bs) b) i
    where
      go : (In d (staying (before ++ (b ∷ [])) bs) → In d bs) → (t : Bool)
          → In d (cond t (staying (before ++ (b ∷ [])) bs) (b ∷ staying (before ++ (b ∷ [])) bs)) → In d (b ∷ bs)
      go ih true j = there (ih j)
      go ih false j = ⊎_elim (λ (e : d ≡ b). here e) (λ l. there (ih l)) (in-cons j)

  both_in : (before : List (List ℕ)) (xs ys : List (List ℕ)) → ((d : List ℕ) → In d xs → In d ys) → (d : List ℕ) → In d (before ++ xs) → In d (before ++ ys)
  both_in before xs ys f d i = ⊎_elim (λ j. Memᴰ.append_left ys j) (λ j. Memᴰ.append_right before (f d j)) (in-append before i)

  -- with those that stay every key has what it has with all of them
  stays_rule : (before bs : List (List ℕ)) → OneMonth h (before ++ bs) → (k : ℕ) → rule_over (map calls_of (before ++ staying before bs)) k ≡ rule_over (map calls_of (before ++ bs)) k
  unfolding staying or_stays
  stays_rule before [] m k = refl
  stays_rule before (b ∷ bs) m k = go (stays_rule (before ++ (b ∷ [])) bs (subst (OneMonth h) (sym (append_assoc before (b ∷ []) bs)) m) k) (is_spare (before ++ rest) b) refl
    where
      rest : List (List ℕ)
      rest = staying (before ++ (b ∷ [])) bs

      given : List (List ℕ) → Option Call
      given l = rule_over (map calls_of l) k

      kept : given ((before ++ (b ∷ [])) ++ rest) ≡ given ((before ++ (b ∷ [])) ++ bs) → given (before ++ (b ∷ rest)) ≡ given (before ++ (b ∷ bs))
      kept ih = ap given (sym (append_assoc before (b ∷ []) rest)) ∙ ih ∙ ap given (append_assoc before (b ∷ []) bs)

      in_books : (d : List ℕ) → In d (b ∷ rest) → In d (b ∷ bs)
      in_books d i = ⊎_elim (λ (e : d ≡ b). here e) (λ j. there (stays_in (before ++ (b ∷ [])) bs d j)) (in-cons i)

      between_month : OneMonth h (before ++ (b ∷ rest))
      between_month = fewer (before ++ (b ∷ rest)) (before ++ (b ∷ bs)) m (both_in before (b ∷ rest) (b ∷ bs) in_books)

      front_month : OneMonth h (b ∷ before ++ rest)
      front_month = fewer (b ∷ before ++ rest) (before ++ (b ∷ rest)) between_month (in_front before b rest)

      go : given ((before ++ (b ∷ [])) ++ rest) ≡ given ((before ++ (b ∷ [])) ++ bs) → (t : Bool) → is_spare (before ++ rest) b ≡ t
          → given (before ++ cond t rest (b ∷ rest)) ≡ given (before ++ (b ∷ bs))
      go ih false e = kept ih
      go ih true e =
          sym (listed_same (before ++ rest) b front_month e k)
          ∙ same_books (b ∷ before ++ rest) (before ++ (b ∷ rest)) front_month between_month (in_front before b rest) (between before b rest) k
          ∙ kept ih

-- ALL BOOKS THAT ARE LISTED LEFT OUT TOGETHER
module _ (h : Header) (bs : List (List ℕ)) (month : OneMonth h bs) where
  stay_month : OneMonth h (staying [] bs)
  stay_month = fewer h (staying [] bs) bs month (stays_in h [] bs)

  -- the joined calls are the same,
  pub calls_same : rule_calls (map calls_of (staying [] bs)) ≡ rule_calls (map calls_of bs)
  calls_same =
      ext_find 0 0 (rule_calls (map calls_of (staying [] bs))) (rule_calls (map calls_of bs)) (rule_rises (map calls_of (staying [] bs))) (rule_rises (map calls_of bs))
      (λ k. rule_find (map calls_of (staying [] bs)) k ∙ stays_rule h [] bs month k ∙ sym (rule_find (map calls_of bs) k))

  module _ (few : key_count bs ≤ most_keys) (p q : Plan) (c : Covers p bs) (d : Covers q (staying [] bs)) (r : Room p) (s : Room q) where
    few_stay : key_count (staying [] bs) ≤ most_keys
    few_stay = omega (arith, few, keys_of (staying [] bs) bs (stays_in h [] bs))

    -- and so are the month, the area and the calls, however those that stay are joined, and however all are;
    pub says_same : SaysSame (written (result q)) (written (result p))
    says_same =
        let x = result_reads h (staying [] bs) stay_month q d s few_stay in
        let y = result_reads h bs month p c r few in
        record { header = x.0 ∙ sym y.0; calls = x.1 ∙ calls_same ∙ sym y.1 }

    -- the bytes exactly where the version over the whole list is the same.
    pub bytes_same : (written (result q) ≡ written (result p)) ↔ (version_over (staying [] bs) ≡ version_over bs)
    bytes_same =
        let v = one_version h (staying [] bs) stay_month q d s few_stay in
        let w = one_version h bs month p c r few in (
          λ e. sym v ∙ ap version_at e ∙ w,
          λ e.
              one_to_one _ _ (result_sound h (staying [] bs) stay_month q d s few_stay) (result_sound h bs month p c r few) (v ∙ e ∙ sym w) says_same,
        )

-- One book always stays.
pub one_stays : (b : List ℕ) (bs : List (List ℕ)) → staying [] (b ∷ bs) ≡ [] → ⊥
unfolding staying or_stays is_spare
one_stays b bs = go (staying (b ∷ []) bs)
  where
    go : (rest : List (List ℕ)) → cond (is_spare rest b) rest (b ∷ rest) ≡ [] → ⊥
    go [] e = let z : ◌≡◌ {A = ℕ} 0 1 = cc in omega arith
    go (d ∷ ds) e = either (is_spare (d ∷ ds) b) e
      where
        either : (t : Bool) → cond t (d ∷ ds) (b ∷ d ∷ ds) ≡ [] → ⊥
        either true e = let z : ◌≡◌ {A = ℕ} 0 1 = cc in omega arith
        either false e = let z : ◌≡◌ {A = ℕ} 0 1 = cc in omega arith

-- Over bytes: a book adds nothing to the joined book of others, in whatever order they came together, exactly where it adds nothing to them.
pub adds_exactly : (h : Header) (b : List ℕ) (others : List (List ℕ)) → OneMonth h (b ∷ others) → key_count others ≤ most_keys
    → (q : Plan) → Covers q others → Room q → (adds_nothing (written (result q)) b ≡ true) ↔ AddsNothing others b
unfolding adds_nothing
adds_exactly h b others month few q covers room = (
  λ t. (nothing_exactly others b).0 (of_calls (passed t)),
  λ n. rw screened (to-calls ((nothing_exactly others b).1 n)),
)
  where
    rest : OneMonth h others
    rest = fewer h others (b ∷ others) month (λ d i. there i)

    joined : List ℕ
    joined = written (result q)

    reads : calls_of joined ≡ rule_calls (map calls_of others)
    reads = joined_calls h others rest q covers room few

    of_calls : all (is_covered (calls_of joined)) (calls_of b) ≡ true → all (is_covered (rule_calls (map calls_of others))) (calls_of b) ≡ true
    of_calls t = ap (λ (cs : List Call). all (is_covered cs) (calls_of b)) (sym reads) ∙ t

    to-calls : all (is_covered (rule_calls (map calls_of others))) (calls_of b) ≡ true → all (is_covered (calls_of joined)) (calls_of b) ≡ true
    to-calls t = ap (λ (cs : List Call). all (is_covered cs) (calls_of b)) reads ∙ t

    screened : screen joined b ≡ accepted
    screened =
        sym (screen_passes joined b (sound_accepted joined (result_sound h others rest q covers room few)) (sound_accepted b (month.sound b (here refl)))
        (ap₂ same_month (joined_header h others rest q covers room few) (month.header b (here refl)) ∙ same_month_lem h))

    passed : (passes (screen joined b) && all (is_covered (calls_of joined)) (calls_of b)) ≡ true → all (is_covered (calls_of joined)) (calls_of b) ≡ true
    passed = second (passes (screen joined b)) (all (is_covered (calls_of joined)) (calls_of b))
      where
        second : (t u : Bool) → (t && u) ≡ true → u ≡ true
        second true u e = e
        second false u e = absurd (true≢false (sym e))

-- there is a book at a tree's leaves
some_book : (p : Plan) → (b : List ℕ) × In b (books p)
unfolding books
some_book (book b) = (b, here refl)
some_book (join l r out) = let f = some_book l in (f.0, Memᴰ.append_left (books r) f.1)

-- two tests that pass together are one
together : (t u : Bool) → (t ≡ true → u ≡ true) → (u ≡ true → t ≡ true) → t ≡ u
together true u f g = sym (f refl)
together false true f g = g refl
together false false f g = refl

-- So the operation, over the joined book of others in whatever order they came together, answers whether a book is spare among them.
pub spare_exactly : (h : Header) (b : List ℕ) (others : List (List ℕ)) → OneMonth h (b ∷ others) → key_count others ≤ most_keys
    → (q : Plan) → Covers q others → Room q → adds_nothing (written (result q)) b ≡ is_spare others b
unfolding is_spare
spare_exactly h b [] month few q covers room = let l = some_book q in absurd (in-nil (covers.only l.0 l.1))
spare_exactly h b (o ∷ os) month few q covers room =
    let adds = adds_exactly h b (o ∷ os) month few q covers room in
    let rule = nothing_exactly (o ∷ os) b in
    together _ _ (λ t. rule.1 (adds.0 t)) (λ t. adds.1 (rule.0 t))
