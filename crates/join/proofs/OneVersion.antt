-- The version of every tree of joins over the same books is that over the whole list. Assumes nothing.
use mathlib.Core.Path.{◌≡◌, refl, sym, ◌∙◌, ap, ap₂}
use mathlib.Core.Bool.{Bool, true, false, cond, ◌&&◌, true≢false}
use mathlib.Core.Logic.{inl, inr, ⊎_elim}
use mathlib.Core.List.Memᴰ
use mathlib.Core.List.{List, [], ◌∷◌, ◌++◌}
use mathlib.Core.List.Memᴰ.{cases_cons as in-cons}
use mathlib.Core.List.Memᴰ.{head as here}
use mathlib.Core.List.Memᴰ.{not-nil as in-nil}
use mathlib.Core.List.Memᴰ.{tail as there}
use mathlib.Core.List.{Memᴰ as In}
use Prim.Native.Nat.{ℕ, ◌≤◌, ◌<◌}
use native.Mathlib.Omega.{arith}
use lib.Dec.{eqb, leb}
use lib.ListN.{length}
use borrow.Author.Tests.{leb-true, le-leb, lt-leb, eq-eqb}
use Rattle.le.proofs.Tests.{each, all}
use Rattle.book.specs.declared.Header.{Header}
use Rattle.book.specs.Book.{first_version, second_version, most_records, version_at, calls_of}
use Rattle.book.specs.Sound.{Known, Sound}
use Rattle.book.proofs.Exact.{sound_known}
use Rattle.rule.specs.Whole.{tree_joined}
use Rattle.join.specs.Joining.{key_count, pair_version}
use Rattle.join.specs.Trees.{Plan, book, join, books, OneMonth, all_first, version_over}
use Rattle.join.proofs.Versions.{tree_version}
use Rattle.join.proofs.Trees.{sound_few, tree_of, left_month, right_month, key_count_lem, keys_of}

-- Tests

-- two tests that pass together are one
together : (t u : Bool) → (t ≡ true → u ≡ true) → (u ≡ true → t ≡ true) → t ≡ u
together true u f g = sym (f refl)
together false true f g = g refl
together false false f g = refl

-- the first version is told from the second
is_first_lem : (t : Bool) → eqb (cond t first_version second_version) first_version ≡ t
is_first_lem true = refl
is_first_lem false = refl

-- Books of the first version

first_in_lem : (bs : List (List ℕ)) → all_first bs ≡ true → (b : List ℕ) → In b bs → eqb (version_at b) first_version ≡ true
unfolding all_first
first_in_lem [] e b i = absurd (in-nil i)
first_in_lem (c ∷ bs) e b i =
    let p = each (eqb (version_at c) first_version) (all_first bs ∷ []) e in
    ⊎_elim (λ (f : b ≡ c). ap (λ (x : List ℕ). eqb (version_at x) first_version) f ∙ p.0) (λ j. first_in_lem bs p.1.0 b j) (in-cons i)

in_first : (bs : List (List ℕ)) → ((b : List ℕ) → In b bs → eqb (version_at b) first_version ≡ true) → all_first bs ≡ true
unfolding all_first
in_first [] f = refl
in_first (b ∷ bs) f = all (eqb (version_at b) first_version) (all_first bs ∷ []) (f b (here refl), (in_first bs (λ c i. f c (there i)), tt))

first_append : (ls rs : List (List ℕ)) → all_first (ls ++ rs) ≡ (all_first ls && all_first rs)
unfolding all_first
first_append [] rs = refl
first_append (b ∷ ls) rs = ap (λ (t : Bool). eqb (version_at b) first_version && t) (first_append ls rs) ∙ nested (eqb (version_at b) first_version) (all_first ls) (all_first rs)
  where
    nested : (t u v : Bool) → (t && (u && v)) ≡ ((t && u) && v)
    nested true u v = refl
    nested false u v = refl

-- what the version over a list depends on: which books are in it,
pub version_same : (bs cs : List (List ℕ)) → ((b : List ℕ) → In b bs → In b cs) → ((b : List ℕ) → In b cs → In b bs) → version_over bs ≡ version_over cs
unfolding version_over
version_same bs cs f g =
    let firsts : all_first bs ≡ all_first cs =
    together _ _ (λ e. in_first cs (λ b i. first_in_lem bs e b (g b i))) (λ e. in_first bs (λ b i. first_in_lem cs e b (f b i))) in
    let keys : key_count bs ≡ key_count cs = omega (arith, keys_of bs cs f, keys_of cs bs g) in
    rw (firsts, keys) refl

-- or the first book's version, and how many keys there are
pub head_version : (b c : List ℕ) (bs : List (List ℕ)) → version_at b ≡ version_at c → key_count (b ∷ bs) ≡ key_count (c ∷ bs) → version_over (b ∷ bs) ≡ version_over (c ∷ bs)
unfolding version_over all_first
head_version b c bs v k = rw (v, k) refl

-- the two answers: the first version where every book is of it and the keys are few,
pub stays_first_lem : (bs : List (List ℕ)) → ((b : List ℕ) → In b bs → version_at b ≡ first_version) → key_count bs ≤ most_records first_version → version_over bs ≡ first_version
unfolding version_over
stays_first_lem bs f l = rw (in_first bs (λ b i. eq-eqb _ _ (f b i)), le-leb (key_count bs) (most_records first_version) l) refl

-- the second where a book is of it,
pub one_is_second : (bs : List (List ℕ)) (b : List ℕ) → In b bs → version_at b ≡ second_version → version_over bs ≡ second_version
unfolding version_over
one_is_second bs b i v = go (all_first bs) refl
  where
    go : (t : Bool) → all_first bs ≡ t → cond (all_first bs && leb (key_count bs) (most_records first_version)) first_version second_version ≡ second_version
    go true e = let k : eqb (version_at b) first_version ≡ true = first_in_lem bs e b i in absurd (true≢false (sym (rw v at k)))
    go false e = rw e refl

-- or where the keys are more
pub keys_make_second : (bs : List (List ℕ)) → most_records first_version < key_count bs → version_over bs ≡ second_version
unfolding version_over
keys_make_second bs l = rw (lt-leb (key_count bs) (most_records first_version) l) (go (all_first bs))
  where
    go : (t : Bool) → cond (t && false) first_version second_version ≡ second_version
    go true = refl
    go false = refl

-- Trees

-- two lists together
both_over : (ls rs : List (List ℕ)) → pair_version (version_over ls) (version_over rs) (key_count (ls ++ rs)) ≡ version_over (ls ++ rs)
unfolding pair_version version_over
both_over ls rs =
    rw (first_append ls rs, is_first_lem (all_first ls && few ls), is_first_lem (all_first rs && few rs))
    (ap (λ (t : Bool). cond t first_version second_version) (at (few (ls ++ rs)) refl))
  where
    few : List (List ℕ) → Bool
    few bs = leb (key_count bs) (most_records first_version)

    less : (bs : List (List ℕ)) → ((b : List ℕ) → In b bs → In b (ls ++ rs)) → few (ls ++ rs) ≡ true → few bs ≡ true
    less bs f e =
        let l : key_count bs ≤ most_records first_version = omega (arith, keys_of bs (ls ++ rs) f, leb-true (key_count (ls ++ rs)) (most_records first_version) e) in
        le-leb (key_count bs) (most_records first_version) l

    plain : (t u : Bool) → (((t && true) && (u && true)) && true) ≡ ((t && u) && true)
    plain true true = refl
    plain true false = refl
    plain false u = refl

    never : (t : Bool) → (t && false) ≡ false
    never true = refl
    never false = refl

    at : (k : Bool) → few (ls ++ rs) ≡ k → (((all_first ls && few ls) && (all_first rs && few rs)) && few (ls ++ rs)) ≡ ((all_first ls && all_first rs) && few (ls ++ rs))
    at true e =
        rw (e, less ls (λ b i. Memᴰ.append_left rs i) e, less rs (λ b i. Memᴰ.append_right ls i) e) (plain (all_first ls) (all_first rs))
    at false e = rw e (never ((all_first ls && few ls) && (all_first rs && few rs)) ∙ sym (never (all_first ls && all_first rs)))

module _ (h : Header) where
  -- a lone book
  lone_version : (b : List ℕ) → OneMonth h (b ∷ []) → version_at b ≡ version_over (b ∷ [])
  unfolding version_over all_first books tree_of tree_joined
  lone_version b o = go (sound_known b sound)
    where
      sound : Sound b
      sound = o.sound b (here refl)

      keys : length (calls_of b) ≡ key_count (b ∷ [])
      keys = key_count_lem h (book b) o

      go : Known (version_at b) → version_at b ≡ cond ((eqb (version_at b) first_version && true) && leb (key_count (b ∷ [])) (most_records first_version)) first_version second_version
      go (inl e) =
          let few : key_count (b ∷ []) ≤ most_records first_version = rw e at (rw keys at (sound_few b sound)) in
          rw (e, le-leb _ _ few) refl
      go (inr e) = rw e refl

  -- the version of a tree over books of one month is that over the whole list of its leaves
  pub leaves_version : (p : Plan) → OneMonth h (books p) → tree_version p ≡ version_over (books p)
  unfolding tree_version books
  leaves_version (book b) o = lone_version b o
  leaves_version (join l r out) o =
      ap₂ (λ (v w : ℕ). pair_version v w (key_count (books l ++ books r))) (leaves_version l (left_month h l r out o)) (leaves_version r (right_month h l r out o))
      ∙ both_over (books l) (books r)
