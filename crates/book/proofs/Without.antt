-- A sound book without the record of a key is a sound book of the same month and area, with the other calls in their order. Assumes nothing.
use mathlib.Core.Path.{◌≡◌, refl, sym, ◌∙◌, ap}
use mathlib.Core.Logic.{◌⊎◌, inl, inr}
use mathlib.Core.List.Memᴰ.{cases_cons as in-cons}
use mathlib.Core.List.Memᴰ.{head as here}
use mathlib.Core.List.Memᴰ.{not-nil as in-nil}
use mathlib.Core.List.Memᴰ.{tail as there}
use mathlib.Core.List.{List, [], ◌∷◌, Memᴰ as In}
use Prim.Native.Nat.{ℕ, zero, suc, ◌+◌, ◌≤◌, ◌<◌}
use native.Mathlib.Nat.{not-suc-le-zero, le_refl, zero-add, add-zero}
use native.Mathlib.Decide.{ℕ_discrete}
use native.Mathlib.Omega.{arith}
use lib.IntN.{pos}
use lib.ListN.{length, get_or}
use borrow.Author.Tests.{eq-eqb, ne_eqb}
use Rattle.call.specs.declared.Call.{Call}
use Rattle.call.specs.Key.{call_key}
use Rattle.book.specs.Book.{most_records, version_at, header_at, count_at, record_at, calls_from, calls_of}
use Rattle.book.specs.Check.{header_minutes}
use Rattle.book.specs.Sound.{Heading, CallsWithin, Rises, Sound}
use Rattle.book.specs.Without.{without, book_without}
use Rattle.book.proofs.Records.{length_calls}
use Rattle.book.proofs.Exact.{version_of, reads_back, sound_version, sound_reads, sound_known}

-- Lists of calls

-- a call of that key, and one of another
pub without_hit : (k : ℕ) (c : Call) (cs : List Call) → call_key c ≡ k → without k (c ∷ cs) ≡ without k cs
unfolding without
without_hit k c cs e = simp (eq-eqb (call_key c) k e)

pub without_miss : (k : ℕ) (c : Call) (cs : List Call) → (call_key c ≡ k → ⊥) → without k (c ∷ cs) ≡ c ∷ without k cs
unfolding without
without_miss k c cs e = simp (ne_eqb (call_key c) k e)

module _ (k : ℕ) where
  pub without_within : (m : ℕ) (cs : List Call) → CallsWithin m cs → CallsWithin m (without k cs)
  unfolding without
  without_within m [] w = tt
  without_within m (c ∷ cs) w = go (without_within m cs w.1) (ℕ_discrete (call_key c) k)
    where
      go : CallsWithin m (without k cs) → Dec (call_key c ≡ k) → CallsWithin m (without k (c ∷ cs))
      go ih (yes e) = rw (without_hit k c cs e) ih
      go ih (no e) = rw (without_miss k c cs e) (w.0, ih)

  pub without_rises : (low n : ℕ) (cs : List Call) → low ≤ n → Rises n cs → Rises low (without k cs)
  unfolding without
  without_rises low n [] l r = tt
  without_rises low n (c ∷ cs) l r = go (λ x y. without_rises x (suc (call_key c)) cs y r.1) (ℕ_discrete (call_key c) k)
    where
      go : ((x : ℕ) → x ≤ suc (call_key c) → Rises x (without k cs)) → Dec (call_key c ≡ k) → Rises low (without k (c ∷ cs))
      go ih (yes e) = rw (without_hit k c cs e) (ih low (omega (arith, r.0)))
      go ih (no e) = rw (without_miss k c cs e) (omega (arith, r.0), ih (suc (call_key c)) (le_refl (suc (call_key c))))

  pub without_length : (cs : List Call) → length (without k cs) ≤ length cs
  unfolding without
  without_length [] = omega arith
  without_length (c ∷ cs) = go (without_length cs) (ℕ_discrete (call_key c) k)
    where
      go : length (without k cs) ≤ length cs → Dec (call_key c ≡ k) → length (without k (c ∷ cs)) ≤ length (c ∷ cs)
      go ih (yes e) = rw (without_hit k c cs e) (omega arith)
      go ih (no e) = rw (without_miss k c cs e) (omega arith)

  -- calls of higher keys all stay
  pub without_none : (n : ℕ) (cs : List Call) → k < n → Rises n cs → without k cs ≡ cs
  unfolding without
  without_none n [] l r = refl
  without_none n (c ∷ cs) l r =
      let h = r.0 in
      without_miss k c cs (λ e. omega arith) ∙ ap (λ (ds : List Call). c ∷ ds) (without_none (suc (call_key c)) cs (omega arith) r.1)

-- Call i of a list

-- a call of zeros, which stands for none
pub no_call : Call
no_call = record { participant = 0; service = 0; state = 0; number = 0; revision = 0; start = 0; length = 0; a = pos 0; b = 0; c = 0 }

abbrev pub call_in : List Call → ℕ → Call
call_in cs i = get_or cs i no_call

pub in_above : (n : ℕ) (cs : List Call) (j : ℕ) → Rises n cs → j < length cs → n ≤ call_key (call_in cs j)
in_above n [] j r l = absurd (not-suc-le-zero l)
in_above n (c ∷ cs) zero r l = r.0
in_above n (c ∷ cs) (suc j) r l = let h = in_above (suc (call_key c)) cs j r.1 (omega arith) in omega (arith, r.0)

pub in_calls : (b : List ℕ) (s n i : ℕ) → i < n → call_in (calls_from b s n) i ≡ record_at b (s + i)
unfolding calls_from
in_calls b s zero i l = absurd (not-suc-le-zero l)
in_calls b s (suc n) zero l = ap (record_at b) (sym (add-zero s))
in_calls b s (suc n) (suc i) l = let e : suc s + i ≡ s + suc i = omega arith in in_calls b (suc s) n i (omega arith) ∙ ap (record_at b) e

-- ys are the calls xs without call j, in their order
pub record Left (xs ys : List Call) (j : ℕ) : Type 0 where
  pub fewer : length xs ≡ suc (length ys)
  pub before : (i : ℕ) → i < j → call_in ys i ≡ call_in xs i
  pub behind : (i : ℕ) → j ≤ i → call_in ys i ≡ call_in xs (suc i)

-- where keys rise, the call of a key is the one that is taken out
pub left_calls : (k n : ℕ) (cs : List Call) (j : ℕ) → Rises n cs → j < length cs → call_key (call_in cs j) ≡ k → Left cs (without k cs) j
left_calls k n [] j r l e = absurd (not-suc-le-zero l)
left_calls k n (c ∷ cs) zero r l e =
    let same = without_hit k c cs e ∙ without_none k (suc (call_key c)) cs (omega arith) r.1 in
    rw same (record { fewer = refl; before = λ i h. absurd (not-suc-le-zero h); behind = λ i h. refl })
left_calls k n (c ∷ cs) (suc j) r l e =
    let above = in_above (suc (call_key c)) cs j r.1 (omega arith) in
    rw (without_miss k c cs (λ f. omega arith)) (more (left_calls k (suc (call_key c)) cs j r.1 (omega arith) e))
  where
    more : Left cs (without k cs) j → Left (c ∷ cs) (c ∷ without k cs) (suc j)
    more t = record { fewer = ap suc t.fewer; before = before; behind = behind }
      where
        before : (i : ℕ) → i < suc j → call_in (c ∷ without k cs) i ≡ call_in (c ∷ cs) i
        before zero h = refl
        before (suc i) h = t.before i (omega arith)

        behind : (i : ℕ) → suc j ≤ i → call_in (c ∷ without k cs) i ≡ call_in cs i
        behind zero h = absurd (not-suc-le-zero h)
        behind (suc i) h = t.behind i (omega arith)

-- Books

module _ (k : ℕ) (b : List ℕ) (s : Sound b) where
  head : Heading (header_at b)
  head = rw (sound_reads b s).0 s.heading

  few : length (without k (calls_of b)) ≤ most_records (version_at b)
  few = rw (sound_version b s) (omega (arith, without_length k (calls_of b), ap length (sound_reads b s).1, s.few))

  within : CallsWithin (header_minutes (header_at b)) (without k (calls_of b))
  within = without_within k (header_minutes (header_at b)) (calls_of b) (rw ((sound_reads b s).0, (sound_reads b s).1) s.within)

  rising : Rises 0 (calls_of b)
  rising = rw (sound_reads b s).1 s.rising

  -- It is a sound book,
  pub without_sound : Sound (book_without k b)
  unfolding book_without
  without_sound =
      record {
        version = version_at b;
        header = header_at b;
        calls = without k (calls_of b);
        known = sound_known b s;
        heading = head;
        few = few;
        within = within;
        rising = without_rises k 0 0 (calls_of b) (le_refl 0) rising;
        bytes = refl;
      }

  -- of the same version,
  pub without_version : version_at (book_without k b) ≡ version_at b
  unfolding book_without
  without_version = version_of (version_at b) (header_at b) (without k (calls_of b)) (sound_known b s) head few

  -- month and area, and its calls are those of other keys.
  pub without_reads : (header_at (book_without k b) ≡ header_at b) × (calls_of (book_without k b) ≡ without k (calls_of b))
  unfolding book_without
  without_reads = reads_back (version_at b) (header_at b) (without k (calls_of b)) (sound_known b s) head few within

-- The records of a sound book that has lost record j: those behind it are one further up.
pub record RecordsLeft (b b' : List ℕ) (j : ℕ) : Type 0 where
  pub fewer : count_at b ≡ suc (count_at b')
  pub before : (i : ℕ) → i < j → record_at b' i ≡ record_at b i
  pub behind : (i : ℕ) → j ≤ i → i < count_at b' → record_at b' i ≡ record_at b (suc i)

pub records_left : (b : List ℕ) → Sound b → (j : ℕ) → j < count_at b → RecordsLeft b (book_without (call_key (record_at b j)) b) j
unfolding calls_of
records_left b s j l =
    record {
      fewer = count_is;
      before = λ i h. sym (at b' i (omega (arith, count_is))) ∙ ap (λ (cs : List Call). call_in cs i) calls ∙ left.before i h ∙ at b i (omega arith);
      behind = λ i h t. sym (at b' i t) ∙ ap (λ (cs : List Call). call_in cs i) calls ∙ left.behind i h ∙ at b (suc i) (omega (arith, count_is));
    }
  where
    k : ℕ
    k = call_key (record_at b j)

    b' : List ℕ
    b' = book_without k b

    -- record i is call i
    at : (a : List ℕ) (i : ℕ) → i < count_at a → call_in (calls_of a) i ≡ record_at a i
    at a i h = in_calls a 0 (count_at a) i h ∙ ap (record_at a) (zero-add i)

    calls : calls_of b' ≡ without k (calls_of b)
    calls = (without_reads k b s).1

    left : Left (calls_of b) (without k (calls_of b)) j
    left = left_calls k 0 (calls_of b) j (rising k b s) (omega (arith, length_calls b (count_at b) 0)) (ap call_key (at b j l))

    count_is : count_at b ≡ suc (count_at b')
    count_is = sym (length_calls b (count_at b) 0) ∙ left.fewer ∙ ap suc (sym (ap length calls) ∙ length_calls b' (count_at b') 0)

pub from_place : (b : List ℕ) (s n : ℕ) (c : Call) → In c (calls_from b s n) → (j : ℕ) × (j < n) × (record_at b (s + j) ≡ c)
unfolding calls_from
from_place b s zero c i = absurd (in-nil i)
from_place b s (suc n) c i = go (from_place b (suc s) n c) (in-cons i)
  where
    go : (In c (calls_from b (suc s) n) → (j : ℕ) × (j < n) × (record_at b (suc s + j) ≡ c)) → (c ≡ record_at b s) ⊎ In c (calls_from b (suc s) n)
        → (j : ℕ) × (j < suc n) × (record_at b (s + j) ≡ c)
    go ih (inl e) = (0, omega arith, ap (record_at b) (add-zero s) ∙ sym e)
    go ih (inr h) =
        let f = ih h in
        let e : s + suc f.0 ≡ suc s + f.0 = omega arith in
        (suc f.0, omega (arith, f.1), ap (record_at b) e ∙ f.2)

-- A call of a book is one of its records.
pub call_place : (b : List ℕ) (c : Call) → In c (calls_of b) → (j : ℕ) × (j < count_at b) × (record_at b j ≡ c)
unfolding calls_of
call_place b c i = let f = from_place b 0 (count_at b) c i in (f.0, f.1, ap (record_at b) (sym (zero-add f.0)) ∙ f.2)

pub place_from_lem : (b : List ℕ) (n s j : ℕ) → j < n → In (record_at b (s + j)) (calls_from b s n)
unfolding calls_from
place_from_lem b zero s j l = absurd (not-suc-le-zero l)
place_from_lem b (suc n) s zero l = let e : s + 0 ≡ s = omega arith in here (ap (record_at b) e)
place_from_lem b (suc n) s (suc j) l = let e : s + suc j ≡ suc s + j = omega arith in rw e (there (place_from_lem b n (suc s) j (omega arith)))

-- A record of a book is one of its calls.
pub place_call : (b : List ℕ) (j : ℕ) → j < count_at b → In (record_at b j) (calls_of b)
unfolding calls_of
place_call b j l = let e : 0 + j ≡ j = omega arith in rw e at (place_from_lem b (count_at b) 0 j l)
