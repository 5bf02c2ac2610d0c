-- The cut of a sound book: there is one of its version, it is sound, and it is the only one. Assumes nothing.
use mathlib.Core.Path.{◌≡◌, refl, sym, ◌∙◌, ap}
use mathlib.Core.Logic.{◌⊎◌, inl, inr, ⊎_elim, ◌↔◌}
use mathlib.Core.List.{List, [], ◌∷◌, Memᴰ as In}
use Prim.Native.Nat.{ℕ, suc, ◌≤◌, ◌<◌, zero-le}
use native.Mathlib.Nat.{le_refl}
use native.Mathlib.Omega.{arith}
use lib.ListN.{length}
use Rattle.call.specs.declared.Call.{Call}
use Rattle.call.specs.Key.{call_key}
use Rattle.book.specs.Book.{most_records, version_at, header_at, count_at, calls_of, book_bytes}
use Rattle.book.specs.Check.{header_minutes}
use Rattle.book.specs.Sound.{Heading, CallsWithin, Rises, Sound}
use Rattle.book.specs.Without.{without}
use Rattle.book.proofs.Exact.{version_of, reads_back, sound_reads, sound_known, one_to_one}
use Rattle.book.proofs.Records.{length_calls}
use Rattle.book.proofs.Writing.{Numbered}
use Rattle.book.proofs.Without.{without_within, without_rises}
use Rattle.book.specs.Cut.{Cuttable, Cut}
use Rattle.book.proofs.Rising.{one_key, same_members, in_without, placed, in_placed, placed_within, placed_rises, placed_length, placed_again}
use Rattle.book.proofs.Parts.{calls_rise, calls_within, call_within, first_within, second_within, Keys, keys}

pub count_of_calls : (b : List ℕ) → length (calls_of b) ≡ count_at b
unfolding calls_of
count_of_calls b = length_calls b (count_at b) 0

-- the calls that stay
abbrev pub others : List ℕ → Call → List Call
others b whole = without (call_key whole) (calls_of b)

-- the calls of the cut book: the parts at their places among those that stay
abbrev pub cut_calls : List ℕ → Call → Call → Call → List Call
cut_calls b whole first second = placed first (placed second (others b whole))

-- what a cut has: the parts, and what is of the book and is not the whole
abbrev pub Left : List ℕ → Call → Call → Call → Call → Type 0
Left b whole first second x = (x ≡ first) ⊎ ((x ≡ second) ⊎ (In x (calls_of b) × (x ≡ whole → ⊥)))

module _ (b : List ℕ) (s : Sound b) (whole : Call) (has : In whole (calls_of b)) where
  -- the book's calls are those that stay, and the whole at its place
  pub whole_placed : calls_of b ≡ placed whole (others b whole)
  whole_placed = placed_again whole 0 (calls_of b) (calls_rise b s) has

  pub in_others : (x : Call) → In x (others b whole) ↔ (In x (calls_of b) × (x ≡ whole → ⊥))
  in_others x = (to, from)
    where
      to : In x (others b whole) → In x (calls_of b) × (x ≡ whole → ⊥)
      to i = let h = (in_without (call_key whole) (calls_of b) x).0 i in (h.0, λ e. h.1 (ap call_key e))

      from : In x (calls_of b) × (x ≡ whole → ⊥) → In x (others b whole)
      from h = (in_without (call_key whole) (calls_of b) x).1 (h.0, λ e. h.1 (one_key 0 (calls_of b) x whole (calls_rise b s) h.0 has e))

  module _ (first second : Call) where
    pub in_cut : (x : Call) → In x (cut_calls b whole first second) ↔ Left b whole first second x
    in_cut x = (to, from)
      where
        to : In x (cut_calls b whole first second) → Left b whole first second x
        to i =
            ⊎_elim inl (λ j. inr (⊎_elim inl (λ k. inr ((in_others x).0 k)) ((in_placed second (others b whole) x).0 j))) ((in_placed first (placed second (others b whole)) x).0 i)

        from : Left b whole first second x → In x (cut_calls b whole first second)
        from (inl e) = (in_placed first (placed second (others b whole)) x).1 (inl e)
        from (inr (inl e)) = (in_placed first (placed second (others b whole)) x).1 (inr ((in_placed second (others b whole) x).1 (inl e)))
        from (inr (inr h)) = (in_placed first (placed second (others b whole)) x).1 (inr ((in_placed second (others b whole) x).1 (inr ((in_others x).1 h))))

    pub cut_rises : Keys b whole first second → Rises 0 (cut_calls b whole first second)
    cut_rises k =
        placed_rises first 0 (placed second (others b whole)) zero-le none
        (placed_rises second 0 (others b whole) zero-le (stays second k.second_free) (without_rises (call_key whole) 0 0 (calls_of b) (le_refl 0) (calls_rise b s)))
      where
        stays : (x : Call) → ((y : Call) → In y (calls_of b) → call_key y ≡ call_key x → call_key y ≡ call_key whole) → (y : Call) → In y (others b whole) → call_key y ≡ call_key x → ⊥
        stays x free y i e = let h = (in_without (call_key whole) (calls_of b) y).0 i in h.1 (free y h.0 e)

        none : (y : Call) → In y (placed second (others b whole)) → call_key y ≡ call_key first → ⊥
        none y i e = ⊎_elim (λ (d : y ≡ second). k.distinct (sym e ∙ ap call_key d)) (λ j. stays first k.first_free y j e) ((in_placed second (others b whole) y).0 i)

    pub cut_length : length (cut_calls b whole first second) ≡ suc (length (calls_of b))
    cut_length =
        omega (arith, placed_length first (placed second (others b whole)), placed_length second (others b whole), placed_length whole (others b whole), ap length whole_placed)

-- Any cut of a sound book

module _ (b c : List ℕ) (s : Sound b) (t : Sound c) (whole first second : Call) (cut : Cut b c whole first second) where
  pub cut_keys : Keys b whole first second
  cut_keys =
      keys b s whole cut.cuttable.has first second cut.cuttable (call_within c t first ((cut.calls first).1 (inl refl))).number
      (call_within c t second ((cut.calls second).1 (inr (inl refl)))).number

  -- its calls are the parts among those that stay
  pub cut_calls_lem : calls_of c ≡ cut_calls b whole first second
  cut_calls_lem =
      let has = cut.cuttable.has in
      same_members 0 0 (calls_of c) (cut_calls b whole first second) (calls_rise c t) (cut_rises b s whole has first second cut_keys)
      (λ x. (λ i. (in_cut b s whole has first second x).1 ((cut.calls x).0 i), λ i. (cut.calls x).1 ((in_cut b s whole has first second x).0 i)))

  -- one record more
  pub cut_count : count_at c ≡ suc (count_at b)
  cut_count = omega (arith, count_of_calls b, count_of_calls c, ap length cut_calls_lem, cut_length b s whole cut.cuttable.has first second)

-- There is one

module _ (b : List ℕ) (s : Sound b) (whole first second : Call) (cut : Cuttable b whole first second) (numbered : Numbered (first ∷ second ∷ []))
    (free : count_at b < most_records (version_at b)) where
  abbrev calls : List Call
  calls = cut_calls b whole first second

  abbrev after : List ℕ
  after = book_bytes (version_at b) (header_at b) calls

  heads : Heading (header_at b)
  heads = rw (sound_reads b s).0 s.heading

  few : length calls ≤ most_records (version_at b)
  few = omega (arith, cut_length b s whole cut.has first second, count_of_calls b)

  within : CallsWithin (header_minutes (header_at b)) calls
  within =
      let m = header_minutes (header_at b) in
      placed_within first m (placed second (others b whole)) (first_within b s whole first second cut numbered.0.0 numbered.0.1)
      (placed_within second m (others b whole) (second_within b s whole first second cut numbered.1.0.0 numbered.1.0.1) (without_within (call_key whole) m (calls_of b) (calls_within b s)))

  reads : (header_at after ≡ header_at b) × (calls_of after ≡ calls)
  reads = reads_back (version_at b) (header_at b) calls (sound_known b s) heads few within

  -- Where the book is sound and has a free place there is a cut of it, of its version, sound, with one record more,
  pub cut-sound : (c : List ℕ) × Sound c × Cut b c whole first second × (version_at c ≡ version_at b) × (count_at c ≡ suc (count_at b))
  cut-sound = (
    after,
    record {
      version = version_at b;
      header = header_at b;
      calls = calls;
      known = sound_known b s;
      heading = heads;
      few = few;
      within = within;
      rising = cut_rises b s whole cut.has first second (keys b s whole cut.has first second cut numbered.0.0 numbered.1.0.0);
      bytes = refl;
    },
    record { cuttable = cut; header = sym reads.0; calls = λ x. rw reads.1 (in_cut b s whole cut.has first second x) },
    version_of (version_at b) (header_at b) calls (sound_known b s) heads few,
    omega (arith, count_of_calls b, count_of_calls after, ap length reads.1, cut_length b s whole cut.has first second),
  )

-- and no other: two sound books of one version that are a cut of a book by the same calls are equal bytes.
pub cut_one : (b c d : List ℕ) (whole first second : Call) → Sound c → Sound d → Cut b c whole first second → Cut b d whole first second → version_at c ≡ version_at d → c ≡ d
cut_one b c d whole first second s t p q v =
    one_to_one c d s t v
    (record {
      header = sym p.header ∙ q.header;
      calls = same_members 0 0 (calls_of c) (calls_of d) (calls_rise c s) (calls_rise d t) (λ x. (λ i. (q.calls x).1 ((p.calls x).0 i), λ i. (p.calls x).1 ((q.calls x).0 i)));
    })
