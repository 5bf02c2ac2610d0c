-- Entering, revising and withdrawing: a book of one record is written, and joined in. Assumes nothing.
use mathlib.Core.Path.{◌≡◌, refl, sym, ◌∙◌, ap}
use mathlib.Core.Bool.{Bool, true, false}
use mathlib.Core.Logic.{◌↔◌, ◌≢◌}
use mathlib.Core.List.{List, [], ◌∷◌}
use mathlib.Core.Option.{Option, none, some}
use Prim.Native.Nat.{ℕ, suc, max, ◌<◌, ◌≤◌}
use native.Mathlib.Omega.{arith}
use native.Mathlib.Decide.{dec_le, ℕ_discrete}
use lib.IntN.{pos}
use lib.ListN.{length, take}
use borrow.Author.Tests.{lt-ltb, le-ltb, eq-eqb, ne_eqb, eqb-true}
use Rattle.call.specs.declared.Call.{Call}
use Rattle.call.specs.Key.{call_key}
use Rattle.call.specs.Revising.{withdrawn, contested, call_contested}
use Rattle.call.specs.Service.{CallWithin}
use Rattle.call.proofs.Keys.{key_same}
use Rattle.book.specs.declared.Header.{Header}
use Rattle.book.specs.declared.Verdict.{Verdict}
use Rattle.book.specs.Book.{first_version, most_records, most_keys, size_of, version_at, header_at, count_at, calls_of, book_bytes}
use Rattle.book.specs.Check.{refused, header_minutes}
use Rattle.book.specs.Sound.{Heading, Sound}
use Rattle.book.specs.Refusals.{WriteRefusal, none as nothing-wrong, no_header, no_field, no_room}
use Rattle.book.specs.Write.{BookOutcome, write_fault, writing}
use Rattle.book.proofs.Heads.{first_known, known_most, first_some}
use Rattle.book.proofs.Exact.{reads_back, sound_reads, sound_known, sound_again}
use Rattle.book.proofs.Records.{length_calls}
use Rattle.book.proofs.Writing.{Numbered, write_refused_exactly, book_written}
use Rattle.rule.specs.Standing.{is_withdrawn, decide, given, standing}
use Rattle.rule.specs.Keys.{record_of}
use Rattle.rule.specs.Whole.{withdrawn_at}
use Rattle.rule.specs.Joined.{joined_at, join_calls}
use Rattle.rule.proofs.Keyed.{find_hit, find_miss, find_in, within_in}
use Rattle.rule.proofs.Different.{count_had, count_new}
use Rattle.rule.proofs.Joins.{join_length}
use Rattle.rule.proofs.Bounds.{Calls}
use Rattle.rule.proofs.Ruling.{gone_rank}
use Rattle.rule.proofs.Lattice.{Stood, second, first, equal, clash, stood, own_withdrawn, one_struck, unequal_contested}
use Rattle.join.specs.Joining.{JoinOutcome, join_refused, joining}
use Rattle.join.specs.Changing.{join_written, changing, record_after, Fits, had, new, Changeable, withdrawn_revision}
use Rattle.join.specs.Trees.{written}
use Rattle.join.proofs.Trees.{sound_calls_lem, sound_few, book_sound, book-joined, book_refused, book-short}
use Rattle.join.proofs.Accepted.{record_joined, joined_sound, header_joined}
use Rattle.join.proofs.Exact.{join_kept}

-- Which of two records of one key stands
module _ (x w : Call) where
  -- of two that are not withdrawn the one of the higher revision
  later_stands : is_withdrawn x ≡ false → is_withdrawn w ≡ false → x.revision < w.revision → standing x w ≡ w
  unfolding standing decide given
  later_stands p q h = simp (p, q, le-ltb w.revision x.revision (omega arith), lt-ltb x.revision w.revision h)

  earlier_falls : is_withdrawn x ≡ false → is_withdrawn w ≡ false → w.revision < x.revision → standing x w ≡ x
  unfolding standing decide given
  earlier_falls p q h = simp (p, q, lt-ltb w.revision x.revision h)

  -- a withdrawn one against one that is not
  withdrawn_stands : is_withdrawn x ≡ false → is_withdrawn w ≡ true → standing x w ≡ w
  unfolding standing decide given
  withdrawn_stands p q = simp (p, q)

  withdrawn_stays : is_withdrawn x ≡ true → is_withdrawn w ≡ false → standing x w ≡ x
  unfolding standing decide given
  withdrawn_stays p q = simp (p, q)

-- a withdrawn record is its key, withdrawn at its revision
at_revision : {m : ℕ} (x w : Call) → CallWithin m x → CallWithin m w → call_key x ≡ call_key w → is_withdrawn x ≡ true → x ≡ withdrawn_at x.revision w
unfolding withdrawn_at
at_revision x w p q k t =
    let h = key_same x w p.number q.number k in
    own_withdrawn x p (eqb-true _ _ t)
    ∙ (λ i. record { participant = h.0 i; service = 0; state = withdrawn; number = h.1 i; revision = x.revision; start = 0; length = 0; a = pos 0; b = 0; c = 0 })

-- of two that are withdrawn the higher revision
higher_stands : {m : ℕ} (x w : Call) → CallWithin m x → CallWithin m w → call_key x ≡ call_key w → is_withdrawn x ≡ true → is_withdrawn w ≡ true
    → standing x w ≡ withdrawn_at (max x.revision w.revision) w
higher_stands x w p q k s t = go (stood x w p q k)
  where
    of-x : (r : ℕ) → x.revision ≡ r → x ≡ withdrawn_at r w
    of-x r e = at_revision x w p q k s ∙ ap (λ (n : ℕ). withdrawn_at n w) e

    of-w : (r : ℕ) → w.revision ≡ r → w ≡ withdrawn_at r w
    of-w r e = at_revision w w q q refl t ∙ ap (λ (n : ℕ). withdrawn_at n w) e

    go : Stood x w → standing x w ≡ withdrawn_at (max x.revision w.revision) w
    go (second h e) = e ∙ of-w _ (omega (arith, gone_rank x s, gone_rank w t))
    go (first h e) = e ∙ of-x _ (omega (arith, gone_rank x s, gone_rank w t))
    go (equal h e) = e ∙ of-x _ (omega (arith, ap (λ (c : Call). c.revision) h))
    go (clash h n e) = absurd (n (of-x w.revision (omega (arith, gone_rank x s, gone_rank w t)) ∙ sym (of-w w.revision refl)))

-- A book of one, written and joined in

writing_number : (h : Header) (cs : List Call) (page : List ℕ) → (writing h cs page).number ≡ write_fault h cs (length page)
unfolding writing
writing_number h cs page = go (ℕ_discrete (write_fault h cs (length page)) 0)
  where
    go : Dec (write_fault h cs (length page) ≡ 0) → (writing h cs page).number ≡ write_fault h cs (length page)
    go (yes z) = rw (eq-eqb (write_fault h cs (length page)) 0 z) (sym z)
    go (no n) = rw (ne_eqb (write_fault h cs (length page)) 0 n) refl

-- a book that was written is joined, a refusal of the writing is told
module _ (a : List ℕ) (one : BookOutcome) (out : List ℕ) where
  join_written_lem : one.number ≡ 0 → join_written a one out ≡ joining a (take one.size one.out) out
  unfolding join_written
  join_written_lem z = rw (eq-eqb one.number 0 z) refl

  refused_written : one.number ≢ 0 → join_written a one out ≡ join_refused (refused one.number one.place) out
  unfolding join_written
  refused_written n = rw (ne_eqb one.number 0 n) refl

-- a sound book, a call whose number and revision are numbers of 32 bits, a page, an output
module _ (a : List ℕ) (sound : Sound a) (w : Call) (numbered : Numbered (w ∷ [])) (page out : List ℕ) where
  one : List ℕ
  one = book_bytes first_version (header_at a) (w ∷ [])

  fault : ℕ
  fault = write_fault (header_at a) (w ∷ []) (length page)

  heads : Heading (header_at a)
  heads = rw (sym (sound_reads a sound).0) at sound.heading

  -- a page that is written is joined in
  joined_in : fault ≡ 0 → changing a w page out ≡ joining a one out
  unfolding changing one fault
  joined_in z =
      join_written_lem a (writing (header_at a) (w ∷ []) page) out (writing_number (header_at a) (w ∷ []) page ∙ z)
      ∙ ap (λ (b : List ℕ). joining a b out) (book_written (header_at a) (w ∷ []) page z)

  -- else the change is refused
  not_written : fault ≢ 0 → (changing a w page out).number ≢ 0
  unfolding changing fault
  not_written n z =
      let e = writing_number (header_at a) (w ∷ []) page in
      n (sym e ∙ ap (λ (o : JoinOutcome). o.number) (sym (refused_written a (writing (header_at a) (w ∷ []) page) out (λ y. n (sym e ∙ y)))) ∙ z)

  is_written : (changing a w page out).number ≡ 0 → fault ≡ 0
  is_written z = go (ℕ_discrete fault 0)
    where
      go : Dec (fault ≡ 0) → fault ≡ 0
      go (yes e) = e
      go (no n) = absurd (not_written n z)

  -- what an accepted writing says
  fault_says : fault ≡ 0 → CallWithin (header_minutes (header_at a)) w × (size_of 1 ≤ length page)
  unfolding fault
  fault_says z = go ((write_refused_exactly (header_at a) (w ∷ []) numbered (length page) 0).0 z)
    where
      go : WriteRefusal (header_at a) (w ∷ []) (length page) 0 → CallWithin (header_minutes (header_at a)) w × (size_of 1 ≤ length page)
      go (nothing-wrong e g v r) = (v.0, r)
      go (no_header e g) = absurd (omega arith)
      go (no_field e g v) = absurd (omega arith)
      go (no_room e g v r) = absurd (omega arith)

  says_none : CallWithin (header_minutes (header_at a)) w → size_of 1 ≤ length page → fault ≡ 0
  unfolding fault
  says_none v r = (write_refused_exactly (header_at a) (w ∷ []) numbered (length page) 0).1 (nothing-wrong refl heads (v, tt) r)

  -- the calls of the changed book, by number
  keys : ℕ
  keys = length (join_calls (calls_of a) (w ∷ []))

  keys_had : record_of (call_key w) (calls_of a) ≢ none → keys ≡ count_at a
  unfolding keys calls_of
  keys_had n =
      join_length (calls_of a) (w ∷ []) ∙ count_had (calls_of a) w (sound_calls_lem a sound).rises (has (record_of (call_key w) (calls_of a)) refl) ∙ length_calls a (count_at a) 0
    where
      has : (o : Option Call) → record_of (call_key w) (calls_of a) ≡ o → (c : Call) × (record_of (call_key w) (calls_of a) ≡ some c)
      has none e = absurd (n e)
      has (some c) e = (c, e)

  keys_new : record_of (call_key w) (calls_of a) ≡ none → keys ≡ suc (count_at a)
  unfolding keys calls_of
  keys_new e = join_length (calls_of a) (w ∷ []) ∙ count_new (calls_of a) w (sound_calls_lem a sound).rises e ∙ ap suc (length_calls a (count_at a) 0)

  few : length (calls_of a) ≤ most_records (version_at a)
  few = sound_few a sound

  few_calls : count_at a ≤ most_keys
  unfolding calls_of
  few_calls = omega (arith, few, known_most (version_at a) (sound_known a sound), length_calls a (count_at a) 0)

  -- the two books
  module _ (within : CallWithin (header_minutes (header_at a)) w) where
    one_calls : Calls (header_minutes (header_at a)) (w ∷ [])
    one_calls = record { within = (within, tt); rises = (omega arith, tt) }

    one_sound : Sound one
    unfolding one
    one_sound = book_sound first_version (header_at a) (w ∷ []) first_known heads first_some one_calls

    one_reads : calls_of one ≡ w ∷ []
    unfolding one
    one_reads = (reads_back first_version (header_at a) (w ∷ []) first_known heads first_some (within, tt)).1

    -- the join is accepted where its calls are few enough and the output has room for them
    joins_where : keys ≤ most_keys → size_of keys ≤ length out → (joining a one out).number ≡ 0
    unfolding one keys
    joins_where f r =
        ap (λ (b : List ℕ). (joining b one out).number) (sound_again a sound)
        ∙ ap (λ (o : JoinOutcome). o.number) (book-joined (header_at a) heads (version_at a) first_version (sound_known a sound) first_known (calls_of a) (w ∷ [])
        few first_some (sound_calls_lem a sound) one_calls out f r)

    where_joins : (joining a one out).number ≡ 0 → (keys ≤ most_keys) × (size_of keys ≤ length out)
    unfolding one keys
    where_joins z = go (dec_le keys most_keys) (dec_le (size_of keys) (length out))
      where
        is_zero_lem : {v : Verdict} → joining (book_bytes (version_at a) (header_at a) (calls_of a)) one out ≡ join_refused v out → v.number ≡ 0
        is_zero_lem e = ap (λ (o : JoinOutcome). o.number) (sym e) ∙ ap (λ (b : List ℕ). (joining b one out).number) (sym (sound_again a sound)) ∙ z

        go : Dec (keys ≤ most_keys) → Dec (size_of keys ≤ length out) → (keys ≤ most_keys) × (size_of keys ≤ length out)
        go (no f) r = absurd (omega (
          arith,
          is_zero_lem (book_refused (header_at a) heads (version_at a) first_version (sound_known a sound) first_known (calls_of a) (w ∷ [])
              few first_some (sound_calls_lem a sound) one_calls out (omega arith)),
        ))
        go (yes f) (no r) = absurd (omega (
          arith,
          is_zero_lem (book-short (header_at a) heads (version_at a) first_version (sound_known a sound) first_known (calls_of a) (w ∷ [])
              few first_some (sound_calls_lem a sound) one_calls out f (omega arith)),
        ))
        go (yes f) (yes r) = (f, r)

  -- the record of a key, in the changed book
  module _ (z : (changing a w page out).number ≡ 0) where
    within : CallWithin (header_minutes (header_at a)) w
    within = (fault_says (is_written z)).0

    is_joined : changing a w page out ≡ joining a one out
    is_joined = joined_in (is_written z)

    joins : (joining a one out).number ≡ 0
    joins = ap (λ (o : JoinOutcome). o.number) (sym is_joined) ∙ z

    at_key : (k : ℕ) → record_after a w page out k ≡ joined_at (record_of k (calls_of a)) (record_of k (w ∷ []))
    at_key k =
        ap (λ (o : JoinOutcome). record_of k (calls_of (written o))) is_joined
        ∙ record_joined a one out sound (one_sound within) joins k
        ∙ ap (λ (cs : List Call). joined_at (record_of k (calls_of a)) (record_of k cs)) (one_reads within)

    stands : {o : Option Call} → record_of (call_key w) (calls_of a) ≡ o → record_after a w page out (call_key w) ≡ joined_at o (some w)
    stands e = at_key (call_key w) ∙ ap (joined_at (record_of (call_key w) (calls_of a))) (find_hit (call_key w) w [] refl) ∙ ap (λ (p : Option Call). joined_at p (some w)) e

    -- the changed book is sound, and of the same month and area
    pub changed_sound : Sound (written (changing a w page out)) × (header_at (written (changing a w page out)) ≡ header_at a)
    changed_sound = rw is_joined (joined_sound a one out sound (one_sound within) joins, header_joined a one out sound (one_sound within) joins)

    -- every other key keeps its record, or has none as before
    pub others_keep : (k : ℕ) → k ≢ call_key w → record_after a w page out k ≡ record_of k (calls_of a)
    unfolding joined_at record_of
    others_keep k n = at_key k ∙ ap (joined_at (record_of k (calls_of a))) (find_miss k w [] (λ e. n (sym e))) ∙ alone (record_of k (calls_of a))
      where
        alone : (o : Option Call) → joined_at o none ≡ o
        alone none = refl
        alone (some x) = refl

    -- entered: a key that the book does not have gets the record
    pub enters : record_of (call_key w) (calls_of a) ≡ none → record_after a w page out (call_key w) ≡ some w
    unfolding joined_at
    enters e = stands e

    -- a call of the book is within the limits, and of the key
    module _ (x : Call) (e : record_of (call_key w) (calls_of a) ≡ some x) where
      key : call_key x ≡ call_key w
      key = (find_in (call_key w) (calls_of a) x e).1

      x_within : CallWithin (header_minutes (header_at a)) x
      x_within = within_in (header_minutes (header_at a)) (calls_of a) x (sound_calls_lem a sound).within (find_in (call_key w) (calls_of a) x e).0

      stood_is : {c : Call} → standing x w ≡ c → record_after a w page out (call_key w) ≡ some c
      unfolding joined_at
      stood_is f = stands e ∙ ap some f

      -- revised: a higher revision stands in the place of a call that is not withdrawn
      pub revises : is_withdrawn x ≡ false → is_withdrawn w ≡ false → x.revision < w.revision
          → record_after a w page out (call_key w) ≡ some w
      revises p q l = stood_is (later_stands x w p q l)

      -- the same record again changes nothing
      pub same_again : x ≡ w → record_after a w page out (call_key w) ≡ some w
      same_again f = go (stood x w x_within within key)
        where
          go : Stood x w → record_after a w page out (call_key w) ≡ some w
          go (second l g) = stood_is g
          go (first l g) = stood_is (g ∙ f)
          go (equal l g) = stood_is (g ∙ f)
          go (clash l n g) = absurd (n f)

      -- a lower revision changes nothing, and neither does any that comes after a withdrawal
      pub later_kept : is_withdrawn x ≡ false → is_withdrawn w ≡ false → w.revision < x.revision
          → record_after a w page out (call_key w) ≡ some x
      later_kept p q l = stood_is (earlier_falls x w p q l)

      pub withdrawn_kept : is_withdrawn x ≡ true → is_withdrawn w ≡ false → record_after a w page out (call_key w) ≡ some x
      withdrawn_kept p q = stood_is (withdrawn_stays x w p q)

      -- two unequal ones at one revision are contested there
      pub contests : is_withdrawn x ≡ false → is_withdrawn w ≡ false → x.revision ≡ w.revision → x ≢ w
          → record_after a w page out (call_key w) ≡ some (call_contested w)
      contests p q r n = stood_is (unequal_contested x w x_within within key p q r n ∙ one_struck x w contested x_within within key r)

    -- withdrawn: whatever stood the key is withdrawn, at the withdrawal's revision or at that of a higher one before
    pub withdraws : is_withdrawn w ≡ true
        → record_after a w page out (call_key w) ≡ some (withdrawn_at (withdrawn_revision (record_of (call_key w) (calls_of a)) w) w)
    unfolding withdrawn_revision
    withdraws t = go (record_of (call_key w) (calls_of a)) refl
      where
        own : w ≡ withdrawn_at w.revision w
        own = at_revision w w within within refl t

        go : (o : Option Call) → record_of (call_key w) (calls_of a) ≡ o
            → record_after a w page out (call_key w) ≡ some (withdrawn_at (withdrawn_revision (record_of (call_key w) (calls_of a)) w) w)
        go none e = enters e ∙ ap some (own ∙ ap (λ (p : Option Call). withdrawn_at (withdrawn_revision p w) w) (sym e))
        go (some x) e = was (is_withdrawn x) refl
          where
            was : (b : Bool) → is_withdrawn x ≡ b
                → record_after a w page out (call_key w) ≡ some (withdrawn_at (withdrawn_revision (record_of (call_key w) (calls_of a)) w) w)
            was false f =
                stood_is x e (withdrawn_stands x w f t)
                ∙ ap some (own ∙ (rw (e, f) refl))
            was true f =
                stood_is x e (higher_stands x w (x_within x e) within (key x e) f t)
                ∙ ap some (rw (e, f) refl)

  -- a change is accepted exactly where the call is within the limits, the page holds it, the key is the book's or one of as many as a book may have, and the output has room
  pub change_accepted : ((changing a w page out).number ≡ 0) ↔ Changeable a w page out
  change_accepted = (to, from)
    where
      fits : (o : Option Call) → record_of (call_key w) (calls_of a) ≡ o → (keys ≤ most_keys) × (size_of keys ≤ length out) → Fits a w out
      fits none e f = let k = keys_new e in let m = f.0 in let r = f.1 in new e (omega arith) (omega arith)
      fits (some x) e f =
          let n : record_of (call_key w) (calls_of a) ≢ none = λ d. let y : ◌≡◌ {A = ℕ} 0 1 = cc in omega arith in
          let k = keys_had n in let r = f.1 in had n (omega arith)

      to : (changing a w page out).number ≡ 0 → Changeable a w page out
      to z =
          record {
            within = within z;
            page_long = (fault_says (is_written z)).1;
            fits = fits (record_of (call_key w) (calls_of a)) refl (where_joins (within z) (joins z));
          }

      room : Fits a w out → (keys ≤ most_keys) × (size_of keys ≤ length out)
      room (had n r) = let k = keys_had n in let m = few_calls in (omega arith, omega arith)
      room (new e l r) = let k = keys_new e in (omega arith, omega arith)

      from : Changeable a w page out → (changing a w page out).number ≡ 0
      from c =
          let f = room c.fits in
          ap (λ (o : JoinOutcome). o.number) (joined_in (says_none c.within c.page_long)) ∙ joins_where c.within f.0 f.1

-- a refused change tells no length and no turn, and leaves the output as it was
pub change_kept : (a : List ℕ) (w : Call) (page out : List ℕ) → (changing a w page out).number ≢ 0
    → ((changing a w page out).size ≡ 0) × ((changing a w page out).turns ≡ 0) × ((changing a w page out).out ≡ out)
unfolding changing
change_kept a w page out n = go (ℕ_discrete one.number 0) n
  where
    one : BookOutcome
    one = writing (header_at a) (w ∷ []) page

    go : Dec (one.number ≡ 0) → (join_written a one out).number ≢ 0
        → ((join_written a one out).size ≡ 0) × ((join_written a one out).turns ≡ 0) × ((join_written a one out).out ≡ out)
    go (yes z) n = let e = join_written_lem a one out z in rw e (join_kept a (take one.size one.out) out (rw e at n))
    go (no z) n = rw (refused_written a one out z) (refl, refl, refl)
