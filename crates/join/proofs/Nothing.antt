-- A book that adds nothing to the others can be left out, where another is left, and so can one entry of a book: the month, the area and the calls are the same. Assumes nothing.
use mathlib.Core.Path.{◌≡◌, refl, sym, ◌∙◌, ap, ap₂, subst}
use mathlib.Core.Bool.{true, false}
use mathlib.Core.Logic.{inl, inr, ⊎_elim, ◌↔◌}
use mathlib.Core.List.Memᴰ
use mathlib.Core.List.Memᴰ.{cases_cons as in-cons}
use mathlib.Core.List.Memᴰ.{head as here}
use mathlib.Core.List.Memᴰ.{tail as there}
use mathlib.Core.List.{List, ◌∷◌, map, Memᴰ as In}
use mathlib.Core.Option.{Option, none, some}
use Prim.Native.Nat.{ℕ, ◌≤◌}
use native.Mathlib.Nat.{le_refl}
use native.Mathlib.Decide.{ℕ_discrete}
use native.Mathlib.Omega.{arith}
use lib.ListN.{length}
use Rattle.call.specs.declared.Call.{Call}
use Rattle.call.specs.Key.{call_key}
use Rattle.call.specs.Service.{CallWithin}
use Rattle.book.specs.declared.Header.{Header}
use Rattle.book.specs.Book.{most_keys, version_at, header_at, calls_of, book_bytes}
use Rattle.book.specs.Check.{header_minutes}
use Rattle.book.specs.Sound.{Sound, SaysSame}
use Rattle.book.specs.Without.{without, book_without}
use Rattle.book.proofs.Exact.{one_to_one}
use Rattle.book.proofs.Without.{without_within, without_rises, without_sound, without_version, without_reads}
use Rattle.rule.specs.Keys.{record_of}
use Rattle.rule.specs.Standing.{is_withdrawn, decide, given, standing}
use Rattle.rule.specs.Whole.{rule_over, rule_calls, Tree, tree_joined}
use Rattle.rule.proofs.Keyed.{find_in, in_find, within_in, ext_find}
use Rattle.rule.proofs.Lattice.{Below, below_rank, level, Stood, second, first, equal, clash, stood, stand_right}
use Rattle.rule.proofs.Bounds.{Under, under_trans, Sounds, Least, least_one, tree_sound}
use Rattle.rule.proofs.Ruling.{rule_least}
use Rattle.rule.proofs.Orders.{Over, leaves_sound, joined_rule}
use Rattle.rule.proofs.Whole.{any_order as list-order, number_of_keys}
use Rattle.rule.proofs.Without.{find_other, find_gone}
use Rattle.join.specs.Joining.{key_count}
use Rattle.join.specs.Trees.{Plan, written, result, Room, OneMonth, Covers, version_over, rule_book}
use Rattle.join.specs.Nothing.{AddsNothing}
use Rattle.join.proofs.Trees.{tree_of, covers_over, month_sounds, keys_of}
use Rattle.join.proofs.Orders.{calls, any_order, result_reads, result_sound, one_version}
use Rattle.join.proofs.OneVersion.{head_version}

-- a record that is above another of its key stands against it
pub upper_stands : {m : ℕ} (x y : Call) → CallWithin m x → CallWithin m y → call_key x ≡ call_key y → Below y x → standing x y ≡ x
upper_stands x y p q k b = go b (stood x y p q k)
  where
    go : Below y x → Stood x y → standing x y ≡ x
    go b (second h e) = absurd (omega (arith, below_rank y x b))
    go b (first h e) = e
    go b (equal h e) = e
    go (inl b) (clash h n e) = absurd (omega arith)
    go (inr (inl b)) (clash h n e) = absurd (n (sym b))
    go (inr (inr b)) (clash h n e) = e ∙ level x y p q k h ∙ sym b

-- Lists of calls: where a tree t over `own` and the lists bs gives what a tree u over bs gives, `own` adds nothing to them
module _ (m : ℕ) (own : List Call) (bs : List (List Call)) (sounds : Sounds m (own ∷ bs)) (t u : Tree) (o : Over t (own ∷ bs)) (v : Over u bs)
    (same : tree_joined t ≡ tree_joined u) where
  stands_of : (c : Call) → In c own → (r : Call) × (rule_over bs (call_key c) ≡ some r) × (standing r c ≡ r)
  stands_of c i = go (rule_over bs k) refl
    where
      k : ℕ
      k = call_key c

      rest : Sounds m bs
      rest b j = sounds b (there j)

      ruled : (z : Option Call) → rule_over bs k ≡ z → rule_over (own ∷ bs) k ≡ z
      ruled z e = sym (joined_rule m t (own ∷ bs) o sounds k) ∙ ap (record_of k) same ∙ joined_rule m u bs v rest k ∙ e

      under : (z : Option Call) → rule_over bs k ≡ z → Under (some c) z
      under z e =
          let up = (rule_least m (own ∷ bs) k sounds).above own (here refl) in
          rw (in_find 0 own c (sounds own (here refl)).rises i, ruled z e) at up

      go : (z : Option Call) → rule_over bs k ≡ z → (r : Call) × (rule_over bs k ≡ some r) × (standing r c ≡ r)
      go none e = absurd (under none e)
      go (some r) e =
          let h = find_in k (tree_joined u) r (joined_rule m u bs v rest k ∙ e) in
          let w = within_in m (tree_joined u) r (tree_sound m u (leaves_sound m u bs v rest)).within h.0 in
          (r, e, upper_stands r c w (within_in m own c (sounds own (here refl)).within i) h.1 (under (some r) e))

-- Lists of calls: `own` adds nothing to the lists bs, over which there is a tree u
module _ (m : ℕ) (own : List Call) (bs : List (List Call)) (sounds : Sounds m (own ∷ bs)) (u : Tree) (over : Over u bs)
    (adds : (c : Call) → In c own → (r : Call) × (rule_over bs (call_key c) ≡ some r) × (standing r c ≡ r)) where
  others : Sounds m bs
  others b i = sounds b (there i)

  -- what a key has in it is below what the rule over the others gives
  own-under : (k : ℕ) → Under (record_of k own) (rule_over bs k)
  own-under k = go (record_of k own) refl
    where
      go : (o : Option Call) → record_of k own ≡ o → Under o (rule_over bs k)
      go none e = tt
      go (some c) e =
          let f = find_in k own c e in
          let a = adds c f.0 in
          let r = a.0 in
          let g : rule_over bs k ≡ some r = ap (rule_over bs) (sym f.1) ∙ a.1 in
          let h = find_in k (tree_joined u) r (joined_rule m u bs over others k ∙ g) in
          let w = within_in m (tree_joined u) r (tree_sound m u (leaves_sound m u bs over others)).within h.0 in
          let b = stand_right r c w (within_in m own c (sounds own (here refl)).within f.0) (h.1 ∙ sym f.1) in
          rw g (subst (λ (z : Call). Below c z) a.2 b)

  pub rule-same : (k : ℕ) → rule_over (own ∷ bs) k ≡ rule_over bs k
  rule-same k =
      let l = rule_least m bs k others in
      least_one (own ∷ bs) (own ∷ bs) k _ _ (λ b i. i) (λ b i. i) (rule_least m (own ∷ bs) k sounds)
      (record {
        above = λ b i. ⊎_elim (λ (e : b ≡ own). rw e (own-under k)) (λ j. l.above b j) (in-cons i);
        least = λ z f. l.least z (λ b i. f b (there i));
      })

  -- every tree over all of them gives what every tree over the others gives
  joined_same : (t : Tree) → Over t (own ∷ bs) → tree_joined t ≡ tree_joined u
  joined_same t o =
      ext_find 0 0 (tree_joined t) (tree_joined u) (tree_sound m t (leaves_sound m t (own ∷ bs) o sounds)).rises (tree_sound m u (leaves_sound m u bs over others)).rises
      (λ k. joined_rule m t (own ∷ bs) o sounds k ∙ rule-same k ∙ sym (joined_rule m u bs over others k))

-- A book that adds nothing to the others
module _ (h : Header) (b : List ℕ) (bs : List (List ℕ)) (month : OneMonth h (b ∷ bs)) (nothing : AddsNothing bs b)
    (p q : Plan) (c : Covers p (b ∷ bs)) (d : Covers q bs) where
  others-month : OneMonth h bs
  others-month = record { sound = λ e i. month.sound e (there i); header = λ e i. month.header e (there i) }

  trees-same : tree_joined (tree_of p) ≡ tree_joined (tree_of q)
  trees-same =
      joined_same (header_minutes h) (calls_of b) (map calls_of bs) (month_sounds h (b ∷ bs) month) (tree_of q) (covers_over q bs d) nothing.stands (tree_of p) (covers_over p (b ∷ bs) c)

  rule_calls_lem : rule_calls (map calls_of (b ∷ bs)) ≡ rule_calls (map calls_of bs)
  rule_calls_lem =
      sym (list-order (header_minutes h) (tree_of p) (map calls_of (b ∷ bs)) (covers_over p (b ∷ bs) c) (month_sounds h (b ∷ bs) month)) ∙ trees-same
      ∙ list-order (header_minutes h) (tree_of q) (map calls_of bs) (covers_over q bs d) (month_sounds h bs others-month)

  -- has no key that they do not have,
  pub no-key-more : key_count (b ∷ bs) ≡ key_count bs
  unfolding key_count
  no-key-more =
      sym (number_of_keys (header_minutes h) (tree_of p) (map calls_of (b ∷ bs)) (covers_over p (b ∷ bs) c) (month_sounds h (b ∷ bs) month)) ∙ ap length trees-same
      ∙ number_of_keys (header_minutes h) (tree_of q) (map calls_of bs) (covers_over q bs d) (month_sounds h bs others-month)

  module _ (few : key_count bs ≤ most_keys) (r : Room p) (s : Room q) where
    few-all : key_count (b ∷ bs) ≤ most_keys
    few-all = omega (arith, no-key-more)

    pub left-out-sound : Sound (written (result p)) × Sound (written (result q))
    left-out-sound = (result_sound h (b ∷ bs) month p c r few-all, result_sound h bs others-month q d s few)

    -- and every tree over all of them gives the month, the area and the calls of every tree over the others;
    pub left_out : SaysSame (written (result p)) (written (result q))
    left_out =
        let x = result_reads h (b ∷ bs) month p c r few-all in
        let y = result_reads h bs others-month q d s few in
        record { header = x.0 ∙ sym y.0; calls = x.1 ∙ rule_calls_lem ∙ sym y.1 }

    -- its bytes exactly where the version over the whole list is the same.
    pub left-out-bytes : (written (result p) ≡ written (result q)) ↔ (version_over (b ∷ bs) ≡ version_over bs)
    left-out-bytes =
        let v = one_version h (b ∷ bs) month p c r few-all in
        let w = one_version h bs others-month q d s few in (
          λ e. sym v ∙ ap version_at e ∙ w,
          λ e. one_to_one _ _ left-out-sound.0 left-out-sound.1 (v ∙ e ∙ sym w) left_out,
        )

-- It is left out so exactly where it adds nothing.
pub left_out_exactly : (h : Header) (b : List ℕ) (bs : List (List ℕ)) → OneMonth h (b ∷ bs) → key_count (b ∷ bs) ≤ most_keys
    → (p q : Plan) → Covers p (b ∷ bs) → Covers q bs → Room p → Room q → SaysSame (written (result p)) (written (result q)) ↔ AddsNothing bs b
left_out_exactly h b bs month few p q c d r s = (from, λ nothing. left_out h b bs month nothing p q c d less r s)
  where
    others : OneMonth h bs
    others = record { sound = λ e i. month.sound e (there i); header = λ e i. month.header e (there i) }

    less : key_count bs ≤ most_keys
    less = omega (arith, keys_of bs (b ∷ bs) (λ e i. there i))

    from : SaysSame (written (result p)) (written (result q)) → AddsNothing bs b
    from e =
        let same = sym (calls h (b ∷ bs) month p c r few) ∙ e.calls ∙ calls h bs others q d s less in
        record {
          stands =
              stands_of (header_minutes h) (calls_of b) (map calls_of bs) (month_sounds h (b ∷ bs) month) (tree_of p) (tree_of q)
              (covers_over p (b ∷ bs) c) (covers_over q bs d) same;
        }

-- One entry of a book

-- Lists of calls: of `own`, which has c for the key k, another list has w for it, and w stands against c
module _ (m k : ℕ) (own : List Call) (bs : List (List Call)) (sounds : Sounds m (own ∷ bs)) (c : Call) (has : record_of k own ≡ some c)
    (d : List Call) (listed : In d bs) (w : Call) (other : record_of k d ≡ some w) (stands : standing w c ≡ w) where
  rest-sounds : Sounds m (without k own ∷ bs)
  rest-sounds b i =
      let s = sounds own (here refl) in
      ⊎_elim (λ (e : b ≡ without k own). rw e (record { within = without_within k m own s.within; rises = without_rises k 0 0 own (le_refl 0) s.rises }))
      (λ j. sounds b (there j)) (in-cons i)

  below : Below c w
  below =
      let f = find_in k own c has in
      let g = find_in k d w other in
      let b = stand_right w c (within_in m d w (sounds d (there listed)).within g.0) (within_in m own c (sounds own (here refl)).within f.0) (g.1 ∙ sym f.1) in
      subst (λ (z : Call). Below c z) stands b

  -- without the entry the rule gives every key the same
  entry-rule : (i : ℕ) → rule_over (own ∷ bs) i ≡ rule_over (without k own ∷ bs) i
  entry-rule i =
      least_one (own ∷ bs) (own ∷ bs) i _ _ (λ b j. j) (λ b j. j) (rule_least m (own ∷ bs) i sounds)
      (record {
        above = λ b j. ⊎_elim (λ (e : b ≡ own). rw e (own-above (ℕ_discrete i k))) (λ l. rest.above b (there l)) (in-cons j);
        least = λ z f. rest.least z (λ b j. ⊎_elim (λ (e : b ≡ without k own). rw e (less-under z (f own (here refl)) (ℕ_discrete i k))) (λ l. f b (there l)) (in-cons j));
      })
    where
      rest : Least (without k own ∷ bs) i (rule_over (without k own ∷ bs) i)
      rest = rule_least m (without k own ∷ bs) i rest-sounds

      own-above : Dec (i ≡ k) → Under (record_of i own) (rule_over (without k own ∷ bs) i)
      own-above (yes e) =
          let up = rest.above d (there listed) in
          under_trans (record_of i own) (record_of i d) _ (rw (ap (λ (j : ℕ). record_of j own) e ∙ has, ap (λ (j : ℕ). record_of j d) e ∙ other) below) up
      own-above (no e) = rw (sym (find_other k i own e)) (rest.above (without k own) (here refl))

      less-under : (z : Option Call) → Under (record_of i own) z → Dec (i ≡ k) → Under (record_of i (without k own)) z
      less-under z u (yes e) = rw (ap (λ (j : ℕ). record_of j (without k own)) e ∙ find_gone k own) tt
      less-under z u (no e) = rw (find_other k i own e) u

  entry-trees : (t u : Tree) → Over t (own ∷ bs) → Over u (without k own ∷ bs) → tree_joined t ≡ tree_joined u
  entry-trees t u o v =
      ext_find 0 0 (tree_joined t) (tree_joined u) (tree_sound m t (leaves_sound m t (own ∷ bs) o sounds)).rises
      (tree_sound m u (leaves_sound m u (without k own ∷ bs) v rest-sounds)).rises
      (λ i. joined_rule m t (own ∷ bs) o sounds i ∙ entry-rule i ∙ sym (joined_rule m u (without k own ∷ bs) v rest-sounds i))

-- An entry against which another book's record of the same call stands
module _ (h : Header) (b : List ℕ) (bs : List (List ℕ)) (month : OneMonth h (b ∷ bs)) (c : Call) (own : In c (calls_of b))
    (d : List ℕ) (listed : In d bs) (w : Call) (other : In w (calls_of d)) (same_key : call_key w ≡ call_key c) (stands : standing w c ≡ w) where
  abbrev less : List ℕ
  less = book_without (call_key c) b

  less-reads : (header_at less ≡ header_at b) × (calls_of less ≡ without (call_key c) (calls_of b))
  less-reads = without_reads (call_key c) b (month.sound b (here refl))

  less-month : OneMonth h (less ∷ bs)
  less-month =
      record {
        sound = λ e i. ⊎_elim (λ (f : e ≡ less). rw f (without_sound (call_key c) b (month.sound b (here refl)))) (λ j. month.sound e (there j)) (in-cons i);
        header = λ e i. ⊎_elim (λ (f : e ≡ less). ap header_at f ∙ less-reads.0 ∙ month.header b (here refl)) (λ j. month.header e (there j)) (in-cons i);
      }

  sounds : Sounds (header_minutes h) (calls_of b ∷ map calls_of bs)
  sounds = month_sounds h (b ∷ bs) month

  has : record_of (call_key c) (calls_of b) ≡ some c
  has = in_find 0 (calls_of b) c (sounds (calls_of b) (here refl)).rises own

  in-other : In (calls_of d) (map calls_of bs)
  in-other = Memᴰ.map calls_of listed

  other-has : record_of (call_key c) (calls_of d) ≡ some w
  other-has = ap (λ (k : ℕ). record_of k (calls_of d)) (sym same_key) ∙ in_find 0 (calls_of d) w (sounds (calls_of d) (there in-other)).rises other

  module _ (p q : Plan) (cp : Covers p (b ∷ bs)) (cq : Covers q (less ∷ bs)) where
    over_less : Over (tree_of q) (without (call_key c) (calls_of b) ∷ map calls_of bs)
    over_less = subst (λ (x : List Call). Over (tree_of q) (x ∷ map calls_of bs)) less-reads.1 (covers_over q (less ∷ bs) cq)

    entry-same : tree_joined (tree_of p) ≡ tree_joined (tree_of q)
    entry-same =
        entry-trees (header_minutes h) (call_key c) (calls_of b) (map calls_of bs) sounds c has (calls_of d) in-other w other-has stands
        (tree_of p) (tree_of q) (covers_over p (b ∷ bs) cp) over_less

    entry-calls : rule_calls (map calls_of (b ∷ bs)) ≡ rule_calls (map calls_of (less ∷ bs))
    entry-calls =
        sym (list-order (header_minutes h) (tree_of p) (map calls_of (b ∷ bs)) (covers_over p (b ∷ bs) cp) sounds) ∙ entry-same
        ∙ list-order (header_minutes h) (tree_of q) (map calls_of (less ∷ bs)) (covers_over q (less ∷ bs) cq) (month_sounds h (less ∷ bs) less-month)

    entry-keys : key_count (b ∷ bs) ≡ key_count (less ∷ bs)
    unfolding key_count
    entry-keys =
        sym (number_of_keys (header_minutes h) (tree_of p) (map calls_of (b ∷ bs)) (covers_over p (b ∷ bs) cp) sounds) ∙ ap length entry-same
        ∙ number_of_keys (header_minutes h) (tree_of q) (map calls_of (less ∷ bs)) (covers_over q (less ∷ bs) cq) (month_sounds h (less ∷ bs) less-month)

    entry-version : version_over (b ∷ bs) ≡ version_over (less ∷ bs)
    entry-version = head_version b less bs (sym (without_version (call_key c) b (month.sound b (here refl)))) entry-keys

    -- adds nothing: the books with it and without it give the same bytes, however they are joined.
    pub entry-out : key_count (b ∷ bs) ≤ most_keys → Room p → Room q → written (result p) ≡ written (result q)
    unfolding rule_book
    entry-out few r s =
        (any_order h (b ∷ bs) month p cp r few).2 ∙ ap₂ (λ (v : ℕ) (cs : List Call). book_bytes v h cs) entry-version entry-calls
        ∙ sym (any_order h (less ∷ bs) less-month q cq s (omega (arith, entry-keys))).2

-- A withdrawn record stands against every entry of the call that is live or contested, whatever their revisions.
pub withdrawn_stands : (w c : Call) → is_withdrawn w ≡ true → is_withdrawn c ≡ false → standing w c ≡ w
unfolding standing decide given
withdrawn_stands w c t f = rw (t, f) refl
