-- Demand 3 on bytes: the order in which books are joined cannot be seen in the result. Assumes nothing.
use mathlib.Core.Path.{◌≡◌, sym, ◌∙◌, ap, ap₂, subst}
use mathlib.Core.Bool.{true}
use mathlib.Core.Logic.{◌⊎◌}
use mathlib.Core.List.Memᴰ
use mathlib.Core.List.{List, map, Memᴰ as In}
use Prim.Native.Nat.{ℕ, ◌≤◌, ◌<◌}
use native.Mathlib.Omega.{arith}
use lib.ListN.{length}
use Rattle.call.specs.declared.Call.{Call}
use Rattle.call.specs.Key.{call_key}
use Rattle.book.specs.declared.Header.{Header}
use Rattle.book.specs.Book.{most_records, most_keys, version_at, header_at, count_at, calls_of, book_bytes}
use Rattle.book.specs.Check.{header_minutes}
use Rattle.book.specs.Sound.{Known, Sound}
use Rattle.book.proofs.Records.{length_calls}
use Rattle.book.proofs.Exact.{version_of, reads_back}
use Rattle.rule.specs.Standing.{is_withdrawn}
use Rattle.rule.specs.Whole.{rule_calls, tree_joined}
use Rattle.rule.proofs.Keyed.{in_find, find_in}
use Rattle.rule.proofs.Bounds.{Sounds}
use Rattle.rule.proofs.Orders.{Over}
use Rattle.rule.proofs.Orders as lists
use Rattle.rule.proofs.Whole.{number_of_keys}
use Rattle.rule.proofs.Whole as whole-list
use Rattle.join.specs.Joining.{key_count}
use Rattle.join.specs.Trees.{Plan, books, written, result, AllAccepted, Room, OneMonth, Covers, version_over, rule_book}
use Rattle.join.proofs.Versions.{tree_version}
use Rattle.join.proofs.OneVersion.{leaves_version, version_same}
use Rattle.join.proofs.Trees.{book_sound, tree_of, covers_over, month_sounds, heading, tree_calls, tree_known, tree_few, Gives, gives, Ends, through, stops, ends}

-- a tree's leaves are sound books of the month, as the books are that it covers
pub leaves_month : (h : Header) (bs : List (List ℕ)) (p : Plan) → Covers p bs → OneMonth h bs → OneMonth h (books p)
leaves_month h bs p c o = record { sound = λ b i. o.sound b (c.only b i); header = λ b i. o.header b (c.only b i) }

module _ (h : Header) (bs : List (List ℕ)) (month : OneMonth h bs) (p : Plan) (covers : Covers p bs) where
  over : Over (tree_of p) (map calls_of bs)
  over = covers_over p bs covers

  sounds : Sounds (header_minutes h) (map calls_of bs)
  sounds = month_sounds h bs month

  of_leaves : OneMonth h (books p)
  of_leaves = leaves_month h bs p covers month

  count : length (tree_joined (tree_of p)) ≡ key_count bs
  unfolding key_count
  count = number_of_keys (header_minutes h) (tree_of p) (map calls_of bs) over sounds

  -- the version of every tree over the books is that over the whole list, and its calls are those of the rule
  pub tree_version_lem : tree_version p ≡ version_over bs
  tree_version_lem = leaves_version h p of_leaves ∙ version_same (books p) bs covers.only covers.all

  ruled : tree_joined (tree_of p) ≡ rule_calls (map calls_of bs)
  ruled = whole-list.any_order (header_minutes h) (tree_of p) (map calls_of bs) over sounds

  -- above the most keys that a book has no tree of joins gets through, whatever room it has
  pub never_through : most_keys < key_count bs → ((result p).number ≡ 8) ⊎ ((result p).number ≡ 9)
  never_through f = go (ends h p of_leaves)
    where
      go : Ends h p → ((result p).number ≡ 8) ⊎ ((result p).number ≡ 9)
      go (through few z e) = absurd (omega (arith, count))
      go (stops s) = s

  -- each output holds what the books give, where that is not too much
  module _ (room : Room p) where
    tree_gives : Gives h p
    tree_gives = gives h p of_leaves room

    -- above the most keys that a book has every tree of joins stops in a refusal 8
    pub too_many : most_keys < key_count bs → (result p).number ≡ 8
    too_many f = tree_gives.many (omega (arith, count))

    module _ (few : key_count bs ≤ most_keys) where
      given_book : AllAccepted p × ((result p).number ≡ 0) × (written (result p) ≡ book_bytes (tree_version p) h (tree_joined (tree_of p)))
      given_book = tree_gives.few (omega (arith, count))

      -- DEMAND 3: every tree of joins over the books is accepted at every node, and its bytes are those of the rule over the whole list
      pub any_order : AllAccepted p × ((result p).number ≡ 0) × (written (result p) ≡ rule_book h bs)
      unfolding rule_book
      any_order = (given_book.0, given_book.1, given_book.2 ∙ ap₂ (λ (v : ℕ) (cs : List Call). book_bytes v h cs) tree_version_lem ruled)

      known : Known (tree_version p)
      known = tree_known h p of_leaves

      within_version : length (tree_joined (tree_of p)) ≤ most_records (tree_version p)
      within_version = tree_few h p of_leaves (omega (arith, count))

      back : (header_at (written (result p)) ≡ h) × (calls_of (written (result p)) ≡ tree_joined (tree_of p))
      back =
          let r = reads_back (tree_version p) h (tree_joined (tree_of p)) known (heading h p of_leaves) within_version (tree_calls h p of_leaves).within in
          (ap header_at given_book.2 ∙ r.0, ap calls_of given_book.2 ∙ r.1)

      -- the calls of the result
      pub calls : calls_of (written (result p)) ≡ tree_joined (tree_of p)
      calls = back.1

      -- they are the rule's, and the month and area are the books'
      pub result_reads : (header_at (written (result p)) ≡ h) × (calls_of (written (result p)) ≡ rule_calls (map calls_of bs))
      result_reads = (back.0, calls ∙ ruled)

      -- DEMAND 3: the version of every tree is that over the whole list
      pub one_version : version_at (written (result p)) ≡ version_over bs
      one_version =
          ap version_at given_book.2 ∙ version_of (tree_version p) h (tree_joined (tree_of p)) known (heading h p of_leaves) within_version
          ∙ tree_version_lem

      -- the result is a sound book
      pub result_sound : Sound (written (result p))
      result_sound = rw given_book.2 (book_sound (tree_version p) h (tree_joined (tree_of p)) known (heading h p of_leaves) within_version (tree_calls h p of_leaves))

      -- the header's count is the number of different keys
      pub counts_keys : count_at (written (result p)) ≡ key_count bs
      unfolding calls_of
      counts_keys = sym (length_calls (written (result p)) (count_at (written (result p))) 0) ∙ ap length calls ∙ count

      -- a call that is withdrawn in any of the books is withdrawn in the result
      pub stays_withdrawn : (b : List ℕ) → In b bs → (w : Call) → In w (calls_of b) → is_withdrawn w ≡ true
          → (r : Call) × In r (calls_of (written (result p))) × (call_key r ≡ call_key w) × (is_withdrawn r ≡ true)
      stays_withdrawn b i w j t =
          let listed : In (calls_of b) (map calls_of bs) = Memᴰ.map calls_of i in
          let s = lists.stays_withdrawn (header_minutes h) (tree_of p) (map calls_of bs) over sounds (calls_of b) listed (call_key w) w
          (in_find 0 (calls_of b) w (sounds (calls_of b) listed).rises j) t in
          let f = find_in (call_key w) (tree_joined (tree_of p)) s.0 s.1 in
          (s.0, subst (λ (l : List Call). In s.0 l) (sym calls) f.0, f.1, s.2)

-- any two trees of joins over the same books give the same bytes
pub same_bytes : (h : Header) (bs : List (List ℕ)) → OneMonth h bs → key_count bs ≤ most_keys
    → (p q : Plan) → Covers p bs → Covers q bs → Room p → Room q → written (result p) ≡ written (result q)
same_bytes h bs month few p q c d r s = (any_order h bs month p c r few).2 ∙ sym (any_order h bs month q d s few).2

-- above the most keys that a book has a tree that ends in 9 has an output on the way that is too short
pub short_on_the_way : (h : Header) (bs : List (List ℕ)) → OneMonth h bs → (p : Plan) → Covers p bs → most_keys < key_count bs
    → (result p).number ≡ 9 → Room p → ⊥
short_on_the_way h bs month p covers f nine room = omega (arith, too_many h bs month p covers room f)
