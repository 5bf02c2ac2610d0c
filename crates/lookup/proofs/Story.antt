-- Lookup in the books of the stop that came back: any two lent slices with these bytes, and any part that the contract allows. Assumes nothing.
use mathlib.Core.Path.{◌≡◌, refl, sym, ◌∙◌, ap, ap₂, subst}
use mathlib.Core.Logic.{◌⊎◌, inl, inr}
use mathlib.Core.List.{List, [], ◌∷◌}
use mathlib.Core.Option.{Option, none, some}
use Prim.Native.Nat.{ℕ, ◌+◌, ◌≤◌}
use native.Mathlib.Omega.{arith}
use lib.Dec.{lit<}
use lib.ListN.{length}
use denote.Ref.{Bor}
use Rattle.le.specs.Le.{le_at, le_bytes, IsBytes}
use Rattle.le.proofs.Laws.{bytes_tested}
use Rattle.units.specs.Month.{is_leap, days_of, minutes_of}
use Rattle.call.specs.declared.Call.{Call}
use Rattle.call.specs.Key.{key_of}
use Rattle.call.specs.Limits.{table, limits_of, limits_allow, call_is_sound}
use Rattle.call.specs.Layout.{call_at, key_bytes, time_bytes, term_bytes, call_bytes}
use Rattle.call.specs.Revising.{call_contested}
use Rattle.call.specs.Service.{CallWithin}
use Rattle.call.proofs.Exact.{sound_within}
use Rattle.book.specs.declared.Verdict.{Verdict}
use Rattle.book.specs.Book.{
  most_records,
  first_version,
  most_keys,
  size_of,
  header_at,
  count_at,
  record_at,
  calls_from,
  calls_of,
  mark_bytes,
  date_bytes,
  count_bytes,
  head_bytes,
  record_bytes,
  book_bytes,
}
use Rattle.book.specs.Check.{is_marked, is_known, is_versioned, header_is_sound, is_headed, header_minutes, is_record, judge, check_records, check}
use Rattle.book.proofs.Heads.{first_known, first_some}
use Rattle.book.proofs.Exact.{sound_accepted}
use Rattle.rule.specs.Standing.{same_call, decide, given, standing}
use Rattle.rule.specs.Keys.{record_of, put, put_all, different_keys}
use Rattle.rule.specs.Joined.{joined_at, join_calls}
use Rattle.rule.proofs.Joins.{join_find, join_length}
use Rattle.rule.proofs.Bounds.{Calls}
use Rattle.pair.specs.Screening.{both_sound, same_month, screen}
use Rattle.pair.proofs.Screening.{screen_passes}
use Rattle.join.specs.Joining.{JoinOutcome, joined_of, joining}
use Rattle.join.specs.Trees.{written}
use Rattle.join.proofs.Trees.{same_month_lem, book-joined}
use Rattle.join.proofs.Accepted.{reads_joined}
use Rattle.join.proofs.Story.{march, stop, entered, withdrawal, entered_within, withdrawal_within, one, one_sound, one_reads, plant, head_office, output, output_long, march_heads}
use Rattle.lookup.specs.declared.Place.{Place}
use Rattle.lookup.specs.declared.Place.TheVariants.{InSecond}
use Rattle.lookup.specs.Lookup.{index_from, index_of, stands_at, choose, which, LiesAt, Found}
use Rattle.lookup.proofs.Lookups.{find_stands, find_nothing, find_refused, find_written}

-- a second plant's record of the stop, live at the same revision and of another length; its book
rival : Call
rival = stop 2 360

pub rivals : List ℕ
rivals = one rival

-- the plant's record in a book of April
pub april : List ℕ
april = book_bytes first_version (record { area = 12; year = 2026; month = 4 }) (entered ∷ [])

rival_within : CallWithin (header_minutes march) rival
unfolding rival stop march header_minutes minutes_of days_of is_leap call_is_sound limits_allow limits_of table
rival_within = sound_within (header_minutes march) rival (lit< tt) (lit< tt) refl

are_bytes : IsBytes plant × IsBytes head_office × IsBytes rivals
unfolding
    plant head_office rivals one entered withdrawal rival stop march book_bytes head_bytes mark_bytes date_bytes count_bytes record_bytes
    call_bytes key_bytes time_bytes term_bytes le_bytes
are_bytes = (bytes_tested plant refl, bytes_tested head_office refl, bytes_tested rivals refl)

-- two books of one call each, of one month
module _ (c d : Call) (cw : CallWithin (header_minutes march) c) (dw : CallWithin (header_minutes march) d) where
  screened : (screen (one c) (one d)).number ≡ 0
  screened =
      sym (ap (λ (v : Verdict). v.number) (screen_passes (one c) (one d) (sound_accepted (one c) (one_sound c cw)) (sound_accepted (one d) (one_sound d dw))
      (ap₂ same_month (one_reads c cw).0 (one_reads d dw).0 ∙ same_month_lem march)))

  at_key : (k : ℕ) → record_of k (joined_of (one c) (one d)) ≡ joined_at (record_of k (c ∷ [])) (record_of k (d ∷ []))
  unfolding joined_of
  at_key k = join_find (calls_of (one c)) (calls_of (one d)) k ∙ ap₂ (λ (xs ys : List Call). joined_at (record_of k xs) (record_of k ys)) (one_reads c cw).1 (one_reads d dw).1

-- of the plant's record and the withdrawal the withdrawal stands
stands : record_of (key_of 3 9) (joined_of plant head_office) ≡ some withdrawal
unfolding plant head_office record_of joined_at entered withdrawal stop standing decide given
stands = at_key entered withdrawal entered_within withdrawal_within (key_of 3 9)

in_second : record_of (key_of 3 9) (calls_of head_office) ≡ some withdrawal
unfolding head_office record_of withdrawal stop
in_second = ap (record_of (key_of 3 9)) (one_reads withdrawal withdrawal_within).1

unknown : record_of (key_of 3 10) (joined_of plant head_office) ≡ none
unfolding plant head_office record_of joined_at entered withdrawal stop
unknown = at_key entered withdrawal entered_within withdrawal_within (key_of 3 10)

-- of the two live records neither stands
contested_stands : record_of (key_of 3 9) (joined_of plant rivals) ≡ some (call_contested entered)
unfolding plant rivals record_of joined_at entered rival stop standing decide given same_call
contested_stands = at_key entered rival entered_within rival_within (key_of 3 9)

own_entered : record_of (key_of 3 9) (calls_of plant) ≡ some entered
unfolding plant record_of entered stop
own_entered = ap (record_of (key_of 3 9)) (one_reads entered entered_within).1

own_rival : record_of (key_of 3 9) (calls_of rivals) ≡ some rival
unfolding rivals record_of rival stop
own_rival = ap (record_of (key_of 3 9)) (one_reads rival rival_within).1

live_entered : entered.state ≡ 0
unfolding entered stop
live_entered = refl

live_rival : rival.state ≡ 0
unfolding rival stop
live_rival = refl

seven : (screen plant april).number ≡ 7
unfolding
    plant april one entered stop march book_bytes head_bytes mark_bytes date_bytes count_bytes record_bytes call_bytes key_bytes time_bytes term_bytes le_bytes
    screen both_sound same_month check check_records judge is_record header_is_sound is_headed is_versioned is_known most_records is_marked header_minutes minutes_of days_of is_leap
    header_at count_at record_at call_at le_at call_is_sound limits_allow limits_of table
seven = refl

lies : which plant head_office 3 9 ≡ InSecond 0
unfolding
    plant head_office one entered withdrawal stop march book_bytes head_bytes mark_bytes date_bytes count_bytes record_bytes call_bytes key_bytes time_bytes term_bytes le_bytes
    screen both_sound same_month check check_records judge is_record header_is_sound is_headed is_versioned is_known most_records is_marked header_minutes minutes_of days_of is_leap
    header_at count_at record_at call_at le_at call_is_sound limits_allow limits_of table
    which choose stands_at index_of index_from calls_of calls_from decide
lies = refl

-- the two are joined into 48 bytes, and the joined book has it
joins : (joining plant head_office output).number ≡ 0
unfolding plant head_office one entered withdrawal stop different_keys put_all put
joins =
    ap (λ (o : JoinOutcome). o.number)
    (book-joined march march_heads first_version first_version first_known first_known (entered ∷ []) (withdrawal ∷ []) first_some first_some
    (calls entered_within) (calls withdrawal_within) output few room)
  where
    calls : {c : Call} → CallWithin (header_minutes march) c → Calls (header_minutes march) (c ∷ [])
    calls w = record { within = (w, tt); rises = (omega arith, tt) }

    count : length (join_calls (entered ∷ []) (withdrawal ∷ [])) ≡ 1
    count = join_length (entered ∷ []) (withdrawal ∷ [])

    few : length (join_calls (entered ∷ []) (withdrawal ∷ [])) ≤ most_keys
    few = omega (arith, count)

    room : size_of (length (join_calls (entered ∷ []) (withdrawal ∷ []))) ≤ length output
    room = omega (arith, count, output_long)

stands_written : record_of (key_of 3 9) (calls_of (written (joining plant head_office output))) ≡ some withdrawal
unfolding joined_of plant head_office
stands_written =
    ap (record_of (key_of 3 9)) (reads_joined plant head_office output (one_sound entered entered_within) (one_sound withdrawal withdrawal_within) joins) ∙ stands

module _ (first second part : Bor (List ℕ)) (p : first.now ≡ plant) (q : second.now ≡ head_office) where
  small_first : IsBytes first.now
  small_first = rw p are_bytes.0

  small_second : IsBytes second.now
  small_second = rw q are_bytes.1

  passes : (screen first.now second.now).number ≡ 0
  unfolding plant head_office
  passes = rw (p, q) (screened entered withdrawal entered_within withdrawal_within)

  -- the withdrawal is found, where it lies: from byte 16 of the second book on
  pub withdrawal_found : Found first second 3 9 part → (part.now ≡ call_bytes withdrawal) × (part.ref_ptr.0 ≡ second.ref_ptr.0) × (part.ref_ptr.1 ≡ second.ref_ptr.1 + 16)
  withdrawal_found f =
      let l = subst (λ (w : Place). LiesAt w first second part) (ap₂ (λ (a b : List ℕ). which a b 3 9) p q ∙ lies) f in
      (find_stands first second part 3 9 f small_first small_second passes withdrawal (rw (p, q) stands) (inr (rw q in_second)), l.block, l.offset)

  -- the same, by the book that the join of the two writes
  pub withdrawal_of_written : Found first second 3 9 part → part.now ≡ call_bytes withdrawal
  withdrawal_of_written f =
      find_written first second part 3 9 f small_first small_second output (rw (p, q) joins) withdrawal (rw (p, q) stands_written) (inr (rw q in_second))

  -- a key that neither has gives an empty part
  pub unknown_nowhere : Found first second 3 10 part → part.now ≡ []
  unknown_nowhere f =
      find_nothing first second part 3 10 f small_first small_second passes
      (λ c e h. let n : record_of (key_of 3 10) (joined_of first.now second.now) ≡ none = rw (p, q) unknown in let z : ◌≡◌ {A = ℕ} 0 1 = cc in omega arith)

-- of two unequal live records at one revision neither stands, and the part is empty
pub rivals_nowhere : (first second part : Bor (List ℕ)) → first.now ≡ plant → second.now ≡ rivals → Found first second 3 9 part → part.now ≡ []
unfolding plant rivals
rivals_nowhere first second part p q f =
    find_nothing first second part 3 9 f (rw p are_bytes.0) (rw q are_bytes.2) (rw (p, q) (screened entered rival entered_within rival_within)) neither
  where
    struck : record_of (key_of 3 9) (joined_of first.now second.now) ≡ some (call_contested entered)
    struck = rw (p, q) contested_stands

    one_record : (x c : Call) {o : Option Call} → o ≡ some x → o ≡ some c → x ≡ c
    one_record x c e h = cc

    apart : (c x : Call) → c ≡ call_contested entered → x ≡ c → x.state ≡ 0 → ⊥
    apart c x e g s = let z : x.state ≡ 1 = ap (λ (y : Call). y.state) (g ∙ e) in omega arith

    neither : (c : Call) → record_of (key_of 3 9) (joined_of first.now second.now) ≡ some c
        → (record_of (key_of 3 9) (calls_of first.now) ≡ some c) ⊎ (record_of (key_of 3 9) (calls_of second.now) ≡ some c) → ⊥
    neither c e (inl h) = apart c entered (one_record c _ e struck) (one_record entered c (rw p own_entered) h) live_entered
    neither c e (inr h) = apart c rival (one_record c _ e struck) (one_record rival c (rw q own_rival) h) live_rival

-- a book of another month gives an empty part, whatever the key
pub april_nowhere : (first second part : Bor (List ℕ)) (participant number : ℕ) → first.now ≡ plant → second.now ≡ april
    → Found first second participant number part → part.now ≡ []
april_nowhere first second part participant number p q f = find_refused first second part participant number f (rw (p, q) (λ z. let e = seven in omega arith))
