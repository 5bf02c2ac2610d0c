-- What a step, a line feed and the end of the file do to what a reader has read. Assumes nothing.
use Rattle.std.proofs.Common.{
  ◌≡◌,
  ℕ,
  suc,
  ◌+◌,
  ◌<◌,
  ◌≤◌,
  Bool,
  true,
  false,
  cond,
  not,
  ◌&&◌,
  ◌||◌,
  eqb,
  ltb,
  List,
  [],
  ◌∷◌,
  ◌++◌,
  map,
  length,
  get_or,
  take,
  drop,
  replicate,
  sym,
  refl,
  ap,
  ◌∙◌,
  subst,
  append_assoc,
  append-nil,
  add-one,
  arith,
  length-append,
  length-drop,
  take-suc,
  take-add,
  ne_eqb,
}
use lib.Seq.{take-append_seam, append_snoc}
use borrow.Author.Tests.{eqb-false, not-true}
use Rattle.le.proofs.Tests.{each, holds_or_fails}
use Rattle.row.specs.Numbers.{line_feed}
use Rattle.row.proofs.Texts.{or_true}
use Rattle.pay.specs.declared.Member.{Member}
use Rattle.grid.specs.declared.Grid.{Grid}
use Rattle.grid.specs.declared.Step.{Step}
use Rattle.grid.specs.Grid.{rows_of}
use Rattle.grid.specs.Meaning.{row_by, head_left, blank_left, row_left, blanks_then, line_then, lines_by, rows_left, rows_after, no_feed, StepFrom, Starts, Next}
use Rattle.grid.proofs.Rows.{blanks_none, numbers_rows, feed, ends}
use Rattle.hours.specs.declared.HourLine.{HourLine}
use Rattle.std.specs.Prelude.{Option, Some, None}
use Rattle.hours.specs.declared.HoursFault.{HoursFault}
use Rattle.hours.specs.declared.HoursFault.TheVariants.{AtLine}
use Rattle.hours.specs.declared.Hours.{Hours}
use Rattle.hours.specs.declared.sheet.Sheet.{Sheet}
use Rattle.hours.specs.declared.Reader.{Reader}
use Rattle.hours.specs.Hours.{hour_columns, as_hour_line, hour_lines, is_fault, hours_refused, hours_paid, read_hours}
use Rattle.hours.specs.Inner.{ended_lines, held_after, is_lost, lines_say, Judged}
use Rattle.hours.specs.Stream.{has_feed, ended_part, HasRead, Settled, is_spoilt, reader_is_settled, Stops}
use Rattle.hours.proofs.Taking.{bad_refused, refused_answer, answers}
use Rattle.hours.proofs.Lost.{begins_bad}

-- The part of a text that has ended

feed_behind : (text : List ℕ) → has_feed (text ++ line_feed ∷ []) ≡ true
unfolding has_feed
feed_behind [] = refl
feed_behind (x ∷ text) = rw (feed_behind text) (or_true (eqb x line_feed))

no_feed_lem : (text : List ℕ) (b : ℕ) → (b ≡ line_feed → ⊥) → has_feed (text ++ b ∷ []) ≡ has_feed text
unfolding has_feed
no_feed_lem [] b ne = rw (ne_eqb b line_feed ne)
no_feed_lem (x ∷ text) b ne = ap (λ (t : Bool). eqb x line_feed || t) (no_feed_lem text b ne)

-- a line feed ends all,
ended_all : (text : List ℕ) → ended_part (text ++ line_feed ∷ []) ≡ text ++ line_feed ∷ []
unfolding ended_part has_feed
ended_all [] = refl
ended_all (x ∷ text) = rw (feed_behind (x ∷ text)) (ap (λ (l : List ℕ). x ∷ l) (ended_all text))

-- another byte nothing,
ended_same : (text : List ℕ) (b : ℕ) → (b ≡ line_feed → ⊥) → ended_part (text ++ b ∷ []) ≡ ended_part text
unfolding ended_part has_feed
ended_same [] b ne = rw (ne_eqb b line_feed ne)
ended_same (x ∷ text) b ne = λ i. cond (no_feed_lem (x ∷ text) b ne i) (x ∷ ended_same text b ne i) []

-- and many nothing, where none is a line feed
ended_many : (text bs : List ℕ) → no_feed bs ≡ true → ended_part (text ++ bs) ≡ ended_part text
ended_many text [] h = ap ended_part (append-nil text)
ended_many text (b ∷ bs) h =
    let e = each (not (eqb b line_feed)) (no_feed bs ∷ []) h in
    ap ended_part (sym (append_assoc text (b ∷ []) bs)) ∙ ended_many (text ++ b ∷ []) bs e.1.0 ∙ ended_same text b (eqb-false b line_feed (not-true _ e.0))

-- Lines of a text

pub said : (m : Member) (hours : ℕ) (text : List ℕ) → read_hours m hours text ≡ lines_say m hours (hour_lines text)
unfolding read_hours lines_say
said m hours text = refl

map_on : (xs ys : List (List ℕ)) → map as_hour_line (xs ++ ys) ≡ map as_hour_line xs ++ map as_hour_line ys
map_on [] ys = refl
map_on (x ∷ xs) ys = ap (λ (ls : List HourLine). as_hour_line x ∷ ls) (map_on xs ys)

-- a line that ends, and those behind it
line_parts_lem : (held : ℕ) (grid : Grid) (ended : List ℕ) (rows : List (List ℕ))
    → map as_hour_line (line_then held (head_left grid []) (blank_left grid []) (row_left (row_by hour_columns) grid ended []) rows)
    ≡ ended_lines held grid ended ++ map as_hour_line (blanks_then (held_after held grid) rows)
unfolding line_then ended_lines held_after
line_parts_lem held grid ended rows = go (head_left grid []) (blank_left grid [])
  where
    row : List ℕ
    row = row_left (row_by hour_columns) grid ended []

    go : (h b : Bool) → map as_hour_line (line_then held h b row rows)
        ≡ cond h [] (cond b [] (map as_hour_line (replicate held [] ++ row ∷ []))) ++ map as_hour_line (blanks_then (cond h held (cond b (suc held) 0)) rows)
    go true b = refl
    go false true = refl
    go false false =
        ap (λ (x : List (List ℕ)). map as_hour_line x) (sym (append_snoc (replicate held []) row rows)) ∙ map_on (replicate held [] ++ row ∷ []) rows
        ∙ ap (λ (x : List (List ℕ)). map as_hour_line (replicate held [] ++ row ∷ []) ++ map as_hour_line x) (sym (blanks_none rows))

none_after : (k : ℕ) (grid : Grid) → blanks_then k (rows_after (row_by hour_columns) grid []) ≡ []
unfolding blanks_then rows_after lines_by
none_after k grid = refl

-- what the end of a line does to a sheet
abbrev pub GoesOn : Bool → Grid → List ℕ → Sheet → Sheet → Type 0
GoesOn blank grid ended s r =
    (m : Member) (hours : ℕ) (ls : List HourLine) (held : ℕ) → blank ≡ ltb 0 held → Judged m hours ls s → Judged m hours (ls ++ ended_lines held grid ended) r

-- The line that is being read

module _ (r : Reader) where
  pub spoilt_heading : head_left r.grid [] ≡ true → false ≡ is_spoilt r
  unfolding is_spoilt
  spoilt_heading h = rw h

  pub spoilt_blank : head_left r.grid [] ≡ false → blank_left r.grid [] ≡ true → false ≡ is_spoilt r
  unfolding is_spoilt
  spoilt_blank h b = rw (h, b)

  pub spoilt_line : head_left r.grid [] ≡ false → blank_left r.grid [] ≡ false → (t : Bool) → t ≡ is_lost r.grid r.ended → (r.blank || t) ≡ is_spoilt r
  unfolding is_spoilt
  spoilt_line h b t e = rw (h, b, e)

  pub settled_refused : is_fault r.sheet.fault ≡ true → true ≡ reader_is_settled r
  unfolding reader_is_settled
  settled_refused h = ap (λ (t : Bool). t || is_spoilt r) (sym h)

  pub settled_spoilt : is_fault r.sheet.fault ≡ false → (t : Bool) → t ≡ is_spoilt r → t ≡ reader_is_settled r
  unfolding reader_is_settled
  settled_spoilt h t e = e ∙ ap (λ (u : Bool). u || is_spoilt r) (sym h)

module _ (m : Member) (hours : ℕ) where
  -- The start

  pub starts : (grid : Grid) (ended : List ℕ) (s : Sheet) → Starts grid → Judged m hours [] s → HasRead m hours (record { grid = grid; ended = ended; blank = false; sheet = s }) []
  unfolding ended_part hour_lines rows_of
  starts grid ended s f j =
      record {
        ended = j;
        held = 0;
        blank = refl;
        left = λ rest. ap (λ (rows : List (List ℕ)). map as_hour_line rows) (sym (f.rows (row_by hour_columns) ended rest ∙ numbers_rows hour_columns rest (omega arith)));
      }

  module _ (r : Reader) (text : List ℕ) (k : HasRead m hours r text) where
    done : List HourLine
    done = hour_lines (ended_part text)

    -- The end of a line

    pub by_feed : (b : ℕ) → b ≡ line_feed → (n : Grid) (s : Sheet) (blank : Bool) → Next r.grid n
        → ((held : ℕ) → r.blank ≡ ltb 0 held → blank ≡ ltb 0 (held_after held r.grid)) → GoesOn r.blank r.grid r.ended r.sheet s
        → HasRead m hours (record { grid = n; ended = r.ended; blank = blank; sheet = s }) (text ++ b ∷ [])
    unfolding done
    by_feed b e n s blank next held after =
        let ls = ended_lines k.held r.grid r.ended in
        let h = held_after k.held r.grid in
        let left : (rest : List ℕ) → map as_hour_line (rows_left (row_by hour_columns) k.held r.grid r.ended (b ∷ rest)) ≡ ls ++ map as_hour_line (rows_left (row_by hour_columns) h n r.ended rest) =
        λ rest. ap (λ (x : ℕ). map as_hour_line (rows_left (row_by hour_columns) k.held r.grid r.ended (x ∷ rest))) e
        ∙ ap (λ (rows : List (List ℕ)). map as_hour_line rows) (feed (row_by hour_columns) k.held r.grid r.ended rest)
        ∙ line_parts_lem k.held r.grid r.ended (rows_after (row_by hour_columns) r.grid rest)
        ∙ ap (λ (rows : List (List ℕ)). ls ++ map as_hour_line rows) (sym (next.rows (row_by hour_columns) h r.ended rest)) in
        let all : (rest : List ℕ) → hour_lines (text ++ b ∷ rest) ≡ (done ++ ls) ++ map as_hour_line (rows_left (row_by hour_columns) h n r.ended rest) =
        λ rest. k.left (b ∷ rest) ∙ ap (λ (x : List HourLine). done ++ x) (left rest) ∙ sym (append_assoc done ls (map as_hour_line (rows_left (row_by hour_columns) h n r.ended rest))) in
        let none : rows_left (row_by hour_columns) h n r.ended [] ≡ [] = next.rows (row_by hour_columns) h r.ended [] ∙ none_after h r.grid in
        let same : hour_lines (ended_part (text ++ b ∷ [])) ≡ done ++ ls =
        ap (λ (x : ℕ). hour_lines (ended_part (text ++ x ∷ []))) e ∙ ap hour_lines (ended_all text) ∙ ap (λ (x : ℕ). hour_lines (text ++ x ∷ [])) (sym e)
        ∙ all [] ∙ ap (λ (rows : List (List ℕ)). (done ++ ls) ++ map as_hour_line rows) none ∙ append-nil (done ++ ls) in
        record {
          ended = subst (λ (x : List HourLine). Judged m hours x s) (sym same) (after m hours done k.held k.blank k.ended);
          held = h;
          blank = held k.held k.blank;
          left = λ rest. ap hour_lines (append_assoc text (b ∷ []) rest) ∙ all rest ∙ ap (λ (x : List HourLine). x ++ map as_hour_line (rows_left (row_by hour_columns) h n r.ended rest)) (sym same);
        }

    -- Bytes of a line

    pub by_step : (bs : List ℕ) → no_feed bs ≡ true → (n : Grid) (after : List ℕ)
        → ((say : List ℕ → List ℕ) (k : ℕ) (rest : List ℕ) → rows_left say k n after rest ≡ rows_left say k r.grid r.ended (bs ++ rest))
        → HasRead m hours (record { grid = n; ended = after; blank = r.blank; sheet = r.sheet }) (text ++ bs)
    by_step bs line n after f =
        let same = ap hour_lines (ended_many text bs line) in
        record {
          ended = subst (λ (x : List HourLine). Judged m hours x r.sheet) (sym same) k.ended;
          held = k.held;
          blank = k.blank;
          left = λ rest. ap hour_lines (append_assoc text bs rest) ∙ k.left (bs ++ rest)
              ∙ (λ i. sym same i ++ map as_hour_line (sym (f (row_by hour_columns) k.held rest) i));
        }

    -- The end

    ends_here : hour_lines text ≡ done ++ ended_lines k.held r.grid r.ended
    unfolding done blanks_then
    ends_here =
        let ls = ended_lines k.held r.grid r.ended in
        ap hour_lines (sym (append-nil text)) ∙ k.left []
        ∙ ap (λ (rows : List (List ℕ)). done ++ map as_hour_line rows) (ends (row_by hour_columns) k.held r.grid r.ended)
        ∙ ap (λ (x : List HourLine). done ++ x) (line_parts_lem k.held r.grid r.ended [] ∙ append-nil ls)

    pub at_end : (s : Sheet) → GoesOn r.blank r.grid r.ended r.sheet s
        → (t : Hours) → ((m : Member) (hours : ℕ) (ls : List HourLine) → Judged m hours ls s → t ≡ lines_say m hours ls) → t ≡ read_hours m hours text
    unfolding done
    at_end s after t answer =
        answer m hours (done ++ ended_lines k.held r.grid r.ended) (after m hours done k.held k.blank k.ended) ∙ sym (said m hours text ∙ ap (lines_say m hours) ends_here)

    -- Settled

    pub settles : is_fault r.sheet.fault ≡ is_fault (read_hours m hours (ended_part text)).fault
    unfolding hours_refused hours_paid
    settles = go r.sheet.fault refl
      where
        go : (o : Option HoursFault) → r.sheet.fault ≡ o → is_fault r.sheet.fault ≡ is_fault (read_hours m hours (ended_part text)).fault
        go (Some fault) e =
            ap (λ (x : Option HoursFault). is_fault x) e
            ∙ ap (λ (h : Hours). is_fault h.fault) (refused_answer m hours (hour_lines (ended_part text)) fault (k.ended.no fault e) ∙ sym (said m hours (ended_part text)))
        go None e =
            ap (λ (x : Option HoursFault). is_fault x) e
            ∙ ap (λ (h : Hours). is_fault h.fault) (answers m hours (hour_lines (ended_part text)) r.sheet (k.ended.yes e) ∙ sym (said m hours (ended_part text)))

    -- no line that follows changes the answer then
    pub settled : is_fault (read_hours m hours (ended_part text)).fault ≡ true → Settled m hours text
    unfolding done
    settled f rest = go r.sheet.fault refl
      where
        go : (o : Option HoursFault) → r.sheet.fault ≡ o → read_hours m hours (text ++ rest) ≡ read_hours m hours text
        go None e = absurd (holds_or_fails (settles ∙ f) (ap (λ (x : Option HoursFault). is_fault x) e))
        go (Some fault) e =
            let no' = k.ended.no fault e in
            said m hours (text ++ rest) ∙ ap (lines_say m hours) (k.left rest) ∙ no'.stays (map as_hour_line (rows_left (row_by hour_columns) k.held r.grid r.ended rest))
            ∙ sym (said m hours text ∙ ap (lines_say m hours) ends_here ∙ no'.stays (ended_lines k.held r.grid r.ended))

    -- where no line that has ended has a fault: what the line that is being read decides
    module _ (on : r.sheet.fault ≡ None) (long : length r.ended ≡ 8) where
      spoilt_answer : is_spoilt r ≡ true → (rest : List ℕ) → read_hours m hours (text ++ rest) ≡ hours_refused (AtLine r.sheet.count)
      unfolding done is_spoilt
      spoilt_answer h rest =
          let p = each (not (head_left r.grid [])) ((not (blank_left r.grid []) && (r.blank || is_lost r.grid r.ended)) ∷ []) h in
          let q = each (not (blank_left r.grid [])) ((r.blank || is_lost r.grid r.ended) ∷ []) p.1.0 in
          let taken = k.ended.yes on in
          let begins =
          begins_bad r.grid r.ended long hours taken.month.1 done (not-true _ p.0) (not-true _ q.0) k.held
          (ap (λ (t : Bool). t || is_lost r.grid r.ended) (sym k.blank) ∙ q.1.0) rest in
          let l = as_hour_line begins.row in
          let more = map as_hour_line begins.more in
          said m hours (text ++ rest) ∙ ap (lines_say m hours) (k.left rest ∙ ap (λ (rows : List (List ℕ)). done ++ map as_hour_line rows) begins.is ∙ sym (append_snoc done l more))
          ∙ (bad_refused m hours done r.sheet taken l begins.bad).stays more

      spoilt_settled : is_spoilt r ≡ true → Settled m hours text
      spoilt_settled h rest = spoilt_answer h rest ∙ sym (spoilt_answer h []) ∙ ap (read_hours m hours) (append-nil text)

      pub stops_spoilt : (test : Bool) → test ≡ is_spoilt r → Stops m hours text test
      stops_spoilt test e = record { soon = λ f. absurd (holds_or_fails (settles ∙ f) (ap (λ (x : Option HoursFault). is_fault x) on)); late = λ t. spoilt_settled (sym e ∙ t) }

    pub stops_refused : is_fault r.sheet.fault ≡ true → Stops m hours text true
    stops_refused h = record { soon = λ f. refl; late = λ t. settled (sym settles ∙ h) }

-- Many bytes

module _ (bytes : List ℕ) (first : Reader) where
  -- after so many bytes
  abbrev pub ReadSoFar : ℕ → Reader → Type 0
  ReadSoFar n r = (m : Member) (hours : ℕ) (text : List ℕ) → HasRead m hours first text → HasRead m hours r (text ++ take n bytes)

  next_text : (i : ℕ) (text : List ℕ) → i < length bytes → text ++ take (i + 1) bytes ≡ (text ++ take i bytes) ++ get_or bytes i 0 ∷ []
  next_text i text h = rw (add-one, take-suc bytes i 0 h) (sym (append_assoc text (take i bytes) (get_or bytes i 0 ∷ [])))

  step_text : (i end : ℕ) (bs text : List ℕ) → i ≤ end → end ≤ length bytes → drop i bytes ≡ bs ++ drop end bytes → text ++ take end bytes ≡ (text ++ take i bytes) ++ bs
  step_text i end bs text h w e =
      let long : end ≡ i + length bs = omega (arith, length-drop i bytes, length-drop end bytes, length-append bs (drop end bytes), ap length e) in
      let part : take (length bs) (drop i bytes) ≡ bs = ap (λ (x : List ℕ). take (length bs) x) e ∙ take-append_seam bs (drop end bytes) in
      ap (λ (n : ℕ). text ++ take n bytes) long ∙ ap (λ (x : List ℕ). text ++ x) (take-add i (length bs) bytes ∙ ap (λ (x : List ℕ). take i bytes ++ x) part)
      ∙ sym (append_assoc text (take i bytes) bs)

  pub feed_line : (i : ℕ) → i < length bytes → get_or bytes i 0 ≡ line_feed → (r : Reader) (n : Grid) (s : Sheet) (blank : Bool) → Next r.grid n
      → ((held : ℕ) → r.blank ≡ ltb 0 held → blank ≡ ltb 0 (held_after held r.grid)) → GoesOn r.blank r.grid r.ended r.sheet s
      → ReadSoFar i r → ReadSoFar (i + 1) (record { grid = n; ended = r.ended; blank = blank; sheet = s })
  feed_line i h e r n s blank next held after inv m hours text k =
      subst (λ (t : List ℕ). HasRead m hours (record { grid = n; ended = r.ended; blank = blank; sheet = s }) t) (sym (next_text i text h))
      (by_feed m hours r (text ++ take i bytes) (inv m hours text k) (get_or bytes i 0) e n s blank next held after)

  pub feed_step : (i : ℕ) (r : Reader) (step : Step) (after : List ℕ) → StepFrom bytes i r.grid r.ended step after
      → ReadSoFar i r → ReadSoFar step.end (record { grid = step.grid; ended = after; blank = r.blank; sheet = r.sheet })
  feed_step i r step after f inv m hours text k =
      subst (λ (t : List ℕ). HasRead m hours (record { grid = step.grid; ended = after; blank = r.blank; sheet = r.sheet }) t)
      (sym (step_text i step.end f.read text (omega (arith, f.on)) f.within f.stands))
      (by_step m hours r (text ++ take i bytes) (inv m hours text k) f.read f.line step.grid after f.rows)
