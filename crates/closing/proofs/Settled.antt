-- The list's `ok`: a month would be settled exactly where nothing is listed that is in its way. Assumes nothing.
use Rattle.std.proofs.Common.{◌≡◌, ℕ, zero, suc, ◌<◌, ◌≤◌, true, false, ◌↔◌, List, [], ◌∷◌, length, get_or, sym, refl, ap, ◌∙◌, true≢false, arith}
use Rattle.pay.specs.Member.{MemberWithin}
use Rattle.register.specs.declared.Entry.{Entry}
use Rattle.register.specs.Register.{blank_entry}
use Rattle.drawer.specs.Refused.{NoneListed}
use Rattle.drawer.proofs.Scored.{accepted_exactly}
use Rattle.month.specs.declared.Fault.{Fault}
use Rattle.month.specs.declared.Statement.{Statement}
use Rattle.month.specs.Settling.{MonthGiven, month_refused, settling}
use Rattle.month.specs.Outcomes.{own_series, score_of_line, statement_of, AllWithin, RegisterAndBook, AllScored, MonthOutcome}
use Rattle.month.specs.Outcomes.{bad_part, bad_entry, one_more, bad_book, without_line, bad_member, bad_ramping, not_shared, settled}
use Rattle.month.proofs.Exact.{outcome_exact}
use Rattle.closing.specs.Closing.{is_settled, NothingHinders}

-- each line's member is within the limits
within_at : (before : ℕ) (es : List Entry) → AllWithin before es → (i : ℕ) → i < length es → MemberWithin (get_or es i blank_entry).member
within_at before [] w i l = absurd (omega (arith, l))
within_at before (e ∷ es) w zero l = w.0.member
within_at before (e ∷ es) w (suc i) l = within_at e.member.number es w.1 i (omega (arith, l))

module _ (g : MonthGiven) (few : length g.entries ≤ g.count) where
  -- one member, in a month whose register and book are good
  member_exactly : RegisterAndBook g → (i : ℕ) → i < length g.entries
      → ((score_of_line g i).number ≡ 0) ↔ NoneListed (get_or g.entries i blank_entry).member g.book (own_series g.series g.lengths i)
  member_exactly front i l =
      let line = within_at 0 g.entries front.register.entries i l in
      accepted_exactly (get_or g.entries i blank_entry).member g.book (own_series g.series g.lengths i) (record { line = line; book = front.book })

  -- a fault is none
  refused_not : (s : Statement) (f : Fault) → s ≡ month_refused f → is_settled f ≡ false → is_settled s.fault ≡ true → ⊥
  unfolding month_refused
  refused_not s f d n y = true≢false (sym y ∙ ap (λ (t : Statement). is_settled t.fault) d ∙ n)

  hinders_not : (s : Statement) → MonthOutcome g s → is_settled s.fault ≡ true → NothingHinders g
  unfolding is_settled
  hinders_not s (bad_part d l) y = absurd (refused_not s _ d refl y)
  hinders_not s (bad_entry p d l b) y = absurd (refused_not s _ d refl y)
  hinders_not s (one_more d l w o) y = absurd (refused_not s _ d refl y)
  hinders_not s (bad_book d w n) y = absurd (refused_not s _ d refl y)
  hinders_not s (without_line i d front l before w) y = absurd (refused_not s _ d refl y)
  hinders_not s (bad_member i d front l before n) y = absurd (refused_not s _ d refl y)
  hinders_not s (bad_ramping i d front l before z n) y = absurd (refused_not s _ d refl y)
  hinders_not s (not_shared d all n) y = absurd (refused_not s _ d refl y)
  hinders_not s (settled d all z) y =
      record {
        register = all.front.front.register;
        book = all.front.front.book;
        lines = all.front.listed;
        members = λ i l. (member_exactly all.front.front i l).0 (all.scored i l).0;
        ramping = λ i l. (all.scored i l).1;
        sharing = z;
      }

  all_scored : NothingHinders g → AllScored g
  all_scored n =
      let front : RegisterAndBook g = record { register = n.register; book = n.book } in
      record {
        front = record { front = front; listed = n.lines };
        scored = λ i l. ((member_exactly front i l).1 (n.members i l), n.ramping i l);
      }

  -- THE LIST'S OK: the month would be settled exactly where nothing is listed that is in its way.
  pub settled_exactly : (is_settled (settling g).fault ≡ true) ↔ NothingHinders g
  unfolding is_settled
  settled_exactly = (
    λ y. hinders_not (settling g) ((outcome_exact g few (settling g)).0 refl) y,
    λ n. ap (λ (s : Statement). is_settled s.fault) (sym ((outcome_exact g few (statement_of g)).1 (settled refl (all_scored n) n.sharing))),
  )
