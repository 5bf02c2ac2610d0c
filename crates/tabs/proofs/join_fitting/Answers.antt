use native.Mathlib.Omega.{arith}
use Rattle.book.specs.Book.{calls_of}
use Rattle.tabs.specs.Tabs.{tabs_on}
use Rattle.tabs.specs.Forward.{brought_forward}
use Rattle.tabs.specs.Outcome.{forward_page}
use Rattle.tabs.proofs.Pages.{length_tabs, laid}
use Rattle.tabs.proofs.WaysOut.{keeps_page, joined_keys, joined_turns, writes_page}
use Rattle.tabs.proofs.join_fitting.Goals as goal

pub returns-then-joined-ne0 : goal.returns-then-joined-ne0
returns-then-joined-ne0 c = keeps_page _ _ _ _ _ c.join_sound-joined.result _ c.join_sound-joined.ensures c.if-joined-ne0.true

pub bring_forward-requires : goal.bring_forward-requires
bring_forward-requires c =
    let k = joined_keys _ _ _ c.join_sound-joined.result _ c.join_sound-joined.ensures c.if-joined-ne0.false in
    let t = joined_turns _ _ _ c.requires.accepted c.requires.accepted_2 c.join_sound-joined.result _ k.2 in
    record {
      accepted = c.requires.accepted;
      accepted_2 = c.requires.accepted_2;
      first_value = c.requires.first_value;
      first_value_2 = c.requires.first_value_2;
      page_size_in_bounds =
          c.requires.page_size_in_bounds;
      all_value = t;
      all_le_most_keys = rw t k.0;
    }

pub returns : goal.returns
returns c =
    let n = length_tabs (brought_forward (tabs_on c.args.given.now) (calls_of c.args.first.now) (calls_of c.args.second.now)) 64 in
    writes_page _ _ _ _ _ c.join_sound-joined.result _ _ c.join_sound-joined.ensures c.if-joined-ne0.false
    (laid (forward_page c.args.first.now c.args.given.now c.args.second.now) _ _ (omega (arith, c.requires.page_size_in_bounds)) c.bring_forward.ensures)
