use mathlib.Core.Path.{◌≡◌, sym, ◌∙◌}
use native.Mathlib.Omega.{arith}
use lib.ListN.{length}
use Rattle.le.specs.Le.{IsBytes}
use Rattle.book.specs.Book.{calls_of}
use Rattle.rule.specs.Joined.{join_calls}
use Rattle.join.specs.Joining.{joined_of}
use Rattle.join.proofs.Steps.{joined_length}
use Rattle.tabs.proofs.Pages.{length_stored}
use Rattle.tabs.proofs.Brought.{given_long, counts_copied, total, passes-three}
use Rattle.tabs.proofs.forward.bring_forward.Goals as goal

pub copy_page-requires : goal.copy_page-requires
copy_page-requires c =
    record { page_size_in_bounds = given_long _ _ c.requires.first_value_2; page_size_in_bounds_2 = c.requires.page_size_in_bounds }

pub count_in-requires : goal.count_in-requires
count_in-requires c =
    record {
      accepted = c.requires.accepted;
      accepted_2 = c.requires.accepted_2;
      first_value = c.requires.first_value_2;
      counts_of = counts_copied _ _ c.requires.first_value_2
          c.requires.page_size_in_bounds c.copy_page.ensures;
    }

pub set_tabs-requires : goal.set_tabs-requires
unfolding IsBytes joined_of
set_tabs-requires c =
    let all_is : c.args.all ≡ length (join_calls (calls_of c.args.first.now) (calls_of c.args.second.now)) =
    c.requires.all_value ∙ sym (joined_length _ _) in
    let first : IsBytes c.args.first.now = λ i. omega (arith, c.type_inv.first i) in
    let second : IsBytes c.args.second.now = λ i. omega (arith, c.type_inv.second i) in
    let o = counts_copied _ _ c.requires.first_value_2 c.requires.page_size_in_bounds c.copy_page.ensures in
    let t = total _ _ first second c.requires.accepted c.requires.accepted_2 c.requires.first_value o c.count_in.ensures in
    let a = all_is in
    record {
      page_size_in_bounds = omega (arith, c.count_in.ensures.long, length_stored c.copy_page.ensures, c.requires.page_size_in_bounds);
      most_participant_bound = omega
          (arith, c.requires.all_le_most_keys);
    }

pub returns : goal.returns
unfolding IsBytes joined_of
returns c =
    let all_is : c.args.all ≡ length (join_calls (calls_of c.args.first.now) (calls_of c.args.second.now)) =
    c.requires.all_value ∙ sym (joined_length _ _) in
    let first : IsBytes c.args.first.now = λ i. omega (arith, c.type_inv.first i) in
    let second : IsBytes c.args.second.now = λ i. omega (arith, c.type_inv.second i) in
    passes-three _ _ first second c.requires.accepted c.requires.accepted_2 c.requires.first_value _ c.requires.first_value_2 all_is c.requires.page_size_in_bounds
    c.copy_page.ensures c.count_in.ensures c.set_tabs.ensures
