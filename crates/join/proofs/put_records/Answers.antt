use Rattle.join.proofs.Taken.{taken_so_far_lem, room_left, second_room, all_turns}
use Rattle.join.proofs.put_records.Goals as goal

pub put_rest-turns-requires : goal.put_rest-turns-requires
put_rest-turns-requires c =
    let g = c.put_both-b.ensures in
    record {
      read_to = g.in_first;
      from_in_bounds = (room_left (taken_so_far_lem g) c.requires.second_in_bounds).0;
    }

pub put_rest-requires : goal.put_rest-requires
put_rest-requires c =
    let g = c.put_both-b.ensures in
    record {
      read_to = g.in_second;
      from_in_bounds = second_room g c.put_rest-turns.ensures c.requires.second_in_bounds;
    }

pub returns : goal.returns
returns c =
    all_turns c.put_both-b.ensures c.put_rest-turns.ensures c.put_rest.ensures
