-- `end_object` goes step by step as the definition does.
use Rattle.call_ending.proofs.Walking.{ended_is}
use Rattle.call_ending.proofs.end.end_object.Goals as goal

pub returns : goal.returns
returns c =
    ended_is c.to_house.ensures c.give_blocks.ensures
    c.unlink.ensures
    c.free_object.ensures c.free_cap.ensures
