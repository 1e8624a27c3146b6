use Rattle.std.proofs.Common.{◌≡◌, [], take, flat_map}
use Rattle.std.specs.List.{fold}
use Rattle.slicc_plan.specs.Prelude.{action_in, names_of_written, with_written}
use Rattle.slicc_flow.specs.Prelude.{written_list}
use Rattle.slicc_flow.proofs.written.actions.Given as goal

abbrev pub invariant-loop-d : goal.invariant-loop-d
invariant-loop-d l =
    record {
      names : l.names ≡ names_of_written (written_list l.list);
      list : written_list l.list ≡ fold with_written [] (flat_map action_in (take l.d-index l.m.declarations));
    }
