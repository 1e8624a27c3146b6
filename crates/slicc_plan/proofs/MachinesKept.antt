-- A protocol that keeps the rules of machines keeps each of them.
use Rattle.std.proofs.Common.{◌≡◌, ◌++◌, List, []}
use Rattle.slicc_ast.specs.declared.tree.item.Tree.{Tree}
use Rattle.slicc_plan.specs.declared.broken.Broken.{Broken}
use Rattle.slicc_plan.specs.Prelude.{broken_machines, large_bodies, call_circles, missing_machine, missing_parts, unanswered_stars, wrong_networks, reading_changes, wrong_state_functions, shared_pairs}
use Rattle.slicc_plan.proofs.Room.{left_none, right_none}

pub record KeepsMachines (trees : List Tree) : Type 0 where
  pub reads : reading_changes trees ≡ []
  pub pairs : shared_pairs trees ≡ []
  pub states : wrong_state_functions trees ≡ []
  pub networks : wrong_networks trees ≡ []
  pub parts : missing_parts trees ≡ []
  pub stars : unanswered_stars trees ≡ []

pub machines_kept : (trees : List Tree) → broken_machines trees ≡ [] → KeepsMachines trees
machines_kept trees e =
    let sized : List Broken = call_circles trees ++ large_bodies trees in
    let called : List Broken = sized ++ reading_changes trees in
    let paired : List Broken = called ++ shared_pairs trees in
    let stated : List Broken = paired ++ wrong_state_functions trees in
    let wired : List Broken = stated ++ wrong_networks trees in
    let inhabited : List Broken = wired ++ missing_machine trees in
    let all_parts : List Broken = inhabited ++ missing_parts trees in
    let to_parts : all_parts ≡ [] = left_none all_parts (unanswered_stars trees) e in
    let to_machine : inhabited ≡ [] = left_none inhabited (missing_parts trees) to_parts in
    let to_networks : wired ≡ [] = left_none wired (missing_machine trees) to_machine in
    let to_states : stated ≡ [] = left_none stated (wrong_networks trees) to_networks in
    let to_pairs : paired ≡ [] = left_none paired (wrong_state_functions trees) to_states in
    record {
      reads = right_none sized (reading_changes trees) (left_none called (shared_pairs trees) to_pairs);
      pairs = right_none called (shared_pairs trees) to_pairs;
      states = right_none paired (wrong_state_functions trees) to_states;
      networks = right_none stated (wrong_networks trees) to_networks;
      parts = right_none inhabited (missing_parts trees) to_parts;
      stars = right_none all_parts (unanswered_stars trees) e;
    }
