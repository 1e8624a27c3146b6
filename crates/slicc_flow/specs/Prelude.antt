-- The definitions that other files name, from one place.
pub use Rattle.slicc_flow.specs.Checks.{all_checks, checks_with, count_in, count_of, decl_checks, machine_checks, of_transition, transition_checks}
pub use Rattle.slicc_flow.specs.Flows.{IsFlow, IsFlowOf, IsFlowOrBroken, IsPlanFlow, broken_flow}
pub use Rattle.slicc_flow.specs.Machines.{all_bodies, bodies_at, bodies_in, bodies_of_scope, bodies_with, changes_of, checks_in, circles_of, each_from, large_of}
pub use Rattle.slicc_flow.specs.Marks.{calls_of_found, expanded, is_unseen, next_calls, none_found, with_call, with_calls}
pub use Rattle.slicc_flow.specs.Sizes.{AreSizes, capped, next_sizes}
pub use Rattle.slicc_flow.specs.Tables.{is_sort_name}
pub use Rattle.slicc_flow.specs.Lists.{else_if_parts, operand_parts, receiver_at, suffix_list_parts}
pub use Rattle.slicc_flow.specs.Written.{sorted_by, written_list, written_of, written_or_none}
