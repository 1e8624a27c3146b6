-- The numbers of names. A number is found by a name where a name was given one, and the first counts.
use Rattle.std.specs.Prelude.{◌≡◌, ℕ, Option, None, Some, List}
use Rattle.std.specs.Prelude.{cond, filter, filter_map, flat_map, option_and_then, position, slice_get}
use Rattle.std.specs.Option.{option_map, option_or}
use Rattle.std.specs.Str.{bytes_eq}
use Rattle.slicc_ast.specs.declared.tree.name.Name.{Name}
use Rattle.ruby_symbols.specs.declared.machine.Next.{Next}
use Rattle.ruby_symbols.specs.declared.machine.Next.TheVariants.{To, Asked as AskedFor}
use Rattle.slicc_ast.specs.declared.tree.machine.NextState.{NextState}
use Rattle.slicc_ast.specs.declared.tree.machine.NextState.TheVariants.{Named, Asked}
use Rattle.slicc_ast.specs.declared.tree.machine.Transition.{Transition}
use Rattle.ruby_base.specs.Prelude.{number_among}
use Rattle.slicc_plan.specs.declared.row.Written.{Written}
use Rattle.slicc_ast.specs.declared.tree.machine.Decl.{Decl}
use Rattle.slicc_plan.specs.Prelude.{Declaration, is_named, named_declarations, is_action, each_once}
use Rattle.slicc_plan.specs.Machines.{names_in}
use Rattle.machine_table.specs.declared.by_name.Numbers.{Numbers}
use Rattle.machine_table.specs.declared.numbers.PartNumbers.{PartNumbers}

-- what is found by each name
abbrev pub Finding : Type 0
Finding = List ℕ → Option ℕ

-- by names without repeats and the number that each has
abbrev pub found_in : List (List ℕ) → List ℕ → Finding
found_in names numbers text = option_and_then (slice_get numbers) (number_among names text)

abbrev pub found_by : Numbers → Finding
found_by n text = found_in n.names n.numbers text

-- the numbers are those of these declarations, by their names
abbrev pub AreNumbersOf : List Declaration → Numbers → Type 0
AreNumbersOf declarations n = (text : List ℕ) → found_by n text ≡ position (is_named text) declarations

-- the actions among what these declare
abbrev pub actions_among : List Decl → List Declaration
actions_among ds = filter is_action (flat_map named_declarations ds)

-- with a number for one more name
abbrev pub found_with : Finding → List ℕ → ℕ → Finding
found_with found name number text = option_or (found text) (cond (bytes_eq name text) (Some number) None)

abbrev pub found_name : Finding → Name → Option ℕ
found_name found n = found n.text

abbrev pub found_next : Finding → Option NextState → Option Next
found_next found None = None
found_next found (Some (Named n)) = option_map To (found n.text)
found_next found (Some (Asked place)) = Some AskedFor

abbrev pub IsFoundWith : Numbers → List ℕ → ℕ → Numbers → Type 0
IsFoundWith old name number new = (text : List ℕ) → found_by new text ≡ found_with (found_by old) name number text

-- the transition with what is found by its names in place of them
abbrev pub written_by : Finding → Finding → Finding → Transition → Written
written_by states events actions t =
    record {
      states = each_once (filter_map (found_name states) (names_in t.states));
      events = each_once (filter_map (found_name events) (names_in t.events));
      next = found_next states t.next;
      actions = filter_map (found_name actions) t.actions;
      span = t.span;
    }

abbrev pub written_with : PartNumbers → Transition → Written
written_with n t = written_by (found_by n.states) (found_by n.events) (found_by n.actions) t
