-- How many free lines a transition needs in a table: as many as its actions have `check_allocate` statements for it, also in
-- blocks inside of others. An action that it lists twice counts twice. Machines, written transitions and tables are numbered in
-- the order of the text.
use Rattle.std.specs.Prelude.{ℕ, ◌==◌, Option, None, Some, List, [], flat_map}
use Rattle.std.specs.List.{count_by, slice_get}
use Rattle.slicc_ast.specs.declared.tree.name.Name.{Name}
use Rattle.slicc_ast.specs.declared.tree.item.Tree.{Tree}
use Rattle.slicc_ast.specs.declared.tree.machine.Machine.{Machine}
use Rattle.slicc_ast.specs.declared.tree.machine.Transition.{Transition}
use Rattle.slicc_plan.specs.declared.part.Body.{Body}
use Rattle.slicc_plan.specs.BodyParts.{action_bodies, names_of_written, number_in, written_actions}
use Rattle.slicc_plan.specs.Declarations.{machines_of}
use Rattle.slicc_plan.specs.Machines.{transitions_of}

abbrev pub checks_or_none : Option Body → List ℕ
checks_or_none None = []
checks_or_none (Some b) = b.checks

-- the tables that an action checks, where there is such an action
abbrev pub checks_at : List Body → Option ℕ → List ℕ
checks_at actions None = []
checks_at actions (Some k) = checks_or_none (slice_get actions k)

-- those that the actions of a transition check, one by one
abbrev pub checks_of : List Tree → Machine → Transition → List ℕ
checks_of trees m t =
    flat_map (λ (action : Name). checks_at (action_bodies trees m) (number_in (names_of_written (written_actions m)) action.text))
    t.actions

abbrev pub need_of : List Tree → Machine → ℕ → Option Transition → ℕ
need_of trees m table None = 0
need_of trees m table (Some t) = count_by (λ k. k == table) (checks_of trees m t)

abbrev pub needs_of : List Tree → ℕ → ℕ → Option Machine → ℕ
needs_of trees transition table None = 0
needs_of trees transition table (Some m) = need_of trees m table (slice_get (transitions_of m) transition)

-- none where there is no such machine, transition or table
abbrev pub needs : List Tree → ℕ → ℕ → ℕ → ℕ
needs trees machine transition table = needs_of trees transition table (slice_get (machines_of trees) machine)
