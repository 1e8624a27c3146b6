-- A machine's tables, functions and actions have one numbering each, by their places in the machine's symbols: what else counts
-- them by their names counts them so. And what a machine does, and what its transitions need of tables, by these numbers.
use Rattle.std.specs.Prelude.{ℕ, ◌≡◌, ◌+◌, ◌++◌, ◌==◌, ◌&&◌, Bool, cond, Option, None, Some, List, [], ◌∷◌, flat_map, position, slice_get, unwrap_or}
use Rattle.std.specs.List.{count_by}
use Rattle.ruby_symbols.specs.declared.machine.MachineSymbols.{MachineSymbols}
use Rattle.ruby_symbols.specs.declared.machine.Next.TheVariants.{To}
use Rattle.ruby_symbols.specs.declared.machine.TransitionSymbol.{TransitionSymbol}
use Rattle.ruby_symbols.specs.Prelude.{action_named, function_named, table_named}
use Rattle.slicc_ast.specs.declared.tree.item.Tree.{Tree}
use Rattle.slicc_ast.specs.declared.tree.machine.Machine.{Machine}
use Rattle.slicc_plan.specs.declared.part.Body.{Body}
use Rattle.slicc_plan.specs.declared.row.Row.{Row}
use Rattle.slicc_plan.specs.BodyParts.{names_of_written, number_in, table_names, written_actions, written_functions}
use Rattle.slicc_plan.specs.Declarations.{is_named, machines_of}
use Rattle.slicc_plan.specs.Machines.{actions_of, includes}
use Rattle.slicc_plan.specs.SymbolsOf.{symbols_of}
use Rattle.slicc_plan.specs.TableNeeds.{checks_or_none}

-- the machine of this number has these symbols
pub record HasSymbols (trees : List Tree) (number : ℕ) (m : Machine) (own : MachineSymbols) : Type 0 where
  pub machine : slice_get (machines_of trees) number ≡ Some m
  pub symbols : slice_get (symbols_of trees).machines number ≡ Some own

-- the numbers that rules of bodies, written transitions and their actions go by are those of the symbols
pub record HasOneNumbering (trees : List Tree) (m : Machine) (own : MachineSymbols) : Type 0 where
  pub tables : (text : List ℕ) → number_in (table_names trees m) text ≡ table_named own text
  pub functions : (text : List ℕ) → number_in (names_of_written (written_functions m)) text ≡ function_named own text
  pub bodies : (text : List ℕ) → number_in (names_of_written (written_actions m)) text ≡ action_named own text
  pub actions : (text : List ℕ) → position (is_named text) (actions_of m) ≡ action_named own text

-- Rows.

abbrev pub is_for : ℕ → ℕ → TransitionSymbol → Bool
is_for state event t = includes t.states state && includes t.events event

abbrev pub row_of : ℕ → ℕ → ℕ → TransitionSymbol → Row
row_of state event number t =
    record { state = state; event = event; next = unwrap_or t.next (To state); actions = t.actions; transition = number }

-- of these transitions, which are numbered from here on, for a state and an event
abbrev pub rows_from : ℕ → ℕ → ℕ → List TransitionSymbol → List Row
rows_from state event number [] = []
rows_from state event number (t ∷ ts) =
    cond (is_for state event t) (row_of state event number t ∷ []) [] ++ rows_from state event (number + 1) ts

abbrev pub rows_by : MachineSymbols → ℕ → ℕ → List Row
rows_by own state event = rows_from state event 0 own.transitions

-- Needs.

-- how many free lines of a table a transition needs, whose machine's actions have these bodies
abbrev pub need_of : List Body → ℕ → Option TransitionSymbol → ℕ
need_of actions table None = 0
need_of actions table (Some t) =
    count_by (λ k. k == table) (flat_map (λ action. checks_or_none (slice_get actions action)) t.actions)

abbrev pub need_by : MachineSymbols → List Body → ℕ → ℕ → ℕ
need_by own actions transition table = need_of actions table (slice_get own.transitions transition)
