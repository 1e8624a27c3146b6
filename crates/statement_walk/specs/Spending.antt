-- Counting down: from a number one goes for each name of a list that passes a test, and where it would go below zero nothing is left. It
-- says whether more names pass than the number, and needs no number for how many do. What is counted are the lines that actions need of
-- a table, or the messages that they send on a buffer.
use Rattle.std.specs.Prelude.{ℕ, zero, suc, Bool, Option, None, Some, List, cond, flat_map, fold}
use Rattle.std.specs.List.{count_by}
use Rattle.slicc_ast.specs.declared.tree.statement.ElseIf.{ElseIf}
use Rattle.ruby_symbols.specs.declared.machine.MachineSymbols.{MachineSymbols}
use Rattle.body_meaning.specs.Actions.{Pick, Tables, Ports}
use Rattle.body_meaning.specs.Prelude.{Reading, action_names, names_in, names_table, sends_for}
use Rattle.statement_walk.specs.declared.needs.Counted.{Counted}
use Rattle.statement_walk.specs.declared.needs.Counted.TheVariants.{Lines, Messages}

abbrev pub one_less : ℕ → Option ℕ
one_less zero = None
one_less (suc n) = Some n

abbrev pub spend : (List ℕ → Bool) → Option ℕ → List ℕ → Option ℕ
spend passes None name = None
spend passes (Some n) name = cond (passes name) (one_less n) (Some n)

-- what is left after all of them
abbrev pub spent : (List ℕ → Bool) → Option ℕ → List (List ℕ) → Option ℕ
spent passes left names = fold (spend passes) left names

-- the names that are picked in an `else if`
abbrev pub else_if_names : Pick → ElseIf → List (List ℕ)
else_if_names pick other = flat_map (names_in pick) other.then.statements

-- the names that tell what is counted, those of them that count, and how many these are
abbrev pub pick : Counted → Pick
pick (Lines table) = Tables
pick (Messages buffer) = Ports

abbrev pub passes : MachineSymbols → Counted → List ℕ → Bool
passes m (Lines table) = names_table m table
passes m (Messages buffer) = sends_for m buffer

abbrev pub count_of : Reading → List ℕ → Counted → ℕ
count_of s actions counted = count_by (passes s.machine counted) (action_names (pick counted) s actions)
