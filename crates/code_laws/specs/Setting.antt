-- Where expressions and statements are read and where their code is run: a machine of an accepted protocol, as bodies are read by it, and a
-- body of a program that declares that machine. And what is called on both sides.
use Rattle.std.specs.Prelude.{◌≡◌, ◌<◌, ℕ, true, Bool, Some, List, length, slice_get}
use Rattle.ruby_symbols.specs.declared.machine.BufferSymbol.{BufferSymbol}
use Rattle.ruby_symbols.specs.declared.machine.PortSymbol.{PortSymbol}
use Rattle.ruby_symbols.specs.Prelude.{short_number}
use Rattle.ruby_value.specs.declared.setup.MachineSetup.{MachineSetup}
use Rattle.slicc_ast.specs.declared.tree.declaration.Structure.{Structure}
use Rattle.slicc_ast.specs.declared.tree.item.Tree.{Tree}
use Rattle.slicc_ast.specs.declared.tree.machine.Machine.{Machine}
use Rattle.slicc_plan.specs.Declarations.{Scope}
use Rattle.slicc_plan.specs.TypeNumbers.{structure_number}
use Rattle.slicc_plan.specs.Types.{structured}
use Rattle.slicc_plan.specs.Environment.{BodySort, Bound, Environment}
use Rattle.slicc_plan.specs.Meanings.{Meaning}
use Rattle.slicc_plan.specs.Prelude.{HasNumberedTypes, IsAccepted, machine_symbols, machines_of, symbols_of}
use Rattle.action_code.specs.declared.instr.Code.{Code}
use Rattle.action_code.specs.declared.program.Program.{Program}
use Rattle.action_code.specs.declared.program.TableDecl.{TableDecl}
use Rattle.action_code.specs.Prelude.{machine_of, tables_of, takes_from}
use Rattle.body_meaning.specs.Prelude.{Calls, Reading}
use Rattle.code_meaning.specs.Prelude.{Bodies, IsDeclared, kept_of}
use Rattle.body_code.specs.declared.numbers.BodyNumbers.{BodyNumbers}
use Rattle.body_code.specs.Prelude.{machine_declared, place_of}
use Rattle.body_code.specs.Programs.{structures_declared}

pub record Setting : Type 0 where
  -- as it is written
  pub trees : List Tree
  pub m : Machine
  pub s : Reading
  -- what the calls of the machine's functions do
  pub functions : Calls
  -- as code
  pub p : Program
  pub c : Code
  pub numbers : BodyNumbers
  pub calls : Bodies
  -- which functions of the machine the body may call, by their numbers
  pub may_call : ℕ → Bool
  -- what the machine is to its controllers
  pub setup : MachineSetup

-- the rules' environment in a body of that sort, with these names of its own
abbrev pub env_of : Setting → BodySort → (answer : Meaning) → List Bound → Environment
env_of z body answer bound = record { trees = z.trees; machine = z.m; body = body; answer = answer; bound = bound }

abbrev pub tables : Setting → List TableDecl
tables z = tables_of (machine_of z.p z.c)

pub record IsSet (z : Setting) : Type 0 where
  pub accepted : IsAccepted z.trees
  pub machine_there : slice_get (machines_of z.trees) z.s.number ≡ Some z.m
  pub symbols : z.s.symbols ≡ symbols_of z.trees
  pub numbered : HasNumberedTypes (symbols_of z.trees)
  pub machine : z.s.machine ≡ machine_symbols z.trees z.s.number z.m
  pub among : slice_get z.s.symbols.machines z.s.number ≡ Some z.s.machine
  pub few_tables : short_number (length z.s.machine.tables) ≡ Some (length z.s.machine.tables)
  pub few_structures : (n : ℕ) (scope : Scope) (u : Structure) → structure_number z.trees (structured scope u) ≡ Some n → n < 65535
  -- what in ports are on is received from
  pub receives : (k : ℕ) (port : PortSymbol) (b : BufferSymbol) → slice_get z.s.machine.in_ports k ≡ Some port → slice_get z.s.machine.buffers port.buffer ≡ Some b → takes_from (place_of b.place) ≡ true
  pub declared : machine_of z.p z.c ≡ Some (machine_declared z.s.symbols z.s.number z.s.machine)
  pub structures : z.p.structures ≡ structures_declared z.s.symbols
  pub kept : z.s.kept ≡ kept_of z.p z.c
  pub is_setup : IsDeclared z.p (machine_of z.p z.c) z.setup
