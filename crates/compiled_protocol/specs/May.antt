-- When a scan may be done by the bodies of a machine: each that it may come to may be called with the arguments that it is given there.
use Rattle.std.specs.Prelude.{ℕ, ◌≡◌, ◌+◌, ◌<◌, ◌^◌, true, IfSome, Some, List, [], ◌∷◌, ◌++◌, slice_get}
use Rattle.ruby_value.specs.declared.setup.MachineSetup.{MachineSetup}
use Rattle.ruby_value.specs.declared.value.Value.{Value}
use Rattle.ruby_value.specs.declared.value.Value.TheVariants as value
use Rattle.ctl_face.specs.Prelude.{IsLawful, LocalView}
use Rattle.acts.specs.Prelude.{run}
use Rattle.action_code.specs.declared.instr.Code.{Code}
use Rattle.action_code.specs.declared.program.Program.{Program}
use Rattle.action_code.specs.Prelude.{machine_of, tables_of}
use Rattle.body_meaning.specs.declared.thing.Trigger.{Trigger}
use Rattle.body_meaning.specs.Prelude.{about}
use Rattle.code_meaning.specs.declared.code_end.CodeEnd.{CodeEnd}
use Rattle.code_meaning.specs.Prelude.{HoldsOfAnswer, IsDeclared, are_of_kinds, run_body}
use Rattle.slicc_plan.specs.declared.row.Row.{Row}
use Rattle.machine_table.specs.Prelude.{answer}
use Rattle.action_gen.specs.Prelude.{about_values}
use Rattle.compiled_protocol.specs.Machine.{MachineCode}
use Rattle.compiled_protocol.specs.Scan.{trigger_in}

-- a lawful local of a machine that is this to its controllers
pub record InSetup (setup : MachineSetup) (v : LocalView) : Type 0 where
  pub machine : v.machine ≡ setup
  pub lawful : IsLawful v

-- the body of this number with these arguments
pub record MayCall (p : Program) (setup : MachineSetup) (body : ℕ) (arguments : List Value) : Type 0 where
  pub code : Code
  pub is_there : slice_get p.bodies body ≡ Some code
  pub arguments_are : are_of_kinds (tables_of (machine_of p code)) code.arguments arguments ≡ true
  pub declared : IsDeclared p (machine_of p code) setup

module _ (c : MachineCode) (setup : MachineSetup) where
  abbrev pub Calls : ℕ → List Value → Type 0
  Calls body arguments = MayCall c.parts.program setup body arguments

  -- what was triggered so
  pub record MayTry (t : Trigger) : Type 0 where
    pub reads : IfSome c.head.reads (λ body. Calls body (about_values (about t)))
    pub asks : IfSome c.head.asks (λ body. Calls body (value.Addr t.address ∷ []))
    pub numbered : (state event : ℕ) (row : Row) → answer c.parts.tables c.number state event ≡ Some row
        → c.head.first + row.transition < 2 ^ 32
    pub fires : (state event last : ℕ) (row : Row) → answer c.parts.tables c.number state event ≡ Some row
        → Calls (c.head.first + row.transition) (about_values (about t) ++ value.Enum c.states last ∷ [])

  abbrev pub MayGoOn : CodeEnd → Type 0
  MayGoOn end = IfSome (trigger_in end) MayTry

  -- the port of this body, and what it triggers
  pub record MayRunPort (body : ℕ) : Type 0 where
    pub call : Calls body []
    pub triggers : (v : LocalView) → InSetup setup v → HoldsOfAnswer MayGoOn (run (run_body c.parts.program body []) v)
