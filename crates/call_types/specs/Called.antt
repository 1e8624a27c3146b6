-- Calls that need no declaration, as the definitions of a protocol's rules see them.
use Rattle.std.specs.Prelude.{ℕ, Bool, List, [], ◌∷◌}
use Rattle.std.specs.Str.{bytes_eq}
use Rattle.slicc_ast.specs.declared.tree.machine.Machine.{Machine}
use Rattle.slicc_plan.specs.BuiltInCalls as plan
use Rattle.slicc_plan.specs.Prelude.{Scope, everywhere, within}
use Rattle.declared_types.specs.Prelude.{call_of}
use Rattle.call_types.specs.declared.called.Called.{Called}
use Rattle.call_types.specs.declared.called.Called.TheVariants.{BuiltIn, Permission}

abbrev pub call_for : Called → plan.Call
call_for (BuiltIn c) = call_of c.now
call_for (Permission m) = plan.permission_reading m.now

-- the call from the states of this machine to permissions has this name
abbrev pub has_permissions : List ℕ → Machine → Bool
has_permissions text m = bytes_eq (plan.permission_call m.name.text) text

-- the machine that a scope is, if it is one
abbrev pub machines_in : Scope → List Machine
machines_in everywhere = []
machines_in (within m) = m ∷ []
