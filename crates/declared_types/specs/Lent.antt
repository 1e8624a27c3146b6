-- What is lent from the trees, as the definitions of a protocol's meaning see it.
use Rattle.std.specs.Prelude.{ℕ, List, map}
use Rattle.slicc_ast.specs.declared.tree.declaration.State.{State}
use Rattle.slicc_ast.specs.declared.tree.declaration.Symbol.{Symbol}
use Rattle.slicc_plan.specs.Declarations as plan
use Rattle.slicc_plan.specs.Types as types
use Rattle.declared_types.specs.declared.lent.Declared.{Declared}
use Rattle.declared_types.specs.declared.lent.Declared.TheVariants.{Machine, Enumeration, Structure, States, Parameter, Object, OutPort, InPort, Action, Function}
use Rattle.declared_types.specs.declared.lent.Scope.{Scope}
use Rattle.declared_types.specs.declared.lent.Scope.TheVariants.{Everywhere, Within}
use Rattle.declared_types.specs.declared.lent.KnownType.{KnownType}
use Rattle.declared_types.specs.declared.lent.KnownType.TheVariants.{BuiltIn, Enumeration as EnumerationType, States as StatesType, Structure as StructureType}

abbrev pub declaration_of : Declared → plan.Declaration
declaration_of (Machine m) = plan.machine m.now
declaration_of (Enumeration e) = plan.enumeration e.now
declaration_of (Structure s) = plan.structure s.now
declaration_of (States s) = plan.states s.now
declaration_of (Parameter p) = plan.parameter p.now
declaration_of (Object o) = plan.object o.now
declaration_of (OutPort p) = plan.out_port p.now
declaration_of (InPort p) = plan.in_port p.now
declaration_of (Action a) = plan.action a.now
declaration_of (Function f) = plan.function f.now

abbrev pub declarations_of : List Declared → List plan.Declaration
declarations_of ds = map declaration_of ds

abbrev pub scope_of : Scope → plan.Scope
scope_of Everywhere = plan.everywhere
scope_of (Within m) = plan.within m.now

abbrev pub type_of : KnownType → types.KnownType
type_of (BuiltIn b) = types.built_in b
type_of (EnumerationType scope e) =
    types.enumerated (scope_of scope) e.now.name.text (map (λ (s : Symbol). s.name.text) e.now.members)
type_of (StatesType scope d) =
    types.enumerated (scope_of scope) d.now.name.text (map (λ (s : State). s.name.text) d.now.members)
type_of (StructureType scope s) = types.structured (scope_of scope) s.now

-- the name that is declared
abbrev pub text_of : Declared → List ℕ
text_of (Machine m) = m.now.name.text
text_of (Enumeration e) = e.now.name.text
text_of (Structure s) = s.now.name.text
text_of (States s) = s.now.name.text
text_of (Parameter p) = p.now.name.text
text_of (Object o) = o.now.name.text
text_of (OutPort p) = p.now.name.text
text_of (InPort p) = p.now.name.text
text_of (Action a) = a.now.name.text
text_of (Function f) = (plan.function_name f.now).text

abbrev pub texts_of : List Declared → List (List ℕ)
texts_of ds = map text_of ds
