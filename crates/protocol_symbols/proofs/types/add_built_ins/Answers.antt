use Rattle.std.proofs.Common.{◌≡◌, ◌++◌, Bor, ℕ, List, None, [], ◌∷◌, ap, map, ◌∙◌}
use Rattle.std.proofs.lemmas.Result.{IfOk-weaker}
use Rattle.std.specs.Prelude.{codes}
use Rattle.ruby_symbols.specs.declared.types.EnumerationSymbol.{EnumerationSymbol}
use Rattle.slicc_ast.specs.declared.tree.machine.Machine.{Machine}
use Rattle.slicc_plan.specs.declared.built_in.BuiltInType.TheVariants.{MachineType, AccessPermission, RequestType, MessageSize}
use Rattle.slicc_plan.specs.Prelude.{built_in_enumeration}
use Rattle.type_numbers.proofs.Lists.{machine_texts}
use Rattle.type_numbers.specs.Prelude.{trees_of}
use Rattle.protocol_symbols.proofs.Numbered.{four_added}
use Rattle.protocol_symbols.proofs.types.add_built_ins.Goals as goal

pub returns : goal.returns
returns c =
    let trees = trees_of c.args.types.now in
    let made : List (List ℕ) → EnumerationSymbol = λ members. record { name = codes "MachineType"; machine = None; members = members; default = 0 } in
    let machines : c.add_members.new.list ≡ c.args.list.now ++ built_in_enumeration trees (codes "MachineType") MachineType ∷ [] =
    c.in_ok-add_members.ensures
    ∙ ap (λ (members : List (List ℕ)). c.args.list.now ++ made members ∷ [])
    (ap (map (λ (m : Bor Machine). m.now.name.text)) c.deref.ensures ∙ machine_texts c.args.types.now.machines ∙ ap (map (λ (m : Machine). m.name.text)) c.requires.machines) in
    IfOk-weaker c.add_fixed-3.result _ _
    (λ done last.
    four_added c.args.list.now c.add_members.new.list c.add_fixed.new.list c.add_fixed-2.new.list c.add_fixed-3.new.list (built_in_enumeration trees (codes "MachineType") MachineType)
    (built_in_enumeration trees (codes "AccessPermission") AccessPermission) (built_in_enumeration trees (codes "RubyRequestType") RequestType) (built_in_enumeration trees (codes "MessageSizeType") MessageSize)
    machines c.in_ok-add_fixed.ensures c.in_ok-add_fixed-2.ensures last)
    c.add_fixed-3.ensures
