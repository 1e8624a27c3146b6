-- Parameters and objects of types of values among a machine's symbols; and that the types of declarations are known.
use Rattle.std.proofs.Common.{◌≡◌, ◌∙◌, ◌++◌, ℕ, suc, Bool, true, false, cond, not, Option, None, Some, List, [], ◌∷◌, flat_map, slice_get, refl, sym, ap, option_and_then}
use Rattle.ruby_value.specs.declared.kind.Kind.{Kind}
use Rattle.ruby_value.specs.Prelude.{default_value}
use Rattle.slicc_ast.specs.declared.tree.item.Tree.{Tree}
use Rattle.slicc_ast.specs.declared.tree.machine.Machine.{Machine}
use Rattle.slicc_ast.specs.declared.tree.machine.Object.{Object}
use Rattle.slicc_ast.specs.declared.tree.machine.Parameter.{Parameter}
use Rattle.slicc_ast.specs.declared.tree.name.TypeName.{TypeName}
use Rattle.slicc_plan.specs.declared.built_in.BuiltInType.TheVariants.{AbstractEntry, Cycles}
use Rattle.slicc_plan.specs.AllRules.{IsAccepted}
use Rattle.slicc_plan.specs.BrokenBodies.{broken_in_declaration, broken_in_machine, wrong_type, wrong_type_in}
use Rattle.slicc_plan.specs.Declarations.{Declaration, parameter, object, Scope, within, declared_in, machine_declarations, machines_of, wide_scopes}
use Rattle.slicc_plan.specs.FieldTypes.{refused_field_types}
use Rattle.slicc_plan.specs.Limits.{limits_passed}
use Rattle.slicc_plan.specs.MachineValues.{line_kind, reference_in, reference_of_kind, value_in, value_of_kind, written_value}
use Rattle.slicc_plan.specs.Prototypes.{unknown_built_ins}
use Rattle.slicc_plan.specs.Returns.{missing_returns}
use Rattle.slicc_plan.specs.SymbolsOfMachines.{machine_symbols}
use Rattle.slicc_plan.specs.TransitionNames.{wrong_names}
use Rattle.slicc_plan.specs.TwiceDeclared.{names_twice_declared}
use Rattle.slicc_plan.specs.TypeNumbers.{plain_kind, value_kind}
use Rattle.slicc_plan.specs.Types.{KnownType, built_in, enumerated, structured, is_built_in, type_in}
use Rattle.slicc_plan.specs.UnknownTypes.{TypeUse, is_unknown, unknown_in, unknown_type, unknown_types, unknown_use, uses_in}
use Rattle.slicc_plan.specs.Values.{bad_values}
use Rattle.slicc_plan.proofs.Room.{left_none, mapped_at, none_at, right_none}
use Rattle.slicc_plan.proofs.There.{There, there_flat}
use Rattle.rules_symbols.specs.NamedValues.{IsNamedValue}
use Rattle.rules_symbols.proofs.Standing.{reference_stands, value_stands}
use Rattle.rules_symbols.proofs.Types.{same_text}
use Rattle.rules_symbols.proofs.WhatFits.{untold}

module _ (trees : List Tree) (accepted : IsAccepted trees) where
  none_unknown : unknown_types trees ≡ []
  none_unknown =
      right_none (names_twice_declared trees) (unknown_types trees)
      (left_none (names_twice_declared trees ++ unknown_types trees) (limits_passed trees)
      (left_none (names_twice_declared trees ++ unknown_types trees ++ limits_passed trees) (refused_field_types trees)
      (left_none (names_twice_declared trees ++ unknown_types trees ++ limits_passed trees ++ refused_field_types trees) (bad_values trees)
      (left_none (names_twice_declared trees ++ unknown_types trees ++ limits_passed trees ++ refused_field_types trees ++ bad_values trees) (unknown_built_ins trees) accepted.of_declarations))))

  pub none_refused : refused_field_types trees ≡ []
  none_refused =
      right_none (names_twice_declared trees ++ unknown_types trees ++ limits_passed trees) (refused_field_types trees)
      (left_none (names_twice_declared trees ++ unknown_types trees ++ limits_passed trees ++ refused_field_types trees) (bad_values trees)
      (left_none (names_twice_declared trees ++ unknown_types trees ++ limits_passed trees ++ refused_field_types trees ++ bad_values trees) (unknown_built_ins trees) accepted.of_declarations))

  -- a type that a declaration names is known, and is no `AbstractCacheEntry` but in a prototype
  pub type_known : (scope : Scope) → There (wide_scopes trees) scope → (d : Declaration) → There (declared_in trees scope) d → (u : TypeUse) → There (uses_in d) u → u.is_of_prototype ≡ false
      → (t : KnownType) × (type_in trees scope u.text ≡ Some t) × (is_built_in AbstractEntry (Some t) ≡ false)
  type_known scope at d there u used plain =
      let uses = flat_map uses_in (declared_in trees scope) in
      let here = none_at (unknown_in trees) (wide_scopes trees) at.0 scope none_unknown at.1 in
      let among = there_flat uses_in (declared_in trees scope) d u there used in
      by (type_in trees scope u.text) (none_at (unknown_use trees scope) uses among.0 u here among.1)
    where
      known : (t : KnownType) (b : Bool) → is_built_in AbstractEntry (Some t) ≡ b → (v : Bool) → u.is_of_prototype ≡ v → v ≡ false → cond (cond b (not v) false) (unknown_type u.place ∷ []) [] ≡ [] → b ≡ false
      known t false is v own of none = refl
      known t true is true own of none = absurd (cc of)
      known t true is false own of none = absurd (cc none)

      by : (o : Option KnownType) → cond (is_unknown u o) (unknown_type u.place ∷ []) [] ≡ [] → (t : KnownType) × (o ≡ Some t) × (is_built_in AbstractEntry (Some t) ≡ false)
      by None none = absurd (cc none)
      by (Some t) none = (t, refl, known t (is_built_in AbstractEntry (Some t)) refl u.is_of_prototype refl plain none)

  module _ (k : ℕ) (m : Machine) (at : slice_get (machines_of trees) k ≡ Some m) where
    pub machine_scope : There (wide_scopes trees) (within m)
    machine_scope = (suc k, mapped_at within (machines_of trees) k m at)

    -- nothing is broken in what the machine declares
    pub unbroken : (d : Declaration) → There (machine_declarations m) d → broken_in_declaration trees m d ≡ []
    unbroken d there =
        let all = left_none (flat_map (broken_in_machine trees) (machines_of trees)) (wrong_names trees)
        (left_none (flat_map (broken_in_machine trees) (machines_of trees) ++ wrong_names trees) (missing_returns trees) accepted.of_bodies) in
        none_at (broken_in_declaration trees m) (machine_declarations m) there.0 d (none_at (broken_in_machine trees) (machines_of trees) k m all at) there.1

    -- what is wanted of a type that is known is so
    pub right_type : (p : KnownType → Bool) (kind : TypeName) (t : KnownType) → type_in trees (within m) kind.text ≡ Some t → wrong_type_in trees m p kind ≡ [] → p t ≡ true
    right_type p kind t is none = untold (p t) _ kind.span (sym (ap (wrong_type p kind) is) ∙ none)

    -- Values.

    pub parameter_stands : (p : Parameter) (t : KnownType) (kk : Kind) → There (machine_declarations m) (parameter p) → type_in trees (within m) p.kind.text ≡ Some t → value_kind trees m t ≡ Some kk
        → IsNamedValue (machine_symbols trees k m) p.name.text t kk
    parameter_stands p t kk there is valued = by t is valued
      where
        plain : (u : KnownType) → type_in trees (within m) p.kind.text ≡ Some u → plain_kind trees u ≡ Some kk → value_in trees m (parameter p)
            ≡ record { name = p.name.text; kind = kk; initial = written_value kk (is_built_in Cycles (type_in trees (within m) p.kind.text)) p.literal } ∷ []
        plain u is_u has = ap (value_of_kind p.name.text (type_in trees (within m) p.kind.text) p.literal) (ap (option_and_then (plain_kind trees)) is_u ∙ has)

        by : (u : KnownType) → type_in trees (within m) p.kind.text ≡ Some u → value_kind trees m u ≡ Some kk → IsNamedValue (machine_symbols trees k m) p.name.text u kk
        by (built_in b) is_u has =
            let found = value_stands trees accepted k m at p.name.text (parameter p) _ there (same_text p.name.text) (plain (built_in b) is_u has) in
            (found.0, record { name = p.name.text; kind = kk; initial = written_value kk (is_built_in Cycles (type_in trees (within m) p.kind.text)) p.literal }, found.1, found.2, refl)
        by (enumerated scope text members) is_u has =
            let found = value_stands trees accepted k m at p.name.text (parameter p) _ there (same_text p.name.text) (plain (enumerated scope text members) is_u has) in
            (found.0, record { name = p.name.text; kind = kk; initial = written_value kk (is_built_in Cycles (type_in trees (within m) p.kind.text)) p.literal }, found.1, found.2, refl)
        by (structured scope s) is_u has =
            let made : reference_in trees m (parameter p) ≡ record { name = p.name.text; kind = kk; initial = default_value kk } ∷ [] =
            ap (reference_of_kind p.name.text) (ap (option_and_then (line_kind trees m)) is_u ∙ has) in
            let found = reference_stands trees accepted k m at p.name.text (parameter p) _ there (same_text p.name.text) made in
            (found.0, record { name = p.name.text; kind = kk; initial = default_value kk }, found.1, found.2, refl)

    pub object_stands : (p : Object) (t : KnownType) (kk : Kind) → There (machine_declarations m) (object p) → type_in trees (within m) p.kind.text ≡ Some t → value_kind trees m t ≡ Some kk
        → IsNamedValue (machine_symbols trees k m) p.name.text t kk
    object_stands p t kk there is valued = by t is valued
      where
        plain : (u : KnownType) → type_in trees (within m) p.kind.text ≡ Some u → plain_kind trees u ≡ Some kk → value_in trees m (object p)
            ≡ record { name = p.name.text; kind = kk; initial = written_value kk (is_built_in Cycles (type_in trees (within m) p.kind.text)) None } ∷ []
        plain u is_u has = ap (value_of_kind p.name.text (type_in trees (within m) p.kind.text) None) (ap (option_and_then (plain_kind trees)) is_u ∙ has)

        by : (u : KnownType) → type_in trees (within m) p.kind.text ≡ Some u → value_kind trees m u ≡ Some kk → IsNamedValue (machine_symbols trees k m) p.name.text u kk
        by (built_in b) is_u has =
            let found = value_stands trees accepted k m at p.name.text (object p) _ there (same_text p.name.text) (plain (built_in b) is_u has) in
            (found.0, record { name = p.name.text; kind = kk; initial = written_value kk (is_built_in Cycles (type_in trees (within m) p.kind.text)) None }, found.1, found.2, refl)
        by (enumerated scope text members) is_u has =
            let found = value_stands trees accepted k m at p.name.text (object p) _ there (same_text p.name.text) (plain (enumerated scope text members) is_u has) in
            (found.0, record { name = p.name.text; kind = kk; initial = written_value kk (is_built_in Cycles (type_in trees (within m) p.kind.text)) None }, found.1, found.2, refl)
        by (structured scope s) is_u has =
            let made : reference_in trees m (object p) ≡ record { name = p.name.text; kind = kk; initial = default_value kk } ∷ [] =
            ap (reference_of_kind p.name.text) (ap (option_and_then (line_kind trees m)) is_u ∙ has) in
            let found = reference_stands trees accepted k m at p.name.text (object p) _ there (same_text p.name.text) made in
            (found.0, record { name = p.name.text; kind = kk; initial = default_value kk }, found.1, found.2, refl)
