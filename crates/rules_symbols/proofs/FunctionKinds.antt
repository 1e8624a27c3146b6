-- The functions of a machine: a function with a body is found by its name, with the kinds of its formals and of what it answers.
use Rattle.std.specs.Prelude.{◌⊎◌}
use Rattle.std.proofs.Common.{◌≡◌, ◌∙◌, ◌≤◌, ◌++◌, ℕ, Bool, true, false, ◌||◌, Option, None, Some, List, [], ◌∷◌, flat_map, length, map, position, slice_get, refl, sym, ap, subst, arith, option_and_then, inl, inr}
use Rattle.std.specs.Str.{bytes_eq}
use Rattle.ruby_value.specs.declared.kind.Kind.{Kind}
use Rattle.ruby_symbols.specs.declared.machine.FunctionSymbol.{FunctionSymbol}
use Rattle.ruby_symbols.specs.Names.{function_named}
use Rattle.ruby_symbols.specs.Numbers.{short_number}
use Rattle.slicc_ast.specs.declared.tree.declaration.Formal.{Formal}
use Rattle.slicc_ast.specs.declared.tree.declaration.Formals.{Formals}
use Rattle.slicc_ast.specs.declared.tree.declaration.Function.{Function}
use Rattle.slicc_ast.specs.declared.tree.declaration.Function.TheVariants.{Plain, Skipped}
use Rattle.slicc_ast.specs.declared.tree.declaration.Pairs.{Pairs}
use Rattle.slicc_ast.specs.declared.tree.item.Tree.{Tree}
use Rattle.slicc_ast.specs.declared.tree.machine.Decl.{Decl}
use Rattle.slicc_ast.specs.declared.tree.machine.Decl.TheVariants as decl
use Rattle.slicc_ast.specs.declared.tree.machine.Machine.{Machine}
use Rattle.slicc_ast.specs.declared.tree.name.Name.{Name}
use Rattle.slicc_ast.specs.declared.tree.name.TypeName.{TypeName}
use Rattle.slicc_ast.specs.declared.tree.span.Span.{Span}
use Rattle.slicc_ast.specs.declared.tree.statement.Block.{Block}
use Rattle.slicc_plan.specs.declared.built_in.BuiltInType.TheVariants.{Void}
use Rattle.slicc_plan.specs.AllRules.{IsAccepted}
use Rattle.slicc_plan.specs.BrokenBodies.{function_environment, wrong_formal, wrong_type_in}
use Rattle.slicc_plan.specs.Declarations.{parameter, function, within, first_named, is_named, machine_declarations, machines_of, named_declarations}
use Rattle.slicc_plan.specs.JudgedStatements.{body_judged}
use Rattle.slicc_plan.specs.Meanings.{is_answer_type, is_value}
use Rattle.slicc_plan.specs.SymbolsOfMachines.{formal_symbol, function_symbol, function_symbols, function_with_body, kind_in, machine_symbols}
use Rattle.slicc_plan.specs.TypeNumbers.{kind_or_bool, value_kind}
use Rattle.slicc_plan.specs.Types.{KnownType, built_in, is_built_in, type_in}
use Rattle.slicc_plan.specs.UnknownTypes.{formal_use, use_of}
use Rattle.slicc_plan.proofs.Counted.{machine_has_numbers}
use Rattle.slicc_plan.proofs.Room.{left_none, none_at, right_none}
use Rattle.slicc_plan.proofs.There.{There, found_passes, there_found, there_later, there_mapped}
use Rattle.rules_symbols.proofs.Lists.{find_none, flat_there, short_position, there_append, there_map}
use Rattle.rules_symbols.proofs.Made.{numbered_none, numbered_some, only_there}
use Rattle.rules_symbols.proofs.Parameters.{machine_scope, right_type, type_known, unbroken}
use Rattle.rules_symbols.proofs.Standing.{is_type}
use Rattle.rules_symbols.proofs.ValueKinds.{kind_there}
use Rattle.rules_symbols.proofs.ValueNames.{declared_there, is_named_decl, one_written, written_there}

module _ (trees : List Tree) (m : Machine) (text : List ℕ) where
  function_text : (j : ℕ) (x : Decl) (y : FunctionSymbol) → There (function_symbol trees m j x) y → bytes_eq y.name text ≡ is_named_decl text x
  function_text j (decl.Function f) y there = by f there
    where
      by : (g : Function) → There (function_with_body trees m j g) y → bytes_eq y.name text ≡ is_named_decl text (decl.Function g)
      by (Plain kind called formals attributes (Some body) span) at = ap (λ (s : FunctionSymbol). bytes_eq s.name text) (sym (only_there _ y at))
      by (Plain kind called formals attributes None span) at = absurd (cc at.1)
      by (Skipped s) at = absurd (cc at.1)
  function_text j _ y there = absurd (cc there.1)

-- a function that is declared stands between the braces
function_written : (m : Machine) (f : Function) → There (machine_declarations m) (function f) → There m.declarations (decl.Function f)
function_written m f there = by (there_append (map parameter m.parameters) (flat_map named_declarations m.declarations) (function f) there)
  where
    of : (x : Decl) → There m.declarations x → There (named_declarations x) (function f) → There m.declarations (decl.Function f)
    of (decl.Function g) at inside = let same : function g ≡ function f = only_there (function g) (function f) inside in let one : g ≡ f = cc same in subst (λ (h : Function). There m.declarations (decl.Function h)) one at
    of (decl.States s) at inside = absurd (cc (only_there _ (function f) inside))
    of (decl.Enumeration s) at inside = absurd (cc (only_there _ (function f) inside))
    of (decl.Structure s) at inside = absurd (cc (only_there _ (function f) inside))
    of (decl.OutPort s) at inside = absurd (cc (only_there _ (function f) inside))
    of (decl.InPort s) at inside = absurd (cc (only_there _ (function f) inside))
    of (decl.Action s) at inside = absurd (cc (only_there _ (function f) inside))
    of (decl.Object s) at inside = absurd (cc (only_there _ (function f) inside))
    of (decl.Transition s) at inside = absurd (cc inside.1)

    by : There (map parameter m.parameters) (function f) ⊎ There (flat_map named_declarations m.declarations) (function f) → There m.declarations (decl.Function f)
    by (inl front) = let from = there_map parameter m.parameters (function f) front in absurd (cc from.2)
    by (inr rest) = let from = flat_there named_declarations m.declarations (function f) rest in of from.0 from.1 from.2

module _ (trees : List Tree) (accepted : IsAccepted trees) (k : ℕ) (m : Machine) (at : slice_get (machines_of trees) k ≡ Some m) where
  functions_kept : (machine_symbols trees k m).functions ≡ function_symbols trees m
  unfolding machine_symbols
  functions_kept = refl

  few_functions : length (function_symbols trees m) ≤ 65536
  unfolding machine_symbols
  few_functions = let few = machine_has_numbers trees k m accepted at in omega (arith, few.functions)

  abbrev symbol_of : ℕ → TypeName → Name → Formals → FunctionSymbol
  symbol_of j kind called formals = record { name = called.text; declaration = j; formals = map (formal_symbol trees m) formals.items; result = kind_in trees m kind }

  -- by its name, with its place between the braces
  pub function_stands : (kind : TypeName) (called : Name) (formals : Formals) (attributes : Pairs) (body : Block) (span : Span) (text : List ℕ)
      → first_named text (machine_declarations m) ≡ Some (function (Plain kind called formals attributes (Some body) span))
      → (n : ℕ) × (j : ℕ) × (function_named (machine_symbols trees k m) text ≡ Some n)
      × (slice_get (machine_symbols trees k m).functions n ≡ Some (record { name = called.text; declaration = j; formals = map (formal_symbol trees m) formals.items; result = kind_in trees m kind }))
      × (slice_get m.declarations j ≡ Some (decl.Function (Plain kind called formals attributes (Some body) span)))
  function_stands kind called formals attributes body span text first =
      let f : Function = Plain kind called formals attributes (Some body) span in
      let x : Decl = decl.Function f in
      let declared = there_found (is_named text) (machine_declarations m) (function f) first in
      let is = found_passes (is_named text) (machine_declarations m) (function f) first in
      let there = function_written m f declared in
      let q : FunctionSymbol → Bool = λ (s : FunctionSymbol). bytes_eq s.name text in
      let found = numbered_some (function_symbol trees m) (is_named_decl text) q (function_text trees m text) m.declarations x there is
      (λ j. (symbol_of j kind called formals, refl)) (λ z at_z is_z. one_written trees accepted k m at text x z there at_z is is_z) in
      let both : symbol_of found.1 kind called formals ∷ [] ≡ found.2 ∷ [] = found.6 in
      let one : symbol_of found.1 kind called formals ≡ found.2 = cc both in (
        found.0,
        found.1,
        ap (λ (fs : List FunctionSymbol). option_and_then short_number (position q fs)) functions_kept ∙ short_position q (function_symbols trees m) few_functions ∙ found.3,
        ap (λ (fs : List FunctionSymbol). slice_get fs found.0) functions_kept ∙ found.4 ∙ ap Some (sym one),
        found.5,
      )

  -- a name of no function with a body
  pub no_function : (text : List ℕ) → ((x : Decl) → There m.declarations x → is_named_decl text x ≡ true → (j : ℕ) → function_symbol trees m j x ≡ []) → function_named (machine_symbols trees k m) text ≡ None
  no_function text none =
      let q : FunctionSymbol → Bool = λ (s : FunctionSymbol). bytes_eq s.name text in
      ap (λ (fs : List FunctionSymbol). option_and_then short_number (position q fs)) functions_kept ∙ short_position q (function_symbols trees m) few_functions
      ∙ numbered_none (function_symbol trees m) (is_named_decl text) q (function_text trees m text) m.declarations none

  pub undeclared_function : (text : List ℕ) → first_named text (machine_declarations m) ≡ None → function_named (machine_symbols trees k m) text ≡ None
  undeclared_function text none =
      no_function text (λ x there is j.
      let its = declared_there trees accepted k m at text x there is in
      absurd (cc (sym (find_none (is_named text) (machine_declarations m) its.0 none its.1) ∙ its.2)))

  -- one without a body
  pub prototype_function : (kind : TypeName) (called : Name) (formals : Formals) (attributes : Pairs) (span : Span) (text : List ℕ)
      → first_named text (machine_declarations m) ≡ Some (function (Plain kind called formals attributes None span)) → function_named (machine_symbols trees k m) text ≡ None
  prototype_function kind called formals attributes span text first =
      let f : Function = Plain kind called formals attributes None span in
      let declared = there_found (is_named text) (machine_declarations m) (function f) first in
      let is = found_passes (is_named text) (machine_declarations m) (function f) first in
      no_function text (λ x there is_x j.
      let both : Some (decl.Function f) ≡ Some x = written_there trees accepted k m at text x (function f) there is_x declared is in
      let one : decl.Function f ≡ x = cc both in
      subst (λ (y : Decl). function_symbol trees m j y ≡ []) one refl)

  -- The kinds of formals and answers.

  module _ (kind : TypeName) (called : Name) (formals : Formals) (attributes : Pairs) (body : Block) (span : Span) (there : There (machine_declarations m) (function (Plain kind called formals attributes (Some body) span))) where
    -- what is judged of a function
    parts : (wrong_type_in trees m (is_answer_type m) kind ≡ []) × (flat_map (wrong_formal trees m) formals.items ≡ []) × (body_judged (function_environment trees m kind formals.items) body ≡ [])
    parts =
        let all = unbroken trees accepted k m at (function (Plain kind called formals attributes (Some body) span)) there in
        let front = left_none (wrong_type_in trees m (is_answer_type m) kind ++ flat_map (wrong_formal trees m) formals.items) (body_judged (function_environment trees m kind formals.items) body) all in (
          left_none (wrong_type_in trees m (is_answer_type m) kind) (flat_map (wrong_formal trees m) formals.items) front,
          right_none (wrong_type_in trees m (is_answer_type m) kind) (flat_map (wrong_formal trees m) formals.items) front,
          right_none (wrong_type_in trees m (is_answer_type m) kind ++ flat_map (wrong_formal trees m) formals.items) (body_judged (function_environment trees m kind formals.items) body) all,
        )

    pub body_is_judged : body_judged (function_environment trees m kind formals.items) body ≡ []
    body_is_judged = parts.2

    -- each formal has a type of values, and its symbol has that type's kind
    pub formal_is : (f : Formal) → There formals.items f → (t : KnownType) × (kk : Kind) × (type_in trees (within m) f.kind.text ≡ Some t) × (is_value m t ≡ true) × (value_kind trees m t ≡ Some kk) × ((formal_symbol trees m f).kind ≡ kk)
    formal_is f place =
        let used = there_later (use_of kind) (formal_use false f) (map (formal_use false) formals.items) (there_mapped (formal_use false) formals.items f place) in
        let known = type_known trees accepted (within m) (machine_scope trees accepted k m at) (function (Plain kind called formals attributes (Some body) span)) there (formal_use false f) used refl in
        let valued = right_type trees accepted k m at (is_value m) f.kind known.0 known.1 (none_at (wrong_formal trees m) formals.items place.0 f parts.1 place.1) in
        let has = kind_there trees k m at f.kind.text known.0 known.1 valued in
        (known.0, has.0, known.1, valued, has.1, ap (λ (o : Option KnownType). kind_or_bool (option_and_then (value_kind trees m) o)) known.1 ∙ ap kind_or_bool has.1)

    -- it answers `void` and no kind, or a type of values and its kind
    pub answer_is : (t : KnownType) × (type_in trees (within m) kind.text ≡ Some t)
        × ((t ≡ built_in Void) × (kind_in trees m kind ≡ None) ⊎ (is_value m t ≡ true) × (value_kind trees m t ≡ kind_in trees m kind))
    answer_is =
        let known = type_known trees accepted (within m) (machine_scope trees accepted k m at) (function (Plain kind called formals attributes (Some body) span)) there (use_of kind) (0, refl) refl in
        let right = right_type trees accepted k m at (is_answer_type m) kind known.0 known.1 parts.0 in
        (known.0, known.1, by known.0 known.1 (is_built_in Void (Some known.0)) refl right)
      where
        by : (t : KnownType) → type_in trees (within m) kind.text ≡ Some t → (b : Bool) → is_built_in Void (Some t) ≡ b → (b || is_value m t) ≡ true
            → (t ≡ built_in Void) × (kind_in trees m kind ≡ None) ⊎ (is_value m t ≡ true) × (value_kind trees m t ≡ kind_in trees m kind)
        by t is true void right =
            let same : t ≡ built_in Void = cc (is_type Void (Some t) void) in
            inl (same, ap (option_and_then (value_kind trees m)) is ∙ ap (value_kind trees m) same)
        by t is false other right = inr (right, sym (ap (option_and_then (value_kind trees m)) is))
