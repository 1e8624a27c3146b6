-- A reader makes a declaration's, a machine's and a file's outline of their tokens.
use Rattle.std.proofs.Common.{◌≡◌, ℕ, ◌==◌, Bool, true, false, not, ◌||◌, cond, List, [], ◌∷◌, length, Option, Some, None, refl, ◌⊎◌, inl, inr, codes}
use Rattle.std.specs.Str.{bytes_eq}
use Rattle.std.proofs.lemmas.Bool.{and_parts, not-true, false≢true, cond_both}
use Rattle.slicc_ast.specs.declared.tree.token.TokenKind.TheVariants.{End}
use Rattle.slicc_ast.specs.declared.tree.token.Word.TheVariants.{Protocol}
use Rattle.slicc_ast.specs.declared.tree.token.Sign.TheVariants.{OpenBrace, CloseBrace, OpenParenthesis, CloseParenthesis, Semicolon, Comma}
use Rattle.slicc_ast.specs.declared.tree.declaration.Enumeration.{Enumeration}
use Rattle.slicc_ast.specs.declared.tree.declaration.Function.{Function}
use Rattle.slicc_ast.specs.declared.tree.declaration.Function.TheVariants.{Plain, Skipped as SkippedFunction}
use Rattle.slicc_ast.specs.declared.tree.declaration.Member.{Member}
use Rattle.slicc_ast.specs.declared.tree.declaration.Member.TheVariants.{Field, Method, Skipped as SkippedMember}
use Rattle.slicc_ast.specs.declared.tree.declaration.Pair.{Pair}
use Rattle.slicc_ast.specs.declared.tree.declaration.Pair.TheVariants.{Named, Bare}
use Rattle.slicc_ast.specs.declared.tree.declaration.Pairs.{Pairs}
use Rattle.slicc_ast.specs.declared.tree.declaration.Skipped.{Skipped}
use Rattle.slicc_ast.specs.declared.tree.declaration.State.{State}
use Rattle.slicc_ast.specs.declared.tree.declaration.States.{States}
use Rattle.slicc_ast.specs.declared.tree.declaration.Structure.{Structure}
use Rattle.slicc_ast.specs.declared.tree.declaration.Symbol.{Symbol}
use Rattle.slicc_ast.specs.declared.tree.item.Item.{Item}
use Rattle.slicc_ast.specs.declared.tree.item.Item.TheVariants.{Include, Enumeration as EnumerationItem, Structure as StructureItem, Machine as MachineItem}
use Rattle.slicc_ast.specs.declared.tree.item.Tree.{Tree}
use Rattle.slicc_ast.specs.declared.tree.machine.Action.{Action}
use Rattle.slicc_ast.specs.declared.tree.machine.Decl.{Decl}
use Rattle.slicc_ast.specs.declared.tree.machine.Decl.TheVariants.{States as StatesDecl, Enumeration as EnumerationDecl, Structure as StructureDecl, OutPort as OutPortDecl, InPort as InPortDecl, Action as ActionDecl, Transition as TransitionDecl, Function as FunctionDecl, Object as ObjectDecl}
use Rattle.slicc_ast.specs.declared.tree.machine.InPort.{InPort}
use Rattle.slicc_ast.specs.declared.tree.machine.Literal.{Literal}
use Rattle.slicc_ast.specs.declared.tree.machine.Machine.{Machine}
use Rattle.slicc_ast.specs.declared.tree.machine.Names.{Names}
use Rattle.slicc_ast.specs.declared.tree.machine.Names.TheVariants.{One, Several}
use Rattle.slicc_ast.specs.declared.tree.machine.NextState.{NextState}
use Rattle.slicc_ast.specs.declared.tree.machine.NextState.TheVariants.{Named as NamedState, Asked}
use Rattle.slicc_ast.specs.declared.tree.machine.Object.{Object}
use Rattle.slicc_ast.specs.declared.tree.machine.OutPort.{OutPort}
use Rattle.slicc_ast.specs.declared.tree.machine.Parameter.{Parameter}
use Rattle.slicc_ast.specs.declared.tree.machine.Transition.{Transition}
use Rattle.slicc_ast.specs.declared.tree.name.Name.{Name}
use Rattle.slicc_ast.specs.declared.tree.name.TypeName.{TypeName}
use Rattle.slicc_ast.specs.declared.tree.span.Span.{Span}
use Rattle.slicc_ast.specs.declared.tree.statement.Block.{Block}
use Rattle.slicc_ast.specs.Prelude.{node, Parts, none, part, provided, is_allowed, are_allowed, shape_of, type_name, pair_list, is_skipped, symbol_list, state_list, member_list, more_names, name_list, next_parts, action_list, function_body, function, object, decl, literal_parts, parameter_list, decl_list, type_parts, item_list, protocol_parts, tree_parts, tree, has, Row, done, many, end, next, Form, end_of_text, name_kind, machine_type, functional_name, other_name}
use Rattle.slicc_ast.specs.Names.{sign as sign_parts, star, name as name_parts, balanced}
use Rattle.slicc_ast.specs.Declarations.{pair, pairs as pairs_parts, enumeration, states, member, structure}
use Rattle.slicc_ast.specs.Machines.{out_port, in_port, action, names, transition, parameter, machine}
use Rattle.slicc_ast.specs.Trees.{item}
use Rattle.slicc_ast.proofs.Building.Builds.{ended, one, alternative, present, absent, on}
use Rattle.slicc_ast.proofs.LeadingParts.{plain_name_is_one}
use Rattle.slicc_ast.proofs.LeadingTrees.{skipped_is_one}
use Rattle.slicc_ast.proofs.Shapes.{◌▸◌, start, opened, with_token, with_part, Step, Makes, of, at, begin, close, name, sign, word, comma, colon, semicolon, assign, string, optional, repeated, more_pairs, pairs, port_head}
use Rattle.slicc_ast.proofs.Making.{spelled_in, marked, any_name, a_name, Forms, Closes, Place, Behind, closed, closed_last, then_token, then_name_of, then_name, then_type, then_form, then_node, where_allowed, then_on, then_alternative, then_present, then_absent, then_again, then_enough, by_node, by_form}
use Rattle.slicc_ast.proofs.MakingParts.{then_pair_list, then_pairs, then_star, then_formals, then_balanced, literal_forms, value_closes}
use Rattle.slicc_ast.proofs.MakingStatements.{whole_block_forms}

-- enumerations, states and structures
abbrev one_symbol : Row Step
one_symbol = (name ▸ pairs ▸ semicolon) done

symbols_close : {row : Place} {rows : Behind} {parts : Parts} (ss : List Symbol) → Closes row rows parts → Closes (λ R S. many one_symbol (row R S)) rows (symbol_list ss parts)
symbols_close [] c = then_enough c
symbols_close (first ∷ others) c = then_again (then_name (then_pairs first.pairs (then_token refl (then_on (symbols_close others c)))))

enumeration_forms : (e : Enumeration) → Forms Form.enumeration (enumeration e)
enumeration_forms e =
    by_node 0 refl (then_token refl (then_token refl (then_name (then_pairs e.pairs (then_token refl
    (then_token refl (symbols_close e.members (then_token refl closed_last))))))))

abbrev one_state : Row Step
one_state = (name ▸ comma ▸ name ▸ colon ▸ name ▸ pairs ▸ semicolon) done

state_list_closes : {row : Place} {rows : Behind} {parts : Parts} (ss : List State) → Closes row rows parts → Closes (λ R S. many one_state (row R S)) rows (state_list ss parts)
state_list_closes [] c = then_enough c
state_list_closes (first ∷ others) c =
    then_again (then_name (then_token refl (then_name (then_token refl (then_name (then_pairs first.pairs (then_token refl
    (then_on (state_list_closes others c)))))))))

states_forms : (s : States) → Forms Form.states (states s)
states_forms s =
    by_node 0 refl (then_token refl (then_token refl (then_name (then_pairs s.pairs (then_token refl
    (then_token refl (state_list_closes s.members (then_token refl closed_last))))))))

-- a name that isn't that of a skipped function, or is
plain_or_skipped : (text : List ℕ) → (has (other_name ∷ machine_type ∷ []) (name_kind text) ≡ true) ⊎ (has (functional_name ∷ []) (name_kind text) ≡ true)
plain_or_skipped text =
    cond_both (bytes_eq text (codes "MachineType")) machine_type
    (cond (bytes_eq text (codes "functionalRead") || bytes_eq text (codes "functionalWrite")) functional_name other_name)
    (λ kind. (has (other_name ∷ machine_type ∷ []) kind ≡ true) ⊎ (has (functional_name ∷ []) kind ≡ true)) (λ is. inl refl)
    (λ is. cond_both (bytes_eq text (codes "functionalRead") || bytes_eq text (codes "functionalWrite")) functional_name other_name
    (λ kind. (has (other_name ∷ machine_type ∷ []) kind ≡ true) ⊎ (has (functional_name ∷ []) kind ≡ true)) (λ f. inr refl) (λ f. inl refl))

-- what stands behind the name of a skipped function
abbrev skipped_parts : Skipped → Parts
skipped_parts s =
    sign_parts OpenParenthesis (balanced s.arguments (sign_parts CloseParenthesis (pairs_parts s.pairs
    (sign_parts OpenBrace (balanced s.body (sign_parts CloseBrace none))))))

skipped_end : {row : Place} {rows : Behind} (s : Skipped) → Closes row rows none → Closes (λ R S. of Form.functional_end (row R S)) rows (skipped_parts s)
skipped_end s c =
    then_alternative Form.functional_end 1 refl (then_token refl (then_balanced s.arguments (then_token refl (then_pairs s.pairs
    (then_token refl (then_balanced s.body (then_token refl (then_on c))))))))

-- members of a structure
field_end : (n : Name) (p : Pairs) → Closes (λ R S. of Form.member_end (at close done)) (λ R S. next R S) (name_parts n (pairs_parts p (sign_parts Semicolon none)))
field_end n p =
    elim (plain_or_skipped n.text) [
      | inl is ↦ then_alternative Form.member_end 0 refl (then_name_of is (then_absent (then_pairs p (then_token refl (then_on closed_last)))))
      | inr is ↦ then_alternative Form.member_end 1 refl (then_name_of is (then_alternative Form.functional_end 0 refl (then_pairs p (then_token refl (then_on (then_on closed_last))))))
    ]

member_forms : (m : Member) → Forms Form.member (member m)
member_forms (Field kind field attributes span) = by_node 0 refl (then_type (field_end field attributes))
member_forms (Method kind method parameters attributes span) =
    by_node 0 refl (where_allowed (not (is_skipped method)) (λ is. then_type (then_alternative Form.member_end 0 refl
    (then_name_of (plain_name_is_one method (not-true (is_skipped method) is))
    (then_present (then_formals parameters (then_on (then_pairs attributes (then_token refl (then_on closed_last))))))))))
member_forms (SkippedMember s) =
    by_node 0 refl (where_allowed (is_skipped s.name) (λ is. then_type (then_alternative Form.member_end 1 refl
    (then_name_of (skipped_is_one s.name.text is) (skipped_end s (then_on closed_last))))))

abbrev one_member : Row Step
one_member = of Form.member done

members_close : {row : Place} {rows : Behind} {parts : Parts} (ms : List Member) → Closes row rows parts → Closes (λ R S. many one_member (row R S)) rows (member_list ms parts)
members_close [] c = then_enough c
members_close (first ∷ others) c = then_again (then_form (member_forms first) (then_on (members_close others c)))

structure_forms : (s : Structure) → Forms Form.structure (structure s)
structure_forms s =
    by_node 0 refl (then_token refl (then_token refl (then_name (then_pairs s.pairs (then_token refl
    (then_token refl (members_close s.members (then_token refl closed_last))))))))

-- ports and actions
then_port_head : {row : Place} {rows : Behind} {parts : Parts} (n : Name) (t : TypeName) (b : Name) (p : Pairs) → Closes row rows parts → Closes (λ R S. port_head (row R S)) rows (sign_parts OpenParenthesis (name_parts n (sign_parts Comma (type_name t (sign_parts Comma (name_parts b (pairs_parts p (sign_parts CloseParenthesis parts))))))))
then_port_head n t b p c =
    then_token refl (then_name (then_token refl (then_type (then_token refl (then_name (then_pairs p (then_token refl c)))))))

out_port_forms : (p : OutPort) → Forms Form.out_port (out_port p)
out_port_forms p = by_node 0 refl (then_token refl (then_port_head p.name p.message p.buffer p.pairs (then_token refl closed_last)))

in_port_forms : (p : InPort) → Forms Form.in_port (in_port p)
in_port_forms p = by_node 0 refl (then_token refl (then_port_head p.name p.message p.buffer p.pairs (then_form (whole_block_forms p.body) closed_last)))

action_forms : (a : Action) → Forms Form.action (action a)
action_forms a =
    by_node 0 refl (then_token refl (then_token refl (then_name (then_pairs a.pairs (then_token refl (then_form (whole_block_forms a.body) closed_last))))))

-- transitions
abbrev one_name : Row Step
one_name = (comma ▸ name) done

more_names_close : {row : Place} {rows : Behind} {parts : Parts} (ns : List Name) → Closes row rows parts → Closes (λ R S. many one_name (row R S)) rows (more_names ns parts)
more_names_close [] c = then_enough c
more_names_close (first ∷ others) c = then_again (then_token refl (then_name (then_on (more_names_close others c))))

several_close : (ns : List Name) → Closes (λ R S. (sign OpenBrace ▸ name ▸ repeated (comma ▸ name) ▸ sign CloseBrace ▸ at close) done) (λ R S. next R S) (provided (not (length ns == 0)) (sign_parts OpenBrace (name_list ns (sign_parts CloseBrace none))))
several_close [] = where_allowed false (λ is. absurd (false≢true is))
several_close (first ∷ others) = where_allowed (not (length (first ∷ others) == 0)) (λ is. then_token refl (then_name (more_names_close others (then_token refl closed_last))))

then_names : {row : Place} {rows : Behind} {parts : Parts} (ns : Names) → Closes row rows parts → Closes (λ R S. of Form.names (row R S)) rows (names ns parts)
then_names (One n) c = then_alternative Form.names 0 refl (then_name (then_on c))
then_names (Several ns span) c = then_form (by_node 1 refl (several_close ns)) c

-- the attributes of a transition, the first of which stands where a next state could
end_of_list : (ps : List Pair) → Closes (λ R S. more_pairs done) (λ R S. next done (next (at close R) S)) (pair_list ps)
end_of_list ps = then_pair_list ps (then_on (then_on closed))

then_no_next : {row : Place} {rows : Behind} {parts : Parts} (span : Span) (ps : List Pair) → Closes row rows parts → Closes (λ R S. at begin (optional (comma ▸ of Form.transition_end) (at close (row R S)))) rows (part (node span (pair_list ps)) parts)
then_no_next span [] c = then_node (then_absent closed) c
then_no_next span (Bare text within ∷ others) c =
    then_node (then_present (then_token refl (then_alternative Form.transition_end 1 refl (then_node (then_token refl closed) (then_pair_list others (then_on (then_on closed))))))) c
then_no_next {row = row} {rows = rows} {parts = parts} span (Named key v within ∷ others) c =
    record {
      makes = λ allowed R S rest s to m.
          let both = and_parts (are_allowed (pair_list (Named key v within ∷ others))) (are_allowed parts) allowed in
          let inner = and_parts (is_allowed (pair (Named key v within))) (are_allowed (pair_list others)) both.0 in
          marked (present (one refl (alternative 0 _ refl (any_name key.text (marked (present (marked (one refl
          ((value_closes v).makes inner.0 (more_pairs done) (next done (next (at close (row R S)) (rows R S))) (spelled_in (pair_list others) (spelled_in parts rest)) _ to
          ((end_of_list others).makes inner.1 (row R S) (rows R S) (spelled_in parts rest) _ to
          (c.makes both.1 R S rest _ to m)))))))))));
    }

then_next : {row : Place} {rows : Behind} {parts : Parts} (n : Option NextState) (p : Pairs) → Closes row rows parts → Closes (λ R S. at begin (optional (comma ▸ of Form.transition_end) (at close (row R S)))) rows (next_parts n (pairs_parts p parts))
then_next None p c = then_no_next p.span p.items c
then_next {row = row} {rows = rows} {parts = parts} (Some (NamedState n)) p c =
    record {
      makes = λ allowed R S rest s to m.
          let both = and_parts (are_allowed (pair_list p.items)) (are_allowed parts) allowed in
          marked (present (one refl (alternative 0 _ refl (any_name n.text (marked (absent
          ((end_of_list p.items).makes both.0 (row R S) (rows R S) (spelled_in parts rest) _ to
          (c.makes both.1 R S rest _ to m))))))));
    }
then_next {row = row} {rows = rows} {parts = parts} (Some (Asked span)) p c =
    record {
      makes = λ allowed R S rest s to m.
          let both = and_parts (are_allowed (pair_list p.items)) (are_allowed parts) allowed in
          marked (present (one refl (alternative 2 _ refl (marked (one refl (marked (marked
          ((end_of_list p.items).makes both.0 (row R S) (rows R S) (spelled_in parts rest) _ to
          (c.makes both.1 R S rest _ to m)))))))));
    }

abbrev one_action : Row Step
one_action = (name ▸ semicolon) done

actions_close : {row : Place} {rows : Behind} {parts : Parts} (ns : List Name) → Closes row rows parts → Closes (λ R S. many one_action (row R S)) rows (action_list ns parts)
actions_close [] c = then_enough c
actions_close (first ∷ others) c = then_again (then_name (then_token refl (then_on (actions_close others c))))

transition_forms : (t : Transition) → Forms Form.transition (transition t)
transition_forms t =
    by_node 0 refl (then_token refl (then_token refl (then_names t.states (then_token refl (then_names t.events (then_next t.next t.pairs
    (then_token refl (then_token refl (actions_close t.actions (then_token refl closed_last))))))))))

-- functions and objects
body_closes : {row : Place} {rows : Behind} (body : Option Block) → Closes row rows none → Closes (λ R S. of Form.body (row R S)) rows (function_body body)
body_closes None c = then_alternative Form.body 1 refl (then_token refl (then_on c))
body_closes (Some b) c = then_alternative Form.body 0 refl (then_form (whole_block_forms b) (then_on c))

function_forms : (f : Function) → Forms Form.declaration (function f)
function_forms (Plain kind called parameters attributes body span) =
    by_node 7 refl (where_allowed (not (is_skipped called)) (λ is. then_type (then_alternative Form.declaration_end 1 refl
    (then_name_of (plain_name_is_one called (not-true (is_skipped called) is))
    (then_alternative Form.named_end 1 refl (then_formals parameters (then_pairs attributes (body_closes body (then_on (then_on closed_last))))))))))
function_forms (SkippedFunction s) =
    by_node 7 refl (where_allowed (is_skipped s.name) (λ is. then_type (then_alternative Form.declaration_end 2 refl
    (then_name_of (skipped_is_one s.name.text is) (skipped_end s (then_on closed_last))))))

object_end : (starred : Bool) (n : Name) (p : Pairs) → Closes (λ R S. of Form.declaration_end (at close done)) (λ R S. next R S) (star starred (name_parts n (pairs_parts p (sign_parts Semicolon none))))
object_end true n p = then_alternative Form.declaration_end 0 refl (then_token refl (then_name (then_pairs p (then_token refl (then_on closed_last)))))
object_end false n p =
    elim (plain_or_skipped n.text) [
      | inl is ↦ then_alternative Form.declaration_end 1 refl (then_name_of is (then_alternative Form.named_end 0 refl (then_pairs p (then_token refl (then_on (then_on closed_last))))))
      | inr is ↦ then_alternative Form.declaration_end 2 refl (then_name_of is (then_alternative Form.functional_end 0 refl (then_pairs p (then_token refl (then_on (then_on closed_last))))))
    ]

object_forms : (o : Object) → Forms Form.declaration (object o)
object_forms o = by_node 7 refl (then_type (object_end o.has_star o.name o.pairs))

decl_forms : (d : Decl) → Forms Form.declaration (decl d)
decl_forms (StatesDecl s) = by_form 0 refl (states_forms s)
decl_forms (EnumerationDecl e) = by_form 1 refl (enumeration_forms e)
decl_forms (StructureDecl s) = by_form 2 refl (structure_forms s)
decl_forms (OutPortDecl p) = by_form 3 refl (out_port_forms p)
decl_forms (InPortDecl p) = by_form 4 refl (in_port_forms p)
decl_forms (ActionDecl a) = by_form 5 refl (action_forms a)
decl_forms (TransitionDecl t) = by_form 6 refl (transition_forms t)
decl_forms (FunctionDecl f) = function_forms f
decl_forms (ObjectDecl o) = object_forms o

abbrev one_declaration : Row Step
one_declaration = of Form.declaration done

decls_close : {row : Place} {rows : Behind} {parts : Parts} (ds : List Decl) → Closes row rows parts → Closes (λ R S. many one_declaration (row R S)) rows (decl_list ds parts)
decls_close [] c = then_enough c
decls_close (first ∷ others) c = then_again (then_form (decl_forms first) (then_on (decls_close others c)))

-- machines
then_literal : {row : Place} {rows : Behind} {parts : Parts} (l : Option Literal) → Closes row rows parts → Closes (λ R S. optional (assign ▸ of Form.literal) (row R S)) rows (literal_parts l parts)
then_literal None c = then_absent c
then_literal (Some l) c = then_present (then_token refl (then_form (literal_forms l) (then_on c)))

parameter_forms : (p : Parameter) → Forms Form.parameter (parameter p)
parameter_forms p =
    by_node 0 refl (then_type (then_star p.has_star (then_name (then_literal p.literal (then_pairs p.pairs (then_token refl closed_last))))))

abbrev one_parameter : Row Step
one_parameter = of Form.parameter done

parameters_close : {row : Place} {rows : Behind} {parts : Parts} (ps : List Parameter) → Closes row rows parts → Closes (λ R S. many one_parameter (row R S)) rows (parameter_list ps parts)
parameters_close [] c = then_enough c
parameters_close (first ∷ others) c = then_again (then_form (parameter_forms first) (then_on (parameters_close others c)))

type_or_other : (text : List ℕ) → (has (machine_type ∷ []) (name_kind text) ≡ true) ⊎ (has (other_name ∷ functional_name ∷ []) (name_kind text) ≡ true)
type_or_other text =
    cond_both (bytes_eq text (codes "MachineType")) machine_type
    (cond (bytes_eq text (codes "functionalRead") || bytes_eq text (codes "functionalWrite")) functional_name other_name)
    (λ kind. (has (machine_type ∷ []) kind ≡ true) ⊎ (has (other_name ∷ functional_name ∷ []) kind ≡ true)) (λ is. inl refl)
    (λ is. cond_both (bytes_eq text (codes "functionalRead") || bytes_eq text (codes "functionalWrite")) functional_name other_name
    (λ kind. (has (machine_type ∷ []) kind ≡ true) ⊎ (has (other_name ∷ functional_name ∷ []) kind ≡ true)) (λ f. inr refl) (λ f. inr refl))

then_machine_name : {row : Place} {rows : Behind} {parts : Parts} (typed : Bool) (n : Name) → Closes row rows parts → Closes (λ R S. of Form.machine_name (row R S)) rows (type_parts typed (name_parts n parts))
then_machine_name true n c =
    record {
      makes = λ allowed R S rest s to m.
          alternative 0 _ refl (a_name (codes "MachineType") refl (present (marked (one refl (any_name n.text (on (on (c.makes allowed R S rest _ to m))))))));
    }
then_machine_name false n c =
    elim (type_or_other n.text) [
      | inl is ↦ then_alternative Form.machine_name 0 refl (then_name_of is (then_absent (then_on c)))
      | inr is ↦ then_alternative Form.machine_name 1 refl (then_name_of is (then_on c))
    ]

machine_forms : (m : Machine) → Forms Form.machine (machine m)
machine_forms m =
    by_node 0 refl (then_token refl (then_token refl (then_machine_name m.has_type m.name (then_token refl (then_token refl (then_pairs m.pairs
    (then_token refl (then_token refl (parameters_close m.parameters (then_token refl (decls_close m.declarations (then_token refl closed_last))))))))))))

-- files
item_forms : (i : Item) → Forms Form.item (item i)
item_forms (Include text span) = by_node 0 refl (then_token refl (then_token refl (then_token refl closed_last)))
item_forms (EnumerationItem e) = by_form 1 refl (enumeration_forms e)
item_forms (StructureItem s) = by_form 2 refl (structure_forms s)
item_forms (MachineItem m) = by_form 3 refl (machine_forms m)

abbrev one_item : Row Step
one_item = of Form.item done

items_close : (is : List Item) → Closes (λ R S. many one_item (at close R)) (λ R S. S) (item_list is)
items_close [] = then_enough closed
items_close (first ∷ others) = then_again (then_form (item_forms first) (then_on (items_close others)))

abbrev protocol : Row Step → Row Step
protocol = optional (word Protocol ▸ string ▸ semicolon)

then_protocol : {row : Place} {rows : Behind} {parts : Parts} (n : Option (List ℕ)) → Closes row rows parts → Closes (λ R S. protocol (row R S)) rows (protocol_parts n parts)
then_protocol None c = then_absent c
then_protocol (Some n) c = then_present (then_token refl (then_token refl (then_token refl (then_on c))))

tree_closes : (n : Option (List ℕ)) (is : List Item) → Closes (λ R S. protocol (of Form.item (many one_item (at close R)))) (λ R S. S) (provided (not (length is == 0)) (protocol_parts n (item_list is)))
tree_closes n [] = where_allowed false (λ is. absurd (false≢true is))
tree_closes n (first ∷ others) = where_allowed (not (length (first ∷ others) == 0)) (λ is. then_protocol n (then_form (item_forms first) (items_close others)))

-- so of a file's tokens, with the end token, one outline is made
pub tree_makes : (t : Tree) → is_allowed (tree t) ≡ true → Makes (of Form.file done) end (spelled_in (tree_parts t) (End ∷ [])) start (with_token End (with_part (shape_of (tree t)) start))
tree_makes t allowed =
    alternative 0 _ refl (marked ((tree_closes t.protocol t.items).makes allowed (Row.token (end_of_text ∷ []) done) (next done end) (End ∷ []) (opened start) _ (one refl (on ended))))
