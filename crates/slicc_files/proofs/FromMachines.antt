-- Machines and their declarations from their outlines.
use Rattle.std.proofs.Common.{◌≡◌, ℕ, Bool, true, false, not, ◌&&◌, Option, Some, None, List, [], ◌∷◌, refl, ap, ◌∙◌}
use Rattle.std.proofs.Math.Path.{ap₂}
use Rattle.std.proofs.lemmas.Bool.{and_parts, not-true}
use Rattle.slicc_ast.specs.declared.tree.span.Span.{Span}
use Rattle.slicc_ast.specs.declared.tree.token.TokenKind.{TokenKind}
use Rattle.slicc_ast.specs.declared.tree.token.TokenKind.TheVariants.{Name as Named, Number, Quoted, Word, Sign, End}
use Rattle.slicc_ast.specs.declared.tree.token.Word.{Word as Reserved}
use Rattle.slicc_ast.specs.declared.tree.token.Word.TheVariants.{Enumeration as EnumerationWord, StateDeclaration, Structure as StructureWord, InPort as InPortWord, OutPort as OutPortWord, Action as ActionWord, Transition as TransitionWord, True as TrueWord}
use Rattle.slicc_ast.specs.declared.tree.token.Sign.TheVariants.{OpenBrace, CloseBrace, OpenParenthesis, CloseParenthesis, Comma, Colon}
use Rattle.slicc_ast.specs.declared.tree.name.Name.{Name}
use Rattle.slicc_ast.specs.declared.tree.name.TypeName.{TypeName}
use Rattle.slicc_ast.specs.declared.tree.statement.Block.{Block}
use Rattle.slicc_ast.specs.declared.tree.declaration.Pairs.{Pairs}
use Rattle.slicc_ast.specs.declared.tree.declaration.Formals.{Formals}
use Rattle.slicc_ast.specs.declared.tree.declaration.Skipped.{Skipped as SkippedRecord}
use Rattle.slicc_ast.specs.declared.tree.declaration.Enumeration.{Enumeration as EnumerationRecord}
use Rattle.slicc_ast.specs.declared.tree.declaration.States.{States as StatesRecord}
use Rattle.slicc_ast.specs.declared.tree.declaration.Structure.{Structure as StructureRecord}
use Rattle.slicc_ast.specs.declared.tree.declaration.Function.{Function}
use Rattle.slicc_ast.specs.declared.tree.declaration.Function.TheVariants.{Plain, Skipped}
use Rattle.slicc_ast.specs.declared.tree.machine.Machine.{Machine}
use Rattle.slicc_ast.specs.declared.tree.machine.Parameter.{Parameter}
use Rattle.slicc_ast.specs.declared.tree.machine.Literal.{Literal}
use Rattle.slicc_ast.specs.declared.tree.machine.Literal.TheVariants.{Number as NumberLiteral, Minus, Quoted as QuotedLiteral, True as TrueLiteral, False}
use Rattle.slicc_ast.specs.declared.tree.machine.Decl.{Decl}
use Rattle.slicc_ast.specs.declared.tree.machine.Decl.TheVariants.{States, Enumeration, Structure, OutPort as OutPortDecl, InPort as InPortDecl, Action as ActionDecl, Transition as TransitionDecl, Function as FunctionDecl, Object as ObjectDecl}
use Rattle.slicc_ast.specs.declared.tree.machine.OutPort.{OutPort}
use Rattle.slicc_ast.specs.declared.tree.machine.InPort.{InPort}
use Rattle.slicc_ast.specs.declared.tree.machine.Action.{Action}
use Rattle.slicc_ast.specs.declared.tree.machine.Transition.{Transition}
use Rattle.slicc_ast.specs.declared.tree.machine.Names.{Names}
use Rattle.slicc_ast.specs.declared.tree.machine.Names.TheVariants.{One, Several}
use Rattle.slicc_ast.specs.declared.tree.machine.NextState.{NextState}
use Rattle.slicc_ast.specs.declared.tree.machine.NextState.TheVariants.{Named as NamedState, Asked}
use Rattle.slicc_ast.specs.declared.tree.machine.Object.{Object}
use Rattle.slicc_ast.specs.Outline.{token}
use Rattle.slicc_ast.specs.Prelude.{Outline, node, Parts, none, part, provided, is_allowed, are_allowed, pair_list, is_skipped, skipped, block_outline, more_names, name_list, next_parts, action_list, function_body, function, object, decl, parameter_list, decl_list}
use Rattle.slicc_ast.specs.Names.{sign, name}
use Rattle.slicc_ast.specs.Declarations.{pairs}
use Rattle.slicc_ast.specs.Machines.{out_port, in_port, action, names, transition, literal, parameter, machine}
use Rattle.slicc_files.proofs.Bare.{bare, bare_in}
use Rattle.slicc_files.proofs.Places.{span_of, parts_of, nodes_in, nodes_of, is_token, beyond, past_token, first, others, second, third, fourth, fifth, text_in}
use Rattle.slicc_files.proofs.FromNames.{name_from, type_from}
use Rattle.slicc_files.proofs.FromDeclarations.{pairs_from, pairs_again, formals_from, formals_again, skipped_from, skipped_again, enumeration_from, enumeration_again, states_from, states_again, structure_from, structure_again}
use Rattle.slicc_files.proofs.FromStatements.{block_from, block_again}

-- ports and actions
abbrev out_port_from : Outline → OutPort
out_port_from o =
    let inner = nodes_of o in
    record {
      name = name_from (first inner);
      message = type_from (second inner);
      buffer = name_from (third inner);
      pairs = pairs_from (fourth inner);
      span = span_of o;
    }

out_port_again : (p : OutPort) → out_port_from (bare (out_port p)) ≡ p
out_port_again p = ap (λ (x : Pairs). record p { pairs = x }) (pairs_again p.pairs)

abbrev in_port_from : Outline → InPort
in_port_from o =
    let inner = nodes_of o in
    record {
      name = name_from (first inner);
      message = type_from (second inner);
      buffer = name_from (third inner);
      pairs = pairs_from (fourth inner);
      body = block_from (fifth inner);
      span = span_of o;
    }

in_port_again : (p : InPort) → is_allowed (in_port p) ≡ true → in_port_from (bare (in_port p)) ≡ p
in_port_again p allowed =
    let inner = and_parts _ _ allowed in
    ap₂ (λ (x : Pairs) (b : Block). record p { pairs = x; body = b }) (pairs_again p.pairs)
    (block_again p.body (and_parts (is_allowed (block_outline p.body)) true inner.1).0)

abbrev action_from : Outline → Action
action_from o =
    let inner = nodes_of o in
    record { name = name_from (first inner); pairs = pairs_from (second inner); body = block_from (third inner); span = span_of o }

action_again : (a : Action) → is_allowed (action a) ≡ true → action_from (bare (action a)) ≡ a
action_again a allowed =
    let inner = and_parts _ _ allowed in
    ap₂ (λ (x : Pairs) (b : Block). record a { pairs = x; body = b }) (pairs_again a.pairs)
    (block_again a.body (and_parts (is_allowed (block_outline a.body)) true inner.1).0)

-- names: a sign is the first token of several
abbrev names_in : List Outline → List Name
names_in [] = []
names_in (outline ∷ outlines) = name_from outline ∷ names_in outlines

more_names_again : (ns : List Name) → names_in (nodes_in (bare_in (more_names ns (sign CloseBrace none)))) ≡ ns
more_names_again [] = refl
more_names_again (n ∷ ns) = ap (λ (xs : List Name). n ∷ xs) (more_names_again ns)

name_list_again : (ns : List Name) → names_in (nodes_in (bare_in (name_list ns (sign CloseBrace none)))) ≡ ns
name_list_again [] = refl
name_list_again (n ∷ ns) = ap (λ (xs : List Name). n ∷ xs) (more_names_again ns)

action_list_again : (ns : List Name) → names_in (nodes_in (bare_in (action_list ns (sign CloseBrace none)))) ≡ ns
action_list_again [] = refl
action_list_again (n ∷ ns) = ap (λ (xs : List Name). n ∷ xs) (action_list_again ns)

abbrev is_sign : TokenKind → Bool
is_sign (Named text) = false
is_sign (Number n) = false
is_sign (Quoted text) = false
is_sign (Word reserved) = false
is_sign (Sign which) = true
is_sign End = false

abbrev begins_with_sign : Parts → Bool
begins_with_sign none = false
begins_with_sign (token kind parts) = is_sign kind
begins_with_sign (part outline parts) = false
begins_with_sign (provided condition parts) = false

abbrev names_by : Outline → Bool → Names
names_by o true = Several (names_in (nodes_of o)) (span_of o)
names_by o false = One (name_from o)

abbrev names_from : Outline → Names
names_from o = names_by o (begins_with_sign (parts_of o))

abbrev names_node : Names → Outline
names_node (One n) = node n.span (token (Named n.text) none)
names_node (Several ns span) = node span (token (Sign OpenBrace) (bare_in (name_list ns (sign CloseBrace none))))

names_are_one : (n : Names) (parts : Parts) → bare_in (names n parts) ≡ part (names_node n) (bare_in parts)
names_are_one (One n) parts = refl
names_are_one (Several ns span) parts = refl

names_again : (n : Names) → names_from (names_node n) ≡ n
names_again (One n) = refl
names_again (Several ns span) = ap (λ (xs : List Name). Several xs span) (name_list_again ns)

-- transitions
abbrev next_by : Outline → Bool → NextState
next_by o true = Asked (span_of o)
next_by o false = NamedState (name_from o)

abbrev next_from : Outline → NextState
next_from o = next_by o (begins_with_sign (parts_of o))

abbrev transition_by : Span → Names → Names → List Outline → Bool → Transition
transition_by span froms events outlines true =
    record { states = froms; events = events; next = Some (next_from (first outlines)); pairs = pairs_from (second outlines); actions = names_in (others (others outlines)); span = span }
transition_by span froms events outlines false =
    record { states = froms; events = events; next = None; pairs = pairs_from (first outlines); actions = names_in (others outlines); span = span }

abbrev transition_from : Outline → Transition
transition_from o =
    let outlines = nodes_of o in
    let behind = beyond (beyond (beyond (beyond (beyond (parts_of o))))) in
    transition_by (span_of o) (names_from (first outlines)) (names_from (second outlines)) (nodes_in behind) (is_token behind)

transition_again : (t : Transition) → transition_from (bare (transition t)) ≡ t
transition_again t =
    let behind = next_parts t.next (pairs t.pairs (sign CloseParenthesis (sign OpenBrace (action_list t.actions (sign CloseBrace none))))) in
    ap (λ parts. transition_from (node t.span (token (Word TransitionWord) (token (Sign OpenParenthesis) parts)))) (names_are_one t.states (sign Comma (names t.events behind)))
    ∙ ap (λ parts. transition_from (node t.span (token (Word TransitionWord) (token (Sign OpenParenthesis) (part (names_node t.states) (token (Sign Comma) parts)))))) (names_are_one t.events behind)
    ∙ ap₂ (λ (a b : Names). transition_by t.span a b (nodes_in (bare_in behind)) (is_token (bare_in behind))) (names_again t.states) (names_again t.events)
    ∙ at t.states t.events t.next t.pairs t.actions t.span
  where
    at : (froms events : Names) (next : Option NextState) (attributes : Pairs) (actions : List Name) (span : Span)
        → transition_by span froms events (nodes_in (bare_in (next_parts next (pairs attributes (sign CloseParenthesis (sign OpenBrace (action_list actions (sign CloseBrace none))))))))
        (is_token (bare_in (next_parts next (pairs attributes (sign CloseParenthesis (sign OpenBrace (action_list actions (sign CloseBrace none))))))))
        ≡ record { states = froms; events = events; next = next; pairs = attributes; actions = actions; span = span }
    at froms events None attributes actions span =
        ap₂ (λ (x : Pairs) (xs : List Name). record { states = froms; events = events; next = None; pairs = x; actions = xs; span = span }) (pairs_again attributes) (action_list_again actions)
    at froms events (Some (NamedState n)) attributes actions span =
        ap₂ (λ (x : Pairs) (xs : List Name). record { states = froms; events = events; next = Some (NamedState n); pairs = x; actions = xs; span = span }) (pairs_again attributes) (action_list_again actions)
    at froms events (Some (Asked place)) attributes actions span =
        ap₂ (λ (x : Pairs) (xs : List Name). record { states = froms; events = events; next = Some (Asked place); pairs = x; actions = xs; span = span }) (pairs_again attributes) (action_list_again actions)

-- functions: one that is skipped has one of two names
abbrev body_in : List Outline → Option Block
body_in [] = None
body_in (outline ∷ outlines) = Some (block_from outline)

abbrev function_by : Outline → Bool → Function
function_by o true = Skipped (skipped_from o)
function_by o false =
    let inner = nodes_of o in
    Plain (type_from (first inner)) (name_from (second inner)) (formals_from (third inner)) (pairs_from (fourth inner)) (body_in (others (others (others (others inner))))) (span_of o)

abbrev function_from : Outline → Function
function_from o = function_by o (is_skipped (name_from (second (nodes_of o))))

body_again : (body : Option Block) → are_allowed (function_body body) ≡ true → body_in (nodes_in (bare_in (function_body body))) ≡ body
body_again None allowed = refl
body_again (Some b) allowed = ap (λ (x : Block). Some x) (block_again b (and_parts (is_allowed (block_outline b)) true allowed).0)

function_again : (f : Function) → is_allowed (function f) ≡ true → function_from (bare (function f)) ≡ f
function_again (Plain kind called parameters attributes body span) allowed =
    let plain = and_parts (not (is_skipped called)) _ allowed in
    let inner = and_parts _ _ (and_parts _ _ plain.1).1 in
    ap (λ b. function_by (bare (function (Plain kind called parameters attributes body span))) b) (not-true (is_skipped called) plain.0)
    ∙ ap (λ (x : Formals). Plain kind called x (pairs_from (node attributes.span (bare_in (pair_list attributes.items)))) (body_in (nodes_in (bare_in (function_body body)))) span) (formals_again parameters)
    ∙ ap₂ (λ (x : Pairs) (y : Option Block). Plain kind called parameters x y span) (pairs_again attributes) (body_again body inner.1)
function_again (Skipped s) allowed =
    ap (λ b. function_by (bare (skipped s)) b) (and_parts (is_skipped s.name) _ allowed).0
    ∙ ap (λ (x : SkippedRecord). Skipped x) (skipped_again s)

-- objects
abbrev object_from : Outline → Object
object_from o =
    let inner = nodes_of o in
    record { kind = type_from (first inner); has_star = is_token (beyond (parts_of o)); name = name_from (second inner); pairs = pairs_from (third inner); span = span_of o }

object_again : (o : Object) → object_from (bare (object o)) ≡ o
object_again o = at o.kind o.has_star o.name o.pairs o.span
  where
    at : (kind : TypeName) (starred : Bool) (called : Name) (attributes : Pairs) (span : Span) → object_from (bare (object (record { kind = kind; has_star = starred; name = called; pairs = attributes; span = span }))) ≡ record { kind = kind; has_star = starred; name = called; pairs = attributes; span = span }
    at kind true called attributes span = ap (λ (x : Pairs). record { kind = kind; has_star = true; name = called; pairs = x; span = span }) (pairs_again attributes)
    at kind false called attributes span = ap (λ (x : Pairs). record { kind = kind; has_star = false; name = called; pairs = x; span = span }) (pairs_again attributes)

-- declarations, by their first word, and where they have none by what is behind the type and behind the name
abbrev decl_by_word : Outline → Reserved → Decl
decl_by_word o StateDeclaration = States (states_from o)
decl_by_word o EnumerationWord = Enumeration (enumeration_from o)
decl_by_word o StructureWord = Structure (structure_from o)
decl_by_word o OutPortWord = OutPortDecl (out_port_from o)
decl_by_word o InPortWord = InPortDecl (in_port_from o)
decl_by_word o ActionWord = ActionDecl (action_from o)
decl_by_word o TransitionWord = TransitionDecl (transition_from o)
decl_by_word o _ = ObjectDecl (object_from o)

abbrev decl_by_token : Outline → TokenKind → Decl
decl_by_token o (Named text) = ObjectDecl (object_from o)
decl_by_token o (Number n) = ObjectDecl (object_from o)
decl_by_token o (Quoted text) = ObjectDecl (object_from o)
decl_by_token o (Word reserved) = decl_by_word o reserved
decl_by_token o (Sign which) = ObjectDecl (object_from o)
decl_by_token o End = ObjectDecl (object_from o)

abbrev decl_by_type : Outline → Bool → Bool → Decl
decl_by_type o true b = ObjectDecl (object_from o)
decl_by_type o false true = FunctionDecl (function_from o)
decl_by_type o false false = ObjectDecl (object_from o)

abbrev decl_by_parts : Outline → Parts → Decl
decl_by_parts o none = ObjectDecl (object_from o)
decl_by_parts o (token kind parts) = decl_by_token o kind
decl_by_parts o (part outline parts) = decl_by_type o (is_token parts) (is_token (beyond parts))
decl_by_parts o (provided condition parts) = ObjectDecl (object_from o)

abbrev decl_from : Outline → Decl
decl_from o = decl_by_parts o (parts_of o)

an_object : (o : Object) → decl_from (bare (object o)) ≡ ObjectDecl (object_from (bare (object o)))
an_object o = at o.kind o.has_star o.name o.pairs o.span
  where
    at : (kind : TypeName) (starred : Bool) (called : Name) (attributes : Pairs) (span : Span) → decl_from (bare (object (record { kind = kind; has_star = starred; name = called; pairs = attributes; span = span }))) ≡ ObjectDecl (object_from (bare (object (record { kind = kind; has_star = starred; name = called; pairs = attributes; span = span }))))
    at kind true called attributes span = refl
    at kind false called attributes span = refl

a_function : (f : Function) → decl_from (bare (function f)) ≡ FunctionDecl (function_from (bare (function f)))
a_function (Plain kind called parameters attributes body span) = refl
a_function (Skipped s) = refl

decl_again : (d : Decl) → is_allowed (decl d) ≡ true → decl_from (bare (decl d)) ≡ d
decl_again (States s) allowed = ap (λ (x : StatesRecord). States x) (states_again s)
decl_again (Enumeration e) allowed = ap (λ (x : EnumerationRecord). Enumeration x) (enumeration_again e)
decl_again (Structure s) allowed = ap (λ (x : StructureRecord). Structure x) (structure_again s allowed)
decl_again (OutPortDecl p) allowed = ap (λ (x : OutPort). OutPortDecl x) (out_port_again p)
decl_again (InPortDecl p) allowed = ap (λ (x : InPort). InPortDecl x) (in_port_again p allowed)
decl_again (ActionDecl a) allowed = ap (λ (x : Action). ActionDecl x) (action_again a allowed)
decl_again (TransitionDecl t) allowed = ap (λ (x : Transition). TransitionDecl x) (transition_again t)
decl_again (FunctionDecl f) allowed = a_function f ∙ ap (λ (x : Function). FunctionDecl x) (function_again f allowed)
decl_again (ObjectDecl o) allowed = an_object o ∙ ap (λ (x : Object). ObjectDecl x) (object_again o)

abbrev decls_from : List Outline → List Decl
decls_from [] = []
decls_from (outline ∷ outlines) = decl_from outline ∷ decls_from outlines

decls_again : (ds : List Decl) → are_allowed (decl_list ds (sign CloseBrace none)) ≡ true → decls_from (nodes_in (bare_in (decl_list ds (sign CloseBrace none)))) ≡ ds
decls_again [] allowed = refl
decls_again (d ∷ ds) allowed =
    let inner = and_parts (is_allowed (decl d)) (are_allowed (decl_list ds (sign CloseBrace none))) allowed in
    ap₂ (λ (x : Decl) (xs : List Decl). x ∷ xs) (decl_again d inner.0) (decls_again ds inner.1)

-- literals
abbrev minus_by : Span → TokenKind → Literal
minus_by span (Named text) = False span
minus_by span (Number n) = Minus n span
minus_by span (Quoted text) = False span
minus_by span (Word reserved) = False span
minus_by span (Sign which) = False span
minus_by span End = False span

abbrev minus_in : Span → Parts → Literal
minus_in span none = False span
minus_in span (token kind parts) = minus_by span kind
minus_in span (part outline parts) = False span
minus_in span (provided condition parts) = False span

abbrev truth : Span → Reserved → Literal
truth span TrueWord = TrueLiteral span
truth span _ = False span

abbrev literal_by : Span → Parts → TokenKind → Literal
literal_by span parts (Named text) = False span
literal_by span parts (Number n) = NumberLiteral n span
literal_by span parts (Quoted text) = QuotedLiteral text span
literal_by span parts (Word reserved) = truth span reserved
literal_by span parts (Sign which) = minus_in span parts
literal_by span parts End = False span

abbrev literal_in : Span → Parts → Literal
literal_in span none = False span
literal_in span (token kind parts) = literal_by span parts kind
literal_in span (part outline parts) = False span
literal_in span (provided condition parts) = False span

abbrev literal_from : Outline → Literal
literal_from o = literal_in (span_of o) (parts_of o)

literal_again : (l : Literal) → literal_from (bare (literal l)) ≡ l
literal_again (NumberLiteral n span) = refl
literal_again (Minus n span) = refl
literal_again (QuotedLiteral text span) = refl
literal_again (TrueLiteral span) = refl
literal_again (False span) = refl

-- parameters
abbrev parameter_by : Span → TypeName → Bool → Name → List Outline → Bool → Parameter
parameter_by span kind starred called outlines true =
    record { kind = kind; has_star = starred; name = called; literal = Some (literal_from (first outlines)); pairs = pairs_from (second outlines); span = span }
parameter_by span kind starred called outlines false =
    record { kind = kind; has_star = starred; name = called; literal = None; pairs = pairs_from (first outlines); span = span }

abbrev parameter_from : Outline → Parameter
parameter_from o =
    let outlines = nodes_of o in
    let starred = beyond (parts_of o) in
    let behind = beyond (past_token starred) in
    parameter_by (span_of o) (type_from (first outlines)) (is_token starred) (name_from (second outlines)) (nodes_in behind) (is_token behind)

parameter_again : (p : Parameter) → parameter_from (bare (parameter p)) ≡ p
parameter_again p = at p.kind p.has_star p.name p.literal p.pairs p.span
  where
    at : (kind : TypeName) (starred : Bool) (called : Name) (given : Option Literal) (attributes : Pairs) (span : Span) → parameter_from (bare (parameter (record { kind = kind; has_star = starred; name = called; literal = given; pairs = attributes; span = span }))) ≡ record { kind = kind; has_star = starred; name = called; literal = given; pairs = attributes; span = span }
    at kind true called None attributes span = ap (λ (x : Pairs). record { kind = kind; has_star = true; name = called; literal = None; pairs = x; span = span }) (pairs_again attributes)
    at kind false called None attributes span = ap (λ (x : Pairs). record { kind = kind; has_star = false; name = called; literal = None; pairs = x; span = span }) (pairs_again attributes)
    at kind true called (Some l) attributes span =
        ap₂ (λ (l : Literal) (x : Pairs). record { kind = kind; has_star = true; name = called; literal = Some l; pairs = x; span = span }) (literal_again l) (pairs_again attributes)
    at kind false called (Some l) attributes span =
        ap₂ (λ (l : Literal) (x : Pairs). record { kind = kind; has_star = false; name = called; literal = Some l; pairs = x; span = span }) (literal_again l) (pairs_again attributes)

-- parameters end at a token
abbrev parameters_in : Parts → List Parameter
parameters_in none = []
parameters_in (token kind parts) = []
parameters_in (part outline parts) = parameter_from outline ∷ parameters_in parts
parameters_in (provided condition parts) = []

abbrev behind_parameters : Parts → Parts
behind_parameters none = none
behind_parameters (token kind parts) = parts
behind_parameters (part outline parts) = behind_parameters parts
behind_parameters (provided condition parts) = parts

parameters_again : (ps : List Parameter) (parts : Parts) → parameters_in (bare_in (parameter_list ps (sign OpenBrace parts))) ≡ ps
parameters_again [] parts = refl
parameters_again (p ∷ ps) parts = ap₂ (λ (x : Parameter) (xs : List Parameter). x ∷ xs) (parameter_again p) (parameters_again ps parts)

then_behind : (ps : List Parameter) (parts : Parts) → behind_parameters (bare_in (parameter_list ps (sign OpenBrace parts))) ≡ bare_in parts
then_behind [] parts = refl
then_behind (p ∷ ps) parts = then_behind ps parts

allowed_behind : (ps : List Parameter) (parts : Parts) → are_allowed (parameter_list ps parts) ≡ true → are_allowed parts ≡ true
allowed_behind [] parts allowed = allowed
allowed_behind (p ∷ ps) parts allowed = allowed_behind ps parts (and_parts (is_allowed (parameter p)) (are_allowed (parameter_list ps parts)) allowed).1

-- machines, from the parts that their name begins
abbrev machine_by : Span → Bool → Parts → Machine
machine_by span typed parts =
    let inside = beyond (beyond (beyond (beyond (beyond (beyond parts))))) in
    record {
      has_type = typed;
      name = name_from (first (nodes_in parts));
      title = text_in (beyond (beyond parts));
      pairs = pairs_from (second (nodes_in parts));
      parameters = parameters_in inside;
      declarations = decls_from (nodes_in (behind_parameters inside));
      span = span;
    }

abbrev machine_with : Span → Parts → Bool → Machine
machine_with span parts true = machine_by span true (beyond (beyond parts))
machine_with span parts false = machine_by span false parts

abbrev pub machine_from : Outline → Machine
machine_from o =
    let parts = beyond (beyond (parts_of o)) in
    machine_with (span_of o) parts (is_token parts)

pub machine_again : (m : Machine) → is_allowed (machine m) ≡ true → machine_from (bare (machine m)) ≡ m
machine_again m allowed = at m.has_type m.name m.title m.pairs m.parameters m.declarations m.span allowed
  where
    inner : (attributes : Pairs) (ps : List Parameter) (ds : List Decl) → are_allowed (pair_list attributes.items) && are_allowed (parameter_list ps (sign OpenBrace (decl_list ds (sign CloseBrace none)))) ≡ true → are_allowed (decl_list ds (sign CloseBrace none)) ≡ true
    inner attributes ps ds allowed = allowed_behind ps (sign OpenBrace (decl_list ds (sign CloseBrace none))) (and_parts (are_allowed (pair_list attributes.items)) (are_allowed (parameter_list ps (sign OpenBrace (decl_list ds (sign CloseBrace none))))) allowed).1

    whole : (typed : Bool) (called : Name) (title : List ℕ) (attributes : Pairs) (ps : List Parameter) (ds : List Decl) (span : Span) → are_allowed (decl_list ds (sign CloseBrace none)) ≡ true
        → machine_by span typed (bare_in (name called (sign Comma (token (Quoted title) (pairs attributes (sign CloseParenthesis (sign Colon (parameter_list ps (sign OpenBrace (decl_list ds (sign CloseBrace none)))))))))))
        ≡ record { has_type = typed; name = called; title = title; pairs = attributes; parameters = ps; declarations = ds; span = span }
    whole typed called title attributes ps ds span allowed =
        ap (λ (x : Pairs). record { has_type = typed; name = called; title = title; pairs = x; parameters = parameters_in (bare_in (parameter_list ps (sign OpenBrace (decl_list ds (sign CloseBrace none))))); declarations = decls_from (nodes_in (behind_parameters (bare_in (parameter_list ps (sign OpenBrace (decl_list ds (sign CloseBrace none))))))); span = span }) (pairs_again attributes)
        ∙ ap₂ (λ (xs : List Parameter) (ys : List Decl). record { has_type = typed; name = called; title = title; pairs = attributes; parameters = xs; declarations = ys; span = span })
        (parameters_again ps (decl_list ds (sign CloseBrace none)))
        (ap (λ parts. decls_from (nodes_in parts)) (then_behind ps (decl_list ds (sign CloseBrace none))) ∙ decls_again ds allowed)

    at : (typed : Bool) (called : Name) (title : List ℕ) (attributes : Pairs) (ps : List Parameter) (ds : List Decl) (span : Span)
        → is_allowed (machine (record { has_type = typed; name = called; title = title; pairs = attributes; parameters = ps; declarations = ds; span = span })) ≡ true
        → machine_from (bare (machine (record { has_type = typed; name = called; title = title; pairs = attributes; parameters = ps; declarations = ds; span = span })))
        ≡ record { has_type = typed; name = called; title = title; pairs = attributes; parameters = ps; declarations = ds; span = span }
    at true called title attributes ps ds span allowed = whole true called title attributes ps ds span (inner attributes ps ds allowed)
    at false called title attributes ps ds span allowed = whole false called title attributes ps ds span (inner attributes ps ds allowed)
