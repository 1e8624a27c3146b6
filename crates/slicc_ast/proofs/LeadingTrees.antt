-- What a declaration's, a machine's and a file's tree spells, before what stands behind it.
use Rattle.std.proofs.Common.{◌≡◌, ℕ, ◌==◌, Bool, true, false, not, ◌||◌, List, [], ◌∷◌, ◌++◌, length, Option, Some, None, refl, sym, subst, inl, inr, codes}
use Rattle.std.specs.Str.{bytes_eq}
use Rattle.std.proofs.lemmas.Bool.{and_parts, not-true, false≢true, or_cases, or_right}
use Rattle.std.proofs.lemmas.Slice.Eq.{bytes_eq-Decides}
use Rattle.slicc_ast.specs.declared.tree.token.Sign.TheVariants.{OpenBrace, OpenParenthesis, CloseParenthesis, Comma, Colon, Star}
use Rattle.slicc_ast.specs.declared.tree.token.Word.TheVariants.{Protocol}
use Rattle.slicc_ast.specs.declared.tree.declaration.Pair.{Pair}
use Rattle.slicc_ast.specs.declared.tree.name.Name.{Name}
use Rattle.slicc_ast.specs.declared.tree.declaration.Enumeration.{Enumeration}
use Rattle.slicc_ast.specs.declared.tree.declaration.Function.{Function}
use Rattle.slicc_ast.specs.declared.tree.declaration.Function.TheVariants.{Plain, Skipped as SkippedFunction}
use Rattle.slicc_ast.specs.declared.tree.declaration.Member.{Member}
use Rattle.slicc_ast.specs.declared.tree.declaration.Member.TheVariants.{Field, Method, Skipped as SkippedMember}
use Rattle.slicc_ast.specs.declared.tree.declaration.Skipped.{Skipped}
use Rattle.slicc_ast.specs.declared.tree.declaration.State.{State}
use Rattle.slicc_ast.specs.declared.tree.declaration.States.{States}
use Rattle.slicc_ast.specs.declared.tree.declaration.Structure.{Structure}
use Rattle.slicc_ast.specs.declared.tree.declaration.Symbol.{Symbol}
use Rattle.slicc_ast.specs.declared.tree.item.Item.{Item}
use Rattle.slicc_ast.specs.declared.tree.item.Item.TheVariants.{Include, Enumeration as EnumerationItem, Structure as StructureItem, Machine as MachineItem}
use Rattle.slicc_ast.specs.declared.tree.item.Tree.{Tree}
use Rattle.slicc_ast.specs.declared.tree.machine.Action.{Action}
use Rattle.slicc_ast.specs.declared.tree.machine.Decl.{Decl}
use Rattle.slicc_ast.specs.declared.tree.machine.Decl.TheVariants.{States as StatesDecl, Enumeration as EnumerationDecl, Structure as StructureDecl, OutPort as OutPortDecl, InPort as InPortDecl, Action as ActionDecl, Transition as TransitionDecl, Function as FunctionDecl, Object as ObjectDecl}
use Rattle.slicc_ast.specs.declared.tree.machine.InPort.{InPort}
use Rattle.slicc_ast.specs.declared.tree.machine.Literal.{Literal}
use Rattle.slicc_ast.specs.declared.tree.machine.Literal.TheVariants.{Number, Minus, Quoted, True, False}
use Rattle.slicc_ast.specs.declared.tree.machine.Machine.{Machine}
use Rattle.slicc_ast.specs.declared.tree.machine.Names.{Names}
use Rattle.slicc_ast.specs.declared.tree.machine.Names.TheVariants.{One, Several}
use Rattle.slicc_ast.specs.declared.tree.machine.NextState.{NextState}
use Rattle.slicc_ast.specs.declared.tree.machine.NextState.TheVariants.{Named as NamedState, Asked}
use Rattle.slicc_ast.specs.declared.tree.machine.Object.{Object}
use Rattle.slicc_ast.specs.declared.tree.machine.OutPort.{OutPort}
use Rattle.slicc_ast.specs.declared.tree.machine.Parameter.{Parameter}
use Rattle.slicc_ast.specs.declared.tree.machine.Transition.{Transition}
use Rattle.slicc_ast.specs.declared.tree.statement.Block.{Block}
use Rattle.slicc_ast.specs.Prelude.{Parts, none, provided, is_allowed, are_allowed, balanced_list, pair_list, formal_list, is_skipped, skipped, symbol_list, state_list, member_list, stmt_list, block_end, more_names, name_list, next_parts, action_list, function_body, function, object, decl, literal_parts, parameter_list, decl_list, type_parts, item_list, protocol_parts, tree, has, Row, Rows, done, form, maybe, many, nested, end, up, Derives, Whole, ended, one, Form, name_kind, functional_name, end_of_text, sign_kind, spelling, of, ◌▸◌, comma, colon, semicolon, assign, string, machine_type_name, names_of, next_state, end_token, written}
use Rattle.slicc_ast.specs.Names.{sign}
use Rattle.slicc_ast.specs.Declarations.{enumeration, states, member, structure}
use Rattle.slicc_ast.specs.Machines.{out_port, in_port, action, names, transition, literal, parameter, machine}
use Rattle.slicc_ast.specs.Trees.{item}
use Rattle.slicc_ast.specs.declared.tree.token.Sign.TheVariants.{CloseBrace}
use Rattle.slicc_ast.specs.Matches.Matches.{absent, enough, inside, outside}
use Rattle.slicc_ast.proofs.Translating.{fold_to, to_present, to_again}
use Rattle.slicc_ast.specs.Parts.{word, name, pairs, balanced}
use Rattle.slicc_ast.proofs.Followed.{follow, follow_parts, follow-spelling}
use Rattle.slicc_ast.proofs.Leading.{name_is_one, close}
use Rattle.slicc_ast.proofs.LeadingParts.{Fits, close_brace, balanced_leads, pairs_lead, star_leads, formals_lead, plain_name_is_one}
use Rattle.slicc_ast.proofs.LeadingStatements.{whole_block_leads}

same_bytes : (xs ys : List ℕ) → bytes_eq xs ys ≡ true → xs ≡ ys
same_bytes xs ys same = (bytes_eq-Decides xs ys).0 same

pub skipped_is_one : (text : List ℕ) → bytes_eq text (codes "functionalRead") || bytes_eq text (codes "functionalWrite") ≡ true → has (functional_name ∷ []) (name_kind text) ≡ true
skipped_is_one text is =
    elim (or_cases (bytes_eq text (codes "functionalRead")) (bytes_eq text (codes "functionalWrite")) is) [
      | inl reads ↦ subst (λ t. has (functional_name ∷ []) (name_kind t) ≡ true) (sym (same_bytes text (codes "functionalRead") reads)) refl
      | inr writes ↦ subst (λ t. has (functional_name ∷ []) (name_kind t) ≡ true) (sym (same_bytes text (codes "functionalWrite") writes)) refl
    ]

abbrev one_symbol : Row Form
one_symbol = (name ▸ pairs ▸ semicolon) done

symbols_lead : (ss : List Symbol) (parts : Parts) (r : Row Form) (S : Rows Form) (rest : List ℕ) (o : ℕ) → Fits r S (follow_parts parts rest) o → Fits (many one_symbol r) S (follow_parts (symbol_list ss parts) rest) o
symbols_lead [] parts r S rest o m = enough m
symbols_lead (first ∷ others) parts r S rest o m =
    to_again written one_symbol r Whole _ o (one (name_is_one first.name.text)
    (pairs_lead first.pairs.items (semicolon (many one_symbol r)) S _ o (one refl (symbols_lead others parts r S rest o m))))

enumeration_leads : (e : Enumeration) (r : Row Form) (S : Rows Form) (rest : List ℕ) (o : ℕ) → Fits r S rest o → Fits (form Form.enumeration r) S (follow (enumeration e) rest) o
enumeration_leads e r S rest o m =
    fold_to written Form.enumeration 0 refl Whole _ o (one refl (inside refl (one (name_is_one e.name.text)
    (pairs_lead e.pairs.items close (up (nested (sign_kind OpenBrace ∷ []) (many one_symbol close_brace) r) S) _ o (one refl (outside
    (inside refl (symbols_lead e.members (sign CloseBrace none) close_brace (up r S) rest o (one refl (outside m))))))))))

abbrev one_state : Row Form
one_state = (name ▸ comma ▸ name ▸ colon ▸ name ▸ pairs ▸ semicolon) done

state_list_leads : (ss : List State) (parts : Parts) (r : Row Form) (S : Rows Form) (rest : List ℕ) (o : ℕ) → Fits r S (follow_parts parts rest) o → Fits (many one_state r) S (follow_parts (state_list ss parts) rest) o
state_list_leads [] parts r S rest o m = enough m
state_list_leads (first ∷ others) parts r S rest o m =
    to_again written one_state r Whole _ o (one (name_is_one first.name.text) (one refl (one (name_is_one first.owner.text) (one refl (one (name_is_one first.permission.text)
    (pairs_lead first.pairs.items (semicolon (many one_state r)) S _ o (one refl (state_list_leads others parts r S rest o m))))))))

states_lead : (s : States) (r : Row Form) (S : Rows Form) (rest : List ℕ) (o : ℕ) → Fits r S rest o → Fits (form Form.states r) S (follow (states s) rest) o
states_lead s r S rest o m =
    fold_to written Form.states 0 refl Whole _ o (one refl (inside refl (one (name_is_one s.name.text)
    (pairs_lead s.pairs.items close (up (nested (sign_kind OpenBrace ∷ []) (many one_state close_brace) r) S) _ o (one refl (outside
    (inside refl (state_list_leads s.members (sign CloseBrace none) close_brace (up r S) rest o (one refl (outside m))))))))))

-- the parts of a skipped function behind its name
skipped_end : (s : Skipped) → is_allowed (skipped s) ≡ true → (r : Row Form) (S : Rows Form) (rest : List ℕ) (o : ℕ) → Fits r S rest o → Fits ((name ▸ Row.token (functional_name ∷ []) ▸ nested (sign_kind OpenParenthesis ∷ []) (balanced close) ▸ pairs ▸ nested (sign_kind OpenBrace ∷ []) (balanced close_brace)) r) S (follow (skipped s) rest) o
skipped_end s allowed r S rest o m =
    let is = and_parts (is_skipped s.name) _ allowed in
    let first = and_parts (are_allowed (balanced_list s.arguments.parts)) _ is.1 in
    let second = and_parts (are_allowed (pair_list s.pairs.items)) _ first.1 in
    let last = and_parts (are_allowed (balanced_list s.body.parts)) true second.1 in
    one (name_is_one s.kind.text) (one (skipped_is_one s.name.text is.0) (inside refl
    (balanced_leads s.arguments.parts first.0 close (up ((pairs ▸ nested (sign_kind OpenBrace ∷ []) (balanced close_brace)) r) S) _ o (one refl (outside
    (pairs_lead s.pairs.items (nested (sign_kind OpenBrace ∷ []) (balanced close_brace) r) S _ o
    (inside refl (balanced_leads s.body.parts last.0 close_brace (up r S) _ o (one refl (outside m))))))))))

member_leads : (e : Member) → is_allowed (member e) ≡ true → (r : Row Form) (S : Rows Form) (rest : List ℕ) (o : ℕ) → Fits r S rest o → Fits (form Form.member r) S (follow (member e) rest) o
member_leads (Field kind field attributes span) allowed r S rest o m =
    fold_to written Form.member 0 refl Whole _ o (one (name_is_one kind.text) (one (name_is_one field.text)
    (pairs_lead attributes.items (semicolon r) S _ o (one refl m))))
member_leads (Method kind method parameters attributes span) allowed r S rest o m =
    let is = and_parts (not (is_skipped method)) _ allowed in
    fold_to written Form.member 1 refl Whole _ o (one (name_is_one kind.text) (one (plain_name_is_one method (not-true (is_skipped method) is.0)) (inside refl
    (formals_lead parameters.items close (up ((pairs ▸ semicolon) r) S) _ o (one refl (outside
    (pairs_lead attributes.items (semicolon r) S _ o (one refl m))))))))
member_leads (SkippedMember s) allowed r S rest o m = fold_to written Form.member 2 refl Whole _ o (skipped_end s allowed r S rest o m)

abbrev one_member : Row Form
one_member = form Form.member done

members_lead : (ms : List Member) (parts : Parts) → are_allowed (member_list ms parts) ≡ true → (r : Row Form) (S : Rows Form) (rest : List ℕ) (o : ℕ) → Fits r S (follow_parts parts rest) o → Fits (many one_member r) S (follow_parts (member_list ms parts) rest) o
members_lead [] parts allowed r S rest o m = enough m
members_lead (first ∷ others) parts allowed r S rest o m =
    let both = and_parts (is_allowed (member first)) (are_allowed (member_list others parts)) allowed in
    to_again written one_member r Whole _ o (member_leads first both.0 (many one_member r) S _ o (members_lead others parts both.1 r S rest o m))

structure_leads : (s : Structure) → is_allowed (structure s) ≡ true → (r : Row Form) (S : Rows Form) (rest : List ℕ) (o : ℕ) → Fits r S rest o → Fits (form Form.structure r) S (follow (structure s) rest) o
structure_leads s allowed r S rest o m =
    let both = and_parts (are_allowed (pair_list s.pairs.items)) (are_allowed (member_list s.members (sign CloseBrace none))) allowed in
    fold_to written Form.structure 0 refl Whole _ o (one refl (inside refl (one (name_is_one s.name.text)
    (pairs_lead s.pairs.items close (up (nested (sign_kind OpenBrace ∷ []) (many one_member close_brace) r) S) _ o (one refl (outside
    (inside refl (members_lead s.members (sign CloseBrace none) both.1 close_brace (up r S) rest o (one refl (outside m))))))))))

port_head : (first type buffer : List ℕ) (items : List Pair) (behind : Row Form) (S : Rows Form) (rest : List ℕ) (o : ℕ) → Fits behind S rest o → Fits (nested (sign_kind OpenParenthesis ∷ []) ((name ▸ comma ▸ name ▸ comma ▸ name ▸ pairs) close) behind) S (sign_kind OpenParenthesis ∷ name_kind first ∷ sign_kind Comma ∷ name_kind type ∷ sign_kind Comma ∷ name_kind buffer ∷ follow_parts (pair_list items) (sign_kind CloseParenthesis ∷ rest)) o
port_head first type buffer items behind S rest o m =
    inside refl (one (name_is_one first) (one refl (one (name_is_one type) (one refl (one (name_is_one buffer)
    (pairs_lead items close (up behind S) _ o (one refl (outside m))))))))

out_port_leads : (p : OutPort) (r : Row Form) (S : Rows Form) (rest : List ℕ) (o : ℕ) → Fits r S rest o → Fits (form Form.out_port r) S (follow (out_port p) rest) o
out_port_leads p r S rest o m =
    fold_to written Form.out_port 0 refl Whole _ o (one refl (port_head p.name.text p.message.text p.buffer.text p.pairs.items (semicolon r) S _ o (one refl m)))

in_port_leads : (p : InPort) → is_allowed (in_port p) ≡ true → (r : Row Form) (S : Rows Form) (rest : List ℕ) (o : ℕ) → Fits r S rest o → Fits (form Form.in_port r) S (follow (in_port p) rest) o
in_port_leads p allowed r S rest o m =
    let both = and_parts (are_allowed (pair_list p.pairs.items)) _ allowed in
    let fine = and_parts (are_allowed (stmt_list p.body.statements block_end)) true both.1 in
    fold_to written Form.in_port 0 refl Whole _ o (one refl (port_head p.name.text p.message.text p.buffer.text p.pairs.items (form Form.block r) S _ o
    (whole_block_leads p.body fine.0 r S rest o m)))

action_leads : (a : Action) → is_allowed (action a) ≡ true → (r : Row Form) (S : Rows Form) (rest : List ℕ) (o : ℕ) → Fits r S rest o → Fits (form Form.action r) S (follow (action a) rest) o
action_leads a allowed r S rest o m =
    let both = and_parts (are_allowed (pair_list a.pairs.items)) _ allowed in
    let fine = and_parts (are_allowed (stmt_list a.body.statements block_end)) true both.1 in
    fold_to written Form.action 0 refl Whole _ o (one refl (inside refl (one (name_is_one a.name.text)
    (pairs_lead a.pairs.items close (up (form Form.block r) S) _ o (one refl (outside (whole_block_leads a.body fine.0 r S rest o m)))))))

abbrev one_name : Row Form
one_name = (comma ▸ name) done

more_names_lead : (ns : List Name) (parts : Parts) (r : Row Form) (S : Rows Form) (rest : List ℕ) (o : ℕ) → Fits r S (follow_parts parts rest) o → Fits (many one_name r) S (follow_parts (more_names ns parts) rest) o
more_names_lead [] parts r S rest o m = enough m
more_names_lead (first ∷ others) parts r S rest o m =
    to_again written one_name r Whole _ o (one refl (one (name_is_one first.text) (more_names_lead others parts r S rest o m)))

several_lead : (ns : List Name) → not (length ns == 0) ≡ true → (r : Row Form) (S : Rows Form) (rest : List ℕ) (o : ℕ) → Fits r S rest o → Fits (form Form.names r) S (sign_kind OpenBrace ∷ follow_parts (name_list ns (sign CloseBrace none)) rest) o
several_lead [] some r S rest o m = absurd (false≢true some)
several_lead (first ∷ others) some r S rest o m =
    fold_to written Form.names 1 refl Whole _ o (inside refl (one (name_is_one first.text)
    (more_names_lead others (sign CloseBrace none) close_brace (up r S) rest o (one refl (outside m)))))

names_lead : (ns : Names) (parts : Parts) → are_allowed (names ns parts) ≡ true → (r : Row Form) (S : Rows Form) (rest : List ℕ) (o : ℕ) → (are_allowed parts ≡ true → Fits r S (follow_parts parts rest) o) → Fits (form Form.names r) S (follow_parts (names ns parts) rest) o
names_lead (One n) parts allowed r S rest o m = fold_to written Form.names 0 refl Whole _ o (one (name_is_one n.text) (m allowed))
names_lead (Several ns span) parts allowed r S rest o m =
    let both = and_parts (are_allowed (provided (not (length ns == 0)) (sign OpenBrace (name_list ns (sign CloseBrace none))))) (are_allowed parts) allowed in
    let some = and_parts (not (length ns == 0)) _ both.0 in
    several_lead ns some.0 r S _ o (m both.1)

abbrev one_next : Row Form
one_next = (comma ▸ next_state) done

next_leads : (n : Option NextState) (parts : Parts) (r : Row Form) (S : Rows Form) (rest : List ℕ) (o : ℕ) → Fits r S (follow_parts parts rest) o → Fits (maybe one_next r) S (follow_parts (next_parts n parts) rest) o
next_leads None parts r S rest o m = absent m
next_leads (Some (NamedState n)) parts r S rest o m =
    to_present written one_next r Whole _ o (one refl (one (or_right (sign_kind Star == name_kind n.text) (has names_of (name_kind n.text)) (name_is_one n.text)) m))
next_leads (Some (Asked span)) parts r S rest o m = to_present written one_next r Whole _ o (one refl (one refl m))

abbrev one_action : Row Form
one_action = (name ▸ semicolon) done

actions_lead : (ns : List Name) (parts : Parts) (r : Row Form) (S : Rows Form) (rest : List ℕ) (o : ℕ) → Fits r S (follow_parts parts rest) o → Fits (many one_action r) S (follow_parts (action_list ns parts) rest) o
actions_lead [] parts r S rest o m = enough m
actions_lead (first ∷ others) parts r S rest o m =
    to_again written one_action r Whole _ o (one (name_is_one first.text) (one refl (actions_lead others parts r S rest o m)))

transition_leads : (t : Transition) → is_allowed (transition t) ≡ true → (r : Row Form) (S : Rows Form) (rest : List ℕ) (o : ℕ) → Fits r S rest o → Fits (form Form.transition r) S (follow (transition t) rest) o
transition_leads t allowed r S rest o m =
    let braced : Row Form = nested (sign_kind OpenBrace ∷ []) (many one_action close_brace) r in
    let closing : Fits close (up braced S) (sign_kind CloseParenthesis ∷ sign_kind OpenBrace ∷ follow_parts (action_list t.actions (sign CloseBrace none)) rest) o =
    one refl (outside (inside refl (actions_lead t.actions (sign CloseBrace none) close_brace (up r S) rest o (one refl (outside m))))) in
    fold_to written Form.transition 0 refl Whole _ o (one refl (inside refl
    (names_lead t.states _ allowed _ (up braced S) rest o (λ later. one refl
    (names_lead t.events _ later _ (up braced S) rest o (λ last.
    next_leads t.next _ (pairs close) (up braced S) rest o
    (pairs_lead t.pairs.items close (up braced S) _ o closing)))))))

body_leads : (b : Option Block) → are_allowed (function_body b) ≡ true → (r : Row Form) (S : Rows Form) (rest : List ℕ) (o : ℕ) → Fits r S rest o → Fits (form Form.body r) S (follow_parts (function_body b) rest) o
body_leads None allowed r S rest o m = fold_to written Form.body 1 refl Whole _ o (one refl m)
body_leads (Some b) allowed r S rest o m =
    let fine = and_parts (are_allowed (stmt_list b.statements block_end)) true allowed in
    fold_to written Form.body 0 refl Whole _ o (whole_block_leads b fine.0 r S rest o m)

function_leads : (f : Function) → is_allowed (function f) ≡ true → (r : Row Form) (S : Rows Form) (rest : List ℕ) (o : ℕ) → Fits r S rest o → Fits (form Form.declaration r) S (follow (function f) rest) o
function_leads (Plain kind called parameters attributes b span) allowed r S rest o m =
    let is = and_parts (not (is_skipped called)) _ allowed in
    let first = and_parts (are_allowed (formal_list parameters.items)) _ is.1 in
    let second = and_parts (are_allowed (pair_list attributes.items)) _ first.1 in
    fold_to written Form.declaration 7 refl Whole _ o (one (name_is_one kind.text) (one (plain_name_is_one called (not-true (is_skipped called) is.0)) (inside refl
    (formals_lead parameters.items close (up (pairs (form Form.body r)) S) _ o (one refl (outside
    (pairs_lead attributes.items (form Form.body r) S _ o (body_leads b second.1 r S rest o m))))))))
function_leads (SkippedFunction s) allowed r S rest o m = fold_to written Form.declaration 8 refl Whole _ o (skipped_end s allowed r S rest o m)

object_leads : (b : Object) (r : Row Form) (S : Rows Form) (rest : List ℕ) (o : ℕ) → Fits r S rest o → Fits (form Form.declaration r) S (follow (object b) rest) o
object_leads b r S rest o m =
    fold_to written Form.declaration 9 refl Whole _ o (one (name_is_one b.kind.text)
    (star_leads b.has_star _ ((name ▸ pairs ▸ semicolon) r) S rest o (one (name_is_one b.name.text)
    (pairs_lead b.pairs.items (semicolon r) S _ o (one refl m)))))

decl_leads : (d : Decl) → is_allowed (decl d) ≡ true → (r : Row Form) (S : Rows Form) (rest : List ℕ) (o : ℕ) → Fits r S rest o → Fits (form Form.declaration r) S (follow (decl d) rest) o
decl_leads (StatesDecl s) allowed r S rest o m = fold_to written Form.declaration 0 refl Whole _ o (states_lead s r S rest o m)
decl_leads (EnumerationDecl e) allowed r S rest o m = fold_to written Form.declaration 1 refl Whole _ o (enumeration_leads e r S rest o m)
decl_leads (StructureDecl s) allowed r S rest o m = fold_to written Form.declaration 2 refl Whole _ o (structure_leads s allowed r S rest o m)
decl_leads (OutPortDecl p) allowed r S rest o m = fold_to written Form.declaration 3 refl Whole _ o (out_port_leads p r S rest o m)
decl_leads (InPortDecl p) allowed r S rest o m = fold_to written Form.declaration 4 refl Whole _ o (in_port_leads p allowed r S rest o m)
decl_leads (ActionDecl a) allowed r S rest o m = fold_to written Form.declaration 5 refl Whole _ o (action_leads a allowed r S rest o m)
decl_leads (TransitionDecl t) allowed r S rest o m = fold_to written Form.declaration 6 refl Whole _ o (transition_leads t allowed r S rest o m)
decl_leads (FunctionDecl f) allowed r S rest o m = function_leads f allowed r S rest o m
decl_leads (ObjectDecl b) allowed r S rest o m = object_leads b r S rest o m

abbrev one_decl : Row Form
one_decl = form Form.declaration done

decls_lead : (ds : List Decl) (parts : Parts) → are_allowed (decl_list ds parts) ≡ true → (r : Row Form) (S : Rows Form) (rest : List ℕ) (o : ℕ) → Fits r S (follow_parts parts rest) o → Fits (many one_decl r) S (follow_parts (decl_list ds parts) rest) o
decls_lead [] parts allowed r S rest o m = enough m
decls_lead (first ∷ others) parts allowed r S rest o m =
    let both = and_parts (is_allowed (decl first)) (are_allowed (decl_list others parts)) allowed in
    to_again written one_decl r Whole _ o (decl_leads first both.0 (many one_decl r) S _ o (decls_lead others parts both.1 r S rest o m))

literal_leads : (l : Literal) (r : Row Form) (S : Rows Form) (rest : List ℕ) (o : ℕ) → Fits r S rest o → Fits (form Form.literal r) S (follow (literal l) rest) o
literal_leads (Number n span) r S rest o m = fold_to written Form.literal 0 refl Whole _ o (one refl m)
literal_leads (Minus n span) r S rest o m = fold_to written Form.literal 1 refl Whole _ o (one refl (one refl m))
literal_leads (Quoted text span) r S rest o m = fold_to written Form.literal 2 refl Whole _ o (one refl m)
literal_leads (True span) r S rest o m = fold_to written Form.literal 3 refl Whole _ o (one refl m)
literal_leads (False span) r S rest o m = fold_to written Form.literal 4 refl Whole _ o (one refl m)

abbrev given : Row Form
given = (assign ▸ of Form.literal) done

given_leads : (l : Option Literal) (parts : Parts) (r : Row Form) (S : Rows Form) (rest : List ℕ) (o : ℕ) → Fits r S (follow_parts parts rest) o → Fits (maybe given r) S (follow_parts (literal_parts l parts) rest) o
given_leads None parts r S rest o m = absent m
given_leads (Some l) parts r S rest o m = to_present written given r Whole _ o (one refl (literal_leads l r S _ o m))

parameter_leads : (p : Parameter) (r : Row Form) (S : Rows Form) (rest : List ℕ) (o : ℕ) → Fits r S rest o → Fits (form Form.parameter r) S (follow (parameter p) rest) o
parameter_leads p r S rest o m =
    fold_to written Form.parameter 0 refl Whole _ o (one (name_is_one p.kind.text)
    (star_leads p.has_star _ ((name ▸ maybe given ▸ pairs ▸ semicolon) r) S rest o (one (name_is_one p.name.text)
    (given_leads p.literal _ ((pairs ▸ semicolon) r) S rest o (pairs_lead p.pairs.items (semicolon r) S _ o (one refl m))))))

abbrev one_parameter : Row Form
one_parameter = form Form.parameter done

parameters_lead : (ps : List Parameter) (parts : Parts) → (r : Row Form) (S : Rows Form) (rest : List ℕ) (o : ℕ) → Fits r S (follow_parts parts rest) o → Fits (many one_parameter r) S (follow_parts (parameter_list ps parts) rest) o
parameters_lead [] parts r S rest o m = enough m
parameters_lead (first ∷ others) parts r S rest o m =
    to_again written one_parameter r Whole _ o (parameter_leads first (many one_parameter r) S _ o (parameters_lead others parts r S rest o m))

parameters_allowed : (ps : List Parameter) (parts : Parts) → are_allowed (parameter_list ps parts) ≡ true → are_allowed parts ≡ true
parameters_allowed [] parts allowed = allowed
parameters_allowed (first ∷ others) parts allowed =
    parameters_allowed others parts (and_parts (is_allowed (parameter first)) (are_allowed (parameter_list others parts)) allowed).1

abbrev machine_type_part : Row Form
machine_type_part = (machine_type_name ▸ colon) done

type_leads : (b : Bool) (parts : Parts) (r : Row Form) (S : Rows Form) (rest : List ℕ) (o : ℕ) → Fits r S (follow_parts parts rest) o → Fits (maybe machine_type_part r) S (follow_parts (type_parts b parts) rest) o
type_leads true parts r S rest o m = to_present written machine_type_part r Whole _ o (one refl (one refl m))
type_leads false parts r S rest o m = absent m

type_allowed : (b : Bool) (parts : Parts) → are_allowed (type_parts b parts) ≡ true → are_allowed parts ≡ true
type_allowed true parts allowed = allowed
type_allowed false parts allowed = allowed

machine_leads : (a : Machine) → is_allowed (machine a) ≡ true → (r : Row Form) (S : Rows Form) (rest : List ℕ) (o : ℕ) → Fits r S rest o → Fits (form Form.machine r) S (follow (machine a) rest) o
machine_leads a allowed r S rest o m =
    let named = type_allowed a.has_type _ allowed in
    let headed = and_parts (are_allowed (pair_list a.pairs.items)) _ named in
    let declared = parameters_allowed a.parameters _ headed.1 in
    let braced : Row Form = nested (sign_kind OpenBrace ∷ []) (many one_decl close_brace) r in
    let behind : Row Form = Row.token (sign_kind Colon ∷ []) (many one_parameter braced) in
    fold_to written Form.machine 0 refl Whole _ o (one refl (inside refl
    (type_leads a.has_type _ ((name ▸ comma ▸ string ▸ pairs) close) (up behind S) rest o (one (name_is_one a.name.text) (one refl (one refl
    (pairs_lead a.pairs.items close (up behind S) _ o (one refl (outside (one refl
    (parameters_lead a.parameters _ braced S rest o
    (inside refl (decls_lead a.declarations (sign CloseBrace none) declared close_brace (up r S) rest o (one refl (outside m)))))))))))))))

item_leads : (i : Item) → is_allowed (item i) ≡ true → (r : Row Form) (S : Rows Form) (rest : List ℕ) (o : ℕ) → Fits r S rest o → Fits (form Form.item r) S (follow (item i) rest) o
item_leads (Include file span) allowed r S rest o m = fold_to written Form.item 0 refl Whole _ o (one refl (one refl (one refl m)))
item_leads (EnumerationItem e) allowed r S rest o m = fold_to written Form.item 1 refl Whole _ o (enumeration_leads e r S rest o m)
item_leads (StructureItem s) allowed r S rest o m = fold_to written Form.item 2 refl Whole _ o (structure_leads s allowed r S rest o m)
item_leads (MachineItem a) allowed r S rest o m = fold_to written Form.item 3 refl Whole _ o (machine_leads a allowed r S rest o m)

abbrev one_item : Row Form
one_item = form Form.item done

items_lead : (is : List Item) → are_allowed (item_list is) ≡ true → (r : Row Form) (S : Rows Form) (rest : List ℕ) (o : ℕ) → Fits r S rest o → Fits (many one_item r) S (follow_parts (item_list is) rest) o
items_lead [] allowed r S rest o m = enough m
items_lead (first ∷ others) allowed r S rest o m =
    let both = and_parts (is_allowed (item first)) (are_allowed (item_list others)) allowed in
    to_again written one_item r Whole _ o (item_leads first both.0 (many one_item r) S _ o (items_lead others both.1 r S rest o m))

some_items_lead : (is : List Item) → not (length is == 0) ≡ true → are_allowed (item_list is) ≡ true → (r : Row Form) (S : Rows Form) (rest : List ℕ) (o : ℕ) → Fits r S rest o → Fits (form Form.item (many one_item r)) S (follow_parts (item_list is) rest) o
some_items_lead [] some allowed r S rest o m = absurd (false≢true some)
some_items_lead (first ∷ others) some allowed r S rest o m =
    let both = and_parts (is_allowed (item first)) (are_allowed (item_list others)) allowed in
    item_leads first both.0 (many one_item r) S _ o (items_lead others both.1 r S rest o m)

abbrev protocol_part : Row Form
protocol_part = (word Protocol ▸ string ▸ semicolon) done

protocol_leads : (p : Option (List ℕ)) (parts : Parts) → are_allowed (protocol_parts p parts) ≡ true → (r : Row Form) (S : Rows Form) (rest : List ℕ) (o : ℕ) → (are_allowed parts ≡ true → Fits r S (follow_parts parts rest) o) → Fits (maybe protocol_part r) S (follow_parts (protocol_parts p parts) rest) o
protocol_leads None parts allowed r S rest o m = absent (m allowed)
protocol_leads (Some text) parts allowed r S rest o m = to_present written protocol_part r Whole _ o (one refl (one refl (one refl (m allowed))))

-- so what a file's tree spells, and then the end of the text, is a file of the written grammar
pub tree_derives : (t : Tree) → is_allowed (tree t) ≡ true → Derives written (form Form.file done) end (spelling (tree t) ++ end_of_text ∷ [])
tree_derives t allowed =
    let some = and_parts (not (length t.items == 0)) (are_allowed (protocol_parts t.protocol (item_list t.items))) allowed in
    let ends : Fits (end_token done) end (end_of_text ∷ []) 0 = one refl ended in
    let whole : Derives written (form Form.file done) end (follow (tree t) (end_of_text ∷ [])) =
    fold_to written Form.file 0 refl Whole _ 0 (protocol_leads t.protocol (item_list t.items) some.1 _ end (end_of_text ∷ []) 0
    (λ items. some_items_lead t.items some.0 items (end_token done) end (end_of_text ∷ []) 0 ends)) in
    subst (λ ts. Derives written (form Form.file done) end ts) (follow-spelling (tree t) (end_of_text ∷ [])) whole
