-- The spans in lists of declarations and of their parts are those of the items, one after another.
use Rattle.std.proofs.Common.{◌≡◌, Bool, true, false, Option, Some, None, List, [], ◌∷◌, ◌++◌, refl, sym, ap, ◌∙◌, append_assoc, append-nil}
use Rattle.std.specs.List.{flat_map}
use Rattle.slicc_ast.proofs.SpansOfLists.{added_both}
use Rattle.slicc_ast.specs.declared.tree.balanced.Part.{Part, Token, Parentheses', Brackets', Braces', Row_of-Part, end_of-Part, more_of-Part, items-the_row-Part}
use Rattle.slicc_ast.specs.declared.tree.declaration.Formal.{Formal}
use Rattle.slicc_ast.specs.declared.tree.declaration.Member.{Member}
use Rattle.slicc_ast.specs.declared.tree.declaration.Pair.{Pair}
use Rattle.slicc_ast.specs.declared.tree.declaration.State.{State}
use Rattle.slicc_ast.specs.declared.tree.declaration.Symbol.{Symbol}
use Rattle.slicc_ast.specs.declared.tree.item.Item.{Item}
use Rattle.slicc_ast.specs.declared.tree.machine.Decl.{Decl}
use Rattle.slicc_ast.specs.declared.tree.machine.Literal.{Literal}
use Rattle.slicc_ast.specs.declared.tree.machine.Parameter.{Parameter}
use Rattle.slicc_ast.specs.declared.tree.name.Name.{Name}
use Rattle.slicc_ast.specs.declared.tree.machine.Names.{Names}
use Rattle.slicc_ast.specs.declared.tree.machine.Names.TheVariants.{One, Several}
use Rattle.slicc_ast.specs.declared.tree.machine.NextState.{NextState}
use Rattle.slicc_ast.specs.declared.tree.machine.NextState.TheVariants.{Named as NamedState, Asked}
use Rattle.slicc_ast.specs.declared.tree.token.Sign.TheVariants.{CloseBrace}
use Rattle.slicc_ast.specs.declared.tree.span.Span.{Span}
use Rattle.slicc_ast.specs.Prelude.{Parts, none, spans_of, spans_in, symbol_spans, state_spans, balanced_row, balanced_list, pair_list, more_formals, formal_list, symbol_list, state_list, member_list, literal_parts, parameter_list, decl, decl_list, more_names, name_list, action_list, next_parts, type_parts, item_list}
use Rattle.slicc_ast.specs.Names.{sign, star, balanced_part}
use Rattle.slicc_ast.specs.Declarations.{pair, formal, member}
use Rattle.slicc_ast.specs.Machines.{literal, parameter, names}
use Rattle.slicc_ast.specs.Trees.{item}

pub pair_list_spans : (ps : List Pair) → spans_in (pair_list ps) ≡ flat_map (λ p. spans_of (pair p)) ps
pair_list_spans [] = refl
pair_list_spans (first ∷ others) = ap (λ spans. spans_of (pair first) ++ spans) (pair_list_spans others)

more_formals_spans : (fs : List Formal) → spans_in (more_formals fs) ≡ flat_map (λ f. spans_of (formal f)) fs
more_formals_spans [] = refl
more_formals_spans (first ∷ others) = ap (λ spans. spans_of (formal first) ++ spans) (more_formals_spans others)

pub formal_list_spans : (fs : List Formal) → spans_in (formal_list fs) ≡ flat_map (λ f. spans_of (formal f)) fs
formal_list_spans [] = refl
formal_list_spans (first ∷ others) = ap (λ spans. spans_of (formal first) ++ spans) (more_formals_spans others)

pub symbol_list_spans : (ss : List Symbol) (parts : Parts) → spans_in (symbol_list ss parts) ≡ flat_map symbol_spans ss ++ spans_in parts
symbol_list_spans [] parts = refl
symbol_list_spans (first ∷ others) parts =
    ap (λ spans. first.name.span ∷ first.pairs.span ∷ spans_in (pair_list first.pairs.items) ++ spans) (symbol_list_spans others parts)
    ∙ sym (append_assoc (symbol_spans first) (flat_map symbol_spans others) (spans_in parts))

pub state_list_spans : (ss : List State) (parts : Parts) → spans_in (state_list ss parts) ≡ flat_map state_spans ss ++ spans_in parts
state_list_spans [] parts = refl
state_list_spans (first ∷ others) parts =
    ap (λ spans. state_spans first ++ spans) (state_list_spans others parts)
    ∙ sym (append_assoc (state_spans first) (flat_map state_spans others) (spans_in parts))

pub member_list_spans : (ms : List Member) (parts : Parts) → spans_in (member_list ms parts) ≡ flat_map (λ m. spans_of (member m)) ms ++ spans_in parts
member_list_spans [] parts = refl
member_list_spans (first ∷ others) parts =
    ap (λ spans. spans_of (member first) ++ spans) (member_list_spans others parts)
    ∙ sym (append_assoc (spans_of (member first)) (flat_map (λ m. spans_of (member m)) others) (spans_in parts))

pub parameter_list_spans : (ps : List Parameter) (parts : Parts) → spans_in (parameter_list ps parts) ≡ flat_map (λ p. spans_of (parameter p)) ps ++ spans_in parts
parameter_list_spans [] parts = refl
parameter_list_spans (first ∷ others) parts =
    ap (λ spans. spans_of (parameter first) ++ spans) (parameter_list_spans others parts)
    ∙ sym (append_assoc (spans_of (parameter first)) (flat_map (λ p. spans_of (parameter p)) others) (spans_in parts))

pub decl_list_spans : (ds : List Decl) (parts : Parts) → spans_in (decl_list ds parts) ≡ flat_map (λ d. spans_of (decl d)) ds ++ spans_in parts
decl_list_spans [] parts = refl
decl_list_spans (first ∷ others) parts =
    ap (λ spans. spans_of (decl first) ++ spans) (decl_list_spans others parts)
    ∙ sym (append_assoc (spans_of (decl first)) (flat_map (λ d. spans_of (decl d)) others) (spans_in parts))

pub item_list_spans : (is : List Item) → spans_in (item_list is) ≡ flat_map (λ i. spans_of (item i)) is
item_list_spans [] = refl
item_list_spans (first ∷ others) = ap (λ spans. spans_of (item first) ++ spans) (item_list_spans others)

more_names_spans : (ns : List Name) (parts : Parts) → spans_in (more_names ns parts) ≡ flat_map (λ (n : Name). n.span ∷ []) ns ++ spans_in parts
more_names_spans [] parts = refl
more_names_spans (first ∷ others) parts = ap (λ spans. first.span ∷ spans) (more_names_spans others parts)

pub name_list_spans : (ns : List Name) (parts : Parts) → spans_in (name_list ns parts) ≡ flat_map (λ (n : Name). n.span ∷ []) ns ++ spans_in parts
name_list_spans [] parts = refl
name_list_spans (first ∷ others) parts = ap (λ spans. first.span ∷ spans) (more_names_spans others parts)

pub action_list_spans : (ns : List Name) (parts : Parts) → spans_in (action_list ns parts) ≡ flat_map (λ (n : Name). n.span ∷ []) ns ++ spans_in parts
action_list_spans [] parts = refl
action_list_spans (first ∷ others) parts = ap (λ spans. first.span ∷ spans) (action_list_spans others parts)

-- balanced parts
abbrev pub part_spans : Part → List Span
part_spans p = spans_in (balanced_part p none)

balanced_part_spans : (p : Part) (parts : Parts) → spans_in (balanced_part p parts) ≡ part_spans p ++ spans_in parts
balanced_part_spans (Token kind) parts = refl
balanced_part_spans (Parentheses' shape row span) parts = ap (λ xs. xs ++ spans_in parts) (sym (append-nil (span ∷ spans_in (balanced_row row))))
balanced_part_spans (Brackets' shape row span) parts = ap (λ xs. xs ++ spans_in parts) (sym (append-nil (span ∷ spans_in (balanced_row row))))
balanced_part_spans (Braces' shape row span) parts = ap (λ xs. xs ++ spans_in parts) (sym (append-nil (span ∷ spans_in (balanced_row row))))

pub balanced_list_spans : (ps : List Part) → spans_in (balanced_list ps) ≡ flat_map part_spans ps
balanced_list_spans [] = refl
balanced_list_spans (first ∷ others) = balanced_part_spans first (balanced_list others) ∙ ap (λ xs. part_spans first ++ xs) (balanced_list_spans others)

pub balanced_row_spans : (n : _) (row : Row_of-Part n) → spans_in (balanced_row row) ≡ spans_in (balanced_list (items-the_row-Part n row))
balanced_row_spans n end_of-Part = refl
balanced_row_spans n (more_of-Part first row) =
    balanced_part_spans first (balanced_row row) ∙ ap (λ xs. part_spans first ++ xs) (balanced_row_spans _ row)
    ∙ sym (balanced_part_spans first (balanced_list (items-the_row-Part _ row)))

-- parts behind others
pub names_behind : (n : Names) (parts : Parts) → spans_in (names n parts) ≡ spans_in (names n none) ++ spans_in parts
names_behind (One n) parts = refl
names_behind (Several ns span) parts = ap (λ xs. xs ++ spans_in parts) (sym (append-nil (span ∷ spans_in (name_list ns (sign CloseBrace none)))))

pub next_behind : (n : Option NextState) (parts : Parts) → spans_in (next_parts n parts) ≡ spans_in (next_parts n none) ++ spans_in parts
next_behind None parts = refl
next_behind (Some (NamedState n)) parts = refl
next_behind (Some (Asked span)) parts = refl

pub star_spans : (b : Bool) (parts : Parts) → spans_in (star b parts) ≡ spans_in parts
star_spans true parts = refl
star_spans false parts = refl

pub literal_behind : (l : Option Literal) (parts : Parts) → spans_in (literal_parts l parts) ≡ spans_in (literal_parts l none) ++ spans_in parts
literal_behind None parts = refl
literal_behind (Some l) parts = ap (λ xs. xs ++ spans_in parts) (sym (append-nil (spans_of (literal l))))

pub type_spans : (typed : Bool) (parts : Parts) → spans_in (type_parts typed parts) ≡ spans_in parts
type_spans true parts = refl
type_spans false parts = refl

pub several_spans : (ns : List Name) (span : Span) → (span ∷ spans_in (name_list ns (sign CloseBrace none))) ++ [] ≡ span ∷ flat_map (λ (n : Name). n.span ∷ []) ns
several_spans ns span = append-nil (span ∷ spans_in (name_list ns (sign CloseBrace none))) ∙ ap (λ xs. span ∷ xs) (name_list_spans ns (sign CloseBrace none) ∙ append-nil (flat_map (λ (n : Name). n.span ∷ []) ns))

five : {X : Type 0} (n m x p a : List X) → n ++ (m ++ (x ++ (p ++ a))) ≡ (((n ++ m) ++ x) ++ p) ++ a
five n m x p a = sym (append_assoc n m (x ++ (p ++ a))) ∙ sym (append_assoc (n ++ m) x (p ++ a)) ∙ sym (append_assoc ((n ++ m) ++ x) p a)

pub added_transition : {X : Type 0} (old : List X) (a : X) (n m x p l one two three four five_done new all : List X) → one ≡ old ++ a ∷ [] → two ≡ one ++ n → three ≡ two ++ m → four ≡ three ++ x → five_done ≡ four ++ p → new ≡ five_done ++ l → all ≡ a ∷ (n ++ (m ++ (x ++ (p ++ l)))) → new ≡ old ++ all
added_transition old a n m x p l one two three four five_done new all q r s u v w i =
    added_both old ((((a ∷ n) ++ m) ++ x) ++ p) l five_done new
    (added_both old (((a ∷ n) ++ m) ++ x) p four five_done (added_both old ((a ∷ n) ++ m) x three four (added_both old (a ∷ n) m two three (added_both old (a ∷ []) n one two q r) s) u) v) w
    ∙ ap (λ xs. old ++ xs) (sym (five (a ∷ n) m x p l) ∙ sym i)

pub added_machine : {X : Type 0} (old : List X) (a b : X) (p k l one two three new all : List X) → one ≡ old ++ a ∷ b ∷ [] → two ≡ one ++ p → three ≡ two ++ k → new ≡ three ++ l → all ≡ a ∷ b ∷ (p ++ (k ++ l)) → new ≡ old ++ all
added_machine old a b p k l one two three new all q r s w i =
    added_both old ((a ∷ b ∷ p) ++ k) l three new
    (added_both old (a ∷ b ∷ p) k two three (added_both old (a ∷ b ∷ []) p one two q r) s) w
    ∙ ap (λ xs. old ++ xs) (append_assoc (a ∷ b ∷ p) k l ∙ sym i)
