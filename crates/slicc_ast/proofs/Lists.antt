-- Each form of the written grammar has a list of tokens, and each set of kinds in it has a kind; so what begins a form is
-- the front of a list of it.
use Rattle.std.proofs.Common.{◌≡◌, ◌↔◌, ℕ, true, List, ◌++◌, refl}
use Rattle.std.specs.List.{list_all}
use Rattle.slicc_ast.specs.Prelude.{done, form, end, Derives, IsViable, Form, file, member_end, functional_end, machine_name, declaration, declaration_end, named_end, body, transition_end, statement, statement_end, conditional, otherwise, expression, conjunction, equality, order, sum, product, unary, postfix, primary, constant, opening, name_end, arguments, written, written_rows}
use Rattle.slicc_ast.proofs.Completing.{HasList, by_alternative, derived_list, are_some, viable_is_front}
use Rattle.slicc_ast.specs.Form.Form.{item, enumeration, states, structure, member, pair, machine, parameter, literal, out_port, in_port, action, transition, names, formals, formal, block, suffix, balanced_part}

constant_list : HasList written constant
constant_list = by_alternative written constant 0 _ refl tt

primary_list : HasList written primary
primary_list = by_alternative written primary 0 _ refl (constant_list, tt)

postfix_list : HasList written postfix
postfix_list = by_alternative written postfix 0 _ refl (primary_list, tt)

unary_list : HasList written unary
unary_list = by_alternative written unary 2 _ refl (postfix_list, tt)

product_list : HasList written product
product_list = by_alternative written product 0 _ refl (unary_list, tt)

sum_list : HasList written sum
sum_list = by_alternative written sum 0 _ refl (product_list, tt)

order_list : HasList written order
order_list = by_alternative written order 0 _ refl (sum_list, tt)

equality_list : HasList written equality
equality_list = by_alternative written equality 0 _ refl (order_list, tt)

conjunction_list : HasList written conjunction
conjunction_list = by_alternative written conjunction 0 _ refl (equality_list, tt)

expression_list : HasList written expression
expression_list = by_alternative written expression 0 _ refl (conjunction_list, tt)

arguments_list : HasList written arguments
arguments_list = by_alternative written arguments 0 _ refl (expression_list, tt)

opening_list : HasList written opening
opening_list = by_alternative written opening 2 _ refl (constant_list, tt)

name_end_list : HasList written name_end
name_end_list = by_alternative written name_end 0 _ refl tt

suffix_list : HasList written suffix
suffix_list = by_alternative written suffix 0 _ refl tt

balanced_part_list : HasList written balanced_part
balanced_part_list = by_alternative written balanced_part 0 _ refl tt

names_list : HasList written names
names_list = by_alternative written names 0 _ refl tt

formal_list : HasList written formal
formal_list = by_alternative written formal 0 _ refl tt

formals_list : HasList written formals
formals_list = by_alternative written formals 0 _ refl (formal_list, tt)

block_list : HasList written block
block_list = by_alternative written block 0 _ refl (tt, tt)

statement_list : HasList written statement
statement_list = by_alternative written statement 3 _ refl tt

statement_end_list : HasList written statement_end
statement_end_list = by_alternative written statement_end 1 _ refl tt

conditional_list : HasList written conditional
conditional_list = by_alternative written conditional 0 _ refl ((expression_list, tt), (block_list, tt))

otherwise_list : HasList written otherwise
otherwise_list = by_alternative written otherwise 1 _ refl (block_list, tt)

literal_list : HasList written literal
literal_list = by_alternative written literal 0 _ refl tt

pair_list : HasList written pair
pair_list = by_alternative written pair 1 _ refl tt

enumeration_list : HasList written enumeration
enumeration_list = by_alternative written enumeration 0 _ refl (tt, (tt, tt))

states_list : HasList written states
states_list = by_alternative written states 0 _ refl (tt, (tt, tt))

structure_list : HasList written structure
structure_list = by_alternative written structure 0 _ refl (tt, (tt, tt))

member_list : HasList written member
member_list = by_alternative written member 0 _ refl tt

member_end_list : HasList written member_end
member_end_list = by_alternative written member_end 0 _ refl tt

functional_end_list : HasList written functional_end
functional_end_list = by_alternative written functional_end 0 _ refl tt

parameter_list : HasList written parameter
parameter_list = by_alternative written parameter 0 _ refl tt

machine_name_list : HasList written machine_name
machine_name_list = by_alternative written machine_name 1 _ refl tt

body_list : HasList written body
body_list = by_alternative written body 1 _ refl tt

named_end_list : HasList written named_end
named_end_list = by_alternative written named_end 0 _ refl tt

declaration_end_list : HasList written declaration_end
declaration_end_list = by_alternative written declaration_end 0 _ refl tt

declaration_list : HasList written declaration
declaration_list = by_alternative written declaration 9 _ refl tt

transition_end_list : HasList written transition_end
transition_end_list = by_alternative written transition_end 1 _ refl tt

out_port_list : HasList written out_port
out_port_list = by_alternative written out_port 0 _ refl (tt, tt)

in_port_list : HasList written in_port
in_port_list = by_alternative written in_port 0 _ refl (tt, (block_list, tt))

action_list : HasList written action
action_list = by_alternative written action 0 _ refl (tt, (block_list, tt))

transition_list : HasList written transition
transition_list = by_alternative written transition 0 _ refl ((names_list, (names_list, tt)), (tt, tt))

machine_list : HasList written machine
machine_list = by_alternative written machine 0 _ refl (tt, (tt, tt))

item_list : HasList written item
item_list = by_alternative written item 0 _ refl tt

file_list : HasList written file
file_list = by_alternative written file 0 _ refl (item_list, tt)

list_of : (n : Form) → HasList written n
list_of file = file_list
list_of item = item_list
list_of enumeration = enumeration_list
list_of states = states_list
list_of structure = structure_list
list_of member = member_list
list_of member_end = member_end_list
list_of functional_end = functional_end_list
list_of pair = pair_list
list_of machine = machine_list
list_of machine_name = machine_name_list
list_of parameter = parameter_list
list_of literal = literal_list
list_of declaration = declaration_list
list_of declaration_end = declaration_end_list
list_of named_end = named_end_list
list_of body = body_list
list_of out_port = out_port_list
list_of in_port = in_port_list
list_of action = action_list
list_of transition = transition_list
list_of transition_end = transition_end_list
list_of names = names_list
list_of formals = formals_list
list_of formal = formal_list
list_of block = block_list
list_of statement = statement_list
list_of statement_end = statement_end_list
list_of conditional = conditional_list
list_of otherwise = otherwise_list
list_of expression = expression_list
list_of conjunction = conjunction_list
list_of equality = equality_list
list_of order = order_list
list_of sum = sum_list
list_of product = product_list
list_of unary = unary_list
list_of postfix = postfix_list
list_of primary = primary_list
list_of constant = constant_list
list_of opening = opening_list
list_of name_end = name_end_list
list_of suffix = suffix_list
list_of arguments = arguments_list
list_of balanced_part = balanced_part_list

some_kinds : (n : Form) → list_all (are_some written) (written_rows n) ≡ true
some_kinds file = refl
some_kinds item = refl
some_kinds enumeration = refl
some_kinds states = refl
some_kinds structure = refl
some_kinds member = refl
some_kinds member_end = refl
some_kinds functional_end = refl
some_kinds pair = refl
some_kinds machine = refl
some_kinds machine_name = refl
some_kinds parameter = refl
some_kinds literal = refl
some_kinds declaration = refl
some_kinds declaration_end = refl
some_kinds named_end = refl
some_kinds body = refl
some_kinds out_port = refl
some_kinds in_port = refl
some_kinds action = refl
some_kinds transition = refl
some_kinds transition_end = refl
some_kinds names = refl
some_kinds formals = refl
some_kinds formal = refl
some_kinds block = refl
some_kinds statement = refl
some_kinds statement_end = refl
some_kinds conditional = refl
some_kinds otherwise = refl
some_kinds expression = refl
some_kinds conjunction = refl
some_kinds equality = refl
some_kinds order = refl
some_kinds sum = refl
some_kinds product = refl
some_kinds unary = refl
some_kinds postfix = refl
some_kinds primary = refl
some_kinds constant = refl
some_kinds opening = refl
some_kinds name_end = refl
some_kinds suffix = refl
some_kinds arguments = refl
some_kinds balanced_part = refl

pub derives_a_list : (n : Form) → (tokens : List ℕ) × Derives written (form n done) end tokens
derives_a_list n = derived_list written n (list_of n)

pub viable_by_lists : (n : Form) (tokens : List ℕ) → IsViable written n tokens ↔ ((rest : List ℕ) × Derives written (form n done) end (tokens ++ rest))
viable_by_lists = viable_is_front written list_of some_kinds
