-- What lists of members are spelled by, member by member.
use Rattle.std.proofs.Common.{◌≡◌, ◌==◌, ℕ, Bool, not, IsTrue, List, [], ◌∷◌, length, refl, ap, subst, sym, Bor, Result, Ok, Err, IfOk}
use Rattle.std.specs.Result.{MatchResult}
use Rattle.slicc_ast.specs.declared.tree.declaration.Pair.{Pair}
use Rattle.slicc_ast.specs.declared.tree.declaration.State.{State}
use Rattle.slicc_ast.specs.declared.tree.declaration.Symbol.{Symbol}
use Rattle.slicc_ast.specs.declared.tree.declaration.Formal.{Formal}
use Rattle.slicc_ast.specs.declared.tree.declaration.Member.{Member}
use Rattle.slicc_ast.specs.declared.tree.machine.Parameter.{Parameter}
use Rattle.slicc_ast.specs.declared.tree.name.Name.{Name}
use Rattle.slicc_ast.specs.declared.tree.token.Sign.TheVariants.{Comma}
use Rattle.slicc_ast.specs.Declarations.{formal, member}
use Rattle.slicc_ast.specs.Prelude.{formal_list, member_list, more_formals, pair_list, state_list, symbol_list, action_list, more_names, name_list, parameter_list, Parts, none, part, provided}
use Rattle.slicc_ast.specs.Machines.{parameter}
use Rattle.slicc_ast.specs.Names.{name, sign}
use Rattle.slicc_ast.specs.Parts.{Part}
use Rattle.slicc_lex.specs.declared.token.Token.{Token}
use Rattle.slicc_reading.specs.declared.fault.Fault.{Fault}
use Rattle.slicc_reading.specs.Prelude.{AreParts, AreRead, Refuses, allowed, nothing}
use Rattle.slicc_decl.specs.Prelude.{action_parts, pair_parts, state_parts, symbol_parts}
use Rattle.slicc_reading.proofs.Repeats.{each}

pub each_symbol : (items : List Symbol) (others : Parts) → symbol_list items others ≡ each symbol_parts items others
each_symbol [] others = refl
each_symbol (first ∷ items) others = ap (λ p. symbol_parts first p) (each_symbol items others)

pub each_state : (items : List State) (others : Parts) → state_list items others ≡ each state_parts items others
each_state [] others = refl
each_state (first ∷ items) others = ap (λ p. state_parts first p) (each_state items others)

-- formals, separated by commas
abbrev pub first_formal : Formal → Parts → Parts
first_formal f others = part (formal f) others

abbrev pub further_formal : Formal → Parts → Parts
further_formal f others = sign Comma (part (formal f) others)

abbrev pub formals_onto : List Formal → Parts → Parts
formals_onto [] others = others
formals_onto (first ∷ items) others = first_formal first (each further_formal items others)

pub each_formal : (first : Formal) (items : List Formal) (others : Parts) → formals_onto (first ∷ items) others ≡ first_formal first (each further_formal items others)
each_formal first items others = refl

each_further : (items : List Formal) → each further_formal items none ≡ more_formals items
each_further [] = refl
each_further (first ∷ items) = ap (λ p. further_formal first p) (each_further items)

pub formals_onto_none : (items : List Formal) → formals_onto items none ≡ formal_list items
formals_onto_none [] = refl
formals_onto_none (first ∷ items) = ap (λ p. first_formal first p) (each_further items)

pub no_formals : (items : List Formal) (tokens : List Token) → items ≡ [] → AreParts (formal_list items) tokens tokens
no_formals items tokens is = subst (λ xs. AreParts (formal_list xs) tokens tokens) (sym is) nothing

-- names, separated by commas
abbrev pub further_name : Name → Parts → Parts
further_name n others = sign Comma (name n others)

each_further_name : (items : List Name) (others : Parts) → more_names items others ≡ each further_name items others
each_further_name [] others = refl
each_further_name (first ∷ items) others = ap (λ p. further_name first p) (each_further_name items others)

pub each_name : (first : Name) (items : List Name) (others : Parts) → name_list (first ∷ items) others ≡ name first (each further_name items others)
each_name first items others = ap (λ p. name first p) (each_further_name items others)

is_allowed : {condition : Bool} {parts : Parts} {tokens left : List Token} → AreParts (provided condition parts) tokens left → IsTrue condition
is_allowed (allowed holds m) = holds

-- what was read on the condition that there are some is not empty
pub some_names : (room : ℕ) (g : Part) (tokens : List Token) (q : List Name → Parts → Parts) (r : Result (List Name × Bor (List Token)) Fault)
    → MatchResult r (λ x. AreRead room g (λ others. provided (not (length x.0 == 0)) (q x.0 others)) tokens x.1.now) (Refuses room g tokens)
    → IfOk r (λ x. IsTrue (not (length x.0 == 0)))
some_names room g tokens q (Ok x) m = is_allowed (m.spells none _ nothing)
some_names room g tokens q (Err e) m = tt

-- attributes, and a transition's actions
pub each_pair : (items : List Pair) → pair_list items ≡ each pair_parts items none
each_pair [] = refl
each_pair (first ∷ items) = ap (λ p. pair_parts first p) (each_pair items)

pub each_action : (items : List Name) (others : Parts) → action_list items others ≡ each action_parts items others
each_action [] others = refl
each_action (first ∷ items) others = ap (λ p. action_parts first p) (each_action items others)

-- a machine's parameters
abbrev pub parameter_parts : Parameter → Parts → Parts
parameter_parts p others = part (parameter p) others

pub each_parameter : (items : List Parameter) (others : Parts) → parameter_list items others ≡ each parameter_parts items others
each_parameter [] others = refl
each_parameter (first ∷ items) others = ap (λ p. parameter_parts first p) (each_parameter items others)

-- a structure's members
abbrev pub member_parts : Member → Parts → Parts
member_parts m others = part (member m) others

pub each_member : (items : List Member) (others : Parts) → member_list items others ≡ each member_parts items others
each_member [] others = refl
each_member (first ∷ items) others = ap (λ p. member_parts first p) (each_member items others)
