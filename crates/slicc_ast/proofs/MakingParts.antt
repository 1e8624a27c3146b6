-- A reader makes the outlines of the smaller parts of a tree: balanced parts, attributes, formals and literals.
use Rattle.std.proofs.Common.{Bool, true, false, List, [], ◌∷◌, Option, Some, None, refl}
use Rattle.slicc_ast.specs.declared.tree.token.Sign.TheVariants.{Star}
use Rattle.slicc_ast.specs.declared.tree.balanced.Balanced.{Balanced}
use Rattle.slicc_ast.specs.declared.tree.balanced.Part.{Part, Token, Parentheses', Brackets', Braces', Row_of-Part, end_of-Part, more_of-Part}
use Rattle.slicc_ast.specs.declared.tree.declaration.Formal.{Formal}
use Rattle.slicc_ast.specs.declared.tree.declaration.Formals.{Formals}
use Rattle.slicc_ast.specs.declared.tree.declaration.Pair.{Pair}
use Rattle.slicc_ast.specs.declared.tree.declaration.Pair.TheVariants.{Named, Bare}
use Rattle.slicc_ast.specs.declared.tree.declaration.Pairs.{Pairs}
use Rattle.slicc_ast.specs.declared.tree.declaration.PairValue.{PairValue}
use Rattle.slicc_ast.specs.declared.tree.declaration.PairValue.TheVariants.{Quoted as QuotedValue, Number as NumberValue, Name as NameValue}
use Rattle.slicc_ast.specs.declared.tree.machine.Literal.{Literal}
use Rattle.slicc_ast.specs.declared.tree.machine.Literal.TheVariants.{Number as NumberLiteral, Minus, Quoted as QuotedLiteral, True, False}
use Rattle.slicc_ast.specs.declared.tree.name.Name.{Name}
use Rattle.slicc_ast.specs.Prelude.{Parts, none, is_loose, balanced_row, balanced_list, pair_value, pair_list, more_formals, formal_list, optional_name, Row, done, many, next, Form}
use Rattle.slicc_ast.specs.Names.{star, balanced as balanced_parts, balanced_part}
use Rattle.slicc_ast.specs.Declarations.{pair, pairs as pairs_parts, formal, formals}
use Rattle.slicc_ast.specs.Machines.{literal}
use Rattle.slicc_ast.proofs.Building.Builds.{one, alternative, on}
use Rattle.slicc_ast.proofs.LeadingParts.{loose}
use Rattle.slicc_ast.proofs.Shapes.{◌▸◌, Step, value, close, of, at, name, sign, comma, optional, more_pairs, pairs, formals_part, balanced}
use Rattle.slicc_ast.proofs.Making.{Forms, Closes, Place, Behind, marked, any_name, closed, closed_last, then_token, then_name, then_type, then_form, then_node, where_allowed, then_on, then_alternative, then_present, then_absent, then_again, then_enough, by_node}

-- balanced parts, up to the end of the node that they are
abbrev any_part : Row Step
any_part = of Form.balanced_part done

mutual
  part_closes : {row : Place} {rows : Behind} {parts : Parts} (p : Part) → Closes (λ R S. many any_part (row R S)) rows parts → Closes (λ R S. many any_part (row R S)) rows (balanced_part p parts)
  part_closes (Token kind) c = where_allowed (is_loose kind) (λ is. then_again (then_alternative Form.balanced_part 0 refl (then_token (loose kind is) (then_on (then_on c)))))
  part_closes (Parentheses' shape inner span) c =
      then_again (then_alternative Form.balanced_part 1 refl (then_token refl (then_node (row_closes inner) (then_token refl (then_on (then_on c))))))
  part_closes (Brackets' shape inner span) c =
      then_again (then_alternative Form.balanced_part 2 refl (then_token refl (then_node (row_closes inner) (then_token refl (then_on (then_on c))))))
  part_closes (Braces' shape inner span) c =
      then_again (then_alternative Form.balanced_part 3 refl (then_token refl (then_node (row_closes inner) (then_token refl (then_on (then_on c))))))

  row_closes : {n : _} (row : Row_of-Part n) → Closes (λ R S. many any_part (at close R)) (λ R S. S) (balanced_row row)
  row_closes end_of-Part = then_enough closed
  row_closes (more_of-Part first row) = part_closes first (row_closes row)

parts_close : (ps : List Part) → Closes (λ R S. many any_part (at close R)) (λ R S. S) (balanced_list ps)
parts_close [] = then_enough closed
parts_close (first ∷ others) = part_closes first (parts_close others)

pub then_balanced : {row : Place} {rows : Behind} {parts : Parts} (b : Balanced) → Closes row rows parts → Closes (λ R S. balanced (row R S)) rows (balanced_parts b parts)
then_balanced b c = then_node (parts_close b.parts) c

-- attributes
pub value_closes : (v : PairValue) → Closes (λ R S. Row.form value (at close done)) (λ R S. next R S) (pair_value v none)
value_closes (QuotedValue text) = record { makes = λ allowed R S rest s to m. alternative 0 _ refl (one refl (on (marked (on m)))) }
value_closes (NumberValue n) = record { makes = λ allowed R S rest s to m. alternative 0 _ refl (one refl (on (marked (on m)))) }
value_closes (NameValue n) = record { makes = λ allowed R S rest s to m. alternative 1 _ refl (any_name n.text (on (marked (on m)))) }

pub pair_forms : (p : Pair) → Forms Form.pair (pair p)
pair_forms (Named key v span) = by_node 0 refl (then_name (then_token refl (value_closes v)))
pair_forms (Bare text span) = by_node 1 refl (then_token refl closed_last)

pub then_pair_list : {row : Place} {rows : Behind} (ps : List Pair) → Closes row rows none → Closes (λ R S. more_pairs (row R S)) rows (pair_list ps)
then_pair_list [] c = then_enough c
then_pair_list (first ∷ others) c = then_again (then_token refl (then_form (pair_forms first) (then_on (then_pair_list others c))))

pub then_pairs : {row : Place} {rows : Behind} {parts : Parts} (p : Pairs) → Closes row rows parts → Closes (λ R S. pairs (row R S)) rows (pairs_parts p parts)
then_pairs p c = then_node (then_pair_list p.items closed) c

-- formals
pub then_star : {row : Place} {rows : Behind} {parts : Parts} (has : Bool) → Closes row rows parts → Closes (λ R S. optional (sign Star) (row R S)) rows (star has parts)
then_star true c = then_present (then_token refl (then_on c))
then_star false c = then_absent c

name_closes : {row : Place} {rows : Behind} {parts : Parts} (n : Option Name) → Closes row rows parts → Closes (λ R S. optional name (row R S)) rows (optional_name n parts)
name_closes None c = then_absent c
name_closes (Some n) c = then_present (then_name (then_on c))

formal_forms : (f : Formal) → Forms Form.formal (formal f)
formal_forms f = by_node 0 refl (then_type (then_star f.has_star (name_closes f.name closed_last)))

abbrev one_formal : Row Step
one_formal = (comma ▸ of Form.formal) done

more_formals_close : {row : Place} {rows : Behind} (fs : List Formal) → Closes row rows none → Closes (λ R S. many one_formal (row R S)) rows (more_formals fs)
more_formals_close [] c = then_enough c
more_formals_close (first ∷ others) c = then_again (then_token refl (then_form (formal_forms first) (then_on (more_formals_close others c))))

formal_list_closes : (fs : List Formal) → Closes (λ R S. optional (of Form.formals) (at close R)) (λ R S. S) (formal_list fs)
formal_list_closes [] = then_absent closed
formal_list_closes (first ∷ others) =
    then_present (then_alternative Form.formals 0 refl (then_form (formal_forms first) (more_formals_close others (then_on (then_on closed)))))

pub then_formals : {row : Place} {rows : Behind} {parts : Parts} (f : Formals) → Closes row rows parts → Closes (λ R S. formals_part (row R S)) rows (formals f parts)
then_formals f c = then_token refl (then_node (formal_list_closes f.items) (then_token refl c))

-- literals
pub literal_forms : (l : Literal) → Forms Form.literal (literal l)
literal_forms (NumberLiteral n span) = by_node 0 refl (then_token refl closed_last)
literal_forms (Minus n span) = by_node 1 refl (then_token refl (then_token refl closed_last))
literal_forms (QuotedLiteral text span) = by_node 2 refl (then_token refl closed_last)
literal_forms (True span) = by_node 3 refl (then_token refl closed_last)
literal_forms (False span) = by_node 4 refl (then_token refl closed_last)
