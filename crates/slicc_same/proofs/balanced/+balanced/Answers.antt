use Rattle.slicc_same.proofs.Turns.{left_ends, next_turn, right_ends, unlike_turn}
use Rattle.slicc_same.proofs.NotParts.{not_token, not_parentheses, not_brackets, not_braces}
use Rattle.std.proofs.Common.{rules}
use Rattle.slicc_ast.specs.declared.tree.balanced.Part.TheViews.{the_lemmas}
use Rattle.slicc_same.proofs.Bools.{and_true, and_false, listed}
use Rattle.slicc_same.specs.Prelude.{alike_part}
use Rattle.slicc_same.proofs.BalancedLists.{list_of_row, balanced_alike}
use Rattle.slicc_same.proofs.balanced.+balanced.Goals as goal

pub same_balanced-returns : goal.same_balanced-returns
same_balanced-returns t c =
    listed alike_part c.args.a.now.parts c.args.b.now.parts _ _ _ _ c.all_same_parts.ensures c.deref.ensures c.deref-2.ensures (balanced_alike c.args.a.now.parts c.args.b.now.parts)

pub same_part-returns-in-Parentheses-Parentheses : goal.same_part-returns-in-Parentheses-Parentheses
same_part-returns-in-Parentheses-Parentheses t c = search (rules, the_lemmas, list_of_row, balanced_alike, and_true, and_false)

pub same_part-returns-in-Brackets-Brackets : goal.same_part-returns-in-Brackets-Brackets
same_part-returns-in-Brackets-Brackets t c = search (rules, the_lemmas, list_of_row, balanced_alike, and_true, and_false)

pub same_part-returns-in-Braces-Braces : goal.same_part-returns-in-Braces-Braces
same_part-returns-in-Braces-Braces t c = search (rules, the_lemmas, list_of_row, balanced_alike, and_true, and_false)

pub same_part-returns-in_default : goal.same_part-returns-in_default
same_part-returns-in_default t c = not_token c.in_default.field-0-0 c.args.a.now c.args.b.now c.in_default.is-0 c.in_default.not-Token-1

pub same_part-returns-in_default-2 : goal.same_part-returns-in_default-2
same_part-returns-in_default-2 t c = not_parentheses c.in_default.field-0-0 c.args.a.now c.args.b.now c.in_default.is-0 c.in_default.not-Parentheses-1

pub same_part-returns-in_default-3 : goal.same_part-returns-in_default-3
same_part-returns-in_default-3 t c = not_brackets c.in_default.field-0-0 c.args.a.now c.args.b.now c.in_default.is-0 c.in_default.not-Brackets-1

pub same_part-returns-in_default-4 : goal.same_part-returns-in_default-4
same_part-returns-in_default-4 t c = not_braces c.in_default.field-0-0 c.args.a.now c.args.b.now c.in_default.is-0 c.in_default.not-Braces-1

pub all_same_parts-loop-x-preserved : goal.all_same_parts-loop-x-preserved
all_same_parts-loop-x-preserved t c =
    next_turn alike_part c.args.a.now c.loop-x.right.now c.loop-x.x-index c.x-item.result c.y-item.result _ _
    c.loop-x.invariant c.loop-x-test.true c.x-item.is c.in-len1-up.len_at_least c.y-item.is c.same_part.ensures c.if-not-same_part.false

pub all_same_parts-returns-then-not-same_part : goal.all_same_parts-returns-then-not-same_part
all_same_parts-returns-then-not-same_part t c =
    unlike_turn alike_part c.args.a.now c.loop-x.right.now c.loop-x.x-index c.x-item.result c.y-item.result _ _
    c.loop-x.invariant c.loop-x-test.true c.x-item.is c.in-len1-up.len_at_least c.y-item.is c.same_part.ensures c.if-not-same_part.true

pub all_same_parts-returns-in_default : goal.all_same_parts-returns-in_default
all_same_parts-returns-in_default t c = right_ends alike_part c.args.a.now c.loop-x.right.now c.loop-x.x-index c.x-item.result _ c.loop-x.invariant c.loop-x-test.true c.in_default.len_below

pub all_same_parts-returns : goal.all_same_parts-returns
all_same_parts-returns t c = left_ends alike_part c.args.a.now c.loop-x.right.now c.loop-x.x-index _ _ c.loop-x.invariant c.loop-x-test.false c.is_empty.ensures
