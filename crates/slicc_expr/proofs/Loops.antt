-- What the loops of expressions have read so far, and how each goes on.
use Rattle.std.proofs.lemmas.Bool.{false≢true}
use Rattle.std.proofs.lemmas.List.{length-append}
use Rattle.std.proofs.Common.{◌≡◌, ℕ, Option, suc, ◌+◌, ◌-◌, ◌<◌, ◌≤◌, true, false, List, [], ◌∷◌, ◌++◌, length, refl, sym, subst, ap, ◌∙◌, arith}
use Rattle.slicc_ast.specs.declared.tree.expression.Expr.{Expr}
use Rattle.slicc_ast.specs.declared.tree.expression.Operand.{Operand}
use Rattle.slicc_ast.specs.declared.tree.expression.Operator.{Operator}
use Rattle.slicc_ast.specs.declared.tree.expression.Suffix.{Suffix}
use Rattle.slicc_ast.specs.declared.tree.span.Span.{Span}
use Rattle.slicc_ast.specs.declared.tree.token.TokenKind.TheVariants.{Sign}
use Rattle.slicc_ast.specs.declared.tree.token.Sign.TheVariants.{Comma, Dot, OpenBracket, Star, Plus as PlusSign, Minus as MinusSign, Less as LessSign, Greater as GreaterSign, LessOrEqual as LessOrEqualSign, GreaterOrEqual as GreaterOrEqualSign, Equal as EqualSign, Unequal as UnequalSign, And as AndSign, Or as OrSign}
use Rattle.slicc_ast.specs.declared.tree.expression.Operator.TheVariants.{Or, And, Equal, Unequal, Less, Greater, LessOrEqual, GreaterOrEqual, Plus, Minus, Times}
use Rattle.slicc_ast.specs.Expressions.{suffix}
use Rattle.slicc_ast.specs.Prelude.{args, expr, mode_parts, level_of, list_level, operator_level, operator_sign, operand_list, suffix_list, args_list, more_args, type_name, node, Parts, none, part, Row, done, form, maybe, Passes, Stops, first_of, first_of_expression, Form, has, is_ahead, arguments, expression, ◌▸◌, of, comma, repeated, table, kind_of, sign_kind}
use Rattle.slicc_ast.specs.declared.tree.expression.Args.{Args}
use Rattle.slicc_ast.specs.declared.tree.name.TypeName.{TypeName}
use Rattle.slicc_ast.specs.Names.{sign}
use Rattle.slicc_ast.specs.Grammar.Row.{token}
use Rattle.slicc_ast.proofs.Steps.{passes_both, fails_first, fails_second}
use Rattle.slicc_ast.specs.Parts.{Part}
use Rattle.slicc_lex.specs.declared.token.Token.{Token}
use Rattle.slicc_lex.specs.Prelude.{symbols}
use Rattle.slicc_reading.specs.declared.fault.Fault.{Fault}
use Rattle.slicc_expr.specs.Prelude.{chain, chains, form_at, kinds_at, IsOperator, is_some, operand_parts, operands_before, operation_node, postfix_node, suffixes_before}
use Rattle.slicc_reading.specs.Prelude.{Covers, IsNode, AreParts, IsRead, AreRead, Leads, Refuses, spelled, nothing, inside, allowed, no_memory, stops}
use Rattle.slicc_reading.proofs.Parts.{◌then◌, allow, as_node, as_part, behind, of_alternative, token_read}
use Rattle.slicc_expr.proofs.Ahead.{eq_true, is_true, le_true, lt_true}
use Rattle.slicc_reading.proofs.Repeats.{AreRepeated, all_read, each, fault_in_one, none_yet, one_more}
use Rattle.slicc_reading.proofs.Choices.{absent, leads_here, leads_behind, once_more, no_more, all_of, present_read}

-- arguments, and then further parts
abbrev pub more_onto : List Expr → Parts → Parts
more_onto [] others = others
more_onto (first ∷ items) others = sign Comma (part (expr first) (more_onto items others))

abbrev pub args_onto : List Expr → Parts → Parts
args_onto [] others = others
args_onto (first ∷ items) others = part (expr first) (more_onto items others)

-- an expression, the arguments of a call, and what stands before the expression of a cast
abbrev pub expr_parts : Expr → Parts → Parts
expr_parts e others = part (expr e) others

abbrev pub args_parts : Args → Parts → Parts
args_parts a others = part (args a) others

abbrev pub head_parts : TypeName × Option (List ℕ) → Parts → Parts
head_parts head others = type_name head.0 (sign Comma (mode_parts head.1 others))

abbrev pub operand : ℕ → Part
operand at = token (kinds_at at) ▸ form (form_at at)

abbrev pub more_items : Part
more_items = comma ▸ of expression

pub record AreItems (room : ℕ) (tokens : List Token) (items : List Expr) (left : List Token) : Type 0 where
  pub some : 1 ≤ length items
  pub leads : Leads room (of expression ▸ repeated more_items) tokens (repeated more_items) left
  pub spells : (others : Parts) (end : List Token) → AreParts others left end → AreParts (args_onto items others) tokens end

-- the operands that are joined so far, with operators of the levels from a height on to come
pub record IsOperand (room height : ℕ) (start tokens : List Token) (at : ℕ) (joined : Expr) (left : List Token) : Type 0 where
  pub leads : Leads room (chains height 0) tokens (chains (height - at) at) left
  pub is_node : IsNode (expr joined) start left
  pub tight : 7 ≤ at + level_of joined
  pub within : at ≤ height

-- so many of a repeated part are read that begins here, none only where no token is read
pub record AreSome {A : Type 0} (one : A → Parts → Parts) (room : ℕ) (item : Part) (tokens : List Token) (items : List A) (now : List Token) : Type 0 where
  pub read : AreRepeated one room item tokens tokens items now
  pub first : length items ≡ 0 → now ≡ tokens

-- the operators of a height with their operands that are read so far
pub record AreOperands (room height : ℕ) (tokens : List Token) (items : List Operand) (now : List Token) : Type 0 where
  pub some : AreSome (operand_parts (6 - height)) room (operand height) tokens items now
  pub level : 1 ≤ length items → list_level items + height ≡ 6

-- one more argument
more_onto_last : (items : List Expr) (last : Expr) (others : Parts) → more_onto (items ++ last ∷ []) others ≡ more_onto items (sign Comma (part (expr last) others))
more_onto_last [] last others = refl
more_onto_last (first ∷ items) last others = ap (λ p. sign Comma (part (expr first) p)) (more_onto_last items last others)

args_onto_last : (first : Expr) (items : List Expr) (last : Expr) (others : Parts) → args_onto ((first ∷ items) ++ last ∷ []) others ≡ args_onto (first ∷ items) (sign Comma (part (expr last) others))
args_onto_last first items last others = ap (λ p. part (expr first) p) (more_onto_last items last others)

more_onto_none : (items : List Expr) → more_onto items none ≡ more_args items
more_onto_none [] = refl
more_onto_none (first ∷ items) = ap (λ p. sign Comma (part (expr first) p)) (more_onto_none items)

args_onto_none : (items : List Expr) → args_onto items none ≡ args_list items
args_onto_none [] = refl
args_onto_none (first ∷ items) = ap (λ p. part (expr first) p) (more_onto_none items)

pub items_begin : {room : ℕ} {tokens left : List Token} (first : Expr) (before items : List Expr)
    → before ≡ [] → items ≡ before ++ first ∷ [] → IsRead room (of expression) (expr first) tokens tokens left → AreItems room tokens items left
items_begin {room = room} {tokens = tokens} {left = left} first before items empty is r =
    let one : items ≡ first ∷ [] = subst (λ xs. items ≡ xs ++ first ∷ []) empty is in
    subst (λ xs. AreItems room tokens xs left) (sym one)
    (record { some = omega arith; leads = leads_behind (repeated more_items) (as_part r); spells = λ others end m. inside r.is_node m })

pub items_more : {room : ℕ} {tokens now next_tokens : List Token} (items : List Expr) (last : Expr) (more : List Expr)
    → more ≡ items ++ last ∷ [] → is_ahead (sign_kind Comma ∷ []) (symbols now) ≡ true
    → AreRead room more_items (λ others. sign Comma (part (expr last) others)) now next_tokens
    → AreItems room tokens items now → AreItems room tokens more next_tokens
items_more [] last more is ahead r so_far = absurd (let some : 1 ≤ 0 = so_far.some in omega arith)
items_more {room = room} {tokens = tokens} {next_tokens = next_tokens} (first ∷ items) last more is ahead r so_far =
    subst (λ xs. AreItems room tokens xs next_tokens) (sym is)
    (record {
      some = omega arith;
      leads = once_more more_items (λ row. row) ahead r.passes r.within so_far.leads;
      spells = λ others end m. subst (λ p. AreParts p tokens end) (sym (args_onto_last first items last others)) (so_far.spells _ end (r.spells others end m));
    })

-- at least one of a repeated part
pub some_begin : {A : Type 0} (one : A → Parts → Parts) (room : ℕ) (item : Part) (tokens : List Token) (items : List A)
    → items ≡ [] → AreSome one room item tokens items tokens
some_begin one room item tokens items is = record { read = none_yet one room item tokens items is; first = λ none. refl }

pub some_more : {A : Type 0} {one : A → Parts → Parts} {room : ℕ} {item : Part} {tokens now after : List Token} (items : List A) (last : A) (more : List A)
    → more ≡ items ++ last ∷ [] → is_ahead (first_of table (item done)) (symbols now) ≡ true
    → AreRead room item (one last) now after → AreSome one room item tokens items now → AreSome one room item tokens more after
some_more items last more is ahead r so_far =
    let count : length more ≡ length items + 1 = ap length is ∙ length-append items (last ∷ []) in
    record { read = one_more items last more is ahead r so_far.read; first = λ none. absurd (omega arith) }

pub some_end : {A : Type 0} {one : A → Parts → Parts} {room : ℕ} {item : Part} {tokens now : List Token} (kinds : List ℕ) (items : List A)
    → is_ahead kinds (symbols tokens) ≡ true → is_ahead kinds (symbols now) ≡ false → AreSome one room item tokens items now → 1 ≤ length items
some_end kinds [] begun ended s = absurd (false≢true (sym ended ∙ subst (λ ts. is_ahead kinds (symbols ts) ≡ true) (sym (s.first refl)) begun))
some_end kinds (first ∷ items) begun ended s = omega arith

-- the levels, one behind the other
pub operands_begin : (room height : ℕ) (start tokens : List Token) (first : Expr) → IsNode (expr first) start tokens → 7 ≤ level_of first → IsOperand room height start tokens 0 first tokens
operands_begin room height start tokens first m tight =
    let all : height ≡ height - 0 = omega arith in
    record { leads = subst (λ n. Leads room (chains height 0) tokens (chains n 0) tokens) all (leads_here room (chains height 0) tokens); is_node = m; tight = omega arith; within = omega arith }

chains_at : (height at : ℕ) → at < height → (row : Row Form) → chains (height - at) at row ≡ chain at (chains (height - (at + 1)) (at + 1) row)
chains_at height at lt row =
    let count : height - at ≡ suc (height - (at + 1)) = omega arith in
    let next : suc at ≡ at + 1 = omega arith in
    ap (λ n. chains n at row) count ∙ ap (λ m. chain at (chains (height - (at + 1)) m row)) next

leads_same : {room : ℕ} {g : Part} {tokens now : List Token} (h k : Part) → ((row : Row Form) → h row ≡ k row) → Leads room g tokens h now → Leads room g tokens k now
leads_same {room = room} {now = now} h k same l =
    record {
      passes = λ left p. l.passes left (λ row rows stop s. subst (λ r. Stops table room r rows (symbols now) stop) (sym (same row)) (p row rows stop s));
      fails = λ stop f. l.fails stop (λ row rows. subst (λ r. Stops table room r rows (symbols now) stop) (sym (same row)) (f row rows));
      within = l.within;
    }

abbrev rest_of : ℕ → ℕ → Part
rest_of height at row = chains (height - (at + 1)) (at + 1) row

abbrev levels_at : ℕ → ℕ → Part
levels_at height at = chain at ▸ rest_of height at

leads_on : {room : ℕ} {g : Part} {tokens now after : List Token} (h k : Part)
    → Passes table room h (symbols now) (symbols after) → length after ≤ length now
    → Leads room g tokens (h ▸ k) now → Leads room g tokens k after
leads_on {room = room} {tokens = tokens} {now = now} {after = after} h k passes shorter l =
    record {
      passes = λ left p. l.passes left (passes_both table room h k (symbols now) (symbols after) left passes p);
      fails = λ stop f. l.fails stop (fails_second table room h k (symbols now) (symbols after) stop passes f);
      within = (let le : length now ≤ length tokens = l.within in omega arith);
    }

fault_there : {room : ℕ} {g : Part} {tokens now : List Token} {fault : Fault} (h k : Part)
    → Refuses room h now fault → Leads room g tokens (h ▸ k) now → Refuses room g tokens fault
fault_there h k no_memory l = no_memory
fault_there {room = room} {now = now} h k (stops stop fails is) l = stops stop (l.fails stop (fails_first table room h k (symbols now) stop fails)) is

at_level : {room : ℕ} {g : Part} {tokens now : List Token} (height at : ℕ) → at < height → Leads room g tokens (chains (height - at) at) now → Leads room g tokens (levels_at height at) now
at_level height at lt l = leads_same (chains (height - at) at) (levels_at height at) (chains_at height at lt) l

chains_next : {room : ℕ} {g : Part} {tokens now : List Token} (height at : ℕ) → Leads room g tokens (rest_of height at) now → Leads room g tokens (chains (height - (at + 1)) (at + 1)) now
chains_next height at l = leads_same (rest_of height at) (chains (height - (at + 1)) (at + 1)) (λ row. refl) l

pub one_level : {room height at : ℕ} {start tokens left after : List Token} {joined : Expr} (more : Expr)
    → at < height → IsRead room (chain at) (expr more) start left after → 6 ≤ at + level_of more
    → IsOperand room height start tokens at joined left → IsOperand room height start tokens (at + 1) more after
one_level {height = height} {at = at} more lt r tight so_far =
    record {
      leads = chains_next height at (leads_on (chain at) (rest_of height at) r.passes r.within (at_level height at lt so_far.leads));
      is_node = r.is_node;
      tight = omega arith;
      within = omega arith;
    }

pub fault_in_level : {room height at : ℕ} {start tokens left : List Token} {joined : Expr} {fault : Fault}
    → at < height → Refuses room (chain at) left fault
    → IsOperand room height start tokens at joined left → Refuses room (chains height 0) tokens fault
fault_in_level {height = height} {at = at} lt r so_far = fault_there (chain at) (rest_of height at) r (at_level height at lt so_far.leads)

operator_kind : (op : Operator) (at : ℕ) → operator_level op + at ≡ 6 → has (kinds_at at) (sign_kind (operator_sign op)) ≡ true
operator_kind Times at is = let e : 0 ≡ at = omega arith in subst (λ n. has (kinds_at n) (sign_kind Star) ≡ true) e refl
operator_kind Plus at is = let e : 1 ≡ at = omega arith in subst (λ n. has (kinds_at n) (sign_kind PlusSign) ≡ true) e refl
operator_kind Minus at is = let e : 1 ≡ at = omega arith in subst (λ n. has (kinds_at n) (sign_kind MinusSign) ≡ true) e refl
operator_kind Less at is = let e : 2 ≡ at = omega arith in subst (λ n. has (kinds_at n) (sign_kind LessSign) ≡ true) e refl
operator_kind Greater at is = let e : 2 ≡ at = omega arith in subst (λ n. has (kinds_at n) (sign_kind GreaterSign) ≡ true) e refl
operator_kind LessOrEqual at is = let e : 2 ≡ at = omega arith in subst (λ n. has (kinds_at n) (sign_kind LessOrEqualSign) ≡ true) e refl
operator_kind GreaterOrEqual at is = let e : 2 ≡ at = omega arith in subst (λ n. has (kinds_at n) (sign_kind GreaterOrEqualSign) ≡ true) e refl
operator_kind Equal at is = let e : 3 ≡ at = omega arith in subst (λ n. has (kinds_at n) (sign_kind EqualSign) ≡ true) e refl
operator_kind Unequal at is = let e : 3 ≡ at = omega arith in subst (λ n. has (kinds_at n) (sign_kind UnequalSign) ≡ true) e refl
operator_kind And at is = let e : 4 ≡ at = omega arith in subst (λ n. has (kinds_at n) (sign_kind AndSign) ≡ true) e refl
operator_kind Or at is = let e : 5 ≡ at = omega arith in subst (λ n. has (kinds_at n) (sign_kind OrSign) ≡ true) e refl

operator_has : (op : Operator) (at : ℕ) (t : Token) → operator_level op + at ≡ 6 → t.kind ≡ Sign (operator_sign op) → has (kinds_at at) (kind_of t.kind) ≡ true
operator_has op at t level is = subst (λ k. has (kinds_at at) (kind_of k) ≡ true) (sym is) (operator_kind op at level)

pub operator_ahead : (op : Operator) (at : ℕ) (tokens left : List Token) → IsOperator at op tokens left → is_ahead (kinds_at at) (symbols tokens) ≡ true
operator_ahead op at tokens left o = subst (λ ts. is_ahead (kinds_at at) (symbols ts) ≡ true) (sym o.split) (operator_has op at o.first o.level o.is_sign)

operator_read : (room : ℕ) (op : Operator) (at : ℕ) (tokens left : List Token) → IsOperator at op tokens left → AreRead room (token (kinds_at at)) (sign (operator_sign op)) tokens left
operator_read room op at tokens left o =
    token_read room (kinds_at at) (Sign (operator_sign op)) o.first tokens left o.split (operator_has op at o.first o.level o.is_sign) o.is_sign

-- operands of one level
pub no_operand : {room : ℕ} {start tokens : List Token} (height : ℕ) (first : Expr)
    → is_ahead (kinds_at height) (symbols tokens) ≡ false → IsNode (expr first) start tokens → IsRead room (chain height) (expr first) start tokens tokens
no_operand {room = room} {tokens = tokens} height first ended m =
    record { passes = all_of (no_more (operand height done) (λ row. row) ended (leads_here room (chain height) tokens)); is_node = m; within = omega arith }

operand_read : {room height : ℕ} {left from after : List Token} (o : Operand)
    → height ≤ 5 → IsOperator height o.operator left from → IsRead room (of (form_at height)) (expr o.value) from from after → 7 ≤ height + level_of o.value
    → AreRead room (operand height) (operand_parts (6 - height) o) left after
operand_read {room = room} {height = height} {left = left} {from = from} o within is r tight =
    let is_level : operator_level o.operator + height ≡ 6 = is.level in
    allow (eq_true (operator_level o.operator) (6 - height) (omega arith))
    (allow (lt_true (6 - height) (level_of o.value) (omega arith)) (operator_read room o.operator height left from is then as_part r))

pub no_operand_yet : (room height : ℕ) (tokens : List Token) (items : List Operand) → items ≡ [] → AreOperands room height tokens items tokens
no_operand_yet room height tokens items is =
    record {
      some = some_begin (operand_parts (6 - height)) room (operand height) tokens items is;
      level = λ le. absurd (let none : length items ≡ 0 = ap length is in omega arith);
    }

level_of_more : (items : List Operand) (last : Operand) (height : ℕ) → operator_level last.operator + height ≡ 6
    → (1 ≤ length items → list_level items + height ≡ 6) → list_level (items ++ last ∷ []) + height ≡ 6
level_of_more [] last height is so_far = is
level_of_more (first ∷ items) last height is so_far = so_far (omega arith)

pub one_operand : {room height : ℕ} {tokens left from after : List Token} (items : List Operand) (last : Operand) (more : List Operand)
    → more ≡ items ++ last ∷ [] → height ≤ 5 → IsOperator height last.operator left from
    → IsRead room (of (form_at height)) (expr last.value) from from after → 7 ≤ height + level_of last.value
    → AreOperands room height tokens items left → AreOperands room height tokens more after
one_operand {height = height} {left = left} {from = from} items last more is within o r tight so_far =
    record {
      some = some_more items last more is (operator_ahead last.operator height left from o) (operand_read last within o r tight) so_far.some;
      level = λ le. subst (λ xs. list_level xs + height ≡ 6) (sym is) (level_of_more items last height o.level so_far.level);
    }

pub fault_in_operand : {room height : ℕ} {tokens left from : List Token} {items : List Operand} {op : Operator} {fault : Fault}
    → IsOperator height op left from → Refuses room (of (form_at height)) from fault
    → AreOperands room height tokens items left → Refuses room (chain height) tokens fault
fault_in_operand {room = room} {height = height} {left = left} {from = from} {op = op} o r so_far =
    fault_in_one (operator_ahead op height left from o) (behind (operator_read room op height left from o) r) so_far.some.read

each_operand : (level : ℕ) (items : List Operand) (others : Parts) → operands_before level items others ≡ each (operand_parts level) items others
each_operand level [] others = refl
each_operand level (first ∷ items) others = ap (λ p. operand_parts level first p) (each_operand level items others)

operands_alone : (level : ℕ) (items : List Operand) → operands_before level items none ≡ operand_list level items
operands_alone level [] = refl
operands_alone level (first ∷ items) = ap (λ p. operand_parts level first p) (operands_alone level items)

pub operands_end : {room height : ℕ} {tokens left : List Token} (items : List Operand)
    → is_ahead (kinds_at height) (symbols left) ≡ false
    → AreOperands room height tokens items left → AreRead room (chain height) (operands_before (6 - height) items) tokens left
operands_end {height = height} items ended so_far = all_read (operands_before (6 - height) items) (each_operand (6 - height) items) ended so_far.some.read

pub operands_level : {room height : ℕ} {tokens left : List Token} (items : List Operand)
    → is_ahead (kinds_at height) (symbols tokens) ≡ true → is_ahead (kinds_at height) (symbols left) ≡ false
    → AreOperands room height tokens items left → list_level items + height ≡ 6
operands_level {height = height} items begun ended so_far = so_far.level (some_end (kinds_at height) items begun ended so_far.some)

pub operation_read : {room height : ℕ} {start tokens left : List Token} (span : Span) (first : Expr) (items : List Operand)
    → height ≤ 5 → Covers span start left → IsNode (expr first) start tokens → 7 ≤ height + level_of first → list_level items + height ≡ 6
    → AreRead room (chain height) (operands_before (6 - height) items) tokens left
    → IsRead room (chain height) (operation_node span first items) start tokens left
operation_read {height = height} {tokens = tokens} {left = left} span first items within covers m tight is_level r =
    let same : 6 - height ≡ list_level items = omega arith in
    let spelled_so : AreParts (operands_before (6 - height) items none) tokens left = r.spells none left nothing in
    let alone : AreParts (operand_list (list_level items) items) tokens left =
    subst (λ p. AreParts p tokens left) (ap (λ n. operands_before n items none) same ∙ operands_alone (list_level items) items) spelled_so in
    record {
      passes = r.passes;
      is_node = spelled covers (allowed (lt_true 0 (list_level items) (omega arith)) (allowed (lt_true (list_level items) (level_of first) (omega arith)) (inside m alone)));
      within = r.within;
    }

pub all_operands : {room height at : ℕ} {start tokens left : List Token} {joined : Expr}
    → height ≤ at → IsOperand room height start tokens at joined left → IsRead room (chains height 0) (expr joined) start tokens left
all_operands {room = room} {height = height} {at = at} {tokens = tokens} {left = left} done_all o =
    let none_left : height - at ≡ 0 = omega arith in
    record {
      passes = all_of (subst (λ n. Leads room (chains height 0) tokens (chains n at) left) none_left o.leads);
      is_node = o.is_node;
      within = o.leads.within;
    }

-- suffixes
abbrev pub suffix_parts : Suffix → Parts → Parts
suffix_parts s parts = part (suffix s) parts

pub no_suffix : {room : ℕ} {start tokens : List Token} (value : Expr)
    → is_ahead (sign_kind Dot ∷ sign_kind OpenBracket ∷ []) (symbols tokens) ≡ false
    → IsNode (expr value) start tokens → IsRead room (repeated (of Form.suffix)) (expr value) start tokens tokens
no_suffix {room = room} {tokens = tokens} value ended m =
    record { passes = all_of (no_more (form Form.suffix done) (λ row. row) ended (leads_here room (repeated (of Form.suffix)) tokens)); is_node = m; within = omega arith }

each_suffix : (items : List Suffix) (others : Parts) → suffixes_before items others ≡ each suffix_parts items others
each_suffix [] others = refl
each_suffix (first ∷ items) others = ap (λ p. part (suffix first) p) (each_suffix items others)

suffixes_alone : (items : List Suffix) → suffixes_before items none ≡ suffix_list items
suffixes_alone [] = refl
suffixes_alone (first ∷ items) = ap (λ p. part (suffix first) p) (suffixes_alone items)

pub suffixes_end : {room : ℕ} {tokens left : List Token} (items : List Suffix)
    → is_ahead (sign_kind Dot ∷ sign_kind OpenBracket ∷ []) (symbols left) ≡ false
    → AreSome suffix_parts room (of Form.suffix) tokens items left → AreRead room (repeated (of Form.suffix)) (suffixes_before items) tokens left
suffixes_end items ended so_far = all_read (suffixes_before items) (each_suffix items) ended so_far.read

pub are_some : (items : List Suffix) → 1 ≤ length items → is_some items ≡ true
are_some [] le = absurd (omega arith)
are_some (first ∷ items) le = refl

pub postfix_read : {room : ℕ} {start tokens left : List Token} (span : Span) (value : Expr) (items : List Suffix)
    → Covers span start left → IsNode (expr value) start tokens → 9 ≤ level_of value → is_some items ≡ true
    → AreRead room (repeated (of Form.suffix)) (suffixes_before items) tokens left
    → IsRead room (repeated (of Form.suffix)) (postfix_node span value items) start tokens left
postfix_read {tokens = tokens} {left = left} span value items covers m tight some r =
    record {
      passes = r.passes;
      is_node = spelled covers (allowed (is_true (is_some items) some) (allowed (le_true 9 (level_of value) tight)
          (inside m (subst (λ p. AreParts p tokens left) (suffixes_alone items) (r.spells none left nothing)))));
      within = r.within;
    }

-- the arguments end
pub items_end : {room : ℕ} {tokens left : List Token} (span : Span) (items : List Expr)
    → is_ahead first_of_expression (symbols tokens) ≡ true → is_ahead (sign_kind Comma ∷ []) (symbols left) ≡ false → Covers span tokens left
    → AreItems room tokens items left → IsRead room (maybe (form arguments done)) (node span (args_list items)) tokens tokens left
items_end {room = room} {tokens = tokens} {left = left} span items begun ended covers so_far =
    present_read begun (of_alternative arguments 0 refl begun
    (record {
      passes = all_of (no_more (more_items done) (λ row. row) ended so_far.leads);
      is_node = spelled covers (subst (λ p. AreParts p tokens left) (args_onto_none items) (so_far.spells none left nothing));
      within = so_far.leads.within;
    }))

pub no_items : {room : ℕ} {tokens : List Token} (span : Span) (items : List Expr)
    → items ≡ [] → Covers span tokens tokens → is_ahead first_of_expression (symbols tokens) ≡ false
    → IsRead room (maybe (form arguments done)) (node span (args_list items)) tokens tokens tokens
no_items {room = room} {tokens = tokens} span items empty covers ahead =
    subst (λ xs. IsRead room (maybe (form arguments done)) (node span (args_list xs)) tokens tokens tokens) (sym empty)
    (as_node span covers (absent (form arguments done) ahead))
