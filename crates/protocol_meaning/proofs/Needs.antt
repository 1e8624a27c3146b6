-- What a transition needs of tables is what a try of it asks for.
use Rattle.std.proofs.Common.{◌≡◌, ◌++◌, ◌+◌, ◌==◌, ◌∙◌, ℕ, zero, suc, Bool, true, false, cond, Option, None, Some, List, [], ◌∷◌, flat_map, length, slice_get, append_assoc, refl, sym, ap, arith}
use Rattle.std.specs.Prelude.{filter_map, is_none, option_and_then}
use Rattle.std.specs.List.{cons_option, count_by}
use Rattle.std.specs.Option.{option_map, option_or}
use Rattle.std.specs.Str.{bytes_eq}
use Rattle.std.proofs.lemmas.Grind.{flat_map-append}
use Rattle.std.proofs.lemmas.List.{length-append}
use Rattle.std.proofs.lemmas.List.Elements.{filter_map-append}
use Rattle.std.proofs.lemmas.List.Sums.{sum_by-cons}
use Rattle.std.proofs.lemmas.Option.{slice_get-map}
use Rattle.ruby_symbols.specs.declared.machine.ActionSymbol.{ActionSymbol}
use Rattle.ruby_symbols.specs.declared.machine.MachineSymbols.{MachineSymbols}
use Rattle.ruby_symbols.specs.declared.machine.TransitionSymbol.{TransitionSymbol}
use Rattle.ruby_symbols.specs.declared.names.Named.{Named}
use Rattle.ruby_symbols.specs.declared.names.Named.TheVariants.{Table, Value, Reference, Buffer, InPort, OutPort, Sequencer}
use Rattle.ruby_symbols.specs.Prelude.{buffer_named, port_named, port_or_sequencer, sequencer_named, table_named, field_named}
use Rattle.slicc_ast.specs.declared.tree.expression.Suffix.{Suffix, Field, Method', Index}
use Rattle.slicc_ast.specs.declared.tree.expression.Expr.{Expr, Number, True, False, Nothing, Variable, Member, New, Call', Row_of-Expr, end_of-Expr, more_of-Expr, Row_of-Operand, end_of-Operand, more_of-Operand, Row_of-Suffix, end_of-Suffix, more_of-Suffix}
use Rattle.slicc_ast.specs.Prelude.{Operation', Not', Negate', Postfix', IsValid', IsInvalid', Cast', Group'}
use Rattle.slicc_ast.specs.declared.tree.item.Tree.{Tree}
use Rattle.slicc_ast.specs.declared.tree.machine.Decl.{Decl}
use Rattle.slicc_ast.specs.declared.tree.machine.Decl.TheVariants as decl
use Rattle.slicc_ast.specs.declared.tree.machine.Machine.{Machine}
use Rattle.slicc_ast.specs.declared.tree.span.Span.{Span}
use Rattle.slicc_ast.specs.declared.tree.statement.Block.{Block}
use Rattle.slicc_ast.specs.declared.tree.statement.If.{If, If', Held-If-otherwise, None', Some', Row_of-ElseIf, end_of-ElseIf, more_of-ElseIf}
use Rattle.slicc_ast.specs.declared.tree.statement.Stmt.{Stmt, Declare, Assign, Evaluate, Return, If as IfStmt, Peek', Enqueue', StallAndWait, CheckAllocate, Error, Assert, Print, Row_of-Stmt, end_of-Stmt, more_of-Stmt}
use Rattle.slicc_plan.specs.declared.part.Body.{Body}
use Rattle.slicc_plan.specs.declared.part.Part.{Part}
use Rattle.slicc_plan.specs.declared.part.Part.TheVariants.{Plain}
use Rattle.slicc_plan.specs.Prelude.{IsAccepted, Names, action_in, arguments_parts, assignment, bodies_of, body_of, call_part, changes_more, changing, check_in, check_part, expr_parts, free_changes, if_parts, is_one_of, name_in, number_in, operands_parts, optional_parts, others_parts, otherwise_parts, row_parts, stmt_parts, suffix_parts, suffixes_parts, written_actions, machines_of, symbols_of, action_symbol, machine_symbols, numbered_from, checks_or_none, needs, HasSymbols}
use Rattle.slicc_plan.specs.BodyParts.{Written, names_in}
use Rattle.slicc_plan.specs.Numbering.{need_of}
use Rattle.slicc_plan.proofs.Numbering.{actions_written, needs_by_symbols, one_numbering, symbols_are}
use Rattle.body_meaning.specs.Actions.{Tables, block_names, if_names, names_in as picked_in, others_names, otherwise_names, row_names}
use Rattle.body_meaning.specs.Prelude.{Reading, action_block, block_of, body_of_action, is_table, names_table, need}
use Rattle.protocol_meaning.specs.Prelude.{reading_of, reading_with}

-- Statements: what a body has of checks is what its `check_allocate` statements name.

abbrev checks_in : List Part → List ℕ
checks_in parts = flat_map check_in parts

two : (ps qs : List Part) (xs ys : List ℕ) → checks_in ps ≡ xs → checks_in qs ≡ ys → checks_in (ps ++ qs) ≡ xs ++ ys
two ps qs xs ys h k = flat_map-append check_in ps qs ∙ ap (λ zs. zs ++ checks_in qs) h ∙ ap (λ zs. xs ++ zs) k

one_part : (p : Part) → check_in p ≡ [] → checks_in (p ∷ []) ≡ []
one_part p h = ap (λ xs. xs ++ []) h

changing_none : (b : Bool) (place : Span) → check_in (changing b place) ≡ []
changing_none true place = refl
changing_none false place = refl

call_none : (text : List ℕ) (place : Span) (o : Option ℕ) → check_in (call_part text place o) ≡ []
call_none text place (Some k) = refl
call_none text place None = changing_none (is_one_of free_changes text) place

check_found : (o : Option ℕ) → checks_in (check_part o ∷ []) ≡ cons_option o []
check_found (Some k) = refl
check_found None = refl

module _ (names : Names) where
  mutual
    expr_none : (e : Expr) → checks_in (expr_parts names e) ≡ []
    expr_none (Operation' first n others span) = two (expr_parts names first) (operands_parts names others) [] [] (expr_none first) (operands_none others)
    expr_none (Not' operand span) = expr_none operand
    expr_none (Negate' operand span) = expr_none operand
    expr_none (Postfix' inner n suffixes span) = two (expr_parts names inner) (suffixes_parts names (name_in inner) span suffixes) [] [] (expr_none inner) (suffixes_none (name_in inner) span suffixes)
    expr_none (Number n span) = refl
    expr_none (True span) = refl
    expr_none (False span) = refl
    expr_none (Nothing span) = refl
    expr_none (Variable name) = refl
    expr_none (Member owner text span) = refl
    expr_none (Call' called shape row arguments span) =
        two (call_part called.text span (number_in names.functions called.text) ∷ []) (arguments_parts names row) [] []
        (one_part (call_part called.text span (number_in names.functions called.text)) (call_none called.text span (number_in names.functions called.text))) (arguments_none row)
    expr_none (New made span) = refl
    expr_none (IsValid' inner span) = expr_none inner
    expr_none (IsInvalid' inner span) = expr_none inner
    expr_none (Cast' target mode inner span) = expr_none inner
    expr_none (Group' inner span) = expr_none inner

    operands_none : {m : _} (row : Row_of-Operand m) → checks_in (operands_parts names row) ≡ []
    operands_none end_of-Operand = refl
    operands_none (more_of-Operand operator inner row) = two (Plain ∷ expr_parts names inner) (operands_parts names row) [] [] (expr_none inner) (operands_none row)

    suffix_none : (receiver : Option (List ℕ)) (place : Span) (x : Suffix) → checks_in (suffix_parts names receiver place x) ≡ []
    suffix_none receiver place (Field field span) = refl
    suffix_none receiver place (Method' method shape row arguments span) =
        two (changing (changes_more names receiver method.text) place ∷ []) (arguments_parts names row) [] []
        (one_part (changing (changes_more names receiver method.text) place) (changing_none (changes_more names receiver method.text) place)) (arguments_none row)
    suffix_none receiver place (Index key span) = expr_none key

    suffixes_none : {m : _} (receiver : Option (List ℕ)) (place : Span) (row : Row_of-Suffix m) → checks_in (suffixes_parts names receiver place row) ≡ []
    suffixes_none receiver place end_of-Suffix = refl
    suffixes_none receiver place (more_of-Suffix first row) = two (suffix_parts names receiver place first) (suffixes_parts names None place row) [] [] (suffix_none receiver place first) (suffixes_none None place row)

    arguments_none : {m : _} (row : Row_of-Expr m) → checks_in (arguments_parts names row) ≡ []
    arguments_none end_of-Expr = refl
    arguments_none (more_of-Expr first row) = two (expr_parts names first) (arguments_parts names row) [] [] (expr_none first) (arguments_none row)

  optional_none : (o : Option Expr) → checks_in (optional_parts names o) ≡ []
  optional_none None = refl
  optional_none (Some e) = expr_none e

  abbrev found : List (List ℕ) → List ℕ
  found texts = filter_map (number_in names.tables) texts

  two_found : (ps qs : List Part) (xs ys : List (List ℕ)) → checks_in ps ≡ found xs → checks_in qs ≡ found ys → checks_in (ps ++ qs) ≡ found (xs ++ ys)
  two_found ps qs xs ys h k = two ps qs (found xs) (found ys) h k ∙ sym (filter_map-append (number_in names.tables) xs ys)

  mutual
    stmt_checks : (x : Stmt) → checks_in (stmt_parts names x) ≡ found (picked_in Tables x)
    stmt_checks (Declare kind local e span) = expr_none e
    stmt_checks (Assign place e span) =
        two (assignment place span ∷ []) (expr_parts names place ++ expr_parts names e) [] []
        (one_part (assignment place span) (changing_none (is_none (name_in place)) span)) (two (expr_parts names place) (expr_parts names e) [] [] (expr_none place) (expr_none e))
    stmt_checks (Evaluate e span) = expr_none e
    stmt_checks (Return e span) = optional_none e
    stmt_checks (IfStmt i) = if_checks i
    stmt_checks (Peek' port message attributes shape row block span) = row_checks row
    stmt_checks (Enqueue' port message latency shape row block span) =
        two (optional_parts names latency) (row_parts names row) [] (found (row_names Tables row)) (optional_none latency) (row_checks row)
    stmt_checks (StallAndWait port address span) = expr_none address
    stmt_checks (CheckAllocate table span) = check_found (number_in names.tables table.text)
    stmt_checks (Error text span) = refl
    stmt_checks (Assert condition span) = expr_none condition
    stmt_checks (Print which arguments span) = refl

    if_checks : (i : If) → checks_in (if_parts names i) ≡ found (if_names Tables i)
    if_checks (If' condition shape row block n others otherwise span) =
        two (expr_parts names condition) (row_parts names row ++ (others_parts names others ++ otherwise_parts names otherwise)) []
        (found (row_names Tables row ++ (others_names Tables others ++ otherwise_names Tables otherwise))) (expr_none condition)
        (two_found (row_parts names row) (others_parts names others ++ otherwise_parts names otherwise) (row_names Tables row) (others_names Tables others ++ otherwise_names Tables otherwise) (row_checks row)
        (two_found (others_parts names others) (otherwise_parts names otherwise) (others_names Tables others) (otherwise_names Tables otherwise) (others_checks others) (otherwise_checks otherwise)))

    others_checks : {m : _} (row : Row_of-ElseIf m) → checks_in (others_parts names row) ≡ found (others_names Tables row)
    others_checks end_of-ElseIf = refl
    others_checks (more_of-ElseIf condition shape row block more) =
        two_found (expr_parts names condition ++ row_parts names row) (others_parts names more) (row_names Tables row) (others_names Tables more)
        (two (expr_parts names condition) (row_parts names row) [] (found (row_names Tables row)) (expr_none condition) (row_checks row)) (others_checks more)

    otherwise_checks : (x : Held-If-otherwise) → checks_in (otherwise_parts names x) ≡ found (otherwise_names Tables x)
    otherwise_checks None' = refl
    otherwise_checks (Some' shape row block) = row_checks row

    row_checks : {m : _} (row : Row_of-Stmt m) → checks_in (row_parts names row) ≡ found (row_names Tables row)
    row_checks end_of-Stmt = refl
    row_checks (more_of-Stmt first row) = two_found (stmt_parts names first) (row_parts names row) (picked_in Tables first) (row_names Tables row) (stmt_checks first) (row_checks row)

  all_checks : (xs : List Stmt) → checks_in (flat_map (stmt_parts names) xs) ≡ found (flat_map (picked_in Tables) xs)
  all_checks [] = refl
  all_checks (x ∷ xs) = two_found (stmt_parts names x) (flat_map (stmt_parts names) xs) (picked_in Tables x) (flat_map (picked_in Tables) xs) (stmt_checks x) (all_checks xs)

  abbrev block_in : Written → Block
  block_in w = w.block

  body_checks : (o : Option Written) → checks_or_none (option_map (body_of names) o) ≡ found (block_names Tables (option_map block_in o))
  body_checks None = refl
  body_checks (Some w) = all_checks w.block.statements

-- Counting: a number among those that are found by names, and the names that stand for it.

not_a_table : (table : ℕ) (o : Option (List ℕ)) (text : List ℕ) → is_table table (sequencer_named o text) ≡ false
not_a_table table None text = refl
not_a_table table (Some name) text = by (bytes_eq name text)
  where
    by : (b : Bool) → is_table table (cond b (Some Sequencer) None) ≡ false
    by true = refl
    by false = refl

none_else : (table : ℕ) (v r b i o : Option ℕ) (s : Option Named) → is_table table s ≡ false → is_table table (option_or (option_map Value v) (option_or (option_map Reference r) (option_or (option_map Buffer b) (option_or (option_map InPort i) (option_or (option_map OutPort o) s))))) ≡ false
none_else table (Some k) r b i o s h = refl
none_else table None (Some k) b i o s h = refl
none_else table None None (Some k) i o s h = refl
none_else table None None None (Some k) o s h = refl
none_else table None None None None (Some k) s h = refl
none_else table None None None None None s h = h

module _ (m : MachineSymbols) (tables : List (List ℕ)) (same : (text : List ℕ) → number_in tables text ≡ table_named m text) (table : ℕ) where
  abbrev else_named : List ℕ → Option Named
  else_named text =
      option_or (option_map Value (field_named m.values text)) (option_or (option_map Reference (field_named m.references text))
      (option_or (option_map Buffer (buffer_named m text)) (port_or_sequencer m text)))

  else_none : (text : List ℕ) → is_table table (else_named text) ≡ false
  else_none text =
      none_else table (field_named m.values text) (field_named m.references text) (buffer_named m text) (port_named m.in_ports text) (port_named m.out_ports text)
      (sequencer_named m.sequencer text) (not_a_table table m.sequencer text)

  abbrev numbers : List (List ℕ) → List ℕ
  numbers texts = filter_map (number_in tables) texts

  abbrev as_number : Bool → ℕ
  as_number b = cond b 1 0

  one_more : (text : List ℕ) (o : Option ℕ) (ks : List ℕ) → count_by (λ k. k == table) (cons_option o ks) ≡ cond (is_table table (option_or (option_map Table o) (else_named text))) 1 0 + count_by (λ k. k == table) ks
  one_more text None ks =
      let none : as_number (is_table table (else_named text)) ≡ 0 = ap as_number (else_none text) in
      omega (arith, none)
  one_more text (Some k) ks = sum_by-cons (λ j. cond (j == table) 1 0) k ks

  counted : (texts : List (List ℕ)) → count_by (λ k. k == table) (numbers texts) ≡ count_by (names_table m table) texts
  counted [] = refl
  counted (t ∷ ts) =
      ap (λ o. count_by (λ k. k == table) (cons_option o (numbers ts))) (same t)
      ∙ one_more t (table_named m t) (numbers ts)
      ∙ ap (λ n. cond (names_table m table t) 1 0 + n) (counted ts)
      ∙ sym (sum_by-cons (λ text. cond (names_table m table text) 1 0) t ts)

-- Bodies of actions, by the numbers of their symbols.

at_end : (before : List Decl) (d : Decl) (ds : List Decl) → slice_get (before ++ d ∷ ds) (length before) ≡ Some d
at_end [] d ds = refl
at_end (b ∷ before) d ds = at_end before d ds

abbrev block_among : List Decl → Option ActionSymbol → Option Block
block_among all None = None
block_among all (Some a) = action_block (slice_get all a.declaration)

blocks_same : (before ds : List Decl) (a : ℕ) → block_among (before ++ ds) (slice_get (numbered_from action_symbol (length before) ds) a) ≡ option_map (λ (w : Written). w.block) (slice_get (flat_map action_in ds) a)
blocks_same before [] a = refl
blocks_same before (d ∷ ds) a = by (λ more k. blocks_same more ds k) d a
  where
    next : ((more : List Decl) (k : ℕ) → block_among (more ++ ds) (slice_get (numbered_from action_symbol (length more) ds) k) ≡ option_map (λ (w : Written). w.block) (slice_get (flat_map action_in ds) k))
        → (e : Decl) (k : ℕ) → block_among (before ++ e ∷ ds) (slice_get (numbered_from action_symbol (length before + 1) ds) k) ≡ option_map (λ (w : Written). w.block) (slice_get (flat_map action_in ds) k)
    next rest e k =
        let long : length (before ++ e ∷ []) ≡ length before + 1 = length-append before (e ∷ []) in
        ap (λ all. block_among all (slice_get (numbered_from action_symbol (length before + 1) ds) k)) (sym (append_assoc before (e ∷ []) ds))
        ∙ ap (λ n. block_among ((before ++ e ∷ []) ++ ds) (slice_get (numbered_from action_symbol n ds) k)) (sym long)
        ∙ rest (before ++ e ∷ []) k

    by : ((more : List Decl) (k : ℕ) → block_among (more ++ ds) (slice_get (numbered_from action_symbol (length more) ds) k) ≡ option_map (λ (w : Written). w.block) (slice_get (flat_map action_in ds) k))
        → (e : Decl) (k : ℕ) → block_among (before ++ e ∷ ds) (slice_get (numbered_from action_symbol (length before) (e ∷ ds)) k) ≡ option_map (λ (w : Written). w.block) (slice_get (flat_map action_in (e ∷ ds)) k)
    by rest (decl.Action x) zero = ap action_block (at_end before (decl.Action x) ds)
    by rest (decl.Action x) (suc k) = next rest (decl.Action x) k
    by rest (decl.States x) k = next rest (decl.States x) k
    by rest (decl.Enumeration x) k = next rest (decl.Enumeration x) k
    by rest (decl.Structure x) k = next rest (decl.Structure x) k
    by rest (decl.OutPort x) k = next rest (decl.OutPort x) k
    by rest (decl.InPort x) k = next rest (decl.InPort x) k
    by rest (decl.Transition x) k = next rest (decl.Transition x) k
    by rest (decl.Function x) k = next rest (decl.Function x) k
    by rest (decl.Object x) k = next rest (decl.Object x) k

-- of a reading of a machine

block_is : (s : Reading) (o : Option ActionSymbol) → block_of s o ≡ block_among s.tree.declarations o
block_is s None = refl
block_is s (Some a) = refl

bodies_are : (trees : List Tree) (k : ℕ) (s : Reading) → s.machine ≡ machine_symbols trees k s.tree → (a : ℕ) → body_of_action s a ≡ option_map (λ (w : Written). w.block) (slice_get (flat_map action_in s.tree.declarations) a)
unfolding machine_symbols
bodies_are trees k s is a =
    block_is s (slice_get s.machine.actions a)
    ∙ ap (λ (x : MachineSymbols). block_among s.tree.declarations (slice_get x.actions a)) is
    ∙ blocks_same [] s.tree.declarations a

each_found : (names : Names) (f : ℕ → List ℕ) (g : ℕ → List (List ℕ)) → ((a : ℕ) → f a ≡ filter_map (number_in names.tables) (g a)) → (actions : List ℕ) → flat_map f actions ≡ filter_map (number_in names.tables) (flat_map g actions)
each_found names f g h [] = refl
each_found names f g h (a ∷ actions) =
    ap (λ xs. xs ++ flat_map f actions) (h a) ∙ ap (λ xs. filter_map (number_in names.tables) (g a) ++ xs) (each_found names f g h actions)
    ∙ sym (filter_map-append (number_in names.tables) (g a) (flat_map g actions))

from_reading : (trees : List Tree) (k : ℕ) (s : Reading) → reading_of trees k ≡ Some s → HasSymbols trees k s.tree s.machine
from_reading trees k s e = by (slice_get (symbols_of trees).machines k) (slice_get (machines_of trees) k) refl refl e
  where
    by : (o : Option MachineSymbols) (p : Option Machine) → slice_get (symbols_of trees).machines k ≡ o → slice_get (machines_of trees) k ≡ p
        → option_and_then (λ x. option_map (reading_with (symbols_of trees) k x) p) o ≡ Some s → HasSymbols trees k s.tree s.machine
    by None p h g e = absurd (cc e)
    by (Some x) None h g e = absurd (cc e)
    by (Some x) (Some m) h g e =
        let same : reading_with (symbols_of trees) k x m ≡ s = cc e in
        record { machine = g ∙ ap (λ (r : Reading). Some r.tree) same; symbols = h ∙ ap (λ (r : Reading). Some r.machine) same }

pub needs_of_tries : (trees : List Tree) (k transition table : ℕ) (s : Reading) (row : TransitionSymbol) → IsAccepted trees → reading_of trees k ≡ Some s → slice_get s.machine.transitions transition ≡ Some row → needs trees k transition table ≡ need s row.actions table
needs_of_tries trees k transition table s row h is at =
    let has = from_reading trees k s is in
    let names = names_in trees s.tree in
    let one = one_numbering trees k s.tree s.machine h has in
    let kept : written_actions s.tree ≡ flat_map action_in s.tree.declarations = actions_written trees k s.tree h has.machine in
    let bodies : List Body = bodies_of names (written_actions s.tree) in
    let each : (a : ℕ) → checks_or_none (slice_get (bodies_of names (written_actions s.tree)) a) ≡ filter_map (number_in names.tables) (block_names Tables (body_of_action s a)) = λ a.
    ap (λ ws. checks_or_none (slice_get (bodies_of names ws) a)) kept
    ∙ ap checks_or_none (slice_get-map (body_of names) (flat_map action_in s.tree.declarations) a)
    ∙ body_checks names (slice_get (flat_map action_in s.tree.declarations) a)
    ∙ ap (λ o. filter_map (number_in names.tables) (block_names Tables o)) (sym (bodies_are trees k s (symbols_are trees k s.tree s.machine has) a)) in
    needs_by_symbols trees k s.tree s.machine h has transition table
    ∙ ap (need_of (bodies_of names (written_actions s.tree)) table) at
    ∙ ap (count_by (λ j. j == table)) (each_found names (λ a. checks_or_none (slice_get (bodies_of names (written_actions s.tree)) a)) (λ a. block_names Tables (body_of_action s a)) each row.actions)
    ∙ counted s.machine names.tables one.tables table (flat_map (λ a. block_names Tables (body_of_action s a)) row.actions)
