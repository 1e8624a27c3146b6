-- All calls on something whose answer may be used, by what that is.
use Rattle.std.proofs.Common.{◌≡◌, ◌∙◌, ◌++◌, ◌+◌, ◌≤◌, ◌==◌, ◌||◌, ℕ, Bool, true, false, not, cond, codes, None, Some, List, [], ◌∷◌, length, refl, sym, ap, subst, option_and_then, arith}
use Rattle.std.specs.Str.{bytes_eq}
use Rattle.std.proofs.lemmas.Bool.{leb-true}
use Rattle.slicc_ast.specs.declared.tree.expression.Expr.{Row_of-Expr}
use Rattle.slicc_ast.specs.declared.tree.machine.Machine.{Machine}
use Rattle.slicc_ast.specs.declared.tree.name.Name.{Name}
use Rattle.slicc_ast.specs.declared.tree.span.Span.{Span}
use Rattle.ruby_value.specs.declared.kind.Kind.TheVariants as kind
use Rattle.ruby_symbols.specs.declared.machine.TableSymbol.{TableSymbol}
use Rattle.slicc_plan.specs.declared.built_in.BuiltInType.TheVariants.{Address, Cache, DataBlock, Directory, NetDest, Sequencer, TbeTable}
use Rattle.slicc_plan.specs.BuiltInCalls.{Receiver, in_port, cache, directory, tbe_table, net_dest, data_block, sequencer, entry, Answer, no_value, answered, line, anywhere, of_lines, Call, call, calls, reading, with_new_line}
use Rattle.slicc_plan.specs.CallTypes.{Typed, answer_of, call_named, call_on, entry_structures, found_method, method_call as method_typed, plain, receiver_number, structure_on, type_of_line, wanted_by, wrong_arguments, broken_in}
use Rattle.slicc_plan.specs.Environment.{BodySort, Bound, Environment}
use Rattle.slicc_plan.specs.ExpressionTypes.{arguments_typed, typed}
use Rattle.slicc_plan.specs.Meanings.{Meaning, value, no_line, bare_line, new_line, incoming, outgoing, table, in_port as in_port_meaning, out_port as out_port_meaning, nothing as nothing_meaning, unknown, is_line_of, new_line_of, of_built_in}
use Rattle.slicc_plan.specs.Types.{KnownType, built_in, enumerated, structured}
use Rattle.slicc_plan.proofs.There.{There}
use Rattle.rules_symbols.specs.CallArguments.{AreArguments}
use Rattle.rules_symbols.specs.CallRows.{call_number}
use Rattle.rules_symbols.specs.TypedMeaning.{IsTyped, IsTypedIn}
use Rattle.rules_symbols.proofs.Arguments.{arguments_are, written_known}
use Rattle.rules_symbols.proofs.ExpressionForms.{method_is}
use Rattle.rules_symbols.proofs.Lists.{every, every_there}
use Rattle.rules_symbols.proofs.StatementForms.{IsCalled, counted_is}
use Rattle.rules_symbols.proofs.TypedParts.{typed_sure}
use Rattle.rules_symbols.proofs.Types.{text_same}
use Rattle.action_code.specs.Prelude.{operations}
use Rattle.body_meaning.specs.declared.frame.Frame.{Frame}
use Rattle.body_meaning.specs.Prelude.{table_call}
use Rattle.code_meaning.specs.Prelude.{Held}
use Rattle.body_code.specs.declared.left.Left.{Left}
use Rattle.body_code.specs.declared.left.Left.TheVariants as left
use Rattle.body_code.specs.declared.left.NameAt.{NameAt}
use Rattle.body_code.specs.Prelude.{code_kind, entry_kind}
use Rattle.code_laws.specs.Calling.{CallsDo}
use Rattle.code_laws.specs.Holding.{Holds, IsInPortLeft, IsLeft, IsTableLeft, is_used}
use Rattle.code_laws.specs.Setting.{IsSet, Setting, env_of}
use Rattle.code_laws.specs.Whole.{AreWhole}
use Rattle.code_laws.proofs.AllocateForms.{allocate_called, cache_one, directory_one}
use Rattle.code_laws.proofs.BuiltInForms.{IsReady, ready}
use Rattle.code_laws.proofs.CallTables.{CallFound, call_found, wants_new}
use Rattle.code_laws.proofs.Forms.{AllGood}
use Rattle.code_laws.proofs.OnTables.{Called, port_called, set_called, table_called}
use Rattle.code_laws.proofs.Receivers.{IsSorted, cache_sorted, directory_sorted, tbe_sorted}
use Rattle.code_laws.proofs.TableFacts.{IsAnswerable, is_alone, no_other_work, on_table, takes_no_new, used_answer}

-- More of the table of calls.

abbrev is_silent : Answer → Bool
is_silent no_value = true
is_silent _ = false

abbrev is_quiet : Receiver → Bool
is_quiet data_block = true
is_quiet sequencer = true
is_quiet entry = true
is_quiet _ = false

all_quiet : every (λ (c : Call). not (is_quiet c.receiver) || is_silent c.answer) calls ≡ true
all_quiet = refl

all_allocate : every (λ (c : Call). not (wants_new c) || bytes_eq c.name (codes "allocate")) calls ≡ true
all_allocate = refl

all_old : every (λ (c : Call). not (receiver_number c.receiver == 3) || not (wants_new c)) calls ≡ true
all_old = refl

implies : (a b : Bool) → (not a || b) ≡ true → a ≡ true → b ≡ true
implies true b e is = e
implies false b e is = absurd (cc is)

not_false : (b : Bool) → not b ≡ true → b ≡ false
not_false false e = refl
not_false true e = absurd (cc e)

quiet_answer : (m : Machine) (c : Call) → There calls c → is_quiet c.receiver ≡ true → is_used (answer_of m c.receiver c.answer) ≡ true → ⊥
quiet_answer m c there quiet used = by c.answer (implies (is_quiet c.receiver) (is_silent c.answer) (every_there (λ (c : Call). not (is_quiet c.receiver) || is_silent c.answer) calls c all_quiet there) quiet) used
  where
    by : (a : Answer) → is_silent a ≡ true → is_used (answer_of m c.receiver a) ≡ true → ⊥
    by no_value e used = cc used
    by (answered b) e used = cc e
    by line e used = cc e

is_allocate : (c : Call) → There calls c → wants_new c ≡ true → c.name ≡ codes "allocate"
is_allocate c there new = text_same c.name (codes "allocate") (implies (wants_new c) (bytes_eq c.name (codes "allocate")) (every_there (λ (c : Call). not (wants_new c) || bytes_eq c.name (codes "allocate")) calls c all_allocate there) new)

tbe_old : (c : Call) → There calls c → c.receiver ≡ tbe_table → wants_new c ≡ false
tbe_old c there on = not_false (wants_new c) (implies (receiver_number c.receiver == 3) (not (wants_new c)) (every_there (λ (c : Call). not (receiver_number c.receiver == 3) || not (wants_new c)) calls c all_old there) (ap (λ x. receiver_number x == 3) on))

module _ (z : Setting) (is : IsSet z) (calling : CallsDo z) (body : BodySort) (answer : Meaning) (bound : List Bound) (names : List NameAt) (frame : Frame) (h : Held)
    (typed_in : IsTypedIn z.s.number (env_of z body answer bound)) (holds : Holds z bound names frame h) where
  abbrev E : Environment
  E = env_of z body answer bound

  abbrev C : {m : _} → Left → Meaning → List ℕ → Row_of-Expr m → Type 0
  C l meaning text row = Called z is calling body answer bound names frame h typed_in l meaning text row

  -- `allocate` on caches and directories.

  abbrev allocate_on : Receiver → Call
  allocate_on cache = call cache (codes "allocate") with_new_line [] line of_lines anywhere
  allocate_on on = reading on (codes "allocate") with_new_line line

  two_or_more : {m : _} (place : Span) (on : Typed) (receiver : Receiver) (c : Call) (row : Row_of-Expr m) → c.always ≡ with_new_line → c.perhaps ≡ [] → c.receiver ≡ receiver → IsCalled E place on c (arguments_typed E row)
      → (2 ≤ length (arguments_typed E row)) × AreArguments E (of_built_in Address ∷ new_line_of (type_of_line z.m (structure_on z.m receiver)) ∷ []) (arguments_typed E row)
  two_or_more place on receiver c row always perhaps same called =
      let wanted_always : wanted_by z.m c.receiver c.always ≡ of_built_in Address ∷ new_line_of (type_of_line z.m (structure_on z.m receiver)) ∷ [] = ap (wanted_by z.m c.receiver) always ∙ ap (λ r. wanted_by z.m r with_new_line) same in
      let wanted_perhaps : wanted_by z.m c.receiver c.perhaps ≡ [] = ap (wanted_by z.m c.receiver) perhaps in
      let counted = counted_is place (length (wanted_by z.m c.receiver c.always)) (length (wanted_by z.m c.receiver c.perhaps)) (arguments_typed E row) called.counted in
      let least = leb-true (length (wanted_by z.m c.receiver c.always)) (length (arguments_typed E row)) counted.0 in
      let most = leb-true (length (arguments_typed E row)) (length (wanted_by z.m c.receiver c.always) + length (wanted_by z.m c.receiver c.perhaps)) counted.1 in
      let count : length (wanted_by z.m c.receiver c.always) ≡ 2 = ap length wanted_always in
      let none : length (wanted_by z.m c.receiver c.perhaps) ≡ 0 = ap length wanted_perhaps in
      let all : wanted_by z.m c.receiver c.always ++ wanted_by z.m c.receiver c.perhaps ≡ of_built_in Address ∷ new_line_of (type_of_line z.m (structure_on z.m receiver)) ∷ [] = ap (λ ws. ws ++ wanted_by z.m c.receiver c.perhaps) wanted_always ∙ ap (λ ws. of_built_in Address ∷ new_line_of (type_of_line z.m (structure_on z.m receiver)) ∷ ws) wanted_perhaps in (
        omega (arith, least, count),
        arguments_are E (of_built_in Address ∷ new_line_of (type_of_line z.m (structure_on z.m receiver)) ∷ []) (arguments_typed E row) (omega (arith, most, count, none)) (λ g there. written_known z.s.number E typed_in row g there)
            (subst (λ ws. wrong_arguments E ws (arguments_typed E row) ≡ []) all called.arguments),
      )

  cache_new : {m : _} (place : Span) (on : Typed) (n : ℕ) (t : TableSymbol) (l : Left) (text : List ℕ) (row : Row_of-Expr m) (c : Call) → l ≡ left.Table n → bytes_eq text (codes "[]") ≡ false → call_on cache text ≡ Some c → text ≡ codes "allocate"
      → IsSorted z is h n t cache → IsCalled E place on c (arguments_typed E row) → AreWhole z row → AllGood z body answer bound names frame h row → C l (answer_of z.m c.receiver c.answer) text row
  unfolding operations
  cache_new place on n t l text row c left_is word found allocate sorted called whole good =
      let one : Some (allocate_on cache) ≡ Some c = sym (ap (call_on cache) allocate) ∙ found in
      let same : allocate_on cache ≡ c = cc one in
      let two = two_or_more place on cache c row (ap (λ (x : Call). x.always) (sym same)) (ap (λ (x : Call). x.perhaps) (sym same)) (ap (λ (x : Call). x.receiver) (sym same)) called in
      let number : table_call t.sort text ≡ Some 9 = sym (sorted.numbers text 2 word) ∙ ap (λ x. call_number cache x 2) allocate in
      let A : Call → Type 0 = λ x. C l (answer_of z.m x.receiver x.answer) text row in
      subst A same (allocate_called z is calling body answer bound names frame h typed_in holds n t cache text 9 _ sorted number refl sorted.served refl refl (cache_one z is calling body answer bound names frame h typed_in holds) l row left_is two.0 (type_of_line z.m (structure_on z.m cache)) two.1 whole good)

  directory_new : {m : _} (place : Span) (on : Typed) (n : ℕ) (t : TableSymbol) (l : Left) (text : List ℕ) (row : Row_of-Expr m) (c : Call) → l ≡ left.Table n → bytes_eq text (codes "[]") ≡ false → call_on directory text ≡ Some c → text ≡ codes "allocate"
      → IsSorted z is h n t directory → IsCalled E place on c (arguments_typed E row) → AreWhole z row → AllGood z body answer bound names frame h row → C l (answer_of z.m c.receiver c.answer) text row
  unfolding operations
  directory_new place on n t l text row c left_is word found allocate sorted called whole good =
      let one : Some (allocate_on directory) ≡ Some c = sym (ap (call_on directory) allocate) ∙ found in
      let same : allocate_on directory ≡ c = cc one in
      let two = two_or_more place on directory c row (ap (λ (x : Call). x.always) (sym same)) (ap (λ (x : Call). x.perhaps) (sym same)) (ap (λ (x : Call). x.receiver) (sym same)) called in
      let number : table_call t.sort text ≡ Some 15 = sym (sorted.numbers text 2 word) ∙ ap (λ x. call_number directory x 2) allocate in
      let A : Call → Type 0 = λ x. C l (answer_of z.m x.receiver x.answer) text row in
      subst A same (allocate_called z is calling body answer bound names frame h typed_in holds n t directory text 15 _ sorted number refl sorted.served refl refl (directory_one z is calling body answer bound names frame h typed_in holds) l row left_is two.0 (type_of_line z.m (structure_on z.m directory)) two.1 whole good)

  -- By what the call is on.

  module _ {m : _} (place : Span) (on : Typed) (l : Left) (text : List ℕ) (row : Row_of-Expr m) (word : bytes_eq text (codes "[]") ≡ false) (whole : AreWhole z row) (good : AllGood z body answer bound names frame h row)
      (c : Call) (called : IsCalled E place on c (arguments_typed E row)) where
    abbrev Goal : Type 0
    Goal = C l (answer_of z.m c.receiver c.answer) text row

    plainly : (r : Receiver) → is_alone r ≡ false → CallFound r text c → wants_new c ≡ false → IsReady z is calling body answer bound names frame h typed_in c row (entry_kind z.s ∷ [])
    plainly r other found old = ready z is calling body answer bound names frame h typed_in place on c row found.there (no_other_work c found.there (ap is_alone found.receiver ∙ other)) old called good (entry_kind z.s ∷ [])

    on_cache : (b : IsTableLeft z Cache l) → call_on cache text ≡ Some c → IsAnswerable z is c c.answer → (v : Bool) → wants_new c ≡ v → Goal
    on_cache b e able false old =
        let found = call_found cache text c e in
        table_called z is calling body answer bound names frame h typed_in b.number b.symbol l cache text row c b.left_is word found able (cache_sorted z is h b.number b.symbol b.symbol.sort b.there refl b.sort_is) (plainly cache refl found old)
    on_cache b e able true new =
        let found = call_found cache text c e in
        cache_new place on b.number b.symbol l text row c b.left_is word e (sym found.name ∙ is_allocate c found.there new) (cache_sorted z is h b.number b.symbol b.symbol.sort b.there refl b.sort_is) called whole good

    on_directory : (b : IsTableLeft z Directory l) → call_on directory text ≡ Some c → IsAnswerable z is c c.answer → (v : Bool) → wants_new c ≡ v → Goal
    on_directory b e able false old =
        let found = call_found directory text c e in
        table_called z is calling body answer bound names frame h typed_in b.number b.symbol l directory text row c b.left_is word found able (directory_sorted z is h b.number b.symbol b.symbol.sort b.there refl b.sort_is) (plainly directory refl found old)
    on_directory b e able true new =
        let found = call_found directory text c e in
        directory_new place on b.number b.symbol l text row c b.left_is word e (sym found.name ∙ is_allocate c found.there new) (directory_sorted z is h b.number b.symbol b.symbol.sort b.there refl b.sort_is) called whole good

    on_tbes : (b : IsTableLeft z TbeTable l) → call_on tbe_table text ≡ Some c → IsAnswerable z is c c.answer → Goal
    on_tbes b e able =
        let found = call_found tbe_table text c e in
        table_called z is calling body answer bound names frame h typed_in b.number b.symbol l tbe_table text row c b.left_is word found able (tbe_sorted z is h b.number b.symbol b.symbol.sort b.there refl b.sort_is)
        (plainly tbe_table refl found (tbe_old c found.there found.receiver))

    on_port : (t : KnownType) → IsInPortLeft z t l → call_on in_port text ≡ Some c → IsAnswerable z is c c.answer → Goal
    on_port t port e able =
        let found = call_found in_port text c e in
        port_called z is calling body answer bound names frame h typed_in t l text row c found able port (plainly in_port refl found (takes_no_new c found.there (ap on_table found.receiver)))

    on_set : l ≡ left.Value kind.Dest → call_on net_dest text ≡ Some c → IsAnswerable z is c c.answer → Goal
    on_set left_is e able =
        let found = call_found net_dest text c e in
        set_called z is calling body answer bound names frame h typed_in l text row c left_is found able (plainly net_dest refl found (takes_no_new c found.there (ap on_table found.receiver)))

    none_used : (r : Receiver) → is_quiet r ≡ true → call_on r text ≡ Some c → is_used (answer_of z.m c.receiver c.answer) ≡ true → Goal
    none_used r quiet e used = let found = call_found r text c e in absurd (quiet_answer z.m c found.there (ap is_quiet found.receiver ∙ quiet) used)

    entry_or : (b : Bool) → option_and_then (λ receiver. call_on receiver text) (cond b (Some entry) None) ≡ Some c → is_used (answer_of z.m c.receiver c.answer) ≡ true → Goal
    entry_or true e used = none_used entry refl e used
    entry_or false e used = absurd (cc e)

    by_meaning : (meaning : Meaning) → IsLeft z meaning l → call_named z.m meaning text ≡ Some c → is_used (answer_of z.m c.receiver c.answer) ≡ true → Goal
    by_meaning (in_port_meaning (Some t)) typed e used = on_port t typed e (used_answer z is c c.answer used)
    by_meaning (in_port_meaning None) typed e used = absurd typed
    by_meaning (table Cache) typed e used = on_cache typed e (used_answer z is c c.answer used) (wants_new c) refl
    by_meaning (table Directory) typed e used = on_directory typed e (used_answer z is c c.answer used) (wants_new c) refl
    by_meaning (table TbeTable) typed e used = on_tbes typed e (used_answer z is c c.answer used)
    by_meaning (table Sequencer) typed e used = none_used sequencer refl e used
    by_meaning (table b) typed e used = absurd (cc e)
    by_meaning (value (built_in NetDest)) typed e used =
        let same : kind.Dest ≡ typed.kind = cc typed.kind_is in on_set (typed.left_is ∙ ap (λ k. left.Value (code_kind z.s.machine k)) (sym same)) e (used_answer z is c c.answer used)
    by_meaning (value (built_in DataBlock)) typed e used = none_used data_block refl e used
    by_meaning (value (built_in b)) typed e used = absurd (cc e)
    by_meaning (value (enumerated scope name members)) typed e used = entry_or (is_line_of z.m (entry_structures z.m) (enumerated scope name members)) e used
    by_meaning (value (structured scope s)) typed e used = entry_or (is_line_of z.m (entry_structures z.m) (structured scope s)) e used
    by_meaning no_line typed e used = absurd (cc e)
    by_meaning bare_line typed e used = absurd (cc e)
    by_meaning (new_line made) typed e used = absurd typed
    by_meaning (incoming t) typed e used = absurd (cc e)
    by_meaning (outgoing t) typed e used = absurd (cc e)
    by_meaning (out_port_meaning t) typed e used = absurd (cc e)
    by_meaning nothing_meaning typed e used = absurd (cc e)
    by_meaning unknown typed e used = absurd typed

  pub method_good : {m : _} (place : Span) (on : Typed) (l : Left) (called : Name) (row : Row_of-Expr m) → bytes_eq called.text (codes "[]") ≡ false → IsTyped z.trees z.m on.meaning → IsLeft z on.meaning l → AreWhole z row → AllGood z body answer bound names frame h row
      → (method_typed E place on called (arguments_typed E row)).broken ≡ [] → is_used (method_typed E place on called (arguments_typed E row)).meaning ≡ true
      → C l (method_typed E place on called (arguments_typed E row)).meaning called.text row
  method_good place on l called row word known typed whole good none used =
      let sure = typed_sure z.trees z.m on.meaning known in
      let c = method_is E place on called (arguments_typed E row) sure none in
      let meaning : (method_typed E place on called (arguments_typed E row)).meaning ≡ answer_of z.m c.call.receiver c.call.answer =
      ap (λ b. (cond b (plain unknown (on.broken ++ broken_in (arguments_typed E row))) (found_method E place on called (call_named z.m on.meaning called.text) (arguments_typed E row))).meaning) sure
      ∙ ap (λ o. (found_method E place on called o (arguments_typed E row)).meaning) c.named in
      subst (λ m. C l m called.text row) (sym meaning)
      (by_meaning place on l called.text row word whole good c.call c.is on.meaning typed c.named (ap is_used (sym meaning) ∙ used))
