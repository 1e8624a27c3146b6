-- What calls are on, by the type of that: ports, tables by their sorts, and sets of controllers and lines as values.
use Rattle.std.proofs.Common.{◌≡◌, ◌∙◌, ℕ, true, false, cond, codes, Option, None, Some, List, length, slice_get, refl, sym, ap, subst}
use Rattle.std.specs.Option.{option_map}
use Rattle.std.specs.Str.{bytes_eq}
use Rattle.std.proofs.lemmas.Bool.{cond_both}
use Rattle.std.proofs.lemmas.Option.{slice_get-map}
use Rattle.ruby_value.specs.declared.kind.Kind.{Kind}
use Rattle.ruby_value.specs.declared.kind.Kind.TheVariants as kind
use Rattle.ruby_value.specs.Prelude.{is_reference}
use Rattle.ruby_symbols.specs.declared.machine.BufferSymbol.{BufferSymbol}
use Rattle.ruby_symbols.specs.declared.machine.TableSort.{TableSort}
use Rattle.ruby_symbols.specs.declared.machine.TableSort.TheVariants as table_sort
use Rattle.ruby_symbols.specs.declared.machine.TableSymbol.{TableSymbol}
use Rattle.slicc_ast.specs.declared.tree.declaration.Structure.{Structure}
use Rattle.slicc_plan.specs.declared.built_in.BuiltInType.TheVariants.{Cache, Directory, TbeTable}
use Rattle.slicc_plan.specs.BuiltInCalls.{Receiver, in_port, cache, directory, tbe_table, net_dest, data_block, sequencer, entry, nothing, Answer, no_value, answered, line, Call}
use Rattle.slicc_plan.specs.CallTypes.{answer_of, structure_on}
use Rattle.slicc_plan.specs.Declarations.{within}
use Rattle.slicc_plan.specs.Environment.{BodySort, Bound}
use Rattle.rules_symbols.specs.TypedMeaning.{IsTypedIn}
use Rattle.body_meaning.specs.declared.frame.Frame.{Frame}
use Rattle.body_code.specs.declared.left.NameAt.{NameAt}
use Rattle.slicc_plan.specs.Meanings.{Meaning, line_of_structure}
use Rattle.slicc_plan.specs.Tables.{line_structure}
use Rattle.slicc_plan.specs.TypeNumbers.{value_kind}
use Rattle.slicc_plan.specs.Types.{structured}
use Rattle.rules_symbols.specs.CallRows.{call_number, receiver_operand, served_on, table_number}
use Rattle.rules_symbols.proofs.TypedParts.{answer_valued, directory_line, entry_line, tbe_line_is}
use Rattle.rules_symbols.proofs.ValueKinds.{built_in_valued, line_kind_there}
use Rattle.action_code.specs.declared.operations.Answer.TheVariants as given
use Rattle.action_code.specs.declared.program.MachineDecl.{MachineDecl}
use Rattle.action_code.specs.declared.operations.Receiver.TheVariants as served_receiver
use Rattle.action_code.specs.declared.program.TableSort.{TableSort as CodeSort}
use Rattle.action_code.specs.declared.program.TableSort.TheVariants as code_sort
use Rattle.action_code.specs.Prelude.{buffer_at, is_port, is_table, machine_of, same_sort, serves, takes_from}
use Rattle.body_meaning.specs.Prelude.{index_call, table_call}
use Rattle.code_meaning.specs.Prelude.{Held}
use Rattle.body_code.specs.declared.left.Left.TheVariants as left
use Rattle.body_code.specs.Calls.{lines_left}
use Rattle.body_code.specs.Kinds.{buffer_declared, sort_of}
use Rattle.body_code.specs.Prelude.{answer_left, lines_kind, place_of}
use Rattle.code_laws.specs.Calling.{CallsDo}
use Rattle.code_laws.specs.Holding.{IsLeft, is_sort_of}
use Rattle.code_laws.specs.Setting.{IsSet, Setting, env_of}
use Rattle.code_laws.proofs.BuiltInForms.{IsPlainAnswer}
use Rattle.code_laws.proofs.LineAnswers.{line_kind_is}
use Rattle.code_laws.proofs.Structures.{table_there}
use Rattle.code_laws.proofs.TableFacts.{IsAnswerable, is_line as answers_line}

module _ (z : Setting) (is : IsSet z) (h : Held) where
  -- Ports.

  pub port_served : (n : ℕ) (b : BufferSymbol) → slice_get z.s.machine.buffers n ≡ Some b → takes_from (place_of b.place) ≡ true → serves (machine_of z.p z.c) n (served_on in_port) ≡ true
  port_served n b there takes =
      let at : buffer_at (machine_of z.p z.c) n ≡ Some (buffer_declared b) = ap (λ (m : Option MachineDecl). buffer_at m n) is.declared ∙ slice_get-map buffer_declared z.s.machine.buffers n ∙ ap (option_map buffer_declared) there in
      ap is_port at ∙ takes

  -- Tables.

  -- a table of this sort, and the calls on it
  pub record IsSorted (n : ℕ) (t : TableSymbol) (on : Receiver) : Type 0 where
    pub there : slice_get z.s.machine.tables n ≡ Some t
    pub numbers : (text : List ℕ) (count : ℕ) → bytes_eq text (codes "[]") ≡ false → call_number on text count ≡ table_call t.sort text
    pub bracket : (count : ℕ) → call_number on (codes "[]") count ≡ Some (index_call t.sort)
    pub served : serves (machine_of z.p z.c) n (served_on on) ≡ true
    pub lines : structure_on z.m on ≡ line_structure z.m t.sort
    pub no_operand : length (receiver_operand on) ≡ 0

  no_bracket : (s : TableSort) (text : List ℕ) → bytes_eq text (codes "[]") ≡ false → table_number s text ≡ table_call s text
  no_bracket s text other = ap (λ b. cond b (Some (index_call s)) (table_call s text)) other

  sort_is : (n : ℕ) (t : TableSymbol) → slice_get z.s.machine.tables n ≡ Some t → (s : CodeSort) → same_sort (sort_of t.sort) s ≡ true → serves (machine_of z.p z.c) n (served_receiver.Table s) ≡ true
  sort_is n t there s same = ap (λ o. is_table s o) (table_there z is n t there) ∙ same

  pub cache_sorted : (n : ℕ) (t : TableSymbol) (s : TableSort) → slice_get z.s.machine.tables n ≡ Some t → t.sort ≡ s → is_sort_of Cache s ≡ true → IsSorted n t cache
  cache_sorted n t table_sort.Cache there e is_so = record {
    there = there;
    numbers = λ text count other. no_bracket table_sort.Cache text other ∙ ap (λ x. table_call x text) (sym e);
    bracket = λ count. ap (λ x. Some (index_call x)) (sym e);
    served = sort_is n t there code_sort.Cache (ap (λ x. same_sort (sort_of x) code_sort.Cache) e);
    lines = ap (line_structure z.m) (sym e);
    no_operand = refl;
  }
  cache_sorted n t table_sort.Directory there e is_so = absurd (cc is_so)
  cache_sorted n t (table_sort.Tbe entries) there e is_so = absurd (cc is_so)

  pub directory_sorted : (n : ℕ) (t : TableSymbol) (s : TableSort) → slice_get z.s.machine.tables n ≡ Some t → t.sort ≡ s → is_sort_of Directory s ≡ true → IsSorted n t directory
  directory_sorted n t table_sort.Directory there e is_so = record {
    there = there;
    numbers = λ text count other. no_bracket table_sort.Directory text other ∙ ap (λ x. table_call x text) (sym e);
    bracket = λ count. ap (λ x. Some (index_call x)) (sym e);
    served = sort_is n t there code_sort.Directory (ap (λ x. same_sort (sort_of x) code_sort.Directory) e);
    lines = ap (line_structure z.m) (sym e);
    no_operand = refl;
  }
  directory_sorted n t table_sort.Cache there e is_so = absurd (cc is_so)
  directory_sorted n t (table_sort.Tbe entries) there e is_so = absurd (cc is_so)

  pub tbe_sorted : (n : ℕ) (t : TableSymbol) (s : TableSort) → slice_get z.s.machine.tables n ≡ Some t → t.sort ≡ s → is_sort_of TbeTable s ≡ true → IsSorted n t tbe_table
  tbe_sorted n t (table_sort.Tbe entries) there e is_so = record {
    there = there;
    numbers = λ text count other. no_bracket (table_sort.Tbe 0) text other ∙ ap (λ x. table_call x text) (sym e);
    bracket = λ count. ap (λ x. Some (index_call x)) (sym e);
    served = sort_is n t there code_sort.Tbe (ap (λ x. same_sort (sort_of x) code_sort.Tbe) e);
    lines = ap (line_structure z.m) (sym e);
    no_operand = refl;
  }
  tbe_sorted n t table_sort.Cache there e is_so = absurd (cc is_so)
  tbe_sorted n t table_sort.Directory there e is_so = absurd (cc is_so)

  -- Answers.

  pub plain_of : (c : Call) (a : Answer) → IsAnswerable z is c a → answer_valued a ≡ true → answers_line a ≡ false → (calling : CallsDo z) (body : BodySort) (answer : Meaning) (bound : List Bound) (names : List NameAt) (frame : Frame) (typed_in : IsTypedIn z.s.number (env_of z body answer bound)) → IsPlainAnswer z is calling body answer bound names frame h typed_in c.receiver c a
  plain_of c no_value able valued other calling body answer bound names frame typed_in = able
  plain_of c (answered b) able valued other calling body answer bound names frame typed_in = built_in_valued b valued
  plain_of c line able valued other calling body answer bound names frame typed_in = absurd (cc other)

  -- lines of a structure
  has_lines : (on : Receiver) (s : Structure) → structure_on z.m on ≡ Some s → (k : Kind) × (value_kind z.trees z.m (structured (within z.m) s) ≡ Some k)
  has_lines cache s e = line_kind_there z.trees z.s.number z.m is.machine_there (within z.m) s (entry_line z.m s e)
  has_lines directory s e = line_kind_there z.trees z.s.number z.m is.machine_there (within z.m) s (directory_line z.m s e)
  has_lines tbe_table s e = line_kind_there z.trees z.s.number z.m is.machine_there (within z.m) s (tbe_line_is z.m s e)
  has_lines in_port s e = absurd (cc e)
  has_lines net_dest s e = absurd (cc e)
  has_lines data_block s e = absurd (cc e)
  has_lines sequencer s e = absurd (cc e)
  has_lines entry s e = absurd (cc e)
  has_lines nothing s e = absurd (cc e)

  lines_are_references : (t : TableSymbol) → is_reference (lines_kind z.s.machine t) ≡ true
  lines_are_references t = cond_both _ (kind.Tbe t.structure) (kind.Entry t.structure) (λ k. is_reference k ≡ true) (λ e. refl) (λ e. refl)

  pub line_answer : (n : ℕ) (t : TableSymbol) (on : Receiver) → IsSorted n t on → IsLeft z (answer_of z.m on line) (answer_left z.s.machine n given.Line)
  line_answer n t on sorted =
      let O : Option TableSymbol → Type 0 = λ o. IsLeft z (line_of_structure z.m (structure_on z.m on)) (lines_left z.s.machine o) in
      subst O (sym sorted.there) (by (structure_on z.m on) refl)
    where
      by : (o : Option Structure) → structure_on z.m on ≡ o → IsLeft z (line_of_structure z.m o) (left.Value (lines_kind z.s.machine t))
      by None e = record { kind = lines_kind z.s.machine t; kind_is = lines_are_references t; left_is = refl }
      by (Some s) e =
          let k = has_lines on s e in
          record { kind = k.0; kind_is = k.1; left_is = ap left.Value (sym (line_kind_is z is n t s k.0 sorted.there (sym sorted.lines ∙ e) k.1)) }
