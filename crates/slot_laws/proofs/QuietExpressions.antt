-- What expressions give, and what is done to find and to write a place, sends nothing, where the functions that are called send nothing.
use Rattle.std.proofs.Common.{ℕ, List, [], ◌∷◌, Option, None, Some, find, length, refl}
use Rattle.std.specs.Prelude.{codes}
use Rattle.std.specs.Option.{option_map}
use Rattle.std.specs.Str.{bytes_eq}
use Rattle.slicc_ast.specs.declared.tree.expression.Operator.{Operator}
use Rattle.slicc_ast.specs.declared.tree.expression.Suffix.{Suffix, Field, Method', Index}
use Rattle.slicc_ast.specs.declared.tree.expression.Expr.{Expr, Number, True, False, Nothing, Variable, Member, Call', New, Row_of-Expr, end_of-Expr, more_of-Expr, Row_of-Operand, end_of-Operand, more_of-Operand, Row_of-Suffix, end_of-Suffix, more_of-Suffix, items-the_row-Suffix}
use Rattle.slicc_ast.specs.Prelude.{Operation', Not', Negate', Postfix', IsValid', IsInvalid', Cast', Group'}
use Rattle.ruby_value.specs.declared.value.Ref.{Ref}
use Rattle.ruby_value.specs.declared.value.Value.{Value}
use Rattle.ruby_symbols.specs.declared.names.Named.{Named}
use Rattle.ruby_symbols.specs.declared.names.Named.TheVariants as named
use Rattle.ruby_symbols.specs.Prelude.{function_named, stands_for, short_number}
use Rattle.acts.specs.Act as act
use Rattle.acts.specs.Prelude.{Act, Acting, ends}
use Rattle.built_in_acts.specs.Prelude.{reference}
use Rattle.body_meaning.specs.declared.frame.Frame.{Frame}
use Rattle.body_meaning.specs.declared.frame.Place.{Place}
use Rattle.body_meaning.specs.declared.frame.Place.TheVariants.{Named as NamedPlace, Part, Line}
use Rattle.body_meaning.specs.declared.thing.Thing.{Thing}
use Rattle.body_meaning.specs.declared.thing.Thing.TheVariants as thing
use Rattle.body_meaning.specs.Prelude.{plain_call, Calls, called_on, free_call, function_or, index, indexed_on, method_call, named_call, plain_or, thing_built, trigger_of, value_found, with_receiver, each, field_at, field_in, field_through, negation_of, operands, operated, suffixed, suffixed_all, thing_in, value, value_behind, value_step, values, values_of, variable, variable_or, with_value, thing_bound, declared, line_field, member_value, message_field, named_everywhere, own_number, parameter, port_at, port_thing, thing_declared, thing_got, joined, negated, settled, at_place, before_last, field_place, last_of, line_place, name_behind, part_of, part_place, place_behind, place_last, place_of, place_with, Reading, value_in}
use Rattle.slot_laws.specs.Sends.{sent_by}
use Rattle.slot_laws.proofs.Counting.{Quiet, act_quiet, cond_quiet, decided_quiet, either_quiet, ends_quiet, found_quiet, given_quiet, stops_quiet, then_quiet}
use Rattle.slot_laws.proofs.QuietCalls.{built_in_quiet}

module _ (s : Reading) (buffer : ℕ) where
  abbrev C : Act → ℕ
  C = sent_by s.machine buffer

  -- Names and fields.

  got_quiet : (r : Ref) (k : ℕ) → Quiet C (thing_got r k)
  unfolding thing_got
  got_quiet r k = then_quiet C (act_quiet C (act.Get r k) refl) (λ v. ends_quiet C)

  parameter_quiet : (k : ℕ) → Quiet C (parameter s.machine k)
  unfolding parameter
  parameter_quiet k =
      then_quiet C (found_quiet C _ (short_number (length s.machine.tables))) (λ table. got_quiet (record { table = table; line = 0 }) k)

  own_quiet : Quiet C own_number
  unfolding own_number
  own_quiet = then_quiet C (act_quiet C act.Me refl) (λ k. ends_quiet C)

  everywhere_quiet : (text : List ℕ) → Quiet C (named_everywhere text)
  everywhere_quiet text =
      either_quiet C (bytes_eq text (codes "machineID")) own_quiet
      (either_quiet C (bytes_eq text (codes "recycle_latency")) (ends_quiet C) (stops_quiet C))

  port_quiet : (o : Option ℕ) → Quiet C (port_thing o)
  unfolding port_thing
  port_quiet o = then_quiet C (found_quiet C _ o) (λ b. ends_quiet C)

  declared_by : (text : List ℕ) (o : Option Named) → Quiet C (thing_declared s.machine text o)
  declared_by text None = everywhere_quiet text
  declared_by text (Some (named.Table k)) = ends_quiet C
  declared_by text (Some (named.Value k)) = parameter_quiet k
  declared_by text (Some (named.Reference k)) = ends_quiet C
  declared_by text (Some (named.Buffer k)) = stops_quiet C
  declared_by text (Some (named.InPort k)) = port_quiet (port_at s.machine.in_ports k)
  declared_by text (Some (named.OutPort k)) = port_quiet (port_at s.machine.out_ports k)
  declared_by text (Some named.Sequencer) = ends_quiet C

  declared_quiet : (text : List ℕ) → Quiet C (declared s.machine text)
  unfolding declared
  declared_quiet text = declared_by text (stands_for s.machine text)

  found_value_quiet : (o : Option Value) → Quiet C (value_found o)
  unfolding value_found
  found_value_quiet o = then_quiet C (found_quiet C _ o) (λ x. ends_quiet C)

  field_at_quiet : (text : List ℕ) (r : Ref) → Quiet C (field_at s text r)
  unfolding field_at
  field_at_quiet text r = then_quiet C (found_quiet C _ (line_field s r.table text)) (λ k. got_quiet r k)

  through_quiet : (v : Value) (text : List ℕ) → Quiet C (field_through s v text)
  unfolding field_through
  through_quiet v text = then_quiet C (found_quiet C _ (reference v)) (λ r. field_at_quiet text r)

  field_in_quiet : (text : List ℕ) (t : Thing) → Quiet C (field_in s text t)
  field_in_quiet text (thing.Value v) = through_quiet v text
  field_in_quiet text (thing.Message structure fields) = found_value_quiet (message_field s structure fields text)
  field_in_quiet text (thing.Table x) = stops_quiet C
  field_in_quiet text (thing.Port x) = stops_quiet C
  field_in_quiet text thing.Sequencer = stops_quiet C
  field_in_quiet text (thing.Trigger x) = stops_quiet C
  field_in_quiet text thing.Nothing = stops_quiet C

  -- Operators and calls.

  operated_quiet : (op : Operator) (left : Value) {right : Acting Thing} → Quiet C right → Quiet C (operated op left right)
  unfolding operated
  operated_quiet op left right = decided_quiet C (settled op left) (then_quiet C right (λ t. given_quiet C (joined op left (value_in t))))

  negation_quiet : (t : Thing) → Quiet C (negation_of t)
  unfolding negation_of
  negation_quiet t = then_quiet C (given_quiet C (negated (value_in t))) (λ v. ends_quiet C)

  with_value_quiet : (before : List Value) {p : Acting Thing} → Quiet C p → Quiet C (with_value before p)
  unfolding with_value
  with_value_quiet before first = then_quiet C first (λ t. ends_quiet C)

  built_quiet : (n on : ℕ) (arguments : List Value) → Quiet C (thing_built s n on arguments)
  unfolding thing_built
  built_quiet n on arguments = then_quiet C (built_in_quiet s.machine buffer s.kept n on arguments) (λ o. ends_quiet C)

  plain_quiet : (text : List ℕ) (arguments : List Value) (o : Option ℕ) → Quiet C (plain_or s text arguments o)
  plain_quiet text arguments (Some n) = built_quiet n 0 arguments
  plain_quiet text arguments None = found_value_quiet _

  free_quiet : (text : List ℕ) (arguments : List Value) → Quiet C (free_call s text arguments)
  unfolding free_call
  free_quiet text arguments =
      cond_quiet C (bytes_eq text (codes "trigger")) (ends (thing.Trigger (trigger_of s arguments))) (plain_or s text arguments (plain_call text)) (ends_quiet C)
      (plain_quiet text arguments (plain_call text))

  abbrev pub CallsQuiet : Calls → Type 0
  CallsQuiet calls = (k : ℕ) (arguments : List Value) → Quiet C (calls k arguments)

  method_quiet : (t : Thing) (text : List ℕ) (arguments : List Value) → Quiet C (method_call s t text arguments)
  unfolding method_call
  method_quiet t text arguments =
      then_quiet C (found_quiet C _ (called_on s.machine t text (length arguments))) (λ c. built_quiet c.number c.on (with_receiver t arguments))

  index_quiet : (t : Thing) (key : Value) → Quiet C (index s t key)
  unfolding index
  index_quiet t key = then_quiet C (found_quiet C _ (indexed_on s.machine t)) (λ c. built_quiet c.number c.on (key ∷ []))

  module _ (calls : Calls) (calls_quiet : CallsQuiet calls) where
    function_quiet : (text : List ℕ) (arguments : List Value) (o : Option ℕ) → Quiet C (function_or s calls text arguments o)
    function_quiet text arguments (Some k) = calls_quiet k arguments
    function_quiet text arguments None = free_quiet text arguments

    pub named_quiet : (text : List ℕ) (arguments : List Value) → Quiet C (named_call s calls text arguments)
    unfolding named_call
    named_quiet text arguments = function_quiet text arguments (function_named s.machine text)

    module _ (frame : Frame) where
      variable_by : (text : List ℕ) (o : Option Thing) → Quiet C (variable_or s text o)
      variable_by text None = declared_quiet text
      variable_by text (Some t) = ends_quiet C

      variable_quiet : (text : List ℕ) → Quiet C (variable s frame text)
      unfolding variable
      variable_quiet text = variable_by text (thing_in s frame text)

      mutual
        pub value_quiet : (e : Expr) → Quiet C (value s calls frame e)
        value_quiet (Operation' first n others span) = then_quiet C (value_quiet first) (λ t. then_quiet C (operands_quiet (value_in t) others) (λ v. ends_quiet C))
        value_quiet (Not' operand span) = then_quiet C (value_quiet operand) (λ t. ends_quiet C)
        value_quiet (Negate' operand span) = then_quiet C (value_quiet operand) (λ t. negation_quiet t)
        value_quiet (Postfix' inner n suffixes span) = then_quiet C (value_quiet inner) (λ t. suffixes_quiet t suffixes)
        value_quiet (Number n span) = ends_quiet C
        value_quiet (True span) = ends_quiet C
        value_quiet (False span) = ends_quiet C
        value_quiet (Nothing span) = ends_quiet C
        value_quiet (Variable name) = variable_quiet name.text
        value_quiet (Member owner member span) = found_value_quiet (member_value s owner.text member.text)
        value_quiet (Call' called shape row arguments span) = then_quiet C (values_quiet [] row) (λ vs. named_quiet called.text vs)
        value_quiet (New made span) = ends_quiet C
        value_quiet (IsValid' inner span) = then_quiet C (value_quiet inner) (λ t. ends_quiet C)
        value_quiet (IsInvalid' inner span) = then_quiet C (value_quiet inner) (λ t. ends_quiet C)
        value_quiet (Cast' target mode inner span) = value_quiet inner
        value_quiet (Group' inner span) = value_quiet inner

        operands_quiet : {n : _} (left : Value) (row : Row_of-Operand n) → Quiet C (operands s calls frame left row)
        operands_quiet left end_of-Operand = ends_quiet C
        operands_quiet left (more_of-Operand operator inner row) = then_quiet C (operated_quiet operator left (value_quiet inner)) (λ v. operands_quiet v row)

        suffix_quiet : (t : Thing) (x : Suffix) → Quiet C (suffixed s calls frame t x)
        suffix_quiet t (Field name span) = field_in_quiet name.text t
        suffix_quiet t (Method' called shape row arguments span) = then_quiet C (values_quiet [] row) (λ vs. method_quiet t called.text vs)
        suffix_quiet t (Index key span) = then_quiet C (value_quiet key) (λ k. index_quiet t (value_in k))

        suffixes_quiet : {n : _} (t : Thing) (row : Row_of-Suffix n) → Quiet C (suffixed_all s calls frame t row)
        suffixes_quiet t end_of-Suffix = ends_quiet C
        suffixes_quiet t (more_of-Suffix first row) = then_quiet C (suffix_quiet t first) (λ u. suffixes_quiet u row)

        values_quiet : {n : _} (before : List Value) (row : Row_of-Expr n) → Quiet C (values s calls frame before row)
        values_quiet before end_of-Expr = ends_quiet C
        values_quiet before (more_of-Expr first row) = then_quiet C (with_value_quiet before (value_quiet first)) (λ vs. values_quiet vs row)

      -- suffixes and arguments as lists
      each_suffix_quiet : (t : Thing) (xs : List Suffix) → Quiet C (each (suffixed s calls frame) t xs)
      each_suffix_quiet t [] = ends_quiet C
      each_suffix_quiet t (x ∷ xs) = then_quiet C (suffix_quiet t x) (λ u. each_suffix_quiet u xs)

      pub behind_quiet : (inner : Expr) (suffixes : List Suffix) → Quiet C (value_behind s calls frame inner suffixes)
      unfolding value_behind
      behind_quiet inner suffixes = then_quiet C (value_quiet inner) (λ t. each_suffix_quiet t suffixes)

      each_value_quiet : (before : List Value) (es : List Expr) → Quiet C (each (value_step s calls frame) before es)
      each_value_quiet before [] = ends_quiet C
      each_value_quiet before (e ∷ es) = then_quiet C (with_value_quiet before (value_quiet e)) (λ vs. each_value_quiet vs es)

      pub all_values_quiet : (es : List Expr) → Quiet C (values_of s calls frame es)
      unfolding values_of
      all_values_quiet es = each_value_quiet [] es

      -- Places.

      line_quiet : (v : Value) (text : List ℕ) → Quiet C (line_place s v text)
      unfolding line_place
      line_quiet v text = then_quiet C (found_quiet C _ (reference v)) (λ r. then_quiet C (found_quiet C _ (line_field s r.table text)) (λ k. ends_quiet C))

      field_quiet : (name : Option (List ℕ)) (text : List ℕ) (t : Thing) → Quiet C (field_place s name text t)
      field_quiet name text (thing.Value v) = line_quiet v text
      field_quiet name text (thing.Message structure fields) = found_quiet C _ (part_place s name structure text)
      field_quiet name text (thing.Table x) = stops_quiet C
      field_quiet name text (thing.Port x) = stops_quiet C
      field_quiet name text thing.Sequencer = stops_quiet C
      field_quiet name text (thing.Trigger x) = stops_quiet C
      field_quiet name text thing.Nothing = stops_quiet C

      last_quiet : (inner : Expr) (before : List Suffix) (o : Option Suffix) → Quiet C (place_last s calls frame inner before o)
      last_quiet inner before (Some (Field name span)) = then_quiet C (behind_quiet inner before) (λ t. field_quiet (name_behind inner before) name.text t)
      last_quiet inner before (Some (Method' called shape row arguments span)) = stops_quiet C
      last_quiet inner before (Some (Index key span)) = stops_quiet C
      last_quiet inner before None = stops_quiet C

      behind_place_quiet : (inner : Expr) (suffixes : List Suffix) → Quiet C (place_behind s calls frame inner suffixes)
      unfolding place_behind
      behind_place_quiet inner suffixes = last_quiet inner (before_last suffixes) (last_of suffixes)

      pub place_quiet : (e : Expr) → Quiet C (place_of s calls frame e)
      place_quiet (Variable name) = ends_quiet C
      place_quiet (Group' inner span) = place_quiet inner
      place_quiet (Postfix' inner n suffixes span) = behind_place_quiet inner (items-the_row-Suffix _ suffixes)
      place_quiet (Operation' first n others span) = stops_quiet C
      place_quiet (Not' operand span) = stops_quiet C
      place_quiet (Negate' operand span) = stops_quiet C
      place_quiet (Number n span) = stops_quiet C
      place_quiet (True span) = stops_quiet C
      place_quiet (False span) = stops_quiet C
      place_quiet (Nothing span) = stops_quiet C
      place_quiet (Member owner text span) = stops_quiet C
      place_quiet (Call' called shape row arguments span) = stops_quiet C
      place_quiet (New made span) = stops_quiet C
      place_quiet (IsValid' inner span) = stops_quiet C
      place_quiet (IsInvalid' inner span) = stops_quiet C
      place_quiet (Cast' target mode inner span) = stops_quiet C

      pub with_quiet : (e : Expr) (suffixes : List Suffix) → Quiet C (place_with s calls frame e suffixes)
      with_quiet e [] = place_quiet e
      with_quiet e (x ∷ xs) = behind_place_quiet e (x ∷ xs)

      pub at_quiet : (p : Place) → Quiet C (at_place frame p)
      at_quiet (NamedPlace text) = found_quiet C _ (option_map value_in (thing_bound text frame.names))
      at_quiet (Part text k) = found_quiet C _ (part_of k (thing_bound text frame.names))
      at_quiet (Line r k) = act_quiet C (act.Get r k) refl
