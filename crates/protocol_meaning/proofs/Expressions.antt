-- What expressions give stays within bounds, where what the body has is, and what the functions answer.
use Rattle.std.proofs.Common.{◌≡◌, ◌<◌, ◌==◌, ℕ, ℤ, Bool, true, false, cond, List, [], ◌∷◌, All, IfSome, IfOk, Option, None, Some, Result, Ok, Err, find, length, nat_lt, refl, sym, ap, subst, arith, slice_get, unwrap_or, is_some, lit<, option_and_then}
use Rattle.std.specs.List.{list_all}
use Rattle.std.specs.Prelude.{codes, position}
use Rattle.std.proofs.lemmas.Bool.{and_parts, cond_both, eqb-true, ltb-true}
use Rattle.std.proofs.lemmas.List.Elements.{All-cons, All-head, All-nil, All-push, All-tail}
use Rattle.std.proofs.lemmas.List.Quantifiers.{position-Some}
use Rattle.std.proofs.lemmas.Option.{cond_some, slice_get_within}
use Rattle.std.specs.Option.{option_map, option_or}
use Rattle.std.specs.Str.{bytes_eq}
use Rattle.slicc_ast.specs.declared.tree.expression.Operator.{Operator}
use Rattle.slicc_ast.specs.declared.tree.expression.Operator.TheVariants.{Or, And, Equal, Unequal, Less, Greater, LessOrEqual, GreaterOrEqual, Plus, Minus, Times}
use Rattle.slicc_ast.specs.declared.tree.expression.Suffix.{Suffix, Field, Method', Index}
use Rattle.slicc_ast.specs.declared.tree.expression.Expr.{Expr, Number, True, False, Nothing, Variable, Member, Call', New, Row_of-Expr, end_of-Expr, more_of-Expr, Row_of-Operand, end_of-Operand, more_of-Operand, Row_of-Suffix, end_of-Suffix, more_of-Suffix}
use Rattle.slicc_ast.specs.Prelude.{Operation', Not', Negate', Postfix', IsValid', IsInvalid', Cast', Group'}
use Rattle.ruby_value.specs.declared.value.Ref.{Ref}
use Rattle.ruby_value.specs.declared.value.Value.{Value}
use Rattle.ruby_value.specs.declared.value.Value.TheVariants as plain
use Rattle.ruby_symbols.specs.declared.machine.MachineSymbols.{MachineSymbols}
use Rattle.ruby_symbols.specs.declared.machine.TableSort.{TableSort}
use Rattle.ruby_symbols.specs.declared.machine.TableSort.TheVariants as sort
use Rattle.ruby_symbols.specs.declared.machine.TableSymbol.{TableSymbol}
use Rattle.ruby_symbols.specs.declared.names.Named.{Named}
use Rattle.ruby_symbols.specs.declared.names.Named.TheVariants as named
use Rattle.ruby_symbols.specs.declared.types.EnumerationSymbol.{EnumerationSymbol}
use Rattle.ruby_symbols.specs.Prelude.{function_named, stands_for, short_number, enumeration_named, member_named}
use Rattle.ctl_face.proofs.Lines.{All-found}
use Rattle.acts.specs.declared.body_fault.BodyFault.{BodyFault}
use Rattle.acts.specs.Act as act
use Rattle.acts.specs.Prelude.{Acting, ends}
use Rattle.built_in_acts.specs.Prelude.{difference, negation, product, sum, argument, member, reference, truth}
use Rattle.body_meaning.specs.declared.thing.Numbered.{Numbered}
use Rattle.body_meaning.specs.declared.frame.About.{About}
use Rattle.body_meaning.specs.declared.frame.Bound.{Bound}
use Rattle.body_meaning.specs.declared.frame.Frame.{Frame}
use Rattle.body_meaning.specs.declared.thing.Thing.{Thing}
use Rattle.body_meaning.specs.declared.thing.Thing.TheVariants as thing
use Rattle.body_meaning.specs.Prelude.{cache_call, callback, directory_call, entry_call, index_call, plain_call, port_call, read_callback, sequencer_call, set_call, table_call, tbe_call, write_callback, Calls, as_member, called_on, free_call, function_or, index, indexed_on, is_permission_call, member_among, method_call, named_call, numbered, on_table, permission_call, permission_of, plain_or, thing_built, trigger_of, value_call, value_found, with_receiver, each, field_at, field_in, field_through, negation_of, operands, operated, suffixed, suffixed_all, thing_in, value, value_behind, value_step, values, values_of, variable, variable_or, with_value, is_named, thing_about, thing_bound, declared, line_field, member_at, member_in, member_value, message_field, named_everywhere, own_number, parameter, port_at, port_thing, structure_field, thing_declared, thing_got, joined, negated, number_made, settled, settled_by, Reading, thing_of, value_in}
use Rattle.protocol_meaning.specs.Prelude.{AreWithin, Extent, IsMember, IsWithin, members_of}
use Rattle.protocol_meaning.proofs.Bounds.{Bounds}
use Rattle.protocol_meaning.proofs.Reading.{FrameWithin, ReadingWithin, ThingWithin, bounds_of, extent_of}
use Rattle.protocol_meaning.proofs.BuiltIn.{built_in_stays}
use Rattle.protocol_meaning.proofs.Stay.{Stay, act_stays, cond_stays, decided_stays, either_stays, ends_stays, found_stays, given_stays, stops_stays, then_stays}

-- What is found.

pub if_found : {X : Type 0} (P : X → Type 0) (p : X → Bool) (xs : List X) → All P xs → IfSome (find p xs) P
if_found P p [] all = tt
if_found P p (x ∷ xs) all = cond_both (p x) (Some x) (find p xs) (λ o. IfSome o P) (λ _. All-head P x xs all) (λ _. if_found P p xs (All-tail P x xs all))

mapped : {X Y : Type 0} (P : X → Type 0) (Q : Y → Type 0) (f : X → Y) → ((x : X) → P x → Q (f x)) → (o : Option X) → IfSome o P → IfSome (option_map f o) Q
mapped P Q f holds None here = tt
mapped P Q f holds (Some x) here = holds x here

any : {X : Type 0} (o : Option X) → IfSome o (λ _. Unit {0})
any None = tt
any (Some x) = tt

-- The numbers of calls.

abbrev pub Small : Option ℕ → Type 0
Small o = IfSome o (λ n. n < 60)

-- the number of the first word that a text is, of words with numbers
abbrev of_words : List ℕ → List (List ℕ × ℕ) → Option ℕ → Option ℕ
of_words text [] last = last
of_words text (w ∷ words) last = cond (bytes_eq text w.0) (Some w.1) (of_words text words last)

words_small : (text : List ℕ) (words : List (List ℕ × ℕ)) (last : Option ℕ) → list_all (λ (w : List ℕ × ℕ). nat_lt w.1 60) words ≡ true → Small last → Small (of_words text words last)
words_small text [] last all rest = rest
words_small text (w ∷ words) last all rest =
    let parts = and_parts (nat_lt w.1 60) (list_all (λ (x : List ℕ × ℕ). nat_lt x.1 60) words) all in
    cond_both (bytes_eq text w.0) (Some w.1) (of_words text words last) Small (λ _. ltb-true w.1 60 parts.0) (λ _. words_small text words last parts.1 rest)

recycle_small : (test : Bool) → Small (cond test (Some 2) (Some 3))
recycle_small true = lit< tt
recycle_small false = lit< tt

recycled_small : (text : List ℕ) (count : ℕ) → Small (cond (bytes_eq text (codes "recycle")) (cond (count == 1) (Some 2) (Some 3)) None)
recycled_small text count = cond_both (bytes_eq text (codes "recycle")) (cond (count == 1) (Some 2) (Some 3)) None Small (λ _. recycle_small (count == 1)) (λ _. tt)

port_small : (text : List ℕ) (count : ℕ) → Small (port_call text count)
port_small text count =
    words_small text ((codes "isReady", 0) ∷ (codes "dequeue", 1) ∷ []) (cond (bytes_eq text (codes "recycle")) (cond (count == 1) (Some 2) (Some 3)) None) refl
    (recycled_small text count)

cache_small : (text : List ℕ) → Small (cache_call text)
cache_small text =
    words_small text ((codes "lookup", 4) ∷ (codes "isTagPresent", 6) ∷ (codes "cacheAvail", 7) ∷ (codes "cacheProbe", 8) ∷ (codes "allocate", 9) ∷ (codes "deallocate", 10) ∷ (codes "setMRU", 11) ∷ (codes "profileDemandHit", 56) ∷ (codes "profileDemandMiss", 57) ∷ []) None refl tt

directory_small : (text : List ℕ) → Small (directory_call text)
directory_small text = words_small text ((codes "lookup", 12) ∷ (codes "isPresent", 14) ∷ (codes "allocate", 15) ∷ []) None refl tt

tbe_small : (text : List ℕ) → Small (tbe_call text)
tbe_small text = words_small text ((codes "lookup", 16) ∷ (codes "allocate", 18) ∷ (codes "deallocate", 19) ∷ (codes "isPresent", 20) ∷ []) None refl tt

table_small : (s : TableSort) (text : List ℕ) → Small (table_call s text)
table_small sort.Cache text = cache_small text
table_small sort.Directory text = directory_small text
table_small (sort.Tbe entries) text = tbe_small text

index_small : (s : TableSort) → index_call s < 60
index_small sort.Cache = lit< tt
index_small sort.Directory = lit< tt
index_small (sort.Tbe entries) = lit< tt

set_small : (text : List ℕ) → Small (set_call text)
set_small text =
    words_small text ((codes "add", 21) ∷ (codes "remove", 22) ∷ (codes "clear", 23) ∷ (codes "count", 24) ∷ (codes "isElement", 25) ∷ (codes "isEmpty", 26) ∷ (codes "addNetDest", 27) ∷ (codes "removeNetDest", 28) ∷ (codes "broadcast", 29) ∷ []) None refl tt

entry_small : (text : List ℕ) → Small (entry_call text)
entry_small text = words_small text ((codes "changePermission", 54) ∷ []) None refl tt

pub value_small : (v : Value) (text : List ℕ) → Small (value_call v text)
value_small (plain.Dest members) text = set_small text
value_small (plain.Block b) text = words_small text ((codes "clear", 30) ∷ []) None refl tt
value_small (plain.Entry r) text = entry_small text
value_small (plain.Tbe r) text = entry_small text
value_small (plain.Bool x) text = tt
value_small (plain.Int x) text = tt
value_small (plain.Enum x y) text = tt
value_small (plain.Addr x) text = tt
value_small (plain.Machine x) text = tt

below_60 : (test : Bool) (n m : ℕ) → n < 60 → m < 60 → cond test n m < 60
below_60 true n m first second = first
below_60 false n m first second = second

callback_small : (two three four count : ℕ) → two < 60 → three < 60 → four < 60 → callback two three four count < 60
callback_small two three four count first second third =
    below_60 (count == 2) two (cond (count == 3) three four) first (below_60 (count == 3) three four second third)

pub write_small : (count : ℕ) → write_callback count < 60
write_small count = callback_small 34 35 36 count (lit< tt) (lit< tt) (lit< tt)

sequencer_small : (text : List ℕ) (count : ℕ) → Small (sequencer_call text count)
sequencer_small text count =
    let last : Option ℕ = cond (bytes_eq text (codes "evictionCallback")) (Some 55) None in
    cond_both (bytes_eq text (codes "readCallback")) (Some (read_callback count)) (cond (bytes_eq text (codes "writeCallback")) (Some (write_callback count)) last) Small
    (λ _. callback_small 31 32 33 count (lit< tt) (lit< tt) (lit< tt))
    (λ _. cond_both (bytes_eq text (codes "writeCallback")) (Some (write_callback count)) last Small (λ _. write_small count) (λ _. words_small text ((codes "evictionCallback", 55) ∷ []) None refl tt))

plain_small : (text : List ℕ) → Small (plain_call text)
plain_small text =
    words_small text ((codes "clockEdge", 37) ∷ (codes "curCycle", 38) ∷ (codes "cyclesToTicks", 39) ∷ (codes "ticksToCycles", 40) ∷ (codes "mapAddressToMachine", 41) ∷ (codes "makeLineAddress", 42) ∷ (codes "machineIDToNodeID", 43) ∷ (codes "machineIDToMachineType", 44) ∷ (codes "wakeUpBuffers", 49) ∷ (codes "wakeUpAllBuffers", 50) ∷ (codes "profileMsgDelay", 53) ∷ []) None refl tt

abbrev SmallCall : Option Numbered → Type 0
SmallCall o = IfSome o (λ (c : Numbered). c.number < 60)

numbered_small : (on : ℕ) (o : Option ℕ) → Small o → SmallCall (numbered on o)
numbered_small on None here = tt
numbered_small on (Some n) here = here

on_table_small : (text : List ℕ) (table : ℕ) (o : Option TableSymbol) → SmallCall (on_table text table o)
on_table_small text table None = tt
on_table_small text table (Some t) = numbered_small table (table_call t.sort text) (table_small t.sort text)

called_small : (m : MachineSymbols) (t : Thing) (text : List ℕ) (count : ℕ) → SmallCall (called_on m t text count)
called_small m (thing.Port buffer) text count = numbered_small buffer (port_call text count) (port_small text count)
called_small m (thing.Table table) text count = on_table_small text table (slice_get m.tables table)
called_small m thing.Sequencer text count = numbered_small 0 (sequencer_call text count) (sequencer_small text count)
called_small m (thing.Value v) text count = numbered_small 0 (value_call v text) (value_small v text)
called_small m (thing.Message structure fields) text count = tt
called_small m (thing.Trigger t) text count = tt
called_small m thing.Nothing text count = tt

indexed_small : (m : MachineSymbols) (t : Thing) → SmallCall (indexed_on m t)
indexed_small m (thing.Table table) = by (slice_get m.tables table)
  where
    by : (o : Option TableSymbol) → SmallCall (option_map (λ (t : TableSymbol). record { number = index_call t.sort; on = table }) o)
    by None = tt
    by (Some t) = index_small t.sort
indexed_small m (thing.Port x) = tt
indexed_small m thing.Sequencer = tt
indexed_small m (thing.Value x) = tt
indexed_small m (thing.Message x y) = tt
indexed_small m (thing.Trigger x) = tt
indexed_small m thing.Nothing = tt

-- Members.

short_is : (n k : ℕ) → short_number n ≡ Some k → n ≡ k
short_is n k e = (cond_some (nat_lt n 65536) n k e).1

found_below : {X : Type 0} (p : X → Bool) (xs : List X) (o : Option ℕ) → position p xs ≡ o → IfSome (option_and_then short_number o) (λ k. k < length xs)
found_below p [] None is = tt
found_below p (x ∷ xs) None is = tt
found_below p [] (Some n) is = absurd (cc is)
found_below {X} p (x ∷ xs) (Some n) is = by (short_number n) refl
  where
    by : (o : Option ℕ) → short_number n ≡ o → IfSome o (λ k. k < length (x ∷ xs))
    by None none = tt
    by (Some k) some =
        let first = (position-Some p (x ∷ xs) n x is).0 in
        let same = short_is n k some in
        omega (arith, first, same)

pub member_below : (s : EnumerationSymbol) (text : List ℕ) → IfSome (member_named s text) (λ k. k < length s.members)
member_below s text = found_below (λ member. bytes_eq member text) s.members (position (λ member. bytes_eq member text) s.members) refl

module _ (e : Extent) where
  pub is_member : (number k : ℕ) (s : EnumerationSymbol) → slice_get e.enumerations number ≡ Some s → k < length s.members → IsMember e number k
  is_member number k s there below =
      let same : members_of e number ≡ s.members = ap (λ (o : Option EnumerationSymbol). unwrap_or (option_map (λ (x : EnumerationSymbol). x.members) o) []) there in
      let long : length (members_of e number) ≡ length s.members = ap (λ (xs : List (List ℕ)). length xs) same in
      omega (arith, below, long)

  pub zero_member : (number : ℕ) → IsMember e number 0
  zero_member number = omega arith

module _ (s : Reading) (controllers : ℕ) (kept : List Value) (is : ReadingWithin s controllers kept) where
  abbrev pub B : Bounds
  B = bounds_of s controllers kept

  abbrev pub E : Extent
  E = extent_of s controllers

  abbrev pub Thing-within : Thing → Type 0
  Thing-within t = ThingWithin E s.machine.events t

  abbrev pub Things-stay : Acting Thing → Type 0
  Things-stay p = Stay B Thing-within p

  pub value_within : (t : Thing) → Thing-within t → IsWithin E (value_in t)
  value_within (thing.Value v) within = within
  value_within (thing.Table x) within = tt
  value_within (thing.Port x) within = tt
  value_within thing.Sequencer within = tt
  value_within (thing.Message x y) within = tt
  value_within (thing.Trigger x) within = tt
  value_within thing.Nothing within = tt

  -- Names.

  got_stays : (r : Ref) (k : ℕ) → Things-stay (thing_got r k)
  unfolding thing_got
  got_stays r k = then_stays B (act_stays B (act.Get r k) tt) (λ v answers. ends_stays B answers.0)

  parameter_stays : (k : ℕ) → Things-stay (parameter s.machine k)
  unfolding parameter
  parameter_stays k =
      then_stays B {R = λ _. Unit {0}} (found_stays B _ (short_number (length s.machine.tables)) (any (short_number (length s.machine.tables))))
      (λ table _. got_stays (record { table = table; line = 0 }) k)

  own_stays : Things-stay own_number
  unfolding own_number
  own_stays = then_stays B (act_stays B act.Me tt) (λ k answers. ends_stays B answers)

  everywhere_stays : (text : List ℕ) → Things-stay (named_everywhere text)
  everywhere_stays text =
      either_stays B (bytes_eq text (codes "machineID")) (λ _. own_stays)
      (λ _. either_stays B (bytes_eq text (codes "recycle_latency")) (λ _. ends_stays B tt) (λ _. stops_stays B))

  port_stays : (o : Option ℕ) → Things-stay (port_thing o)
  unfolding port_thing
  port_stays o = then_stays B {R = λ _. Unit {0}} (found_stays B _ o (any o)) (λ buffer _. ends_stays B tt)

  declared_by : (text : List ℕ) (o : Option Named) → Things-stay (thing_declared s.machine text o)
  declared_by text None = everywhere_stays text
  declared_by text (Some (named.Table k)) = ends_stays B tt
  declared_by text (Some (named.Value k)) = parameter_stays k
  declared_by text (Some (named.Reference k)) = ends_stays B tt
  declared_by text (Some (named.Buffer k)) = stops_stays B
  declared_by text (Some (named.InPort k)) = port_stays (port_at s.machine.in_ports k)
  declared_by text (Some (named.OutPort k)) = port_stays (port_at s.machine.out_ports k)
  declared_by text (Some named.Sequencer) = ends_stays B tt

  declared_stays : (text : List ℕ) → Things-stay (declared s.machine text)
  unfolding declared
  declared_stays text = declared_by text (stands_for s.machine text)

  member_within : (owner text : List ℕ) → IfSome (member_value s owner text) (IsWithin E)
  member_within owner text = by_number (enumeration_named s.symbols s.number owner)
    where
      by_member : (number : ℕ) (e : EnumerationSymbol) → slice_get s.symbols.enumerations number ≡ Some e → (o : Option ℕ) → IfSome o (λ k. k < length e.members)
          → IfSome (option_map (λ k. plain.Enum number k) o) (IsWithin E)
      by_member number e there None below = tt
      by_member number e there (Some k) below = is_member E number k e there below

      by_enumeration : (number : ℕ) (o : Option EnumerationSymbol) → slice_get s.symbols.enumerations number ≡ o → IfSome (option_and_then (member_in text number) o) (IsWithin E)
      by_enumeration number None there = tt
      by_enumeration number (Some e) there = by_member number e there (member_named e text) (member_below e text)

      by_number : (o : Option ℕ) → IfSome (option_and_then (member_at s.symbols text) o) (IsWithin E)
      by_number None = tt
      by_number (Some number) = by_enumeration number (slice_get s.symbols.enumerations number) refl

  -- Fields.

  pub other_table : (table : ℕ) (text : List ℕ) → IfSome (line_field s table text) (λ k. ¬ (table ≡ length s.machine.tables))
  other_table table text = by (slice_get s.machine.tables table) refl
    where
      inner : (o : Option ℕ) → ¬ (table ≡ length s.machine.tables) → IfSome o (λ k. ¬ (table ≡ length s.machine.tables))
      inner None other = tt
      inner (Some k) other = other

      by : (o : Option TableSymbol) → slice_get s.machine.tables table ≡ o → IfSome (option_and_then (λ (t : TableSymbol). structure_field s.symbols t.structure text) o) (λ k. ¬ (table ≡ length s.machine.tables))
      by None there = tt
      by (Some t) there =
          let below = slice_get_within s.machine.tables table t there in
          inner (structure_field s.symbols t.structure text) (λ same. omega (arith, below, same))

  field_at_stays : (text : List ℕ) (r : Ref) → Things-stay (field_at s text r)
  unfolding field_at
  field_at_stays text r = then_stays B {R = λ _. Unit {0}} (found_stays B _ (line_field s r.table text) (any (line_field s r.table text))) (λ k _. got_stays r k)

  through_stays : (v : Value) (text : List ℕ) → Things-stay (field_through s v text)
  unfolding field_through
  through_stays v text = then_stays B {R = λ _. Unit {0}} (found_stays B _ (reference v) (any (reference v))) (λ r _. field_at_stays text r)

  pub value_found_stays : (o : Option Value) → IfSome o (IsWithin E) → Things-stay (value_found o)
  unfolding value_found
  value_found_stays o here = then_stays B (found_stays B _ o here) (λ v within. ends_stays B within)

  message_field_within : (structure : ℕ) (fields : List Value) (text : List ℕ) → AreWithin E fields → IfSome (message_field s structure fields text) (IsWithin E)
  message_field_within structure fields text within = by (structure_field s.symbols structure text)
    where
      by : (o : Option ℕ) → IfSome (option_and_then (slice_get fields) o) (IsWithin E)
      by None = tt
      by (Some k) = All-found (IsWithin E) fields k within

  field_in_stays : (text : List ℕ) (t : Thing) → Thing-within t → Things-stay (field_in s text t)
  field_in_stays text (thing.Value v) within = through_stays v text
  field_in_stays text (thing.Message structure fields) within = value_found_stays (message_field s structure fields text) (message_field_within structure fields text within)
  field_in_stays text (thing.Table x) within = stops_stays B
  field_in_stays text (thing.Port x) within = stops_stays B
  field_in_stays text thing.Sequencer within = stops_stays B
  field_in_stays text (thing.Trigger x) within = stops_stays B
  field_in_stays text thing.Nothing within = stops_stays B

  -- Operators.

  made_within : (o : Result ℤ BodyFault) → IfOk (number_made o) (IsWithin E)
  made_within (Ok n) = tt
  made_within (Err f) = tt

  joined_within : (op : Operator) (x y : Value) → IfOk (joined op x y) (IsWithin E)
  joined_within Or x y = tt
  joined_within And x y = tt
  joined_within Equal x y = tt
  joined_within Unequal x y = tt
  joined_within Less x y = tt
  joined_within Greater x y = tt
  joined_within LessOrEqual x y = tt
  joined_within GreaterOrEqual x y = tt
  joined_within Plus x y = made_within (sum x y)
  joined_within Minus x y = made_within (difference x y)
  joined_within Times x y = made_within (product x y)

  settled_within : (op : Operator) (left : Bool) → IfSome (settled_by op left) (IsWithin E)
  settled_within Or true = tt
  settled_within Or false = tt
  settled_within And true = tt
  settled_within And false = tt
  settled_within Equal left = tt
  settled_within Unequal left = tt
  settled_within Less left = tt
  settled_within Greater left = tt
  settled_within LessOrEqual left = tt
  settled_within GreaterOrEqual left = tt
  settled_within Plus left = tt
  settled_within Minus left = tt
  settled_within Times left = tt

  operated_stays : (op : Operator) (left : Value) {right : Acting Thing} → Things-stay right → Stay B (IsWithin E) (operated op left right)
  unfolding operated
  operated_stays op left right =
      decided_stays B (settled op left) (settled_within op (truth left)) (then_stays B right (λ t _. given_stays B (joined op left (value_in t)) (joined_within op left (value_in t))))

  negation_stays : (t : Thing) → Things-stay (negation_of t)
  unfolding negation_of
  negation_stays t = then_stays B (given_stays B (negated (value_in t)) (made_within (negation (value_in t)))) (λ v within. ends_stays B within)

  with_value_stays : (before : List Value) {p : Acting Thing} → AreWithin E before → Things-stay p → Stay B (AreWithin E) (with_value before p)
  unfolding with_value
  with_value_stays before within first =
      then_stays B first (λ t here. ends_stays B (All-push (IsWithin E) before (value_in t) within (value_within t here)))

  -- Calls.

  thing_of_within : (o : Option Value) → IfSome o (IsWithin E) → Thing-within (thing_of o)
  thing_of_within None here = tt
  thing_of_within (Some v) here = here

  pub built_stays : (n on : ℕ) (arguments : List Value) → n < 60 → AreWithin E arguments → Things-stay (thing_built s n on arguments)
  unfolding thing_built
  built_stays n on arguments below within =
      then_stays B (built_in_stays B s.kept is.kept n on arguments below within) (λ o here. ends_stays B (thing_of_within o here))

  among_within : (enumeration k : ℕ) (o : Option EnumerationSymbol) → slice_get s.symbols.enumerations enumeration ≡ o → IsMember E enumeration (member_among k o)
  among_within enumeration k None there = zero_member E enumeration
  among_within enumeration k (Some e) there =
      cond_both (nat_lt k (length e.members)) k 0 (IsMember E enumeration)
      (λ test. is_member E enumeration k e there (ltb-true k (length e.members) test)) (λ _. zero_member E enumeration)

  pub as_member_within : (enumeration : ℕ) (v : Value) → IsMember E enumeration (as_member s enumeration v)
  as_member_within enumeration (plain.Enum number k) =
      cond_both (number == enumeration) (member_among k (slice_get s.symbols.enumerations number)) 0 (IsMember E enumeration)
      (λ test. let same : number ≡ enumeration = eqb-true number enumeration test in
      subst (λ (n : ℕ). IsMember E enumeration (member_among k (slice_get s.symbols.enumerations n))) (sym same) (among_within enumeration k (slice_get s.symbols.enumerations enumeration) refl))
      (λ _. zero_member E enumeration)
  as_member_within enumeration (plain.Bool x) = zero_member E enumeration
  as_member_within enumeration (plain.Int x) = zero_member E enumeration
  as_member_within enumeration (plain.Addr x) = zero_member E enumeration
  as_member_within enumeration (plain.Machine x) = zero_member E enumeration
  as_member_within enumeration (plain.Dest x) = zero_member E enumeration
  as_member_within enumeration (plain.Block x) = zero_member E enumeration
  as_member_within enumeration (plain.Entry x) = zero_member E enumeration
  as_member_within enumeration (plain.Tbe x) = zero_member E enumeration

  permission_within : (m : MachineSymbols) (v : Value) → All (IsMember E 1) m.permissions → IsWithin E (permission_of m v)
  permission_within m v all = by (slice_get m.permissions (member v)) (All-found (IsMember E 1) m.permissions (member v) all)
    where
      by : (o : Option ℕ) → IfSome o (IsMember E 1) → IsMember E 1 (unwrap_or o 2)
      by None here = is.invalid
      by (Some k) here = here

  permission_stays : (text : List ℕ) (arguments : List Value) → Things-stay (permission_call s text arguments)
  permission_stays text arguments =
      value_found_stays (option_map (λ m. permission_of m (argument arguments 0)) (find (is_permission_call text) s.symbols.machines))
      (mapped (λ (m : MachineSymbols). All (IsMember E 1) m.permissions) (IsWithin E) (λ m. permission_of m (argument arguments 0)) (λ m all. permission_within m (argument arguments 0) all)
      (find (is_permission_call text) s.symbols.machines) (if_found (λ (m : MachineSymbols). All (IsMember E 1) m.permissions) (is_permission_call text) s.symbols.machines is.permissions))

  plain_stays : (text : List ℕ) (arguments : List Value) (o : Option ℕ) → Small o → AreWithin E arguments → Things-stay (plain_or s text arguments o)
  plain_stays text arguments (Some n) below within = built_stays n 0 arguments below within
  plain_stays text arguments None below within = permission_stays text arguments

  free_stays : (text : List ℕ) (arguments : List Value) → AreWithin E arguments → Things-stay (free_call s text arguments)
  unfolding free_call
  free_stays text arguments within =
      cond_stays B (bytes_eq text (codes "trigger")) (ends (thing.Trigger (trigger_of s arguments))) (plain_or s text arguments (plain_call text)) (ends_stays B (as_member_within s.machine.events (argument arguments 0))) (plain_stays text arguments (plain_call text) (plain_small text) within)

  -- calls of functions that answer what is within the bounds
  abbrev pub Calls-stay : Calls → Type 0
  Calls-stay calls = (k : ℕ) (arguments : List Value) → AreWithin E arguments → Things-stay (calls k arguments)

  module _ (calls : Calls) (calls_stay : Calls-stay calls) where
    function_stays : (text : List ℕ) (arguments : List Value) (o : Option ℕ) → AreWithin E arguments → Things-stay (function_or s calls text arguments o)
    function_stays text arguments (Some k) within = calls_stay k arguments within
    function_stays text arguments None within = free_stays text arguments within

    pub named_stays : (text : List ℕ) (arguments : List Value) → AreWithin E arguments → Things-stay (named_call s calls text arguments)
    unfolding named_call
    named_stays text arguments within = function_stays text arguments (function_named s.machine text) within

  receiver_within : (t : Thing) (arguments : List Value) → Thing-within t → AreWithin E arguments → AreWithin E (with_receiver t arguments)
  receiver_within (thing.Value v) arguments here within = All-cons (IsWithin E) v arguments here within
  receiver_within (thing.Table x) arguments here within = within
  receiver_within (thing.Port x) arguments here within = within
  receiver_within thing.Sequencer arguments here within = within
  receiver_within (thing.Message x y) arguments here within = within
  receiver_within (thing.Trigger x) arguments here within = within
  receiver_within thing.Nothing arguments here within = within

  method_stays : (t : Thing) (text : List ℕ) (arguments : List Value) → Thing-within t → AreWithin E arguments → Things-stay (method_call s t text arguments)
  unfolding method_call
  method_stays t text arguments here within =
      then_stays B (found_stays B _ (called_on s.machine t text (length arguments)) (called_small s.machine t text (length arguments)))
      (λ c below. built_stays c.number c.on (with_receiver t arguments) below (receiver_within t arguments here within))

  index_stays : (t : Thing) (key : Value) → IsWithin E key → Things-stay (index s t key)
  unfolding index
  index_stays t key within =
      then_stays B (found_stays B _ (indexed_on s.machine t) (indexed_small s.machine t))
      (λ c below. built_stays c.number c.on (key ∷ []) below (All-cons (IsWithin E) key [] within (All-nil (IsWithin E))))

  -- Expressions.

  module _ (calls : Calls) (calls_stay : Calls-stay calls) (frame : Frame) (has : FrameWithin E s.machine.events frame) where
    pub bound_within : (text : List ℕ) → IfSome (thing_bound text frame.names) Thing-within
    bound_within text =
        mapped (λ (b : Bound). Thing-within b.thing) Thing-within (λ (b : Bound). b.thing) (λ b here. here) (find (is_named text) frame.names)
        (if_found (λ (b : Bound). Thing-within b.thing) (is_named text) frame.names has)

    entry_within : (a : About) → IfSome (cond (is_some s.machine.entry) (Some (thing.Value (plain.Entry a.entry))) None) Thing-within
    entry_within a = cond_both (is_some s.machine.entry) (Some (thing.Value (plain.Entry a.entry))) None (λ o. IfSome o Thing-within) (λ _. tt) (λ _. tt)

    tbe_within : (a : About) → IfSome (cond (is_some s.machine.tbe) (Some (thing.Value (plain.Entry a.tbe))) None) Thing-within
    tbe_within a = cond_both (is_some s.machine.tbe) (Some (thing.Value (plain.Entry a.tbe))) None (λ o. IfSome o Thing-within) (λ _. tt) (λ _. tt)

    about_within : (o : Option About) (text : List ℕ) → IfSome (thing_about s.machine o text) Thing-within
    about_within None text = tt
    about_within (Some a) text =
        let entry : Option Thing = cond (is_some s.machine.entry) (Some (thing.Value (plain.Entry a.entry))) None in
        let tbe : Option Thing = cond (is_some s.machine.tbe) (Some (thing.Value (plain.Entry a.tbe))) None in
        let last : Option Thing = cond (bytes_eq text (codes "tbe")) tbe None in
        cond_both (bytes_eq text (codes "address")) (Some (thing.Value (plain.Addr a.address))) (cond (bytes_eq text (codes "cache_entry")) entry last) (λ o. IfSome o Thing-within) (λ _. tt)
        (λ _. cond_both (bytes_eq text (codes "cache_entry")) entry last (λ o. IfSome o Thing-within) (λ _. entry_within a)
        (λ _. cond_both (bytes_eq text (codes "tbe")) tbe None (λ o. IfSome o Thing-within) (λ _. tbe_within a) (λ _. tt)))

    either_within : (o p : Option Thing) → IfSome o Thing-within → IfSome p Thing-within → IfSome (option_or o p) Thing-within
    either_within None p first second = second
    either_within (Some t) p first second = first

    variable_by : (text : List ℕ) (o : Option Thing) → IfSome o Thing-within → Things-stay (variable_or s text o)
    variable_by text None here = declared_stays text
    variable_by text (Some t) here = ends_stays B here

    variable_stays : (text : List ℕ) → Things-stay (variable s frame text)
    unfolding variable
    variable_stays text =
        variable_by text (thing_in s frame text)
        (either_within (thing_bound text frame.names) (thing_about s.machine frame.about text) (bound_within text) (about_within frame.about text))

    mutual
      pub value_stays : (e : Expr) → Things-stay (value s calls frame e)
      value_stays (Operation' first n others span) = then_stays B (value_stays first) (λ t here. then_stays B (operands_stay (value_in t) others (value_within t here)) (λ v within. ends_stays B within))
      value_stays (Not' operand span) = then_stays B (value_stays operand) (λ t here. ends_stays B tt)
      value_stays (Negate' operand span) = then_stays B (value_stays operand) (λ t here. negation_stays t)
      value_stays (Postfix' inner n suffixes span) = then_stays B (value_stays inner) (λ t here. suffixes_stay t suffixes here)
      value_stays (Number n span) = ends_stays B tt
      value_stays (True span) = ends_stays B tt
      value_stays (False span) = ends_stays B tt
      value_stays (Nothing span) = ends_stays B tt
      value_stays (Variable name) = variable_stays name.text
      value_stays (Member owner text span) = value_found_stays (member_value s owner.text text.text) (member_within owner.text text.text)
      value_stays (Call' called shape row arguments span) = then_stays B (values_stay [] row (All-nil (IsWithin E))) (λ vs within. named_stays calls calls_stay called.text vs within)
      value_stays (New made span) = ends_stays B tt
      value_stays (IsValid' inner span) = then_stays B (value_stays inner) (λ t here. ends_stays B tt)
      value_stays (IsInvalid' inner span) = then_stays B (value_stays inner) (λ t here. ends_stays B tt)
      value_stays (Cast' target mode inner span) = value_stays inner
      value_stays (Group' inner span) = value_stays inner

      pub operands_stay : {m : _} (left : Value) (row : Row_of-Operand m) → IsWithin E left → Stay B (IsWithin E) (operands s calls frame left row)
      operands_stay left end_of-Operand here = ends_stays B here
      operands_stay left (more_of-Operand operator inner row) here = then_stays B (operated_stays operator left (value_stays inner)) (λ v within. operands_stay v row within)

      pub suffix_stays : (t : Thing) (x : Suffix) → Thing-within t → Things-stay (suffixed s calls frame t x)
      suffix_stays t (Field name span) here = field_in_stays name.text t here
      suffix_stays t (Method' called shape row arguments span) here = then_stays B (values_stay [] row (All-nil (IsWithin E))) (λ vs within. method_stays t called.text vs here within)
      suffix_stays t (Index key span) here = then_stays B (value_stays key) (λ k within. index_stays t (value_in k) (value_within k within))

      pub suffixes_stay : {m : _} (t : Thing) (row : Row_of-Suffix m) → Thing-within t → Things-stay (suffixed_all s calls frame t row)
      suffixes_stay t end_of-Suffix here = ends_stays B here
      suffixes_stay t (more_of-Suffix first row) here = then_stays B (suffix_stays t first here) (λ u within. suffixes_stay u row within)

      pub values_stay : {m : _} (before : List Value) (row : Row_of-Expr m) → AreWithin E before → Stay B (AreWithin E) (values s calls frame before row)
      values_stay before end_of-Expr within = ends_stays B within
      values_stay before (more_of-Expr first row) within = then_stays B (with_value_stays before within (value_stays first)) (λ vs here. values_stay vs row here)

    each_suffix_stays : (t : Thing) (xs : List Suffix) → Thing-within t → Things-stay (each (suffixed s calls frame) t xs)
    each_suffix_stays t [] here = ends_stays B here
    each_suffix_stays t (x ∷ xs) here = then_stays B (suffix_stays t x here) (λ u within. each_suffix_stays u xs within)

    pub behind_stays : (inner : Expr) (suffixes : List Suffix) → Things-stay (value_behind s calls frame inner suffixes)
    unfolding value_behind
    behind_stays inner suffixes = then_stays B (value_stays inner) (λ t here. each_suffix_stays t suffixes here)

    each_value_stays : (vs : List Value) (es : List Expr) → AreWithin E vs → Stay B (AreWithin E) (each (value_step s calls frame) vs es)
    each_value_stays vs [] within = ends_stays B within
    each_value_stays vs (e ∷ es) within = then_stays B (with_value_stays vs within (value_stays e)) (λ us here. each_value_stays us es here)

    pub all_values_stay : (arguments : List Expr) → Stay B (AreWithin E) (values_of s calls frame arguments)
    unfolding values_of
    all_values_stay arguments = each_value_stays [] arguments (All-nil (IsWithin E))
