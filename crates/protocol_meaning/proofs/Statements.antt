-- What statements do stays within bounds, and so does what bodies of functions do.
use Rattle.std.proofs.Common.{◌≡◌, ◌+◌, ◌-◌, ◌<◌, ℕ, zero, suc, cond, List, [], ◌∷◌, All, IfSome, Option, None, Some, drop, set, length, slice_get, lit<}
use Rattle.std.specs.Prelude.{codes, position}
use Rattle.std.proofs.lemmas.List.Elements.{All-cons, All-head, All-map, All-nil, All-set, All-tail}
use Rattle.std.specs.Option.{option_map}
use Rattle.std.specs.Str.{bytes_eq}
use Rattle.slicc_ast.specs.declared.tree.expression.Suffix.{Suffix, Field, Method', Index}
use Rattle.slicc_ast.specs.declared.tree.expression.Expr.{Expr, Number, True, False, Nothing, Variable, Member, Call', New, items-the_row-Expr, items-the_row-Suffix}
use Rattle.slicc_ast.specs.declared.tree.statement.Block.{Block}
use Rattle.slicc_ast.specs.declared.tree.statement.If.{If, If', Held-If-otherwise, None', Some', Row_of-ElseIf, end_of-ElseIf, more_of-ElseIf}
use Rattle.slicc_ast.specs.declared.tree.statement.Stmt.{Stmt, Declare, Assign, Evaluate, Return, If as IfStmt, Peek', Enqueue', StallAndWait, CheckAllocate, Error, Assert, Print, Row_of-Stmt, end_of-Stmt, more_of-Stmt}
use Rattle.slicc_ast.specs.Prelude.{Operation', Not', Negate', Postfix', IsValid', IsInvalid', Cast', Group'}
use Rattle.ruby_value.specs.declared.value.Value.{Value}
use Rattle.ruby_symbols.specs.declared.machine.FormalSymbol.{FormalSymbol}
use Rattle.ruby_symbols.specs.declared.machine.FunctionSymbol.{FunctionSymbol}
use Rattle.ruby_symbols.specs.declared.types.FieldSymbol.{FieldSymbol}
use Rattle.ruby_symbols.specs.declared.types.StructureSymbol.{StructureSymbol}
use Rattle.ruby_symbols.specs.Prelude.{function_named}
use Rattle.ctl_face.proofs.Lines.{All-found}
use Rattle.acts.specs.declared.body_fault.BodyFault.TheVariants as own
use Rattle.acts.specs.Act as act
use Rattle.acts.specs.Prelude.{Acting, ◌>>=◌, found}
use Rattle.built_in_acts.specs.Prelude.{built_in, reference, truth}
use Rattle.body_meaning.specs.declared.frame.About.{About}
use Rattle.body_meaning.specs.declared.frame.Bound.{Bound}
use Rattle.body_meaning.specs.declared.frame.Flow.{Flow}
use Rattle.body_meaning.specs.declared.frame.Flow.TheVariants.{WentOn, Returned, Triggered}
use Rattle.body_meaning.specs.declared.frame.Frame.{Frame}
use Rattle.body_meaning.specs.declared.frame.Place.{Place}
use Rattle.body_meaning.specs.declared.frame.Place.TheVariants.{Named, Part, Line}
use Rattle.body_meaning.specs.declared.thing.Thing.{Thing}
use Rattle.body_meaning.specs.declared.thing.Thing.TheVariants as thing
use Rattle.body_meaning.specs.Prelude.{answer_of, body_of, bound_formals, calls_of, calls_within, frame_of, function_called, function_run, with_formal, changes_receiver, stall_call, write_callback, Calls, value_call, value, value_behind, values_of, Ended, bind, bound_at, is_named, leave, outermost, rebind, thing_bound, initial_fields, line_field, message_of, new_message, port_named, structure_field, at_place, before_last, field_place, last_of, line_place, name_behind, part_of, part_place, place_behind, place_last, place_of, place_with, with_part, with_place, Reading, about_after, after, all_done, assigned, behind_alone, block_in, called_alone, called_or, changed, chosen, ends_by, enqueued, evaluated, exec, fields_made, flow_of, goes_on, if_done, last_alone, latency, otherwise_done, others_done, peeked, returned, row_done, scoped, sent, stalled, went_on, written_back, value_in}
use Rattle.protocol_meaning.specs.Prelude.{AreWithin, Extent, IsWithin}
use Rattle.protocol_meaning.proofs.Bounds.{Bounds}
use Rattle.protocol_meaning.proofs.Reading.{FlowWithin, FrameWithin, ReadingWithin, bounds_of, extent_of}
use Rattle.protocol_meaning.proofs.BuiltIn.{built_in_stays}
use Rattle.protocol_meaning.proofs.Expressions.{Calls-stay, Thing-within, all_values_stay, behind_stays, bound_within, named_stays, other_table, value_small, value_stays, value_within, write_small}
use Rattle.protocol_meaning.proofs.Stay.{Stay, act_stays, and_stays, cond_stays, done_stays, either_stays, ends_stays, found_stays, stops_stays, then_stays, weaker_stays}

all_dropped : {X : Type 0} (P : X → Type 0) (n : ℕ) (xs : List X) → All P xs → All P (drop n xs)
all_dropped P zero xs all = all
all_dropped P (suc n) [] all = All-nil P
all_dropped P (suc n) (x ∷ xs) all = all_dropped P n xs (All-tail P x xs all)

any : {X : Type 0} (o : Option X) → IfSome o (λ _. Unit {0})
any None = tt
any (Some x) = tt

module _ (s : Reading) (controllers : ℕ) (kept : List Value) (is : ReadingWithin s controllers kept) where
  abbrev Bs : Bounds
  Bs = bounds_of s controllers kept

  abbrev Es : Extent
  Es = extent_of s controllers

  abbrev Of-thing : Thing → Type 0
  Of-thing t = Thing-within s controllers kept is t

  abbrev Of-bound : Bound → Type 0
  Of-bound x = Of-thing x.thing

  abbrev pub Of-frame : Frame → Type 0
  Of-frame frame = FrameWithin Es s.machine.events frame

  pub record Ended-within (x : Ended) : Type 0 where
    pub flow : FlowWithin Es s.machine.events x.flow
    pub frame : Of-frame x.frame

  abbrev pub Ends-stay : Acting Ended → Type 0
  Ends-stay p = Stay Bs Ended-within p

  abbrev pub Block-stays : (Frame → Acting Ended) → Type 0
  Block-stays block = (frame : Frame) → Of-frame frame → Ends-stay (block frame)

  -- Frames.

  outer_within : (n : ℕ) (names : List Bound) → All Of-bound names → All Of-bound (outermost n names)
  unfolding outermost
  outer_within n names all = all_dropped Of-bound (length names - n) names all

  bind_within : (text : List ℕ) (t : Thing) (frame : Frame) → Of-thing t → Of-frame frame → Of-frame (bind text t frame)
  bind_within text t frame here within = All-cons Of-bound (record { name = text; thing = t }) frame.names here within

  rebind_within : (text : List ℕ) (t : Thing) (frame : Frame) → Of-thing t → Of-frame frame → Of-frame (rebind text t frame)
  rebind_within text t frame here within = by (position (is_named text) frame.names)
    where
      by : (o : Option ℕ) → All Of-bound (bound_at text t frame.names o)
      by None = within
      by (Some i) = All-set Of-bound frame.names i (record { name = text; thing = t }) here within

  pub no_names : (about : Option About) → Of-frame (record { names = []; about = about })
  no_names about = All-nil Of-bound

  -- Ends.

  went_stays : Block-stays went_on
  went_stays frame within = ends_stays Bs (record { flow = tt; frame = within })

  flow_within : (t : Thing) → Of-thing t → FlowWithin Es s.machine.events (flow_of t)
  flow_within (thing.Trigger t) here = here
  flow_within (thing.Value x) here = tt
  flow_within (thing.Table x) here = tt
  flow_within (thing.Port x) here = tt
  flow_within thing.Sequencer here = tt
  flow_within (thing.Message x y) here = tt
  flow_within thing.Nothing here = tt

  by_stays : (frame : Frame) {p : Acting Thing} → Of-frame frame → Stay Bs Of-thing p → Ends-stay (ends_by frame p)
  unfolding ends_by
  by_stays frame within first = then_stays Bs first (λ t here. ends_stays Bs (record { flow = flow_within t here; frame = within }))

  after_stays : (next : Frame → Acting Ended) → Block-stays next → (flow : Flow) (frame : Frame) → FlowWithin Es s.machine.events flow → Of-frame frame → Ends-stay (after next flow frame)
  after_stays next stays WentOn frame here within = stays frame within
  after_stays next stays (Returned t) frame here within = ends_stays Bs (record { flow = here; frame = within })
  after_stays next stays (Triggered t) frame here within = ends_stays Bs (record { flow = here; frame = within })

  goes_on_stays : {p : Acting Ended} (next : Frame → Acting Ended) → Ends-stay p → Block-stays next → Ends-stay (goes_on p next)
  unfolding goes_on
  goes_on_stays next first stays = then_stays Bs first (λ x here. after_stays next stays x.flow x.frame here.flow here.frame)

  scoped_stays : (block : Frame → Acting Ended) → Block-stays block → (n : ℕ) (frame : Frame) → Of-frame frame → Ends-stay (scoped block n frame)
  unfolding scoped
  scoped_stays block stays n frame within =
      then_stays Bs (stays frame within) (λ x here. ends_stays Bs (record { flow = here.flow; frame = outer_within n x.frame.names here.frame }))

  block_stays : (block : Frame → Acting Ended) → Block-stays block → Block-stays (block_in block)
  block_stays block stays frame within = scoped_stays block stays (length frame.names) frame within

  -- Messages.

  peeked_stays : (port : List ℕ) (block : Frame → Acting Ended) → Block-stays block → Block-stays (peeked s.machine port block)
  unfolding peeked
  peeked_stays port block stays frame within =
      then_stays Bs {R = λ _. Unit {0}} (found_stays Bs _ (port_named s.machine port) (any (port_named s.machine port)))
      (λ buffer _. then_stays Bs {R = λ _. Unit {0}} (found_stays Bs _ (message_of s.machine buffer) (any (message_of s.machine buffer)))
      (λ structure _. then_stays Bs (act_stays Bs (act.Front buffer) tt)
      (λ m answers. scoped_stays block stays (length frame.names) (bind (codes "in_msg") (thing.Message structure m.fields) frame)
      (bind_within (codes "in_msg") (thing.Message structure m.fields) frame answers within))))

  made_within : (names : List Bound) → All Of-bound names → AreWithin Es (fields_made names)
  made_within [] all = All-nil (IsWithin Es)
  made_within (x ∷ names) all = by x.thing (All-head Of-bound x names all)
    where
      by : (t : Thing) → Of-thing t → AreWithin Es (fields_made (record { name = x.name; thing = t } ∷ names))
      by (thing.Message structure fields) here = here
      by (thing.Value y) here = All-nil (IsWithin Es)
      by (thing.Table y) here = All-nil (IsWithin Es)
      by (thing.Port y) here = All-nil (IsWithin Es)
      by thing.Sequencer here = All-nil (IsWithin Es)
      by (thing.Trigger y) here = All-nil (IsWithin Es)
      by thing.Nothing here = All-nil (IsWithin Es)

  new_within : (structure : ℕ) → IfSome (new_message s structure) Of-thing
  new_within structure = by (slice_get s.symbols.structures structure) (is.structures structure)
    where
      by : (o : Option StructureSymbol) → IfSome o (λ (t : StructureSymbol). All (λ (f : FieldSymbol). IsWithin Es f.initial) t.fields)
          → IfSome (option_map (λ (t : StructureSymbol). thing.Message structure (initial_fields t)) o) Of-thing
      by None all = tt
      by (Some t) all = All-map (IsWithin Es) (λ (f : FieldSymbol). f.initial) t.fields all

  module _ (calls : Calls) (calls_stay : Calls-stay s controllers kept is calls) where
    -- what an expression gives
    gives : (frame : Frame) (e : Expr) → Of-frame frame → Stay Bs Of-thing (value s calls frame e)
    gives frame e within = value_stays s controllers kept is calls calls_stay frame within e

    arguments_stay : (frame : Frame) (es : List Expr) → Of-frame frame → Stay Bs (AreWithin Es) (values_of s calls frame es)
    arguments_stay frame es within = all_values_stay s controllers kept is calls calls_stay frame within es

    given : (t : Thing) → Of-thing t → IsWithin Es (value_in t)
    given t here = value_within s controllers kept is t here

    latency_stays : (frame : Frame) (o : Option Expr) → Of-frame frame → Stay Bs (λ _. Unit {0}) (latency s calls frame o)
    latency_stays frame None within = ends_stays Bs tt
    latency_stays frame (Some e) within = then_stays Bs (gives frame e within) (λ t here. ends_stays Bs tt)

    sent_stays : (buffer : ℕ) (written : Option Expr) (n : ℕ) (flow : Flow) (frame : Frame) → FlowWithin Es s.machine.events flow → Of-frame frame → Ends-stay (sent s calls buffer written n flow frame)
    sent_stays buffer written n WentOn frame here within =
        let left = outer_within n frame.names within in
        then_stays Bs (latency_stays (leave n frame) written left)
        (λ l _. and_stays Bs (done_stays Bs (act.Send buffer l (fields_made (outermost (n + 1) frame.names))) (made_within (outermost (n + 1) frame.names) (outer_within (n + 1) frame.names within)))
        (went_stays (leave n frame) left))
    sent_stays buffer written n (Returned t) frame here within = ends_stays Bs (record { flow = here; frame = outer_within n frame.names within })
    sent_stays buffer written n (Triggered t) frame here within = ends_stays Bs (record { flow = here; frame = outer_within n frame.names within })

    enqueued_stays : (port : List ℕ) (written : Option Expr) (block : Frame → Acting Ended) → Block-stays block → Block-stays (enqueued s calls port written block)
    unfolding enqueued
    enqueued_stays port written block stays frame within =
        then_stays Bs {R = λ _. Unit {0}} (found_stays Bs _ frame.about (any frame.about))
        (λ about _. then_stays Bs {R = λ _. Unit {0}} (found_stays Bs _ (port_named s.machine port) (any (port_named s.machine port)))
        (λ buffer _. then_stays Bs {R = λ _. Unit {0}} (found_stays Bs _ (message_of s.machine buffer) (any (message_of s.machine buffer)))
        (λ structure _. then_stays Bs (found_stays Bs _ (new_message s structure) (new_within structure))
        (λ t here. then_stays Bs (stays (bind (codes "out_msg") t frame) (bind_within (codes "out_msg") t frame here within))
        (λ x at. sent_stays buffer written (length frame.names) x.flow x.frame at.flow at.frame)))))

    stalled_stays : (port : List ℕ) (address : Expr) → Block-stays (stalled s calls port address)
    unfolding stalled
    stalled_stays port address frame within =
        then_stays Bs {R = λ _. Unit {0}} (found_stays Bs _ (port_named s.machine port) (any (port_named s.machine port)))
        (λ buffer _. then_stays Bs (gives frame address within)
        (λ t here. and_stays Bs (built_in_stays Bs s.kept is.kept stall_call buffer (value_in t ∷ []) (lit< tt) (All-cons (IsWithin Es) (value_in t) [] (given t here) (All-nil (IsWithin Es))))
        (went_stays frame within)))

    -- Places: none is a field of the table of values.

    abbrev Of-place : Place → Type 0
    Of-place (Named text) = Unit {0}
    Of-place (Part text k) = Unit {0}
    Of-place (Line r k) = ¬ (r.table ≡ length s.machine.tables)

    line_stays : (v : Value) (text : List ℕ) → Stay Bs Of-place (line_place s v text)
    unfolding line_place
    line_stays v text =
        then_stays Bs {R = λ _. Unit {0}} (found_stays Bs _ (reference v) (any (reference v)))
        (λ r _. then_stays Bs (found_stays Bs _ (line_field s r.table text) (other_table s controllers kept is r.table text)) (λ k other. ends_stays Bs other))

    part_within : (name : Option (List ℕ)) (structure : ℕ) (text : List ℕ) → IfSome (part_place s name structure text) Of-place
    part_within None structure text = tt
    part_within (Some name) structure text = by (structure_field s.symbols structure text)
      where
        by : (o : Option ℕ) → IfSome (option_map (Part name) o) Of-place
        by None = tt
        by (Some k) = tt

    field_stays : (name : Option (List ℕ)) (text : List ℕ) (t : Thing) → Stay Bs Of-place (field_place s name text t)
    field_stays name text (thing.Value v) = line_stays v text
    field_stays name text (thing.Message structure fields) = found_stays Bs _ (part_place s name structure text) (part_within name structure text)
    field_stays name text (thing.Table x) = stops_stays Bs
    field_stays name text (thing.Port x) = stops_stays Bs
    field_stays name text thing.Sequencer = stops_stays Bs
    field_stays name text (thing.Trigger x) = stops_stays Bs
    field_stays name text thing.Nothing = stops_stays Bs

    module _ (frame : Frame) (within : Of-frame frame) where
      last_stays : (inner : Expr) (before : List Suffix) (o : Option Suffix) → Stay Bs Of-place (place_last s calls frame inner before o)
      last_stays inner before (Some (Field name span)) =
          then_stays Bs (behind_stays s controllers kept is calls calls_stay frame within inner before) (λ t here. field_stays (name_behind inner before) name.text t)
      last_stays inner before (Some (Method' called shape row arguments span)) = stops_stays Bs
      last_stays inner before (Some (Index key span)) = stops_stays Bs
      last_stays inner before None = stops_stays Bs

      behind_place_stays : (inner : Expr) (suffixes : List Suffix) → Stay Bs Of-place (place_behind s calls frame inner suffixes)
      unfolding place_behind
      behind_place_stays inner suffixes = last_stays inner (before_last suffixes) (last_of suffixes)

      place_stays : (e : Expr) → Stay Bs Of-place (place_of s calls frame e)
      place_stays (Variable name) = ends_stays Bs tt
      place_stays (Group' inner span) = place_stays inner
      place_stays (Postfix' inner n suffixes span) = behind_place_stays inner (items-the_row-Suffix _ suffixes)
      place_stays (Operation' first n others span) = stops_stays Bs
      place_stays (Not' operand span) = stops_stays Bs
      place_stays (Negate' operand span) = stops_stays Bs
      place_stays (Number n span) = stops_stays Bs
      place_stays (True span) = stops_stays Bs
      place_stays (False span) = stops_stays Bs
      place_stays (Nothing span) = stops_stays Bs
      place_stays (Member owner text span) = stops_stays Bs
      place_stays (Call' called shape row arguments span) = stops_stays Bs
      place_stays (New made span) = stops_stays Bs
      place_stays (IsValid' inner span) = stops_stays Bs
      place_stays (IsInvalid' inner span) = stops_stays Bs
      place_stays (Cast' target mode inner span) = stops_stays Bs

      with_stays : (e : Expr) (suffixes : List Suffix) → Stay Bs Of-place (place_with s calls frame e suffixes)
      with_stays e [] = place_stays e
      with_stays e (x ∷ xs) = behind_place_stays e (x ∷ xs)

      own_within : (text : List ℕ) → IfSome (thing_bound text frame.names) Of-thing
      own_within text = bound_within s controllers kept is calls calls_stay frame within text

      value_bound : (o : Option Thing) → IfSome o Of-thing → IfSome (option_map value_in o) (IsWithin Es)
      value_bound None here = tt
      value_bound (Some t) here = given t here

      part_found : (k : ℕ) (o : Option Thing) → IfSome o Of-thing → IfSome (part_of k o) (IsWithin Es)
      part_found k None here = tt
      part_found k (Some (thing.Message structure fields)) here = All-found (IsWithin Es) fields k here
      part_found k (Some (thing.Value x)) here = tt
      part_found k (Some (thing.Table x)) here = tt
      part_found k (Some (thing.Port x)) here = tt
      part_found k (Some thing.Sequencer) here = tt
      part_found k (Some (thing.Trigger x)) here = tt
      part_found k (Some thing.Nothing) here = tt

      at_stays : (p : Place) → Stay Bs (IsWithin Es) (at_place frame p)
      at_stays (Named text) = found_stays Bs _ (option_map value_in (thing_bound text frame.names)) (value_bound (thing_bound text frame.names) (own_within text))
      at_stays (Part text k) = found_stays Bs _ (part_of k (thing_bound text frame.names)) (part_found k (thing_bound text frame.names) (own_within text))
      at_stays (Line r k) = weaker_stays Bs (act_stays Bs (act.Get r k) tt) (λ v answers. answers.0)

      with_part_within : (text : List ℕ) (k : ℕ) (v : Value) (o : Option Thing) → IsWithin Es v → IfSome o Of-thing → Of-frame (with_part text k v frame o)
      with_part_within text k v None here at = within
      with_part_within text k v (Some (thing.Message structure fields)) here at =
          rebind_within text (thing.Message structure (set fields k v)) frame (All-set (IsWithin Es) fields k v here at) within
      with_part_within text k v (Some (thing.Value x)) here at = within
      with_part_within text k v (Some (thing.Table x)) here at = within
      with_part_within text k v (Some (thing.Port x)) here at = within
      with_part_within text k v (Some thing.Sequencer) here at = within
      with_part_within text k v (Some (thing.Trigger x)) here at = within
      with_part_within text k v (Some thing.Nothing) here at = within

      write_stays : (p : Place) (v : Value) → Of-place p → IsWithin Es v → Stay Bs Of-frame (with_place frame p v)
      write_stays (Named text) v other here = ends_stays Bs (rebind_within text (thing.Value v) frame here within)
      write_stays (Part text k) v other here = ends_stays Bs (with_part_within text k v (thing_bound text frame.names) here (own_within text))
      write_stays (Line r k) v other here = and_stays Bs (done_stays Bs (act.Set r k v) (other, here)) (ends_stays Bs within)

      -- Changes.

      assigned_stays : (place e : Expr) → Ends-stay (assigned s calls place e frame)
      unfolding assigned
      assigned_stays place e =
          then_stays Bs (gives frame e within)
          (λ t here. then_stays Bs (place_stays place)
          (λ p other. then_stays Bs (write_stays p (value_in t) other (given t here)) (λ f at. went_stays f at)))

      -- what a call makes of the place that it changes
      written_stays : (p : Place) (n : ℕ) (vs : List Value) → Of-place p → n < 60 → AreWithin Es vs
          → Ends-stay (built_in s.kept n 0 vs >>= (λ w. found own.Reference w >>= (λ x. with_place frame p x >>= went_on)))
      written_stays p n vs other below all =
          then_stays Bs (built_in_stays Bs s.kept is.kept n 0 vs below all)
          (λ w here. then_stays Bs (found_stays Bs _ w here)
          (λ x at. then_stays Bs (write_stays p x other at) (λ f so. went_stays f so)))

      changed_stays : (inner : Expr) (before : List Suffix) (text : List ℕ) (arguments : List Expr) → Ends-stay (changed s calls inner before text arguments frame)
      unfolding changed
      changed_stays inner before text arguments =
          then_stays Bs (with_stays inner before)
          (λ p other. then_stays Bs (at_stays p)
          (λ v at. then_stays Bs (arguments_stay frame arguments within)
          (λ vs all. then_stays Bs (found_stays Bs _ (value_call v text) (value_small v text))
          (λ n below. written_stays p n (v ∷ vs) other below (All-cons (IsWithin Es) v vs at all)))))

      back_stays : (arguments : List Expr) → Ends-stay (written_back s calls arguments frame)
      back_stays [] = stops_stays Bs
      back_stays (address ∷ []) = stops_stays Bs
      back_stays (address ∷ block ∷ others) =
          then_stays Bs (gives frame address within)
          (λ t here. then_stays Bs (place_stays block)
          (λ p other. then_stays Bs (at_stays p)
          (λ v at. then_stays Bs (arguments_stay frame others within)
          (λ vs all. written_stays p (write_callback (2 + length vs)) (value_in t ∷ v ∷ vs) other (write_small (2 + length vs))
          (All-cons (IsWithin Es) (value_in t) (v ∷ vs) (given t here) (All-cons (IsWithin Es) v vs at all))))))

      called_or_stays : (text : List ℕ) (arguments : List Value) (o : Option (Option About)) → AreWithin Es arguments → Ends-stay (called_or s calls text arguments frame o)
      called_or_stays text arguments (Some about) all = went_stays (record frame { about = about }) within
      called_or_stays text arguments None all = by_stays frame within (named_stays s controllers kept is calls calls_stay text arguments all)

      called_stays : (text : List ℕ) (arguments : List Value) → AreWithin Es arguments → Ends-stay (called_alone s calls text frame arguments)
      unfolding called_alone
      called_stays text arguments all = called_or_stays text arguments (about_after s calls text arguments frame.about (function_named s.machine text)) all

      -- Expressions as statements.

      last_alone_stays : (inner : Expr) (suffixes : List Suffix) (o : Option Suffix) → Ends-stay (last_alone s calls inner suffixes frame o)
      last_alone_stays inner suffixes (Some (Method' called shape row written span)) =
          let arguments : List Expr = items-the_row-Expr _ row in
          let change = changed s calls inner (before_last suffixes) called.text arguments frame in
          let back = written_back s calls arguments frame in
          let rest = ends_by frame (value_behind s calls frame inner suffixes) in
          cond_stays Bs (changes_receiver called.text) change (cond (bytes_eq called.text (codes "writeCallback")) back rest)
          (changed_stays inner (before_last suffixes) called.text arguments)
          (cond_stays Bs (bytes_eq called.text (codes "writeCallback")) back rest (back_stays arguments)
          (by_stays frame within (behind_stays s controllers kept is calls calls_stay frame within inner suffixes)))
      last_alone_stays inner suffixes (Some (Field name span)) = by_stays frame within (behind_stays s controllers kept is calls calls_stay frame within inner suffixes)
      last_alone_stays inner suffixes (Some (Index key span)) = by_stays frame within (behind_stays s controllers kept is calls calls_stay frame within inner suffixes)
      last_alone_stays inner suffixes None = by_stays frame within (behind_stays s controllers kept is calls calls_stay frame within inner suffixes)

      alone_stays : (inner : Expr) (suffixes : List Suffix) → Ends-stay (behind_alone s calls inner suffixes frame)
      unfolding behind_alone
      alone_stays inner suffixes = last_alone_stays inner suffixes (last_of suffixes)

      plainly : (e : Expr) → Ends-stay (ends_by frame (value s calls frame e))
      plainly e = by_stays frame within (gives frame e within)

      evaluated_stays : (e : Expr) → Ends-stay (evaluated s calls e frame)
      evaluated_stays (Group' inner span) = evaluated_stays inner
      evaluated_stays (Call' called shape row arguments span) =
          then_stays Bs (arguments_stay frame (items-the_row-Expr _ row) within) (λ vs all. called_stays called.text vs all)
      evaluated_stays (Postfix' inner n suffixes span) = alone_stays inner (items-the_row-Suffix _ suffixes)
      evaluated_stays (Variable name) = plainly (Variable name)
      evaluated_stays (Operation' first n others span) = plainly (Operation' first n others span)
      evaluated_stays (Not' operand span) = plainly (Not' operand span)
      evaluated_stays (Negate' operand span) = plainly (Negate' operand span)
      evaluated_stays (Number n span) = plainly (Number n span)
      evaluated_stays (True span) = plainly (True span)
      evaluated_stays (False span) = plainly (False span)
      evaluated_stays (Nothing span) = plainly (Nothing span)
      evaluated_stays (Member owner text span) = plainly (Member owner text span)
      evaluated_stays (New made span) = plainly (New made span)
      evaluated_stays (IsValid' inner span) = plainly (IsValid' inner span)
      evaluated_stays (IsInvalid' inner span) = plainly (IsInvalid' inner span)
      evaluated_stays (Cast' target mode inner span) = plainly (Cast' target mode inner span)

      returned_stays : (o : Option Expr) → Ends-stay (returned s calls o frame)
      returned_stays None = ends_stays Bs (record { flow = tt; frame = within })
      returned_stays (Some e) = then_stays Bs (gives frame e within) (λ t here. ends_stays Bs (record { flow = here; frame = within }))

    chosen_stays : (condition : Expr) (first second : Frame → Acting Ended) → Block-stays first → Block-stays second → Block-stays (chosen s calls condition first second)
    unfolding chosen
    chosen_stays condition first second one other frame within =
        then_stays Bs (gives frame condition within) (λ t here. either_stays Bs (truth (value_in t)) (λ _. one frame within) (λ _. other frame within))

    mutual
      exec_stays : (x : Stmt) → Block-stays (exec s calls x)
      exec_stays (Declare kind local e span) frame within = then_stays Bs (gives frame e within) (λ t here. went_stays (bind local.text t frame) (bind_within local.text t frame here within))
      exec_stays (Assign place e span) frame within = assigned_stays frame within place e
      exec_stays (Evaluate e span) frame within = evaluated_stays frame within e
      exec_stays (Return e span) frame within = returned_stays frame within e
      exec_stays (IfStmt i) frame within = if_stays i frame within
      exec_stays (Peek' port message attributes shape row block span) frame within = peeked_stays port.text (row_done s calls row) (row_stays row) frame within
      exec_stays (Enqueue' port message written shape row block span) frame within = enqueued_stays port.text written (row_done s calls row) (row_stays row) frame within
      exec_stays (StallAndWait port address span) frame within = stalled_stays port.text address frame within
      exec_stays (CheckAllocate table span) frame within = went_stays frame within
      exec_stays (Error text span) frame within = stops_stays Bs
      exec_stays (Assert condition span) frame within =
          then_stays Bs (gives frame condition within) (λ t here. either_stays Bs (truth (value_in t)) (λ _. went_stays frame within) (λ _. stops_stays Bs))
      exec_stays (Print which arguments span) frame within = went_stays frame within

      if_stays : (i : If) → Block-stays (if_done s calls i)
      if_stays (If' condition shape row block n others otherwise span) frame within =
          chosen_stays condition (block_in (row_done s calls row)) (others_done s calls (otherwise_done s calls otherwise) others)
          (block_stays (row_done s calls row) (row_stays row)) (others_stay (otherwise_done s calls otherwise) (otherwise_stays otherwise) others) frame within

      others_stay : {m : _} (otherwise : Frame → Acting Ended) → Block-stays otherwise → (row : Row_of-ElseIf m) → Block-stays (others_done s calls otherwise row)
      others_stay otherwise last end_of-ElseIf frame within = last frame within
      others_stay otherwise last (more_of-ElseIf condition shape row block more) frame within =
          chosen_stays condition (block_in (row_done s calls row)) (others_done s calls otherwise more)
          (block_stays (row_done s calls row) (row_stays row)) (others_stay otherwise last more) frame within

      otherwise_stays : (x : Held-If-otherwise) → Block-stays (otherwise_done s calls x)
      otherwise_stays None' frame within = went_stays frame within
      otherwise_stays (Some' shape row block) frame within = block_stays (row_done s calls row) (row_stays row) frame within

      row_stays : {m : _} (row : Row_of-Stmt m) → Block-stays (row_done s calls row)
      row_stays end_of-Stmt frame within = went_stays frame within
      row_stays (more_of-Stmt first row) frame within = goes_on_stays (row_done s calls row) (exec_stays first frame within) (row_stays row)

    pub all_stay : (xs : List Stmt) → Block-stays (all_done s calls xs)
    all_stay [] frame within = went_stays frame within
    all_stay (x ∷ xs) frame within = goes_on_stays (all_done s calls xs) (exec_stays x frame within) (all_stay xs)

    -- Functions.

    answer_within : (flow : Flow) → FlowWithin Es s.machine.events flow → Of-thing (answer_of flow)
    answer_within WentOn here = tt
    answer_within (Returned t) here = here
    answer_within (Triggered t) here = here

    run_stays : (frame : Frame) (o : Option Block) → Of-frame frame → Stay Bs Of-thing (function_run s calls frame o)
    run_stays frame None within = stops_stays Bs
    run_stays frame (Some block) within = then_stays Bs (all_stay block.statements frame within) (λ x here. ends_stays Bs (answer_within x.flow here.flow))

    one_bound : (name : Option (List ℕ)) (v : Value) (names : List Bound) → IsWithin Es v → All Of-bound names → All Of-bound (with_formal name v names)
    one_bound None v names here all = all
    one_bound (Some name) v names here all = All-cons Of-bound (record { name = name; thing = thing.Value v }) names here all

    formals_within : (fs : List FormalSymbol) (vs : List Value) → AreWithin Es vs → All Of-bound (bound_formals fs vs)
    formals_within [] vs all = All-nil Of-bound
    formals_within (f ∷ fs) [] all = All-nil Of-bound
    formals_within (f ∷ fs) (v ∷ vs) all =
        one_bound f.name v (bound_formals fs vs) (All-head (IsWithin Es) v vs all) (formals_within fs vs (All-tail (IsWithin Es) v vs all))

    called_function_stays : (arguments : List Value) (o : Option FunctionSymbol) → AreWithin Es arguments → Stay Bs Of-thing (function_called s calls arguments o)
    called_function_stays arguments None all = stops_stays Bs
    called_function_stays arguments (Some f) all = run_stays (frame_of f arguments) (body_of s.tree f) (formals_within f.formals arguments all)

  pub within_stay : (depth : ℕ) → Calls-stay s controllers kept is (calls_within s depth)
  unfolding calls_within
  within_stay zero k arguments all = stops_stays Bs
  within_stay (suc depth) k arguments all = called_function_stays (calls_within s depth) (within_stay depth) arguments (slice_get s.machine.functions k) all

  pub calls_stay : Calls-stay s controllers kept is (calls_of s)
  calls_stay = within_stay (length s.machine.functions)

  -- the calls of the machine's functions, and a block of statements
  pub block_done_stays : (block : Block) (frame : Frame) → Of-frame frame → Ends-stay (all_done s (calls_of s) block.statements frame)
  block_done_stays block frame within = all_stay (calls_of s) calls_stay block.statements frame within
