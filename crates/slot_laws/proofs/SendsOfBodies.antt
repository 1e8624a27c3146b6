-- What functions, in ports and reads of states send is nothing, and what the actions of a transition send is counted before them.
use Rattle.std.proofs.Common.{◌≡◌, ◌+◌, ◌==◌, ℕ, zero, suc, Bool, true, false, cond, List, [], ◌∷◌, ◌++◌, Option, None, Some, is_some, length, arith, refl, sym, ap, slice_get, flat_map}
use Rattle.std.specs.List.{count_by}
use Rattle.std.proofs.lemmas.List.Sums.{sum_by-cons}
use Rattle.slicc_ast.specs.declared.tree.statement.Block.{Block}
use Rattle.ruby_value.specs.declared.value.Value.{Value}
use Rattle.ruby_value.specs.declared.value.Value.TheVariants as value
use Rattle.ruby_value.specs.Prelude.{line_of}
use Rattle.ruby_symbols.specs.declared.machine.FunctionSymbol.{FunctionSymbol}
use Rattle.ruby_symbols.specs.declared.machine.Next.{Next}
use Rattle.ruby_symbols.specs.declared.machine.Next.TheVariants.{To, Asked}
use Rattle.ruby_symbols.specs.declared.machine.PortSymbol.{PortSymbol}
use Rattle.ruby_symbols.specs.declared.machine.TransitionSymbol.{TransitionSymbol}
use Rattle.ruby_symbols.specs.Prelude.{get_state_arguments, set_permission_arguments, set_state_arguments}
use Rattle.acts.specs.Act as act
use Rattle.acts.specs.Prelude.{Act, Acting}
use Rattle.body_meaning.specs.declared.frame.About.{About}
use Rattle.body_meaning.specs.declared.frame.Frame.{Frame}
use Rattle.body_meaning.specs.declared.thing.Trigger.{Trigger}
use Rattle.body_meaning.specs.Actions.{Ports}
use Rattle.body_meaning.specs.Prelude.{Calls, Reading, about, action_done, action_names, all_done, arguments_for, block_names, body_of, body_of_action, buffer_short, calls_of, calls_within, each, fired, frame_of, function_called, function_run, is_short, lacks_room, names_in, need, next_asked, next_state, permission_set, port_block, port_done, read_state, send_count, state_answered, state_by, state_set, table_short}
use Rattle.slot_laws.specs.Sends.{SendsAtMost, sent_by}
use Rattle.slot_laws.proofs.Counting.{Most, Quiet, act_quiet, and_quiet, counts_most, counts_none, either_quiet, ends_most, ends_quiet, found_most, found_quiet, more_most, next_most, silent, stops_quiet, then_most, then_quiet}
use Rattle.slot_laws.proofs.QuietExpressions.{CallsQuiet}
use Rattle.slot_laws.proofs.SendsOfStatements.{all_most, both, count_of}

none_counted : (xs : List (List ℕ)) → count_by (λ x. false) xs ≡ 0
none_counted [] = refl
none_counted (x ∷ xs) =
    let all = sum_by-cons (λ (y : List ℕ). cond false 1 0) x xs in
    let rest = none_counted xs in
    omega (arith, all, rest)

module _ (s : Reading) (buffer : ℕ) where
  abbrev C : Act → ℕ
  C = sent_by s.machine buffer

  abbrev Nothing-said : {A : Type 0} → A → Type 0
  Nothing-said x = Unit {0}

  -- Functions and in ports.

  body_quiet : (calls : Calls) → CallsQuiet s buffer calls → (block : Block) (frame : Frame) → is_some frame.about ≡ false → Quiet C (all_done s calls block.statements frame)
  body_quiet calls quiet block frame outside =
      let none = none_counted (flat_map (names_in Ports) block.statements) in
      silent C (more_most C 0 (all_most s buffer false calls quiet block.statements frame outside) (omega (arith, none)))

  run_quiet : (calls : Calls) → CallsQuiet s buffer calls → (frame : Frame) → is_some frame.about ≡ false → (o : Option Block) → Quiet C (function_run s calls frame o)
  run_quiet calls quiet frame outside None = stops_quiet C
  run_quiet calls quiet frame outside (Some block) = then_quiet C (body_quiet calls quiet block frame outside) (λ x. ends_quiet C)

  function_quiet : (calls : Calls) → CallsQuiet s buffer calls → (arguments : List Value) (o : Option FunctionSymbol) → Quiet C (function_called s calls arguments o)
  function_quiet calls quiet arguments None = stops_quiet C
  function_quiet calls quiet arguments (Some f) = run_quiet calls quiet (frame_of f arguments) refl (body_of s.tree f)

  within_quiet : (depth : ℕ) → CallsQuiet s buffer (calls_within s depth)
  unfolding calls_within
  within_quiet zero k arguments = stops_quiet C
  within_quiet (suc depth) k arguments = function_quiet (calls_within s depth) (within_quiet depth) arguments (slice_get s.machine.functions k)

  calls_quiet : CallsQuiet s buffer (calls_of s)
  calls_quiet = within_quiet (length s.machine.functions)

  port_quiet : (p : PortSymbol) → Quiet C (port_done s p)
  port_quiet p =
      then_quiet C (found_quiet C _ (port_block (slice_get s.tree.declarations p.declaration)))
      (λ block. then_quiet C (body_quiet (calls_of s) calls_quiet block (record { names = []; about = None }) refl) (λ x. ends_quiet C))

  -- States.

  answered_quiet : (k : ℕ) (arguments : List Value) → Quiet C (state_answered s k arguments)
  answered_quiet k arguments = then_quiet C (calls_quiet k arguments) (λ t. ends_quiet C)

  state_quiet : (a : About) (function : Option ℕ) → Quiet C (state_by s a function)
  state_quiet a None = act_quiet C (act.State (line_of a.address)) refl
  state_quiet a (Some k) = answered_quiet k (arguments_for s.machine a 0 (get_state_arguments s.machine))

  asked_quiet : (address : ℕ) (function : Option ℕ) → Quiet C (next_asked s address function)
  asked_quiet address None = stops_quiet C
  asked_quiet address (Some k) = answered_quiet k (value.Addr address ∷ [])

  next_quiet : (address state : ℕ) (o : Option Next) → Quiet C (next_state s address state o)
  next_quiet address state None = ends_quiet C
  next_quiet address state (Some (To next)) = ends_quiet C
  next_quiet address state (Some Asked) = asked_quiet address s.machine.get_next_state

  set_quiet : (a : About) (next : ℕ) (function : Option ℕ) → Quiet C (state_set s a next function)
  set_quiet a next None = act_quiet C (act.SetState (line_of a.address) next) refl
  set_quiet a next (Some k) = and_quiet C (calls_quiet k (arguments_for s.machine a next (set_state_arguments s.machine))) (ends_quiet C)

  permission_quiet : (a : About) (next : ℕ) (function : Option ℕ) → Quiet C (permission_set s a next function)
  permission_quiet a next None = ends_quiet C
  permission_quiet a next (Some k) = and_quiet C (calls_quiet k (arguments_for s.machine a next (set_permission_arguments s.machine))) (ends_quiet C)

  -- Room.

  table_quiet : (needs : ℕ → ℕ) (table : ℕ) → Quiet C (table_short needs table)
  table_quiet needs table = either_quiet C (needs table == 0) (ends_quiet C) (then_quiet C (act_quiet C (act.Free table) refl) (λ free. ends_quiet C))

  buffer_quiet : (sent : ℕ → ℕ) (k : ℕ) → Quiet C (buffer_short sent k)
  buffer_quiet sent k = either_quiet C (sent k == 0) (ends_quiet C) (then_quiet C (act_quiet C (act.Slots k) refl) (λ free. ends_quiet C))

  short_quiet : {X : Type 0} (short : ℕ → Acting Bool) → ((k : ℕ) → Quiet C (short k)) → (number : ℕ) (xs : List X) → Quiet C (is_short short number xs)
  short_quiet short quiet number [] = ends_quiet C
  short_quiet short quiet number (x ∷ xs) = then_quiet C (quiet number) (λ is. either_quiet C is (ends_quiet C) (short_quiet short quiet (number + 1) xs))

  room_quiet : (actions : List ℕ) → Quiet C (lacks_room s actions)
  room_quiet actions =
      then_quiet C (short_quiet (table_short (need s actions)) (table_quiet (need s actions)) 0 s.machine.tables)
      (λ short. either_quiet C short (ends_quiet C) (short_quiet (buffer_short (send_count s actions)) (buffer_quiet (send_count s actions)) 0 s.machine.buffers))

  -- Actions.

  abbrev of_action : ℕ → ℕ
  of_action number = count_of s buffer true (block_names Ports (body_of_action s number))

  action_most : (a : About) (number : ℕ) → Most C (of_action number) Nothing-said (action_done s a number)
  action_most a number =
      found_most C _ (body_of_action s number)
      (λ block there.
      let same : count_of s buffer true (flat_map (names_in Ports) block.statements) ≡ of_action number = ap (λ o. count_of s buffer true (block_names Ports o)) (sym there) in
      then_most C (count_of s buffer true (flat_map (names_in Ports) block.statements)) 0 (of_action number) (omega (arith, same))
      (all_most s buffer true (calls_of s) calls_quiet block.statements (record { names = []; about = Some a }) refl)
      (λ x here. ends_most C tt))

  actions_most : (a : About) (actions : List ℕ) → Most C (count_of s buffer true (action_names Ports s actions)) Nothing-said (each (action_done s) a actions)
  actions_most a [] = ends_most C tt
  actions_most a (number ∷ numbers) =
      let first = block_names Ports (body_of_action s number) in
      let all = both s buffer true first (action_names Ports s numbers) in
      then_most C (of_action number) (count_of s buffer true (action_names Ports s numbers)) (count_of s buffer true (first ++ action_names Ports s numbers)) (omega (arith, all))
      (action_most a number) (λ b here. actions_most b numbers)

  fired_most : (t : Trigger) (state next : ℕ) (row : TransitionSymbol) → Most C (send_count s row.actions buffer) Nothing-said (fired s t state next row)
  fired_most t state next row =
      then_most C (send_count s row.actions buffer) 0 (send_count s row.actions buffer) (omega arith) (actions_most (about t) row.actions)
      (λ a here. next_most C (set_quiet a next s.machine.set_state) (next_most C (permission_quiet a next s.machine.set_permission) (ends_most C tt)))

  -- What is said of all these.

  pub actions_send : (a : About) (actions : List ℕ) → SendsAtMost s.machine buffer (send_count s actions buffer) (each (action_done s) a actions)
  actions_send a actions = counts_most C (actions_most a actions)

  pub fired_send : (t : Trigger) (state next : ℕ) (row : TransitionSymbol) → SendsAtMost s.machine buffer (send_count s row.actions buffer) (fired s t state next row)
  fired_send t state next row = counts_most C (fired_most t state next row)

  pub ports_send : (p : PortSymbol) → SendsAtMost s.machine buffer 0 (port_done s p)
  ports_send p = counts_none C (port_quiet p)

  pub calls_send : (k : ℕ) (arguments : List Value) → SendsAtMost s.machine buffer 0 (calls_of s k arguments)
  calls_send k arguments = counts_none C (calls_quiet k arguments)

  pub states_send : (a : About) → SendsAtMost s.machine buffer 0 (read_state s a)
  states_send a = counts_none C (state_quiet a s.machine.get_state)

  pub room_sends : (actions : List ℕ) → SendsAtMost s.machine buffer 0 (lacks_room s actions)
  room_sends actions = counts_none C (room_quiet actions)

  pub next_sends : (address state : ℕ) (next : Option Next) → SendsAtMost s.machine buffer 0 (next_state s address state next)
  next_sends address state next = counts_none C (next_quiet address state next)
