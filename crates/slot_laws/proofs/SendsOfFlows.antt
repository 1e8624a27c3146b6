-- What a plan's flow counts of sends is what a try of a transition counts.
use Rattle.std.proofs.Common.{◌≡◌, ◌++◌, ◌+◌, ◌∙◌, ℕ, zero, suc, Bool, cond, Option, None, Some, List, [], ◌∷◌, flat_map, map, slice_get, refl, sym, ap, arith}
use Rattle.std.specs.Prelude.{filter_map, option_and_then}
use Rattle.std.specs.List.{cons_option, count_by}
use Rattle.std.specs.Option.{option_map}
use Rattle.std.proofs.lemmas.List.Elements.{filter_map-append}
use Rattle.std.proofs.lemmas.Option.{slice_get-map}
use Rattle.slicc_ast.specs.declared.tree.item.Tree.{Tree}
use Rattle.slicc_ast.specs.declared.tree.machine.Decl.{Decl}
use Rattle.slicc_ast.specs.declared.tree.machine.Decl.TheVariants as decl
use Rattle.slicc_ast.specs.declared.tree.machine.Machine.{Machine}
use Rattle.slicc_ast.specs.declared.tree.statement.If.{If, If', Held-If-otherwise, None', Some', Row_of-ElseIf, end_of-ElseIf, more_of-ElseIf}
use Rattle.slicc_ast.specs.declared.tree.statement.Stmt.{Stmt, Declare, Assign, Evaluate, Return, If as IfStmt, Peek', Enqueue', StallAndWait, CheckAllocate, Error, Assert, Print, Row_of-Stmt, end_of-Stmt, more_of-Stmt}
use Rattle.ruby_value.specs.declared.setup.BufferPlace.{BufferPlace}
use Rattle.ruby_value.specs.declared.setup.BufferPlace.TheVariants as place
use Rattle.ruby_symbols.specs.declared.machine.ActionSymbol.{ActionSymbol}
use Rattle.ruby_symbols.specs.declared.machine.BufferSymbol.{BufferSymbol}
use Rattle.ruby_symbols.specs.declared.machine.MachineSymbols.{MachineSymbols}
use Rattle.ruby_symbols.specs.declared.machine.TransitionSymbol.{TransitionSymbol}
use Rattle.ruby_symbols.specs.declared.names.Named.{Named}
use Rattle.ruby_symbols.specs.declared.names.Named.TheVariants as named
use Rattle.ruby_symbols.specs.Prelude.{stands_for}
use Rattle.slicc_plan.specs.Prelude.{machines_of, symbols_of, HasSymbols}
use Rattle.slicc_flow.specs.Sends.{action_sends, buffer_by, decl_sends, if_sends, machine_sends, one_buffer, others_sends, otherwise_sends, port_sends, row_sends, sends, sends_from, sends_of, sent_count, stmt_sends, transition_sends}
use Rattle.slicc_flow.specs.Sends as flow
use Rattle.body_meaning.specs.Actions.{Ports, action_names}
use Rattle.body_meaning.specs.Actions as try
use Rattle.body_meaning.specs.Names.{port_of}
use Rattle.body_meaning.specs.Prelude.{Reading, action_block, block_names, block_of, body_of_action, if_names, names_in, others_names, otherwise_names, port_named, row_names, send_count, sends_for}
use Rattle.protocol_meaning.specs.Prelude.{reading_of, reading_with}
use Rattle.slot_laws.proofs.Counts.{count-cons}

none_more : (n : ℕ) → n ≡ 0 + n
none_more n = omega arith

one_listed : (o : Option ℕ) → one_buffer o ≡ cons_option o []
one_listed None = refl
one_listed (Some buffer) = refl

module _ (m : MachineSymbols) where
  -- Statements: the buffers that a body sends on are those of the ports that its `enqueue` statements name.

  abbrev found : List (List ℕ) → List ℕ
  found texts = filter_map (port_named m) texts

  port_same : (o : Option Named) → buffer_by m o ≡ port_of m o
  port_same None = refl
  port_same (Some (named.Table k)) = refl
  port_same (Some (named.Value k)) = refl
  port_same (Some (named.Reference k)) = refl
  port_same (Some (named.Buffer k)) = refl
  port_same (Some (named.InPort k)) = refl
  port_same (Some (named.OutPort k)) = refl
  port_same (Some named.Sequencer) = refl

  port_found : (text : List ℕ) → port_sends m text ≡ found (text ∷ [])
  port_found text = ap one_buffer (port_same (stands_for m text)) ∙ one_listed (port_named m text)

  two : (xs ys : List ℕ) (texts more : List (List ℕ)) → xs ≡ found texts → ys ≡ found more → xs ++ ys ≡ found (texts ++ more)
  two xs ys texts more h k = ap (λ zs. zs ++ ys) h ∙ ap (λ zs. found texts ++ zs) k ∙ sym (filter_map-append (port_named m) texts more)

  mutual
    stmt_found : (x : Stmt) → stmt_sends m x ≡ found (names_in Ports x)
    stmt_found (Declare kind local e span) = refl
    stmt_found (Assign place e span) = refl
    stmt_found (Evaluate e span) = refl
    stmt_found (Return e span) = refl
    stmt_found (IfStmt i) = if_found i
    stmt_found (Peek' port message attributes shape row block span) = row_found row
    stmt_found (Enqueue' port message latency shape row block span) =
        two (port_sends m port.text) (row_sends m row) (port.text ∷ []) (row_names Ports row) (port_found port.text) (row_found row)
    stmt_found (StallAndWait port address span) = refl
    stmt_found (CheckAllocate table span) = refl
    stmt_found (Error text span) = refl
    stmt_found (Assert condition span) = refl
    stmt_found (Print which arguments span) = refl

    if_found : (i : If) → if_sends m i ≡ found (if_names Ports i)
    if_found (If' condition shape row block n others otherwise span) =
        two (row_sends m row) (others_sends m others ++ otherwise_sends m otherwise) (row_names Ports row) (others_names Ports others ++ otherwise_names Ports otherwise) (row_found row)
        (two (others_sends m others) (otherwise_sends m otherwise) (others_names Ports others) (otherwise_names Ports otherwise) (others_found others) (otherwise_found otherwise))

    others_found : {n : _} (row : Row_of-ElseIf n) → others_sends m row ≡ found (others_names Ports row)
    others_found end_of-ElseIf = refl
    others_found (more_of-ElseIf condition shape row block more) =
        two (row_sends m row) (others_sends m more) (row_names Ports row) (others_names Ports more) (row_found row) (others_found more)

    otherwise_found : (x : Held-If-otherwise) → otherwise_sends m x ≡ found (otherwise_names Ports x)
    otherwise_found None' = refl
    otherwise_found (Some' shape row block) = row_found row

    row_found : {n : _} (row : Row_of-Stmt n) → row_sends m row ≡ found (row_names Ports row)
    row_found end_of-Stmt = refl
    row_found (more_of-Stmt first row) = two (stmt_sends m first) (row_sends m row) (names_in Ports first) (row_names Ports row) (stmt_found first) (row_found row)

  all_found : (xs : List Stmt) → flat_map (stmt_sends m) xs ≡ found (flat_map (names_in Ports) xs)
  all_found [] = refl
  all_found (x ∷ xs) = two (stmt_sends m x) (flat_map (stmt_sends m) xs) (names_in Ports x) (flat_map (names_in Ports) xs) (stmt_found x) (all_found xs)

  decl_found : (o : Option Decl) → decl_sends m o ≡ found (block_names Ports (action_block o))
  decl_found None = refl
  decl_found (Some (decl.Action a)) = all_found a.body.statements
  decl_found (Some (decl.States x)) = refl
  decl_found (Some (decl.Enumeration x)) = refl
  decl_found (Some (decl.Structure x)) = refl
  decl_found (Some (decl.OutPort x)) = refl
  decl_found (Some (decl.InPort x)) = refl
  decl_found (Some (decl.Transition x)) = refl
  decl_found (Some (decl.Function x)) = refl
  decl_found (Some (decl.Object x)) = refl

  -- Counting: a buffer counts for another by the list of places as it does by the symbols.

  abbrev places : List BufferPlace
  places = map (λ (b : BufferSymbol). b.place) m.buffers

  module _ (buffer : ℕ) where
    to_same : (network : ℕ) (o : Option BufferPlace) → flow.is_to network o ≡ try.is_to network o
    to_same network None = refl
    to_same network (Some place.Local) = refl
    to_same network (Some (place.To other destination)) = refl
    to_same network (Some (place.From other)) = refl

    along_same : (o : Option BufferPlace) (other : ℕ) → flow.goes_along places buffer o other ≡ try.goes_along m buffer o other
    along_same None other = refl
    along_same (Some place.Local) other = refl
    along_same (Some (place.To network destination)) other =
        ap (flow.is_to network) (slice_get-map (λ (b : BufferSymbol). b.place) m.buffers other) ∙ to_same network (try.place_among m other)
    along_same (Some (place.From network)) other = refl

    counts_same : (other : ℕ) → flow.counts_for places buffer other ≡ try.counts_for m buffer other
    counts_same other =
        ap (λ o. flow.goes_along places buffer o other) (slice_get-map (λ (b : BufferSymbol). b.place) m.buffers buffer)
        ∙ along_same (try.place_among m buffer) other

    one_more : (o : Option ℕ) (ks : List ℕ) → count_by (flow.counts_for places buffer) (cons_option o ks) ≡ cond (try.is_for_buffer m buffer o) 1 0 + count_by (flow.counts_for places buffer) ks
    one_more None ks = none_more (count_by (flow.counts_for places buffer) ks)
    one_more (Some k) ks = count-cons (flow.counts_for places buffer) k ks ∙ ap (λ (b : Bool). cond b 1 0 + count_by (flow.counts_for places buffer) ks) (counts_same k)

    counted : (texts : List (List ℕ)) → count_by (flow.counts_for places buffer) (found texts) ≡ count_by (sends_for m buffer) texts
    counted [] = refl
    counted (t ∷ ts) =
        one_more (port_named m t) (found ts) ∙ ap (λ n. cond (sends_for m buffer t) 1 0 + n) (counted ts)
        ∙ sym (count-cons (sends_for m buffer) t ts)

-- Actions, by the numbers of their symbols.

action_found : (s : Reading) (o : Option ActionSymbol) → action_sends s.machine s.tree o ≡ found s.machine (block_names Ports (block_of s o))
action_found s None = refl
action_found s (Some a) = decl_found s.machine (slice_get s.tree.declarations a.declaration)

actions_found : (s : Reading) (actions : List ℕ) → flat_map (λ action. action_sends s.machine s.tree (slice_get s.machine.actions action)) actions ≡ found s.machine (action_names Ports s actions)
actions_found s [] = refl
actions_found s (a ∷ actions) =
    two s.machine (action_sends s.machine s.tree (slice_get s.machine.actions a)) (flat_map (λ action. action_sends s.machine s.tree (slice_get s.machine.actions action)) actions)
    (block_names Ports (body_of_action s a)) (action_names Ports s actions) (action_found s (slice_get s.machine.actions a)) (actions_found s actions)

-- Machines, by their numbers.

at_machine : (machines : List Machine) (n : ℕ) (owns : List MachineSymbols) (k : ℕ) → slice_get (sends_from machines n owns) k ≡ option_map (λ own. machine_sends own (slice_get machines (n + k))) (slice_get owns k)
at_machine machines n [] k = refl
at_machine machines n (own ∷ owns) zero =
    let same : n ≡ n + 0 = omega arith in
    ap (λ j. Some (machine_sends own (slice_get machines j))) same
at_machine machines n (own ∷ owns) (suc k) =
    let same : n + 1 + k ≡ n + suc k = omega arith in
    at_machine machines (n + 1) owns k ∙ ap (λ j. option_map (λ x. machine_sends x (slice_get machines j)) (slice_get owns k)) same

machine_read : (trees : List Tree) (k : ℕ) (s : Reading) → reading_of trees k ≡ Some s → HasSymbols trees k s.tree s.machine
machine_read trees k s e = by (slice_get (symbols_of trees).machines k) (slice_get (machines_of trees) k) refl refl e
  where
    by : (o : Option MachineSymbols) (p : Option Machine) → slice_get (symbols_of trees).machines k ≡ o → slice_get (machines_of trees) k ≡ p
        → option_and_then (λ x. option_map (reading_with (symbols_of trees) k x) p) o ≡ Some s → HasSymbols trees k s.tree s.machine
    by None p h g e = absurd (cc e)
    by (Some x) None h g e = absurd (cc e)
    by (Some x) (Some m) h g e =
        let same : reading_with (symbols_of trees) k x m ≡ s = cc e in
        record { machine = g ∙ ap (λ (r : Reading). Some r.tree) same; symbols = h ∙ ap (λ (r : Reading). Some r.machine) same }

pub sends_of_tries : (trees : List Tree) (k transition buffer : ℕ) (s : Reading) (row : TransitionSymbol) → reading_of trees k ≡ Some s → slice_get s.machine.transitions transition ≡ Some row → sends trees k transition buffer ≡ send_count s row.actions buffer
sends_of_tries trees k transition buffer s row is at =
    let has = machine_read trees k s is in
    ap (sends_of transition buffer) (at_machine (machines_of trees) 0 (symbols_of trees).machines k)
    ∙ ap (λ j. sends_of transition buffer (option_map (λ own. machine_sends own (slice_get (machines_of trees) j)) (slice_get (symbols_of trees).machines k))) (sym (none_more k))
    ∙ ap (λ o. sends_of transition buffer (option_map (λ own. machine_sends own (slice_get (machines_of trees) k)) o)) has.symbols
    ∙ ap (λ o. sends_of transition buffer (Some (machine_sends s.machine o))) has.machine
    ∙ ap (sent_count (places s.machine) buffer) (slice_get-map (transition_sends s.machine s.tree) s.machine.transitions transition)
    ∙ ap (λ o. sent_count (places s.machine) buffer (option_map (transition_sends s.machine s.tree) o)) at
    ∙ ap (count_by (flow.counts_for (places s.machine) buffer)) (actions_found s row.actions)
    ∙ counted s.machine buffer (action_names Ports s row.actions)
