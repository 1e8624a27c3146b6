-- How many messages a transition sends on a buffer: as many as its actions have `enqueue` statements on the buffer, where that is the
-- controller's own, and else on any buffer to the same network, also in blocks inside of others. An action that it lists twice counts
-- twice. Machines, written transitions and buffers are numbered as the protocol's symbols number them.
use Rattle.std.specs.Prelude.{ℕ, ◌==◌, ◌++◌, ◌+◌, Bool, false, Option, None, Some, List, [], ◌∷◌, flat_map, map}
use Rattle.std.specs.List.{count_by, slice_get}
use Rattle.std.specs.Option.{option_map}
use Rattle.slicc_ast.specs.declared.tree.item.Tree.{Tree}
use Rattle.slicc_ast.specs.declared.tree.machine.Decl.{Decl}
use Rattle.slicc_ast.specs.declared.tree.machine.Decl.TheVariants.{Action}
use Rattle.slicc_ast.specs.declared.tree.machine.Machine.{Machine}
use Rattle.slicc_ast.specs.declared.tree.statement.Block.{Block}
use Rattle.slicc_ast.specs.declared.tree.statement.ElseIf.{ElseIf}
use Rattle.slicc_ast.specs.declared.tree.statement.If.{If, If', Held-If-otherwise, None', Some', Row_of-ElseIf, end_of-ElseIf, more_of-ElseIf}
use Rattle.slicc_ast.specs.declared.tree.statement.Stmt.{Stmt, If as IfStmt, Peek', Enqueue', Row_of-Stmt, end_of-Stmt, more_of-Stmt}
use Rattle.ruby_value.specs.declared.setup.BufferPlace.{BufferPlace}
use Rattle.ruby_value.specs.declared.setup.BufferPlace.TheVariants as place
use Rattle.ruby_symbols.specs.declared.machine.ActionSymbol.{ActionSymbol}
use Rattle.ruby_symbols.specs.declared.machine.BufferSymbol.{BufferSymbol}
use Rattle.ruby_symbols.specs.declared.machine.MachineSymbols.{MachineSymbols}
use Rattle.ruby_symbols.specs.declared.machine.PortSymbol.{PortSymbol}
use Rattle.ruby_symbols.specs.declared.machine.TransitionSymbol.{TransitionSymbol}
use Rattle.ruby_symbols.specs.declared.names.Named.{Named}
use Rattle.ruby_symbols.specs.declared.names.Named.TheVariants.{InPort, OutPort}
use Rattle.ruby_symbols.specs.Prelude.{stands_for}
use Rattle.slicc_plan.specs.Prelude.{machines_of, symbols_of}
use Rattle.slicc_flow.specs.declared.sends.MachineSends.{MachineSends}

abbrev pub port_at : List PortSymbol → ℕ → Option ℕ
port_at ports k = option_map (λ (p : PortSymbol). p.buffer) (slice_get ports k)

-- the buffer that the port of a name is on
abbrev pub buffer_by : MachineSymbols → Option Named → Option ℕ
buffer_by own (Some (InPort k)) = port_at own.in_ports k
buffer_by own (Some (OutPort k)) = port_at own.out_ports k
buffer_by own _ = None

abbrev pub one_buffer : Option ℕ → List ℕ
one_buffer None = []
one_buffer (Some buffer) = buffer ∷ []

abbrev pub port_sends : MachineSymbols → List ℕ → List ℕ
port_sends own text = one_buffer (buffer_by own (stands_for own text))

-- the buffers that statements send on, one by one, in the order of the text
module _ (own : MachineSymbols) where
  abbrev mutual
    pub stmt_sends : Stmt → List ℕ
    stmt_sends (IfStmt i) = if_sends i
    stmt_sends (Peek' port message attributes shape row block span) = row_sends row
    stmt_sends (Enqueue' port message latency shape row block span) = port_sends own port.text ++ row_sends row
    stmt_sends _ = []

    pub if_sends : If → List ℕ
    if_sends (If' condition shape row block n others otherwise span) =
        row_sends row ++ (others_sends others ++ otherwise_sends otherwise)

    pub others_sends : {m : _} → Row_of-ElseIf m → List ℕ
    others_sends end_of-ElseIf = []
    others_sends (more_of-ElseIf condition shape row block more) = row_sends row ++ others_sends more

    pub otherwise_sends : Held-If-otherwise → List ℕ
    otherwise_sends None' = []
    otherwise_sends (Some' shape row block) = row_sends row

    pub row_sends : {m : _} → Row_of-Stmt m → List ℕ
    row_sends end_of-Stmt = []
    row_sends (more_of-Stmt first row) = stmt_sends first ++ row_sends row

  abbrev pub block_sends : Block → List ℕ
  block_sends b = flat_map stmt_sends b.statements

  abbrev pub optional_sends : Option Block → List ℕ
  optional_sends None = []
  optional_sends (Some b) = block_sends b

  abbrev pub else_if_sends : ElseIf → List ℕ
  else_if_sends e = block_sends e.then

  abbrev pub decl_sends : Option Decl → List ℕ
  decl_sends (Some (Action a)) = block_sends a.body
  decl_sends _ = []

  -- of an action, by the machine as it is written
  abbrev pub action_sends : Machine → Option ActionSymbol → List ℕ
  action_sends tree None = []
  action_sends tree (Some a) = decl_sends (slice_get tree.declarations a.declaration)

  abbrev pub transition_sends : Machine → TransitionSymbol → List ℕ
  transition_sends tree t = flat_map (λ action. action_sends tree (slice_get own.actions action)) t.actions

  abbrev pub machine_sends : Option Machine → MachineSends
  machine_sends None = record { places = []; sent = [] }
  machine_sends (Some tree) =
      record { places = map (λ (b : BufferSymbol). b.place) own.buffers; sent = map (transition_sends tree) own.transitions }

-- of machines with these symbols, which are numbered from here on among these
abbrev pub sends_from : List Machine → ℕ → List MachineSymbols → List MachineSends
sends_from machines number [] = []
sends_from machines number (own ∷ owns) = machine_sends own (slice_get machines number) ∷ sends_from machines (number + 1) owns

abbrev pub all_sends : List Tree → List MachineSends
all_sends trees = sends_from (machines_of trees) 0 (symbols_of trees).machines

-- Counts.

abbrev pub is_to : ℕ → Option BufferPlace → Bool
is_to network (Some (place.To other destination)) = other == network
is_to network _ = false

-- what is sent on the second buffer counts for the first, which has this place
abbrev pub goes_along : List BufferPlace → ℕ → Option BufferPlace → ℕ → Bool
goes_along places buffer (Some place.Local) other = other == buffer
goes_along places buffer (Some (place.To network destination)) other = is_to network (slice_get places other)
goes_along places buffer _ other = false

abbrev pub counts_for : List BufferPlace → ℕ → ℕ → Bool
counts_for places buffer other = goes_along places buffer (slice_get places buffer) other

abbrev pub sent_count : List BufferPlace → ℕ → Option (List ℕ) → ℕ
sent_count places buffer None = 0
sent_count places buffer (Some sent) = count_by (counts_for places buffer) sent

abbrev pub sends_of : ℕ → ℕ → Option MachineSends → ℕ
sends_of transition buffer None = 0
sends_of transition buffer (Some m) = sent_count m.places buffer (slice_get m.sent transition)

abbrev pub sends_in : List MachineSends → ℕ → ℕ → ℕ → ℕ
sends_in machines machine transition buffer = sends_of transition buffer (slice_get machines machine)

-- none where there is no such machine, transition or buffer
abbrev pub sends : List Tree → ℕ → ℕ → ℕ → ℕ
sends trees machine transition buffer = sends_in (all_sends trees) machine transition buffer
