-- The bodies of a machine's actions, and what is counted in them before a transition does its actions. How many free lines of a table
-- actions need: as many as their bodies have `check_allocate` statements for it. How many messages they send on a buffer: as many as
-- their bodies have `enqueue` statements on the buffer, where it is the controller's own, and else on any buffer to the same network.
-- Statements in blocks inside of others count too, those in the block of an `enqueue` among them; an action that is listed twice counts
-- twice. Those of functions that an action calls don't count.
use Rattle.std.specs.Prelude.{ℕ, ◌==◌, ◌++◌, Bool, false, Option, None, Some, List, [], ◌∷◌, flat_map, slice_get}
use Rattle.std.specs.List.{count_by}
use Rattle.std.specs.Option.{option_map}
use Rattle.slicc_ast.specs.declared.tree.machine.Decl.{Decl}
use Rattle.slicc_ast.specs.declared.tree.machine.Decl.TheVariants.{Action}
use Rattle.slicc_ast.specs.declared.tree.statement.Block.{Block}
use Rattle.slicc_ast.specs.declared.tree.statement.If.{If, If', Held-If-otherwise, None', Some', Row_of-ElseIf, end_of-ElseIf, more_of-ElseIf}
use Rattle.slicc_ast.specs.declared.tree.statement.Stmt.{Stmt, If as IfStmt, Peek', Enqueue', CheckAllocate, Row_of-Stmt, end_of-Stmt, more_of-Stmt}
use Rattle.ruby_value.specs.declared.setup.BufferPlace.{BufferPlace}
use Rattle.ruby_value.specs.declared.setup.BufferPlace.TheVariants as place
use Rattle.ruby_symbols.specs.declared.machine.ActionSymbol.{ActionSymbol}
use Rattle.ruby_symbols.specs.declared.machine.BufferSymbol.{BufferSymbol}
use Rattle.ruby_symbols.specs.declared.machine.MachineSymbols.{MachineSymbols}
use Rattle.ruby_symbols.specs.declared.names.Named.{Named}
use Rattle.ruby_symbols.specs.declared.names.Named.TheVariants.{Table}
use Rattle.ruby_symbols.specs.Prelude.{stands_for}
use Rattle.body_meaning.specs.Names.{port_named}
use Rattle.body_meaning.specs.Reading.{Reading}

abbrev pub action_block : Option Decl → Option Block
action_block (Some (Action a)) = Some a.body
action_block _ = None

abbrev pub block_of : Reading → Option ActionSymbol → Option Block
block_of s None = None
block_of s (Some a) = action_block (slice_get s.tree.declarations a.declaration)

-- the body of the action of this number
abbrev pub body_of_action : Reading → ℕ → Option Block
body_of_action s number = block_of s (slice_get s.machine.actions number)

-- The names that are picked in statements, in the order of the text: the tables that `check_allocate` statements name, or the ports
-- that `enqueue` statements do.

pub data Pick : Type 0 where
  Tables : Pick
  Ports : Pick

abbrev pub of_check : Pick → List ℕ → List (List ℕ)
of_check Tables text = text ∷ []
of_check Ports text = []

abbrev pub of_enqueue : Pick → List ℕ → List (List ℕ)
of_enqueue Tables text = []
of_enqueue Ports text = text ∷ []

module _ (pick : Pick) where
  abbrev mutual
    pub names_in : Stmt → List (List ℕ)
    names_in (IfStmt i) = if_names i
    names_in (Peek' port message attributes shape row block span) = row_names row
    names_in (Enqueue' port message latency shape row block span) = of_enqueue pick port.text ++ row_names row
    names_in (CheckAllocate table span) = of_check pick table.text
    names_in _ = []

    pub if_names : If → List (List ℕ)
    if_names (If' condition shape row block n others otherwise span) =
        row_names row ++ (others_names others ++ otherwise_names otherwise)

    pub others_names : {m : _} → Row_of-ElseIf m → List (List ℕ)
    others_names end_of-ElseIf = []
    others_names (more_of-ElseIf condition shape row block more) = row_names row ++ others_names more

    pub otherwise_names : Held-If-otherwise → List (List ℕ)
    otherwise_names None' = []
    otherwise_names (Some' shape row block) = row_names row

    pub row_names : {m : _} → Row_of-Stmt m → List (List ℕ)
    row_names end_of-Stmt = []
    row_names (more_of-Stmt first row) = names_in first ++ row_names row

  abbrev pub block_names : Option Block → List (List ℕ)
  block_names None = []
  block_names (Some b) = flat_map names_in b.statements

  -- of these actions
  abbrev pub action_names : Reading → List ℕ → List (List ℕ)
  action_names s actions = flat_map (λ number. block_names (body_of_action s number)) actions

-- Lines.

abbrev pub is_table : ℕ → Option Named → Bool
is_table table (Some (Table number)) = number == table
is_table table _ = false

abbrev pub names_table : MachineSymbols → ℕ → List ℕ → Bool
names_table m table text = is_table table (stands_for m text)

-- how many free lines of a table these actions need, all by their numbers within the machine
abbrev pub need : Reading → List ℕ → ℕ → ℕ
need s actions table = count_by (names_table s.machine table) (action_names Tables s actions)

-- Messages.

abbrev pub place_among : MachineSymbols → ℕ → Option BufferPlace
place_among m buffer = option_map (λ (b : BufferSymbol). b.place) (slice_get m.buffers buffer)

abbrev pub is_to : ℕ → Option BufferPlace → Bool
is_to network (Some (place.To other destination)) = other == network
is_to network _ = false

-- What is sent on the second buffer goes where it goes from the first, which has this place: it is the first, where that is the
-- controller's own, and else is to the same network. Nothing is sent on a buffer from a network.
abbrev pub goes_along : MachineSymbols → ℕ → Option BufferPlace → ℕ → Bool
goes_along m buffer (Some place.Local) other = other == buffer
goes_along m buffer (Some (place.To network destination)) other = is_to network (place_among m other)
goes_along m buffer (Some (place.From network)) other = false
goes_along m buffer None other = false

-- a message that is sent on the second buffer counts where those on the first one are counted
abbrev pub counts_for : MachineSymbols → ℕ → ℕ → Bool
counts_for m buffer other = goes_along m buffer (place_among m buffer) other

abbrev pub is_for_buffer : MachineSymbols → ℕ → Option ℕ → Bool
is_for_buffer m buffer None = false
is_for_buffer m buffer (Some other) = counts_for m buffer other

abbrev pub sends_for : MachineSymbols → ℕ → List ℕ → Bool
sends_for m buffer port = is_for_buffer m buffer (port_named m port)

-- how many messages these actions send on a buffer or to its network, all by their numbers within the machine
abbrev pub send_count : Reading → List ℕ → ℕ → ℕ
send_count s actions buffer = count_by (sends_for s.machine buffer) (action_names Ports s actions)
