-- What a list of statements says: how many controllers a machine has, which network joins them, and so on. Where a thing is said
-- twice the first counts; but no topology says a thing twice.
use Rattle.std.specs.Prelude.{ℕ, ◌==◌, ◌&&◌, ◌||◌, Bool, true, false, cond, Option, None, Some, List, [], ◌∷◌, is_some, sum_by}
use Rattle.std.specs.List.{list_any}
use Rattle.std.specs.Option.{option_or}
use Rattle.ruby_topology.specs.declared.forms.Member.{Member}
use Rattle.ruby_topology.specs.declared.forms.Network.{Network as NetworkOf}
use Rattle.ruby_topology.specs.declared.forms.Network.TheVariants.{Links}
use Rattle.ruby_topology.specs.declared.forms.Statement.{Statement}
use Rattle.ruby_topology.specs.declared.forms.Statement.TheVariants.{Machine, Network, Link, Jitter, Ordered, Cache, Tbes, Size, Set}

-- the first answer that there is
abbrev pub first_some : {A B : Type 0} → (A → Option B) → List A → Option B
first_some answer [] = None
first_some answer (x ∷ xs) = option_or (answer x) (first_some answer xs)

abbrev pub count_in : ℕ → Statement → Option ℕ
count_in machine (Machine m count) = cond (m == machine) (Some count) None
count_in machine _ = None

-- how many controllers the machine has
abbrev pub count_of : List Statement → ℕ → Option ℕ
count_of said machine = first_some (count_in machine) said

abbrev pub network_in : Statement → Option NetworkOf
network_in (Network n) = Some n
network_in _ = None

abbrev pub network_said : List Statement → Option NetworkOf
network_said said = first_some network_in said

abbrev pub jitter_in : Statement → Option ℕ
jitter_in (Jitter j) = Some j
jitter_in _ = None

abbrev pub jitter_said : List Statement → Option ℕ
jitter_said said = first_some jitter_in said

abbrev pub orders : ℕ → Statement → Bool
orders network (Ordered n) = n == network
orders network _ = false

-- some line says that the virtual network keeps order
abbrev pub is_ordered_said : List Statement → ℕ → Bool
is_ordered_said said network = list_any (orders network) said

abbrev pub is_member : Member → Member → Bool
is_member a b = (a.machine == b.machine) && (a.index == b.index)

abbrev pub joins : Member → Member → Statement → Bool
joins a b (Link one other length) = (is_member one a && is_member other b) || (is_member one b && is_member other a)
joins a b _ = false

-- some line links the two, in either order
abbrev pub is_linked : List Statement → Member → Member → Bool
is_linked said a b = list_any (joins a b) said

-- the line sizes the table of this number of the machine
abbrev pub sizes_table : ℕ → ℕ → Statement → Bool
sizes_table machine table (Cache m t sets ways) = (m == machine) && (t == table)
sizes_table machine table (Tbes m t entries) = (m == machine) && (t == table)
sizes_table machine table _ = false

abbrev pub is_sized : List Statement → ℕ → ℕ → Bool
is_sized said machine table = list_any (sizes_table machine table) said

-- the line says how many slots each sender has in the buffer of this number of the machine
abbrev pub sizes_buffer : ℕ → ℕ → Statement → Bool
sizes_buffer machine buffer (Size m b slots) = (m == machine) && (b == buffer)
sizes_buffer machine buffer _ = false

abbrev pub is_buffer_sized : List Statement → ℕ → ℕ → Bool
is_buffer_sized said machine buffer = list_any (sizes_buffer machine buffer) said

abbrev pub sets_value : ℕ → ℕ → Statement → Bool
sets_value machine value (Set m v number) = (m == machine) && (v == value)
sets_value machine value _ = false

abbrev pub is_set : List Statement → ℕ → ℕ → Bool
is_set said machine value = list_any (sets_value machine value) said

-- how many controllers a line adds
abbrev pub counted : Statement → ℕ
counted (Machine m count) = count
counted _ = 0

abbrev pub controllers : List Statement → ℕ
controllers said = sum_by counted said

abbrev pub is_links : Option NetworkOf → Bool
is_links (Some Links) = true
is_links _ = false

-- the lines say what this one says, which is about the same thing
abbrev pub is_said : List Statement → Statement → Bool
is_said said (Machine machine count) = is_some (count_of said machine)
is_said said (Network n) = is_some (network_said said)
is_said said (Link one other length) = is_linked said one other
is_said said (Jitter j) = is_some (jitter_said said)
is_said said (Ordered network) = is_ordered_said said network
is_said said (Cache machine table sets ways) = is_sized said machine table
is_said said (Tbes machine table entries) = is_sized said machine table
is_said said (Size machine buffer slots) = is_buffer_sized said machine buffer
is_said said (Set machine value number) = is_set said machine value
