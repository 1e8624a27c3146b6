-- The paths between controllers, in cycles. A path to oneself takes none. In a mesh controller k stands at node k modulo the count
-- of nodes, which are numbered row by row, and a path has a step for each row and each column between the nodes. Along links
-- a path is a sum along some list of links, each of which goes both ways, and no list of links has a lesser sum. The forms of
-- networks are those of gem5's topologies, their lengths this project's own.
use Rattle.std.specs.Prelude.{ℕ, ◌≡◌, ◌<◌, ◌≤◌, ◌+◌, ◌-◌, ◌*◌, ◌/◌, ◌%◌, ◌==◌, ◌⊎◌, All, Contains, List, [], ◌∷◌, cond, length, slice_index, sum_by}
use Rattle.std.specs.List.{slice_index_or}
use Rattle.ruby_topology.specs.declared.forms.Link.{Link}
use Rattle.ruby_topology.specs.declared.forms.Network.{Network}
use Rattle.ruby_topology.specs.declared.forms.Network.TheVariants.{PointToPoint, Crossbar, Mesh, Links}

-- a link joins two controllers, both ways
abbrev pub Joins : Link → ℕ → ℕ → Type 0
Joins link a b = ((link.one ≡ a) × (link.other ≡ b)) ⊎ ((link.one ≡ b) × (link.other ≡ a))

-- links one after another lead from the one to the other
abbrev pub LeadsTo : List Link → ℕ → ℕ → Type 0
LeadsTo [] a b = a ≡ b
LeadsTo (link ∷ way) a b = (c : ℕ) × Joins link a c × LeadsTo way c b

-- a list of these links leads from the one to the other, and this is its sum
pub record HasWay (links : List Link) (a b sum : ℕ) : Type 0 where
  pub way : List Link
  pub listed : All (Contains links) way
  pub leads : LeadsTo way a b
  pub sums : sum ≡ sum_by (λ (l : Link). l.length) way

pub record IsLeastSum (links : List Link) (a b path : ℕ) : Type 0 where
  pub some_way : HasWay links a b path
  pub least : (sum : ℕ) → HasWay links a b sum → path ≤ sum

abbrev pub distance : ℕ → ℕ → ℕ
distance a b = (a - b) + (b - a)

-- in a mesh
abbrev pub row_of : ℕ → ℕ → ℕ → ℕ
row_of rows columns k = (k % (rows * columns)) / columns

abbrev pub column_of : ℕ → ℕ → ℕ → ℕ
column_of rows columns k = (k % (rows * columns)) % columns

abbrev pub steps_between : ℕ → ℕ → ℕ → ℕ → ℕ
steps_between rows columns a b =
    distance (row_of rows columns a) (row_of rows columns b) + distance (column_of rows columns a) (column_of rows columns b)

-- the path between two controllers where no links are listed
abbrev pub path_by : Network → ℕ → ℕ → ℕ
path_by (PointToPoint length) a b = cond (a == b) 0 length
path_by (Crossbar length) a b = cond (a == b) 0 (2 * length)
path_by (Mesh rows columns length) a b = length * steps_between rows columns a b
path_by Links a b = 0

-- the path between two controllers
abbrev pub IsPath : Network → List Link → ℕ → ℕ → ℕ → Type 0
IsPath Links links a b path = IsLeastSum links a b path
IsPath network links a b path = path ≡ path_by network a b

-- the paths from one controller to each of so many
pub record IsRow (network : Network) (links : List Link) (total from : ℕ) (row : List ℕ) : Type 0 where
  pub all : length row ≡ total
  pub paths : (to : ℕ) → to < total → IsPath network links from to (slice_index row to)

-- the paths by sender and then receiver
pub record AreRows (network : Network) (links : List Link) (total : ℕ) (rows : List (List ℕ)) : Type 0 where
  pub all : length rows ≡ total
  pub each : (from : ℕ) → from < total → IsRow network links total from (slice_index_or rows from [])

-- some controller of so many has no path from this one
pub record IsIsland (network : Network) (links : List Link) (total from : ℕ) : Type 0 where
  pub to : ℕ
  pub is_to : to < total
  pub no_path : (path : ℕ) → ¬ (IsPath network links from to path)

-- two controllers of so many have no path
pub record HasIsland (network : Network) (links : List Link) (total : ℕ) : Type 0 where
  pub from : ℕ
  pub is_from : from < total
  pub island : IsIsland network links total from
