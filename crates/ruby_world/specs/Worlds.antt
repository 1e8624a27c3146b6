-- A world as contracts see it: the trees of its protocol, its topology, the bounds of its run, its driver as the run began, and what has
-- happened so far. The history leads to one world of the run, and what calls need and answer is said of it.
use Rattle.std.specs.Prelude.{◌≡◌, ◌++◌, ◌∷◌, ℕ, Bool, true, false, None, List, [], position, refl, slice_get}
use Rattle.std.specs.Coded.{Coded, code_by, coded×, coded_list}
use Rattle.std.specs.List.{list_any}
use Rattle.std.specs.Option.{option_map_or}
use Rattle.slicc_ast.specs.contracts.tree.item.Tree as tree
use Rattle.slicc_ast.specs.declared.tree.item.Tree.{Tree}
use Rattle.ctl_face.specs.declared.parcel.Parcel.{Parcel}
use Rattle.run_journal.specs.contracts.entry.Entry as entry
use Rattle.run_journal.specs.contracts.event.Event as event
use Rattle.run_journal.specs.declared.entry.Entry.{Entry}
use Rattle.run_journal.specs.declared.event.Event.{Event}
use Rattle.protocol_runs.specs.Prelude.{Rules, IsRun, World, is_free, is_held, rules, Setting}
use Rattle.ctl_face.specs.Prelude.{Ctl}
use Rattle.ruby_topology.specs.contracts.topology.Topology as topology
use Rattle.ruby_topology.specs.declared.topology.Topology.{Topology}
use Rattle.protocol_meaning.specs.Prelude.{meaning_of, setting_of}
use Rattle.ruby_world.specs.contracts.world.RunLimits as limits
use Rattle.ruby_world.specs.declared.world.RunLimits.{RunLimits}
use Rattle.sequencer.specs.Prelude.{Drive, Seat}

pub record WorldView (D : Type 0) : Type 0 where
  pub trees : List Tree
  pub topology : Topology
  pub limits : RunLimits
  pub opening : D
  pub history : List Event
  pub journal : List Entry

-- it is stored as the pairs of its parts
abbrev pub world_view_code : {D : Type 0} → Coded D → Coded (WorldView D)
world_view_code {D} d =
    code_by (((List Tree × Topology) × (RunLimits × D)) × (List Event × List Entry))
    (coded× (coded× (coded× (coded_list tree.the_row.coded) topology.the_row.coded) (coded× limits.the_row.coded d))
    (coded× (coded_list event.the_row.coded) (coded_list entry.the_row.coded)))
    (λ v. (((v.trees, v.topology), (v.limits, v.opening)), (v.history, v.journal)))
    (λ p. record {
      trees = p.0.0.0;
      topology = p.0.0.1;
      limits = p.0.1.0;
      opening = p.0.1.1;
      history = p.1.0;
      journal = p.1.1;
    })
    (λ _. refl)

-- what the run began with
abbrev pub setting_in : {D : Type 0} → WorldView D → Setting D
setting_in v = setting_of v.trees v.topology v.limits.seed v.limits.cycles v.limits.limit v.opening

-- nothing has happened yet
abbrev pub opened : {D : Type 0} → List Tree → Topology → RunLimits → D → WorldView D
opened trees t limits driver = record {
  trees = trees;
  topology = t;
  limits = limits;
  opening = driver;
  history = [];
  journal = [];
}

-- these events more have happened in the same run
pub record HasAddedAll {D : Type 0} (old : WorldView D) (rest : List Event) (new : WorldView D) : Type 0 where
  pub trees : new.trees ≡ old.trees
  pub topology : new.topology ≡ old.topology
  pub limits : new.limits ≡ old.limits
  pub opening : new.opening ≡ old.opening
  pub history : new.history ≡ old.history ++ rest

-- one event more has happened in the same run
abbrev pub HasAdded : {D : Type 0} → WorldView D → Event → WorldView D → Type 0
HasAdded old e new = HasAddedAll old (e ∷ []) new

module _ {D : Type 0} (drive : D → List Seat → ℕ → Drive D) (v : WorldView D) where
  abbrev pub rules_in : Rules Ctl Parcel D
  rules_in = rules (meaning_of v.trees) drive (setting_in v)

  -- the history leads to this world
  abbrev pub IsWorldOf : World Ctl D → Type 0
  IsWorldOf w = IsRun rules_in v.history w v.journal

  -- of the world that the history leads to, this holds
  abbrev pub InWorld : (World Ctl D → Type 0) → Type 0
  InWorld P = (w : World Ctl D) → IsWorldOf w → P w

  -- the controller of this number is there, due, and held by nobody
  abbrev pub is_free_at : World Ctl D → ℕ → Bool
  is_free_at w c = option_map_or (is_free rules_in w.now) (slice_get w.places c) false

  abbrev pub IsNobodyHeld : World Ctl D → Type 0
  IsNobodyHeld w = list_any is_held w.places ≡ false

  -- a controller can be taken, whoever else is held
  pub record CanTake (c : ℕ) (w : World Ctl D) : Type 0 where
    pub goes_on : w.verdict ≡ None
    pub free : is_free_at w c ≡ true

  -- a turn can be made
  pub record CanTurn (w : World Ctl D) : Type 0 where
    pub goes_on : w.verdict ≡ None
    pub nobody : IsNobodyHeld w
    pub rested : position (is_free rules_in w.now) w.places ≡ None
