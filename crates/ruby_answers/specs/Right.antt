-- What is right to answer, by what was asked and what the reads gave, in their order. Words that ask for nothing read nothing
-- and are answered by the usage line. A check, a table and a run read the files that the protocol is made of; what they are
-- decides the rest, where they don't come to a plan. Where they do, a check answers how much there is in the protocol, a table its
-- rows, and a run over a topology's file reads that file too, and nothing else reads anything further. A run is made by the driver
-- that is asked for, over the topology that the file says, or over that of a plain run, or there is none. A generated protocol is
-- judged as if it were in a file, though none of the library is read for it. Over files one answer at most is right, but that one run
-- may go another way than another of the same beginning. All this is this project's own.
use Rattle.std.specs.Prelude.{◌≡◌, ◌≢◌, ◌⊎◌, ◌<◌, ◌≤◌, ◌++◌, ℕ, Option, None, Some, List, [], ◌∷◌, length}
use Rattle.ruby_answers.specs.Generated.{generated_name, generated_text}
use Rattle.ruby_outside.specs.Prelude.{Files}
use Rattle.ruby_outside.specs.declared.library.Got.{Got}
use Rattle.ruby_outside.specs.declared.library.Got.TheVariants as got
use Rattle.slicc_ast.specs.declared.tree.item.Tree.{Tree}
use Rattle.slicc_files.specs.Prelude.{IsGatheredFrom, IsGatheredOver, Read, AreGiven, file_limit}
use Rattle.slicc_files.specs.declared.gathered.Gathered.{Gathered}
use Rattle.slicc_front.specs.declared.answer.Front.{Front}
use Rattle.slicc_front.specs.declared.answer.Front.TheVariants as front
use Rattle.slicc_front.specs.Prelude.{IsFrontOf}
use Rattle.slicc_plan.specs.Prelude.{counts_of, symbols_of}
use Rattle.slicc_plan.specs.declared.row.Row.{Row}
use Rattle.ruby_options.specs.declared.options.Command.{Command}
use Rattle.ruby_options.specs.declared.options.Command.TheVariants.{Run, Plain, Check, Table, Code, Gen}
use Rattle.ruby_options.specs.declared.options.Options.{Options}
use Rattle.ruby_topology.specs.declared.topology.Topology.{Topology}
use Rattle.ruby_topology.specs.Prelude.{IsPlainOf, IsRefused, IsRefusedPlain, IsTopologyOf}
use Rattle.protocol_meaning.specs.declared.record.RunRecord.{RunRecord}
use Rattle.ruby_answers.specs.declared.done.Answer.{Answer}
use Rattle.ruby_answers.specs.declared.done.Answer.TheVariants.{Ran, Generated, Accepted, Tabled, Usage, Refused, Unfit, Absent, TooLarge, ReadFault}
use Rattle.ruby_answers.specs.Tables.{AreTableRows}
use Rattle.ruby_answers.specs.Record.{IsWholeRun}

-- The protocol.

-- the one file of a generated protocol
abbrev pub generated_files : ℕ → Files
generated_files n = (generated_name, generated_text n) ∷ []

-- by these reads of the library the protocol that is asked for is read as this; for a generated one the library isn't read
abbrev pub IsReadBy : Command → Options → List Read → Gathered → Type 0
IsReadBy Gen o reads g = (reads ≡ []) × IsGatheredOver (generated_files o.count) generated_name g
IsReadBy command o reads g = IsGatheredFrom o.protocol reads g

abbrev pub IsProtocolRead : Options → List Read → Gathered → Type 0
IsProtocolRead o reads g = IsReadBy o.command o reads g

-- by these reads it keeps all rules, and its files have these trees
pub record IsPlanRead (o : Options) (reads : List Read) (trees : List Tree) : Type 0 where
  pub files : Gathered
  pub by_reads : IsProtocolRead o reads files
  pub accepted : IsFrontOf files (front.Plan trees)

-- A run of a protocol that keeps all rules.

-- the one read of the topology's file
abbrev pub topology_read : Options → Got → Read
topology_read o g = record { name = o.topology; got = g }

-- which topologies a run may have, and by which rule at which line there is none
pub record Topologies : Type 1 where
  pub has : Topology → Type 0
  pub lacks : (rule line : ℕ) → Type 0

-- those that the bytes of a file say
abbrev pub topologies_said : List Tree → List ℕ → Topologies
topologies_said trees bytes =
    record { has = IsTopologyOf (symbols_of trees) bytes; lacks = IsRefused (symbols_of trees) bytes }

-- those of a plain run
abbrev pub plain_topologies : List Tree → Topologies
plain_topologies trees = record { has = IsPlainOf (symbols_of trees); lacks = IsRefusedPlain (symbols_of trees) }

-- the record is of a whole run of the protocol with these trees, as the options ask for it
pub record IsRunOf (ts : Topologies) (o : Options) (trees : List Tree) (r : RunRecord) : Type 0 where
  pub plan : r.plan ≡ trees
  pub topology : ts.has r.topology
  pub options : r.options ≡ o
  pub whole : IsWholeRun r

-- a run was made
pub record IsMadeRun (of_run : RunRecord → Answer) (ts : Topologies) (o : Options) (trees : List Tree) (a : Answer) : Type 0 where
  pub kept : RunRecord
  pub run : IsRunOf ts o trees kept
  pub answer : a ≡ of_run kept

-- no topology is there
pub record IsUnfit (ts : Topologies) (a : Answer) : Type 0 where
  pub rule : ℕ
  pub line : ℕ
  pub lacks : ts.lacks rule line
  pub answer : a ≡ Unfit rule line

abbrev pub IsRunAnswer : (of_run : RunRecord → Answer) → Topologies → Options → List Tree → Answer → Type 0
IsRunAnswer of_run ts o trees a = IsMadeRun of_run ts o trees a ⊎ IsUnfit ts a

-- by the bytes of the topology's file, of which a library that tells no files may give more than it was asked for
abbrev pub IsRightText : Options → List Tree → List ℕ → Answer → Type 0
IsRightText o trees bytes a =
    ((file_limit < length bytes) × (a ≡ TooLarge o.topology))
    ⊎ ((length bytes ≤ file_limit) × IsRunAnswer Ran (topologies_said trees bytes) o trees a)

-- by what the library gave for the topology's file
abbrev pub IsRightGot : Options → List Tree → Got → Answer → Type 0
IsRightGot o trees (got.Bytes bytes) a = IsRightText o trees bytes a
IsRightGot o trees got.Absent a = a ≡ Absent o.topology
IsRightGot o trees got.TooLarge a = a ≡ TooLarge o.topology
IsRightGot o trees got.Failed a = a ≡ ReadFault o.topology
IsRightGot o trees got.NoMemory a = ⊥

-- The answers.

-- the rows of the tables of the protocol with these trees
pub record IsTable (trees : List Tree) (a : Answer) : Type 0 where
  pub rows : List (List Row)
  pub are_rows : AreTableRows trees rows
  pub answer : a ≡ Tabled trees rows

-- the topology's file was read
pub record IsRightRead (o : Options) (trees : List Tree) (more : List Read) (a : Answer) : Type 0 where
  pub gave : Got
  pub read : more ≡ topology_read o gave ∷ []
  pub right : IsRightGot o trees gave a

-- the answer to the trees of a protocol that keeps all rules, by the reads that followed those of its files
abbrev pub IsRightBy : Command → Options → List Tree → List Read → Answer → Type 0
IsRightBy Run o trees more a = IsRightRead o trees more a
IsRightBy Plain o trees more a = (more ≡ []) × IsRunAnswer Ran (plain_topologies trees) o trees a
IsRightBy Check o trees more a = (more ≡ []) × (a ≡ Accepted (counts_of trees))
IsRightBy Table o trees more a = (more ≡ []) × IsTable trees a
IsRightBy Code o trees more a = ⊥
IsRightBy Gen o trees more a = (more ≡ []) × IsRunAnswer Generated (plain_topologies trees) o trees a

-- the answer to what the protocol's files come to
abbrev pub IsRightTo : Options → Front → List Read → Answer → Type 0
IsRightTo o (front.Plan trees) more a = IsRightBy o.command o trees more a
IsRightTo o (front.Refused refusal) more a = (more ≡ []) × (a ≡ Refused refusal)
IsRightTo o (front.Absent name) more a = (more ≡ []) × (a ≡ Absent name)
IsRightTo o (front.TooLarge name) more a = (more ≡ []) × (a ≡ TooLarge name)
IsRightTo o (front.ReadFault name) more a = (more ≡ []) × (a ≡ ReadFault name)
IsRightTo o front.NoMemory more a = ⊥

-- the answer to what the protocol's files were read as
pub record IsRightOf (o : Options) (g : Gathered) (more : List Read) (a : Answer) : Type 0 where
  pub front : Front
  pub is_front : IsFrontOf g front
  pub right : IsRightTo o front more a

-- the reads lead by the protocol's files to what the answer is right to
pub record IsRightRun (o : Options) (reads : List Read) (a : Answer) : Type 0 where
  pub first : List Read
  pub more : List Read
  pub reads_are : reads ≡ first ++ more
  pub files : Gathered
  pub by_reads : IsProtocolRead o first files
  pub right : IsRightOf o files more a

abbrev pub IsRight : Option Options → List Read → Answer → Type 0
IsRight None reads a = (reads ≡ []) × (a ≡ Usage)
IsRight (Some o) reads a = IsRightRun o reads a

-- the answer is right over these files, where no read fails
abbrev pub IsAnswer : Files → Option Options → Answer → Type 0
IsAnswer files asked a = (reads : List Read) × AreGiven files reads × IsRight asked reads a

-- Runs over files.

-- the bytes that were read of the topology's file say this topology
pub record IsTopologyRead (o : Options) (trees : List Tree) (more : List Read) (t : Topology) : Type 0 where
  pub bytes : List ℕ
  pub read : more ≡ topology_read o (got.Bytes bytes) ∷ []
  pub within : length bytes ≤ file_limit
  pub says : IsTopologyOf (symbols_of trees) bytes t

-- a run over this topology is to be made of the protocol with these trees
abbrev pub IsToRunBy : Command → Options → List Tree → List Read → Topology → Type 0
IsToRunBy Run o trees more t = IsTopologyRead o trees more t
IsToRunBy Plain o trees more t = (more ≡ []) × IsPlainOf (symbols_of trees) t
IsToRunBy Check o trees more t = ⊥
IsToRunBy Table o trees more t = ⊥
IsToRunBy Code o trees more t = ⊥
IsToRunBy Gen o trees more t = (more ≡ []) × IsPlainOf (symbols_of trees) t

-- over these files a run is to be made of the protocol with these trees over this topology
pub record IsRunOver (files : Files) (asked : Option Options) (trees : List Tree) (t : Topology) : Type 0 where
  pub options : Options
  pub asked_is : asked ≡ Some options
  pub first : List Read
  pub more : List Read
  pub given : AreGiven files (first ++ more)
  pub plan : IsPlanRead options first trees
  pub to_run : IsToRunBy options.command options trees more t

-- the same answer, but that runs are only the same in what they begin with
pub record IsSameBeginning (r q : RunRecord) : Type 0 where
  pub plan : r.plan ≡ q.plan
  pub topology : r.topology ≡ q.topology
  pub options : r.options ≡ q.options

abbrev pub IsSame : Answer → Answer → Type 0
IsSame (Ran r) (Ran q) = IsSameBeginning r q
IsSame (Generated r) (Generated q) = IsSameBeginning r q
IsSame a b = a ≡ b
