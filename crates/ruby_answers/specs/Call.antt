-- What a call does, all of it. It reads what it must, file by file; the reads decide the answer, and that its text, which
-- goes to the sink line by line; where a line isn't written whole nothing follows it, and the status is 7. Or memory ran out: then
-- the status is 8 and the sink is as it was. What one read and one write are, the library and the sink say. All this is this
-- project's own.
use Rattle.std.specs.Prelude.{◌≡◌, ◌⊎◌, ◌++◌, ℕ, Bool, Option, None, Some, List, [], ◌∷◌}
use Rattle.ruby_outside.specs.declared.library.Got.{Got}
use Rattle.ruby_outside.specs.declared.sink.Wrote.{Wrote}
use Rattle.slicc_ast.specs.declared.tree.item.Tree.{Tree}
use Rattle.slicc_files.specs.Prelude.{Read, AreMade, AreOfOneNameEach}
use Rattle.slicc_files.specs.declared.gathered.Gathered.TheVariants.{NoMemory}
use Rattle.ruby_options.specs.declared.options.Command.TheVariants.{Run}
use Rattle.ruby_options.specs.declared.options.Options.{Options}
use Rattle.ruby_answers.specs.declared.done.Answer.{Answer}
use Rattle.ruby_answers.specs.declared.done.Done.{Done}
use Rattle.ruby_answers.specs.Answer.{done_of, out_of_memory}
use Rattle.ruby_answers.specs.Text.{lines_of}
use Rattle.trace_print.specs.Prelude.{AreLinesPut}
use Rattle.ruby_answers.specs.Right.{IsPlanRead, IsProtocolRead, IsRight, topology_read}

-- the protocol's files were read, which keep all rules, and then the topology's
pub record IsReadOn (o : Options) (made : List Read) : Type 0 where
  pub first : List Read
  pub trees : List Tree
  pub gave : Got
  pub plan : IsPlanRead o first trees
  pub command : o.command ≡ Run
  pub made_are : made ≡ first ++ topology_read o gave ∷ []

-- what may have been read when memory runs out: nothing yet, or a beginning of what is to be read
abbrev pub IsBeginning : Option Options → List Read → Type 0
IsBeginning None made = made ≡ []
IsBeginning (Some o) made = IsProtocolRead o made NoMemory ⊎ IsReadOn o made

-- memory ran out: nothing was written, and of what was to be read a beginning may have been
pub record IsOutOfMemory {S : Type 0} (asked : Option Options) (made : List Read) (before after : S) (done : Done) : Type 0 where
  pub beginning : IsBeginning asked made
  pub untouched : after ≡ before
  pub done_is : done ≡ out_of_memory

-- the text of a right answer went to the sink, whole or up to a piece that wasn't
pub record IsGivenOut {S : Type 0} (writes : S → List ℕ → Wrote → S → Type 0) (asked : Option Options) (made : List Read) (before after : S) (done : Done) : Type 0 where
  pub answer : Answer
  pub right : IsRight asked made answer
  pub whole : Bool
  pub text : AreLinesPut writes before (lines_of answer) whole after
  pub done_is : done ≡ done_of answer whole

pub record IsAnswered {L S : Type 0} (reads : L → List ℕ → ℕ → Got → L → Type 0) (writes : S → List ℕ → Wrote → S → Type 0) (asked : Option Options) (library library' : L) (sink sink' : S) (done : Done) : Type 0 where
  pub made : List Read
  pub are_made : AreMade reads library made library'
  pub ended : IsOutOfMemory asked made sink sink' done ⊎ IsGivenOut writes asked made sink sink' done

-- at most the topology's file, once
abbrev pub IsTopologyAtMost : Options → List Read → Type 0
IsTopologyAtMost o [] = Unit {0}
IsTopologyAtMost o (r ∷ []) = (o.command ≡ Run) × (r.name ≡ o.topology)
IsTopologyAtMost o (r ∷ q ∷ more) = ⊥

-- none of the protocol's files is read twice, and after them the topology's at most
pub record IsEachOnce (o : Options) (made : List Read) : Type 0 where
  pub first : List Read
  pub more : List Read
  pub made_are : made ≡ first ++ more
  pub once : AreOfOneNameEach first
  pub topology : IsTopologyAtMost o more

-- the reads that were made are so, whatever the answer; this follows from what is read
abbrev pub IsReadOnce : {L : Type 0} (reads : L → List ℕ → ℕ → Got → L → Type 0) → Options → (before after : L) → Type 0
IsReadOnce reads o before after = (made : List Read) × AreMade reads before made after × IsEachOnce o made

-- a call that reads nothing, since nothing was asked for
abbrev pub IsUsageAnswered : {S : Type 0} (writes : S → List ℕ → Wrote → S → Type 0) → (sink sink' : S) → Done → Type 0
IsUsageAnswered writes sink sink' done = IsOutOfMemory None [] sink sink' done ⊎ IsGivenOut writes None [] sink sink' done
