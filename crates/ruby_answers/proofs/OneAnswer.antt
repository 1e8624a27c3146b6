-- One answer is right to what was asked and what was read, but that runs are only the same in what they begin with.
use Rattle.std.proofs.Common.{◌≡◌, ◌≢◌, ◌<◌, ◌≤◌, ◌⊎◌, inl, inr, ℕ, Option, None, Some, List, [], ◌∷◌, length, refl, sym, ◌∙◌, ap, subst, arith}
use Rattle.ruby_outside.specs.declared.library.Got.{Got}
use Rattle.ruby_outside.specs.declared.library.Got.TheVariants as got
use Rattle.slicc_ast.specs.declared.tree.item.Tree.{Tree}
use Rattle.slicc_files.specs.Prelude.{Read, file_limit}
use Rattle.slicc_files.specs.declared.gathered.Gathered.{Gathered}
use Rattle.slicc_files.specs.declared.gathered.Gathered.TheVariants as gathered
use Rattle.slicc_front.specs.declared.answer.Front.{Front}
use Rattle.slicc_front.specs.declared.answer.Front.TheVariants as front
use Rattle.slicc_front.specs.Prelude.{IsFrontOf}
use Rattle.slicc_front.proofs.OneFront.{one_front}
use Rattle.slicc_plan.specs.Prelude.{symbols_of}
use Rattle.slicc_plan.specs.declared.row.Row.{Row}
use Rattle.ruby_options.specs.declared.options.Command.{Command}
use Rattle.ruby_options.specs.declared.options.Command.TheVariants.{Run, Plain, Check, Table, Code, Gen}
use Rattle.ruby_options.specs.declared.options.Options.{Options}
use Rattle.ruby_topology.specs.declared.topology.Topology.{Topology}
use Rattle.ruby_topology.proofs.One.{never_refused, refusal_one, topology_one}
use Rattle.protocol_meaning.specs.declared.record.RunRecord.{RunRecord}
use Rattle.ruby_answers.specs.declared.done.Answer.{Answer}
use Rattle.ruby_answers.specs.declared.done.Answer.TheVariants.{Ran, Generated, Accepted, Tabled, Usage, Refused, Unfit, Absent, TooLarge, ReadFault}
use Rattle.ruby_answers.specs.Prelude.{IsMadeRun, IsRightBy, IsRightGot, IsRightOf, IsRightRead, IsRightText, IsRightTo, IsRunAnswer, IsSame, IsSameBeginning, IsUnfit, Topologies, plain_topologies, topologies_said, topology_read}
use Rattle.ruby_answers.proofs.OnePlain.{never_both, plain_one, refused_one}

same_beginning : (r : RunRecord) → IsSameBeginning r r
same_beginning r = record { plan = refl; topology = refl; options = refl }

same_refl : (a : Answer) → IsSame a a
same_refl (Ran r) = same_beginning r
same_refl (Generated r) = same_beginning r
same_refl a = refl

pub same_self : (a b : Answer) → a ≡ b → IsSame a b
same_self a b is = subst (λ (x : Answer). IsSame a x) is (same_refl a)

-- a run has one topology at most, or is refused by one rule at one line, and not both
record IsOneTopology (ts : Topologies) : Type 0 where
  has : (t u : Topology) → ts.has t → ts.has u → t ≡ u
  lacks : (rule line other at : ℕ) → ts.lacks rule line → ts.lacks other at → (rule ≡ other) × (line ≡ at)
  either : (t : Topology) (rule line : ℕ) → ts.has t → ts.lacks rule line → ⊥

said_once : (trees : List Tree) (bytes : List ℕ) → IsOneTopology (topologies_said trees bytes)
said_once trees bytes = record {
  has = topology_one (symbols_of trees) bytes;
  lacks = refusal_one (symbols_of trees) bytes;
  either = never_refused (symbols_of trees) bytes;
}

plain_once : (trees : List Tree) → IsOneTopology (plain_topologies trees)
plain_once trees = record {
  has = plain_one (symbols_of trees);
  lacks = refused_one (symbols_of trees);
  either = never_both (symbols_of trees);
}

-- an answer that has a run, as both kinds do
abbrev KeepsSame : (RunRecord → Answer) → Type 0
KeepsSame of_run = (r q : RunRecord) → IsSameBeginning r q → IsSame (of_run r) (of_run q)

module _ (of_run : RunRecord → Answer) (keeps : KeepsSame of_run) (ts : Topologies) (one : IsOneTopology ts) (o : Options) (trees : List Tree) (a b : Answer) where
  made_same : IsMadeRun of_run ts o trees a → IsMadeRun of_run ts o trees b → IsSame a b
  made_same is also =
      let begin : IsSameBeginning is.kept also.kept = record {
        plan = is.run.plan ∙ sym also.run.plan;
        topology = one.has is.kept.topology also.kept.topology is.run.topology also.run.topology;
        options = is.run.options ∙ sym also.run.options;
      } in
      subst (λ (x : Answer). IsSame x b) (sym is.answer)
      (subst (λ (x : Answer). IsSame (of_run is.kept) x) (sym also.answer) (keeps is.kept also.kept begin))

  unfit_same : IsUnfit ts a → IsUnfit ts b → IsSame a b
  unfit_same is also =
      let same = one.lacks is.rule is.line also.rule also.line is.lacks also.lacks in
      same_self a b
      (is.answer ∙ ap (λ (n : ℕ). Unfit n is.line) same.0 ∙ ap (λ (n : ℕ). Unfit also.rule n) same.1 ∙ sym also.answer)

  run_same : IsRunAnswer of_run ts o trees a → IsRunAnswer of_run ts o trees b → IsSame a b
  run_same (inl is) (inl also) = made_same is also
  run_same (inl is) (inr not) = absurd (one.either is.kept.topology not.rule not.line is.run.topology not.lacks)
  run_same (inr not) (inl is) = absurd (one.either is.kept.topology not.rule not.line is.run.topology not.lacks)
  run_same (inr not) (inr also) = unfit_same not also

keeps_ran : KeepsSame Ran
keeps_ran r q same = same

keeps_generated : KeepsSame Generated
keeps_generated r q same = same

-- what was read of the topology's file is the same
abbrev pub DoGiveSame : Options → List Read → List Read → Type 0
DoGiveSame o more rest = (g h : Got) → more ≡ topology_read o g ∷ [] → rest ≡ topology_read o h ∷ [] → g ≡ h

module _ (o : Options) (trees : List Tree) (a b : Answer) where
  text_same : (bytes : List ℕ) → IsRightText o trees bytes a → IsRightText o trees bytes b → IsSame a b
  text_same bytes (inl (long, is)) (inl (also_long, also)) = same_self a b (is ∙ sym also)
  text_same bytes (inl (long, is)) (inr (short, also)) = absurd (omega (arith, long, short))
  text_same bytes (inr (short, is)) (inl (long, also)) = absurd (omega (arith, long, short))
  text_same bytes (inr (short, is)) (inr (also_short, also)) =
      run_same Ran keeps_ran (topologies_said trees bytes) (said_once trees bytes) o trees a b is also

  got_same : (g : Got) → IsRightGot o trees g a → IsRightGot o trees g b → IsSame a b
  got_same (got.Bytes bytes) is also = text_same bytes is also
  got_same got.Absent is also = same_self a b (is ∙ sym also)
  got_same got.TooLarge is also = same_self a b (is ∙ sym also)
  got_same got.Failed is also = same_self a b (is ∙ sym also)
  got_same got.NoMemory is also = absurd is

  read_same : (more rest : List Read) → DoGiveSame o more rest → IsRightRead o trees more a → IsRightRead o trees rest b → IsSame a b
  read_same more rest give is also =
      got_same also.gave (subst (λ (g : Got). IsRightGot o trees g a) (give is.gave also.gave is.read also.read) is.right) also.right

  by_same : (command : Command) (more rest : List Read) → DoGiveSame o more rest → IsRightBy command o trees more a → IsRightBy command o trees rest b → IsSame a b
  by_same Run more rest give is also = read_same more rest give is also
  by_same Plain more rest give is also = run_same Ran keeps_ran (plain_topologies trees) (plain_once trees) o trees a b is.1 also.1
  by_same Check more rest give is also = same_self a b (is.1 ∙ sym also.1)
  by_same Table more rest give is also =
      same_self a b
      (is.1.answer ∙ ap (λ (rows : List (List Row)). Tabled trees rows) (is.1.are_rows ∙ sym also.1.are_rows) ∙ sym also.1.answer)
  by_same Code more rest give is also = absurd is
  by_same Gen more rest give is also = run_same Generated keeps_generated (plain_topologies trees) (plain_once trees) o trees a b is.1 also.1

-- one answer is right to what files come to
to_same : (o : Options) (f : Front) (a b : Answer) (more rest : List Read) → DoGiveSame o more rest → IsRightTo o f more a → IsRightTo o f rest b → IsSame a b
to_same o (front.Plan trees) a b more rest give is also = by_same o trees a b o.command more rest give is also
to_same o (front.Refused r) a b more rest give is also = same_self a b (is.1 ∙ sym also.1)
to_same o (front.Absent n) a b more rest give is also = same_self a b (is.1 ∙ sym also.1)
to_same o (front.TooLarge n) a b more rest give is also = same_self a b (is.1 ∙ sym also.1)
to_same o (front.ReadFault n) a b more rest give is also = same_self a b (is.1 ∙ sym also.1)
to_same o front.NoMemory a b more rest give is also = absurd is

-- where an answer is right, memory didn't run out
no_front : (g : Gathered) (f : Front) → IsFrontOf g f → g ≡ gathered.NoMemory → ⊥
no_front g f is none = subst (λ (x : Gathered). IsFrontOf x f) none is

pub was_memory : (o : Options) (g : Gathered) (more : List Read) (a : Answer) → IsRightOf o g more a → g ≢ gathered.NoMemory
was_memory o g more a is none = no_front g is.front is.is_front none

pub was_plan : (g : Gathered) (trees : List Tree) → IsFrontOf g (front.Plan trees) → g ≢ gathered.NoMemory
was_plan g trees is none = no_front g (front.Plan trees) is none

-- one answer is right to what the files were read as
pub same_of : (o : Options) (g : Gathered) (a b : Answer) (more rest : List Read) → DoGiveSame o more rest
    → IsRightOf o g more a → IsRightOf o g rest b → IsSame a b
same_of o g a b more rest give is also =
    let fronts : also.front ≡ is.front = one_front g also.front is.front also.is_front is.is_front in
    let right : IsRightTo o is.front rest b = subst (λ (x : Front). IsRightTo o x rest b) fronts also.right in
    to_same o is.front a b more rest give is.right right
