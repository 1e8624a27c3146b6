-- The run of a right answer: what it is a run of, what was read for it, and that the laws of runs hold of it.
use Rattle.std.proofs.Common.{◌≡◌, ◌≤◌, ◌++◌, ◌⊎◌, inl, inr, ℕ, true, Option, None, Some, List, [], ◌∷◌, refl, sym, ◌∙◌, ap, subst, arith, IfSome}
use Rattle.std.proofs.lemmas.Option.{same_Some}
use Rattle.ruby_outside.specs.Prelude.{Files}
use Rattle.ruby_outside.specs.declared.library.Got.{Got}
use Rattle.ruby_outside.specs.declared.library.Got.TheVariants as got
use Rattle.slicc_ast.specs.declared.tree.item.Tree.{Tree}
use Rattle.slicc_files.specs.Prelude.{Read, AreGiven, given}
use Rattle.slicc_files.specs.declared.gathered.Gathered.{Gathered}
use Rattle.slicc_files.specs.declared.gathered.Gathered.TheVariants as gathered
use Rattle.slicc_files.specs.declared.gathered.Source.{Source}
use Rattle.slicc_front.specs.declared.answer.Front.{Front}
use Rattle.slicc_front.specs.declared.answer.Front.TheVariants as front
use Rattle.slicc_front.specs.Prelude.{IsFrontFor, IsFrontOf, keeps_all, breaks_one}
use Rattle.slicc_front.proofs.OneFront.{one_front}
use Rattle.slicc_plan.specs.Prelude.{IsAccepted, symbols_of}
use Rattle.ruby_options.specs.declared.options.Command.{Command}
use Rattle.ruby_options.specs.declared.options.Command.TheVariants.{Run, Plain, Check, Table, Code, Gen}
use Rattle.ruby_options.specs.declared.options.Options.{Options}
use Rattle.ruby_options.specs.Prelude.{IsWithin}
use Rattle.ruby_topology.specs.declared.topology.Topology.{Topology}
use Rattle.ruby_topology.specs.Prelude.{IsPlainOf, IsTopologyOf}
use Rattle.ruby_topology.proofs.One.{never_refused}
use Rattle.ctl_face.specs.Prelude.{last_cycle}
use Rattle.protocol_meaning.specs.Prelude.{FitsPlan, meaning_of}
use Rattle.protocol_runs.specs.Prelude.{IsMeaning}
use Rattle.protocol_meaning.specs.declared.record.RunRecord.{RunRecord}
use Rattle.ruby_answers.specs.declared.done.Answer.{Answer}
use Rattle.ruby_answers.specs.declared.done.Answer.TheVariants.{Ran, Generated}
use Rattle.ruby_answers.specs.Prelude.{kept_of, IsAloneAnswer, IsByOneWorker, makes_run, IsWholeRun, IsAnswer, IsPlanRead, IsRight, IsRightBy, IsRightGot, IsRightOf, IsRightRead, IsRightRun, IsRightText, IsRightTo, IsRunAnswer, IsRunOf, IsRunOver, IsSame, IsSameBeginning, IsToRunBy, IsTopologyRead, Topologies, plain_topologies, topologies_said, topology_read}
use Rattle.ruby_answers.proofs.OnePlain.{never_both}
use Rattle.ruby_answers.proofs.OneRecord.{one_record}
use Rattle.ruby_answers.proofs.OverFiles.{first_agree, gave, read_once, same_by, same_over}
use Rattle.ruby_answers.proofs.OneAnswer.{was_memory, was_plan}
use Rattle.ruby_answers.proofs.ReadsMade.{given_more}
use Rattle.ruby_answers.proofs.WholeRuns.{IsLawfulRun}

-- files that come to a plan keep all rules
accepted_for : (sources : List Source) (ts : List Tree) (f : Front) (trees : List Tree) → IsFrontFor sources ts f → f ≡ front.Plan trees → IsAccepted trees
accepted_for sources ts f trees (keeps_all accepted) is =
    let same : ts ≡ trees = cc is in
    subst IsAccepted same accepted
accepted_for sources ts f trees (breaks_one told) is = absurd (cc is)

pub accepted_front : (g : Gathered) (trees : List Tree) → IsFrontOf g (front.Plan trees) → IsAccepted trees
accepted_front (gathered.Files sources ts) trees is = accepted_for sources ts (front.Plan trees) trees is refl
accepted_front (gathered.Refused r) trees is = absurd (cc is)
accepted_front (gathered.Absent n) trees is = absurd (cc is)
accepted_front (gathered.TooLarge n) trees is = absurd (cc is)
accepted_front (gathered.ReadFault n) trees is = absurd (cc is)
accepted_front gathered.NoMemory trees is = absurd is

-- what a right run is a run of
pub record IsRunFor (command : Command) (o : Options) (trees : List Tree) (more : List Read) (r : RunRecord) : Type 0 where
  pub plan : r.plan ≡ trees
  pub options : r.options ≡ o
  pub whole : IsWholeRun r
  pub to_run : IsToRunBy command o trees more r.topology

no_kept : (a b : Answer) (r : RunRecord) → a ≡ b → kept_of b ≡ None → kept_of a ≡ Some r → ⊥
no_kept a b r is none kept = cc (sym (ap kept_of is ∙ none) ∙ kept)

-- both kinds of answers keep their run
abbrev pub KeepsRun : (RunRecord → Answer) → Type 0
KeepsRun of_run = (r : RunRecord) → kept_of (of_run r) ≡ Some r

pub ran_keeps : KeepsRun Ran
ran_keeps r = refl

pub generated_keeps : KeepsRun Generated
generated_keeps r = refl

run_kept : (of_run : RunRecord → Answer) (keeps : KeepsRun of_run) (ts : Topologies) (o : Options) (trees : List Tree) (a : Answer) (r : RunRecord)
    → IsRunAnswer of_run ts o trees a → kept_of a ≡ Some r → IsRunOf ts o trees r
run_kept of_run keeps ts o trees a r (inl is) kept =
    let same : is.kept ≡ r = same_Some is.kept r (sym (ap kept_of is.answer ∙ keeps is.kept) ∙ kept) in
    subst (IsRunOf ts o trees) same is.run
run_kept of_run keeps ts o trees a r (inr not) kept = absurd (no_kept a _ r not.answer refl kept)

-- with the topology that a run is to have
as_run : (command : Command) (ts : Topologies) (o : Options) (trees : List Tree) (more : List Read) (r : RunRecord) → IsRunOf ts o trees r
    → IsToRunBy command o trees more r.topology → IsRunFor command o trees more r
as_run command ts o trees more r is to = record { plan = is.plan; options = is.options; whole = is.whole; to_run = to }

module _ (o : Options) (trees : List Tree) (a : Answer) (r : RunRecord) (kept : kept_of a ≡ Some r) where
  text_run : (more : List Read) (bytes : List ℕ) → more ≡ topology_read o (got.Bytes bytes) ∷ [] → IsRightText o trees bytes a → IsRunFor Run o trees more r
  text_run more bytes read (inl (long, is)) = absurd (no_kept a _ r is refl kept)
  text_run more bytes read (inr (short, is)) =
      let run = run_kept Ran ran_keeps (topologies_said trees bytes) o trees a r is kept in
      as_run Run (topologies_said trees bytes) o trees more r run (record { bytes = bytes; read = read; within = short; says = run.topology })

  got_run : (more : List Read) (g : Got) → more ≡ topology_read o g ∷ [] → IsRightGot o trees g a → IsRunFor Run o trees more r
  got_run more (got.Bytes bytes) read is = text_run more bytes read is
  got_run more got.Absent read is = absurd (no_kept a _ r is refl kept)
  got_run more got.TooLarge read is = absurd (no_kept a _ r is refl kept)
  got_run more got.Failed read is = absurd (no_kept a _ r is refl kept)
  got_run more got.NoMemory read is = absurd is

  by_run : (command : Command) (more : List Read) → IsRightBy command o trees more a → IsRunFor command o trees more r
  by_run Run more is = got_run more is.gave is.read is.right
  by_run Plain more is =
      let run = run_kept Ran ran_keeps (plain_topologies trees) o trees a r is.1 kept in
      as_run Plain (plain_topologies trees) o trees more r run (is.0, run.topology)
  by_run Check more is = absurd (no_kept a _ r is.1 refl kept)
  by_run Table more is = absurd (no_kept a _ r is.1.answer refl kept)
  by_run Code more is = absurd is
  by_run Gen more is =
      let run = run_kept Generated generated_keeps (plain_topologies trees) o trees a r is.1 kept in
      as_run Gen (plain_topologies trees) o trees more r run (is.0, run.topology)

-- what a right run is of, with all that was asked and read
pub record IsRunAsked (asked : Option Options) (made : List Read) (r : RunRecord) : Type 0 where
  pub options : Options
  pub asked_is : asked ≡ Some options
  pub first : List Read
  pub more : List Read
  pub made_are : made ≡ first ++ more
  pub trees : List Tree
  pub plan : IsPlanRead options first trees
  pub run : IsRunFor options.command options trees more r

to_run : (o : Options) (g : Gathered) (f : Front) (more : List Read) (a : Answer) (r : RunRecord) → kept_of a ≡ Some r → IsFrontOf g f → IsRightTo o f more a
    → (trees : List Tree) × IsFrontOf g (front.Plan trees) × IsRunFor o.command o trees more r
to_run o g (front.Plan trees) more a r kept of is = (trees, of, by_run o trees a r kept o.command more is)
to_run o g (front.Refused refusal) more a r kept of is = absurd (no_kept a _ r is.1 refl kept)
to_run o g (front.Absent name) more a r kept of is = absurd (no_kept a _ r is.1 refl kept)
to_run o g (front.TooLarge name) more a r kept of is = absurd (no_kept a _ r is.1 refl kept)
to_run o g (front.ReadFault name) more a r kept of is = absurd (no_kept a _ r is.1 refl kept)
to_run o g front.NoMemory more a r kept of is = absurd is

pub run_asked : (asked : Option Options) (made : List Read) (a : Answer) (r : RunRecord) → IsRight asked made a → kept_of a ≡ Some r → IsRunAsked asked made r
run_asked None made a r is kept = absurd (no_kept a _ r is.1 refl kept)
run_asked (Some o) made a r is kept =
    let (trees, of, run) = to_run o is.files is.right.front is.more a r kept is.right.is_front is.right.right in
    record {
      options = o;
      asked_is = refl;
      first = is.first;
      more = is.more;
      made_are = is.reads_are;
      trees = trees;
      plan = record { files = is.files; by_reads = is.by_reads; accepted = of };
      run = run;
    }

-- a run is asked for by a command that makes one
pub run_makes : (command : Command) (o : Options) (trees : List Tree) (more : List Read) (t : Topology) → IsToRunBy command o trees more t → makes_run command ≡ true
run_makes Run o trees more t is = refl
run_makes Plain o trees more t is = refl
run_makes Check o trees more t is = absurd is
run_makes Table o trees more t is = absurd is
run_makes Code o trees more t is = absurd is
run_makes Gen o trees more t is = refl

-- where files are known, the run is one over them
pub over_files : (files : Files) (asked : Option Options) (made : List Read) (r : RunRecord) → AreGiven files made → IsRunAsked asked made r → IsRunOver files asked r.plan r.topology
over_files files asked made r are of =
    subst (λ (ts : List Tree). IsRunOver files asked ts r.topology) (sym of.run.plan)
    (record {
      options = of.options;
      asked_is = of.asked_is;
      first = of.first;
      more = of.more;
      given = subst (λ (rs : List Read). AreGiven files rs) of.made_are are;
      plan = of.plan;
      to_run = of.run.to_run;
    })

-- what all protocols and their topologies keep
pub record AreLawful : Type 0 where
  pub means : (trees : List Tree) → IsMeaning (meaning_of trees)
  pub said : (trees : List Tree) (bytes : List ℕ) (t : Topology) → IsAccepted trees → IsTopologyOf (symbols_of trees) bytes t → FitsPlan trees t
  pub plain : (trees : List Tree) (t : Topology) → IsAccepted trees → IsPlainOf (symbols_of trees) t → FitsPlan trees t

fits_by : AreLawful → (command : Command) (o : Options) (trees : List Tree) (more : List Read) (t : Topology) → IsAccepted trees → IsToRunBy command o trees more t → FitsPlan trees t
fits_by laws Run o trees more t accepted is = laws.said trees is.bytes t accepted is.says
fits_by laws Plain o trees more t accepted is = laws.plain trees t accepted is.1
fits_by laws Check o trees more t accepted is = absurd is
fits_by laws Table o trees more t accepted is = absurd is
fits_by laws Code o trees more t accepted is = absurd is
fits_by laws Gen o trees more t accepted is = laws.plain trees t accepted is.1

pub lawful_run : AreLawful → (asked : Option Options) (made : List Read) (r : RunRecord) → IfSome asked IsWithin → IsRunAsked asked made r → IsLawfulRun r
lawful_run laws asked made r within of =
    let accepted = accepted_front of.plan.files of.trees of.plan.accepted in
    let fits = fits_by laws of.options.command of.options of.trees of.more r.topology accepted of.run.to_run in
    let here : IsWithin of.options = subst (λ (x : Option Options). IfSome x IsWithin) of.asked_is within in
    let bound : r.options.cycles ≡ of.options.cycles = ap (λ (x : Options). x.cycles) of.run.options in
    let most : of.options.cycles ≤ last_cycle = here.cycles.1 in
    record {
      means = laws.means r.plan;
      fits = subst (λ (ts : List Tree). FitsPlan ts r.topology) (sym of.run.plan) fits;
      cycles = subst (λ (n : ℕ). n ≤ last_cycle) (sym bound) most;
    }

-- Of runs by one worker there is one.

same_alone : (a b : Answer) → IsSame a b → IsAloneAnswer a → IsAloneAnswer b
    → ((r : RunRecord) → kept_of a ≡ Some r → IsWholeRun r × IsLawfulRun r) → ((r : RunRecord) → kept_of b ≡ Some r → IsWholeRun r) → a ≡ b
same_alone (Ran r) (Ran q) same alone apart whole ended =
    let is = whole r refl in
    ap Ran (one_record r q is.1 same is.0 alone (ended q refl) apart)
same_alone (Generated r) (Generated q) same alone apart whole ended =
    let is = whole r refl in
    ap Generated (one_record r q is.1 same is.0 alone (ended q refl) apart)
same_alone a b same alone apart whole ended = same

pub alone_same : AreLawful → (asked : Option Options) (made others : List Read) (a b : Answer) → IfSome asked IsWithin → IsRight asked made a → IsRight asked others b
    → IsSame a b → IsAloneAnswer a → IsAloneAnswer b → a ≡ b
alone_same laws asked made others a b within is also same alone apart =
    same_alone a b same alone apart
    (λ r kept. let of = run_asked asked made a r is kept in (of.run.whole, lawful_run laws asked made r within of))
    (λ r kept. let of = run_asked asked others b r also kept in of.run.whole)

-- Where a run is to be made of what was read, one is right.

run_there : (of_run : RunRecord → Answer) (keeps : KeepsRun of_run) (ts : Topologies) (o : Options) (trees : List Tree) (a : Answer) (t : Topology)
    → ((t : Topology) (rule line : ℕ) → ts.has t → ts.lacks rule line → ⊥) → ts.has t → IsRunAnswer of_run ts o trees a → (r : RunRecord) × (kept_of a ≡ Some r)
run_there of_run keeps ts o trees a t either has (inl is) = (is.kept, ap kept_of is.answer ∙ keeps is.kept)
run_there of_run keeps ts o trees a t either has (inr not) = absurd (either t not.rule not.line has not.lacks)

text_there : (o : Options) (trees : List Tree) (a : Answer) (t : Topology) (more : List Read) (is : IsTopologyRead o trees more t) → IsRightText o trees is.bytes a → (r : RunRecord) × (kept_of a ≡ Some r)
text_there o trees a t more is (inl (long, answer)) =
    let short = is.within in
    absurd (omega (arith, long, short))
text_there o trees a t more is (inr (short, answer)) =
    run_there Ran ran_keeps (topologies_said trees is.bytes) o trees a t (never_refused (symbols_of trees) is.bytes) is.says answer

by_there : (command : Command) (o : Options) (trees : List Tree) (a : Answer) (t : Topology) (more rest : List Read)
    → ((g h : Got) → more ≡ topology_read o g ∷ [] → rest ≡ topology_read o h ∷ [] → g ≡ h)
    → IsRightBy command o trees more a → IsToRunBy command o trees rest t → (r : RunRecord) × (kept_of a ≡ Some r)
by_there Run o trees a t more rest give is to =
    let same : is.gave ≡ got.Bytes to.bytes = give is.gave (got.Bytes to.bytes) is.read to.read in
    text_there o trees a t rest to (subst (λ (g : Got). IsRightGot o trees g a) same is.right)
by_there Plain o trees a t more rest give is to = run_there Ran ran_keeps (plain_topologies trees) o trees a t (never_both (symbols_of trees)) to.1 is.1
by_there Check o trees a t more rest give is to = absurd to
by_there Table o trees a t more rest give is to = absurd to
by_there Code o trees a t more rest give is to = absurd to
by_there Gen o trees a t more rest give is to = run_there Generated generated_keeps (plain_topologies trees) o trees a t (never_both (symbols_of trees)) to.1 is.1

front_there : (o : Options) (g : Gathered) (f : Front) (trees : List Tree) (a : Answer) (t : Topology) (more rest : List Read) → f ≡ front.Plan trees
    → ((g h : Got) → more ≡ topology_read o g ∷ [] → rest ≡ topology_read o h ∷ [] → g ≡ h)
    → IsRightTo o f more a → IsToRunBy o.command o trees rest t → (r : RunRecord) × (kept_of a ≡ Some r)
front_there o g f trees a t more rest same give is to =
    by_there o.command o trees a t more rest give (subst (λ (x : Front). IsRightTo o x more a) same is) to

-- of options that are those that were asked for
there_with : (files : Files) (o p : Options) (made : List Read) (a : Answer) (trees : List Tree) (t : Topology) (first more : List Read) → p ≡ o
    → AreGiven files made → IsRightRun o made a → AreGiven files (first ++ more) → IsPlanRead p first trees → IsToRunBy p.command p trees more t
    → (r : RunRecord) × (kept_of a ≡ Some r)
there_with files o p made a trees t first more same are is given_are plan_p to_p =
    let plan : IsPlanRead o first trees = subst (λ (x : Options). IsPlanRead x first trees) same plan_p in
    let to : IsToRunBy o.command o trees more t = subst (λ (x : Options). IsToRunBy x.command x trees more t) same to_p in
    let here : AreGiven files (is.first ++ is.more) = subst (λ (rs : List Read). AreGiven files rs) is.reads_are are in
    let gathered_same : is.files ≡ plan.files =
    read_once o is.first first is.files plan.files is.by_reads plan.by_reads (first_agree files is.first is.more first more here given_are)
    (was_memory o is.files is.more a is.right) (was_plan plan.files trees plan.accepted) in
    let of : IsFrontOf plan.files is.right.front = subst (λ (g : Gathered). IsFrontOf g is.right.front) gathered_same is.right.is_front in
    let fronts : is.right.front ≡ front.Plan trees = one_front plan.files is.right.front (front.Plan trees) of plan.accepted in
    front_there o plan.files is.right.front trees a t is.more more fronts
    (λ g h read also. gave files o is.more g (given_more files is.first is.more here) read ∙ sym (gave files o more h (given_more files first more given_are) also))
    is.right.right to

pub run_there_over : (files : Files) (asked : Option Options) (made : List Read) (a : Answer) (trees : List Tree) (t : Topology) → AreGiven files made → IsRight asked made a
    → IsRunOver files asked trees t → (r : RunRecord) × (kept_of a ≡ Some r)
run_there_over files None made a trees t are is run = absurd (cc run.asked_is)
run_there_over files (Some o) made a trees t are is run =
    let same : run.options ≡ o = sym (same_Some o run.options run.asked_is) in
    there_with files o run.options made a trees t run.first run.more same are is run.given run.plan run.to_run

pub alone_by : AreLawful → (asked : Option Options) (reads : List Read) (a b : Answer) → IfSome asked IsWithin → IsRight asked reads a → IsRight asked reads b
    → IsAloneAnswer a → IsAloneAnswer b → a ≡ b
alone_by laws asked reads a b within is also alone apart = alone_same laws asked reads reads a b within is also (same_by asked reads a b is also) alone apart

pub alone_over : AreLawful → (files : Files) (asked : Option Options) (a b : Answer) → IfSome asked IsWithin → IsAnswer files asked a → IsAnswer files asked b
    → IsAloneAnswer a → IsAloneAnswer b → a ≡ b
alone_over laws files asked a b within (reads, are, is) (others, given_are, also) alone apart =
    alone_same laws asked reads others a b within is also (same_over files asked a b (reads, are, is) (others, given_are, also)) alone apart
