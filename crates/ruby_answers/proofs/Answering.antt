-- What a call did with the library and the sink, from the files that it read and the answer that it found.
use Rattle.std.proofs.Common.{◌≡◌, ◌≢◌, ◌≤◌, ◌++◌, inl, inr, ℕ, true, false, Result, Ok, Err, Some, List, [], ◌∷◌, length, refl, sym, ◌∙◌, ap, subst, IfOk, IfErr}
use Rattle.std.proofs.lemmas.List.{append-nil}
use Rattle.std.specs.List.{IsDistinct}
use Rattle.ruby_outside.specs.declared.library.Got.{Got}
use Rattle.ruby_outside.specs.declared.library.Got.TheVariants as got
use Rattle.ruby_outside.specs.Prelude.{Files, IsSureRead, sure_read}
use Rattle.slicc_ast.specs.declared.tree.item.Tree.{Tree}
use Rattle.slicc_files.specs.Prelude.{IsGatheredFrom, IsGatheredOver, no_memory, Read, AreMade, AreOfOneNameEach, file_limit}
use Rattle.slicc_files.specs.declared.gathered.Gathered.{Gathered}
use Rattle.slicc_files.specs.declared.gathered.Gathered.TheVariants as gathered
use Rattle.slicc_front.specs.declared.answer.Front.{Front}
use Rattle.slicc_front.specs.declared.answer.Front.TheVariants as front
use Rattle.slicc_front.specs.Prelude.{IsFrontBy, IsFrontIfRoom, IsFrontOf}
use Rattle.slicc_files.proofs.OneNameEach.{one_name_each}
use Rattle.slicc_files.proofs.Told.{HasFailed, all_read}
use Rattle.slicc_files.proofs.Ways.{begun, given_or_failed}
use Rattle.ruby_answers.specs.Prelude.{generated_name, IsBeginning, IsTopologyAtMost, IsAfter, IsAnswerOf, IsFoundBy, IsFoundFurther, is_generated, IsProtocolRead, IsReadBy, IsRight, IsRightBy, IsRightGot, IsRightTo, IsRunAnswer, IsRunOf, Topologies, generated_files, plain_topologies, topologies_said, topology_read}
use Rattle.ruby_options.specs.declared.options.Command.{Command}
use Rattle.ruby_options.specs.declared.options.Command.TheVariants.{Run, Plain, Check, Table, Code, Gen}
use Rattle.ruby_options.specs.declared.options.Options.{Options}
use Rattle.ruby_topology.specs.declared.forms.TopoFault.{TopoFault}
use Rattle.ruby_topology.specs.declared.forms.TopoFault.TheVariants.{Line, NoMemory}
use Rattle.ruby_topology.specs.Prelude.{ForLine}
use Rattle.protocol_meaning.specs.declared.record.RunRecord.{RunRecord}
use Rattle.ruby_answers.specs.declared.done.Answer.{Answer}
use Rattle.ruby_answers.specs.declared.done.Answer.TheVariants.{Ran, Generated}
use Rattle.ruby_answers.proofs.ReadsMade.{made_on}

-- Runs as answers.

pub as_answer : (of_run : RunRecord → Answer) (ts : Topologies) (o : Options) (trees : List Tree) (run : Result RunRecord TopoFault) (a : Answer)
    → IfOk run (IsRunOf ts o trees) → IfErr run (λ fault. ForLine fault ts.lacks) → IsAnswerOf of_run run a → IsRunAnswer of_run ts o trees a
as_answer of_run ts o trees (Ok r) a ok err is = inl (record { kept = r; run = ok; answer = is })
as_answer of_run ts o trees (Err (Line rule line)) a ok err is = inr (record { rule = rule; line = line; lacks = err; answer = is })
as_answer of_run ts o trees (Err NoMemory) a ok err is = absurd is

pub as_result : {E : Type 0} (of_run : RunRecord → Answer) (ts : Topologies) (o : Options) (trees : List Tree) (run : Result RunRecord TopoFault) (result : Result Answer E)
    → IfOk run (IsRunOf ts o trees) → IfErr run (λ fault. ForLine fault ts.lacks) → IfOk result (IsAnswerOf of_run run) → IfOk result (IsRunAnswer of_run ts o trees)
as_result of_run ts o trees run (Ok a) ok err is = as_answer of_run ts o trees run a ok err is
as_result of_run ts o trees run (Err e) ok err is = tt

-- the bytes of the topology's file
pub bytes_right : {E : Type 0} (o : Options) (trees : List Tree) (g : Got) (bytes : List ℕ) (run : Result RunRecord TopoFault) (result : Result Answer E) → g ≡ got.Bytes bytes
    → length bytes ≤ file_limit → IfOk run (IsRunOf (topologies_said trees bytes) o trees) → IfErr run (λ fault. ForLine fault (topologies_said trees bytes).lacks)
    → IfOk result (IsAnswerOf Ran run) → IfOk result (IsRightGot o trees g)
bytes_right o trees g bytes run (Err e) same short ok err is = tt
bytes_right o trees g bytes run (Ok a) same short ok err is =
    subst (λ (x : Got). IsRightGot o trees x a) (sym same) (inr (short, as_answer Ran (topologies_said trees bytes) o trees run a ok err is))

pub read_right : {E : Type 0} (o : Options) (trees : List Tree) (g : Got) (result : Result Answer E) → IfOk result (IsRightGot o trees g)
    → IfOk result (IsRightBy Run o trees (topology_read o g ∷ []))
read_right o trees g (Err e) right = tt
read_right o trees g (Ok a) right = record { gave = g; read = refl; right = right }

-- Reads after the protocol's files.

module _ {L : Type 0} (reads : L → List ℕ → ℕ → Got → L → Type 0) (o : Options) where
  -- nothing more was read
  pub nothing_more : (library : L) (P : List Read → Type 0) → P [] → IsFoundFurther reads o library library P
  nothing_more library P holds = record { more = []; are_made = refl; topology = tt; holds = holds }

  -- a run was made that no file's topology is for
  with_nothing : {E : Type 0} (trees : List Tree) (result : Result Answer E) (P : Answer → Type 0) → IfOk result P → IfOk result (λ a. (◌≡◌ {A = List Read} [] []) × P a)
  with_nothing trees (Err e) P is = tt
  with_nothing trees (Ok a) P is = (refl, is)

  pub plain_found : {E : Type 0} (library : L) (trees : List Tree) (run : Result RunRecord TopoFault) (result : Result Answer E) → o.command ≡ Plain
      → IfOk run (IsRunOf (plain_topologies trees) o trees) → IfErr run (λ fault. ForLine fault (plain_topologies trees).lacks) → IfOk result (IsAnswerOf Ran run)
      → IsFoundFurther reads o library library (λ more. IfOk result (IsRightBy o.command o trees more))
  plain_found library trees run result command ok err is =
      nothing_more library (λ more. IfOk result (IsRightBy o.command o trees more))
      (subst (λ (c : Command). IfOk result (IsRightBy c o trees [])) (sym command)
      (with_nothing trees result (IsRunAnswer Ran (plain_topologies trees) o trees) (as_result Ran (plain_topologies trees) o trees run result ok err is)))

  pub gen_found : {E : Type 0} (library : L) (trees : List Tree) (run : Result RunRecord TopoFault) (result : Result Answer E) → o.command ≡ Gen
      → IfOk run (IsRunOf (plain_topologies trees) o trees) → IfErr run (λ fault. ForLine fault (plain_topologies trees).lacks) → IfOk result (IsAnswerOf Generated run)
      → IsFoundFurther reads o library library (λ more. IfOk result (IsRightBy o.command o trees more))
  gen_found library trees run result command ok err is =
      nothing_more library (λ more. IfOk result (IsRightBy o.command o trees more))
      (subst (λ (c : Command). IfOk result (IsRightBy c o trees [])) (sym command)
      (with_nothing trees result (IsRunAnswer Generated (plain_topologies trees) o trees) (as_result Generated (plain_topologies trees) o trees run result ok err is)))

  -- the topology's file was
  pub topology_more : (before after : L) (name : List ℕ) (g : Got) (P : List Read → Type 0) → o.command ≡ Run → name ≡ o.topology → reads before name 1048576 g after
      → P (topology_read o g ∷ []) → IsFoundFurther reads o before after P
  topology_more before after name g P command same read holds =
      record {
        more = topology_read o g ∷ [];
        are_made = (after, subst (λ (n : List ℕ). reads before n 1048576 g after) same read, refl);
        topology = (command, refl);
        holds = holds;
      }

-- Begun reads.

begun_by : (command : Command) (o : Options) (first : List Read) (g : Gathered) → IsReadBy command o first g → IsReadBy command o first gathered.NoMemory
begun_by Run o first g by = begun by
begun_by Plain o first g by = begun by
begun_by Check o first g by = begun by
begun_by Table o first g by = begun by
begun_by Code o first g by = begun by
begun_by Gen o first g (nothing, (reads, are, by)) = (nothing, (reads, are, begun by))

-- with none after the protocol's, or the topology's
begun_all : (o : Options) (first more : List Read) (g : Gathered) (f : Front) → IsProtocolRead o first g → IsFrontIfRoom g f → IsAfter f more → IsTopologyAtMost o more
    → IsBeginning (Some o) (first ++ more)
begun_all o first [] g f by of after most =
    inl (subst (λ (rs : List Read). IsProtocolRead o rs gathered.NoMemory) (sym (append-nil first)) (begun_by o.command o first g by))
begun_all o first (r ∷ []) g (front.Plan trees) by (inl none) after most = absurd (cc none)
begun_all o first (r ∷ []) g (front.Plan trees) by (inr of) after most =
    inr (record {
      first = first;
      trees = trees;
      gave = r.got;
      plan = record { files = g; by_reads = by; accepted = of };
      command = most.0;
      made_are = ap (λ (n : List ℕ). first ++ record { name = n; got = r.got } ∷ []) most.1;
    })
begun_all o first (r ∷ []) g (front.Refused refusal) by of after most = absurd (cc after)
begun_all o first (r ∷ []) g (front.Absent name) by of after most = absurd (cc after)
begun_all o first (r ∷ []) g (front.TooLarge name) by of after most = absurd (cc after)
begun_all o first (r ∷ []) g (front.ReadFault name) by of after most = absurd (cc after)
begun_all o first (r ∷ []) g front.NoMemory by of after most = absurd (cc after)
begun_all o first (r ∷ q ∷ more) g f by of after most = absurd most

-- an answer to what the files come to is one to what they were read as
right_all : {E : Type 0} (o : Options) (first more : List Read) (g : Gathered) (f : Front) (result : Result Answer E) → IsProtocolRead o first g → IsFrontIfRoom g f
    → IfOk result (IsRightTo o f more) → IfOk result (IsRight (Some o) (first ++ more))
right_all o first more g f (Err e) by of right = tt
right_all o first more g f (Ok a) by (inl none) right = absurd (subst (λ (x : Front). IsRightTo o x more a) none right)
right_all o first more g f (Ok a) by (inr of) right =
    record {
      first = first;
      more = more;
      reads_are = refl;
      files = g;
      by_reads = by;
      right = record { front = f; is_front = of; right = right };
    }

-- A protocol of a library.

by_read : (command : Command) (o : Options) (first : List Read) (g : Gathered) → command ≢ Gen → IsGatheredFrom o.protocol first g → IsReadBy command o first g
by_read Run o first g not by = by
by_read Plain o first g not by = by
by_read Check o first g not by = by
by_read Table o first g not by = by
by_read Code o first g not by = by
by_read Gen o first g not by = absurd (not refl)

pub found_read : {L E : Type 0} (reads : L → List ℕ → ℕ → Got → L → Type 0) (o : Options) (before middle after : L) (f : Front) (result : Result Answer E)
    → o.command ≢ Gen → IsFrontBy reads o.protocol before middle f
    → IsFoundFurther reads o middle after (λ more. IsAfter f more × IfOk result (IsRightTo o f more))
    → IsFoundBy reads o before after (λ made. IfOk result (IsRight (Some o) made))
found_read reads o before middle after f result not (g, (first, are, by), of) further =
    let protocol : IsProtocolRead o first g = by_read o.command o first g not by in
    record {
      made = first ++ further.more;
      are_made = made_on reads before middle after first further.more are further.are_made;
      begun = begun_all o first further.more g f protocol of further.holds.0 further.topology;
      once = record { first = first; more = further.more; made_are = refl; once = one_name_each o.protocol first g by; topology = further.topology };
      holds = right_all o first further.more g f result protocol of further.holds.1;
    }

-- A generated protocol, over a library that never fails.

sure_given : (files : Files) (made : List Read) (before after : Files) → AreMade IsSureRead before made after → HasFailed made → ⊥
sure_given files [] before after are failed = failed
sure_given files (r ∷ made) before after (middle, read, are) (inl failed) = read.never_failed failed
sure_given files (r ∷ made) before after (middle, read, are) (inr later) = sure_given files made middle after are later

gathered_over : (files : Files) (made : List Read) (after : Files) (name : List ℕ) (g : Gathered) → AreMade IsSureRead files made after → IsGatheredFrom name made g
    → g ≢ gathered.NoMemory → IsGatheredOver files name g
gathered_over files made after name g are by memory =
    elim (given_or_failed files by memory (all_read (λ (l : Files). Some l) (λ (l : Files). 0) IsSureRead sure_read files made files after are refl)) [
      | inl last ↦ absurd (sure_given files made files after are last.read_failed)
      | inr given ↦ (made, given, by)
    ]

front_memory : (g : Gathered) (f : Front) → IsFrontOf g f → g ≢ gathered.NoMemory
front_memory g f of none = subst (λ (x : Gathered). IsFrontOf x f) none of

by_generated : (command : Command) (o : Options) (g : Gathered) → command ≡ Gen → IsGatheredOver (generated_files o.count) generated_name g → IsReadBy command o [] g
by_generated command o g is by = subst (λ (c : Command). IsReadBy c o [] g) (sym is) (refl, by)

-- a generated protocol is answered without a read
no_more_by : (command : Command) (o : Options) (trees : List Tree) (more : List Read) (a : Answer) → command ≡ Gen → IsRightBy command o trees more a → more ≡ []
no_more_by command o trees more a is right = let here = subst (λ (c : Command). IsRightBy c o trees more a) is right in here.0

no_more : (o : Options) (f : Front) (more : List Read) (a : Answer) → o.command ≡ Gen → IsRightTo o f more a → more ≡ []
no_more o (front.Plan trees) more a is right = no_more_by o.command o trees more a is right
no_more o (front.Refused refusal) more a is right = right.0
no_more o (front.Absent name) more a is right = right.0
no_more o (front.TooLarge name) more a is right = right.0
no_more o (front.ReadFault name) more a is right = right.0
no_more o front.NoMemory more a is right = absurd right

generated_right : (o : Options) (made more : List Read) (after : Files) (g : Gathered) (f : Front) (a : Answer) → o.command ≡ Gen
    → AreMade IsSureRead (generated_files o.count) made after → IsGatheredFrom generated_name made g → IsFrontIfRoom g f → IsRightTo o f more a → IsRight (Some o) [] a
generated_right o made more after g f a is are by (inl none) right = absurd (subst (λ (x : Front). IsRightTo o x more a) none right)
generated_right o made more after g f a is are by (inr of) right =
    record {
      first = [];
      more = [];
      reads_are = refl;
      files = g;
      by_reads = by_generated o.command o g is (gathered_over (generated_files o.count) made after generated_name g are by (front_memory g f of));
      right = record { front = f; is_front = of; right = subst (λ (rs : List Read). IsRightTo o f rs a) (no_more o f more a is right) right };
    }

pub found_generated : {E : Type 0} (o : Options) (name : List ℕ) (library middle after : Files) (f : Front) (result : Result Answer E) → o.command ≡ Gen
    → library ≡ generated_files o.count → name ≡ generated_name → IsFrontBy IsSureRead name library middle f
    → IsFoundFurther IsSureRead o middle after (λ more. IsAfter f more × IfOk result (IsRightTo o f more)) → IfOk result (IsRight (Some o) [])
found_generated o name library middle after f (Err e) is files named front further = tt
found_generated o name library middle after f (Ok a) is files named (g, (made, are, by), of) further =
    generated_right o made further.more middle g f a is (subst (λ (l : Files). AreMade IsSureRead l made middle) files are)
    (subst (λ (n : List ℕ). IsGatheredFrom n made g) named by) of further.holds.1

none_named : AreOfOneNameEach []
unfolding IsDistinct
none_named = tt

-- a call that answers without a read of its library
pub found_unread : {L E : Type 0} (reads : L → List ℕ → ℕ → Got → L → Type 0) (o : Options) (library : L) (result : Result Answer E) → o.command ≡ Gen
    → IfOk result (IsRight (Some o) []) → IsFoundBy reads o library library (λ made. IfOk result (IsRight (Some o) made))
found_unread reads o library result is right =
    record {
      made = [];
      are_made = refl;
      begun = inl (by_generated o.command o gathered.NoMemory is ([], tt, no_memory));
      once = record { first = []; more = []; made_are = refl; once = none_named; topology = tt };
      holds = right;
    }

-- Generated protocols by their command.

pub is_gen : (command : Command) → is_generated command ≡ true → command ≡ Gen
is_gen Gen is = refl
is_gen command is = absurd (cc is)

pub not_gen : (command : Command) → is_generated command ≡ false → command ≢ Gen
not_gen command is same = cc (sym (ap is_generated same) ∙ is)
