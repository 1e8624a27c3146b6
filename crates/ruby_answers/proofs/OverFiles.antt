-- Over files there is one answer: they are read in one way.
use Rattle.std.proofs.Common.{◌≡◌, ◌≢◌, ◌++◌, ℕ, Option, None, Some, List, [], ◌∷◌, sym, ◌∙◌, ap, subst}
use Rattle.ruby_outside.specs.Prelude.{Files}
use Rattle.ruby_outside.specs.declared.library.Got.{Got}
use Rattle.ruby_outside.specs.declared.library.Got.TheVariants as got
use Rattle.slicc_ast.specs.declared.tree.item.Tree.{Tree}
use Rattle.slicc_files.specs.Prelude.{Read, AreGiven, given}
use Rattle.slicc_files.specs.declared.gathered.Gathered.{Gathered}
use Rattle.slicc_files.specs.declared.gathered.Gathered.TheVariants as gathered
use Rattle.slicc_files.proofs.OneGathering.{DoAgree, agree_given, agree_self, one_gathering, one_over_files}
use Rattle.slicc_front.specs.declared.answer.Front.{Front}
use Rattle.slicc_front.specs.declared.answer.Front.TheVariants as front
use Rattle.slicc_front.specs.Prelude.{IsFrontOf}
use Rattle.slicc_front.proofs.OneFront.{one_front}
use Rattle.slicc_plan.specs.Prelude.{symbols_of}
use Rattle.ruby_answers.specs.Prelude.{generated_name, IsAnswer, IsPlanRead, IsProtocolRead, IsReadBy, IsRight, IsRightOf, IsRightRun, IsRunOver, IsSame, IsToRunBy, IsTopologyRead, generated_files, topology_read}
use Rattle.ruby_options.specs.declared.options.Command.{Command}
use Rattle.ruby_options.specs.declared.options.Command.TheVariants.{Run, Plain, Check, Table, Code, Gen}
use Rattle.ruby_options.specs.declared.options.Options.{Options}
use Rattle.ruby_topology.specs.declared.topology.Topology.{Topology}
use Rattle.ruby_topology.specs.Prelude.{IsTopologyOf}
use Rattle.ruby_topology.proofs.One.{topology_one}
use Rattle.ruby_answers.specs.declared.done.Answer.{Answer}
use Rattle.ruby_answers.proofs.OneAnswer.{DoGiveSame, same_of, same_self, was_memory, was_plan}
use Rattle.ruby_answers.proofs.OnePlain.{plain_one}
use Rattle.ruby_answers.proofs.ReadsMade.{agree_first, given_first, given_more, last_same}

-- reads that agree read one protocol
by_once : (command : Command) (o : Options) (first others : List Read) (g h : Gathered) → IsReadBy command o first g → IsReadBy command o others h
    → DoAgree first others → g ≢ gathered.NoMemory → h ≢ gathered.NoMemory → g ≡ h
by_once Run o first others g h is also agree some any = one_gathering is others h also agree some any
by_once Plain o first others g h is also agree some any = one_gathering is others h also agree some any
by_once Check o first others g h is also agree some any = one_gathering is others h also agree some any
by_once Table o first others g h is also agree some any = one_gathering is others h also agree some any
by_once Code o first others g h is also agree some any = one_gathering is others h also agree some any
by_once Gen o first others g h is also agree some any = one_over_files (generated_files o.count) generated_name g h is.1 also.1 some any

pub read_once : (o : Options) (first others : List Read) (g h : Gathered) → IsProtocolRead o first g → IsProtocolRead o others h
    → DoAgree first others → g ≢ gathered.NoMemory → h ≢ gathered.NoMemory → g ≡ h
read_once o first others g h is also agree some any = by_once o.command o first others g h is also agree some any

-- reads of the same files agree
pub first_agree : (files : Files) (first more others rest : List Read) → AreGiven files (first ++ more) → AreGiven files (others ++ rest) → DoAgree first others
first_agree files first more others rest are given = agree_given files first others (given_first files first more are) (given_first files others rest given)

pub gave : (files : Files) (o : Options) (more : List Read) (g : Got) → AreGiven files more → more ≡ topology_read o g ∷ [] → g ≡ given files o.topology
gave files o more g are is = let here = subst (λ (rs : List Read). AreGiven files rs) is are in here.0

pub give_same : (files : Files) (o : Options) (first more others rest : List Read) → AreGiven files (first ++ more) → AreGiven files (others ++ rest) → DoGiveSame o more rest
give_same files o first more others rest are also g h is that =
    gave files o more g (given_more files first more are) is ∙ sym (gave files o rest h (given_more files others rest also) that)

-- two right answers, by reads of which the first agree and the topology's are the same
same_run : (o : Options) (reads others : List Read) (a b : Answer) (is : IsRightRun o reads a) (also : IsRightRun o others b)
    → DoAgree is.first also.first → DoGiveSame o is.more also.more → IsSame a b
same_run o reads others a b is also agree give =
    let same : also.files ≡ is.files =
    sym (read_once o is.first also.first is.files also.files is.by_reads also.by_reads agree (was_memory o is.files is.more a is.right) (was_memory o also.files also.more b also.right)) in
    same_of o is.files a b is.more also.more give is.right (subst (λ (g : Gathered). IsRightOf o g also.more b) same also.right)

-- the same reads agree, and their last is the same
same_lists : (first more others rest : List Read) → first ++ more ≡ others ++ rest → DoAgree first others
same_lists first more others rest is =
    agree_first first more others rest (subst (λ (rs : List Read). DoAgree (first ++ more) rs) is (agree_self (first ++ more)))

same_last : (o : Options) (first more others rest : List Read) → first ++ more ≡ others ++ rest → DoGiveSame o more rest
same_last o first more others rest is g h read also =
    let lists : first ++ topology_read o g ∷ [] ≡ others ++ topology_read o h ∷ [] =
    ap (λ (rs : List Read). first ++ rs) (sym read) ∙ is ∙ ap (λ (rs : List Read). others ++ rs) also in
    ap (λ (r : Read). r.got) (last_same first others (topology_read o g) (topology_read o h) lists)

pub same_by : (asked : Option Options) (reads : List Read) (a b : Answer) → IsRight asked reads a → IsRight asked reads b → IsSame a b
same_by None reads a b is also = same_self a b (is.1 ∙ sym also.1)
same_by (Some o) reads a b is also =
    let lists : is.first ++ is.more ≡ also.first ++ also.more = sym is.reads_are ∙ also.reads_are in
    same_run o reads reads a b is also (same_lists is.first is.more also.first also.more lists) (same_last o is.first is.more also.first also.more lists)

given_parts : (files : Files) (o : Options) (reads : List Read) (a : Answer) (is : IsRightRun o reads a) → AreGiven files reads → AreGiven files (is.first ++ is.more)
given_parts files o reads a is are = subst (λ (rs : List Read). AreGiven files rs) is.reads_are are

pub same_over : (files : Files) (asked : Option Options) (a b : Answer) → IsAnswer files asked a → IsAnswer files asked b → IsSame a b
same_over files None a b (reads, are, is) (others, given_are, also) = same_self a b (is.1 ∙ sym also.1)
same_over files (Some o) a b (reads, are, is) (others, given_are, also) =
    let here = given_parts files o reads a is are in
    let there = given_parts files o others b also given_are in
    same_run o reads others a b is also (first_agree files is.first is.more also.first also.more here there)
    (give_same files o is.first is.more also.first also.more here there)

-- Runs over files.

bytes_same : (bytes others : List ℕ) → got.Bytes bytes ≡ got.Bytes others → bytes ≡ others
bytes_same bytes others is = cc is

topology_same : (o : Options) (trees : List Tree) (more rest : List Read) (t u : Topology) → DoGiveSame o more rest
    → IsTopologyRead o trees more t → IsTopologyRead o trees rest u → t ≡ u
topology_same o trees more rest t u give is also =
    let bytes : is.bytes ≡ also.bytes = bytes_same is.bytes also.bytes (give (got.Bytes is.bytes) (got.Bytes also.bytes) is.read also.read) in
    topology_one (symbols_of trees) also.bytes t u (subst (λ (bs : List ℕ). IsTopologyOf (symbols_of trees) bs t) bytes is.says) also.says

run_to_same : (command : Command) (o : Options) (trees : List Tree) (more rest : List Read) (t u : Topology) → DoGiveSame o more rest
    → IsToRunBy command o trees more t → IsToRunBy command o trees rest u → t ≡ u
run_to_same Run o trees more rest t u give is also = topology_same o trees more rest t u give is also
run_to_same Plain o trees more rest t u give is also = plain_one (symbols_of trees) t u is.1 also.1
run_to_same Check o trees more rest t u give is also = absurd is
run_to_same Table o trees more rest t u give is also = absurd is
run_to_same Code o trees more rest t u give is also = absurd is
run_to_same Gen o trees more rest t u give is also = plain_one (symbols_of trees) t u is.1 also.1

-- a plan is read in one way
pub plan_once : (o : Options) (first others : List Read) (trees ts : List Tree) → DoAgree first others → IsPlanRead o first trees → IsPlanRead o others ts → ts ≡ trees
plan_once o first others trees ts agree is also =
    let same : is.files ≡ also.files =
    read_once o first others is.files also.files is.by_reads also.by_reads agree (was_plan is.files trees is.accepted) (was_plan also.files ts also.accepted) in
    let accepted : IsFrontOf also.files (front.Plan trees) = subst (λ (g : Gathered). IsFrontOf g (front.Plan trees)) same is.accepted in
    let fronts : front.Plan ts ≡ front.Plan trees = one_front also.files (front.Plan ts) (front.Plan trees) also.accepted accepted in
    cc fronts

options_same : (o p : Options) (asked : Option Options) → asked ≡ Some o → asked ≡ Some p → p ≡ o
options_same o p asked is also =
    let some : Some p ≡ Some o = sym also ∙ is in
    cc some

-- with the options of the other
run_with : (files : Files) (o : Options) (asked : Option Options) (trees : List Tree) (t : Topology) → asked ≡ Some o → IsRunOver files asked trees t → IsRunOver files (Some o) trees t
run_with files o asked trees t is run = subst (λ (x : Option Options). IsRunOver files x trees t) is run

runs_same : (files : Files) (o p : Options) (first more others rest : List Read) (trees ts : List Tree) (t u : Topology) → p ≡ o
    → AreGiven files (first ++ more) → AreGiven files (others ++ rest) → IsPlanRead o first trees → IsPlanRead p others ts
    → IsToRunBy o.command o trees more t → IsToRunBy p.command p ts rest u → (trees ≡ ts) × (t ≡ u)
runs_same files o p first more others rest trees ts t u same are also plan plan_also to to_also =
    let again : IsPlanRead o others ts = subst (λ (x : Options). IsPlanRead x others ts) same plan_also in
    let to_again : IsToRunBy o.command o ts rest u = subst (λ (x : Options). IsToRunBy x.command x ts rest u) same to_also in
    let one : ts ≡ trees = plan_once o first others trees ts (first_agree files first more others rest are also) plan again in
    let to_there : IsToRunBy o.command o trees rest u = subst (λ (x : List Tree). IsToRunBy o.command o x rest u) one to_again in
    (sym one, run_to_same o.command o trees more rest t u (give_same files o first more others rest are also) to to_there)

pub one_run : (files : Files) (asked : Option Options) (trees others : List Tree) (t u : Topology) → IsRunOver files asked trees t → IsRunOver files asked others u → (trees ≡ others) × (t ≡ u)
one_run files asked trees others t u is also =
    runs_same files is.options also.options is.first is.more also.first also.more trees others t u
    (options_same is.options also.options asked is.asked_is also.asked_is) is.given also.given is.plan also.plan is.to_run also.to_run
