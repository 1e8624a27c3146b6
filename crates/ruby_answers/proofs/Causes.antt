-- The statuses of right answers, and what causes them.
use Rattle.std.proofs.Common.{◌≡◌, ◌<◌, ◌⊎◌, ◌++◌, inl, inr, ℕ, Bool, true, false, Option, None, Some, List, [], ◌∷◌, if◌then◌else◌, refl, sym, ◌∙◌, ap, subst, arith}
use Rattle.std.proofs.lemmas.Option.{same_Some}
use Rattle.ruby_outside.specs.Prelude.{Files}
use Rattle.ruby_outside.specs.declared.library.Got.{Got}
use Rattle.ruby_outside.specs.declared.library.Got.TheVariants as got
use Rattle.slicc_ast.specs.declared.tree.item.Tree.{Tree}
use Rattle.slicc_files.specs.Prelude.{Read, AreGiven, MayBeGiven, file_limit}
use Rattle.slicc_files.specs.declared.gathered.Gathered.{Gathered}
use Rattle.slicc_files.specs.declared.gathered.Gathered.TheVariants as gathered
use Rattle.slicc_files.specs.declared.gathered.Source.{Source}
use Rattle.slicc_files.proofs.Told.{HasFailed, given_right}
use Rattle.slicc_files.proofs.Ways.{IsLastFault, fault_failed, given_or_failed}
use Rattle.slicc_front.specs.declared.answer.Front.{Front}
use Rattle.slicc_front.specs.declared.answer.Front.TheVariants as front
use Rattle.slicc_front.specs.Prelude.{IsFrontFor, IsFrontOf, keeps_all, breaks_one}
use Rattle.run_journal.specs.declared.verdict.Verdict.{Verdict}
use Rattle.run_journal.specs.declared.verdict.Verdict.TheVariants.{Passed, Quiet}
use Rattle.ruby_answers.specs.Prelude.{generated_name, kept_of, status_of, verdict_status, IsOneOf, makes_run, statuses_of, IsAnswer, IsProtocolRead, IsReadBy, IsRight, IsRightBy, IsRightGot, IsRightOf, IsRightRun, IsRightText, IsRightTo, IsRunAnswer, IsSame, Topologies, generated_files, plain_topologies, topologies_said, topology_read}
use Rattle.ruby_options.specs.declared.options.Command.{Command}
use Rattle.ruby_options.specs.declared.options.Command.TheVariants.{Run, Plain, Check, Table, Code, Gen}
use Rattle.ruby_options.specs.declared.options.Options.{Options}
use Rattle.protocol_meaning.specs.declared.record.RunRecord.{RunRecord}
use Rattle.ruby_answers.specs.declared.done.Answer.{Answer}
use Rattle.ruby_answers.specs.declared.done.Answer.TheVariants.{Ran, Generated, Accepted, Tabled, Usage, Refused, Unfit, Absent, TooLarge, ReadFault}
use Rattle.ruby_answers.proofs.OneAnswer.{was_memory}
use Rattle.ruby_answers.proofs.ReadsMade.{failed_first, failed_more, given_both, may_first, may_more, never_failed}

-- a run's status is 0 or 1
pub verdict_low : (v : Verdict) → IsOneOf (0 ∷ 1 ∷ []) (verdict_status v)
verdict_low (Passed cycle checks) = inl refl
verdict_low (Quiet cycle) = inl refl
verdict_low other = inr (inl refl)

low_not : (s n : ℕ) → IsOneOf (0 ∷ 1 ∷ []) s → 1 < n → s ≡ n → ⊥
low_not s n (inl zero) more is = absurd (omega (arith, zero, more, is))
low_not s n (inr (inl one)) more is = absurd (omega (arith, one, more, is))
low_not s n (inr (inr none)) more is = none

verdict_not : (v : Verdict) (n : ℕ) → 1 < n → verdict_status v ≡ n → ⊥
verdict_not v n more is = low_not (verdict_status v) n (verdict_low v) more is

-- no answer has the status of a text that was cut off
pub never_seven : (a : Answer) → status_of a ≡ 7 → ⊥
never_seven (Ran r) is = verdict_not r.verdict 7 (omega arith) is
never_seven (Generated r) is = verdict_not r.verdict 7 (omega arith) is
never_seven a is = absurd (omega (arith, is))

-- with a record an answer has the status of its verdict, and without one never 1
pub status_kept : (a : Answer) (r : RunRecord) → kept_of a ≡ Some r → status_of a ≡ verdict_status r.verdict
status_kept (Ran q) r is = ap (λ (x : RunRecord). verdict_status x.verdict) (same_Some q r is)
status_kept (Generated q) r is = ap (λ (x : RunRecord). verdict_status x.verdict) (same_Some q r is)
status_kept a r is = absurd (cc is)

pub never_one : (a : Answer) → kept_of a ≡ None → status_of a ≡ 1 → ⊥
never_one (Ran r) none is = cc none
never_one (Generated r) none is = cc none
never_one a none is = absurd (omega (arith, is))

pub low_kept : (a : Answer) (r : RunRecord) → kept_of a ≡ Some r → IsOneOf (0 ∷ 1 ∷ []) (status_of a)
low_kept a r is = subst (λ (n : ℕ). IsOneOf (0 ∷ 1 ∷ []) n) (sym (status_kept a r is)) (verdict_low r.verdict)

-- a status is one of those of each answer that is the same
pub same_status : (b a : Answer) → IsSame b a → IsOneOf (statuses_of b) (status_of a)
same_status (Ran r) (Ran q) same = verdict_low q.verdict
same_status (Generated r) (Generated q) same = verdict_low q.verdict
same_status (Ran r) a same = absurd (cc same)
same_status (Generated r) a same = absurd (cc same)
same_status b a same = inl (ap status_of (sym same))

-- the same as an answer without a record is that answer
pub same_told : (b a : Answer) → IsSame b a → kept_of b ≡ None → b ≡ a
same_told (Ran r) a same none = absurd (cc none)
same_told (Generated r) a same none = absurd (cc none)
same_told b a same none = same

-- The status of a right answer by what it is right to.

-- both kinds of answers have their run's status, and keep it
pub record IsRunKind (of_run : RunRecord → Answer) : Type 0 where
  pub status : (r : RunRecord) → status_of (of_run r) ≡ verdict_status r.verdict
  pub keeps : (r : RunRecord) → kept_of (of_run r) ≡ Some r

ran_kind : IsRunKind Ran
ran_kind = record { status = λ r. refl; keeps = λ r. refl }

generated_kind : IsRunKind Generated
generated_kind = record { status = λ r. refl; keeps = λ r. refl }

of_same : (a b : Answer) (n : ℕ) → a ≡ b → status_of a ≡ n → status_of b ≡ n
of_same a b n is status = sym (ap status_of is) ∙ status

run_not : (of_run : RunRecord → Answer) (kind : IsRunKind of_run) (ts : Topologies) (o : Options) (trees : List Tree) (a : Answer) (n : ℕ) → 1 < n → (4 ≡ n → ⊥)
    → IsRunAnswer of_run ts o trees a → status_of a ≡ n → ⊥
run_not of_run kind ts o trees a n more not_four (inl is) status =
    verdict_not is.kept.verdict n more (sym (kind.status is.kept) ∙ of_same a (of_run is.kept) n is.answer status)
run_not of_run kind ts o trees a n more not_four (inr not) status = not_four (of_same a (Unfit not.rule not.line) n not.answer status)

run_zero : (of_run : RunRecord → Answer) (kind : IsRunKind of_run) (ts : Topologies) (o : Options) (trees : List Tree) (a : Answer) → IsRunAnswer of_run ts o trees a
    → kept_of a ≡ None → status_of a ≡ 0 → ⊥
run_zero of_run kind ts o trees a (inl is) none zero = cc (sym (ap kept_of is.answer ∙ kind.keeps is.kept) ∙ none)
run_zero of_run kind ts o trees a (inr not) none zero =
    let four : 4 ≡ 0 = of_same a (Unfit not.rule not.line) 0 not.answer zero in
    omega (arith, four)

-- the usage line is right where nothing was asked for

two_text : (o : Options) (trees : List Tree) (a : Answer) (bytes : List ℕ) → IsRightText o trees bytes a → status_of a ≡ 2 → ⊥
two_text o trees a bytes (inl (long, is)) two = let no : 9 ≡ 2 = of_same a (TooLarge o.topology) 2 is two in omega (arith, no)
two_text o trees a bytes (inr (short, is)) two = run_not Ran ran_kind (topologies_said trees bytes) o trees a 2 (omega arith) (λ e. omega (arith, e)) is two

two_got : (o : Options) (trees : List Tree) (a : Answer) (g : Got) → IsRightGot o trees g a → status_of a ≡ 2 → ⊥
two_got o trees a (got.Bytes bytes) is two = two_text o trees a bytes is two
two_got o trees a got.Absent is two = let no : 6 ≡ 2 = of_same a (Absent o.topology) 2 is two in omega (arith, no)
two_got o trees a got.TooLarge is two = let no : 9 ≡ 2 = of_same a (TooLarge o.topology) 2 is two in omega (arith, no)
two_got o trees a got.Failed is two = let no : 5 ≡ 2 = of_same a (ReadFault o.topology) 2 is two in omega (arith, no)
two_got o trees a got.NoMemory is two = is

two_by : (command : Command) (o : Options) (trees : List Tree) (more : List Read) (a : Answer) → IsRightBy command o trees more a → status_of a ≡ 2 → ⊥
two_by Run o trees more a is two = two_got o trees a is.gave is.right two
two_by Plain o trees more a is two = run_not Ran ran_kind (plain_topologies trees) o trees a 2 (omega arith) (λ e. omega (arith, e)) is.1 two
two_by Check o trees more a is two = let no : 0 ≡ 2 = of_same a (Accepted _) 2 is.1 two in omega (arith, no)
two_by Table o trees more a is two = let no : 0 ≡ 2 = of_same a (Tabled trees is.1.rows) 2 is.1.answer two in omega (arith, no)
two_by Code o trees more a is two = is
two_by Gen o trees more a is two = run_not Generated generated_kind (plain_topologies trees) o trees a 2 (omega arith) (λ e. omega (arith, e)) is.1 two

two_to : (o : Options) (f : Front) (more : List Read) (a : Answer) → IsRightTo o f more a → status_of a ≡ 2 → ⊥
two_to o (front.Plan trees) more a is two = two_by o.command o trees more a is two
two_to o (front.Refused r) more a is two = let no : 3 ≡ 2 = of_same a (Refused r) 2 is.1 two in omega (arith, no)
two_to o (front.Absent n) more a is two = let no : 6 ≡ 2 = of_same a (Absent n) 2 is.1 two in omega (arith, no)
two_to o (front.TooLarge n) more a is two = let no : 9 ≡ 2 = of_same a (TooLarge n) 2 is.1 two in omega (arith, no)
two_to o (front.ReadFault n) more a is two = let no : 5 ≡ 2 = of_same a (ReadFault n) 2 is.1 two in omega (arith, no)
two_to o front.NoMemory more a is two = is

pub two_asked : (asked : Option Options) (made : List Read) (a : Answer) → IsRight asked made a → status_of a ≡ 2 → asked ≡ None
two_asked None made a is two = refl
two_asked (Some o) made a is two = absurd (two_to o is.right.front is.more a is.right.right two)

pub none_usage : (made : List Read) (a : Answer) → IsRight None made a → a ≡ Usage
none_usage made a is = is.1

-- status 0 without a record is that of a command that makes no run

zero_got : (o : Options) (trees : List Tree) (a : Answer) (g : Got) → IsRightGot o trees g a → kept_of a ≡ None → status_of a ≡ 0 → ⊥
zero_got o trees a (got.Bytes bytes) (inl (long, is)) none zero = let no : 9 ≡ 0 = of_same a (TooLarge o.topology) 0 is zero in omega (arith, no)
zero_got o trees a (got.Bytes bytes) (inr (short, is)) none zero = run_zero Ran ran_kind (topologies_said trees bytes) o trees a is none zero
zero_got o trees a got.Absent is none zero = let no : 6 ≡ 0 = of_same a (Absent o.topology) 0 is zero in omega (arith, no)
zero_got o trees a got.TooLarge is none zero = let no : 9 ≡ 0 = of_same a (TooLarge o.topology) 0 is zero in omega (arith, no)
zero_got o trees a got.Failed is none zero = let no : 5 ≡ 0 = of_same a (ReadFault o.topology) 0 is zero in omega (arith, no)
zero_got o trees a got.NoMemory is none zero = is

zero_by : (command : Command) (o : Options) (trees : List Tree) (more : List Read) (a : Answer) → IsRightBy command o trees more a → kept_of a ≡ None → status_of a ≡ 0
    → makes_run command ≡ false
zero_by Run o trees more a is none zero = absurd (zero_got o trees a is.gave is.right none zero)
zero_by Plain o trees more a is none zero = absurd (run_zero Ran ran_kind (plain_topologies trees) o trees a is.1 none zero)
zero_by Check o trees more a is none zero = refl
zero_by Table o trees more a is none zero = refl
zero_by Code o trees more a is none zero = refl
zero_by Gen o trees more a is none zero = absurd (run_zero Generated generated_kind (plain_topologies trees) o trees a is.1 none zero)

zero_to : (o : Options) (f : Front) (more : List Read) (a : Answer) → IsRightTo o f more a → kept_of a ≡ None → status_of a ≡ 0 → makes_run o.command ≡ false
zero_to o (front.Plan trees) more a is none zero = zero_by o.command o trees more a is none zero
zero_to o (front.Refused r) more a is none zero = let no : 3 ≡ 0 = of_same a (Refused r) 0 is.1 zero in absurd (omega (arith, no))
zero_to o (front.Absent n) more a is none zero = let no : 6 ≡ 0 = of_same a (Absent n) 0 is.1 zero in absurd (omega (arith, no))
zero_to o (front.TooLarge n) more a is none zero = let no : 9 ≡ 0 = of_same a (TooLarge n) 0 is.1 zero in absurd (omega (arith, no))
zero_to o (front.ReadFault n) more a is none zero = let no : 5 ≡ 0 = of_same a (ReadFault n) 0 is.1 zero in absurd (omega (arith, no))
zero_to o front.NoMemory more a is none zero = absurd is

pub zero_makes_none : (o : Options) (made : List Read) (a : Answer) → IsRightRun o made a → kept_of a ≡ None → status_of a ≡ 0 → makes_run o.command ≡ false
zero_makes_none o made a is none zero = zero_to o is.right.front is.more a is.right.right none zero

-- A fault is that of a read.

five_text : (o : Options) (trees : List Tree) (a : Answer) (bytes : List ℕ) → IsRightText o trees bytes a → status_of a ≡ 5 → ⊥
five_text o trees a bytes (inl (long, is)) five = let no : 9 ≡ 5 = of_same a (TooLarge o.topology) 5 is five in omega (arith, no)
five_text o trees a bytes (inr (short, is)) five = run_not Ran ran_kind (topologies_said trees bytes) o trees a 5 (omega arith) (λ e. omega (arith, e)) is five

five_got : (o : Options) (trees : List Tree) (a : Answer) (g : Got) → IsRightGot o trees g a → status_of a ≡ 5 → g ≡ got.Failed
five_got o trees a (got.Bytes bytes) is five = absurd (five_text o trees a bytes is five)
five_got o trees a got.Absent is five = let no : 6 ≡ 5 = of_same a (Absent o.topology) 5 is five in absurd (omega (arith, no))
five_got o trees a got.TooLarge is five = let no : 9 ≡ 5 = of_same a (TooLarge o.topology) 5 is five in absurd (omega (arith, no))
five_got o trees a got.Failed is five = refl
five_got o trees a got.NoMemory is five = absurd is

five_by : (command : Command) (o : Options) (trees : List Tree) (more : List Read) (a : Answer) → IsRightBy command o trees more a → status_of a ≡ 5 → HasFailed more
five_by Run o trees more a is five = subst HasFailed (sym is.read) (inl (five_got o trees a is.gave is.right five))
five_by Plain o trees more a is five = absurd (run_not Ran ran_kind (plain_topologies trees) o trees a 5 (omega arith) (λ e. omega (arith, e)) is.1 five)
five_by Check o trees more a is five = let no : 0 ≡ 5 = of_same a (Accepted _) 5 is.1 five in absurd (omega (arith, no))
five_by Table o trees more a is five = let no : 0 ≡ 5 = of_same a (Tabled trees is.1.rows) 5 is.1.answer five in absurd (omega (arith, no))
five_by Code o trees more a is five = absurd is
five_by Gen o trees more a is five = absurd (run_not Generated generated_kind (plain_topologies trees) o trees a 5 (omega arith) (λ e. omega (arith, e)) is.1 five)

no_fault : (sources : List Source) (trees : List Tree) (f : Front) (name : List ℕ) → IsFrontFor sources trees f → f ≡ front.ReadFault name → ⊥
no_fault sources trees f name (keeps_all accepted) is = cc is
no_fault sources trees f name (breaks_one told) is = cc is

fault_front : (g : Gathered) (f : Front) (name : List ℕ) → IsFrontOf g f → f ≡ front.ReadFault name → (n : List ℕ) × (g ≡ gathered.ReadFault n)
fault_front (gathered.Files sources trees) f name of is = absurd (no_fault sources trees f name of is)
fault_front (gathered.Refused refusal) f name of is = absurd (cc (of, is))
fault_front (gathered.Absent n) f name of is = absurd (cc (of, is))
fault_front (gathered.TooLarge n) f name of is = absurd (cc (of, is))
fault_front (gathered.ReadFault n) f name of is = (n, refl)
fault_front gathered.NoMemory f name of is = absurd of

fault_by : (command : Command) (o : Options) (first : List Read) (g : Gathered) (name : List ℕ) → IsReadBy command o first g → g ≡ gathered.ReadFault name → HasFailed first
fault_by Run o first g name by is = fault_failed name by is
fault_by Plain o first g name by is = fault_failed name by is
fault_by Check o first g name by is = fault_failed name by is
fault_by Table o first g name by is = fault_failed name by is
fault_by Code o first g name by is = fault_failed name by is
fault_by Gen o first g name (nothing, (reads, are, by)) is = absurd (never_failed (generated_files o.count) reads are (fault_failed name by is))

five_to : (o : Options) (g : Gathered) (f : Front) (first more : List Read) (a : Answer) → IsProtocolRead o first g → IsFrontOf g f → IsRightTo o f more a → status_of a ≡ 5
    → HasFailed (first ++ more)
five_to o g (front.Plan trees) first more a by of is five = failed_more first more (five_by o.command o trees more a is five)
five_to o g (front.Refused r) first more a by of is five = let no : 3 ≡ 5 = of_same a (Refused r) 5 is.1 five in absurd (omega (arith, no))
five_to o g (front.Absent n) first more a by of is five = let no : 6 ≡ 5 = of_same a (Absent n) 5 is.1 five in absurd (omega (arith, no))
five_to o g (front.TooLarge n) first more a by of is five = let no : 9 ≡ 5 = of_same a (TooLarge n) 5 is.1 five in absurd (omega (arith, no))
five_to o g (front.ReadFault n) first more a by of is five =
    let fault = fault_front g (front.ReadFault n) n of refl in
    failed_first first more (fault_by o.command o first g fault.0 by fault.1)
five_to o g front.NoMemory first more a by of is five = absurd is

pub five_failed : (asked : Option Options) (made : List Read) (a : Answer) → IsRight asked made a → status_of a ≡ 5 → HasFailed made
five_failed None made a is five = let no : 2 ≡ 5 = of_same a Usage 5 is.1 five in absurd (omega (arith, no))
five_failed (Some o) made a is five =
    subst HasFailed (sym is.reads_are)
    (five_to o is.files is.right.front is.first is.more a is.by_reads is.right.is_front is.right.right five)

-- A fault or an answer over the files.

got_given : (files : Files) (o : Options) (trees : List Tree) (a : Answer) (g : Got) → IsRightGot o trees g a → MayBeGiven files (topology_read o g ∷ [])
    → (status_of a ≡ 5) ⊎ AreGiven files (topology_read o g ∷ [])
got_given files o trees a (got.Bytes bytes) is may = inr (given_right files o.topology (got.Bytes bytes) may.0 (λ e. cc e) (λ e. cc e), tt)
got_given files o trees a got.Absent is may = inr (given_right files o.topology got.Absent may.0 (λ e. cc e) (λ e. cc e), tt)
got_given files o trees a got.TooLarge is may = inr (given_right files o.topology got.TooLarge may.0 (λ e. cc e) (λ e. cc e), tt)
got_given files o trees a got.Failed is may = inl (ap status_of is)
got_given files o trees a got.NoMemory is may = absurd is

nothing_given : (files : Files) (more : List Read) → more ≡ [] → AreGiven files more
nothing_given files more is = subst (λ (rs : List Read). AreGiven files rs) (sym is) tt

by_given : (files : Files) (command : Command) (o : Options) (trees : List Tree) (more : List Read) (a : Answer) → IsRightBy command o trees more a → MayBeGiven files more
    → (status_of a ≡ 5) ⊎ AreGiven files more
by_given files Run o trees more a is may =
    subst (λ (rs : List Read). (status_of a ≡ 5) ⊎ AreGiven files rs) (sym is.read)
    (got_given files o trees a is.gave is.right (subst (λ (rs : List Read). MayBeGiven files rs) is.read may))
by_given files Plain o trees more a is may = inr (nothing_given files more is.0)
by_given files Check o trees more a is may = inr (nothing_given files more is.0)
by_given files Table o trees more a is may = inr (nothing_given files more is.0)
by_given files Code o trees more a is may = absurd is
by_given files Gen o trees more a is may = inr (nothing_given files more is.0)

to_given : (files : Files) (o : Options) (f : Front) (more : List Read) (a : Answer) → IsRightTo o f more a → MayBeGiven files more → (status_of a ≡ 5) ⊎ AreGiven files more
to_given files o (front.Plan trees) more a is may = by_given files o.command o trees more a is may
to_given files o (front.Refused r) more a is may = inr (nothing_given files more is.0)
to_given files o (front.Absent n) more a is may = inr (nothing_given files more is.0)
to_given files o (front.TooLarge n) more a is may = inr (nothing_given files more is.0)
to_given files o (front.ReadFault n) more a is may = inr (nothing_given files more is.0)
to_given files o front.NoMemory more a is may = absurd is

fault_of : (g : Gathered) (f : Front) (name : List ℕ) → g ≡ gathered.ReadFault name → IsFrontOf g f → f ≡ front.ReadFault name
fault_of g f name same of = subst (λ (x : Gathered). IsFrontOf x f) same of

fault_status : (o : Options) (g : Gathered) (more : List Read) (a : Answer) (name : List ℕ) → g ≡ gathered.ReadFault name → IsRightOf o g more a → status_of a ≡ 5
fault_status o g more a name same is =
    let told : IsRightTo o (front.ReadFault name) more a = subst (λ (x : Front). IsRightTo o x more a) (fault_of g is.front name same is.is_front) is.right in
    ap status_of told.1

last_or_given : (o : Options) (g : Gathered) (first more : List Read) (a : Answer) (files : Files) → IsRightOf o g more a → IsLastFault first g ⊎ AreGiven files first
    → (status_of a ≡ 5) ⊎ AreGiven files first
last_or_given o g first more a files is (inl last) = inl (fault_status o g more a last.name last.answer is)
last_or_given o g first more a files is (inr are) = inr are

first_by : (command : Command) (files : Files) (o : Options) (g : Gathered) (first more : List Read) (a : Answer) → IsReadBy command o first g → IsRightOf o g more a
    → MayBeGiven files first → (status_of a ≡ 5) ⊎ AreGiven files first
first_by Run files o g first more a by is may = last_or_given o g first more a files is (given_or_failed files by (was_memory o g more a is) may)
first_by Plain files o g first more a by is may = last_or_given o g first more a files is (given_or_failed files by (was_memory o g more a is) may)
first_by Check files o g first more a by is may = last_or_given o g first more a files is (given_or_failed files by (was_memory o g more a is) may)
first_by Table files o g first more a by is may = last_or_given o g first more a files is (given_or_failed files by (was_memory o g more a is) may)
first_by Code files o g first more a by is may = last_or_given o g first more a files is (given_or_failed files by (was_memory o g more a is) may)
first_by Gen files o g first more a by is may = inr (nothing_given files first by.0)

parts_given : (files : Files) (first more : List Read) (s : ℕ) → (s ≡ 5) ⊎ AreGiven files first → (s ≡ 5) ⊎ AreGiven files more → (s ≡ 5) ⊎ AreGiven files (first ++ more)
parts_given files first more s (inl five) later = inl five
parts_given files first more s (inr are) (inl five) = inl five
parts_given files first more s (inr are) (inr also) = inr (given_both files first more are also)

run_given : (files : Files) (o : Options) (made : List Read) (a : Answer) → MayBeGiven files made → IsRightRun o made a → (status_of a ≡ 5) ⊎ AreGiven files made
run_given files o made a may is =
    let here : MayBeGiven files (is.first ++ is.more) = subst (λ (rs : List Read). MayBeGiven files rs) is.reads_are may in
    subst (λ (rs : List Read). (status_of a ≡ 5) ⊎ AreGiven files rs) (sym is.reads_are)
    (parts_given files is.first is.more (status_of a)
    (first_by o.command files o is.files is.first is.more a is.by_reads is.right (may_first files is.first is.more here))
    (to_given files o is.right.front is.more a is.right.right (may_more files is.first is.more here)))

pub given_or_five : (files : Files) (asked : Option Options) (made : List Read) (a : Answer) → MayBeGiven files made → IsRight asked made a → (status_of a ≡ 5) ⊎ AreGiven files made
given_or_five files None made a may is = inr (nothing_given files made is.0)
given_or_five files (Some o) made a may is = run_given files o made a may is

pub only_of : (files : Files) (asked : Option Options) (made : List Read) (a : Answer) → MayBeGiven files made → IsRight asked made a → (status_of a ≡ 5) ⊎ IsAnswer files asked a
only_of files asked made a may is =
    elim (given_or_five files asked made a may is) [
      | inl five ↦ inl five
      | inr are ↦ inr (made, are, is)
    ]
