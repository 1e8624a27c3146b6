-- The theorem about a call of the program, from what the call does.
use Rattle.std.proofs.Common.{◌≡◌, ◌≢◌, ◌<◌, ◌⊎◌, inl, inr, ℕ, Bool, true, false, Option, None, Some, List, [], ◌∷◌, if◌then◌else◌, refl, sym, ◌∙◌, ap, subst, arith, IfSome, IsSome, IsSomeAnd}
use Rattle.ruby_outside.specs.Prelude.{Rose, Files, IsLawfulRead, IsLawfulWrite, IsWritten}
use Rattle.ruby_outside.specs.declared.library.Got.{Got}
use Rattle.ruby_outside.specs.declared.sink.Wrote.{Wrote}
use Rattle.slicc_ast.specs.declared.tree.item.Tree.{Tree}
use Rattle.slicc_files.specs.Prelude.{Read, AreGiven, MayBeGiven}
use Rattle.slicc_files.proofs.Told.{HasFailed, all_read, failed_rose}
use Rattle.trace_print.proofs.Written.{lines_written}
use Rattle.ruby_options.specs.declared.options.Options.{Options}
use Rattle.ruby_options.specs.Prelude.{IsWithin}
use Rattle.ruby_topology.specs.declared.topology.Topology.{Topology}
use Rattle.protocol_meaning.specs.declared.record.RunRecord.{RunRecord}
use Rattle.ruby_answers.specs.declared.done.Answer.{Answer}
use Rattle.ruby_answers.specs.declared.done.Answer.TheVariants.{Usage, ReadFault}
use Rattle.ruby_answers.specs.declared.done.Done.{Done}
use Rattle.ruby_answers.specs.Prelude.{status_of, kept_of, done_of, out_of_memory, verdict_status, lines_of, text_of, IsAnswered, IsAsAsked, IsCaused, IsComplete, IsInvalidExactly, IsMade, IsMessageAccount, IsOnlyAnswer, IsOneOf, IsTallied, IsTheorem, IsToMakeRun, IsVerdictStatus, IsWokenOnce, makes_run, statuses_of, IsWholeRun, IsAnswer, IsRight, IsRunOver}
use Rattle.ruby_answers.proofs.Causes.{five_failed, low_kept, never_one, never_seven, none_usage, only_of, given_or_five, same_status, same_told, status_kept, two_asked, zero_makes_none}
use Rattle.ruby_answers.proofs.OverFiles.{same_over}
use Rattle.ruby_answers.proofs.RightRuns.{AreLawful, IsRunAsked, lawful_run, over_files, run_asked, run_makes, run_there_over}
use Rattle.ruby_answers.proofs.WholeRuns.{AreOne, IsLawfulRun, accounted_whole, invalid_whole, one_whole, tallied_whole, woken_whole}

-- what holds of the run of an answer holds of the record that is kept
of_kept : (P : RunRecord → Type 0) (k : Option RunRecord) → ((r : RunRecord) → k ≡ Some r → P r) → IfSome k P
of_kept P None follows = tt
of_kept P (Some r) follows = follows r refl

-- what was asked for makes a run where a run is right
to_make : (asked : Option Options) (made : List Read) (r : RunRecord) → IsRunAsked asked made r → IsToMakeRun true asked
to_make asked made r of =
    subst (λ (x : Option Options). IsToMakeRun true x) (sym of.asked_is) (run_makes of.options.command of.options of.trees of.more r.topology of.run.to_run)

none_made : (asked : Option Options) (made : List Read) (a : Answer) → IsRight asked made a → kept_of a ≡ None → status_of a ≡ 0 → IsToMakeRun false asked
none_made None made a is none zero =
    let no : 2 ≡ 0 = sym (ap status_of is.1) ∙ zero in
    absurd (omega (arith, no))
none_made (Some o) made a is none zero = zero_makes_none o made a is none zero

verdict_of : (asked : Option Options) (made : List Read) (a : Answer) (whole : Bool) (k : Option RunRecord) → kept_of a ≡ k → IsRight asked made a
    → IsVerdictStatus asked k (if whole then status_of a else 7)
verdict_of asked made a true (Some r) kept is = (to_make asked made r (run_asked asked made a r is kept), inl (status_kept a r kept))
verdict_of asked made a false (Some r) kept is = (to_make asked made r (run_asked asked made a r is kept), inr refl)
verdict_of asked made a true None kept is = (λ zero. none_made asked made a is kept zero, λ one. never_one a kept one)
verdict_of asked made a false None kept is = (λ zero. absurd (omega (arith, zero)), λ one. absurd (omega (arith, one)))

five_low : (s : ℕ) → IsOneOf (0 ∷ 1 ∷ []) s → s ≡ 5 → ⊥
five_low s (inl zero) five = absurd (omega (arith, zero, five))
five_low s (inr (inl one)) five = absurd (omega (arith, one, five))
five_low s (inr (inr none)) five = none

-- a fault or a status of each answer over the files
always_of : (told : Files) (asked : Option Options) (made : List Read) (a : Answer) → MayBeGiven told made → IsRight asked made a
    → IsOneOf (5 ∷ 7 ∷ 8 ∷ []) (status_of a) ⊎ ((b : Answer) → IsAnswer told asked b → IsOneOf (statuses_of b) (status_of a))
always_of told asked made a may is =
    elim (only_of told asked made a may is) [
      | inl five ↦ inl (inl five)
      | inr over ↦ inr (λ b also. same_status b a (same_over told asked b a also over))
    ]

-- what was made of the files
module _ (told : Files) (asked : Option Options) (write_rose : Type 0) (made : List Read) (a : Answer) (is : IsRight asked made a) (are : AreGiven told made) where
  there : (trees : List Tree) (t : Topology) → IsRunOver told asked trees t → (r : RunRecord) × (kept_of a ≡ Some r)
  there trees t run = run_there_over told asked made a trees t are is run

  some_kept : (trees : List Tree) (t : Topology) → IsRunOver told asked trees t → IsSome (kept_of a)
  some_kept trees t run =
      let kept = there trees t run in
      subst (λ (k : Option RunRecord). IsSome k) (sym kept.1) refl

  low_there : (trees : List Tree) (t : Topology) → IsRunOver told asked trees t → IsOneOf (0 ∷ 1 ∷ []) (status_of a)
  low_there trees t run =
      let kept = there trees t run in
      low_kept a kept.0 kept.1

  told_there : (b : Answer) → IsAnswer told asked b → kept_of b ≡ None → status_of a ≡ status_of b
  told_there b also none = ap status_of (sym (same_told b a (same_over told asked b a also (made, are, is)) none))

  made_whole : (whole : Bool) → (whole ≡ false → write_rose) → IsMade told asked write_rose (done_of a whole)
  made_whole true cause =
      record {
        keeps_run = some_kept;
        runs = λ trees t run well. low_there trees t run;
        answers = λ b also none well. told_there b also none;
      }
  made_whole false cause =
      record {
        keeps_run = some_kept;
        runs = λ trees t run well. absurd (well (cause refl));
        answers = λ b also none well. absurd (well (cause refl));
      }

made_over : (told : Files) (asked : Option Options) (write_rose : Type 0) (made : List Read) (a : Answer) (whole : Bool) → (whole ≡ false → write_rose) → MayBeGiven told made
    → (HasFailed made → ⊥) → IsRight asked made a → IsMade told asked write_rose (done_of a whole)
made_over told asked write_rose made a whole cause may well is =
    elim (given_or_five told asked made a may is) [
      | inl five ↦ absurd (well (five_failed asked made a is five))
      | inr are ↦ made_whole told asked write_rose made a is are whole cause
    ]

-- the clauses of a call that had no memory
module _ (files : Option Files) (asked : Option Options) (read_rose write_rose : Type 0) (before after : Option (List ℕ)) where
  untold_causes : IsCaused files asked read_rose write_rose out_of_memory
  untold_causes =
      record {
        verdict = (λ is. absurd (omega (arith, is)), λ is. absurd (omega (arith, is)));
        usage = λ is. absurd (omega (arith, is));
        no_usage = λ none. (refl, inr (inr (inl refl)));
        only = λ told tells. inl (inr (inr (inl refl)));
        always = λ told tells. inl (inr (inr (inl refl)));
        read_fault = λ is. absurd (omega (arith, is));
        write_fault = λ is. absurd (omega (arith, is));
      }

  untold_theorem : after ≡ before → IsTheorem files asked read_rose write_rose before after out_of_memory
  untold_theorem same =
      record {
        record_is_a_run = tt;
        as_asked = tt;
        as_written = inl (refl, same);
        woken_once = tt;
        accounted = tt;
        invalid_exactly = tt;
        tallied = tt;
        one_answer = tt;
        causes = untold_causes;
        complete = record { made = λ told tells still. inl refl };
      }

-- the clauses of a call that has answered
module _ (laws : AreLawful) (ones : AreOne) (files : Option Files) (asked : Option Options) (within : IfSome asked IsWithin) (read_rose write_rose : Type 0) (before after : Option (List ℕ)) (write_faults write_faults' : ℕ) (made : List Read) (a : Answer) (right : IsRight asked made a)
    (allow : (told : Files) → files ≡ Some told → MayBeGiven told made)
    (failed : HasFailed made → read_rose) where
  -- what follows of a lawful whole run
  by_run : (P : RunRecord → Type 0) → ((r : RunRecord) → IsLawfulRun r → IsWholeRun r → P r) → IfSome (kept_of a) P
  by_run P follows =
      of_kept P (kept_of a)
      (λ r kept.
      let of = run_asked asked made a r right kept in
      follows r (lawful_run laws asked made r within of) of.run.whole)

  -- where files are known and a run is right, no read failed
  run_over : (told : Files) → files ≡ Some told → (r : RunRecord) → kept_of a ≡ Some r → IsRunAsked asked made r → IsRunOver told asked r.plan r.topology
  run_over told tells r kept of =
      elim (given_or_five told asked made a (allow told tells) right) [
        | inl five ↦ absurd (five_low (status_of a) (low_kept a r kept) five)
        | inr are ↦ over_files told asked made r are of
      ]

  run_as_asked : (r : RunRecord) → kept_of a ≡ Some r → IsAsAsked files asked r
  run_as_asked r kept =
      let of = run_asked asked made a r right kept in
      record {
        options = subst (λ (x : Options). asked ≡ Some x) (sym of.run.options) of.asked_is;
        command =
            subst (λ (x : Options). makes_run x.command ≡ true) (sym of.run.options)
            (run_makes of.options.command of.options of.trees of.more r.topology of.run.to_run);
        of_files = λ told tells. run_over told tells r kept of;
      }

  status_five : status_of a ≡ 5 → read_rose
  status_five is = failed (five_failed asked made a right is)

  run_faulted : (name : List ℕ) → a ≡ ReadFault name → read_rose
  run_faulted name is = status_five (ap status_of is)

  usage_of : asked ≡ None → a ≡ Usage
  usage_of none = none_usage made a (subst (λ (x : Option Options). IsRight x made a) none right)

  only_told : (told : Files) → files ≡ Some told → IsOneOf (5 ∷ 7 ∷ 8 ∷ []) (status_of a) ⊎ ((b : Answer) × IsAnswer told asked b × (status_of a ≡ status_of b))
  only_told told tells = elim (only_of told asked made a (allow told tells) right) [ inl five ↦ inl (inl five) | inr is ↦ inr (a, is, refl) ]

  causes_of : (whole : Bool) → IsWritten before write_faults (text_of a) whole after write_faults' → (Rose write_faults write_faults' → write_rose) → IsCaused files asked read_rose write_rose (done_of a whole)
  causes_of true is rose =
      record {
        verdict = verdict_of asked made a true (kept_of a) refl right;
        usage = λ two. two_asked asked made a right two;
        no_usage = λ none. (ap kept_of (usage_of none), inl (ap status_of (usage_of none)));
        only = only_told;
        always = λ told tells. always_of told asked made a (allow told tells) right;
        read_fault = status_five;
        write_fault = λ seven. absurd (never_seven a seven);
      }
  causes_of false is rose =
      record {
        verdict = verdict_of asked made a false (kept_of a) refl right;
        usage = λ two. absurd (omega (arith, two));
        no_usage = λ none. (ap kept_of (usage_of none), inr (inl refl));
        only = λ told tells. inl (inr (inl refl));
        always = λ told tells. inl (inr (inl refl));
        read_fault = λ five. absurd (omega (arith, five));
        write_fault = λ seven. rose is.cause;
      }

  complete_of : (whole : Bool) → IsWritten before write_faults (text_of a) whole after write_faults' → (Rose write_faults write_faults' → write_rose) → IsComplete files asked read_rose write_rose (done_of a whole)
  complete_of true is rose =
      record {
        made = λ told tells still. inr (made_over told asked write_rose made a true (λ no. absurd (cc no)) (allow told tells) (λ fault. still (failed fault)) right);
      }
  complete_of false is rose =
      record {
        made = λ told tells still. inr (made_over told asked write_rose made a false (λ no. rose is.cause) (allow told tells) (λ fault. still (failed fault)) right);
      }

  told_theorem : (whole : Bool) → IsWritten before write_faults (text_of a) whole after write_faults' → (Rose write_faults write_faults' → write_rose) → IsTheorem files asked read_rose write_rose before after (done_of a whole)
  told_theorem whole is rose =
      record {
        record_is_a_run = by_run IsWholeRun (λ r lawful run. run);
        as_asked = of_kept (IsAsAsked files asked) (kept_of a) run_as_asked;
        as_written = inr (record { answer = a; whole = whole; done_is = refl; text = is.whole; beginning = is.cut_off; reads = made; right = right; given = allow; faulted = run_faulted });
        woken_once = by_run IsWokenOnce woken_whole;
        accounted = by_run IsMessageAccount accounted_whole;
        invalid_exactly = by_run IsInvalidExactly invalid_whole;
        tallied = by_run IsTallied tallied_whole;
        one_answer = by_run IsOnlyAnswer (λ r lawful run. one_whole r lawful run ones);
        causes = causes_of whole is rose;
        complete = complete_of whole is rose;
      }

-- over a library and a sink whose reads and writes are lawful
module _ {L S : Type 0} (files : L → Option Files) (faults : L → ℕ) (reads : L → List ℕ → ℕ → Got → L → Type 0) (lawful : (before : L) (name : List ℕ) (limit : ℕ) (g : Got) (after : L) → reads before name limit g after → IsLawfulRead (files before) (faults before) name limit g (files after) (faults after))
    (written : S → Option (List ℕ)) (write_faults : S → ℕ) (writes : S → List ℕ → Wrote → S → Type 0) (writes_lawfully : (before : S) (piece : List ℕ) (wrote : Wrote) (after : S) → writes before piece wrote after → IsLawfulWrite (written before) (write_faults before) piece wrote (written after) (write_faults after))
    (laws : AreLawful) (ones : AreOne) where
  pub theorem_holds : (asked : Option Options) (library library' : L) (sink sink' : S) (done : Done) → IfSome asked IsWithin → IsAnswered reads writes asked library library' sink sink' done
      → IsTheorem (files library) asked (Rose (faults library) (faults library')) (Rose (write_faults sink) (write_faults sink')) (written sink) (written sink') done
  theorem_holds asked library library' sink sink' done within answered =
      let P : Done → Type 0 = λ d. IsTheorem (files library) asked (Rose (faults library) (faults library')) (Rose (write_faults sink) (write_faults sink')) (written sink) (written sink') d in
      elim answered.ended [
        | inl untold ↦ subst P (sym untold.done_is) (untold_theorem (files library) asked (Rose (faults library) (faults library')) (Rose (write_faults sink) (write_faults sink')) (written sink) (written sink') (ap written untold.untouched))
        | inr told ↦ subst P (sym told.done_is)
            (told_theorem laws ones (files library) asked within (Rose (faults library) (faults library')) (Rose (write_faults sink) (write_faults sink')) (written sink) (written sink') (write_faults sink) (write_faults sink') answered.made told.answer told.right
            (λ files_told tells. all_read files faults reads lawful files_told answered.made library library' answered.are_made tells)
            (failed_rose files faults reads lawful answered.made library library' answered.are_made)
            told.whole (lines_written written write_faults writes writes_lawfully sink (lines_of told.answer) told.whole sink' told.text) (λ rose. rose))
      ]
