-- What else is known of the reads that lead to an answer.
use Rattle.std.proofs.Common.{◌≡◌, ◌≢◌, ◌≤◌, ◌⊎◌, inl, inr, ℕ, Result, Ok, Err, List, [], length, refl, All}
use Rattle.std.proofs.lemmas.List.Elements.{All-nil, All-push}
use Rattle.ruby_outside.specs.Prelude.{Files}
use Rattle.ruby_outside.specs.declared.library.Got.TheVariants as got
use Rattle.slicc_ast.specs.declared.tree.item.Tree.{Tree}
use Rattle.slicc_files.specs.declared.gathered.Gathered.{Gathered}
use Rattle.slicc_files.specs.declared.gathered.Gathered.TheVariants.{Absent, TooLarge, ReadFault, NoMemory}
use Rattle.slicc_files.specs.declared.gathered.Source.{Source}
use Rattle.slicc_files.specs.declared.reading.Broken.{Broken}
use Rattle.slicc_files.specs.declared.state.Wanted.{Wanted}
use Rattle.slicc_files.specs.Prelude.{AreAllowed, AreShort, IsAllowed, IsGathered, IsGatheredFrom, source_of, finished, passed_by, one_too_many, went_on, refused, absent, too_large, too_long, failed, no_memory, no_memory_for, Read, AreGiven, MayBeGiven, file_limit, IsReadText, has_no_tokens, has_tokens, spells_a_tree, has_a_bad_token, nests_too_deep}
use Rattle.slicc_files.proofs.Told.{HasFailed, given_right}

-- reads that lead to an answer are a beginning of those that lead to any
pub begun : {folder : List ℕ} {seen : List Source} {trees : List Tree} {left : List Wanted} {reads : List Read} {g : Gathered}
    → IsGathered folder seen trees left reads g → IsGathered folder seen trees left reads NoMemory
begun finished = no_memory
begun (passed_by is leads) = passed_by is (begun leads)
begun (one_too_many unseen many at) = no_memory
begun (went_on next short read leads) = went_on next short read (begun leads)
begun (refused next short read) = no_memory_for next
begun (absent next) = no_memory_for next
begun (too_large next) = no_memory_for next
begun (too_long next long) = no_memory_for next
begun (failed next) = no_memory_for next
begun no_memory = no_memory
begun (no_memory_for next) = no_memory_for next

-- of reads that may be given, all were, or the last failed, and that is the answer
pub record IsLastFault (reads : List Read) (g : Gathered) : Type 0 where
  pub name : List ℕ
  pub answer : g ≡ ReadFault name
  pub read_failed : HasFailed reads

pub given_or_failed : {folder : List ℕ} {seen : List Source} {trees : List Tree} {left : List Wanted} {reads : List Read} {g : Gathered}
    → (files : Files) → IsGathered folder seen trees left reads g → g ≢ NoMemory → MayBeGiven files reads → IsLastFault reads g ⊎ AreGiven files reads
given_or_failed files finished some may = inr tt
given_or_failed files (passed_by is leads) some may = given_or_failed files leads some may
given_or_failed files (one_too_many unseen many at) some may = inr tt
given_or_failed files (went_on {w = w} {bytes = bytes} next short read leads) some may =
    elim (given_or_failed files leads some may.1) [
      | inl last ↦ inl (record { name = last.name; answer = last.answer; read_failed = inr last.read_failed })
      | inr are ↦ inr (given_right files w.name (got.Bytes bytes) may.0 (λ e. cc e) (λ e. cc e), are)
    ]
given_or_failed files (refused {w = w} {bytes = bytes} next short read) some may = inr (given_right files w.name (got.Bytes bytes) may.0 (λ e. cc e) (λ e. cc e), tt)
given_or_failed files (absent {w = w} next) some may = inr (given_right files w.name got.Absent may.0 (λ e. cc e) (λ e. cc e), tt)
given_or_failed files (too_large {w = w} next) some may = inr (given_right files w.name got.TooLarge may.0 (λ e. cc e) (λ e. cc e), tt)
given_or_failed files (too_long {w = w} {bytes = bytes} next long) some may = inr (given_right files w.name (got.Bytes bytes) may.0 (λ e. cc e) (λ e. cc e), tt)
given_or_failed files (failed {w = w} next) some may = inl (record { name = w.name; answer = refl; read_failed = inl refl })
given_or_failed files no_memory some may = absurd (some refl)
given_or_failed files (no_memory_for next) some may = absurd (some refl)

-- a read's fault is an answer only where a read failed
pub fault_failed : {folder : List ℕ} {seen : List Source} {trees : List Tree} {left : List Wanted} {reads : List Read} {g : Gathered}
    → (name : List ℕ) → IsGathered folder seen trees left reads g → g ≡ ReadFault name → HasFailed reads
fault_failed name finished is = absurd (cc is)
fault_failed name (passed_by seen_is leads) is = fault_failed name leads is
fault_failed name (one_too_many unseen many at) is = absurd (cc is)
fault_failed name (went_on next short read leads) is = inr (fault_failed name leads is)
fault_failed name (refused next short read) is = absurd (cc is)
fault_failed name (absent next) is = absurd (cc is)
fault_failed name (too_large next) is = absurd (cc is)
fault_failed name (too_long next long) is = absurd (cc is)
fault_failed name (failed next) is = inl refl
fault_failed name no_memory is = absurd (cc is)
fault_failed name (no_memory_for next) is = absurd (cc is)

-- the trees keep the conditions of the grammar
abbrev IsAnswerAllowed : Result Tree Broken → Type 0
IsAnswerAllowed (Ok t) = IsAllowed t
IsAnswerAllowed (Err b) = Unit {0}

allowed_answer : (file : ℕ) (bytes : List ℕ) (answer : Result Tree Broken) → IsReadText file bytes answer → IsAnswerAllowed answer
allowed_answer file bytes answer (has_no_tokens reads is) = tt
allowed_answer file bytes answer (has_tokens reads (spells_a_tree spells passed)) = spells.allowed
allowed_answer file bytes answer (has_tokens reads (has_a_bad_token bad at)) = tt
allowed_answer file bytes answer (has_tokens reads (nests_too_deep deep at)) = tt

pub all_allowed : {folder : List ℕ} {seen : List Source} {trees : List Tree} {left : List Wanted} {reads : List Read} {g : Gathered}
    → IsGathered folder seen trees left reads g → All IsAllowed trees → AreAllowed g
all_allowed finished all = all
all_allowed (passed_by is leads) all = all_allowed leads all
all_allowed (one_too_many unseen many at) all = tt
all_allowed (went_on {seen = seen} {trees = trees} {bytes = bytes} {t = t} next short read leads) all =
    all_allowed leads (All-push IsAllowed trees t all (allowed_answer (length seen) bytes (Ok t) read))
all_allowed (refused next short read) all = tt
all_allowed (absent next) all = tt
all_allowed (too_large next) all = tt
all_allowed (too_long next long) all = tt
all_allowed (failed next) all = tt
all_allowed no_memory all = tt
all_allowed (no_memory_for next) all = tt

pub gathered_allowed : (name : List ℕ) (reads : List Read) (g : Gathered) → IsGatheredFrom name reads g → AreAllowed g
gathered_allowed name reads g is = all_allowed is (All-nil IsAllowed)

-- no file that is taken in is too long
abbrev IsShort : Source → Type 0
IsShort s = length s.bytes ≤ file_limit

pub all_short : {folder : List ℕ} {seen : List Source} {trees : List Tree} {left : List Wanted} {reads : List Read} {g : Gathered}
    → IsGathered folder seen trees left reads g → All IsShort seen → AreShort g
all_short finished all = all
all_short (passed_by is leads) all = all_short leads all
all_short (one_too_many unseen many at) all = tt
all_short (went_on {seen = seen} {w = w} {bytes = bytes} next short read leads) all =
    all_short leads (All-push IsShort seen (source_of w bytes) all short)
all_short (refused next short read) all = tt
all_short (absent next) all = tt
all_short (too_large next) all = tt
all_short (too_long next long) all = tt
all_short (failed next) all = tt
all_short no_memory all = tt
all_short (no_memory_for next) all = tt
