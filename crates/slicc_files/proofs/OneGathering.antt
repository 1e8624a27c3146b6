-- Where reads of one name give the same, they lead to one answer.
use Rattle.std.proofs.Common.{◌≡◌, ◌≢◌, ◌<◌, ◌≤◌, ◌++◌, ◌⊎◌, inl, inr, ℕ, true, false, Some, Result, Ok, Err, List, [], ◌∷◌, length, refl, sym, subst, ap, ◌∙◌, arith, codes}
use Rattle.std.proofs.lemmas.Bool.{false≢true}
use Rattle.std.proofs.lemmas.Option.{same_Some}
use Rattle.std.specs.List.{slice_get}
use Rattle.ruby_outside.specs.Prelude.{Files as LibraryFiles}
use Rattle.ruby_outside.specs.declared.library.Got.{Got}
use Rattle.ruby_outside.specs.declared.library.Got.TheVariants as got
use Rattle.slicc_ast.specs.declared.tree.item.Tree.{Tree}
use Rattle.slicc_files.specs.declared.gathered.Gathered.{Gathered}
use Rattle.slicc_files.specs.declared.gathered.Gathered.TheVariants.{Files, Refused, Absent, TooLarge, ReadFault, NoMemory}
use Rattle.slicc_files.specs.declared.gathered.Source.{Source}
use Rattle.slicc_files.specs.declared.reading.Broken.{Broken}
use Rattle.slicc_files.specs.declared.state.Wanted.{Wanted}
use Rattle.slicc_files.specs.Prelude.{IsGathered, IsGatheredFrom, IsGatheredOver, IsNext, is_seen, most_files, read_of, refusal, source_of, wanted_of, finished, passed_by, one_too_many, went_on, refused, absent, too_large, too_long, failed, no_memory, no_memory_for, Read, AreGiven, file_limit, given, IsReadText, code_of}
use Rattle.slicc_files.proofs.OneText.{one_text}

-- reads agree: one by one, as long as the names are the same, they gave the same
abbrev pub DoAgree : List Read → List Read → Type 0
DoAgree [] qs = Unit {0}
DoAgree (r ∷ rs) [] = Unit {0}
DoAgree (r ∷ rs) (q ∷ qs) = r.name ≡ q.name → (r.got ≡ q.got) × DoAgree rs qs

pub agree_self : (rs : List Read) → DoAgree rs rs
agree_self [] = tt
agree_self (r ∷ rs) = λ same. (refl, agree_self rs)

pub agree_given : (files : LibraryFiles) (rs qs : List Read) → AreGiven files rs → AreGiven files qs → DoAgree rs qs
agree_given files [] qs is also = tt
agree_given files (r ∷ rs) [] is also = tt
agree_given files (r ∷ rs) (q ∷ qs) is also = λ same. (is.0 ∙ ap (given files) same ∙ sym also.0, agree_given files rs qs is.1 also.1)

-- what the text of the wanted file leads to
abbrev TextLeads : List ℕ → List Source → List Tree → Wanted → List Wanted → List ℕ → List Read → Gathered → Result Tree Broken → Type 0
TextLeads folder seen trees w left bytes more g (Ok t) =
    IsGathered folder (seen ++ source_of w bytes ∷ []) (trees ++ t ∷ []) (wanted_of folder (length seen) t ++ left) more g
TextLeads folder seen trees w left bytes more g (Err b) = g ≡ Refused (refusal (source_of w bytes) b.offset (code_of b.rule))

record IsReadOn (folder : List ℕ) (seen : List Source) (trees : List Tree) (w : Wanted) (left : List Wanted) (bytes : List ℕ) (more : List Read) (g : Gathered) : Type 0 where
  short : length bytes ≤ file_limit
  answer : Result Tree Broken
  read : IsReadText (length seen) bytes answer
  leads : TextLeads folder seen trees w left bytes more g answer

-- what a read of it leads to
abbrev ReadLeads : List ℕ → List Source → List Tree → Wanted → List Wanted → Got → List Read → Gathered → Type 0
ReadLeads folder seen trees w left (got.Bytes bytes) more g =
    IsReadOn folder seen trees w left bytes more g ⊎ ((file_limit < length bytes) × (g ≡ TooLarge w.name))
ReadLeads folder seen trees w left got.Absent more g = g ≡ Absent w.name
ReadLeads folder seen trees w left got.TooLarge more g = g ≡ TooLarge w.name
ReadLeads folder seen trees w left got.Failed more g = g ≡ ReadFault w.name
ReadLeads folder seen trees w left got.NoMemory more g = ⊥

-- what becomes of a wanted file
record IsPassed (folder : List ℕ) (seen : List Source) (trees : List Tree) (w : Wanted) (left : List Wanted) (reads : List Read) (g : Gathered) : Type 0 where
  seen_is : is_seen w.name seen ≡ true
  leads : IsGathered folder seen trees left reads g

record IsBeyond (seen : List Source) (w : Wanted) (g : Gathered) : Type 0 where
  unseen : is_seen w.name seen ≡ false
  many : most_files ≤ length seen
  source : Source
  at : slice_get seen w.file ≡ Some source
  refused_is : g ≡ Refused (refusal source w.offset (codes "R3"))

record IsReadNext (folder : List ℕ) (seen : List Source) (trees : List Tree) (w : Wanted) (left : List Wanted) (reads : List Read) (g : Gathered) : Type 0 where
  next : IsNext seen w
  gave : Got
  more : List Read
  reads_are : reads ≡ read_of w gave ∷ more
  leads : ReadLeads folder seen trees w left gave more g

abbrev Fate : List ℕ → List Source → List Tree → Wanted → List Wanted → List Read → Gathered → Type 0
Fate folder seen trees w left reads g = IsPassed folder seen trees w left reads g ⊎ (IsBeyond seen w g ⊎ IsReadNext folder seen trees w left reads g)

fate : {folder : List ℕ} {seen : List Source} {trees : List Tree} {w : Wanted} {left : List Wanted} {reads : List Read} {g : Gathered}
    → IsGathered folder seen trees (w ∷ left) reads g → g ≢ NoMemory → Fate folder seen trees w left reads g
fate (passed_by is leads) some = inl (record { seen_is = is; leads = leads })
fate (one_too_many {s = s} unseen many at) some = inr (inl (record { unseen = unseen; many = many; source = s; at = at; refused_is = refl }))
fate (went_on {bytes = bytes} {t = t} {reads = more} next short read leads) some =
    inr (inr (record { next = next; gave = got.Bytes bytes; more = more; reads_are = refl; leads = inl (record { short = short; answer = Ok t; read = read; leads = leads }) }))
fate (refused {bytes = bytes} {b = b} next short read) some =
    inr (inr (record { next = next; gave = got.Bytes bytes; more = []; reads_are = refl; leads = inl (record { short = short; answer = Err b; read = read; leads = refl }) }))
fate (absent next) some = inr (inr (record { next = next; gave = got.Absent; more = []; reads_are = refl; leads = refl }))
fate (too_large next) some = inr (inr (record { next = next; gave = got.TooLarge; more = []; reads_are = refl; leads = refl }))
fate (too_long {bytes = bytes} next long) some = inr (inr (record { next = next; gave = got.Bytes bytes; more = []; reads_are = refl; leads = inr (long, refl) }))
fate (failed next) some = inr (inr (record { next = next; gave = got.Failed; more = []; reads_are = refl; leads = refl }))
fate no_memory some = absurd (some refl)
fate (no_memory_for next) some = absurd (some refl)

only_passed : {folder : List ℕ} {seen : List Source} {trees : List Tree} {w : Wanted} {left : List Wanted} {reads : List Read} {g : Gathered}
    → is_seen w.name seen ≡ true → Fate folder seen trees w left reads g → IsGathered folder seen trees left reads g
only_passed is (inl passed) = passed.leads
only_passed is (inr (inl beyond)) = absurd (false≢true (sym beyond.unseen ∙ is))
only_passed is (inr (inr read)) = absurd (false≢true (sym read.next.0 ∙ is))

only_beyond : {folder : List ℕ} {seen : List Source} {trees : List Tree} {w : Wanted} {left : List Wanted} {reads : List Read} {g : Gathered}
    → is_seen w.name seen ≡ false → most_files ≤ length seen → Fate folder seen trees w left reads g → IsBeyond seen w g
only_beyond unseen many (inl passed) = absurd (false≢true (sym unseen ∙ passed.seen_is))
only_beyond unseen many (inr (inl beyond)) = beyond
only_beyond unseen many (inr (inr read)) = absurd (omega (arith, many, read.next.1))

only_read : {folder : List ℕ} {seen : List Source} {trees : List Tree} {w : Wanted} {left : List Wanted} {reads : List Read} {g : Gathered}
    → IsNext seen w → Fate folder seen trees w left reads g → IsReadNext folder seen trees w left reads g
only_read next (inl passed) = absurd (false≢true (sym next.0 ∙ passed.seen_is))
only_read next (inr (inl beyond)) = absurd (omega (arith, beyond.many, next.1))
only_read next (inr (inr read)) = read

-- and so does what a read gave, if it gave the same before
record IsSameRead (folder : List ℕ) (seen : List Source) (trees : List Tree) (w : Wanted) (left : List Wanted) (gave : Got) (reads : List Read) (g : Gathered) : Type 0 where
  more : List Read
  leads : ReadLeads folder seen trees w left gave more g
  agree : DoAgree reads more

same_read : {folder : List ℕ} {seen : List Source} {trees : List Tree} {w : Wanted} {left : List Wanted} {others : List Read} {g : Gathered}
    → (gave : Got) (reads : List Read) → IsReadNext folder seen trees w left others g → DoAgree (read_of w gave ∷ reads) others → IsSameRead folder seen trees w left gave reads g
same_read {folder = folder} {seen = seen} {trees = trees} {w = w} {left = left} {g = g} gave reads r agree =
    let P : List Read → Type 0 = λ qs. DoAgree (read_of w gave ∷ reads) qs in
    let agreed = subst P r.reads_are agree refl in
    record { more = r.more; leads = subst (λ x. ReadLeads folder seen trees w left x r.more g) (sym agreed.0) r.leads; agree = agreed.1 }

at_end : {folder : List ℕ} {seen : List Source} {trees : List Tree} {reads : List Read} {g : Gathered} → IsGathered folder seen trees [] reads g → g ≢ NoMemory → g ≡ Files seen trees
at_end finished some = refl
at_end no_memory some = absurd (some refl)

-- a second way from a file that is there: the same text, or more bytes than there may be
module _ (folder : List ℕ) (seen : List Source) (trees : List Tree) (w : Wanted) (left : List Wanted) (bytes : List ℕ) (more : List Read) (h : Gathered) where
  again : (answer : Result Tree Broken) → length bytes ≤ file_limit → IsReadText (length seen) bytes answer → ReadLeads folder seen trees w left (got.Bytes bytes) more h
      → TextLeads folder seen trees w left bytes more h answer
  again answer short read (inl on) =
      subst (TextLeads folder seen trees w left bytes more h) (one_text (length seen) bytes on.answer answer on.read read) on.leads
  again answer short read (inr (long, is)) = absurd (omega (arith, short, long))

  again_long : file_limit < length bytes → ReadLeads folder seen trees w left (got.Bytes bytes) more h → TooLarge w.name ≡ h
  again_long long (inl on) = absurd (omega (arith, on.short, long))
  again_long long (inr (also, is)) = sym is

pub one_gathering : {folder : List ℕ} {seen : List Source} {trees : List Tree} {left : List Wanted} {reads : List Read} {g : Gathered}
    → IsGathered folder seen trees left reads g → (reads' : List Read) (h : Gathered)
    → IsGathered folder seen trees left reads' h → DoAgree reads reads' → g ≢ NoMemory → h ≢ NoMemory → g ≡ h
one_gathering finished reads' h also agree some any = sym (at_end also any)
one_gathering (passed_by is leads) reads' h also agree some any =
    one_gathering leads reads' h (only_passed is (fate also any)) agree some any
one_gathering (one_too_many {seen = seen} {w = w} {s = s} unseen many at) reads' h also agree some any =
    let beyond = only_beyond unseen many (fate also any) in
    let same : s ≡ beyond.source = same_Some s beyond.source (sym at ∙ beyond.at) in
    ap (λ (x : Source). Refused (refusal x w.offset (codes "R3"))) same ∙ sym beyond.refused_is
one_gathering {folder = folder} (went_on {seen = seen} {trees = trees} {w = w} {left = left} {bytes = bytes} {t = t} {reads = more} next short read leads) reads' h also agree some any =
    let second = same_read (got.Bytes bytes) more (only_read next (fate also any)) agree in
    one_gathering leads second.more h (again folder seen trees w left bytes second.more h (Ok t) short read second.leads) second.agree some any
one_gathering {folder = folder} (refused {seen = seen} {trees = trees} {w = w} {left = left} {bytes = bytes} {b = b} next short read) reads' h also agree some any =
    let second = same_read (got.Bytes bytes) [] (only_read next (fate also any)) agree in
    sym (again folder seen trees w left bytes second.more h (Err b) short read second.leads)
one_gathering (absent {w = w} next) reads' h also agree some any =
    sym (same_read got.Absent [] (only_read next (fate also any)) agree).leads
one_gathering (too_large {w = w} next) reads' h also agree some any =
    sym (same_read got.TooLarge [] (only_read next (fate also any)) agree).leads
one_gathering {folder = folder} (too_long {seen = seen} {trees = trees} {w = w} {left = left} {bytes = bytes} next long) reads' h also agree some any =
    let second = same_read (got.Bytes bytes) [] (only_read next (fate also any)) agree in
    again_long folder seen trees w left bytes second.more h long second.leads
one_gathering (failed {w = w} next) reads' h also agree some any =
    sym (same_read got.Failed [] (only_read next (fate also any)) agree).leads
one_gathering no_memory reads' h also agree some any = absurd (some refl)
one_gathering (no_memory_for next) reads' h also agree some any = absurd (some refl)

pub one_by_reads : (name : List ℕ) (reads : List Read) (g h : Gathered) → IsGatheredFrom name reads g → IsGatheredFrom name reads h → g ≢ NoMemory → h ≢ NoMemory → g ≡ h
one_by_reads name reads g h is also some any = one_gathering is reads h also (agree_self reads) some any

pub one_over_files : (files : LibraryFiles) (name : List ℕ) (g h : Gathered) → IsGatheredOver files name g → IsGatheredOver files name h → g ≢ NoMemory → h ≢ NoMemory → g ≡ h
one_over_files files name g h (reads, given_are, is) (others, also_given, also) some any =
    one_gathering is others h also (agree_given files reads others given_are also_given) some any
