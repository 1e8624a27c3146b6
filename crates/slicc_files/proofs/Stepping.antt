-- One step of gathering and what is left to do after it.
use Rattle.std.proofs.Common.{◌≡◌, ◌<◌, ◌≤◌, ◌+◌, ◌++◌, inl, inr, ℕ, true, false, Option, None, Some, List, [], ◌∷◌, length, reverse, refl, sym, subst, ap, ◌∙◌, arith, length-append, append_assoc, All, IsUtf8, IfNone, IsSomeAnd, MatchOption, codes}
use Rattle.std.proofs.lemmas.List.{append-nil, length-reverse, reverse-append, reverse-reverse}
use Rattle.std.proofs.lemmas.List.Elements.{All-append, All-nil, All-head, All-push, All-tail, All-weaker}
use Rattle.std.specs.List.{slice_get}
use Rattle.ruby_outside.specs.declared.library.Got.{Got}
use Rattle.ruby_outside.specs.declared.library.Got.TheVariants as got
use Rattle.slicc_ast.specs.declared.tree.item.Tree.{Tree}
use Rattle.slicc_files.specs.declared.gathered.Gathered.{Gathered}
use Rattle.slicc_files.specs.declared.gathered.Gathered.TheVariants.{Files}
use Rattle.slicc_files.specs.declared.gathered.Source.{Source}
use Rattle.slicc_files.specs.declared.state.State.{State}
use Rattle.slicc_files.specs.declared.state.Wanted.{Wanted}
use Rattle.slicc_files.specs.Prelude.{IsGathered, IsNext, is_seen, most_files, read_of, source_of, wanted_of, finished, went_on, refused, passed_by, one_too_many, no_memory, no_memory_for, Read, AreMade, file_limit, AreSound, EndsBy, GoesOnBy, IsRefusalOf, IsRefusedFor, IsShort, IsSound, IsTakenIn, Leads, in_order, steps_left}
use Rattle.slicc_files.proofs.TreeTexts.{few_wanted, sound_wanted}

-- what is wanted after a file was taken in
in_order_of : (folder : List ℕ) (s later : State) (source : Source) (is : IsTakenIn folder s source later) → in_order later ≡ wanted_of folder (length s.sources) is.tree ++ in_order s
in_order_of folder s later source is =
    let more = wanted_of folder (length s.sources) is.tree in
    ap reverse is.left ∙ reverse-append s.left.items (reverse more) ∙ ap (λ ws. ws ++ in_order s) (reverse-reverse more)

leads_on : (folder : List ℕ) (s later : State) (w : Wanted) (bytes : List ℕ) (left : List Wanted) → IsNext s.sources w → length bytes ≤ file_limit
    → left ≡ in_order s → IsTakenIn folder s (source_of w bytes) later
    → (more : List Read) (g : Gathered) → Leads folder later (in_order later) more g → Leads folder s (w ∷ left) (read_of w (got.Bytes bytes) ∷ more) g
leads_on folder s later w bytes left next short same is more g leads =
    let wanted = wanted_of folder (length s.sources) is.tree in
    let P : List Wanted → Type 0 = λ ws. IsGathered folder later.sources later.trees ws more g in
    let Q : List Source → Type 0 = λ seen. IsGathered folder seen later.trees (wanted ++ left) more g in
    let R : List Tree → Type 0 = λ trees. IsGathered folder (s.sources ++ source_of w bytes ∷ []) trees (wanted ++ left) more g in
    let first : P (wanted ++ left) = subst P (in_order_of folder s later (source_of w bytes) is ∙ ap (λ ws. wanted ++ ws) (sym same)) leads in
    let second : Q (s.sources ++ source_of w bytes ∷ []) = subst Q is.sources first in
    went_on next short is.read (subst R is.trees second)

module _ {L : Type 0} (reads : L → List ℕ → ℕ → Got → L → Type 0) (folder : List ℕ) (s later : State) (w : Wanted) (before after : L) where
  -- a file was read, and then taken in or refused
  read_bytes : (bytes : List ℕ) (answer : Option Gathered) → IsNext s.sources w → length bytes ≤ file_limit → reads before w.name file_limit (got.Bytes bytes) after
      → MatchOption answer (IsTakenIn folder s (source_of w bytes) later) (IsRefusedFor (length s.sources) (source_of w bytes))
      → GoesOnBy reads folder s (w ∷ in_order s) later before after answer
  read_bytes bytes None next short read is =
      (read_of w (got.Bytes bytes) ∷ [], (after, read, refl), leads_on folder s later w bytes (in_order s) next short refl is)
  read_bytes bytes (Some g) next short read (inl lack) =
      (read_of w (got.Bytes bytes) ∷ [], (after, read, refl), subst (λ a. Leads folder s (w ∷ in_order s) (read_of w (got.Bytes bytes) ∷ []) a) (sym lack) (no_memory_for next))
  read_bytes bytes (Some g) next short read (inr (b, is, same)) =
      (read_of w (got.Bytes bytes) ∷ [], (after, read, refl), subst (λ a. Leads folder s (w ∷ in_order s) (read_of w (got.Bytes bytes) ∷ []) a) (sym same) (refused next short is))

  pub read_some : (bytes : List ℕ) (answer : Option Gathered) (name : List ℕ) → IsNext s.sources w → length bytes ≤ file_limit → name ≡ w.name → reads before name file_limit (got.Bytes bytes) after
      → MatchOption answer (IsTakenIn folder s (source_of w bytes) later) (IsRefusedFor (length s.sources) (source_of w bytes))
      → GoesOnBy reads folder s (w ∷ in_order s) later before after answer
  read_some bytes answer name next short same read is =
      read_bytes bytes answer next short (subst (λ n. reads before n file_limit (got.Bytes bytes) after) same read) is

  -- a read ended with an answer
  pub read_none : (g : Got) (answer : Gathered) (name : List ℕ) → name ≡ w.name → reads before name file_limit g after
      → Leads folder s (w ∷ in_order s) (read_of w g ∷ []) answer
      → GoesOnBy reads folder s (w ∷ in_order s) later before after (Some answer)
  read_none g answer name same read leads =
      (read_of w g ∷ [], (after, subst (λ n. reads before n file_limit g after) same read, refl), leads)

-- nothing was read
pub passes_by : (folder : List ℕ) (s : State) (w : Wanted) → is_seen w.name s.sources ≡ true → (more : List Read) (g : Gathered) → Leads folder s (in_order s) more g → Leads folder s (w ∷ in_order s) more g
passes_by folder s w seen more g leads = passed_by seen leads

-- the file is one too many
pub too_many : (folder : List ℕ) (s : State) (w : Wanted) (left : List Wanted) (found : Option Source) (g : Gathered)
    → is_seen w.name s.sources ≡ false → most_files ≤ length s.sources → slice_get s.sources w.file ≡ found
    → IsSomeAnd found (λ source. IsRefusalOf source w.offset (codes "R3") g)
    → Leads folder s (w ∷ left) [] g
too_many folder s w left None g unseen many at is = absurd is
too_many folder s w left (Some source) g unseen many at (inl lack) = subst (λ a. Leads folder s (w ∷ left) [] a) (sym lack) no_memory
too_many folder s w left (Some source) g unseen many at (inr same) = subst (λ a. Leads folder s (w ∷ left) [] a) (sym same) (one_too_many unseen many at)

-- what is kept along the steps
reversed : (files : ℕ) (ws : List Wanted) → All (IsSound files) ws → All (IsSound files) (reverse ws)
reversed files [] all = All-nil (IsSound files)
reversed files (w ∷ ws) all =
    subst (All (IsSound files)) (sym (reverse-append (w ∷ []) ws))
    (All-push (IsSound files) (reverse ws) w (reversed files ws (All-tail (IsSound files) w ws all)) (All-head (IsSound files) w ws all))

sound_later : (folder : List ℕ) (s later : State) (source : Source) → IsUtf8 folder → AreSound s → IsShort source → IsTakenIn folder s source later → AreSound later
sound_later folder s later source text sound short is =
    let files = length later.sources in
    let count : files ≡ length s.sources + 1 = ap length is.sources ∙ length-append s.sources (source ∷ []) in
    let old : All (IsSound files) s.left.items =
    All-weaker (IsSound (length s.sources)) (IsSound files) (λ w one. record { name = one.name; file = omega (arith, one.file, count) }) s.left.items sound.left in
    let wanted = wanted_of folder (length s.sources) is.tree in
    let new : All (IsSound files) wanted = sound_wanted folder (length s.sources) (length s.sources) files source.bytes is.tree text (omega (arith, count)) is.read in
    record {
      left = subst (All (IsSound files)) (sym is.left) (All-append (IsSound files) s.left.items (reverse wanted) old (reversed files wanted new));
      sources = subst (All IsShort) (sym is.sources) (All-push IsShort s.sources source sound.sources short);
    }

fewer_later : (folder : List ℕ) (s later : State) (source : Source) → length s.sources < most_files → IsShort source → IsTakenIn folder s source later → steps_left later ≤ steps_left s
fewer_later folder s later source more short is =
    let count : length later.sources ≡ length s.sources + 1 = ap length is.sources ∙ length-append s.sources (source ∷ []) in
    let wanted = wanted_of folder (length s.sources) is.tree in
    let left : length later.left.items ≡ length s.left.items + length (reverse wanted) = ap length is.left ∙ length-append s.left.items (reverse wanted) in
    let few = few_wanted folder (length s.sources) (length s.sources) source.bytes is.tree is.read in
    omega (arith, count, left, few, length-reverse wanted, more, short)

pub sound_after : (folder : List ℕ) (s later : State) (source : Source) (answer : Option Gathered) → IsUtf8 folder → AreSound s → IsShort source
    → MatchOption answer (IsTakenIn folder s source later) (IsRefusedFor (length s.sources) source) → IfNone answer (AreSound later)
sound_after folder s later source None text sound short is = sound_later folder s later source text sound short is
sound_after folder s later source (Some g) text sound short is = tt

pub fewer_after : (folder : List ℕ) (s later : State) (source : Source) (answer : Option Gathered) → length s.sources < most_files → IsShort source
    → MatchOption answer (IsTakenIn folder s source later) (IsRefusedFor (length s.sources) source) → IfNone answer (steps_left later ≤ steps_left s)
fewer_after folder s later source None more short is = fewer_later folder s later source more short is
fewer_after folder s later source (Some g) more short is = tt

-- reads were made that lead from a state to a later one
abbrev pub ReachedBy : {L : Type 0} (reads : L → List ℕ → ℕ → Got → L → Type 0) → List ℕ → State → L → State → L → Type 0
ReachedBy reads folder s before later after =
    (made : List Read) × AreMade reads before made after
    × ((more : List Read) (g : Gathered) → Leads folder later (in_order later) more g → Leads folder s (in_order s) (made ++ more) g)

made_more : {L : Type 0} (reads : L → List ℕ → ℕ → Got → L → Type 0) (before middle after : L) (made more : List Read) → AreMade reads before made middle → AreMade reads middle more after → AreMade reads before (made ++ more) after
made_more reads before middle after [] more are also = subst (λ (l : _). AreMade reads l more after) are also
made_more reads before middle after (r ∷ made) more (next, read, are) also = (next, read, made_more reads next middle after made more are also)

popped_order : (mid popped : State) (w : Wanted) → mid.left.items ≡ popped.left.items ++ w ∷ [] → in_order mid ≡ w ∷ in_order popped
popped_order mid popped w is = ap reverse is ∙ reverse-append popped.left.items (w ∷ [])

module _ {L : Type 0} (reads : L → List ℕ → ℕ → Got → L → Type 0) (folder : List ℕ) (s mid popped later : State) (w : Wanted) (before middle after : L)
    (reached : ReachedBy reads folder s before mid middle)
    (left : mid.left.items ≡ popped.left.items ++ w ∷ []) (sources : popped.sources ≡ mid.sources) (trees : popped.trees ≡ mid.trees) where
  to_popped : (reads_made : List Read) (g : Gathered) → Leads folder popped (w ∷ in_order popped) reads_made g → Leads folder mid (in_order mid) reads_made g
  to_popped reads_made g leads =
      let P : List Source → Type 0 = λ seen. IsGathered folder seen popped.trees (w ∷ in_order popped) reads_made g in
      let Q : List Tree → Type 0 = λ ts. IsGathered folder mid.sources ts (w ∷ in_order popped) reads_made g in
      let R : List Wanted → Type 0 = λ ws. IsGathered folder mid.sources mid.trees ws reads_made g in
      subst R (sym (popped_order mid popped w left)) (subst Q trees (subst P sources leads))

  pub reach_more : GoesOnBy reads folder popped (w ∷ in_order popped) later middle after None → ReachedBy reads folder s before later after
  reach_more (more, are, on) = (
    reached.0 ++ more,
    made_more reads before middle after reached.0 more reached.1 are,
    λ rest g leads.
        subst (λ rs. Leads folder s (in_order s) rs g) (sym (append_assoc reached.0 more rest))
        (reached.2 (more ++ rest) g (to_popped (more ++ rest) g (on rest g leads))),
  )

  pub reach_end : (g : Gathered) → GoesOnBy reads folder popped (w ∷ in_order popped) later middle after (Some g) → EndsBy reads folder s (in_order s) before after g
  reach_end g (more, are, ends) =
      (reached.0 ++ more, made_more reads before middle after reached.0 more reached.1 are, reached.2 more g (to_popped more g ends))

-- all that is wanted was read
pub reach_all : {L : Type 0} (reads : L → List ℕ → ℕ → Got → L → Type 0) (folder : List ℕ) (s later : State) (before after : L)
    → ReachedBy reads folder s before later after → later.left.items ≡ [] → EndsBy reads folder s (in_order s) before after (Files later.sources later.trees)
reach_all reads folder s later before after (made, are, on) none =
    let P : List Wanted → Type 0 = λ ws. IsGathered folder later.sources later.trees ws [] (Files later.sources later.trees) in
    (made, are, subst (λ rs. Leads folder s (in_order s) rs (Files later.sources later.trees)) (append-nil made) (on [] (Files later.sources later.trees) (subst P (sym (ap reverse none)) finished)))

pub reach_none : {L : Type 0} (reads : L → List ℕ → ℕ → Got → L → Type 0) (folder : List ℕ) (s : State) (before : L) → ReachedBy reads folder s before s before
reach_none reads folder s before = ([], refl, λ more g leads. leads)
