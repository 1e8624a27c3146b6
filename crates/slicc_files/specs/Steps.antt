-- How far gathering has come, as its functions say it: what is left to do from here leads to the same answer as before.
use Rattle.std.specs.Prelude.{◌≡◌, ◌+◌, ◌-◌, ◌*◌, ◌≤◌, ◌++◌, ◌⊎◌, ℕ, Option, Ok, Err, List, [], ◌∷◌, length, MatchOption, All, IsUtf8, reverse}
use Rattle.ruby_outside.specs.declared.library.Got.{Got}
use Rattle.slicc_ast.specs.declared.tree.item.Tree.{Tree}
use Rattle.slicc_files.specs.Gathering.{IsGathered, most_files, protocol_file, refusal, wanted_of}
use Rattle.slicc_files.specs.Reads.{Read, AreMade, file_limit}
use Rattle.slicc_files.specs.Texts.{IsReadText, code_of}
use Rattle.slicc_files.specs.declared.gathered.Gathered.{Gathered}
use Rattle.slicc_files.specs.declared.gathered.Gathered.TheVariants.{Refused, NoMemory}
use Rattle.slicc_files.specs.declared.gathered.Source.{Source}
use Rattle.slicc_files.specs.declared.reading.Broken.{Broken}
use Rattle.slicc_files.specs.declared.state.State.{State}
use Rattle.slicc_files.specs.declared.state.Wanted.{Wanted}

-- what is wanted, the next one first
abbrev pub in_order : State → List Wanted
in_order s = reverse s.left.items

-- from the state and these wanted files on, the reads lead to the answer
abbrev pub Leads : List ℕ → State → List Wanted → List Read → Gathered → Type 0
Leads folder s left reads g = IsGathered folder s.sources s.trees left reads g

-- reads were made that lead from the state to the answer
abbrev pub EndsBy : {L : Type 0} (reads : L → List ℕ → ℕ → Got → L → Type 0) → List ℕ → State → List Wanted → L → L → Gathered → Type 0
EndsBy reads folder s left before after g = (made : List Read) × AreMade reads before made after × Leads folder s left made g

-- reads were made that lead from the state to an answer, if there is one, or else to the later state
abbrev pub GoesOnBy : {L : Type 0} (reads : L → List ℕ → ℕ → Got → L → Type 0) → List ℕ → State → List Wanted → State → L → L → Option Gathered → Type 0
GoesOnBy reads folder s left later before after answer =
    (made : List Read) × AreMade reads before made after
    × MatchOption answer
    ((more : List Read) (g : Gathered) → Leads folder later (in_order later) more g → Leads folder s left (made ++ more) g)
    (λ g. Leads folder s left made g)

-- the refusal of a file, or the lack of memory for it
abbrev pub IsRefusalOf : Source → ℕ → List ℕ → Gathered → Type 0
IsRefusalOf s offset code g = (g ≡ NoMemory) ⊎ (g ≡ Refused (refusal s offset code))

-- the file is taken into the state with its tree
pub record IsTakenIn (folder : List ℕ) (s : State) (source : Source) (later : State) : Type 0 where
  pub tree : Tree
  pub read : IsReadText (length s.sources) source.bytes (Ok tree)
  pub sources : later.sources ≡ s.sources ++ source ∷ []
  pub trees : later.trees ≡ s.trees ++ tree ∷ []
  pub left : later.left.items ≡ s.left.items ++ reverse (wanted_of folder (length s.sources) tree)

-- or it is refused
abbrev pub IsRefusedFor : ℕ → Source → Gathered → Type 0
IsRefusedFor file source g =
    (g ≡ NoMemory) ⊎ ((b : Broken) × IsReadText file source.bytes (Err b) × (g ≡ Refused (refusal source b.offset (code_of b.rule))))

-- a wanted file has a name that is a text, and is named in a file that was seen, unless it is the first
pub record IsSound (files : ℕ) (w : Wanted) : Type 0 where
  pub name : IsUtf8 w.name
  pub file : w.file ≤ files - 1

-- a file is no longer than it may be
abbrev pub IsShort : Source → Type 0
IsShort s = length s.bytes ≤ file_limit

pub record AreSound (s : State) : Type 0 where
  pub left : All (IsSound (length s.sources)) s.left.items
  pub sources : All IsShort s.sources

-- a bound of the steps that are left: a file has at most 1,048,577 tokens, and so at most as many include lines
abbrev pub steps_left : State → ℕ
steps_left s = (most_files - length s.sources) * 1048578 + length s.left.items

-- nothing is read yet, and the protocol's own file is wanted
pub record IsBegun (name : List ℕ) (s : State) : Type 0 where
  pub sources : s.sources ≡ []
  pub trees : s.trees ≡ []
  pub left : s.left.items ≡ protocol_file name ∷ []
