-- The files that a protocol is made of: its own and all that are included, gone through depth first in the order of the
-- include lines. Each name is read once, so that files may include each other; the file of interfaces is passed over, and
-- counts as no name. The order of reading is that of the trees. The first that is absent, too long or refused, or the include
-- line of one name too many, is the answer in place of the trees. A lack of memory may come at any time. The limit of names
-- and how an included file is named are this project's own.
use Rattle.std.specs.Prelude.{◌≡◌, ◌<◌, ◌≤◌, ◌++◌, ℕ, All, Bool, true, false, IsTrue, None, Some, Ok, Err, List, [], ◌∷◌, length, codes, if◌then◌else◌}
use Rattle.std.specs.List.{flat_map, list_any, slice_get}
use Rattle.std.specs.Str.{bytes_eq}
use Rattle.ruby_outside.specs.Prelude.{Files as LibraryFiles}
use Rattle.ruby_outside.specs.declared.library.Got.{Got}
use Rattle.ruby_outside.specs.declared.library.Got.TheVariants as got
use Rattle.slicc_ast.specs.Prelude.{is_allowed, tree}
use Rattle.slicc_ast.specs.declared.tree.item.Item.{Item}
use Rattle.slicc_ast.specs.declared.tree.item.Item.TheVariants.{Include, Enumeration, Structure, Machine}
use Rattle.slicc_ast.specs.declared.tree.item.Tree.{Tree}
use Rattle.slicc_lex.specs.Prelude.{line_of, column_of}
use Rattle.slicc_files.specs.Names.{folder_of, interfaces}
use Rattle.slicc_files.specs.Reads.{Read, AreGiven, AreMade, file_limit}
use Rattle.slicc_files.specs.Texts.{IsReadText, code_of}
use Rattle.slicc_files.specs.declared.gathered.Gathered.{Gathered}
use Rattle.slicc_files.specs.declared.gathered.Gathered.TheVariants.{Files, Refused, Absent, TooLarge, ReadFault, NoMemory}
use Rattle.slicc_files.specs.declared.gathered.Refused.{Refused as Refusal}
use Rattle.slicc_files.specs.declared.gathered.Source.{Source}
use Rattle.slicc_files.specs.declared.reading.Broken.{Broken}
use Rattle.slicc_files.specs.declared.state.Wanted.{Wanted}

-- how many files a protocol may have
abbrev pub most_files : ℕ
most_files = 64

-- the files that an item of a file wants, which is named by its number
abbrev pub wanted_by : List ℕ → ℕ → Item → List Wanted
wanted_by folder file (Include text span) =
    if bytes_eq text interfaces then [] else record { name = folder ++ text; file = file; offset = span.start } ∷ []
wanted_by folder file (Enumeration e) = []
wanted_by folder file (Structure s) = []
wanted_by folder file (Machine m) = []

abbrev pub wanted_of : List ℕ → ℕ → Tree → List Wanted
wanted_of folder file t = flat_map (wanted_by folder file) t.items

-- a file of this name was read
abbrev pub is_seen : List ℕ → List Source → Bool
is_seen name seen = list_any (λ (s : Source). bytes_eq s.name name) seen

-- a refusal at the byte with this offset
abbrev pub refusal : Source → ℕ → List ℕ → Refusal
refusal s offset code =
    record { file = s.name; line = line_of s.bytes offset; column = column_of s.bytes offset; code = code; other = None }

-- the wanted file is the next to be read
abbrev pub IsNext : List Source → Wanted → Type 0
IsNext seen w = (is_seen w.name seen ≡ false) × (length seen < most_files)

-- one read of the wanted file
abbrev pub read_of : Wanted → Got → Read
read_of w g = record { name = w.name; got = g }

-- the wanted file with these bytes
abbrev pub source_of : Wanted → List ℕ → Source
source_of w bytes = record { name = w.name; bytes = bytes }

-- With these files seen, with these trees, and these still wanted in this order, the reads lead to the answer.
pub data IsGathered (folder : List ℕ) : List Source → List Tree → List Wanted → List Read → Gathered → Type 0 where
  -- no more is wanted
  finished : {seen : List Source} {trees : List Tree} → IsGathered folder seen trees [] [] (Files seen trees)
  -- a file was seen already
  passed_by : {seen : List Source} {trees : List Tree} {w : Wanted} {left : List Wanted} {reads : List Read} {g : Gathered}
      → is_seen w.name seen ≡ true
      → IsGathered folder seen trees left reads g
      → IsGathered folder seen trees (w ∷ left) reads g
  -- one name too many is told at the include line
  one_too_many : {seen : List Source} {trees : List Tree} {w : Wanted} {left : List Wanted} {s : Source}
      → is_seen w.name seen ≡ false → most_files ≤ length seen → slice_get seen w.file ≡ Some s
      → IsGathered folder seen trees (w ∷ left) [] (Refused (refusal s w.offset (codes "R3")))
  -- a file is there, and its text is a tree
  went_on : {seen : List Source} {trees : List Tree} {w : Wanted} {left : List Wanted} {bytes : List ℕ} {t : Tree} {reads : List Read} {g : Gathered}
      → IsNext seen w → length bytes ≤ file_limit → IsReadText (length seen) bytes (Ok t)
      → IsGathered folder (seen ++ source_of w bytes ∷ []) (trees ++ t ∷ []) (wanted_of folder (length seen) t ++ left) reads g
      → IsGathered folder seen trees (w ∷ left) (read_of w (got.Bytes bytes) ∷ reads) g
  -- or it isn't
  refused : {seen : List Source} {trees : List Tree} {w : Wanted} {left : List Wanted} {bytes : List ℕ} {b : Broken}
      → IsNext seen w → length bytes ≤ file_limit → IsReadText (length seen) bytes (Err b)
      → IsGathered folder seen trees (w ∷ left) (read_of w (got.Bytes bytes) ∷ []) (Refused (refusal (source_of w bytes) b.offset (code_of b.rule)))
  absent : {seen : List Source} {trees : List Tree} {w : Wanted} {left : List Wanted}
      → IsNext seen w → IsGathered folder seen trees (w ∷ left) (read_of w got.Absent ∷ []) (Absent w.name)
  too_large : {seen : List Source} {trees : List Tree} {w : Wanted} {left : List Wanted}
      → IsNext seen w → IsGathered folder seen trees (w ∷ left) (read_of w got.TooLarge ∷ []) (TooLarge w.name)
  -- a library that tells no files may give more bytes than it was asked for
  too_long : {seen : List Source} {trees : List Tree} {w : Wanted} {left : List Wanted} {bytes : List ℕ}
      → IsNext seen w → file_limit < length bytes
      → IsGathered folder seen trees (w ∷ left) (read_of w (got.Bytes bytes) ∷ []) (TooLarge w.name)
  failed : {seen : List Source} {trees : List Tree} {w : Wanted} {left : List Wanted}
      → IsNext seen w → IsGathered folder seen trees (w ∷ left) (read_of w got.Failed ∷ []) (ReadFault w.name)
  -- memory ran out before a read, or in it or after it
  no_memory : {seen : List Source} {trees : List Tree} {left : List Wanted} → IsGathered folder seen trees left [] NoMemory
  no_memory_for : {seen : List Source} {trees : List Tree} {w : Wanted} {left : List Wanted} {g : Got}
      → IsNext seen w → IsGathered folder seen trees (w ∷ left) (read_of w g ∷ []) NoMemory

-- the protocol's own file, which no include line names
abbrev pub protocol_file : List ℕ → Wanted
protocol_file name = record { name = name; file = 0; offset = 0 }

-- from the protocol of this name these reads lead to the answer
abbrev pub IsGatheredFrom : List ℕ → List Read → Gathered → Type 0
IsGatheredFrom name reads g = IsGathered (folder_of name) [] [] (protocol_file name ∷ []) reads g

-- these files, where no read fails, lead to the answer
abbrev pub IsGatheredOver : LibraryFiles → List ℕ → Gathered → Type 0
IsGatheredOver files name g = (reads : List Read) × AreGiven files reads × IsGatheredFrom name reads g

-- reads of a library were made that lead to the answer, and no others
abbrev pub IsGatheredBy : {L : Type 0} (reads : L → List ℕ → ℕ → Got → L → Type 0) → List ℕ → L → L → Gathered → Type 0
IsGatheredBy reads name before after g = (made : List Read) × AreMade reads before made after × IsGatheredFrom name made g

-- the tree keeps the conditions of the grammar, as each does that tokens spell
abbrev pub IsAllowed : Tree → Type 0
IsAllowed t = IsTrue (is_allowed (tree t))

abbrev pub AreAllowed : Gathered → Type 0
AreAllowed (Files seen trees) = All IsAllowed trees
AreAllowed other = Unit {0}

-- no file is longer than it may be
abbrev pub AreShort : Gathered → Type 0
AreShort (Files seen trees) = All (λ (s : Source). length s.bytes ≤ file_limit) seen
AreShort other = Unit {0}
