-- What a protocol's files come to: its plan, where they are read and keep all rules, or the first thing that is wrong, with its
-- place. What is wrong with a file as it is read is told before any rule. A rule is told at the first byte of what breaks it, by
-- the name of its file, the line and the column. The codes are this project's own.
use Rattle.std.specs.Prelude.{◌≡◌, ◌⊎◌, ◌++◌, ℕ, Option, None, Some, List, [], All, codes, slice_get}
use Rattle.std.specs.Fmt.{decimal}
use Rattle.std.specs.Option.{option_map}
use Rattle.ruby_outside.specs.declared.library.Got.{Got}
use Rattle.slicc_ast.specs.declared.tree.item.Tree.{Tree}
use Rattle.slicc_ast.specs.declared.tree.span.Span.{Span}
use Rattle.slicc_files.specs.declared.gathered.Gathered.{Gathered}
use Rattle.slicc_files.specs.declared.gathered.Gathered.TheVariants as gathered
use Rattle.slicc_files.specs.declared.gathered.Refused.{Refused as Refusal}
use Rattle.slicc_files.specs.declared.gathered.Source.{Source}
use Rattle.slicc_files.specs.Prelude.{IsAllowed, IsGatheredBy}
use Rattle.slicc_lex.specs.Prelude.{line_of, column_of}
use Rattle.slicc_plan.specs.declared.broken.Broken.{Broken}
use Rattle.slicc_plan.specs.Prelude.{IsAccepted, IsToldOf, number_of}
use Rattle.slicc_front.specs.declared.answer.Front.{Front}
use Rattle.slicc_front.specs.declared.answer.Front.TheVariants.{Plan, Refused, Absent, TooLarge, ReadFault, NoMemory}

-- the place of a byte of a file by the file's name, the line and the column; a file that wasn't read, which no span of a tree
-- names, has no name
abbrev pub place_in : Option Source → ℕ → List ℕ × ℕ × ℕ
place_in None offset = ([], 1, 1)
place_in (Some s) offset = (s.name, line_of s.bytes offset, column_of s.bytes offset)

-- the place of a span's first byte; files have their numbers in the order of reading
abbrev pub place_of : List Source → Span → List ℕ × ℕ × ℕ
place_of sources span = place_in (slice_get sources span.file) span.start

abbrev pub code_of : ℕ → List ℕ
code_of number = codes "R" ++ decimal number

-- the refusal by the rule of this number at this place, with its second place, if it speaks of one
abbrev pub refusal_at : List Source → ℕ → Span → Option Span → Refusal
refusal_at sources number place other =
    record {
      file = (place_of sources place).0;
      line = (place_of sources place).1;
      column = (place_of sources place).2;
      code = code_of number;
      other = option_map (place_of sources) other;
    }

-- Files with these trees come to this.
pub data IsFrontFor (sources : List Source) (trees : List Tree) : Front → Type 0 where
  keeps_all : IsAccepted trees → IsFrontFor sources trees (Plan trees)
  breaks_one : {b : Broken} → IsToldOf trees b
      → IsFrontFor sources trees (Refused (refusal_at sources (number_of b.rule) b.place b.other))

-- What the files were read as comes to this, where memory doesn't run out.
abbrev pub IsFrontOf : Gathered → Front → Type 0
IsFrontOf (gathered.Files sources trees) f = IsFrontFor sources trees f
IsFrontOf (gathered.Refused refusal) f = f ≡ Refused refusal
IsFrontOf (gathered.Absent name) f = f ≡ Absent name
IsFrontOf (gathered.TooLarge name) f = f ≡ TooLarge name
IsFrontOf (gathered.ReadFault name) f = f ≡ ReadFault name
IsFrontOf gathered.NoMemory f = ⊥

-- or memory ran out on the way
abbrev pub IsFrontIfRoom : Gathered → Front → Type 0
IsFrontIfRoom g f = (f ≡ NoMemory) ⊎ IsFrontOf g f

-- the files of this name were read from a library and come to this
abbrev pub IsFrontBy : {L : Type 0} (reads : L → List ℕ → ℕ → Got → L → Type 0) → List ℕ → (before after : L) → Front → Type 0
IsFrontBy reads name before after f =
    (g : Gathered) × IsGatheredBy reads name before after g × IsFrontIfRoom g f

-- the trees of a plan keep the conditions of the grammar
abbrev pub IsFrontAllowed : Front → Type 0
IsFrontAllowed (Plan trees) = All IsAllowed trees
IsFrontAllowed other = Unit {0}
