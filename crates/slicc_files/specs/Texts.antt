-- What the bytes of a file are read as: its tree, or the first place where they break a rule of the language. Tokens come
-- first: where the bytes have a fault that leaves them without tokens, that is told before any fault of the tokens. The
-- codes are this project's own.
use Rattle.std.specs.Prelude.{◌≡◌, ℕ, Option, None, Some, Result, Ok, Err, List, [], codes}
use Rattle.std.specs.List.{slice_get}
use Rattle.slicc_ast.specs.declared.tree.item.Tree.{Tree}
use Rattle.slicc_ast.specs.Prelude.{IsFirstFault, Passed, Form, written}
use Rattle.slicc_lex.specs.declared.fault.LexFault.{LexFault}
use Rattle.slicc_lex.specs.declared.fault.LexFault.TheVariants as lexical
use Rattle.slicc_lex.specs.declared.token.Token.{Token}
use Rattle.slicc_lex.specs.Prelude.{Spells, IsBadAt, IsDeepAt, nesting_limit, symbols, Reads}
use Rattle.slicc_files.specs.declared.reading.Broken.{Broken}
use Rattle.slicc_files.specs.declared.reading.TextFault.{TextFault}
use Rattle.slicc_files.specs.declared.reading.TextFault.TheVariants as fault
use Rattle.slicc_files.specs.declared.reading.TextRule.{TextRule}
use Rattle.slicc_files.specs.declared.reading.TextRule.TheVariants.{BadByte, OpenString, OpenComment, NumberTooLarge, NameTooLong, BadToken, DeepNesting}

abbrev pub code_of : TextRule → List ℕ
code_of BadByte = codes "L1"
code_of OpenString = codes "L2"
code_of OpenComment = codes "L3"
code_of NumberTooLarge = codes "L4"
code_of NameTooLong = codes "L5"
code_of BadToken = codes "P1"
code_of DeepNesting = codes "P2"

-- a rule that is broken at an offset
abbrev pub broken_at : TextRule → ℕ → Broken
broken_at rule offset = record { rule = rule; offset = offset }

-- what a fault of the lexer breaks, want of memory aside
abbrev pub broken_by : LexFault → Option Broken
broken_by (lexical.BadByte place) = Some (broken_at BadByte place)
broken_by (lexical.OpenString place) = Some (broken_at OpenString place)
broken_by (lexical.OpenComment place) = Some (broken_at OpenComment place)
broken_by (lexical.NumberTooLarge place) = Some (broken_at NumberTooLarge place)
broken_by (lexical.NameTooLong place) = Some (broken_at NameTooLong place)
broken_by lexical.NoMemory = None

-- what is answered for what is broken, if anything is, and else for want of memory
abbrev pub fault_of : Option Broken → TextFault
fault_of None = fault.NoMemory
fault_of (Some b) = fault.Broken b

-- The tokens of a file are read so.
pub data IsReadTokens (tokens : List Token) : Result Tree Broken → Type 0 where
  -- they spell the tree, and none of them opens a nesting above the limit
  spells_a_tree : {t : Tree}
      → Spells t tokens → IsFirstFault written nesting_limit Form.file (symbols tokens) (Passed [])
      → IsReadTokens tokens (Ok t)
  -- no file goes on with this token
  has_a_bad_token : {place : ℕ} {token : Token}
      → IsBadAt Form.file 0 tokens 0 place → slice_get tokens place ≡ Some token
      → IsReadTokens tokens (Err (broken_at BadToken token.span.start))
  -- this token opens a nesting above the limit
  nests_too_deep : {place : ℕ} {token : Token}
      → IsDeepAt Form.file 0 tokens 0 place → slice_get tokens place ≡ Some token
      → IsReadTokens tokens (Err (broken_at DeepNesting token.span.start))

-- The bytes of the file of this number are read so.
pub data IsReadText (file : ℕ) (bytes : List ℕ) : Result Tree Broken → Type 0 where
  has_no_tokens : {why : LexFault} {broken : Broken}
      → Reads file 0 bytes (Err why) → broken_by why ≡ Some broken
      → IsReadText file bytes (Err broken)
  has_tokens : {tokens : List Token} {answer : Result Tree Broken}
      → Reads file 0 bytes (Ok tokens) → IsReadTokens tokens answer
      → IsReadText file bytes answer

-- a fault that tokens may be answered with, or a lack of memory
abbrev pub IsTokensFault : List Token → TextFault → Type 0
IsTokensFault tokens (fault.Broken b) = IsReadTokens tokens (Err b)
IsTokensFault tokens fault.NoMemory = Unit {0}

-- and the same of bytes
abbrev pub IsTextFault : ℕ → List ℕ → TextFault → Type 0
IsTextFault file bytes (fault.Broken b) = IsReadText file bytes (Err b)
IsTextFault file bytes fault.NoMemory = Unit {0}
