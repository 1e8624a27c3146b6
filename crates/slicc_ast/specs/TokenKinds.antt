-- The kind of a token, as the grammar sees it. Names are of three kinds: `MachineType`, the one name that may stand before
-- a machine's own with a colon; `functionalRead` and `functionalWrite`, the names of the functions that are skipped; and
-- all others. Each reserved word, each sign and the end of the text is a kind of its own.
use Rattle.std.specs.Prelude.{ℕ, ◌||◌, cond, List, codes}
use Rattle.std.specs.Str.{bytes_eq}
use Rattle.slicc_ast.specs.declared.tree.token.TokenKind.{TokenKind}
use Rattle.slicc_ast.specs.declared.tree.token.TokenKind.TheVariants.{Name, Number, Quoted, End}
use Rattle.slicc_ast.specs.declared.tree.token.Word.{Word}
use Rattle.slicc_ast.specs.declared.tree.token.Word.TheVariants.{Protocol, Include, Machine, Enumeration, StateDeclaration, Structure, InPort, OutPort, Action, Transition, Peek, Enqueue, StallAndWait, CheckAllocate, If, Else, Return, True, False, Ood, New, IsValid, IsInvalid, StaticCast, Error, Assert, Dprintf, AppendTransitionComment, While}
use Rattle.slicc_ast.specs.declared.tree.token.Sign.{Sign}
use Rattle.slicc_ast.specs.declared.tree.token.Sign.TheVariants.{OpenBrace, CloseBrace, OpenParenthesis, CloseParenthesis, OpenBracket, CloseBracket, Semicolon, Colon, Comma, Dot, Equals, Assign, Equal, Unequal, Less, Greater, LessOrEqual, GreaterOrEqual, Plus, Minus, Star, Not, And, Or}

abbrev pub other_name : ℕ
other_name = 0

abbrev pub machine_type : ℕ
machine_type = 1

abbrev pub functional_name : ℕ
functional_name = 2

abbrev pub number : ℕ
number = 3

abbrev pub quoted : ℕ
quoted = 4

abbrev pub end_of_text : ℕ
end_of_text = 5

abbrev pub word_kind : Word → ℕ
word_kind Protocol = 10
word_kind Include = 11
word_kind Machine = 12
word_kind Enumeration = 13
word_kind StateDeclaration = 14
word_kind Structure = 15
word_kind InPort = 16
word_kind OutPort = 17
word_kind Action = 18
word_kind Transition = 19
word_kind Peek = 20
word_kind Enqueue = 21
word_kind StallAndWait = 22
word_kind CheckAllocate = 23
word_kind If = 24
word_kind Else = 25
word_kind Return = 26
word_kind True = 27
word_kind False = 28
word_kind Ood = 29
word_kind New = 30
word_kind IsValid = 31
word_kind IsInvalid = 32
word_kind StaticCast = 33
word_kind Error = 34
word_kind Assert = 35
word_kind Dprintf = 36
word_kind AppendTransitionComment = 37
word_kind While = 38

abbrev pub sign_kind : Sign → ℕ
sign_kind OpenBrace = 50
sign_kind CloseBrace = 51
sign_kind OpenParenthesis = 52
sign_kind CloseParenthesis = 53
sign_kind OpenBracket = 54
sign_kind CloseBracket = 55
sign_kind Semicolon = 56
sign_kind Colon = 57
sign_kind Comma = 58
sign_kind Dot = 59
sign_kind Equals = 60
sign_kind Assign = 61
sign_kind Equal = 62
sign_kind Unequal = 63
sign_kind Less = 64
sign_kind Greater = 65
sign_kind LessOrEqual = 66
sign_kind GreaterOrEqual = 67
sign_kind Plus = 68
sign_kind Minus = 69
sign_kind Star = 70
sign_kind Not = 71
sign_kind And = 72
sign_kind Or = 73

abbrev pub name_kind : List ℕ → ℕ
name_kind text =
    cond (bytes_eq text (codes "MachineType")) machine_type
    (cond (bytes_eq text (codes "functionalRead") || bytes_eq text (codes "functionalWrite")) functional_name other_name)

abbrev pub kind_of : TokenKind → ℕ
kind_of (Name text) = name_kind text
kind_of (Number value) = number
kind_of (Quoted text) = quoted
kind_of (TokenKind.Word word) = word_kind word
kind_of (TokenKind.Sign sign) = sign_kind sign
kind_of End = end_of_text
