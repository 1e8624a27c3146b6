-- Whether two outlines are the same but for spans, by going over both at once. A part under a condition is like no other: in
-- the shape of an outline there is none.
use Rattle.std.specs.Prelude.{◌==◌, ◌&&◌, ℕ, Bool, true, false, List, [], ◌∷◌}
use Rattle.std.specs.Ordering.{int_eq}
use Rattle.std.specs.Str.{bytes_eq}
use Rattle.slicc_ast.specs.declared.tree.token.TokenKind.{TokenKind}
use Rattle.slicc_ast.specs.declared.tree.token.TokenKind.TheVariants.{Name, Number, Quoted, Word, Sign, End}
use Rattle.slicc_ast.specs.declared.tree.token.Word.{Word as Reserved}
use Rattle.slicc_ast.specs.declared.tree.token.Word.TheVariants.{Protocol, Include, Machine, Enumeration, StateDeclaration, Structure, InPort, OutPort, Action, Transition, Peek, Enqueue, StallAndWait, CheckAllocate, If, Else, Return, True, False, Ood, New, IsValid, IsInvalid, StaticCast, Error, Assert, Dprintf, AppendTransitionComment, While}
use Rattle.slicc_ast.specs.declared.tree.token.Sign.{Sign as SignKind}
use Rattle.slicc_ast.specs.declared.tree.token.Sign.TheVariants.{OpenBrace, CloseBrace, OpenParenthesis, CloseParenthesis, OpenBracket, CloseBracket, Semicolon, Colon, Comma, Dot, Equals, Assign, Equal, Unequal, Less, Greater, LessOrEqual, GreaterOrEqual, Plus, Minus, Star, Not, And, Or}
use Rattle.slicc_ast.specs.Outline.{token}
use Rattle.slicc_ast.specs.Prelude.{Outline, node, Parts, none, part, shape_of, shape_in}

abbrev pub word_number : Reserved → ℕ
word_number Protocol = 0
word_number Include = 1
word_number Machine = 2
word_number Enumeration = 3
word_number StateDeclaration = 4
word_number Structure = 5
word_number InPort = 6
word_number OutPort = 7
word_number Action = 8
word_number Transition = 9
word_number Peek = 10
word_number Enqueue = 11
word_number StallAndWait = 12
word_number CheckAllocate = 13
word_number If = 14
word_number Else = 15
word_number Return = 16
word_number True = 17
word_number False = 18
word_number Ood = 19
word_number New = 20
word_number IsValid = 21
word_number IsInvalid = 22
word_number StaticCast = 23
word_number Error = 24
word_number Assert = 25
word_number Dprintf = 26
word_number AppendTransitionComment = 27
word_number While = 28

abbrev pub sign_number : SignKind → ℕ
sign_number OpenBrace = 0
sign_number CloseBrace = 1
sign_number OpenParenthesis = 2
sign_number CloseParenthesis = 3
sign_number OpenBracket = 4
sign_number CloseBracket = 5
sign_number Semicolon = 6
sign_number Colon = 7
sign_number Comma = 8
sign_number Dot = 9
sign_number Equals = 10
sign_number Assign = 11
sign_number Equal = 12
sign_number Unequal = 13
sign_number Less = 14
sign_number Greater = 15
sign_number LessOrEqual = 16
sign_number GreaterOrEqual = 17
sign_number Plus = 18
sign_number Minus = 19
sign_number Star = 20
sign_number Not = 21
sign_number And = 22
sign_number Or = 23

abbrev pub alike_kind : TokenKind → TokenKind → Bool
alike_kind (Name a) (Name b) = bytes_eq a b
alike_kind (Number a) (Number b) = int_eq a b
alike_kind (Quoted a) (Quoted b) = bytes_eq a b
alike_kind (Word a) (Word b) = word_number a == word_number b
alike_kind (Sign a) (Sign b) = sign_number a == sign_number b
alike_kind End End = true
alike_kind _ _ = false

abbrev mutual
  pub alike : Outline → Outline → Bool
  alike (node a parts) (node b others) = alike_in parts others

  pub alike_in : Parts → Parts → Bool
  alike_in none none = true
  alike_in (token a parts) (token b others) = alike_kind a b && alike_in parts others
  alike_in (part a parts) (part b others) = alike a b && alike_in parts others
  alike_in _ _ = false

-- two outlines are alike but for spans and conditions
abbrev pub same_shape : Outline → Outline → Bool
same_shape a b = alike (shape_of a) (shape_of b)

-- and two rows of parts
abbrev pub same_parts : Parts → Parts → Bool
same_parts a b = alike_in (shape_in a) (shape_in b)

-- each of a list is like the one at its place of another list, which is as long
abbrev pub all_alike : {A : Type 0} → (A → A → Bool) → List A → List A → Bool
all_alike one [] [] = true
all_alike one (a ∷ more) (b ∷ others) = one a b && all_alike one more others
all_alike one _ _ = false
