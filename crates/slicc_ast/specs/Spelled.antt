-- The kinds of the tokens that a tree is spelled by, before those of what stands behind it.
use Rattle.std.specs.Prelude.{ℕ, List, map}
use Rattle.slicc_ast.specs.Outline.{Outline, kinds_of}
use Rattle.slicc_ast.specs.TokenKinds.{kind_of}

abbrev pub spelling : Outline → List ℕ
spelling outline = map kind_of (kinds_of outline)
