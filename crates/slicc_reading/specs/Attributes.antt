-- The values of attributes.
use Rattle.std.specs.Prelude.{◌≡◌, ℕ, List, ◌∷◌}
use Rattle.slicc_ast.specs.declared.tree.token.TokenKind.TheVariants.{Name, Number, Quoted}
use Rattle.slicc_ast.specs.declared.tree.declaration.PairValue.{PairValue}
use Rattle.slicc_ast.specs.declared.tree.declaration.PairValue.TheVariants.{Quoted as QuotedValue, Number as NumberValue, Name as NameValue}
use Rattle.slicc_ast.specs.Prelude.{names_of, number, quoted}
use Rattle.slicc_lex.specs.declared.token.Token.{Token}

abbrev pub value_kinds : List ℕ
value_kinds = quoted ∷ number ∷ names_of

-- the token is the value
abbrev pub IsValue : Token → PairValue → Type 0
IsValue t (QuotedValue text) = t.kind ≡ Quoted text
IsValue t (NumberValue n) = t.kind ≡ Number n
IsValue t (NameValue n) = (t.kind ≡ Name n.text) × (n.span ≡ t.span)
