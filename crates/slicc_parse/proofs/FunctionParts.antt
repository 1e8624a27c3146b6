-- A function behind its type and its name.
use Rattle.std.proofs.Common.{ℕ, IsTrue, not, Option, List, ap}
use Rattle.slicc_ast.specs.declared.tree.declaration.Formals.{Formals}
use Rattle.slicc_ast.specs.declared.tree.declaration.Function.TheVariants.{Plain}
use Rattle.slicc_ast.specs.declared.tree.declaration.Pairs.{Pairs}
use Rattle.slicc_ast.specs.declared.tree.name.Name.{Name}
use Rattle.slicc_ast.specs.declared.tree.name.TypeName.{TypeName}
use Rattle.slicc_ast.specs.declared.tree.span.Span.{Span}
use Rattle.slicc_ast.specs.declared.tree.statement.Block.{Block}
use Rattle.slicc_ast.specs.declared.tree.token.TokenKind.TheVariants.{Name as Named}
use Rattle.slicc_ast.specs.Declarations.{formals, pairs}
use Rattle.slicc_ast.specs.Prelude.{is_skipped, function, type_name, node, none, provided}
use Rattle.slicc_ast.specs.Names.{name}
use Rattle.slicc_ast.specs.Outline.{token}
use Rattle.slicc_ast.specs.Parts.{Part}
use Rattle.slicc_lex.specs.declared.token.Token.{Token}
use Rattle.slicc_parse.specs.Prelude.{body_parts}
use Rattle.slicc_parse.proofs.Lists.{body_parts_none}
use Rattle.slicc_reading.specs.Prelude.{AreRead, Covers, IsNode, IsRead}
use Rattle.slicc_reading.proofs.Behind.{as_allowed_behind_two}
use Rattle.slicc_reading.proofs.Parts.{as_tree}

pub plain_read : {room : ℕ} {g : Part} {start between tokens left : List Token}
    (kind : TypeName) (called : Name) (parameters : Formals) (attributes : Pairs) (body : Option Block) (span : Span)
    → Covers span start left → IsTrue (not (is_skipped called))
    → IsNode (node kind.span (token (Named kind.text) none)) start between
    → IsNode (node called.span (token (Named called.text) none)) between tokens
    → AreRead room g (λ others. formals parameters (pairs attributes (body_parts body others))) tokens left
    → IsRead room g (function (Plain kind called parameters attributes body span)) start tokens left
plain_read kind called parameters attributes body span covers plain kind_read name_read r =
    as_tree (function (Plain kind called parameters attributes body span))
    (ap (λ p. node span (provided (not (is_skipped called)) (type_name kind (name called (formals parameters (pairs attributes p)))))) (body_parts_none body))
    (as_allowed_behind_two span covers plain kind_read name_read r)
