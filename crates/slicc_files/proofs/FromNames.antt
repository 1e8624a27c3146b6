-- Names from their outlines.
use Rattle.slicc_ast.specs.declared.tree.name.Name.{Name}
use Rattle.slicc_ast.specs.declared.tree.name.TypeName.{TypeName}
use Rattle.slicc_ast.specs.Prelude.{Outline}
use Rattle.slicc_files.proofs.Places.{span_of, parts_of, text_in}

abbrev pub name_from : Outline → Name
name_from o = record { text = text_in (parts_of o); span = span_of o }

abbrev pub type_from : Outline → TypeName
type_from o = record { text = text_in (parts_of o); span = span_of o }
