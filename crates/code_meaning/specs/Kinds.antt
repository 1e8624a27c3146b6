-- Which values are of a kind, as code has it: a reference to a line is of the kind of its table's lines, whichever sort of value holds
-- it, and names a line; one to nothing is of each kind of references. And whether an end is one of a body with this result.
use Rattle.std.specs.Prelude.{Bool, true, false, ◌&&◌, Option, None, Some, List, [], ◌∷◌, nat_lt, slice_get}
use Rattle.ruby_value.specs.declared.kind.Kind.{Kind}
use Rattle.ruby_value.specs.declared.kind.Kind.TheVariants as kind
use Rattle.ruby_value.specs.declared.value.Ref.{Ref}
use Rattle.ruby_value.specs.declared.value.Value.{Value}
use Rattle.ruby_value.specs.declared.value.Value.TheVariants as value
use Rattle.ruby_value.specs.Prelude.{equal_kinds, has_kind, line_limit}
use Rattle.action_code.specs.declared.program.TableDecl.{TableDecl}
use Rattle.action_code.specs.Prelude.{kind_of_table}
use Rattle.code_meaning.specs.declared.code_end.CodeEnd.{CodeEnd}
use Rattle.code_meaning.specs.declared.code_end.CodeEnd.TheVariants as code_end

abbrev pub has_lines_of : List TableDecl → Option TableDecl → Kind → Bool
has_lines_of tables None k = false
has_lines_of tables (Some t) k = equal_kinds (kind_of_table tables t) k

abbrev pub is_line_of : List TableDecl → Kind → Option Ref → Bool
is_line_of tables k None = true
is_line_of tables k (Some r) = has_lines_of tables (slice_get tables r.table) k && nat_lt r.line line_limit

abbrev pub is_reference_of : List TableDecl → Kind → Value → Bool
is_reference_of tables k (value.Entry r) = is_line_of tables k r
is_reference_of tables k (value.Tbe r) = is_line_of tables k r
is_reference_of tables k _ = false

abbrev pub is_of_kind : List TableDecl → Kind → Value → Bool
is_of_kind tables (kind.Entry n) v = is_reference_of tables (kind.Entry n) v
is_of_kind tables (kind.Tbe n) v = is_reference_of tables (kind.Tbe n) v
is_of_kind tables k v = has_kind k v

-- as many values as kinds, each of its kind
abbrev pub are_of_kinds : List TableDecl → List Kind → List Value → Bool
are_of_kinds tables [] [] = true
are_of_kinds tables (k ∷ kinds) (v ∷ values) = is_of_kind tables k v && are_of_kinds tables kinds values
are_of_kinds tables _ _ = false

-- a body without a result ends with nothing, one with a result with a value of its kind; and each may trigger or stop
abbrev pub is_end_of : List TableDecl → Option Kind → CodeEnd → Bool
is_end_of tables None code_end.Nothing = true
is_end_of tables None (code_end.Value v) = false
is_end_of tables (Some k) (code_end.Value v) = is_of_kind tables k v
is_end_of tables (Some k) code_end.Nothing = false
is_end_of tables result (code_end.Trigger event address entry tbe) = true
is_end_of tables result (code_end.Stop f) = true
