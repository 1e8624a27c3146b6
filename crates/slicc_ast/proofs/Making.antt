-- The steps by which a reader makes outlines: a token, a mark, a name, a node, and the parts of a node up to its end.
use Rattle.std.proofs.Common.{◌≡◌, ℕ, Bool, true, List, ◌∷◌, ◌++◌, Some, refl, ap, ◌∙◌, sym, append_assoc}
use Rattle.std.specs.List.{slice_get}
use Rattle.std.proofs.lemmas.Bool.{and_parts}
use Rattle.slicc_ast.specs.declared.tree.token.TokenKind.{TokenKind}
use Rattle.slicc_ast.specs.declared.tree.token.TokenKind.TheVariants.{Name as Named}
use Rattle.slicc_ast.specs.declared.tree.span.Span.{Span}
use Rattle.slicc_ast.specs.declared.tree.name.Name.{Name}
use Rattle.slicc_ast.specs.declared.tree.name.TypeName.{TypeName}
use Rattle.slicc_ast.specs.Outline.{token}
use Rattle.slicc_ast.specs.Prelude.{Outline, node, Parts, none, part, provided, kinds_of, kinds_in, is_allowed, are_allowed, no_span, shape_of, shape_in, type_name, has, Row, Rows, done, form, maybe, many, next, Form, name_kind, kind_of}
use Rattle.slicc_ast.specs.Names.{name as name_parts}
use Rattle.slicc_ast.proofs.Building.Builds.{one, alternative, present, absent, again, enough, on}
use Rattle.slicc_ast.proofs.Leading.{name_is_one}
use Rattle.slicc_ast.proofs.Shapes.{Made, opened, with_token, with_part, ended_node, Mark, begin, close, marked_by, Step, plain, mark, Makes, name_of, name, of, at, shape_rows}

-- a tree's tokens before those behind it
abbrev mutual
  pub spelled : Outline → List TokenKind → List TokenKind
  spelled (node span parts) rest = spelled_in parts rest

  pub spelled_in : Parts → List TokenKind → List TokenKind
  spelled_in none rest = rest
  spelled_in (token kind parts) rest = kind ∷ spelled_in parts rest
  spelled_in (part outline parts) rest = spelled outline (spelled_in parts rest)
  spelled_in (provided condition parts) rest = spelled_in parts rest

mutual
  pub spelled-kinds : (outline : Outline) (rest : List TokenKind) → spelled outline rest ≡ kinds_of outline ++ rest
  spelled-kinds (node span parts) rest = spelled_in-kinds parts rest

  pub spelled_in-kinds : (parts : Parts) (rest : List TokenKind) → spelled_in parts rest ≡ kinds_in parts ++ rest
  spelled_in-kinds none rest = refl
  spelled_in-kinds (token kind parts) rest = ap (λ ts. kind ∷ ts) (spelled_in-kinds parts rest)
  spelled_in-kinds (part outline parts) rest =
      ap (spelled outline) (spelled_in-kinds parts rest) ∙ spelled-kinds outline (kinds_in parts ++ rest)
      ∙ sym (append_assoc (kinds_of outline) (kinds_in parts) rest)
  spelled_in-kinds (provided condition parts) rest = spelled_in-kinds parts rest

pub marked : {m : Mark} {R : Row Step} {S : Rows Step} {ts : List TokenKind} {s to : Made} → Makes R S ts (marked_by m s) to → Makes (form (mark m) R) S ts s to
marked m = alternative 0 done refl (on m)

abbrev pub name_node : List ℕ → Outline
name_node text = node no_span (token (Named text) none)

pub a_name : {kinds : List ℕ} {R : Row Step} {S : Rows Step} {rest : List TokenKind} {s to : Made} (text : List ℕ) → has kinds (name_kind text) ≡ true → Makes R S rest (with_part (name_node text) s) to → Makes (name_of kinds R) S (Named text ∷ rest) s to
a_name text is m = one is (marked m)

pub any_name : {R : Row Step} {S : Rows Step} {rest : List TokenKind} {s to : Made} (text : List ℕ) → Makes R S rest (with_part (name_node text) s) to → Makes (name R) S (Named text ∷ rest) s to
any_name text m = a_name text (name_is_one text) m

-- a form makes a node, whatever is behind it
pub record Forms (n : Form) (o : Outline) : Type 0 where
  pub makes : is_allowed o ≡ true → (R : Row Step) (S : Rows Step) (rest : List TokenKind) (s to : Made) → Makes R S rest (with_part (shape_of o) s) to → Makes (form (plain n) R) S (spelled o rest) s to

-- From a place in the table, which has a row and rows behind it, the reader makes the last parts of the node that has begun
-- and ends it, and comes to what is behind the node.
abbrev pub Place : Type 0
Place = Row Step → Rows Step → Row Step

abbrev pub Behind : Type 0
Behind = Row Step → Rows Step → Rows Step

pub record Closes (row : Place) (rows : Behind) (parts : Parts) : Type 0 where
  pub makes : are_allowed parts ≡ true → (R : Row Step) (S : Rows Step) (rest : List TokenKind) (s to : Made) → Makes R S rest (ended_node s (shape_in parts)) to → Makes (row R S) (rows R S) (spelled_in parts rest) s to

pub closed : Closes (λ R S. at close R) (λ R S. S) none
closed = record { makes = λ allowed R S rest s to m. marked m }

-- where the alternative ends with the node
pub closed_last : Closes (λ R S. at close done) (λ R S. next R S) none
closed_last = record { makes = λ allowed R S rest s to m. marked (on m) }

pub then_token : {kinds : List ℕ} {row : Place} {rows : Behind} {kind : TokenKind} {parts : Parts} → has kinds (kind_of kind) ≡ true → Closes row rows parts → Closes (λ R S. Row.token kinds (row R S)) rows (token kind parts)
then_token {kind = kind} is c = record { makes = λ allowed R S rest s to m. one is (c.makes allowed R S rest (with_token kind s) to m) }

pub then_name_of : {kinds : List ℕ} {row : Place} {rows : Behind} {n : Name} {parts : Parts} → has kinds (name_kind n.text) ≡ true → Closes row rows parts → Closes (λ R S. name_of kinds (row R S)) rows (name_parts n parts)
then_name_of {n = n} is c = record { makes = λ allowed R S rest s to m. a_name n.text is (c.makes allowed R S rest (with_part (name_node n.text) s) to m) }

pub then_name : {row : Place} {rows : Behind} {n : Name} {parts : Parts} → Closes row rows parts → Closes (λ R S. name (row R S)) rows (name_parts n parts)
then_name {n = n} c = then_name_of {n = n} (name_is_one n.text) c

pub then_type : {row : Place} {rows : Behind} {n : TypeName} {parts : Parts} → Closes row rows parts → Closes (λ R S. name (row R S)) rows (type_name n parts)
then_type {n = n} c = record { makes = λ allowed R S rest s to m. any_name n.text (c.makes allowed R S rest (with_part (name_node n.text) s) to m) }

pub then_form : {n : Form} {row : Place} {rows : Behind} {o : Outline} {parts : Parts} → Forms n o → Closes row rows parts → Closes (λ R S. of n (row R S)) rows (part o parts)
then_form {row = row} {rows = rows} {o = o} {parts = parts} f c =
    record {
      makes = λ allowed R S rest s to m.
          let both = and_parts (is_allowed o) (are_allowed parts) allowed in
          f.makes both.0 (row R S) (rows R S) (spelled_in parts rest) s to (c.makes both.1 R S rest (with_part (shape_of o) s) to m);
    }

-- a node in the node, whose parts stand in the same row
pub then_node : {inner : Row Step → Row Step} {row : Place} {rows : Behind} {span : Span} {inside parts : Parts} → Closes (λ R S. inner R) (λ R S. S) inside → Closes row rows parts → Closes (λ R S. at begin (inner (row R S))) rows (part (node span inside) parts)
then_node {row = row} {rows = rows} {inside = inside} {parts = parts} f c =
    record {
      makes = λ allowed R S rest s to m.
          let both = and_parts (are_allowed inside) (are_allowed parts) allowed in
          marked (f.makes both.0 (row R S) (rows R S) (spelled_in parts rest) (opened s) to (c.makes both.1 R S rest (with_part (node no_span (shape_in inside)) s) to m));
    }

pub where_allowed : {row : Place} {rows : Behind} {parts : Parts} (condition : Bool) → (condition ≡ true → Closes row rows parts) → Closes row rows (provided condition parts)
where_allowed {parts = parts} condition c =
    record {
      makes = λ allowed R S rest s to m.
          let both = and_parts condition (are_allowed parts) allowed in
          (c both.0).makes both.1 R S rest s to m;
    }

-- behind the last part of an alternative, an optional part or one time of a repeated part
pub then_on : {row : Place} {rows : Behind} {parts : Parts} → Closes row rows parts → Closes (λ R S. done) (λ R S. next (row R S) (rows R S)) parts
then_on c = record { makes = λ allowed R S rest s to m. on (c.makes allowed R S rest s to m) }

pub then_alternative : {chosen : Row Step} {row : Place} {rows : Behind} {parts : Parts} (n : Form) (place : ℕ) → slice_get (shape_rows n) place ≡ Some chosen → Closes (λ R S. chosen) (λ R S. next (row R S) (rows R S)) parts → Closes (λ R S. of n (row R S)) rows parts
then_alternative {chosen = chosen} n place at c = record { makes = λ allowed R S rest s to m. alternative place chosen at (c.makes allowed R S rest s to m) }

pub then_present : {inner : Row Step} {row : Place} {rows : Behind} {parts : Parts} → Closes (λ R S. inner) (λ R S. next (row R S) (rows R S)) parts → Closes (λ R S. maybe inner (row R S)) rows parts
then_present c = record { makes = λ allowed R S rest s to m. present (c.makes allowed R S rest s to m) }

pub then_absent : {inner : Row Step} {row : Place} {rows : Behind} {parts : Parts} → Closes row rows parts → Closes (λ R S. maybe inner (row R S)) rows parts
then_absent c = record { makes = λ allowed R S rest s to m. absent (c.makes allowed R S rest s to m) }

pub then_again : {inner : Row Step} {row : Place} {rows : Behind} {parts : Parts} → Closes (λ R S. inner) (λ R S. next (many inner (row R S)) (rows R S)) parts → Closes (λ R S. many inner (row R S)) rows parts
then_again c = record { makes = λ allowed R S rest s to m. again (c.makes allowed R S rest s to m) }

pub then_enough : {inner : Row Step} {row : Place} {rows : Behind} {parts : Parts} → Closes row rows parts → Closes (λ R S. many inner (row R S)) rows parts
then_enough c = record { makes = λ allowed R S rest s to m. enough (c.makes allowed R S rest s to m) }

-- a form one of whose alternatives is the parts of a node
pub by_node : {n : Form} {inner : Row Step} {span : Span} {parts : Parts} (place : ℕ) → slice_get (shape_rows n) place ≡ Some (at begin inner) → Closes (λ R S. inner) (λ R S. next R S) parts → Forms n (node span parts)
by_node {inner = inner} place found c =
    record { makes = λ allowed R S rest s to m. alternative place (at begin inner) found (marked (c.makes allowed R S rest (opened s) to m)) }

-- a form one of whose alternatives is another form
pub by_form : {n inner : Form} {o : Outline} (place : ℕ) → slice_get (shape_rows n) place ≡ Some (of inner done) → Forms inner o → Forms n o
by_form {inner = inner} place found f =
    record { makes = λ allowed R S rest s to m. alternative place (of inner done) found (f.makes allowed done (next R S) rest s to (on m)) }
