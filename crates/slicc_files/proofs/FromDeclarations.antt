-- Declarations that have no statements in them, from their outlines.
use Rattle.std.proofs.Common.{◌≡◌, Bool, true, false, not, Option, Some, None, List, [], ◌∷◌, refl, ap, ◌∙◌}
use Rattle.std.proofs.Math.Path.{ap₂}
use Rattle.std.proofs.lemmas.Bool.{and_parts, not-true}
use Rattle.slicc_ast.specs.declared.tree.span.Span.{Span}
use Rattle.slicc_ast.specs.declared.tree.token.TokenKind.{TokenKind}
use Rattle.slicc_ast.specs.declared.tree.token.TokenKind.TheVariants.{Name as Named, Number, Quoted, Word, Sign, End}
use Rattle.slicc_ast.specs.declared.tree.name.Name.{Name}
use Rattle.slicc_ast.specs.declared.tree.name.TypeName.{TypeName}
use Rattle.slicc_ast.specs.declared.tree.balanced.Balanced.{Balanced}
use Rattle.slicc_ast.specs.declared.tree.declaration.Pairs.{Pairs}
use Rattle.slicc_ast.specs.declared.tree.declaration.Pair.{Pair}
use Rattle.slicc_ast.specs.declared.tree.declaration.Pair.TheVariants.{Named, Bare}
use Rattle.slicc_ast.specs.declared.tree.declaration.PairValue.{PairValue}
use Rattle.slicc_ast.specs.declared.tree.declaration.PairValue.TheVariants.{Quoted as QuotedValue, Number as NumberValue, Name as NameValue}
use Rattle.slicc_ast.specs.declared.tree.declaration.Formals.{Formals}
use Rattle.slicc_ast.specs.declared.tree.declaration.Formal.{Formal}
use Rattle.slicc_ast.specs.declared.tree.declaration.Skipped.{Skipped}
use Rattle.slicc_ast.specs.declared.tree.declaration.Enumeration.{Enumeration}
use Rattle.slicc_ast.specs.declared.tree.declaration.Symbol.{Symbol}
use Rattle.slicc_ast.specs.declared.tree.declaration.States.{States}
use Rattle.slicc_ast.specs.declared.tree.declaration.State.{State}
use Rattle.slicc_ast.specs.declared.tree.declaration.Structure.{Structure}
use Rattle.slicc_ast.specs.declared.tree.declaration.Member.{Member}
use Rattle.slicc_ast.specs.declared.tree.declaration.Member.TheVariants.{Field, Method, Skipped as SkippedMember}
use Rattle.slicc_ast.specs.Outline.{token}
use Rattle.slicc_ast.specs.Prelude.{Outline, node, Parts, none, part, provided, is_allowed, are_allowed, balanced_list, pair_list, more_formals, formal_list, is_skipped, skipped, symbol_list, state_list, member_list}
use Rattle.slicc_ast.specs.Names.{sign}
use Rattle.slicc_ast.specs.Declarations.{pair, formal, enumeration, states, member, structure}
use Rattle.slicc_ast.specs.declared.tree.token.Sign.TheVariants.{CloseBrace}
use Rattle.slicc_files.proofs.Bare.{bare, bare_in}
use Rattle.slicc_files.proofs.Places.{span_of, parts_of, nodes_in, nodes_of, is_token, beyond, past_token, first, second, third, fourth, fifth, text_of}
use Rattle.slicc_files.proofs.FromNames.{name_from, type_from}
use Rattle.slicc_files.proofs.FromBalanced.{balanced_from, balanced_again}

-- attributes
abbrev value_of : TokenKind → PairValue
value_of (Named text) = QuotedValue []
value_of (Number n) = NumberValue n
value_of (Quoted text) = QuotedValue text
value_of (Word reserved) = QuotedValue []
value_of (Sign which) = QuotedValue []
value_of End = QuotedValue []

abbrev value_in : Parts → PairValue
value_in none = QuotedValue []
value_in (token kind parts) = value_of kind
value_in (part outline parts) = NameValue (name_from outline)
value_in (provided condition parts) = QuotedValue []

abbrev pair_in : Span → Parts → Pair
pair_in span none = Bare [] span
pair_in span (token kind parts) = Bare (text_of kind) span
pair_in span (part outline parts) = Named (name_from outline) (value_in (beyond parts)) span
pair_in span (provided condition parts) = Bare [] span

abbrev pair_from : Outline → Pair
pair_from (node span parts) = pair_in span parts

pair_again : (p : Pair) → pair_from (bare (pair p)) ≡ p
pair_again (Named key (QuotedValue text) span) = refl
pair_again (Named key (NumberValue n) span) = refl
pair_again (Named key (NameValue n) span) = refl
pair_again (Bare text span) = refl

abbrev pair_items : List Outline → List Pair
pair_items [] = []
pair_items (outline ∷ outlines) = pair_from outline ∷ pair_items outlines

pair_items_again : (ps : List Pair) → pair_items (nodes_in (bare_in (pair_list ps))) ≡ ps
pair_items_again [] = refl
pair_items_again (p ∷ ps) = ap₂ (λ (x : Pair) (xs : List Pair). x ∷ xs) (pair_again p) (pair_items_again ps)

abbrev pub pairs_from : Outline → Pairs
pairs_from o = record { items = pair_items (nodes_of o); span = span_of o }

pub pairs_again : (p : Pairs) → pairs_from (node p.span (bare_in (pair_list p.items))) ≡ p
pairs_again p = ap (λ (xs : List Pair). record p { items = xs }) (pair_items_again p.items)

-- formals
abbrev optional_name_in : Parts → Option Name
optional_name_in none = None
optional_name_in (token kind parts) = None
optional_name_in (part outline parts) = Some (name_from outline)
optional_name_in (provided condition parts) = None

abbrev formal_from : Outline → Formal
formal_from o =
    let behind = beyond (parts_of o) in
    record {
      kind = type_from (first (nodes_of o));
      has_star = is_token behind;
      name = optional_name_in (past_token behind);
      span = span_of o;
    }

formal_again : (f : Formal) → formal_from (bare (formal f)) ≡ f
formal_again f = at f.kind f.has_star f.name f.span
  where
    at : (kind : TypeName) (starred : Bool) (called : Option Name) (span : Span) → formal_from (bare (formal (record { kind = kind; has_star = starred; name = called; span = span }))) ≡ record { kind = kind; has_star = starred; name = called; span = span }
    at kind true None span = refl
    at kind true (Some n) span = refl
    at kind false None span = refl
    at kind false (Some n) span = refl

abbrev formal_items : List Outline → List Formal
formal_items [] = []
formal_items (outline ∷ outlines) = formal_from outline ∷ formal_items outlines

more_formals_again : (fs : List Formal) → formal_items (nodes_in (bare_in (more_formals fs))) ≡ fs
more_formals_again [] = refl
more_formals_again (f ∷ fs) = ap₂ (λ (x : Formal) (xs : List Formal). x ∷ xs) (formal_again f) (more_formals_again fs)

formal_items_again : (fs : List Formal) → formal_items (nodes_in (bare_in (formal_list fs))) ≡ fs
formal_items_again [] = refl
formal_items_again (f ∷ fs) = ap₂ (λ (x : Formal) (xs : List Formal). x ∷ xs) (formal_again f) (more_formals_again fs)

abbrev pub formals_from : Outline → Formals
formals_from o = record { items = formal_items (nodes_of o); span = span_of o }

pub formals_again : (f : Formals) → formals_from (node f.span (bare_in (formal_list f.items))) ≡ f
formals_again f = ap (λ (xs : List Formal). record f { items = xs }) (formal_items_again f.items)

-- what is skipped
abbrev pub skipped_from : Outline → Skipped
skipped_from o =
    let inner = nodes_of o in
    record {
      kind = type_from (first inner);
      name = name_from (second inner);
      arguments = balanced_from (third inner);
      pairs = pairs_from (fourth inner);
      body = balanced_from (fifth inner);
      span = span_of o;
    }

pub skipped_again : (s : Skipped) → skipped_from (bare (skipped s)) ≡ s
skipped_again s =
    ap (λ (x : Balanced). record s { arguments = x; pairs = pairs_from (node s.pairs.span (bare_in (pair_list s.pairs.items))); body = balanced_from (node s.body.span (bare_in (balanced_list s.body.parts))) }) (balanced_again s.arguments)
    ∙ ap (λ (x : Pairs). record s { pairs = x; body = balanced_from (node s.body.span (bare_in (balanced_list s.body.parts))) }) (pairs_again s.pairs)
    ∙ ap (λ (x : Balanced). record s { body = x }) (balanced_again s.body)

-- enumerations
abbrev symbols_from : List Outline → List Symbol
symbols_from [] = []
symbols_from (called ∷ []) = []
symbols_from (called ∷ attributes ∷ outlines) = record { name = name_from called; pairs = pairs_from attributes } ∷ symbols_from outlines

symbols_again : (ss : List Symbol) → symbols_from (nodes_in (bare_in (symbol_list ss (sign CloseBrace none)))) ≡ ss
symbols_again [] = refl
symbols_again (s ∷ ss) =
    ap₂ (λ (x : Symbol) (xs : List Symbol). x ∷ xs) (ap (λ (x : Pairs). record s { pairs = x }) (pairs_again s.pairs)) (symbols_again ss)

abbrev past_two : List Outline → List Outline
past_two [] = []
past_two (a ∷ []) = []
past_two (a ∷ b ∷ outlines) = outlines

abbrev pub enumeration_from : Outline → Enumeration
enumeration_from o =
    let inner = nodes_of o in
    record {
      name = name_from (first inner);
      pairs = pairs_from (second inner);
      members = symbols_from (past_two inner);
      span = span_of o;
    }

pub enumeration_again : (e : Enumeration) → enumeration_from (bare (enumeration e)) ≡ e
enumeration_again e =
    ap₂ (λ (x : Pairs) (xs : List Symbol). record e { pairs = x; members = xs }) (pairs_again e.pairs) (symbols_again e.members)

-- states
abbrev states_in : List Outline → List State
states_in [] = []
states_in (called ∷ []) = []
states_in (called ∷ owner ∷ []) = []
states_in (called ∷ owner ∷ permission ∷ []) = []
states_in (called ∷ owner ∷ permission ∷ attributes ∷ outlines) =
    record { name = name_from called; owner = name_from owner; permission = name_from permission; pairs = pairs_from attributes } ∷ states_in outlines

states_in_again : (ss : List State) → states_in (nodes_in (bare_in (state_list ss (sign CloseBrace none)))) ≡ ss
states_in_again [] = refl
states_in_again (s ∷ ss) =
    ap₂ (λ (x : State) (xs : List State). x ∷ xs) (ap (λ (x : Pairs). record s { pairs = x }) (pairs_again s.pairs)) (states_in_again ss)

abbrev pub states_from : Outline → States
states_from o =
    let inner = nodes_of o in
    record {
      name = name_from (first inner);
      pairs = pairs_from (second inner);
      members = states_in (past_two inner);
      span = span_of o;
    }

pub states_again : (s : States) → states_from (bare (states s)) ≡ s
states_again s =
    ap₂ (λ (x : Pairs) (xs : List State). record s { pairs = x; members = xs }) (pairs_again s.pairs) (states_in_again s.members)

-- structures: a member has one of two names where it is skipped, and else a parenthesis behind its name where it is a method
abbrev plain_member : Outline → Bool → Member
plain_member o true =
    let inner = nodes_of o in
    Method (type_from (first inner)) (name_from (second inner)) (formals_from (third inner)) (pairs_from (fourth inner)) (span_of o)
plain_member o false =
    let inner = nodes_of o in
    Field (type_from (first inner)) (name_from (second inner)) (pairs_from (third inner)) (span_of o)

abbrev member_by : Outline → Bool → Member
member_by o true = SkippedMember (skipped_from o)
member_by o false = plain_member o true

abbrev member_with : Outline → Bool → Member
member_with o true = member_by o (is_skipped (name_from (second (nodes_of o))))
member_with o false = plain_member o false

abbrev pub member_from : Outline → Member
member_from o = member_with o (is_token (beyond (beyond (parts_of o))))

pub member_again : (m : Member) → is_allowed (member m) ≡ true → member_from (bare (member m)) ≡ m
member_again (Field kind field attributes span) allowed = ap (λ (x : Pairs). Field kind field x span) (pairs_again attributes)
member_again (Method kind method parameters attributes span) allowed =
    ap (λ b. member_by (bare (member (Method kind method parameters attributes span))) b) (not-true (is_skipped method) (and_parts (not (is_skipped method)) _ allowed).0)
    ∙ ap₂ (λ (x : Formals) (y : Pairs). Method kind method x y span) (formals_again parameters) (pairs_again attributes)
member_again (SkippedMember s) allowed =
    ap (λ b. member_by (bare (skipped s)) b) (and_parts (is_skipped s.name) _ allowed).0
    ∙ ap (λ (x : Skipped). SkippedMember x) (skipped_again s)

abbrev members_from : List Outline → List Member
members_from [] = []
members_from (outline ∷ outlines) = member_from outline ∷ members_from outlines

members_again : (ms : List Member) → are_allowed (member_list ms (sign CloseBrace none)) ≡ true → members_from (nodes_in (bare_in (member_list ms (sign CloseBrace none)))) ≡ ms
members_again [] allowed = refl
members_again (m ∷ ms) allowed =
    let both = and_parts (is_allowed (member m)) (are_allowed (member_list ms (sign CloseBrace none))) allowed in
    ap₂ (λ (x : Member) (xs : List Member). x ∷ xs) (member_again m both.0) (members_again ms both.1)

abbrev pub structure_from : Outline → Structure
structure_from o =
    let inner = nodes_of o in
    record {
      name = name_from (first inner);
      pairs = pairs_from (second inner);
      members = members_from (past_two inner);
      span = span_of o;
    }

pub structure_again : (s : Structure) → is_allowed (structure s) ≡ true → structure_from (bare (structure s)) ≡ s
structure_again s allowed =
    let both = and_parts (are_allowed (pair_list s.pairs.items)) (are_allowed (member_list s.members (sign CloseBrace none))) allowed in
    ap₂ (λ (x : Pairs) (xs : List Member). record s { pairs = x; members = xs }) (pairs_again s.pairs) (members_again s.members both.1)
