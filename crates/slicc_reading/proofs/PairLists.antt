-- How attributes are read.
use Rattle.std.proofs.Common.{◌≡◌, ℕ, ◌||◌, ◌==◌, true, false, Bool, List, [], ◌∷◌, ◌++◌, refl, sym, subst, ap}
use Rattle.std.proofs.lemmas.Bool.{false≢true}
use Rattle.slicc_ast.specs.declared.tree.declaration.Pair.{Pair}
use Rattle.slicc_ast.specs.declared.tree.declaration.PairValue.{PairValue}
use Rattle.slicc_ast.specs.declared.tree.declaration.PairValue.TheVariants.{Quoted as QuotedValue, Number as NumberValue, Name as NameValue}
use Rattle.slicc_ast.specs.declared.tree.span.Span.{Span}
use Rattle.slicc_ast.specs.declared.tree.token.Sign.TheVariants.{Comma}
use Rattle.slicc_ast.specs.declared.tree.token.TokenKind.TheVariants.{Name as Named, Number, Quoted}
use Rattle.slicc_ast.specs.Declarations.{pair as pair_outline}
use Rattle.slicc_ast.specs.Prelude.{pair_list, pair_value, node, Parts, none, part, done, has, is_ahead, ◌▸◌, comma, names_of, of, kind_of, name_kind, number, quoted, sign_kind}
use Rattle.slicc_ast.specs.Names.{sign}
use Rattle.slicc_ast.specs.Grammar.Row.{token}
use Rattle.slicc_ast.proofs.Leading.{name_is_one}
use Rattle.slicc_ast.specs.Form.Form.{pair}
use Rattle.slicc_ast.specs.Parts.{Part, pairs}
use Rattle.slicc_lex.specs.declared.token.Token.{Token}
use Rattle.slicc_lex.specs.Prelude.{symbols}
use Rattle.slicc_reading.specs.declared.fault.Fault.{Fault}
use Rattle.slicc_reading.specs.Prelude.{IsValue, value_kinds, Covers, AreParts, IsRead, AreRead, Leads, Refuses, spelled, nothing, inside}
use Rattle.slicc_reading.proofs.Parts.{token_read}
use Rattle.slicc_reading.proofs.Choices.{leads_here, once_more, fault_in_more, no_more, all_of}
use Rattle.slicc_reading.proofs.Spans.{token_covers}

wide : (a b : Bool) (others : Bool) → others ≡ true → (a || (b || others)) ≡ true
wide true b others is = refl
wide false true others is = refl
wide false false others is = is

name_value : (text : List ℕ) → has value_kinds (name_kind text) ≡ true
name_value text = wide (quoted == name_kind text) (number == name_kind text) (has names_of (name_kind text)) (name_is_one text)

has_kind : (kinds : List ℕ) (t : Token) (kind : _) → t.kind ≡ kind → has kinds (kind_of kind) ≡ true → has kinds (kind_of t.kind) ≡ true
has_kind kinds t kind is has_it = subst (λ k. has kinds (kind_of k) ≡ true) (sym is) has_it

pub value_read : (room : ℕ) (v : PairValue) (t : Token) (tokens left : List Token) → tokens ≡ t ∷ left → IsValue t v → AreRead room (token value_kinds) (pair_value v) tokens left
value_read room (QuotedValue text) t tokens left is same = token_read room value_kinds (Quoted text) t tokens left is (has_kind value_kinds t (Quoted text) same refl) same
value_read room (NumberValue n) t tokens left is same = token_read room value_kinds (Number n) t tokens left is (has_kind value_kinds t (Number n) same refl) same
value_read room (NameValue n) t tokens left is same =
    let kind = same.0 in
    let covers : Covers n.span tokens left = subst (λ s. Covers s tokens left) (sym same.1) (token_covers t tokens left is) in
    let read = token_read room value_kinds (Named n.text) t tokens left is (has_kind value_kinds t (Named n.text) kind (name_value n.text)) kind in
    record {
      passes = read.passes;
      spells = λ others end m. inside (spelled covers (read.spells none left nothing)) m;
      within = read.within;
    }

neither_of : (a b c d : Bool) → (a || (b || (c || false))) ≡ false → (d || false) ≡ false → (a || (b || (c || (d || false)))) ≡ false
neither_of true b c d first other = absurd (false≢true (sym first))
neither_of false true c d first other = absurd (false≢true (sym first))
neither_of false false true d first other = absurd (false≢true (sym first))
neither_of false false false d first other = other

neither_has : (kind : ℕ) → has names_of kind ≡ false → has (quoted ∷ []) kind ≡ false → has (names_of ++ quoted ∷ []) kind ≡ false
neither_has kind = neither_of (0 == kind) (1 == kind) (2 == kind) (quoted == kind)

pub no_pair : (tokens : List Token) → is_ahead names_of (symbols tokens) ≡ false → is_ahead (quoted ∷ []) (symbols tokens) ≡ false → is_ahead (names_of ++ quoted ∷ []) (symbols tokens) ≡ false
no_pair [] first other = refl
no_pair (t ∷ tokens) first other = neither_has (kind_of t.kind) first other

-- attributes, and then further parts
abbrev pub pairs_onto : List Pair → Parts → Parts
pairs_onto [] others = others
pairs_onto (first ∷ items) others = sign Comma (part (pair_outline first) (pairs_onto items others))

pairs_onto_last : (items : List Pair) (last : Pair) (others : Parts) → pairs_onto (items ++ last ∷ []) others ≡ pairs_onto items (sign Comma (part (pair_outline last) others))
pairs_onto_last [] last others = refl
pairs_onto_last (first ∷ items) last others = ap (λ p. sign Comma (part (pair_outline first) p)) (pairs_onto_last items last others)

pairs_onto_none : (items : List Pair) → pairs_onto items none ≡ pair_list items
pairs_onto_none [] = refl
pairs_onto_none (first ∷ items) = ap (λ p. sign Comma (part (pair_outline first) p)) (pairs_onto_none items)

abbrev pub next_pair : Part
next_pair = comma ▸ of pair

pub record ArePairs (room : ℕ) (tokens : List Token) (items : List Pair) (left : List Token) : Type 0 where
  pub leads : Leads room pairs tokens pairs left
  pub spells : (others : Parts) (end : List Token) → AreParts others left end → AreParts (pairs_onto items others) tokens end

pub pairs_begin : (room : ℕ) (tokens : List Token) (items : List Pair) → items ≡ [] → ArePairs room tokens items tokens
pairs_begin room tokens items is =
    subst (λ xs. ArePairs room tokens xs tokens) (sym is) (record { leads = leads_here room pairs tokens; spells = λ others end m. m })

pub one_pair : {room : ℕ} {tokens now after : List Token} (items : List Pair) (last : Pair) (more : List Pair)
    → more ≡ items ++ last ∷ [] → is_ahead (sign_kind Comma ∷ []) (symbols now) ≡ true
    → AreRead room next_pair (λ others. sign Comma (part (pair_outline last) others)) now after
    → ArePairs room tokens items now → ArePairs room tokens more after
one_pair {room = room} {tokens = tokens} {after = after} items last more is ahead r so_far =
    subst (λ xs. ArePairs room tokens xs after) (sym is)
    (record {
      leads = once_more next_pair (λ row. row) ahead r.passes r.within so_far.leads;
      spells = λ others end m. subst (λ p. AreParts p tokens end) (sym (pairs_onto_last items last others)) (so_far.spells _ end (r.spells others end m));
    })

pub fault_in_pairs : {room : ℕ} {tokens now : List Token} {items : List Pair} {fault : Fault}
    → is_ahead (sign_kind Comma ∷ []) (symbols now) ≡ true → Refuses room next_pair now fault
    → ArePairs room tokens items now → Refuses room pairs tokens fault
fault_in_pairs ahead r so_far = fault_in_more next_pair (λ row. row) ahead r so_far.leads

pub pairs_end : {room : ℕ} {tokens left : List Token} (span : Span) (items : List Pair)
    → is_ahead (sign_kind Comma ∷ []) (symbols left) ≡ false → Covers span tokens left
    → ArePairs room tokens items left → IsRead room pairs (node span (pair_list items)) tokens tokens left
pairs_end {tokens = tokens} {left = left} span items ended covers so_far =
    record {
      passes = all_of (no_more (next_pair done) (λ row. row) ended so_far.leads);
      is_node = spelled covers (subst (λ p. AreParts p tokens left) (pairs_onto_none items) (so_far.spells none left nothing));
      within = so_far.leads.within;
    }
