-- A node that was read is spelled by the tokens up to those that are left.
use Rattle.std.proofs.Common.{◌≡◌, ◌&&◌, Bool, true, false, List, [], ◌∷◌, ◌++◌, refl, sym, ap, ◌∙◌, append_assoc}
use Rattle.slicc_ast.specs.Prelude.{Outline, Parts, kinds_of, kinds_in, is_allowed, are_allowed, IsPlaced, ArePlaced}
use Rattle.slicc_lex.specs.declared.token.Token.{Token}
use Rattle.slicc_lex.specs.Prelude.{SpellsNode, token_kinds, token_spans}
use Rattle.slicc_reading.specs.Prelude.{IsNode, AreParts, spelled, nothing, one, inside, allowed}

pub record IsNodeOf (outline : Outline) (tokens left : List Token) : Type 0 where
  pub own : List Token
  pub split : tokens ≡ own ++ left
  pub kinds : token_kinds own ≡ kinds_of outline
  pub is_right : is_allowed outline ≡ true
  pub placed : IsPlaced outline (token_spans own)

pub record ArePartsOf (parts : Parts) (tokens left : List Token) : Type 0 where
  pub own : List Token
  pub split : tokens ≡ own ++ left
  pub kinds : token_kinds own ≡ kinds_in parts
  pub are_right : are_allowed parts ≡ true
  pub placed : ArePlaced parts (token_spans own)

both_true : (a b : Bool) → a ≡ true → b ≡ true → (a && b) ≡ true
both_true true b first other = other
both_true false b first other = first

kinds_append : (a b : List Token) → token_kinds (a ++ b) ≡ token_kinds a ++ token_kinds b
kinds_append [] b = refl
kinds_append (t ∷ a) b = ap (λ ks. t.kind ∷ ks) (kinds_append a b)

spans_append : (a b : List Token) → token_spans (a ++ b) ≡ token_spans a ++ token_spans b
spans_append [] b = refl
spans_append (t ∷ a) b = ap (λ ks. t.span ∷ ks) (spans_append a b)

mutual
  pub node_of : {outline : Outline} {tokens left : List Token} → IsNode outline tokens left → IsNodeOf outline tokens left
  node_of (spelled {span = span} {parts = parts} covers m) =
      let inner = parts_of m in
      record { own = inner.own; split = inner.split; kinds = inner.kinds; is_right = inner.are_right; placed = (covers inner.own inner.split, inner.placed) }

  pub parts_of : {parts : Parts} {tokens left : List Token} → AreParts parts tokens left → ArePartsOf parts tokens left
  parts_of nothing = record { own = []; split = refl; kinds = refl; are_right = refl; placed = refl }
  parts_of (one {kind = kind} {parts = parts} {t = t} {tokens = tokens} {left = left} same m) =
      let others = parts_of m in
      record {
        own = t ∷ others.own;
        split = ap (λ ts. t ∷ ts) others.split;
        kinds = ap (λ k. k ∷ token_kinds others.own) same ∙ ap (λ ks. kind ∷ ks) others.kinds;
        are_right = others.are_right;
        placed = others.placed;
      }
  parts_of (inside {outline = outline} {parts = parts} {tokens = tokens} {between = between} {left = left} n m) =
      let first = node_of n in
      let others = parts_of m in
      record {
        own = first.own ++ others.own;
        split = first.split ∙ ap (λ ts. first.own ++ ts) others.split ∙ sym (append_assoc first.own others.own left);
        kinds = kinds_append first.own others.own ∙ ap (λ ks. ks ++ token_kinds others.own) first.kinds ∙ ap (λ ks. kinds_of outline ++ ks) others.kinds;
        are_right = both_true (is_allowed outline) (are_allowed parts) first.is_right others.are_right;
        placed = (token_spans first.own, token_spans others.own, spans_append first.own others.own, first.placed, others.placed);
      }
  parts_of (allowed {condition = condition} {parts = parts} holds m) =
      let others = parts_of m in
      record { own = others.own; split = others.split; kinds = others.kinds; are_right = both_true condition (are_allowed parts) holds others.are_right; placed = others.placed }

pub spells_node : {outline : Outline} {tokens left : List Token} → (n : IsNodeOf outline tokens left) → SpellsNode outline n.own
spells_node {outline = outline} n = record { kinds = n.kinds; allowed = n.is_right; placed = n.placed }
