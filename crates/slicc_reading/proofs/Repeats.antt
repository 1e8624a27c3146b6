-- Loops that read a repeated part into a list, and what the list is spelled by.
use Rattle.std.proofs.Common.{◌≡◌, ◌==◌, ℕ, suc, rules, true, false, not, IsTrue, List, [], ◌∷◌, ◌++◌, length, refl, sym, subst, ap, ◌∙◌}
use Rattle.slicc_ast.specs.declared.tree.span.Span.{Span}
use Rattle.slicc_ast.specs.Prelude.{node, none, Parts, first_of, done, is_ahead, ◌▸◌, repeated, table}
use Rattle.slicc_ast.specs.Parts.{Part}
use Rattle.slicc_lex.specs.declared.token.Token.{Token}
use Rattle.slicc_lex.specs.Prelude.{symbols}
use Rattle.slicc_reading.specs.declared.fault.Fault.{Fault}
use Rattle.slicc_reading.specs.Prelude.{AreParts, AreRead, Covers, IsRead, Leads, Refuses, nothing, spelled, IsSpelledBefore}
use Rattle.slicc_reading.proofs.Choices.{leads_here, leads_behind, once_more, fault_in_more, no_more, all_of}

-- the parts of each of a list, and then further parts
abbrev pub each : {A : Type 0} → (A → Parts → Parts) → List A → Parts → Parts
each one [] others = others
each one (first ∷ items) others = one first (each one items others)

pub each_last : {A : Type 0} (one : A → Parts → Parts) (items : List A) (last : A) (others : Parts)
    → each one (items ++ last ∷ []) others ≡ each one items (one last others)
each_last one [] last others = refl
each_last one (first ∷ items) last others = ap (λ p. one first p) (each_last one items last others)

-- so many of a repeated part are read, of which some may be read before its tokens
pub record AreRepeated {A : Type 0} (one : A → Parts → Parts) (room : ℕ) (item : Part) (start tokens : List Token) (items : List A) (now : List Token) : Type 0 where
  pub leads : Leads room (repeated item) tokens (repeated item) now
  pub spells : (others : Parts) (end : List Token) → AreParts others now end → AreParts (each one items others) start end

pub none_yet : {A : Type 0} (one : A → Parts → Parts) (room : ℕ) (item : Part) (tokens : List Token) (items : List A)
    → items ≡ [] → AreRepeated one room item tokens tokens items tokens
none_yet one room item tokens items is =
    subst (λ xs. AreRepeated one room item tokens tokens xs tokens) (sym is)
    (record { leads = leads_here room (repeated item) tokens; spells = λ others end m. m })

pub one_more : {A : Type 0} {one : A → Parts → Parts} {room : ℕ} {item : Part} {start tokens now after : List Token} (items : List A) (last : A) (more : List A)
    → more ≡ items ++ last ∷ [] → is_ahead (first_of table (item done)) (symbols now) ≡ true
    → AreRead room item (one last) now after → AreRepeated one room item start tokens items now → AreRepeated one room item start tokens more after
one_more {one = one} {room = room} {item = item} {start = start} {tokens = tokens} {after = after} items last more is ahead r so_far =
    subst (λ xs. AreRepeated one room item start tokens xs after) (sym is)
    (record {
      leads = once_more item (λ row. row) ahead r.passes r.within so_far.leads;
      spells = λ others end m. subst (λ p. AreParts p start end) (sym (each_last one items last others)) (so_far.spells _ end (r.spells others end m));
    })

pub fault_in_one : {A : Type 0} {one : A → Parts → Parts} {room : ℕ} {item : Part} {start tokens now : List Token} {items : List A} {fault : Fault}
    → is_ahead (first_of table (item done)) (symbols now) ≡ true → Refuses room item now fault
    → AreRepeated one room item start tokens items now → Refuses room (repeated item) tokens fault
fault_in_one {item = item} ahead r so_far = fault_in_more item (λ row. row) ahead r so_far.leads

pub all_read : {A : Type 0} {one : A → Parts → Parts} {room : ℕ} {item : Part} {tokens left : List Token} {items : List A} (parts : Parts → Parts)
    → ((others : Parts) → parts others ≡ each one items others)
    → is_ahead (first_of table (item done)) (symbols left) ≡ false
    → AreRepeated one room item tokens tokens items left → AreRead room (repeated item) parts tokens left
all_read {item = item} {tokens = tokens} parts same ended so_far =
    record {
      passes = all_of (no_more (item done) (λ row. row) ended so_far.leads);
      spells = λ others end m. subst (λ p. AreParts p tokens end) (sym (same others)) (so_far.spells others end m);
      within = so_far.leads.within;
    }

-- one was read before
pub one_before : {A : Type 0} (one : A → Parts → Parts) (room : ℕ) (item : Part) (start tokens : List Token) (before : List A) (first : A) (items : List A)
    → before ≡ [] → items ≡ before ++ first ∷ [] → IsSpelledBefore (one first) start tokens → AreRepeated one room item start tokens items tokens
one_before one room item start tokens before first items empty is spelled_before =
    subst (λ xs. AreRepeated one room item start tokens xs tokens) (sym (is ∙ ap (λ xs. xs ++ first ∷ []) empty))
    (record { leads = leads_here room (repeated item) tokens; spells = spelled_before })

pub all_from : {A : Type 0} {one : A → Parts → Parts} {room : ℕ} {item : Part} {start tokens left : List Token} {items : List A} (span : Span) (parts : Parts)
    → parts ≡ each one items none → is_ahead (first_of table (item done)) (symbols left) ≡ false → Covers span start left
    → AreRepeated one room item start tokens items left → IsRead room (repeated item) (node span parts) start tokens left
all_from {item = item} {start = start} {left = left} span parts same ended covers so_far =
    record {
      passes = all_of (no_more (item done) (λ row. row) ended so_far.leads);
      is_node = spelled covers (subst (λ p. AreParts p start left) (sym same) (so_far.spells none left nothing));
      within = so_far.leads.within;
    }

-- a first one and so many further ones, each behind a separator, are read
pub record AreSeparated {A : Type 0} (first_one one : A → Parts → Parts) (room : ℕ) (start item : Part) (tokens : List Token) (items : List A) (now : List Token) : Type 0 where
  pub first : A
  pub others : List A
  pub is : items ≡ first ∷ others
  pub leads : Leads room (start ▸ repeated item) tokens (repeated item) now
  pub spells : (further : Parts) (end : List Token) → AreParts further now end → AreParts (first_one first (each one others further)) tokens end

pub first_read : {A : Type 0} {first_one : A → Parts → Parts} (one : A → Parts → Parts) {room : ℕ} {start : Part} (item : Part) {tokens now : List Token} (before : List A) (first : A) (items : List A)
    → before ≡ [] → items ≡ before ++ first ∷ [] → AreRead room start (first_one first) tokens now
    → AreSeparated first_one one room start item tokens items now
first_read one item before first items empty is r =
    record {
      first = first;
      others = [];
      is = is ∙ ap (λ xs. xs ++ first ∷ []) empty;
      leads = leads_behind (repeated item) r;
      spells = r.spells;
    }

pub one_further : {A : Type 0} {first_one one : A → Parts → Parts} {room : ℕ} {start item : Part} {tokens now after : List Token} (items : List A) (last : A) (more : List A)
    → more ≡ items ++ last ∷ [] → is_ahead (first_of table (item done)) (symbols now) ≡ true
    → AreRead room item (one last) now after → AreSeparated first_one one room start item tokens items now
    → AreSeparated first_one one room start item tokens more after
one_further {first_one = first_one} {one = one} {item = item} {tokens = tokens} items last more is ahead r so_far =
    record {
      first = so_far.first;
      others = so_far.others ++ last ∷ [];
      is = is ∙ ap (λ xs. xs ++ last ∷ []) so_far.is;
      leads = once_more item (λ row. row) ahead r.passes r.within so_far.leads;
      spells = λ further end m. subst (λ p. AreParts (first_one so_far.first p) tokens end) (sym (each_last one so_far.others last further)) (so_far.spells _ end (r.spells further end m));
    }

pub fault_in_further : {A : Type 0} {first_one one : A → Parts → Parts} {room : ℕ} {start item : Part} {tokens now : List Token} {items : List A} {fault : Fault}
    → is_ahead (first_of table (item done)) (symbols now) ≡ true → Refuses room item now fault
    → AreSeparated first_one one room start item tokens items now → Refuses room (start ▸ repeated item) tokens fault
fault_in_further {item = item} ahead r so_far = fault_in_more item (λ row. row) ahead r so_far.leads

-- what the list is spelled by, where it has a first item
pub all_separated : {A : Type 0} {first_one one : A → Parts → Parts} {room : ℕ} {start item : Part} {tokens left : List Token} {items : List A} (parts : List A → Parts → Parts)
    → ((first : A) (others : List A) (further : Parts) → parts (first ∷ others) further ≡ first_one first (each one others further))
    → is_ahead (first_of table (item done)) (symbols left) ≡ false
    → AreSeparated first_one one room start item tokens items left → AreRead room (start ▸ repeated item) (parts items) tokens left
all_separated {room = room} {start = start} {item = item} {tokens = tokens} {left = left} parts same ended so_far =
    subst (λ xs. AreRead room (start ▸ repeated item) (parts xs) tokens left) (sym so_far.is)
    (record {
      passes = all_of (no_more (item done) (λ row. row) ended so_far.leads);
      spells = λ further end m. subst (λ p. AreParts p tokens end) (sym (same so_far.first so_far.others further)) (so_far.spells further end m);
      within = so_far.leads.within;
    })

not_empty : (n : ℕ) → IsTrue (not (suc n == 0))
not_empty n = search rules

pub some_separated : {A : Type 0} {first_one one : A → Parts → Parts} {room : ℕ} {start item : Part} {tokens left : List Token} {items : List A}
    → AreSeparated first_one one room start item tokens items left → IsTrue (not (length items == 0))
some_separated so_far = subst (λ xs. IsTrue (not (length xs == 0))) (sym so_far.is) (not_empty (length so_far.others))
