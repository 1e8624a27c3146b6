-- A member is told by the word that names it as a default.
use Rattle.std.proofs.Common.{◌≡◌, ◌++◌, ℕ, false, List, [], ◌∷◌, refl, sym, ◌∙◌, ap, codes}
use Rattle.std.specs.List.{list_any}
use Rattle.std.specs.Str.{bytes_eq}
use Rattle.slicc_plan.specs.Prelude.{Scope, everywhere, within, default_name, default_names}
use Rattle.declaration_rules.proofs.DefaultNames.{bytes_eq-swapped, parts_joined}
use Rattle.declared_types.proofs.NameParts.{same_prefix}

pub not_named : (text own member : List ℕ) → ((rest : List ℕ) → bytes_eq (default_name own rest) text ≡ false) → false ≡ bytes_eq text (default_name own member)
not_named text own member differs = sym (bytes_eq-swapped text (default_name own member) ∙ differs member)

pub named_so : (text own member rest : List ℕ) → text ≡ default_name own rest → bytes_eq rest member ≡ bytes_eq text (default_name own member)
named_so text own member rest e =
    sym (same_prefix (own ++ codes "_") rest member) ∙ ap (λ x. bytes_eq x (default_name own member)) (sym e)

pub not_machine : (text machine own member : List ℕ) → ((rest : List ℕ) → bytes_eq (default_name machine rest) text ≡ false) → false ≡ bytes_eq text (default_name (default_name machine own) member)
not_machine text machine own member differs =
    not_named text machine (default_name own member) differs ∙ ap (bytes_eq text) (sym (parts_joined machine own member))

pub machine_so : (text machine own member rest : List ℕ) → text ≡ default_name machine rest → bytes_eq rest (default_name own member) ≡ bytes_eq text (default_name (default_name machine own) member)
machine_so text machine own member rest e =
    named_so text machine (default_name own member) rest e ∙ ap (bytes_eq text) (sym (parts_joined machine own member))

-- a number names no member
pub no_word : (scope : Scope) (own member : List ℕ) → false ≡ list_any (λ word. false) (default_names scope own (member ∷ []))
no_word everywhere own member = refl
no_word (within m) own member = refl
