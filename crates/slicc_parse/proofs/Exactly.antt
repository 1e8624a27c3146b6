-- Tokens that spell a tree and open no nesting above the limit have no fault.
use Rattle.std.proofs.Common.{◌≡◌, ◌++◌, ℕ, List, [], ◌∷◌, map, Result, Ok, Err, refl, subst, ap, ◌∙◌}
use Rattle.std.specs.Result.{IfErr}
use Rattle.std.proofs.lemmas.List.{map-append}
use Rattle.slicc_ast.specs.declared.tree.item.Tree.{Tree}
use Rattle.slicc_ast.specs.Prelude.{tree, IsFirstFault, IsWithin, Stop, Bad, Deep, Passed, done, form, end, file, spelling, end_of_text, kind_of, written}
use Rattle.slicc_ast.proofs.Readers.{tree_passes}
use Rattle.slicc_lex.specs.declared.token.Token.{Token}
use Rattle.slicc_lex.specs.Prelude.{Spells, token_kinds, nesting_limit, symbols}
use Rattle.slicc_parse.specs.Prelude.{AreWithinLimit, IsParse}
use Rattle.slicc_reading.specs.declared.fault.SyntaxFault.{SyntaxFault}
use Rattle.slicc_reading.specs.declared.fault.SyntaxFault.TheVariants.{Syntax, Deep as TooDeep, NoMemory}

symbols_of : (tokens : List Token) → symbols tokens ≡ map kind_of (token_kinds tokens)
symbols_of [] = refl
symbols_of (t ∷ tokens) = ap (λ ks. kind_of t.kind ∷ ks) (symbols_of tokens)

of_tree : (t : Tree) (tokens : List Token) → Spells t tokens → symbols tokens ≡ spelling (tree t) ++ end_of_text ∷ []
of_tree t tokens s =
    ap symbols s.split ∙ map-append (λ (u : Token). kind_of u.kind) s.written (s.end ∷ [])
    ∙ ap (λ ks. ks ++ kind_of s.end.kind ∷ []) (symbols_of s.written ∙ ap (λ ks. map kind_of ks) s.kinds)
    ∙ ap (λ k. spelling (tree t) ++ kind_of k ∷ []) s.is_end

only_passes : (t : Tree) (tokens : List Token) (stop : Stop) → Spells t tokens → AreWithinLimit tokens → IsFirstFault written nesting_limit file (symbols tokens) stop → stop ≡ Passed []
only_passes t tokens stop s within stops =
    let is = of_tree t tokens s in
    tree_passes nesting_limit t stop s.allowed
    (subst (λ ks. IsWithin written nesting_limit (form file done) end ks) is within)
    (subst (λ ks. IsFirstFault written nesting_limit file ks stop) is stops)

not_bad : (rest : List ℕ) → Bad rest ≡ Passed [] → ⊥
not_bad rest is = cc

not_deep : (rest : List ℕ) → Deep rest ≡ Passed [] → ⊥
not_deep rest is = cc

pub no_fault : (t : Tree) (tokens : List Token) (answer : Result Tree SyntaxFault) → Spells t tokens → AreWithinLimit tokens → IsParse tokens answer → IfErr answer (λ fault. fault ≡ NoMemory)
no_fault t tokens (Ok u) s within is = tt
no_fault t tokens (Err (Syntax place)) s within is = absurd (not_bad (symbols is.left) (only_passes t tokens (Bad (symbols is.left)) s within is.stopped))
no_fault t tokens (Err (TooDeep place)) s within is = absurd (not_deep (symbols is.left) (only_passes t tokens (Deep (symbols is.left)) s within is.stopped))
no_fault t tokens (Err NoMemory) s within is = refl
