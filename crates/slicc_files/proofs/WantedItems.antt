-- The files that items want, as they are added from the last item to the first.
use Rattle.std.proofs.Common.{◌≡◌, ◌++◌, ℕ, suc, Bool, true, false, List, [], ◌∷◌, drop, reverse, refl, sym, ap, ◌∙◌, append_assoc, if◌then◌else◌}
use Rattle.std.proofs.lemmas.List.{reverse-append}
use Rattle.std.specs.List.{flat_map}
use Rattle.slicc_ast.specs.declared.tree.item.Item.{Item}
use Rattle.slicc_ast.specs.declared.tree.item.Item.TheVariants.{Include, Enumeration, Structure, Machine}
use Rattle.slicc_files.specs.declared.state.Wanted.{Wanted}
use Rattle.slicc_files.specs.Prelude.{wanted_by}

one_or_none : (b : Bool) (w : Wanted) → reverse (if b then [] else w ∷ []) ≡ (if b then [] else w ∷ [])
one_or_none true w = refl
one_or_none false w = refl

reversed_by : (folder : List ℕ) (file : ℕ) (item : Item) → reverse (wanted_by folder file item) ≡ wanted_by folder file item
reversed_by folder file (Include text span) = one_or_none _ _
reversed_by folder file (Enumeration e) = refl
reversed_by folder file (Structure s) = refl
reversed_by folder file (Machine m) = refl

-- what one more item wants comes behind what the later ones want
pub one_more : (folder : List ℕ) (file : ℕ) (items : List Item) (count : ℕ) (item : Item) (before left left' : List Wanted)
    → drop count items ≡ item ∷ drop (suc count) items
    → left ≡ before ++ reverse (flat_map (wanted_by folder file) (drop (suc count) items))
    → left' ≡ left ++ wanted_by folder file item
    → left' ≡ before ++ reverse (flat_map (wanted_by folder file) (drop count items))
one_more folder file items count item before left left' cut is added =
    let f = wanted_by folder file in
    let rest = flat_map f (drop (suc count) items) in
    let whole : flat_map f (drop count items) ≡ f item ++ rest = ap (flat_map f) cut in
    added ∙ ap (λ ws. ws ++ f item) is ∙ append_assoc before (reverse rest) (f item)
    ∙ ap (λ ws. before ++ ws) (ap (λ ws. reverse rest ++ ws) (sym (reversed_by folder file item)) ∙ sym (reverse-append (f item) rest) ∙ ap reverse (sym whole))
