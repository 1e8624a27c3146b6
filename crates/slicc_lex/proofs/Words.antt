-- The list of reserved words has each of them, and each is made of a word's bytes.
use Rattle.std.proofs.Common.{◌≡◌, ◌≢◌, ℕ, zero, suc, Bool, true, false, Option, Some, None, List, [], ◌∷◌, find, refl, sym, ap, ◌∙◌, MatchOption, ⊎_elim}
use Rattle.std.specs.List.{slice_get}
use Rattle.std.specs.Str.{bytes_eq}
use Rattle.std.proofs.lemmas.Bool.{cond-true, cond-false, cases_Bool, false≢true}
use Rattle.std.proofs.lemmas.Option.{none-some}
use Rattle.std.proofs.lemmas.Slice.Eq.{bytes_eq-Decides}
use Rattle.slicc_ast.specs.declared.tree.token.Word.{Word}
use Rattle.slicc_ast.specs.declared.tree.token.Word.TheVariants.{Protocol, Include, Machine, Enumeration, StateDeclaration, Structure, InPort, OutPort, Action, Transition, Peek, Enqueue, StallAndWait, CheckAllocate, If, Else, Return, True, False, Ood, New, IsValid, IsInvalid, StaticCast, Error, Assert, Dprintf, AppendTransitionComment, While}
use Rattle.slicc_lex.specs.declared.word.TheConstants.{WORDS}
use Rattle.slicc_lex.specs.Prelude.{word_bytes}

find_some : {X : Type 0} (p : X → Bool) (xs : List X) (x : X) → find p xs ≡ Some x → p x ≡ true
find_some p [] x found = cc
find_some p (y ∷ ys) x found =
    ⊎_elim
    (λ here. let same : Some y ≡ Some x = sym (cond-true (p y) (Some y) (find p ys) here) ∙ found in let is : x ≡ y = cc same in ap p is ∙ here)
    (λ fails. find_some p ys x (sym (cond-false (p y) (Some y) (find p ys) fails) ∙ found))
    (cases_Bool (p y))

fails_first : {X : Type 0} (p : X → Bool) (y : X) (ys : List X) → find p (y ∷ ys) ≡ None → (p y ≡ false) × (find p ys ≡ None)
fails_first p y ys none =
    ⊎_elim
    (λ here. absurd (none-some y (sym none ∙ cond-true (p y) (Some y) (find p ys) here)))
    (λ fails. (fails, sym (cond-false (p y) (Some y) (find p ys) fails) ∙ none))
    (cases_Bool (p y))

find_none : {X : Type 0} (p : X → Bool) (xs : List X) (k : ℕ) (x : X) → find p xs ≡ None → slice_get xs k ≡ Some x → p x ≡ false
find_none p [] k x none there = cc
find_none p (y ∷ ys) zero x none there = let is : x ≡ y = cc there in ap p is ∙ (fails_first p y ys none).0
find_none p (y ∷ ys) (suc k) x none there = find_none p ys k x (fails_first p y ys none).1 there

-- where a word stands in the list
place : Word → ℕ
place Protocol = 0
place Include = 1
place Machine = 2
place Enumeration = 3
place StateDeclaration = 4
place Structure = 5
place InPort = 6
place OutPort = 7
place Action = 8
place Transition = 9
place Peek = 10
place Enqueue = 11
place StallAndWait = 12
place CheckAllocate = 13
place If = 14
place Else = 15
place Return = 16
place True = 17
place False = 18
place Ood = 19
place New = 20
place IsValid = 21
place IsInvalid = 22
place StaticCast = 23
place Error = 24
place Assert = 25
place Dprintf = 26
place AppendTransitionComment = 27
place While = 28

is_at_place : (word : Word) → slice_get WORDS (place word) ≡ Some word
unfolding place
is_at_place Protocol = refl
is_at_place Include = refl
is_at_place Machine = refl
is_at_place Enumeration = refl
is_at_place StateDeclaration = refl
is_at_place Structure = refl
is_at_place InPort = refl
is_at_place OutPort = refl
is_at_place Action = refl
is_at_place Transition = refl
is_at_place Peek = refl
is_at_place Enqueue = refl
is_at_place StallAndWait = refl
is_at_place CheckAllocate = refl
is_at_place If = refl
is_at_place Else = refl
is_at_place Return = refl
is_at_place True = refl
is_at_place False = refl
is_at_place Ood = refl
is_at_place New = refl
is_at_place IsValid = refl
is_at_place IsInvalid = refl
is_at_place StaticCast = refl
is_at_place Error = refl
is_at_place Assert = refl
is_at_place Dprintf = refl
is_at_place AppendTransitionComment = refl
is_at_place While = refl

-- the first word of the list that is written so is the only one, and without one there is none
pub reserved_is : (text : List ℕ) (found : Option Word) → found ≡ find (λ word. bytes_eq text (word_bytes word)) WORDS → MatchOption found ((word : Word) → text ≢ word_bytes word) (λ word. text ≡ word_bytes word)
reserved_is text None is = λ word same. let none : bytes_eq text (word_bytes word) ≡ false = find_none (λ word. bytes_eq text (word_bytes word)) WORDS (place word) word (sym is) (is_at_place word) in false≢true (sym none ∙ (bytes_eq-Decides text (word_bytes word)).1 same)
reserved_is text (Some word) is = (bytes_eq-Decides text (word_bytes word)).0 (find_some (λ word. bytes_eq text (word_bytes word)) WORDS word (sym is))

found_itself : (word : Word) → find (λ other. bytes_eq (word_bytes word) (word_bytes other)) WORDS ≡ Some word
found_itself Protocol = refl
found_itself Include = refl
found_itself Machine = refl
found_itself Enumeration = refl
found_itself StateDeclaration = refl
found_itself Structure = refl
found_itself InPort = refl
found_itself OutPort = refl
found_itself Action = refl
found_itself Transition = refl
found_itself Peek = refl
found_itself Enqueue = refl
found_itself StallAndWait = refl
found_itself CheckAllocate = refl
found_itself If = refl
found_itself Else = refl
found_itself Return = refl
found_itself True = refl
found_itself False = refl
found_itself Ood = refl
found_itself New = refl
found_itself IsValid = refl
found_itself IsInvalid = refl
found_itself StaticCast = refl
found_itself Error = refl
found_itself Assert = refl
found_itself Dprintf = refl
found_itself AppendTransitionComment = refl
found_itself While = refl

-- two reserved words are not written alike
pub one_word : (a b : Word) → word_bytes a ≡ word_bytes b → a ≡ b
one_word a b same =
    let both : Some a ≡ Some b = sym (found_itself a) ∙ ap (λ bytes. find (λ other. bytes_eq bytes (word_bytes other)) WORDS) same ∙ found_itself b in
    cc both
