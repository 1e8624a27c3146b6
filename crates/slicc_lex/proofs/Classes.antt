-- What is known of a byte by its class.
use Rattle.std.proofs.Common.{◌≡◌, ℕ, Bool, true, false, cond, List, [], ◌∷◌, refl, eqb}
use Rattle.slicc_ast.specs.Prelude.{is_blank, is_letter}
use Rattle.slicc_lex.specs.declared.class.Class.{Class}
use Rattle.slicc_lex.specs.declared.class.Class.TheVariants.{Blank, Letter, Digit, Quote, Slash, Other}
use Rattle.slicc_lex.specs.Prelude.{is_digit, class_of, is_quote, BeginsWith}
use Rattle.slicc_lex.proofs.Shapes.{first_class}

abbrev pub picked : Bool → Bool → Bool → Bool → Bool → Class
picked blank letter digit quote slash = cond blank Blank (cond letter Letter (cond digit Digit (cond quote Quote (cond slash Slash Other))))

picked_blank : (b l d q s : Bool) → picked b l d q s ≡ Blank → b ≡ true
picked_blank true l d q s is = refl
picked_blank false true d q s is = cc
picked_blank false false true q s is = cc
picked_blank false false false true s is = cc
picked_blank false false false false true is = cc
picked_blank false false false false false is = cc

picked_letter : (b l d q s : Bool) → picked b l d q s ≡ Letter → l ≡ true
picked_letter true l d q s is = cc
picked_letter false true d q s is = refl
picked_letter false false true q s is = cc
picked_letter false false false true s is = cc
picked_letter false false false false true is = cc
picked_letter false false false false false is = cc

picked_digit : (b l d q s : Bool) → picked b l d q s ≡ Digit → d ≡ true
picked_digit true l d q s is = cc
picked_digit false true d q s is = cc
picked_digit false false true q s is = refl
picked_digit false false false true s is = cc
picked_digit false false false false true is = cc
picked_digit false false false false false is = cc

picked_quote : (b l d q s : Bool) → picked b l d q s ≡ Quote → q ≡ true
picked_quote true l d q s is = cc
picked_quote false true d q s is = cc
picked_quote false false true q s is = cc
picked_quote false false false true s is = refl
picked_quote false false false false true is = cc
picked_quote false false false false false is = cc

picked_other : (b l d q s : Bool) → picked b l d q s ≡ Other → (q ≡ false) × (s ≡ false)
picked_other true l d q s is = absurd (cc)
picked_other false true d q s is = absurd (cc)
picked_other false false true q s is = absurd (cc)
picked_other false false false true s is = absurd (cc)
picked_other false false false false true is = absurd (cc)
picked_other false false false false false is = (refl, refl)

pub blank_from : (c : ℕ) → class_of c ≡ Blank → is_blank c ≡ true
blank_from c is = picked_blank (is_blank c) (is_letter c) (is_digit c) (is_quote c) (eqb c 47) is

pub letter_from : (c : ℕ) → class_of c ≡ Letter → is_letter c ≡ true
letter_from c is = picked_letter (is_blank c) (is_letter c) (is_digit c) (is_quote c) (eqb c 47) is

pub digit_from : (c : ℕ) → class_of c ≡ Digit → is_digit c ≡ true
digit_from c is = picked_digit (is_blank c) (is_letter c) (is_digit c) (is_quote c) (eqb c 47) is

pub quote_from : (c : ℕ) → class_of c ≡ Quote → is_quote c ≡ true
quote_from c is = picked_quote (is_blank c) (is_letter c) (is_digit c) (is_quote c) (eqb c 47) is

pub other_from : (c : ℕ) → class_of c ≡ Other → (is_quote c ≡ false) × (eqb c 47 ≡ false)
other_from c is = picked_other (is_blank c) (is_letter c) (is_digit c) (is_quote c) (eqb c 47) is

pub first_from : (class : Class) (bytes : List ℕ) → BeginsWith class bytes → first_class bytes ≡ class
first_from class [] is = absurd is
first_from class (c ∷ cs) is = is
