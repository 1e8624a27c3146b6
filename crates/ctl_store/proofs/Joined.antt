-- A function of four things that are equal to four others.
use Rattle.std.proofs.Common.{◌≡◌, ap, ◌∙◌}

pub four : {A B C D E : Type 0} (f : A → B → C → D → E) {a a' : A} {b b' : B} {c c' : C} {d d' : D} → a ≡ a' → b ≡ b' → c ≡ c' → d ≡ d' → f a b c d ≡ f a' b' c' d'
four f {a = a} {a' = a'} {b = b} {b' = b'} {c = c} {c' = c'} {d = d} {d' = d'} ea eb ec ed =
    ap (λ x. f x b c d) ea ∙ ap (λ x. f a' x c d) eb ∙ ap (λ x. f a' b' x d) ec ∙ ap (λ x. f a' b' c' x) ed
