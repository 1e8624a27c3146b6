-- Going through a list step by step: what is left, done from here, does what the whole does, whatever comes.
use Rattle.std.proofs.Common.{◌≡◌, ◌<◌, ◌≤◌, ◌+◌, ℕ, Result, Ok, Err, List, ◌∷◌, drop, get_or, length, refl, sym, subst}
use Rattle.std.proofs.lemmas.List.{drop_all, drop_more}
use Rattle.ctl_face.specs.declared.trouble.Trouble.{Trouble}
use Rattle.ctl_face.specs.Prelude.{LocalView}
use Rattle.acts.specs.Prelude.{Acting, DoesAs, itself}
use Rattle.acts.proofs.Walk.{does_ends_as, then_does, then_stops}
use Rattle.body_meaning.specs.Prelude.{each}

-- what the first does from one local on, the second does from another one
abbrev pub Leads : {A : Type 0} → Acting A → LocalView → Acting A → LocalView → Type 0
Leads {A} p v whole start = (result : Result A Trouble) (u : LocalView) → DoesAs itself p result v u → DoesAs itself whole result start u

module _ {A X : Type 0} (step : A → X → Acting A) (whole : Acting A) (start : LocalView) (xs : List X) (i : ℕ) where
  pub leads_more : (x : X) (a b : A) (v w : LocalView) → i < length xs → x ≡ get_or xs i x → DoesAs itself (step a x) (Ok b) v w
      → Leads (each step a (drop i xs)) v whole start → Leads (each step b (drop (i + 1) xs)) w whole start
  leads_more x a b v w below is first kept = λ result u rest.
      kept result u
      (subst (λ (ys : List X). DoesAs itself (each step a ys) result v u) (sym (drop_more xs i x below))
      (subst (λ (y : X). DoesAs itself (each step a (y ∷ drop (i + 1) xs)) result v u) is
      (then_does itself itself (step a x) (λ c. each step c (drop (i + 1) xs)) b result v w u first rest)))

  pub leads_stops : (x : X) (a : A) (e : Trouble) (v w u : LocalView) → i < length xs → x ≡ get_or xs i x → DoesAs itself (step a x) (Err e) v w
      → Leads (each step a (drop i xs)) v whole start → DoesAs itself whole (Err e) start u
  leads_stops x a e v w u below is first kept =
      kept (Err e) u
      (subst (λ (ys : List X). DoesAs itself (each step a ys) (Err e) v u) (sym (drop_more xs i x below))
      (subst (λ (y : X). DoesAs itself (each step a (y ∷ drop (i + 1) xs)) (Err e) v u) is
      (then_stops itself itself (step a x) (λ c. each step c (drop (i + 1) xs)) e v w u first)))

  pub leads_ends : (a : A) (v : LocalView) → length xs ≤ i → Leads (each step a (drop i xs)) v whole start → DoesAs itself whole (Ok a) start v
  leads_ends a v below kept =
      kept (Ok a) v (subst (λ (ys : List X). DoesAs itself (each step a ys) (Ok a) v v) (sym (drop_all i xs below)) (does_ends_as itself a a v refl))
