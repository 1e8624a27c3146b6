-- Places by their numbers: what one changed place, arrivals and the driver's answers leave of the others.
use Rattle.std.proofs.Common.{◌≡◌, ◌≢◌, ◌+◌, ◌<◌, IsTrue, ℕ, zero, suc, Option, None, Some, List, [], ◌∷◌, length, map, refl, sym, ◌∙◌, ap, subst, slice_get, slice_set, zero-add, arith}
use Rattle.std.proofs.lemmas.List.{length-set}
use Rattle.std.proofs.lemmas.List.Elements.{All-head, All-tail}
use Rattle.std.proofs.lemmas.Option.{same_Some}
use Rattle.protocol_runs.specs.Prelude.{Rules, Place, must_wake, with_arrival, with_delivery_at, with_delivery, with_deliveries, changed_from, with_controller, IsSound, AllSuit}
use Rattle.ruby_value.specs.declared.message.Delivery.{Delivery}
use Rattle.ruby_value.specs.Prelude.{has_mark}

-- a fact of each element with its number, where one element is changed
pub set-at : {X : Type 0} (P : Option X → Type 0) (xs : List X) (d c : ℕ) (x y : X) → slice_get xs d ≡ Some x
    → (d ≡ c → P (Some y)) → (d ≢ c → P (slice_get xs c)) → P (slice_get (slice_set xs d y) c)
set-at P [] d c x y there same other = absurd (cc there)
set-at P (z ∷ xs) zero zero x y there same other = same refl
set-at P (z ∷ xs) zero (suc c) x y there same other = other (λ is. omega arith)
set-at P (z ∷ xs) (suc d) zero x y there same other = other (λ is. omega arith)
set-at P (z ∷ xs) (suc d) (suc c) x y there same other =
    set-at P xs d c x y there (λ is. same (ap suc is)) (λ apart. other (λ is. apart (omega arith)))

-- where an element of a mapped list comes from
pub mapped-from : {X Y : Type 0} (f : X → Y) (xs : List X) (c : ℕ) (y : Y) → slice_get (map f xs) c ≡ Some y → (x : X) × (slice_get xs c ≡ Some x) × (f x ≡ y)
mapped-from f [] c y is = absurd (cc is)
mapped-from f (x ∷ xs) zero y is = (x, refl, same_Some (f x) y is)
mapped-from f (x ∷ xs) (suc c) y is = mapped-from f xs c y is

-- both are there and in the relation, or neither is there
abbrev pub Paired : {X : Type 0} → (X → X → Type 0) → Option X → Option X → Type 0
Paired R None None = Unit {0}
Paired R None (Some y) = ⊥
Paired R (Some x) None = ⊥
Paired R (Some x) (Some y) = R x y

module _ {X : Type 0} (R : X → X → Type 0) where
  pub paired-back : (o u : Option X) (y : X) → Paired R o u → u ≡ Some y → (x : X) × (o ≡ Some x) × R x y
  paired-back None None y pair is = absurd (cc is)
  paired-back None (Some z) y pair is = absurd pair
  paired-back (Some x) None y pair is = absurd pair
  paired-back (Some x) (Some z) y pair is = (x, refl, subst (R x) (same_Some z y is) pair)

  pub paired-map : (S : X → X → Type 0) (o u : Option X) → ((x y : X) → o ≡ Some x → R x y → S x y) → Paired R o u → Paired S o u
  paired-map S None None to pair = tt
  paired-map S None (Some y) to pair = pair
  paired-map S (Some x) None to pair = pair
  paired-map S (Some x) (Some y) to pair = to x y refl pair

  pub paired-trans : ((x y z : X) → R x y → R y z → R x z) → (o u v : Option X) → Paired R o u → Paired R u v → Paired R o v
  paired-trans trans None None v first second = second
  paired-trans trans None (Some y) v first second = absurd first
  paired-trans trans (Some x) None v first second = absurd first
  paired-trans trans (Some x) (Some y) None first second = second
  paired-trans trans (Some x) (Some y) (Some z) first second = trans x y z first second

  module _ (same : (x : X) → R x x) where
    pub paired-same : (o : Option X) → Paired R o o
    paired-same None = tt
    paired-same (Some x) = same x

    -- one element is changed
    pub paired-set : (xs : List X) (d c : ℕ) (x y : X) → slice_get xs d ≡ Some x → R x y → Paired R (slice_get xs c) (slice_get (slice_set xs d y) c)
    paired-set xs d c x y there holds =
        set-at (Paired R (slice_get xs c)) xs d c x y there
        (λ is. subst (λ (o : Option X). Paired R o (Some y)) (sym there ∙ ap (λ (i : ℕ). slice_get xs i) is) holds)
        (λ apart. paired-same (slice_get xs c))

-- what places are, where each controller was changed by its number
abbrev pub AreChanged : {C : Type 0} → (ℕ → C → C) → ℕ → Option (Place C) → Option (Place C) → Type 0
AreChanged change c o u = Paired (λ p q. q ≡ record p { controller = change c p.controller }) o u

changed-at : {C : Type 0} (k : ℕ) (change : ℕ → C → C) (places : List (Place C)) (c : ℕ)
    → AreChanged change (k + c) (slice_get places c) (slice_get (changed_from k change places) c)
changed-at k change [] c = tt
changed-at k change (p ∷ ps) zero =
    let same : k ≡ k + 0 = omega arith in
    ap (λ (i : ℕ). let q : Place _ = record p { controller = change i p.controller } in q) same
changed-at k change (p ∷ ps) (suc c) =
    let same : (k + 1) + c ≡ k + suc c = omega arith in
    subst (λ (i : ℕ). AreChanged change i (slice_get ps c) (slice_get (changed_from (k + 1) change ps) c)) same (changed-at (k + 1) change ps c)

pub changed : {C : Type 0} (change : ℕ → C → C) (places : List (Place C)) (c : ℕ)
    → AreChanged change c (slice_get places c) (slice_get (changed_from 0 change places) c)
changed change places c =
    subst (λ (i : ℕ). AreChanged change i (slice_get places c) (slice_get (changed_from 0 change places) c)) (zero-add c) (changed-at 0 change places c)

pub changed-length : {C : Type 0} (k : ℕ) (change : ℕ → C → C) (places : List (Place C)) → length (changed_from k change places) ≡ length places
changed-length k change [] = refl
changed-length k change (p ∷ ps) = ap suc (changed-length (k + 1) change ps)

module _ {C M D : Type 0} (r : Rules C M D) where
  delivery-length : (places : List (Place C)) (d : Delivery M) (o : Option (Place C)) → length (with_delivery_at r places d o) ≡ length places
  delivery-length places d None = refl
  delivery-length places d (Some p) = length-set places d.receiver _

  pub deliveries-length : (places : List (Place C)) (ds : List (Delivery M)) → length (with_deliveries r places ds) ≡ length places
  deliveries-length places [] = refl
  deliveries-length places (d ∷ ds) = deliveries-length (with_delivery r places d) ds ∙ delivery-length places d (slice_get places d.receiver)

  -- what stays of a place in a cycle while messages come to it and the driver serves it
  pub record IsLater (now : ℕ) (before after : Place C) : Type 0 where
    pub finished : after.finished ≡ before.finished
    pub holder : after.holder ≡ before.holder
    pub awake : must_wake r now after ≡ must_wake r now before
    pub later : (cycle : ℕ) → now < cycle → IsTrue (has_mark (r.marks before.controller) cycle) → IsTrue (has_mark (r.marks after.controller) cycle)

  abbrev pub AreLater : ℕ → Option (Place C) → Option (Place C) → Type 0
  AreLater now o u = Paired (IsLater now) o u

  later-same : (now : ℕ) (p : Place C) → IsLater now p p
  later-same now p = record { finished = refl; holder = refl; awake = refl; later = λ cycle above has. has }

  later-later : (now : ℕ) (p q s : Place C) → IsLater now p q → IsLater now q s → IsLater now p s
  later-later now p q s first second =
      record {
        finished = second.finished ∙ first.finished;
        holder = second.holder ∙ first.holder;
        awake = second.awake ∙ first.awake;
        later = λ cycle above has. second.later cycle above (first.later cycle above has);
      }

  -- the places of a world, each with its number
  abbrev pub AllLater : ℕ → List (Place C) → List (Place C) → Type 0
  AllLater now before after = (c : ℕ) → AreLater now (slice_get before c) (slice_get after c)

  -- each controller fits
  abbrev pub AllFit : (ℕ → C → ℕ → Type 0) → ℕ → List (Place C) → Type 0
  AllFit Fits now places = (c : ℕ) (p : Place C) → slice_get places c ≡ Some p → Fits c p.controller now

  -- places in a cycle to which nothing has happened but that messages came, or that the driver served them
  pub record IsGrown (Fits : ℕ → C → ℕ → Type 0) (now : ℕ) (before after : List (Place C)) : Type 0 where
    pub fit : AllFit Fits now after
    pub later : AllLater now before after

  pub grown-grown : (Fits : ℕ → C → ℕ → Type 0) (now : ℕ) (a b c : List (Place C)) → IsGrown Fits now a b → IsGrown Fits now b c → IsGrown Fits now a c
  grown-grown Fits now a b c first second =
      record {
        fit = second.fit;
        later = λ i. paired-trans (IsLater now) (later-later now) (slice_get a i) (slice_get b i) (slice_get c i) (first.later i) (second.later i);
      }

module _ {C M D : Type 0} (r : Rules C M D) (Fits : ℕ → C → ℕ → Type 0) (Suits : ℕ → M → ℕ → Type 0) (Leads : D → ℕ → ℕ → Type 0) (sound : IsSound r Fits Suits Leads) where
  pub set-fits : (now : ℕ) (places : List (Place C)) (c : ℕ) (p q : Place C) → slice_get places c ≡ Some p → Fits c q.controller now
      → AllFit r Fits now places → AllFit r Fits now (slice_set places c q)
  set-fits now places c p q there fits all d s is =
      set-at (λ (o : Option (Place C)). o ≡ Some s → Fits d s.controller now) places c d p q there
      (λ same at. let same_place : q ≡ s = cc at in
      subst (λ (i : ℕ). Fits i s.controller now) same (subst (λ (x : Place C). Fits c x.controller now) same_place fits))
      (λ apart at. all d s at)
      is

  delivery-grown : (now : ℕ) (places : List (Place C)) (d : Delivery M) (o : Option (Place C)) → slice_get places d.receiver ≡ o
      → Suits d.receiver d.message now → AllFit r Fits now places → IsGrown r Fits now places (with_delivery_at r places d o)
  delivery-grown now places d None there suits fit = record { fit = fit; later = λ c. paired-same (IsLater r now) (later-same r now) (slice_get places c) }
  delivery-grown now places d (Some p) there suits fit =
      let q : Place C = with_controller p (with_arrival r p.controller d.message) in
      let keeps = sound.arrives d.receiver now p.controller d.message (fit d.receiver p there) suits in
      record {
        fit = set-fits now places d.receiver p q there keeps.fits fit;
        later = λ c.
            paired-set (IsLater r now) (later-same r now) places d.receiver c p q there
            (record { finished = refl; holder = refl; awake = keeps.awake; later = keeps.later });
      }

  pub deliveries-grown : (now : ℕ) (places : List (Place C)) (ds : List (Delivery M)) → AllSuit r Fits Suits Leads now ds → AllFit r Fits now places
      → IsGrown r Fits now places (with_deliveries r places ds)
  deliveries-grown now places [] suit fit = record { fit = fit; later = λ c. paired-same (IsLater r now) (later-same r now) (slice_get places c) }
  deliveries-grown now places (d ∷ ds) suit fit =
      let first = delivery-grown now places d (slice_get places d.receiver) refl (All-head (λ (x : Delivery M). Suits x.receiver x.message now) d ds suit) fit in
      grown-grown r Fits now places (with_delivery r places d) (with_deliveries r (with_delivery r places d) ds) first
      (deliveries-grown now (with_delivery r places d) ds (All-tail (λ (x : Delivery M). Suits x.receiver x.message now) d ds suit) first.fit)
