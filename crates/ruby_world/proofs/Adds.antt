-- What one worker adds to a run, event by event and part by part.
use Rattle.std.proofs.Common.{◌≡◌, ◌++◌, List, [], ◌∷◌, refl, sym, ◌∙◌, ap, subst}
use Rattle.std.proofs.lemmas.List.{append-nil, append_assoc}
use Rattle.std.proofs.lemmas.Option.{same_Some}
use Rattle.run_journal.specs.declared.entry.Entry.{Entry}
use Rattle.run_journal.specs.declared.event.Event.{Event}
use Rattle.protocol_runs.specs.Prelude.{IsAlone, IsAloneEvent, Rules, IsRun, Ran, World}
use Rattle.ruby_world.specs.Prelude.{AddsAlone}

not_nil : {A : Type 0} (before after : List A) (y : A) → [] ≡ before ++ y ∷ after → ⊥
not_nil [] after y h = absurd (cc h)
not_nil (b ∷ before) after y h = absurd (cc h)

-- two lists one after the other, divided at an element: it is in the first, or in the second
data Divided {A : Type 0} (a b before after : List A) (y : A) : Type 0 where
  First : (rest : List A) → a ≡ before ++ y ∷ rest → Divided a b before after y
  Second : (rest : List A) → before ≡ a ++ rest → b ≡ rest ++ y ∷ after → Divided a b before after y

divided : {A : Type 0} (a b before after : List A) (y : A) → a ++ b ≡ before ++ y ∷ after → Divided a b before after y
divided [] b before after y same = Second before refl same
divided (x ∷ a) b [] after y same =
    let here : x ≡ y = cc same in
    First a (ap (λ z. z ∷ a) here)
divided (x ∷ a) b (z ∷ before) after y same =
    let here : x ≡ z = cc same in
    let rest : a ++ b ≡ before ++ y ∷ after = cc same in
    elim (divided a b before after y rest) [
      | First more is ↦ First more (ap (λ u. u ∷ a) here ∙ ap (λ us. z ∷ us) is)
      | Second more is others ↦ Second more (ap (λ u. u ∷ before) (sym here) ∙ ap (λ us. x ∷ us) is) others
    ]

module _ {C M D : Type 0} (r : Rules C M D) where
  pub adds-none : (history : List Event) → AddsAlone r history history
  adds-none history = record {
    added = [];
    is = sym (append-nil history);
    alone = λ sofar rest e w journal split is_run. absurd (not_nil sofar rest e split);
  }

  pub same-world : (history : List Event) (w v : World C D) (journal told : List Entry) → IsRun r history w journal → IsRun r history v told → w ≡ v
  same-world history w v journal told is also =
      let one : Ran C D = record { world = w; journal = journal } in
      let other : Ran C D = record { world = v; journal = told } in
      ap (λ (x : Ran C D). x.world) (same_Some one other (sym is ∙ also))

  -- one event
  one-only : (sofar rest : List Event) (e f : Event) → e ∷ [] ≡ sofar ++ f ∷ rest → (sofar ≡ []) × (e ≡ f)
  one-only [] rest e f same = (refl, cc same)
  one-only (g ∷ sofar) rest e f same = let none : [] ≡ sofar ++ f ∷ rest = cc same in absurd (not_nil sofar rest f none)

  pub adds-one : (history : List Event) (e : Event) (w : World C D) (journal : List Entry) → IsRun r history w journal → IsAloneEvent r w e
      → AddsAlone r history (history ++ e ∷ [])
  adds-one history e w journal is_run does = record {
    added = e ∷ [];
    is = refl;
    alone = λ sofar rest f v told split leads.
        let both = one-only sofar rest e f split in
        let here : IsRun r history v told = subst (λ (h : List Event). IsRun r h v told) (ap (λ (es : List Event). history ++ es) both.0 ∙ append-nil history) leads in
        subst (λ (g : Event). IsAloneEvent r v g) both.1
        (subst (λ (u : World C D). IsAloneEvent r u e) (same-world history w v journal told is_run here) does);
  }

  -- and more
  pub adds-then : (first second third : List Event) → AddsAlone r first second → AddsAlone r second third → AddsAlone r first third
  adds-then first second third one other = record {
    added = one.added ++ other.added;
    is = other.is ∙ ap (λ (h : List Event). h ++ other.added) one.is ∙ append_assoc first one.added other.added;
    alone = λ sofar rest e w journal split leads.
        elim (divided one.added other.added sofar rest e split) [
          | First more is ↦ one.alone sofar more e w journal is leads
          | Second more is others ↦
              other.alone more rest e w journal others
              (subst (λ (h : List Event). IsRun r h w journal)
              (ap (λ (es : List Event). first ++ es) is ∙ sym (append_assoc first one.added more) ∙ ap (λ (h : List Event). h ++ more) (sym one.is)) leads)
        ];
  }

  -- what it adds to nothing is all
  pub adds-all : (history : List Event) → AddsAlone r [] history → IsAlone r history
  adds-all history adds = λ before after e w journal split leads. adds.alone before after e w journal (sym adds.is ∙ split) leads
