-- A run event by event: a path of changes. What each change keeps holds along a run.
use Rattle.std.proofs.Common.{◌≡◌, Option, None, Some, List, [], ◌∷◌, ◌++◌, length, fold, refl, sym, ◌∙◌, ap, subst}
use Rattle.std.specs.Option.{option_to_list}
use Rattle.std.proofs.lemmas.List.{append-nil, append_assoc}
use Rattle.std.proofs.lemmas.List.Folds.{fold_stays}
use Rattle.std.proofs.lemmas.List.Sums.{fold-append}
use Rattle.std.proofs.lemmas.Option.{same_Some}
use Rattle.run_journal.specs.declared.entry.Entry.{Entry}
use Rattle.run_journal.specs.declared.event.Event.{Event}
use Rattle.protocol_runs.specs.Prelude.{Rules, World, Stepped, step, Ran, ran_on, go_on, start, IsRun, Change}
use Rattle.protocol_runs.proofs.Steps.{step-changes, step-running}

-- the run with one step more
abbrev pub with_step : {C D : Type 0} → Ran C D → Stepped C D → Ran C D
with_step x st = record { world = st.world; journal = x.journal ++ option_to_list st.entry }

module _ {C M D : Type 0} (r : Rules C M D) where
  -- one lawful event
  pub record Goes (x : Ran C D) (e : Event) (st : Stepped C D) : Type 0 where
    pub is : step r (length x.journal) x.world e ≡ Some st
    pub running : x.world.verdict ≡ None
    pub change : Change r (length x.journal) x.world e st

  pub data Path : Ran C D → List Event → Ran C D → Type 0 where
    Here : (x : Ran C D) → Path x [] x
    Then : (x : Ran C D) (e : Event) (es : List Event) (st : Stepped C D) (y : Ran C D)
        → Goes x e st → Path (with_step x st) es y → Path x (e ∷ es) y

  -- the first event of a path that has one
  abbrev pub Headed : Ran C D → List Event → Ran C D → Type 0
  Headed x [] y = x ≡ y
  Headed x (e ∷ es) y = (st : Stepped C D) × Goes x e st × Path (with_step x st) es y

  pub headed : (x : Ran C D) (es : List Event) (y : Ran C D) → Path x es y → Headed x es y
  headed x es y (Here z) = refl
  headed x es y (Then z e fs st u goes rest) = (st, goes, rest)

  goes : (x : Ran C D) (e : Event) (st : Stepped C D) → step r (length x.journal) x.world e ≡ Some st → Goes x e st
  goes x e st is =
      record {
        is = is;
        running = step-running r (length x.journal) x.world e st is;
        change = step-changes r (length x.journal) x.world e st is;
      }

  path_by : (x y : Ran C D) (e : Event) (es : List Event) (o : Option (Stepped C D)) → step r (length x.journal) x.world e ≡ o
      → ((st : Stepped C D) → o ≡ Some st → fold (go_on r) (Some (with_step x st)) es ≡ Some y → Path (with_step x st) es y)
      → fold (go_on r) (ran_on x.journal o) es ≡ Some y → Path x (e ∷ es) y
  path_by x y e es None is rest leads = absurd (cc (sym (fold_stays (go_on r) None (λ f. refl) es) ∙ leads))
  path_by x y e es (Some st) is rest leads = Then x e es st y (goes x e st is) (rest st refl leads)

  pub path : (x y : Ran C D) (es : List Event) → fold (go_on r) (Some x) es ≡ Some y → Path x es y
  path x y [] leads = subst (λ (z : Ran C D). Path x [] z) (same_Some x y leads) (Here x)
  path x y (e ∷ es) leads = path_by x y e es _ refl (λ st is more. path (with_step x st) y es more) leads

  pub run-path : (history : List Event) (w : World C D) (journal : List Entry) → IsRun r history w journal
      → Path (start r) history (record { world = w; journal = journal })
  run-path history w journal is = path (start r) (record { world = w; journal = journal }) history is

  -- what comes after some events of a run
  pub rest-path : (before rest : List Event) (v w : World C D) (sofar journal : List Entry)
      → IsRun r before v sofar → IsRun r (before ++ rest) w journal
      → Path (record { world = v; journal = sofar }) rest (record { world = w; journal = journal })
  rest-path before rest v w sofar journal first whole =
      path (record { world = v; journal = sofar }) (record { world = w; journal = journal }) rest
      (sym (ap (λ (o : Option (Ran C D)). fold (go_on r) o rest) first) ∙ sym (fold-append (go_on r) (Some (start r)) before rest) ∙ whole)

  -- a run goes on by one event
  pub run-more : (history : List Event) (e : Event) (w : World C D) (journal : List Entry) (st : Stepped C D)
      → IsRun r history w journal → step r (length journal) w e ≡ Some st
      → IsRun r (history ++ e ∷ []) st.world (journal ++ option_to_list st.entry)
  run-more history e w journal st so_far is =
      fold-append (go_on r) (Some (start r)) history (e ∷ [])
      ∙ ap (λ (o : Option (Ran C D)). go_on r o e) so_far
      ∙ ap (λ (o : Option (Stepped C D)). ran_on journal o) is

  -- what each change keeps
  module _ (P : Ran C D → Type 0) (keeps : (x : Ran C D) (e : Event) (st : Stepped C D) → Goes x e st → P x → P (with_step x st)) where
    pub hold-path : (x : Ran C D) (es : List Event) (y : Ran C D) → Path x es y → P x → P y
    hold-path x [] y (Here z) holds = holds
    hold-path x (f ∷ fs) y (Then z e es st u goes rest) holds = hold-path (with_step x st) fs y rest (keeps x f st goes holds)

    pub hold-along : (history : List Event) (w : World C D) (journal : List Entry) → P (start r) → IsRun r history w journal
        → P (record { world = w; journal = journal })
    hold-along history w journal opens is =
        hold-path (start r) history (record { world = w; journal = journal }) (run-path history w journal is) opens

  -- the journal only grows
  pub record Extends (before after : List Entry) : Type 0 where
    pub later : List Entry
    pub is : after ≡ before ++ later

  pub extends : (x : Ran C D) (es : List Event) (y : Ran C D) → Path x es y → Extends x.journal y.journal
  extends x es y way =
      hold-path (λ z. Extends x.journal z.journal)
      (λ z e st goes so_far.
      record {
        later = so_far.later ++ option_to_list st.entry;
        is = ap (λ (j : List Entry). j ++ option_to_list st.entry) so_far.is ∙ append_assoc x.journal so_far.later (option_to_list st.entry);
      })
      x es y way (record { later = []; is = sym (append-nil x.journal) })
