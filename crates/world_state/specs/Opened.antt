-- A world's data as a run begins: nobody is held or finished, and nothing has happened yet.
use Rattle.std.specs.Prelude.{◌≡◌, false, None, List, [], map}
use Rattle.world_state.specs.declared.place.Kept.{Kept}
use Rattle.world_state.specs.declared.state.State.{State}
use Rattle.world_state.specs.States.{home_place}

-- with these controllers, and this driver
pub record IsOpening {D : Type 0} (kept : List Kept) (first : D) (st : State D) : Type 0 where
  pub now : st.now ≡ 0
  pub places : st.places.items ≡ map (λ (k : Kept). home_place k false) kept
  pub driver : st.driver ≡ first
  pub issued : st.issued ≡ 0
  pub next : st.next ≡ None
  pub verdict : st.verdict ≡ None
  pub history : st.book.history ≡ []
  pub journal : st.book.journal ≡ []
