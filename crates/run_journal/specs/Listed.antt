-- Lists that stand one after another in one column, each of which ends where the next one begins. Beside them is told for how many
-- more lists there is room, and for how many more values in them.
use Rattle.std.specs.Prelude.{◌≡◌, ◌≤◌, ◌-◌, ℕ, zero, suc, List, [], ◌∷◌, take, drop, slice_index_or, refl}
use Rattle.std.specs.Coded.{Coded, code_by, coded×, coded_list, coded_ℕ}

pub record Listed (X : Type 0) : Type 0 where
  pub lists : List (List X)
  pub list_room : ℕ
  pub item_room : ℕ

abbrev pub listed_code : {X : Type 0} → Coded X → Coded (Listed X)
listed_code {X} x =
    code_by (List (List X) × (ℕ × ℕ)) (coded× (coded_list (coded_list x)) (coded× coded_ℕ coded_ℕ))
    (λ l. (l.lists, (l.list_room, l.item_room))) (λ p. record { lists = p.0; list_room = p.1.0; item_room = p.1.1 }) (λ _. refl)

-- the lists with these ends, the first of which begins at `from`
abbrev pub lists_between : {X : Type 0} → ℕ → List ℕ → List X → List (List X)
lists_between from [] items = []
lists_between from (end ∷ ends) items = take (end - from) (drop from items) ∷ lists_between end ends items

-- the ends don't fall, and the last one is that of all values
abbrev pub AreEnds : ℕ → List ℕ → ℕ → Type 0
AreEnds from [] all = from ≡ all
AreEnds from (end ∷ ends) all = (from ≤ end) × AreEnds end ends all

-- where the list at a place begins: where the one before it ends
abbrev pub start_of : ℕ → List ℕ → ℕ → ℕ
start_of from ends zero = from
start_of from ends (suc k) = slice_index_or ends k 0
