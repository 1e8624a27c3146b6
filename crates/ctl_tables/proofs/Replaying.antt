-- Changes that are made in the containers.
use Rattle.std.specs.declared.alloc.Global.{Global}
use Rattle.std.specs.declared.vec.Vec.{Vec}
use Rattle.std.specs.Vec.{with_items}
use Rattle.std.proofs.lemmas.List.{with_items_is}
use Rattle.std.proofs.Common.{◌≡◌, ◌≤◌, ◌<◌, ◌+◌, ℕ, zero, suc, List, [], ◌∷◌, ◌++◌, All, length, get_or, map, set, take, None, Some, slice_get, refl, sym, ap, subst, ◌∙◌, arith}
use Rattle.std.proofs.lemmas.List.{length-map, map-append, map-set, take_more, take_more_set}
use Rattle.std.proofs.lemmas.List.Elements.{All-push, All-set}
use Rattle.std.proofs.lemmas.Option.{slice_get-map, slice_get_read, slice_get_past}
use Rattle.std.specs.Option.{option_map}
use Rattle.ruby_value.specs.declared.setup.TableSetup.{TableSetup}
use Rattle.ctl_face.specs.Prelude.{opening_table, Table}
use Rattle.ctl_tables.specs.declared.change.TableChange.{TableChange}
use Rattle.ctl_tables.specs.declared.stored.StoredTable.{StoredTable}
use Rattle.ctl_tables.specs.declared.stored.StoredTable.TheVariants as stored
use Rattle.ctl_tables.specs.Prelude.{after_changes, or_same, with_change, with_change_in, Replays, edit_in, table_of, HasRoom}

same_map_set : {X Y : Type 0} (f : X → Y) (xs : List X) (i : ℕ) (x new : X) → x ≡ get_or xs i x → f new ≡ f x → map f (set xs i new) ≡ map f xs
same_map_set f [] i x new is same = refl
same_map_set f (y ∷ ys) zero x new is same = ap (λ z. z ∷ map f ys) (same ∙ ap f is)
same_map_set f (y ∷ ys) (suc i) x new is same = ap (λ zs. f y ∷ zs) (same_map_set f ys i x new is same)

-- where one of them has made room, they are the same tables, and one more has it
pub same_tables : (tables : List StoredTable) (i : ℕ) (x new : StoredTable) → x ≡ get_or tables i x → table_of new ≡ table_of x → map table_of (set tables i new) ≡ map table_of tables
same_tables = same_map_set table_of

pub more_room : (tables : List StoredTable) (i n : ℕ) (new : StoredTable) → i < length tables → All (HasRoom n) (take i tables) → HasRoom n new → All (HasRoom n) (take (i + 1) (set tables i new))
more_room tables i n new inside all here = rw (take_more_set tables i new inside) (All-push (HasRoom n) (take i tables) new all here)

pub room_kept : (tables : List StoredTable) (i n : ℕ) (x new : StoredTable) → i < length tables → x ≡ get_or tables i x → (HasRoom n x → HasRoom n new) → All (HasRoom n) tables → All (HasRoom n) (set tables i new)
room_kept tables i n x new inside is keeps all =
    let P : StoredTable → Type 0 = HasRoom n in
    All-set (HasRoom n) tables i new (keeps (subst P (sym is) (all i x inside))) all

-- tables that are written back into the list that they were taken from
pub room_written : (tables : Vec StoredTable Global) (lent new : List StoredTable) (n : ℕ) → lent ≡ tables.items → length new ≡ length lent → (All (HasRoom n) lent → All (HasRoom n) new) → All (HasRoom n) tables.items
    → All (HasRoom n) (with_items tables new).items
room_written tables lent new n is count keeps all =
    let long : length new ≡ tables.len = omega (arith, count, ap (λ (l : List StoredTable). length l) is, tables.ok.0) in
    subst (All (HasRoom n)) (sym (with_items_is tables new long)) (keeps (subst (All (HasRoom n)) (sym is) all))

-- one change is made
pub made_one : (tables : List StoredTable) (c : TableChange) (x new : StoredTable) → c.table < length tables → x ≡ get_or tables c.table x → table_of new ≡ or_same (table_of x) (edit_in c.edit c.line (table_of x)) → map table_of (set tables c.table new) ≡ with_change c (map table_of tables)
made_one tables c x new inside is made =
    let found : slice_get tables c.table ≡ Some x = slice_get_read tables (length tables) c.table x refl inside is in
    let there : slice_get (map table_of tables) c.table ≡ Some (table_of x) = slice_get-map table_of tables c.table ∙ ap (option_map table_of) found in
    map-set table_of tables c.table new ∙ ap (set (map table_of tables) c.table) made ∙ sym (ap (with_change_in c (map table_of tables)) there)

pub made_at : (tables : List StoredTable) (c : TableChange) (at : ℕ) (x new : StoredTable) → at ≡ c.table → at < length tables → x ≡ get_or tables at x → table_of new ≡ or_same (table_of x) (edit_in c.edit c.line (table_of x)) → map table_of (set tables at new) ≡ with_change c (map table_of tables)
made_at tables c at x new same inside is made =
    ap (λ k. map table_of (set tables k new)) same
    ∙ made_one tables c x new (let P : ℕ → Type 0 = λ k. k < length tables in subst P same inside) (let Q : ℕ → Type 0 = λ k. x ≡ get_or tables k x in subst Q same is) made

pub made_none : (tables : List StoredTable) (c : TableChange) → length tables ≤ c.table → map table_of tables ≡ with_change c (map table_of tables)
made_none tables c past =
    let gone : slice_get (map table_of tables) c.table ≡ None = slice_get-map table_of tables c.table ∙ ap (option_map table_of) (slice_get_past tables c.table past) in
    sym (ap (with_change_in c (map table_of tables)) gone)

less_room : (n : ℕ) (t : StoredTable) → HasRoom (n + 1) t → HasRoom n t
less_room n (stored.Cache cache) room = tt
less_room n (stored.Directory directory) room = omega arith
less_room n (stored.Tbe tbes) room = omega arith
less_room n (stored.Parameters values) room = tt

pub room_rest : (n : ℕ) (tables : List StoredTable) → All (HasRoom (n + 1)) tables → All (HasRoom n) tables
room_rest n tables all k d below = less_room n (get_or tables k d) (all k d below)

pub room_after : (tables : List StoredTable) (i n : ℕ) (x new : StoredTable) → i < length tables → x ≡ get_or tables i x → (HasRoom (n + 1) x → HasRoom n new) → All (HasRoom (n + 1)) tables → All (HasRoom n) (set tables i new)
room_after tables i n x new inside is keeps all =
    let P : StoredTable → Type 0 = HasRoom (n + 1) in
    let here : HasRoom (n + 1) x = subst P (sym is) (all i x inside) in
    All-set (HasRoom n) tables i new (keeps here) (room_rest n tables all)

-- the oldest change is made first
after-push : (log : List TableChange) (c : TableChange) (ts : List Table) → after_changes (log ++ c ∷ []) ts ≡ after_changes log (with_change c ts)
unfolding after_changes
after-push [] c ts = refl
after-push (x ∷ log) c ts = ap (with_change x) (after-push log c ts)

pub oldest_first : (all rest : List TableChange) (c : TableChange) (before after : List Table) → after ≡ with_change c before → all ≡ rest ++ c ∷ [] → after_changes rest after ≡ after_changes all before
oldest_first all rest c before after is parts = rw (is, parts) (sym (after-push rest c before))

-- no change
pub nothing_replays : (log : List TableChange) (ts : List Table) → log ≡ [] → Replays log ts
unfolding Replays
nothing_replays log ts is = let P : List TableChange → Type 0 = λ l. Replays l ts in subst P (sym is) tt

pub nothing_made : (log : List TableChange) (ts : List Table) → log ≡ [] → after_changes log ts ≡ ts
unfolding after_changes
nothing_made log ts is = ap (λ l. after_changes l ts) is

-- one more table is opened
got_map : {X Y : Type 0} (f : X → Y) (xs : List X) (i : ℕ) (x : X) → x ≡ get_or xs i x → get_or (map f xs) i (f x) ≡ f x
got_map f [] i x is = refl
got_map f (y ∷ ys) zero x is = ap f (sym is)
got_map f (y ∷ ys) (suc i) x is = got_map f ys i x is

take_one : {X Y : Type 0} (f : X → Y) (xs : List X) (i : ℕ) (x : X) → x ≡ get_or xs i x → i < length xs → take (i + 1) (map f xs) ≡ take i (map f xs) ++ f x ∷ []
take_one f xs i x is below =
    let inside : i < length (map f xs) = rw length-map below in
    take_more (map f xs) i (f x) inside ∙ ap (λ z. take i (map f xs) ++ z ∷ []) (got_map f xs i x is)

pub opened_one : (old new : List StoredTable) (setups : List TableSetup) (i : ℕ) (s : TableSetup) (x : StoredTable) → map table_of old ≡ take i (map (λ (u : TableSetup). opening_table u.size u.initial) setups) → new ≡ old ++ x ∷ [] → s ≡ get_or setups i s → i < length setups → table_of x ≡ opening_table s.size s.initial → map table_of new ≡ take (i + 1) (map (λ (u : TableSetup). opening_table u.size u.initial) setups)
opened_one old new setups i s x so_far pushed is below opened =
    ap (map table_of) pushed ∙ map-append table_of old (x ∷ []) ∙ ap (λ l. l ++ table_of x ∷ []) so_far
    ∙ ap (λ t. take i (map (λ (u : TableSetup). opening_table u.size u.initial) setups) ++ t ∷ []) opened
    ∙ sym (take_one (λ (u : TableSetup). opening_table u.size u.initial) setups i s is below)
