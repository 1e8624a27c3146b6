-- Fronts of lists: what a row begins with it begins with up to any place; where a list stops is one place, for one reason.
use Rattle.std.proofs.Common.{◌≡◌, ℕ, ◌≤◌, ◌<◌, true, List, [], ◌∷◌, ◌++◌, refl, sym, subst, ◌∙◌, arith, append-nil, append_assoc}
use Rattle.slicc_ast.specs.Prelude.{has, Row, Rows, Grammar, Begins, Derives, Extent, IsViable, Matches, Front, stopped, ended, one, alternative, Stop, IsFirstFault, IsWithin, IsLongest, IsOpenerTooDeep, IsStop, Passed, Bad, Deep, Short, one_too_deep, whole, opener_too_deep, not_viable, too_short}
use Rattle.slicc_ast.specs.Matches.Matches.{present, absent, again, enough, inside, on, outside}
use Rattle.slicc_ast.proofs.Carried.{first_same, rest_same, no_element}

pub front_of : {F : Type 0} (g : Grammar F) {x : Extent} {row : Row F} {rows : Rows F} {tokens : List ℕ} {nestings : ℕ} → Matches g x row rows tokens nestings → (front rest : List ℕ) → tokens ≡ front ++ rest → Begins g row rows front
front_of g stopped [] rest same = (_, stopped)
front_of g stopped (t ∷ front) rest same = absurd (no_element t (front ++ rest) same)
front_of g ended [] rest same = (_, stopped)
front_of g ended (t ∷ front) rest same = absurd (no_element t (front ++ rest) same)
front_of g (one is m) [] rest same = (_, stopped)
front_of g (one {kinds = kinds} {row = row} {rows = rows} {kind = kind} {tokens = tokens} is m) (t ∷ front) rest same =
    let later = front_of g m front rest (rest_same kind t tokens (front ++ rest) same) in
    (later.0, one (subst (λ k. has kinds k ≡ true) (first_same kind t tokens (front ++ rest) same) is) later.1)
front_of g (alternative place choice at m) front rest same = let n = front_of g m front rest same in (n.0, alternative place choice at n.1)
front_of g (present m) front rest same = let n = front_of g m front rest same in (n.0, present n.1)
front_of g (absent m) front rest same = let n = front_of g m front rest same in (n.0, absent n.1)
front_of g (again m) front rest same = let n = front_of g m front rest same in (n.0, again n.1)
front_of g (enough m) front rest same = let n = front_of g m front rest same in (n.0, enough n.1)
front_of g (inside is m) [] rest same = (_, stopped)
front_of g (inside {kinds = kinds} {kind = kind} {tokens = tokens} is m) (t ∷ front) rest same =
    let later = front_of g m front rest (rest_same kind t tokens (front ++ rest) same) in
    (later.0, inside (subst (λ k. has kinds k ≡ true) (first_same kind t tokens (front ++ rest) same) is) later.1)
front_of g (on m) front rest same = let n = front_of g m front rest same in (n.0, on n.1)
front_of g (outside m) front rest same = let n = front_of g m front rest same in (n.0, outside n.1)

-- of two splits of one list, either front goes on into the other, or they are one
pub data Compared (front rest other left : List ℕ) : Type 0 where
  same : front ≡ other → rest ≡ left → Compared front rest other left
  shorter : (kind : ℕ) (between : List ℕ) → other ≡ front ++ kind ∷ between → rest ≡ kind ∷ (between ++ left) → Compared front rest other left
  longer : (kind : ℕ) (between : List ℕ) → front ≡ other ++ kind ∷ between → left ≡ kind ∷ (between ++ rest) → Compared front rest other left

compare_behind : (t u : ℕ) (front rest other left : List ℕ) → t ≡ u → Compared front rest other left → Compared (t ∷ front) rest (u ∷ other) left
compare_behind t u front rest other left is (same e f) = same (cc (is, e)) f
compare_behind t u front rest other left is (shorter k between e f) = shorter k between (cc (is, e)) f
compare_behind t u front rest other left is (longer k between e f) = longer k between (cc (is, e)) f

compare : (front rest other left : List ℕ) → front ++ rest ≡ other ++ left → Compared front rest other left
compare [] rest [] left split = same refl split
compare [] rest (u ∷ other) left split = shorter u other refl split
compare (t ∷ front) rest [] left split = longer t front refl (sym split)
compare (t ∷ front) rest (u ∷ other) left split =
    compare_behind t u front rest other left (first_same t u (front ++ rest) (other ++ left) split)
    (compare front rest other left (rest_same t u (front ++ rest) (other ++ left) split))

module _ {F : Type 0} (g : Grammar F) (limit : ℕ) (row : Row F) (rows : Rows F) where
  -- why a list stops behind a front of it
  data Reason (front rest : List ℕ) : Stop → Type 0 where
    above : (kind : ℕ) (later : List ℕ) (nestings : ℕ) → rest ≡ kind ∷ later → Matches g Front row rows (front ++ kind ∷ []) nestings → limit < nestings → Reason front rest (Deep rest)
    all : IsLongest g limit row rows front rest → Derives g row rows front → Reason front rest (Passed rest)
    opener : (kind : ℕ) (later : List ℕ) → rest ≡ kind ∷ later → IsLongest g limit row rows front rest → (Derives g row rows front → ⊥) → IsOpenerTooDeep g limit row rows front kind → Reason front rest (Deep rest)
    other : (kind : ℕ) (later : List ℕ) → rest ≡ kind ∷ later → IsLongest g limit row rows front rest → (Derives g row rows front → ⊥) → (IsOpenerTooDeep g limit row rows front kind → ⊥) → Reason front rest (Bad rest)
    nothing : rest ≡ [] → IsLongest g limit row rows front rest → (Derives g row rows front → ⊥) → Reason front rest Short

  record Seen (tokens : List ℕ) (stop : Stop) : Type 0 where
    front : List ℕ
    rest : List ℕ
    split : tokens ≡ front ++ rest
    within : IsWithin g limit row rows front
    reason : Reason front rest stop

  seen : (tokens : List ℕ) (stop : Stop) → IsStop g limit row rows tokens stop → Seen tokens stop
  seen tokens stop (one_too_deep front later kind nestings split within m more) =
      record { front = front; rest = kind ∷ later; split = split; within = within; reason = above kind later nestings refl m more }
  seen tokens stop (whole front rest split within longest m) =
      record { front = front; rest = rest; split = split; within = within; reason = all longest m }
  seen tokens stop (opener_too_deep front later kind split within longest not_whole deep) =
      record { front = front; rest = kind ∷ later; split = split; within = within; reason = opener kind later refl longest not_whole deep }
  seen tokens stop (not_viable front later kind split within longest not_whole not_deep) =
      record { front = front; rest = kind ∷ later; split = split; within = within; reason = other kind later refl longest not_whole not_deep }
  seen tokens stop (too_short within begins not_whole) =
      record {
        front = tokens;
        rest = [];
        split = sym (append-nil tokens);
        within = within;
        reason = nothing refl (record { begins = begins; not_further = λ kind later is m. no_element kind later is }) not_whole;
      }

  begins_by : (front rest : List ℕ) (stop : Stop) → Reason front rest stop → Begins g row rows front
  begins_by front rest stop (above kind later nestings is m more) = front_of g m front (kind ∷ []) refl
  begins_by front rest stop (all longest m) = longest.begins
  begins_by front rest stop (opener kind later is longest not_whole deep) = longest.begins
  begins_by front rest stop (other kind later is longest not_whole not_deep) = longest.begins
  begins_by front rest stop (nothing is longest not_whole) = longest.begins

  -- a list doesn't stop behind a front that goes on into one at which it is well
  not_at : (front rest : List ℕ) (stop : Stop) (kind : ℕ) (left : List ℕ) → Reason front rest stop → rest ≡ kind ∷ left → Begins g row rows (front ++ kind ∷ []) → ((nestings : ℕ) → Matches g Front row rows (front ++ kind ∷ []) nestings → nestings ≤ limit) → ⊥
  not_at front rest stop kind left (above k later nestings also m more) is begins low =
      let below = low nestings (subst (λ v. Matches g Front row rows (front ++ v ∷ []) nestings) (first_same k kind later left (sym also ∙ is)) m) in omega arith
  not_at front rest stop kind left (all longest m) is begins low = longest.not_further kind left is begins
  not_at front rest stop kind left (opener k later also longest not_whole deep) is begins low = longest.not_further kind left is begins
  not_at front rest stop kind left (other k later also longest not_whole not_deep) is begins low = longest.not_further kind left is begins
  not_at front rest stop kind left (nothing also longest not_whole) is begins low = longest.not_further kind left is begins

  not_before : (front rest : List ℕ) (stop : Stop) (kind : ℕ) (between left : List ℕ) → Reason front rest stop → rest ≡ kind ∷ left → IsWithin g limit row rows (front ++ kind ∷ between) → Begins g row rows (front ++ kind ∷ between) → ⊥
  not_before front rest stop kind between left reason is within begins =
      let joined : front ++ kind ∷ between ≡ (front ++ kind ∷ []) ++ between = sym (append_assoc front (kind ∷ []) between) in
      not_at front rest stop kind left reason is (front_of g begins.1 (front ++ kind ∷ []) between joined)
      (λ nestings m. within (front ++ kind ∷ []) between nestings joined m)

  one_reason : (front rest : List ℕ) (a b : Stop) → Reason front rest a → Reason front rest b → a ≡ b
  one_reason front rest a b (above k later n is m more) (above k' later' n' is' m' more') = refl
  one_reason front rest a b (above k later n is m more) (opener k' later' is' longest not_whole deep) = refl
  one_reason front rest a b (above k later n is m more) (all longest whole_one) = absurd (longest.not_further k later is (n, m))
  one_reason front rest a b (above k later n is m more) (other k' later' is' longest not_whole not_deep) = absurd (longest.not_further k later is (n, m))
  one_reason front rest a b (above k later n is m more) (nothing is' longest not_whole) = absurd (no_element k later (sym is' ∙ is))
  one_reason front rest a b (all longest m) (above k later n is m' more) = absurd (longest.not_further k later is (n, m'))
  one_reason front rest a b (all longest m) (all longest' m') = refl
  one_reason front rest a b (all longest m) (opener k later is longest' not_whole deep) = absurd (not_whole m)
  one_reason front rest a b (all longest m) (other k later is longest' not_whole not_deep) = absurd (not_whole m)
  one_reason front rest a b (all longest m) (nothing is longest' not_whole) = absurd (not_whole m)
  one_reason front rest a b (opener k later is longest not_whole deep) (above k' later' n is' m more) = refl
  one_reason front rest a b (opener k later is longest not_whole deep) (all longest' m) = absurd (not_whole m)
  one_reason front rest a b (opener k later is longest not_whole deep) (opener k' later' is' longest' not_whole' deep') = refl
  one_reason front rest a b (opener k later is longest not_whole deep) (other k' later' is' longest' not_whole' not_deep) =
      absurd (not_deep (subst (λ v. IsOpenerTooDeep g limit row rows front v) (first_same k k' later later' (sym is ∙ is')) deep))
  one_reason front rest a b (opener k later is longest not_whole deep) (nothing is' longest' not_whole') = absurd (no_element k later (sym is' ∙ is))
  one_reason front rest a b (other k later is longest not_whole not_deep) (above k' later' n is' m more) = absurd (longest.not_further k' later' is' (n, m))
  one_reason front rest a b (other k later is longest not_whole not_deep) (all longest' m) = absurd (not_whole m)
  one_reason front rest a b (other k later is longest not_whole not_deep) (opener k' later' is' longest' not_whole' deep) =
      absurd (not_deep (subst (λ v. IsOpenerTooDeep g limit row rows front v) (first_same k' k later' later (sym is' ∙ is)) deep))
  one_reason front rest a b (other k later is longest not_whole not_deep) (other k' later' is' longest' not_whole' not_deep') = refl
  one_reason front rest a b (other k later is longest not_whole not_deep) (nothing is' longest' not_whole') = absurd (no_element k later (sym is' ∙ is))
  one_reason front rest a b (nothing is longest not_whole) (above k later n is' m more) = absurd (no_element k later (sym is ∙ is'))
  one_reason front rest a b (nothing is longest not_whole) (all longest' m) = absurd (not_whole m)
  one_reason front rest a b (nothing is longest not_whole) (opener k later is' longest' not_whole' deep) = absurd (no_element k later (sym is ∙ is'))
  one_reason front rest a b (nothing is longest not_whole) (other k later is' longest' not_whole' not_deep) = absurd (no_element k later (sym is ∙ is'))
  one_reason front rest a b (nothing is longest not_whole) (nothing is' longest' not_whole') = refl

  same_seen : (tokens : List ℕ) (a b : Stop) → Seen tokens a → Seen tokens b → a ≡ b
  same_seen tokens a b s t = go (compare s.front s.rest t.front t.rest (sym s.split ∙ t.split))
    where
      go : Compared s.front s.rest t.front t.rest → a ≡ b
      go (same e f) =
          let moved : Reason t.front t.rest a = subst (λ r. Reason t.front r a) f (subst (λ v. Reason v s.rest a) e s.reason) in
          one_reason t.front t.rest a b moved t.reason
      go (shorter kind between e f) =
          absurd (not_before s.front s.rest a kind between (between ++ t.rest) s.reason f
          (subst (λ v. IsWithin g limit row rows v) e t.within)
          (subst (λ v. Begins g row rows v) e (begins_by t.front t.rest b t.reason)))
      go (longer kind between e f) =
          absurd (not_before t.front t.rest b kind between (between ++ s.rest) t.reason f
          (subst (λ v. IsWithin g limit row rows v) e s.within)
          (subst (λ v. Begins g row rows v) e (begins_by s.front s.rest a s.reason)))

  -- a list stops in one way
  pub one_stop : (tokens : List ℕ) (a b : Stop) → IsStop g limit row rows tokens a → IsStop g limit row rows tokens b → a ≡ b
  one_stop tokens a b s t = same_seen tokens a b (seen tokens a s) (seen tokens b t)

  -- and one that is the parts, with no nesting above the limit, in none but at its end
  pub whole_passes : (tokens : List ℕ) → Derives g row rows tokens → IsWithin g limit row rows tokens → IsStop g limit row rows tokens (Passed [])
  whole_passes tokens m within =
      whole tokens [] (sym (append-nil tokens)) within
      (record {
        begins = front_of g m tokens [] (sym (append-nil tokens));
        not_further = λ kind later is n. no_element kind later is;
      })
      m

  -- the other way round too
  pub passes_whole : (tokens : List ℕ) → IsStop g limit row rows tokens (Passed []) → Derives g row rows tokens × IsWithin g limit row rows tokens
  passes_whole tokens (whole front rest split within longest m) =
      let is : tokens ≡ front = split ∙ append-nil front in
      (subst (λ v. Derives g row rows v) (sym is) m, subst (λ v. IsWithin g limit row rows v) (sym is) within)

-- at a bad token the list so far is viable, and with the token it isn't
pub not_viable_at : {F : Type 0} (g : Grammar F) (limit : ℕ) (n : F) (tokens later : List ℕ) (kind : ℕ) → IsFirstFault g limit n tokens (Bad (kind ∷ later)) → (front : List ℕ) × (tokens ≡ front ++ kind ∷ later) × IsViable g n front × (IsViable g n (front ++ kind ∷ []) → ⊥)
not_viable_at g limit n tokens later kind (not_viable front _ _ split within longest not_whole not_deep) =
    (front, split, longest.begins, λ viable. longest.not_further kind later refl viable)
