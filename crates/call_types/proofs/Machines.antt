-- The machines of a protocol are those that its scopes are.
use Rattle.std.proofs.Common.{◌≡◌, ◌<◌, ◌+◌, ℕ, Bool, true, false, cond, Option, None, Some, List, [], ◌∷◌, ◌++◌, flat_map, map, find, length, drop, refl, ap, sym, slice_index_or, is_some, Bor}
use Rattle.std.specs.Option.{option_copied}
use Rattle.std.proofs.lemmas.List.{drop_more}
use Rattle.slicc_ast.specs.declared.tree.item.Tree.{Tree}
use Rattle.slicc_ast.specs.declared.tree.machine.Machine.{Machine}
use Rattle.slicc_plan.specs.Prelude.{Scope, everywhere, within, machines_of, wide_scopes}
use Rattle.call_types.specs.Prelude.{machines_in}

pub machines_within : (ms : List Machine) → flat_map machines_in (map within ms) ≡ ms
machines_within [] = refl
machines_within (m ∷ ms) = ap (λ ns. m ∷ ns) (machines_within ms)

pub machines_wide : (trees : List Tree) → flat_map machines_in (wide_scopes trees) ≡ machines_of trees
machines_wide trees = machines_within (machines_of trees)

-- one more scope of which none is the machine that is looked for
pub found_further : (p : Machine → Bool) (scopes : List Scope) (i : ℕ) (d : Scope) → i < length scopes → find p (machines_in (slice_index_or scopes i d)) ≡ None → find p (flat_map machines_in (drop i scopes)) ≡ find p (flat_map machines_in (drop (i + 1) scopes))
found_further p scopes i d below none =
    let next : drop i scopes ≡ slice_index_or scopes i d ∷ drop (i + 1) scopes = drop_more scopes i d below in
    rw next (in_scope p (slice_index_or scopes i d) (flat_map machines_in (drop (i + 1) scopes)) none)
  where
    in_scope : (p : Machine → Bool) (s : Scope) (ms : List Machine) → find p (machines_in s) ≡ None → find p (machines_in s ++ ms) ≡ find p ms
    in_scope p everywhere ms h = refl
    in_scope p (within m) ms h = by_test (p m) ms m refl h
      where
        by_test : (v : Bool) (ms : List Machine) (m : Machine) → p m ≡ v → cond (p m) (Some m) None ≡ None → cond (p m) (Some m) (find p ms) ≡ find p ms
        by_test true ms m e h = absurd (cc (e, h))
        by_test false ms m e h = rw e refl

pub not_found : (o : Option (Bor Machine)) → is_some o ≡ false → option_copied o ≡ None
not_found None h = refl
not_found (Some m) h = absurd (cc h)
