use Rattle.std.proofs.Common.{◌≡◌, ◌+◌, ℕ, Bool, true, false, List, [], ◌∷◌, ◌++◌, Vec, Global, Some, is_some, refl, sym, ap, subst, ◌∙◌, length, map, arith}
use Rattle.std.specs.Cmp.Lexicographic.{bytes_decides, nat_list_eq_equiv}
use Rattle.std.specs.HashMap.{get_by}
use Rattle.std.specs.Map.{KeepsOthers}
use Rattle.std.specs.List.{list_any}
use Rattle.std.specs.Str.{bytes_eq}
use Rattle.std.proofs.lemmas.List.{length-append, length-map, map-append}
use Rattle.ruby_base.specs.Prelude.{AreDistinct, is_name, number_among, Finds}
use Rattle.ruby_base.proofs.Keys.{distinct-new, found, not_some, number-new, number-other, with_name-new, with_name-there}
use Rattle.ruby_base.proofs.index.NameIndex.add.Goals as goal

pub returns-in-Some-clause-ok : goal.returns-in-Some-clause-ok
returns-in-Some-clause-ok c =
    let there : list_any (is_name c.args.name.now) c.args.self.now ≡ true =
    sym (found c.args.self.now c.args.name.now) ∙ ap is_some (sym c.find.ensures ∙ c.in-Some.is) in
    sym (with_name-there c.args.self.now c.args.name.now there)

fresh : (c : goal.In-Ok) → list_any (is_name c.args.name.now) c.args.self.now ≡ false
fresh c = sym (found c.args.self.now c.args.name.now) ∙ ap is_some (sym c.find.ensures) ∙ not_some c.find.result c.in_default.not-Some

-- the names with the new one
after : (c : goal.In-Ok) → map (λ (v : Vec ℕ Global). v.items) c.push.new.self.items ≡ c.args.self.now ++ c.args.name.now ∷ []
after c =
    ap (map (λ (v : Vec ℕ Global). v.items)) c.in_ok-push.ensures.items
    ∙ map-append (λ (v : Vec ℕ Global). v.items) c.self.inside.names.items (c.in_ok-own.own ∷ [])
    ∙ ap (λ n. map (λ (v : Vec ℕ Global). v.items) c.self.inside.names.items ++ n ∷ []) c.in_ok-own.ensures.items
    ∙ ap (λ names. names ++ c.args.name.now ∷ []) c.self.view_is

count : (c : goal.In-Ok) → length c.args.self.now ≡ c.len-number.result
count c =
    let long : c.len-number.result ≡ length c.self.inside.names.items = c.len-number.ensures ∙ c.self.inside.names.ok.0 in
    sym (ap length c.self.view_is) ∙ length-map c.self.inside.names.items (λ (v : Vec ℕ Global). v.items) ∙ sym long

-- which name has which number then
numbers : (c : goal.In-Ok) (n : List ℕ) (b : Bool) → bytes_eq c.args.name.now n ≡ b
    → get_by (λ (k : Vec ℕ Global). bytes_eq n k.items) c.insert.new.self ≡ number_among (c.args.self.now ++ c.args.name.now ∷ []) n
unfolding KeepsOthers Finds
numbers c n true e =
    subst (λ m. get_by (λ (k : Vec ℕ Global). bytes_eq m k.items) c.insert.new.self ≡ number_among (c.args.self.now ++ c.args.name.now ∷ []) m)
    ((bytes_decides c.args.name.now n).0 e)
    (subst (λ m. get_by (λ (k : Vec ℕ Global). bytes_eq m k.items) c.insert.new.self ≡ Some c.len-number.result) c.in_ok-key.ensures.items c.in-Ok.ensures.updates.1
    ∙ sym (number-new c.args.self.now c.args.name.now (fresh c) ∙ ap Some (count c)))
numbers c n false e =
    c.in-Ok.ensures.updates.3 (λ (k : Vec ℕ Global). bytes_eq n k.items)
    (λ x y h. ap (λ m. bytes_eq m y.items) ((bytes_decides n x.items).0 h))
    (λ k h. ap (bytes_eq n) (sym ((bytes_decides c.in_ok-key.key.items k.items).0 h) ∙ c.in_ok-key.ensures.items) ∙ nat_list_eq_equiv.symm n c.args.name.now ∙ e)
    ∙ c.self.invariant.2 n ∙ ap (λ names. number_among names n) c.self.view_is ∙ sym (number-other c.args.self.now c.args.name.now n e)

pub invariant_of-self-in-Ok : goal.invariant_of-self-in-Ok
unfolding Finds
invariant_of-self-in-Ok c =
    let all : length c.push.new.self.items ≡ length c.args.self.now + 1 =
    sym (length-map c.push.new.self.items (λ (v : Vec ℕ Global). v.items)) ∙ ap length (after c) ∙ length-append c.args.self.now (c.args.name.now ∷ []) in (
      omega (arith, all, count c, c.if-number.false),
      subst AreDistinct (sym (after c)) (distinct-new c.args.self.now c.args.name.now (subst AreDistinct c.self.view_is c.self.invariant.1) (fresh c)),
      λ n. numbers c n (bytes_eq c.args.name.now n) refl ∙ ap (λ names. number_among names n) (sym (after c)),
    )

pub returns-clause-number : goal.returns-clause-number
returns-clause-number c = ap (λ names. number_among names c.args.name.now) (after c) ∙ number-new c.args.self.now c.args.name.now (fresh c) ∙ ap Some (count c)

pub returns-clause-ok : goal.returns-clause-ok
returns-clause-ok c = after c ∙ sym (with_name-new c.args.self.now c.args.name.now (fresh c))
