use Rattle.std.proofs.Common.{◌≡◌, None, false, rules, subst, true}
use Rattle.std.specs.Prelude.{codes}
use Rattle.std.specs.Str.{bytes_eq}
use Rattle.ruby_value.specs.declared.kind.Kind.{Kind}
use Rattle.body_meaning.specs.Prelude.{reading}
use Rattle.body_code.specs.Prelude.{entry_slot, piece, tbe_slot}
use Rattle.body_code.specs.Statements.{reference_set, reference_unset}
use Rattle.emit_statements.specs.Prelude.{WritesLine}
use Rattle.emit_statements.proofs.AloneForms.{by_fifth, by_first, by_fourth, by_second, by_third}
use Rattle.emit_statements.proofs.alone.built_in_alone.Goals as goal

pub returns-then-eq : goal.returns-then-eq
returns-then-eq c = λ ending.
    let s = reading c.args.s in
    let is : bytes_eq c.args.name.now (codes "set_cache_entry") ≡ true = search rules in
    by_first s c.args.n.now ending (piece s c.args.n.now c.args.own.now.names None c.args.e.now) c.args.name.now c.args.given.now c.args.own.now c.reference_set.result c.args.code.now c.reference_set.new.code c.args.own.now
    is (subst (λ (k : Kind). WritesLine (reference_set s c.args.n.now ending entry_slot k c.args.given.now c.args.own.now) c.reference_set.result c.args.code.now c.reference_set.new.code c.args.own.now) c.entry_kind.ensures (c.reference_set.ensures ending))

pub returns-then-eq-2 : goal.returns-then-eq-2
returns-then-eq-2 c = λ ending.
    let s = reading c.args.s in
    let t0 : bytes_eq c.args.name.now (codes "set_cache_entry") ≡ false = search rules in
    let is : bytes_eq c.args.name.now (codes "unset_cache_entry") ≡ true = search rules in
    by_second s c.args.n.now ending (piece s c.args.n.now c.args.own.now.names None c.args.e.now) c.args.name.now c.args.given.now c.args.own.now c.reference_unset.result c.args.code.now c.reference_unset.new.code c.args.own.now
    t0 is (subst (λ (k : Kind). WritesLine (reference_unset s c.args.n.now ending entry_slot k c.args.own.now) c.reference_unset.result c.args.code.now c.reference_unset.new.code c.args.own.now) c.entry_kind-then-eq-2.ensures (c.reference_unset.ensures s c.args.n.now ending))

pub returns-then-eq-3 : goal.returns-then-eq-3
returns-then-eq-3 c = λ ending.
    let s = reading c.args.s in
    let t0 : bytes_eq c.args.name.now (codes "set_cache_entry") ≡ false = search rules in
    let t1 : bytes_eq c.args.name.now (codes "unset_cache_entry") ≡ false = search rules in
    let is : bytes_eq c.args.name.now (codes "set_tbe") ≡ true = search rules in
    by_third s c.args.n.now ending (piece s c.args.n.now c.args.own.now.names None c.args.e.now) c.args.name.now c.args.given.now c.args.own.now c.reference_set-then-eq-3.result c.args.code.now c.reference_set-then-eq-3.new.code c.args.own.now
    t0 t1 is (subst (λ (k : Kind). WritesLine (reference_set s c.args.n.now ending tbe_slot k c.args.given.now c.args.own.now) c.reference_set-then-eq-3.result c.args.code.now c.reference_set-then-eq-3.new.code c.args.own.now) c.tbe_kind.ensures (c.reference_set-then-eq-3.ensures ending))

pub returns-then-eq-4 : goal.returns-then-eq-4
returns-then-eq-4 c = λ ending.
    let s = reading c.args.s in
    let t0 : bytes_eq c.args.name.now (codes "set_cache_entry") ≡ false = search rules in
    let t1 : bytes_eq c.args.name.now (codes "unset_cache_entry") ≡ false = search rules in
    let t2 : bytes_eq c.args.name.now (codes "set_tbe") ≡ false = search rules in
    let is : bytes_eq c.args.name.now (codes "unset_tbe") ≡ true = search rules in
    by_fourth s c.args.n.now ending (piece s c.args.n.now c.args.own.now.names None c.args.e.now) c.args.name.now c.args.given.now c.args.own.now c.reference_unset-then-eq-4.result c.args.code.now c.reference_unset-then-eq-4.new.code c.args.own.now
    t0 t1 t2 is (subst (λ (k : Kind). WritesLine (reference_unset s c.args.n.now ending tbe_slot k c.args.own.now) c.reference_unset-then-eq-4.result c.args.code.now c.reference_unset-then-eq-4.new.code c.args.own.now) c.tbe_kind-then-eq-4.ensures (c.reference_unset-then-eq-4.ensures s c.args.n.now ending))

pub returns-then-eq-5 : goal.returns-then-eq-5
returns-then-eq-5 c = λ ending.
    let s = reading c.args.s in
    let t0 : bytes_eq c.args.name.now (codes "set_cache_entry") ≡ false = search rules in
    let t1 : bytes_eq c.args.name.now (codes "unset_cache_entry") ≡ false = search rules in
    let t2 : bytes_eq c.args.name.now (codes "set_tbe") ≡ false = search rules in
    let t3 : bytes_eq c.args.name.now (codes "unset_tbe") ≡ false = search rules in
    let is : bytes_eq c.args.name.now (codes "trigger") ≡ true = search rules in
    by_fifth s c.args.n.now ending (piece s c.args.n.now c.args.own.now.names None c.args.e.now) c.args.name.now c.args.given.now c.args.own.now c.triggered.result c.args.code.now c.triggered.new.code c.triggered.new.own
    t0 t1 t2 t3 is (c.triggered.ensures ending)
