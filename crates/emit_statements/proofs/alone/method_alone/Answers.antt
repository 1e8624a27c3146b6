use Rattle.std.proofs.Common.{◌≡◌, ◌∙◌, List, rules, subst, sym, true}
use Rattle.std.specs.Prelude.{codes, cond}
use Rattle.std.specs.Str.{bytes_eq}
use Rattle.slicc_ast.specs.declared.tree.expression.Suffix.{Suffix}
use Rattle.body_meaning.specs.Prelude.{before_last, changes_receiver, reading}
use Rattle.body_code.specs.Prelude.{changed, dropped, piece_behind, written_back}
use Rattle.emit_statements.specs.Prelude.{WritesLine}
use Rattle.emit_statements.proofs.Following.{where_false, where_true}
use Rattle.emit_statements.proofs.alone.method_alone.Goals as goal

pub returns-then-changes_receiver : goal.returns-then-changes_receiver
returns-then-changes_receiver c = λ ending.
    let s = reading c.args.s in
    where_true (changes_receiver c.args.name.now) (changed s c.args.n.now ending c.args.inner.now (before_last c.args.suffixes.now) c.args.name.now c.args.given.now c.args.own.now)
    (cond (bytes_eq c.args.name.now (codes "writeCallback")) (written_back s c.args.n.now ending c.args.given.now c.args.own.now)
    (dropped (piece_behind s c.args.n.now c.args.own.now.names c.args.inner.now c.args.suffixes.now) c.args.own.now))
    c.changed.result c.args.code.now c.changed.new.code c.changed.new.own (sym c.changes_receiver.ensures ∙ c.if-changes_receiver.true)
    (subst (λ (xs : List Suffix). WritesLine (changed s c.args.n.now ending c.args.inner.now xs c.args.name.now c.args.given.now c.args.own.now) c.changed.result c.args.code.now c.changed.new.code c.changed.new.own)
    c.before_last-before.ensures (c.changed.ensures ending))

pub returns-then-eq : goal.returns-then-eq
returns-then-eq c = λ ending.
    let s = reading c.args.s in
    let is : bytes_eq c.args.name.now (codes "writeCallback") ≡ true = search rules in
    where_false (changes_receiver c.args.name.now) (changed s c.args.n.now ending c.args.inner.now (before_last c.args.suffixes.now) c.args.name.now c.args.given.now c.args.own.now)
    (cond (bytes_eq c.args.name.now (codes "writeCallback")) (written_back s c.args.n.now ending c.args.given.now c.args.own.now)
    (dropped (piece_behind s c.args.n.now c.args.own.now.names c.args.inner.now c.args.suffixes.now) c.args.own.now))
    c.written_back.result c.args.code.now c.written_back.new.code c.written_back.new.own (sym c.changes_receiver.ensures ∙ c.if-changes_receiver.false)
    (where_true (bytes_eq c.args.name.now (codes "writeCallback")) (written_back s c.args.n.now ending c.args.given.now c.args.own.now)
    (dropped (piece_behind s c.args.n.now c.args.own.now.names c.args.inner.now c.args.suffixes.now) c.args.own.now)
    c.written_back.result c.args.code.now c.written_back.new.code c.written_back.new.own is (c.written_back.ensures ending))
