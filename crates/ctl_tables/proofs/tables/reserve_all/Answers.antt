use Rattle.std.proofs.Common.{◌≡◌, ◌∙◌, ◌<◌, ℕ, All, arith, length, subst, sym}
use Rattle.std.proofs.lemmas.List.{length-set, take_all}
use Rattle.ctl_tables.specs.declared.stored.StoredTable.{StoredTable}
use Rattle.ctl_tables.specs.Prelude.{HasRoom, table_of}
use Rattle.ctl_tables.proofs.Replaying.{more_room, room_kept, same_tables}
use Rattle.ctl_tables.proofs.tables.reserve_all.Goals as goal

pub returns-in_err-reserve-clause-no_less : goal.returns-in_err-reserve-clause-no_less
returns-in_err-reserve-clause-no_less c = λ n all.
    let keeps = subst (λ (t : StoredTable). HasRoom n t → HasRoom n c.reserve.new.self) (sym c.index-tables-i.is) (c.reserve.ensures.no_less n) in
    room_kept c.loop-i.tables c.loop-i.i n c.index-tables-i.result c.reserve.new.self (omega (arith, c.loop-i-test.true)) c.index-tables-i.is keeps (c.loop-i.invariant.2 n all)

pub loop-i-preserved : goal.loop-i-preserved
loop-i-preserved c =
    let within : c.loop-i.i < length c.loop-i.tables = omega (arith, c.loop-i-test.true) in
    let same : table_of c.reserve.new.self ≡ table_of c.index-tables-i.result = subst (λ (t : StoredTable). table_of c.reserve.new.self ≡ table_of t) (sym c.index-tables-i.is) c.reserve.ensures.same in
    let keeps : (n : ℕ) → HasRoom n c.index-tables-i.result → HasRoom n c.reserve.new.self = λ n. subst (λ (t : StoredTable). HasRoom n t → HasRoom n c.reserve.new.self) (sym c.index-tables-i.is) (c.reserve.ensures.no_less n) in (
      same_tables c.loop-i.tables c.loop-i.i c.index-tables-i.result c.reserve.new.self c.index-tables-i.is same ∙ c.loop-i.invariant.0,
      more_room c.loop-i.tables c.loop-i.i c.args.more c.reserve.new.self within c.loop-i.invariant.1 c.in_ok-reserve.ensures.ok,
      λ n all. room_kept c.loop-i.tables c.loop-i.i n c.index-tables-i.result c.reserve.new.self within c.index-tables-i.is (keeps n) (c.loop-i.invariant.2 n all),
      length-set c.loop-i.tables c.loop-i.i c.reserve.new.self ∙ c.loop-i.invariant.3,
    )

pub returns-clause-ok : goal.returns-clause-ok
returns-clause-ok c =
    subst (All (HasRoom c.args.more)) (take_all c.loop-i.i c.loop-i.tables (omega (arith, c.loop-i-test.false))) c.loop-i.invariant.1
