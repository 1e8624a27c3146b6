use Rattle.std.proofs.Common.{refl, ap}
use Rattle.ruby_value.specs.declared.value.Value.TheVariants as value
use Rattle.acts.specs.Act as act
use Rattle.acts.specs.Prelude.{act as done}
use Rattle.built_in_acts.proofs.Told.{silent_as, silent_fails, told_as, told_fails}
use Rattle.built_in_acts.proofs.doing.on_table.Goals as goal

pub returns-in_err-lookup-in-Lookup : goal.returns-in_err-lookup-in-Lookup
returns-in_err-lookup-in-Lookup g c = rw c.in-Lookup.is (told_fails (ap (λ l. done (act.Lookup c.args.on l)) c.line_at-line.ensures.line) _ _ _ _ _ _ c.in_err-lookup-in-Lookup.ensures c.from_residual.ensures.1)

pub returns-in_ok-lookup-in-Lookup : goal.returns-in_ok-lookup-in-Lookup
returns-in_ok-lookup-in-Lookup g c = rw c.in-Lookup.is (told_as (ap (λ l. done (act.Lookup c.args.on l)) c.line_at-line.ensures.line) _ _ _ _ _ c.in_ok-lookup-in-Lookup.ensures refl)

pub returns-in_err-lookup-in-IsPresent : goal.returns-in_err-lookup-in-IsPresent
returns-in_err-lookup-in-IsPresent g c = rw c.in-IsPresent.is (told_fails (ap (λ l. done (act.Lookup c.args.on l)) c.line_at-line.ensures.line) _ _ _ _ _ _ c.in_err-lookup-in-IsPresent.ensures c.from_residual-in_err-lookup-in-IsPresent.ensures.1)

pub returns-in_ok-lookup-in-IsPresent : goal.returns-in_ok-lookup-in-IsPresent
returns-in_ok-lookup-in-IsPresent g c = rw c.in-IsPresent.is (told_as (ap (λ l. done (act.Lookup c.args.on l)) c.line_at-line.ensures.line) _ _ _ _ _ c.in_ok-lookup-in-IsPresent.ensures (ap value.Bool c.is_some.ensures))

pub returns-in_err-avail-in-HasPlace : goal.returns-in_err-avail-in-HasPlace
returns-in_err-avail-in-HasPlace g c = rw c.in-HasPlace.is (told_fails (ap (λ l. done (act.Avail c.args.on l)) c.line_at-line.ensures.line) _ _ _ _ _ _ c.in_err-avail-in-HasPlace.ensures c.from_residual-in_err-avail-in-HasPlace.ensures.1)

pub returns-in_ok-avail-in-HasPlace : goal.returns-in_ok-avail-in-HasPlace
returns-in_ok-avail-in-HasPlace g c = rw c.in-HasPlace.is (told_as (ap (λ l. done (act.Avail c.args.on l)) c.line_at-line.ensures.line) _ _ _ _ _ c.in_ok-avail-in-HasPlace.ensures refl)

pub returns-in_err-probe-in-Replaced : goal.returns-in_err-probe-in-Replaced
returns-in_err-probe-in-Replaced g c = rw c.in-Replaced.is (told_fails (ap (λ l. done (act.Probe c.args.on l)) c.line_at-line.ensures.line) _ _ _ _ _ _ c.in_err-probe-in-Replaced.ensures c.from_residual-in_err-probe-in-Replaced.ensures.1)

pub returns-in_ok-probe-in-Replaced : goal.returns-in_ok-probe-in-Replaced
returns-in_ok-probe-in-Replaced g c = rw c.in-Replaced.is (told_as (ap (λ l. done (act.Probe c.args.on l)) c.line_at-line.ensures.line) _ _ _ _ _ c.in_ok-probe-in-Replaced.ensures (ap value.Addr c.address_of_line.ensures))

pub returns-in_err-r-in-Allocate : goal.returns-in_err-r-in-Allocate
returns-in_err-r-in-Allocate g c = rw c.in-Allocate.is (told_fails (ap (λ l. done (act.Allocate c.args.on l)) c.line_at-line.ensures.line) _ _ _ _ _ _ c.in_err-r-in-Allocate.ensures c.from_residual-in_err-r-in-Allocate.ensures.1)

pub returns-in_ok-r-in-Allocate : goal.returns-in_ok-r-in-Allocate
returns-in_ok-r-in-Allocate g c = rw c.in-Allocate.is (told_as (ap (λ l. done (act.Allocate c.args.on l)) c.line_at-line.ensures.line) _ _ _ _ _ c.in_ok-r-in-Allocate.ensures refl)

pub returns-in_err-allocate-in-AllocateTbe : goal.returns-in_err-allocate-in-AllocateTbe
returns-in_err-allocate-in-AllocateTbe g c = rw c.in-AllocateTbe.is (silent_fails (ap (λ l. done (act.Allocate c.args.on l)) c.line_at-line.ensures.line) _ _ _ _ _ c.in_err-allocate-in-AllocateTbe.ensures c.from_residual-in_err-allocate-in-AllocateTbe.ensures.1)

pub returns-in_ok-allocate-in-AllocateTbe : goal.returns-in_ok-allocate-in-AllocateTbe
returns-in_ok-allocate-in-AllocateTbe g c = rw c.in-AllocateTbe.is (silent_as (ap (λ l. done (act.Allocate c.args.on l)) c.line_at-line.ensures.line) _ _ _ c.in_ok-allocate-in-AllocateTbe.ensures)

pub returns-in_err-deallocate-in-Deallocate : goal.returns-in_err-deallocate-in-Deallocate
returns-in_err-deallocate-in-Deallocate g c = rw c.in-Deallocate.is (silent_fails (ap (λ l. done (act.Deallocate c.args.on l)) c.line_at-line.ensures.line) _ _ _ _ _ c.in_err-deallocate-in-Deallocate.ensures c.from_residual-in_err-deallocate-in-Deallocate.ensures.1)

pub returns-in_ok-deallocate-in-Deallocate : goal.returns-in_ok-deallocate-in-Deallocate
returns-in_ok-deallocate-in-Deallocate g c = rw c.in-Deallocate.is (silent_as (ap (λ l. done (act.Deallocate c.args.on l)) c.line_at-line.ensures.line) _ _ _ c.in_ok-deallocate-in-Deallocate.ensures)

pub returns-in_err-use_line-in-Use : goal.returns-in_err-use_line-in-Use
returns-in_err-use_line-in-Use g c = rw c.in-Use.is (silent_fails (refl) _ _ _ _ _ c.in_err-use_line-in-Use.ensures c.from_residual-in_err-use_line-in-Use.ensures.1)

pub returns-in_ok-use_line-in-Use : goal.returns-in_ok-use_line-in-Use
returns-in_ok-use_line-in-Use g c = rw c.in-Use.is (silent_as (refl) _ _ _ c.in_ok-use_line-in-Use.ensures)
