-- Whether a line of a cache is there or its set has a free way, as gem5's `cacheAvail`; and the line that `cacheProbe`
-- names where there is no place, which is the least recently used one of the set. No other policy is offered, and that
-- it is a fault to ask where there is a place is this project's own.
use Rattle.std.specs.Prelude.{ℕ, Bool, true, Option, None, Some, Result, Err, slice_get, if◌then◌else◌}
use Rattle.std.specs.Option.{ok_or, option_map}
use Rattle.ruby_value.specs.declared.fault.Fault.{Fault}
use Rattle.ruby_value.specs.declared.fault.Fault.TheVariants.{Probe}
use Rattle.ruby_value.specs.Prelude.{available, Line, set_of}
use Rattle.ctl_face.specs.LocalView.{LocalView}
use Rattle.ctl_face.specs.Table.{Table, CacheTable}
use Rattle.ctl_face.specs.Tables.{table_at}

abbrev pub available_in : Option Table → ℕ → Bool
available_in (Some (CacheTable cache)) line = available cache line
available_in _ line = true

abbrev pub avail : LocalView → ℕ → ℕ → Bool
avail v table line = available_in (table_at v table) line

abbrev pub least_used_in : Option Table → ℕ → Option ℕ
least_used_in (Some (CacheTable cache)) line = option_map (λ (l : Line). l.0) (slice_get (set_of cache line) 0)
least_used_in _ line = None

abbrev pub probe : LocalView → ℕ → ℕ → Result ℕ Fault
probe v table line =
    if avail v table line then Err Probe else ok_or (least_used_in (table_at v table) line) Probe
