-- The numbers of the built-in calls, by what they are called on, their name and how many arguments they are written with. The
-- numbers are those of the table of built-in calls in its order, one for each count of arguments. The names are gem5's SLICC's.
use Rattle.std.specs.Prelude.{ℕ, ◌==◌, ◌||◌, Bool, cond, Option, None, Some, List, codes}
use Rattle.std.specs.Str.{bytes_eq}
use Rattle.ruby_symbols.specs.declared.machine.TableSort.{TableSort}
use Rattle.ruby_symbols.specs.declared.machine.TableSort.TheVariants as sort

abbrev pub port_call : List ℕ → ℕ → Option ℕ
port_call text count =
    cond (bytes_eq text (codes "isReady")) (Some 0)
    (cond (bytes_eq text (codes "dequeue")) (Some 1)
    (cond (bytes_eq text (codes "recycle")) (cond (count == 1) (Some 2) (Some 3)) None))

abbrev pub cache_call : List ℕ → Option ℕ
cache_call text =
    cond (bytes_eq text (codes "lookup")) (Some 4)
    (cond (bytes_eq text (codes "isTagPresent")) (Some 6)
    (cond (bytes_eq text (codes "cacheAvail")) (Some 7)
    (cond (bytes_eq text (codes "cacheProbe")) (Some 8)
    (cond (bytes_eq text (codes "allocate")) (Some 9)
    (cond (bytes_eq text (codes "deallocate")) (Some 10)
    (cond (bytes_eq text (codes "setMRU")) (Some 11)
    (cond (bytes_eq text (codes "profileDemandHit")) (Some 56)
    (cond (bytes_eq text (codes "profileDemandMiss")) (Some 57) None))))))))

abbrev pub directory_call : List ℕ → Option ℕ
directory_call text =
    cond (bytes_eq text (codes "lookup")) (Some 12)
    (cond (bytes_eq text (codes "isPresent")) (Some 14)
    (cond (bytes_eq text (codes "allocate")) (Some 15) None))

abbrev pub tbe_call : List ℕ → Option ℕ
tbe_call text =
    cond (bytes_eq text (codes "lookup")) (Some 16)
    (cond (bytes_eq text (codes "allocate")) (Some 18)
    (cond (bytes_eq text (codes "deallocate")) (Some 19)
    (cond (bytes_eq text (codes "isPresent")) (Some 20) None)))

abbrev pub table_call : TableSort → List ℕ → Option ℕ
table_call sort.Cache text = cache_call text
table_call sort.Directory text = directory_call text
table_call (sort.Tbe entries) text = tbe_call text

-- the index of a table by an address
abbrev pub index_call : TableSort → ℕ
index_call sort.Cache = 5
index_call sort.Directory = 13
index_call (sort.Tbe entries) = 17

abbrev pub set_call : List ℕ → Option ℕ
set_call text =
    cond (bytes_eq text (codes "add")) (Some 21)
    (cond (bytes_eq text (codes "remove")) (Some 22)
    (cond (bytes_eq text (codes "clear")) (Some 23)
    (cond (bytes_eq text (codes "count")) (Some 24)
    (cond (bytes_eq text (codes "isElement")) (Some 25)
    (cond (bytes_eq text (codes "isEmpty")) (Some 26)
    (cond (bytes_eq text (codes "addNetDest")) (Some 27)
    (cond (bytes_eq text (codes "removeNetDest")) (Some 28)
    (cond (bytes_eq text (codes "broadcast")) (Some 29) None))))))))

abbrev pub block_call : List ℕ → Option ℕ
block_call text = cond (bytes_eq text (codes "clear")) (Some 30) None

-- the calls whose receiver is a set of controllers or a block that they change
abbrev pub changes_receiver : List ℕ → Bool
changes_receiver text =
    bytes_eq text (codes "add") || bytes_eq text (codes "remove") || bytes_eq text (codes "clear")
    || bytes_eq text (codes "addNetDest") || bytes_eq text (codes "removeNetDest") || bytes_eq text (codes "broadcast")

-- callbacks with two, three and four arguments
abbrev pub callback : ℕ → ℕ → ℕ → ℕ → ℕ
callback two three four count = cond (count == 2) two (cond (count == 3) three four)

abbrev pub read_callback : ℕ → ℕ
read_callback count = callback 31 32 33 count

abbrev pub write_callback : ℕ → ℕ
write_callback count = callback 34 35 36 count

abbrev pub sequencer_call : List ℕ → ℕ → Option ℕ
sequencer_call text count =
    cond (bytes_eq text (codes "readCallback")) (Some (read_callback count))
    (cond (bytes_eq text (codes "writeCallback")) (Some (write_callback count))
    (cond (bytes_eq text (codes "evictionCallback")) (Some 55) None))

abbrev pub entry_call : List ℕ → Option ℕ
entry_call text = cond (bytes_eq text (codes "changePermission")) (Some 54) None

-- without a receiver
abbrev pub plain_call : List ℕ → Option ℕ
plain_call text =
    cond (bytes_eq text (codes "clockEdge")) (Some 37)
    (cond (bytes_eq text (codes "curCycle")) (Some 38)
    (cond (bytes_eq text (codes "cyclesToTicks")) (Some 39)
    (cond (bytes_eq text (codes "ticksToCycles")) (Some 40)
    (cond (bytes_eq text (codes "mapAddressToMachine")) (Some 41)
    (cond (bytes_eq text (codes "makeLineAddress")) (Some 42)
    (cond (bytes_eq text (codes "machineIDToNodeID")) (Some 43)
    (cond (bytes_eq text (codes "machineIDToMachineType")) (Some 44)
    (cond (bytes_eq text (codes "wakeUpBuffers")) (Some 49)
    (cond (bytes_eq text (codes "wakeUpAllBuffers")) (Some 50)
    (cond (bytes_eq text (codes "profileMsgDelay")) (Some 53) None))))))))))

-- the actor number, and `stall_and_wait`
abbrev pub actor_call : ℕ
actor_call = 58

abbrev pub stall_call : ℕ
stall_call = 59
