-- How files are named. A file that is included has the folder of the protocol's file before its quoted text. The rule is
-- this project's own.
use Rattle.std.specs.Prelude.{◌-◌, ◌==◌, ℕ, Bool, not, List, length, take, codes}
use Rattle.std.specs.List.{suffix_len}

abbrev pub is_no_slash : ℕ → Bool
is_no_slash c = not (c == 47)

-- a name up to its last slash, that included; nothing where there is none
abbrev pub folder_of : List ℕ → List ℕ
folder_of name = take (length name - suffix_len is_no_slash name) name

-- gem5's file of interfaces, which is never read
abbrev pub interfaces : List ℕ
interfaces = codes "RubySlicc_interfaces.slicc"
