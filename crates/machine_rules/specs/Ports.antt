-- Ports, as the definitions of a protocol's meaning see them.
use Rattle.std.specs.Prelude.{◌||◌, List}
use Rattle.slicc_ast.specs.declared.tree.item.Tree.{Tree}
use Rattle.slicc_ast.specs.declared.tree.machine.Machine.{Machine}
use Rattle.slicc_plan.specs.Prelude.{PortOn, is_no_request, is_sent_nowhere, is_wrong_way, port_broken}
use Rattle.slicc_plan.specs.declared.broken.Broken.{Broken}

-- what a port of this machine breaks alone
abbrev pub wrong_port : List Tree → Machine → PortOn → List Broken
wrong_port trees m p = port_broken (is_wrong_way p || is_sent_nowhere trees p || is_no_request trees m p) p
