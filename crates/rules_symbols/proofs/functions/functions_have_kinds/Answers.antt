use Rattle.rules_symbols.proofs.FunctionKinds.{answer_is, formal_is, function_stands, prototype_function, undeclared_function}
use Rattle.rules_symbols.proofs.functions.functions_have_kinds.Goals as goal

pub returns : goal.returns
returns c = record {
  found = λ trees k m kind called formals attributes body span text accepted at first. function_stands trees accepted k m at kind called formals attributes body span text first;
  undeclared = λ trees k m text accepted at none. undeclared_function trees accepted k m at text none;
  prototypes = λ trees k m kind called formals attributes span text accepted at first. prototype_function trees accepted k m at kind called formals attributes span text first;
  formals = λ trees k m kind called formals attributes body span f accepted at there place. formal_is trees accepted k m at kind called formals attributes body span there f place;
  answers = λ trees k m kind called formals attributes body span accepted at there. answer_is trees accepted k m at kind called formals attributes body span there;
}
