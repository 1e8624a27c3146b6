-- The text of a generated protocol: one machine that takes requests, and goes with each of them from one of its states to the next,
-- from the last one to the first again. It begins in the first. It has a state for each of n, and 256 at most. Nothing is said here
-- of what the text means: it is read as any other. The protocol is this project's own.
use Rattle.std.specs.Prelude.{ℕ, ◌+◌, ◌%◌, List, ◌++◌, codes, decimal, flat_map, min}
use Rattle.std.specs.List.{range_with_len}

-- the name that its file has in refusals
abbrev pub generated_name : List ℕ
generated_name = codes "gen.sm"

abbrev pub state_count : ℕ → ℕ
state_count n = min n 256

abbrev pub machine_head : List ℕ
machine_head =
    codes "machine(MachineType:Node, \"ticker\")\n"
    ++ codes "  : MessageBuffer * mandatoryQueue;\n"
    ++ codes "{\n"

abbrev pub states_head : List ℕ
states_head = codes "  state_declaration(State, desc=\"states\", default=\"Node_State_S0\") {\n"

abbrev pub state_text : ℕ → List ℕ
state_text i = codes "    S" ++ decimal i ++ codes ", AccessPermission:Invalid, desc=\"s\";\n"

-- what stands between the states and the transitions
abbrev pub parts_text : List ℕ
parts_text =
    codes "  }\n"
    ++ codes "  enumeration(Event, desc=\"events\") { Go, desc=\"go\"; }\n"
    ++ codes "  in_port(mandatory_in, RubyRequest, mandatoryQueue) {\n"
    ++ codes "    if (mandatory_in.isReady(clockEdge())) {\n"
    ++ codes "      peek(mandatory_in, RubyRequest) {\n"
    ++ codes "        trigger(Event:Go, in_msg.LineAddress);\n"
    ++ codes "      }\n"
    ++ codes "    }\n"
    ++ codes "  }\n"
    ++ codes "  action(p_pop, \"p\", desc=\"pop\") { mandatory_in.dequeue(clockEdge()); }\n"

-- from a state to the one after it
abbrev pub transition_text : ℕ → ℕ → List ℕ
transition_text i next = codes "  transition(S" ++ (decimal i ++ (codes ", Go, S" ++ (decimal next ++ codes ") { p_pop; }\n")))

-- of k states
abbrev pub states_text : ℕ → List ℕ
states_text k = flat_map state_text (range_with_len 0 k)

abbrev pub transitions_text : ℕ → List ℕ
transitions_text k = flat_map (λ i. transition_text i ((i + 1) % k)) (range_with_len 0 k)

abbrev pub text_with : ℕ → List ℕ
text_with k = machine_head ++ states_head ++ states_text k ++ parts_text ++ transitions_text k ++ codes "}\n"

abbrev pub generated_text : ℕ → List ℕ
generated_text n = text_with (state_count n)
