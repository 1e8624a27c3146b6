-- The definitions that other files name, from one place.
pub use Rattle.rules_symbols.specs.IsAmong.{IsAmong}
pub use Rattle.rules_symbols.specs.Fitting.{IsAddressOrLine, IsAnyLine, IsComparable, IsInPort, IsLike, IsNoLine, IsOfKind, IsOutPort, IsSure, IsTable}
pub use Rattle.rules_symbols.specs.CallRows.{argument_operand, call_number, given_by, is_other_work, number_of_call, operation_of, receiver_operand, served_on}
pub use Rattle.rules_symbols.specs.FieldsOf.{HasFieldsOf}
pub use Rattle.rules_symbols.specs.NamedValues.{IsNamedValue, IsPortOf, IsReferenceOf, IsValueOf}
pub use Rattle.rules_symbols.specs.StateKinds.{argument_kind}
pub use Rattle.rules_symbols.specs.TypedMeaning.{IsMessageType, IsStructureIn, IsTyped, IsTypedIn, IsTypeIn, IsValueType}
pub use Rattle.rules_symbols.specs.TypedBodies.{AreTyped, AreTypedOthers, IsInPortNamed, IsOutPortNamed, IsTypedChoice, IsTypedIf, IsTypedLocal, IsTypedOtherwise, IsTypedPlace, IsTypedRow, IsTypedStatement, IsTypedWhere}
pub use Rattle.rules_symbols.specs.CallArguments.{AreArguments, IsArgument, IsGiven, IsNewLine}
