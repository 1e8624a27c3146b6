-- The numbers that a parcel brings to an inbox: a message brings its own, and a credit brings none.
use Rattle.std.specs.Prelude.{List, [], ◌∷◌}
use Rattle.ruby_value.specs.declared.message.MsgNo.{MsgNo}
use Rattle.ctl_face.specs.declared.parcel.Parcel.{Parcel}
use Rattle.ctl_face.specs.declared.parcel.Parcel.TheVariants as parcel

abbrev pub parcel_numbers : Parcel → List MsgNo
parcel_numbers (parcel.Message m) = m.number ∷ []
parcel_numbers (parcel.Credit c) = []
