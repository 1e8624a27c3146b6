-- What a store takes in, but for room: a message whose number isn't in the inbox, for one of the machine's buffers; and any credit.
use Rattle.std.specs.Prelude.{◌<◌, length}
use Rattle.ctl_face.specs.declared.parcel.Parcel.{Parcel}
use Rattle.ctl_face.specs.declared.parcel.Parcel.TheVariants as parcel
use Rattle.ctl_mail.specs.Prelude.{IsNewIn}
use Rattle.ctl_store.specs.declared.parts.Parts.{Parts}
use Rattle.ctl_store.specs.Kept.{ctl_of, machine_of}

abbrev pub Takes : Parcel → Parts → Type 0
Takes (parcel.Message m) p = IsNewIn (ctl_of p).mail m.number × m.buffer < length (machine_of p).buffers
Takes (parcel.Credit c) p = Unit {0}
