-- What comes from another controller, in the mail: a message, whose number is new and whose buffer is there, or a credit; each with a
-- mark for its arrival.
use Rattle.std.specs.Prelude.{◌<◌}
use Rattle.ctl_face.specs.declared.parcel.Parcel.{Parcel}
use Rattle.ctl_face.specs.declared.parcel.Parcel.TheVariants as parcel
use Rattle.ctl_face.specs.Prelude.{Mail, mail_with_arrival, mail_with_credit}
use Rattle.ctl_mail.specs.declared.store.MailStore.{MailStore}
use Rattle.ctl_mail.specs.MailOf.{IsNewIn, buffer_count, mail_of}

abbrev pub mail_with_parcel : Mail → Parcel → Mail
mail_with_parcel mail (parcel.Message m) = mail_with_arrival mail m
mail_with_parcel mail (parcel.Credit c) = mail_with_credit mail c

abbrev pub IsTakeable : MailStore → Parcel → Type 0
IsTakeable store (parcel.Message m) = IsNewIn (mail_of store) m.number × m.buffer < buffer_count store
IsTakeable store (parcel.Credit c) = Unit {0}
