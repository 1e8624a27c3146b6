-- The definitions that other files name, from one place.
pub use Rattle.ctl_face.specs.Acts.{Acts, sent_of}
pub use Rattle.ctl_face.specs.ActsFit.{ActsFit, IsCreditFor, IsRouted, MailMoves, SentFits, is_sent_on, numbers_in, reaches}
pub use Rattle.ctl_face.specs.Again.{again}
pub use Rattle.ctl_face.specs.Allocate.{allocate, with_line}
pub use Rattle.ctl_face.specs.AtFront.{AtFront, after_front, at_front}
pub use Rattle.ctl_face.specs.Avail.{avail, available_in, least_used_in, probe}
pub use Rattle.ctl_face.specs.Between.{DriverAct, IsDriverAct, Issues, Takes, after_driver_act, after_driver_acts, at_cycle, mail_at_cycle, parcel_arrival, with_arrival, with_one_fired, with_parcel, with_parcel_arrival, with_request, with_stop, with_wake_up, without_first_answer}
pub use Rattle.ctl_face.specs.Callback.{after_callback, block_after_write, called_back, read_back, write_back}
pub use Rattle.ctl_face.specs.Credits.{arrived_credits, credit_before, credits_from, free_slots, is_credit_of, is_lent_of, lent_at, lent_from, one_more, settled, with_credit, with_lent}
pub use Rattle.ctl_face.specs.Ctl.{Ctl, InboxMessage, Mail}
pub use Rattle.ctl_face.specs.Deallocate.{deallocate, without_line_in}
pub use Rattle.ctl_face.specs.Does.{Comes, Does, DoesWith, Reads, answered}
pub use Rattle.ctl_face.specs.Enqueue.{after_sending, enqueue, for_others, parcels_for_others}
pub use Rattle.ctl_face.specs.FieldsIn.{fields_in, with_fields_in}
pub use Rattle.ctl_face.specs.Fits.{Fits, FitsLine, FitsLines, FitsMail, FitsMessage, FitsSequencer, FitsTable, FitsTableAt, IsLawful, IsOfSize, NumbersAscend, ScanFits, last_cycle}
pub use Rattle.ctl_face.specs.FitsReceiver.{FitsReceiver, SendsFit}
pub use Rattle.ctl_face.specs.Free.{free, free_in}
pub use Rattle.ctl_face.specs.Front.{IsFront, front, is_ready}
pub use Rattle.ctl_face.specs.Get.{field_behind, fields_behind, get}
pub use Rattle.ctl_face.specs.Inbox.{changed_message, without_message}
pub use Rattle.ctl_face.specs.InRun.{IsController, IsInRun}
pub use Rattle.ctl_face.specs.IsMachine.{AgreeOnType, ArePlain, HasPlaces, IsBufferSetup, IsMachine, IsTableSetup, ParametersAreLast, SameReceivers, ShareTypes, is_parameters, network_count, receivers_field}
pub use Rattle.ctl_face.specs.Keeps.{AlwaysKeeps, Keeps, KeepsFits, KeepsWhere}
pub use Rattle.ctl_face.specs.Lasts.{Lasts, last_at, lasts_on, with_last}
pub use Rattle.ctl_face.specs.Latency.{is_latency}
pub use Rattle.ctl_face.specs.LocalView.{Actor, LocalView, SameScan}
pub use Rattle.ctl_face.specs.Lookup.{lookup, reference_to}
pub use Rattle.ctl_face.specs.Mailing.{incoming_message, mail_with_arrival, mail_with_credit, mail_with_delivery, mail_with_mark}
pub use Rattle.ctl_face.specs.MarksAhead.{MarksAhead}
pub use Rattle.ctl_face.specs.OfMachine.{TakesFields, buffer_place, field_kinds, initial_fields, message_kinds, table_size}
pub use Rattle.ctl_face.specs.Opening.{no_mail, no_requests, opening_ctl, opening_table}
pub use Rattle.ctl_face.specs.Parcels.{credit_in_parcel, credits_among, message_in_parcel, messages_among, with_credit_parcel, with_message_parcel}
pub use Rattle.ctl_face.specs.Places.{IsPlace, is_at, message_at, message_in}
pub use Rattle.ctl_face.specs.Pop.{acts_after_dequeue, dequeued_mail, mail_without, pop, popped_mail}
pub use Rattle.ctl_face.specs.Ready.{front_now, ready, required_front}
pub use Rattle.ctl_face.specs.Recycle.{mail_with_recycled, message_arriving_again, recycle, recycled_mail}
pub use Rattle.ctl_face.specs.RoutesFit.{AgreeOnTypes, AreFrom, AreNumbered, AreWithinLimits, HasRoutes, HasShape, IsFrom, IsNamed, IsOfMachine, IsReceiving, IsSameBuffer, IsSlot, KeepsOrder, NamesBuffers, NobodyElseReceives, ReceivesFrom, RoutesFit, longest_path, most_slots}
pub use Rattle.ctl_face.specs.Routing.{controller_count, is_buffer, is_ordered, is_slot_of, path_to, receiving_buffer, size_of, slot_buffer, slot_receiver, slot_size}
pub use Rattle.ctl_face.specs.ScanView.{no_acts, scan_view}
pub use Rattle.ctl_face.specs.Send.{Sending, after_network_copy, copy_limit, has_jitter, local_arrival, local_copy, mail_with_copy, network_arrival, network_copies, next_copy, next_jitter, no_copies, receivers_of, send, sending_from, sending_on, with_network_copy}
pub use Rattle.ctl_face.specs.SendAdds.{AddsCopies, IsNetworkCopy, IsOwnCopy, NetworkLasts, OwnLasts, SendAdds, arrival_after, copies_to, jitter_of, latest, lent_after_all, mail_with_own}
pub use Rattle.ctl_face.specs.SendOrder.{IsSentTo, SendsKeepOrder}
pub use Rattle.ctl_face.specs.Served.{HasField, HasStates, Receives, Sends, Serves, TakesField, TakesMessage, deallocates, is_cache, is_tbe_table, looks_up, receives, sends}
pub use Rattle.ctl_face.specs.Set.{set, table_with_field}
pub use Rattle.ctl_face.specs.Slots.{credit_for, free_of, had_slot, leads_to, least_of, lent_after, mail_after_dequeue, mail_if_credited, posted_credits, slots}
pub use Rattle.ctl_face.specs.Stall.{mail_with_waiting, message_waiting_under, stall, stalled_mail}
pub use Rattle.ctl_face.specs.State.{set_state, state}
pub use Rattle.ctl_face.specs.Table.{CacheTable, DirectoryTable, ParameterTable, Table, TbeTable}
pub use Rattle.ctl_face.specs.Tables.{after_change, change_if_there, changed_table, table_at, with_table}
pub use Rattle.ctl_face.specs.Touch.{touch, used_line}
pub use Rattle.ctl_face.specs.Wake.{is_under, message_waiting_no_longer, numbers_where, wake, wake_all, with_woken, woken_mail}
pub use Rattle.ctl_face.specs.LawfulProp.{IsLawful-prop}
