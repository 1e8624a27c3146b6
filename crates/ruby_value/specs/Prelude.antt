-- The definitions that other files name, from one place.
pub use Rattle.ruby_value.specs.AreLinesOf.{AreLinesOf}
pub use Rattle.ruby_value.specs.Ascending.{has_mark, marks_from, with_mark}
pub use Rattle.ruby_value.specs.Available.{available}
pub use Rattle.ruby_value.specs.Bits.{bits_from}
unfoldable pub use Rattle.ruby_value.specs.Bits.{bits_of}
pub use Rattle.ruby_value.specs.Cache.{Cache, Line, cache_code}
pub use Rattle.ruby_value.specs.Callback.{after_answer, block_after_write, finish_read, finish_write, is_store, read_back, stored_block, write_back}
pub use Rattle.ruby_value.specs.DefaultValue.{default_value}
pub use Rattle.ruby_value.specs.Directory.{Directory, directory_code}
pub use Rattle.ruby_value.specs.EqualKinds.{equal_kinds}
pub use Rattle.ruby_value.specs.FieldsAt.{fields_at}
pub use Rattle.ruby_value.specs.FieldsOf.{fields_of}
pub use Rattle.ruby_value.specs.Front.{ComesBefore, IsFirstReady, IsFront, comes_before, earlier, front, least}
pub use Rattle.ruby_value.specs.HasKind.{has_kind}
pub use Rattle.ruby_value.specs.HasKinds.{has_kinds}
unfoldable pub use Rattle.ruby_value.specs.HasLawfulSets.{HasLawfulSets}
pub use Rattle.ruby_value.specs.Inserted.{inserted}
pub use Rattle.ruby_value.specs.IsBefore.{IsBefore}
pub use Rattle.ruby_value.specs.IsCache.{IsCache}
pub use Rattle.ruby_value.specs.IsReference.{is_reference}
pub use Rattle.ruby_value.specs.LeastFrom.{least_from}
pub use Rattle.ruby_value.specs.Lines.{IsLine, line_limit, line_of}
pub use Rattle.ruby_value.specs.MadeRecent.{made_recent}
pub use Rattle.ruby_value.specs.NetworkOf.{network_of}
pub use Rattle.ruby_value.specs.NumberBefore.{number_before, same_number}
pub use Rattle.ruby_value.specs.NumbersFrom.{numbers_from}
pub use Rattle.ruby_value.specs.Requests.{FitsRequests, IsRequest, Requests, first_of, no_requests, request_for, requests_code, requests_with_answer, rest_of, with_answer, with_request, without_first_answer}
pub use Rattle.ruby_value.specs.Roomy.{Roomy, roomy_code}
pub use Rattle.ruby_value.specs.SameKinds.{same_kinds}
pub use Rattle.ruby_value.specs.SetOf.{set_of}
pub use Rattle.ruby_value.specs.Tbes.{Tbes, tbes_code}
pub use Rattle.ruby_value.specs.WithAll.{with_all}
pub use Rattle.ruby_value.specs.WithFields.{with_fields}
pub use Rattle.ruby_value.specs.WithMember.{with_member}
pub use Rattle.ruby_value.specs.WithSet.{with_set}
pub use Rattle.ruby_value.specs.WithoutLine.{without_line}
pub use Rattle.ruby_value.specs.WithoutMember.{without_member}
