-- The names that most proofs here cite, passed on from one place.
pub use Rattle.std.proofs.Common.{Bool, Equal, Greater, Less, List, None, Option, Ordering, Some, SomeIff, [], add-one, ap, arith, bytes_eq, cond, drop, eq-eqb, false, get_or, length, not, refl, set, subst, suc, sym, take, true, zero, ℕ, ◌&&◌, ◌++◌, ◌+◌, ◌-◌, ◌<◌, ◌∙◌, ◌∷◌, ◌≡◌, ◌≤◌}
pub use Rattle.image_catalogue.specs.Images.{AreById, BackupId, CopyRecord, ImageRecord, bytes_on, is_before, record_named, same_id, used, with_record, without_record}
pub use Rattle.image_catalogue.specs.Counts.{Counts, IsFirst, NoneBefore, UnitBytes, recorded}
pub use Rattle.std.specs.Map.{keys_of, lookup, remove_entry, values_of}
