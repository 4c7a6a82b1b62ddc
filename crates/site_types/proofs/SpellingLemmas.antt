-- Each value has one spelling: what a text spells is written as that text. Declares nothing.
pub use Rattle.site_types.proofs.WordSpelling.{name_spelled, number_spelled, kind_spelled, type_spelled, yes_or_no_spelled, start_spelled, path_spelled, rule_spelled}
pub use Rattle.site_types.proofs.IdSpelling.{id_spelled}
pub use Rattle.site_types.proofs.OffsetSpelling.{offset_spelled}
pub use Rattle.site_types.proofs.WindowSpelling.{windows_spelled}
pub use Rattle.site_types.proofs.CalendarSpelling.{calendar_spelled}
