-- The segments of a sealed copy: those that are new in its unit's pool, and the slots of the copy's pieces in their order.
use Rattle.std.specs.Prelude.{◌≡◌, ℕ, ◌+◌, ◌*◌, ◌^◌, ◌<◌, ◌≤◌, List, ◌++◌, length, All, option_map, flat_map}
use Rattle.std.specs.Int.{w32, to_be_bytes}
use Rattle.site_types.specs.Fields.{bytes_field}
use Rattle.pool_journal.specs.Fields.{Field, both, count_field, counted_field}
pub use Rattle.pool_journal.specs.declared.segments.NewSegment.{NewSegment}
pub use Rattle.pool_journal.specs.declared.segments.Segments.{Segments}

-- how they are spelled
abbrev pub spelled_segment : NewSegment → List ℕ
spelled_segment segment = to_be_bytes w32 segment.slot ++ to_be_bytes w32 segment.length ++ segment.digest

abbrev pub spelled_slot : ℕ → List ℕ
spelled_slot slot = to_be_bytes w32 slot

-- some things, one behind another, behind their number
abbrev pub counted : {A : Type 0} → (A → List ℕ) → List A → List ℕ
counted spelled things = to_be_bytes w32 (length things) ++ flat_map spelled things

abbrev pub spelled_segments : Segments → List ℕ
spelled_segments segments = counted spelled_segment segments.added ++ counted spelled_slot segments.pieces

-- how many bytes they take: two numbers of four bytes, 40 for each new segment, and four for each piece
abbrev pub taken_by : Segments → ℕ
taken_by segments = 8 + 40 * length segments.added + 4 * length segments.pieces

-- and read
abbrev pub segment_made : ((ℕ × ℕ) × List ℕ) × List ℕ → NewSegment × List ℕ
segment_made (p, rest) = (record { slot = p.0.0; length = p.0.1; digest = p.1 }, rest)

abbrev pub segment_field : Field NewSegment
segment_field bytes = option_map segment_made (both (both count_field count_field) (bytes_field 32) bytes)

abbrev pub segments_made : (List NewSegment × List ℕ) × List ℕ → Segments × List ℕ
segments_made (p, rest) = (record { added = p.0; pieces = p.1 }, rest)

abbrev pub segments_field : Field Segments
segments_field bytes = option_map segments_made (both (counted_field segment_field) (counted_field count_field) bytes)

-- numbers of them that fit into four bytes
abbrev pub AreCounted : Segments → Type 0
AreCounted segments = (length segments.added < 2 ^ 32) × (length segments.pieces < 2 ^ 32)

-- their fields have the ranges of their types
pub record SegmentFits (segment : NewSegment) : Type 0 where
  pub slot : segment.slot < 2 ^ 32
  pub size : segment.length < 2 ^ 32
  pub digest : length segment.digest ≡ 32

abbrev pub SlotFits : ℕ → Type 0
SlotFits slot = slot < 2 ^ 32

abbrev pub SegmentsFit : Segments → Type 0
SegmentsFit segments = All SegmentFits segments.added × All SlotFits segments.pieces

-- a length grew by no more than a sealed copy of these may add: 512 bytes, and 44 for each piece, where no more are new than there are pieces
abbrev pub GrowsFor : Segments → ℕ → ℕ → Type 0
GrowsFor segments old new = length segments.added ≤ length segments.pieces → new ≤ old + 512 + 44 * length segments.pieces
