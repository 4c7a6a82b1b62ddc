-- The lengths of strings and segments, one behind another.
use Rattle.pool_journal.proofs.Common.{◌≡◌, ℕ, ◌+◌, ◌-◌, ◌<◌, ◌^◌, min, zero, suc, List, [], ◌∷◌, length, get_or, take, sym, ap, subst, ◌∙◌, length-append, take_more, arith, string, strings, AllShort}
use Rattle.std.specs.Prelude.{◌*◌, flat_map}
use Rattle.pool_journal.proofs.Common.{NewSegment, Segments, counted, spelled_segment, spelled_segments, spelled_slot, w32, to_be_bytes}
use Rattle.pool_journal.specs.Segments.{taken_by}
use Rattle.std.proofs.lemmas.List.{get_or_default}
use Rattle.pool_journal.proofs.Many.{one_more}

pub short_at : (texts : List (List ℕ)) (k : ℕ) (x : List ℕ) → AllShort texts → k < length texts → x ≡ get_or texts k x → length x < 2 ^ 16
short_at [] k x all lt is = absurd (omega arith)
short_at (text ∷ texts) zero x all lt is = subst (λ (y : List ℕ). length y < 2 ^ 16) (sym is) all.0
short_at (text ∷ texts) (suc k) x all lt is = short_at texts k x all.1 (omega arith) is

-- one more is counted
pub counted_more : (size two all : ℕ) (texts : List (List ℕ)) (k : ℕ) (x : List ℕ) → k < length texts → x ≡ get_or texts k x → size ≡ min (length (strings (take k texts))) (2 ^ 64 - 1) → two ≡ min (size + 2) (2 ^ 64 - 1) → all ≡ min (two + length x) (2 ^ 64 - 1)
    → all ≡ min (length (strings (take (k + 1) texts))) (2 ^ 64 - 1)
counted_more size two all texts k x lt is so_far first then =
    let longer : length (strings (take k texts)) + length (string x) ≡ length (strings (take (k + 1) texts)) = sym (length-append (strings (take k texts)) (string x)) ∙ ap length (one_more string texts k x [] lt is) in
    omega (arith, so_far, first, then, longer)

-- one new segment more
pub one_longer : (segments : List NewSegment) (k : ℕ) (d : NewSegment) (n : ℕ) → k < length segments → n ≡ length (spelled_segment (get_or segments k d))
    → (length (flat_map spelled_segment (take (k + 1) segments)) ≡ length (flat_map spelled_segment (take k segments)) + n) × (length (take (k + 1) segments) ≡ length (take k segments) + 1)
one_longer segments k d n lt n_is =
    let x : NewSegment = get_or segments k d in
    let more = one_more spelled_segment segments k x [] lt (get_or_default segments k d x lt) in
    (omega (arith, n_is, ap length more, length-append (flat_map spelled_segment (take k segments)) (spelled_segment x)), ap length (take_more segments k d lt) ∙ length-append (take k segments) (x ∷ []))

slots_length : (slots : List ℕ) → length (flat_map spelled_slot slots) ≡ 4 * length slots
slots_length [] = omega arith
slots_length (slot ∷ slots) = omega (arith, slots_length slots, length-append (spelled_slot slot) (flat_map spelled_slot slots))

-- two numbers of four bytes, the new segments, and four bytes for each piece
pub segments_length : (segments : Segments) → length (spelled_segments segments) ≡ 8 + length (flat_map spelled_segment segments.added) + 4 * length segments.pieces
segments_length segments =
    let added : List ℕ = counted spelled_segment segments.added in
    let pieces : List ℕ = counted spelled_slot segments.pieces in
    omega (arith, length-append added pieces, length-append (to_be_bytes w32 (length segments.added)) (flat_map spelled_segment segments.added), length-append (to_be_bytes w32 (length segments.pieces)) (flat_map spelled_slot segments.pieces), slots_length segments.pieces)

pub taken_of : (segments : Segments) (added : List NewSegment) → added ≡ segments.added → length (flat_map spelled_segment added) ≡ 40 * length added → length (spelled_segments segments) ≡ taken_by segments
taken_of segments added are fixed = omega (arith, segments_length segments, fixed, ap length are, ap (λ (l : List NewSegment). length (flat_map spelled_segment l)) are)

pub size_of : (segments : Segments) (slots : List ℕ) (added : List NewSegment) (four new both all : ℕ) → slots ≡ segments.pieces → added ≡ segments.added → four ≡ min (length slots * 4) (2 ^ 64 - 1) → new ≡ min (length (flat_map spelled_segment added)) (2 ^ 64 - 1)
    → both ≡ min (new + four) (2 ^ 64 - 1) → all ≡ min (both + 8) (2 ^ 64 - 1) → all ≡ min (length (spelled_segments segments)) (2 ^ 64 - 1)
size_of segments slots added four new both all slots_are added_are fours news boths alls =
    omega (arith, segments_length segments, ap length slots_are, ap (λ (l : List NewSegment). length (flat_map spelled_segment l)) added_are, fours, news, boths, alls)
