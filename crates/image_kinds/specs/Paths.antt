-- Paths, and their order.
use Rattle.std.specs.Prelude.{ℕ, Bool, true, false, not, ◌&&◌, ◌==◌, nat_le, List, [], ◌∷◌, length}
use Rattle.std.specs.List.{list_all}
use Rattle.std.specs.Ordering.{nat_cmp, is_lt}
use Rattle.std.specs.Cmp.Lexicographic.{slice_cmp}

-- 1 to 1,024 bytes
abbrev pub is_path_length : ℕ → Bool
is_path_length count = nat_le 1 count && nat_le count 1024

-- neither 0 nor a line feed
abbrev pub is_path_byte : ℕ → Bool
is_path_byte byte = not (byte == 0) && not (byte == 10)

abbrev pub begins_with_slash : List ℕ → Bool
begins_with_slash [] = false
begins_with_slash (byte ∷ bytes) = byte == 47

-- a path: 1 to 1,024 bytes, the first of them a slash, and none of them 0 or a line feed
abbrev pub is_path : List ℕ → Bool
is_path path = is_path_length (length path) && begins_with_slash path && list_all is_path_byte path

-- a path stands before another in the order of bytes
abbrev pub is_before : List ℕ → List ℕ → Bool
is_before path other = is_lt (slice_cmp nat_cmp path other)

-- a path behind another in that order
abbrev pub follows : List ℕ → List ℕ → Bool
follows last path = is_path path && is_before last path

-- paths of which each follows the one before it, and the first follows a given one
abbrev pub rise_behind : List ℕ → List (List ℕ) → Bool
rise_behind last [] = true
rise_behind last (path ∷ paths) = follows last path && rise_behind path paths

-- paths that rise strictly: no bytes at all stand before every path
abbrev pub are_rising : List (List ℕ) → Bool
are_rising paths = rise_behind [] paths
