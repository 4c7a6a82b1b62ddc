-- Reports are lists of lines, each of which is a list of fields.
use Rattle.std.specs.Prelude.{ℕ, List, ◌++◌, codes}
use Rattle.std.specs.List.{flat_map, join_with_byte}

-- a line: its fields in their order, with single spaces between them, and a line feed
abbrev pub line : List (List ℕ) → List ℕ
line fields = join_with_byte 32 fields ++ codes "\n"

-- lines, one behind another
abbrev pub lines : List (List (List ℕ)) → List ℕ
lines rows = flat_map line rows
