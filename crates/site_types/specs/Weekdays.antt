-- Names of weekdays.
use Rattle.std.specs.Prelude.{ℕ, ◌==◌, if◌then◌else◌, List, codes, Option, Some, None}
use Rattle.std.specs.Str.{bytes_eq}

-- the weekday of a name of three letters; 0 is Sunday
abbrev pub weekday_named : List ℕ → Option ℕ
weekday_named name = if bytes_eq name (codes "sun") then Some 0 else (if bytes_eq name (codes "mon") then Some 1 else (if bytes_eq name (codes "tue") then Some 2 else (if bytes_eq name (codes "wed") then Some 3 else (if bytes_eq name (codes "thu") then Some 4 else (if bytes_eq name (codes "fri") then Some 5 else (if bytes_eq name (codes "sat") then Some 6 else None))))))

-- the name of a weekday from 0 to 6
abbrev pub weekday_name : ℕ → List ℕ
weekday_name day = if day == 0 then codes "sun" else (if day == 1 then codes "mon" else (if day == 2 then codes "tue" else (if day == 3 then codes "wed" else (if day == 4 then codes "thu" else (if day == 5 then codes "fri" else codes "sat")))))
