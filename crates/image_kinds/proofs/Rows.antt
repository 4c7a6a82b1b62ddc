-- What some bytes spell, or where they break, worked out on the definitions: both sides of each equation compute to one value.
use Rattle.image_kinds.proofs.Common.{◌≡◌, ℕ, List, [], ◌∷◌, ◌++◌, Ok, Err, refl, take, Taken, Kept, Entry}
use Rattle.std.specs.Prelude.{codes}
use Rattle.image_kinds.specs.Reading.{stream_in, image_in}

-- `/a`, changed at 1500, with the content `A2`, and `/c`, changed at 3500, with `C2`
abbrev first : Entry
first = record { path = codes "/a"; time = 1500; content = codes "A2" }

abbrev second : Entry
second = record { path = codes "/c"; time = 3500; content = codes "C2" }

abbrev first_bytes : List ℕ
first_bytes = 1 ∷ 0 ∷ 2 ∷ 47 ∷ 97 ∷ 0 ∷ 0 ∷ 0 ∷ 0 ∷ 0 ∷ 0 ∷ 5 ∷ 220 ∷ 0 ∷ 0 ∷ 0 ∷ 0 ∷ 0 ∷ 0 ∷ 0 ∷ 2 ∷ 65 ∷ 50 ∷ []

abbrev second_bytes : List ℕ
second_bytes = 1 ∷ 0 ∷ 2 ∷ 47 ∷ 99 ∷ 0 ∷ 0 ∷ 0 ∷ 0 ∷ 0 ∷ 0 ∷ 13 ∷ 172 ∷ 0 ∷ 0 ∷ 0 ∷ 0 ∷ 0 ∷ 0 ∷ 0 ∷ 2 ∷ 67 ∷ 50 ∷ []

abbrev two_files : List ℕ
two_files = codes "NBC1" ++ (first_bytes ++ (second_bytes ++ 0 ∷ []))

two_files_read : stream_in two_files ≡ Ok (first ∷ second ∷ [])
two_files_read = refl

wrong_letters : stream_in (codes "NBC2") ≡ Err 0
wrong_letters = refl

letters_alone : stream_in (codes "NBC1") ≡ Err 4
letters_alone = refl

part_of_letters : stream_in (codes "NB") ≡ Err 2
part_of_letters = refl

no_files : stream_in (codes "NBC1" ++ 0 ∷ []) ≡ Ok []
no_files = refl

-- a cut breaks at its end
cut_in_content : stream_in (take 49 two_files) ≡ Err 49
cut_in_content = refl

-- bytes behind the end break where they begin
behind_end : stream_in (two_files ++ 0 ∷ []) ≡ Err 51
behind_end = refl

-- a path that does not follow the one before breaks where it begins
falling_paths : stream_in (codes "NBC1" ++ (second_bytes ++ (first_bytes ++ 0 ∷ []))) ≡ Err 30
falling_paths = refl

-- a kept entry, the byte 2 and the path, stands in an image alone
kept_in_stream : stream_in (codes "NBC1" ++ (2 ∷ 0 ∷ 2 ∷ 47 ∷ 97 ∷ 0 ∷ [])) ≡ Err 4
kept_in_stream = refl

kept_in_image : image_in (codes "NBI1" ++ (2 ∷ 0 ∷ 2 ∷ 47 ∷ 97 ∷ (second_bytes ++ 0 ∷ []))) ≡ Ok (Kept (codes "/a") ∷ Taken second ∷ [])
kept_in_image = refl
