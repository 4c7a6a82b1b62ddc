-- Rows of the table of requests, worked out on the definitions: both sides of each equation compute to one value.
use Rattle.desk_model.proofs.Common.{◌≡◌, ℕ, List, refl, [], ◌∷◌, ◌++◌, codes, false, Option, Some, None, replicate, unwrap_or, Answer, BackupId, Request, State, disk0, first_refusal, initial, load_of, step}
use Rattle.desk_model.specs.Backups.{content_refusals}
use Rattle.std.specs.Fmt.{digits}
use Rattle.std.specs.Result.{result_ok}
use Rattle.site_types.specs.Forms.{forms}
use Rattle.site_types.specs.Lines.{read_line}
use Rattle.site_types.specs.declared.answer.Answer.TheVariants.{Done, Exists, Unknown, InUse, Inactive, WindowClosed, AboveHigh, UnitFull, TooMany}
use Rattle.site_types.specs.declared.request.Request.TheVariants as request
use Rattle.site_types.specs.declared.schedule.Start.TheVariants.{Scheduled}

-- what is answered, and the state afterwards, of a request with no payload at moment 1000
abbrev answer : State → Request → Answer
answer s request = (step s request [] 1000).0

abbrev after : State → Request → State
after s request = (step s request [] 1000).1

-- a backup of alpha by hand
abbrev backup : Request
backup = request.Backup (codes "alpha") None None None

abbrev first_id : BackupId
first_id = record { client = codes "alpha"; time = 1000 }

abbrev backed_up : State
backed_up = (step initial backup (codes "hello") 1000).1

first_backup : (step initial backup (codes "hello") 1000).0 ≡ Done (codes "alpha_1000\n")
unfolding digits
first_backup = refl

-- its id is one second past that of the first
second_backup : (step backed_up backup (codes "hello") 1000).0 ≡ Done (codes "alpha_1001\n")
unfolding digits
second_backup = refl

given_back : answer backed_up (request.Restore first_id None) ≡ Done (codes "hello")
given_back = refl

no_image : answer initial (request.Restore first_id None) ≡ Unknown (codes "alpha_1000")
unfolding digits
no_image = refl

no_copy : answer backed_up (request.Restore first_id (Some 2)) ≡ Unknown (codes "alpha_1000/2")
unfolding digits
no_copy = refl

added : answer initial (request.ClientAdd (codes "a")) ≡ Done []
added = refl

added_twice : answer (after initial (request.ClientAdd (codes "a"))) (request.ClientAdd (codes "a")) ≡ Exists (codes "a")
added_twice = refl

-- what a line asks for
abbrev line : List ℕ → Request
line text = unwrap_or (result_ok (read_line text)) request.Load

not_there : answer initial (line (codes "client remove name=b")) ≡ Unknown (codes "b")
unfolding forms
not_there = refl

in_use : answer backed_up (line (codes "client remove name=alpha")) ≡ InUse (codes "alpha") (codes "alpha_1000")
unfolding digits forms
in_use = refl

built_in : answer initial (request.PolicyRemove (codes "adhoc")) ≡ InUse (codes "adhoc") (codes "desk")
built_in = refl

closed : answer initial (request.Backup (codes "a") (Some (codes "adhoc")) None (Some Scheduled)) ≡ WindowClosed (codes "manual")
closed = refl

inactive : answer (after initial (request.PolicyChange (codes "adhoc") (Some false) None)) backup ≡ Inactive (codes "adhoc")
inactive = refl

-- a unit of a hundred bytes that holds so many
abbrev holding : ℕ → Option ℕ → State
holding count high = (step (after initial (request.UnitChange (codes "disk0") (Some 100) None high None)) backup (replicate count 0) 1000).1

full : (step (holding 40 None) backup (replicate 61 0) 1000).0 ≡ UnitFull (codes "disk0") 40 61 100
full = refl

exactly_full : (step (holding 40 None) backup (replicate 60 0) 1000).0 ≡ Done (codes "alpha_1001\n")
unfolding digits
exactly_full = refl

above_high : (step (holding 80 (Some 80)) backup (replicate 1 0) 1000).0 ≡ AboveHigh (codes "disk0") 80 100
above_high = refl

below_high : (step (holding 79 (Some 80)) backup (replicate 1 0) 1000).0 ≡ Done (codes "alpha_1001\n")
unfolding digits
below_high = refl

-- what refuses so many bytes on a unit of little segments that holds none
abbrev refused_for : ℕ → Option Answer
refused_for size = first_refusal (content_refusals None (record disk0 { segment = 16; capacity = 16777218 }) 0 size)

as_many_pieces : refused_for 16777216 ≡ None
as_many_pieces = refl

one_piece_more : refused_for 16777217 ≡ Some (TooMany (codes "pieces") 1048577 1048576)
one_piece_more = refl

-- before there is no room for them
pieces_before_room : refused_for 16777219 ≡ Some (TooMany (codes "pieces") 1048577 1048576)
pieces_before_room = refl

-- a state with so many slots on its unit
abbrev slotted : State → ℕ → State
slotted s slots = after s (request.UnitChange (codes "disk0") None (Some slots) None None)

abbrev one_slot : State
one_slot = slotted initial 1

abbrev slot_taken : State
slot_taken = (step one_slot backup (codes "hello") 1000).1

as_many_slots : (step one_slot backup (codes "hello") 1000).0 ≡ Done (codes "alpha_1000\n")
unfolding digits
as_many_slots = refl

one_slot_more : (step slot_taken backup (codes "world") 1000).0 ≡ TooMany (codes "segments") 2 1
one_slot_more = refl

-- what is stored there takes no slot
same_again : (step slot_taken backup (codes "hello") 1000).0 ≡ Done (codes "alpha_1001\n")
unfolding digits
same_again = refl

-- where more are stored than there are slots since, so does nothing that is stored, and each other piece is one too many
abbrev less_slots : State
less_slots = slotted (step (slotted backed_up 2) backup (codes "world") 1000).1 1

stored_before : (step less_slots backup (codes "world") 1000).0 ≡ Done (codes "alpha_1002\n")
unfolding digits
stored_before = refl

beyond_stored : (step less_slots backup (codes "again") 1000).0 ≡ TooMany (codes "segments") 3 1
beyond_stored = refl

-- a unit of one slot with segments of 16 bytes
abbrev small_segments : State
small_segments = record initial { site = record (initial.site) { book = record (initial.site.book) { units = record disk0 { segment = 16; slots = 1 } ∷ [] } } }

two_segments : (step small_segments backup (replicate 16 120 ++ replicate 16 121) 1000).0 ≡ TooMany (codes "segments") 2 1
two_segments = refl

-- two equal pieces take one slot
twice_one_segment : (step small_segments backup (replicate 16 120 ++ replicate 16 120) 1000).0 ≡ Done (codes "alpha_1000\n")
unfolding digits
twice_one_segment = refl

-- that there is no room on it comes first
room_before_slots : (step (slotted (holding 40 None) 1) backup (replicate 61 1) 1000).0 ≡ UnitFull (codes "disk0") 40 61 100
room_before_slots = refl

-- a site file whose second request repeats its first leaves the state as it was
repeated : load_of (Some (request.ClientAdd (codes "a") ∷ request.ClientAdd (codes "a") ∷ [])) initial ≡ (Exists (codes "a"), initial)
repeated = refl
