-- Answers: their numbers, and their texts.
use Rattle.std.specs.Prelude.{ℕ, List, [], ◌++◌, codes}
use Rattle.std.specs.Fmt.{decimal}
use Rattle.hex.specs.Hex.{encode_lower}
use Rattle.site_types.specs.Ids.{id_text}
use Rattle.site_types.specs.declared.answer.Answer.{Answer}
use Rattle.site_types.specs.declared.answer.Answer.TheVariants.{Done, OutOfMemory, BadRequest, Exists, Unknown, InUse, BadLifecycle, Inactive, WindowClosed, AboveHigh, UnitFull, Needed, Short, NoJob, Unaligned, TooMany, ChainBroken, Damaged, DiskFault, ReadFault, SendFault, ClockFault, NotAVault, BadStream}

abbrev pub number_of : Answer → ℕ
number_of (Done body) = 0
number_of OutOfMemory = 1
number_of (BadRequest index) = 2
number_of (Exists name) = 3
number_of (Unknown name) = 4
number_of (InUse name user) = 5
number_of (BadLifecycle rule) = 6
number_of (Inactive name) = 7
number_of (WindowClosed name) = 8
number_of (AboveHigh unit used capacity) = 9
number_of (UnitFull unit used length capacity) = 10
number_of (Needed operation) = 11
number_of (Short position length) = 12
number_of (NoJob number) = 13
number_of (Unaligned so_far) = 14
number_of (TooMany kind count limit) = 15
number_of (ChainBroken id) = 16
number_of (Damaged recorded found) = 17
number_of DiskFault = 18
number_of ReadFault = 19
number_of SendFault = 20
number_of ClockFault = 21
number_of (NotAVault offset) = 22
number_of (BadStream offset) = 23

-- the text that is sent for an answer
abbrev pub text_of : Answer → List ℕ
text_of (Done body) = body
text_of OutOfMemory = codes "out of memory\n"
text_of (BadRequest index) = codes "bad request at " ++ decimal index ++ codes "\n"
text_of (Exists name) = name ++ codes " exists\n"
text_of (Unknown name) = name ++ codes " unknown\n"
text_of (InUse name user) = name ++ codes " in use by " ++ user ++ codes "\n"
text_of (BadLifecycle rule) = codes "rule " ++ decimal rule ++ codes " broken\n"
text_of (Inactive name) = name ++ codes " inactive\n"
text_of (WindowClosed name) = name ++ codes " window closed\n"
text_of (AboveHigh unit used capacity) = unit ++ codes " above high: " ++ decimal used ++ codes " of " ++ decimal capacity ++ codes "\n"
text_of (UnitFull unit used length capacity) = unit ++ codes " full: " ++ decimal used ++ codes " + " ++ decimal length ++ codes " of " ++ decimal capacity ++ codes "\n"
text_of (Needed operation) = codes "operation " ++ decimal operation ++ codes " unfinished\n"
text_of (Short position length) = codes "short: " ++ decimal position ++ codes " of " ++ decimal length ++ codes "\n"
text_of (NoJob number) = codes "no job " ++ decimal number ++ codes "\n"
text_of (Unaligned so_far) = codes "unaligned after " ++ decimal so_far ++ codes "\n"
text_of (TooMany kind count limit) = codes "too many " ++ kind ++ codes ": " ++ decimal count ++ codes " of " ++ decimal limit ++ codes "\n"
text_of (ChainBroken id) = codes "chain lacks " ++ id_text id ++ codes "\n"
text_of (Damaged recorded found) = codes "damaged: " ++ encode_lower recorded ++ codes " found " ++ encode_lower found ++ codes "\n"
text_of DiskFault = codes "disk fault\n"
text_of ReadFault = codes "read fault\n"
text_of SendFault = []
text_of ClockFault = codes "clock fault\n"
text_of (NotAVault offset) = codes "not a vault at " ++ decimal offset ++ codes "\n"
text_of (BadStream offset) = codes "bad stream at " ++ decimal offset ++ codes "\n"

-- answers whose text has to be made, so that sending it takes memory
abbrev pub NeedsMemory : Answer → Type 0
NeedsMemory (Done body) = ⊥
NeedsMemory OutOfMemory = ⊥
NeedsMemory DiskFault = ⊥
NeedsMemory ReadFault = ⊥
NeedsMemory SendFault = ⊥
NeedsMemory ClockFault = ⊥
NeedsMemory _ = Unit {0}
