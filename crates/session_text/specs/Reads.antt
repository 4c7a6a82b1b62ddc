-- What is read of a session, step by step.
use Rattle.std.specs.Prelude.{◌≡◌, ℕ, ◌<◌, ◌≤◌, List, length, Some, None, Result, Ok, Err}
use Rattle.session_text.specs.Turns.{line_limit, line_end, payload_size, asked_words, last_index}
use Rattle.session_text.specs.declared.line.Line.{Line}
use Rattle.session_text.specs.declared.line.LineFault.{LineFault}
use Rattle.session_text.specs.declared.line.LineFault.TheVariants.{Bad, NoMemory}
use Rattle.session_text.specs.declared.seek.Sought.{Sought}
use Rattle.session_text.specs.declared.payload.Filled.{Filled}
use Rattle.session_text.specs.declared.seek.Sought.TheVariants as sought
use Rattle.session_text.specs.declared.payload.Filled.TheVariants as filled

-- what a line of these words asks for, or the index of its bad payload word
abbrev pub IsLine : Result Line LineFault → List (List ℕ) → Type 0
IsLine (Ok line) words = (line.words ≡ asked_words words) × (payload_size words ≡ Some line.size) × (line.index ≡ last_index words)
IsLine (Err (Bad index)) words = (payload_size words ≡ None) × (index ≡ last_index words)
IsLine (Err NoMemory) words = Unit {0}

-- whether a line stands in what was read ahead
abbrev pub IsSought : Sought → List ℕ → Type 0
IsSought (sought.Line end) ahead = (line_end ahead ≡ Some end) × (end < length ahead)
IsSought sought.TooLong ahead = (line_end ahead ≡ None) × (line_limit < length ahead)
IsSought sought.Ended ahead = (line_end ahead ≡ None) × (length ahead ≤ line_limit)
IsSought sought.Failed ahead = (line_end ahead ≡ None) × (length ahead ≤ line_limit)
IsSought sought.NoMemory ahead = Unit {0}

-- whether a payload has its size
abbrev pub IsFilled : Filled → ℕ → List ℕ → Type 0
IsFilled filled.Whole size payload = length payload ≡ size
IsFilled filled.Ended size payload = length payload < size
IsFilled filled.Failed size payload = length payload < size
