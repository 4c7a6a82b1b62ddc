-- What a call of a session's text hands on.
use Rattle.std.specs.Prelude.{◌≡◌, ℕ, ◌≤◌, List, [], ◌∷◌, ◌++◌, length, Some, None}
use Rattle.site_types.specs.Limits.{payload_limit}
use Rattle.session_text.specs.Turns.{Turn, request, broken, whole_turn, last_turn, first_turn, turns}
use Rattle.session_text.specs.declared.session.Asked.{Asked}
use Rattle.session_text.specs.declared.session.Next.{Next}
use Rattle.session_text.specs.declared.session.Next.TheVariants.{Request, Last, Broken, End, Failed, NoMemory}

abbrev pub turn_asked : Asked → Turn
turn_asked asked = request asked.words asked.payload

-- a text that ends with its source begins with a fault in the framing at this index
abbrev pub BreaksAt : List ℕ → ℕ → Type 0
BreaksAt text index = (rest : List ℕ) × (first_turn text ≡ Some (broken index, rest))

-- what is next is the first turn of the text, which what was held and what the source had left make; `held` and `left` are what is so afterwards
abbrev pub IsNext : List ℕ → Next → List ℕ → List ℕ → Type 0
IsNext text (Request asked) held left = first_turn text ≡ Some (turn_asked asked, held ++ left)
IsNext text (Last asked) held left = first_turn text ≡ Some (turn_asked asked, held ++ left)
IsNext text (Broken index) held left = BreaksAt text index
IsNext text End held left = (text ≡ []) × (held ++ left ≡ [])
IsNext text Failed held left = (held ++ left ≡ text) × (whole_turn held ≡ None)
IsNext text NoMemory held left = Unit {0}

-- how much of the text it was seen in: a request that isn't the last is a whole turn, the last one ends with its source, and a fault is seen in what was read; without memory nothing is lost
abbrev pub IsWhole : List ℕ → Next → List ℕ → List ℕ → Type 0
IsWhole text (Request asked) held left = whole_turn text ≡ Some (turn_asked asked, held ++ left)
IsWhole text (Last asked) held left = (whole_turn text ≡ None) × (held ++ left ≡ [])
IsWhole text (Broken index) held left = (held ++ left ≡ text) × BreaksAt held index
IsWhole text End held left = Unit {0}
IsWhole text Failed held left = Unit {0}
IsWhole text NoMemory held left = held ++ left ≡ text

-- the turns of the text are what is next and those of the rest
abbrev pub IsInTurn : List ℕ → Next → List ℕ → Type 0
IsInTurn text (Request asked) rest = turns text ≡ turn_asked asked ∷ turns rest
IsInTurn text (Last asked) rest = turns text ≡ turn_asked asked ∷ []
IsInTurn text (Broken index) rest = turns text ≡ broken index ∷ []
IsInTurn text End rest = turns text ≡ []
IsInTurn text Failed rest = Unit {0}
IsInTurn text NoMemory rest = Unit {0}

-- a payload that was taken isn't longer than it may be
abbrev pub IsShort : Next → Type 0
IsShort (Request asked) = length asked.payload ≤ payload_limit
IsShort (Last asked) = length asked.payload ≤ payload_limit
IsShort (Broken index) = Unit {0}
IsShort End = Unit {0}
IsShort Failed = Unit {0}
IsShort NoMemory = Unit {0}

-- all of this at once
abbrev pub IsCut : List ℕ → Next → List ℕ → List ℕ → Type 0
IsCut text (Request asked) held left = whole_turn text ≡ Some (turn_asked asked, held ++ left)
IsCut text (Last asked) held left = (whole_turn text ≡ None) × (last_turn text ≡ Some (turn_asked asked)) × (held ++ left ≡ [])
IsCut text (Broken index) held left = (held ++ left ≡ text) × BreaksAt text index × BreaksAt held index
IsCut text End held left = (text ≡ []) × (held ++ left ≡ [])
IsCut text Failed held left = (held ++ left ≡ text) × (whole_turn held ≡ None)
IsCut text NoMemory held left = held ++ left ≡ text

-- what is next where the source has ended, and what is held afterwards
abbrev pub IsLast : List ℕ → Next → List ℕ → Type 0
IsLast text (Request asked) held = ⊥
IsLast text (Last asked) held = (last_turn text ≡ Some (turn_asked asked)) × (held ≡ [])
IsLast text (Broken index) held = (last_turn text ≡ Some (broken index)) × (held ≡ text)
IsLast text End held = (text ≡ []) × (held ≡ [])
IsLast text Failed held = ⊥
IsLast text NoMemory held = held ≡ text
