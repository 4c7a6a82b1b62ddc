-- What contracts see of a turn, of seats and of notes, and what their calls promise.
use Rattle.std.specs.Prelude.{◌≡◌, ℕ, zero, suc, ◌+◌, ◌-◌, ◌^◌, ◌<◌, ◌≤◌, ◌==◌, ◌||◌, ◌++◌, Bool, false, cond, min, List, [], ◌∷◌}
use Rattle.atomic_table.specs.Seated.{TableId}
use Rattle.step_turn.specs.Meaning.{Meaning}
use Rattle.step_turn.specs.Histories.{calls, made_by, Every, StartsWith, failures, IsLegal, Reaches}
use Rattle.step_turn.specs.declared.entry.Call.{Call}
use Rattle.step_turn.specs.declared.entry.Entry.{Entry}
use Rattle.step_turn.specs.declared.entry.Entry.TheVariants.{Called}

-- a turn: the object that it was given, how many seats it has, and which turn it is
pub record TurnValue (S : Type 0) : Type 0 where
  pub start : S
  pub seats : ℕ
  pub id : TableId

-- a seat: its number, what it has seen, the calls that were made from it, and whose seat it is
pub record SeatValue (Q A : Type 0) : Type 0 where
  pub number : ℕ
  pub seen : List (Entry Q A)
  pub own : List (Call Q A)
  pub turn : TableId

-- a note: what was seen, and of which turn
pub record NoteValue (Q A : Type 0) : Type 0 where
  pub seen : List (Entry Q A)
  pub turn : TableId

module _ {Q A : Type 0} where
  abbrev pub has_number : ℕ → List (SeatValue Q A) → Bool
  has_number number [] = false
  has_number number (x ∷ xs) = (x.number == number) || has_number number xs

  -- how many of the first so many numbers none of these seats has
  abbrev pub missing : ℕ → List (SeatValue Q A) → ℕ
  missing zero xs = 0
  missing (suc n) xs = cond (has_number n xs) (missing n xs) (suc (missing n xs))

  -- seats of this turn, with the numbers from this one on, that have seen nothing
  abbrev pub AreNew : TableId → ℕ → List (SeatValue Q A) → Type 0
  AreNew turn number [] = Unit {0}
  AreNew turn number (x ∷ xs) = (x ≡ record { number = number; seen = []; own = []; turn = turn }) × AreNew turn (suc number) xs

  -- seats of one turn
  abbrev pub AreOf : TableId → List (SeatValue Q A) → Type 0
  AreOf turn xs = Every (λ (x : SeatValue Q A). x.turn ≡ turn) xs

  -- the number and the turn of a seat stay
  abbrev pub IsSameSeat : SeatValue Q A → SeatValue Q A → Type 0
  IsSameSeat old new = (new.number ≡ old.number) × (new.turn ≡ old.turn)

module _ {S Q A : Type 0} (M : Meaning S Q A) where
  -- a call from a seat. There is one legal history of the object that the turn was given. It begins with all that the seat had
  -- seen, and ends with the call. The calls of this seat in it are those that it had made, and this one, each once
  pub record Answered (start : S) (old : SeatValue Q A) (asked : Q) (number : ℕ) (answer : A) (new : SeatValue Q A) : Type 0 where
    pub call : Call Q A
    pub number_is : call.number ≡ number
    pub seat_is : call.seat ≡ old.number
    pub asked_is : call.asked ≡ asked
    pub answer_is : call.answer ≡ answer
    pub between : List (Entry Q A)
    pub seen : new.seen ≡ (old.seen ++ between) ++ Called call ∷ []
    pub legal : IsLegal M start new.seen
    pub own : new.own ≡ old.own ++ call ∷ []
    pub once : made_by new.number new.seen ≡ new.own

  -- a seat took a note in: all that both had seen stands in one legal history
  pub record Met (start : S) (old : SeatValue Q A) (note : NoteValue Q A) (new : SeatValue Q A) : Type 0 where
    pub mine : StartsWith new.seen old.seen
    pub noted : StartsWith new.seen note.seen
    pub legal : IsLegal M start new.seen
    pub own : new.own ≡ old.own
    pub once : made_by new.number new.seen ≡ new.own

  -- all seats were handed in. The object is the one to which the whole history leads; the history begins with what each seat had
  -- seen, and its calls are those of the seats, each once
  pub record Closes (turn : TurnValue S) (seats : List (SeatValue Q A)) (object : S) : Type 0 where
    pub log : List (Entry Q A)
    pub reaches : Reaches M turn.start log object
    pub begins : Every (λ (x : SeatValue Q A). StartsWith log x.seen) seats
    pub own : Every (λ (x : SeatValue Q A). made_by x.number log ≡ x.own) seats
    pub whole : Every (λ (c : Call Q A). c.seat < turn.seats) (calls log)
    -- no more calls failed than the count of faults rose by, up to the end of its type
    pub few : min (M.faults turn.start + failures M log) (2 ^ 64 - 1) ≤ M.faults object
