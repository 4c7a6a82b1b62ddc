-- The rule of a turn: what its two words, its slot and the views of all seats and notes say together.
use Rattle.std.specs.Prelude.{◌≡◌, ◌⊎◌, ℕ, suc, ltb, ◌+◌, ◌-◌, ◌^◌, ◌<◌, ◌≤◌, ◌==◌, ◌++◌, Bool, true, false, cond, List, [], ◌∷◌, length, Option, Some, None, MatchBool}
use mathlib.Core.Option.{some, none}
use lib.ListN.{get_elem?}
use Rattle.atomic_table.specs.Table.{State, Me, Step, rest}
use Rattle.step_turn.specs.Meaning.{Meaning}
use Rattle.step_turn.specs.Histories.{calls, call_count, made_by, turn_of, Every, Among, StartsWith, IsLegal, Reaches}
use Rattle.step_turn.specs.Seats.{SeatValue}
use Rattle.step_turn.specs.declared.entry.Call.{Call}
use Rattle.step_turn.specs.declared.entry.Entry.{Entry}
use Rattle.step_turn.specs.declared.view.Chair.{Chair}
use Rattle.step_turn.specs.declared.view.View.{View}

module _ {Q A : Type 0} where
  abbrev pub chair : ℕ → List (Call Q A) → Chair Q A
  chair number own = record { number = number; own = own }

  -- a joined seat that is given up
  abbrev pub spent : View Q A
  spent = record { seen = []; heard = []; chairs = []; seats = 0; to_make = 0; ticket = None; has_turn = false }

  -- the first view, which makes the seats, while so many are left
  abbrev pub making : ℕ → ℕ → View Q A
  making seats left = record { seen = []; heard = []; chairs = []; seats = seats; to_make = left; ticket = None; has_turn = false }

  abbrev pub maker : ℕ → View Q A
  maker seats = making seats seats

  -- a seat of its own, and what it is doing
  abbrev pub seated : ℕ → ℕ → List (Call Q A) → List (Entry Q A) → List (List (Entry Q A)) → Option ℕ → Bool → View Q A
  seated seats number own seen heard ticket has_turn = record {
    seen = seen;
    heard = heard;
    chairs = chair number own ∷ [];
    seats = seats;
    to_make = 0;
    ticket = ticket;
    has_turn = has_turn;
  }

  abbrev pub noted : ℕ → List (Entry Q A) → View Q A
  noted seats seen = record { seen = seen; heard = []; chairs = []; seats = seats; to_make = 0; ticket = None; has_turn = false }

  -- a splitting seat that has seats to make has one fewer afterwards, and any other stays as it is
  abbrev pub left_of : View Q A → View Q A
  left_of v = record { seen = v.seen; heard = v.heard; chairs = v.chairs; seats = v.seats; to_make = v.to_make - 1; ticket = v.ticket; has_turn = v.has_turn }

  -- the new one is the next seat, or a note where there is no seat to make. It has seen as much
  abbrev pub right_of : View Q A → View Q A
  right_of v = cond (v.to_make == 0) (noted v.seats v.seen) (seated v.seats (v.seats - v.to_make) [] v.seen [] None false)

  abbrev pub longer : List (Entry Q A) → List (Entry Q A) → List (Entry Q A)
  longer xs ys = cond (ltb (length xs) (length ys)) ys xs

  -- the kept one has the longer history, the seat numbers of both with their calls, and the seats to make of both
  abbrev pub joined : View Q A → View Q A → View Q A
  joined v w = record {
    seen = longer v.seen w.seen;
    heard = (v.heard ++ w.heard) ++ v.seen ∷ w.seen ∷ [];
    chairs = v.chairs ++ w.chairs;
    seats = v.seats;
    to_make = v.to_make + w.to_make;
    ticket = v.ticket;
    has_turn = v.has_turn;
  }

  abbrev pub with_ticket : View Q A → Option ℕ → View Q A
  with_ticket v ticket = record { seen = v.seen; heard = v.heard; chairs = v.chairs; seats = v.seats; to_make = v.to_make; ticket = ticket; has_turn = v.has_turn }

  -- after a look, with the turn or without it
  abbrev pub looked : View Q A → List (Entry Q A) → Bool → View Q A
  looked v seen has_turn = record { seen = seen; heard = []; chairs = v.chairs; seats = v.seats; to_make = v.to_make; ticket = v.ticket; has_turn = has_turn }

  abbrev pub with_call : List (Chair Q A) → Call Q A → List (Chair Q A)
  with_call [] c = []
  with_call (h ∷ hs) c = chair h.number (h.own ++ c ∷ []) ∷ hs

  -- after the turn: the entry is seen and its own, and the ticket and the turn are gone
  abbrev pub served : View Q A → List (Entry Q A) → Call Q A → View Q A
  served v es c = record { seen = v.seen ++ es; heard = v.heard; chairs = with_call v.chairs c; seats = v.seats; to_make = v.to_make; ticket = None; has_turn = false }

  -- the view of a badge
  abbrev pub view_of : List (View Q A) → View Q A
  view_of [] = spent
  view_of (v ∷ vs) = v

  abbrev pub own_of_chairs : List (Chair Q A) → List (Call Q A)
  own_of_chairs [] = []
  own_of_chairs (h ∷ hs) = h.own

  abbrev pub own_of : View Q A → List (Call Q A)
  own_of v = own_of_chairs v.chairs

  -- a seat with this number that is in no call
  abbrev pub at_rest : ℕ → View Q A → View Q A
  at_rest number v = seated v.seats number (own_of v) v.seen v.heard None false

-- what the rule knows beside the words, the slot and the views
pub record Book (Q A : Type 0) : Type 0 where
  -- the next ticket, and how many were served
  pub ticket : ℕ
  pub serving : ℕ
  pub log : List (Entry Q A)
  -- how many seats were made, and which view makes them
  pub made : ℕ
  pub maker : ℕ
  -- whether a view has the turn, so that the object is with it
  pub out : Bool
  -- the one view that has a ticket, and the one that has a seat number
  pub ticket_at : ℕ → ℕ
  pub chair_at : ℕ → ℕ

module _ {Q A : Type 0} where
  -- a seat number is of a seat that was made, in one view alone, and has the calls of the history that were made from it
  pub record ChairFits (made : ℕ) (chair_at : ℕ → ℕ) (log : List (Entry Q A)) (i : ℕ) (c : Chair Q A) : Type 0 where
    pub was_made : c.number < made
    pub here : chair_at c.number ≡ i
    pub own : made_by c.number log ≡ c.own

  -- a view beside the rest
  pub record Fits (count : ℕ) (b : Book Q A) (i : ℕ) (v : View Q A) : Type 0 where
    pub seen : StartsWith b.log v.seen
    pub heard : Every (StartsWith b.log) v.heard
    pub chairs : Every (ChairFits b.made b.chair_at b.log i) v.chairs
    -- a ticket is at least `serving` and below `ticket`, and in one view alone
    pub ticket : (t : ℕ) → v.ticket ≡ Some t → (b.serving ≤ t) × (t < b.ticket) × (b.ticket_at t ≡ i)
    -- a view without a seat number has no ticket
    pub unseated : v.chairs ≡ [] → v.ticket ≡ None
    -- only the view with the ticket that is served may have the turn, and it has seen the whole history
    pub turn : v.has_turn ≡ true → (b.out ≡ true) × (v.ticket ≡ Some b.serving) × (v.seen ≡ b.log)
    -- one view alone has seats to make, and these are the ones that weren't made
    pub making : 0 < v.to_make → (b.maker ≡ i) × (v.to_make + b.made ≡ count)
    -- all views but a spent one name the same number of seats
    pub seats : (v ≡ spent) ⊎ (v.seats ≡ count)

module _ {S Q A : Type 0} (M : Meaning S Q A) (start : S) where
  -- the rule, of a turn that was given this object and has so many seats
  pub record IsOrdered (seats : ℕ) (s : State (Option S) (View Q A)) : Type 0 where
    pub book : Book Q A
    pub words : s.words ≡ book.ticket ∷ book.serving ∷ []
    pub below : book.ticket < 2 ^ 64
    pub order : book.serving ≤ book.ticket
    pub legal : IsLegal M start book.log
    -- the history has as many calls as were served
    pub served : call_count book.log ≡ book.serving
    -- while no view has the turn, the slot is at home with the object to which the history leads
    pub home : book.out ≡ false → (object : S) × (s.homes ≡ some (Some object) ∷ []) × Reaches M start book.log object
    -- while one has it, that is the view with the ticket that is served, and it holds the slot
    pub away : book.out ≡ true → (s.homes ≡ none ∷ []) × ((v : View Q A) × (get_elem? s.views (book.ticket_at book.serving) ≡ some v) × (v.has_turn ≡ true))
    -- each ticket from `serving` to below `ticket` is in a view: there are as many as `ticket` is above `serving`
    pub held : (t : ℕ) → book.serving ≤ t → t < book.ticket → (v : View Q A) × (get_elem? s.views (book.ticket_at t) ≡ some v) × (v.ticket ≡ Some t)
    pub made : book.made ≤ seats
    -- no call was made from a seat that is still to be made
    pub callers : Every (λ c. c.seat < book.made) (calls book.log)
    pub fits : (i : ℕ) (v : View Q A) → get_elem? s.views i ≡ some v → Fits seats book i v

-- what a step tells of a seat that holds no slot of its own making
abbrev pub Seated : Type 0 → Type 0 → Type 0 → Type 0
Seated S Q A = Me (Option S) (View Q A)

-- a view of one seat
abbrev pub HasChair : {Q A : Type 0} → View Q A → Type 0
HasChair {Q} {A} v = (c : Chair Q A) × (v.chairs ≡ c ∷ [])

-- a view knows of a seat: its number and its calls, and what it had seen
abbrev pub Knows : {Q A : Type 0} → View Q A → SeatValue Q A → Type 0
Knows v x = Among (chair x.number x.own) v.chairs × Among x.seen (v.seen ∷ v.heard)

-- a seat that is in no call, and holds no slot
abbrev pub IsIdle : {S Q A : Type 0} → Me (Option S) (View Q A) → Type 0
IsIdle me = (me.1 ≡ []) × (me.0.ticket ≡ None) × (me.0.has_turn ≡ false) × (me.0.to_make ≡ 0)

-- seats were joined into one, and it knows of each
pub record Gathers {S Q A : Type 0} (old me : Me (Option S) (View Q A)) (all left : List (SeatValue Q A)) : Type 0 where
  pub idle : IsIdle me
  pub chair : Chair Q A
  pub chairs : List (Chair Q A)
  pub chairs_are : me.0.chairs ≡ chair ∷ chairs
  pub keeps_known : (x : SeatValue Q A) → Knows old.0 x → Knows me.0 x
  pub taken : List (SeatValue Q A)
  pub all_is : all ≡ left ++ taken
  pub knows : Every (Knows me.0) taken

abbrev pub first_number : {Q A : Type 0} → List (Chair Q A) → ℕ
first_number [] = 0
first_number (h ∷ hs) = h.number

abbrev pub is_ticket : Option ℕ → ℕ → Bool
is_ticket None n = false
is_ticket (Some t) n = t == n

module _ {S Q A : Type 0} where
  -- the ticket is the seat's own where the word was the one expected
  abbrev pub TookTicket : Step (Option S) → Seated S Q A → ℕ → Seated S Q A → Type 0
  TookTicket step me found after = after ≡ (with_ticket me.0 (cond (found == step.first) (Some found) None), me.1)

  -- the whole history is seen. Where the ticket found is the seat's, the turn is its own and it holds the slot
  pub record Looked (legal : List (Entry Q A) → Type 0) (reached : List (Entry Q A) → S → Type 0) (me : Seated S Q A) (found : ℕ) (after : Seated S Q A) : Type 0 where
    pub seen : List (Entry Q A)
    pub count : call_count seen ≡ found
    pub is_legal : legal seen
    pub mine : StartsWith seen me.0.seen
    pub heard : Every (StartsWith seen) me.0.heard
    pub own : Every (λ (h : Chair Q A). made_by h.number seen ≡ h.own) me.0.chairs
    pub turn : MatchBool (is_ticket me.0.ticket found)
        ((object : S) × (after ≡ (looked me.0 seen true, (0, Some object) ∷ me.1)) × reached seen object)
        (after ≡ (looked me.0 seen false, me.1))

  -- the seat's entry ends the history, is seen and is its own; the ticket and the turn are gone, and the slot is at home
  abbrev pub Advanced : (Option (ℕ × ℕ) → Call Q A → Type 0) → Seated S Q A → Seated S Q A → Type 0
  Advanced made me after = (reopened : Option (ℕ × ℕ)) × (c : Call Q A) × made reopened c × (after ≡ (served me.0 (turn_of reopened c) c, rest me.1))

module _ {S Q A : Type 0} (M : Meaning S Q A) (start : S) where
  -- a call that was made of an object, as the history goes on with it
  pub record Adds (log : List (Entry Q A)) (seat : ℕ) (asked : Q) (answer : A) (object : S) (reopened : Option (ℕ × ℕ)) (c : Call Q A) : Type 0 where
    pub number_is : c.number ≡ suc (call_count log)
    pub seat_is : c.seat ≡ seat
    pub asked_is : c.asked ≡ asked
    pub answer_is : c.answer ≡ answer
    pub reaches : Reaches M start (log ++ turn_of reopened c) object

  -- some call was made so
  abbrev pub IsAdded : List (Entry Q A) → ℕ → Q → A → S → Type 0
  IsAdded log seat asked answer object = (reopened : Option (ℕ × ℕ)) × (c : Call Q A) × Adds log seat asked answer object reopened c

  -- of some object
  abbrev pub Made : List (Entry Q A) → ℕ → Q → A → Option (ℕ × ℕ) → Call Q A → Type 0
  Made log seat asked answer reopened c = (object : S) × Adds log seat asked answer object reopened c

-- a seat that waits has looked since: it is as it was but for what it has seen, and what is seen of it begins with what was
pub record Waits {S Q A : Type 0} (old new : Me (Option S) (View Q A)) : Type 0 where
  pub view : (seen : List (Entry Q A)) (has_turn : Bool) → looked new.0 seen has_turn ≡ looked old.0 seen has_turn
  pub slots : new.1 ≡ old.1
  pub idle : new.0.has_turn ≡ false
  pub mine : (log : List (Entry Q A)) → StartsWith log new.0.seen → StartsWith log old.0.seen
  pub heard : (log : List (Entry Q A)) → StartsWith log new.0.seen → Every (StartsWith log) new.0.heard → Every (StartsWith log) old.0.heard
