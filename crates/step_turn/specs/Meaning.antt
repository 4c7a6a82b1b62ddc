-- What is said of an object that steps.
use Rattle.std.specs.Prelude.{◌≡◌, ◌⊎◌, ℕ, ◌+◌, ◌-◌, ◌^◌, ◌≤◌, Bool, true, false, min, Result, Ok, Err}

-- of objects S, which are asked Q and answer A
pub record Meaning (S Q A : Type 0) : Type 1 where
  pub State : Type 0
  -- whether the object tells its state
  pub tells : S → Type 0
  pub state : S → State
  pub stopped : S → Bool
  -- a step failed, and the object is stopped between the state before the step and the state that it would have reached
  pub between : S → State → State → Type 0
  -- how many faults it has met
  pub faults : S → ℕ
  -- in a state, this may be asked, answered so, and lead to this state
  pub answers : State → Q → A → State → Type 0
  -- whether an answer says that memory ran out
  pub no_memory : A → Bool
  -- whether it says that the step failed
  pub failed : A → Bool
  -- what is left of a state once the object was stopped and is opened again
  pub durable : State → State

-- an object is in a state, or it is stopped between two
pub data Standing (T : Type 0) : Type 0 where
  running : T → Standing T
  halted : T → T → Standing T

-- a count of faults rose, or it stands at the end of its type
abbrev pub Rose : ℕ → ℕ → Type 0
Rose before after = min (before + 1) (2 ^ 64 - 1) ≤ after

module _ {S Q A : Type 0} (M : Meaning S Q A) where
  -- what an object's fields say of where it stands
  abbrev pub IsAt : S → Standing M.State → Type 0
  IsAt object (running s) = (M.stopped object ≡ false) × (M.state object ≡ s)
  IsAt object (halted s t) = (M.stopped object ≡ true) × M.between object s t

  -- an opening that is refused is answered by want of memory or a failure
  abbrev pub IsRefused : A → Type 0
  IsRefused answer = (M.no_memory answer ≡ true) ⊎ (M.failed answer ≡ true)

  -- a call takes one standing to another. In a state it is answered, and leads to the next one; or there was no memory, and the
  -- state stays; or it failed, and the object is stopped between the state and the next one. Where the object is stopped it
  -- couldn't be opened again, and stays stopped
  abbrev pub Calls : Standing M.State → Q → A → Standing M.State → Type 0
  Calls (running s) asked answer after =
      ((t : M.State) × M.answers s asked answer t × (after ≡ running t))
      ⊎ (((M.no_memory answer ≡ true) × (after ≡ running s))
      ⊎ ((M.failed answer ≡ true) × ((t : M.State) × (other : A) × M.answers s asked other t × (after ≡ halted s t))))
  Calls (halted s t) asked answer after = IsRefused answer × (after ≡ halted s t)

  -- the object was stopped and is opened again, as the failed step had been carried out or not
  abbrev pub Reopens : Standing M.State → Standing M.State → Type 0
  Reopens (running s) after = ⊥
  Reopens (halted s t) after = (after ≡ running (M.durable s)) ⊎ (after ≡ running (M.durable t))

  -- a count of faults never falls, and a failure raised it
  pub record HasCause (old new : S) (answer : A) : Type 0 where
    pub later : M.faults old ≤ M.faults new
    pub failed : M.failed answer ≡ true → Rose (M.faults old) (M.faults new)

  -- what is promised of a step over an object that tells
  pub record Stepped (old : S) (asked : Q) (answer : A) (new : S) : Type 0 where
    pub tells : M.tells new
    pub standing : Standing M.State
    pub calls : Calls (running (M.state old)) asked answer standing
    pub is_at : IsAt new standing

  -- what is promised of a reopening: the object is opened again, or stays stopped and the refusal is an answer
  abbrev pub ReopenedSo : S → S → Result (Unit {0}) A → Type 0
  ReopenedSo old new (Ok done) =
      (s t : M.State) → M.between old s t → M.tells new × ((after : Standing M.State) × Reopens (halted s t) after × IsAt new after)
  ReopenedSo old new (Err answer) =
      (s t : M.State) → M.between old s t → M.tells new × IsRefused answer × IsAt new (halted s t)

  -- and of its count of faults
  abbrev pub ReopenCause : S → S → Result (Unit {0}) A → Type 0
  ReopenCause old new (Ok done) = M.faults old ≤ M.faults new
  ReopenCause old new (Err answer) = HasCause old new answer
