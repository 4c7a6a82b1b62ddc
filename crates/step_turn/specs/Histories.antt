-- Histories of an object, and the legal ones.
use Rattle.std.specs.Prelude.{◌≡◌, ◌⊎◌, ℕ, suc, ◌≤◌, ◌==◌, ◌++◌, true, cond, List, [], ◌∷◌, Option, Some, None}
use Rattle.step_turn.specs.Meaning.{Meaning, Standing, running, Rose, IsAt, Calls, Reopens}
use Rattle.step_turn.specs.declared.entry.Call.{Call}
use Rattle.step_turn.specs.declared.entry.Entry.{Entry}
use Rattle.step_turn.specs.declared.entry.Entry.TheVariants.{Called, Reopened}

-- the first of these lists begins with the second
abbrev pub StartsWith : {X : Type 0} → List X → List X → Type 0
StartsWith {X} xs front = (rest : List X) × (xs ≡ front ++ rest)

abbrev pub Every : {X : Type 0} → (X → Type 0) → List X → Type 0
Every P [] = Unit {0}
Every P (x ∷ xs) = P x × Every P xs

abbrev pub Among : {X : Type 0} → X → List X → Type 0
Among x [] = ⊥
Among x (y ∷ ys) = (x ≡ y) ⊎ Among x ys

module _ {Q A : Type 0} where
  -- the calls of a history, in their order
  abbrev pub calls : List (Entry Q A) → List (Call Q A)
  calls [] = []
  calls (Called c ∷ es) = c ∷ calls es
  calls (Reopened before after ∷ es) = calls es

  -- how many they are
  abbrev pub call_count : List (Entry Q A) → ℕ
  call_count [] = 0
  call_count (Called c ∷ es) = suc (call_count es)
  call_count (Reopened before after ∷ es) = call_count es

  -- the calls of one seat, in their order
  abbrev pub made_by : ℕ → List (Entry Q A) → List (Call Q A)
  made_by seat [] = []
  made_by seat (Called c ∷ es) = cond (c.seat == seat) (c ∷ made_by seat es) (made_by seat es)
  made_by seat (Reopened before after ∷ es) = made_by seat es

  -- after this many calls, the further ones have the next numbers, in order
  abbrev pub Numbered : ℕ → List (Entry Q A) → Type 0
  Numbered count [] = Unit {0}
  Numbered count (Called c ∷ es) = (c.number ≡ suc count) × Numbered (suc count) es
  Numbered count (Reopened before after ∷ es) = Numbered count es

  -- what one turn adds to the history: the call, after the reopening where there was one
  abbrev pub turn_of : Option (ℕ × ℕ) → Call Q A → List (Entry Q A)
  turn_of None c = Called c ∷ []
  turn_of (Some counts) c = Reopened counts.0 counts.1 ∷ Called c ∷ []

module _ {S Q A : Type 0} (M : Meaning S Q A) where
  -- an entry takes one standing to another
  abbrev pub Moves : Standing M.State → Entry Q A → Standing M.State → Type 0
  Moves before (Called c) after = Calls M before c.asked c.answer after
  Moves before (Reopened first last) after = Reopens M before after

  -- the entries, one after another, lead from one standing to another
  abbrev pub Replays : Standing M.State → List (Entry Q A) → Standing M.State → Type 0
  Replays before [] after = after ≡ before
  Replays before (e ∷ es) after = (next : Standing M.State) × Moves before e next × Replays next es after

  -- each entry has the count of faults that the one before it left, no count falls, and each call that failed raised it
  abbrev pub Counted : ℕ → List (Entry Q A) → ℕ → Type 0
  Counted count [] last = last ≡ count
  Counted count (Called c ∷ es) last =
      (c.before ≡ count) × (count ≤ c.after) × (M.failed c.answer ≡ true → Rose count c.after) × Counted c.after es last
  Counted count (Reopened before after ∷ es) last = (before ≡ count) × (count ≤ after) × Counted after es last

  -- how many calls failed
  abbrev pub failures : List (Entry Q A) → ℕ
  failures [] = 0
  failures (Called c ∷ es) = cond (M.failed c.answer) (suc (failures es)) (failures es)
  failures (Reopened before after ∷ es) = failures es

  -- a legal history of an object that began as this one
  pub record IsLegal (start : S) (log : List (Entry Q A)) : Type 0 where
    pub numbered : Numbered 0 log
    pub counted : (last : ℕ) × Counted (M.faults start) log last
    pub replays : M.tells start → (end : Standing M.State) × Replays (running (M.state start)) log end

  -- a legal history that leads from one object to another
  pub record Reaches (start : S) (log : List (Entry Q A)) (object : S) : Type 0 where
    pub numbered : Numbered 0 log
    pub counted : Counted (M.faults start) log (M.faults object)
    pub replays : M.tells start → M.tells object × ((end : Standing M.State) × Replays (running (M.state start)) log end × IsAt M object end)
