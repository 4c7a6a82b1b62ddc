-- A list of requests, one after another.
use Rattle.std.specs.Prelude.{ℕ, List, [], ◌∷◌}
use Rattle.site_types.specs.declared.request.Request.{Request}
use Rattle.site_types.specs.declared.answer.Answer.{Answer}
use Rattle.site_types.specs.declared.answer.Answer.TheVariants.{OutOfMemory, DiskFault}
use Rattle.desk_model.specs.State.{State}
use Rattle.desk_model.specs.Step.{step}

-- a request was carried out, found no memory, or met a fault of the disk
pub data Mark : Type 0 where
  plain : Mark
  memory : Mark
  fault : Mark

-- a request with its payload, at a moment
pub record Entry : Type 0 where
  pub request : Request
  pub payload : List ℕ
  pub moment : ℕ
  pub mark : Mark

abbrev pub stepped : State → Entry → Answer × State
stepped s e = step s e.request e.payload e.moment

abbrev pub marked_answer : State → Entry → Mark → Answer
marked_answer s e plain = (stepped s e).0
marked_answer s e memory = OutOfMemory
marked_answer s e fault = DiskFault

-- what an entry is answered
abbrev pub answer_of : State → Entry → Answer
answer_of s e = marked_answer s e e.mark

abbrev pub marked_state : State → Entry → Mark → State
marked_state s e plain = (stepped s e).1
marked_state s e memory = s
marked_state s e fault = s

-- the state after an entry; after want of memory or a fault it is the one before it, and that a fault may have acted is said of the ends of a run
abbrev pub after : State → Entry → State
after s e = marked_state s e e.mark

abbrev pub replay : State → List Entry → State
replay s [] = s
replay s (e ∷ es) = replay (after s e) es
