-- What a step other than of a site file may be answered, any step may be.
use Rattle.std.proofs.Common.{ℕ, List, Result, Ok, Err}
use Rattle.std.specs.Prelude.{IfErr}
use Rattle.site_types.specs.declared.answer.Answer.{Answer}
use Rattle.site_types.specs.declared.answer.Answer.TheVariants.{BadRequest}
use Rattle.site_types.specs.declared.request.Request.{Request}
use Rattle.desk_index.specs.Answers.{IsOfRequest, IsOfStep, IsRefusalOf, IsStepRefusal}

pub of_request : (r : Request) (payload : List ℕ) (a : Answer) → IsOfStep a → IsOfRequest r payload a
of_request r payload (BadRequest index) is = absurd is
of_request r payload a is = is

pub refusal_of : {T : Type 0} (r : Request) (payload : List ℕ) (result : Result T Answer) → IfErr result IsStepRefusal → IfErr result (IsRefusalOf r payload)
refusal_of r payload (Ok value) is = tt
refusal_of r payload (Err a) is = (of_request r payload a is.0, is.1)
