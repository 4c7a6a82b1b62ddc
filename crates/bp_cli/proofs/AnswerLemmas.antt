-- Answers by their numbers.
use Rattle.std.proofs.Common.{◌≡◌, refl, arith}
use Rattle.site_types.specs.Answers.{number_of}
use Rattle.site_types.specs.declared.answer.Answer.{Answer}
use Rattle.site_types.specs.declared.answer.Answer.TheVariants.{SendFault}

pub is_send_fault : (a : Answer) → number_of a ≡ 20 → a ≡ SendFault
is_send_fault SendFault is = refl
is_send_fault _ is = absurd (omega (arith, is))
