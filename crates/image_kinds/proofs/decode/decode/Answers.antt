use Rattle.image_kinds.proofs.decode.decode.Goals as goal

pub returns-in-Err-Broken-clause-fault : goal.returns-in-Err-Broken-clause-fault
returns-in-Err-Broken-clause-fault c = (rw c.in-Err-Broken.field-0-is at c.in-Err-Broken.ensures.fault).1
