use Rattle.std.proofs.Common.{ℕ, length, rules, arith}
use Rattle.std.proofs.lemmas.List.{length-take}
use Rattle.segment_pool.specs.Faults.{TroubleHolds}
use Rattle.segment_pool.specs.declared.fault.ReadTrouble.{ReadTrouble}
use Rattle.segment_pool.specs.declared.slot.Slot.{Slot}
use Rattle.copy_fragments.proofs.Parts.{parts_there, trouble_there}
use Rattle.copy_fragments.proofs.copy_map.CopyMap.read_piece.Goals as goal

pub returns-clause-part : goal.returns-clause-part
returns-clause-part g c = λ told.
    let room = length-take c.min-count.result c.args.into.now in
    let inside = c.place_of-place.ensures.within in
    parts_there c.args.pool.now c.args.self.now c.args.at c.place_of-place.result.slot c.place_of-place.result.from c.place_of-place.result.length c.place_of-place.ensures c.requires.held
    g.F.Fingerprint.digest_of (g.V.Vault.disk c.args.vault.now).seen _ c.read.new.into _ c.read.result (omega (arith, room, inside, c.min-count.ensures, c.requires.some)) (omega (arith, room, inside, c.min-count.ensures)) (search rules) c.read.ensures.count (c.read.ensures.whole told) (c.read.ensures.bytes told)

pub returns-clause-told : goal.returns-clause-told
returns-clause-told g c = λ told.
    trouble_there c.args.pool.now c.args.self.now c.args.at c.place_of-place.result.slot c.place_of-place.result.from c.place_of-place.result.length c.place_of-place.ensures c.requires.held
    (length c.args.into.now) (λ (s : ℕ) (w : Slot) (t : ReadTrouble). TroubleHolds g.F.Fingerprint.digest_of c.args.pool.now (g.V.Vault.disk c.args.vault.now).seen s t) c.read.result c.requires.some (λ what is. c.read.ensures.told told)
