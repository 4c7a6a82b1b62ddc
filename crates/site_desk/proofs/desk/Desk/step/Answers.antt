use Rattle.std.proofs.Common.{◌∙◌, ap, refl, sym}
use Rattle.site_types.specs.Classes.{class_of}
use Rattle.vault_disk.specs.Disk.{Disk}
use Rattle.desk_steps.specs.Readings.{IsWholeImage}
use Rattle.desk_steps.specs.Asked.{IsOneDamaged, images_read}
use Rattle.site_desk.specs.Desk.{DeskValue}
use Rattle.site_desk.proofs.Stepping.{fault_gives_none, known_after, value_reads, value_steps}
use Rattle.site_desk.proofs.desk.Desk.step.Goals as goal

pub invariant_of-self-in_default : goal.invariant_of-self-in_default
invariant_of-self-in_default g c stopped =
    let known = c.self.invariant (ap (λ (d : DeskValue _). d.stopped) c.self.view_is ∙ c.requires.running) in
    known_after c.args.request.now c.args.payload.now c.args.moment c.carry_out-answer.result (g.V.Vault.disk c.self.inside.vault) (g.V.Vault.disk c.carry_out-answer.new.vault) c.self.inside.journal c.carry_out-answer.new.journal c.self.inside.index c.carry_out-answer.new.index known c.carry_out-answer.ensures.steps c.carry_out-answer.ensures.same c.in_default.not-DiskFault

pub returns-in-DiskFault-clause-answers : goal.returns-in-DiskFault-clause-answers
returns-in-DiskFault-clause-answers g c told standing =
    let known = c.self.invariant (ap (λ (d : DeskValue _). d.stopped) c.self.view_is ∙ c.requires.running) in
    (value_steps g.V.Vault.disk c.self.inside.vault c.self.inside.journal c.self.inside.index c.self.inside.stopped c.args.self.now c.self.view_is (g.met.V.Vault.reads_count c.self.inside.vault) known c.args.request.now c.args.payload.now c.args.moment c.carry_out-answer.result _ (g.V.Vault.disk c.carry_out-answer.new.vault) c.carry_out-answer.new.journal c.carry_out-answer.new.index c.carry_out-answer.ensures.steps c.in-DiskFault.is told standing).answers

pub returns-in-DiskFault-clause-stops : goal.returns-in-DiskFault-clause-stops
returns-in-DiskFault-clause-stops g c told standing =
    let known = c.self.invariant (ap (λ (d : DeskValue _). d.stopped) c.self.view_is ∙ c.requires.running) in
    (value_steps g.V.Vault.disk c.self.inside.vault c.self.inside.journal c.self.inside.index c.self.inside.stopped c.args.self.now c.self.view_is (g.met.V.Vault.reads_count c.self.inside.vault) known c.args.request.now c.args.payload.now c.args.moment c.carry_out-answer.result _ (g.V.Vault.disk c.carry_out-answer.new.vault) c.carry_out-answer.new.journal c.carry_out-answer.new.index c.carry_out-answer.ensures.steps c.in-DiskFault.is told standing).stops

pub returns-in_default-clause-answers : goal.returns-in_default-clause-answers
returns-in_default-clause-answers g c told standing =
    let known = c.self.invariant (ap (λ (d : DeskValue _). d.stopped) c.self.view_is ∙ c.requires.running) in
    (value_steps g.V.Vault.disk c.self.inside.vault c.self.inside.journal c.self.inside.index c.self.inside.stopped c.args.self.now c.self.view_is (g.met.V.Vault.reads_count c.self.inside.vault) known c.args.request.now c.args.payload.now c.args.moment c.carry_out-answer.result _ (g.V.Vault.disk c.carry_out-answer.new.vault) c.carry_out-answer.new.journal c.carry_out-answer.new.index c.carry_out-answer.ensures.steps refl told standing).answers

pub returns-in_default-clause-moves : goal.returns-in_default-clause-moves
returns-in_default-clause-moves g c told standing =
    let known = c.self.invariant (ap (λ (d : DeskValue _). d.stopped) c.self.view_is ∙ c.requires.running) in
    (value_steps g.V.Vault.disk c.self.inside.vault c.self.inside.journal c.self.inside.index c.self.inside.stopped c.args.self.now c.self.view_is (g.met.V.Vault.reads_count c.self.inside.vault) known c.args.request.now c.args.payload.now c.args.moment c.carry_out-answer.result _ (g.V.Vault.disk c.carry_out-answer.new.vault) c.carry_out-answer.new.journal c.carry_out-answer.new.index c.carry_out-answer.ensures.steps refl told standing).moves

pub returns-in_default-clause-standing : goal.returns-in_default-clause-standing
returns-in_default-clause-standing g c told standing =
    let known = c.self.invariant (ap (λ (d : DeskValue _). d.stopped) c.self.view_is ∙ c.requires.running) in
    (value_steps g.V.Vault.disk c.self.inside.vault c.self.inside.journal c.self.inside.index c.self.inside.stopped c.args.self.now c.self.view_is (g.met.V.Vault.reads_count c.self.inside.vault) known c.args.request.now c.args.payload.now c.args.moment c.carry_out-answer.result _ (g.V.Vault.disk c.carry_out-answer.new.vault) c.carry_out-answer.new.journal c.carry_out-answer.new.index c.carry_out-answer.ensures.steps refl told standing).standing

pub returns-in_default-clause-stops : goal.returns-in_default-clause-stops
returns-in_default-clause-stops g c told standing =
    let known = c.self.invariant (ap (λ (d : DeskValue _). d.stopped) c.self.view_is ∙ c.requires.running) in
    (value_steps g.V.Vault.disk c.self.inside.vault c.self.inside.journal c.self.inside.index c.self.inside.stopped c.args.self.now c.self.view_is (g.met.V.Vault.reads_count c.self.inside.vault) known c.args.request.now c.args.payload.now c.args.moment c.carry_out-answer.result _ (g.V.Vault.disk c.carry_out-answer.new.vault) c.carry_out-answer.new.journal c.carry_out-answer.new.index c.carry_out-answer.ensures.steps refl told standing).stops

pub returns-in-DiskFault-clause-whole : goal.returns-in-DiskFault-clause-whole
returns-in-DiskFault-clause-whole g c l given id told reads same among = absurd (fault_gives_none given same)

pub returns-in_default-clause-whole : goal.returns-in_default-clause-whole
returns-in_default-clause-whole g c l given id told reads same among =
    let known = c.self.invariant (ap (λ (d : DeskValue _). d.stopped) c.self.view_is ∙ c.requires.running) in
    value_reads g.V.Vault.disk c.self.inside.vault c.self.inside.journal c.self.inside.index c.self.inside.stopped c.args.self.now c.self.view_is known (λ (d : Disk). IsWholeImage d.seen l id) l
    (λ is tells. c.carry_out-answer.ensures.whole l given id is tells same among) told reads

pub returns-in_default-clause-damaged : goal.returns-in_default-clause-damaged
returns-in_default-clause-damaged g c l recorded found told reads restores same =
    let known = c.self.invariant (ap (λ (d : DeskValue _). d.stopped) c.self.view_is ∙ c.requires.running) in
    value_reads g.V.Vault.disk c.self.inside.vault c.self.inside.journal c.self.inside.index c.self.inside.stopped c.args.self.now c.self.view_is known (λ (d : Disk). IsOneDamaged d.seen l (images_read (class_of c.args.request.now) c.args.moment l.outline) recorded found) l
    (λ is tells. c.carry_out-answer.ensures.damaged l recorded found is tells restores same) told reads
