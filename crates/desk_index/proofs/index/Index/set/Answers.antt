use Rattle.std.proofs.Common.{refl, ◌∙◌}
use Rattle.desk_index.proofs.Deciding.{passed_so, refused_so}
use Rattle.desk_index.proofs.SiteChanges.{book_is, ledger_there, set_so}
use Rattle.desk_index.proofs.index.Index.set.Goals as goal

pub returns-in_default-clause-set : goal.returns-in_default-clause-set
returns-in_default-clause-set c l is =
    (refused_so l c.args.self.now is c.args.request.now c.in_ok-decision.decision c.requires.setting c.in_ok-decision.ensures.decided c.in_default.not-Settings, refl)

pub carry_out-made-requires : goal.carry_out-made-requires
carry_out-made-requires c =
    let known = c.requires.known in
    (passed_so known.0 c.args.self.now known.1 c.args.request.now c.in_ok-decision.decision c.requires.setting c.in_ok-decision.ensures.decided c.in-Settings.change c.in-Settings.is).1.ready

pub fit-requires : goal.fit-requires
fit-requires c =
    let known = c.requires.known in
    let passed = passed_so known.0 c.args.self.now known.1 c.args.request.now c.in_ok-decision.decision c.requires.setting c.in_ok-decision.ensures.decided c.in-Settings.change c.in-Settings.is in
    record {
      there = ledger_there known.0 c.args.self.now known.1 c.args.request.now c.in-Settings.change c.requires.formed passed.0 passed.1 c.carry_out-made.new.site c.add_pool.new.self c.carry_out-made.result c.carry_out-made.ensures.made c.carry_out-made.ensures.unchanged
          (c.in_ok-add_pool.ensures.more known.0 known.1.follows (book_is known.0 c.args.self.now known.1) c.requires.setting passed.0) (c.in_ok-add_pool.ensures.have known.0 known.1.follows.pools.have);
    }

pub returns-clause-set : goal.returns-clause-set
returns-clause-set c l is =
    let passed = passed_so l c.args.self.now is c.args.request.now c.in_ok-decision.decision c.requires.setting c.in_ok-decision.ensures.decided c.in-Settings.change c.in-Settings.is in (
      passed.0,
      set_so l c.args.self.now is c.args.request.now c.in-Settings.change c.requires.formed passed.0 passed.1 _ c.add_pool.new.self c.in_ok-made.ensures.made refl
          (c.in_ok-add_pool.ensures.more l is.follows (book_is l c.args.self.now is) c.requires.setting passed.0) c.fit.ensures.pools (c.fit.ensures.copies ∙ c.add_pool.ensures.copies),
    )
