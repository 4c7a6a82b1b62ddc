use Rattle.site_types.proofs.Common.{◌∙◌, ap, find, begins}
use Rattle.site_types.proofs.RereadLemmas.{row_begins, row_is}
use Rattle.site_types.proofs.forms.form_among.Goals as goal

pub returns-clause-named : goal.returns-clause-named
returns-clause-named c = row_is c.args.words.now c.row_among.result (c.row_among.ensures ∙ ap (find (λ f. begins f.first f.second c.args.words.now)) c.all_forms.ensures)

pub returns-clause-begun : goal.returns-clause-begun
returns-clause-begun c = row_begins c.args.words.now c.row_among.result (c.row_among.ensures ∙ ap (find (λ f. begins f.first f.second c.args.words.now)) c.all_forms.ensures)
