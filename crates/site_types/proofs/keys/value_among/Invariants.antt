use Rattle.site_types.proofs.Common.{◌≡◌, drop, value_among}
use Rattle.site_types.proofs.keys.value_among.Given as goal

abbrev pub invariant-loop-word : goal.invariant-loop-word
invariant-loop-word l = value_among l.key (drop l.word-index l.words) ≡ value_among l.key l.words
