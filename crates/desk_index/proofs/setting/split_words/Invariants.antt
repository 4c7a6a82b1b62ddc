use Rattle.std.proofs.Common.{◌≡◌, map}
use Rattle.desk_index.proofs.setting.split_words.Given as goal

abbrev pub invariant-loop-word : goal.invariant-loop-word
invariant-loop-word l = l.words.items ≡ map (λ x. x.now) l.yielded
