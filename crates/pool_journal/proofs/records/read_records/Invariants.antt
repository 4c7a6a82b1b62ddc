use Rattle.pool_journal.proofs.Common.{◌≡◌, ◌<◌, ◌++◌, List, ℕ, length, Found, header, spelled, placed, AllSmall, Spell}
use Rattle.pool_journal.proofs.records.read_records.Given as goal

abbrev pub invariant-loop-rest : goal.invariant-loop-rest
invariant-loop-rest l = record {
  bodies : List (List ℕ);
  fs : List Found;
  is : l.bytes ≡ header ++ spelled bodies ++ l.rest;
  small : AllSmall bodies;
  spell : Spell 16 bodies fs;
  entries : l.entries.items ≡ placed fs;
  some : 0 < length l.rest;
}

abbrev pub decreases-loop-rest : goal.decreases-loop-rest
decreases-loop-rest l = length l.rest
