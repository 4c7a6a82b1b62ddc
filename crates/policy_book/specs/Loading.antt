-- What a reader of a site file answers.
use Rattle.std.specs.Prelude.{◌≡◌, List, Option, Some, None, Result, MatchResult}
use Rattle.policy_book.specs.declared.fault.LoadFault.{LoadFault}
use Rattle.policy_book.specs.declared.fault.LoadFault.TheVariants.{NotASite}
use Rattle.policy_book.specs.SiteFile.{joined}

-- this is what there is to read; the answer that it is no site comes only where there is nothing
abbrev pub Reads : {A : Type 0} → Option A → Result A LoadFault → Type 0
Reads all result = MatchResult result (λ x. all ≡ Some x) (λ fault. fault ≡ NotASite → all ≡ None)

-- what there is to read was added to a list
abbrev pub Adds : {A B : Type 0} → Option (List A) → List A → List A → Result B LoadFault → Type 0
Adds more old new result = MatchResult result (λ _. joined (Some old) more ≡ Some new) (λ fault. fault ≡ NotASite → more ≡ None)
