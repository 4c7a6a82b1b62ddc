-- Two sends, one after the other.
use Rattle.std.proofs.Common.{◌≡◌, ℕ, List, [], ◌∷◌, ◌++◌, sym, ◌∙◌, ap, arith, append_assoc, refl}
use Rattle.std.specs.Prelude.{Result, Ok, Err, OnOk, codes}
use Rattle.std.specs.Fmt.{digits}
use Rattle.site_types.specs.declared.answer.Answer.TheVariants.{OutOfMemory, DiskFault}
use Rattle.vault_disk.specs.Disk.{Disk}
use Rattle.vault_disk.specs.Steps.{SentPart, Sends}
use Rattle.bp_cli.specs.Sessions.{framed}
use Rattle.vault_disk.proofs.Moments.{goes_on, weaker}

pub frame_split : (a b text : List ℕ) → a ++ 32 ∷ (b ++ 10 ∷ text) ≡ (a ++ 32 ∷ (b ++ 10 ∷ [])) ++ text
frame_split a b text = sym (append_assoc a (32 ∷ (b ++ 10 ∷ [])) text ∙ ap (λ (l : List ℕ). a ++ 32 ∷ l) (append_assoc b (10 ∷ []) text))

module _ (head text all : List ℕ) (all_is : all ≡ head ++ text) (old mid : Disk) where
  part_of_head : (b : List ℕ) → SentPart old.sent head b → SentPart old.sent all b
  part_of_head b p = record {
    part = p.part;
    rest = p.rest ++ text;
    split = all_is ∙ ap (λ (l : List ℕ). l ++ text) p.split ∙ append_assoc p.part p.rest text;
    is = p.is;
  }

  -- the first of them failed
  pub sends_head : {T E : Type 0} (e : E) {T' E' : Type 0} (r : Result T' E') → Sends head old mid r → Sends {T = T} {E = E} all old mid (Err e)
  sends_head e r first = record {
    sent = tt;
    part = part_of_head mid.sent first.part;
    rests = first.rests;
    during = weaker old mid (λ c b. old.may_leave c × SentPart old.sent head b) (λ c b. old.may_leave c × SentPart old.sent all b) (λ c b now. (now.0, part_of_head b now.1)) first.during;
    keeps = first.keeps;
  }

  module _ (new : Disk) (mid_is : mid.sent ≡ old.sent ++ head) where
    part_of_text : (b : List ℕ) → SentPart mid.sent text b → SentPart old.sent all b
    part_of_text b p = record {
      part = head ++ p.part;
      rest = p.rest;
      split = all_is ∙ ap (λ (l : List ℕ). head ++ l) p.split ∙ sym (append_assoc head p.part p.rest);
      is = p.is ∙ ap (λ (l : List ℕ). l ++ p.part) mid_is ∙ append_assoc old.sent head p.part;
    }

  -- both were made
  pub sends_both : {T E : Type 0} (v : T) (r : Result T E) (new : Disk) → Sends {T = T} {E = E} head old mid (Ok v) → Sends text mid new r → Sends all old new r
  sends_both {T = T} {E = E} v r new first second = record {
    sent = whole r second.sent;
    part = part_of_text new first.sent new.sent second.part;
    rests = record { seen = λ f. second.rests.seen f ∙ first.rests.seen f; left = λ c left. first.rests.left c (second.rests.left c left) };
    during = goes_on old mid new (λ c b. old.may_leave c × SentPart old.sent all b)
        (weaker old mid (λ c b. old.may_leave c × SentPart old.sent head b) (λ c b. old.may_leave c × SentPart old.sent all b) (λ c b now. (now.0, part_of_head b now.1)) first.during)
        (weaker mid new (λ c b. mid.may_leave c × SentPart mid.sent text b) (λ c b. old.may_leave c × SentPart old.sent all b) (λ c b now. (first.rests.left c now.0, part_of_text new first.sent b now.1)) second.during);
    keeps = λ t c b le left. second.keeps t c b (omega (arith, le, first.during.later)) (first.keeps t c b le left);
  }
    where
      whole : (x : Result T E) → OnOk x (new.sent ≡ mid.sent ++ text) → OnOk x (new.sent ≡ old.sent ++ all)
      whole (Ok w) is = is ∙ ap (λ (l : List ℕ). l ++ text) first.sent ∙ append_assoc old.sent head text ∙ ap (λ (l : List ℕ). old.sent ++ l) (sym all_is)
      whole (Err e) is = tt

-- the frames of the two answers that are sent without memory
pub frame_of_memory : codes "1 14\n" ++ codes "out of memory\n" ≡ framed OutOfMemory
unfolding digits
frame_of_memory = refl

pub frame_of_fault : codes "18 11\n" ++ codes "disk fault\n" ≡ framed DiskFault
unfolding digits
frame_of_fault = refl
