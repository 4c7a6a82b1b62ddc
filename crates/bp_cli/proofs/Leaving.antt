-- What a stop leaves, from one request to the next.
use Rattle.std.proofs.Common.{◌≡◌, ◌⊎◌, inl, ⊎_elim, ℕ, List, [], ◌∷◌, ◌++◌, refl, sym, ◌∙◌, ap, subst, append_assoc, arith}
use Rattle.std.specs.Prelude.{Bool, true, false, if◌then◌else◌, option_and_then, Some, None, Result, Ok, Err}
use Rattle.std.specs.Result.{result_ok}
use Rattle.std.proofs.lemmas.List.{append-nil}
use Rattle.site_types.specs.declared.answer.Answer.{Answer}
use Rattle.vault_disk.specs.Disk.{Disk, Image, During}
use Rattle.vault_disk.proofs.Moments.{started, goes_on, weaker}
use Rattle.pool_journal.specs.Stops.{Leaves as JournalLeaves}
use Rattle.desk_model.specs.State.{State, durable}
use Rattle.desk_model.specs.Replay.{Mark, plain, memory, fault, Entry, marked_state}
use Rattle.vault_ledger.specs.Ledger.{Ledger, journal_reads, are_true, state_over, state_where, stands}
use Rattle.site_desk.specs.Stands.{opened, state_by, Standing, Opens}
use Rattle.site_desk.proofs.Standings.{opens_so}
use Rattle.bp_cli.specs.Runs.{Outcome, refused, carried, said, after_outcome, state_after, EndsBy, Ends, EndsAfter, replies, IsSent, AreSent, Covered, Leaves, StopsFrom, CoversOne, One, Acts}

ends_by : (s : State) (e : Entry) (m : Mark) (c : Image) → stands c ≡ Some (durable (marked_state s e m)) → EndsBy s e m c
ends_by s e plain c is = is
ends_by s e memory c is = is
ends_by s e fault c is = inl is

ends_state : (s : State) (os : List Outcome) (c : Image) → stands c ≡ Some (durable (state_after s os)) → EndsAfter s os c
ends_state s [] c is = is
ends_state s (refused a ∷ []) c is = is
ends_state s (carried e a ∷ []) c is = ends_by s e e.mark c is
ends_state s (p ∷ q ∷ os) c is = ends_state (after_outcome s p) (q ∷ os) c is

ends_push : (s : State) (os : List Outcome) (o : Outcome) (c : Image) → Ends (state_after s os) o c → EndsAfter s (os ++ o ∷ []) c
ends_push s [] o c ends = ends
ends_push s (p ∷ []) o c ends = ends
ends_push s (p ∷ q ∷ os) o c ends = ends_push (after_outcome s p) (q ∷ os) o c ends

pub replies_push : (text : Answer → List ℕ) (os : List Outcome) (o : Outcome) → replies text (os ++ o ∷ []) ≡ replies text os ++ text (said o)
replies_push text [] o = append-nil (text (said o))
replies_push text (p ∷ os) o = ap (λ (l : List ℕ). text (said p) ++ l) (replies_push text os o) ∙ sym (append_assoc (text (said p)) (replies text os) (text (said o)))

-- all were sent
pub all_sent : (text : Answer → List ℕ) (os : List Outcome) (base sent : List ℕ) (status : ℕ) → sent ≡ base ++ replies text os → AreSent text os base sent status
all_sent text [] base sent status is = is ∙ append-nil base
all_sent text (o ∷ []) base sent status is =
    let whole : sent ≡ base ++ text (said o) = is ∙ ap (λ (l : List ℕ). base ++ l) (append-nil (text (said o))) in
    record { part = record { part = text (said o); rest = []; split = sym (append-nil (text (said o))); is = whole }; whole = λ ne. whole }
all_sent text (o ∷ p ∷ os) base sent status is = all_sent text (p ∷ os) (base ++ text (said o)) sent status (is ∙ sym (append_assoc base (text (said o)) (replies text (p ∷ os))))

-- all but the last were sent, and that in whole or in part
pub sent_push : (text : Answer → List ℕ) (os : List Outcome) (o : Outcome) (base mid sent : List ℕ) (status : ℕ) → mid ≡ base ++ replies text os → IsSent (text (said o)) mid sent status → AreSent text (os ++ o ∷ []) base sent status
sent_push text [] o base mid sent status is last = subst (λ (l : List ℕ). IsSent (text (said o)) l sent status) (is ∙ append-nil base) last
sent_push text (p ∷ []) o base mid sent status is last = subst (λ (l : List ℕ). IsSent (text (said o)) l sent status) (is ∙ ap (λ (l : List ℕ). base ++ l) (append-nil (text (said p)))) last
sent_push text (p ∷ q ∷ os) o base mid sent status is last = sent_push text (q ∷ os) o (base ++ text (said p)) mid sent status (is ∙ sym (append_assoc base (text (said p)) (replies text (q ∷ os)))) last

pub leaves_none : (text : Answer → List ℕ) (s : State) (d : Disk) → Standing d s → Leaves text s d d []
leaves_none text s d standing = record { now = λ c left. standing.each c left; during = started d (Covered text s [] d.sent) }

covered_more : (text : Answer → List ℕ) (s : State) (os : List Outcome) (o : Outcome) (base : List ℕ) (c : Image) (b : List ℕ) → Covered text s os base c b → Covered text s (os ++ o ∷ []) base c b
covered_more text s os o base c b covered = record {
  done = covered.done;
  more = covered.more ++ o ∷ [];
  split = ap (λ (l : List Outcome). l ++ o ∷ []) covered.split ∙ append_assoc covered.done covered.more (o ∷ []);
  ends = covered.ends;
  sent = covered.sent;
}

-- before the first
covered_none : (text : Answer → List ℕ) (s : State) (os : List Outcome) (base : List ℕ) (c : Image) (b : List ℕ) → stands c ≡ Some (durable s) → b ≡ base → Covered text s os base c b
covered_none text s os base c b ends is = record { done = []; more = os; split = refl; ends = ends; sent = record { part = []; rest = []; split = refl; is = is ∙ sym (append-nil base) } }

-- one request more was answered
module _ (text : Answer → List ℕ) (s state : State) (d0 d d' : Disk) (os : List Outcome) (o : Outcome) (state_is : state ≡ state_after s os) (sent : d.sent ≡ d0.sent ++ replies text os) where
  covers : (c : Image) (b : List ℕ) → CoversOne text state o d.sent c b → Covered text s (os ++ o ∷ []) d0.sent c b
  covers c b = ⊎_elim
      (λ was. record {
        done = os;
        more = o ∷ [];
        split = refl;
        ends = ends_state s os c (was.0 ∙ ap (λ (x : State). Some (durable x)) state_is);
        sent = record { part = replies text os; rest = []; split = sym (append-nil (replies text os)); is = was.1 ∙ sent };
      })
      (λ now. record {
        done = os ++ o ∷ [];
        more = [];
        split = sym (append-nil (os ++ o ∷ []));
        ends = ends_push s os o c (subst (λ (x : State). Ends x o c) state_is now.0);
        sent = record {
          part = replies text os ++ now.1.part;
          rest = now.1.rest;
          split = replies_push text os o ∙ ap (λ (l : List ℕ). replies text os ++ l) now.1.split ∙ sym (append_assoc (replies text os) now.1.part now.1.rest);
          is = now.1.is ∙ ap (λ (l : List ℕ). l ++ now.1.part) sent ∙ append_assoc d0.sent (replies text os) now.1.part;
        };
      })

  pub leaves_more : Leaves text s d0 d os → One text state d d' o → Leaves text s d0 d' (os ++ o ∷ [])
  leaves_more leaves one = record {
    now = λ c left. ends_push s os o c (subst (λ (x : State). Ends x o c) state_is (one.now c left));
    during = goes_on d0 d d' (Covered text s (os ++ o ∷ []) d0.sent)
        (weaker d0 d (Covered text s os d0.sent) (Covered text s (os ++ o ∷ []) d0.sent) (λ c b covered. covered_more text s os o d0.sent c b covered) leaves.during)
        (weaker d d' (CoversOne text state o d.sent) (Covered text s (os ++ o ∷ []) d0.sent) covers one.during);
  }

some_same : (a b : State) → Some a ≡ Some b → a ≡ b
some_same a b e = cc

abbrev read_as : State → Result State ℕ
read_as s = Ok s

-- what stands for a state reads as it
pub found_at : (c : Image) (s : State) → stands c ≡ Some s → opened c ≡ Ok s
found_at c s = at (journal_reads c)
  where
    over : (l : Ledger) (b : Bool) → (if b then Some (state_over c l) else None) ≡ Some s → state_over c l ≡ s
    over l true is = some_same (state_over c l) s is
    over l false is = absurd (cc is)

    at : (r : Result Ledger ℕ) → option_and_then (state_where c) (result_ok r) ≡ Some s → state_by c r ≡ Ok s
    at (Ok l) is = ap read_as (over l (are_true c l l.outline.stored) is)
    at (Err offset) is = absurd (cc is)

-- nothing was opened
pub opens_none : (d : Disk) → Opens d d
opens_none d s is = inl (record { left = λ c left. left; during = started d (λ c b. d.may_leave c × (b ≡ d.sent)) })

-- an opening, of a vault that stands for a state when it begins
module _ (s : State) (d0 d1 : Disk) (standing : Standing d0 s) (reads : d0.may_leave d0.seen) (opens : Opens d0 d1) where
  at_start : (c : Image) → d0.may_leave c ⊎ (stands c ≡ Some (durable s)) → stands c ≡ Some (durable s)
  at_start c = ⊎_elim (standing.each c) (λ same. same)

  leaves_open : JournalLeaves (λ c. d0.may_leave c ⊎ (stands c ≡ Some (durable s))) d0 d1
  leaves_open = opens_so d0 d1 (durable s) (standing.each d0.seen reads) opens

  opening : During d0 d1 (λ c b. (stands c ≡ Some (durable s)) × (b ≡ d0.sent))
  opening = weaker d0 d1 (λ c b. (d0.may_leave c ⊎ (stands c ≡ Some (durable s))) × (b ≡ d0.sent)) (λ c b. (stands c ≡ Some (durable s)) × (b ≡ d0.sent)) (λ c b left. (at_start c left.0, left.1)) leaves_open.during

  -- it was refused
  pub acts_unopened : (a : Answer) → Acts s d0 d1 (refused a)
  acts_unopened a = record {
    now = λ c left. at_start c (leaves_open.left c left);
    during = weaker d0 d1 (λ c b. (stands c ≡ Some (durable s)) × (b ≡ d0.sent)) (λ c b. ((stands c ≡ Some (durable s)) ⊎ Ends s (refused a) c) × (b ≡ d0.sent)) (λ c b left. (inl left.0, left.1)) opening;
  }

  -- a request was carried out behind it
  pub acts_opened : (t : State) (o : Outcome) (d2 : Disk) → t ≡ durable s → d1.sent ≡ d0.sent → Acts t d1 d2 o → Acts t d0 d2 o
  acts_opened t o d2 t_is sent acts = record {
    now = acts.now;
    during = goes_on d0 d1 d2 (λ c b. ((stands c ≡ Some (durable t)) ⊎ Ends t o c) × (b ≡ d0.sent))
        (weaker d0 d1 (λ c b. (stands c ≡ Some (durable s)) × (b ≡ d0.sent)) (λ c b. ((stands c ≡ Some (durable t)) ⊎ Ends t o c) × (b ≡ d0.sent)) (λ c b left. (inl (left.0 ∙ ap (λ (x : State). Some (durable x)) (sym t_is)), left.1)) opening)
        (weaker d1 d2 (λ c b. ((stands c ≡ Some (durable t)) ⊎ Ends t o c) × (b ≡ d1.sent)) (λ c b. ((stands c ≡ Some (durable t)) ⊎ Ends t o c) × (b ≡ d0.sent)) (λ c b left. (left.0, left.1 ∙ sent)) acts.during);
  }

  -- or a session was served
  pub leaves_opened : (text : Answer → List ℕ) (os : List Outcome) (d2 : Disk) → d1.sent ≡ d0.sent → Leaves text (durable s) d1 d2 os → Leaves text (durable s) d0 d2 os
  leaves_opened text os d2 sent leaves = record {
    now = leaves.now;
    during = goes_on d0 d1 d2 (Covered text (durable s) os d0.sent)
        (weaker d0 d1 (λ c b. (stands c ≡ Some (durable s)) × (b ≡ d0.sent)) (Covered text (durable s) os d0.sent) (λ c b left. covered_none text (durable s) os d0.sent c b left.0 left.1) opening)
        (weaker d1 d2 (Covered text (durable s) os d1.sent) (Covered text (durable s) os d0.sent) (λ c b covered. subst (λ (base : List ℕ). Covered text (durable s) os base c b) sent covered) leaves.during);
  }

-- the whole of a run
module _ (text : Answer → List ℕ) (s : State) (d0 d2 : Disk) (os : List Outcome) (standing : Standing d0 s) (reads : d0.may_leave d0.seen) (only : (c : Image) (b : List ℕ) → d0.left_since d0.moment c b → d0.may_leave c × (b ≡ d0.sent)) where
  pub stops_so : Leaves text (durable s) d0 d2 os → StopsFrom text (durable s) d0 d2 os
  stops_so leaves = record {
    found = found_at d0.seen (durable s) (standing.each d0.seen reads);
    now = leaves.now;
    pairs = λ c b left. ⊎_elim (λ was. let at = only c b was in covered_none text (durable s) os d0.sent c b (standing.each c at.0) at.1) (λ covered. covered) (leaves.during.each d0.moment c b (omega arith) left);
  }
