-- What a step over the index of a ledger is to a desk.
use Rattle.std.proofs.Common.{◌≡◌, ◌≢◌, ◌∙◌, ℕ, Bool, List, Result, Ok, Err, sym, ap, subst}
use Rattle.site_types.specs.declared.answer.Answer.{Answer}
use Rattle.site_types.specs.declared.answer.Answer.TheVariants.{DiskFault}
use Rattle.site_types.specs.declared.request.Request.{Request}
use Rattle.vault_disk.specs.Disk.{Disk, Image as DiskImage, IsSame}
use Rattle.vault_disk.specs.Steps.{Rests}
use Rattle.desk_model.specs.State.{State}
use Rattle.vault_ledger.specs.Keeping.{KeptLedger, SaysLedger}
use Rattle.vault_ledger.specs.Ledger.{Ledger, journal_reads, state_over}
use Rattle.vault_ledger.proofs.KnownLedgers.{says_reads, says_rests}
use Rattle.desk_index.specs.Answers.{Answered, Moved, reached}
use Rattle.desk_index.specs.Index.{IsIndexOf}
use Rattle.desk_index.specs.declared.index.Index.{Index}
use Rattle.desk_steps.specs.Steps.{StepsFrom, StepsOver}
use Rattle.desk_steps.specs.Asked.{answer_given}
use Rattle.site_desk.specs.Desk.{DeskValue, Known, desk_state}
use Rattle.site_desk.specs.Stands.{Between, Standing, state_by, state_in}
use Rattle.site_desk.proofs.Standings.{durable_between, kept_standing, kept_state, standing_known, state_is}

-- a fault of the disk says nothing of the state
moved_unless : (s t : State) (request : Request) (payload : List ℕ) (moment : ℕ) (answer : Answer) → (answer ≢ DiskFault → Moved s request payload moment answer t) → Moved s request payload moment answer t
moved_unless s t request payload moment DiskFault moved = tt
moved_unless s t request payload moment answer moved = moved (λ same. absurd (cc same))

-- what a step promises of a vault that stands for the desk's state
pub record Steps (s : State) (request : Request) (payload : List ℕ) (moment : ℕ) (answer : Answer) (old new : Disk) (t : State) : Type 0 where
  pub answers : Answered s request payload moment answer
  pub moves : Moved s request payload moment answer t
  pub standing : answer ≢ DiskFault → Standing new t
  pub stops : Between s (reached s request payload moment answer) old new

module _ (request : Request) (payload : List ℕ) (moment : ℕ) (answer : Answer) (old new : Disk) (end end' : ℕ) (before after : Index) (known : Known old end before)
    (steps : (l : Ledger) → IsIndexOf l before → StepsOver l request payload moment answer old new end end' after) where
  -- unless the disk failed the index is that of a ledger, which the journal says
  pub known_after : IsSame old new → answer ≢ DiskFault → Known new end' after
  known_after same other =
      let on = (steps known.is.0 known.is.1).goes_on other in
      record {
        is = (on.ledger, on.is);
        says = λ told'.
            let told = same.told told' in
            let said = known.says told in
            let next = (steps said.0 said.1).goes_on other in
            (next.ledger, next.is, next.says told said.2);
      }

  module _ (told : old.tells) (now : old.may_leave old.seen) (standing : Standing old (desk_state old)) where
    abbrev l : Ledger
    l = (known.says told).0

    says : SaysLedger old end l
    says = (known.says told).2

    kept : KeptLedger old end l
    kept = standing_known old end l now says standing

    -- the desk's state is the ledger's
    here : state_over old.seen l ≡ desk_state old
    here = sym (state_is old end l says)

    over : StepsOver l request payload moment answer old new end end' after
    over = steps l (known.says told).1

    from : StepsFrom (desk_state old) request payload moment answer old new
    from = subst (λ (s : State). StepsFrom s request payload moment answer old new) here (over.from told kept)

    next : answer ≢ DiskFault → Standing new (desk_state new) × Moved (desk_state old) request payload moment answer (desk_state new)
    next other =
        let on = over.goes_on other in
        let after_it = on.kept told kept in
        let there = sym (kept_state new end' on.ledger after_it.0) in (
          subst (λ (t : State). Standing new t) there (kept_standing new end' on.ledger after_it.0),
          subst (λ (s : State). Moved s request payload moment answer (desk_state new)) here (subst (λ (t : State). Moved (state_over old.seen l) request payload moment answer t) there after_it.1),
        )

    pub steps_so : Steps (desk_state old) request payload moment answer old new (desk_state new)
    steps_so = record {
      answers = from.answers;
      moves = moved_unless (desk_state old) (desk_state new) request payload moment answer (λ other. (next other).1);
      standing = λ other. (next other).0;
      stops = durable_between (desk_state old) (reached (desk_state old) request payload moment answer) old new from.stops;
    }

-- The same of a desk's value, by what is inside it.

-- what a desk over this vault is seen as
abbrev pub value_of : {V : Type 0} → (V → Disk) → V → Index → Bool → DeskValue V
value_of disk vault index stopped = record { state = desk_state (disk vault); site = index.site; catalogue = index.catalogue; stopped = stopped; vault = vault }

pub value_steps : {V : Type 0} (disk : V → Disk) (vault : V) (end : ℕ) (before : Index) (stopped : Bool) (value : DeskValue V) → value_of disk vault before stopped ≡ value → ((disk vault).tells → (disk vault).may_leave (disk vault).seen) → Known (disk vault) end before
    → (request : Request) (payload : List ℕ) (moment : ℕ) (answer result : Answer) (new : Disk) (end' : ℕ) (after : Index) → ((l : Ledger) → IsIndexOf l before → StepsOver l request payload moment answer (disk vault) new end end' after) → answer ≡ result
    → (disk value.vault).tells → Standing (disk value.vault) value.state → Steps value.state request payload moment result (disk value.vault) new (desk_state new)
value_steps {V} disk vault end before stopped value is counts known request payload moment answer result new end' after steps same =
    subst (λ (d : DeskValue V). (disk d.vault).tells → Standing (disk d.vault) d.state → Steps d.state request payload moment result (disk d.vault) new (desk_state new)) is
    (λ told standing. subst (λ (a : Answer). Steps (desk_state (disk vault)) request payload moment a (disk vault) new (desk_state new)) same (steps_so request payload moment answer (disk vault) new end end' before after known steps told (counts told) standing))

-- What is known of the ledger that the journal reads as.

-- a fault of the disk gives nothing back
pub fault_gives_none : (given : Result (List ℕ) ℕ) → DiskFault ≢ answer_given given
fault_gives_none (Ok body) is = absurd (cc is)
fault_gives_none (Err offset) is = absurd (cc is)

index_of : (disk : Disk) (end : ℕ) (index : Index) → Known disk end index → disk.tells → (l : Ledger) → journal_reads disk.seen ≡ Ok l → IsIndexOf l index
index_of disk end index known told l reads =
    let said = known.says told in
    let both : Ok said.0 ≡ Ok l = sym (says_reads disk end said.0 said.2) ∙ reads in
    let same : said.0 ≡ l = cc both in
    subst (λ (m : Ledger). IsIndexOf m index) same said.1

pub value_reads : {V : Type 0} (disk : V → Disk) (vault : V) (end : ℕ) (before : Index) (stopped : Bool) (value : DeskValue V) → value_of disk vault before stopped ≡ value → Known (disk vault) end before
    → (P : Disk → Type 0) (l : Ledger) → (IsIndexOf l before → (disk vault).tells → P (disk vault)) → (disk value.vault).tells → journal_reads (disk value.vault).seen ≡ Ok l → P (disk value.vault)
value_reads {V} disk vault end before stopped value is known P l so =
    subst (λ (d : DeskValue V). (disk d.vault).tells → journal_reads (disk d.vault).seen ≡ Ok l → P (disk d.vault)) is
    (λ told reads. so (index_of (disk vault) end before known told l reads) told)

-- A send.

-- what reads the same has the same state
pub state_rests : (old new : Disk) → Rests old new → desk_state new ≡ desk_state old
state_rests old new rests =
    let seen : new.seen ≡ old.seen = λ i f. rests.seen f i in
    ap (λ (c : DiskImage). state_in (state_by c (journal_reads c))) seen

pub known_rests : (old new : Disk) (end : ℕ) (index : Index) → (new.tells → old.tells) → (old.tells → Rests old new) → Known old end index → Known new end index
known_rests old new end index told rests known = record {
  is = known.is;
  says = λ told'.
      let said = known.says (told told') in
      (said.0, said.1, says_rests old new end said.0 (rests (told told')) said.2);
}
