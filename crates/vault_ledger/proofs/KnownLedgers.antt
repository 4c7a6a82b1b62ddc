-- A disk of which a ledger is known, and one whose images all stand for one state.
use Rattle.desk_model.proofs.Common.{◌≡◌, ◌∙◌, ℕ, zero, suc, Bool, true, false, List, [], ◌∷◌, map, refl, sym, ap, subst, arith, Some, Result, Ok, Contains, option_and_then, has, unit_name, State, Stored}
use Rattle.std.specs.Result.{result_ok}
use Rattle.site_types.proofs.OptionLemmas.{guarded}
use Rattle.vault_disk.specs.Disk.{Disk, Image as DiskImage}
use Rattle.vault_disk.specs.Steps.{Rests}
use Rattle.pool_journal.specs.Records.{reading}
use Rattle.pool_journal.specs.declared.segments.NewSegment.{NewSegment}
use Rattle.vault_ledger.specs.Keeping.{KeptLedger, SaysLedger}
use Rattle.vault_ledger.specs.Ledger.{Ledger, are_true, journal_reads, ledger_of, piece_in, pieces_on, pool_file, segment_of, set_over, stands, state_over, state_where}
use Rattle.vault_ledger.specs.Wellformed.{IsLedger}
use Rattle.vault_ledger.proofs.JournalLedgers.{journal_kept}
use Rattle.vault_ledger.proofs.KeptLedgers.{rest_still}
use Rattle.vault_ledger.proofs.LedgerUnits.{none_live, set_there}

-- What a journal at rest says.

pub kept_says : (disk : Disk) (end : ℕ) (l : Ledger) → KeptLedger disk end l → SaysLedger disk end l
kept_says disk end l kept = record { records = kept.records; rest = kept.rest; says = kept.says }

pub says_rests : (old new : Disk) (end : ℕ) (l : Ledger) → Rests old new → SaysLedger old end l → SaysLedger new end l
says_rests old new end l rests says = record {
  records = says.records;
  rest = rest_still old new end says.records (rests.seen 0) (λ c left. says.rest.durable.only c (rests.left c left)) says.rest;
  says = says.says;
}

pub says_reads : (disk : Disk) (end : ℕ) (l : Ledger) → SaysLedger disk end l → journal_reads disk.seen ≡ Ok l
says_reads disk end l says = ap ledger_of says.rest.reads ∙ says.says

-- it says one ledger alone
pub one_ledger : (disk : Disk) (end : ℕ) (l m : Ledger) → SaysLedger disk end l → SaysLedger disk end m → l ≡ m
one_ledger disk end l m says also =
    let same : Ok l ≡ Ok m = sym (says_reads disk end l says) ∙ says_reads disk end m also in
    cc same

-- What images stand for.

-- an image whose journal reads as a ledger has true pools where it stands for a state, and that state is the ledger's
pub stands_over : (c : DiskImage) (l : Ledger) (s : State) → journal_reads c ≡ Ok l → stands c ≡ Some s → (are_true c l l.outline.stored ≡ true) × (state_over c l ≡ s)
stands_over c l s reads is =
    let over : state_where c l ≡ Some s = sym (ap (λ (r : Result Ledger ℕ). option_and_then (state_where c) (result_ok r)) reads) ∙ is in
    let done = guarded (are_true c l l.outline.stored) (Some (state_over c l)) s over in
    let same : state_over c l ≡ s = cc done.1 in
    (done.0, same)

-- sets with the same pieces of each unit
sets_tell : (c d : DiskImage) (l : Ledger) (sets : List Stored) → map (set_over c l) sets ≡ map (set_over d l) sets → (set : Stored) → Contains sets set → pieces_on c l set.unit ≡ pieces_on d l set.unit
sets_tell c d l [] same set (k, lt, is) = absurd (omega arith)
sets_tell c d l (s ∷ sets) same set (zero, lt, is) =
    let first : set_over c l s ≡ set_over d l s = cc same in
    subst (λ (t : Stored). pieces_on c l t.unit ≡ pieces_on d l t.unit) is (ap (λ (t : Stored). t.pieces) first)
sets_tell c d l (s ∷ sets) same set (suc k, lt, is) =
    let rest : map (set_over c l) sets ≡ map (set_over d l) sets = cc same in
    sets_tell c d l sets rest set (k, omega arith, is)

-- images that have the same state of a ledger have the same bytes in its live slots
live_alike : (c d : DiskImage) (l : Ledger) → IsLedger l → state_over c l ≡ state_over d l → (unit : List ℕ) → pieces_on c l unit ≡ pieces_on d l unit
live_alike c d l kept same unit = at (has unit_name unit l.outline.site.book.units) refl
  where
    at : (b : Bool) → has unit_name unit l.outline.site.book.units ≡ b → pieces_on c l unit ≡ pieces_on d l unit
    at true there =
        let set = set_there l kept unit there in
        subst (λ (u : List ℕ). pieces_on c l u ≡ pieces_on d l u) set.2 (sets_tell c d l l.outline.stored (ap (λ (t : State). t.stored) same) set.0 set.1)
    at false absent =
        let none = none_live l kept unit absent in
        ap (λ (known : List NewSegment). map (piece_in (c (pool_file unit l.outline)) (segment_of unit l.outline)) known) none
        ∙ sym (ap (λ (known : List NewSegment). map (piece_in (d (pool_file unit l.outline)) (segment_of unit l.outline)) known) none)

-- where each image that a stop may leave stands for one state, the ledger is kept, and the state is its own
pub standing_kept : (disk : Disk) (end : ℕ) (l : Ledger) (s : State) → disk.may_leave disk.seen → SaysLedger disk end l → ((c : DiskImage) → disk.may_leave c → stands c ≡ Some s) → KeptLedger disk end l × (s ≡ state_over disk.seen l)
standing_kept disk end l s now says standing = (
  record {
    records = says.records;
    rest = says.rest;
    says = says.says;
    is_true = here.0;
    keeps = record { each = λ c left. live_alike c disk.seen l kept (let there = stands_over c l s (left_reads c left) (standing c left) in there.1 ∙ sym here.1) };
  },
  sym here.1,
)
  where
    reads : journal_reads disk.seen ≡ Ok l
    reads = says_reads disk end l says

    kept : IsLedger l
    kept = journal_kept disk.seen l reads

    here : (are_true disk.seen l l.outline.stored ≡ true) × (state_over disk.seen l ≡ s)
    here = stands_over disk.seen l s reads (standing disk.seen now)

    left_reads : (c : DiskImage) → disk.may_leave c → journal_reads c ≡ Ok l
    left_reads c left = ap (λ (bytes : List ℕ). ledger_of (reading bytes)) (says.rest.durable.only c left) ∙ reads
