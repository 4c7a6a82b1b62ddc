-- A sync of a pool's file keeps a known ledger, and the pieces of more live slots on its unit.
use Rattle.desk_model.proofs.Common.{◌≡◌, ◌∙◌, ℕ, Bool, true, false, List, map, sym, refl, ap, subst, bytes_eq, text_is}
use Rattle.std.proofs.Common.{inl, ⊎_elim}
use Rattle.vault_disk.specs.Disk.{Disk, During, Image as DiskImage, Now}
use Rattle.vault_disk.specs.Steps.{LookedAround, Rests}
use Rattle.vault_disk.proofs.Moments.{goes_on, weaker}
use Rattle.pool_journal.specs.declared.entry.WholeImage.{WholeImage}
use Rattle.pool_journal.specs.declared.segments.Segments.{Segments}
use Rattle.desk_model.specs.State.{State}
use Rattle.vault_ledger.specs.Fitting.{whole_unit}
use Rattle.vault_ledger.specs.Keeping.{Between, KeepsLive, KeptLedger, StandsFor}
use Rattle.vault_ledger.specs.Ledger.{Ledger, live_on, piece_in, pieces_on, pool_file, segment_of, state_over, with_backup}
use Rattle.vault_ledger.proofs.SealedStates.{live_same}
use Rattle.vault_ledger.proofs.KeptLedgers.{kept_stands}

-- where a stop leaves a pool's file as it is read, it leaves the pieces of more live slots on its unit, if those of the other units are the same
pub synced_live : (old new : Disk) (l m : Ledger) (unit : List ℕ) → Rests old new → ((c : DiskImage) → new.may_leave c → c (pool_file unit m.outline) ≡ old.seen (pool_file unit m.outline)) → KeepsLive old l
    → ((c : DiskImage) (other : List ℕ) → bytes_eq unit other ≡ false → pieces_on c m other ≡ pieces_on c l other) → KeepsLive new m
synced_live old new l m unit rests durable keeps others = record { each = λ c left other. at c left other (bytes_eq unit other) refl }
  where
    seen : new.seen ≡ old.seen
    seen = λ i f. rests.seen f i

    own : (c : DiskImage) → new.may_leave c → pieces_on c m unit ≡ pieces_on new.seen m unit
    own c left = ap (λ (bytes : List ℕ). map (piece_in bytes (segment_of unit m.outline)) (live_on unit m.live)) (durable c left ∙ sym (rests.seen (pool_file unit m.outline)))

    at : (c : DiskImage) → new.may_leave c → (other : List ℕ) (b : Bool) → bytes_eq unit other ≡ b → pieces_on c m other ≡ pieces_on new.seen m other
    at c left other true same = subst (λ (name : List ℕ). pieces_on c m name ≡ pieces_on new.seen m name) (text_is unit other same) (own c left)
    at c left other false differs = others c other differs ∙ keeps.each c (rests.left c left) other ∙ sym (others old.seen other differs) ∙ ap (λ (d : DiskImage). pieces_on d m other) (sym seen)

-- so it keeps those of the ledger with a backup on that unit
pub synced_backup : (old new : Disk) (l : Ledger) (w : WholeImage) (segments : Segments) → Rests old new → ((c : DiskImage) → new.may_leave c → c (pool_file (whole_unit l.outline w) l.outline) ≡ old.seen (pool_file (whole_unit l.outline w) l.outline)) → KeepsLive old l → KeepsLive new (with_backup w segments l)
synced_backup old new l w segments rests durable keeps = synced_live old new l (with_backup w segments l) unit rests durable keeps (λ c other differs.
    ap (map (piece_in (c (pool_file other l.outline)) (segment_of other l.outline)))
    (live_same unit other l.live segments.added differs))
  where
    unit : List ℕ
    unit = whole_unit l.outline w

-- From a disk whose ledger is known, a stop leaves the ledger's state while nothing is done, ..

module _ (old new : Disk) (end : ℕ) (l : Ledger) (kept : KeptLedger old end l) where
  abbrev s : State
  s = state_over old.seen l

  -- .. in a look round, ..
  pub looked_between : LookedAround old new → Between s s old new
  looked_between looked = record {
    left = λ c left. inl (kept_stands old end l kept c (looked.rests.left c left));
    during = weaker old new (Now old) (λ c b. StandsFor s s c × (b ≡ old.sent)) (λ c b left. (inl (kept_stands old end l kept c left.0), left.1)) looked.during;
  }

  -- .. and in a call that leaves no more than before and sends nothing
  pub rested_between : Rests old new → During old new (Now new) → new.sent ≡ old.sent → Between s s old new
  rested_between rests during sent = record {
    left = λ c left. inl (kept_stands old end l kept c (rests.left c left));
    during = weaker old new (Now new) (λ c b. StandsFor s s c × (b ≡ old.sent)) (λ c b left. (inl (kept_stands old end l kept c (rests.left c left.0)), left.1 ∙ sent)) during;
  }

-- one step after another, of which the first leaves the state as it was
pub between_on : (s t : State) (a b c : Disk) → b.sent ≡ a.sent → Between s s a b → Between s t b c → Between s t a c
between_on s t a b c sent first second = record {
  left = second.left;
  during = goes_on a b c (λ i bytes. StandsFor s t i × (bytes ≡ a.sent))
      (weaker a b (λ i bytes. StandsFor s s i × (bytes ≡ a.sent)) (λ i bytes. StandsFor s t i × (bytes ≡ a.sent)) (λ i bytes left. (inl (⊎_elim (λ is. is) (λ is. is) left.0), left.1)) first.during)
      (weaker b c (λ i bytes. StandsFor s t i × (bytes ≡ b.sent)) (λ i bytes. StandsFor s t i × (bytes ≡ a.sent)) (λ i bytes left. (left.0, left.1 ∙ sent)) second.during);
}
