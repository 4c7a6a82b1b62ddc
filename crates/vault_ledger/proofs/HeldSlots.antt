-- How many slots a pool holds that holds a ledger's live slots, and which pieces it lacks.
use Rattle.desk_model.proofs.Common.{◌≡◌, ◌≢◌, ◌∙◌, ℕ, zero, suc, Bool, true, false, cond, if◌then◌else◌, ◌||◌, List, [], ◌∷◌, ◌++◌, length, take, drop, map, refl, sym, ap, subst, arith, Option, Some, None, Contains, bytes_eq, bytes_eq-Decides, text_is, false≢true}
use Rattle.std.proofs.Common.{◌*◌, ⊎_elim}
use Rattle.std.specs.Prelude.{is_some, slice_set}
use Rattle.std.specs.List.{count_by, list_any}
use Rattle.std.proofs.lemmas.Bool.{cases_eq, ne_eqb}
use Rattle.std.proofs.lemmas.List.Folds.{Any-from_list_any, list_any-append, list_any_at}
use Rattle.std.proofs.lemmas.List.Sums.{sum_by-cons}
use Rattle.vault_disk.specs.Disk.{Image as DiskImage}
use Rattle.pool_journal.specs.declared.segments.NewSegment.{NewSegment}
use Rattle.segment_pool.specs.Pieces as cut
use Rattle.segment_pool.specs.Placing.{bytes_in}
use Rattle.segment_pool.specs.Slots.{PoolState, at_slot, held, number_held, one_if_held}
use Rattle.segment_pool.specs.declared.slot.Slot.{Slot}
use Rattle.segment_pool.proofs.Changes.{set_becomes, within_held}
use Rattle.copy_fragments.specs.Placings.{held_pieces, lacking, new_pieces, times}
use Rattle.copy_fragments.proofs.Lacking.{In, any_in, found_in, from_held, in_held}
use Rattle.desk_model.specs.Pieces.{blocks, pieces}
use Rattle.desk_model.proofs.Passing.{mapped_in}
use Rattle.vault_ledger.specs.Ledger.{has_slot, piece_in}
use Rattle.vault_ledger.specs.Pools.{HoldsLive, live_slot}
use Rattle.vault_ledger.specs.Wellformed.{AreSlots}
use Rattle.vault_ledger.proofs.KeptBackups.{in_mapped}
use Rattle.vault_ledger.proofs.LiveSlots.{held_segment, slot_there}

-- How many are held.

none_held : (table : List (Option Slot)) → ((slot : ℕ) → at_slot table slot ≡ None) → count_by is_some table ≡ 0
none_held [] none = refl
none_held (x ∷ table) none = omega (arith, sum_by-cons (λ (o : Option Slot). cond (is_some o) 1 0) x table, ap one_if_held (none 0), none_held table (λ slot. none (suc slot)))

-- each of some segments has a slot of its own that is held, and no others are
count_held : (known : List NewSegment) → AreSlots known → (pool : PoolState) → ((s : NewSegment) → Contains known s → (what : Slot) × (held pool s.slot ≡ Some what)) → ((slot : ℕ) → has_slot slot known ≡ false → held pool slot ≡ None) → number_held pool ≡ length known
count_held [] apart pool here others = none_held pool.table (λ slot. others slot refl)
count_held (s ∷ known) apart pool here others =
    let own = here s (zero, omega arith, refl) in
    let freed = set_becomes pool s.slot None (within_held pool.table s.slot own.0 own.1) in
    let others_now : (slot : ℕ) → slot ≢ s.slot → held freed_pool slot ≡ held pool slot = freed.elsewhere in
    let rest = count_held known apart.1 freed_pool
    (λ t among.
    let was = here t (suc among.0, omega (arith, among.1), among.2) in
    (was.0, others_now t.slot (λ same. false≢true (sym apart.0 ∙ ap (λ (k : ℕ). has_slot k known) (sym same) ∙ slot_there known t among)) ∙ was.1))
    (λ slot none. ⊎_elim
    (λ same. ap (held freed_pool) same ∙ freed.here)
    (λ ne. others_now slot ne ∙ others slot ((λ i. ne_eqb s.slot slot (λ same. ne (sym same)) i || none i)))
    (cases_eq slot s.slot)) in
    omega (arith, rest, freed.number, ap one_if_held own.1)
  where
    freed_pool : PoolState
    freed_pool = record { file = pool.file; size = pool.size; slots = pool.slots; table = slice_set pool.table s.slot None }

-- Which pieces are lacking.

pub blocks_one : (n size : ℕ) (bytes : List ℕ) → cut.blocks n size bytes ≡ blocks n size bytes
blocks_one zero size bytes = refl
blocks_one (suc n) size [] = refl
blocks_one (suc n) size (b ∷ bytes) = ap (λ (l : List (List ℕ)). take size (b ∷ bytes) ∷ l) (blocks_one n size (drop size (b ∷ bytes)))

-- sets with the same pieces lack the same
lacking_alike : (a b more : List (List ℕ)) → ((p : List ℕ) → list_any (λ q. bytes_eq q p) a ≡ list_any (λ q. bytes_eq q p) b) → lacking a more ≡ lacking b more
lacking_alike a b [] same = refl
lacking_alike a b (piece ∷ more) same =
    ap (λ (d : Bool). if d then lacking a more else piece ∷ lacking (a ++ piece ∷ []) more) (same piece)
    ∙ at (list_any (λ q. bytes_eq q piece) b) (lacking_alike a b more same) (lacking_alike (a ++ piece ∷ []) (b ++ piece ∷ []) more (λ p.
    list_any-append (λ q. bytes_eq q p) a (piece ∷ []) ∙ ap (λ (d : Bool). d || list_any (λ q. bytes_eq q p) (piece ∷ [])) (same p) ∙ sym (list_any-append (λ q. bytes_eq q p) b (piece ∷ []))))
  where
    at : (d : Bool) → lacking a more ≡ lacking b more → lacking (a ++ piece ∷ []) more ≡ lacking (b ++ piece ∷ []) more → (if d then lacking a more else piece ∷ lacking (a ++ piece ∷ []) more) ≡ (if d then lacking b more else piece ∷ lacking (b ++ piece ∷ []) more)
    at true had new = had
    at false had new = ap (λ (l : List (List ℕ)). piece ∷ l) new

both_or_none : (b c : Bool) → (b ≡ true → c ≡ true) → (c ≡ true → b ≡ true) → b ≡ c
both_or_none true c to back = sym (to refl)
both_or_none false true to back = back refl
both_or_none false false to back = refl

module _ (known : List NewSegment) (apart : AreSlots known) (named : List ℕ) (pool : PoolState) (holds : HoldsLive known named pool) where
  -- as many slots are held as there are live segments
  pub held_count : number_held pool ≡ length known
  held_count = count_held known apart pool (λ s among. (live_slot s (times s.slot named), holds.here s among)) holds.others

  module _ (image : DiskImage) (file : List ℕ) (file_is : image pool.file ≡ file) (size : ℕ) (size_is : pool.size ≡ size) where
    place : (s : NewSegment) → bytes_in pool image s.slot s.length ≡ piece_in file size s
    place s = λ i. take s.length (drop (s.slot * size_is i) (file_is i))

    to_known : (p : List ℕ) → In p (held_pieces pool image) → list_any (λ q. bytes_eq q p) (map (piece_in file size) known) ≡ true
    to_known p there =
        let found = from_held pool image p there in
        let one = held_segment known named pool holds found.0 found.1 found.2 in
        let piece_is : piece_in file size one.0 ≡ p = sym (place one.0) ∙ (λ i. bytes_in pool image (one.2 i) ((sym one.3 i).length)) ∙ found.3 in
        let among = mapped_in (piece_in file size) known one.0 one.1 in
        list_any_at (λ q. bytes_eq q p) (map (piece_in file size) known) among.0 (piece_in file size one.0) among.1 (ap (λ (q : List ℕ). bytes_eq q p) (among.2 ∙ piece_is) ∙ (bytes_eq-Decides p p).1 refl)

    to_held : (p : List ℕ) → list_any (λ q. bytes_eq q p) (map (piece_in file size) known) ≡ true → In p (held_pieces pool image)
    to_held p any =
        let one = Any-from_list_any (λ q. bytes_eq q p) (map (piece_in file size) known) any in
        let s = in_mapped (piece_in file size) known one.1 (one.0, one.2, one.3) in
        subst (λ (q : List ℕ). In q (held_pieces pool image)) (place s.0 ∙ s.2 ∙ text_is one.1 p one.4) (in_held pool image s.0.slot (live_slot s.0 (times s.0.slot named)) (holds.here s.0 s.1))

    -- the pool lacks those pieces that no live segment has
    pub new_alike : (bytes : List ℕ) → new_pieces pool image bytes ≡ lacking (map (piece_in file size) known) (pieces size bytes)
    new_alike bytes =
        lacking_alike (held_pieces pool image) (map (piece_in file size) known) (cut.pieces pool.size bytes) (λ p. both_or_none _ _ (λ any. to_known p (found_in p (held_pieces pool image) any)) (λ any. any_in p (held_pieces pool image) (to_held p any)))
        ∙ (λ i. lacking (map (piece_in file size) known) (cut.pieces (size_is i) bytes))
        ∙ ap (lacking (map (piece_in file size) known)) (blocks_one (length bytes) size bytes)
