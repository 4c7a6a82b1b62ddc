-- Counts of faults that rose.
use Rattle.std.proofs.Common.{◌≡◌, ℕ, ◌≤◌, refl, arith}
use Rattle.site_types.specs.declared.answer.Answer.{Answer}
use Rattle.site_types.specs.declared.answer.Answer.TheVariants.{DiskFault, ReadFault, ClockFault}
use Rattle.vault_disk.specs.Steps.{Rose}
use Rattle.bp_cli.specs.Runs.{HasRisen}

pub rose_since : (a b c : ℕ) → a ≤ b → Rose b c → Rose a c
rose_since a b c earlier rose = omega (arith, earlier, rose)

-- a fault told of later has the same cause since an earlier moment
pub risen_since : (a : Answer) (d0 d d' i0 i i' t0 t t' : ℕ) → d0 ≤ d → i0 ≤ i → t0 ≤ t → HasRisen d d' i i' t t' a → HasRisen d0 d' i0 i' t0 t' a
risen_since DiskFault d0 d d' i0 i i' t0 t t' disk input ticks rose = rose_since d0 d d' disk rose
risen_since ReadFault d0 d d' i0 i i' t0 t t' disk input ticks rose = rose_since i0 i i' input rose
risen_since ClockFault d0 d d' i0 i i' t0 t t' disk input ticks rose = rose_since t0 t t' ticks rose
risen_since _ d0 d d' i0 i i' t0 t t' disk input ticks rose = tt

pub risen : (a : Answer) (d d' i i' t t' : ℕ) → (a ≡ DiskFault → Rose d d') → (a ≡ ReadFault → Rose i i') → (a ≡ ClockFault → Rose t t') → HasRisen d d' i i' t t' a
risen DiskFault d d' i i' t t' disk read clock = disk refl
risen ReadFault d d' i i' t t' disk read clock = read refl
risen ClockFault d d' i i' t t' disk read clock = clock refl
risen _ d d' i i' t t' disk read clock = tt
