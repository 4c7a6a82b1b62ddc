-- What the calls of a vault do, and what a stop in them may leave.
use Rattle.std.specs.Prelude.{◌≡◌, ◌≢◌, ◌⊎◌, ℕ, ◌+◌, ◌-◌, ◌^◌, ◌<◌, ◌≤◌, min, max, List, [], ◌++◌, length, take, drop, replicate, Result, OnErr, OnOk}
use Rattle.vault_disk.specs.Disk.{Image, Disk, During, Now}

-- the bytes after a write; a gap before them is filled by zeros
abbrev pub written : List ℕ → ℕ → List ℕ → List ℕ
written old at bytes = take at old ++ replicate (at - length old) 0 ++ bytes ++ drop (at + length bytes) old

-- the bytes after a cut or an extension by zeros
abbrev pub cut_to : List ℕ → ℕ → List ℕ
cut_to old n = take n old ++ replicate (n - length old) 0

-- a write of n bytes that a stop cuts short: any bytes in the range and past the old end, the same elsewhere
pub record Torn (at n : ℕ) (old new : List ℕ) : Type 0 where
  pub before : take (min at (length old)) new ≡ take at old
  pub after : drop (at + n) new ≡ drop (at + n) old
  pub no_shorter : length old ≤ length new
  pub no_longer : length new ≤ max (length old) (at + n)

-- a cut that a stop cuts short: some length between
pub record Shortened (n : ℕ) (old new : List ℕ) : Type 0 where
  pub no_shorter : min n (length old) ≤ length new
  pub no_longer : length new ≤ max n (length old)
  pub front : take (length old) new ≡ take (length new) old

-- one file changes so, and no other does
pub record Changes (file : ℕ) (R : List ℕ → List ℕ → Type 0) (old new : Image) : Type 0 where
  pub inside : R (old file) (new file)
  pub others : (g : ℕ) → g ≢ file → new g ≡ old g

-- each image that a stop may leave now is one from before after this step
abbrev pub Follows : (Image → Image → Type 0) → (Image → Type 0) → (Image → Type 0) → Type 0
Follows step old new = (c : Image) → new c → (d : Image) × old d × step d c

-- Time goes on: a pair since t was one before, or is what a stop may leave now.
pub record Elapses (old new : Disk) : Type 0 where
  pub during : During old new (Now new)
  pub keeps : (t : ℕ) (c : Image) (b : List ℕ) → t ≤ old.moment → old.left_since t c b → new.left_since t c b

-- reads give the same, and a stop leaves nothing new
pub record Rests (old new : Disk) : Type 0 where
  pub seen : (f : ℕ) → new.seen f ≡ old.seen f
  pub left : (c : Image) → new.may_leave c → old.may_leave c

-- some bytes of the file were read, none only at or past its end or for no room
pub record Reads (bytes : List ℕ) (at n : ℕ) (into : List ℕ) : Type 0 where
  pub within : n ≤ length (drop at bytes)
  pub bytes_are : take n into ≡ take n (drop at bytes)
  pub end : n ≡ 0 → (length into ≡ 0) ⊎ (length bytes ≤ at)

-- all bytes of the file from this offset on were read, as far as there is room for them
pub record ReadsFully (bytes : List ℕ) (at n : ℕ) (into : List ℕ) : Type 0 where
  pub count : n ≡ min (length into) (length (drop at bytes))
  pub bytes_are : take n into ≡ take n (drop at bytes)

-- a count of faults rises where a call fails, unless it stands at the end of its type
abbrev pub Rose : ℕ → ℕ → Type 0
Rose before now = min (before + 1) (2 ^ 64 - 1) ≤ now

pub record HasCause {T E : Type 0} (before now : ℕ) (result : Result T E) : Type 0 where
  pub later : before ≤ now
  pub failed : OnErr result (Rose before now)

-- a write that was done
pub record Wrote {T E : Type 0} (file at : ℕ) (bytes : List ℕ) (old new : Disk) (result : Result T E) : Type 0 where
  pub short : OnOk result (at + length bytes < 2 ^ 63)
  pub seen : OnOk result (Changes file (λ o n. n ≡ written o at bytes) old.seen new.seen)
  pub left : Follows (Changes file (Torn at (length bytes))) old.may_leave new.may_leave
  pub time : Elapses old new

pub record WasCut {T E : Type 0} (file n : ℕ) (old new : Disk) (result : Result T E) : Type 0 where
  pub short : OnOk result (n < 2 ^ 63)
  pub seen : OnOk result (Changes file (λ o m. m ≡ cut_to o n) old.seen new.seen)
  pub left : Follows (Changes file (Shortened n)) old.may_leave new.may_leave
  pub time : Elapses old new

-- after a sync that succeeds a stop leaves of the file what a read gives
pub record Synced {T E : Type 0} (file : ℕ) (old new : Disk) (result : Result T E) : Type 0 where
  pub durable : OnOk result ((c : Image) → new.may_leave c → c file ≡ old.seen file)
  pub rests : Rests old new
  pub time : Elapses old new

pub record Looked (old new : Disk) : Type 0 where
  pub rests : Rests old new
  pub time : Elapses old new

-- the bytes sent when a send is cut short
pub record SentPart (old bytes new : List ℕ) : Type 0 where
  pub part : List ℕ
  pub rest : List ℕ
  pub split : bytes ≡ part ++ rest
  pub is : new ≡ old ++ part

-- what a send changes
pub record Sends {T E : Type 0} (bytes : List ℕ) (old new : Disk) (result : Result T E) : Type 0 where
  pub sent : OnOk result (new.sent ≡ old.sent ++ bytes)
  pub part : SentPart old.sent bytes new.sent
  pub rests : Rests old new
  pub during : During old new (λ c b. old.may_leave c × SentPart old.sent bytes b)
  pub keeps : (t : ℕ) (c : Image) (b : List ℕ) → t ≤ old.moment → old.left_since t c b → new.left_since t c b

-- the same object, after a send
pub record IsSameBut (old new : Disk) : Type 0 where
  pub place : new.place ≡ old.place
  pub tells : old.tells → new.tells
  pub told : new.tells → old.tells
  pub faults : new.faults ≡ old.faults
  pub send_faults : old.send_faults ≤ new.send_faults

-- a file reads so, and a stop leaves that of it
pub record IsDurable (file : ℕ) (disk : Disk) : Type 0 where
  pub only : (c : Image) → disk.may_leave c → c file ≡ disk.seen file

-- what a stop in a write of n bytes leaves
abbrev pub Tearing : ℕ → ℕ → ℕ → Disk → Image → List ℕ → Type 0
Tearing file at n old c b = ((d : Image) × old.may_leave d × Changes file (Torn at n) d c) × (b ≡ old.sent)

-- a write and a sync
pub record WroteDurably {T E : Type 0} (file at : ℕ) (bytes : List ℕ) (old new : Disk) (result : Result T E) : Type 0 where
  pub short : OnOk result (at + length bytes < 2 ^ 63)
  pub seen : OnOk result (Changes file (λ o n. n ≡ written o at bytes) old.seen new.seen)
  pub durable : OnOk result (IsDurable file new)
  pub left : Follows (Changes file (Torn at (length bytes))) old.may_leave new.may_leave
  pub during : During old new (Tearing file at (length bytes) old)

-- a cut and a sync
pub record CutDurably {T E : Type 0} (file length : ℕ) (old new : Disk) (result : Result T E) : Type 0 where
  pub seen : OnOk result (Changes file (λ o n. n ≡ cut_to o length) old.seen new.seen)
  pub durable : OnOk result (IsDurable file new)
  pub left : Follows (Changes file (Shortened length)) old.may_leave new.may_leave
  pub during : During old new (λ c b. ((d : Image) × old.may_leave d × Changes file (Shortened length) d c) × (b ≡ old.sent))

-- reads and questions alone were made
pub record LookedAround (old new : Disk) : Type 0 where
  pub rests : Rests old new
  pub during : During old new (Now old)

-- a disk that tells nothing
abbrev pub silent : ℕ → ℕ → Disk
silent faults send_faults = record {
  place = [];
  tells = ⊥;
  seen = λ f. [];
  may_leave = λ c. ⊥;
  moment = 0;
  left_since = λ t c b. ⊥;
  sent = [];
  faults = faults;
  send_faults = send_faults;
}
