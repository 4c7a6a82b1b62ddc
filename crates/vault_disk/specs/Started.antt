-- A machine in memory, and how one begins.
use Rattle.std.specs.Prelude.{◌≡◌, ℕ, List, []}
use Rattle.vault_disk.specs.Disk.{Disk, Image}
use Rattle.vault_disk.specs.Log.{Log}

-- a machine in memory: its recording, the numbers of the calls that are to fail, and its counts
pub record Memory : Type 0 where
  pub log : Log
  pub fails : List ℕ
  pub faults : ℕ
  pub send_faults : ℕ

-- a new machine that tells: its files read so, durably, nothing was sent, and nothing has failed
pub record Begins (image : Image) (disk : Disk) : Type 0 where
  pub tells : disk.tells
  pub place : disk.place ≡ []
  pub seen : (f : ℕ) → disk.seen f ≡ image f
  pub leaves : (c : Image) → ((f : ℕ) → c f ≡ image f) → disk.may_leave c
  pub left : (c : Image) → disk.may_leave c → (f : ℕ) → c f ≡ image f
  pub sent : disk.sent ≡ []
  pub faults : disk.faults ≡ 0
  pub send_faults : disk.send_faults ≡ 0
