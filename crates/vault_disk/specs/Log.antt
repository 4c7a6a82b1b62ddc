-- What a machine in memory keeps: the files that it began with, and the calls since then, the newest last.
use Rattle.std.specs.Prelude.{ℕ, List, reverse, take}
use Rattle.vault_disk.specs.Disk.{Image}
use Rattle.vault_disk.specs.Memory.{content, sent_of, Leaves}
use Rattle.vault_disk.specs.Stored.{bytes_of}
use Rattle.vault_disk.specs.Stops.{stop_image}
use Rattle.vault_disk.specs.declared.call.Call.{Call}
use Rattle.vault_disk.specs.declared.stop.Stop.{Stop}

pub record Log : Type 0 where
  pub first : List (ℕ × List ℕ)
  pub calls : List Call

-- what its files read as
abbrev pub reads : Log → Image
reads log = content (bytes_of log.first) (reverse log.calls)

-- what it has sent
abbrev pub says : Log → List ℕ
says log = sent_of (reverse log.calls)

-- the bytes sent in the first so many calls
abbrev pub said_after : Log → ℕ → List ℕ
said_after log n = sent_of (reverse (take n log.calls))

-- a stop after so many calls may leave this image
abbrev pub MayLeave : Log → ℕ → Image → Type 0
MayLeave log n c = Leaves (bytes_of log.first) (reverse (take n log.calls)) c

-- the image that a stop of this kind leaves after so many calls
abbrev pub left_by : Stop → Log → ℕ → Image
left_by stop log n = stop_image stop (bytes_of log.first) (reverse (take n log.calls))
