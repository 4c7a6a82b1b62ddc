-- How faults of the layer below are told.
use Rattle.pool_journal.specs.declared.fault.JournalFault.{JournalFault}
use Rattle.vault_disk.specs.declared.whole.ReadFault.{ReadFault}
use Rattle.vault_disk.specs.declared.whole.ReadFault.TheVariants.{NoMemory, Failed}
use Rattle.pool_journal.specs.declared.fault.JournalFault.TheVariants as to

abbrev pub fault_of_read : ReadFault → JournalFault
fault_of_read NoMemory = to.NoMemory
fault_of_read Failed = to.DiskFault
