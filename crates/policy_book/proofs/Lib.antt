pub mod Common
pub mod BookLemmas
pub mod RefusalLemmas
pub mod LineLemmas
pub mod ClientLemmas
pub mod TakenBack
pub mod RequestLemmas
