pub mod Common
pub mod CountLemmas
pub mod ImageLemmas
pub mod EntryLemmas
pub mod ChangeLemmas
pub mod ClientLemmas
