pub mod Common
pub mod TreeLemmas
pub mod ListLemmas
pub mod LifecycleLemmas
pub mod SortingLemmas
pub mod DueLemmas
