pub mod Common
mod FileRows
mod Rows
pub mod ShortLines
pub mod FewRequests
pub mod ClassLemmas
pub mod NamedLemmas
pub mod PieceLemmas
pub mod StoredLemmas
pub mod RuleLemmas
pub mod Passing
pub mod Staying
pub mod Asking
pub mod SiteSound
pub mod ImageLists
pub mod SealSound
pub mod Restores
pub mod SoundSteps
