pub mod Steps
pub mod TypingLemmas
pub mod ListLemmas
pub mod SameLemmas
pub mod KeepLemmas
pub mod FoundLemmas
pub mod NameLemmas
pub mod FitLemmas
pub mod SortLemmas
pub mod FindLemmas
pub mod SizeLemmas
pub mod AskLemmas
pub use Rattle.saved_meaning.proofs.of_direct_meaning as of_direct_meaning
pub use Rattle.saved_meaning.proofs.of_script_laws as of_script_laws
pub use Rattle.saved_meaning.proofs as of_saved_meaning
