pub mod Pieces
pub mod CanonicalTerms
pub mod CanonicalRules
pub mod CanonicalPreferences
pub mod Canonical
pub mod Separators
pub mod CanonicalFormulas
pub mod Spellings
