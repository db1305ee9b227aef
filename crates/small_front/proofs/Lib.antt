mod NameLemmas
mod FileLemmas
mod FormLemmas
