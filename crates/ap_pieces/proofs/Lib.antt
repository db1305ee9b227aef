mod TermLemmas
mod ChainLemmas
mod PieceLemmas
mod FormulaLemmas
