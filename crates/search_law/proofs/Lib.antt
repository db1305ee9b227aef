pub mod ValueLemmas
mod LoopLemmas
pub mod SumLemmas
mod CountLemmas
mod FewLemmas
