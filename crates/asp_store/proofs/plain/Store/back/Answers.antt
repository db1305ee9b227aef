use Rattle.asp_store.proofs.StoreLemmas.{IsStore-back}
use Rattle.asp_store.proofs.plain.Store.back.Goals as goal

pub invariant_of-self : goal.invariant_of-self
invariant_of-self c = rw c.back.ensures (IsStore-back _ _ _ _ c.self.invariant)
