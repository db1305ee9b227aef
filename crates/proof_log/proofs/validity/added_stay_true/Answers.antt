use Rattle.proof_log.proofs.validity.added_stay_true.Goals as goal

pub returns : goal.returns
returns c = λ s t h e f m id d at. h f (c.models_of_beginnings.ensures s.theory t f e m) id d at
