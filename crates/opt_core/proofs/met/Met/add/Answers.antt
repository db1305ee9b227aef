use Rattle.std.proofs.Common.{◌≡◌, ℕ, length, [], ◌∷◌, ◌++◌, ap, ◌∙◌}
use Rattle.ground_form.specs.declared.atoms.SetId.{SetId}
use Rattle.opt_core.proofs.MetLemmas.{added, length_more}
use Rattle.opt_core.proofs.met.Met.add.Goals as goal

grown : (c : goal.After-len) → c.insert.new.self.keys ≡ c.args.self.now ++ c.args.set.now ∷ []
grown c = c.in-Ok.ensures.keys ∙ added c.self.inside.sets.keys c.args.self.now c.args.set.now _ c.self.view_is c.in_ok-copy.ensures c.requires

pub returns-clause-id : goal.returns-clause-id
returns-clause-id c = numbers (c.len.ensures.len ∙ (ap length (grown c) ∙ length_more c.args.self.now c.args.set.now))
  where
    numbers : {m n : ℕ} → m ≡ n → ◌≡◌ {A = SetId} (record { 0 = m }) (record { 0 = n })
    numbers e = ap (λ k. record { 0 = k }) e

pub returns-clause-ok : goal.returns-clause-ok
returns-clause-ok c = grown c
