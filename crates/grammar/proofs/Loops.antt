-- Loops that read a repetition.
use Rattle.std.proofs.Common.{List, [], ◌++◌, append_assoc}
use Rattle.grammar.specs.Form.{Form, Grammar}
use Rattle.grammar.specs.Form.Form.{Star}
use Rattle.grammar.specs.Tables.{Tables}
use Rattle.grammar.specs.Takes.{Takes, Fails}

-- The repetition was read so far, with these values: what comes of the rest comes of the whole.
pub record Within {N K C T V : Type 0} (g : Grammar N K C T V) (tb : Tables N K C) (a : Form N K C) (start here : List T) (us : List V) : Type 0 where
  pub takes : (zs : List T) (vs : List V) → Takes g tb (Star a) here zs vs → Takes g tb (Star a) start zs (us ++ vs)
  pub fails : (zs : List T) → Fails g tb (Star a) here zs → Fails g tb (Star a) start zs

pub begun : {N K C T V : Type 0} (g : Grammar N K C T V) (tb : Tables N K C) (a : Form N K C) (xs : List T) → Within g tb a xs xs []
begun g tb a xs = record { takes = λ zs vs t. t; fails = λ zs f. f }

pub one_more : {N K C T V : Type 0} {g : Grammar N K C T V} {tb : Tables N K C} {a : Form N K C} {xs ys zs : List T} {us vs : List V} → Within g tb a xs ys us → Takes g tb a ys zs vs → Within g tb a xs zs (us ++ vs)
one_more {us = us} {vs = vs} w t = record { takes = λ end ws r. rw append_assoc (w.takes end (vs ++ ws) (Takes.more t r)); fails = λ end f. w.fails end (Fails.later t f) }
