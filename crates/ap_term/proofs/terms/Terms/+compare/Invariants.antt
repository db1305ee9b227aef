use Rattle.ap_term.proofs.terms.Terms.+compare.Given as goal

-- arguments have smaller numbers
abbrev pub decreases-compare : goal.decreases-compare
decreases-compare l = l.a.0
