-- The literals over guards of a body. One over a guard that is no integer is a truth value.
use Rattle.std.specs.Prelude.{ℕ, suc, ℤ, Bool, true, false, not, List, [], ◌∷◌, ◌++◌, Option, Some, None}
use Rattle.std.specs.List.{list_any}
use Rattle.std.specs.Bool.{beq}
use Rattle.rule_form.specs.Instances.{GuardedAggregate}
use Rattle.ground_form.specs.declared.bodies.Body.{Body}
use Rattle.ground_form.specs.declared.bodies.GuardUse.{GuardUse}
use Rattle.ground_form.specs.declared.groups.Group.{Group}
use Rattle.ground_form.specs.declared.groups.GroupGuard.{GroupGuard}
use Rattle.ground_form.specs.declared.groups.GroupGuard.TheVariants.{Compare, Fixed}

-- literals over guards, and literals that are truth values
pub record Extras : Type 0 where
  pub guards : List GuardUse
  pub fixed : List Bool

-- nothing
abbrev pub no_extras : Extras
no_extras = record { guards = []; fixed = [] }

-- the ones and the others
abbrev pub joined : Extras → Extras → Extras
joined e f = record { guards = e.guards ++ f.guards; fixed = e.fixed ++ f.fixed }

-- the literal over guard j of group k, or its negation
abbrev pub guard_extra : Bool → ℕ → ℕ → Option GroupGuard → Extras
guard_extra sign k j None = no_extras
guard_extra sign k j (Some (Compare rel n)) =
    record { guards = record { group = k; guard = j; yes = sign } ∷ []; fixed = [] }
guard_extra sign k j (Some (Fixed b)) = record { guards = []; fixed = beq sign b ∷ [] }

-- what a body has of a negated aggregate over group k: the negation of its guard, or of the conjunction of both
abbrev pub negated_extras : ℕ → Option GroupGuard → Option GroupGuard → Extras
negated_extras k None None = record { guards = []; fixed = false ∷ [] }
negated_extras k (Some g) None = guard_extra false k 0 (Some g)
negated_extras k None (Some h) = guard_extra false k 1 (Some h)
negated_extras k (Some g) (Some h) = record { guards = record { group = k; guard = 2; yes = false } ∷ []; fixed = [] }

-- what a body has of an aggregate, negated or not, over group k
abbrev pub group_extras : Bool → ℕ → Group → Extras
group_extras true k h = negated_extras k h.left h.right
group_extras false k h = joined (guard_extra true k 0 h.left) (guard_extra true k 1 h.right)

-- what a body has of its aggregates, whose groups are numbered from k
abbrev pub extras_from : ℕ → List GuardedAggregate → List Group → Extras
extras_from k [] hs = no_extras
extras_from k (a ∷ rest) [] = no_extras
extras_from k (a ∷ rest) (h ∷ hs) = joined (group_extras a.aggregate.negated k h) (extras_from (suc k) rest hs)

-- the body of these literals and extras
abbrev pub body_of : List ℤ → Extras → Body
body_of cs extras =
    record { lits = cs; guards = extras.guards; always = list_any (λ b. b) extras.fixed; never = list_any not extras.fixed }
