-- What is kept of the statements that were gone past.
use Rattle.std.specs.Prelude.{◌≡◌, ℕ, ◌||◌, List}
use Rattle.std.specs.List.{list_any}
use Rattle.ap_syntax.specs.declared.programs.Statement.{Statement}
use Rattle.pref_bind.specs.Causes.{declares, fixes, has_part, is_const, is_declared, is_optimize, opens}
use Rattle.pref_bind.specs.Named.{is_named}
use Rattle.pref_bind.specs.declared.naming.Before.{Before}
use Rattle.pref_bind.specs.declared.naming.Declared.{Declared}

-- the names of the preference statements, and the types with a part
pub record IsDeclaredIn (ss : List Statement) (d : Declared) : Type 0 where
  pub names : (name : List ℕ) → is_named d.names name ≡ is_declared ss name
  pub parts : (name : List ℕ) → is_named d.parts name ≡ has_part ss name

-- the same with one statement more
pub record Declares (old new : Declared) (s : Statement) : Type 0 where
  pub names : (name : List ℕ) → is_named new.names name ≡ (declares name s || is_named old.names name)
  pub parts : (name : List ℕ) → is_named new.parts name ≡ (opens name s || is_named old.parts name)

-- the names of the preference statements and of the constants, and whether there is an `#optimize`
pub record StandsBefore (ss : List Statement) (b : Before) : Type 0 where
  pub names : (name : List ℕ) → is_named b.names name ≡ is_declared ss name
  pub constants : (name : List ℕ) → is_named b.constants name ≡ is_const ss name
  pub optimised : b.optimised ≡ list_any is_optimize ss

-- the same with one statement more
pub record Precedes (old new : Before) (s : Statement) : Type 0 where
  pub names : (name : List ℕ) → is_named new.names name ≡ (declares name s || is_named old.names name)
  pub constants : (name : List ℕ) → is_named new.constants name ≡ (fixes name s || is_named old.constants name)
  pub optimised : new.optimised ≡ (is_optimize s || old.optimised)
