-- What is wrong with the name of a statement.
use Rattle.std.specs.Prelude.{ℕ, Bool, true, false, not, ◌||◌, List, [], ◌∷◌, ◌++◌, Option, Some, None, is_some, codes}
use Rattle.std.specs.List.{list_any}
use Rattle.std.specs.Str.{bytes_eq}
use Rattle.ap_syntax.specs.declared.preferences.Preference.{Preference}
use Rattle.ap_syntax.specs.declared.programs.PartKind.{PartKind}
use Rattle.ap_syntax.specs.declared.programs.PartKind.TheVariants as part
use Rattle.ap_syntax.specs.declared.programs.Statement.{Statement}
use Rattle.ap_syntax.specs.declared.programs.Statement.TheVariants as statement
use Rattle.pref_bind.specs.Naming.{names_in}
use Rattle.pref_bind.specs.declared.cause.Cause as causes
use Rattle.pref_bind.specs.declared.cause.Cause.TheVariants as cause
use Rattle.pref_bind.specs.declared.naming.WrongName.{WrongName}
use Rattle.pref_kinds.specs.Kinds.{kind_of}

abbrev pub name_of : causes.Cause → List ℕ
name_of cause.Type = codes "type"
name_of cause.Statement = codes "statement"
name_of cause.Twice = codes "twice"
name_of cause.Optimize = codes "optimize"
name_of cause.Const = codes "const"
name_of cause.Reserved = codes "reserved"

-- ---- what statements declare

abbrev pub declares : List ℕ → Statement → Bool
declares name (statement.Preference p) = bytes_eq p.name name
declares name other = false

-- a preference statement has this name
abbrev pub is_declared : List Statement → List ℕ → Bool
is_declared ss name = list_any (declares name) ss

abbrev pub opens : List ℕ → Statement → Bool
opens kind (statement.Part file at (part.Kind name)) = bytes_eq name kind
opens kind other = false

-- a part is of this type
abbrev pub has_part : List Statement → List ℕ → Bool
has_part ss kind = list_any (opens kind) ss

abbrev pub fixes : List ℕ → Statement → Bool
fixes name (statement.Const file at other value) = bytes_eq other name
fixes name other = false

-- a `#const` has this name
abbrev pub is_const : List Statement → List ℕ → Bool
is_const ss name = list_any (fixes name) ss

abbrev pub is_optimize : Statement → Bool
is_optimize (statement.Optimize file at name) = true
is_optimize other = false

abbrev pub is_built_in : List ℕ → Bool
is_built_in kind = is_some (kind_of kind)

-- ---- causes, by what all statements declare, what parts there are, and what stands before

abbrev pub when : Bool → causes.Cause → Option causes.Cause
when true c = Some c
when false c = None

abbrev pub or_else : {A : Type 0} → Option A → Option A → Option A
or_else (Some found) other = Some found
or_else None other = other

-- `declared` has the names of all preference statements, `parts` the types with a part
module _ (declared parts : List ℕ → Bool) where
  abbrev pub is_type : List ℕ → Bool
  is_type kind = is_built_in kind || parts kind

  abbrev pub is_undeclared : List ℕ → Bool
  is_undeclared name = not (declared name)

  -- the type is neither built in nor a part's; a name is not declared; the statement's own name stands before it
  abbrev pub preference_cause : (before : List ℕ → Bool) → Preference → Option causes.Cause
  preference_cause before p =
      or_else (when (not (is_type p.kind)) cause.Type)
      (or_else (when (list_any is_undeclared (names_in p)) cause.Statement) (when (before p.name) cause.Twice))

  -- the statement is not declared; it is a second `#optimize`
  abbrev pub optimize_cause : (before : Bool) → List ℕ → Option causes.Cause
  optimize_cause before name = or_else (when (is_undeclared name) cause.Statement) (when before cause.Optimize)

-- a part for a type that is built in
abbrev pub part_cause : PartKind → Option causes.Cause
part_cause part.Base = None
part_cause (part.Kind name) = when (is_built_in name) cause.Reserved

abbrev pub placed : (file at : ℕ) → Option causes.Cause → Option WrongName
placed file at None = None
placed file at (Some c) = Some (record { file = file; at = at; cause = c })

-- What is wrong with a statement, and its place. Before it stand preference statements and `#const` statements of these names,
-- and an `#optimize` or none.
abbrev pub misnamed_by : (declared parts preferred fixed : List ℕ → Bool) (optimised : Bool) → Statement → Option WrongName
misnamed_by declared parts preferred fixed optimised (statement.Preference p) =
    placed p.file p.at (preference_cause declared parts preferred p)
misnamed_by declared parts preferred fixed optimised (statement.Optimize file at name) =
    placed file at (optimize_cause declared parts optimised name)
misnamed_by declared parts preferred fixed optimised (statement.Const file at name value) = placed file at (when (fixed name) cause.Const)
misnamed_by declared parts preferred fixed optimised (statement.Part file at kind) = placed file at (part_cause kind)
misnamed_by declared parts preferred fixed optimised other = None

-- ---- the first in the texts

-- what is wrong with a statement of these, behind those that stand before it
abbrev pub misnamed : (all before : List Statement) → Statement → Option WrongName
misnamed all before s =
    misnamed_by (is_declared all) (has_part all) (is_declared before) (is_const before) (list_any is_optimize before) s

abbrev pub misnamed_from : (all before rest : List Statement) → Option WrongName
misnamed_from all before [] = None
misnamed_from all before (s ∷ ss) = or_else (misnamed all before s) (misnamed_from all (before ++ s ∷ []) ss)

-- the first of the statements with a wrong name
abbrev pub first_misnamed : List Statement → Option WrongName
first_misnamed ss = misnamed_from ss [] ss
