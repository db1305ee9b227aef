-- What the scan does at the tokens of each rule.
use Rattle.std.proofs.Common.{◌≡◌, ℕ, ◌≤◌, Bool, true, false, List, [], ◌∷◌, ◌++◌, None}
use Rattle.ap_syntax.specs.declared.terms.Atom.{Atom as AtomTree}
use Rattle.ap_syntax.specs.declared.terms.Term.{Term as TermTree}
use Rattle.ap_syntax.specs.declared.preferences.Formula.{Formula as FormulaTree}
use Rattle.ap_syntax.specs.declared.preferences.Element.{Element}
use Rattle.ap_syntax.specs.declared.preferences.Ranked.{Ranked}
use Rattle.ap_syntax.specs.declared.preferences.Target.{Target as TargetTree}
use Rattle.ap_grammar.specs.Lexemes.{Lexeme}
use Rattle.ap_grammar.specs.Values.{Value, as_given, as_ranked, as_target}
use Rattle.ap_grammar.specs.Values.Value.{atom, formula, kind, program, ranked, statement, target, token}
use Rattle.ap_grammar.specs.Grammar.{Name, made}
use Rattle.ap_lexemes.specs.declared.levels.Level.{Level}
use Rattle.ap_lexemes.specs.declared.role.Role.TheVariants as roles
use Rattle.ap_lexemes.specs.Limits.{Levels, depth_of, joined, role_of, with_member}
use Rattle.limit_law.specs.Depths.{capped, depth, scan}
use Rattle.limit_law.specs.Programs.{element_formulas, formulas_of, ranked_formulas, statement_formulas, target_formulas}
use Rattle.limit_law.proofs.Quiet.{Quiet}
use Rattle.limit_law.proofs.Last.{Last}
use Rattle.limit_law.proofs.Scanning.{Grouped, Kept}
use Rattle.limit_law.proofs.Tells.{Formed, Tail, Whole}

-- ---- names, arguments and atoms

pub record ScansName (xs ys : List Lexeme) (v : Value) : Type 0 where
  pub name : Lexeme
  pub is : v ≡ token name
  pub tokens : xs ≡ name ∷ ys
  pub role : role_of name.terminal ≡ roles.Name

pub record ScansArguments (xs ys : List Lexeme) (v : Value) : Type 0 where
  pub members : List TermTree
  pub is : v ≡ Value.terms members
  pub grouped : Grouped xs ys

-- behind an atom
abbrev pub named : Levels → Levels
named s = record { level = with_member s.level 1; outer = s.outer }

pub record ScansAtom (xs ys : List Lexeme) (v : Value) : Type 0 where
  pub first : Lexeme
  pub tree : AtomTree
  pub is : v ≡ atom first tree
  pub read : List Lexeme
  pub tokens : xs ≡ read ++ ys
  pub last : Last read
  pub scans : (s : Levels) → scan s read ≡ named s
  pub quiet : (s : Levels) → depth_of (named s).level ≤ 64 → Quiet s read

-- ---- formulas

-- a level by its parts, inside these levels
abbrev pub at : ℕ → ℕ → ℕ → Bool → ℕ → List Level → Levels
at c d e n m os = record { level = record { commas = c; disjunction = d; conjunction = e; negated = n; member = m }; outer = os }

-- What the scan comes to behind a member, a conjunction or a disjunction of this depth, where what stood before it at the level
-- is still known, and at which depth no limit stands inside.
pub record MemberDepth (read : List Lexeme) (k : ℕ) : Type 0 where
  pub behind : (c d e : ℕ) (os : List Level) → (n : Bool) × (scan (at c d e false 0 os) read ≡ at c d e n (capped k) os)
  pub quiet : (c d e : ℕ) (os : List Level) → joined d (joined e (capped k)) ≤ 64 → Quiet (at c d e false 0 os) read

pub record BehindConjunction (read : List Lexeme) (k c d : ℕ) (os : List Level) (s : Levels) : Type 0 where
  pub conjunction : ℕ
  pub negated : Bool
  pub member : ℕ
  pub scanned : scan s read ≡ at c d conjunction negated member os
  pub total : joined conjunction member ≡ capped k

pub record ConjunctionDepth (read : List Lexeme) (k : ℕ) : Type 0 where
  pub behind : (c d : ℕ) (os : List Level) → BehindConjunction read k c d os (at c d 0 false 0 os)
  pub quiet : (c d : ℕ) (os : List Level) → joined d (capped k) ≤ 64 → Quiet (at c d 0 false 0 os) read

pub record BehindDisjunction (read : List Lexeme) (k c : ℕ) (os : List Level) (s : Levels) : Type 0 where
  pub disjunction : ℕ
  pub conjunction : ℕ
  pub negated : Bool
  pub member : ℕ
  pub scanned : scan s read ≡ at c disjunction conjunction negated member os
  pub total : joined disjunction (joined conjunction member) ≡ capped k

pub record DisjunctionDepth (read : List Lexeme) (k : ℕ) : Type 0 where
  pub behind : (c : ℕ) (os : List Level) → BehindDisjunction read k c os (at c 0 0 false 0 os)
  pub quiet : (c : ℕ) (os : List Level) → k ≤ 64 → Quiet (at c 0 0 false 0 os) read

-- a formula, with what the scan comes to at its tokens by the depth of its tree
pub record ScansFormula (HasDepth : List Lexeme → ℕ → Type 0) (xs ys : List Lexeme) (v : Value) : Type 0 where
  pub first : Lexeme
  pub tree : FormulaTree
  pub is : v ≡ formula first tree
  pub read : List Lexeme
  pub tokens : xs ≡ read ++ ys
  pub last : Last read
  pub positive : 1 ≤ depth tree
  pub scans : HasDepth read (depth tree)

-- ---- preferences

pub record ScansKind (xs ys : List Lexeme) (v : Value) : Type 0 where
  pub kind_is : List ℕ
  pub is : v ≡ kind kind_is
  pub kept : Kept false xs ys

pub record ScansTarget (xs ys : List Lexeme) (v : Value) : Type 0 where
  pub first : Lexeme
  pub tree : TargetTree
  pub is : v ≡ target first tree
  pub formed : Formed xs ys (target_formulas tree)

pub record ScansRanked (xs ys : List Lexeme) (v : Value) : Type 0 where
  pub first : Lexeme
  pub tree : Ranked
  pub is : v ≡ ranked first tree
  pub formed : Formed xs ys (ranked_formulas tree)

pub record ScansGiven (xs ys : List Lexeme) (v : Value) : Type 0 where
  pub tree : Ranked
  pub is : v ≡ Value.given tree
  pub tail : Tail xs ys (ranked_formulas tree)

pub record ScansDomain (xs ys : List Lexeme) (v : Value) : Type 0 where
  pub no_ranked : as_ranked v ≡ None
  pub no_given : as_given v ≡ None
  pub tail : Tail xs ys []

pub record ScansElement (xs ys : List Lexeme) (v : Value) : Type 0 where
  pub tree : Element
  pub is : v ≡ Value.element tree
  pub formed : Formed xs ys (element_formulas tree)

-- ---- statements and texts

-- the formulas of a statement, or of several
abbrev pub formulas_in : Value → List FormulaTree
formulas_in (statement s) = statement_formulas s
formulas_in (program ss) = formulas_of ss
formulas_in v = []

-- what a statement makes of another one's value
abbrev pub alone : Value → Value
alone v = made (Name.Statement true true) (v ∷ [])

pub record ScansStatement (xs ys : List Lexeme) (v : Value) : Type 0 where
  pub same : alone v ≡ v
  pub whole : Whole xs ys (formulas_in v)

-- ---- all rules

-- Rules of terms keep the levels around them, and so do the other rules in which no formula of a preference stands, but for
-- the `not` of a literal. Of a rule that stands alone nothing is said.
abbrev pub Scans : Name → List Lexeme → List Lexeme → Value → Type 0
Scans (Name.Text whole of_type) xs ys v = Whole xs ys (formulas_in v)
Scans (Name.BaseSection whole) xs ys v = Whole xs ys (formulas_in v)
Scans (Name.TypeSection whole) xs ys v = Whole xs ys (formulas_in v)
Scans Name.BaseOpening xs ys v = ScansStatement xs ys v
Scans Name.TypeOpening xs ys v = ScansStatement xs ys v
Scans (Name.Statement whole of_type) xs ys v = ScansStatement xs ys v
Scans (Name.One of_type) xs ys v = Unit {0}
Scans Name.Const xs ys v = ScansStatement xs ys v
Scans Name.Show xs ys v = ScansStatement xs ys v
Scans Name.Defined xs ys v = ScansStatement xs ys v
Scans (Name.Rule of_type) xs ys v = ScansStatement xs ys v
Scans Name.Preference xs ys v = ScansStatement xs ys v
Scans Name.Optimize xs ys v = ScansStatement xs ys v
Scans Name.Ident xs ys v = ScansName xs ys v
Scans Name.Arguments xs ys v = ScansArguments xs ys v
Scans Name.Atom xs ys v = ScansAtom xs ys v
Scans Name.Term xs ys v = Kept false xs ys × (as_target v ≡ None)
Scans Name.Sum xs ys v = Kept false xs ys
Scans Name.Product xs ys v = Kept false xs ys
Scans Name.Unary xs ys v = Kept false xs ys
Scans Name.Primary xs ys v = Kept false xs ys
Scans Name.Kind xs ys v = ScansKind xs ys v
Scans Name.Formula xs ys v = ScansFormula DisjunctionDepth xs ys v
Scans Name.Conjunction xs ys v = ScansFormula ConjunctionDepth xs ys v
Scans Name.Member xs ys v = ScansFormula MemberDepth xs ys v
Scans Name.Target xs ys v = ScansTarget xs ys v
Scans Name.Ranked xs ys v = ScansRanked xs ys v
Scans Name.Given xs ys v = ScansGiven xs ys v
Scans Name.Domain xs ys v = ScansDomain xs ys v
Scans Name.Element xs ys v = ScansElement xs ys v
Scans n xs ys v = Kept true xs ys
