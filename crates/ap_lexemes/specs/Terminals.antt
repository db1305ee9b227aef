-- Which terminal of the grammar a token is.
use Rattle.std.specs.Prelude.{ℕ, List, [], ◌∷◌, codes, if◌then◌else◌}
use Rattle.std.specs.Str.{bytes_eq}
use Rattle.std.specs.Borrow.{Bor}
use Rattle.ap_grammar.specs.declared.terminals.Terminal.{Terminal}
use Rattle.ap_grammar.specs.declared.terminals.Terminal.TheVariants as t
use Rattle.ap_lex.specs.declared.token.Kind.{Kind}
use Rattle.ap_lex.specs.declared.token.Kind.TheVariants.{Num, Ident, Not, Var, Any, Str, Directive, Sign}

-- the terminal of this spelling in a table, or another one where no row has it
abbrev pub spelled : List (List ℕ × Terminal) → List ℕ → Terminal → Terminal
spelled [] bytes other = other
spelled (row ∷ rows) bytes other = if bytes_eq row.0 bytes then row.1 else spelled rows bytes other

abbrev pub spelled_in : List (Bor (List ℕ) × Terminal) → List ℕ → Terminal → Terminal
spelled_in [] bytes other = other
spelled_in (row ∷ rows) bytes other = if bytes_eq row.0.now bytes then row.1 else spelled_in rows bytes other

abbrev pub words : List (List ℕ × Terminal)
words = (codes "base", t.Base) ∷ (codes "preference", t.Preference) ∷ []

abbrev pub directives : List (List ℕ × Terminal)
directives =
    (codes "#const", t.Const) ∷ (codes "#show", t.Show) ∷ (codes "#defined", t.Defined) ∷ (codes "#program", t.Program)
    ∷ (codes "#preference", t.Statement) ∷ (codes "#optimize", t.Optimize) ∷ (codes "#count", t.Count) ∷ (codes "#sum", t.Sum) ∷ []

abbrev pub signs : List (List ℕ × Terminal)
signs =
    (codes ".", t.Dot) ∷ (codes ",", t.Comma) ∷ (codes ";", t.Semicolon) ∷ (codes ":", t.Colon) ∷ (codes ":-", t.If) ∷ (codes "::", t.Weighs)
    ∷ (codes "(", t.Open) ∷ (codes ")", t.Close) ∷ (codes "{", t.OpenBrace) ∷ (codes "}", t.CloseBrace)
    ∷ (codes "=", t.Equal) ∷ (codes "==", t.Same) ∷ (codes "!=", t.Unequal) ∷ (codes "<", t.Less) ∷ (codes "<=", t.AtMost)
    ∷ (codes ">", t.Greater) ∷ (codes ">=", t.AtLeast)
    ∷ (codes "+", t.Plus) ∷ (codes "-", t.Minus) ∷ (codes "*", t.Times) ∷ (codes "**", t.Stars) ∷ (codes "/", t.Slash) ∷ (codes "\\", t.Backslash)
    ∷ (codes "..", t.Dots) ∷ (codes ">>", t.Better) ∷ (codes "||", t.Bars) ∷ (codes "&", t.And) ∷ (codes "|", t.Or) ∷ []

-- a name, a directive or a sign by its spelling, and any other token by its kind alone
abbrev pub terminal_of : Kind → List ℕ → Terminal
terminal_of Num bytes = t.Number
terminal_of Ident bytes = spelled words bytes t.Word
terminal_of Not bytes = t.Not
terminal_of Var bytes = t.Variable
terminal_of Any bytes = t.Any
terminal_of Str bytes = t.String
terminal_of Directive bytes = spelled directives bytes t.Stray
terminal_of Sign bytes = spelled signs bytes t.Stray
