-- What guards come to.
use Rattle.std.proofs.Common.{◌≡◌, List, [], ◌∷◌, Option, Some, None, Ok, refl, ap}
use Rattle.std.specs.Option.{unwrap_or}
use Rattle.grammar.specs.Form.{opt}
use Rattle.grammar.specs.Takes.{Takes, Fails, Starts, NotStarts}
use Rattle.ap_syntax.specs.declared.rules.Guard.{Guard}
use Rattle.ap_syntax.specs.declared.terms.Rel.{Rel}
use Rattle.ap_syntax.specs.declared.terms.Rel.TheVariants.{Le}
use Rattle.ap_grammar.specs.Lexemes.{Lexeme}
use Rattle.ap_grammar.specs.Values.{Value}
use Rattle.ap_grammar.specs.Values.Value.{relation, right}
use Rattle.ap_grammar.specs.Grammar.{Name, made}
use Rattle.ap_grammar.specs.Factored.{call, factored}
use Rattle.ap_grammar.specs.Tables.{tables}
use Rattle.literal_parse.specs.declared.operand.Operand.{Operand}
use Rattle.literal_parse.specs.declared.operand.Operand.TheVariants.{Bare, Other}
use Rattle.literal_parse.specs.Reads.{Reads}
use Rattle.literal_parse.specs.Operands.{IsOperand, tree_of, value_of}
use Rattle.literal_parse.specs.Literals.{Relations}
use Rattle.ap_parse.specs.Guards.{IsOptionalGuard, IsRightGuard}
use Rattle.literal_parse.proofs.Steps.{taken, from, fails_from, giving}
use Rattle.literal_parse.proofs.Relations.{sign_takes, sign_starts}

alone : {v w : Value} → v ≡ w → v ∷ [] ≡ w ∷ []
alone e = ap (λ v. v ∷ []) e

-- ---- behind the braces

pub guard_fails : {xs ms ys : List Lexeme} (o : Option Rel) → Relations xs ms o → Fails factored tables (call Name.Term) ms ys → Fails factored tables (call Name.RightGuard) xs ys
guard_fails (Some r) s f = Fails.call (Fails.second (Takes.left (sign_starts s) (sign_takes s)) f)
guard_fails None h f = Fails.call (Fails.second (Takes.right h.1 Takes.empty) (fails_from h.0 f))

signed : (first : Lexeme) (x : Operand) (r : Rel) → made Name.RightGuard (relation r ∷ value_of first x ∷ []) ≡ right (record { rel = r; term = tree_of x })
signed first (Bare a) r = refl
signed first (Other y) r = refl

unsigned : (first : Lexeme) (x : Operand) → made Name.RightGuard (value_of first x ∷ []) ≡ right (record { rel = Le; term = tree_of x })
unsigned first (Bare a) = refl
unsigned first (Other y) = refl

pub guard_read : {xs ms ys : List Lexeme} {x : Operand} (o : Option Rel) → Relations xs ms o → Reads (call Name.Term) (IsOperand ms) ms ys (Ok x) → Reads (call Name.RightGuard) IsRightGuard xs ys (Ok (record { rel = unwrap_or o Le; term = tree_of x }))
guard_read {x = x} (Some r) s t =
    let q = taken t in
    Reads.ok (alone (signed q.makes.first x r)) (Takes.call (Takes.seq (Takes.left (sign_starts s) (sign_takes s)) (giving q.makes.is q.takes)))
guard_read {x = x} None h t =
    let q = taken t in
    Reads.ok (alone (unsigned q.makes.first x)) (Takes.call (Takes.seq (Takes.right h.1 Takes.empty) (from h.0 (giving q.makes.is q.takes))))

pub guard_present : {xs ys : List Lexeme} {g : Guard} → Starts factored tables (call Name.RightGuard) xs → Reads (call Name.RightGuard) IsRightGuard xs ys (Ok g) → Reads (opt (call Name.RightGuard)) IsOptionalGuard xs ys (Ok (Some g))
guard_present s r = let q = taken r in Reads.ok IsOptionalGuard.present (Takes.left s (giving q.makes q.takes))

pub guard_absent : {xs : List Lexeme} → NotStarts factored tables (call Name.RightGuard) xs → Reads (opt (call Name.RightGuard)) IsOptionalGuard xs xs (Ok None)
guard_absent n = Reads.ok IsOptionalGuard.absent (Takes.right n Takes.empty)
