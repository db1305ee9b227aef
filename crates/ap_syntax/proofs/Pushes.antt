-- Pushes in turn.
use Rattle.std.proofs.Common.{◌≡◌, ℕ, List, ◌++◌, sym, ap, ◌∙◌, append_assoc, Result, Ok, Err, is_ok, if◌then◌else◌}
use Rattle.std.specs.Prelude.{codes}
use Rattle.std.specs.Result.{OnOk}
use Rattle.ap_syntax.specs.declared.programs.PartKind.TheVariants.{Kind}
use Rattle.ap_syntax.specs.Pieces.{Piece, in_braces, in_parentheses, spaced_behind, spelled, text_of}
use Rattle.ap_syntax.specs.Canonical.{part_pieces}
use Rattle.ap_syntax.specs.CanonicalPreferences.{kind_pieces}
use Rattle.ap_syntax.proofs.Joined.{text_append, text_append3}

-- three of them
pub three : {E : Type 0} (r : Result (Unit {0}) E) (old s₁ s₂ s₃ a b c all : List ℕ) → s₁ ≡ old ++ a → s₂ ≡ s₁ ++ b → s₃ ≡ (if is_ok r then s₂ ++ c else s₂) → all ≡ a ++ (b ++ c) → OnOk r (s₃ ≡ old ++ all)
three (Err x) old s₁ s₂ s₃ a b c all e₁ e₂ e₃ e = tt
three (Ok x) old s₁ s₂ s₃ a b c all e₁ e₂ e₃ e =
    e₃ ∙ ap (λ ts. ts ++ c) (e₂ ∙ ap (λ ts. ts ++ b) e₁)
    ∙ append_assoc (old ++ a) b c ∙ append_assoc old a (b ++ c)
    ∙ ap (λ ts. old ++ ts) (sym e)

-- seven of them
pub seven : {E : Type 0} (r : Result (Unit {0}) E) (old s₁ s₂ s₃ s₄ s₅ s₆ s₇ a b c d e f g all : List ℕ)
    → s₁ ≡ old ++ a → s₂ ≡ s₁ ++ b → s₃ ≡ s₂ ++ c → s₄ ≡ s₃ ++ d → s₅ ≡ s₄ ++ e → s₆ ≡ s₅ ++ f → s₇ ≡ (if is_ok r then s₆ ++ g else s₆)
    → all ≡ a ++ (b ++ (c ++ ((d ++ e) ++ (f ++ g)))) → OnOk r (s₇ ≡ old ++ all)
seven (Err x) old s₁ s₂ s₃ s₄ s₅ s₆ s₇ a b c d e f g all e₁ e₂ e₃ e₄ e₅ e₆ e₇ is = tt
seven (Ok x) old s₁ s₂ s₃ s₄ s₅ s₆ s₇ a b c d e f g all e₁ e₂ e₃ e₄ e₅ e₆ e₇ is =
    let regrouped : ((((((old ++ a) ++ b) ++ c) ++ d) ++ e) ++ f) ++ g ≡ old ++ (a ++ (b ++ (c ++ ((d ++ e) ++ (f ++ g))))) = simp append_assoc in
    e₇ ∙ ap (λ ts. ts ++ g) (e₆ ∙ ap (λ ts. ts ++ f) (e₅ ∙ ap (λ ts. ts ++ e) (e₄ ∙ ap (λ ts. ts ++ d) (e₃ ∙ ap (λ ts. ts ++ c) (e₂ ∙ ap (λ ts. ts ++ b) e₁)))))
    ∙ regrouped ∙ ap (λ ts. old ++ ts) (sym is)

pub part_text : (kind : List ℕ) → text_of (part_pieces (Kind kind)) ≡ codes "#program preference(" ++ (text_of (kind_pieces kind) ++ codes ").")
part_text kind = ap (λ ts. codes "#program preference(" ++ ts) (text_append3 (kind_pieces kind) (spelled (codes ")")) (spelled (codes ".")))

pub preference_text : (name : List ℕ) (kind elements : List Piece)
    → text_of (spelled (codes "#preference") ++ in_parentheses (spelled name ++ spaced_behind (codes ",") ++ kind) ++ in_braces elements ++ spelled (codes "."))
    ≡ codes "#preference(" ++ (name ++ (codes ", " ++ ((text_of kind ++ codes ")") ++ (text_of (in_braces elements) ++ codes "."))))
preference_text name kind elements =
    ap (λ ts. codes "#preference(" ++ (name ++ (codes ", " ++ ts)))
    (text_append3 (kind ++ spelled (codes ")")) (in_braces elements) (spelled (codes "."))
    ∙ ap (λ ts. ts ++ (text_of (in_braces elements) ++ codes ".")) (text_append kind (spelled (codes ")"))))
