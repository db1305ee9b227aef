-- Heads and rules read back.
use Rattle.std.proofs.Common.{◌≡◌, ℕ, Bool, true, false, List, [], ◌∷◌, ◌++◌, map, Option, Some, None, refl, sym, ap, subst, ◌∙◌, append_assoc}
use Rattle.std.specs.Prelude.{codes}
use Rattle.std.proofs.lemmas.List.{append-nil}
use Rattle.grammar.specs.Form.{Derives, ◌⨾◌, opt}
use Rattle.grammar.specs.Form.Form.{Tok, Call}
use Rattle.ap_syntax.specs.declared.terms.Atom.{Atom}
use Rattle.ap_syntax.specs.declared.rules.BodyItem.{BodyItem}
use Rattle.ap_syntax.specs.declared.rules.ChoiceElement.{ChoiceElement}
use Rattle.ap_syntax.specs.declared.rules.Guard.{Guard}
use Rattle.ap_syntax.specs.declared.rules.HeadForm.{HeadForm}
use Rattle.ap_syntax.specs.declared.rules.HeadForm.TheVariants as heads
use Rattle.ap_syntax.specs.declared.rules.Rule.{Rule}
use Rattle.ap_syntax.specs.declared.programs.Statement.TheVariants as statements
use Rattle.ap_syntax.specs.Pieces.{Piece, in_braces, semicolons, spaced, spaced_behind, spelled, text_of}
use Rattle.ap_syntax.specs.CanonicalTerms.{atom_pieces}
use Rattle.ap_syntax.specs.CanonicalRules.{body_pieces, choice_element_pieces, clause_pieces, head_pieces, left_pieces, right_pieces, rule_pieces}
use Rattle.ap_grammar.specs.declared.terminals.Terminal.TheVariants as t
use Rattle.ap_grammar.specs.Lexemes.{Lexeme}
use Rattle.ap_grammar.specs.Values.{Value, as_body, as_choice_element, as_left, as_right, collected, found, or_empty}
use Rattle.ap_grammar.specs.Values.Value.{atom, body, head, statement, token}
use Rattle.ap_grammar.specs.Grammar.{Name, grammar, made}
use Rattle.canonical_law.specs.Unplaced.{unplaced_items, unplaced_rule}
use Rattle.canonical_law.proofs.Lexing.{Ends}
use Rattle.canonical_law.proofs.Spells.{Spells, Clear, split, split3, clear_append, clear3, spaced_is, spaced_behind_is, spaced_clear, spaced_behind_clear}
use Rattle.canonical_law.proofs.Signs as sign
use Rattle.canonical_law.proofs.Lists.{Each, alike_same, collected-append, found_behind, from_here, up_to}
use Rattle.canonical_law.proofs.Literals.{AreLeft, GoodAtom, GoodGuard, atom_clear, atom_spelled, left_clear, left_spelled, right_clear, right_spelled, right_values}
use Rattle.canonical_law.proofs.Braces.{braces_clear, braces_spelled}
use Rattle.canonical_law.proofs.Items.{ChoiceItem, GoodChoiceElement, GoodItemOf, body_clear, body_spelled, choice_item, choice_value}

-- ---- heads

pub data GoodHead : HeadForm → Type 0 where
  one : {a : Atom} → GoodAtom a → GoodHead (heads.One a)
  choice : {left : Option Guard} {es : List ChoiceElement} {right : Option Guard} → GoodGuard left → Each GoodChoiceElement es → GoodGuard right → GoodHead (heads.Choice left es right)

pub record IsHead (h : HeadForm) (xs ys : List Lexeme) : Type 0 where
  pub first : Lexeme
  pub derives : Derives grammar (Call Name.Head) xs ys (head first h ∷ [])

choice_items : (es : List ChoiceElement) → Each GoodChoiceElement es → Each ChoiceItem es
choice_items [] Each.none = Each.none
choice_items (e ∷ es) (Each.more g gs) = Each.more (choice_item e g) (choice_items es gs)

pub no_left : (r : Option Guard) → collected as_choice_element (right_values r) ≡ []
no_left None = refl
no_left (Some g) = refl

pub found_right : (r : Option Guard) → found as_right (right_values r) ≡ r
found_right None = refl
found_right (Some g) = refl

pub left_none : (r : Option Guard) → found as_left (right_values r) ≡ None
left_none None = refl
left_none (Some g) = refl

-- what a choice makes of its values
pub choice_made : (l r : Option Guard) (lv : List Value) (first : Lexeme) (rest : List Value) (es : List ChoiceElement) → AreLeft l lv → collected as_choice_element (rest ++ right_values r) ≡ es → found as_right (rest ++ right_values r) ≡ r → found as_left (rest ++ right_values r) ≡ None
    → (x : Lexeme) × (made Name.Head (lv ++ (token first ∷ (rest ++ right_values r))) ≡ head x (heads.Choice l es r))
choice_made None r lv first rest es a c f n = rw a (first, ap (λ k. head first (heads.Choice k (collected as_choice_element (rest ++ right_values r)) (found as_right (rest ++ right_values r)))) n ∙ (ap (λ fs. head first (heads.Choice None fs (found as_right (rest ++ right_values r)))) c ∙ ap (λ g. head first (heads.Choice None es g)) f))
choice_made (Some g) r lv first rest es a c f n = rw a.1 (a.0, ap (λ fs. head a.0 (heads.Choice (Some g) fs (found as_right (rest ++ right_values r)))) c ∙ ap (λ h. head a.0 (heads.Choice (Some g) es h)) f)

choice_spelled : (l : Option Guard) (es : List ChoiceElement) (r : Option Guard) {xs ys : List Lexeme} → GoodGuard l → Each GoodChoiceElement es → GoodGuard r → Spells (head_pieces (heads.Choice l es r)) xs ys → IsHead (heads.Choice l es r) xs ys
choice_spelled l es r {xs = xs} {ys = ys} g gs h s =
    let q = split3 (left_pieces l) (in_braces (semicolons (map choice_element_pieces es))) s in
    let a = left_spelled g q.2 in
    let b = braces_spelled (λ y z. y ≡ z) choice_element_pieces as_choice_element choice_value Name.ChoiceElement (λ x. refl) (λ i x. refl) es (choice_items es gs) q.3 in
    let c = choice_made l r a.values b.first b.rest es a.are
    (collected-append as_choice_element b.rest (right_values r) ∙ (ap (λ fs. collected as_choice_element b.rest ++ fs) (no_left r) ∙ (append-nil (collected as_choice_element b.rest) ∙ (b.picked ∙ alike_same b.same))))
    (found_behind choice_value as_right (λ x. refl) (λ i x. refl) (right_values r) b.each ∙ found_right r)
    (found_behind choice_value as_left (λ x. refl) (λ i x. refl) (right_values r) b.each ∙ left_none r) in
    record { first = c.0; derives = subst (λ v. Derives grammar (Call Name.Head) xs ys (v ∷ [])) c.1 (Derives.call {n = Name.Head} (Derives.right (Derives.seq a.derives (Derives.seq b.derives (right_spelled h q.4))))) }

pub head_spelled : {h : HeadForm} {xs ys : List Lexeme} → GoodHead h → Spells (head_pieces h) xs ys → IsHead h xs ys
head_spelled (GoodHead.one g) s = let a = atom_spelled g s in record { first = a.first; derives = Derives.call (Derives.left a.derives) }
head_spelled (GoodHead.choice {left = l} {es = es} {right = r} g gs h) s = choice_spelled l es r g gs h s

pub head_clear : {h : HeadForm} (rest : List ℕ) → GoodHead h → Ends rest → Clear (head_pieces h) rest
head_clear rest (GoodHead.one g) e = atom_clear rest g e
head_clear rest (GoodHead.choice {left = l} {es = es} {right = r} g gs h) e =
    clear3 (left_pieces l) (in_braces (semicolons (map choice_element_pieces es))) (right_pieces r) rest (left_clear _ g)
    (braces_clear (λ y z. y ≡ z) choice_element_pieces as_choice_element choice_value Name.ChoiceElement (λ x. refl) (λ i x. refl) es _ (choice_items es gs)) (right_clear rest h e)

-- ---- rules

-- a rule of a type's part or not; there each has an atom in the head
pub data GoodRule : Bool → Rule → Type 0 where
  headed : {file at : ℕ} {h : HeadForm} {is : List BodyItem} → GoodHead h → Each GoodItemOf is → GoodRule false (record { file = file; at = at; head = h; body = is })
  typed : {file at : ℕ} {a : Atom} {is : List BodyItem} → GoodAtom a → Each GoodItemOf is → GoodRule true (record { file = file; at = at; head = heads.One a; body = is })
  constraint : {file at : ℕ} {i : BodyItem} {is : List BodyItem} → Each GoodItemOf (i ∷ is) → GoodRule false (record { file = file; at = at; head = heads.Nothing; body = i ∷ is })

pub record IsRuleRead (of_type : Bool) (r : Rule) (xs ys : List Lexeme) : Type 0 where
  pub read : Rule
  pub derives : Derives grammar (Call (Name.Rule of_type)) xs ys (statement (statements.Rule read) ∷ [])
  pub same : unplaced_rule read ≡ unplaced_rule r

-- the body behind `:-`, if there is one, and the dot
abbrev tail_pieces : List BodyItem → List Piece
tail_pieces [] = []
tail_pieces (i ∷ is) = spaced (codes ":-") ++ body_pieces (i ∷ is)

record IsTail (is : List BodyItem) (xs ys : List Lexeme) : Type 0 where
  values : List Value
  derives : Derives grammar (opt (Tok t.If ⨾ Call Name.Body)) xs ys values
  same : unplaced_items (or_empty (found as_body values)) ≡ unplaced_items is

tail_spelled : (is : List BodyItem) {xs ys : List Lexeme} → Each GoodItemOf is → Spells (tail_pieces is) xs ys → IsTail is xs ys
tail_spelled [] g Spells.nothing = record { values = []; derives = Derives.right Derives.empty; same = refl }
tail_spelled (i ∷ is) g s =
    let q = split (spaced (codes ":-")) s in
    let o = spaced_is q.1 in
    let b = body_spelled i is g q.2 in
    record { values = token o.0 ∷ body b.read ∷ []; derives = from_here (sym o.1) (Derives.left (Derives.seq (Derives.tok {t = o.0} (sign.if_is o.2)) b.derives)); same = b.same }

tail_clear : (is : List BodyItem) (rest : List ℕ) → Each GoodItemOf is → Ends rest → Clear (tail_pieces is) rest
tail_clear [] rest g h = Clear.nothing
tail_clear (i ∷ is) rest g h = clear_append (spaced (codes ":-")) (body_pieces (i ∷ is)) rest (spaced_clear _ sign.if_one (sign.if_apart _)) (body_clear (i ∷ is) rest g h)

tail_ends : (is : List BodyItem) (rest : List ℕ) → Ends rest → Ends (text_of (tail_pieces is) ++ rest)
tail_ends [] rest h = h
tail_ends (i ∷ is) rest h = refl

pub dot_is_last : {ms ys : List Lexeme} → Spells (spelled (codes ".")) ms ys → (x : Lexeme) × (ms ≡ x ∷ ys) × (x.terminal ≡ t.Dot)
dot_is_last (Spells.word i Spells.nothing) = (_, refl, sign.dot_is i)

found_before : (vs : List Value) (x : Lexeme) → found as_body (vs ++ token x ∷ []) ≡ found as_body vs
found_before [] x = refl
found_before (v ∷ vs) x = ap (λ (f : Option (List BodyItem)). elim (as_body v) [ None ↦ f | Some y ↦ Some y ]) (found_before vs x)

unplaced_body : (file at : ℕ) (h : HeadForm) (is js : List BodyItem) → unplaced_items is ≡ unplaced_items js → unplaced_rule (record { file = file; at = at; head = h; body = is }) ≡ unplaced_rule (record { file = file; at = at; head = h; body = js })
unplaced_body file at h is js e = ap (λ ks. record { file = 0; at = 0; head = h; body = ks }) e

headed_read : (file at : ℕ) (h : HeadForm) (is : List BodyItem) (first : Lexeme) (vs : List Value) (dot : Lexeme) {xs ys : List Lexeme} → unplaced_items (or_empty (found as_body vs)) ≡ unplaced_items is
    → Derives grammar (Call (Name.Rule false)) xs ys (made (Name.Rule false) (head first h ∷ (vs ++ token dot ∷ [])) ∷ []) → IsRuleRead false (record { file = file; at = at; head = h; body = is }) xs ys
headed_read file at h is first vs dot e d = record {
  read = _;
  derives = d;
  same = unplaced_body 0 0 h _ is (ap (λ (f : Option (List BodyItem)). unplaced_items (or_empty f)) (found_before vs dot) ∙ e);
}

typed_read : (file at : ℕ) (a : Atom) (is : List BodyItem) (first : Lexeme) (vs : List Value) (dot : Lexeme) {xs ys : List Lexeme} → unplaced_items (or_empty (found as_body vs)) ≡ unplaced_items is
    → Derives grammar (Call (Name.Rule true)) xs ys (made (Name.Rule true) (atom first a ∷ (vs ++ token dot ∷ [])) ∷ []) → IsRuleRead true (record { file = file; at = at; head = heads.One a; body = is }) xs ys
typed_read file at a is first vs dot e d = record {
  read = _;
  derives = d;
  same = unplaced_body 0 0 (heads.One a) _ is (ap (λ (f : Option (List BodyItem)). unplaced_items (or_empty f)) (found_before vs dot) ∙ e);
}

-- the pieces of a rule with a head: the head, what stands behind it, and the dot
headed_pieces : (h : HeadForm) (is : List BodyItem) → GoodHead h → clause_pieces h is ≡ head_pieces h ++ tail_pieces is
headed_pieces h [] (GoodHead.one {a = a} g) = sym (append-nil (atom_pieces a))
headed_pieces h (i ∷ is) (GoodHead.one {a = a} g) = append_assoc (atom_pieces a) (spaced (codes ":-")) (body_pieces (i ∷ is))
headed_pieces h [] (GoodHead.choice {left = l} {es = es} {right = r} g gs k) = sym (append-nil (head_pieces (heads.Choice l es r)))
headed_pieces h (i ∷ is) (GoodHead.choice {left = l} {es = es} {right = r} g gs k) = append_assoc (head_pieces (heads.Choice l es r)) (spaced (codes ":-")) (body_pieces (i ∷ is))

clear_as : {ps qs : List Piece} {rest : List ℕ} → ps ≡ qs → Clear ps rest → Clear qs rest
clear_as e c = rw e at c

-- the same tokens by other pieces that are the same
spells_as : {ps qs : List Piece} {xs ys : List Lexeme} → ps ≡ qs → Spells ps xs ys → Spells qs xs ys
spells_as e s = rw e at s

pub rule_spelled : {of_type : Bool} {r : Rule} {xs ys : List Lexeme} → GoodRule of_type r → Spells (rule_pieces r) xs ys → IsRuleRead of_type r xs ys
rule_spelled {ys = ys} (GoodRule.headed {file = file} {at = at} {h = h} {is = is} g gs) s =
    let q = split (clause_pieces h is) s in
    let d = dot_is_last q.2 in
    let p = split (head_pieces h) (spells_as (headed_pieces h is g) q.1) in
    let a = head_spelled g p.1 in
    let b = tail_spelled is gs p.2 in
    headed_read file at h is a.first b.values d.0 b.same (Derives.call {n = Name.Rule false} (Derives.left (Derives.seq a.derives (Derives.seq (up_to d.1 b.derives) (Derives.tok {t = d.0} {ts = ys} d.2)))))
rule_spelled {ys = ys} (GoodRule.typed {file = file} {at = at} {a = a} {is = is} g gs) s =
    let q = split (clause_pieces (heads.One a) is) s in
    let d = dot_is_last q.2 in
    let p = split (atom_pieces a) (spells_as (headed_pieces (heads.One a) is (GoodHead.one g)) q.1) in
    let h = atom_spelled g p.1 in
    let b = tail_spelled is gs p.2 in
    typed_read file at a is h.first b.values d.0 b.same (Derives.call {n = Name.Rule true} (Derives.seq h.derives (Derives.seq (up_to d.1 b.derives) (Derives.tok {t = d.0} {ts = ys} d.2))))
rule_spelled {ys = ys} (GoodRule.constraint {file = file} {at = at} {i = i} {is = is} g) s =
    let q = split3 (spaced_behind (codes ":-")) (body_pieces (i ∷ is)) s in
    let o = spaced_behind_is q.2 in
    let b = body_spelled i is g q.3 in
    let d = dot_is_last q.4 in
    record {
      read = record { file = o.0.file; at = o.0.at; head = heads.Nothing; body = b.read };
      derives = from_here (sym o.1) (Derives.call (Derives.right (Derives.seq (Derives.tok {t = o.0} (sign.if_is o.2)) (Derives.seq (up_to d.1 b.derives) (Derives.tok {t = d.0} {ts = ys} d.2)))));
      same = ap (λ ks. record { file = 0; at = 0; head = heads.Nothing; body = ks }) b.same;
    }

-- a rule stands on a line
pub rule_clear : {of_type : Bool} {r : Rule} (rest : List ℕ) → GoodRule of_type r → Clear (rule_pieces r) (10 ∷ rest)
rule_clear rest (GoodRule.headed {h = h} {is = is} g gs) = clear_append (clause_pieces h is) (spelled (codes ".")) (10 ∷ rest) (clear_as (sym (headed_pieces h is g)) (clear_append (head_pieces h) (tail_pieces is) _ (head_clear _ g (tail_ends is _ refl)) (tail_clear is _ gs refl))) (Clear.word sign.dot_one (sign.dot_apart _) Clear.nothing)
rule_clear rest (GoodRule.typed {a = a} {is = is} g gs) = clear_append (clause_pieces (heads.One a) is) (spelled (codes ".")) (10 ∷ rest) (clear_as (sym (headed_pieces (heads.One a) is (GoodHead.one g))) (clear_append (atom_pieces a) (tail_pieces is) _ (atom_clear _ g (tail_ends is _ refl)) (tail_clear is _ gs refl))) (Clear.word sign.dot_one (sign.dot_apart _) Clear.nothing)
rule_clear rest (GoodRule.constraint {i = i} {is = is} g) = clear3 (spaced_behind (codes ":-")) (body_pieces (i ∷ is)) (spelled (codes ".")) (10 ∷ rest) (spaced_behind_clear _ sign.if_one (sign.if_apart _)) (body_clear (i ∷ is) _ g refl) (Clear.word sign.dot_one (sign.dot_apart _) Clear.nothing)
