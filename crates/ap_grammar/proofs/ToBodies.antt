-- From the factored grammar to the documented one: heads, literals, bodies and primary terms.
use Rattle.std.proofs.Common.{◌≡◌, List, [], ◌∷◌, Option, Some, None, refl, subst}
use Rattle.std.specs.Prelude.{IfSome}
use Rattle.grammar.specs.Form.{opt}
use Rattle.grammar.specs.Form.Form.{Call}
use Rattle.grammar.proofs.Interpret.{Reads}
use Rattle.ap_syntax.specs.declared.terms.Atom.{Atom as AtomTree}
use Rattle.ap_syntax.specs.declared.terms.Term.{Term as TermTree}
use Rattle.ap_syntax.specs.declared.rules.Guard.{Guard}
use Rattle.ap_grammar.specs.Lexemes.{Lexeme}
use Rattle.ap_grammar.specs.Values.{Value, class_of}
use Rattle.ap_grammar.specs.Values.Value.{atom, term, left}
use Rattle.ap_grammar.specs.Grammar.{Name, made, in_braces}
use Rattle.ap_grammar.specs.Factored.{Part, part_rule, choice, head_behind, literal_behind, head_made, literal_made}
use Rattle.ap_grammar.proofs.Sorts.{Ends, Known}
use Rattle.ap_grammar.proofs.Known.{known_step}
use Rattle.ap_grammar.proofs.ToTexts.{May, documented, known_of}

same_first : (f g : Lexeme) (n m : Option AtomTree) (x y : TermTree) → term f n x ≡ term g m y → g ≡ f
same_first f g n m x y e = cc

same_name : (f g : Lexeme) (n m : Option AtomTree) (x y : TermTree) → term f n x ≡ term g m y → m ≡ n
same_name f g n m x y e = cc

atom_of : (xs ys : List Lexeme) (f g : Lexeme) (a : AtomTree) (m : Option AtomTree) → g ≡ f → m ≡ Some a → IfSome m (λ b. Ends Name.Atom xs ys (atom g b)) → Ends Name.Atom xs ys (atom f a)
atom_of xs ys f g a m e h d = subst (λ k. Ends Name.Atom xs ys (atom k a)) e (subst (λ n. IfSome n (λ b. Ends Name.Atom xs ys (atom g b))) h d)

-- the atom that a bare term is
pub atom_at : {xs ys : List Lexeme} {first : Lexeme} {a : AtomTree} {x : TermTree} → Known Name.Term xs ys (term first (Some a) x) → Known Name.Atom xs ys (atom first a)
atom_at {xs = xs} {ys = ys} {first = first} {a = a} {x = x} k =
    let s = k.sort in
    record {
      derives = atom_of xs ys first s.first a s.name (same_first first s.first (Some a) s.name x s.tree s.is) (same_name first s.first (Some a) s.name x s.tree s.is) s.atom_is;
      sort = (_, _, refl);
    }

-- a term that is known, with its value written out
pub record Term (xs ys : List Lexeme) (v : Value) : Type 0 where
  pub first : Lexeme
  pub name : Option AtomTree
  pub tree : TermTree
  pub is : v ≡ term first name tree
  pub known : Known Name.Term xs ys (term first name tree)

pub term_at : {xs ys : List Lexeme} {v : Value} → Known Name.Term xs ys v → Term xs ys v
term_at k = let s = k.sort in record { first = s.first; name = s.name; tree = s.tree; is = s.is; known = known_of s.is k }

-- ---- literals

literal_behind_to : (first : Lexeme) (name : Option AtomTree) (x : TermTree) {xs ms ys : List Lexeme} {vs : List Value} → Known Name.Term xs ms (term first name x) → May (literal_behind (class_of (term first name x ∷ []))) ms ys vs → Known Name.Literal xs ys (literal_made (term first name x ∷ vs))
literal_behind_to first (Some a) x k (Reads.left (Reads.seq (Reads.call n) (Reads.call o))) = known_step Name.Literal _ _ _ (Reads.right (Reads.seq (Reads.call k) (Reads.seq (Reads.call n) (Reads.call o))))
literal_behind_to first (Some a) x k (Reads.right Reads.empty) = known_step Name.Literal _ _ _ (Reads.left (Reads.seq (Reads.right Reads.empty) (Reads.call (atom_at k))))
literal_behind_to first None x k (Reads.seq (Reads.call n) (Reads.call o)) = known_step Name.Literal _ _ _ (Reads.right (Reads.seq (Reads.call k) (Reads.seq (Reads.call n) (Reads.call o))))

pub literal_to : (xs ys : List Lexeme) (vs : List Value) → May (part_rule (Part.Of Name.Literal)) xs ys vs → Known Name.Literal xs ys (literal_made vs)
literal_to xs ys vs (Reads.left (Reads.seq (Reads.tok e) (Reads.call m))) = known_step Name.Literal _ _ _ (Reads.left (Reads.seq (Reads.left (Reads.tok e)) (Reads.call m)))
literal_to xs ys vs (Reads.right (Reads.followed (Reads.call {v = v} m) rest)) = let s = term_at m in rw s.is (literal_behind_to s.first s.name s.tree s.known (rw s.is at rest))

-- ---- heads

-- a choice behind its left guard
choice_to : (first : Lexeme) (g : Guard) {xs ms ys : List Lexeme} {cs : List Value} → Known Name.LeftGuard xs ms (left first g) → May choice ms ys cs → Known Name.Head xs ys (made Name.Head (left first g ∷ cs))
choice_to first g k (Reads.seq braces rest) = known_step Name.Head _ _ _ (Reads.right (Reads.seq (Reads.left (Reads.call k)) (Reads.seq (documented (in_braces Name.ChoiceElement) _ _ _ braces) (documented (opt (Call Name.RightGuard)) _ _ _ rest))))

related_to : (first : Lexeme) (name : Option AtomTree) (x : TermTree) {xs ms ks ys : List Lexeme} {w : Value} {cs : List Value} → Known Name.Term xs ms (term first name x) → Known Name.Relation ms ks w → May choice ks ys cs → Known Name.Head xs ys (head_made (term first name x ∷ w ∷ cs))
related_to first name x {w = w} k n c =
    let r = n.sort in
    let guard = known_step Name.LeftGuard _ _ _ (Reads.seq (Reads.call k) (Reads.left (Reads.call (known_of r.1 n)))) in
    rw r.1 (choice_to first _ guard c)

unrelated_to : (first : Lexeme) (name : Option AtomTree) (x : TermTree) {xs ms ys : List Lexeme} {cs : List Value} → Known Name.Term xs ms (term first name x) → May choice ms ys cs → Known Name.Head xs ys (head_made (term first name x ∷ cs))
unrelated_to first name x k (Reads.seq (Reads.seq (Reads.tok {t = brace} e) d) rest) =
    let guard = known_step Name.LeftGuard _ _ _ (Reads.seq (Reads.call k) (Reads.right Reads.empty)) in
    choice_to first _ guard (Reads.seq (Reads.seq (Reads.tok {t = brace} e) d) rest)

head_behind_to : (first : Lexeme) (name : Option AtomTree) (x : TermTree) {xs ms ys : List Lexeme} {vs : List Value} → Known Name.Term xs ms (term first name x) → May (head_behind (class_of (term first name x ∷ []))) ms ys vs → Known Name.Head xs ys (head_made (term first name x ∷ vs))
head_behind_to first (Some a) x k (Reads.left (Reads.seq (Reads.left (Reads.call n)) c)) = related_to first (Some a) x k n c
head_behind_to first (Some a) x k (Reads.left (Reads.seq (Reads.right Reads.empty) c)) = unrelated_to first (Some a) x k c
head_behind_to first (Some a) x k (Reads.right Reads.empty) = known_step Name.Head _ _ _ (Reads.left (Reads.call (atom_at k)))
head_behind_to first None x k (Reads.seq (Reads.left (Reads.call n)) c) = related_to first None x k n c
head_behind_to first None x k (Reads.seq (Reads.right Reads.empty) c) = unrelated_to first None x k c

pub head_to : (xs ys : List Lexeme) (vs : List Value) → May (part_rule (Part.Of Name.Head)) xs ys vs → Known Name.Head xs ys (head_made vs)
head_to xs ys vs (Reads.left (Reads.followed (Reads.call {v = v} m) rest)) = let s = term_at m in rw s.is (head_behind_to s.first s.name s.tree s.known (rw s.is at rest))
head_to xs ys vs (Reads.right (Reads.seq (Reads.seq (Reads.tok {t = brace} e) d) rest)) =
    known_step Name.Head _ _ _ (Reads.right (Reads.seq (Reads.right Reads.empty) (Reads.seq (documented (in_braces Name.ChoiceElement) _ _ _ (Reads.seq (Reads.tok {t = brace} e) d)) (documented (opt (Call Name.RightGuard)) _ _ _ rest))))
