-- Formulas read back.
use Rattle.std.proofs.Common.{◌≡◌, ℕ, Bool, true, false, true≢false, cond, List, [], ◌∷◌, ◌++◌, map, refl, sym, ap, subst, ◌∙◌}
use Rattle.std.specs.Prelude.{codes, nat_le}
use Rattle.grammar.specs.Form.{Derives}
use Rattle.grammar.specs.Form.Form.{Call}
use Rattle.ap_syntax.specs.declared.terms.Atom.{Atom}
use Rattle.ap_syntax.specs.declared.preferences.Formula.{Formula, fold-Formula, fold-roll-Formula}
use Rattle.ap_syntax.specs.declared.preferences.Formula.TheVariants as formulas
use Rattle.ap_syntax.specs.declared.preferences.Formula.TheOpen.{Formula-F}
use Rattle.ap_syntax.specs.Pieces.{Piece, in_parentheses, parted, spaced, spaced_behind}
use Rattle.ap_syntax.specs.CanonicalTerms.{Written, at_least}
use Rattle.ap_syntax.specs.CanonicalPreferences.{formula_step}
use Rattle.ap_grammar.specs.declared.terminals.Terminal.TheVariants as t
use Rattle.ap_grammar.specs.Lexemes.{Lexeme}
use Rattle.ap_grammar.specs.Values.{as_formula, first_of}
use Rattle.ap_grammar.specs.Values.Value.{formula}
use Rattle.ap_grammar.specs.Grammar.{Name, conjunction_of, disjunction_of, grammar}
use Rattle.canonical_law.proofs.Lexing.{Ends}
use Rattle.canonical_law.proofs.Spells.{Spells, Clear, split, clear_append, spaced_is, spaced_clear, spaced_behind_clear}
use Rattle.canonical_law.proofs.Signs as sign
use Rattle.canonical_law.proofs.Levels.{closing, parentheses_clear}
use Rattle.canonical_law.proofs.Lists.{Each, alike_same, Between, GoodItem, all_read, all_clear, from_here, up_to}
use Rattle.canonical_law.proofs.Literals.{GoodAtom, IsAtom, atom_clear, atom_spelled}

abbrev pub formula_written : Formula → Written
formula_written = fold-Formula Written formula_step

pub data Rank : Type 0 where
  Disjunction : Rank
  Conjunction : Rank
  Negation : Rank
  Atomic : Rank

abbrev pub rank_number : Rank → ℕ
rank_number Rank.Disjunction = 0
rank_number Rank.Conjunction = 1
rank_number Rank.Negation = 2
rank_number Rank.Atomic = 3

pub record IsFormula (n : Name) (xs ys : List Lexeme) (f : Formula) : Type 0 where
  pub first : Lexeme
  pub derives : Derives grammar (Call n) xs ys (formula first f ∷ [])

-- an atom alone
pub record IsAlone (xs ys : List Lexeme) (f : Formula) : Type 0 where
  pub atom : Atom
  pub is : f ≡ formulas.Atom atom
  pub derives : IsAtom xs ys atom

abbrev pub RankedAt : Rank → List Lexeme → List Lexeme → Formula → Type 0
RankedAt Rank.Disjunction xs ys f = IsFormula Name.Formula xs ys f
RankedAt Rank.Conjunction xs ys f = IsFormula Name.Conjunction xs ys f
RankedAt Rank.Negation xs ys f = IsFormula Name.Member xs ys f
RankedAt Rank.Atomic xs ys f = IsAlone xs ys f

pub record GoodWritten (w : Written) (f : Formula) : Type 0 where
  pub rank : Rank
  pub is : w.level ≡ rank_number rank
  pub derives : {xs ys : List Lexeme} → Spells w.pieces xs ys → RankedAt rank xs ys f
  pub clear : (rest : List ℕ) → Ends rest → Clear w.pieces rest

abbrev pub GoodFormula : Formula → Type 0
GoodFormula f = GoodWritten (formula_written f) f

-- ---- from each rank to the looser ones

alone_member : {xs ys : List Lexeme} {f : Formula} → IsAlone xs ys f → IsFormula Name.Member xs ys f
alone_member {xs = xs} {ys = ys} p = record { first = p.derives.first; derives = subst (λ g. Derives grammar (Call Name.Member) xs ys (formula p.derives.first g ∷ [])) (sym p.is) (Derives.call (Derives.seq (Derives.right Derives.empty) (Derives.left p.derives.derives))) }

member_conjunction : {xs ys : List Lexeme} {f : Formula} → IsFormula Name.Member xs ys f → IsFormula Name.Conjunction xs ys f
member_conjunction p = record { first = p.first; derives = Derives.call (Derives.seq p.derives Derives.none) }

conjunction_formula : {xs ys : List Lexeme} {f : Formula} → IsFormula Name.Conjunction xs ys f → IsFormula Name.Formula xs ys f
conjunction_formula p = record { first = p.first; derives = Derives.call (Derives.seq p.derives Derives.none) }

to_formula : (k : Rank) {xs ys : List Lexeme} {f : Formula} → RankedAt k xs ys f → IsFormula Name.Formula xs ys f
to_formula Rank.Disjunction a = a
to_formula Rank.Conjunction a = conjunction_formula a
to_formula Rank.Negation a = conjunction_formula (member_conjunction a)
to_formula Rank.Atomic a = conjunction_formula (member_conjunction (alone_member a))

to_conjunction : (k : Rank) {xs ys : List Lexeme} {f : Formula} → nat_le 1 (rank_number k) ≡ true → RankedAt k xs ys f → IsFormula Name.Conjunction xs ys f
to_conjunction Rank.Disjunction h a = absurd (true≢false (sym h))
to_conjunction Rank.Conjunction h a = a
to_conjunction Rank.Negation h a = member_conjunction a
to_conjunction Rank.Atomic h a = member_conjunction (alone_member a)

to_member : (k : Rank) {xs ys : List Lexeme} {f : Formula} → nat_le 2 (rank_number k) ≡ true → RankedAt k xs ys f → IsFormula Name.Member xs ys f
to_member Rank.Disjunction h a = absurd (true≢false (sym h))
to_member Rank.Conjunction h a = absurd (true≢false (sym h))
to_member Rank.Negation h a = a
to_member Rank.Atomic h a = alone_member a

to_alone : (k : Rank) {xs ys : List Lexeme} {f : Formula} → nat_le 3 (rank_number k) ≡ true → RankedAt k xs ys f → IsAlone xs ys f
to_alone Rank.Disjunction h a = absurd (true≢false (sym h))
to_alone Rank.Conjunction h a = absurd (true≢false (sym h))
to_alone Rank.Negation h a = absurd (true≢false (sym h))
to_alone Rank.Atomic h a = a

-- ---- in parentheses

-- a formula between two parentheses
record InGroup (xs ys : List Lexeme) (f : Formula) : Type 0 where
  paren : Lexeme
  close : Lexeme
  middle : List Lexeme
  begins : xs ≡ paren ∷ middle
  opens : paren.terminal ≡ t.Open
  closes : close.terminal ≡ t.Close
  inner : IsFormula Name.Formula middle (close ∷ ys) f

in_group : {w : Written} {f : Formula} {xs ys : List Lexeme} → GoodWritten w f → Spells (in_parentheses w.pieces) xs ys → InGroup xs ys f
in_group {w = w} g (Spells.word i s) =
    let q = split w.pieces s in
    let c = closing q.2 in
    let p = to_formula g.rank (g.derives q.1) in
    record { paren = _; close = c.0; middle = _; begins = refl; opens = sign.open_is i; closes = c.2; inner = record { first = p.first; derives = up_to c.1 p.derives } }

group_member : {xs ys : List Lexeme} {f : Formula} → InGroup xs ys f → IsFormula Name.Member xs ys f
group_member {ys = ys} p = record { first = p.paren; derives = from_here (sym p.begins) (Derives.call (Derives.seq (Derives.right Derives.empty) (Derives.right (Derives.seq (Derives.tok {t = p.paren} p.opens) (Derives.seq p.inner.derives (Derives.tok {t = p.close} {ts = ys} p.closes)))))) }

pub placed_member : {w : Written} {f : Formula} {xs ys : List Lexeme} → GoodWritten w f → Spells (at_least 2 w) xs ys → IsFormula Name.Member xs ys f
placed_member {w = w} {f = f} {xs = xs} {ys = ys} g s = choose (nat_le 2 w.level) refl s
  where
    choose : (b : Bool) → nat_le 2 w.level ≡ b → Spells (cond b w.pieces (in_parentheses w.pieces)) xs ys → IsFormula Name.Member xs ys f
    choose true e s = to_member g.rank (rw g.is at e) (g.derives s)
    choose false e s = group_member (in_group g s)

pub placed_conjunction : {w : Written} {f : Formula} {xs ys : List Lexeme} → GoodWritten w f → Spells (at_least 1 w) xs ys → IsFormula Name.Conjunction xs ys f
placed_conjunction {w = w} {f = f} {xs = xs} {ys = ys} g s = choose (nat_le 1 w.level) refl s
  where
    choose : (b : Bool) → nat_le 1 w.level ≡ b → Spells (cond b w.pieces (in_parentheses w.pieces)) xs ys → IsFormula Name.Conjunction xs ys f
    choose true e s = to_conjunction g.rank (rw g.is at e) (g.derives s)
    choose false e s = member_conjunction (group_member (in_group g s))

pub placed_formula : {w : Written} {f : Formula} {xs ys : List Lexeme} → GoodWritten w f → Spells (at_least 0 w) xs ys → IsFormula Name.Formula xs ys f
placed_formula {w = w} {f = f} {xs = xs} {ys = ys} g s = choose (nat_le 0 w.level) s
  where
    choose : (b : Bool) → Spells (cond b w.pieces (in_parentheses w.pieces)) xs ys → IsFormula Name.Formula xs ys f
    choose true s = to_formula g.rank (g.derives s)
    choose false s = conjunction_formula (member_conjunction (group_member (in_group g s)))

pub formula_clear : (n : ℕ) {w : Written} {f : Formula} → GoodWritten w f → (rest : List ℕ) → Ends rest → Clear (at_least n w) rest
formula_clear n {w = w} g rest h = choose (nat_le n w.level)
  where
    choose : (b : Bool) → Clear (cond b w.pieces (in_parentheses w.pieces)) rest
    choose true = g.clear rest h
    choose false = parentheses_clear w.pieces rest g.clear

-- ---- atoms and negations

pub good_atomic : (a : Atom) → GoodAtom a → GoodFormula (formulas.Atom a)
good_atomic a g = subst (λ w. GoodWritten w (formulas.Atom a)) (sym (ap formula_written (sym (formulas.rolls-Atom a)) ∙ fold-roll-Formula Written formula_step (Formula-F.Atom a))) (record {
  rank = Rank.Atomic;
  is = refl;
  derives = λ s. record { atom = a; is = refl; derives = atom_spelled g s };
  clear = λ rest h. atom_clear rest g h;
})

not_alone : {x : Lexeme} {xs ys : List Lexeme} {f : Formula} → x.terminal ≡ t.Not → IsAlone xs ys f → IsFormula Name.Member (x ∷ xs) ys (formulas.Not f)
not_alone {x = x} {xs = xs} {ys = ys} e p = record { first = x; derives = subst (λ g. Derives grammar (Call Name.Member) (x ∷ xs) ys (formula x (formulas.Not g) ∷ [])) (sym p.is) (Derives.call (Derives.seq (Derives.left (Derives.tok e)) (Derives.left p.derives.derives))) }

not_group : {x : Lexeme} {xs ys : List Lexeme} {f : Formula} → x.terminal ≡ t.Not → InGroup xs ys f → IsFormula Name.Member (x ∷ xs) ys (formulas.Not f)
not_group {x = x} {ys = ys} e p = record { first = x; derives = Derives.call (Derives.seq (Derives.left (Derives.tok e)) (from_here (sym p.begins) (Derives.right (Derives.seq (Derives.tok {t = p.paren} p.opens) (Derives.seq p.inner.derives (Derives.tok {t = p.close} {ts = ys} p.closes)))))) }

not_spelled : {f : Formula} {xs ys : List Lexeme} → GoodFormula f → Spells (spaced_behind (codes "not") ++ at_least 3 (formula_written f)) xs ys → IsFormula Name.Member xs ys (formulas.Not f)
not_spelled {f = f} {ys = ys} g (Spells.word {x = x} i (Spells.blank {xs = ms} s)) = choose (nat_le 3 (formula_written f).level) refl s
  where
    choose : (b : Bool) → nat_le 3 (formula_written f).level ≡ b → Spells (cond b (formula_written f).pieces (in_parentheses (formula_written f).pieces)) ms ys → IsFormula Name.Member (x ∷ ms) ys (formulas.Not f)
    choose true e s = not_alone (sign.not_is i) (to_alone g.rank (rw g.is at e) (g.derives s))
    choose false e s = not_group (sign.not_is i) (in_group g s)

pub good_not : (f : Formula) → GoodFormula f → GoodFormula (formulas.Not f)
good_not f g = subst (λ w. GoodWritten w (formulas.Not f)) (sym (ap formula_written (sym (formulas.rolls-Not f)) ∙ fold-roll-Formula Written formula_step (Formula-F.Not f))) (record {
  rank = Rank.Negation;
  is = refl;
  derives = not_spelled g;
  clear = λ rest h. clear_append (spaced_behind (codes "not")) _ rest (spaced_behind_clear _ sign.not_one (sign.not_apart _)) (formula_clear 3 g rest h);
})

-- ---- conjunctions and disjunctions

abbrev pub member_pieces : Formula → List Piece
member_pieces f = at_least 2 (formula_written f)

abbrev pub conjunct_pieces : Formula → List Piece
conjunct_pieces f = at_least 1 (formula_written f)

and_between : Between (spaced (codes "&")) t.And
and_between = record {
  derives = λ s. let q = spaced_is s in (q.0, q.1, sign.and_is q.2);
  clear = λ rest. spaced_clear rest sign.and_one (sign.and_apart _);
  ends = λ rest. refl;
}

or_between : Between (spaced (codes "|")) t.Or
or_between = record {
  derives = λ s. let q = spaced_is s in (q.0, q.1, sign.or_is q.2);
  clear = λ rest. spaced_clear rest sign.or_one (sign.or_apart _);
  ends = λ rest. refl;
}

pub pieces_at : (n : ℕ) (fs : List Formula) → map (at_least n) (map formula_written fs) ≡ map (λ f. at_least n (formula_written f)) fs
pieces_at n [] = refl
pieces_at n (f ∷ fs) = ap (λ ps. at_least n (formula_written f) ∷ ps) (pieces_at n fs)

member_items : (fs : List Formula) → Each GoodFormula fs → Each (GoodItem (λ f g. f ≡ g) member_pieces as_formula formula (Call Name.Member)) fs
member_items [] Each.none = Each.none
member_items (f ∷ fs) (Each.more g gs) = Each.more (record { derives = λ s. let p = placed_member g s in record { info = p.first; read = f; derives = p.derives; same = refl }; clear = λ rest h. formula_clear 2 g rest h }) (member_items fs gs)

conjunct_items : (fs : List Formula) → Each GoodFormula fs → Each (GoodItem (λ f g. f ≡ g) conjunct_pieces as_formula formula (Call Name.Conjunction)) fs
conjunct_items [] Each.none = Each.none
conjunct_items (f ∷ fs) (Each.more g gs) = Each.more (record { derives = λ s. let p = placed_conjunction g s in record { info = p.first; read = f; derives = p.derives; same = refl }; clear = λ rest h. formula_clear 1 g rest h }) (conjunct_items fs gs)

and_spelled : (f g : Formula) (fs : List Formula) {xs ys : List Lexeme} → Each GoodFormula (f ∷ g ∷ fs) → Spells (parted (spaced (codes "&")) (map member_pieces (f ∷ g ∷ fs))) xs ys → IsFormula Name.Conjunction xs ys (formulas.And (f ∷ g ∷ fs))
and_spelled f g fs {xs = xs} {ys = ys} h s =
    let r = all_read (λ f g. f ≡ g) member_pieces as_formula formula (Call Name.Member) t.And _ and_between (λ x. refl) (λ i x. refl) f (g ∷ fs) (member_items (f ∷ g ∷ fs) h) s in
    record { first = first_of r.values; derives = subst (λ ms. Derives grammar (Call Name.Conjunction) xs ys (formula (first_of r.values) (conjunction_of ms) ∷ [])) (r.picked ∙ alike_same r.same) (Derives.call {n = Name.Conjunction} r.derives) }

or_spelled : (f g : Formula) (fs : List Formula) {xs ys : List Lexeme} → Each GoodFormula (f ∷ g ∷ fs) → Spells (parted (spaced (codes "|")) (map conjunct_pieces (f ∷ g ∷ fs))) xs ys → IsFormula Name.Formula xs ys (formulas.Or (f ∷ g ∷ fs))
or_spelled f g fs {xs = xs} {ys = ys} h s =
    let r = all_read (λ f g. f ≡ g) conjunct_pieces as_formula formula (Call Name.Conjunction) t.Or _ or_between (λ x. refl) (λ i x. refl) f (g ∷ fs) (conjunct_items (f ∷ g ∷ fs) h) s in
    record { first = first_of r.values; derives = subst (λ ms. Derives grammar (Call Name.Formula) xs ys (formula (first_of r.values) (disjunction_of ms) ∷ [])) (r.picked ∙ alike_same r.same) (Derives.call {n = Name.Formula} r.derives) }

pub good_and : (f g : Formula) (fs : List Formula) → Each GoodFormula (f ∷ g ∷ fs) → GoodFormula (formulas.And (f ∷ g ∷ fs))
good_and f g fs h = subst (λ w. GoodWritten w (formulas.And (f ∷ g ∷ fs))) (sym (ap formula_written (sym (formulas.rolls-And (f ∷ g ∷ fs))) ∙ fold-roll-Formula Written formula_step (Formula-F.And (f ∷ g ∷ fs)) ∙ ap (λ ps. record { level = 1; pieces = parted (spaced (codes "&")) ps }) (pieces_at 2 (f ∷ g ∷ fs)))) (record {
  rank = Rank.Conjunction;
  is = refl;
  derives = and_spelled f g fs h;
  clear = λ rest e. all_clear (λ f g. f ≡ g) member_pieces as_formula formula (Call Name.Member) t.And _ and_between (λ x. refl) (λ i x. refl) f (g ∷ fs) (member_items (f ∷ g ∷ fs) h) rest e;
})

pub good_or : (f g : Formula) (fs : List Formula) → Each GoodFormula (f ∷ g ∷ fs) → GoodFormula (formulas.Or (f ∷ g ∷ fs))
good_or f g fs h = subst (λ w. GoodWritten w (formulas.Or (f ∷ g ∷ fs))) (sym (ap formula_written (sym (formulas.rolls-Or (f ∷ g ∷ fs))) ∙ fold-roll-Formula Written formula_step (Formula-F.Or (f ∷ g ∷ fs)) ∙ ap (λ ps. record { level = 0; pieces = parted (spaced (codes "|")) ps }) (pieces_at 1 (f ∷ g ∷ fs)))) (record {
  rank = Rank.Disjunction;
  is = refl;
  derives = or_spelled f g fs h;
  clear = λ rest e. all_clear (λ f g. f ≡ g) conjunct_pieces as_formula formula (Call Name.Conjunction) t.Or _ or_between (λ x. refl) (λ i x. refl) f (g ∷ fs) (conjunct_items (f ∷ g ∷ fs) h) rest e;
})
