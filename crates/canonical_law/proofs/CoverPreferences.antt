-- What is written of preference statements costs no more than their tokens.
use Rattle.std.proofs.Common.{◌≡◌, ℕ, true, List, [], ◌∷◌, ◌++◌, map, Option, Some, None, refl, sym, ap, subst, ◌∙◌, append_assoc}
use Rattle.std.specs.Prelude.{codes, nat_le}
use Rattle.std.proofs.lemmas.List.{append-nil}
use Rattle.grammar.specs.Form.{◌⨾◌}
use Rattle.grammar.specs.Form.Form.{Tok, Call, Star}
use Rattle.grammar.proofs.Interpret.{Reads}
use Rattle.ap_syntax.specs.declared.terms.Atom.{Atom}
use Rattle.ap_syntax.specs.declared.terms.Literal.{Literal}
use Rattle.ap_syntax.specs.declared.preferences.Formula.{Formula, fold-roll-Formula}
use Rattle.ap_syntax.specs.declared.preferences.Formula.TheVariants as formulas
use Rattle.ap_syntax.specs.declared.preferences.Formula.TheOpen.{Formula-F}
use Rattle.ap_syntax.specs.declared.preferences.Ranked.{Ranked}
use Rattle.ap_syntax.specs.Pieces.{Piece, parted, spaced, spaced_behind}
use Rattle.ap_syntax.specs.CanonicalTerms.{Written, at_least, atom_pieces}
use Rattle.ap_syntax.specs.CanonicalRules.{condition_pieces}
use Rattle.ap_syntax.specs.CanonicalPreferences.{formula_step, given_pieces, ranked_pieces}
use Rattle.ap_grammar.specs.declared.terminals.Terminal.TheVariants as t
use Rattle.ap_grammar.specs.Values.{Value, as_condition, as_formula, as_given, as_ranked, as_target, as_term, collected, first_of, found, or_empty}
use Rattle.ap_grammar.specs.Values.Value.{ranked, target, token}
use Rattle.ap_grammar.specs.Grammar.{Name, conjunction_of, disjunction_of, made, or_nothing, rule_of}
use Rattle.ap_lexemes.specs.Limits.{role_of}
use Rattle.canonical_law.proofs.Signs as sign
use Rattle.canonical_law.proofs.Lists.{behind, parted_behind}
use Rattle.canonical_law.proofs.Formulas.{conjunct_pieces, formula_written, member_pieces, pieces_at}
use Rattle.canonical_law.proofs.Costs.{Covered, ascii_word, CoveredAt, IsPlain, Loose, covered_behind, covered_nothing, covered_spaced, covered_spaced_behind, covered_then, group_covered, loose, loose_as, loose_nothing, loose_spaced, loose_then, loose_word, looser_covered, placed_covered}
use Rattle.canonical_law.proofs.Fine.{Fine}
use Rattle.canonical_law.proofs.Covers.{Covers, CoversFormula, Has}
use Rattle.canonical_law.proofs.CoverTerms.{AreSome, at_level, below, covered_name, plain_token, some_covers}
use Rattle.canonical_law.proofs.CoverRules.{plain_colon, plain_not}

-- ---- plain words

plain_and : IsPlain (codes "&")
plain_and = ascii_word refl (λ x i. plain_token (sign.and_is i) refl)

plain_or : IsPlain (codes "|")
plain_or = ascii_word refl (λ x i. plain_token (sign.or_is i) refl)

plain_stars : IsPlain (codes "**")
plain_stars = ascii_word refl (λ x i. plain_token (sign.stars_is i) refl)

plain_weighs : IsPlain (codes "::")
plain_weighs = ascii_word refl (λ x i. plain_token (sign.weighs_is i) refl)

plain_better : IsPlain (codes ">>")
plain_better = ascii_word refl (λ x i. plain_token (sign.better_is i) refl)

plain_bars : IsPlain (codes "||")
plain_bars = ascii_word refl (λ x i. plain_token (sign.bars_is i) refl)

-- ---- formulas

atom_written : (a : Atom) → formula_written (formulas.Atom a) ≡ record { level = 3; pieces = atom_pieces a }
atom_written a = ap formula_written (sym (formulas.rolls-Atom a)) ∙ fold-roll-Formula Written formula_step (Formula-F.Atom a)

not_written : (f : Formula) → formula_written (formulas.Not f) ≡ record { level = 2; pieces = spaced_behind (codes "not") ++ at_least 3 (formula_written f) }
not_written f = ap formula_written (sym (formulas.rolls-Not f)) ∙ fold-roll-Formula Written formula_step (Formula-F.Not f)

and_written : (fs : List Formula) → formula_written (formulas.And fs) ≡ record { level = 1; pieces = parted (spaced (codes "&")) (map member_pieces fs) }
and_written fs = ap formula_written (sym (formulas.rolls-And fs)) ∙ fold-roll-Formula Written formula_step (Formula-F.And fs) ∙ ap (λ ps. record { level = 1; pieces = parted (spaced (codes "&")) ps }) (pieces_at 2 fs)

or_written : (fs : List Formula) → formula_written (formulas.Or fs) ≡ record { level = 0; pieces = parted (spaced (codes "|")) (map conjunct_pieces fs) }
or_written fs = ap formula_written (sym (formulas.rolls-Or fs)) ∙ fold-roll-Formula Written formula_step (Formula-F.Or fs) ∙ ap (λ ps. record { level = 0; pieces = parted (spaced (codes "|")) ps }) (pieces_at 1 fs)

atomic : (n : ℕ) (a : Atom) {xs ys : List Fine} → nat_le n 3 ≡ true → Covered (atom_pieces a) 0 xs ys → CoveredAt n (formula_written (formulas.Atom a)) xs ys
atomic n a h c = at_level n (atom_written a) h c

negated : (f : Formula) {x : Fine} {xs ys : List Fine} → x.token.terminal ≡ t.Not → CoveredAt 3 (formula_written f) xs ys → CoveredAt 2 (formula_written (formulas.Not f)) (x ∷ xs) ys
negated f e c = at_level 2 (not_written f) refl (covered_then (covered_spaced_behind plain_not (plain_token e refl)) (placed_covered 3 c))

not_atom : {xs ys : List Fine} (x : Fine) (v : Value) → x.token.terminal ≡ t.Not → Covers Name.Atom xs ys v → CoversFormula 2 (x ∷ xs) ys (made Name.Member (token x.token ∷ v ∷ []))
not_atom x v e m = rw m.2 (record { first = x.token; tree = _; is = refl; covered = negated (formulas.Atom m.1) e (atomic 3 m.1 refl m.3) })

not_group : {xs ys : List Fine} (x p : Fine) (v : Value) (c : Fine) → x.token.terminal ≡ t.Not → p.token.terminal ≡ t.Open → c.token.terminal ≡ t.Close → CoversFormula 0 xs (c ∷ ys) v → CoversFormula 2 (x ∷ p ∷ xs) ys (made Name.Member (token x.token ∷ token p.token ∷ v ∷ token c.token ∷ []))
not_group x p v c e f g s = rw s.is (record { first = x.token; tree = _; is = refl; covered = negated s.tree e (group_covered 3 (ap role_of f) (ap role_of g) s.covered) })

group_alone : {xs ys : List Fine} (p : Fine) (v : Value) (c : Fine) → p.token.terminal ≡ t.Open → c.token.terminal ≡ t.Close → CoversFormula 0 xs (c ∷ ys) v → CoversFormula 2 (p ∷ xs) ys (made Name.Member (token p.token ∷ v ∷ token c.token ∷ []))
group_alone p v c f g s = rw s.is (record { first = p.token; tree = s.tree; is = refl; covered = group_covered 2 (ap role_of f) (ap role_of g) s.covered })

pub member_covers : {xs ys : List Fine} {vs : List Value} → Has (rule_of Name.Member) xs ys vs → CoversFormula 2 xs ys (made Name.Member vs)
member_covers (Reads.seq (Reads.left (Reads.tok {t = x} e)) (Reads.left (Reads.call {v = v} m))) = not_atom x v e m
member_covers (Reads.seq (Reads.left (Reads.tok {t = x} e)) (Reads.right (Reads.seq (Reads.tok {t = p} f) (Reads.seq (Reads.call {v = v} m) (Reads.tok {t = c} g))))) = not_group x p v c e f g m
member_covers (Reads.seq (Reads.right Reads.empty) (Reads.left (Reads.call {v = v} m))) = rw m.2 (record { first = m.0; tree = _; is = refl; covered = atomic 2 m.1 refl m.3 })
member_covers (Reads.seq (Reads.right Reads.empty) (Reads.right (Reads.seq (Reads.tok {t = p} f) (Reads.seq (Reads.call {v = v} m) (Reads.tok {t = c} g))))) = group_alone p v c f g m

-- formulas behind a sign
record AreFormulas (between : List Piece) (pieces : Formula → List Piece) (xs ys : List Fine) (vs : List Value) : Type 0 where
  trees : List Formula
  are : collected as_formula vs ≡ trees
  covered : Covered (behind between (map pieces trees)) 0 xs ys

sign_member : {xs ms ys : List Fine} (sign : Fine) (v : Value) (vs : List Value) → sign.token.terminal ≡ t.And → CoversFormula 2 xs ms v → AreFormulas (spaced (codes "&")) member_pieces ms ys vs → AreFormulas (spaced (codes "&")) member_pieces (sign ∷ xs) ys (token sign.token ∷ v ∷ vs)
sign_member sign v vs e s a = record { trees = s.tree ∷ a.trees; are = rw s.is (ap (λ fs. s.tree ∷ fs) a.are); covered = covered_then (covered_spaced plain_and (plain_token e refl)) (covered_then (placed_covered 2 s.covered) a.covered) }

members_behind : {xs ys : List Fine} {vs : List Value} → Has (Star (Tok t.And ⨾ Call Name.Member)) xs ys vs → AreFormulas (spaced (codes "&")) member_pieces xs ys vs
members_behind Reads.none = record { trees = []; are = refl; covered = covered_nothing }
members_behind (Reads.more (Reads.seq (Reads.tok {t = x} e) (Reads.call {v = v} m)) rest) = sign_member x v _ e m (members_behind rest)

sign_conjunction : {xs ms ys : List Fine} (sign : Fine) (v : Value) (vs : List Value) → sign.token.terminal ≡ t.Or → CoversFormula 1 xs ms v → AreFormulas (spaced (codes "|")) conjunct_pieces ms ys vs → AreFormulas (spaced (codes "|")) conjunct_pieces (sign ∷ xs) ys (token sign.token ∷ v ∷ vs)
sign_conjunction sign v vs e s a = record { trees = s.tree ∷ a.trees; are = rw s.is (ap (λ fs. s.tree ∷ fs) a.are); covered = covered_then (covered_spaced plain_or (plain_token e refl)) (covered_then (placed_covered 1 s.covered) a.covered) }

conjunctions_behind : {xs ys : List Fine} {vs : List Value} → Has (Star (Tok t.Or ⨾ Call Name.Conjunction)) xs ys vs → AreFormulas (spaced (codes "|")) conjunct_pieces xs ys vs
conjunctions_behind Reads.none = record { trees = []; are = refl; covered = covered_nothing }
conjunctions_behind (Reads.more (Reads.seq (Reads.tok {t = x} e) (Reads.call {v = v} m)) rest) = sign_conjunction x v _ e m (conjunctions_behind rest)

-- one member is that member, and several stand for a conjunction
conjunction_covered : {xs ms ys : List Fine} (f : Formula) (fs : List Formula) → CoveredAt 2 (formula_written f) xs ms → Covered (behind (spaced (codes "&")) (map member_pieces fs)) 0 ms ys → CoveredAt 1 (formula_written (conjunction_of (f ∷ fs))) xs ys
conjunction_covered f [] c d = looser_covered 1 2 (below 1 2 refl) (covered_behind c d)
conjunction_covered {xs = xs} {ys = ys} f (g ∷ fs) c d = at_level 1 (and_written (f ∷ g ∷ fs)) refl (subst (λ ps. Covered ps 0 xs ys) (sym (parted_behind (spaced (codes "&")) (member_pieces f) (map member_pieces (g ∷ fs)))) (covered_then (placed_covered 2 c) d))

disjunction_covered : {xs ms ys : List Fine} (f : Formula) (fs : List Formula) → CoveredAt 1 (formula_written f) xs ms → Covered (behind (spaced (codes "|")) (map conjunct_pieces fs)) 0 ms ys → CoveredAt 0 (formula_written (disjunction_of (f ∷ fs))) xs ys
disjunction_covered f [] c d = looser_covered 0 1 (below 0 1 refl) (covered_behind c d)
disjunction_covered {xs = xs} {ys = ys} f (g ∷ fs) c d = at_level 0 (or_written (f ∷ g ∷ fs)) refl (subst (λ ps. Covered ps 0 xs ys) (sym (parted_behind (spaced (codes "|")) (conjunct_pieces f) (map conjunct_pieces (g ∷ fs)))) (covered_then (placed_covered 1 c) d))

conjunction_made : {xs ms ys : List Fine} (v : Value) (vs : List Value) → CoversFormula 2 xs ms v → AreFormulas (spaced (codes "&")) member_pieces ms ys vs → CoversFormula 1 xs ys (made Name.Conjunction (v ∷ vs))
conjunction_made v vs s a = rw (s.is, a.are) (record { first = s.first; tree = conjunction_of (s.tree ∷ a.trees); is = refl; covered = conjunction_covered s.tree a.trees s.covered a.covered })

disjunction_made : {xs ms ys : List Fine} (v : Value) (vs : List Value) → CoversFormula 1 xs ms v → AreFormulas (spaced (codes "|")) conjunct_pieces ms ys vs → CoversFormula 0 xs ys (made Name.Formula (v ∷ vs))
disjunction_made v vs s a = rw (s.is, a.are) (record { first = s.first; tree = disjunction_of (s.tree ∷ a.trees); is = refl; covered = disjunction_covered s.tree a.trees s.covered a.covered })

pub conjunction_covers : {xs ys : List Fine} {vs : List Value} → Has (rule_of Name.Conjunction) xs ys vs → CoversFormula 1 xs ys (made Name.Conjunction vs)
conjunction_covers (Reads.seq (Reads.call {v = v} m) rest) = conjunction_made v _ m (members_behind rest)

pub formula_covers : {xs ys : List Fine} {vs : List Value} → Has (rule_of Name.Formula) xs ys vs → CoversFormula 0 xs ys (made Name.Formula vs)
formula_covers (Reads.seq (Reads.call {v = v} m) rest) = disjunction_made v _ m (conjunctions_behind rest)

-- ---- targets and ranks

pub target_covers : {xs ys : List Fine} {vs : List Value} → Has (rule_of Name.Target) xs ys vs → Covers Name.Target xs ys (made Name.Target vs)
target_covers (Reads.left (Reads.call {v = v} m)) = rw m.is (m.first, _, refl, loose (placed_covered 0 m.covered))
target_covers (Reads.right (Reads.seq (Reads.tok {t = x} e) (Reads.call {v = v} m))) = rw m.is (x.token, _, refl, loose_then (loose_word plain_stars (plain_token e refl)) (loose (covered_name m)))

weighed : {xs ms ys : List Fine} (vs : List Value) (sign : Fine) (v : Value) → sign.token.terminal ≡ t.Weighs → AreSome xs (sign ∷ ms) vs → Covers Name.Target ms ys v → Covers Name.Ranked xs ys (made Name.Ranked ((vs ++ token sign.token ∷ []) ++ v ∷ []))
weighed vs sign v e a s =
    rw s.2 (
      first_of ((vs ++ token sign.token ∷ []) ++ target s.0 s.1 ∷ []),
      record { weights = a.first ∷ a.rest; target = s.1 },
      ap (λ ts. ranked (first_of ((vs ++ token sign.token ∷ []) ++ target s.0 s.1 ∷ [])) (record { weights = ts; target = or_nothing (found as_target ((vs ++ token sign.token ∷ []) ++ target s.0 s.1 ∷ [])) })) (ap (collected as_term) (append_assoc vs (token sign.token ∷ []) (target s.0 s.1 ∷ [])) ∙ (a.are (token sign.token ∷ target s.0 s.1 ∷ []) ∙ append-nil (a.first ∷ a.rest)))
          ∙ ap (λ o. ranked (first_of ((vs ++ token sign.token ∷ []) ++ target s.0 s.1 ∷ [])) (record { weights = a.first ∷ a.rest; target = or_nothing o })) (ap (found as_target) (append_assoc vs (token sign.token ∷ []) (target s.0 s.1 ∷ [])) ∙ a.no_target (token sign.token ∷ target s.0 s.1 ∷ [])),
      loose_then (loose_then (loose a.covered) (loose_spaced plain_weighs (plain_token e refl))) s.3,
    )

unweighed : {xs ys : List Fine} (v : Value) → Covers Name.Target xs ys v → Covers Name.Ranked xs ys (made Name.Ranked (v ∷ []))
unweighed v s = rw s.2 (s.0, _, refl, loose_then loose_nothing s.3)

pub ranked_covers : {xs ys : List Fine} {vs : List Value} → Has (rule_of Name.Ranked) xs ys vs → Covers Name.Ranked xs ys (made Name.Ranked vs)
ranked_covers (Reads.seq (Reads.right Reads.empty) (Reads.call {v = v} m)) = unweighed v m
ranked_covers (Reads.seq (Reads.left (Reads.seq {us = us} n (Reads.tok {t = x} e))) (Reads.call {v = v} m)) = weighed us x v e (some_covers n) m

-- ---- elements

pub given_covers : {xs ys : List Fine} {vs : List Value} → Has (rule_of Name.Given) xs ys vs → Covers Name.Given xs ys (made Name.Given vs)
given_covers (Reads.seq (Reads.tok {t = x} e) (Reads.call {v = v} m)) = rw m.2 (_, refl, loose_then (loose_spaced plain_bars (plain_token e refl)) m.3)

pub domain_covers : {xs ys : List Fine} {vs : List Value} → Has (rule_of Name.Domain) xs ys vs → Covers Name.Domain xs ys (made Name.Domain vs)
domain_covers (Reads.seq (Reads.tok {t = x} e) (Reads.call {v = v} m)) = rw m.2 (_, _, refl, loose_then (loose_spaced plain_colon (plain_token e refl)) m.3)

-- ranks behind the first, before other values
record RanksBefore (xs ys : List Fine) (vs : List Value) : Type 0 where
  ranks : List Ranked
  are : (ws : List Value) → collected as_ranked (vs ++ ws) ≡ ranks ++ collected as_ranked ws
  no_given : (ws : List Value) → found as_given (vs ++ ws) ≡ found as_given ws
  no_domain : (ws : List Value) → found as_condition (vs ++ ws) ≡ found as_condition ws
  covered : Loose (behind (spaced (codes ">>")) (map ranked_pieces ranks)) xs ys

rank_before : {xs ms ys : List Fine} (sign : Fine) (v : Value) (vs : List Value) → sign.token.terminal ≡ t.Better → Covers Name.Ranked xs ms v → RanksBefore ms ys vs → RanksBefore (sign ∷ xs) ys (token sign.token ∷ v ∷ vs)
rank_before sign v vs e s a = record { ranks = s.1 ∷ a.ranks; are = λ ws. rw s.2 (ap (λ rs. s.1 ∷ rs) (a.are ws)); no_given = λ ws. rw s.2 (a.no_given ws); no_domain = λ ws. rw s.2 (a.no_domain ws); covered = loose_then (loose_spaced plain_better (plain_token e refl)) (loose_then s.3 a.covered) }

ranks_before : {xs ys : List Fine} {vs : List Value} → Has (Star (Tok t.Better ⨾ Call Name.Ranked)) xs ys vs → RanksBefore xs ys vs
ranks_before Reads.none = record { ranks = []; are = λ ws. refl; no_given = λ ws. refl; no_domain = λ ws. refl; covered = loose_nothing }
ranks_before (Reads.more (Reads.seq (Reads.tok {t = x} e) (Reads.call {v = v} m)) rest) = rank_before x v _ e m (ranks_before rest)

-- what stands behind the ranks
record Behind (xs ys : List Fine) (ws : List Value) : Type 0 where
  given : Option Ranked
  given_is : found as_given ws ≡ given
  domain : List Literal
  domain_is : or_empty (found as_condition ws) ≡ domain
  no_ranks : collected as_ranked ws ≡ []
  middle : List Fine
  given_covered : Loose (given_pieces given) xs middle
  domain_covered : Loose (condition_pieces domain) middle ys

element_made : {xs ms ns ys : List Fine} (v : Value) (vs ws : List Value) → Covers Name.Ranked xs ms v → RanksBefore ms ns vs → Behind ns ys ws → Covers Name.Element xs ys (made Name.Element ((v ∷ vs) ++ ws))
element_made v vs ws s a b =
    rw s.2 (
      record { at = s.0.at; ranks = s.1 ∷ a.ranks; given = b.given; domain = b.domain },
      ap (λ rs. Value.element (record { at = s.0.at; ranks = s.1 ∷ rs; given = found as_given (vs ++ ws); domain = or_empty (found as_condition (vs ++ ws)) })) (a.are ws ∙ (ap (λ us. a.ranks ++ us) b.no_ranks ∙ append-nil a.ranks))
          ∙ (ap (λ g. Value.element (record { at = s.0.at; ranks = s.1 ∷ a.ranks; given = g; domain = or_empty (found as_condition (vs ++ ws)) })) (a.no_given ws ∙ b.given_is)
          ∙ ap (λ d. Value.element (record { at = s.0.at; ranks = s.1 ∷ a.ranks; given = b.given; domain = d })) (ap or_empty (a.no_domain ws) ∙ b.domain_is)),
      loose_then (loose_then (loose_as (parted_behind (spaced (codes ">>")) (ranked_pieces s.1) (map ranked_pieces a.ranks)) (loose_then s.3 a.covered)) b.given_covered) b.domain_covered,
    )

behind_both : {xs ms ys : List Fine} (v w : Value) → Covers Name.Given xs ms v → Covers Name.Domain ms ys w → Behind xs ys (v ∷ w ∷ [])
behind_both v w g d = rw (g.1, d.2) (record { given = Some g.0; given_is = refl; domain = d.0 ∷ d.1; domain_is = refl; no_ranks = refl; middle = _; given_covered = g.2; domain_covered = d.3 })

behind_given : {xs ys : List Fine} (v : Value) → Covers Name.Given xs ys v → Behind xs ys (v ∷ [])
behind_given v g = rw g.1 (record { given = Some g.0; given_is = refl; domain = []; domain_is = refl; no_ranks = refl; middle = _; given_covered = g.2; domain_covered = loose_nothing })

behind_domain : {xs ys : List Fine} (w : Value) → Covers Name.Domain xs ys w → Behind xs ys (w ∷ [])
behind_domain {xs = xs} w d = rw d.2 (record { given = None; given_is = refl; domain = d.0 ∷ d.1; domain_is = refl; no_ranks = refl; middle = xs; given_covered = loose_nothing; domain_covered = d.3 })

behind_nothing : {xs : List Fine} → Behind xs xs []
behind_nothing {xs = xs} = record { given = None; given_is = refl; domain = []; domain_is = refl; no_ranks = refl; middle = xs; given_covered = loose_nothing; domain_covered = loose_nothing }

pub element_covers : {xs ys : List Fine} {vs : List Value} → Has (rule_of Name.Element) xs ys vs → Covers Name.Element xs ys (made Name.Element vs)
element_covers (Reads.seq (Reads.seq {vs = us} (Reads.call {v = r} m) rest) (Reads.seq (Reads.left (Reads.call {v = v} g)) (Reads.left (Reads.call {v = w} d)))) = element_made r us (v ∷ w ∷ []) m (ranks_before rest) (behind_both v w g d)
element_covers (Reads.seq (Reads.seq {vs = us} (Reads.call {v = r} m) rest) (Reads.seq (Reads.left (Reads.call {v = v} g)) (Reads.right Reads.empty))) = element_made r us (v ∷ []) m (ranks_before rest) (behind_given v g)
element_covers (Reads.seq (Reads.seq {vs = us} (Reads.call {v = r} m) rest) (Reads.seq (Reads.right Reads.empty) (Reads.left (Reads.call {v = w} d)))) = element_made r us (w ∷ []) m (ranks_before rest) (behind_domain w d)
element_covers (Reads.seq (Reads.seq {vs = us} (Reads.call {v = r} m) rest) (Reads.seq (Reads.right Reads.empty) (Reads.right Reads.empty))) = element_made r us [] m (ranks_before rest) behind_nothing
