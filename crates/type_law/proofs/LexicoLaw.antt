-- The program of `lexico` means its order.
use Rattle.std.proofs.Common.{◌≡◌, ℕ, ◌+◌, pos, List, [], IsTrue, refl, sym, subst, ap, ap₂, ◌∙◌, ⊎_elim, inl, inr, Contains}
use Rattle.std.specs.Prelude.{◌↔◌, ◌⊎◌, codes}
use Rattle.ap_syntax.specs.declared.terms.Rel.TheVariants.{Gt}
use Rattle.ap_term.specs.Value.{Value, Values, integer, compound, none, also}
use Rattle.rule_form.specs.AnswerSets.{IsAnswerSet}
use Rattle.rule_form.specs.Truth.{AtomSet, compares}
use Rattle.rule_form.specs.Values.{Substitution}
use Rattle.rule_form.specs.Unfolded.{bind}
use Rattle.rule_form.proofs.Decided.{IsDecided, settled_decided, decide_true, decide_same, decide_both, decide_either, decide_if, decide_all, decide_some, decide_as}
use Rattle.rule_form.proofs.Lists.{in_flat, to_flat}
use Rattle.rule_form.proofs.Stable.{settled_true}
use Rattle.rule_form.proofs.Tells.{Tells, take, retell, exactly, settled_empty, by_rules}
use Rattle.rule_form.proofs.Unfolds.{here, first_or_rest, nothing_in}
use Rattle.type_law.specs.Takes.{HasNoConditions, Relates}
use Rattle.pref_library.specs.Lexico.{lexico_rules}
use Rattle.type_law.specs.Lexico.{Named, named_to, names, IsTied, IsFine, LexicoBetter, LexicoEq}
use Rattle.element_form.specs.Ground.{Statement, Ground, Ranked, Target, For, Name, HasName, IsGiven, key, kind_term}
use Rattle.element_form.specs.Facts.{Asked, target_term, IsFact}
use Rattle.type_law.proofs.Facts.{name_target}
use Rattle.type_law.proofs.Given as given
use Rattle.type_law.proofs.Given.{IsFree}
use Rattle.element_form.proofs.Distinct.{arguments_of}

free : IsFree lexico_rules
free = record { preference = refl; weight = refl; holds = refl; holds' = refl; better_in = refl; bettereq_in = refl; eq_in = refl; worse_in = refl; worseeq_in = refl; greater = refl; net = refl; state = refl; bit = refl; path = refl }

-- ---- names

abbrev IsNamed : Statement → Value → Value → Type 0
IsNamed st q n = (e : Ground) × (r : Ranked) × (rest : Values) × Contains st.elements e × Contains e.ranks r × (r.target ≡ Name q) × (r.weights ≡ also n rest)

in_named : (w : Values) (t : Target) (u : Named) → Contains (named_to w t) u → (rest : Values) × (t ≡ Name u.statement) × (w ≡ also u.weight rest)
in_named none t u c = absurd (nothing_in u c)
in_named (also n rest) (For f) u c = absurd (nothing_in u c)
in_named (also n rest) (Name q) u c = ⊎_elim
    (λ e. (rest, ap (λ (v : Named). Name v.statement) e, ap (λ (v : Named). also v.weight rest) e))
    (λ r. absurd (nothing_in u r)) (first_or_rest (record { statement = q; weight = n }) [] u c)

pub in_names : (st : Statement) (u : Named) → Contains (names st) u → IsNamed st u.statement u.weight
in_names st u c =
    let (e, among, h) = in_flat (λ (e : Ground). _) st.elements u c in
    let (r, rank, m) = in_flat (λ (r : Ranked). named_to r.weights r.target) e.ranks u h in
    let (rest, t, w) = in_named r.weights r.target u m in
    (e, r, rest, among, rank, t, w)

pub to_names : (st : Statement) (q n : Value) → IsNamed st q n → Contains (names st) (record { statement = q; weight = n })
to_names st q n (e, r, rest, among, rank, t, w) =
    let u : Named = record { statement = q; weight = n } in
    to_flat _ st.elements e u among (to_flat (λ (r : Ranked). named_to r.weights r.target) e.ranks r u rank
    (subst (λ v. Contains (named_to v r.target) u) (sym w) (subst (λ g. Contains (named_to (also n rest) g) u) (sym t) (here u []))))

pub has_name : (st : Statement) (q n : Value) → IsNamed st q n → HasName st q
has_name st q n (e, r, rest, among, rank, t, w) = (e, r, among, rank, t)

-- ---- what is decided

tied_decided : (st : Statement) (asked : Asked) (n : Value) → IsDecided (IsTied st asked n)
tied_decided st asked n = decide_all (names st) _ (λ u. decide_if _ _ (decide_true (compares Gt u.weight n)) (decide_true (asked.eq u.statement)))

fine_decided : (st : Statement) (asked : Asked) (n : Value) → IsDecided (IsFine st asked n)
fine_decided st asked n = decide_all (names st) _ (λ u. decide_if _ _ (decide_same u.weight n) (decide_true (asked.bettereq u.statement)))

pub better_decided : (st : Statement) (asked : Asked) → IsDecided (LexicoBetter st asked)
better_decided st asked = decide_as _ _ (λ (u, c, (better, (fine, tied))). (u, c, better, fine, tied)) (λ (u, c, better, fine, tied). (u, c, (better, (fine, tied))))
    (decide_some (names st) (λ (u : Named). IsTrue (asked.better u.statement) × (IsFine st asked u.weight × IsTied st asked u.weight))
    (λ u. decide_both _ _ (decide_true (asked.better u.statement)) (decide_both _ _ (fine_decided st asked u.weight) (tied_decided st asked u.weight))))

pub eq_decided : (st : Statement) (asked : Asked) → IsDecided (LexicoEq st asked)
eq_decided st asked = decide_all (names st) _ (λ u. decide_true (asked.eq u.statement))

-- ---- the program

module _ (st : Statement) (shape : HasNoConditions st) (asked : Asked) (z : AtomSet) (answer : IsAnswerSet lexico_rules (IsFact st asked) z) where
  abbrev this : List ℕ → Value
  this name = compound name (also st.name none)

  abbrev at_ : Value → Value → Value
  at_ q n = compound (codes "at") (also st.name (also q (also n none)))

  abbrev with_ : List ℕ → Value → Value
  with_ name n = compound name (also st.name (also n none))

  -- a name's fact and its weight's
  pub at_is : (q n : Value) → Tells (z (at_ q n)) (IsNamed st q n)
  at_is q n = retell (by_rules lexico_rules (IsFact st asked) z answer (at_ q n) (λ f. f))
      (λ (s, (pe, (qe, (ne, end))), ((i, (r, pref)), (weigh, end2))) deny.
      take ⊥ (given.element_is lexico_rules free st asked z answer (s (codes "P")) i r _ (s (codes "W"))) pref settled_empty (λ (pe2, (e, k, ranked, among, ie, re, place, te, we)).
      take ⊥ (given.weight_is lexico_rules free st asked z answer (s (codes "W")) (s (codes "N"))) weigh settled_empty (λ (e2, ranked2, rest2, among2, place2, is2, we2).
      let same_weights : ranked2.weights ≡ ranked.weights = ap arguments_of (sym we2 ∙ we) in
      let name : ranked.target ≡ Name q = name_target q ranked.target (rw qe te) in
      ⊎_elim
      (λ at. deny (e, ranked, rest2, among, (at.0, at.2, at.3), name, sym same_weights ∙ (is2 ∙ ap (λ v. also v rest2) (sym ne))))
      (λ g. subst (λ o. IsGiven o ranked) (shape e among) g.1)
      place)))
      (λ (e, ranked, rest, among, (k, lt, at), name, is).
      let s : Substitution = bind (codes "P") st.name (bind (codes "Q") q (bind (codes "N") n (λ v. compound [] ranked.weights))) in (
        s,
        (refl, (refl, (refl, tt))),
        (
          (
            (key e),
            (
              integer (pos (k + 1)),
              (given.element_is lexico_rules free st asked z answer st.name (key e) (integer (pos (k + 1))) _ (compound [] ranked.weights)).0
                  (refl, (e, k + 1, ranked, among, refl, refl, inl (k, refl, lt, at), ap target_term (sym name), refl)),
            ),
          ),
          ((given.weight_is lexico_rules free st asked z answer (compound [] ranked.weights) n).0 (e, ranked, rest, among, inl (k, lt, at), is, refl), tt),
        ),
      ))

  level_is : (n : Value) → Tells (z (with_ (codes "level") n)) ((q : Value) × IsNamed st q n)
  level_is n = retell (by_rules lexico_rules (IsFact st asked) z answer (with_ (codes "level") n) (λ f. f))
      (λ (s, (pe, (ne, end)), ((q, at), end2)) deny. (at_is q n).1 (rw (pe, ne) at) (λ h. deny (q, h)))
      (λ (q, h). (bind (codes "P") st.name (λ v. n), (refl, (refl, tt)), ((q, (at_is q n).0 h), tt)))

  tied_is : (n : Value) → Tells (z (with_ (codes "tied") n)) (((q : Value) × IsNamed st q n) × IsTied st asked n)
  tied_is n = retell (by_rules lexico_rules (IsFact st asked) z answer (with_ (codes "tied") n) (λ f. f))
      (λ (s, (pe, (ne, end)), (level, (each, end2))) deny. (level_is n).1 (rw (pe, ne) level) (λ some. deny (
        some,
        λ u c gt.
            let v : Substitution = bind (codes "Q") u.statement (bind (codes "M") u.weight s) in
            let there = each v (refl, (refl, (refl, (refl, tt)))) (subst (λ p. IsTrue (z (compound (codes "at") (also p (also u.statement (also u.weight none)))))) pe ((at_is u.statement u.weight).0 (in_names st u c)), (rw ne at gt, tt)) in
            take (IsTrue (asked.eq u.statement)) (given.eq_in_is lexico_rules free st asked z answer u.statement) there (settled_true (asked.eq u.statement)) (λ h. h.1),
      )))
      (λ (some, tied). (
        bind (codes "P") st.name (λ v. n),
        (refl, (refl, tt)),
        (
          (level_is n).0 some,
          (
            λ v (pe, (ne, agrees)) (at, (gt, end)).
                settled_true (z (compound (codes "eq_in") (also (v (codes "Q")) none))) (λ deny. (at_is (v (codes "Q")) (v (codes "M"))).1 (rw (sym pe) at) (λ h.
                deny ((given.eq_in_is lexico_rules free st asked z answer (v (codes "Q"))).0 (has_name st _ _ h, tied (record { statement = v (codes "Q"); weight = v (codes "M") }) (to_names st _ _ h) (rw ne at gt))))),
            tt,
          ),
        ),
      ))

  fine_is : (n : Value) → Tells (z (with_ (codes "fine") n)) (((q : Value) × IsNamed st q n) × IsFine st asked n)
  fine_is n = retell (by_rules lexico_rules (IsFact st asked) z answer (with_ (codes "fine") n) (λ f. f))
      (λ (s, (pe, (ne, end)), (level, (each, end2))) deny. (level_is n).1 (rw (pe, ne) level) (λ some. deny (
        some,
        λ u c same.
            let v : Substitution = bind (codes "Q") u.statement s in
            let there = each v (refl, (refl, (refl, (refl, tt)))) (subst (λ a. IsTrue (z a)) (ap₂ (λ p m. compound (codes "at") (also p (also u.statement (also m none)))) pe (same ∙ ne)) ((at_is u.statement u.weight).0 (in_names st u c)), tt) in
            take (IsTrue (asked.bettereq u.statement)) (given.bettereq_in_is lexico_rules free st asked z answer u.statement) there (settled_true (asked.bettereq u.statement)) (λ h. h.1),
      )))
      (λ (some, fine). (
        bind (codes "P") st.name (λ v. n),
        (refl, (refl, tt)),
        (
          (level_is n).0 some,
          (
            λ v (pe, (ne, agrees)) (at, end).
                settled_true (z (compound (codes "bettereq_in") (also (v (codes "Q")) none))) (λ deny. (at_is (v (codes "Q")) (v (codes "N"))).1 (rw (sym pe) at) (λ h.
                deny ((given.bettereq_in_is lexico_rules free st asked z answer (v (codes "Q"))).0 (has_name st _ _ h, fine (record { statement = v (codes "Q"); weight = v (codes "N") }) (to_names st _ _ h) ne)))),
            tt,
          ),
        ),
      ))

  pub better_is : IsTrue (z (this (codes "better"))) ↔ LexicoBetter st asked
  better_is = exactly (retell (by_rules lexico_rules (IsFact st asked) z answer (this (codes "better")) (λ f. f))
      (λ (s, (pe, end), (at, (better, (fine, (tied, end2))))) deny.
      (at_is (s (codes "Q")) (s (codes "N"))).1 (rw pe at) (λ h. (fine_is (s (codes "N"))).1 (rw pe fine) (λ f. (tied_is (s (codes "N"))).1 (rw pe tied) (λ t.
      (given.better_in_is lexico_rules free st asked z answer (s (codes "Q"))).1 better (λ b. deny (record { statement = s (codes "Q"); weight = s (codes "N") }, to_names st _ _ h, b.1, f.1, t.1))))))
      (λ (u, c, better, fine, tied). let h = in_names st u c in (
        bind (codes "P") st.name (bind (codes "Q") u.statement (λ v. u.weight)),
        (refl, tt),
        (
          (at_is u.statement u.weight).0 h,
          ((given.better_in_is lexico_rules free st asked z answer u.statement).0 (has_name st _ _ h, better), ((fine_is u.weight).0 ((u.statement, h), fine), ((tied_is u.weight).0 ((u.statement, h), tied), tt))),
        ),
      )))
      (settled_decided _ (better_decided st asked))

  pub eq_is : IsTrue (z (this (codes "eq"))) ↔ LexicoEq st asked
  eq_is = exactly (retell (by_rules lexico_rules (IsFact st asked) z answer (this (codes "eq")) (λ f. f))
      (λ (s, (pe, end), ((k, pref), (each, end2))) deny. deny (λ u c.
      let v : Substitution = bind (codes "Q") u.statement s in
      let there = each v (refl, (refl, tt)) ((u.weight, subst (λ p. IsTrue (z (compound (codes "at") (also p (also u.statement (also u.weight none)))))) pe ((at_is u.statement u.weight).0 (in_names st u c))), tt) in
      take (IsTrue (asked.eq u.statement)) (given.eq_in_is lexico_rules free st asked z answer u.statement) there (settled_true (asked.eq u.statement)) (λ h. h.1)))
      (λ all. (
        bind (codes "P") st.name (λ v. (kind_term st.kind)),
        (refl, tt),
        (
          ((kind_term st.kind), given.declared lexico_rules free st asked z answer),
          (
            λ v (pe, agrees) ((m, at), end).
                settled_true (z (compound (codes "eq_in") (also (v (codes "Q")) none))) (λ deny. (at_is (v (codes "Q")) m).1 (rw (sym pe) at) (λ h.
                deny ((given.eq_in_is lexico_rules free st asked z answer (v (codes "Q"))).0 (has_name st _ _ h, all (record { statement = v (codes "Q"); weight = m }) (to_names st _ _ h))))),
            tt,
          ),
        ),
      )))
      (settled_decided _ (eq_decided st asked))

  pub bettereq_is : IsTrue (z (this (codes "bettereq"))) ↔ (LexicoBetter st asked ⊎ LexicoEq st asked)
  bettereq_is = exactly (retell (by_rules lexico_rules (IsFact st asked) z answer (this (codes "bettereq")) (λ f. f))
      (λ g deny. deny (⊎_elim
      (λ (s, (pe, end), ((k, pref), (better, end2))). inl (better_is.0 (rw pe better)))
      (λ (s, (pe, end), ((k, pref), (eq, end2))). inr (eq_is.0 (rw pe eq)))
      g))
      (⊎_elim
      (λ h. inl (λ v. st.name, (refl, tt), (((kind_term st.kind), given.declared lexico_rules free st asked z answer), (better_is.1 h, tt))))
      (λ h. inr (λ v. st.name, (refl, tt), (((kind_term st.kind), given.declared lexico_rules free st asked z answer), (eq_is.1 h, tt))))))
      (settled_decided _ (decide_either _ _ (better_decided st asked) (eq_decided st asked)))

pub lexico_law : (st : Statement) → HasNoConditions st → (asked : Asked) (z : AtomSet) → IsAnswerSet lexico_rules (IsFact st asked) z → Relates st z (LexicoBetter st asked) (LexicoBetter st asked ⊎ LexicoEq st asked) (LexicoEq st asked)
lexico_law st shape asked z answer = (better_is st shape asked z answer, bettereq_is st shape asked z answer, eq_is st shape asked z answer)
