-- The working tables.
use Rattle.std.proofs.Common.{◌≡◌, ℕ, suc, ◌<◌, ◌≤◌, inl, ⊎_elim, Bool, not, List, [], ◌∷◌, ◌++◌, length, Option, Some, None, get_or, set, replicate, refl, sym, ap, ◌∙◌, subst, arith, length-set}
use Rattle.std.specs.Prelude.{IsTrue, IfSome}
use Rattle.std.specs.Option.{is_none}
use Rattle.std.proofs.lemmas.Bool.{cases_eq, cases_lt, false≢true}
use Rattle.std.proofs.lemmas.Option.{none-some}
use Rattle.std.proofs.lemmas.List.{get_or-set_same, get_or-set_other, get_or-replicate, get_or_past, append_assoc, append-nil, length-replicate}
use Rattle.theory_form.specs.declared.literals.ClauseId.{ClauseId}
use Rattle.theory_form.specs.declared.literals.Lit.{Lit}
use Rattle.theory_form.specs.Hints.{all_false, made_true}
use Rattle.theory_form.specs.Literals.{opposite}
use Rattle.theory_form.specs.Truth.{value_of}
use Rattle.proof_log.specs.Working.{AreFree, AreOver, AreSame, Frees, HasValuesIn, HintsAreFree, HintsAreOver, LitsAreFree}

-- ---- taking values away

pub Frees-same : (a : List (Option Bool)) → Frees a a
Frees-same a = record { size = refl; keeps = λ v h. h }

pub Frees-then : (a b c : List (Option Bool)) → Frees a b → Frees b c → Frees a c
Frees-then a b c f g = record { size = g.size ∙ f.size; keeps = λ v h. g.keeps v (f.keeps v h) }

pub Frees-clear : (a : List (Option Bool)) (v : ℕ) → v < length a → Frees a (set a v None)
Frees-clear a v within = record {
  size = length-set a v None;
  keeps = λ w h. ⊎_elim
      (λ (same : w ≡ v). ap (λ k. value_of (set a v None) k) same ∙ get_or-set_same a v None None within)
      (λ (apart : w ≡ v → ⊥). get_or-set_other a v w None None apart ∙ h)
      (cases_eq w v);
}

pub LitsAreFree-then : (a b : List (Option Bool)) (lits : List Lit) → Frees a b → LitsAreFree a lits → LitsAreFree b lits
LitsAreFree-then a b lits f h k d within = f.keeps (get_or lits k d).var.0 (h k d within)

pub hint_free-then : (a b : List (Option Bool)) (o : Option (List Lit)) → Frees a b → IfSome o (LitsAreFree a) → IfSome o (LitsAreFree b)
hint_free-then a b None f h = tt
hint_free-then a b (Some lits) f h = LitsAreFree-then a b lits f h

-- ---- making literals false

pub length-all_false : (places : ℕ) (lits : List Lit) → length (all_false places lits) ≡ places
length-all_false places [] = length-replicate places None
length-all_false places (l ∷ lits) = length-set (all_false places lits) l.var.0 (Some (not l.yes)) ∙ length-all_false places lits

none_of_free : (a : List (Option Bool)) (places : ℕ) → AreFree a → AreSame a (replicate places None)
none_of_free a places free v = free v ∙ sym none
  where
    none : value_of (replicate places None) v ≡ None
    none = ⊎_elim
        (λ (lt : v < places). get_or-replicate places v None None lt)
        (λ (past : places ≤ v). get_or_past (replicate places None) v None (rw length-replicate past))
        (cases_lt v places)

-- the last of the literals were made false, and these are left
pub record IsMadeFalse (places : ℕ) (lits left : List Lit) (old a : List (Option Bool)) : Type 0 where
  pub done : List Lit
  pub split : left ++ done ≡ lits
  pub size : length a ≡ length old
  pub same : AreSame a (all_false places done)
  pub within : (u : ℕ → Bool) → AreOver u done → HasValuesIn u a

pub made_false_start : (places : ℕ) (lits : List Lit) (a : List (Option Bool)) → AreFree a → IsMadeFalse places lits lits a a
made_false_start places lits a free = record {
  done = [];
  split = append-nil lits;
  size = refl;
  same = none_of_free a places free;
  within = λ u over v. inl (free v);
}

pub made_false_step : (places : ℕ) (lits left others : List Lit) (x : Lit) (old a b : List (Option Bool)) → left ≡ others ++ x ∷ [] → (h : IsMadeFalse places lits left old a) → length b ≡ length a → AreSame b (made_true (all_false places h.done) (opposite x)) → ((u : ℕ → Bool) → IsTrue (u x.var.0) → HasValuesIn u a → HasValuesIn u b) → IsMadeFalse places lits others old b
made_false_step places lits left others x old a b is h size same within = record {
  done = x ∷ h.done;
  split = sym (append_assoc others (x ∷ []) h.done) ∙ (ap (λ ls. ls ++ h.done) (sym is) ∙ h.split);
  size = size ∙ h.size;
  same = same;
  within = λ u over. within u (over 0 x (omega arith)) (h.within u (λ k d low. over (suc k) d (omega arith)));
}

-- nothing is left: the literals are those that were made false
nothing_before : (left done lits : List Lit) → length left ≡ 0 → left ++ done ≡ lits → done ≡ lits
nothing_before [] done lits none is = is
nothing_before (x ∷ left) done lits none is = absurd (omega arith)

pub made_false_same : (places : ℕ) (lits left : List Lit) (old a : List (Option Bool)) → length left ≡ 0 → IsMadeFalse places lits left old a → AreSame a (all_false places lits)
made_false_same places lits left old a none h =
    subst (λ (ls : List Lit). AreSame a (all_false places ls)) (nothing_before left h.done lits none h.split) h.same

pub made_false_within : (places : ℕ) (lits left : List Lit) (old a : List (Option Bool)) → length left ≡ 0 → IsMadeFalse places lits left old a → (u : ℕ → Bool) → AreOver u lits → HasValuesIn u a
made_false_within places lits left old a none h u over =
    h.within u (subst (AreOver u) (sym (nothing_before left h.done lits none h.split)) over)

-- ---- no value is left

free_from : (o : Option Bool) → IsTrue (is_none o) → o ≡ None
free_from None h = refl
free_from (Some b) h = absurd (false≢true h)

free_so : (o : Option Bool) → o ≡ None → IsTrue (is_none o)
free_so None h = refl
free_so (Some b) h = absurd (none-some b (sym h))

-- the variables without a value
abbrev free_in : List (Option Bool) → ℕ → Bool
free_in a v = is_none (value_of a v)

over_free : (a : List (Option Bool)) (lits : List Lit) → LitsAreFree a lits → AreOver (free_in a) lits
over_free a lits h k d within = free_so (value_of a (get_or lits k d).var.0) (h k d within)

hint_over_free : (a b : List (Option Bool)) (o : Option (List Lit)) → Frees a b → IfSome o (LitsAreFree a) → IfSome o (AreOver (free_in b))
hint_over_free a b None f h = tt
hint_over_free a b (Some lits) f h = over_free b lits (LitsAreFree-then a b lits f h)

-- Values were made over the literals and the hints, and then taken away from the variables of the hints and of the literals.
pub all_free : (look : ℕ → Option (List Lit)) (lits : List Lit) (hints : List ClauseId) (made freed last : List (Option Bool)) → ((u : ℕ → Bool) → AreOver u lits → HintsAreOver u look hints → HasValuesIn u made) → Frees made freed → HintsAreFree look freed hints → Frees freed last → LitsAreFree last lits → AreFree last
all_free look lits hints made freed last within f fh g gl v = ⊎_elim
    (λ (none : value_of made v ≡ None). g.keeps v (f.keeps v none))
    (λ (named : IsTrue (free_in last v)). free_from (value_of last v) named)
    (within (free_in last) (over_free last lits gl) (λ k d low. hint_over_free freed last (look (get_or hints k d).0) g (fh k d low)) v)
