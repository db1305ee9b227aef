-- Where a limit of formulas stands inside a text a formula that is too deep ends.
use Rattle.std.proofs.Common.{◌≡◌, ℕ, ◌<◌, Bool, true, false, List, [], ◌∷◌, ◌++◌, refl, sym, ap, subst, ◌∙◌, arith, ◌⊎◌, inl, inr, ⊎_elim}
use Rattle.std.specs.Prelude.{Some}
use Rattle.std.proofs.lemmas.List.{append-nil}
use Rattle.grammar.specs.Form.{Derives, ◌⨾◌, ◌∣◌, opt}
use Rattle.grammar.specs.Form.Form.{Tok, Call, Seq, Alt, Star}
use Rattle.grammar.proofs.Interpret.{Reads, read as read_by, weaker}
use Rattle.ap_syntax.specs.declared.preferences.Formula.{Formula as FormulaTree}
use Rattle.ap_grammar.specs.declared.terminals.Terminal.{Terminal}
use Rattle.ap_grammar.specs.declared.terminals.Terminal.TheVariants as t
use Rattle.ap_grammar.specs.Grammar.{Name, Rhs, grammar, in_braces, made, many, rule_of}
use Rattle.ap_grammar.specs.Lexemes.{Lexeme}
use Rattle.ap_grammar.specs.Values.{Value}
use Rattle.ap_grammar.specs.Values.Value.{formula}
use Rattle.ap_lexemes.specs.declared.limit.Limit.TheVariants.{Formula}
use Rattle.ap_lexemes.specs.declared.role.Role.{Role}
use Rattle.ap_lexemes.specs.declared.role.Role.TheVariants as roles
use Rattle.ap_lexemes.specs.Limits.{Levels, after, limit_at, next_role, no_levels, role_of}
use Rattle.limit_law.specs.Depths.{IsFresh, capped, depth, scan}
use Rattle.limit_law.specs.Inside.{DeepBefore, EndsBefore, Inside, StandsBefore}
use Rattle.limit_law.proofs.Limits.{deep_part_of, deep_whole_of}
use Rattle.limit_law.proofs.Quiet.{Quiet}
use Rattle.limit_law.proofs.Scanning.{Kept}
use Rattle.limit_law.proofs.Tells.{Whole, all_in_bounds, bare_fresh, fresh_ended, fresh_nowhere}
use Rattle.limit_law.proofs.Scans.{Scans, ScansName, ScansStatement}
use Rattle.limit_law.proofs.Terms.{Has, form_kept, name_kept}
use Rattle.limit_law.proofs.Formulas.{behind_is, conjunction_is}
use Rattle.limit_law.proofs.Preferences.{opening_kept}
use Rattle.limit_law.proofs.Statements.{Plain, base_plain, const_plain, defined_plain, optimize_plain, rule_plain, show_plain, statements_scan, type_plain}
use Rattle.limit_law.proofs.Rules.{rule_scans}
use Rattle.limit_law.proofs.Marked.{tokens_of}
use Rattle.limit_law.proofs.Places.{BeginsPart, fresh_begins, or_begins, other_fresh}
use Rattle.limit_law.proofs.Spots.{Spot, alone_spot, empty_spot, one_spot, quiet_spot, spot_behind, spot_in, spot_limit, spot_token}

-- ---- what is found

-- a formula that is too deep ends before `ending`, in what a rule derives from `start` up to `stop`
pub data DeepEnd (start stop ending : List Lexeme) : Name → Type 0 where
  disjunction : {first : Lexeme} {f : FormulaTree} {others : List Value} → 64 < depth f → Derives grammar (Call Name.Formula) start ending (formula first f ∷ []) → Derives grammar (Star (Tok t.Or ⨾ Call Name.Conjunction)) ending stop others → DeepEnd start stop ending Name.Formula
  conjunction : {first : Lexeme} {f : FormulaTree} {others : List Value} → 64 < depth f → Derives grammar (Call Name.Conjunction) start ending (formula first f ∷ []) → Derives grammar (Star (Tok t.And ⨾ Call Name.Member)) ending stop others → DeepEnd start stop ending Name.Conjunction

-- and that rule stands inside a derivation of the form
pub record DeepIn (a : Rhs) (xs ys : List Lexeme) (ws : List Value) (ending : List Lexeme) : Type 0 where
  pub n : Name
  pub start : List Lexeme
  pub stop : List Lexeme
  pub value : Value
  pub inside : Inside grammar n start stop value a xs ys ws
  pub deep : DeepEnd start stop ending n

-- one derivation inside another
abbrev Into : Rhs → List Lexeme → List Lexeme → List Value → Rhs → List Lexeme → List Lexeme → List Value → Type 0
Into a xs ys ws b us vs ks = (n : Name) (start stop : List Lexeme) (v : Value) → Inside grammar n start stop v a xs ys ws → Inside grammar n start stop v b us vs ks

moved : {a b : Rhs} {xs ys us vs ending : List Lexeme} {ws ks : List Value} → Into a xs ys ws b us vs ks → DeepIn a xs ys ws ending → DeepIn b us vs ks ending
moved f d = record { n = d.n; start = d.start; stop = d.stop; value = d.value; inside = f d.n d.start d.stop d.value d.inside; deep = d.deep }

in_call : {n : Name} {xs ys ending : List Lexeme} {vs : List Value} → DeepIn (rule_of n) xs ys vs ending → DeepIn (Call n) xs ys (made n vs ∷ []) ending
in_call d = moved (λ n start stop v i. Inside.under i) d

in_first : {a b : Rhs} {xs ys zs ending : List Lexeme} {us vs : List Value} → Derives grammar b ys zs vs → DeepIn a xs ys us ending → DeepIn (Seq a b) xs zs (us ++ vs) ending
in_first e d = moved (λ n start stop v i. Inside.first i e) d

in_second : {a b : Rhs} {xs ys zs ending : List Lexeme} {us vs : List Value} → Derives grammar a xs ys us → DeepIn b ys zs vs ending → DeepIn (Seq a b) xs zs (us ++ vs) ending
in_second e d = moved (λ n start stop v i. Inside.second e i) d

in_left : {a b : Rhs} {xs ys ending : List Lexeme} {us : List Value} → DeepIn a xs ys us ending → DeepIn (Alt a b) xs ys us ending
in_left d = moved (λ n start stop v i. Inside.left i) d

in_right : {a b : Rhs} {xs ys ending : List Lexeme} {us : List Value} → DeepIn b xs ys us ending → DeepIn (Alt a b) xs ys us ending
in_right d = moved (λ n start stop v i. Inside.right i) d

in_item : {a : Rhs} {xs ys zs ending : List Lexeme} {us vs : List Value} → Derives grammar (Star a) ys zs vs → DeepIn a xs ys us ending → DeepIn (Star a) xs zs (us ++ vs) ending
in_item e d = moved (λ n start stop v i. Inside.item i e) d

in_later : {a : Rhs} {xs ys zs ending : List Lexeme} {us vs : List Value} → Derives grammar a xs ys us → DeepIn (Star a) ys zs vs ending → DeepIn (Star a) xs zs (us ++ vs) ending
in_later e d = moved (λ n start stop v i. Inside.later e i) d

-- ---- what a limit at a rule's tokens tells

abbrev FindsWhole : Name → List Lexeme → List Lexeme → Value → Type 0
FindsWhole n xs ys v = (ending : List Lexeme) → Spot no_levels xs ys ending → DeepIn (Call n) xs ys (v ∷ []) ending

abbrev FindsFresh : Name → List Lexeme → List Lexeme → Value → Type 0
FindsFresh n xs ys v = (s : Levels) (ending : List Lexeme) → IsFresh s.level → Spot s xs ys ending → DeepIn (Call n) xs ys (v ∷ []) ending

abbrev NoneWhole : List Lexeme → List Lexeme → Type 0
NoneWhole xs ys = (ending : List Lexeme) → Spot no_levels xs ys ending → ⊥

-- one stands at the last token alone
abbrev AtEnd : List Lexeme → List Lexeme → Type 0
AtEnd xs ys = (s : Levels) (ending : List Lexeme) → Spot s xs ys ending → ending ≡ ys

abbrev pub Finds : Name → List Lexeme → List Lexeme → Value → Type 0
Finds (Name.Text whole of_type) xs ys v = FindsWhole (Name.Text whole of_type) xs ys v
Finds (Name.BaseSection whole) xs ys v = FindsWhole (Name.BaseSection whole) xs ys v
Finds (Name.TypeSection whole) xs ys v = FindsWhole (Name.TypeSection whole) xs ys v
Finds (Name.Statement whole of_type) xs ys v = FindsWhole (Name.Statement whole of_type) xs ys v
Finds Name.Preference xs ys v = FindsWhole Name.Preference xs ys v
Finds Name.BaseOpening xs ys v = NoneWhole xs ys
Finds Name.TypeOpening xs ys v = NoneWhole xs ys
Finds Name.Const xs ys v = NoneWhole xs ys
Finds Name.Show xs ys v = NoneWhole xs ys
Finds Name.Defined xs ys v = NoneWhole xs ys
Finds (Name.Rule of_type) xs ys v = NoneWhole xs ys
Finds Name.Optimize xs ys v = NoneWhole xs ys
Finds Name.Element xs ys v = FindsFresh Name.Element xs ys v
Finds Name.Ranked xs ys v = FindsFresh Name.Ranked xs ys v
Finds Name.Target xs ys v = FindsFresh Name.Target xs ys v
Finds Name.Formula xs ys v = FindsFresh Name.Formula xs ys v
Finds Name.Given xs ys v = (s : Levels) (ending : List Lexeme) → Spot s xs ys ending → DeepIn (Call Name.Given) xs ys (v ∷ []) ending
Finds Name.Domain xs ys v = (s : Levels) (ending : List Lexeme) → Spot s xs ys ending → ⊥
Finds Name.Conjunction xs ys v = (s : Levels) (ending : List Lexeme) → BeginsPart s.level → Spot s xs ys ending → DeepIn (Call Name.Conjunction) xs ys (v ∷ []) ending ⊎ (ending ≡ ys)
Finds Name.Member xs ys v = (s : Levels) (ending : List Lexeme) → Spot s xs ys ending → DeepIn (Call Name.Member) xs ys (v ∷ []) ending ⊎ (ending ≡ ys)
Finds Name.Atom xs ys v = AtEnd xs ys
Finds Name.Arguments xs ys v = (next_role xs ≡ roles.Open) × AtEnd xs ys
Finds n xs ys v = Unit {0}

pub record Searched (n : Name) (xs ys : List Lexeme) (v : Value) : Type 0 where
  pub derives : Derives grammar (Call n) xs ys (v ∷ [])
  pub scans : Scans n xs ys v
  pub finds : Finds n xs ys v

abbrev Looks : Rhs → List Lexeme → List Lexeme → List Value → Type 0
Looks a xs ys vs = Reads grammar Searched a xs ys vs

derived : {a : Rhs} {xs ys : List Lexeme} {vs : List Value} → Looks a xs ys vs → Derives grammar a xs ys vs
derived (Reads.tok e) = Derives.tok e
derived (Reads.call m) = m.derives
derived Reads.empty = Derives.empty
derived (Reads.seq d e) = Derives.seq (derived d) (derived e)
derived (Reads.left d) = Derives.left (derived d)
derived (Reads.right d) = Derives.right (derived d)
derived Reads.none = Derives.none
derived (Reads.more d e) = Derives.more (derived d) (derived e)
derived (Reads.followed d e) = Derives.followed (derived d) (derived e)

scanned : {a : Rhs} {xs ys : List Lexeme} {vs : List Value} → Looks a xs ys vs → Has a xs ys vs
scanned d = weaker (λ n xs ys v m. m.scans) d

-- ---- one part or the other

seq_find : {a b : Rhs} {xs ys zs : List Lexeme} {us ws : List Value} (s : Levels) (ending : List Lexeme) → Derives grammar a xs ys us → Derives grammar b ys zs ws → (Spot s xs ys ending → DeepIn a xs ys us ending) → ((u : Levels) → Spot u ys zs ending → DeepIn b ys zs ws ending) → Spot s xs zs ending → DeepIn (Seq a b) xs zs (us ++ ws) ending
seq_find s ending d e f g h = let front = tokens_of d in ⊎_elim (λ p. in_first e (f p)) (λ p. in_second d (g (scan s front.read) p)) (spot_in s front.read front.tokens h)

fresh_quiet : {n : Bool} {xs ys : List Lexeme} (k : Kept n xs ys) (s : Levels) → IsFresh s.level → Quiet s k.read
fresh_quiet k s h = (k.keeps 2 s (λ e. omega arith) (bare_fresh s.level h)).quiet

kept_none : {n : Bool} {xs ys ending : List Lexeme} → Kept n xs ys → (s : Levels) → IsFresh s.level → Spot s xs ys ending → ⊥
kept_none k s h p = quiet_spot s k.read k.tokens (fresh_quiet k s h) p

-- ---- atoms and members

arguments_find : {xs ys : List Lexeme} {vs : List Value} → Looks (rule_of Name.Arguments) xs ys vs → (next_role xs ≡ roles.Open) × AtEnd xs ys
arguments_find (Reads.seq (Reads.tok {t = x} e) (Reads.seq d (Reads.tok {t = y} f))) = (ap role_of e, λ s ending h. last_there (form_kept refl (scanned d)) s ending (spot_token s x roles.Open (ap role_of e) refl h))
  where
    last_there : {xs ys : List Lexeme} → Kept false xs (y ∷ ys) → (s : Levels) (ending : List Lexeme) → Spot (after s roles.Open) xs ys ending → ending ≡ ys
    last_there k s ending h = (one_spot (scan (after s roles.Open) k.read) y (spot_behind (after s roles.Open) k.read k.tokens (fresh_quiet k (after s roles.Open) (fresh_ended 0)) h)).0

no_name_limit : (s : Levels) (r next : Role) → r ≡ roles.Name → next ≡ roles.Open → limit_at s r next ≡ Some Formula → ⊥
no_name_limit s r next e f h = let no : limit_at s roles.Name roles.Open ≡ Some Formula = subst (λ q. limit_at s roles.Name q ≡ Some Formula) f (subst (λ q. limit_at s q next ≡ Some Formula) e h) in cc

full_find : {xs ys zs : List Lexeme} {v : Value} → ScansName xs ys v → next_role ys ≡ roles.Open → AtEnd ys zs → AtEnd xs zs
full_find {ys = ys} n o f s ending h = ⊎_elim (λ p. absurd (no_name_limit s (role_of n.name.terminal) (next_role ys) n.role o (one_spot s n.name (subst (λ ts. Spot s ts ys ending) n.tokens p)).1)) (λ p. f (scan s (n.name ∷ [])) ending p) (spot_in s (n.name ∷ []) n.tokens h)

bare_find : {xs ys : List Lexeme} {v : Value} → ScansName xs ys v → AtEnd xs ys
bare_find {ys = ys} n s ending h = (one_spot s n.name (subst (λ ts. Spot s ts ys ending) n.tokens h)).0

atom_find : {xs ys : List Lexeme} {vs : List Value} → Looks (rule_of Name.Atom) xs ys vs → AtEnd xs ys
atom_find (Reads.seq (Reads.call n) (Reads.left (Reads.call a))) = full_find n.scans a.finds.0 a.finds.1
atom_find (Reads.seq (Reads.call n) (Reads.right Reads.empty)) = bare_find n.scans

either_in : {A B C : Type 0} → (A → B) → A ⊎ C → B ⊎ C
either_in f (inl a) = inl (f a)
either_in f (inr c) = inr c

abbrev part_rule : Rhs
part_rule = Call Name.Atom ∣ Tok t.Open ⨾ Call Name.Formula ⨾ Tok t.Close

part_find : {xs ys : List Lexeme} {vs : List Value} → Looks part_rule xs ys vs → (s : Levels) (ending : List Lexeme) → Spot s xs ys ending → DeepIn part_rule xs ys vs ending ⊎ (ending ≡ ys)
part_find (Reads.left (Reads.call m)) s ending h = inr (m.finds s ending h)
part_find (Reads.right (Reads.seq (Reads.tok {t = x} e) (Reads.seq (Reads.call m) (Reads.tok {t = y} f)))) s ending h =
    ⊎_elim (λ p. inl (in_right (in_second (Derives.tok e) (in_first (Derives.tok f) (m.finds (after s roles.Open) ending (fresh_ended 0) p))))) (λ p. inr (one_spot (scan (after s roles.Open) m.scans.read) y p).0) (spot_in (after s roles.Open) m.scans.read m.scans.tokens (spot_token s x roles.Open (ap role_of e) refl h))

member_find : {xs ys : List Lexeme} {vs : List Value} → Looks (rule_of Name.Member) xs ys vs → (s : Levels) (ending : List Lexeme) → Spot s xs ys ending → DeepIn (rule_of Name.Member) xs ys vs ending ⊎ (ending ≡ ys)
member_find (Reads.seq (Reads.left (Reads.tok {t = x} e)) d) s ending h = either_in (in_second (Derives.left (Derives.tok e))) (part_find d (after s roles.Not) ending (spot_token s x roles.Not (ap role_of e) refl h))
member_find (Reads.seq (Reads.right Reads.empty) d) s ending h = either_in (in_second (Derives.right Derives.empty)) (part_find d s ending h)

-- ---- depths

deeper_than : (d k : ℕ) → d ≡ capped k → 64 < d → 64 < k
deeper_than d k e h = grind arith

deep_conjunction : (s : Levels) {xs zs ending : List Lexeme} {v : Value} {others : List Value} → BeginsPart s.level → Spot s xs zs ending → next_role ending ≡ roles.And → Derives grammar (Call Name.Conjunction) xs ending (v ∷ []) → Derives grammar (Star (Tok t.And ⨾ Call Name.Member)) ending zs others → DeepEnd xs zs ending Name.Conjunction
deep_conjunction s {xs = xs} {zs = zs} {ending = ending} {v = v} b h n d e = by_reading (read_by rule_scans d)
  where
    by_reading : Has (Call Name.Conjunction) xs ending (v ∷ []) → DeepEnd xs zs ending Name.Conjunction
    by_reading (Reads.call p) = DeepEnd.conjunction (deeper_than _ (depth p.tree) (conjunction_is s b.conjunction b.negated b.member p) (deep_part_of (scan s p.read).level (next_role ending) n (spot_limit s p.read p.tokens h))) (subst (λ w. Derives grammar (Call Name.Conjunction) xs ending (w ∷ [])) p.is d) e

deep_disjunction : (s : Levels) {xs zs ending : List Lexeme} {v : Value} {others : List Value} → IsFresh s.level → Spot s xs zs ending → Derives grammar (Call Name.Formula) xs ending (v ∷ []) → Derives grammar (Star (Tok t.Or ⨾ Call Name.Conjunction)) ending zs others → DeepEnd xs zs ending Name.Formula
deep_disjunction s {xs = xs} {zs = zs} {ending = ending} {v = v} b h d e = by_reading (read_by rule_scans d)
  where
    by_reading : Has (Call Name.Formula) xs ending (v ∷ []) → DeepEnd xs zs ending Name.Formula
    by_reading (Reads.call p) = DeepEnd.disjunction (deeper_than _ (depth p.tree) (behind_is s b p).level (deep_whole_of (scan s p.read).level (next_role ending) (spot_limit s p.read p.tokens h))) (subst (λ w. Derives grammar (Call Name.Formula) xs ending (w ∷ [])) p.is d) e

-- ---- conjunctions

derives_to : {a : Rhs} {xs ys zs : List Lexeme} {ws : List Value} → zs ≡ ys → Derives grammar a xs ys ws → Derives grammar a xs zs ws
derives_to {a = a} {xs = xs} {ws = ws} e d = subst (λ ts. Derives grammar a xs ts ws) (sym e) d

derives_from : {a : Rhs} {xs ys zs : List Lexeme} {ws : List Value} → xs ≡ ys → Derives grammar a ys zs ws → Derives grammar a xs zs ws
derives_from {a = a} {zs = zs} {ws = ws} e d = subst (λ ts. Derives grammar a ts zs ws) (sym e) d

-- one more of a repetition
record Longer (a : Rhs) (xs ys : List Lexeme) : Type 0 where
  values : List Value
  derives : Derives grammar (Star a) xs ys values

one_more : {a : Rhs} {xs ys zs : List Lexeme} {us vs : List Value} → Derives grammar (Star a) xs ys us → Derives grammar a ys zs vs → Longer a xs zs
one_more Derives.none e = record { values = _; derives = Derives.more e Derives.none }
one_more (Derives.more d r) e = record { values = _; derives = Derives.more d (one_more r e).derives }

abbrev further_members : Rhs
further_members = Tok t.And ⨾ Call Name.Member

-- a conjunction in which a limit stands before `ending`
record Conjoined (s : Levels) (xs zs ending : List Lexeme) (whole : Value) (ms : List Lexeme) : Type 0 where
  begins : BeginsPart s.level
  spot : Spot s xs zs ending
  derives : Derives grammar (Call Name.Conjunction) xs zs (whole ∷ [])
  value : Value
  member : Derives grammar (Call Name.Member) xs ms (value ∷ [])

behind_member : {s : Levels} {xs ys zs ms ending : List Lexeme} {whole : Value} {us ws : List Value} → Conjoined s xs zs ending whole ms → Derives grammar (Star further_members) ms ys us → Looks (Star further_members) ys zs ws → ending ≡ ys → DeepIn (Call Name.Conjunction) xs zs (whole ∷ []) ending ⊎ (ending ≡ zs)
behind_member c front Reads.none e = inr e
behind_member {s = s} {xs = xs} {zs = zs} {ending = ending} {whole = whole} c front (Reads.more (Reads.seq (Reads.tok {t = x} i) d) rest) e = inl (record {
  n = Name.Conjunction;
  start = xs;
  stop = zs;
  value = whole;
  inside = Inside.here c.derives;
  deep = deep_conjunction s c.begins c.spot (ap next_role e ∙ ap role_of i) (derives_to e (Derives.call (Derives.seq c.member front))) (derives_from e (Derives.more (Derives.seq (Derives.tok i) (derived d)) (derived rest)));
})

members_find : {s : Levels} {xs ys zs ms ending : List Lexeme} {whole : Value} {us ws : List Value} → Conjoined s xs zs ending whole ms → Derives grammar (Star further_members) ms ys us → Into (Star further_members) ys zs ws (Call Name.Conjunction) xs zs (whole ∷ []) → Looks (Star further_members) ys zs ws → (u : Levels) → Spot u ys zs ending → DeepIn (Call Name.Conjunction) xs zs (whole ∷ []) ending ⊎ (ending ≡ zs)
members_find c front into Reads.none u h = absurd (empty_spot u h)
members_find {ending = ending} c front into (Reads.more (Reads.seq (Reads.tok {t = x} e) (Reads.call m)) rest) u h =
    let further = one_more front (Derives.seq (Derives.tok e) m.derives) in
    ⊎_elim
    (λ p. ⊎_elim (λ d. inl (moved into (in_item (derived rest) (in_second (Derives.tok e) d)))) (λ i. behind_member c further.derives rest i) (m.finds (after u roles.And) ending p))
    (λ p. members_find c further.derives (λ n start stop v i. into n start stop v (Inside.later (Derives.seq (Derives.tok e) m.derives) i)) rest (scan (after u roles.And) m.scans.read) p)
    (spot_in (after u roles.And) m.scans.read m.scans.tokens (spot_token u x roles.And (ap role_of e) refl h))

conjunction_find : {xs zs : List Lexeme} {vs : List Value} → Looks (rule_of Name.Conjunction) xs zs vs → (s : Levels) (ending : List Lexeme) → BeginsPart s.level → Spot s xs zs ending → DeepIn (Call Name.Conjunction) xs zs (made Name.Conjunction vs ∷ []) ending ⊎ (ending ≡ zs)
conjunction_find {xs = xs} {zs = zs} (Reads.seq {ys = ms} {vs = ws} (Reads.call {v = v} m) rest) s ending b h =
    let c : Conjoined s xs zs ending (made Name.Conjunction (v ∷ ws)) ms = record { begins = b; spot = h; derives = Derives.call (Derives.seq m.derives (derived rest)); value = v; member = m.derives } in
    ⊎_elim
    (λ p. ⊎_elim (λ d. inl (in_call (in_first (derived rest) d))) (λ i. behind_member c Derives.none rest i) (m.finds s ending p))
    (λ p. members_find c Derives.none (λ n start stop v i. Inside.under (Inside.second m.derives i)) rest (scan s m.scans.read) p)
    (spot_in s m.scans.read m.scans.tokens h)

-- ---- formulas

abbrev further_conjunctions : Rhs
further_conjunctions = Tok t.Or ⨾ Call Name.Conjunction

record Disjoined (s : Levels) (xs zs ending : List Lexeme) (whole : Value) (ms : List Lexeme) : Type 0 where
  begins : IsFresh s.level
  spot : Spot s xs zs ending
  derives : Derives grammar (Call Name.Formula) xs zs (whole ∷ [])
  value : Value
  member : Derives grammar (Call Name.Conjunction) xs ms (value ∷ [])

behind_conjunction : {s : Levels} {xs ys zs ms ending : List Lexeme} {whole : Value} {us ws : List Value} → Disjoined s xs zs ending whole ms → Derives grammar (Star further_conjunctions) ms ys us → Derives grammar (Star further_conjunctions) ys zs ws → ending ≡ ys → DeepIn (Call Name.Formula) xs zs (whole ∷ []) ending
behind_conjunction {s = s} {xs = xs} {zs = zs} {whole = whole} c front rest e = record {
  n = Name.Formula;
  start = xs;
  stop = zs;
  value = whole;
  inside = Inside.here c.derives;
  deep = deep_disjunction s c.begins c.spot (derives_to e (Derives.call (Derives.seq c.member front))) (derives_from e rest);
}

conjunctions_find : {s : Levels} {xs ys zs ms ending : List Lexeme} {whole : Value} {us ws : List Value} → Disjoined s xs zs ending whole ms → Derives grammar (Star further_conjunctions) ms ys us → Into (Star further_conjunctions) ys zs ws (Call Name.Formula) xs zs (whole ∷ []) → Looks (Star further_conjunctions) ys zs ws → (u : Levels) → Spot u ys zs ending → DeepIn (Call Name.Formula) xs zs (whole ∷ []) ending
conjunctions_find c front into Reads.none u h = absurd (empty_spot u h)
conjunctions_find {ending = ending} c front into (Reads.more (Reads.seq (Reads.tok {t = x} e) (Reads.call m)) rest) u h =
    let further = one_more front (Derives.seq (Derives.tok e) m.derives) in
    ⊎_elim
    (λ p. ⊎_elim (λ d. moved into (in_item (derived rest) (in_second (Derives.tok e) d))) (λ i. behind_conjunction c further.derives (derived rest) i) (m.finds (after u roles.Or) ending (or_begins u) p))
    (λ p. conjunctions_find c further.derives (λ n start stop v i. into n start stop v (Inside.later (Derives.seq (Derives.tok e) m.derives) i)) rest (scan (after u roles.Or) m.scans.read) p)
    (spot_in (after u roles.Or) m.scans.read m.scans.tokens (spot_token u x roles.Or (ap role_of e) refl h))

formula_find : {xs zs : List Lexeme} {vs : List Value} → Looks (rule_of Name.Formula) xs zs vs → FindsFresh Name.Formula xs zs (made Name.Formula vs)
formula_find {xs = xs} {zs = zs} (Reads.seq {ys = ms} {vs = ws} (Reads.call {v = v} m) rest) s ending b h =
    let c : Disjoined s xs zs ending (made Name.Formula (v ∷ ws)) ms = record { begins = b; spot = h; derives = Derives.call (Derives.seq m.derives (derived rest)); value = v; member = m.derives } in
    ⊎_elim
    (λ p. ⊎_elim (λ d. in_call (in_first (derived rest) d)) (λ i. behind_conjunction c Derives.none (derived rest) i) (m.finds s ending (fresh_begins s.level b) p))
    (λ p. conjunctions_find c Derives.none (λ n start stop v i. Inside.under (Inside.second m.derives i)) rest (scan s m.scans.read) p)
    (spot_in s m.scans.read m.scans.tokens h)

-- ---- elements of preference statements

target_find : {xs ys : List Lexeme} {vs : List Value} → Looks (rule_of Name.Target) xs ys vs → FindsFresh Name.Target xs ys (made Name.Target vs)
target_find (Reads.left (Reads.call m)) s ending b h = in_call (in_left (m.finds s ending b h))
target_find (Reads.right (Reads.seq (Reads.tok {t = x} e) (Reads.call n))) s ending b h = absurd (kept_none (name_kept {n = false} n.scans) (after s roles.Other) (other_fresh s) (spot_token s x roles.Other (ap role_of e) refl h))

ranked_find : {xs ys : List Lexeme} {vs : List Value} → Looks (rule_of Name.Ranked) xs ys vs → FindsFresh Name.Ranked xs ys (made Name.Ranked vs)
ranked_find (Reads.seq (Reads.right Reads.empty) (Reads.call m)) s ending b h = in_call (in_second (Derives.right Derives.empty) (m.finds s ending b h))
ranked_find {xs = xs} {ys = zs} (Reads.seq (Reads.left (Reads.seq d (Reads.tok {t = x} {ts = ts} e))) (Reads.call {v = v} m)) s ending b h = in_call (in_second (Derives.left (Derives.seq (derived d) (Derives.tok e))) (weighed (form_kept refl (scanned d))))
  where
    weighed : Kept false xs (x ∷ ts) → DeepIn (Call Name.Target) ts zs (v ∷ []) ending
    weighed k = m.finds (after (scan s k.read) roles.Other) ending (other_fresh (scan s k.read)) (spot_token (scan s k.read) x roles.Other (ap role_of e) refl (spot_behind s k.read k.tokens (fresh_quiet k s b) h))

given_find : {xs ys : List Lexeme} {vs : List Value} → Looks (rule_of Name.Given) xs ys vs → (s : Levels) (ending : List Lexeme) → Spot s xs ys ending → DeepIn (Call Name.Given) xs ys (made Name.Given vs ∷ []) ending
given_find (Reads.seq (Reads.tok {t = x} e) (Reads.call m)) s ending h = in_call (in_second (Derives.tok e) (m.finds (after s roles.Other) ending (other_fresh s) (spot_token s x roles.Other (ap role_of e) refl h)))

domain_find : {xs ys : List Lexeme} {vs : List Value} → Looks (rule_of Name.Domain) xs ys vs → (s : Levels) (ending : List Lexeme) → Spot s xs ys ending → ⊥
domain_find (Reads.seq (Reads.tok {t = x} e) (Reads.call m)) s ending h = kept_none m.scans (after s roles.Other) (other_fresh s) (spot_token s x roles.Other (ap role_of e) refl h)

-- one or more of a rule that begins where no formula stands, with signs between them
abbrev FromFresh : Name → Type 0
FromFresh m = (xs ys : List Lexeme) (v : Value) → Searched m xs ys v → FindsFresh m xs ys v

more_find : {m : Name} {sign : Terminal} {xs ys : List Lexeme} {vs : List Value} → role_of sign ≡ roles.Other → FromFresh m → (ending : List Lexeme) → Looks (Star (Tok sign ⨾ Call m)) xs ys vs → (u : Levels) → Spot u xs ys ending → DeepIn (Star (Tok sign ⨾ Call m)) xs ys vs ending
more_find r f ending Reads.none u h = absurd (empty_spot u h)
more_find r f ending (Reads.more (Reads.seq (Reads.tok {t = x} e) (Reads.call m)) rest) u h =
    let front = tokens_of m.derives in
    ⊎_elim
    (λ p. in_item (derived rest) (in_second (Derives.tok e) (f _ _ _ m (after u roles.Other) ending (other_fresh u) p)))
    (λ p. in_later (Derives.seq (Derives.tok e) m.derives) (more_find r f ending rest (scan (after u roles.Other) front.read) p))
    (spot_in (after u roles.Other) front.read front.tokens (spot_token u x roles.Other (ap role_of e ∙ r) refl h))

many_find : {m : Name} {sign : Terminal} {xs ys : List Lexeme} {vs : List Value} → role_of sign ≡ roles.Other → FromFresh m → (s : Levels) (ending : List Lexeme) → IsFresh s.level → Looks (many (Call m) sign) xs ys vs → Spot s xs ys ending → DeepIn (many (Call m) sign) xs ys vs ending
many_find r f s ending b (Reads.seq (Reads.call m) rest) h = seq_find s ending m.derives (derived rest) (λ p. f _ _ _ m s ending b p) (λ u p. more_find r f ending rest u p) h

fresh_ranked : FromFresh Name.Ranked
fresh_ranked xs ys v m = m.finds

fresh_element : FromFresh Name.Element
fresh_element xs ys v m = m.finds

conditions_find : {xs ys : List Lexeme} {vs : List Value} (ending : List Lexeme) → Looks (opt (Call Name.Given) ⨾ opt (Call Name.Domain)) xs ys vs → (s : Levels) → Spot s xs ys ending → DeepIn (opt (Call Name.Given) ⨾ opt (Call Name.Domain)) xs ys vs ending
conditions_find ending (Reads.seq g d) s h = seq_find s ending (derived g) (derived d) (λ p. given_of g p) (λ u p. absurd (domain_of d u p)) h
  where
    given_of : {xs ys : List Lexeme} {vs : List Value} → Looks (opt (Call Name.Given)) xs ys vs → Spot s xs ys ending → DeepIn (opt (Call Name.Given)) xs ys vs ending
    given_of (Reads.left (Reads.call m)) p = in_left (m.finds s ending p)
    given_of (Reads.right Reads.empty) p = absurd (empty_spot s p)

    domain_of : {xs ys : List Lexeme} {vs : List Value} → Looks (opt (Call Name.Domain)) xs ys vs → (u : Levels) → Spot u xs ys ending → ⊥
    domain_of (Reads.left (Reads.call m)) u p = m.finds u ending p
    domain_of (Reads.right Reads.empty) u p = empty_spot u p

element_find : {xs ys : List Lexeme} {vs : List Value} → Looks (rule_of Name.Element) xs ys vs → FindsFresh Name.Element xs ys (made Name.Element vs)
element_find (Reads.seq d c) s ending b h = in_call (seq_find s ending (derived d) (derived c) (λ p. many_find refl fresh_ranked s ending b d p) (λ u p. conditions_find ending c u p) h)

-- ---- statements

abbrev elements_rule : Rhs
elements_rule = opt (many (Call Name.Element) t.Semicolon)

elements_find : {xs ys : List Lexeme} {vs : List Value} (s : Levels) (ending : List Lexeme) → IsFresh s.level → Looks elements_rule xs ys vs → Spot s xs ys ending → DeepIn elements_rule xs ys vs ending
elements_find s ending b (Reads.left d) h = in_left (many_find refl fresh_element s ending b d h)
elements_find s ending b (Reads.right Reads.empty) h = absurd (empty_spot s h)

braces_find : {xs ys : List Lexeme} {vs : List Value} (ending : List Lexeme) → Looks (in_braces Name.Element) xs ys vs → (s : Levels) → Spot s xs ys ending → DeepIn (in_braces Name.Element) xs ys vs ending
braces_find ending (Reads.seq (Reads.tok {t = x} e) (Reads.seq d (Reads.tok {t = y} f))) s h =
    in_second (Derives.tok e) (seq_find (after s roles.Other) ending (derived d) (Derives.tok f) (λ p. elements_find (after s roles.Other) ending (other_fresh s) d p) (λ u p. absurd (alone_spot u y roles.Other (ap role_of f) refl p)) (spot_token s x roles.Other (ap role_of e) refl h))

last_find : {xs ys : List Lexeme} {vs : List Value} (ending : List Lexeme) → Looks (in_braces Name.Element ⨾ Tok t.Dot) xs ys vs → (s : Levels) → Spot s xs ys ending → DeepIn (in_braces Name.Element ⨾ Tok t.Dot) xs ys vs ending
last_find ending (Reads.seq b (Reads.tok {t = d} i)) s h = seq_find s ending (derived b) (Derives.tok i) (λ p. braces_find ending b s p) (λ u p. absurd (alone_spot u d roles.Dot (ap role_of i) refl p)) h

preference_find : {xs ys : List Lexeme} {vs : List Value} → Looks (rule_of Name.Preference) xs ys vs → FindsWhole Name.Preference xs ys (made Name.Preference vs)
preference_find (Reads.seq (Reads.tok {t = s} e) (Reads.seq (Reads.tok {t = o} f) (Reads.seq (Reads.call n) (Reads.seq (Reads.tok {t = c} g) (Reads.seq (Reads.call k) (Reads.seq (Reads.tok {t = p} h) b)))))) ending spot =
    let opening = opening_kept s o c p e f n.scans g k.scans h in
    in_call (in_second (Derives.tok e) (in_second (Derives.tok f) (in_second n.derives (in_second (Derives.tok g) (in_second k.derives (in_second (Derives.tok h) (last_find ending b (scan no_levels opening.read) (spot_behind no_levels opening.read opening.tokens (fresh_quiet opening no_levels fresh_nowhere) spot))))))))

plain_find : {xs ys : List Lexeme} {v : Value} → Plain v → ScansStatement xs ys v → NoneWhole xs ys
plain_find p m ending h = quiet_spot no_levels m.whole.read m.whole.tokens (m.whole.tells.quiet (ap all_in_bounds p.none)) h

small_find : {of_type : Bool} {xs ys : List Lexeme} {vs : List Value} → Looks (rule_of (Name.Statement false of_type)) xs ys vs → NoneWhole xs ys
small_find (Reads.left (Reads.call m)) ending h = m.finds ending h
small_find (Reads.right (Reads.left (Reads.call m))) ending h = m.finds ending h
small_find (Reads.right (Reads.right (Reads.left (Reads.call m)))) ending h = m.finds ending h
small_find (Reads.right (Reads.right (Reads.right (Reads.call m)))) ending h = m.finds ending h

statement_find : {of_type : Bool} {xs ys : List Lexeme} {vs : List Value} → Looks (rule_of (Name.Statement true of_type)) xs ys vs → (ending : List Lexeme) → Spot no_levels xs ys ending → DeepIn (rule_of (Name.Statement true of_type)) xs ys vs ending
statement_find (Reads.left (Reads.call m)) ending h = in_left (m.finds ending h)
statement_find (Reads.right (Reads.left (Reads.call m))) ending h = in_right (in_left (m.finds ending h))
statement_find (Reads.right (Reads.right (Reads.call m))) ending h = absurd (m.finds ending h)

-- ---- sections and texts

whole_in : {xs ys zs ending : List Lexeme} {fs : List FormulaTree} → Whole xs ys fs → Spot no_levels xs zs ending → Spot no_levels xs ys ending ⊎ Spot no_levels ys zs ending
whole_in {xs = xs} {ys = ys} {zs = zs} {ending = ending} w h = subst (λ s. Spot no_levels xs ys ending ⊎ Spot s ys zs ending) w.ends (spot_in no_levels w.read w.tokens h)

statements_find : {whole of_type : Bool} {xs ys : List Lexeme} {vs : List Value} (ending : List Lexeme) → Looks (Star (Call (Name.Statement whole of_type))) xs ys vs → Spot no_levels xs ys ending → DeepIn (Star (Call (Name.Statement whole of_type))) xs ys vs ending
statements_find ending Reads.none h = absurd (empty_spot no_levels h)
statements_find ending (Reads.more (Reads.call m) rest) h = ⊎_elim (λ p. in_item (derived rest) (m.finds ending p)) (λ p. in_later m.derives (statements_find ending rest p)) (whole_in m.scans.whole h)

abbrev section_rule : Bool → Rhs
section_rule whole = Call (Name.BaseSection whole) ∣ Call (Name.TypeSection whole)

sections_find : {whole : Bool} {xs ys : List Lexeme} {vs : List Value} (ending : List Lexeme) → Looks (Star (section_rule whole)) xs ys vs → Spot no_levels xs ys ending → DeepIn (Star (section_rule whole)) xs ys vs ending
sections_find ending Reads.none h = absurd (empty_spot no_levels h)
sections_find ending (Reads.more (Reads.left (Reads.call m)) rest) h = ⊎_elim (λ p. in_item (derived rest) (in_left (m.finds ending p))) (λ p. in_later (Derives.left m.derives) (sections_find ending rest p)) (whole_in m.scans h)
sections_find ending (Reads.more (Reads.right (Reads.call m)) rest) h = ⊎_elim (λ p. in_item (derived rest) (in_right (m.finds ending p))) (λ p. in_later (Derives.right m.derives) (sections_find ending rest p)) (whole_in m.scans h)

base_find : {whole : Bool} {xs ys : List Lexeme} {vs : List Value} → Looks (rule_of (Name.BaseSection whole)) xs ys vs → FindsWhole (Name.BaseSection whole) xs ys (made (Name.BaseSection whole) vs)
base_find (Reads.seq (Reads.call m) rest) ending h = ⊎_elim (λ p. absurd (m.finds ending p)) (λ p. in_call (in_second m.derives (statements_find ending rest p))) (whole_in m.scans.whole h)

type_find : {whole : Bool} {xs ys : List Lexeme} {vs : List Value} → Looks (rule_of (Name.TypeSection whole)) xs ys vs → FindsWhole (Name.TypeSection whole) xs ys (made (Name.TypeSection whole) vs)
type_find (Reads.seq (Reads.call m) rest) ending h = ⊎_elim (λ p. absurd (m.finds ending p)) (λ p. in_call (in_second m.derives (statements_find ending rest p))) (whole_in m.scans.whole h)

text_find : {whole of_type : Bool} {xs ys : List Lexeme} {vs : List Value} → Looks (rule_of (Name.Text whole of_type)) xs ys vs → FindsWhole (Name.Text whole of_type) xs ys (made (Name.Text whole of_type) vs)
text_find (Reads.seq d e) ending h = ⊎_elim (λ p. in_call (in_first (derived e) (statements_find ending d p))) (λ p. in_call (in_second (derived d) (sections_find ending e p))) (whole_in (statements_scan (scanned d)) h)

-- ---- all rules

rule_finds : (n : Name) (xs ys : List Lexeme) (vs : List Value) → Looks (rule_of n) xs ys vs → Scans n xs ys (made n vs) → Finds n xs ys (made n vs)
rule_finds (Name.Text whole of_type) xs ys vs d m = text_find d
rule_finds (Name.BaseSection whole) xs ys vs d m = base_find d
rule_finds (Name.TypeSection whole) xs ys vs d m = type_find d
rule_finds (Name.Statement false of_type) xs ys vs d m = λ ending h. absurd (small_find d ending h)
rule_finds (Name.Statement true of_type) xs ys vs d m = λ ending h. in_call (statement_find d ending h)
rule_finds Name.Preference xs ys vs d m = preference_find d
rule_finds Name.BaseOpening xs ys vs d m = plain_find (base_plain vs) m
rule_finds Name.TypeOpening xs ys vs d m = plain_find (type_plain vs) m
rule_finds Name.Const xs ys vs d m = plain_find (const_plain vs) m
rule_finds Name.Show xs ys vs d m = plain_find (show_plain vs) m
rule_finds Name.Defined xs ys vs d m = plain_find (defined_plain vs) m
rule_finds (Name.Rule of_type) xs ys vs d m = plain_find (rule_plain of_type vs) m
rule_finds Name.Optimize xs ys vs d m = plain_find (optimize_plain vs) m
rule_finds Name.Element xs ys vs d m = element_find d
rule_finds Name.Ranked xs ys vs d m = ranked_find d
rule_finds Name.Target xs ys vs d m = target_find d
rule_finds Name.Formula xs ys vs d m = formula_find d
rule_finds Name.Given xs ys vs d m = given_find d
rule_finds Name.Domain xs ys vs d m = domain_find d
rule_finds Name.Conjunction xs ys vs d m = conjunction_find d
rule_finds Name.Member xs ys vs d m = λ s ending h. either_in in_call (member_find d s ending h)
rule_finds Name.Atom xs ys vs d m = atom_find d
rule_finds Name.Arguments xs ys vs d m = arguments_find d
rule_finds n xs ys vs d m = tt

searched : (n : Name) (xs ys : List Lexeme) (vs : List Value) → Looks (rule_of n) xs ys vs → Searched n xs ys (made n vs)
searched n xs ys vs d = let m = rule_scans n xs ys vs (scanned d) in record { derives = Derives.call (derived d); scans = m; finds = rule_finds n xs ys vs d m }

-- ---- a text

spot_of : {xs ending : List Lexeme} → StandsBefore no_levels xs ending → Spot no_levels xs [] ending
spot_of {ending = ending} h = record { before = h.before; here = h.here; behind = ending; are = h.are; within = sym (append-nil ending); stands = h.stands }

deep_before : {rule n : Name} {xs start stop ending : List Lexeme} {value whole : Value} → Inside grammar n start stop value (Call rule) xs [] (whole ∷ []) → DeepEnd start stop ending n → DeepBefore rule xs ending
deep_before i (DeepEnd.disjunction h d e) = record { tree = _; ends = EndsBefore.disjunction (record { start = _; stop = _; value = _; whole = _; inside = i; first = _; derives = d; others = _; further = e }); deep = h }
deep_before i (DeepEnd.conjunction h d e) = record { tree = _; ends = EndsBefore.conjunction (record { start = _; stop = _; value = _; whole = _; inside = i; first = _; derives = d; others = _; further = e }); deep = h }

pub stands_deep : {whole of_type : Bool} {xs ending : List Lexeme} {v : Value} → Derives grammar (Call (Name.Text whole of_type)) xs [] (v ∷ []) → StandsBefore no_levels xs ending → DeepBefore (Name.Text whole of_type) xs ending
stands_deep {whole = whole} {of_type = of_type} {xs = xs} {ending = ending} {v = v} d h = by_reading (read_by searched d)
  where
    by_reading : {v : Value} → Looks (Call (Name.Text whole of_type)) xs [] (v ∷ []) → DeepBefore (Name.Text whole of_type) xs ending
    by_reading (Reads.call m) = let p = m.finds ending (spot_of h) in deep_before p.inside p.deep
