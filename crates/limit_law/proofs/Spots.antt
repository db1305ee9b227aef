-- A limit of formulas that stands at one of some tokens.
use Rattle.std.proofs.Common.{◌≡◌, ◌+◌, Bool, true, false, List, [], ◌∷◌, ◌++◌, refl, sym, ap, subst, ◌∙◌, append_assoc, arith, length-append, ◌⊎◌, inl, inr}
use Rattle.std.specs.Prelude.{Some, length, nat_le}
use Rattle.std.proofs.lemmas.List.{append_cancel_right}
use Rattle.ap_grammar.specs.Lexemes.{Lexeme}
use Rattle.ap_lexemes.specs.declared.limit.Limit.TheVariants.{Formula}
use Rattle.ap_lexemes.specs.declared.role.Role.{Role}
use Rattle.ap_lexemes.specs.declared.role.Role.TheVariants.{Name, Not, And, Or, Open, Close, Comma, Dot, Other}
use Rattle.ap_lexemes.specs.declared.levels.Level.{Level}
use Rattle.ap_lexemes.specs.Limits.{Levels, after, atom_limit, formula_limit, is_full, limit_at, next_role, role_of}
use Rattle.limit_law.specs.Depths.{scan}
use Rattle.limit_law.proofs.Quiet.{Quiet, Silent, a_nesting, an_arity, scan_append, silent_here}

-- one stands at a token of `xs` before `ys`, and before `ending`
pub record Spot (s : Levels) (xs ys ending : List Lexeme) : Type 0 where
  pub before : List Lexeme
  pub here : Lexeme
  pub behind : List Lexeme
  pub are : xs ≡ before ++ (here ∷ ending)
  pub within : ending ≡ behind ++ ys
  pub stands : limit_at (scan s before) (role_of here.terminal) (next_role ending) ≡ Some Formula

-- ---- none

pub quiet_spot : (s : Levels) (read : List Lexeme) {xs ys ending : List Lexeme} → xs ≡ read ++ ys → Quiet s read → Spot s xs ys ending → ⊥
quiet_spot s read {ys = ys} {ending = ending} e q h = silent_here s h.before h.behind h.here (subst (Quiet s) tokens q) (next_role ending) h.stands
  where
    tokens : read ≡ h.before ++ (h.here ∷ h.behind)
    tokens = append_cancel_right read (h.before ++ (h.here ∷ h.behind)) ys (sym e ∙ (h.are ∙ (ap (λ ts. h.before ++ (h.here ∷ ts)) h.within ∙ sym (append_assoc h.before (h.here ∷ h.behind) ys))))

pub empty_spot : (s : Levels) {xs ending : List Lexeme} → Spot s xs xs ending → ⊥
empty_spot s h = quiet_spot s [] refl tt h

-- ---- one part or the other

front_spot : {s : Levels} (x : Lexeme) {xs ys ending : List Lexeme} → Spot (after s (role_of x.terminal)) xs ys ending → Spot s (x ∷ xs) ys ending
front_spot x h = record { before = x ∷ h.before; here = h.here; behind = h.behind; are = ap (λ ts. x ∷ ts) h.are; within = h.within; stands = h.stands }

front_either : {s : Levels} (x : Lexeme) {xs ys ending : List Lexeme} {B : Type 0} → Spot (after s (role_of x.terminal)) xs ys ending ⊎ B → Spot s (x ∷ xs) ys ending ⊎ B
front_either x (inl h) = inl (front_spot x h)
front_either x (inr b) = inr b

spot_first : (s : Levels) (x here : Lexeme) (read ys ending : List Lexeme) → x ∷ (read ++ ys) ≡ here ∷ ending → limit_at s (role_of here.terminal) (next_role ending) ≡ Some Formula → Spot s (x ∷ (read ++ ys)) ys ending
spot_first s x here read ys ending e h = let same : read ++ ys ≡ ending = cc in record { before = []; here = here; behind = read; are = e; within = sym same; stands = h }

spot_at : (s : Levels) (read before behind ys zs ending : List Lexeme) (here : Lexeme) → read ++ ys ≡ before ++ (here ∷ ending) → ending ≡ behind ++ zs → limit_at (scan s before) (role_of here.terminal) (next_role ending) ≡ Some Formula → Spot s (read ++ ys) ys ending ⊎ Spot (scan s read) ys zs ending
spot_at s [] before behind ys zs ending here e f h = inr (record { before = before; here = here; behind = behind; are = e; within = f; stands = h })
spot_at s (x ∷ read) [] behind ys zs ending here e f h = inl (spot_first s x here read ys ending e h)
spot_at s (x ∷ read) (y ∷ before) behind ys zs ending here e f h =
    let same : y ≡ x = cc in
    let rest : read ++ ys ≡ before ++ (here ∷ ending) = cc in
    front_either x (spot_at (after s (role_of x.terminal)) read before behind ys zs ending here rest f (subst (λ z. limit_at (scan (after s (role_of z.terminal)) before) (role_of here.terminal) (next_role ending) ≡ Some Formula) same h))

pub spot_in : (s : Levels) (read : List Lexeme) {xs ys zs ending : List Lexeme} → xs ≡ read ++ ys → Spot s xs zs ending → Spot s xs ys ending ⊎ Spot (scan s read) ys zs ending
spot_in s read {xs = xs} {ys = ys} {zs = zs} {ending = ending} e h = subst (λ ts. Spot s ts ys ending ⊎ Spot (scan s read) ys zs ending) (sym e) (spot_at s read h.before h.behind ys zs ending h.here (sym e ∙ h.are) h.within h.stands)

-- ---- tokens that are no end of a formula

-- a token at which no limit of formulas ever stands
abbrev pub is_no_end : Role → Bool
is_no_end Name = false
is_no_end Close = false
is_no_end r = true

no_end_silent : (s : Levels) (r : Role) → is_no_end r ≡ true → Silent s r
no_end_silent s Name h = cc
no_end_silent s Close h = cc
no_end_silent s Open h = λ next. a_nesting (nat_le 32 (length s.outer))
no_end_silent s Comma h = λ next. an_arity (is_full s.level s.outer)
no_end_silent s Not h = λ next e. cc
no_end_silent s And h = λ next e. cc
no_end_silent s Or h = λ next e. cc
no_end_silent s Dot h = λ next e. cc
no_end_silent s Other h = λ next e. cc

right_spot : {A B : Type 0} → (A → ⊥) → A ⊎ B → B
right_spot f (inl a) = absurd (f a)
right_spot f (inr b) = b

-- behind tokens at which none stands
pub spot_behind : (s : Levels) (read : List Lexeme) {xs ys zs ending : List Lexeme} → xs ≡ read ++ ys → Quiet s read → Spot s xs zs ending → Spot (scan s read) ys zs ending
spot_behind s read e q h = right_spot (quiet_spot s read e q) (spot_in s read e h)

token_quiet : (s : Levels) (x : Lexeme) (r : Role) → role_of x.terminal ≡ r → is_no_end r ≡ true → Quiet s (x ∷ [])
token_quiet s x r e h = (no_end_silent s (role_of x.terminal) (subst (λ q. is_no_end q ≡ true) (sym e) h), tt)

pub spot_token : (s : Levels) (x : Lexeme) (r : Role) {xs ys ending : List Lexeme} → role_of x.terminal ≡ r → is_no_end r ≡ true → Spot s (x ∷ xs) ys ending → Spot (after s r) xs ys ending
spot_token s x r {xs = xs} {ys = ys} {ending = ending} e h p = subst (λ q. Spot (after s q) xs ys ending) e (spot_behind s (x ∷ []) refl (token_quiet s x r e h) p)

-- ---- what one says of the levels behind its token

atom_gives : (l : Level) (next : Role) → atom_limit l next ≡ Some Formula → formula_limit l next ≡ Some Formula
atom_gives l Open e = cc
atom_gives l Name e = e
atom_gives l Not e = e
atom_gives l And e = e
atom_gives l Or e = e
atom_gives l Close e = e
atom_gives l Comma e = e
atom_gives l Dot e = e
atom_gives l Other e = e

limit_gives : (s : Levels) (r next : Role) → limit_at s r next ≡ Some Formula → formula_limit (after s r).level next ≡ Some Formula
limit_gives s Name next e = atom_gives (after s Name).level next e
limit_gives s Close next e = e
limit_gives s Open next e = absurd (a_nesting (nat_le 32 (length s.outer)) e)
limit_gives s Comma next e = absurd (an_arity (is_full s.level s.outer) e)
limit_gives s Not next e = cc
limit_gives s And next e = cc
limit_gives s Or next e = cc
limit_gives s Dot next e = cc
limit_gives s Other next e = cc

-- where the tokens before `ending` are these
pub spot_limit : (s : Levels) (read : List Lexeme) {xs ys ending : List Lexeme} → xs ≡ read ++ ending → Spot s xs ys ending → formula_limit (scan s read).level (next_role ending) ≡ Some Formula
spot_limit s read {ending = ending} e h = subst (λ ts. formula_limit (scan s ts).level (next_role ending) ≡ Some Formula) (sym tokens) (subst (λ (u : Levels). formula_limit u.level (next_role ending) ≡ Some Formula) (sym (scan_append s h.before (h.here ∷ []))) (limit_gives (scan s h.before) (role_of h.here.terminal) (next_role ending) h.stands))
  where
    tokens : read ≡ h.before ++ (h.here ∷ [])
    tokens = append_cancel_right read (h.before ++ (h.here ∷ [])) ending (sym e ∙ (h.are ∙ sym (append_assoc h.before (h.here ∷ []) ending)))

-- ---- one token

no_token : (y here : Lexeme) (ys before behind ending : List Lexeme) → y ∷ ys ≡ before ++ (here ∷ ending) → ending ≡ behind ++ ys → length before + length behind ≡ 0
no_token y here ys before behind ending e f =
    let a : length (y ∷ ys) ≡ length (before ++ (here ∷ ending)) = ap length e in
    let b : length ending ≡ length (behind ++ ys) = ap length f in
    grind (arith, length-append)

none_at_all : (s : Levels) (y here : Lexeme) (ys before behind ending : List Lexeme) → length before + length behind ≡ 0 → y ∷ ys ≡ before ++ (here ∷ ending) → ending ≡ behind ++ ys → limit_at (scan s before) (role_of here.terminal) (next_role ending) ≡ Some Formula → (ending ≡ ys) × (limit_at s (role_of y.terminal) (next_role ys) ≡ Some Formula)
none_at_all s y here ys [] [] ending l e f h = let same : here ≡ y = cc in (f, subst (λ ts. limit_at s (role_of y.terminal) (next_role ts) ≡ Some Formula) f (subst (λ z. limit_at s (role_of z.terminal) (next_role ending) ≡ Some Formula) same h))
none_at_all s y here ys [] (z ∷ behind) ending l e f h = absurd (omega (arith, l))
none_at_all s y here ys (z ∷ before) behind ending l e f h = absurd (omega (arith, l))

pub one_spot : (s : Levels) (y : Lexeme) {ys ending : List Lexeme} → Spot s (y ∷ ys) ys ending → (ending ≡ ys) × (limit_at s (role_of y.terminal) (next_role ys) ≡ Some Formula)
one_spot s y {ys = ys} {ending = ending} h = none_at_all s y h.here ys h.before h.behind ending (no_token y h.here ys h.before h.behind ending h.are h.within) h.are h.within h.stands

pub alone_spot : (s : Levels) (y : Lexeme) (r : Role) {ys ending : List Lexeme} → role_of y.terminal ≡ r → is_no_end r ≡ true → Spot s (y ∷ ys) ys ending → ⊥
alone_spot s y r e h p = empty_spot (after s r) (spot_token s y r e h p)
