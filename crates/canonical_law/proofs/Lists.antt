-- Lists with a sign between their members read back.
use Rattle.std.proofs.Common.{◌≡◌, ℕ, List, [], ◌∷◌, ◌++◌, map, Option, Some, None, refl, sym, ap, subst, ◌∙◌, append_assoc, ◌⊎◌, inl, inr}
use Rattle.std.proofs.lemmas.List.{append-nil}
use Rattle.grammar.specs.Form.{Derives, ◌⨾◌}
use Rattle.grammar.specs.Form.Form.{Tok, Star}
use Rattle.ap_syntax.specs.Pieces.{Piece, parted, text_of}
use Rattle.ap_grammar.specs.declared.terminals.Terminal.{Terminal}
use Rattle.ap_grammar.specs.Lexemes.{Lexeme}
use Rattle.ap_grammar.specs.Values.{Value, collected, found}
use Rattle.ap_grammar.specs.Values.Value.{token}
use Rattle.ap_grammar.specs.Grammar.{Rhs, grammar, many}
use Rattle.canonical_law.proofs.Lexing.{Ends}
use Rattle.canonical_law.proofs.Spells.{Spells, Clear, split, clear_append, text_of_append}

-- ---- a derivation from or to another list that is the same

pub from_here : {a : Rhs} {xs ms ys : List Lexeme} {vs : List Value} → ms ≡ xs → Derives grammar a ms ys vs → Derives grammar a xs ys vs
from_here e d = rw e at d

pub up_to : {a : Rhs} {xs ms ys : List Lexeme} {vs : List Value} → ms ≡ ys → Derives grammar a xs ms vs → Derives grammar a xs ys vs
up_to e d = rw e at d

-- ---- what holds of each member

pub data Each {A : Type 0} (P : A → Type 0) : List A → Type 0 where
  none : Each P []
  more : {x : A} {xs : List A} → P x → Each P xs → Each P (x ∷ xs)

-- the same members in order, each up to a relation
pub data Alike {A : Type 0} (R : A → A → Type 0) : List A → List A → Type 0 where
  none : Alike R [] []
  more : {x y : A} {xs ys : List A} → R x y → Alike R xs ys → Alike R (x ∷ xs) (y ∷ ys)

pub alike_same : {A : Type 0} {xs ys : List A} → Alike (λ x y. x ≡ y) xs ys → xs ≡ ys
alike_same Alike.none = refl
alike_same (Alike.more {x = x} {ys = ys} e a) = rw (e, alike_same a) refl

-- ---- the members behind the first

abbrev pub behind : List Piece → List (List Piece) → List Piece
behind between [] = []
behind between (p ∷ ps) = between ++ (p ++ behind between ps)

pub parted_behind : (between p : List Piece) (ps : List (List Piece)) → parted between (p ∷ ps) ≡ p ++ behind between ps
parted_behind between p [] = sym (append-nil p)
parted_behind between p (q ∷ qs) = append_assoc p between (parted between (q ∷ qs)) ∙ ap (λ rs. p ++ (between ++ rs)) (parted_behind between q qs)

-- the pieces between two members are one sign
pub record Between (between : List Piece) (sign : Terminal) : Type 0 where
  pub derives : {xs ys : List Lexeme} → Spells between xs ys → (x : Lexeme) × (xs ≡ x ∷ ys) × (x.terminal ≡ sign)
  pub clear : (rest : List ℕ) → Clear between rest
  pub ends : (rest : List ℕ) → Ends (text_of between ++ rest)

-- a sign between members, or a value of a member
abbrev pub IsSignOr : {A B : Type 0} → (B → A → Value) → Value → Type 0
IsSignOr {A} {B} value_of v = ((x : Lexeme) × (v ≡ token x)) ⊎ ((b : B) × (y : A) × (v ≡ value_of b y))

module _ {A B : Type 0} (R : A → A → Type 0) (pieces : A → List Piece) (pick : Value → Option A) (value_of : B → A → Value) (a : Rhs) where
  -- the pieces of a member derive a value of it
  pub record IsRead (x : A) (xs ys : List Lexeme) : Type 0 where
    pub info : B
    pub read : A
    pub derives : Derives grammar a xs ys (value_of info read ∷ [])
    pub same : R read x

  pub record GoodItem (x : A) : Type 0 where
    pub derives : {xs ys : List Lexeme} → Spells (pieces x) xs ys → IsRead x xs ys
    pub clear : (rest : List ℕ) → Ends rest → Clear (pieces x) rest

  pub record AreRead (form : Rhs) (items : List A) (xs ys : List Lexeme) : Type 0 where
    pub values : List Value
    pub derives : Derives grammar form xs ys values
    pub read : List A
    pub picked : collected pick values ≡ read
    pub same : Alike R read items
    pub each : Each (IsSignOr value_of) values

  collected_more : (v : Value) (vs : List Value) {x : A} {xs : List A} → pick v ≡ Some x → collected pick vs ≡ xs → collected pick (v ∷ vs) ≡ x ∷ xs
  collected_more v vs {x = x} e f = ap (λ (o : Option A). elim o [ None ↦ collected pick vs | Some y ↦ y ∷ collected pick vs ]) e ∙ ap (λ ys. x ∷ ys) f

  skips : (v : Value) (vs : List Value) {xs : List A} → pick v ≡ None → collected pick vs ≡ xs → collected pick (v ∷ vs) ≡ xs
  skips v vs e f = ap (λ (o : Option A). elim o [ None ↦ collected pick vs | Some y ↦ y ∷ collected pick vs ]) e ∙ f

  module _ (sign : Terminal) (between : List Piece) (b : Between between sign) (no_token : (x : Lexeme) → pick (token x) ≡ None) (picks : (i : B) (x : A) → pick (value_of i x) ≡ Some x) where
    pub rest_read : (items : List A) {xs ys : List Lexeme} → Each GoodItem items → Spells (behind between (map pieces items)) xs ys → AreRead (Star (Tok sign ⨾ a)) items xs ys
    rest_read [] Each.none Spells.nothing = record { values = []; derives = Derives.none; read = []; picked = refl; same = Alike.none; each = Each.none }
    rest_read (x ∷ items) (Each.more g gs) s =
        let q = split between s in
        let p = split (pieces x) q.2 in
        let c = b.derives q.1 in
        let one = g.derives p.1 in
        let all = rest_read items gs p.2 in
        record {
          values = token c.0 ∷ value_of one.info one.read ∷ all.values;
          derives = (let d = Derives.more (Derives.seq (Derives.tok {t = c.0} c.2) one.derives) all.derives in rw (sym c.1) at d);
          read = one.read ∷ all.read;
          picked = skips (token c.0) (value_of one.info one.read ∷ all.values) (no_token c.0) (collected_more (value_of one.info one.read) all.values (picks one.info one.read) all.picked);
          same = Alike.more one.same all.same;
          each = Each.more (inl (c.0, refl)) (Each.more (inr (one.info, one.read, refl)) all.each);
        }

    pub rest_ends : (items : List A) (rest : List ℕ) → Ends rest → Ends (text_of (behind between (map pieces items)) ++ rest)
    rest_ends [] rest h = h
    rest_ends (x ∷ items) rest h = subst Ends (sym (ap (λ bs. bs ++ rest) (text_of_append between (pieces x ++ behind between (map pieces items))) ∙ append_assoc (text_of between) (text_of (pieces x ++ behind between (map pieces items))) rest)) (b.ends (text_of (pieces x ++ behind between (map pieces items)) ++ rest))

    pub rest_clear : (items : List A) → Each GoodItem items → (rest : List ℕ) → Ends rest → Clear (behind between (map pieces items)) rest
    rest_clear [] Each.none rest h = Clear.nothing
    rest_clear (x ∷ items) (Each.more g gs) rest h =
        clear_append between _ rest (b.clear _) (clear_append (pieces x) _ rest (g.clear _ (rest_ends items rest h)) (rest_clear items gs rest h))

    -- one member or more
    pub all_read : (x : A) (items : List A) {xs ys : List Lexeme} → Each GoodItem (x ∷ items) → Spells (parted between (map pieces (x ∷ items))) xs ys → AreRead (many a sign) (x ∷ items) xs ys
    all_read x items (Each.more g gs) s =
        let t = rw (parted_behind between (pieces x) (map pieces items)) at s in
        let q = split (pieces x) t in
        let one = g.derives q.1 in
        let all = rest_read items gs q.2 in
        record {
          values = value_of one.info one.read ∷ all.values;
          derives = Derives.seq one.derives all.derives;
          read = one.read ∷ all.read;
          picked = collected_more (value_of one.info one.read) all.values (picks one.info one.read) all.picked;
          same = Alike.more one.same all.same;
          each = Each.more (inr (one.info, one.read, refl)) all.each;
        }

    pub all_clear : (x : A) (items : List A) → Each GoodItem (x ∷ items) → (rest : List ℕ) → Ends rest → Clear (parted between (map pieces (x ∷ items))) rest
    all_clear x items (Each.more g gs) rest h = rw (parted_behind between (pieces x) (map pieces items)) (clear_append (pieces x) _ rest (g.clear _ (rest_ends items rest h)) (rest_clear items gs rest h))

-- ---- what stands behind or before a list

pub collected-append : {A : Type 0} (pick : Value → Option A) (us ws : List Value) → collected pick (us ++ ws) ≡ collected pick us ++ collected pick ws
collected-append pick [] ws = refl
collected-append pick (u ∷ us) ws = picked_first (pick u) _ _ _ (collected-append pick us ws)
  where
    picked_first : {A : Type 0} (o : Option A) (xs ys zs : List A) → xs ≡ ys ++ zs → elim o [ None ↦ xs | Some x ↦ x ∷ xs ] ≡ elim o [ None ↦ ys | Some x ↦ x ∷ ys ] ++ zs
    picked_first None xs ys zs e = e
    picked_first (Some x) xs ys zs e = ap (λ ws. x ∷ ws) e

-- nothing of another sort is found in a list
pub found_behind : {A B C : Type 0} (value_of : B → A → Value) (pick : Value → Option C) → ((x : Lexeme) → pick (token x) ≡ None) → ((b : B) (y : A) → pick (value_of b y) ≡ None) → {values : List Value} (ws : List Value) → Each (IsSignOr value_of) values → found pick (values ++ ws) ≡ found pick ws
found_behind value_of pick h k ws Each.none = refl
found_behind {C = C} value_of pick h k ws (Each.more {xs = vs} (inl q) es) = ap (λ (o : Option C). elim o [ None ↦ found pick (vs ++ ws) | Some y ↦ Some y ]) (ap pick q.1 ∙ h q.0) ∙ found_behind value_of pick h k ws es
found_behind {C = C} value_of pick h k ws (Each.more {xs = vs} (inr q) es) = ap (λ (o : Option C). elim o [ None ↦ found pick (vs ++ ws) | Some y ↦ Some y ]) (ap pick q.2 ∙ k q.0 q.1) ∙ found_behind value_of pick h k ws es
