-- What is said of a rule's derivation by where another one stands inside.
use Rattle.std.proofs.Common.{◌≡◌, List, [], ◌∷◌, ◌++◌, refl, ap, sym, ◌∙◌, append_assoc}
use Rattle.grammar.specs.Form.{Form, Grammar, Derives}
use Rattle.grammar.specs.Form.Form.{Call, Seq, Alt, Star, Then}
use Rattle.limit_law.specs.Inside.{Inside}

-- the form derives the tokens of the first list up to the second, and P says of one rule inside what it derives
pub data Marked {N K C T V : Type 0} (g : Grammar N K C T V) (P : N → List T → List T → Type 0) : Form N K C → List T → List T → Type 0 where
  at : {n : N} {xs ys : List T} → P n xs ys → Marked g P (Call n) xs ys
  first : {a b : Form N K C} {xs ys zs : List T} {ks : List V} → Marked g P a xs ys → Derives g b ys zs ks → Marked g P (Seq a b) xs zs
  second : {a b : Form N K C} {xs ys zs : List T} {ks : List V} → Derives g a xs ys ks → Marked g P b ys zs → Marked g P (Seq a b) xs zs
  left : {a b : Form N K C} {xs ys : List T} → Marked g P a xs ys → Marked g P (Alt a b) xs ys
  right : {a b : Form N K C} {xs ys : List T} → Marked g P b xs ys → Marked g P (Alt a b) xs ys
  item : {a : Form N K C} {xs ys zs : List T} {ks : List V} → Marked g P a xs ys → Derives g (Star a) ys zs ks → Marked g P (Star a) xs zs
  later : {a : Form N K C} {xs ys zs : List T} {ks : List V} → Derives g a xs ys ks → Marked g P (Star a) ys zs → Marked g P (Star a) xs zs
  start : {a : Form N K C} {b : C → Form N K C} (c : C) {xs ys zs : List T} {ks : List V} → Marked g P a xs ys → Derives g (b c) ys zs ks → Marked g P (Then a b) xs zs
  finish : {a : Form N K C} {b : C → Form N K C} (c : C) {xs ys zs : List T} {ks : List V} → Derives g a xs ys ks → Marked g P (b c) ys zs → Marked g P (Then a b) xs zs

-- so where P holds of what stands inside, and goes from a rule's form to the rule, it holds of each rule around it
pub mark : {N K C T V : Type 0} {g : Grammar N K C T V} {P : N → List T → List T → Type 0} {n : N} {us vs : List T} {v : V} (step : (m : N) (xs ys : List T) → Marked g P (g.rule m) xs ys → P m xs ys) → P n us vs → {a : Form N K C} {xs ys : List T} {ws : List V} → Inside g n us vs v a xs ys ws → Marked g P a xs ys
mark step p (Inside.here d) = Marked.at p
mark step p (Inside.under i) = Marked.at (step _ _ _ (mark step p i))
mark step p (Inside.first i d) = Marked.first (mark step p i) d
mark step p (Inside.second d i) = Marked.second d (mark step p i)
mark step p (Inside.left i) = Marked.left (mark step p i)
mark step p (Inside.right i) = Marked.right (mark step p i)
mark step p (Inside.item i d) = Marked.item (mark step p i) d
mark step p (Inside.later d i) = Marked.later d (mark step p i)
mark step p (Inside.start i d) = Marked.start _ (mark step p i) d
mark step p (Inside.finish d i) = Marked.finish _ d (mark step p i)

-- the tokens that a form derives
pub record Front {T : Type 0} (xs ys : List T) : Type 0 where
  pub read : List T
  pub tokens : xs ≡ read ++ ys

front_then : {T : Type 0} {xs ys zs : List T} → Front xs ys → Front ys zs → Front xs zs
front_then {zs = zs} a b = record { read = a.read ++ b.read; tokens = a.tokens ∙ (ap (λ ts. a.read ++ ts) b.tokens ∙ sym (append_assoc a.read b.read zs)) }

pub tokens_of : {N K C T V : Type 0} {g : Grammar N K C T V} {a : Form N K C} {xs ys : List T} {ws : List V} → Derives g a xs ys ws → Front xs ys
tokens_of (Derives.tok {t = x} e) = record { read = x ∷ []; tokens = refl }
tokens_of (Derives.call d) = tokens_of d
tokens_of Derives.empty = record { read = []; tokens = refl }
tokens_of (Derives.seq d e) = front_then (tokens_of d) (tokens_of e)
tokens_of (Derives.left d) = tokens_of d
tokens_of (Derives.right d) = tokens_of d
tokens_of Derives.none = record { read = []; tokens = refl }
tokens_of (Derives.more d e) = front_then (tokens_of d) (tokens_of e)
tokens_of (Derives.followed d e) = front_then (tokens_of d) (tokens_of e)
