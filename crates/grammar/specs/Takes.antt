-- Reading by one token of foresight: what it takes, and where it fails.
use Rattle.std.specs.Prelude.{◌≡◌, true, false, List, [], ◌∷◌, ◌++◌}
use Rattle.grammar.specs.Form.{Form, Grammar}
use Rattle.grammar.specs.Form.Form.{Tok, Call, Empty, Seq, Alt, Star, Then}
use Rattle.grammar.specs.Tables.{Tables, starts}

abbrev pub Starts : {N K C T V : Type 0} → Grammar N K C T V → Tables N K C → Form N K C → List T → Type 0
Starts g tb a [] = ⊥
Starts g tb a (t ∷ ts) = starts tb a (g.kind t) ≡ true

abbrev pub NotStarts : {N K C T V : Type 0} → Grammar N K C T V → Tables N K C → Form N K C → List T → Type 0
NotStarts g tb a [] = Unit {0}
NotStarts g tb a (t ∷ ts) = starts tb a (g.kind t) ≡ false

pub data Takes {N K C T V : Type 0} (g : Grammar N K C T V) (tb : Tables N K C) : Form N K C → List T → List T → List V → Type 0 where
  tok : {k : K} {t : T} {ts : List T} → g.kind t ≡ k → Takes g tb (Tok k) (t ∷ ts) ts (g.leaf t)
  call : {n : N} {xs ys : List T} {vs : List V} → Takes g tb (g.rule n) xs ys vs → Takes g tb (Call n) xs ys (g.build n vs ∷ [])
  empty : {xs : List T} → Takes g tb Empty xs xs []
  seq : {a b : Form N K C} {xs ys zs : List T} {us vs : List V} → Takes g tb a xs ys us → Takes g tb b ys zs vs → Takes g tb (Seq a b) xs zs (us ++ vs)
  left : {a b : Form N K C} {xs ys : List T} {us : List V} → Starts g tb a xs → Takes g tb a xs ys us → Takes g tb (Alt a b) xs ys us
  right : {a b : Form N K C} {xs ys : List T} {us : List V} → NotStarts g tb a xs → Takes g tb b xs ys us → Takes g tb (Alt a b) xs ys us
  none : {a : Form N K C} {xs : List T} → NotStarts g tb a xs → Takes g tb (Star a) xs xs []
  more : {a : Form N K C} {xs ys zs : List T} {us vs : List V} → Takes g tb a xs ys us → Takes g tb (Star a) ys zs vs → Takes g tb (Star a) xs zs (us ++ vs)
  followed : {a : Form N K C} {b : C → Form N K C} {xs ys zs : List T} {us vs : List V} → Takes g tb a xs ys us → Takes g tb (b (g.class us)) ys zs vs → Takes g tb (Then a b) xs zs (us ++ vs)

pub data Fails {N K C T V : Type 0} (g : Grammar N K C T V) (tb : Tables N K C) : Form N K C → List T → List T → Type 0 where
  tok_end : {k : K} → Fails g tb (Tok k) [] []
  tok_other : {k : K} {t : T} {ts : List T} → (g.kind t ≡ k → ⊥) → Fails g tb (Tok k) (t ∷ ts) (t ∷ ts)
  call : {n : N} {xs ys : List T} → Fails g tb (g.rule n) xs ys → Fails g tb (Call n) xs ys
  first : {a b : Form N K C} {xs ys : List T} → Fails g tb a xs ys → Fails g tb (Seq a b) xs ys
  second : {a b : Form N K C} {xs ys zs : List T} {us : List V} → Takes g tb a xs ys us → Fails g tb b ys zs → Fails g tb (Seq a b) xs zs
  left : {a b : Form N K C} {xs ys : List T} → Starts g tb a xs → Fails g tb a xs ys → Fails g tb (Alt a b) xs ys
  right : {a b : Form N K C} {xs ys : List T} → NotStarts g tb a xs → Fails g tb b xs ys → Fails g tb (Alt a b) xs ys
  item : {a : Form N K C} {xs ys : List T} → Starts g tb a xs → Fails g tb a xs ys → Fails g tb (Star a) xs ys
  later : {a : Form N K C} {xs ys zs : List T} {us : List V} → Takes g tb a xs ys us → Fails g tb (Star a) ys zs → Fails g tb (Star a) xs zs
  start : {a : Form N K C} {b : C → Form N K C} {xs ys : List T} → Fails g tb a xs ys → Fails g tb (Then a b) xs ys
  finish : {a : Form N K C} {b : C → Form N K C} {xs ys zs : List T} {us : List V} → Takes g tb a xs ys us → Fails g tb (b (g.class us)) ys zs → Fails g tb (Then a b) xs zs
