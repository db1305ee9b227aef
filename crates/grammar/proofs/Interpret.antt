-- A derivation with each rule's part read in another way: by its sort, by what another grammar derives of it, or by both.
use Rattle.std.proofs.Common.{◌≡◌, List, [], ◌∷◌, ◌++◌}
use Rattle.grammar.specs.Form.{Form, Grammar, Derives}
use Rattle.grammar.specs.Form.Form.{Tok, Call, Empty, Seq, Alt, Star, Then}

-- the form derives the tokens of the first list up to the second, where M says what a rule derives with which value
pub data Reads {N K C T V : Type 0} (g : Grammar N K C T V) (M : N → List T → List T → V → Type 0) : Form N K C → List T → List T → List V → Type 0 where
  tok : {k : K} {t : T} {ts : List T} → g.kind t ≡ k → Reads g M (Tok k) (t ∷ ts) ts (g.leaf t)
  call : {n : N} {xs ys : List T} {v : V} → M n xs ys v → Reads g M (Call n) xs ys (v ∷ [])
  empty : {xs : List T} → Reads g M Empty xs xs []
  seq : {a b : Form N K C} {xs ys zs : List T} {us vs : List V} → Reads g M a xs ys us → Reads g M b ys zs vs → Reads g M (Seq a b) xs zs (us ++ vs)
  left : {a b : Form N K C} {xs ys : List T} {us : List V} → Reads g M a xs ys us → Reads g M (Alt a b) xs ys us
  right : {a b : Form N K C} {xs ys : List T} {us : List V} → Reads g M b xs ys us → Reads g M (Alt a b) xs ys us
  none : {a : Form N K C} {xs : List T} → Reads g M (Star a) xs xs []
  more : {a : Form N K C} {xs ys zs : List T} {us vs : List V} → Reads g M a xs ys us → Reads g M (Star a) ys zs vs → Reads g M (Star a) xs zs (us ++ vs)
  followed : {a : Form N K C} {b : C → Form N K C} {xs ys zs : List T} {us vs : List V} → Reads g M a xs ys us → Reads g M (b (g.class us)) ys zs vs → Reads g M (Then a b) xs zs (us ++ vs)

-- so each derivation can be read, where each rule's form that is read so is what M says of the rule
pub read : {N K C T V : Type 0} {g : Grammar N K C T V} {M : N → List T → List T → V → Type 0} (step : (n : N) (xs ys : List T) (vs : List V) → Reads g M (g.rule n) xs ys vs → M n xs ys (g.build n vs)) {a : Form N K C} {xs ys : List T} {vs : List V} → Derives g a xs ys vs → Reads g M a xs ys vs
read step (Derives.tok e) = Reads.tok e
read step (Derives.call {n = n} d) = Reads.call (step n _ _ _ (read step d))
read step Derives.empty = Reads.empty
read step (Derives.seq d e) = Reads.seq (read step d) (read step e)
read step (Derives.left d) = Reads.left (read step d)
read step (Derives.right d) = Reads.right (read step d)
read step Derives.none = Reads.none
read step (Derives.more d e) = Reads.more (read step d) (read step e)
read step (Derives.followed d e) = Reads.followed (read step d) (read step e)

-- and what M says can be weakened
pub weaker : {N K C T V : Type 0} {g : Grammar N K C T V} {M L : N → List T → List T → V → Type 0} (h : (n : N) (xs ys : List T) (v : V) → M n xs ys v → L n xs ys v) {a : Form N K C} {xs ys : List T} {vs : List V} → Reads g M a xs ys vs → Reads g L a xs ys vs
weaker h (Reads.tok e) = Reads.tok e
weaker h (Reads.call m) = Reads.call (h _ _ _ _ m)
weaker h Reads.empty = Reads.empty
weaker h (Reads.seq d e) = Reads.seq (weaker h d) (weaker h e)
weaker h (Reads.left d) = Reads.left (weaker h d)
weaker h (Reads.right d) = Reads.right (weaker h d)
weaker h Reads.none = Reads.none
weaker h (Reads.more d e) = Reads.more (weaker h d) (weaker h e)
weaker h (Reads.followed d e) = Reads.followed (weaker h d) (weaker h e)
