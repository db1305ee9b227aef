-- Where each rule's part is derived by a form of another grammar with the same value, that grammar derives the whole.
use Rattle.std.proofs.Common.{◌≡◌, List, [], ◌∷◌, sym, subst}
use Rattle.grammar.specs.Form.{Form, Grammar, Derives}
use Rattle.grammar.specs.Image.{image}
use Rattle.grammar.proofs.Interpret.{Reads}

-- the other grammar h has the same kinds, leaves and classes, and derives by the form f n what M says of the rule n
module _ (N M K C T V : Type 0) (kind : T → K) (leaf : T → List V) (rule : N → Form N K C) (build : N → List V → V) (class : List V → C) (h : Grammar M K C T V) (f : N → Form M K C)
    (kinds : (t : T) (k : K) → kind t ≡ k → h.kind t ≡ k) (leaves : (t : T) → h.leaf t ≡ leaf t) (classes : (vs : List V) → h.class vs ≡ class vs)
    (Says : N → List T → List T → V → Type 0) (one : (n : N) (xs ys : List T) (v : V) → Says n xs ys v → Derives h (f n) xs ys (v ∷ [])) where
  by_class : (b : C → Form N K C) (us : List V) {xs ys : List T} {vs : List V} → Derives h (image f (b (class us))) xs ys vs → Derives h (image f (b (h.class us))) xs ys vs
  by_class b us {xs = xs} {ys = ys} {vs = vs} d = subst (λ c. Derives h (image f (b c)) xs ys vs) (sym (classes us)) d

  pub simulate : {a : Form N K C} {xs ys : List T} {vs : List V} → Reads (record { kind = kind; leaf = leaf; rule = rule; build = build; class = class }) Says a xs ys vs → Derives h (image f a) xs ys vs
  simulate (Reads.tok {k = k} {t = t} {ts = ts} e) = rw (← leaves t) (Derives.tok (kinds t k e))
  simulate (Reads.call m) = one _ _ _ _ m
  simulate Reads.empty = Derives.empty
  simulate (Reads.seq d e) = Derives.seq (simulate d) (simulate e)
  simulate (Reads.left d) = Derives.left (simulate d)
  simulate (Reads.right d) = Derives.right (simulate d)
  simulate Reads.none = Derives.none
  simulate (Reads.more d e) = Derives.more (simulate d) (simulate e)
  simulate (Reads.followed {b = b} {us = us} d e) = Derives.followed (simulate d) (by_class b us (simulate e))
