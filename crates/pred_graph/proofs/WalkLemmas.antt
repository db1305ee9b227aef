-- Walks follow one another, and go over into another relation.
use Rattle.std.proofs.Common.{◌≡◌, refl, sym, ◌∙◌, subst, List, [], ◌∷◌, ℕ, ◌<◌, ◌≤◌, ◌⊎◌, inl, inr, arith}
use Rattle.std.proofs.lemmas.Bool.{cases_lt}
use Rattle.pred_graph.specs.Walks.{IsWalk, Leads}

pub leads_here : {X : Type 0} (Next : X → X → Type 0) (x : X) → Leads Next x x
leads_here Next x = ([], refl)

pub leads_more : {X : Type 0} (Next : X → X → Type 0) (x y z : X) → Next x y → Leads Next y z → Leads Next x z
leads_more Next x y z e l = (y ∷ l.0, (e, l.1))

walk_on : {X : Type 0} (Next : X → X → Type 0) (x y z : X) (w : List X) → IsWalk Next x w y → Leads Next y z → Leads Next x z
walk_on Next x y z [] e l = subst (λ v. Leads Next v z) (sym e) l
walk_on Next x y z (n ∷ w) e l = leads_more Next x n z e.0 (walk_on Next n y z w e.1 l)

pub leads_on : {X : Type 0} (Next : X → X → Type 0) (x y z : X) → Leads Next x y → Leads Next y z → Leads Next x z
leads_on Next x y z k l = walk_on Next x y z k.0 k.1 l

-- where each step leads from image to image, so does each walk
walk_over : {X Y : Type 0} (Next : X → X → Type 0) (Other : Y → Y → Type 0) (f : X → Y) → ((a b : X) → Next a b → Leads Other (f a) (f b)) → (x y : X) (w : List X) → IsWalk Next x w y → Leads Other (f x) (f y)
walk_over Next Other f each x y [] e = subst (λ v. Leads Other (f x) (f v)) e (leads_here Other (f x))
walk_over Next Other f each x y (n ∷ w) e = leads_on Other (f x) (f n) (f y) (each x n e.0) (walk_over Next Other f each n y w e.1)

pub leads_over : {X Y : Type 0} (Next : X → X → Type 0) (Other : Y → Y → Type 0) (f : X → Y) → ((a b : X) → Next a b → Leads Other (f a) (f b)) → (x y : X) → Leads Next x y → Leads Other (f x) (f y)
leads_over Next Other f each x y l = walk_over Next Other f each x y l.0 l.1

-- Members of P have the numbers below n as nodes. Each step of Dep is an edge from node to node, or two edges by a node from n on; and back.
pub record Models {P : Type 0} (n : ℕ) (num : P → ℕ) (Edge : ℕ → ℕ → Type 0) (Dep : P → P → Type 0) : Type 0 where
  pub same : (p q : P) → num p ≡ num q → num p < n → p ≡ q
  pub direct : (p : P) (c : ℕ) → num p < n → Edge (num p) c → c < n → (x : P) × (num x ≡ c) × Dep p x
  pub through : (p : P) (r c : ℕ) → num p < n → Edge (num p) r → n ≤ r → Edge r c → (x : P) × (num x ≡ c) × Dep p x
  pub back : (p x : P) → Dep p x → (num p < n) × (num x < n) × (Edge (num p) (num x) ⊎ ((r : ℕ) × (n ≤ r) × Edge (num p) r × Edge r (num x)))

module _ {P : Type 0} (n : ℕ) (num : P → ℕ) (Edge : ℕ → ℕ → Type 0) (Dep : P → P → Type 0) (m : Models n num Edge Dep) where
  pub step_into : (p x : P) → Dep p x → Leads Edge (num p) (num x)
  step_into p x d = elim ((m.back p x d).2) [ inl e ↦ leads_more Edge (num p) (num x) (num x) e (leads_here Edge (num x)) | inr h ↦ leads_more Edge (num p) h.0 (num x) h.2 (leads_more Edge h.0 (num x) (num x) h.3 (leads_here Edge (num x))) ]

  pub walk_into : (p q : P) → Leads Dep p q → Leads Edge (num p) (num q)
  walk_into = leads_over Dep Edge num step_into

  walk_back : (q : P) → num q < n → (w : List ℕ) (a : ℕ) (p : P) → num p < n → (num p ≡ a) ⊎ ((n ≤ a) × Edge (num p) a) → IsWalk Edge a w (num q) → Leads Dep p q
  walk_back q hq [] a p h (inl e) w = subst (λ v. Leads Dep p v) (m.same p q (e ∙ w) h) (leads_here Dep p)
  walk_back q hq [] a p h (inr i) w = let k : n ≤ a = i.0 in absurd (omega arith)
  walk_back q hq (c ∷ cs) a p h (inl e) w =
      let edge : Edge (num p) c = subst (λ v. Edge v c) (sym e) w.0 in
      elim (cases_lt c n) [
        | inl lt ↦ let d = m.direct p c h edge lt in leads_more Dep p d.0 q d.2 (walk_back q hq cs c d.0 (m.back p d.0 d.2).1 (inl d.1) w.1)
        | inr le ↦ walk_back q hq cs c p h (inr (le, edge)) w.1
      ]
  walk_back q hq (c ∷ cs) a p h (inr i) w =
      let d = m.through p a c h i.1 i.0 w.0 in
      leads_more Dep p d.0 q d.2 (walk_back q hq cs c d.0 (m.back p d.0 d.2).1 (inl d.1) w.1)

  pub walk_out : (p q : P) → num p < n → num q < n → Leads Edge (num p) (num q) → Leads Dep p q
  walk_out p q hp hq l = walk_back q hq l.0 (num p) p hp (inl refl) l.1
