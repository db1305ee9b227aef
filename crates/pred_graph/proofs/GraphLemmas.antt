-- What numbers of components and marks of nodes tell of the relation behind the graph.
use Rattle.std.proofs.Common.{◌≡◌, sym, ◌∙◌, ap, subst, List, [], ◌∷◌, ℕ, ◌<◌, ◌≤◌, ◌⊎◌, inl, inr, ◌↔◌, arith}
use Rattle.std.proofs.lemmas.Bool.{cases_lt}
use Rattle.pred_graph.specs.Walks.{IsWalk, Leads}
use Rattle.pred_graph.specs.Graphs.{Orders}
use Rattle.pred_graph.proofs.WalkLemmas.{leads_here, leads_more, leads_on, Models, walk_into, walk_out}

-- Bad members, and members whose component has an edge inside it, are facts
pub record Tells {P : Type 0} (n all : ℕ) (num : P → ℕ) (Edge : ℕ → ℕ → Type 0) (number : ℕ → ℕ) (Bad : P → Type 0) (Fact : ℕ → Type 0) : Type 0 where
  pub within : (a b : ℕ) → Edge a b → (a < all) × (b < all)
  pub bad : (x : P) → num x < n → Bad x → Fact (num x)
  pub loop : (a c : ℕ) → a < n → Edge a c → number a ≡ number c → Fact a
  pub only : (f : ℕ) → Fact f → (x : P) × (num x ≡ f) × (f < n) × (Bad x ⊎ ((c : ℕ) × Edge f c × (number f ≡ number c)))

-- not bad, and with no step inside the component
pub record Decided {P : Type 0} (Dep : P → P → Type 0) (Bad : P → Type 0) (p : P) : Type 0 where
  pub good : Bad p → ⊥
  pub no_loop : (x y : P) → Leads Dep p x × Leads Dep x p → Leads Dep p y × Leads Dep y p → Dep x y → ⊥

module _ {P : Type 0} (n all : ℕ) (num : P → ℕ) (Edge : ℕ → ℕ → Type 0) (Dep : P → P → Type 0) (m : Models n num Edge Dep) (number : ℕ → ℕ) (o : Orders all Edge number) (small : n ≤ all) where
  under_all : (p : P) → num p < n → num p < all
  under_all p h = omega arith

  pub mutual_iff : (p q : P) → num p < n → num q < n → (number (num p) ≡ number (num q)) ↔ (Leads Dep p q × Leads Dep q p)
  mutual_iff p q hp hq =
      let s = o.same (num p) (num q) (under_all p hp) (under_all q hq) in (
        (λ e. let k = s.0 e in (walk_out n num Edge Dep m p q hp hq k.0, walk_out n num Edge Dep m q p hq hp k.1)),
        (λ k. s.1 (walk_into n num Edge Dep m p q k.0, walk_into n num Edge Dep m q p k.1)),
      )

  pub lower_below : (p q : P) → num p < n → num q < n → Leads Dep p q → (Leads Dep q p → ⊥) → number (num q) < number (num p)
  lower_below p q hp hq k none = o.lower (num p) (num q) (under_all p hp) (under_all q hq) (walk_into n num Edge Dep m p q k) (λ back. none (walk_out n num Edge Dep m q p hq hp back))

  pub walk_within : (p q : P) (w : List P) → num p < n → IsWalk Dep p w q → num q < n
  walk_within p q [] h e = subst (λ v. num v < n) e h
  walk_within p q (x ∷ w) h e = walk_within x q w (m.back p x e.0).1 e.1

  module _ (Bad : P → Type 0) (Fact : ℕ → Type 0) (t : Tells n all num Edge number Bad Fact) where
    step_fact : (x y : P) → Dep x y → Leads Dep y x → Fact (num x)
    step_fact x y d l =
        let b = m.back x y d in
        let home = walk_into n num Edge Dep m y x l in
        elim (b.2) [
          | inl e ↦
              let ends = t.within (num x) (num y) e in
              t.loop (num x) (num y) b.0 e ((o.same (num x) (num y) ends.0 ends.1).1 (leads_more Edge (num x) (num y) (num y) e (leads_here Edge (num y)), home))
          | inr h ↦
              let ends = t.within (num x) h.0 h.2 in
              t.loop (num x) h.0 b.0 h.2 ((o.same (num x) h.0 ends.0 ends.1).1 (leads_more Edge (num x) h.0 h.0 h.2 (leads_here Edge h.0), leads_more Edge h.0 (num y) (num x) h.3 home))
        ]

    pub decided_from : (p : P) → num p < n → ((f : ℕ) → Fact f → Leads Edge (num p) f → ⊥) → (q : P) → Leads Dep p q → Decided Dep Bad q
    decided_from p hp none q l = record {
      good = λ bad. none (num q) (t.bad q (walk_within p q l.0 hp l.1) bad) (walk_into n num Edge Dep m p q l);
      no_loop = λ x y mx my d. none (num x) (step_fact x y d (leads_on Dep y q x my.1 mx.0)) (walk_into n num Edge Dep m p x (leads_on Dep p q x l mx.0));
    }

    by_rule : (x : P) (c : ℕ) → num x < n → Decided Dep Bad x → Edge (num x) c → n ≤ c → (w : List ℕ) → IsWalk Edge c w (num x) → ⊥
    by_rule x c h dec e le [] w = absurd (omega arith)
    by_rule x c h dec e le (c' ∷ cs) w =
        let d = m.through x c c' h e le w.0 in
        let home = walk_out n num Edge Dep m d.0 x (m.back x d.0 d.2).1 h (subst (λ v. Leads Edge v (num x)) (sym d.1) (cs, w.1)) in
        dec.no_loop x d.0 (leads_here Dep x, leads_here Dep x) (leads_more Dep x d.0 d.0 d.2 (leads_here Dep d.0), home) d.2

    inner_loop : (x : P) (c : ℕ) → num x < n → Decided Dep Bad x → Edge (num x) c → Leads Edge c (num x) → ⊥
    inner_loop x c h dec e l = elim (cases_lt c n) [
      | inl lt ↦
          let d = m.direct x c h e lt in
          let home = walk_out n num Edge Dep m d.0 x (m.back x d.0 d.2).1 h (subst (λ v. Leads Edge v (num x)) (sym d.1) l) in
          dec.no_loop x d.0 (leads_here Dep x, leads_here Dep x) (leads_more Dep x d.0 d.0 d.2 (leads_here Dep d.0), home) d.2
      | inr le ↦ by_rule x c h dec e le l.0 l.1
    ]

    fact_out : (p : P) → num p < n → ((q : P) → Leads Dep p q → Decided Dep Bad q) → (f : ℕ) → Fact f → Leads Edge (num p) f → ⊥
    fact_out p hp all_decided f fact l =
        let k = t.only f fact in
        let x : P = k.0 in
        let hx : num x < n = subst (λ v. v < n) (sym k.1) k.2 in
        let lx : Leads Edge (num p) (num x) = subst (λ v. Leads Edge (num p) v) (sym k.1) l in
        let dec = all_decided x (walk_out n num Edge Dep m p x hp hx lx) in
        elim (k.3) [
          | inl bad ↦ dec.good bad
          | inr c ↦
              let e : Edge (num x) c.0 = subst (λ v. Edge v c.0) (sym k.1) c.1 in
              let ends = t.within (num x) c.0 e in
              let eq : number (num x) ≡ number c.0 = ap number k.1 ∙ c.2 in
              inner_loop x c.0 hx dec e ((o.same (num x) c.0 ends.0 ends.1).0 eq).1
        ]

    pub definite_iff : (p : P) → num p < n → ((f : ℕ) → Fact f → Leads Edge (num p) f → ⊥) ↔ ((q : P) → Leads Dep p q → Decided Dep Bad q)
    definite_iff p hp = (decided_from p hp, fact_out p hp)
