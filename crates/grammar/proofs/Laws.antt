-- What reading by one token of foresight says of the grammar.
use Rattle.std.proofs.Common.{◌≡◌, Bool, true, false, List, [], ◌∷◌, ◌++◌, refl, sym, ap, subst}
use Rattle.std.specs.Prelude.{◌||◌, ◌&&◌}
use Rattle.grammar.specs.Form.{Form, Grammar, Derives}
use Rattle.grammar.specs.Form.Form.{Call, Seq, Alt, Star, Then}
use Rattle.grammar.specs.Tables.{Tables, nullable, starts, goes_on, some_in, IsClear, IsPredictive, Apart}
use Rattle.grammar.specs.Takes.{Takes, Starts, NotStarts}

-- ---- tests

or_left : (a b : Bool) → a ≡ true → (a || b) ≡ true
or_left true b h = refl
or_left false b h = absurd (cc)

or_right : (a b : Bool) → b ≡ true → (a || b) ≡ true
or_right true b h = refl
or_right false b h = h

and_both : (a b : Bool) → a ≡ true → b ≡ true → (a && b) ≡ true
and_both true b h i = i
and_both false b h i = absurd (cc)

pub or_false : (a b : Bool) → (a || b) ≡ false → (a ≡ false) × (b ≡ false)
or_false true b h = absurd (cc)
or_false false b h = (refl, h)

and_false : (a b : Bool) → a ≡ true → (a && b) ≡ false → b ≡ false
and_false true b h i = i
and_false false b h i = absurd (cc)

pub is_false : (a : Bool) → (a ≡ true → ⊥) → a ≡ false
is_false true h = absurd (h refl)
is_false false h = refl

pub both : (a : Bool) → a ≡ true → a ≡ false → ⊥
both true h i = cc
both false h i = cc

-- a form that took something begins so; one that took nothing may be empty
pub data Front {N K C T V : Type 0} (g : Grammar N K C T V) (tb : Tables N K C) (a : Form N K C) : List T → List T → Type 0 where
  nothing : {xs : List T} → nullable tb a ≡ true → Front g tb a xs xs
  some : {t : T} {ts ys : List T} → starts tb a (g.kind t) ≡ true → Front g tb a (t ∷ ts) ys

abbrev pub Stops : {N K C T V : Type 0} → Grammar N K C T V → Tables N K C → Form N K C → List T → Type 0
Stops g tb a [] = Unit {0}
Stops g tb a (t ∷ ts) = goes_on tb a (g.kind t) ≡ false

module _ (N K C T V : Type 0) (g : Grammar N K C T V) (tb : Tables N K C) (p : IsPredictive g tb) where
  front_map : {a b : Form N K C} {xs ys : List T} → (nullable tb a ≡ true → nullable tb b ≡ true) → ((k : K) → starts tb a k ≡ true → starts tb b k ≡ true) → Front g tb a xs ys → Front g tb b xs ys
  front_map f h (Front.nothing e) = Front.nothing (f e)
  front_map f h (Front.some e) = Front.some (h _ e)

  front_seq : {a b : Form N K C} {xs ys zs : List T} → Front g tb a xs ys → Front g tb b ys zs → Front g tb (Seq a b) xs zs
  front_seq (Front.some h) f = Front.some (or_left _ _ h)
  front_seq (Front.nothing h) (Front.nothing i) = Front.nothing (and_both _ _ h i)
  front_seq (Front.nothing h) (Front.some i) = Front.some (or_right _ _ (and_both _ _ h i))

  front_then : {a : Form N K C} {b : C → Form N K C} {xs ys zs : List T} (c : C) → Front g tb a xs ys → Front g tb (b c) ys zs → Front g tb (Then a b) xs zs
  front_then c (Front.some h) f = Front.some (or_left _ _ h)
  front_then {b = b} c (Front.nothing h) (Front.nothing i) = Front.nothing (and_both _ _ h (p.classes (λ c. nullable tb (b c)) c i))
  front_then {b = b} c (Front.nothing h) (Front.some {t = t} i) = Front.some (or_right _ _ (and_both _ _ h (p.classes (λ c. starts tb (b c) (g.kind t)) c i)))

  front_more : {a : Form N K C} {xs ys zs : List T} → Front g tb a xs ys → Front g tb (Star a) ys zs → Front g tb (Star a) xs zs
  front_more (Front.some h) f = Front.some h
  front_more (Front.nothing h) f = f

  pub front : {a : Form N K C} {xs ys : List T} {vs : List V} → Derives g a xs ys vs → Front g tb a xs ys
  front (Derives.tok {k = k} e) = Front.some (rw e (p.same k))
  front (Derives.call {n = n} d) = front_map (p.null n) (p.first n) (front d)
  front Derives.empty = Front.nothing refl
  front (Derives.seq d e) = front_seq (front d) (front e)
  front (Derives.left d) = front_map (or_left _ _) (λ k. or_left _ _) (front d)
  front (Derives.right d) = front_map (or_right _ _) (λ k. or_right _ _) (front d)
  front Derives.none = Front.nothing refl
  front (Derives.more d e) = front_more (front d) (front e)
  front (Derives.followed {us = us} d e) = front_then (g.class us) (front d) (front e)

  pub takes_derives : {a : Form N K C} {xs ys : List T} {vs : List V} → Takes g tb a xs ys vs → Derives g a xs ys vs
  takes_derives (Takes.tok e) = Derives.tok e
  takes_derives (Takes.call d) = Derives.call (takes_derives d)
  takes_derives Takes.empty = Derives.empty
  takes_derives (Takes.seq d e) = Derives.seq (takes_derives d) (takes_derives e)
  takes_derives (Takes.left h d) = Derives.left (takes_derives d)
  takes_derives (Takes.right h d) = Derives.right (takes_derives d)
  takes_derives (Takes.none h) = Derives.none
  takes_derives (Takes.more d e) = Derives.more (takes_derives d) (takes_derives e)
  takes_derives (Takes.followed d e) = Derives.followed (takes_derives d) (takes_derives e)

  -- ---- where a part stops

  front_stops_seq : (a b : Form N K C) {ys zs : List T} → Apart (goes_on tb a) (starts tb b) → Front g tb b ys zs → Stops g tb (Seq a b) zs → Stops g tb a ys
  front_stops_seq a b {ys = []} c (Front.nothing n) s = tt
  front_stops_seq a b {ys = t ∷ ts} c (Front.nothing n) s = and_false _ _ n (or_false _ _ s).1
  front_stops_seq a b c (Front.some h) s = is_false _ (λ e. c _ e h)

  pub stops_seq : (a b : Form N K C) {ys zs : List T} {vs : List V} → IsClear tb (Seq a b) → Derives g b ys zs vs → Stops g tb (Seq a b) zs → Stops g tb a ys
  stops_seq a b c d s = front_stops_seq a b c.2 (front d) s

  front_stops_more : (a : Form N K C) {ys zs : List T} → Apart (goes_on tb a) (starts tb a) → Front g tb (Star a) ys zs → Stops g tb (Star a) zs → Stops g tb a ys
  front_stops_more a {ys = []} c (Front.nothing n) s = tt
  front_stops_more a {ys = t ∷ ts} c (Front.nothing n) s = (or_false _ _ s).0
  front_stops_more a c (Front.some h) s = is_false _ (λ e. c _ e h)

  pub stops_more : (a : Form N K C) {ys zs : List T} {vs : List V} → IsClear tb (Star a) → Derives g (Star a) ys zs vs → Stops g tb (Star a) zs → Stops g tb a ys
  stops_more a c d s = front_stops_more a c.2 (front d) s

  -- a test that no class passes
  no_class : (q : C → Bool) (c : C) → some_in tb.classes q ≡ false → q c ≡ false
  no_class q c h = is_false _ (λ e. both _ (p.classes q c e) h)

  front_stops_then : (a : Form N K C) (b : C → Form N K C) (c : C) {ys zs : List T} → Apart (goes_on tb a) (starts tb (b c)) → Front g tb (b c) ys zs → Stops g tb (Then a b) zs → Stops g tb a ys
  front_stops_then a b c {ys = []} h (Front.nothing n) s = tt
  front_stops_then a b c {ys = t ∷ ts} h (Front.nothing n) s = and_false _ _ (p.classes (λ c. nullable tb (b c)) c n) (or_false _ _ s).1
  front_stops_then a b c h (Front.some i) s = is_false _ (λ e. h _ e i)

  pub stops_then : (a : Form N K C) (b : C → Form N K C) (c : C) {ys zs : List T} {vs : List V} → IsClear tb (Then a b) → Derives g (b c) ys zs vs → Stops g tb (Then a b) zs → Stops g tb a ys
  stops_then a b c h d s = front_stops_then a b c (h.2 c) (front d) s

  pub stops_class : (a : Form N K C) (b : C → Form N K C) (c : C) (zs : List T) → Stops g tb (Then a b) zs → Stops g tb (b c) zs
  stops_class a b c [] s = tt
  stops_class a b c (t ∷ ts) s = no_class (λ c. goes_on tb (b c) (g.kind t)) c (or_false _ _ s).0

  pub stops_second : (a b : Form N K C) (zs : List T) → Stops g tb (Seq a b) zs → Stops g tb b zs
  stops_second a b [] s = tt
  stops_second a b (t ∷ ts) s = (or_false _ _ s).0

  pub stops_left : (a b : Form N K C) (zs : List T) → Stops g tb (Alt a b) zs → Stops g tb a zs
  stops_left a b [] s = tt
  stops_left a b (t ∷ ts) s = (or_false _ _ (or_false _ _ s).0).0

  pub stops_right : (a b : Form N K C) (zs : List T) → Stops g tb (Alt a b) zs → Stops g tb b zs
  stops_right a b [] s = tt
  stops_right a b (t ∷ ts) s = (or_false _ _ (or_false _ _ s).0).1

  pub stops_call : (n : N) (zs : List T) → Stops g tb (Call n) zs → Stops g tb (g.rule n) zs
  stops_call n [] s = tt
  stops_call n (t ∷ ts) s = is_false _ (λ e. both _ (p.after n _ e) s)

  -- ---- choices that the next token rules out

  pub against : (a : Form N K C) {xs ys : List T} → NotStarts g tb a xs → Front g tb a xs ys → nullable tb a ≡ true
  against a h (Front.nothing n) = n
  against a h (Front.some i) = absurd (both _ i h)

  pub cross_left : (a b : Form N K C) {xs ys : List T} → IsClear tb (Alt a b) → Starts g tb a xs → Front g tb b xs ys → Stops g tb (Alt a b) ys → ⊥
  cross_left a b {xs = []} c h f s = h
  cross_left a b {xs = t ∷ ts} c h (Front.nothing n) s = both _ h (and_false _ _ n (or_false _ _ s).1)
  cross_left a b {xs = t ∷ ts} c h (Front.some i) s = c.2 _ h i

  pub cross_star : (a : Form N K C) (xs : List T) → Starts g tb a xs → Stops g tb (Star a) xs → ⊥
  cross_star a [] h s = h
  cross_star a (t ∷ ts) h s = both _ h (or_false _ _ s).1

  pub begun : (a : Form N K C) {xs ys : List T} → nullable tb a ≡ false → Front g tb a xs ys → Starts g tb a xs
  begun a c (Front.nothing n) = absurd (both _ n c)
  begun a c (Front.some h) = h

  -- ---- what is taken is all that any derivation can have there

  pub move : {a : Form N K C} {xs ys zs : List T} {vs : List V} → xs ≡ ys → Derives g a ys zs vs → Derives g a xs zs vs
  move {a = a} {zs = zs} {vs = vs} e d = subst (λ m. Derives g a m zs vs) (sym e) d

  pub move_class : (b : C → Form N K C) {xs ys zs : List T} {us us' vs : List V} → xs ≡ ys → us ≡ us' → Derives g (b (g.class us')) ys zs vs → Derives g (b (g.class us)) xs zs vs
  move_class b {ys = ys} {zs = zs} {vs = vs} e f d = move e (subst (λ ws. Derives g (b (g.class ws)) ys zs vs) (sym f) d)

  join : {us us' vs vs' : List V} → us ≡ us' → vs ≡ vs' → us ++ vs ≡ us' ++ vs'
  join e f = rw (e, f) refl

  pub unique : {a : Form N K C} {xs ys ys' : List T} {us us' : List V} → Takes g tb a xs ys us → IsClear tb a → Derives g a xs ys' us' → Stops g tb a ys' → (ys ≡ ys') × (us ≡ us')
  unique (Takes.tok e) c (Derives.tok e') s = (refl, refl)
  unique (Takes.call {n = n} d) c (Derives.call d') s = let r = unique d (p.clear n) d' (stops_call n _ s) in (r.0, ap (λ v. g.build n v ∷ []) r.1)
  unique Takes.empty c Derives.empty s = (refl, refl)
  unique (Takes.seq {a = a} {b = b} d e) c (Derives.seq {zs = zs} d' e') s =
      let r = unique d c.0 d' (stops_seq a b c e' s) in
      let q = unique e c.1 (move r.0 e') (stops_second a b zs s) in
      (q.0, join r.1 q.1)
  unique (Takes.left {a = a} {b = b} h d) c (Derives.left {ys = ys} d') s = unique d c.0 d' (stops_left a b ys s)
  unique (Takes.left {a = a} {b = b} h d) c (Derives.right d') s = absurd (cross_left a b c h (front d') s)
  unique (Takes.right {a = a} {b = b} h d) c (Derives.left d') s = absurd (both _ (against a h (front d')) c.3)
  unique (Takes.right {a = a} {b = b} h d) c (Derives.right {ys = ys} d') s = unique d c.1 d' (stops_right a b ys s)
  unique (Takes.none h) c Derives.none s = (refl, refl)
  unique (Takes.none {a = a} h) c (Derives.more d' e') s = absurd (both _ (against a h (front d')) c.1)
  unique (Takes.more {a = a} {xs = xs} d e) c Derives.none s = absurd (cross_star a xs (begun a c.1 (front (takes_derives d))) s)
  unique (Takes.more {a = a} d e) c (Derives.more d' e') s =
      let r = unique d c.0 d' (stops_more a c e' s) in
      let q = unique e c (move r.0 e') s in
      (q.0, join r.1 q.1)
  unique (Takes.followed {a = a} {b = b} {us = us} d e) c (Derives.followed {zs = zs} {us = us'} d' e') s =
      let r = unique d c.0 d' (stops_then a b (g.class us') c e' s) in
      let q = unique e (c.1 (g.class us)) (move_class b r.0 r.1 e') (stops_class a b (g.class us) zs s) in
      (q.0, join r.1 q.1)

  -- ---- what a text derives is taken

  starts_or_not : (a : Form N K C) (xs : List T) → (Starts g tb a xs → ⊥) → NotStarts g tb a xs
  starts_or_not a [] h = tt
  starts_or_not a (t ∷ ts) h = is_false _ h

  pub taken : {a : Form N K C} {xs ys : List T} {vs : List V} → Derives g a xs ys vs → IsClear tb a → Stops g tb a ys → Takes g tb a xs ys vs
  taken (Derives.tok e) c s = Takes.tok e
  taken (Derives.call {n = n} d) c s = Takes.call (taken d (p.clear n) (stops_call n _ s))
  taken Derives.empty c s = Takes.empty
  taken (Derives.seq {a = a} {b = b} {zs = zs} d e) c s = Takes.seq (taken d c.0 (stops_seq a b c e s)) (taken e c.1 (stops_second a b zs s))
  taken (Derives.left {a = a} {b = b} {ys = ys} d) c s = Takes.left (begun a c.3 (front d)) (taken d c.0 (stops_left a b ys s))
  taken (Derives.right {a = a} {b = b} {xs = xs} {ys = ys} d) c s = Takes.right (starts_or_not a xs (λ h. cross_left a b c h (front d) s)) (taken d c.1 (stops_right a b ys s))
  taken (Derives.none {a = a} {xs = xs}) c s = Takes.none (starts_or_not a xs (λ h. cross_star a xs h s))
  taken (Derives.more {a = a} d e) c s = Takes.more (taken d c.0 (stops_more a c e s)) (taken e c s)
  taken (Derives.followed {a = a} {b = b} {zs = zs} {us = us} d e) c s = Takes.followed (taken d c.0 (stops_then a b (g.class us) c e s)) (taken e (c.1 (g.class us)) (stops_class a b (g.class us) zs s))
