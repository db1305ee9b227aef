-- Where reading by one token of foresight fails is the place of the fault.
use Rattle.std.proofs.Common.{◌≡◌, List, [], ◌∷◌, ◌++◌, refl, sym, ◌∙◌, ap, append_assoc, Some}
use Rattle.grammar.specs.Form.{Form, Grammar, Derives}
use Rattle.grammar.specs.Form.Form.{Tok, Call, Empty, Seq, Alt, Star, Then}
use Rattle.grammar.specs.Fault.{next_kind}
use Rattle.grammar.specs.Tables.{Tables, IsClear, IsPredictive}
use Rattle.grammar.specs.Takes.{Takes, Fails, Starts, NotStarts}
use Rattle.grammar.specs.Readable.{Example}
use Rattle.grammar.proofs.Laws.{Front, Stops, both, or_false}
use Rattle.grammar.proofs.Laws as laws

-- the next token's kind decides
same_starts : {N K C T V : Type 0} (g : Grammar N K C T V) (tb : Tables N K C) (a : Form N K C) (xs ys : List T) → next_kind g xs ≡ next_kind g ys → Starts g tb a ys → Starts g tb a xs
same_starts g tb a xs [] e h = absurd h
same_starts g tb a [] (u ∷ us) e h = absurd (cc)
same_starts g tb a (t ∷ ts) (u ∷ us) e h = let k : g.kind t ≡ g.kind u = cc in rw k h

same_not : {N K C T V : Type 0} (g : Grammar N K C T V) (tb : Tables N K C) (a : Form N K C) (xs ys : List T) → next_kind g xs ≡ next_kind g ys → NotStarts g tb a ys → NotStarts g tb a xs
same_not g tb a [] ys e h = tt
same_not g tb a (t ∷ ts) [] e h = absurd (cc)
same_not g tb a (t ∷ ts) (u ∷ us) e h = let k : g.kind t ≡ g.kind u = cc in rw k h

after_front : {N K C T V : Type 0} (g : Grammar N K C T V) (w xs ys : List T) → next_kind g xs ≡ next_kind g ys → next_kind g (w ++ xs) ≡ next_kind g (w ++ ys)
after_front g [] xs ys e = e
after_front g (t ∷ w) xs ys e = refl

next_at : {N K C T V : Type 0} (g : Grammar N K C T V) {xs : List T} (w zs end : List T) → xs ≡ w ++ end → next_kind g zs ≡ next_kind g end → next_kind g (w ++ zs) ≡ next_kind g xs
next_at g w zs end e h = after_front g w zs end h ∙ ap (next_kind g) (sym e)

-- What was read may be followed by whatever begins with the same kind, and derives whatever follows.
pub record Moved {N K C T V : Type 0} (g : Grammar N K C T V) (tb : Tables N K C) (a : Form N K C) (xs ys : List T) (vs : List V) : Type 0 where
  pub read : List T
  pub is : xs ≡ read ++ ys
  pub takes : (zs : List T) → next_kind g zs ≡ next_kind g ys → Takes g tb a (read ++ zs) zs vs
  pub derives : (zs : List T) → Derives g a (read ++ zs) zs vs

-- Where reading fails: some text of the form begins so, and none goes on as the rest does.
pub record Refused {N K C T V : Type 0} (g : Grammar N K C T V) (tb : Tables N K C) (a : Form N K C) (xs ys : List T) : Type 0 where
  pub read : List T
  pub is : xs ≡ read ++ ys
  pub stops : (zs us : List T) (vs : List V) → next_kind g zs ≡ next_kind g ys → Derives g a (read ++ zs) us vs → Stops g tb a us → ⊥
  pub more : List T
  pub values : List V
  pub begins : (zs : List T) → Derives g a (read ++ (more ++ zs)) zs values

module _ (N K C T V : Type 0) (g : Grammar N K C T V) (tb : Tables N K C) (p : IsPredictive g tb) where
  next_of : {a : Form N K C} {xs ys : List T} {vs : List V} (m : Moved g tb a xs ys vs) (zs : List T) → next_kind g zs ≡ next_kind g ys → next_kind g (m.read ++ zs) ≡ next_kind g xs
  next_of m zs e = next_at g m.read zs _ m.is e

  pub moved : {a : Form N K C} {xs ys : List T} {vs : List V} → Takes g tb a xs ys vs → Moved g tb a xs ys vs
  moved (Takes.tok {t = t} e) = record { read = t ∷ []; is = refl; takes = λ zs _. Takes.tok e; derives = λ zs. Derives.tok e }
  moved (Takes.call d) = let m = moved d in record { read = m.read; is = m.is; takes = λ zs e. Takes.call (m.takes zs e); derives = λ zs. Derives.call (m.derives zs) }
  moved Takes.empty = record { read = []; is = refl; takes = λ zs _. Takes.empty; derives = λ zs. Derives.empty }
  moved (Takes.seq {ys = ys} {zs = end} d e) = let m = moved d in let n = moved e in record {
    read = m.read ++ n.read;
    is = m.is ∙ ap (λ l. m.read ++ l) n.is ∙ sym (append_assoc m.read n.read end);
    takes = λ zs h. rw append_assoc (Takes.seq (m.takes (n.read ++ zs) (next_of n zs h)) (n.takes zs h));
    derives = λ zs. rw append_assoc (Derives.seq (m.derives (n.read ++ zs)) (n.derives zs));
  }
  moved (Takes.left {a = a} {xs = xs} h d) = let m = moved d in record { read = m.read; is = m.is; takes = λ zs e. Takes.left (same_starts g tb a _ xs (next_of m zs e) h) (m.takes zs e); derives = λ zs. Derives.left (m.derives zs) }
  moved (Takes.right {a = a} {xs = xs} h d) = let m = moved d in record { read = m.read; is = m.is; takes = λ zs e. Takes.right (same_not g tb a _ xs (next_of m zs e) h) (m.takes zs e); derives = λ zs. Derives.right (m.derives zs) }
  moved (Takes.none {a = a} {xs = xs} h) = record { read = []; is = refl; takes = λ zs e. Takes.none (same_not g tb a zs xs e h); derives = λ zs. Derives.none }
  moved (Takes.more {ys = ys} {zs = end} d e) = let m = moved d in let n = moved e in record {
    read = m.read ++ n.read;
    is = m.is ∙ ap (λ l. m.read ++ l) n.is ∙ sym (append_assoc m.read n.read end);
    takes = λ zs h. rw append_assoc (Takes.more (m.takes (n.read ++ zs) (next_of n zs h)) (n.takes zs h));
    derives = λ zs. rw append_assoc (Derives.more (m.derives (n.read ++ zs)) (n.derives zs));
  }
  moved (Takes.followed {ys = ys} {zs = end} d e) = let m = moved d in let n = moved e in record {
    read = m.read ++ n.read;
    is = m.is ∙ ap (λ l. m.read ++ l) n.is ∙ sym (append_assoc m.read n.read end);
    takes = λ zs h. rw append_assoc (Takes.followed (m.takes (n.read ++ zs) (next_of n zs h)) (n.takes zs h));
    derives = λ zs. rw append_assoc (Derives.followed (m.derives (n.read ++ zs)) (n.derives zs));
  }

  -- the rest of what a sequence or a repetition derives, behind what its first part takes
  pub seq_rest : {a b : Form N K C} {xs ys zs : List T} {us vs : List V} → Takes g tb a xs ys us → IsClear tb (Seq a b) → Derives g (Seq a b) xs zs vs → Stops g tb (Seq a b) zs → (ws : List V) × Derives g b ys zs ws
  seq_rest {a = a} {b = b} t c (Derives.seq {vs = ws} d e) s = (ws, laws.move N K C T V g tb p (laws.unique N K C T V g tb p t c.0 d (laws.stops_seq N K C T V g tb p a b c e s)).0 e)

  pub star_rest : {a : Form N K C} {xs ys zs : List T} {us vs : List V} → Takes g tb a xs ys us → IsClear tb (Star a) → Derives g (Star a) xs zs vs → Stops g tb (Star a) zs → (ws : List V) × Derives g (Star a) ys zs ws
  star_rest {a = a} {xs = xs} t c Derives.none s = absurd (laws.cross_star N K C T V g tb p a xs (laws.begun N K C T V g tb p a c.1 (laws.front N K C T V g tb p (laws.takes_derives N K C T V g tb p t))) s)
  star_rest {a = a} t c (Derives.more {vs = ws} d e) s = (ws, laws.move N K C T V g tb p (laws.unique N K C T V g tb p t c.0 d (laws.stops_more N K C T V g tb p a c e s)).0 e)

  pub then_rest : {a : Form N K C} {b : C → Form N K C} {xs ys zs : List T} {us vs : List V} → Takes g tb a xs ys us → IsClear tb (Then a b) → Derives g (Then a b) xs zs vs → Stops g tb (Then a b) zs → (ws : List V) × Derives g (b (g.class us)) ys zs ws
  then_rest {a = a} {b = b} t c (Derives.followed {us = us'} {vs = ws} d e) s =
      let r = laws.unique N K C T V g tb p t c.0 d (laws.stops_then N K C T V g tb p a b (g.class us') c e s) in
      (ws, laws.move_class N K C T V g tb p b r.0 r.1 e)

  tok_needs : {k : K} {xs ys : List T} {vs : List V} → Derives g (Tok k) xs ys vs → next_kind g xs ≡ Some k
  tok_needs (Derives.tok e) = ap Some e

  call_part : {n : N} {xs ys : List T} {vs : List V} → Derives g (Call n) xs ys vs → (us : List V) × Derives g (g.rule n) xs ys us
  call_part (Derives.call {vs = us} d) = (us, d)

module _ (N K C T V : Type 0) (g : Grammar N K C T V) (tb : Tables N K C) (p : IsPredictive g tb) (token : K → T) (kinds : (k : K) → g.kind (token k) ≡ k) (examples : (n : N) → Example g (Call n)) where
  pub example : (a : Form N K C) → Example g a
  example (Tok k) = record { text = token k ∷ []; values = g.leaf (token k); derives = λ zs. Derives.tok (kinds k) }
  example (Call n) = examples n
  example Empty = record { text = []; values = []; derives = λ zs. Derives.empty }
  example (Seq a b) = let x = example a in let y = example b in record { text = x.text ++ y.text; values = x.values ++ y.values; derives = λ zs. rw append_assoc (Derives.seq (x.derives (y.text ++ zs)) (y.derives zs)) }
  example (Alt a b) = let x = example a in record { text = x.text; values = x.values; derives = λ zs. Derives.left (x.derives zs) }
  example (Star a) = record { text = []; values = []; derives = λ zs. Derives.none }
  example (Then a b) = let x = example a in let y = example (b (g.class x.values)) in record { text = x.text ++ y.text; values = x.values ++ y.values; derives = λ zs. rw append_assoc (Derives.followed (x.derives (y.text ++ zs)) (y.derives zs)) }

  -- what a derivation of a form that failed in a part would be
  refused_seq : {a b : Form N K C} {xs us : List T} {vs : List V} → IsClear tb (Seq a b) → ((ms : List T) (ws : List V) → Derives g a xs ms ws → Stops g tb a ms → ⊥) → Derives g (Seq a b) xs us vs → Stops g tb (Seq a b) us → ⊥
  refused_seq {a = a} {b = b} c h (Derives.seq d e) s = h _ _ d (laws.stops_seq N K C T V g tb p a b c e s)

  refused_then : {a : Form N K C} {b : C → Form N K C} {xs us : List T} {vs : List V} → IsClear tb (Then a b) → ((ms : List T) (ws : List V) → Derives g a xs ms ws → Stops g tb a ms → ⊥) → Derives g (Then a b) xs us vs → Stops g tb (Then a b) us → ⊥
  refused_then {a = a} {b = b} c h (Derives.followed {us = ws} d e) s = h _ _ d (laws.stops_then N K C T V g tb p a b (g.class ws) c e s)

  refused_left : {a b : Form N K C} {xs us : List T} {vs : List V} → IsClear tb (Alt a b) → Starts g tb a xs → ((ws : List V) → Derives g a xs us ws → Stops g tb a us → ⊥) → Derives g (Alt a b) xs us vs → Stops g tb (Alt a b) us → ⊥
  refused_left {a = a} {b = b} {us = us} c i h (Derives.left d) s = h _ d (laws.stops_left N K C T V g tb p a b us s)
  refused_left {a = a} {b = b} c i h (Derives.right d) s = laws.cross_left N K C T V g tb p a b c i (laws.front N K C T V g tb p d) s

  refused_right : {a b : Form N K C} {xs us : List T} {vs : List V} → IsClear tb (Alt a b) → NotStarts g tb a xs → ((ws : List V) → Derives g b xs us ws → Stops g tb b us → ⊥) → Derives g (Alt a b) xs us vs → Stops g tb (Alt a b) us → ⊥
  refused_right {a = a} {b = b} c i h (Derives.left d) s = both _ (laws.against N K C T V g tb p a i (laws.front N K C T V g tb p d)) c.3
  refused_right {a = a} {b = b} {us = us} c i h (Derives.right d) s = h _ d (laws.stops_right N K C T V g tb p a b us s)

  refused_item : {a : Form N K C} {xs us : List T} {vs : List V} → IsClear tb (Star a) → Starts g tb a xs → ((ms : List T) (ws : List V) → Derives g a xs ms ws → Stops g tb a ms → ⊥) → Derives g (Star a) xs us vs → Stops g tb (Star a) us → ⊥
  refused_item {a = a} {xs = xs} c i h Derives.none s = laws.cross_star N K C T V g tb p a xs i s
  refused_item {a = a} c i h (Derives.more d e) s = h _ _ d (laws.stops_more N K C T V g tb p a c e s)

  refused_tok : (k : K) (zs us ys : List T) (vs : List V) → next_kind g zs ≡ next_kind g ys → (next_kind g ys ≡ Some k → ⊥) → Derives g (Tok k) zs us vs → ⊥
  refused_tok k zs us ys vs e h d = h (sym e ∙ tok_needs N K C T V g tb p d)

  some_is : (j k : K) → Some j ≡ Some k → j ≡ k
  some_is j k e = cc

  pub refused : {a : Form N K C} {xs ys : List T} → Fails g tb a xs ys → IsClear tb a → Refused g tb a xs ys
  refused (Fails.tok_end {k = k}) c = record { read = []; is = refl; stops = λ zs us vs e d s. refused_tok k zs us [] vs e (λ h. cc) d; more = token k ∷ []; values = _; begins = λ zs. Derives.tok (kinds k) }
  refused (Fails.tok_other {k = k} {t = t} {ts = ts} h) c = record { read = []; is = refl; stops = λ zs us vs e d s. refused_tok k zs us (t ∷ ts) vs e (λ i. h (some_is _ _ i)) d; more = token k ∷ []; values = _; begins = λ zs. Derives.tok (kinds k) }
  refused (Fails.call {n = n} f) c = let r = refused f (p.clear n) in record {
    read = r.read;
    is = r.is;
    more = r.more;
    values = _;
    begins = λ zs. Derives.call (r.begins zs);
    stops = λ zs us vs e d s. let q = call_part N K C T V g tb p d in r.stops zs us q.0 e q.1 (laws.stops_call N K C T V g tb p n us s);
  }
  refused (Fails.first {b = b} f) c = let r = refused f c.0 in let x = example b in record {
    read = r.read;
    is = r.is;
    more = r.more ++ x.text;
    values = r.values ++ x.values;
    begins = λ zs. rw append_assoc (Derives.seq (r.begins (x.text ++ zs)) (x.derives zs));
    stops = λ zs us vs e d s. refused_seq c (λ ms ws. r.stops zs ms ws e) d s;
  }
  refused (Fails.second {a = a} {b = b} {zs = end} {us = us} t f) c = let m = moved N K C T V g tb p t in let r = refused f c.1 in record {
    read = m.read ++ r.read;
    is = m.is ∙ ap (λ l. m.read ++ l) r.is ∙ sym (append_assoc m.read r.read end);
    more = r.more;
    values = us ++ r.values;
    begins = λ zs. rw append_assoc (Derives.seq (m.derives (r.read ++ (r.more ++ zs))) (r.begins zs));
    stops = λ zs ms vs e d s.
        let t' = m.takes (r.read ++ zs) (next_at g r.read zs end r.is e) in
        let q = seq_rest N K C T V g tb p t' c (rw append_assoc at d) s in
        r.stops zs ms q.0 e q.1 (laws.stops_second N K C T V g tb p a b ms s);
  }
  refused (Fails.left {a = a} {xs = xs} {ys = ys} h f) c = let r = refused f c.0 in record {
    read = r.read;
    is = r.is;
    more = r.more;
    values = _;
    begins = λ zs. Derives.left (r.begins zs);
    stops = λ zs us vs e d s. refused_left c (same_starts g tb a _ xs (next_at g r.read zs ys r.is e) h) (λ ws. r.stops zs us ws e) d s;
  }
  refused (Fails.right {a = a} {xs = xs} {ys = ys} h f) c = let r = refused f c.1 in record {
    read = r.read;
    is = r.is;
    more = r.more;
    values = _;
    begins = λ zs. Derives.right (r.begins zs);
    stops = λ zs us vs e d s. refused_right c (same_not g tb a _ xs (next_at g r.read zs ys r.is e) h) (λ ws. r.stops zs us ws e) d s;
  }
  refused (Fails.item {a = a} {xs = xs} {ys = ys} h f) c = let r = refused f c.0 in record {
    read = r.read;
    is = r.is;
    more = r.more;
    values = _;
    begins = λ zs. Derives.more (r.begins zs) Derives.none;
    stops = λ zs us vs e d s. refused_item c (same_starts g tb a _ xs (next_at g r.read zs ys r.is e) h) (λ ms ws. r.stops zs ms ws e) d s;
  }
  refused (Fails.later {a = a} {zs = end} {us = us} t f) c = let m = moved N K C T V g tb p t in let r = refused f c in record {
    read = m.read ++ r.read;
    is = m.is ∙ ap (λ l. m.read ++ l) r.is ∙ sym (append_assoc m.read r.read end);
    more = r.more;
    values = us ++ r.values;
    begins = λ zs. rw append_assoc (Derives.more (m.derives (r.read ++ (r.more ++ zs))) (r.begins zs));
    stops = λ zs ms vs e d s.
        let t' = m.takes (r.read ++ zs) (next_at g r.read zs end r.is e) in
        let q = star_rest N K C T V g tb p t' c (rw append_assoc at d) s in
        r.stops zs ms q.0 e q.1 s;
  }
  refused (Fails.start {b = b} f) c = let r = refused f c.0 in let x = example (b (g.class r.values)) in record {
    read = r.read;
    is = r.is;
    more = r.more ++ x.text;
    values = r.values ++ x.values;
    begins = λ zs. rw append_assoc (Derives.followed (r.begins (x.text ++ zs)) (x.derives zs));
    stops = λ zs us vs e d s. refused_then c (λ ms ws. r.stops zs ms ws e) d s;
  }
  refused (Fails.finish {a = a} {b = b} {zs = end} {us = us} t f) c = let m = moved N K C T V g tb p t in let r = refused f (c.1 (g.class us)) in record {
    read = m.read ++ r.read;
    is = m.is ∙ ap (λ l. m.read ++ l) r.is ∙ sym (append_assoc m.read r.read end);
    more = r.more;
    values = us ++ r.values;
    begins = λ zs. rw append_assoc (Derives.followed (m.derives (r.read ++ (r.more ++ zs))) (r.begins zs));
    stops = λ zs ms vs e d s.
        let t' = m.takes (r.read ++ zs) (next_at g r.read zs end r.is e) in
        let q = then_rest N K C T V g tb p t' c (rw append_assoc at d) s in
        r.stops zs ms q.0 e q.1 (laws.stops_class N K C T V g tb p a b (g.class us) ms s);
  }
