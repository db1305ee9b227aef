-- Grammars in extended form as data, and their derivations (extended Backus-Naur form: Wirth 1977).
use Rattle.std.specs.Prelude.{◌≡◌, List, [], ◌∷◌, ◌++◌}

-- The right side of a rule: a token of a kind, another rule, nothing, one after the other, a choice, a repetition, and
-- one after the other where the second hangs on the class of what the first came to. N names the rules, K the kinds of
-- tokens, and C the classes.
pub data Form (N K C : Type 0) : Type 0 where
  Tok : K → Form N K C
  Call : N → Form N K C
  Empty : Form N K C
  Seq : Form N K C → Form N K C → Form N K C
  Alt : Form N K C → Form N K C → Form N K C
  Star : Form N K C → Form N K C
  Then : Form N K C → (C → Form N K C) → Form N K C

-- A grammar over tokens T of kinds K: the kind of a token and the values that it leaves, the form of each rule with the
-- value V that it makes of the values of its parts, and the class of a list of values.
pub record Grammar (N K C T V : Type 0) : Type 0 where
  pub kind : T → K
  pub leaf : T → List V
  pub rule : N → Form N K C
  pub build : N → List V → V
  pub class : List V → C

-- The form derives the tokens of the first list up to the second, with these values.
pub data Derives {N K C T V : Type 0} (g : Grammar N K C T V) : Form N K C → List T → List T → List V → Type 0 where
  tok : {k : K} {t : T} {ts : List T} → g.kind t ≡ k → Derives g (Form.Tok k) (t ∷ ts) ts (g.leaf t)
  call : {n : N} {xs ys : List T} {vs : List V} → Derives g (g.rule n) xs ys vs → Derives g (Form.Call n) xs ys (g.build n vs ∷ [])
  empty : {xs : List T} → Derives g Form.Empty xs xs []
  seq : {a b : Form N K C} {xs ys zs : List T} {us vs : List V} → Derives g a xs ys us → Derives g b ys zs vs → Derives g (Form.Seq a b) xs zs (us ++ vs)
  left : {a b : Form N K C} {xs ys : List T} {us : List V} → Derives g a xs ys us → Derives g (Form.Alt a b) xs ys us
  right : {a b : Form N K C} {xs ys : List T} {us : List V} → Derives g b xs ys us → Derives g (Form.Alt a b) xs ys us
  none : {a : Form N K C} {xs : List T} → Derives g (Form.Star a) xs xs []
  more : {a : Form N K C} {xs ys zs : List T} {us vs : List V} → Derives g a xs ys us → Derives g (Form.Star a) ys zs vs → Derives g (Form.Star a) xs zs (us ++ vs)
  followed : {a : Form N K C} {b : C → Form N K C} {xs ys zs : List T} {us vs : List V} → Derives g a xs ys us → Derives g (b (g.class us)) ys zs vs → Derives g (Form.Then a b) xs zs (us ++ vs)

infixr 30 ◌⨾◌
abbrev pub ◌⨾◌ : {N K C : Type 0} → Form N K C → Form N K C → Form N K C
a ⨾ b = Form.Seq a b

infixr 20 ◌∣◌
abbrev pub ◌∣◌ : {N K C : Type 0} → Form N K C → Form N K C → Form N K C
a ∣ b = Form.Alt a b

abbrev pub opt : {N K C : Type 0} → Form N K C → Form N K C
opt a = Form.Alt a Form.Empty
