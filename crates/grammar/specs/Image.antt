use Rattle.grammar.specs.Form.{Form}
use Rattle.grammar.specs.Form.Form.{Tok, Call, Empty, Seq, Alt, Star, Then}

-- the form with another in the place of each rule
abbrev pub image : {N M K C : Type 0} → (N → Form M K C) → Form N K C → Form M K C
image f (Tok k) = Tok k
image f (Call n) = f n
image f Empty = Empty
image f (Seq a b) = Seq (image f a) (image f b)
image f (Alt a b) = Alt (image f a) (image f b)
image f (Star a) = Star (image f a)
image f (Then a b) = Then (image f a) (λ c. image f (b c))
