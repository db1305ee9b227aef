-- What a caller cites of a table: ids through a growth, and the order.
pub use Rattle.ap_term.proofs.OrderLemmas.{value_same, value_itself, value_cmp-total}
use Rattle.std.proofs.Common.{◌≡◌, List, [], ◌∷◌, map, All, refl, ap, ap₂, ◌∙◌, arith}
use Rattle.std.proofs.lemmas.List.Elements.{All-head, All-tail, All-weaker}
use Rattle.ap_term.specs.declared.shape.TermId.{TermId}
use Rattle.ap_term.specs.declared.shape.Shape.{Shape}
use Rattle.ap_term.specs.declared.shape.Shape.TheVariants.{Int, Sym, Str, Fun}
use Rattle.ap_term.specs.Value.{Value, compound, arguments_from}
use Rattle.ap_term.specs.Table.{IsIdOf, IsShapeOver, value_at, value_of, KeepsIds}

pub KeepsIds-itself : (table : List Value) → KeepsIds table table
KeepsIds-itself table = record { longer = omega arith; same = λ id l. refl }

-- growth after growth
pub KeepsIds-trans : (first second third : List Value) → KeepsIds first second → KeepsIds second third → KeepsIds first third
KeepsIds-trans first second third p q = record {
  longer = omega (arith, p.longer, q.longer);
  same = λ id l. q.same id (omega (arith, p.longer)) ∙ p.same id l;
}

module _ (old new : List Value) (keeps : KeepsIds old new) where
  -- an id stays an id
  pub IsIdOf-kept : (id : TermId) → IsIdOf old id → IsIdOf new id
  IsIdOf-kept id l = omega (arith, keeps.longer)

  ids_kept : (ids : List TermId) → All (IsIdOf old) ids → map (value_at new) ids ≡ map (value_at old) ids
  ids_kept [] h = refl
  ids_kept (id ∷ ids) h = ap₂ ◌∷◌ (keeps.same id (All-head (IsIdOf old) id ids h)) (ids_kept ids (All-tail (IsIdOf old) id ids h))

  -- a shape over the old table is one over the new table, with the same value
  pub IsShapeOver-kept : (s : Shape) → IsShapeOver old s → IsShapeOver new s
  IsShapeOver-kept (Int n) h = h
  IsShapeOver-kept (Sym a) h = h
  IsShapeOver-kept (Str a) h = h
  IsShapeOver-kept (Fun f ids) h = All-weaker (IsIdOf old) (IsIdOf new) IsIdOf-kept ids h

  pub value_of-kept : (s : Shape) → IsShapeOver old s → value_of new s ≡ value_of old s
  value_of-kept (Int n) h = refl
  value_of-kept (Sym a) h = refl
  value_of-kept (Str a) h = refl
  value_of-kept (Fun f ids) h = ap (λ vs. compound f (arguments_from vs)) (ids_kept ids h)
