-- Matches of patterns with values: by the form of the pattern, and along two lists.
use Rattle.std.proofs.Common.{◌≡◌, ◌↔◌, ◌⊎◌, ℕ, zero, suc, ◌<◌, ◌≤◌, ◌+◌, Bool, true, false, List, [], ◌∷◌, ◌++◌, Option, IsTrue, All, Contains, length, get_or, take, map, refl, sym, subst, ap, ap₂, ◌∙◌, ⊎_elim, arith}
use Rattle.std.specs.List.{flat_map}
use Rattle.std.proofs.lemmas.Bool.{false≢true}
use Rattle.std.proofs.lemmas.List.{length-map, length-take, map_more, take_more, take_all, take-map, same_from_push, flat_map_more}
use Rattle.std.proofs.lemmas.List.Elements.{Contains-append_left, Contains-append_right, Contains-append_cases}
use Rattle.ap_term.specs.declared.shape.TermId.{TermId}
use Rattle.ap_term.specs.declared.shape.Shape.{Shape}
use Rattle.ap_term.specs.declared.shape.Shape.TheVariants as shapes
use Rattle.ap_term.specs.Table.{IsIdOf, IsShapeOver, value_at, value_of}
use Rattle.ap_term.specs.Value.{Value, Values, compound, arguments_from, list_from}
use Rattle.join_form.specs.declared.pattern.Pattern.{Pattern}
use Rattle.join_form.specs.declared.pattern.Pattern.TheVariants as patterns
use Rattle.join_form.specs.Bindings.{IsBindingOf}
use Rattle.join_form.specs.Patterns.{Assignment, pattern_value, pattern_values, places_of, ids_of, IsPatternOf}
use Rattle.join_form.proofs.PatternLemmas.{value_place, value_known, value_compound, places_place, places_known, places_compound, ids_known, ids_compound, all_outside}
use Rattle.join_search.specs.Matches.{IsMatch}
use Rattle.join_search.specs.Matches.{values_of}
use Rattle.join_search.proofs.MatchLemmas.{tested, chained, refused, reread}

-- nothing is in the empty list
pub in_none : {X : Type 0} (x : X) → Contains [] x → ⊥
in_none x c = omega (arith, c.1)

-- ---- two lists of values, one member more

module _ {X Y : Type 0} (f : X → Value) (g : Y → Value) (xs : List X) (ys : List Y) where
  abbrev pub SameUpTo : ℕ → Type 0
  SameUpTo k = map f (take k xs) ≡ map g (take k ys)

  pub same_more : (k : ℕ) (x : X) (y : Y) → k < length xs → k < length ys → SameUpTo (k + 1) ↔ (SameUpTo k × (f (get_or xs k x) ≡ g (get_or ys k y)))
  same_more k x y l m =
      let left = map_more f xs k x l in
      let right = map_more g ys k y m in (
        λ e. same_from_push (map f (take k xs)) (map g (take k ys)) (f (get_or xs k x)) (g (get_or ys k y)) (sym left ∙ (e ∙ right)),
        λ h. left ∙ (ap₂ (λ vs v. vs ++ v ∷ []) h.0 h.1 ∙ sym right),
      )

  -- what is the same is the same up to each place
  pub same_up_to : (k : ℕ) → map f xs ≡ map g ys → SameUpTo k
  same_up_to k e = sym (take-map f k xs) ∙ (ap (take k) e ∙ take-map g k ys)

  pub same_lengths : map f xs ≡ map g ys → length xs ≡ length ys
  same_lengths e = sym (length-map xs f) ∙ (ap length e ∙ length-map ys g)

-- ---- arguments of compound terms

list_back : (vs : List Value) → list_from (arguments_from vs) ≡ vs
list_back [] = refl
list_back (v ∷ vs) = ap (λ ws. v ∷ ws) (list_back vs)

pub arguments_same : (vs ws : List Value) → arguments_from vs ≡ arguments_from ws → vs ≡ ws
arguments_same vs ws e = sym (list_back vs) ∙ (ap list_from e ∙ list_back ws)

pub compound_arguments : (f g : List ℕ) (vs ws : Values) → compound f vs ≡ compound g ws → vs ≡ ws
compound_arguments f g vs ws e = cc

pub compound_names : (f g : List ℕ) (vs ws : Values) → compound f vs ≡ compound g ws → f ≡ g
compound_names f g vs ws e = cc

-- a shape of another kind is no compound term
pub other_kind : (table : List Value) (shape : Shape) (name : List ℕ) (vs : Values) → ((f : List ℕ) (ids : List TermId) → shape ≡ shapes.Fun f ids → ⊥)
    → compound name vs ≡ value_of table shape → ⊥
other_kind table (shapes.Int n) name vs ne e = cc
other_kind table (shapes.Sym a) name vs ne e = cc
other_kind table (shapes.Str a) name vs ne e = cc
other_kind table (shapes.Fun f ids) name vs ne e = ne f ids refl

-- ---- places of patterns

-- in two lists, one behind the other
pub in_either : (xs ys zs : List ℕ) (n : ℕ) → zs ≡ xs ++ ys → Contains zs n ↔ (Contains xs n ⊎ Contains ys n)
in_either xs ys zs n e = (
  λ c. Contains-append_cases xs ys n (subst (λ ns. Contains ns n) e c),
  ⊎_elim (λ c. subst (λ ns. Contains ns n) (sym e) (Contains-append_left xs ys n c)) (λ c. subst (λ ns. Contains ns n) (sym e) (Contains-append_right xs ys n c)),
)

pub in_front : (k : ℕ) (ps : List Pattern) (n : ℕ) → Contains (flat_map places_of (take k ps)) n → Contains (flat_map places_of ps) n
in_front zero ps n c = absurd (in_none n c)
in_front (suc k) [] n c = c
in_front (suc k) (p ∷ ps) n c = ⊎_elim
    (λ h. Contains-append_left (places_of p) (flat_map places_of ps) n h)
    (λ h. Contains-append_right (places_of p) (flat_map places_of ps) n (in_front k ps n h))
    (Contains-append_cases (places_of p) (flat_map places_of (take k ps)) n c)

module _ (table : List Value) where
  -- ---- by the form of the pattern

  -- the pattern has the value of the id
  abbrev pub Has : Pattern → TermId → Assignment → Type 0
  Has p id a = pattern_value table a p ≡ value_at table id

  pub match_place : (n : ℕ) (id : TermId) (old new : List (Option TermId)) (matched : Bool)
      → IsMatch table (λ a. a n ≡ value_at table id) (n ∷ []) old new matched → IsMatch table (Has (patterns.Place n) id) (places_of (patterns.Place n)) old new matched
  match_place n id old new matched h = reread table (λ a. a n ≡ value_at table id) (Has (patterns.Place n) id) (n ∷ []) (places_of (patterns.Place n)) old new matched h
      (λ a. (λ e. sym (value_place table a n) ∙ e, λ e. value_place table a n ∙ e)) (sym (places_place n))

  pub match_known : (known id : TermId) (b : List (Option TermId)) (matched : Bool) → IsBindingOf table b → IsTrue matched ↔ (value_at table known ≡ value_at table id)
      → IsMatch table (Has (patterns.Known known) id) (places_of (patterns.Known known)) b b matched
  match_known known id b matched ids same = tested table (Has (patterns.Known known) id) (places_of (patterns.Known known)) b matched
      (λ a fits. (λ e. same.1 (sym (value_known table a known) ∙ e), λ t. value_known table a known ∙ same.0 t)) ids
      (λ t n c. absurd (in_none n (subst (λ ns. Contains ns n) (places_known known) c)))

  -- ---- two lists, up to a place

  module _ (parts : List Pattern) (ids : List TermId) where
    abbrev pub HaveUpTo : ℕ → Assignment → Type 0
    HaveUpTo k a = SameUpTo (pattern_value table a) (value_at table) parts ids k

    abbrev pub Have : Assignment → Type 0
    Have a = pattern_values table a parts ≡ values_of table ids

    -- the first k members have their values
    abbrev pub IsMatchUpTo : ℕ → List (Option TermId) → List (Option TermId) → Bool → Type 0
    IsMatchUpTo k old new matched = IsMatch table (HaveUpTo k) (flat_map places_of (take k parts)) old new matched

    pub match_none : (b : List (Option TermId)) → IsBindingOf table b → IsMatchUpTo 0 b b true
    match_none b is = tested table (HaveUpTo 0) [] b true (λ a fits. (λ e. refl, λ t. refl)) is (λ t n c. absurd (in_none n c))

    pub match_more : (k : ℕ) (p : Pattern) (id : TermId) (old mid new : List (Option TermId)) (matched : Bool) → k < length parts → k < length ids
        → get_or parts k p ≡ p → get_or ids k id ≡ id → IsMatchUpTo k old mid true → IsMatch table (Has p id) (places_of p) mid new matched
        → IsMatchUpTo (k + 1) old new matched
    match_more k p id old mid new matched l m p_is id_is before here =
        chained table (HaveUpTo k) (Has p id) (HaveUpTo (k + 1)) (flat_map places_of (take k parts)) (places_of p) (flat_map places_of (take (k + 1) parts)) old mid new matched before here
        (λ a. subst (λ v. HaveUpTo (k + 1) a ↔ (HaveUpTo k a × (pattern_value table a v ≡ value_at table id))) p_is
        (subst (λ w. HaveUpTo (k + 1) a ↔ (HaveUpTo k a × (pattern_value table a (get_or parts k p) ≡ value_at table w))) id_is
        (same_more (pattern_value table a) (value_at table) parts ids k p id l m)))
        (λ n. in_either (flat_map places_of (take k parts)) (places_of p) (flat_map places_of (take (k + 1) parts)) n
        (ap (flat_map places_of) (take_more parts k p l ∙ ap (λ q. take k parts ++ q ∷ []) p_is) ∙ sym (flat_map_more places_of [] (take k parts) p)))

    -- a refusal at one member is one of all
    pub match_refused : (k : ℕ) (old new : List (Option TermId)) → IsMatchUpTo k old new false → IsMatch table Have (flat_map places_of parts) old new false
    match_refused k old new h = refused table (HaveUpTo k) Have (flat_map places_of (take k parts)) (flat_map places_of parts) old new h
        (λ a e. same_up_to (pattern_value table a) (value_at table) parts ids k e) (in_front k parts)

    pub match_all : (k : ℕ) (old new : List (Option TermId)) → length parts ≤ k → length ids ≤ k → IsMatchUpTo k old new true
        → IsMatch table Have (flat_map places_of parts) old new true
    match_all k old new l m h = subst (λ ps. IsMatch table (λ a. pattern_values table a ps ≡ values_of table ids) (flat_map places_of ps) old new true) (take_all k parts l)
        (subst (λ js. IsMatch table (λ a. pattern_values table a (take k parts) ≡ values_of table js) (flat_map places_of (take k parts)) old new true) (take_all k ids m) h)

    -- lists of two lengths do not match
    pub match_lengths : (b : List (Option TermId)) → IsBindingOf table b → (length parts ≡ length ids → ⊥) → IsMatch table Have (flat_map places_of parts) b b false
    match_lengths b is ne = tested table Have (flat_map places_of parts) b false
        (λ a fits. (λ e. absurd (ne (same_lengths (pattern_value table a) (value_at table) parts ids e)), λ t. absurd (false≢true t))) is
        (λ t n c. absurd (false≢true t))

  -- ---- compound terms

  module _ (name : List ℕ) (parts : List Pattern) (id : TermId) where
    abbrev pub whole_pattern : Pattern
    whole_pattern = patterns.Compound name parts

    -- a value of another form
    pub match_form : (b : List (Option TermId)) → IsBindingOf table b → ((vs : List Value) → length vs ≡ length parts → compound name (arguments_from vs) ≡ value_at table id → ⊥)
        → IsMatch table (Has whole_pattern id) (places_of whole_pattern) b b false
    match_form b is ne = tested table (Has whole_pattern id) (places_of whole_pattern) b false
        (λ a fits. (λ e. absurd (ne (pattern_values table a parts) (length-map parts (pattern_value table a)) (sym (value_compound table a name parts) ∙ e)), λ t. absurd (false≢true t))) is
        (λ t n c. absurd (false≢true t))

    -- a value of this form matches as its arguments do
    pub match_compound : (ids : List TermId) (old new : List (Option TermId)) (matched : Bool) → value_of table (shapes.Fun name ids) ≡ value_at table id
        → IsMatch table (Have parts ids) (flat_map places_of parts) old new matched → IsMatch table (Has whole_pattern id) (places_of whole_pattern) old new matched
    match_compound ids old new matched is h = reread table (Have parts ids) (Has whole_pattern id) (flat_map places_of parts) (places_of whole_pattern) old new matched h
        (λ a. (
          λ e. let both : compound name (arguments_from (pattern_values table a parts)) ≡ compound name (arguments_from (values_of table ids)) = sym (value_compound table a name parts) ∙ (e ∙ sym is) in
              arguments_same (pattern_values table a parts) (values_of table ids) (compound_arguments name name (arguments_from (pattern_values table a parts)) (arguments_from (values_of table ids)) both),
          λ e. value_compound table a name parts ∙ (ap (λ vs. compound name (arguments_from vs)) e ∙ is),
        ))
        (sym (places_compound name parts))

-- ---- parts of a pattern

pub parts_are : (table : List Value) (places : ℕ) (name : List ℕ) (parts : List Pattern) → IsPatternOf table places (patterns.Compound name parts)
    → All (IsPatternOf table places) parts
parts_are table places name parts is =
    let in_places = all_outside (λ n. n < places) places_of parts (subst (All (λ n. n < places)) (places_compound name parts) is.0) in
    let in_ids = all_outside (IsIdOf table) ids_of parts (subst (All (IsIdOf table)) (ids_compound name parts) is.1) in
    λ k d l. (in_places k d l, in_ids k d l)

pub place_is : (table : List Value) (places n : ℕ) → IsPatternOf table places (patterns.Place n) → n < places
place_is table places n is = subst (All (λ m. m < places)) (places_place n) is.0 0 0 (omega arith)

pub known_is : (table : List Value) (places : ℕ) (id : TermId) → IsPatternOf table places (patterns.Known id) → IsIdOf table id
known_is table places id is = subst (All (IsIdOf table)) (ids_known id) is.1 0 id (omega arith)

-- the arguments of a value of the table are values of it
pub arguments_are : (table : List Value) (id : TermId) (shape : Shape) (name : List ℕ) (ids : List TermId) → shape ≡ shapes.Fun name ids → IsIdOf table id → IsShapeOver (take id.0 table) shape
    → All (IsIdOf table) ids
arguments_are table id shape name ids is within over k d l =
    let inside : (get_or ids k d).0 < length (take id.0 table) = (subst (IsShapeOver (take id.0 table)) is over) k d l in
    omega (arith, inside, length-take id.0 table)
