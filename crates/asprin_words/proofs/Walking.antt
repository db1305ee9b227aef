-- What a parse by `clap` makes of words, against what they ask for.
use Rattle.std.proofs.Common.{◌≡◌, ◌∙◌, ◌&&◌, ◌||◌, ℕ, Bool, cond, true, false, refl, sym, ap, ap₂, subst, List, [], ◌∷◌, ◌++◌, map, length, drop, Option, Some, None, codes}
use Rattle.std.specs.Prelude.{encode_utf8, fold, option_map, slice_get}
use Rattle.std.specs.Option.{option_map_or}
use Rattle.std.specs.Str.{bytes_eq, chars}
use Rattle.std.proofs.lemmas.Slice.Eq.{bytes_eq-Decides}
use Rattle.clap.specs.Lexer.{long_of, short_of}
use Rattle.clap.specs.Kinds.{Kinds, or_else}
use Rattle.clap.specs.Walk.{option_word, to_positional, positional_held, pushed, is_pending, used_by_id, bundle_step, bundle, short_or_plain, Held, Outcome, Row, Rule, Step, Text, Waiting, Walk, after_flag, after_step, arg_by_id, arg_by_index, arg_by_long, arg_by_short, attached_value, bundle_met, done, idle, long_met, long_or_other, option, option_met, plain_word, positional, settled, short_met, subcommand_met, subcommand_or_other, trailing, used, value, walked, with_values, without}
use Rattle.clap.specs.Walk.{plain as no_flag}
use Rattle.clap.specs.Simple.{Shape, filled, new_rule, new_shape, with_index}
use Rattle.clap.specs.Faults.{positional_fault, stray_fault, bundle_step_fault, bundle_fault, flag_word_fault, option_fault, flags_fault, other_fault, repeat_fault, settle_fault, short_fault, step_fault, turn_fault, use_fault, walk_fault, long_fault}
use Rattle.clap.specs.declared.builder.action.ArgAction.TheVariants as action
use Rattle.clap.specs.declared.builder.value_parser.Reading.TheVariants as reading
use Rattle.clap.specs.declared.parser.matches.ValueSource.TheVariants.{CommandLine}
use Rattle.asprin_words.specs.Commands.{action_for}
use Rattle.asprin_words.specs.Spelled.{Form, Known, Sort, Use, ends, file, file_name, flag, form_of, known_long, known_short, may_repeat, option_form, plain, repeated, single, sort_form, stray, then_use, used_with, uses_from, value_then, waits, whole, word_then}
use Rattle.asprin_words.proofs.Spelling.{forms_agree, parsed_form, parsed_hyphens, parsed_letter}

-- ---- the command's arguments

-- an argument as it is built
abbrev pub rule_from : Text → Option Text → Option ℕ → Sort → Rule
rule_from name long short sort = filled (record (new_rule name) { long = long; short = short; action = Some (action_for sort) })

abbrev pub rule_for : Known → Rule
rule_for k = rule_from k.name k.long k.short k.sort

abbrev pub file_rule : Rule
file_rule = with_index 1 (filled (record (new_rule file_name) { action = Some action.Append }))

abbrev pub rules_for : List Known → List Rule
rules_for t = map rule_for t ++ file_rule ∷ []

abbrev pub shape_for : List Known → Shape
shape_for t = record (new_shape (codes "words")) {
  rules = rules_for t;
  no_binary_name = true;
  disable_help_flag = true;
  disable_help_subcommand = true;
  is_built = true;
}

-- ---- rows

-- the rows with one more use
abbrev pub put_as : Sort → Text → Text → List Row → List Row
put_as repeated name v rows = with_values name reading.AsWritten CommandLine (v ∷ []) rows
put_as _ name v rows = with_values name reading.AsWritten CommandLine (v ∷ []) (without name rows)

abbrev pub put : List Row → Use → List Row
put rows u = put_as u.sort u.name u.value rows

abbrev pub put_fault : List Row → Use → Kinds
put_fault rows u = cond (may_repeat u.sort) [] (repeat_fault false u.name rows)

abbrev pub puts : List Row → List Use → List Row
puts rows us = fold put rows us

abbrev pub puts_fault : List Row → List Use → Kinds
puts_fault rows [] = []
puts_fault rows (u ∷ us) = or_else (put_fault rows u) (puts_fault (put rows u) us)

-- ---- faults

abbrev pub Bad : Kinds → Type 0
Bad [] = ⊥
Bad (k ∷ ks) = Unit {0}

pub bad_left : (a b : Kinds) → Bad a → Bad (or_else a b)
bad_left [] b h = absurd h
bad_left (k ∷ ks) b h = tt

pub bad_right : (a b : Kinds) → Bad b → Bad (or_else a b)
bad_right [] b h = h
bad_right (k ∷ ks) b h = tt

pub or_else_nil : (a : Kinds) → or_else a [] ≡ a
or_else_nil [] = refl
or_else_nil (k ∷ ks) = refl

pub or_else_assoc : (a b c : Kinds) → or_else (or_else a b) c ≡ or_else a (or_else b c)
or_else_assoc [] b c = refl
or_else_assoc (k ∷ ks) b c = refl

-- ---- uses of one option

abbrev pub takes : Sort → Type 0
takes flag = ⊥
takes _ = Unit {0}

-- an option with its value is used
pub value_fault : (name : Text) (long : Option Text) (short : Option ℕ) (sort : Sort) (v : Text) (rows : List Row) → takes sort
    → use_fault false (rule_from name long short sort) (v ∷ []) rows ≡ put_fault rows (record { name = name; sort = sort; value = v })
value_fault name long short flag v rows h = absurd h
value_fault name long short single v rows h = or_else_nil (repeat_fault false name rows)
value_fault name long short repeated v rows h = refl

pub value_used : (name : Text) (long : Option Text) (short : Option ℕ) (sort : Sort) (v : Text) (rows : List Row) → takes sort
    → used (rule_from name long short sort) (v ∷ []) rows ≡ put rows (record { name = name; sort = sort; value = v })
value_used name long short flag v rows h = absurd h
value_used name long short single v rows h = refl
value_used name long short repeated v rows h = refl

-- without a value it is refused
pub no_value : (name : Text) (long : Option Text) (short : Option ℕ) (sort : Sort) (rows : List Row) → takes sort
    → Bad (use_fault false (rule_from name long short sort) [] rows)
no_value name long short flag rows h = absurd h
no_value name long short single rows h = tt
no_value name long short repeated rows h = tt

pub flag_fault : (name : Text) (long : Option Text) (short : Option ℕ) (rows : List Row)
    → use_fault false (rule_from name long short flag) [] rows ≡ put_fault rows (record { name = name; sort = flag; value = codes "true" })
flag_fault name long short rows = or_else_nil (repeat_fault false name rows)

pub flag_used : (name : Text) (long : Option Text) (short : Option ℕ) (rows : List Row)
    → used (rule_from name long short flag) [] rows ≡ put rows (record { name = name; sort = flag; value = codes "true" })
flag_used name long short rows = refl

-- ---- one word

-- what is held, with no flag of a bundle to pass over
abbrev pub holds : List Row → Option (Text × List Text) → Held
holds rows p = record { rows = rows; pending = p; skip = 0 }

-- the walk between two words
abbrev pub at : Held → Waiting → Walk
at h w = record { held = h; waiting = w; position = 1; is_trailing = false; stopped = None }

abbrev pub behind : Held → Waiting → Walk
behind h w = record { held = h; waiting = w; position = 1; is_trailing = true; stopped = None }

abbrev pub Found : (Known → Type 0) → Option Known → Type 0
Found P None = Unit {0}
Found P (Some k) = P k

module _ (t : List Known) where
  abbrev pub settles : Held → Kinds
  settles h = settle_fault (rules_for t) false h

  abbrev pub rests : Held → List Row
  rests h = (settled (rules_for t) h).rows

  -- what the search for an option finds, and where its values go
  abbrev pub IsKnown : Known → Type 0
  IsKnown k = arg_by_id (rules_for t) k.name ≡ Some (rule_for k)

  -- the fault and the next state of a word of this form
  abbrev pub Turns : Form → Held → Waiting → Text → Kinds → Walk → Type 0
  Turns stray h w word fault next = Bad fault
  Turns ends h w word fault next = (fault ≡ []) × (next ≡ behind h w)
  Turns plain h w word fault next = (fault ≡ step_fault (shape_for t) 1 (plain_word (rules_for t) w word h).0 (plain_word (rules_for t) w word h).1)
      × (next ≡ after_step (rules_for t) word (at h w) (plain_word (rules_for t) w word h).0 (plain_word (rules_for t) w word h).1)
  Turns (whole k v) h w word fault next = (fault ≡ or_else (settles h) (put_fault (rests h) (used_with k v)))
      × (next ≡ at (holds (put (rests h) (used_with k v)) None) idle)
  Turns (waits k) h w word fault next = (fault ≡ settles h) × (next ≡ at (holds (rests h) (Some (k.name, []))) (option k.name)) × takes k.sort × IsKnown k

  -- what the searches of the command find
  pub record Finds : Type 0 where
    pub long : (name : Text) → arg_by_long (rules_for t) name ≡ option_map rule_for (known_long t name)
    pub short : (c : ℕ) → arg_by_short (rules_for t) c ≡ option_map rule_for (known_short t c)
    pub long_known : (name : Text) → Found IsKnown (known_long t name)
    pub short_known : (c : ℕ) → Found (λ k. takes k.sort × IsKnown k) (known_short t c)

  -- what an option of this name comes to, once it was found
  module _ (rows : List Row) (p : Option (Text × List Text)) (w : Waiting) (word : Text) where
    -- the turn, by the fault of the flag and by what it does
    abbrev Flagged : Form → Kinds → Held × Outcome → Type 0
    Flagged f fault met = Turns f (holds rows p) w word
        (or_else fault (step_fault (shape_for t) 1 (after_flag (rules_for t) w word met.0 met.1).0 (after_flag (rules_for t) w word met.0 met.1).1))
        (after_step (rules_for t) word (at (holds rows p) w) (after_flag (rules_for t) w word met.0 met.1).0 (after_flag (rules_for t) w word met.0 met.1).1)

    option_turn : (name : Text) (long : Option Text) (short : Option ℕ) (sort : Sort) (v : Option Text) → takes sort
        → IsKnown (record { name = name; long = long; short = short; sort = sort })
        → Flagged (sort_form sort (record { name = name; long = long; short = short; sort = sort }) v)
        (option_fault (rules_for t) false (rule_from name long short sort) v (holds rows p))
        (option_met (rules_for t) (rule_from name long short sort) v (holds rows p))
    option_turn name long short flag v h known = absurd h
    option_turn name long short single None h known = (or_else_nil _, refl, tt, known)
    option_turn name long short single (Some v) h known = (or_else_nil _ ∙ ap (or_else (settles (holds rows p))) (value_fault name long short single v (rests (holds rows p)) tt), refl)
    option_turn name long short repeated None h known = (or_else_nil _, refl, tt, known)
    option_turn name long short repeated (Some v) h known = (or_else_nil _ ∙ ap (or_else (settles (holds rows p))) (value_fault name long short repeated v (rests (holds rows p)) tt), refl)

    long_known : (name : Text) (long : Option Text) (short : Option ℕ) (sort : Sort) (v : Option Text)
        → IsKnown (record { name = name; long = long; short = short; sort = sort })
        → Flagged (sort_form sort (record { name = name; long = long; short = short; sort = sort }) v)
        (long_fault (rules_for t) false (Some (rule_from name long short sort)) v (holds rows p))
        (long_met (rules_for t) (Some (rule_from name long short sort)) v (holds rows p))
    long_known name long short flag None known = (or_else_nil _ ∙ ap (or_else (settles (holds rows p))) (flag_fault name long short (rests (holds rows p))), refl)
    long_known name long short flag (Some v) known = tt
    long_known name long short single v known = option_turn name long short single v tt known
    long_known name long short repeated v known = option_turn name long short repeated v tt known

    long_turn : (found : Option Known) (v : Option Text) → Found IsKnown found
        → Flagged (option_form found v)
        (long_fault (rules_for t) false (option_map rule_for found) v (holds rows p))
        (long_met (rules_for t) (option_map rule_for found) v (holds rows p))
    long_turn None v known = tt
    long_turn (Some k) v known = long_known k.name k.long k.short k.sort v known

    short_turn : (found : Option Known) (rest : Text) (next : Held → Kinds) (go : Held → Held × Outcome) → Found (λ k. takes k.sort × IsKnown k) found
        → Flagged (option_form found (attached_value rest))
        (short_fault (rules_for t) false (option_map rule_for found) rest (holds rows p) next)
        (short_met (rules_for t) (option_map rule_for found) rest (holds rows p) go)
    short_turn None rest next go known = tt
    short_turn (Some k) rest next go known = by_sort k.name k.long k.short k.sort known.0 known.1
      where
        by_sort : (name : Text) (long : Option Text) (short : Option ℕ) (sort : Sort) → takes sort
            → IsKnown (record { name = name; long = long; short = short; sort = sort })
            → Flagged (sort_form sort (record { name = name; long = long; short = short; sort = sort }) (attached_value rest))
            (short_fault (rules_for t) false (Some (rule_from name long short sort)) rest (holds rows p) next)
            (short_met (rules_for t) (Some (rule_from name long short sort)) rest (holds rows p) go)
        by_sort name long short flag h k = absurd h
        by_sort name long short single h k = option_turn name long short single (attached_value rest) tt k
        by_sort name long short repeated h k = option_turn name long short repeated (attached_value rest) tt k

    -- ---- a word, by what it looks like

    module _ (finds : Finds) where
      letter_turn : (flags : Text) (first : Option ℕ) (next : Text → ℕ → Held → Kinds) (go : Text → ℕ → Outcome → Held → Held × Outcome)
          → Flagged (parsed_letter t flags first) (bundle_step_fault (rules_for t) false first flags 0 (holds rows p) next)
          (bundle_step (rules_for t) first flags 0 no_flag (holds rows p) go)
      letter_turn flags None next go = (refl, refl)
      letter_turn flags (Some c) next go =
          let rest = drop (length (encode_utf8 c)) flags in
          subst (λ (found : Option Rule). Flagged (option_form (known_short t c) (attached_value rest))
          (short_fault (rules_for t) false found rest (holds rows p) (next rest 0)) (short_met (rules_for t) found rest (holds rows p) (go rest 0 done)))
          (sym (finds.short c)) (short_turn (known_short t c) rest (next rest 0) (go rest 0 done) (finds.short_known c))

      bundle_turn : (flags : Text) → Flagged (parsed_letter t flags (slice_get (chars flags) 0)) (bundle_fault (rules_for t) false flags (holds rows p)) (bundle (rules_for t) flags (holds rows p))
      unfolding flags_fault bundle_met chars
      bundle_turn [] = (refl, refl)
      bundle_turn (x ∷ xs) = letter_turn (x ∷ xs) (slice_get (chars (x ∷ xs)) 0) (flags_fault (rules_for t) false (length xs)) (bundle_met (rules_for t) (length xs))

      -- the turn, by the fault of the word and by what it is
      abbrev Steps : Form → Kinds → Held × Step → Type 0
      Steps f fault met = Turns f (holds rows p) w word (or_else fault (step_fault (shape_for t) 1 met.0 met.1)) (after_step (rules_for t) word (at (holds rows p) w) met.0 met.1)

      dashed_turn : (long : Option (Text × Option Text)) → Steps (parsed_hyphens t long (short_of word)) (flag_word_fault (rules_for t) false long word (holds rows p))
          (long_or_other (rules_for t) w word long (holds rows p))
      dashed_turn (Some pair) = subst (λ (found : Option Rule). Flagged (option_form (known_long t pair.0) pair.1)
          (long_fault (rules_for t) false found pair.1 (holds rows p)) (long_met (rules_for t) found pair.1 (holds rows p)))
          (sym (finds.long pair.0)) (long_turn (known_long t pair.0) pair.1 (finds.long_known pair.0))
      dashed_turn None = by_short (short_of word)
        where
          by_short : (o : Option Text) → Steps (parsed_hyphens t None o) (option_map_or (λ flags. bundle_fault (rules_for t) false flags (holds rows p)) o [])
              (short_or_plain (rules_for t) w word o (holds rows p))
          by_short None = (refl, refl)
          by_short (Some flags) = bundle_turn flags

      no_subcommand : (w : Waiting) → subcommand_met [] w word ≡ None
      no_subcommand idle = refl
      no_subcommand (option id) = refl
      no_subcommand positional = refl

      other_turn : Steps (parsed_form t word) (other_fault (shape_for t) None word (holds rows p)) (subcommand_or_other (rules_for t) None w 1 word (holds rows p))
      other_turn = by_dashes (bytes_eq word (codes "--"))
        where
          by_dashes : (b : Bool) → Steps (cond b ends (parsed_hyphens t (long_of word) (short_of word)))
              (cond b [] (flag_word_fault (rules_for t) false (long_of word) word (holds rows p)))
              (cond b (holds rows p, trailing 1) (long_or_other (rules_for t) w word (long_of word) (holds rows p)))
          by_dashes true = (refl, refl)
          by_dashes false = dashed_turn (long_of word)

      parsed_turn : Turns (parsed_form t word) (holds rows p) w word (turn_fault (shape_for t) [] (at (holds rows p) w) word) (walked (rules_for t) [] (at (holds rows p) w) word)
      unfolding walked
      parsed_turn = subst (λ (o : Option Text). Steps (parsed_form t word) (other_fault (shape_for t) o word (holds rows p)) (subcommand_or_other (rules_for t) o w 1 word (holds rows p)))
          (sym (no_subcommand w)) other_turn

      pub turn : Turns (form_of t word) (holds rows p) w word (turn_fault (shape_for t) [] (at (holds rows p) w) word) (walked (rules_for t) [] (at (holds rows p) w) word)
      turn = subst (λ (f : Form). Turns f (holds rows p) w word (turn_fault (shape_for t) [] (at (holds rows p) w) word) (walked (rules_for t) [] (at (holds rows p) w) word))
          (sym (forms_agree t word)) parsed_turn

  -- ---- files

  pub record Places : Type 0 where
    pub by_id : arg_by_id (rules_for t) file_name ≡ Some file_rule
    pub by_index : arg_by_index (rules_for t) 1 ≡ Some file_rule

  -- a word goes to the files
  abbrev filed : List Row → Option (Text × List Text) → Text → Held
  filed rows p word = holds (rests (holds rows p)) (Some (file_name, word ∷ []))

  file_fault : (rows : List Row) (p : Option (Text × List Text)) → positional_fault (rules_for t) false file_rule (holds rows p) ≡ settles (holds rows p)
  file_fault rows p = go (is_pending file_rule p)
    where
      go : (b : Bool) → cond (b && false) [] (settles (holds rows p)) ≡ settles (holds rows p)
      go true = refl
      go false = refl

  file_held : (rows : List Row) (p : Option (Text × List Text)) (word : Text) → positional_held (rules_for t) file_rule word (holds rows p) ≡ filed rows p word
  file_held rows p word = go (is_pending file_rule p)
    where
      go : (b : Bool) → pushed file_name word (cond (b && false) (holds rows p) (settled (rules_for t) (holds rows p))) ≡ filed rows p word
      go true = refl
      go false = refl

  module _ (places : Places) where
    file_step : (rows : List Row) (p : Option (Text × List Text)) → step_fault (shape_for t) 1 (holds rows p) value ≡ settles (holds rows p)
    file_step rows p = ap (λ (o : Option Rule). option_map_or (λ a. positional_fault (rules_for t) false a (holds rows p)) o (stray_fault (shape_for t))) places.by_index ∙ file_fault rows p

    file_next : (rows : List Row) (p : Option (Text × List Text)) (word : Text) (w : Walk)
        → to_positional (rules_for t) (arg_by_index (rules_for t) 1) word w (holds rows p)
        ≡ record { held = filed rows p word; waiting = positional; position = w.position; is_trailing = w.is_trailing || false; stopped = None }
    file_next rows p word w = ap (λ (o : Option Rule). to_positional (rules_for t) o word w (holds rows p)) places.by_index
        ∙ ap (λ (h : Held). record { held = h; waiting = positional; position = w.position; is_trailing = w.is_trailing || false; stopped = None }) (file_held rows p word)

    settles_file : (rows : List Row) (word : Text) → settles (holds rows (Some (file_name, word ∷ []))) ≡ put_fault rows (file word)
    settles_file rows word = ap (λ (o : Option Rule). option_map_or (λ a. use_fault false a (word ∷ []) rows) o []) places.by_id

    rests_file : (rows : List Row) (word : Text) → rests (holds rows (Some (file_name, word ∷ []))) ≡ put rows (file word)
    rests_file rows word = ap (λ (o : Option Rule). used_by_id o (word ∷ []) rows) places.by_id

  -- ---- the whole walk

  -- the faults and the rows of a walk, with the last option settled
  abbrev sees : Walk → List Text → Kinds
  sees w words = walk_fault (shape_for t) [] w words

  abbrev ends_with : Walk → List Text → Kinds
  ends_with w words = settles (fold (walked (rules_for t) []) w words).held

  abbrev pub faults : Walk → List Text → Kinds
  faults w words = or_else (walk_fault (shape_for t) [] w words) (settles (fold (walked (rules_for t) []) w words).held)

  abbrev pub leaves : Walk → List Text → List Row
  leaves w words = rests (fold (walked (rules_for t) []) w words).held

  -- behind this fault and these rows, the uses give this fault and these rows; where there are none there is a fault
  abbrev pub Agrees : Kinds → List Row → Option (List Use) → Kinds → List Row → Type 0
  Agrees fault rows None total final = Bad total
  Agrees fault rows (Some us) total final = (total ≡ or_else fault (puts_fault rows us)) × (final ≡ puts rows us)

  then_agrees : (F : Kinds) (R : List Row) (u : Use) (o : Option (List Use)) (fault a b : Kinds) (final : List Row) → fault ≡ F
      → Agrees (put_fault R u) (put R u) o (or_else a b) final → Agrees F R (then_use u o) (or_else (or_else fault a) b) final
  then_agrees F R u None fault a b final is h = subst Bad (sym (or_else_assoc fault a b)) (bad_right fault (or_else a b) h)
  then_agrees F R u (Some us) fault a b final is h = (or_else_assoc fault a b ∙ ap₂ or_else is h.0, h.1)

  whole_agrees : (F : Kinds) (R : List Row) (u : Use) (o : Option (List Use)) (fault a b : Kinds) (final : List Row) → fault ≡ or_else F (put_fault R u)
      → Agrees [] (put R u) o (or_else a b) final → Agrees F R (then_use u o) (or_else (or_else fault a) b) final
  whole_agrees F R u None fault a b final is h = subst Bad (sym (or_else_assoc fault a b)) (bad_right fault (or_else a b) h)
  whole_agrees F R u (Some us) fault a b final is h = (or_else_assoc fault a b ∙ ap₂ or_else is h.0 ∙ or_else_assoc F (put_fault R u) (puts_fault (put R u) us), h.1)

  value_settles : (k : Known) (v : Text) (rows : List Row) → takes k.sort → IsKnown k → settles (holds rows (Some (k.name, v ∷ []))) ≡ put_fault rows (used_with k v)
  value_settles k v rows h known = ap (λ (o : Option Rule). option_map_or (λ a. use_fault false a (v ∷ []) rows) o []) known ∙ value_fault k.name k.long k.short k.sort v rows h

  value_rests : (k : Known) (v : Text) (rows : List Row) → takes k.sort → IsKnown k → rests (holds rows (Some (k.name, v ∷ []))) ≡ put rows (used_with k v)
  value_rests k v rows h known = ap (λ (o : Option Rule). used_by_id o (v ∷ []) rows) known ∙ value_used k.name k.long k.short k.sort v rows h

  -- an option with no value is a fault
  waits_bad : (k : Known) (rows : List Row) → takes k.sort → IsKnown k → Bad (settles (holds rows (Some (k.name, []))))
  waits_bad k rows h known = subst (λ (o : Option Rule). Bad (option_map_or (λ a. use_fault false a [] rows) o [])) (sym known) (no_value k.name k.long k.short k.sort rows h)

  module _ (finds : Finds) (places : Places) where
    filed_agrees : (R : List Row) (word : Text) (o : Option (List Use)) (total : Kinds) (final : List Row)
        → Agrees (settles (holds R (Some (file_name, word ∷ [])))) (rests (holds R (Some (file_name, word ∷ [])))) o total final
        → Agrees (put_fault R (file word)) (put R (file word)) o total final
    filed_agrees R word o total final h = subst (λ (x : List Row). Agrees (put_fault R (file word)) x o total final) (rests_file places R word)
        (subst (λ (x : Kinds). Agrees x (rests (holds R (Some (file_name, word ∷ [])))) o total final) (settles_file places R word) h)

    valued_agrees : (k : Known) (v : Text) (R : List Row) (o : Option (List Use)) (total : Kinds) (final : List Row) → takes k.sort → IsKnown k
        → Agrees (settles (holds R (Some (k.name, v ∷ [])))) (rests (holds R (Some (k.name, v ∷ [])))) o total final
        → Agrees (put_fault R (used_with k v)) (put R (used_with k v)) o total final
    valued_agrees k v R o total final takes_one known h = subst (λ (x : List Row). Agrees (put_fault R (used_with k v)) x o total final) (value_rests k v R takes_one known)
        (subst (λ (x : Kinds). Agrees x (rests (holds R (Some (k.name, v ∷ [])))) o total final) (value_settles k v R takes_one known) h)

    -- behind `--`
    walk_behind : (words : List Text) (rows : List Row) (p : Option (Text × List Text)) (w : Waiting)
        → Agrees (settles (holds rows p)) (rests (holds rows p)) (Some (map file words)) (faults (behind (holds rows p) w) words) (leaves (behind (holds rows p) w) words)
    unfolding walk_fault walked
    walk_behind [] rows p w = (sym (or_else_nil _), refl)
    walk_behind (word ∷ words) rows p w =
        let R = rests (holds rows p) in
        let next = filed_agrees R word (Some (map file words)) _ _ (walk_behind words R (Some (file_name, word ∷ [])) positional) in
        subst (λ (x : Walk). Agrees (settles (holds rows p)) R (Some (map file (word ∷ words)))
        (or_else (or_else (step_fault (shape_for t) 1 (holds rows p) value) (walk_fault (shape_for t) [] x words)) (settles (fold (walked (rules_for t) []) x words).held))
        (leaves x words)) (sym (file_next places rows p word (behind (holds rows p) w)))
        (then_agrees (settles (holds rows p)) R (file word) (Some (map file words)) _ _ _ _ (file_step places rows p) next)

    abbrev resting : Bool → Waiting
    resting true = positional
    resting false = idle

    -- a file, where no option waits
    abbrev Plainly : Bool → List Row → Option (Text × List Text) → Text → Kinds → Walk → Type 0
    Plainly b rows p word fault next = (fault ≡ settles (holds rows p)) × (next ≡ at (filed rows p word) positional)

    plainly : (b : Bool) (rows : List Row) (p : Option (Text × List Text)) (word : Text) (fault : Kinds) (next : Walk)
        → Turns plain (holds rows p) (resting b) word fault next → Plainly b rows p word fault next
    plainly true rows p word fault next h = (h.0 ∙ file_step places rows p, h.1 ∙ file_next places rows p word (at (holds rows p) positional))
    plainly false rows p word fault next h = (h.0 ∙ file_step places rows p, h.1 ∙ file_next places rows p word (at (holds rows p) idle))

    -- from a place where no option waits, and from one where one does
    abbrev FromRest : List Text → Type 0
    FromRest words = (b : Bool) (rows : List Row) (p : Option (Text × List Text))
        → Agrees (settles (holds rows p)) (rests (holds rows p)) (uses_from t None words) (faults (at (holds rows p) (resting b)) words) (leaves (at (holds rows p) (resting b)) words)

    abbrev FromWait : List Text → Type 0
    FromWait words = (k : Known) (rows : List Row) → takes k.sort → IsKnown k
        → Agrees [] rows (uses_from t (Some k) words) (faults (at (holds rows (Some (k.name, []))) (option k.name)) words) (leaves (at (holds rows (Some (k.name, []))) (option k.name)) words)

    -- the faults and rows where the walk goes on from here
    abbrev faults_on : Kinds → Walk → List Text → Kinds
    faults_on fault next words = or_else (or_else fault (walk_fault (shape_for t) [] next words)) (settles (fold (walked (rules_for t) []) next words).held)

    goes_on : (F : Kinds) (R : List Row) (o : Option (List Use)) (words : List Text) (fault f : Kinds) (next n : Walk) → fault ≡ f → next ≡ n
        → Agrees F R o (faults_on f n words) (leaves n words) → Agrees F R o (faults_on fault next words) (leaves next words)
    goes_on F R o words fault f next n is same h =
        subst (λ (x : Kinds). Agrees F R o (faults_on x next words) (leaves next words)) (sym is)
        (subst (λ (x : Walk). Agrees F R o (faults_on f x words) (leaves x words)) (sym same) h)

    front_agrees : (F : Kinds) (R : List Row) (o : Option (List Use)) (a b : Kinds) (final : List Row) → Agrees [] R o (or_else a b) final
        → Agrees F R o (or_else (or_else F a) b) final
    front_agrees F R None a b final h = subst Bad (sym (or_else_assoc F a b)) (bad_right F (or_else a b) h)
    front_agrees F R (Some us) a b final h = (or_else_assoc F a b ∙ ap (or_else F) h.0, h.1)

    option_next : (k : Known) (rows : List Row) (word : Text) → takes k.sort → IsKnown k
        → option_word (arg_by_id (rules_for t) k.name) k.name word (holds rows (Some (k.name, []))) ≡ (holds rows (Some (k.name, word ∷ [])), idle)
    option_next k rows word one known =
        ap (λ (o : Option Rule). option_word o k.name word (holds rows (Some (k.name, [])))) known ∙ by_sort k.name k.long k.short k.sort one
      where
        by_sort : (name : Text) (long : Option Text) (short : Option ℕ) (sort : Sort) → takes sort
            → option_word (Some (rule_from name long short sort)) name word (holds rows (Some (name, []))) ≡ (holds rows (Some (name, word ∷ [])), idle)
        by_sort name long short flag h = absurd h
        by_sort name long short single h = rw ((bytes_eq-Decides name name).1 refl) refl
        by_sort name long short repeated h = rw ((bytes_eq-Decides name name).1 refl) refl

    rest_step : (word : Text) (words : List Text) → FromRest words → FromWait words → (b : Bool) (rows : List Row) (p : Option (Text × List Text))
        (f : Form) (fault : Kinds) (next : Walk) → Turns f (holds rows p) (resting b) word fault next
        → Agrees (settles (holds rows p)) (rests (holds rows p)) (word_then f word words (uses_from t None words) (λ k. uses_from t (Some k) words)) (faults_on fault next words) (leaves next words)
    rest_step word words rest wait b rows p stray fault next h = bad_left _ _ (bad_left fault _ h)
    rest_step word words rest wait b rows p ends fault next h =
        goes_on (settles (holds rows p)) (rests (holds rows p)) (Some (map file words)) words fault [] next (behind (holds rows p) (resting b)) h.0 h.1 (walk_behind words rows p (resting b))
    rest_step word words rest wait b rows p plain fault next h =
        let files = plainly b rows p word fault next h in
        let n = at (filed rows p word) positional in
        goes_on (settles (holds rows p)) (rests (holds rows p)) (then_use (file word) (uses_from t None words)) words fault fault next n refl files.1
        (then_agrees (settles (holds rows p)) (rests (holds rows p)) (file word) (uses_from t None words) fault (sees n words) (ends_with n words) (leaves n words) files.0
        (filed_agrees (rests (holds rows p)) word (uses_from t None words) (faults n words) (leaves n words) (rest true (rests (holds rows p)) (Some (file_name, word ∷ [])))))
    rest_step word words rest wait b rows p (whole k v) fault next h =
        let n = at (holds (put (rests (holds rows p)) (used_with k v)) None) idle in
        goes_on (settles (holds rows p)) (rests (holds rows p)) (then_use (used_with k v) (uses_from t None words)) words fault fault next n refl h.1
        (whole_agrees (settles (holds rows p)) (rests (holds rows p)) (used_with k v) (uses_from t None words) fault (sees n words) (ends_with n words) (leaves n words) h.0
        (rest false (put (rests (holds rows p)) (used_with k v)) None))
    rest_step word words rest wait b rows p (waits k) fault next h =
        let n = at (holds (rests (holds rows p)) (Some (k.name, []))) (option k.name) in
        goes_on (settles (holds rows p)) (rests (holds rows p)) (uses_from t (Some k) words) words fault (settles (holds rows p)) next n h.0 h.1
        (front_agrees (settles (holds rows p)) (rests (holds rows p)) (uses_from t (Some k) words) (sees n words) (ends_with n words) (leaves n words)
        (wait k (rests (holds rows p)) h.2 h.3))

    wait_step : (word : Text) (words : List Text) → FromRest words → (k : Known) (rows : List Row) → takes k.sort → IsKnown k
        → (f : Form) (fault : Kinds) (next : Walk) → Turns f (holds rows (Some (k.name, []))) (option k.name) word fault next
        → Agrees [] rows (value_then f k word (uses_from t None words)) (faults_on fault next words) (leaves next words)
    wait_step word words rest k rows one known stray fault next h = bad_left _ _ (bad_left fault _ h)
    wait_step word words rest k rows one known ends fault next h =
        let behind_it = walk_behind words rows (Some (k.name, [])) (option k.name) in
        goes_on [] rows None words fault [] next (behind (holds rows (Some (k.name, []))) (option k.name)) h.0 h.1
        (subst Bad (sym behind_it.0) (bad_left (settles (holds rows (Some (k.name, [])))) _ (waits_bad k rows one known)))
    wait_step word words rest k rows one known plain fault next h =
        let n = at (holds rows (Some (k.name, word ∷ []))) idle in
        let given = option_next k rows word one known in
        goes_on [] rows (then_use (used_with k word) (uses_from t None words)) words fault [] next n h.0 (h.1 ∙ ap (λ (m : Held × Waiting). at m.0 m.1) given)
        (then_agrees [] rows (used_with k word) (uses_from t None words) [] (sees n words) (ends_with n words) (leaves n words) refl
        (valued_agrees k word rows (uses_from t None words) (faults n words) (leaves n words) one known (rest false rows (Some (k.name, word ∷ [])))))
    wait_step word words rest k rows one known (whole other v) fault next h =
        bad_left _ _ (bad_left fault _ (subst Bad (sym h.0) (bad_left (settles (holds rows (Some (k.name, [])))) _ (waits_bad k rows one known))))
    wait_step word words rest k rows one known (waits other) fault next h =
        bad_left _ _ (bad_left fault _ (subst Bad (sym h.0) (waits_bad k rows one known)))

    pub walk_agrees : (words : List Text) → FromRest words × FromWait words
    unfolding uses_from walk_fault
    walk_agrees [] = (λ b rows p. (sym (or_else_nil _), refl), λ k rows one known. waits_bad k rows one known)
    walk_agrees (word ∷ words) =
        let more = walk_agrees words in (
          λ b rows p. rest_step word words more.0 more.1 b rows p (form_of t word) _ _ (turn rows p (resting b) word finds),
          λ k rows one known. wait_step word words more.0 k rows one known (form_of t word) _ _
              (turn rows (Some (k.name, [])) (option k.name) word finds),
        )
