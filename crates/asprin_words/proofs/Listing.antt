-- Lists of texts behind references, and of constants.
use Rattle.std.proofs.Common.{◌≡◌, ◌∙◌, ◌&&◌, ◌||◌, ◌==◌, Bool, true, false, not, refl, sym, ap, ap₂, List, [], ◌∷◌, ◌++◌, Some, None, length, map, nat_lt, string_bytes}
use Rattle.std.specs.Prelude.{nat_le}
use Rattle.std.proofs.lemmas.List.{length-map, map-append}
use Rattle.std.specs.Borrow.{Bor}
use Rattle.std.specs.List.{list_all, list_any}
use Rattle.std.specs.Str.{bytes_eq}
use Rattle.clap.specs.Walk.{Text}
use Rattle.asprin_words.specs.Reads.{setting_of}
use Rattle.asprin_words.specs.Values.{are_files, is_set, with_setting}
use Rattle.asprin_words.specs.declared.words.Constant.{Constant}

all_map : {X Y : Type 0} (p : Y → Bool) (f : X → Y) (xs : List X) → list_all p (map f xs) ≡ list_all (λ x. p (f x)) xs
all_map p f [] = refl
all_map p f (x ∷ xs) = ap (λ b. p (f x) && b) (all_map p f xs)

-- the test in the code's words
pub are_files_by : (names : List (Bor Text)) → are_files (map (λ s. s.now) names)
    ≡ (nat_lt 0 (length names) && nat_le (length names) 10000 && list_all (λ name. not (length name.now == 0)) names)
are_files_by names = rw (length-map, all_map) refl

-- a constant has the name
pub is_set_by : (name : Text) (constants : List Constant)
    → is_set name (map setting_of constants) ≡ list_any (λ constant. bytes_eq (string_bytes constant.name) name) constants
is_set_by name [] = refl
is_set_by name (c ∷ cs) = ap (λ b. bytes_eq (string_bytes c.name) name || b) (is_set_by name cs)

module _ (constants : List Constant) (constant : Constant) (name : Text) (seen : List Constant) (value : name ≡ string_bytes constant.name) (all : seen ≡ constants) where
  told : (b : Bool) → b ≡ list_any (λ other. bytes_eq (string_bytes other.name) name) seen → is_set (string_bytes constant.name) (map setting_of constants) ≡ b
  told b is = is_set_by (string_bytes constant.name) constants
      ∙ sym (is ∙ ap₂ (λ (n : Text) (l : List Constant). list_any (λ other. bytes_eq (string_bytes other.name) n) l) value all)

  pub repeated_name : true ≡ list_any (λ other. bytes_eq (string_bytes other.name) name) seen → with_setting (map setting_of constants) (Some (setting_of constant)) ≡ None
  repeated_name is = rw (told true is) refl

  pub new_name : (more : List Constant) → more ≡ constants ++ constant ∷ [] → false ≡ list_any (λ other. bytes_eq (string_bytes other.name) name) seen
      → with_setting (map setting_of constants) (Some (setting_of constant)) ≡ Some (map setting_of more)
  new_name more are is = rw (told false is) (ap Some (sym (ap (map setting_of) are ∙ map-append setting_of constants (constant ∷ []))))
