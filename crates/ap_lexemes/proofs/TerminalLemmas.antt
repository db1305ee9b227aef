-- A look-up in a table of spellings, row by row.
use Rattle.std.proofs.Common.{◌≡◌, ℕ, ◌+◌, ◌<◌, ◌≤◌, List, length, drop, get_or, true, false, refl, ◌∙◌}
use Rattle.std.proofs.lemmas.List.{at_drop_more, at_drop_all}
use Rattle.std.specs.Str.{bytes_eq}
use Rattle.std.specs.Borrow.{Bor}
use Rattle.ap_grammar.specs.declared.terminals.Terminal.{Terminal}
use Rattle.ap_lexemes.specs.Terminals.{spelled_in}

module _ (rows : List (Bor (List ℕ) × Terminal)) (bytes : List ℕ) (other : Terminal) (i : ℕ) where
  pub spelled-here : (d : Bor (List ℕ) × Terminal) → i < length rows → bytes_eq (get_or rows i d).0.now bytes ≡ true → spelled_in (drop i rows) bytes other ≡ (get_or rows i d).1
  spelled-here d lt e = at_drop_more (λ rs. spelled_in rs bytes other) rows i d lt ∙ rw e refl

  pub spelled-later : (d : Bor (List ℕ) × Terminal) → i < length rows → bytes_eq (get_or rows i d).0.now bytes ≡ false → spelled_in (drop i rows) bytes other ≡ spelled_in (drop (i + 1) rows) bytes other
  spelled-later d lt e = at_drop_more (λ rs. spelled_in rs bytes other) rows i d lt ∙ rw e refl

  pub spelled-nowhere : length rows ≤ i → spelled_in (drop i rows) bytes other ≡ other
  spelled-nowhere le = at_drop_all (λ rs. spelled_in rs bytes other) rows i le
