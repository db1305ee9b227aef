-- The pieces of a program, put together.
use Rattle.std.proofs.Common.{◌≡◌, ℕ, ◌+◌, List, [], ◌∷◌, ◌++◌, length, map, refl, sym, ◌∙◌, ap, subst, arith}
use Rattle.std.specs.List.{enumerate_from}
use Rattle.theory_form.specs.declared.literals.Lit.{Lit}
use Rattle.ground_form.specs.Programs.{Parts}
use Rattle.theory_build.specs.declared.drafts.Draft.{Draft}
use Rattle.theory_build.specs.declared.entries.Entry.{Entry}
use Rattle.theory_build.specs.declared.frames.Frame.{Frame}
use Rattle.theory_build.specs.Bodies.{bodies_from, body_entries, body_entry_at, rule_bodies}
use Rattle.theory_build.specs.Drafts.{Adds, IsLonger, next_of}
use Rattle.theory_build.specs.Groups.{Guards, group_piece_at, groups_piece}
use Rattle.theory_build.specs.Pieces.{in_turn}
use Rattle.theory_build.proofs.PieceLemmas.{next_after}

next_of_empty : (d : Draft) (from : ℕ) → d.from ≡ from → d.entries.items ≡ [] → next_of d ≡ from
next_of_empty d from from_is empty = let n = ap length empty in omega arith

-- a draft that was empty has what was added
was_empty : (d e : Draft) (xs : List Entry) → d.entries.items ≡ [] → IsLonger d e xs → e.entries.items ≡ xs
was_empty d e xs empty longer = longer.entries ∙ ap (λ es. es ++ xs) empty

-- the groups as a draft, and the literals of their guards
pub record GroupsMade (p : Frame) (g : Parts) (draft : Draft) (guards : List Guards) : Type 0 where
  pub guards_are : guards ≡ (groups_piece p g).name
  pub entries : draft.entries.items ≡ (groups_piece p g).entries
  pub next : next_of draft ≡ bodies_from p g

pub groups_made : (p : Frame) (g : Parts) (d e : Draft) (guards : List Guards) → d.from ≡ p.groups_from → d.entries.items ≡ [] → Adds d e (in_turn (group_piece_at p g) (next_of d) (enumerate_from 1 g.groups)) guards → GroupsMade p g e guards
unfolding groups_piece bodies_from
groups_made p g d e guards from empty adds =
    let at = next_of_empty d p.groups_from from empty in
    let all = subst (λ v. Adds d e (in_turn (group_piece_at p g) v (enumerate_from 1 g.groups)) guards) at adds in
    record {
      guards_are = all.name_is;
      entries = was_empty d e (in_turn (group_piece_at p g) p.groups_from (enumerate_from 1 g.groups)).entries empty all.longer;
      next =
          next_after d e (in_turn (group_piece_at p g) p.groups_from (enumerate_from 1 g.groups)).entries all.longer
          ∙ ap (λ v. v + length (in_turn (group_piece_at p g) p.groups_from (enumerate_from 1 g.groups)).entries) at;
    }

pub bodies_made : (p : Frame) (g : Parts) (d e : Draft) (from : ℕ) (lists : List (List Lit)) → d.from ≡ from → d.entries.items ≡ [] → from ≡ bodies_from p g → lists ≡ rule_bodies p g → IsLonger d e (map body_entry_at (enumerate_from (next_of d) lists)) → e.entries.items ≡ body_entries p g
unfolding body_entries
bodies_made p g d e from lists from_is empty is_from lists_are longer =
    was_empty d e (map body_entry_at (enumerate_from (next_of d) lists)) empty longer
    ∙ ap (λ v. map body_entry_at (enumerate_from v lists)) (next_of_empty d from from_is empty ∙ is_from)
    ∙ ap (λ ls. map body_entry_at (enumerate_from (bodies_from p g) ls)) lists_are
