-- How a text reads, place by place.
use Rattle.std.proofs.Common.{◌≡◌, ℕ, zero, suc, get_or, ◌+◌, ◌-◌, ◌<◌, ◌≤◌, List, [], ◌∷◌, ◌++◌, length, drop, refl, sym, ap, ◌∙◌, subst, Option, None, Some, arith}
use Rattle.ap_lex.specs.Forms.{is_gap, is_token}
use Rattle.ap_lex.specs.Pieces.{gap_at, gap_or, piece_at, token_at}
use Rattle.ap_lex.specs.Places.{BeginsAt}
use Rattle.ap_lex.specs.Tokens.Reads.{nothing, gap, token}
use Rattle.ap_lex.specs.Tokens.{BeginsNothing, IsGap, IsLongest, IsToken, Reads}
use Rattle.ap_lex.specs.declared.pieces.Piece.{Piece}
use Rattle.ap_lex.specs.declared.pieces.Piece.TheVariants.{Gap, Token}
use Rattle.ap_lex.specs.declared.token.Kind.{Kind}
use Rattle.ap_lex.specs.declared.token.Token as tokens
use Rattle.ap_lex.proofs.FoundLemmas.{Finds, token_found}
use Rattle.ap_lex.proofs.SoundLemmas as sound
use Rattle.ap_lex.proofs.StandsLemmas.{Stands, at_stands, gap_is_proper, stands_at, token_is_proper}

-- ---- the front of the text that begins at a place

finds : (text : List ℕ) (kind : Kind) (len : ℕ) → Stands (is_token kind) text len → Finds text kind len
finds text kind len s =
    let at_split : Finds (s.bytes ++ s.rest) kind (length s.bytes) = token_found kind s.bytes s.rest s.has_form in
    subst (λ bs. Finds bs kind len) (sym s.split) (subst (λ n. Finds (s.bytes ++ s.rest) kind n) s.len_is at_split)

gap_is : (text : List ℕ) (len : ℕ) → Stands is_gap text len → gap_at text ≡ Some len
gap_is text len s = ap gap_at s.split ∙ sound.gap_found s.bytes s.rest s.has_form ∙ ap Some s.len_is

token_front : (text : List ℕ) (kind : Kind) (from to : ℕ) → IsToken text kind from to → (from < to) × Stands (is_token kind) (drop from text) (to - from)
token_front text kind from to t = stands_at (is_token kind) (token_is_proper kind) text from to t.within t.form

gap_front : (text : List ℕ) (from to : ℕ) → IsGap text from to → (from < to) × Stands is_gap (drop from text) (to - from)
gap_front text from to g = stands_at is_gap gap_is_proper text from to g.within g.form

-- ---- one piece begins at a place

pub gaps_end_alike : (text : List ℕ) (from to end : ℕ) → IsGap text from to → IsGap text from end → to ≡ end
gaps_end_alike text from to end g h =
    let one = gap_front text from to g in
    let other = gap_front text from end h in
    let same : Some (to - from) ≡ Some (end - from) = sym (gap_is _ _ one.1) ∙ gap_is _ _ other.1 in
    let len : to - from ≡ end - from = cc in
    let below = one.0 in
    let below_other = other.0 in
    omega arith

pub no_token_at_gap : (text : List ℕ) (from to : ℕ) (kind : Kind) (end : ℕ) → IsGap text from to → IsToken text kind from end → ⊥
no_token_at_gap text from to kind end g t =
    let f = finds _ kind _ (token_front text kind from end t).1 in
    let none = sound.gap_no_token _ _ (gap_is _ _ (gap_front text from to g).1) in
    let some = f.found in
    cc

no_longer : (text : List ℕ) (from len : ℕ) (kind other : Kind) (end : ℕ) → token_at (drop from text) ≡ Some (Token kind len) → IsToken text other from end → end ≤ from + len
no_longer text from len kind other end e t =
    let front = token_front text other from end t in
    let f = finds _ other _ front.1 in
    let found = f.found in
    let same : f.found_len ≡ len = cc in
    let below = front.0 in
    let enough = f.enough in
    omega arith

-- the token that is found is the longest one
longest_at : (text : List ℕ) (from : ℕ) (kind : Kind) (len : ℕ) → from ≤ length text → token_at (drop from text) ≡ Some (Token kind len) → IsLongest text kind from (from + len)
longest_at text from kind len inside e =
    let there = sound.token_stands (drop from text) (Token kind len) e in
    let is = there.is in
    let same_kind : there.kind ≡ kind = cc in
    let same_len : there.len ≡ len = cc in
    let stands : Stands (is_token kind) (drop from text) len =
    subst (λ n. Stands (is_token kind) (drop from text) n) same_len (subst (λ k. Stands (is_token k) (drop from text) there.len) same_kind there.stands) in
    let at = at_stands (is_token kind) (token_is_proper kind) text from len inside stands in
    record {
      token = record { within = at.0; form = at.1 };
      longest = λ other end t. no_longer text from len kind other end e t;
    }

-- and the longest one is found
pub as_found : (text : List ℕ) (from to : ℕ) (kind : Kind) → IsLongest text kind from to → (from < to) × (token_at (drop from text) ≡ Some (Token kind (to - from)))
as_found text from to kind l =
    let front = token_front text kind from to l.token in
    let below = front.0 in
    let within = l.token.within in
    let f = finds _ kind _ front.1 in
    let found = longest_at text from f.found_kind f.found_len (omega arith) f.found in
    let no_more = l.longest f.found_kind (from + f.found_len) found.token in
    let enough = f.enough in
    let len : f.found_len ≡ to - from = omega arith in
    let same = f.same len in
    let is = f.found in
    (below, cc)

pub longest_alike : (text : List ℕ) (from to end : ℕ) (kind other : Kind) → IsLongest text kind from to → IsLongest text other from end → (kind ≡ other) × (to ≡ end)
longest_alike text from to end kind other a b =
    let to-le : to ≤ end = b.longest kind to a.token in
    let end-le : end ≤ to = a.longest other end b.token in
    let one = as_found text from to kind a in
    let two = as_found text from end other b in
    let e = one.1 in
    let f = two.1 in
    (let same : kind ≡ other = cc in same, omega arith)

-- ---- a text reads in one way

pub one_reading : (text : List ℕ) {from to end : ℕ} {ts us : List tokens.Token} → Reads text from ts to → Reads text from us end
    → BeginsNothing text to → BeginsNothing text end → (ts ≡ us) × (to ≡ end)
one_reading text nothing nothing stop stop' = (refl, refl)
one_reading text nothing (gap g s) stop stop' = absurd (stop.gaps _ g)
one_reading text nothing (token l s) stop stop' = absurd (stop.tokens _ _ l.token)
one_reading text (gap g r) nothing stop stop' = absurd (stop'.gaps _ g)
one_reading text {end = end} {us = us} (gap g r) (gap h s) stop stop' =
    one_reading text r (subst (λ m. Reads text m us end) (gaps_end_alike text _ _ _ h g) s) stop stop'
one_reading text (gap g r) (token l s) stop stop' = absurd (no_token_at_gap text _ _ _ _ g l.token)
one_reading text (token l r) nothing stop stop' = absurd (stop'.tokens _ _ l.token)
one_reading text (token l r) (gap g s) stop stop' = absurd (no_token_at_gap text _ _ _ _ g l.token)
one_reading text {end = end} (token l r) (token {tokens = us} k s) stop stop' =
    let same = longest_alike text _ _ _ _ _ l k in
    let rest = one_reading text r (subst (λ m. Reads text m us end) (sym same.1) s) stop stop' in
    (let kind = same.0 in let place = same.1 in let more = rest.0 in cc, rest.1)

-- ---- the end of the text, and of what is read

pub end_begins_nothing : (text : List ℕ) → BeginsNothing text (length text)
end_begins_nothing text = record {
  tokens = λ kind to t. let front = token_front text kind (length text) to t in let within = t.within in absurd (omega (arith, front.0));
  gaps = λ to g. let front = gap_front text (length text) to g in let within = g.within in absurd (omega (arith, front.0));
}

pub reads_within : (text : List ℕ) {from to : ℕ} {ts : List tokens.Token} → Reads text from ts to → from ≤ length text → to ≤ length text
reads_within text nothing h = h
reads_within text (gap g r) h = reads_within text r g.within
reads_within text (token l r) h = reads_within text r l.token.within

-- each token that is read is one
pub each_token : (text : List ℕ) {from to : ℕ} {ts : List tokens.Token} → Reads text from ts to → (k : ℕ) (d : tokens.Token) → k < length ts
    → IsToken text (get_or ts k d).kind (get_or ts k d).from (get_or ts k d).to
each_token text nothing k d h = absurd (omega arith)
each_token text (gap g r) k d h = each_token text r k d h
each_token text (token l r) zero d h = l.token
each_token text (token l r) (suc k) d h = each_token text r k d (omega arith)

-- ---- one piece more

pub reads_gap : (text : List ℕ) {from middle to : ℕ} {ts : List tokens.Token} → Reads text from ts middle → IsGap text middle to → Reads text from ts to
reads_gap text nothing g = gap g nothing
reads_gap text (gap h r) g = gap h (reads_gap text r g)
reads_gap text (token l r) g = token l (reads_gap text r g)

pub reads_token : (text : List ℕ) {from middle to : ℕ} {ts : List tokens.Token} (kind : Kind) → Reads text from ts middle → IsLongest text kind middle to
    → Reads text from (ts ++ record { kind = kind; from = middle; to = to } ∷ []) to
reads_token text kind nothing l = token l nothing
reads_token text kind (gap h r) l = gap h (reads_token text kind r l)
reads_token text kind (token k r) l = token k (reads_token text kind r l)

-- ---- what the piece at a place is

module _ (text : List ℕ) (at : ℕ) where
  gap_there : (len : ℕ) (o : Option ℕ) → at ≤ length text → gap_at (drop at text) ≡ o → gap_or o (token_at (drop at text)) ≡ Some (Gap len) → IsGap text at (at + len)
  gap_there len None inside e h = let there = sound.token_stands (drop at text) (Gap len) h in let is = there.is in absurd cc
  gap_there len (Some n) inside e h =
      let same : n ≡ len = cc in
      let stands = at_stands is_gap gap_is_proper text at len inside (sound.gap_stands (drop at text) len (e ∙ ap Some same)) in
      record { within = stands.0; form = stands.1 }

  token_there : (kind : Kind) (len : ℕ) (o : Option ℕ) → at ≤ length text → gap_at (drop at text) ≡ o → gap_or o (token_at (drop at text)) ≡ Some (Token kind len) → IsLongest text kind at (at + len)
  token_there kind len None inside e h = longest_at text at kind len inside h
  token_there kind len (Some n) inside e h = absurd cc

  nothing_there : (o : Option ℕ) → gap_at (drop at text) ≡ o → gap_or o (token_at (drop at text)) ≡ None → BeginsNothing text at
  nothing_there None e h = record {
    tokens = λ kind to t. let f = finds _ kind _ (token_front text kind at to t).1 in let found = f.found in absurd cc;
    gaps = λ to g. let found = gap_is _ _ (gap_front text at to g).1 in absurd cc;
  }
  nothing_there (Some n) e h = absurd cc

  pub piece_begins : (o : Option Piece) → at ≤ length text → o ≡ piece_at (drop at text) → BeginsAt text at o
  unfolding piece_at
  piece_begins None inside h = nothing_there _ refl (sym h)
  piece_begins (Some (Gap len)) inside h = gap_there len _ inside refl (sym h)
  piece_begins (Some (Token kind len)) inside h = token_there kind len _ inside refl (sym h)

pub gap_positive : (text : List ℕ) (from to : ℕ) → IsGap text from to → from < to
gap_positive text from to g = (gap_front text from to g).0

pub token_positive : (text : List ℕ) (kind : Kind) (from to : ℕ) → IsToken text kind from to → from < to
token_positive text kind from to t = (token_front text kind from to t).0
