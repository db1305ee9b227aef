-- What sections and texts come to, for texts with preference statements (`whole`) and without.
use Rattle.std.proofs.Common.{◌≡◌, ◌<◌, ℕ, List, [], ◌∷◌, ◌++◌, Bool, true, false, Ok, Result, refl, sym, ◌∙◌, ap, length, append_assoc, append-nil}
use Rattle.std.specs.Prelude.{if◌then◌else◌, map}
use Rattle.std.specs.Global.{Vec}
use Rattle.std.proofs.lemmas.List.{map-append}
use Rattle.grammar.specs.Form.{◌⨾◌, ◌∣◌}
use Rattle.grammar.specs.Form.Form.{Tok, Call, Empty, Star}
use Rattle.grammar.specs.Takes.{Takes, Fails, Starts, NotStarts}
use Rattle.grammar.proofs.Loops.{Within, begun, one_more}
use Rattle.grammar.proofs.Shrinks.{shrinks}
use Rattle.ap_syntax.specs.declared.programs.PartKind.{PartKind}
use Rattle.ap_syntax.specs.declared.programs.PartKind.TheVariants as parts
use Rattle.ap_syntax.specs.declared.programs.Statement.{Statement}
use Rattle.ap_syntax.specs.declared.programs.Statement.TheVariants as statements
use Rattle.ap_grammar.specs.declared.terminals.Terminal.{Terminal}
use Rattle.ap_grammar.specs.declared.terminals.Terminal.TheVariants as t
use Rattle.ap_grammar.specs.Lexemes.{Lexeme}
use Rattle.ap_grammar.specs.Values.{Value, Class}
use Rattle.ap_grammar.specs.Grammar.{Name, statements_of}
use Rattle.ap_grammar.specs.Factored.{Part, Rhs, call, factored, base_opening, type_opening, opened, part_made}
use Rattle.ap_grammar.specs.Tables.{tables}
use Rattle.ap_grammar.proofs.Readable.{readable}
use Rattle.literal_parse.specs.declared.error.Stop.{Stop}
use Rattle.ap_parse.specs.declared.openings.Opening.{Opening}
use Rattle.literal_parse.specs.Reads.{Reads, Lacks}
use Rattle.ap_parse.specs.Openings.{IsOpening, IsPart, is_of_type, opening_form, opening_statement}
use Rattle.ap_parse.specs.Sections.{IsMore, IsProgram, IsSection}
use Rattle.ap_parse.specs.Statements.{IsStatement}
use Rattle.literal_parse.proofs.Steps.{taken, follow, giving}

-- ---- the statements among values

statements_first : (ss : List Statement) (vs : List Value) → statements_of (map Value.statement ss ++ vs) ≡ ss ++ statements_of vs
statements_first [] vs = refl
statements_first (s ∷ ss) vs = ap (λ us. s ∷ us) (statements_first ss vs)

statements_alone : (ss : List Statement) → statements_of (map Value.statement ss) ≡ ss
statements_alone [] = refl
statements_alone (s ∷ ss) = ap (λ us. s ∷ us) (statements_alone ss)

programs_first : (parts : List (List Statement)) (vs : List Value) → statements_of (map Value.program parts ++ vs) ≡ statements_of (map Value.program parts) ++ statements_of vs
programs_first [] vs = refl
programs_first (ss ∷ parts) vs = ap (λ us. ss ++ us) (programs_first parts vs) ∙ sym (append_assoc ss (statements_of (map Value.program parts)) (statements_of vs))

-- ---- loops

-- what was read of a repetition, each time with one value
pub record Listed {X : Type 0} (wrap : X → Value) (item : Rhs) (start here : List Lexeme) (got : List X) : Type 0 where
  pub within : Within factored tables item start here (map wrap got)

listed_begun : {X : Type 0} (wrap : X → Value) (item : Rhs) (start : List Lexeme) → Listed wrap item start start []
listed_begun wrap item start = record { within = begun factored tables item start }

listed_more : {X : Type 0} {wrap : X → Value} {item : Rhs} {start here end : List Lexeme} {got : List X} (x : X) → Listed wrap item start here got → Takes factored tables item here end (wrap x ∷ []) → Listed wrap item start end (got ++ x ∷ [])
listed_more {wrap = wrap} {got = got} x l t = record { within = rw map-append (one_more l.within t) }

listed_fail : {X : Type 0} {wrap : X → Value} {item : Rhs} {start here end : List Lexeme} {got : List X} → Listed wrap item start here got → Starts factored tables item here → Fails factored tables item here end → Fails factored tables (Star item) start end
listed_fail {end = end} l s f = l.within.fails end (Fails.item s f)

listed_end : {X : Type 0} {wrap : X → Value} {item : Rhs} {start here : List Lexeme} {got : List X} → Listed wrap item start here got → NotStarts factored tables item here → Takes factored tables (Star item) start here (map wrap got)
listed_end {wrap = wrap} {here = here} {got = got} l n = giving (append-nil (map wrap got)) (l.within.takes here [] (Takes.none n))

-- a rule that may not be empty takes a token or more
pub takes_some : (n : Part) {xs ys : List Lexeme} {vs : List Value} → tables.null n ≡ false → Takes factored tables (Call n) xs ys vs → length ys < length xs
takes_some n e d = (shrinks Part Terminal Class Lexeme Value factored tables readable.predictive d).strictly e

-- ---- statements

-- The statements that were read, behind those before.
pub record Grows (item : Rhs) (start here : List Lexeme) (before now : List Statement) : Type 0 where
  pub more : List Statement
  pub listed : Listed Value.statement item start here more
  pub grown : now ≡ before ++ more

pub grows_begun : (item : Rhs) (start : List Lexeme) (ss : List Statement) → Grows item start start ss ss
grows_begun item start ss = record { more = []; listed = listed_begun Value.statement item start; grown = sym (append-nil ss) }

pub grows_more : {item : Rhs} {start here end : List Lexeme} {before now : List Statement} {s : Statement} → Grows item start here before now → Reads item IsStatement here end (Ok s) → Grows item start end before (now ++ s ∷ [])
grows_more {before = before} {s = s} g r =
    let q = taken r in
    record { more = g.more ++ s ∷ []; listed = listed_more s g.listed (giving q.makes q.takes); grown = ap (λ us. us ++ s ∷ []) g.grown ∙ append_assoc before g.more (s ∷ []) }

pub grows_fail : {item : Rhs} {start here end : List Lexeme} {before now : List Statement} → Grows item start here before now → Starts factored tables item here → Fails factored tables item here end → Fails factored tables (Star item) start end
grows_fail g s f = listed_fail g.listed s f

pub grows_end : {item : Rhs} {start here : List Lexeme} {before : List Statement} {all : Vec Statement} → Grows item start here before all.items → NotStarts factored tables item here → Reads (Star item) (λ (v : Vec Statement). IsMore before v.items) start here (Ok all)
grows_end g n = Reads.ok (record { more = g.more; values = refl; grown = g.grown }) (listed_end g.listed n)

pub statement_shorter : (whole of_type : Bool) {xs ys : List Lexeme} {s : Statement} → Reads (call (Name.Statement whole of_type)) IsStatement xs ys (Ok s) → length ys < length xs
statement_shorter whole of_type r = takes_some (Part.Of (Name.Statement whole of_type)) refl (taken r).takes

-- ---- sections

-- what fails behind a part fails the same behind it with more
behind : {a b c : Rhs} → ((xs ys : List Lexeme) → Fails factored tables b xs ys → Fails factored tables c xs ys) → (xs ys : List Lexeme) → Fails factored tables (a ⨾ b) xs ys → Fails factored tables (a ⨾ c) xs ys
behind h xs ys (Fails.first f) = Fails.first f
behind h xs ys (Fails.second d f) = Fails.second d (h _ _ f)

never : (c : Rhs) (xs ys : List Lexeme) → Fails factored tables Empty xs ys → Fails factored tables c xs ys
never c xs ys f = elim f [ ]

base_starts : (b : Rhs) (xs : List Lexeme) → Starts factored tables (base_opening Empty) xs → Starts factored tables (base_opening b) xs
base_starts b [] h = absurd h
base_starts b (x ∷ xs) h = h

base_lacks : (b : Rhs) (xs : List Lexeme) → NotStarts factored tables (base_opening Empty) xs → NotStarts factored tables (base_opening b) xs
base_lacks b [] h = tt
base_lacks b (x ∷ xs) h = h

-- `#program`, with b behind that of the base program, and k behind that of a type
pub opening_fails : (b k : Rhs) {xs ys : List Lexeme} → Fails factored tables opening_form xs ys → Fails factored tables (Tok t.Program ⨾ (base_opening b ∣ type_opening k)) xs ys
opening_fails b k (Fails.first f) = Fails.first f
opening_fails b k (Fails.second d (Fails.left {xs = xs} s f)) = Fails.second d (Fails.left (base_starts b xs s) (behind (behind (never b)) _ _ f))
opening_fails b k (Fails.second d (Fails.right {xs = xs} n f)) = Fails.second d (Fails.right (base_lacks b xs n) (behind (behind (behind (behind (behind (never k))))) _ _ f))

-- what stands behind the opening decides
pub record Opened (o : Opening) (b k : Rhs) (xs ms : List Lexeme) : Type 0 where
  pub takes : (ys : List Lexeme) (ss : List Statement) → Takes factored tables (if is_of_type o.part then k else b) ms ys (map Value.statement ss)
      → (ws : List Value) × (opened ws ≡ Value.statement (opening_statement o) ∷ map Value.statement ss) × Takes factored tables (Tok t.Program ⨾ (base_opening b ∣ type_opening k)) xs ys ws
  pub fails : (ys : List Lexeme) → Fails factored tables (if is_of_type o.part then k else b) ms ys → Fails factored tables (Tok t.Program ⨾ (base_opening b ∣ type_opening k)) xs ys

-- how an opening goes on with statements
base_opened : (first word dot : Lexeme) (ss : List Statement) → opened (Value.token first ∷ Value.token word ∷ Value.token dot ∷ map Value.statement ss) ≡ Value.statement (statements.Part first.file first.at parts.Base) ∷ map Value.statement ss
base_opened first word dot [] = refl
base_opened first word dot (s ∷ ss) = refl

type_opened : (first word paren close dot : Lexeme) (k : List ℕ) (v : Value) (vs : List Value) → v ≡ Value.kind k → opened (Value.token first ∷ Value.token word ∷ Value.token paren ∷ v ∷ Value.token close ∷ Value.token dot ∷ vs) ≡ Value.statement (statements.Part first.file first.at (parts.Kind k)) ∷ vs
type_opened first word paren close dot k v vs e = rw e refl

-- which part it is
is_base : (p : PartKind) {word dot : Lexeme} {rest : List Value} → IsPart p rest → rest ≡ Value.token word ∷ Value.token dot ∷ [] → p ≡ parts.Base
is_base parts.Base i e = refl
is_base (parts.Kind k) i e = absurd (cc (i.4, e))

is_kind : (p : PartKind) {word paren close dot : Lexeme} {v : Value} {rest : List Value} → IsPart p rest → rest ≡ Value.token word ∷ Value.token paren ∷ v ∷ Value.token close ∷ Value.token dot ∷ [] → (k : List ℕ) × (p ≡ parts.Kind k) × (v ≡ Value.kind k)
is_kind parts.Base i e = absurd (cc (i.2, e))
is_kind (parts.Kind k) i e = (k, refl, cc (i.4, e))

placed : (o : Opening) (first : Lexeme) {p : PartKind} → o.place.file ≡ first.file → o.place.at ≡ first.at → o.part ≡ p → statements.Part first.file first.at p ≡ opening_statement o
placed o first e f g = rw (e, f, g) refl

goes : (b k : Rhs) {xs ms : List Lexeme} {o : Opening} {us : List Value} → IsOpening o us → Takes factored tables opening_form xs ms us → Opened o b k xs ms
goes b k {o = o} i (Takes.seq (Takes.tok {t = first} e) (Takes.left s (Takes.seq (Takes.tok {t = word} f) (Takes.seq (Takes.tok {t = dot} g) Takes.empty)))) =
    let h : i.first ≡ first = cc in
    let p = is_base o.part {word = word} {dot = dot} i.part (cc) in
    record {
      takes = λ ys ss d. (_, base_opened first word dot ss ∙ ap (λ v. Value.statement v ∷ map Value.statement ss) (placed o first (i.file ∙ ap (λ x. x.file) h) (i.at ∙ ap (λ x. x.at) h) p), Takes.seq (Takes.tok e) (Takes.left s (Takes.seq (Takes.tok f) (Takes.seq (Takes.tok g) (rw p at d)))));
      fails = λ ys d. Fails.second (Takes.tok e) (Fails.left s (Fails.second (Takes.tok f) (Fails.second (Takes.tok g) (rw p at d))));
    }
goes b k {o = o} i (Takes.seq (Takes.tok {t = first} e) (Takes.right n (Takes.seq (Takes.tok {t = word} f) (Takes.seq (Takes.tok {t = paren} g) (Takes.seq (Takes.call {vs = vs} m) (Takes.seq (Takes.tok {t = close} j) (Takes.seq (Takes.tok {t = dot} l) Takes.empty))))))) =
    let h : i.first ≡ first = cc in
    let p = is_kind o.part {word = word} {paren = paren} {close = close} {dot = dot} {v = part_made (Part.Of Name.Kind) vs} i.part (cc) in
    record {
      takes = λ ys ss d. (_, type_opened first word paren close dot p.0 (part_made (Part.Of Name.Kind) vs) (map Value.statement ss) p.2 ∙ ap (λ v. Value.statement v ∷ map Value.statement ss) (placed o first (i.file ∙ ap (λ x. x.file) h) (i.at ∙ ap (λ x. x.at) h) p.1), Takes.seq (Takes.tok e) (Takes.right n (Takes.seq (Takes.tok f) (Takes.seq (Takes.tok g) (Takes.seq (Takes.call m) (Takes.seq (Takes.tok j) (Takes.seq (Takes.tok l) (rw p.1 at d))))))));
      fails = λ ys d. Fails.second (Takes.tok e) (Fails.right n (Fails.second (Takes.tok f) (Fails.second (Takes.tok g) (Fails.second (Takes.call m) (Fails.second (Takes.tok j) (Fails.second (Takes.tok l) (rw p.1 at d)))))));
    }

pub opening_goes : (b k : Rhs) {xs ms : List Lexeme} {o : Opening} → Reads opening_form IsOpening xs ms (Ok o) → Opened o b k xs ms
opening_goes b k r = let q = taken r in goes b k q.makes q.takes

module _ (whole : Bool) where
  pub section_opening_fails : {xs ys : List Lexeme} → Fails factored tables opening_form xs ys → Fails factored tables (Call (Part.Section whole)) xs ys
  section_opening_fails f = Fails.call (opening_fails (Star (call (Name.Statement whole false))) (Star (call (Name.Statement whole true))) f)

  chosen : (of_type : Bool) → (if of_type then Star (call (Name.Statement whole true)) else Star (call (Name.Statement whole false))) ≡ Star (call (Name.Statement whole of_type))
  chosen true = refl
  chosen false = refl

  section_made : (s : Statement) (ss : List Statement) (ws : List Value) → opened ws ≡ Value.statement s ∷ map Value.statement ss → Value.program (statements_of (opened ws)) ≡ Value.program (s ∷ ss)
  section_made s ss ws e = rw e (ap (λ us. Value.program (s ∷ us)) (statements_alone ss))

  pub section_read : {xs ms ys : List Lexeme} {o : Opening} {before pushed : List Statement} {of_type : Bool} {r : Result (Vec Statement) Stop} → Reads opening_form IsOpening xs ms (Ok o) → pushed ≡ before ++ opening_statement o ∷ [] → of_type ≡ is_of_type o.part → Reads (Star (call (Name.Statement whole of_type))) (λ (v : Vec Statement). IsMore pushed v.items) ms ys r → Reads (Call (Part.Section whole)) (λ (v : Vec Statement). IsSection before v.items) xs ys r
  section_read {ms = ms} {ys = ys} {o = o} {before = before} p e f r =
      let q = opening_goes (Star (call (Name.Statement whole false))) (Star (call (Name.Statement whole true))) p in
      follow r
      (λ all vs i d. let t = q.takes ys i.more (rw (chosen (is_of_type o.part), ← f) (giving i.values d)) in (
        Value.program (opening_statement o ∷ i.more) ∷ [],
        record { more = opening_statement o ∷ i.more; value = refl; grown = i.grown ∙ ap (λ us. us ++ i.more) e ∙ append_assoc before (opening_statement o ∷ []) i.more },
        giving (ap (λ v. v ∷ []) (section_made (opening_statement o) i.more t.0 t.1)) (Takes.call {n = Part.Section whole} t.2),
      ))
      (λ d. Fails.call (q.fails ys (rw (chosen (is_of_type o.part), ← f) d)))

  program_starts : (xs : List Lexeme) → Starts factored tables (Tok t.Program) xs → Starts factored tables (Call (Part.Section whole)) xs
  program_starts xs h = by_whole whole xs h
    where
      by_whole : (w : Bool) (xs : List Lexeme) → Starts factored tables (Tok t.Program) xs → Starts factored tables (Call (Part.Section w)) xs
      by_whole w [] h = absurd h
      by_whole true (x ∷ xs) h = rw h refl
      by_whole false (x ∷ xs) h = rw h refl

  program_lacks : (xs : List Lexeme) → Lacks t.Program xs → NotStarts factored tables (Call (Part.Section whole)) xs
  program_lacks xs h = by_whole whole xs h
    where
      by_whole : (w : Bool) (xs : List Lexeme) → Lacks t.Program xs → NotStarts factored tables (Call (Part.Section w)) xs
      by_whole w [] h = tt
      by_whole true (x ∷ xs) h = rw h refl
      by_whole false (x ∷ xs) h = rw h refl

  -- ---- texts

  -- The sections that were read, behind the statements before.
  pub record Sections (start here : List Lexeme) (before now : List Statement) : Type 0 where
    pub parts : List (List Statement)
    pub listed : Listed Value.program (Call (Part.Section whole)) start here parts
    pub grown : now ≡ before ++ statements_of (map Value.program parts)

  pub sections_begun : (start : List Lexeme) (ss : List Statement) → Sections start start ss ss
  sections_begun start ss = record { parts = []; listed = listed_begun Value.program (Call (Part.Section whole)) start; grown = sym (append-nil ss) }

  one_part_more : (parts : List (List Statement)) (p : List Statement) → statements_of (map Value.program (parts ++ p ∷ [])) ≡ statements_of (map Value.program parts) ++ p
  one_part_more parts p = rw map-append (programs_first parts (Value.program p ∷ []) ∙ ap (λ us. statements_of (map Value.program parts) ++ us) (append-nil p))

  pub sections_more : {start here end : List Lexeme} {before now : List Statement} {all : Vec Statement} → Sections start here before now → Reads (Call (Part.Section whole)) (λ (v : Vec Statement). IsSection now v.items) here end (Ok all) → Sections start end before all.items
  sections_more {before = before} s r =
      let q = taken r in
      let p = q.makes.more in
      record {
        parts = s.parts ++ p ∷ [];
        listed = listed_more p s.listed (giving q.makes.value q.takes);
        grown = q.makes.grown ∙ ap (λ us. us ++ p) s.grown ∙ append_assoc before (statements_of (map Value.program s.parts)) p ∙ ap (λ us. before ++ us) (sym (one_part_more s.parts p));
      }

  pub section_shorter : {xs ys : List Lexeme} {before : List Statement} {all : Vec Statement} → Reads (Call (Part.Section whole)) (λ (v : Vec Statement). IsSection before v.items) xs ys (Ok all) → length ys < length xs
  section_shorter r = takes_some (Part.Section whole) refl (taken r).takes

  module _ (of_type : Bool) where
    pub text_fails : {xs ys : List Lexeme} → Fails factored tables (Star (call (Name.Statement whole of_type))) xs ys → Fails factored tables (call (Name.Text whole of_type)) xs ys
    text_fails f = Fails.call (Fails.first f)

    module _ {xs ms here : List Lexeme} {empty now : List Statement} {first : Vec Statement} (r : Reads (Star (call (Name.Statement whole of_type))) (λ (v : Vec Statement). IsMore empty v.items) xs ms (Ok first)) (s : Sections ms here first.items now) where
      pub text_section_fails : {end : List Lexeme} → Starts factored tables (Tok t.Program) here → Fails factored tables (Call (Part.Section whole)) here end → Fails factored tables (call (Name.Text whole of_type)) xs end
      text_section_fails b f = Fails.call (Fails.second (taken r).takes (listed_fail s.listed (program_starts here b) f))

      text_made : (more : List Statement) → empty ≡ [] → first.items ≡ empty ++ more → statements_of (map Value.statement more ++ map Value.program s.parts) ≡ now
      text_made more e f = statements_first more (map Value.program s.parts) ∙ ap (λ us. us ++ statements_of (map Value.program s.parts)) (sym (rw e at f)) ∙ sym s.grown

      pub text_read : empty ≡ [] → Lacks t.Program here → Reads (call (Name.Text whole of_type)) IsProgram xs here (Ok now)
      text_read e n =
          let q = taken r in
          Reads.ok (ap (λ us. Value.program us ∷ []) (text_made q.makes.more e q.makes.grown))
          (Takes.call {n = Part.Of (Name.Text whole of_type)} (Takes.seq (giving q.makes.values q.takes) (listed_end s.listed (program_lacks here n))))
