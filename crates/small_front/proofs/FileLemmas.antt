-- Files that are read one after another.
use Rattle.std.proofs.Common.{◌≡◌, ◌≢◌, ℕ, ◌+◌, ◌<◌, List, [], ◌∷◌, ◌++◌, Ok, Err, Vec, length, get_or, take, drop, sym, ap, subst, ◌∙◌, append_assoc, arith}
use native.Mathlib.Numerals.{unary_clauses}
use Rattle.std.proofs.Math.Seq.{split_at}
use Rattle.std.proofs.lemmas.List.{append-nil, length-map, length-take-le, map-append, take_more}
use Rattle.std.specs.declared.alloc.Global.{Global}
use Rattle.ap_lexemes.specs.declared.fault.ParseFault.{ParseFault}
use Rattle.ap_lexemes.specs.declared.fault.ParseFault.TheVariants.{Memory}
use Rattle.ap_syntax.specs.declared.programs.Program.{Program}
use Rattle.ap_syntax.specs.declared.programs.Statement.{Statement}
use Rattle.pref_parse.specs.Readings.{IsReading}
use Rattle.ap_lexemes.specs.declared.fault.ParseFault.TheVariants.{Syntax, Unsupported, Limit}
use Rattle.small_front.specs.Stages.{ReadingCause, refusal_of}
use Rattle.ap_base.specs.Readings.{bytes_of}
use Rattle.small_front.specs.Files.{AreRead, FirstFault, apart}

-- one more file
push : (n m : ℕ) (files : List (List ℕ)) (ss : List Statement) (bytes : List ℕ) (p : Program) → AreRead n files ss → m ≡ n + length files → IsReading bytes m (Ok p)
    → AreRead n (files ++ bytes ∷ []) (ss ++ apart m (length bytes) p.statements)
push n m [] [] bytes p AreRead.none e r =
    let e' : n ≡ m = omega (arith, e) in
    subst (λ k. AreRead k (bytes ∷ []) (apart m (length bytes) p.statements)) (sym e')
    (subst (AreRead m (bytes ∷ [])) (append-nil (apart m (length bytes) p.statements)) (AreRead.file r AreRead.none))
push n m [] (s ∷ ss) bytes p read e r = elim read [ ]
push n m (b ∷ files) ss bytes p (AreRead.file {p = q} {more = more} r0 rest) e r =
    subst (AreRead n (b ∷ files ++ bytes ∷ [])) (sym (append_assoc (apart n (length b) q.statements) more (apart m (length bytes) p.statements)))
    (AreRead.file r0 (push (n + 1) m files more bytes p rest (omega (arith, e)) r))

-- the first file that is at fault
fault_behind : (n m : ℕ) (files : List (List ℕ)) (ss : List Statement) (bytes : List ℕ) (rest : List (List ℕ)) (fault : ParseFault) → AreRead n files ss → m ≡ n + length files → IsReading bytes m (Err fault) → fault ≢ Memory → FirstFault n (files ++ bytes ∷ rest) m fault
fault_behind n m [] [] bytes rest fault AreRead.none e r other =
    let e' : m ≡ n = omega (arith, e) in
    subst (λ k. FirstFault n (bytes ∷ rest) k fault) (sym e') (FirstFault.here (subst (λ k. IsReading bytes k (Err fault)) e' r) other)
fault_behind n m [] (s ∷ ss) bytes rest fault read e r other = elim read [ ]
fault_behind n m (b ∷ files) ss bytes rest fault (AreRead.file {more = more} r0 left) e r other =
    FirstFault.behind r0 (fault_behind (n + 1) m files more bytes rest fault left (omega (arith, e)) r other)

-- the number behind the first i files
number_at : (files : List (Vec ℕ Global)) (i : ℕ) → i < length files → i + 1 ≡ 1 + length (bytes_of (take i files))
number_at files i lt =
    let l = length-map (take i files) (λ (file : Vec ℕ Global). file.items) ∙ length-take-le i files (omega arith) in omega (arith, l)

pub AreRead-more : (files : List (Vec ℕ Global)) (i : ℕ) (file : Vec ℕ Global) (ss : List Statement) (p : Program) → i < length files → file ≡ get_or files i file → AreRead 1 (bytes_of (take i files)) ss → IsReading file.items (i + 1) (Ok p)
    → AreRead 1 (bytes_of (take (i + 1) files)) (ss ++ apart (i + 1) (length file.items) p.statements)
AreRead-more files i file ss p lt is read r =
    let front : take (i + 1) files ≡ take i files ++ file ∷ [] = take_more files i file lt ∙ ap (λ f. take i files ++ f ∷ []) (sym is) in
    let bytes = ap bytes_of front ∙ map-append (λ (f : Vec ℕ Global). f.items) (take i files) (file ∷ []) in
    subst (λ all. AreRead 1 all (ss ++ apart (i + 1) (length file.items) p.statements)) (sym bytes)
    (push 1 (i + 1) (bytes_of (take i files)) ss file.items p read (number_at files i lt) r)

FirstFault-at : (files : List (Vec ℕ Global)) (i : ℕ) (file : Vec ℕ Global) (ss : List Statement) (fault : ParseFault) → i < length files → file ≡ get_or files i file → AreRead 1 (bytes_of (take i files)) ss → IsReading file.items (i + 1) (Err fault) → fault ≢ Memory → FirstFault 1 (bytes_of files) (i + 1) fault
FirstFault-at files i file ss fault lt is read r other =
    let whole : files ≡ take i files ++ file ∷ drop (i + 1) files = simp unary_clauses (split_at files i file lt) ∙ ap (λ f. take i files ++ f ∷ drop (i + 1) files) (sym is) in
    let bytes = ap bytes_of whole ∙ map-append (λ (f : Vec ℕ Global). f.items) (take i files) (file ∷ drop (i + 1) files) in
    subst (λ all. FirstFault 1 all (i + 1) fault) (sym bytes)
    (fault_behind 1 (i + 1) (bytes_of (take i files)) ss file.items (bytes_of (drop (i + 1) files)) fault read (number_at files i lt) r other)

pub ReadingCause-at : (files : List (Vec ℕ Global)) (i : ℕ) (file : Vec ℕ Global) (ss : List Statement) (fault : ParseFault) → i < length files → file ≡ get_or files i file → AreRead 1 (bytes_of (take i files)) ss → IsReading file.items (i + 1) (Err fault) → ReadingCause (bytes_of files) (refusal_of (i + 1) fault)
ReadingCause-at files i file ss (Syntax at) lt is read r = FirstFault-at files i file ss (Syntax at) lt is read r (λ e. cc)
ReadingCause-at files i file ss (Unsupported construct at) lt is read r = FirstFault-at files i file ss (Unsupported construct at) lt is read r (λ e. cc)
ReadingCause-at files i file ss (Limit which at) lt is read r = FirstFault-at files i file ss (Limit which at) lt is read r (λ e. cc)
ReadingCause-at files i file ss Memory lt is read r = tt
