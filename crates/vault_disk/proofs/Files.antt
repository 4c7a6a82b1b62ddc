-- Looking up and changing a file in a list of files.
use Rattle.std.proofs.Common.{◌≡◌, ◌≢◌, ℕ, zero, suc, ◌<◌, List, [], ◌∷◌, ◌++◌, Bool, true, false, length, take, set, get_or, refl, sym, ◌∙◌, ap, subst, arith}
use Rattle.std.proofs.lemmas.Bool.Decides.{nat_tests}
use Rattle.std.specs.Prelude.{if◌then◌else◌, ◌==◌}
use Rattle.vault_disk.specs.MemoryLaws.{at_same}
use Rattle.vault_disk.specs.Stored.{File, bytes_of, HasNo, StandsAt}

none_of : (ps : List File) (file : ℕ) → HasNo ps file → bytes_of ps file ≡ []
none_of [] file lacks = refl
none_of (p ∷ ps) file lacks = let rest = none_of ps file lacks.1 in let ne = lacks.0 in grind (arith, nat_tests)

pub passed : (ps : List File) (file : ℕ) (q : File) → HasNo ps file → q.0 ≢ file → HasNo (ps ++ q ∷ []) file
passed [] file q lacks ne = (ne, tt)
passed (p ∷ ps) file q lacks ne = (lacks.0, passed ps file q lacks.1 ne)

here_or : (b : Bool) (by : List ℕ → List ℕ) (x y : List ℕ) → (if b then by x else y) ≡ (if b then by (if b then x else y) else (if b then x else y))
here_or true by x y = refl
here_or false by x y = refl

there_or : (b c : Bool) (by : List ℕ → List ℕ) (x y : List ℕ) → (b ≡ true → c ≡ true → ⊥) → (if b then x else (if c then by y else y)) ≡ (if c then by (if b then x else y) else (if b then x else y))
there_or true true by x y never = absurd (never refl refl)
there_or true false by x y never = refl
there_or false c by x y never = refl

not_both : (a b f : ℕ) → a ≢ b → (a == f) ≡ true → (b == f) ≡ true → ⊥
not_both a b f ne p q = grind (arith, nat_tests)

at_place : (ps : List File) (file i : ℕ) (x : File) → i < length ps → HasNo (take i ps) file → (get_or ps i (0, [])).0 ≡ file → x ≡ get_or ps i x → bytes_of ps file ≡ x.1
at_place [] file i x within lacks here is = absurd (omega (arith, within))
at_place (p ∷ ps) file zero x within lacks here is =
    ap (λ (n : ℕ). if n == file then p.1 else bytes_of ps file) here ∙ at_same file p.1 (bytes_of ps file) ∙ sym (ap (λ (e : File). e.1) is)
at_place (p ∷ ps) file (suc i) x within lacks here is =
    let rest = at_place ps file i x (omega arith) lacks.1 here is in
    let ne = lacks.0 in
    grind (arith, nat_tests)

set_place : (ps : List File) (file i f : ℕ) (x q : File) (by : List ℕ → List ℕ) → i < length ps → HasNo (take i ps) file → (get_or ps i (0, [])).0 ≡ file → x ≡ get_or ps i x → q ≡ (x.0, by x.1)
    → bytes_of (set ps i q) f ≡ (if file == f then by (bytes_of ps f) else bytes_of ps f)
set_place [] file i f x q by within lacks here is new = absurd (omega (arith, within))
set_place (p ∷ ps) file zero f x q by within lacks here is new =
    let rest : List ℕ = bytes_of ps f in
    let number : q.0 ≡ file = ap (λ (e : File). e.0) new ∙ ap (λ (e : File). e.0) is ∙ here in
    let bytes : q.1 ≡ by p.1 = ap (λ (e : File). e.1) new ∙ ap (λ (e : File). by e.1) is in
    ap (λ (l : List ℕ). if q.0 == f then l else rest) bytes
    ∙ ap (λ (n : ℕ). if n == f then by p.1 else rest) number
    ∙ here_or (file == f) by p.1 rest
    ∙ ap (λ (n : ℕ). if file == f then by (if n == f then p.1 else rest) else (if n == f then p.1 else rest)) (sym here)
set_place (p ∷ ps) file (suc i) f x q by within lacks here is new =
    ap (λ (l : List ℕ). if p.0 == f then p.1 else l) (set_place ps file i f x q by (omega arith) lacks.1 here is new)
    ∙ there_or (p.0 == f) (file == f) by p.1 (bytes_of ps f) (not_both p.0 file f lacks.0)

nothing : (b : Bool) → ◌≡◌ {A = List ℕ} (if b then [] else []) []
nothing true = refl
nothing false = refl

added : (ps : List File) (file f : ℕ) → bytes_of (ps ++ (file, []) ∷ []) f ≡ bytes_of ps f
added [] file f = nothing (file == f)
added (p ∷ ps) file f = ap (λ (l : List ℕ). if p.0 == f then p.1 else l) (added ps file f)

pub found : (whole ps seen : List File) (file i : ℕ) (x : File) → seen ≡ ps → ps ≡ whole → StandsAt seen file i → x ≡ get_or ps i x → x.1 ≡ bytes_of whole file
found whole ps seen file i x seen_is whole_is at is =
    let here : StandsAt ps file i = subst (λ (l : List File). StandsAt l file i) seen_is at in
    sym (at_place ps file i x here.within here.before here.here is) ∙ ap (λ (l : List File). bytes_of l file) whole_is

pub missing : (whole ps seen : List File) (file : ℕ) → seen ≡ ps → ps ≡ whole → HasNo seen file → [] ≡ bytes_of whole file
missing whole ps seen file seen_is whole_is lacks = sym (none_of seen file lacks) ∙ ap (λ (l : List File). bytes_of l file) (seen_is ∙ whole_is)

pub placed : (was after ps : List File) (file i : ℕ) (x q : File) (by : List ℕ → List ℕ) → ps ≡ after → StandsAt after file i → ((f : ℕ) → bytes_of after f ≡ bytes_of was f) → x ≡ get_or ps i x → q ≡ (x.0, by x.1)
    → (f : ℕ) → bytes_of (set ps i q) f ≡ (if file == f then by (bytes_of was f) else bytes_of was f)
placed was after ps file i x q by after_is at same is new f =
    let here : StandsAt ps file i = subst (λ (l : List File). StandsAt l file i) (sym after_is) at in
    set_place ps file i f x q by here.within here.before here.here is new
    ∙ ap (λ (l : List ℕ). if file == f then by l else l) (ap (λ (l : List File). bytes_of l f) after_is ∙ same f)

pub appended : (was ps new : List File) (file : ℕ) (bytes : List ℕ) → new ≡ ps ++ (file, bytes) ∷ [] → bytes ≡ [] → ps ≡ was → (f : ℕ) → bytes_of new f ≡ bytes_of was f
appended was ps new file bytes new_is none was_is f =
    ap (λ (l : List File). bytes_of l f) new_is
    ∙ ap (λ (b : List ℕ). bytes_of (ps ++ (file, b) ∷ []) f) none
    ∙ added ps file f
    ∙ ap (λ (l : List File). bytes_of l f) was_is
