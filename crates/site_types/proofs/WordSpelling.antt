-- Words, numbers and paths are written as they are read.
use Rattle.site_types.proofs.Common.{◌≡◌, ℕ, List, Bool, true, false, refl, sym, ◌∙◌, ap, nat_le, decimal, bytes_eq, digits_value, and_parts, bytes_eq-Decides, name_of, is_name, number_up_to, at_least, number_between, is_path, written, unwritten, path_of, weekday_named, weekday_name, rule_of}
use Rattle.std.specs.Prelude.{Some, None, Option, codes, is_some, if◌then◌else◌, ◌&&◌, length}
use Rattle.jiff_tz.specs.PosixReader.{read_whole}
use Rattle.site_types.specs.Values.{kind_text, kind_of, type_text, type_of, yes_or_no_text, yes_or_no, start_text, start_of}
use Rattle.site_types.specs.declared.image.Kind.{Kind}
use Rattle.site_types.specs.declared.image.Kind.TheVariants.{Full, Differential, Cumulative}
use Rattle.site_types.specs.declared.schedule.PolicyType.{PolicyType}
use Rattle.site_types.specs.declared.schedule.PolicyType.TheVariants.{Files, Raw}
use Rattle.site_types.specs.declared.schedule.Start.{Start}
use Rattle.site_types.specs.declared.schedule.Start.TheVariants.{Manual, Scheduled}
use Rattle.site_types.proofs.OptionLemmas.{guarded, same_value}

-- a value that is spelled by one word, or else by others
pub word_or : {A : Type 0} (write : A → List ℕ) (word : List ℕ) (x : A) (rest : Option A) (t : List ℕ) (v : A) → write x ≡ word → (rest ≡ Some v → write v ≡ t) → (if bytes_eq t word then Some x else rest) ≡ Some v → write v ≡ t
word_or {A} write word x rest t v spelled others is = at (bytes_eq t word) refl is
  where
    at : (b : Bool) → bytes_eq t word ≡ b → (if b then Some x else rest) ≡ Some v → write v ≡ t
    at true same one = ap write (sym (same_value x v one)) ∙ spelled ∙ sym ((bytes_eq-Decides t word).0 same)
    at false same one = others one

no_word : {A : Type 0} (write : A → List ℕ) (t : List ℕ) (v : A) → None ≡ Some v → write v ≡ t
no_word write t v is = absurd (cc is)

pub name_spelled : (t n : List ℕ) → name_of t ≡ Some n → n ≡ t
name_spelled t n is = sym (same_value t n (guarded (is_name t) (Some t) n is).1)

pub rule_spelled : (t r : List ℕ) → rule_of t ≡ Some r → r ≡ t
rule_spelled t r is = sym (same_value t r (guarded (nat_le (length t) 1024 && is_some (read_whole t)) (Some t) r is).1)

pub path_spelled : (t p : List ℕ) → path_of t ≡ Some p → written p ≡ t
path_spelled t p is =
    let parts = guarded (is_path (unwritten t) && bytes_eq (written (unwritten t)) t) (Some (unwritten t)) p is in
    ap written (sym (same_value (unwritten t) p parts.1)) ∙ (bytes_eq-Decides (written (unwritten t)) t).0 (and_parts _ _ parts.0).1

pub number_up_to_spelled : (limit : ℕ) (t : List ℕ) (n : ℕ) → number_up_to limit t ≡ Some n → decimal n ≡ t
number_up_to_spelled limit t n is =
    let value = digits_value 10 t in
    let parts = guarded (nat_le value limit && bytes_eq t (decimal value)) (Some value) n is in
    ap decimal (sym (same_value value n parts.1)) ∙ sym ((bytes_eq-Decides t (decimal value)).0 (and_parts _ _ parts.0).1)

least_kept : (least : ℕ) (o : Option ℕ) (n : ℕ) → at_least least o ≡ Some n → o ≡ Some n
least_kept least None n is = absurd (cc is)
least_kept least (Some m) n is = (guarded (nat_le least m) (Some m) n is).1

pub number_spelled : (least greatest : ℕ) (t : List ℕ) (n : ℕ) → number_between least greatest t ≡ Some n → decimal n ≡ t
number_spelled least greatest t n is = number_up_to_spelled greatest t n (least_kept least (number_up_to greatest t) n is)

pub kind_spelled : (t : List ℕ) (k : Kind) → kind_of t ≡ Some k → kind_text k ≡ t
kind_spelled t k = word_or kind_text (codes "full") Full _ t k refl (word_or kind_text (codes "diff") Differential _ t k refl (word_or kind_text (codes "cumul") Cumulative None t k refl (no_word kind_text t k)))

pub type_spelled : (t : List ℕ) (k : PolicyType) → type_of t ≡ Some k → type_text k ≡ t
type_spelled t k = word_or type_text (codes "files") Files _ t k refl (word_or type_text (codes "raw") Raw None t k refl (no_word type_text t k))

pub yes_or_no_spelled : (t : List ℕ) (b : Bool) → yes_or_no t ≡ Some b → yes_or_no_text b ≡ t
yes_or_no_spelled t b = word_or yes_or_no_text (codes "yes") true _ t b refl (word_or yes_or_no_text (codes "no") false None t b refl (no_word yes_or_no_text t b))

pub start_spelled : (t : List ℕ) (s : Start) → start_of t ≡ Some s → start_text s ≡ t
start_spelled t s = word_or start_text (codes "manual") Manual _ t s refl (word_or start_text (codes "scheduled") Scheduled None t s refl (no_word start_text t s))

pub weekday_spelled : (t : List ℕ) (day : ℕ) → weekday_named t ≡ Some day → weekday_name day ≡ t
weekday_spelled t day =
    word_or weekday_name (codes "sun") 0 _ t day refl (word_or weekday_name (codes "mon") 1 _ t day refl (word_or weekday_name (codes "tue") 2 _ t day refl (word_or weekday_name (codes "wed") 3 _ t day refl (
    word_or weekday_name (codes "thu") 4 _ t day refl (word_or weekday_name (codes "fri") 5 _ t day refl (word_or weekday_name (codes "sat") 6 None t day refl (no_word weekday_name t day)))))))
