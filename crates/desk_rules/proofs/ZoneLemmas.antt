-- A request that was read sets a zone that there is.
use Rattle.desk_rules.proofs.Common.{◌≡◌, ℕ, ◌+◌, ◌*◌, ◌≤◌, zero, suc, ℤ, pos, negsuc, neg_ℤ, unsigned_abs, List, [], ◌∷◌, length, drop, Bool, true, false, Option, Some, None, Ok, refl, sym, ap, ◌∙◌, subst, arith, codes, ◌&&◌, ◌==◌, if◌then◌else◌, nat_le, nat_lt, is_some, unwrap_or, IsAscii, Request, zone_asked}
use Rattle.std.specs.List.{slice_index, slice_range, slice_split, join_with_byte}
use Rattle.std.proofs.lemmas.Bool.{and_parts, ltb-true, leb-true}
use Rattle.std.proofs.lemmas.Str.{IsUtf8-from_ascii}
use Rattle.jiff_core.specs.Calendar.{IsWithin}
use Rattle.jiff_core.proofs.SignedLemmas.{signed_arith}
use Rattle.jiff_tz.specs.PosixReader.{read_whole}
use Rattle.site_types.specs.Digits.{digits_of}
use Rattle.site_types.specs.Forms.{forms, is_one, offset_key, rule_key, zone_of}
use Rattle.site_types.specs.Keys.{Key, first_bad, is_word_byte, is_word, value_among, among}
use Rattle.site_types.specs.Lines.{is_space, words_with, fields_of, IsFormed}
use Rattle.site_types.specs.Requests.{read_words}
use Rattle.site_types.specs.ZoneWords.{seconds_of, signed, offset_of, rule_of}
use Rattle.site_types.proofs.FormLemmas.{AreAllowed, are_allowed}
use Rattle.site_types.proofs.OptionLemmas.{guarded, chained, same_value}
use Rattle.site_types.proofs.RereadLemmas.{read_parts}
use Rattle.site_types.proofs.Rereading.{chosen}
use Rattle.desk_rules.specs.Zoned.{IsRule, IsZone}
use Rattle.site_types.specs.declared.request.Request.TheVariants as request

-- A word of printed characters is text.

ascii_at : (word : List ℕ) → is_word word ≡ true → IsAscii word
ascii_at [] is i = omega arith
ascii_at (c ∷ word) is zero = let parts = and_parts (is_word_byte c) (is_word word) is in let bound = leb-true c 126 (and_parts (nat_le 33 c) (nat_le c 126) parts.0).1 in omega (arith, bound)
ascii_at (c ∷ word) is (suc i) = ascii_at word (and_parts (is_word_byte c) (is_word word) is).1 i

-- Values as they were read.

rule_there : (text rule : List ℕ) → is_word text ≡ true → rule_of text ≡ Some rule → IsRule rule
rule_there text rule word is =
    let parts = guarded (nat_le (length text) 1024 && is_some (read_whole text)) (Some text) rule is in
    subst IsRule (same_value text rule parts.1) (IsUtf8-from_ascii text (ascii_at text word), (and_parts (nat_le (length text) 1024) (is_some (read_whole text)) parts.0).1)

day_below : (hours minutes seconds : ℕ) → seconds_of hours minutes ≡ Some seconds → seconds ≤ 86_399
day_below hours minutes seconds is =
    let parts = guarded (nat_lt hours 24 && nat_lt minutes 60) (Some (hours * 3600 + minutes * 60)) seconds is in
    let tests = and_parts (nat_lt hours 24) (nat_lt minutes 60) parts.0 in
    let h = ltb-true hours 24 tests.0 in
    let m = ltb-true minutes 60 tests.1 in
    let sum = same_value (hours * 3600 + minutes * 60) seconds parts.1 in
    omega (arith, h, m, sum)

within : (z : ℤ) → unsigned_abs z ≤ 86_399 → IsWithin 86_399 z
within (pos n) small = (omega (arith, signed_arith, small), omega (arith, signed_arith, small))
within (negsuc n) small = (omega (arith, signed_arith, small), omega (arith, signed_arith, small))

signed_below : (sign seconds : ℕ) (z : ℤ) → signed sign seconds ≡ Some z → seconds ≤ 86_399 → IsWithin 86_399 z
signed_below sign seconds z is small = at (sign == 43) is
  where
    west : (seconds : ℕ) → seconds ≤ 86_399 → (if sign == 45 && nat_le 1 seconds then Some (neg_ℤ (pos seconds)) else None) ≡ Some z → IsWithin 86_399 z
    west zero below here = subst (IsWithin 86_399) (same_value (pos 0) z (guarded (sign == 45 && nat_le 1 0) (Some (pos 0)) z here).1) (within (pos 0) (omega arith))
    west (suc n) below here = subst (IsWithin 86_399) (same_value (negsuc n) z (guarded (sign == 45 && nat_le 1 (suc n)) (Some (negsuc n)) z here).1) (within (negsuc n) (omega (arith, below)))

    at : (b : Bool) → (if b then Some (pos seconds) else (if sign == 45 && nat_le 1 seconds then Some (neg_ℤ (pos seconds)) else None)) ≡ Some z → IsWithin 86_399 z
    at true here = subst (IsWithin 86_399) (same_value (pos seconds) z here) (within (pos seconds) (omega (arith, small)))
    at false here = west seconds small here

offset_there : (text : List ℕ) (z : ℤ) → offset_of text ≡ Some z → IsWithin 86_399 z
offset_there text z is =
    let whole = guarded (length text == 6 && slice_index text 3 == 58) _ z is in
    let hours = chained _ (digits_of 2 (slice_range text 1 3)) z whole.1 in
    let minutes = chained _ (digits_of 2 (drop 4 text)) z hours.2 in
    let seconds = chained (signed (slice_index text 0)) (seconds_of hours.0 minutes.0) z minutes.2 in
    signed_below (slice_index text 0) seconds.0 z seconds.2 (day_below hours.0 minutes.0 seconds.0 seconds.1)

-- What the words of the form make.

abbrev zone : Option (List ℕ) → Option ℤ → Request
zone rule offset = request.ZoneSet rule offset

abbrev zone_keys : List Key
zone_keys = rule_key ∷ offset_key ∷ []

zone_there : (words : List (List ℕ)) (rule : Option (List ℕ)) (offset : Option ℤ) → AreAllowed zone_keys words → is_one rule offset ≡ true → among rule_of (codes "rule") words ≡ rule → among offset_of (codes "offset") words ≡ offset → IsZone rule offset
zone_there words None None allowed one rule_is offset_is = absurd (cc one)
zone_there words None (Some seconds) allowed one rule_is offset_is =
    let value = chained offset_of (value_among (codes "offset") words) seconds offset_is in
    offset_there value.0 seconds value.2
zone_there words (Some rule) offset allowed one rule_is offset_is =
    let value = chained rule_of (value_among (codes "rule") words) rule rule_is in
    rule_there value.0 rule (allowed (codes "rule") value.0 value.1).1 value.2

words_there : (words : List (List ℕ)) (rule : Option (List ℕ)) (offset : Option ℤ) → read_words (codes "bpzone" ∷ codes "set" ∷ words) ≡ Ok (zone rule offset) → IsZone rule offset
unfolding forms
words_there words rule offset is =
    let given_rule = among rule_of (codes "rule") words in
    let given_offset = among offset_of (codes "offset") words in
    let parts = read_parts (first_bad zone_keys [] 2 words) (zone_of given_rule given_offset) (length (codes "bpzone" ∷ codes "set" ∷ words)) (zone rule offset) is in
    let same : zone given_rule given_offset ≡ zone rule offset = chosen (is_one given_rule given_offset) (zone given_rule given_offset) (zone rule offset) parts.1 in
    let one : is_one given_rule given_offset ≡ true = (guarded (is_one given_rule given_offset) (Some (zone given_rule given_offset)) (zone rule offset) parts.1).0 in
    let rule_is : given_rule ≡ rule = ap (λ (r : Request). (unwrap_or (zone_asked r) (None, None)).0) same in
    let offset_is : given_offset ≡ offset = ap (λ (r : Request). (unwrap_or (zone_asked r) (None, None)).1) same in
    zone_there words rule offset (are_allowed zone_keys [] 2 words parts.0) ((λ i. is_one (sym rule_is i) (sym offset_is i)) ∙ one) rule_is offset_is

-- A line of the form is read as one of the form.

line_words : (words : List (List ℕ)) → (rest : List (List ℕ)) × (slice_split is_space (join_with_byte 32 (codes "bpzone" ∷ codes "set" ∷ words)) ≡ codes "bpzone" ∷ codes "set" ∷ rest)
line_words [] = ([], refl)
line_words (word ∷ words) = (slice_split is_space (join_with_byte 32 (word ∷ words)), refl)

zone_formed : (rule : Option (List ℕ)) (offset : Option ℤ) → IsFormed (zone rule offset) → IsZone rule offset
zone_formed rule offset formed =
    let split = line_words (words_with (fields_of (zone rule offset))) in
    words_there split.0 rule offset (ap read_words (sym split.1) ∙ formed)

pub zoned : (r : Request) (rule : Option (List ℕ)) (offset : Option ℤ) → IsFormed r → zone_asked r ≡ Some (rule, offset) → IsZone rule offset
zoned (request.ZoneSet its_rule its_offset) rule offset formed is =
    let same : (its_rule, its_offset) ≡ (rule, offset) = same_value (its_rule, its_offset) (rule, offset) is in
    let IsGood : Option (List ℕ) × Option ℤ → Type 0 = λ asked. IsZone asked.0 asked.1 in
    subst IsGood same (zone_formed its_rule its_offset formed)
zoned _ rule offset formed is = absurd (cc is)
