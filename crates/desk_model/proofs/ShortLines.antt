-- The line of each request is short: fewer than 4,096 bytes.
use Rattle.desk_model.proofs.Common.{◌≡◌, ◌≤◌, ◌<◌, ◌+◌, ◌∙◌, ℕ, zero, suc, Bool, true, false, List, [], ◌∷◌, ◌++◌, codes, length, take, drop, refl, sym, ap, subst, arith, Option, Some, None, Ok, is_some, not, ◌&&◌, ◌||◌, ◌==◌, nat_le, nat_lt, if◌then◌else◌, option_map, option_and_then, and_parts, false≢true, length-take, bytes_eq, text_is, slice_split, form_named, Request}
use Rattle.std.proofs.Common.{◌*◌, ◌/◌, ◌%◌, ◌^◌, length-append, length-drop}
use Rattle.std.specs.Fmt.{decimal}
use Rattle.std.specs.List.{after_last, before_last, list_all, join_with_byte, position_or_len, slice_index, slice_range}
use Rattle.std.specs.Str.Parse.{digits_value}
use Rattle.std.proofs.lemmas.Bool.{eqb-true, leb-true, ltb-true, not-true}
use Rattle.std.proofs.lemmas.Fmt.{length-decimal-le}
use Rattle.std.proofs.lemmas.List.Folds.{list_any-append}
use Rattle.std.proofs.lemmas.List.Splits.{join_with_byte-slice_split}
use Rattle.jiff_tz.specs.PosixReader.{read_whole}
use Rattle.site_types.specs.Calendars.{calendar_item_of, calendar_of, day_of, weekday_item_of, month_day_of, week_of}
use Rattle.site_types.specs.Forms.{Form, begins, count_of, form_among, form_names, form_words, forms, words_behind}
use Rattle.site_types.specs.Ids.{id_made, id_of, is_underscore}
use Rattle.site_types.specs.Joined.{each_of, is_plus, joined_of}
use Rattle.site_types.specs.Keys.{Key, allows, first_bad, has_equals, has_key, is_equals, is_good, is_of, is_word, key_of, value_of}
use Rattle.site_types.specs.Limits.{last_moment}
use Rattle.site_types.specs.Lines.{IsFormed, is_space, line_of}
use Rattle.site_types.specs.Names.{is_name, is_name_byte}
use Rattle.site_types.specs.Numbers.{at_least, number_between, number_up_to}
use Rattle.site_types.specs.Paths.{begins_with_slash, is_path, is_path_byte, hex_digit, is_escaped, path_of, unwritten, written, written_byte}
use Rattle.site_types.specs.Requests.{read_as, read_words}
use Rattle.site_types.specs.Values.{kind_of, type_of, yes_or_no, start_of}
use Rattle.site_types.specs.Weekdays.{weekday_named}
use Rattle.site_types.specs.WindowWords.{second_of, window_of, windows_of}
use Rattle.site_types.specs.ZoneWords.{rule_of, offset_of}
use Rattle.site_types.specs.declared.forms.FormName.{FormName}
use Rattle.site_types.specs.declared.forms.FormName.TheVariants as form
use Rattle.site_types.specs.declared.id.BackupId.{BackupId}
use Rattle.site_types.specs.declared.keys.Grammar.{Grammar}
use Rattle.site_types.specs.declared.keys.Grammar.TheVariants as grammar
use Rattle.site_types.proofs.OptionLemmas.{guarded, same_value}
use Rattle.site_types.proofs.RereadLemmas.{found_row, read_parts}
use Rattle.site_types.proofs.SpellingLemmas.{id_spelled, number_spelled}

-- Options that have a value.

some_mapped : {A B : Type 0} (f : A → B) (o : Option A) → is_some (option_map f o) ≡ true → is_some o ≡ true
some_mapped f None some = some
some_mapped f (Some x) some = refl

some_chained : {A B : Type 0} (f : A → Option B) (o : Option A) → is_some (option_and_then f o) ≡ true → (x : A) × (o ≡ Some x) × (is_some (f x) ≡ true)
some_chained f None some = absurd (false≢true some)
some_chained f (Some x) some = (x, refl, some)

value_in : {A : Type 0} (o : Option A) → is_some o ≡ true → (x : A) × (o ≡ Some x)
value_in None some = absurd (false≢true some)
value_in (Some x) some = (x, refl)

-- one of two, by a test
either : {A : Type 0} (b : Bool) (x y : Option A) (P : Type 0) → (b ≡ true → is_some x ≡ true → P) → (is_some y ≡ true → P) → is_some (if b then x else y) ≡ true → P
either true x y P first second some = first refl some
either false x y P first second some = second some

guarded_by : {A : Type 0} (b : Bool) (o : Option A) → is_some (if b then o else None) ≡ true → (b ≡ true) × (is_some o ≡ true)
guarded_by true o some = (refl, some)
guarded_by false o some = absurd (false≢true some)

-- a text that is one of a few words
one_word : {A : Type 0} (most : ℕ) (t word : List ℕ) (x : A) (rest : Option A) → nat_le (length word) most ≡ true → (is_some rest ≡ true → length t ≤ most) → is_some (if bytes_eq t word then Some x else rest) ≡ true → length t ≤ most
one_word most t word x rest small others some =
    either (bytes_eq t word) (Some x) rest (length t ≤ most) (λ same here. subst (λ (w : List ℕ). length w ≤ most) (sym (text_is t word same)) (leb-true (length word) most small)) others some

no_word : (most : ℕ) (t : List ℕ) → false ≡ true → length t ≤ most
no_word most t some = absurd (false≢true some)

-- Texts of one value.

name_short : (t : List ℕ) → is_name t ≡ true → length t ≤ 64
name_short t is = leb-true (length t) 64 (and_parts (nat_le 1 (length t)) (nat_le (length t) 64) (and_parts (nat_le 1 (length t) && nat_le (length t) 64) (list_all is_name_byte t) is).0).1

up_to_short : (k limit : ℕ) (t : List ℕ) → 0 < k → limit < 10 ^ k → limit < 2 ^ 64 → is_some (number_up_to limit t) ≡ true → length t ≤ k
up_to_short k limit t some small fits is =
    let value = digits_value 10 t in
    let test : (nat_le value limit && bytes_eq t (decimal value)) ≡ true = (guarded_by (nat_le value limit && bytes_eq t (decimal value)) (Some value) is).0 in
    let parts = and_parts (nat_le value limit) (bytes_eq t (decimal value)) test in
    let low : value ≤ limit = leb-true value limit parts.0 in
    subst (λ (s : List ℕ). length s ≤ k) (sym (text_is t (decimal value) parts.1)) (length-decimal-le k value some (omega (arith, low, small)) (omega (arith, low, fits)))

-- the numbers of a key have at most 19 digits
number_short : (least greatest : ℕ) (t : List ℕ) → nat_lt greatest (10 ^ 19) ≡ true → is_some (number_between least greatest t) ≡ true → length t ≤ 19
number_short least greatest t small is =
    let low : greatest < 10 ^ 19 = ltb-true greatest (10 ^ 19) small in
    up_to_short 19 greatest t (omega arith) low (omega (arith, low)) (number (number_up_to greatest t) is)
  where
    number : (o : Option ℕ) → is_some (at_least least o) ≡ true → is_some o ≡ true
    number None some = some
    number (Some n) some = refl

id_short : (t : List ℕ) → is_some (id_of t) ≡ true → length t ≤ 84
id_short t is =
    let id = value_in (id_of t) is in
    let time = after_last is_underscore t in
    let parts = made (before_last is_underscore t) (number_between 1 last_moment time) id.0 (λ n is. subst (λ (s : List ℕ). length s ≤ 19) (sym (number_spelled 1 last_moment time n is)) (number_short 1 last_moment time refl (ap is_some is))) id.1 in
    let client = name_short id.0.client parts.0 in
    let digits = parts.1 in
    subst (λ (s : List ℕ). length s ≤ 84) (id_spelled t id.0 id.1) (omega (arith, client, digits, length-append id.0.client (95 ∷ decimal id.0.time)))
  where
    made : (client : List ℕ) (o : Option ℕ) (id : BackupId) → ((n : ℕ) → o ≡ Some n → length (decimal n) ≤ 19) → id_made client o ≡ Some id → (is_name id.client ≡ true) × (length (decimal id.time) ≤ 19)
    made client None id digits is = absurd (cc is)
    made client (Some time) id digits is =
        let parts = guarded (is_name client) (Some (record { client = client; time = time })) id is in
        subst (λ (x : BackupId). (is_name x.client ≡ true) × (length (decimal x.time) ≤ 19)) (same_value _ id parts.1) (parts.0, digits time refl)

kind_short : (t : List ℕ) → is_some (kind_of t) ≡ true → length t ≤ 5
kind_short t = one_word 5 t (codes "full") _ _ refl (one_word 5 t (codes "diff") _ _ refl (one_word 5 t (codes "cumul") _ None refl (no_word 5 t)))

type_short : (t : List ℕ) → is_some (type_of t) ≡ true → length t ≤ 5
type_short t = one_word 5 t (codes "files") _ _ refl (one_word 5 t (codes "raw") _ None refl (no_word 5 t))

yes_or_no_short : (t : List ℕ) → is_some (yes_or_no t) ≡ true → length t ≤ 3
yes_or_no_short t = one_word 3 t (codes "yes") _ _ refl (one_word 3 t (codes "no") _ None refl (no_word 3 t))

start_short : (t : List ℕ) → is_some (start_of t) ≡ true → length t ≤ 9
start_short t = one_word 9 t (codes "manual") _ _ refl (one_word 9 t (codes "scheduled") _ None refl (no_word 9 t))

weekday_short : (t : List ℕ) → is_some (weekday_named t) ≡ true → length t ≤ 3
weekday_short t =
    one_word 3 t (codes "sun") _ _ refl (one_word 3 t (codes "mon") _ _ refl (one_word 3 t (codes "tue") _ _ refl (one_word 3 t (codes "wed") _ _ refl (
    one_word 3 t (codes "thu") _ _ refl (one_word 3 t (codes "fri") _ _ refl (one_word 3 t (codes "sat") _ None refl (no_word 3 t)))))))

-- each byte of a path is written with three characters at most
byte_short : (b : ℕ) → length (written_byte b) ≤ 3
byte_short b = at (is_escaped b) (hex_digit (b / 16)) (hex_digit (b % 16))
  where
    at : (e : Bool) (high low : ℕ) → length (if e then 37 ∷ high ∷ low ∷ [] else b ∷ []) ≤ 3
    at true high low = omega arith
    at false high low = omega arith

written_short : (path : List ℕ) → length (written path) ≤ 3 * length path
written_short [] = omega arith
written_short (b ∷ path) = omega (arith, length-append (written_byte b) (written path), byte_short b, written_short path)

path_short : (t : List ℕ) → is_some (path_of t) ≡ true → length t ≤ 3072
path_short t is =
    let path = unwritten t in
    let tests = and_parts (is_path path) (bytes_eq (written path) t) (guarded_by (is_path path && bytes_eq (written path) t) (Some path) is).0 in
    let low : length path ≤ 1024 = leb-true (length path) 1024 (and_parts (begins_with_slash path) (nat_le (length path) 1024) (and_parts (begins_with_slash path && nat_le (length path) 1024) (list_all is_path_byte path) tests.0).0).1 in
    subst (λ (s : List ℕ). length s ≤ 3072) (text_is (written path) t tests.1) (omega (arith, low, written_short path))

rule_short : (t : List ℕ) → is_some (rule_of t) ≡ true → length t ≤ 1024
rule_short t is = leb-true (length t) 1024 (and_parts (nat_le (length t) 1024) (is_some (read_whole t)) (guarded_by (nat_le (length t) 1024 && is_some (read_whole t)) (Some t) is).0).0

offset_short : (t : List ℕ) → is_some (offset_of t) ≡ true → length t ≤ 6
offset_short t is =
    let test = (guarded_by (length t == 6 && slice_index t 3 == 58) _ is).0 in
    let long : length t ≡ 6 = eqb-true (length t) 6 (and_parts (length t == 6) (slice_index t 3 == 58) test).0 in
    omega (arith, long)

-- Texts of several values.

-- words, each with the byte before it
abbrev pub spaced : List (List ℕ) → ℕ
spaced [] = 0
spaced (word ∷ words) = 1 + length word + spaced words

join_short : (c : ℕ) (words : List (List ℕ)) → length (join_with_byte c words) ≤ spaced words
join_short c [] = omega arith
join_short c (word ∷ []) = omega arith
join_short c (word ∷ next ∷ words) = omega (arith, join_short c (next ∷ words), length-append word (c ∷ join_with_byte c (next ∷ words)))

module _ {A : Type 0} (spelled : List ℕ → Option A) (most : ℕ) (one : (t : List ℕ) → is_some (spelled t) ≡ true → length t ≤ most) where
  each_short : (count : ℕ) (texts : List (List ℕ)) → length texts ≤ count → is_some (each_of spelled texts) ≡ true → spaced texts ≤ count * (1 + most)
  each_short count [] few is = omega arith
  each_short zero (t ∷ ts) few is = absurd (omega (arith, few))
  each_short (suc count) (t ∷ ts) few is =
      let first = some_chained _ (spelled t) is in
      let here : length t ≤ most = one t (ap is_some first.1) in
      let rest = each_short count ts (omega (arith, few)) (some_mapped _ (each_of spelled ts) first.2) in
      omega (arith, here, rest)

  joined_short : (count : ℕ) (t : List ℕ) → is_some (joined_of spelled count t) ≡ true → length t ≤ count * (1 + most)
  joined_short count t is =
      let parts = slice_split is_plus t in
      let test = guarded_by (nat_le (length parts) count) (each_of spelled parts) is in
      let all = each_short count parts (leb-true (length parts) count test.0) test.1 in
      subst (λ (s : List ℕ). length s ≤ count * (1 + most)) (join_with_byte-slice_split 43 t) (omega (arith, all, join_short 43 parts))

window_short : (t : List ℕ) → is_some (window_of t) ≡ true → length t ≤ 19
window_short t is =
    let whole = guarded_by (nat_lt 12 (length t) && slice_index t 3 == 47 && slice_index t 12 == 47) _ is in
    let weekday = some_chained _ (weekday_named (take 3 t)) whole.1 in
    let start = some_chained _ (second_of (slice_range t 4 12)) weekday.2 in
    let seconds = some_chained _ (number_up_to 604_800 (drop 13 t)) start.2 in
    let digits = up_to_short 6 604_800 (drop 13 t) (omega arith) (omega arith) (omega arith) (ap is_some seconds.1) in
    omega (arith, digits, length-drop 13 t)

windows_short : (t : List ℕ) → is_some (windows_of t) ≡ true → length t ≤ 560
windows_short t = one_word 560 t (codes "always") _ _ refl (one_word 560 t (codes "none") _ _ refl (λ is. joined_short window_of 19 window_short 28 t (some_mapped _ (joined_of window_of 28 t) is)))

day_short : (t : List ℕ) → is_some (day_of t) ≡ true → length t ≤ 10
day_short t is =
    let whole = guarded_by (length t == 10 && slice_index t 4 == 45 && slice_index t 7 == 45) _ is in
    let long : length t ≡ 10 = eqb-true (length t) 10 (and_parts (length t == 10) (slice_index t 4 == 45) (and_parts (length t == 10 && slice_index t 4 == 45) (slice_index t 7 == 45) whole.0).0).0 in
    omega (arith, long)

weekday_item_short : (t : List ℕ) → is_some (weekday_item_of t) ≡ true → length t ≤ 10
weekday_item_short [] is = absurd (false≢true is)
weekday_item_short (c ∷ name) is =
    let week = some_chained _ (week_of c) is in
    let day = weekday_short name (some_mapped _ (weekday_named name) week.2) in
    omega (arith, day)

month_day_short : (t : List ℕ) → is_some (month_day_of t) ≡ true → length t ≤ 10
month_day_short t = one_word 10 t (codes "L") _ _ refl (λ is.
    let number = some_chained _ (number_up_to 31 t) is in
    up_to_short 10 31 t (omega arith) (omega arith) (omega arith) (ap is_some number.1))

item_short : (t : List ℕ) → is_some (calendar_item_of t) ≡ true → length t ≤ 11
item_short [] is = absurd (false≢true is)
item_short (c ∷ t) is = omega (arith, behind)
  where
    behind : length t ≤ 10
    behind =
        either (c == 100) _ _ (length t ≤ 10) (λ led some. day_short t (some_mapped _ (day_of t) some)) (
        either (c == 120) _ _ (length t ≤ 10) (λ led some. day_short t (some_mapped _ (day_of t) some)) (
        either (c == 119) _ _ (length t ≤ 10) (λ led some. weekday_item_short t some) (
        either (c == 109) _ None (length t ≤ 10) (λ led some. month_day_short t (some_mapped _ (month_day_of t) some)) (no_word 10 t)))) is

calendar_short : (t : List ℕ) → is_some (calendar_of t) ≡ true → length t ≤ 768
calendar_short t is = joined_short calendar_item_of 11 item_short 64 t is

-- Values of keys.

-- the greatest length of a value of a grammar
abbrev pub most : Grammar → ℕ
most grammar.Name = 64
most grammar.Id = 84
most (grammar.Number least greatest) = 19
most grammar.Windows = 560
most grammar.Calendar = 768
most grammar.Kind = 5
most grammar.PolicyType = 5
most grammar.YesOrNo = 3
most grammar.Start = 9
most grammar.Path = 3072
most grammar.Rule = 1024
most grammar.Offset = 6

-- numbers of at most 19 digits
abbrev is_small : Grammar → Bool
is_small (grammar.Number least greatest) = nat_lt greatest (10 ^ 19)
is_small _ = true

value_short : (g : Grammar) (t : List ℕ) → is_small g ≡ true → is_of g t ≡ true → length t ≤ most g
value_short grammar.Name t small is = name_short t is
value_short grammar.Id t small is = id_short t is
value_short (grammar.Number least greatest) t small is = number_short least greatest t small is
value_short grammar.Windows t small is = windows_short t is
value_short grammar.Calendar t small is = calendar_short t is
value_short grammar.Kind t small is = kind_short t is
value_short grammar.PolicyType t small is = type_short t is
value_short grammar.YesOrNo t small is = yes_or_no_short t is
value_short grammar.Start t small is = start_short t is
value_short grammar.Path t small is = path_short t is
value_short grammar.Rule t small is = rule_short t is
value_short grammar.Offset t small is = offset_short t is

-- Words.

-- the room that a key's word may take, with the space before it, unless an earlier word gave the key a value
abbrev share : Key → Bool → ℕ
share k given = if given then 0 else 2 + length k.name + most k.grammar

abbrev room : List Key → List (List ℕ) → ℕ
room [] earlier = 0
room (k ∷ keys) earlier = share k (has_key k.name earlier) + room keys earlier

abbrev are_small : List Key → Bool
are_small keys = list_all (λ k. is_small k.grammar) keys

given_more : (name : List ℕ) (earlier : List (List ℕ)) (word : List ℕ) → has_key name (earlier ++ word ∷ []) ≡ (has_key name earlier || (bytes_eq (key_of word) name || false))
given_more name earlier word = list_any-append (λ w. bytes_eq (key_of w) name) earlier (word ∷ [])

share_less : (k : Key) (given more : Bool) → share k (given || more) ≤ share k given
share_less k true more = omega arith
share_less k false true = omega arith
share_less k false false = omega arith

room_less : (keys : List Key) (earlier : List (List ℕ)) (word : List ℕ) → room keys (earlier ++ word ∷ []) ≤ room keys earlier
room_less [] earlier word = omega arith
room_less (k ∷ keys) earlier word =
    let here : share k (has_key k.name (earlier ++ word ∷ [])) ≤ share k (has_key k.name earlier) = subst (λ (b : Bool). share k b ≤ share k (has_key k.name earlier)) (sym (given_more k.name earlier word)) (share_less k (has_key k.name earlier) (bytes_eq (key_of word) k.name || false)) in
    omega (arith, here, room_less keys earlier word)

word_parts : (word : List ℕ) → length word ≤ length (key_of word) + 1 + length (value_of word)
word_parts word = let at = position_or_len is_equals word in omega (arith, length-take at word, length-drop (at + 1) word)

-- a word takes its key's room
word_room : (keys : List Key) (earlier : List (List ℕ)) (word : List ℕ) → are_small keys ≡ true → allows keys (key_of word) (value_of word) ≡ true → has_key (key_of word) earlier ≡ false → 1 + length word + room keys (earlier ++ word ∷ []) ≤ room keys earlier
word_room [] earlier word small allowed fresh = absurd (false≢true allowed)
word_room (k ∷ keys) earlier word small allowed fresh = at (bytes_eq (key_of word) k.name) refl allowed (word_room keys earlier word sizes.1)
  where
    sizes : (is_small k.grammar ≡ true) × (are_small keys ≡ true)
    sizes = and_parts (is_small k.grammar) (are_small keys) small

    at : (b : Bool) → bytes_eq (key_of word) k.name ≡ b → (if b then is_of k.grammar (value_of word) else allows keys (key_of word) (value_of word)) ≡ true → (allows keys (key_of word) (value_of word) ≡ true → has_key (key_of word) earlier ≡ false → 1 + length word + room keys (earlier ++ word ∷ []) ≤ room keys earlier) → 1 + length word + room (k ∷ keys) (earlier ++ word ∷ []) ≤ room (k ∷ keys) earlier
    at true named value later =
        let name : key_of word ≡ k.name = text_is (key_of word) k.name named in
        let new : has_key k.name earlier ≡ false = ap (λ (n : List ℕ). has_key n earlier) (sym name) ∙ fresh in
        let before : share k (has_key k.name earlier) ≡ 2 + length k.name + most k.grammar = ap (share k) new in
        let after : share k (has_key k.name (earlier ++ word ∷ [])) ≡ 0 = ap (share k) (given_more k.name earlier word ∙ (λ i. new i || (named i || false))) in
        let short = value_short k.grammar (value_of word) sizes.0 value in
        let same : length (key_of word) ≡ length k.name = ap length name in
        omega (arith, before, after, short, same, word_parts word, room_less keys earlier word)
    at false other allowed later =
        let here : share k (has_key k.name (earlier ++ word ∷ [])) ≤ share k (has_key k.name earlier) = subst (λ (b : Bool). share k b ≤ share k (has_key k.name earlier)) (sym (given_more k.name earlier word)) (share_less k (has_key k.name earlier) (bytes_eq (key_of word) k.name || false)) in
        omega (arith, here, later allowed fresh)

good_parts : (keys : List Key) (earlier : List (List ℕ)) (word : List ℕ) → is_good keys earlier word ≡ true → (allows keys (key_of word) (value_of word) ≡ true) × (has_key (key_of word) earlier ≡ false)
good_parts keys earlier word is =
    let last = and_parts (is_word word && has_equals word && allows keys (key_of word) (value_of word)) (not (has_key (key_of word) earlier)) is in
    ((and_parts (is_word word && has_equals word) (allows keys (key_of word) (value_of word)) last.0).1, not-true (has_key (key_of word) earlier) last.1)

passed : (b : Bool) (rest : Option ℕ) (index : ℕ) → (if b then rest else Some index) ≡ None → (b ≡ true) × (rest ≡ None)
passed true rest index none = (refl, none)
passed false rest index none = absurd (cc none)

words_room : (keys : List Key) (earlier : List (List ℕ)) (at : ℕ) (words : List (List ℕ)) → are_small keys ≡ true → first_bad keys earlier at words ≡ None → spaced words ≤ room keys earlier
words_room keys earlier at [] small none = omega arith
words_room keys earlier at (word ∷ words) small none =
    let here = passed (is_good keys earlier word) (first_bad keys (earlier ++ word ∷ []) (at + 1) words) at none in
    let good = good_parts keys earlier word here.0 in
    let first = word_room keys earlier word small good.0 good.1 in
    omega (arith, first, words_room keys (earlier ++ word ∷ []) (at + 1) words small here.1)

-- Forms.

-- the most of a form: its words, and one for each of its keys
abbrev most_of : FormName → ℕ
most_of name = spaced (form_words (form_named name)) + room (form_named name).keys []

are_short : (name : FormName) → nat_lt (most_of name) 4096 ≡ true
are_short form.UnitAdd = refl
are_short _ = refl

keys_small : (name : FormName) → are_small (form_named name).keys ≡ true
keys_small form.UnitAdd = refl
keys_small _ = refl

-- the words of a form, and what stands behind them
form_room : (first : List ℕ) (second : Option (List ℕ)) (words : List (List ℕ)) → begins first second words ≡ true → spaced words ≡ spaced (first ∷ words_behind second) + spaced (drop (count_of second) words)
form_room first second [] is = absurd (false≢true is)
form_room first None (word ∷ words) is =
    let same : length first ≡ length word = ap length (text_is first word (and_parts (bytes_eq first word) true is).0) in
    omega (arith, same)
form_room first (Some second) (word ∷ []) is = absurd (false≢true (and_parts (bytes_eq first word) false is).1)
form_room first (Some second) (word ∷ next ∷ words) is =
    let parts = and_parts (bytes_eq first word) (bytes_eq second next) is in
    let same : length first ≡ length word = ap length (text_is first word parts.0) in
    let same_next : length second ≡ length next = ap length (text_is second next parts.1) in
    omega (arith, same, same_next)

words_short : (words : List (List ℕ)) (r : Request) → read_words words ≡ Ok r → spaced words < 4096
unfolding forms
words_short words r is = at (form_among words) refl is
  where
    at : (o : Option Form) → form_among words ≡ o → read_as o words ≡ Ok r → spaced words < 4096
    at None found read = absurd (cc read)
    at (Some f) found read =
        let row = found_row words (λ g. begins g.first g.second words) form_names f found in
        subst (λ (g : Form). begins g.first g.second words ≡ true → read_as (Some g) words ≡ Ok r → spaced words < 4096) (sym row.1) (by_row row.0) row.2 read
      where
        by_row : (name : FormName) → begins (form_named name).first (form_named name).second words ≡ true → read_as (Some (form_named name)) words ≡ Ok r → spaced words < 4096
        by_row name begun read =
            let f : Form = form_named name in
            let further : List (List ℕ) = drop (count_of f.second) words in
            let none = (read_parts (first_bad f.keys [] (count_of f.second) further) _ _ r read).0 in
            let behind = words_room f.keys [] (count_of f.second) further (keys_small name) none in
            let low : most_of name < 4096 = ltb-true (most_of name) 4096 (are_short name) in
            omega (arith, form_room f.first f.second words begun, behind, low)

pub line_short : (r : Request) → IsFormed r → length (line_of r) < 4096
line_short r formed =
    let words = slice_split is_space (line_of r) in
    subst (λ (l : List ℕ). length l < 4096) (join_with_byte-slice_split 32 (line_of r)) (omega (arith, join_short 32 words, words_short words r formed))
