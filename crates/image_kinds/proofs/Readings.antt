-- The functions that read bytes agree with the spelling.
use Rattle.image_kinds.proofs.Common.{◌≡◌, ℕ, zero, suc, ◌-◌, ◌≤◌, true, false, cond, List, [], ◌∷◌, ◌++◌, length, Option, Some, None, Result, Ok, Err, refl, sym, ap, ◌∙◌, append_assoc, arith, inl, inr, map, nat_eq, IfOk, IfErr, and_parts, and_from, cases_Bool, filter_map, starts_with, MatchResult, AllByRecursion, length-append, Entry, Item, Taken, Format, follows, rise_behind, path_of, taken_of, spelled_item, spelled, spelled_stream, spelled_image, letters_of, IsItem, AreItems, IsStream, IsImage, last_behind, last_path, Breaks, no_tag, IsBad, in_letters, behind_items, item_at, MatchResult-weaker, ◌>>=◌}
use Rattle.std.proofs.lemmas.Bool.Decides.{Decides-eqb}
use Rattle.std.proofs.lemmas.Slice.Eq.{starts_is}
use Rattle.image_kinds.specs.declared.decode.StreamFault.{StreamFault}
use Rattle.image_kinds.specs.declared.decode.StreamFault.TheVariants.{Bad, NoMemory}
use Rattle.image_kinds.specs.Decoding.{IsStreamFault}
use Rattle.image_kinds.specs.Fields.{letters_at}
use Rattle.image_kinds.specs.Reading.{with_items, items_at, items_behind, by_offset, items_in, stream_in, image_in, IsReading}
use Rattle.image_kinds.proofs.Reading.{IsBytes, IsBytes-drop, TakesItem, item_law, bind_law}
use Rattle.image_kinds.proofs.Again.{item_stops}
use Rattle.image_kinds.proofs.Fronts.{fronts, has_tag, first_read, item_left}
use Rattle.image_kinds.proofs.Values.{stream_of, spelled_of}
use Rattle.image_kinds.specs.declared.format.Format.TheVariants as format

-- ---- item behind item

-- whole items, and the end
pub record SpellsItems (f : Format) (last bytes : List ℕ) (items : List Item) : Type 0 where
  pub rising : rise_behind last (map path_of items) ≡ true
  pub each : AllByRecursion (IsItem f) items
  pub parts : bytes ≡ fronts items ++ 0 ∷ []

-- whole items, and a field behind them that breaks its rule
pub record BreaksBehind (f : Format) (last bytes : List ℕ) (left : ℕ) : Type 0 where
  pub items : List Item
  pub rest : List ℕ
  pub rising : rise_behind last (map path_of items) ≡ true
  pub each : AllByRecursion (IsItem f) items
  pub parts : bytes ≡ fronts items ++ rest
  pub breaks : Breaks f (last_behind last items) rest left

breaks_here : (f : Format) (last bytes : List ℕ) (left : ℕ) → Breaks f last bytes left → BreaksBehind f last bytes left
breaks_here f last bytes left breaks = record { items = []; rest = bytes; rising = refl; each = tt; parts = refl; breaks = breaks }

abbrev ItemsLaw : ℕ → Format → List ℕ → List ℕ → Type 0
ItemsLaw most f last bytes = MatchResult (items_at most f last bytes) (SpellsItems f last bytes) (BreaksBehind f last bytes)

behind_item : (most : ℕ) (f : Format) (last bytes : List ℕ) (o : Option Item) (rest : List ℕ) → length bytes ≤ suc most → TakesItem f last bytes (o, rest) → ((next more : List ℕ) → IsBytes more → length more ≤ most → ItemsLaw most f next more)
    → MatchResult (with_items o (λ item. items_at most f (path_of item) rest)) (SpellsItems f last bytes) (BreaksBehind f last bytes)
behind_item most f last bytes None rest le took law = record { rising = refl; each = tt; parts = took }
behind_item most f last bytes (Some i) rest le took law =
    let shorter : length rest ≤ most = omega (arith, le, ap (λ (w : List ℕ). length w) took.0.parts, length-append (spelled_item i) rest, has_tag i) in
    bind_law (items_at most f (path_of i) rest) (λ items. Ok (i ∷ items)) (SpellsItems f (path_of i) rest) (BreaksBehind f (path_of i) rest) (SpellsItems f last bytes) (BreaksBehind f last bytes) (law (path_of i) rest took.0.rest_fits shorter)
    (λ items spells. record {
      rising = and_from (follows last (path_of i)) (rise_behind (path_of i) (map path_of items)) took.1 spells.rising;
      each = (took.2, spells.each);
      parts = took.0.parts ∙ ap (λ (w : List ℕ). spelled_item i ++ w) spells.parts ∙ sym (append_assoc (spelled_item i) (fronts items) (0 ∷ []));
    })
    (λ left b. record {
      items = i ∷ b.items;
      rest = b.rest;
      rising = and_from (follows last (path_of i)) (rise_behind (path_of i) (map path_of b.items)) took.1 b.rising;
      each = (took.2, b.each);
      parts = took.0.parts ∙ ap (λ (w : List ℕ). spelled_item i ++ w) b.parts ∙ sym (append_assoc (spelled_item i) (fronts b.items) b.rest);
      breaks = b.breaks;
    })

items_law : (most : ℕ) (f : Format) (last bytes : List ℕ) → IsBytes bytes → length bytes ≤ most → ItemsLaw most f last bytes
items_law zero f last [] fits le = breaks_here f last [] 0 (no_tag refl refl)
items_law zero f last (b ∷ bytes) fits le = absurd (omega arith)
items_law (suc most) f last bytes fits le =
    bind_law (item_at f last bytes) (λ read. with_items read.0 (λ item. items_at most f (path_of item) read.1)) (TakesItem f last bytes) (Breaks f last bytes) (SpellsItems f last bytes) (BreaksBehind f last bytes) (item_law f last bytes fits)
    (λ read took. behind_item most f last bytes read.0 read.1 le took (λ next more fit fewer. items_law most f next more fit fewer))
    (λ left breaks. breaks_here f last bytes left breaks)

items_again : (most : ℕ) (f : Format) (last : List ℕ) (items : List Item) → rise_behind last (map path_of items) ≡ true → AllByRecursion (IsItem f) items → length (fronts items ++ 0 ∷ []) ≤ most → items_at most f last (fronts items ++ 0 ∷ []) ≡ Ok items
items_again zero f last items rising each le = absurd (omega (arith, le, length-append (fronts items) (0 ∷ [])))
items_again (suc most) f last [] rising each le = refl
items_again (suc most) f last (x ∷ xs) rising each le =
    let shorter : length (fronts xs ++ 0 ∷ []) ≤ most = omega (arith, le, length-append (spelled_item x) (fronts xs), length-append (fronts (x ∷ xs)) (0 ∷ []), length-append (fronts xs) (0 ∷ []), has_tag x) in
    rw (
      first_read f last x xs (0 ∷ []) (fronts (x ∷ xs) ++ 0 ∷ []) rising each refl,
      items_again most f (path_of x) xs (and_parts (follows last (path_of x)) (rise_behind (path_of x) (map path_of xs)) rising).1 each.1 shorter,
    ) refl

one_left : {A : Type 0} (r : Result A ℕ) (a b : ℕ) → r ≡ Err a → r ≡ Err b → a ≡ b
one_left r a b one other = cc

items_stop : (most : ℕ) (f : Format) (last : List ℕ) (items : List Item) (rest : List ℕ) (left : ℕ) → rise_behind last (map path_of items) ≡ true → AllByRecursion (IsItem f) items → item_at f (last_behind last items) rest ≡ Err left → length (fronts items ++ rest) ≤ most
    → items_at most f last (fronts items ++ rest) ≡ Err left
items_stop zero f last [] [] left rising each stops le = ap Err (one_left (item_at f last []) 0 left refl stops)
items_stop zero f last [] (b ∷ rest) left rising each stops le = absurd (omega arith)
items_stop zero f last (x ∷ xs) rest left rising each stops le = absurd (omega (arith, le, length-append (spelled_item x) (fronts xs), length-append (fronts (x ∷ xs)) rest, has_tag x))
items_stop (suc most) f last [] rest left rising each stops le = rw stops refl
items_stop (suc most) f last (x ∷ xs) rest left rising each stops le =
    let shorter : length (fronts xs ++ rest) ≤ most = omega (arith, le, length-append (spelled_item x) (fronts xs), length-append (fronts (x ∷ xs)) rest, length-append (fronts xs) rest, has_tag x) in
    rw (
      first_read f last x xs rest (fronts (x ∷ xs) ++ rest) rising each refl,
      items_stop most f (path_of x) xs rest left (and_parts (follows last (path_of x)) (rise_behind (path_of x) (map path_of xs)) rising).1 each.1 stops shorter,
    ) refl

-- ---- behind the letters

pub letters_again : (f : Format) (rest : List ℕ) → letters_at (letters_of f) (letters_of f ++ rest) ≡ Ok rest
letters_again format.Stream rest = refl
letters_again format.Image rest = refl

abbrev pub Behind : Format → List ℕ → List ℕ → Type 0
Behind f bytes rest = (bytes ≡ letters_of f ++ rest) × IsBytes rest

abbrev pub BadAt : Format → List ℕ → ℕ → Type 0
BadAt f bytes left = IsBad f bytes (length bytes - left)

wrong_letters : (f : Format) (bytes : List ℕ) → starts_with nat_eq bytes (letters_of f) ≡ false → MatchResult (cond (starts_with nat_eq (letters_of f) bytes) (Err 0) (Err (length bytes))) (Behind f bytes) (BadAt f bytes)
wrong_letters f bytes wrong =
    elim (cases_Bool (starts_with nat_eq (letters_of f) bytes)) [
      | inl is ↦ rw is (in_letters wrong (rw is (omega arith)))
      | inr other ↦ rw other (in_letters wrong (rw other (omega arith)))
    ]

letters_law : (f : Format) (bytes : List ℕ) → IsBytes bytes → MatchResult (letters_at (letters_of f) bytes) (Behind f bytes) (BadAt f bytes)
letters_law f bytes fits =
    elim (cases_Bool (starts_with nat_eq bytes (letters_of f))) [
      | inl is ↦ rw is ((starts_is Decides-eqb bytes (letters_of f) (starts_with nat_eq bytes (letters_of f)) refl).0 is, IsBytes-drop (length (letters_of f)) bytes fits)
      | inr wrong ↦ rw wrong (wrong_letters f bytes wrong)
    ]

offset_law : {A : Type 0} (bytes : List ℕ) (r : Result A ℕ) (P : A → Type 0) (E : ℕ → Type 0) → MatchResult r P (λ left. E (length bytes - left)) → MatchResult (by_offset bytes r) P E
offset_law bytes (Ok x) P E law = law
offset_law bytes (Err left) P E law = law

abbrev pub Spells : Format → List ℕ → List Item → Type 0
Spells f bytes items = AreItems f items × (bytes ≡ spelled f items)

behind_letters : (f : Format) (bytes rest : List ℕ) → Behind f bytes rest → MatchResult (items_behind f rest) (Spells f bytes) (BadAt f bytes)
behind_letters f bytes rest behind =
    MatchResult-weaker (items_behind f rest) {P = SpellsItems f [] rest} {P' = Spells f bytes} {Q = BreaksBehind f [] rest} {Q' = BadAt f bytes} (items_law (length rest) f [] rest behind.1 (omega arith))
    (λ items spells. (record { rising = spells.rising; each = spells.each }, behind.0 ∙ ap (λ (w : List ℕ). letters_of f ++ w) spells.parts))
    (λ left b.
    let parts = behind.0 ∙ ap (λ (w : List ℕ). letters_of f ++ w) b.parts in
    behind_items b.items b.rest left (record { rising = b.rising; each = b.each }) parts b.breaks
    (omega (arith, item_left f (last_path b.items) b.rest left b.breaks, ap (λ (w : List ℕ). length w) parts, length-append (letters_of f) (fronts b.items ++ b.rest), length-append (fronts b.items) b.rest)))

pub reading_law : (f : Format) (bytes : List ℕ) → IsBytes bytes → MatchResult (items_in f bytes) (Spells f bytes) (IsBad f bytes)
reading_law f bytes fits =
    offset_law bytes (letters_at (letters_of f) bytes >>= items_behind f) (Spells f bytes) (IsBad f bytes)
    (bind_law (letters_at (letters_of f) bytes) (items_behind f) (Behind f bytes) (BadAt f bytes) (Spells f bytes) (BadAt f bytes) (letters_law f bytes fits) (behind_letters f bytes) (λ left bad. bad))

pub reading_again : (f : Format) (items : List Item) → AreItems f items → items_in f (spelled f items) ≡ Ok items
reading_again f items are =
    let rest = fronts items ++ 0 ∷ [] in
    rw (letters_again f rest, items_again (length rest) f [] items are.rising are.each (omega arith)) refl

pub reading_stops : (f : Format) (bytes : List ℕ) (offset : ℕ) → IsBad f bytes offset → items_in f bytes ≡ Err offset
reading_stops f bytes offset (in_letters wrong is) =
    elim (cases_Bool (starts_with nat_eq (letters_of f) bytes)) [
      | inl begins ↦ rw (wrong, begins) (ap Err (omega (arith, rw begins at is)))
      | inr other ↦ rw (wrong, other) (ap Err (omega (arith, rw other at is)))
    ]
reading_stops f bytes offset (behind_items items rest left are parts breaks is) =
    let behind = fronts items ++ rest in
    let stops = items_stop (length behind) f [] items rest left are.rising are.each (item_stops f (last_path items) rest left breaks) (omega arith) in
    rw (parts, letters_again f behind, stops) (ap Err (omega (arith, is, ap (λ (w : List ℕ). length w) parts)))

-- ---- streams and images

pub stream_law : (bytes : List ℕ) → IsBytes bytes → MatchResult (stream_in bytes) (λ s. IsStream s × (bytes ≡ spelled_stream s)) (IsBad format.Stream bytes)
stream_law bytes fits =
    bind_law (items_in format.Stream bytes) (λ items. Ok (filter_map taken_of items)) (Spells format.Stream bytes) (IsBad format.Stream bytes) (λ s. IsStream s × (bytes ≡ spelled_stream s)) (IsBad format.Stream bytes) (reading_law format.Stream bytes fits)
    (λ items spells. (stream_of items spells.0, spells.1 ∙ sym (spelled_of items spells.0)))
    (λ offset bad. bad)

taken_again : (entries : List Entry) → filter_map taken_of (map Taken entries) ≡ entries
taken_again [] = refl
taken_again (e ∷ entries) = ap (λ (es : List Entry). e ∷ es) (taken_again entries)

pub stream_again : (s : List Entry) → IsStream s → stream_in (spelled_stream s) ≡ Ok s
stream_again s is = rw (reading_again format.Stream (map Taken s) is) (ap Ok (taken_again s))

pub image_again : (i : List Item) → IsImage i → image_in (spelled_image i) ≡ Ok i
image_again i is = reading_again format.Image i is

-- ---- a decoder's answer

pub stream_reading : (bytes : List ℕ) (r : Result (List Entry) StreamFault) → IfOk r (λ s. IsStream s × (bytes ≡ spelled_stream s)) → IfErr r (IsStreamFault format.Stream bytes) → IsReading r (stream_in bytes)
stream_reading bytes (Ok s) found fault = ap stream_in found.1 ∙ stream_again s found.0
stream_reading bytes (Err (Bad offset)) found fault = rw (reading_stops format.Stream bytes offset fault) refl
stream_reading bytes (Err NoMemory) found fault = tt

pub image_reading : (bytes : List ℕ) (r : Result (List Item) StreamFault) → IfOk r (λ i. IsImage i × (bytes ≡ spelled_image i)) → IfErr r (IsStreamFault format.Image bytes) → IsReading r (image_in bytes)
image_reading bytes (Ok i) found fault = ap image_in found.1 ∙ image_again i found.0
image_reading bytes (Err (Bad offset)) found fault = reading_stops format.Image bytes offset fault
image_reading bytes (Err NoMemory) found fault = tt
