-- What is known of a request that words ask for.
use Rattle.desk_model.proofs.Common.{◌≡◌, ◌≤◌, ◌<◌, ◌∙◌, ℕ, Bool, true, false, List, refl, ap, subst, arith, Option, Some, None, Ok, unwrap_or, if◌then◌else◌, nat_le, nat_lt, ◌&&◌, slice_split, option_and_then, nat_tests, form_named, unit_add_of, unit_change_of, are_marks, capacity_key, segment_key, fragment_key, slots_key, high_key, low_key, name_key, Request, IsNumberOf}
use Rattle.std.specs.Prelude.{drop}
use Rattle.site_types.specs.Forms.{forms}
use Rattle.site_types.specs.Keys.{Key, Given, given_among, value_in, number_in, name_of}
use Rattle.site_types.specs.Lines.{IsFormed, is_space, line_of, read_line}
use Rattle.site_types.specs.Numbers.{number_up_to, at_least, number_between}
use Rattle.site_types.specs.Requests.{read_words}
use Rattle.site_types.specs.declared.forms.FormName.{FormName}
use Rattle.site_types.specs.declared.forms.FormName.TheVariants as form
use Rattle.site_types.specs.declared.request.Request.TheVariants as request
use Rattle.site_types.proofs.OptionLemmas.{guarded}
use Rattle.site_types.proofs.RereadLemmas.{read_parts}
use Rattle.site_types.proofs.Rereading.{reread}
use Rattle.policy_book.specs.declared.units.NewUnit.{NewUnit}
use Rattle.policy_book.specs.declared.units.UnitChange.{UnitChange}

-- a number that is given is one that its key may have
abbrev pub IsGiven : Key → Option ℕ → Type 0
IsGiven key None = Unit {0}
IsGiven key (Some number) = IsNumberOf key number

-- the numbers of a unit that is added, and of one that is changed
pub record AddsUnit (u : NewUnit) : Type 0 where
  pub capacity : IsNumberOf capacity_key u.capacity
  pub segment : IsGiven segment_key u.segment
  pub fragment : IsGiven fragment_key u.fragment
  pub slots : IsGiven slots_key u.slots
  pub high : IsGiven high_key u.high
  pub low : unwrap_or u.low 80 < unwrap_or u.high 98

pub record ChangesUnit (c : UnitChange) : Type 0 where
  pub capacity : IsGiven capacity_key c.capacity
  pub slots : IsGiven slots_key c.slots
  pub high : IsGiven high_key c.high
  pub marks : are_marks c.high c.low ≡ true

-- what is known of a request by its keys' values
abbrev pub Asks : Request → Type 0
Asks (request.UnitAdd name capacity segment fragment slots high low) = AddsUnit (record { capacity = capacity; segment = segment; fragment = fragment; slots = slots; high = high; low = low })
Asks (request.UnitChange name capacity slots high low) = ChangesUnit (record { capacity = capacity; slots = slots; high = high; low = low })
Asks _ = Unit {0}

-- Numbers.

between : (least greatest : ℕ) (text : Option (List ℕ)) (n : ℕ) → option_and_then (number_between least greatest) text ≡ Some n → (least ≤ n) × (n ≤ greatest)
between least greatest None n is = absurd (cc is)
between least greatest (Some text) n is = at (number_up_to greatest text) refl is
  where
    up_to : (b c : Bool) (m : ℕ) → (b ≡ nat_le m greatest) → (if b && c then Some m else None) ≡ Some n → n ≤ greatest
    up_to true true m le is = let m_is : m ≡ n = cc is in subst (λ (k : ℕ). k ≤ greatest) m_is (grind (arith, nat_tests, le))
    up_to true false m le is = absurd (cc is)
    up_to false c m le is = absurd (cc is)

    from : (b : Bool) (m : ℕ) → nat_le least m ≡ b → (if b then Some m else None) ≡ Some n → (m ≡ n) × (least ≤ n)
    from true m le is = let m_is : m ≡ n = cc is in (m_is, subst (λ (k : ℕ). least ≤ k) m_is (grind (arith, nat_tests, le)))
    from false m le is = absurd (cc is)

    at : (o : Option ℕ) → number_up_to greatest text ≡ o → at_least least o ≡ Some n → (least ≤ n) × (n ≤ greatest)
    at None up is = absurd (cc is)
    at (Some m) up is =
        let low = from (nat_le least m) m refl is in
        (low.1, up_to _ _ _ refl (up ∙ ap (λ (k : ℕ). Some k) low.0))

given_between : (key : Key) (o : Option ℕ) → ((n : ℕ) → o ≡ Some n → IsNumberOf key n) → IsGiven key o
given_between key None each = tt
given_between key (Some n) each = each n refl

-- Requests that are made of values.

unit_added : (r : Request) (name : Option (List ℕ)) (capacity segment fragment slots high low : Option ℕ) → IsGiven capacity_key capacity → IsGiven segment_key segment → IsGiven fragment_key fragment → IsGiven slots_key slots → IsGiven high_key high → unit_add_of name capacity segment fragment slots high low ≡ Some r → Asks r
unit_added r None capacity segment fragment slots high low c s f l h is = absurd (cc is)
unit_added r (Some name) None segment fragment slots high low c s f l h is = absurd (cc is)
unit_added r (Some name) (Some capacity) segment fragment slots high low c s f l h is =
    let made = guarded (nat_lt (unwrap_or low 80) (unwrap_or high 98)) (Some (request.UnitAdd name capacity segment fragment slots high low)) r is in
    let marks : nat_lt (unwrap_or low 80) (unwrap_or high 98) ≡ true = made.0 in
    let same : request.UnitAdd name capacity segment fragment slots high low ≡ r = cc made.1 in
    subst Asks same (record { capacity = c; segment = s; fragment = f; slots = l; high = h; low = grind (arith, nat_tests, marks) })

unit_changed : (r : Request) (name : Option (List ℕ)) (capacity slots high low : Option ℕ) → IsGiven capacity_key capacity → IsGiven slots_key slots → IsGiven high_key high → unit_change_of name capacity slots high low ≡ Some r → Asks r
unit_changed r None capacity slots high low c l h is = absurd (cc is)
unit_changed r (Some name) capacity slots high low c l h is =
    let made = guarded (are_marks high low) (Some (request.UnitChange name capacity slots high low)) r is in
    let same : request.UnitChange name capacity slots high low ≡ r = cc made.1 in
    subst Asks same (record { capacity = c; slots = l; high = h; marks = made.0 })

capacity_in : (v : Given) → IsGiven capacity_key (number_in v capacity_key)
capacity_in v = given_between capacity_key (number_in v capacity_key) (λ n is. between _ _ (v capacity_key.name) n is)

segment_in : (v : Given) → IsGiven segment_key (number_in v segment_key)
segment_in v = given_between segment_key (number_in v segment_key) (λ n is. between _ _ (v segment_key.name) n is)

fragment_in : (v : Given) → IsGiven fragment_key (number_in v fragment_key)
fragment_in v = given_between fragment_key (number_in v fragment_key) (λ n is. between _ _ (v fragment_key.name) n is)

slots_in : (v : Given) → IsGiven slots_key (number_in v slots_key)
slots_in v = given_between slots_key (number_in v slots_key) (λ n is. between _ _ (v slots_key.name) n is)

high_in : (v : Given) → IsGiven high_key (number_in v high_key)
high_in v = given_between high_key (number_in v high_key) (λ n is. between _ _ (v high_key.name) n is)

-- What is read of a unit's line is made of its form's values.

abbrev given_in : FormName → Request → Given
given_in name r = given_among (form_named name).keys (drop 2 (slice_split is_space (line_of r)))

unit_add_asks : (name : List ℕ) (capacity : ℕ) (segment fragment slots high low : Option ℕ) → IsFormed (request.UnitAdd name capacity segment fragment slots high low) → Asks (request.UnitAdd name capacity segment fragment slots high low)
unfolding forms
unit_add_asks name capacity segment fragment slots high low formed =
    let r : Request = request.UnitAdd name capacity segment fragment slots high low in
    let v : Given = given_in form.UnitAdd r in
    unit_added r (value_in name_of v name_key) (number_in v capacity_key) (number_in v segment_key) (number_in v fragment_key) (number_in v slots_key) (number_in v high_key) (number_in v low_key) (capacity_in v) (segment_in v) (fragment_in v) (slots_in v) (high_in v) (read_parts _ _ _ r formed).1

unit_change_asks : (name : List ℕ) (capacity slots high low : Option ℕ) → IsFormed (request.UnitChange name capacity slots high low) → Asks (request.UnitChange name capacity slots high low)
unfolding forms
unit_change_asks name capacity slots high low formed =
    let r : Request = request.UnitChange name capacity slots high low in
    let v : Given = given_in form.UnitChange r in
    unit_changed r (value_in name_of v name_key) (number_in v capacity_key) (number_in v slots_key) (number_in v high_key) (number_in v low_key) (capacity_in v) (slots_in v) (high_in v) (read_parts _ _ _ r formed).1

pub formed_asks : (r : Request) → IsFormed r → Asks r
formed_asks (request.UnitAdd name capacity segment fragment slots high low) formed = unit_add_asks name capacity segment fragment slots high low formed
formed_asks (request.UnitChange name capacity slots high low) formed = unit_change_asks name capacity slots high low formed
formed_asks r formed = tt

-- each request that was read is formed
pub words_ask : (words : List (List ℕ)) (r : Request) → read_words words ≡ Ok r → Asks r
words_ask words r read = formed_asks r (reread words r read)

pub line_asks : (line : List ℕ) (r : Request) → read_line line ≡ Ok r → Asks r
line_asks line r is = words_ask _ r is
