-- What a ledger in order has on its units.
use Rattle.desk_model.proofs.Common.{◌≡◌, ◌≤◌, ◌∙◌, ℕ, zero, suc, Bool, true, false, List, [], ◌∷◌, refl, sym, ap, subst, arith, Option, Some, unwrap_or, option_map, cond, slice_get, Contains, bytes_eq, bytes_eq-Decides, false≢true, text_is, StorageUnit, has, unit_name, disk0, unit_at, Stored, HasSet}
use Rattle.std.specs.Prelude.{filter}
use Rattle.std.proofs.lemmas.Option.{slice_get-map}
use Rattle.site_types.proofs.OptionLemmas.{mapped}
use Rattle.pool_journal.specs.declared.segments.NewSegment.{NewSegment}
use Rattle.desk_model.proofs.NamedLemmas.{some_named, found_named}
use Rattle.desk_model.proofs.Passing.{mapped_in}
use Rattle.desk_model.proofs.RuleLemmas.{get_contains}
use Rattle.vault_ledger.specs.Ledger.{Ledger, LiveSlot, live_on, segment_of}
use Rattle.vault_ledger.specs.Wellformed.{IsLedger, set_units}
use Rattle.vault_ledger.proofs.KeptBackups.{in_mapped}

-- an element that is left passes the test
pub in_filtered : {A : Type 0} (test : A → Bool) (xs : List A) (x : A) → Contains (filter test xs) x → Contains xs x × (test x ≡ true)
in_filtered test [] x (k, lt, is) = absurd (omega arith)
in_filtered {A} test (y ∷ ys) x among = at (test y) refl (in_filtered test ys x) among
  where
    at : (b : Bool) → test y ≡ b → (Contains (filter test ys) x → Contains ys x × (test x ≡ true)) → Contains (cond b (y ∷ filter test ys) (filter test ys)) x → Contains (y ∷ ys) x × (test x ≡ true)
    at true passes later (zero, lt, is) = ((zero, omega arith, is), ap test (sym is) ∙ passes)
    at true passes later (suc k, lt, is) = let there = later (k, omega arith, is) in ((suc there.0.0, let inside = there.0.1 in omega (arith, inside), there.0.2), there.1)
    at false fails later rest = let there = later rest in ((suc there.0.0, let inside = there.0.1 in omega (arith, inside), there.0.2), there.1)

pub nothing : {A : Type 0} (xs : List A) → ((x : A) → Contains xs x → ⊥) → xs ≡ []
nothing [] never = refl
nothing (x ∷ xs) never = absurd (never x (zero, omega arith, refl))

-- sets of the same units stand alike
pub units_alike : (sets sets' : List Stored) → set_units sets ≡ set_units sets' → (u : StorageUnit) → HasSet sets u → HasSet sets' u
units_alike sets sets' same u own =
    let unit : Stored → List ℕ = λ set. set.unit in
    sym (slice_get-map unit sets' u.number) ∙ ap (λ (l : List (List ℕ)). slice_get l u.number) (sym same) ∙ slice_get-map unit sets u.number ∙ own

module _ (l : Ledger) (kept : IsLedger l) where
  abbrev units : List StorageUnit
  units = l.outline.site.book.units

  -- the set at a unit's number is its own
  pub own_set : (u : StorageUnit) → Contains units u → HasSet l.outline.stored u
  own_set u among = units_alike kept.shape.stored l.outline.stored kept.shape.units u (kept.shape.sound.own_sets u among)

  -- so a unit of the book has a set
  pub set_there : (unit : List ℕ) → has unit_name unit units ≡ true → (set : Stored) × Contains l.outline.stored set × (set.unit ≡ unit)
  set_there unit there =
      let one = some_named unit_name unit units there in
      let in_book = found_named unit_name unit units one.0 one.1 in
      let set = mapped (λ (set : Stored). set.unit) (slice_get l.outline.stored one.0.number) one.0.name (own_set one.0 in_book.1) in
      (set.0, get_contains l.outline.stored one.0.number set.0 set.1, set.2 ∙ in_book.0)

  -- each set is that of a unit of the book
  pub unit_of_set : (set : Stored) → Contains l.outline.stored set → has unit_name set.unit units ≡ true
  unit_of_set set among =
      let unit : Stored → List ℕ = λ s. s.unit in
      let other = in_mapped unit kept.shape.stored set.unit (subst (λ (names : List (List ℕ)). Contains names set.unit) (sym kept.shape.units) (mapped_in unit l.outline.stored set among)) in
      subst (λ (name : List ℕ). has unit_name name units ≡ true) other.2 (kept.shape.sound.sets other.0 other.1).unit

  -- a live segment has from one byte to a segment's
  pub live_sized : (unit : List ℕ) (s : NewSegment) → Contains (live_on unit l.live) s → (1 ≤ s.length) × (s.length ≤ segment_of unit l.outline)
  live_sized unit s among =
      let one = in_mapped (λ (t : LiveSlot). t.segment) (filter (λ t. bytes_eq t.unit unit) l.live) s among in
      let there = in_filtered (λ (t : LiveSlot). bytes_eq t.unit unit) l.live one.0 one.1 in
      let live = kept.live one.0 there.0 in
      subst (λ (t : NewSegment). (1 ≤ t.length) × (t.length ≤ segment_of unit l.outline)) one.2 (live.some, subst (λ (name : List ℕ). one.0.segment.length ≤ segment_of name l.outline) (text_is one.0.unit unit there.1) live.size)

  -- two units of the book with one number are one
  pub number_own : (a b : List ℕ) → has unit_name a units ≡ true → has unit_name b units ≡ true → (unit_at a l.outline.site.book).number ≡ (unit_at b l.outline.site.book).number → bytes_eq a b ≡ true
  number_own a b a_there b_there same =
      let u = some_named unit_name a units a_there in
      let v = some_named unit_name b units b_there in
      let u_found = found_named unit_name a units u.0 u.1 in
      let v_found = found_named unit_name b units v.0 v.1 in
      let number : u.0.number ≡ v.0.number = sym (ap (λ (o : Option StorageUnit). (unwrap_or o disk0).number) u.1) ∙ same ∙ ap (λ (o : Option StorageUnit). (unwrap_or o disk0).number) v.1 in
      let named_so : Some u.0.name ≡ Some v.0.name = sym (own_set u.0 u_found.1) ∙ ap (λ (n : ℕ). option_map (λ (set : Stored). set.unit) (slice_get l.outline.stored n)) number ∙ own_set v.0 v_found.1 in
      let name : u.0.name ≡ v.0.name = cc named_so in
      (bytes_eq-Decides a b).1 (sym u_found.0 ∙ name ∙ v_found.0)

  -- a unit that isn't in the book has no live slots
  pub none_live : (unit : List ℕ) → has unit_name unit units ≡ false → live_on unit l.live ≡ []
  none_live unit absent = nothing (live_on unit l.live) (λ s among.
      let one = in_mapped (λ (t : LiveSlot). t.segment) (filter (λ t. bytes_eq t.unit unit) l.live) s among in
      let there = in_filtered (λ (t : LiveSlot). bytes_eq t.unit unit) l.live one.0 one.1 in
      false≢true (sym absent ∙ subst (λ (name : List ℕ). has unit_name name units ≡ true) (text_is one.0.unit unit there.1) (kept.live one.0 there.0).unit))

  -- its segments have some bytes
  pub some_segment : (unit : List ℕ) → has unit_name unit units ≡ true → 1 ≤ segment_of unit l.outline
  some_segment unit there =
      let u = some_named unit_name unit units there in
      let sized = (kept.shape.sound.site.units u.0 (found_named unit_name unit units u.0 u.1).1).segment.0 in
      subst (λ (v : StorageUnit). 1 ≤ v.segment) (sym (ap (λ (o : Option StorageUnit). unwrap_or o disk0) u.1)) (omega (arith, sized))
